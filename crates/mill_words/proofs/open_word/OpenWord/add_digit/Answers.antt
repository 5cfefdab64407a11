use Rattle.std.proofs.Common.{arith}
use Rattle.mill_words.proofs.Numbers.{below}
use Rattle.mill_words.proofs.open_word.OpenWord.add_digit.Goals as goal

pub overflow_mul-self : goal.overflow_mul-self
overflow_mul-self c = omega (arith, below c.args.self.now.digits 17 c.args.self.now.num.mant (omega arith) c.requires.fits.num.mant)

pub overflow_add-self : goal.overflow_add-self
overflow_add-self c = omega (arith, below c.args.self.now.digits 17 c.args.self.now.num.mant (omega arith) c.requires.fits.num.mant)
