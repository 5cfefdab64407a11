use Rattle.mill_words.proofs.Numbers.{wider}
use Rattle.mill_words.proofs.stage.finish.Goals as goal

pub push-requires-clause-fits : goal.push-requires-clause-fits
push-requires-clause-fits c =
    let fits = rw c.in-InWord.is at c.requires in
    wider c.in-InWord.word.digits c.in-InWord.word.num fits.fits.few fits.fits.num
