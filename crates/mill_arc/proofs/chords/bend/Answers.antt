use Rattle.std.proofs.Common.{◌≡◌, w64, to_z, of_z, arith}
use Rattle.std.specs.Prelude.{ℤ, ◌*ℤ◌}
use Rattle.std.proofs.lemmas.Int.{ints}
use Rattle.mill_base.specs.Numbers.{Within}
use Rattle.mill_arc.proofs.chords.bend.Goals as goal

small : (z : ℤ) → Within 4294967296 z → to_z w64 (of_z w64 z) ≡ z
small z h = let b = h.within in omega (arith, ints)

pub returns : goal.returns
returns c =
    let e : c.product.result ≡ c.args.from.radius *ℤ c.args.to.radius = rw (small c.args.from.radius c.requires.from_ok, small c.args.to.radius c.requires.to_ok) at c.product.ensures.value in
    let one = c.product.ensures.bound.within in
    let two = c.requires.onward_ok.within in
    rw (← e) (omega (arith, ints))
