-- What a place has beside its units, by the text's own numbers.
use Rattle.std.specs.Prelude.{◌≡◌, ℕ, ℤ, ◌+ℤ◌, ◌*ℤ◌, Option, Some, None}
use Rattle.mill_base.specs.declared.points.Pt3.{Pt3}
use Rattle.mill_words.specs.declared.word.Num.{Num}
use Rattle.mill_control.specs.Unrounded.{finer, parts}
use Rattle.mill_block.specs.declared.machine.Finer.{Finer}

-- a coordinate's: that of the number of its axis, or of the present point
abbrev pub finer_or : ℕ → ℤ → Option Num → ℤ
finer_or per here None = here
finer_or per here (Some n) = finer per n

-- with it the place is this one
pub record IsExactly (f : Finer) (here t : Pt3) : Type 0 where
  pub x_is : ((parts *ℤ here.x) +ℤ f.x) ≡ t.x
  pub y_is : ((parts *ℤ here.y) +ℤ f.y) ≡ t.y
  pub z_is : ((parts *ℤ here.z) +ℤ f.z) ≡ t.z
