-- A number within one of this crate's widths is stored as it is.
use Rattle.std.specs.Prelude.{◌≡◌, ℤ}
use Rattle.std.proofs.Common.{refl}
use mir.Syntax.{w64, w128}
use Rattle.mill_base.proofs.Machine.{stored, kept}
use Rattle.mill_base.specs.Numbers.{Within}
use Rattle.mill_contact_ball.specs.inner.Widths.{most_form, most_size, most_place}

pub form_kept : (x : ℤ) → Within most_form x → stored w64 x ≡ x
form_kept x h = kept w64 x most_form h.within refl

pub dot_kept : (x : ℤ) → Within most_size x → stored w128 x ≡ x
dot_kept x h = kept w128 x most_size h.within refl

pub weighed_kept : (x : ℤ) → Within most_place x → stored w128 x ≡ x
weighed_kept x h = kept w128 x most_place h.within refl
