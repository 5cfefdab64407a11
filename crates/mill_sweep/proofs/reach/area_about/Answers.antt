use Rattle.std.proofs.Common.{◌≡◌, ◌∙◌, refl, w32}
use lib.IntN.{ℤ}
use Rattle.mill_base.proofs.Machine.{stored, kept}
use Rattle.mill_base.specs.Numbers.{Within}
use Rattle.mill_base.specs.declared.limits.TheConstants.{MAX_COORDINATE}
use Rattle.mill_cells.proofs.BoxLemmas.{same_box}
use Rattle.mill_sweep.specs.Reach.{low_side_of, high_side_of}
use Rattle.mill_sweep.proofs.reach.area_about.Goals as goal

kept_in : (z : ℤ) → Within MAX_COORDINATE z → stored w32 z ≡ z
kept_in z h = kept w32 z MAX_COORDINATE h.within refl

module _ (side : ℤ → ℤ → ℤ → ℤ) (r f t m g : ℤ) (f_ok : Within MAX_COORDINATE f) (t_ok : Within MAX_COORDINATE t) (m_ok : Within MAX_COORDINATE m) where
  side_is : m ≡ g → r ≡ side (stored w32 f) (stored w32 t) (stored w32 m) → Within MAX_COORDINATE r → stored w32 r ≡ side f t g
  side_is same e ok = kept_in r ok ∙ (e ∙ parts (kept_in f f_ok) (kept_in t t_ok) (kept_in m m_ok ∙ same))
    where
      parts : stored w32 f ≡ f → stored w32 t ≡ t → stored w32 m ≡ g → side (stored w32 f) (stored w32 t) (stored w32 m) ≡ side f t g
      parts p q s = cc

pub returns : goal.returns
returns c =
    let m = c.args.step.now in
    let from = c.requires.move_ok.from_ok in
    let to = c.requires.move_ok.to_ok in
    let margin = c.margin-margin.ensures in
    same_box _ _ _ _ _ _ _ _
    (side_is low_side_of c.low_side.result m.from.x m.to.x c.margin-margin.result _ from.x_ok to.x_ok margin.bound margin.value c.low_side.ensures.value c.low_side.ensures.bound)
    (side_is low_side_of c.low_side-2.result m.from.y m.to.y c.margin-margin.result _ from.y_ok to.y_ok margin.bound margin.value c.low_side-2.ensures.value c.low_side-2.ensures.bound)
    (side_is high_side_of c.high_side.result m.from.x m.to.x c.margin-margin.result _ from.x_ok to.x_ok margin.bound margin.value c.high_side.ensures.value c.high_side.ensures.bound)
    (side_is high_side_of c.high_side-2.result m.from.y m.to.y c.margin-margin.result _ from.y_ok to.y_ok margin.bound margin.value c.high_side-2.ensures.value c.high_side-2.ensures.bound)
