use Rattle.std.proofs.Common.{◌≡◌, IsTrue, sym, w64, arith, subst}
use Rattle.std.specs.Prelude.{ℤ, pos, ◌-ℤ◌}
use Rattle.std.proofs.lemmas.Int.{ints}
use Rattle.mill_base.specs.Contact.{Holds}
use Rattle.mill_base.specs.Cutters.{Inside}
use Rattle.mill_base.specs.Points.{point_at}
use Rattle.mill_base.specs.declared.points.Pt3.{Pt3}
use Rattle.mill_base.specs.declared.cutter.Cutter.{Cutter}
use Rattle.mill_base.specs.declared.limits.TheConstants.{MAX_RADIUS}
use Rattle.mill_base.proofs.Machine.{stored}
use Rattle.mill_shape.proofs.CutHeights.{cutter_is_wide, holds_whole}
use Rattle.mill_dexel.proofs.cut.holds.Goals as goal

pub inside-requires-clause-cutter_ok : goal.inside-requires-clause-cutter_ok
inside-requires-clause-cutter_ok c = cutter_is_wide c.args.sample.cutter MAX_RADIUS (omega (arith, ints)) c.requires.sample_ok.cutter_ok

-- a whole point is held where its offset is inside
same_place : (cutter : Cutter) (tip : Pt3) (x y z a b c : ℤ) → a ≡ x -ℤ tip.x → b ≡ y -ℤ tip.y → c ≡ z -ℤ tip.z
    → Inside cutter (pos 1) (point_at a b c) ≡ Holds cutter (pos 1) tip (pos 1) (point_at x y z)
same_place cutter tip x y z a b c a_is b_is c_is = rw (a_is, b_is, c_is) (sym (holds_whole cutter tip x y z))

pub returns : goal.returns
returns c =
    let o = c.args in
    subst (λ (t : Type 0). (IsTrue c.inside.result → t) × (t → IsTrue c.inside.result))
    (same_place o.sample.cutter o.sample.tip o.x o.y o.z (stored w64 c.offset.result) (stored w64 c.offset-2.result) (stored w64 c.offset-3.result) (omega (arith, ints)) (omega (arith, ints)) (omega (arith, ints)))
    c.inside.ensures
