use Rattle.std.proofs.Common.{ℕ, List, [], ◌∷◌, refl, w64}
use mir.Syntax.{w128}
use lib.IntN.{ℤ}
use Rattle.mill_base.specs.Numbers.{Within}
use Rattle.mill_geom.specs.Widths.{most_form, farthest, widest}
use Rattle.mill_geom.specs.Offsets.{PlanInRange}
use Rattle.mill_geom.specs.declared.offset.Offset.{Offset}
use Rattle.mill_base.proofs.Range.{Bounded}
use Rattle.mill_base.proofs.Machine.{X, Read, Cast, Sum, Diff, Prod, exact, sum_fits, diff_fits, stays}
use Rattle.mill_geom.proofs.segment.form.Goals as goal

abbrev wide : ℕ → X
wide i = Cast w128 (Read w64 i)

abbrev bs : List ℕ
bs = farthest ∷ farthest ∷ farthest ∷ farthest ∷ widest ∷ []

abbrev ρ : Offset → Offset → ℤ → List ℤ
ρ p q r = p.x ∷ q.x ∷ p.y ∷ q.y ∷ r ∷ []

in_range : (p q : Offset) (r : ℤ) → PlanInRange p → PlanInRange q → Within widest r → Bounded (ρ p q r) bs
in_range p q r hp hq hr = (hp.x_ok.within, (hq.x_ok.within, (hp.y_ok.within, (hq.y_ok.within, (hr.within, tt)))))

abbrev xx : X
xx = Prod w128 (wide 0) (wide 1)

abbrev yy : X
yy = Prod w128 (wide 2) (wide 3)

abbrev rr : X
rr = Prod w128 (wide 4) (wide 4)

pub overflow_add-result : goal.overflow_add-result
overflow_add-result c = sum_fits w128 (ρ c.args.p c.args.q c.args.radius) bs xx yy (in_range _ _ _ c.requires.p_ok c.requires.q_ok c.requires.r_ok) refl

pub overflow_sub-result : goal.overflow_sub-result
overflow_sub-result c = diff_fits w128 (ρ c.args.p c.args.q c.args.radius) bs (Sum w128 xx yy) rr (in_range _ _ _ c.requires.p_ok c.requires.q_ok c.requires.r_ok) refl

pub returns-clause-value : goal.returns-clause-value
returns-clause-value c = exact (ρ c.args.p c.args.q c.args.radius) bs (Diff w128 (Sum w128 xx yy) rr) (in_range _ _ _ c.requires.p_ok c.requires.q_ok c.requires.r_ok) refl

pub returns-clause-bound : goal.returns-clause-bound
returns-clause-bound c = record { within = stays (ρ c.args.p c.args.q c.args.radius) bs (Diff w128 (Sum w128 xx yy) rr) most_form (in_range _ _ _ c.requires.p_ok c.requires.q_ok c.requires.r_ok) refl }
