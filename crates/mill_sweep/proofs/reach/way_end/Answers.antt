use Rattle.std.proofs.Common.{[], ◌∷◌, ◌∙◌, refl, sym, w32, arith}
use Rattle.std.specs.Prelude.{ℤ, pos, nat_abs, ◌≤◌, ◌≤ℤ◌}
use Rattle.std.proofs.lemmas.Int.{ints}
use Rattle.mill_base.proofs.Machine.{Read, Sum, exact, sum_fits}
use Rattle.mill_base.specs.declared.limits.TheConstants.{LOWEST_LIFT, MAX_COORDINATE}
use Rattle.mill_sweep.proofs.Solids.{low_end_lifted}
use Rattle.mill_sweep.proofs.reach.way_end.Goals as goal

-- a lift is no longer than a coordinate
small : (s : ℤ) → LOWEST_LIFT ≤ℤ s → s ≤ℤ pos MAX_COORDINATE → nat_abs s ≤ MAX_COORDINATE
small s least within = omega (least, within, arith, ints)

pub overflow_add-result : goal.overflow_add-result
overflow_add-result c =
    let s = c.args.solid.lift in
    let lift = rw (c.lift.ensures.value) at c.lift.ensures.in_range in
    rw (c.lift.ensures.value)
    (sum_fits w32 (c.lower_end.result ∷ s ∷ []) (MAX_COORDINATE ∷ MAX_COORDINATE ∷ []) (Read w32 0) (Read w32 1) (c.lower_end.ensures.bound.within, (small s lift.least lift.within, tt)) refl)

pub returns-clause-value : goal.returns-clause-value
returns-clause-value c =
    let s = c.args.solid.lift in
    let lift = rw (c.lift.ensures.value) at c.lift.ensures.in_range in
    rw (c.lift.ensures.value)
    (exact (c.lower_end.result ∷ s ∷ []) (MAX_COORDINATE ∷ MAX_COORDINATE ∷ []) (Sum w32 (Read w32 0) (Read w32 1)) (c.lower_end.ensures.bound.within, (small s lift.least lift.within, tt)) refl
    ∙ (rw (c.lower_end.ensures.value) refl ∙ sym (low_end_lifted c.args.solid c.args.step.now)))

pub returns-clause-lift_ok : goal.returns-clause-lift_ok
returns-clause-lift_ok c = rw (c.lift.ensures.value) at c.lift.ensures.in_range
