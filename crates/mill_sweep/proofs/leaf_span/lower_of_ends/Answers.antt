use Rattle.std.proofs.Common.{◌∙◌, ◌^◌, [], ◌∷◌, refl, w32, w64}
use Rattle.mill_base.proofs.Machine.{Read, Cast, exact, cast_fits, kept, stays}
use Rattle.mill_base.specs.Numbers.{floor_div}
use Rattle.mill_sweep.proofs.Computed.{lower_is, shift_is}
use Rattle.mill_sweep.specs.Widths.{highest_end, highest_tip}
use Rattle.mill_sweep.proofs.leaf_span.lower_of_ends.Goals as goal

pub overflow_cast-result-2 : goal.overflow_cast-result-2
overflow_cast-result-2 c =
    let low = lower_is c.args.ends.first c.args.ends.last c.min.result c.args.d c.requires.first_ok c.requires.last_ok c.requires.d_ok c.min.ensures.value in
    rw (kept w64 c.min.result highest_end low.1 refl, shift_is c.min.result (2 ^ c.args.d))
    (cast_fits w32 (floor_div c.min.result (2 ^ c.args.d) ∷ []) (highest_tip ∷ []) (Read w64 0) (low.2, tt) refl)

pub returns-clause-value : goal.returns-clause-value
returns-clause-value c =
    let low = lower_is c.args.ends.first c.args.ends.last c.min.result c.args.d c.requires.first_ok c.requires.last_ok c.requires.d_ok c.min.ensures.value in
    rw (kept w64 c.min.result highest_end low.1 refl, shift_is c.min.result (2 ^ c.args.d))
    (exact (floor_div c.min.result (2 ^ c.args.d) ∷ []) (highest_tip ∷ []) (Cast w32 (Read w64 0)) (low.2, tt) refl ∙ low.0)

pub returns-clause-bound : goal.returns-clause-bound
returns-clause-bound c =
    let low = lower_is c.args.ends.first c.args.ends.last c.min.result c.args.d c.requires.first_ok c.requires.last_ok c.requires.d_ok c.min.ensures.value in
    rw (kept w64 c.min.result highest_end low.1 refl, shift_is c.min.result (2 ^ c.args.d))
    (record { within = stays (floor_div c.min.result (2 ^ c.args.d) ∷ []) (highest_tip ∷ []) (Cast w32 (Read w64 0)) highest_tip (low.2, tt) refl })
