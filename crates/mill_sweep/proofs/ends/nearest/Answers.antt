use Rattle.std.proofs.Common.{◌∙◌, ◌^◌, ◌≤◌, [], ◌∷◌, refl, sym, ap, subst, w32, w64, nat_abs, FitsSigned}
use Rattle.mill_base.proofs.Machine.{Read, Cast, exact, cast_fits, stored}
use Rattle.mill_base.specs.Numbers.{round_half_up}
use Rattle.mill_base.specs.declared.limits.TheConstants.{MAX_COORDINATE}
use Rattle.mill_sweep.proofs.Computed.{nearest_is, nearest_within}
use Rattle.mill_sweep.proofs.ends.nearest.Goals as goal

pub overflow_cast-result-3 : goal.overflow_cast-result-3
overflow_cast-result-3 c =
    let is = nearest_is c.args.end c.args.d c.power_of_two.result c.requires.end_ok c.requires.d_ok c.power_of_two.ensures in
    let within = nearest_within c.args.end c.args.d c.requires.end_ok in
    subst (λ t. FitsSigned w32 (stored w64 t)) (sym is) (cast_fits w32 (round_half_up c.args.end (2 ^ c.args.d) ∷ []) (MAX_COORDINATE ∷ []) (Read w64 0) (within, tt) refl)

pub returns-clause-value : goal.returns-clause-value
returns-clause-value c =
    let is = nearest_is c.args.end c.args.d c.power_of_two.result c.requires.end_ok c.requires.d_ok c.power_of_two.ensures in
    let within = nearest_within c.args.end c.args.d c.requires.end_ok in
    ap (λ t. stored w32 (stored w64 t)) is ∙ exact (round_half_up c.args.end (2 ^ c.args.d) ∷ []) (MAX_COORDINATE ∷ []) (Cast w32 (Read w64 0)) (within, tt) refl

pub returns-clause-bound : goal.returns-clause-bound
returns-clause-bound c = record { within = subst (λ t. nat_abs t ≤ MAX_COORDINATE) (sym (returns-clause-value c)) (nearest_within c.args.end c.args.d c.requires.end_ok) }
