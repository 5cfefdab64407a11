use Rattle.std.proofs.Common.{◌∙◌, ◌^◌, ◌≤◌, [], ◌∷◌, refl, sym, ap, subst, w32, w64, nat_abs, pos, neg_ℤ, ◌-ℤ◌, FitsSigned}
use Rattle.mill_base.proofs.Machine.{Read, Lit, Diff, Cast, exact, cast_fits, stays, stored}
use Rattle.mill_base.specs.Numbers.{floor_div}
use Rattle.mill_base.specs.declared.limits.TheConstants.{MAX_COORDINATE}
use Rattle.mill_dexel.proofs.Splits.{up_is, up_within, turned_is}
use Rattle.mill_dexel.proofs.sample.rounded_up.Goals as goal

pub overflow_cast-result-2 : goal.overflow_cast-result-2
overflow_cast-result-2 c =
    subst (λ t. FitsSigned w32 (stored w64 (pos 0 -ℤ stored w64 t))) (sym (up_is c.args.end c.args.d c.requires.end_ok))
    (cast_fits w32 (floor_div (neg_ℤ c.args.end) (2 ^ c.args.d) ∷ []) (MAX_COORDINATE ∷ []) (Diff w64 (Lit (pos 0)) (Read w64 0)) (up_within c.args.end c.args.d c.requires.end_within, tt) refl)

pub returns-clause-value : goal.returns-clause-value
returns-clause-value c =
    ap (λ t. stored w32 (stored w64 (pos 0 -ℤ stored w64 t))) (up_is c.args.end c.args.d c.requires.end_ok)
    ∙ exact (floor_div (neg_ℤ c.args.end) (2 ^ c.args.d) ∷ []) (MAX_COORDINATE ∷ []) (Cast w32 (Diff w64 (Lit (pos 0)) (Read w64 0))) (up_within c.args.end c.args.d c.requires.end_within, tt) refl
    ∙ turned_is (floor_div (neg_ℤ c.args.end) (2 ^ c.args.d))

pub returns-clause-bound : goal.returns-clause-bound
returns-clause-bound c = record {
  within = subst (λ t. nat_abs (stored w32 (stored w64 (pos 0 -ℤ stored w64 t))) ≤ MAX_COORDINATE) (sym (up_is c.args.end c.args.d c.requires.end_ok))
      (stays (floor_div (neg_ℤ c.args.end) (2 ^ c.args.d) ∷ []) (MAX_COORDINATE ∷ []) (Cast w32 (Diff w64 (Lit (pos 0)) (Read w64 0))) MAX_COORDINATE (up_within c.args.end c.args.d c.requires.end_within, tt) refl);
}
