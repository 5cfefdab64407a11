use Rattle.std.proofs.Common.{◌^◌, ◌≤◌, [], ◌∷◌, refl, sym, ap, ◌∙◌, subst}
use Rattle.std.specs.Prelude.{nat_abs}
use mir.Syntax.{w64}
use lib.IntN.{◌*ℤ◌}
use Rattle.mill_base.proofs.Machine.{Read, Prod, exact, stays}
use Rattle.mill_base.proofs.Ranges.{coordinate}
use Rattle.mill_part.proofs.whole.weighted.Goals as goal

pub returns-clause-value : goal.returns-clause-value
returns-clause-value c =
    let from = c.from.ensures ∙ coordinate c.args.z c.requires.z_ok in
    let z_ok = subst (λ t. nat_abs t ≤ 524287) (sym from) c.requires.z_ok.within in
    exact (c.args.weight ∷ c.from.result ∷ []) (2 ^ 41 ∷ 524287 ∷ []) (Prod w64 (Read w64 0) (Read w64 1)) (c.requires.weight_ok.within, (z_ok, tt)) refl
    ∙ ap (λ t. c.args.weight *ℤ t) from

pub returns-clause-bound : goal.returns-clause-bound
returns-clause-bound c =
    let from = c.from.ensures ∙ coordinate c.args.z c.requires.z_ok in
    let z_ok = subst (λ t. nat_abs t ≤ 524287) (sym from) c.requires.z_ok.within in
    record {
      within = stays (c.args.weight ∷ c.from.result ∷ []) (2 ^ 41 ∷ 524287 ∷ []) (Prod w64 (Read w64 0) (Read w64 1)) (2 ^ 60) (c.requires.weight_ok.within, (z_ok, tt)) refl;
    }
