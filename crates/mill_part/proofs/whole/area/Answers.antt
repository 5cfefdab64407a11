use Rattle.std.proofs.Common.{◌^◌, [], ◌∷◌, refl}
use mir.Syntax.{w64}
use Rattle.mill_base.proofs.Machine.{Read, Prod, exact, stays}
use Rattle.mill_part.proofs.whole.area.Goals as goal

pub returns-clause-value : goal.returns-clause-value
returns-clause-value c =
    exact (c.args.a ∷ c.args.b ∷ []) (2 ^ 20 ∷ 2 ^ 20 ∷ []) (Prod w64 (Read w64 0) (Read w64 1)) (c.requires.a_ok.within, (c.requires.b_ok.within, tt)) refl

pub returns-clause-bound : goal.returns-clause-bound
returns-clause-bound c = record {
  within = stays (c.args.a ∷ c.args.b ∷ []) (2 ^ 20 ∷ 2 ^ 20 ∷ []) (Prod w64 (Read w64 0) (Read w64 1)) (2 ^ 40) (c.requires.a_ok.within, (c.requires.b_ok.within, tt)) refl;
}
