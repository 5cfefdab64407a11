use Rattle.std.specs.Prelude.{◌≡◌, [], ◌∷◌}
use Rattle.std.proofs.Common.{inl, inr, refl, subst, arith}
use Rattle.std.proofs.lemmas.Bool.{cases_lt}
use Rattle.mill_base.specs.declared.motion.Move.{Move}
use Rattle.mill_verify.specs.Tests.{IsOverFloor}
use Rattle.mill_verify.proofs.ReadLemmas.{at_move}
use Rattle.mill_verify.proofs.floor.floor_end.Goals as goal

pub loop-number-preserved : goal.loop-number-preserved
loop-number-preserved c k under =
    let n = c.loop-number.number in
    let alone = at_move (λ (m : Move). IsOverFloor c.args.job.now.fields (m ∷ []) 0) c.args.moves.now n _ c.loop-number-test.true (c.if-not-is_over_floor.ensures.yes refl) in
    elim (cases_lt k n) [
      | inl less ↦ c.loop-number.invariant k less
      | inr rest ↦
          let same : n ≡ k = omega (rest, under, arith) in
          subst (IsOverFloor c.args.job.now.fields c.args.moves.now) same (record { start = alone.start; end = alone.«end» })
    ]
