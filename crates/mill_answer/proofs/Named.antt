-- What the verifier's clauses say of its verdict, in one.
use Rattle.std.proofs.Common.{◌≡◌, ℕ, ℤ, List, refl, subst}
use Rattle.mill_base.specs.declared.points.Tri.{Tri}
use Rattle.mill_base.specs.declared.motion.Move.{Move}
use Rattle.mill_job.specs.declared.fields.JobFields.{JobFields}
use Rattle.mill_dexel.specs.Tops.{Stock, uncut}
use Rattle.mill_verify.specs.Claims.{CutsSafely}
use Rattle.mill_verify.specs.Verdicts.{IsRejectionOn, IsVerdict, NamesLeaf}
use Rattle.mill_verify.specs.declared.verdict.Verdict.{Verdict}
use Rattle.mill_verify.specs.declared.verdict.Verdict.TheVariants.{Accept, Reject}
use Rattle.mill_verify.specs.declared.verdict.Reason.{Reason}
use Rattle.mill_verify.specs.declared.verdict.Reason.TheVariants.{Floor, Gouge, Holder, Fixture, HolderFixture, Rapid, Cut, HolderStock, Left}
use Rattle.mill_answer.specs.Verify.{IsNamed, IsSafe, NamesMove}

module _ (job : JobFields) (part : List Tri) (moves : List Move) where
  pub is_safe : (v : Verdict) → ((count columns : ℕ) (left : ℤ) → v ≡ Accept count columns left → CutsSafely job part moves) → IsSafe job part moves v
  is_safe (Accept count columns left) safe = safe count columns left refl
  is_safe (Reject reason) safe = tt

  pub is_named : (v : Verdict) → ((reason : Reason) → v ≡ Reject reason → NamesLeaf job part (uncut job) moves reason) → IsNamed job part moves v
  is_named (Accept count columns left) blocked = tt
  is_named (Reject reason) blocked = blocked reason refl

-- all of it, of moves that are the same
pub record IsTold (job : JobFields) (part : List Tri) (moves : List Move) (v : Verdict) : Type 0 where
  pub is : IsVerdict job part moves v
  pub safe : IsSafe job part moves v
  pub named : IsNamed job part moves v

pub told : (job : JobFields) (part : List Tri) (moves read : List Move) (v : Verdict) → read ≡ moves → IsVerdict job part read v
    → ((count columns : ℕ) (left : ℤ) → v ≡ Accept count columns left → CutsSafely job part read)
    → ((reason : Reason) → v ≡ Reject reason → NamesLeaf job part (uncut job) read reason) → IsTold job part moves v
told job part moves read v same is safe blocked =
    subst (λ (x : List Move). IsTold job part x v) same
    (record { is = is; safe = is_safe job part read v safe; named = is_named job part read v blocked })

-- the move that a rejection shows the height of is there
pub move_there : (job : JobFields) (part : List Tri) (start : Stock) (moves : List Move) (reason : Reason) → IsRejectionOn job part start moves reason → NamesMove moves reason
move_there job part start moves (Floor k) r = r.there
move_there job part start moves (Gouge k t leaf) r = tt
move_there job part start moves (Holder k t leaf) r = tt
move_there job part start moves (Fixture k b leaf) r = tt
move_there job part start moves (HolderFixture k b leaf) r = tt
move_there job part start moves (Rapid k j i leaf) r = tt
move_there job part start moves (Cut k j i leaf) r = tt
move_there job part start moves (HolderStock k j i leaf) r = tt
move_there job part start moves (Left j i top) r = tt
