-- What the verifier's clauses say of its verdict on files in turn, in one.
use Rattle.std.proofs.Common.{◌≡◌, ℕ, ℤ, List, refl, subst}
use Rattle.mill_base.specs.declared.points.Tri.{Tri}
use Rattle.mill_job.specs.declared.fields.JobFields.{JobFields}
use Rattle.mill_verify.specs.Files.{File as CutFile, file_at, job_of, stock_before}
use Rattle.mill_verify.specs.ListClaims.{FilesCutSafely}
use Rattle.mill_verify.specs.Lists.{IsListVerdict}
use Rattle.mill_verify.specs.Verdicts.{NamesLeaf}
use Rattle.mill_verify.specs.declared.list.ListVerdict.{ListVerdict}
use Rattle.mill_verify.specs.declared.list.ListVerdict.TheVariants as list
use Rattle.mill_verify.specs.declared.verdict.Verdict.TheVariants.{Accept, Reject}
use Rattle.mill_verify.specs.declared.verdict.Reason.{Reason}
use Rattle.mill_verify.specs.declared.verdict.Reason.TheVariants.{Left}
use Rattle.mill_run.specs.Rest.{AreSafe, IsFileNamed, NamesFileMove}
use Rattle.mill_answer.proofs.Named.{move_there}

module _ (job : JobFields) (part : List Tri) (files : List CutFile) where
  pub are_safe : (v : ListVerdict) → ((count moves columns : ℕ) (left : ℤ) → v ≡ list.Accept count moves columns left → FilesCutSafely job part files) → AreSafe job part files v
  are_safe (list.Accept count moves columns left) safe = safe count moves columns left refl
  are_safe (list.Reject f reason) safe = tt
  are_safe (list.Left j i top) safe = tt

  pub is_file_named : (v : ListVerdict)
      → ((f : ℕ) (reason : Reason) → v ≡ list.Reject f reason → NamesLeaf (job_of job (file_at files f)) part (stock_before job files f) (file_at files f).moves reason) → IsFileNamed job part files v
  is_file_named (list.Accept count moves columns left) blocked = tt
  is_file_named (list.Reject f reason) blocked = blocked f reason refl
  is_file_named (list.Left j i top) blocked = tt

  pub file_there : (v : ListVerdict) → IsListVerdict job part files v → NamesFileMove files v
  file_there (list.Accept count moves columns left) h = tt
  file_there (list.Reject f reason) h = (h.there, move_there (job_of job (file_at files f)) part (stock_before job files f) (file_at files f).moves reason h.rejects)
  file_there (list.Left j i top) h = tt

-- all of it, of files that are the same
pub record AreFilesTold (job : JobFields) (part : List Tri) (files : List CutFile) (v : ListVerdict) : Type 0 where
  pub is : IsListVerdict job part files v
  pub safe : AreSafe job part files v
  pub named : IsFileNamed job part files v
  pub there : NamesFileMove files v

pub files_told : (job : JobFields) (part : List Tri) (files read : List CutFile) (v : ListVerdict) → read ≡ files → IsListVerdict job part read v
    → ((count moves columns : ℕ) (left : ℤ) → v ≡ list.Accept count moves columns left → FilesCutSafely job part read)
    → ((f : ℕ) (reason : Reason) → v ≡ list.Reject f reason → NamesLeaf (job_of job (file_at read f)) part (stock_before job read f) (file_at read f).moves reason) → AreFilesTold job part files v
files_told job part files read v same is safe blocked =
    subst (λ (x : List CutFile). AreFilesTold job part x v) same
    (record { is = is; safe = are_safe job part read v safe; named = is_file_named job part read v blocked; there = file_there job part read v is })
