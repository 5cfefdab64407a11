-- What is said of a rejection is said of the one that is told.
use Rattle.std.specs.Prelude.{◌≡◌, ℕ}
use Rattle.std.proofs.Common.{subst}
use Rattle.mill_verify.specs.declared.list.ListVerdict.{ListVerdict}
use Rattle.mill_verify.specs.declared.list.ListVerdict.TheVariants as list
use Rattle.mill_verify.specs.declared.verdict.Reason.{Reason}

abbrev of_rejection : (ℕ → Reason → Type 0) → ListVerdict → Type 0
of_rejection P (list.Accept count moves columns left) = Unit {0}
of_rejection P (list.Reject f reason) = P f reason
of_rejection P (list.Left j i top) = Unit {0}

pub as_rejected : (P : ℕ → Reason → Type 0) (f g : ℕ) (r s : Reason) → list.Reject f r ≡ list.Reject g s → P f r → P g s
as_rejected P f g r s e p = subst (of_rejection P) e p
