-- The margins with which a program is accepted.
use Rattle.std.proofs.Common.{◌≡◌, Bool, true, false, ℕ, ap, codes, decimal, List, [], ◌∷◌, if◌then◌else◌}
use Rattle.std.specs.Prelude.{ℤ}
use Rattle.mill_base.specs.declared.unit.Unit.{Unit}
use Rattle.mill_decimal.specs.Decimals.{canonical}
use Rattle.mill_job.specs.declared.fields.JobFields.{JobFields}
use Rattle.mill_verify.specs.declared.verdict.Verdict.TheVariants.{Accept}
use Rattle.mill_answer.specs.Lines.{line}
use Rattle.mill_answer.specs.Printed.{is_exact, margin_words}
use Rattle.mill_answer.specs.Verify.{verdict_line}

abbrev told : Unit → ℤ → ℤ → List (List ℕ)
told unit overcut slack = codes "overcut" ∷ canonical unit overcut ∷ codes "slack" ∷ canonical unit slack ∷ []

-- nothing is told of none
pub no_margins : (unit : Unit) (overcut slack : ℤ) → is_exact overcut slack ≡ true → margin_words unit overcut slack ≡ []
no_margins unit overcut slack none = ap (λ (b : Bool). if b then [] else told unit overcut slack) none

-- some are told
pub some_margins : (unit : Unit) (overcut slack : ℤ) → is_exact overcut slack ≡ false → margin_words unit overcut slack ≡ told unit overcut slack
some_margins unit overcut slack some = ap (λ (b : Bool). if b then [] else told unit overcut slack) some

-- the line of an acceptance, by lengths as the machine stores them
pub accepted_line : (job : JobFields) (count columns : ℕ) (left l b a o s : ℤ) → l ≡ left → b ≡ job.band → a ≡ job.allowance → o ≡ job.overcut → s ≡ job.slack
    → line (codes "accepted" ∷ codes "moves" ∷ decimal count ∷ codes "columns" ∷ decimal columns ∷ codes "left" ∷ canonical job.unit l ∷ codes "band" ∷ canonical job.unit b ∷ codes "allowance" ∷ canonical job.unit a ∷ margin_words job.unit o s)
    ≡ verdict_line job [] (Accept count columns left)
accepted_line job count columns left l b a o s el eb ea eo es = λ t.
    line (codes "accepted" ∷ codes "moves" ∷ decimal count ∷ codes "columns" ∷ decimal columns ∷ codes "left" ∷ canonical job.unit (el t) ∷ codes "band" ∷ canonical job.unit (eb t) ∷ codes "allowance" ∷ canonical job.unit (ea t) ∷ margin_words job.unit (eo t) (es t))
