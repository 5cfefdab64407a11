-- What the findings and the columns left have to do with the verdict.
use Rattle.std.specs.Prelude.{◌≡◌, ℕ, ◌*◌, ℤ, List, [], ◌∷◌, length}
use Rattle.mill_base.specs.declared.points.Tri.{Tri}
use Rattle.mill_base.specs.declared.motion.Move.{Move}
use Rattle.mill_job.specs.declared.fields.JobFields.{JobFields}
use Rattle.mill_job.specs.Columns.{column_count, row_count}
use Rattle.mill_dexel.specs.Tops.{Stock, stock_after, uncut}
use Rattle.mill_verify.specs.Verdicts.{IsMostLeftOn, IsOfMove, IsVerdict}
use Rattle.mill_verify.specs.declared.verdict.Reason.{Reason}
use Rattle.mill_verify.specs.declared.verdict.Reason.TheVariants.{Left}
use Rattle.mill_verify.specs.declared.verdict.Verdict.TheVariants.{Accept, Reject}
use Rattle.mill_report.specs.Columns.{AreLeft, IsShownLeft}
use Rattle.mill_report.specs.Findings.{AreFindings}
use Rattle.mill_report.specs.declared.left.LeftColumn.{LeftColumn}

-- a job, a part and a list of moves have one list of findings
abbrev pub OneList : Type 0
OneList = (job : JobFields) (part : List Tri) (moves : List Move) (a b : List Reason) → AreFindings job part moves a → AreFindings job part moves b → a ≡ b

-- and a stock has one list of columns left too high, as it is shown and counted
abbrev pub OneLeft : Type 0
OneLeft = (job : JobFields) (part : List Tri) (stock : Stock) (a b : List LeftColumn) (n m : ℕ)
    → IsShownLeft job part stock a n → IsShownLeft job part stock b m → (a ≡ b) × (n ≡ m)

-- the verdict on a program that has findings rejects it for the first
abbrev pub FirstIsVerdict : Type 0
FirstIsVerdict = (job : JobFields) (part : List Tri) (moves : List Move) (reason : Reason) (rest : List Reason)
    → AreFindings job part moves (reason ∷ rest) → IsVerdict job part moves (Reject reason)

-- and one that rejects a program for a move has that for the first finding
abbrev pub VerdictIsFirst : Type 0
VerdictIsFirst = (job : JobFields) (part : List Tri) (moves : List Move) (reason : Reason) (found : List Reason)
    → AreFindings job part moves found → IsOfMove reason → IsVerdict job part moves (Reject reason) → (rest : List Reason) × (found ≡ reason ∷ rest)

-- the verdict on a program without findings that leaves columns too high rejects it for the first of these
abbrev pub FirstLeftIsVerdict : Type 0
FirstLeftIsVerdict = (job : JobFields) (part : List Tri) (moves : List Move) (first : LeftColumn) (rest : List LeftColumn)
    → AreFindings job part moves [] → AreLeft job part (stock_after job (uncut job) moves) (first ∷ rest)
    → IsVerdict job part moves (Reject (Left first.row first.col first.top))

-- one without findings that leaves no column too high is accepted, whatever the most is that it leaves
abbrev pub NothingIsAccepted : Type 0
NothingIsAccepted = (job : JobFields) (part : List Tri) (moves : List Move) (most : ℤ)
    → AreFindings job part moves [] → AreLeft job part (stock_after job (uncut job) moves) []
    → IsMostLeftOn job part (stock_after job (uncut job) moves) most
    → IsVerdict job part moves (Accept (length moves) (row_count job * column_count job) most)

-- and one that is accepted has no finding and leaves no column too high
abbrev pub AcceptedHasNothing : Type 0
AcceptedHasNothing = (job : JobFields) (part : List Tri) (moves : List Move) (count columns : ℕ) (most : ℤ) (found : List Reason) (left : List LeftColumn)
    → AreFindings job part moves found → AreLeft job part (stock_after job (uncut job) moves) left
    → IsVerdict job part moves (Accept count columns most) → (found ≡ []) × (left ≡ [])
