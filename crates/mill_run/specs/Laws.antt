-- The law that a request has one answer, where its files are told.
use Rattle.std.specs.Prelude.{◌≡◌, ℕ, List, All, Option, IsSome}
use Rattle.mill_command.specs.Requests.{Request, verify, plan, drop, level, stock, rest, sample}
use Rattle.mill_job.specs.declared.fields.JobFields.{JobFields}
use Rattle.mill_job.specs.declared.step.Step.{Step}
use Rattle.mill_load.specs.Setup.{AreSetupTold, ReadsJob, setup_texts}
use Rattle.mill_run.specs.Answers.{Answer, IsAnswer}
use Rattle.mill_run.specs.Rest.{ReadsList, RestTexts, rest_texts}
use Rattle.mill_run.specs.Stock.{AreStockTold, stock_texts}
use Rattle.mill_answer.specs.Verify.{AreTold, texts_of}

-- job, part and list are told, and the program of each step that the list reads as
pub record IsListTold (texts : RestTexts) : Type 0 where
  pub setup : AreSetupTold texts.setup
  pub list : IsSome texts.list
  pub programs : (job : JobFields) (steps : List Step) → ReadsJob texts.setup job → ReadsList texts job steps → All (λ step. IsSome (texts.programs step.program)) steps

-- each file that a request names is told, and each that its list names
abbrev pub AreFilesTold : (List ℕ → Option (List ℕ)) → Request → Type 0
AreFilesTold contents (verify job part program workers) = AreTold (texts_of contents (record { job = job; part = part; program = program }))
AreFilesTold contents (plan job part out workers) = AreSetupTold (setup_texts contents job part)
AreFilesTold contents (drop job part x y) = AreSetupTold (setup_texts contents job part)
AreFilesTold contents (level job part z) = AreSetupTold (setup_texts contents job part)
AreFilesTold contents (stock job program out) = AreStockTold (stock_texts contents job program)
AreFilesTold contents (rest job part list workers) = IsListTold (rest_texts contents (record { job = job; part = part; list = list }))
AreFilesTold contents (sample n workers) = Unit {0}

-- two answers to one request on the same files are one: so their statuses, lines and stored texts are
abbrev pub OneAnswer : Type 0
OneAnswer = (contents : List ℕ → Option (List ℕ)) (asked : Request) (a b : Answer) → AreFilesTold contents asked → IsAnswer contents asked a → IsAnswer contents asked b → a ≡ b
