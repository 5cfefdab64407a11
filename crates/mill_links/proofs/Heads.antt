-- With what a program begins, by where it may start.
use Rattle.std.specs.Prelude.{◌≡◌, Bool, true, false, if◌then◌else◌, List, [], ◌∷◌, ◌++◌}
use Rattle.std.proofs.Common.{sym, ap, ◌∙◌}
use Rattle.std.proofs.lemmas.List.{append-nil}
use Rattle.mill_base.specs.declared.motion.Move.{Move}
use Rattle.mill_job.specs.Columns.{home}
use Rattle.mill_job.specs.Habits.{is_elsewhere}
use Rattle.mill_job.specs.declared.fields.JobFields.{JobFields}
use Rattle.mill_links.specs.Links.{head, stay}

pub head_if : (job : JobFields) (b : Bool) → is_elsewhere job.start ≡ b → head job ≡ (if b then stay (home job) ∷ stay (home job) ∷ [] else [])
unfolding head
head_if job b is = ap (λ (t : Bool). if t then stay (home job) ∷ stay (home job) ∷ [] else []) is

-- over home it adds nothing, and elsewhere two moves
pub adds_none : (job : JobFields) (old : List Move) → is_elsewhere job.start ≡ false → old ≡ old ++ head job
adds_none job old is = sym (ap (λ (ms : List Move). old ++ ms) (head_if job false is) ∙ append-nil old)

pub adds_two : (job : JobFields) (old new : List Move) (m : Move) → is_elsewhere job.start ≡ true → m ≡ stay (home job) → new ≡ old ++ m ∷ m ∷ [] → new ≡ old ++ head job
adds_two job old new m is waits added = added ∙ ap (λ (s : Move). old ++ s ∷ s ∷ []) waits ∙ ap (λ (ms : List Move). old ++ ms) (sym (head_if job true is))
