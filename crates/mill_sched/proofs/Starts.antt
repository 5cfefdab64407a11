-- At the start a core keeps what it has to keep.
use Rattle.std.proofs.Common.{◌≡◌, ◌∙◌, ℕ, List, [], ◌∷◌, length, get_or, map, refl, sym, ap, subst, suc, zero, arith, inl, Option, Some, None}
use Rattle.std.specs.Prelude.{replicate}
use Rattle.std.proofs.Math.ListN.{get_or-map}
use Rattle.std.proofs.lemmas.List.{length-map}
use Rattle.mill_sched.specs.declared.piece.Task.{Task}
use Rattle.mill_sched.specs.declared.piece.Piece.{Piece}
use Rattle.mill_sched.specs.declared.worker.Worker.{Worker}
use Rattle.mill_sched.specs.declared.worker.Worker.TheVariants.{Free, Done}
use Rattle.mill_sched.specs.States.{State, Work, no_task, piece_at, start_of, tasks_given, untouched, work_of}
use Rattle.mill_sched.specs.Laws.{IsUntouched, number_of}
use Rattle.mill_sched.specs.Kept.{GoesOn, Kept}

-- no worker has a number
none_drawn : (count w n : ℕ) → number_of (get_or (replicate count Free) w Done) ≡ Some n → ⊥
none_drawn zero w n e = cc
none_drawn (suc count) zero n e = cc
none_drawn (suc count) (suc w) n e = none_drawn count w n e

-- each piece is untouched
piece_is : (work : Work) (workers n : ℕ) → piece_at (start_of work workers) n ≡ untouched (get_or work.tasks n no_task)
piece_is work workers n = get_or-map untouched work.tasks n no_task

is_untouched : (t : Task) → IsUntouched (untouched t)
is_untouched t = record { next = refl; unfailed = refl; home = refl }

untouched_goes_on : (t : Task) → GoesOn (untouched t)
untouched_goes_on t = record { from = omega arith; to = λ order. order; not_past = λ f e own. own; failed = λ e. absurd (cc) }

pub start_kept : (work : Work) (workers : ℕ) → Kept (start_of work workers)
start_kept work workers =
    let home : (n : ℕ) → (piece_at (start_of work workers) n).holder ≡ None = λ n. ap (λ (p : Piece). p.holder) (piece_is work workers n) in
    record {
      pieces = λ n. subst (λ (p : Piece). GoesOn p) (sym (piece_is work workers n)) (untouched_goes_on (get_or work.tasks n no_task));
      placed = record {
        untouched = λ n over. subst (λ (p : Piece). IsUntouched p) (sym (piece_is work workers n)) (is_untouched (get_or work.tasks n no_task));
        drawn = λ w n e. absurd (none_drawn workers w n e);
        held = λ w n. (λ e. absurd (none_drawn workers w n (ap number_of e)), λ e. let no = home n in absurd (cc));
        apart = λ v w n e f. absurd (none_drawn workers v n e);
      };
      claim = omega arith;
      cause = inl refl;
      under = omega arith;
    }

tasks_kept : (tasks : List Task) → map (λ (p : Piece). p.task) (map untouched tasks) ≡ tasks
tasks_kept [] = refl
tasks_kept (t ∷ ts) = ap (λ (l : List Task). t ∷ l) (tasks_kept ts)

-- the work is what was given
pub start_work : (work : Work) (workers : ℕ) → work_of (start_of work workers) ≡ work
start_work work workers = ap (λ (tasks : List Task). let w : Work = record { turns = work.turns; tasks = tasks } in w) (tasks_kept work.tasks)

-- there are as many tasks as spans
tasks_count : (spans : List (ℕ × ℕ)) (fails : List (Option ℕ)) → length fails ≡ length spans → length (tasks_given spans fails) ≡ length spans
tasks_count [] fails e = refl
tasks_count (span ∷ spans) [] e = absurd (omega (arith, e))
tasks_count (span ∷ spans) (turn ∷ fails) e = let rest = tasks_count spans fails (omega (arith, e)) in omega (arith, rest)

pub pieces_count : (spans : List (ℕ × ℕ)) (fails : List (Option ℕ)) (ps : List Piece) → length fails ≡ length spans → ps ≡ map untouched (tasks_given spans fails) → length ps ≡ length spans
pieces_count spans fails ps e is = ap length is ∙ length-map (tasks_given spans fails) untouched ∙ tasks_count spans fails e

-- a core with such pieces and workers is as at the start
pub start_is : (work : Work) (workers : ℕ) (ps : List Piece) (ws : List Worker) → ps ≡ map untouched work.tasks → ws ≡ replicate workers Free
    → let core : State = record { claim = 0; least = work.turns; turns = work.turns; pieces = ps; workers = ws } in core ≡ start_of work workers
start_is work workers ps ws pieces free =
    ap (λ (l : List Piece). let core : State = record { claim = 0; least = work.turns; turns = work.turns; pieces = l; workers = ws } in core) pieces
    ∙ ap (λ (l : List Worker). let core : State = record { claim = 0; least = work.turns; turns = work.turns; pieces = map untouched work.tasks; workers = l } in core) free
