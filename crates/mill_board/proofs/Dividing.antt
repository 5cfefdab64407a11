-- A seat that is split makes one worker more in the state that the table shows.
use Rattle.std.proofs.Common.{◌≡◌, ℕ, zero, suc, ◌<◌, ◌++◌, List, [], ◌∷◌, length, get_or, set, refl, sym, ap, subst, ◌∙◌, arith, Option, Some, None, length-set, length-append}
use mathlib.Core.Logic.{dite}
use mathlib.Core.Option.{some, some-injective, some-ne-none}
use native.Mathlib.Decide.{ℕ_discrete}
use lib.ListN.{get_elem?}
use Rattle.atomic_table.proofs.Lists.{at_longer, set_else}
use Rattle.mill_sched.specs.declared.worker.Worker.{Worker}
use Rattle.mill_sched.specs.declared.worker.Worker.TheVariants.{Holding, Done}
use Rattle.mill_sched.specs.States.{State as Core, worker_at}
use Rattle.mill_sched.specs.Laws.{number_of}
use Rattle.mill_board.specs.declared.work.Terms.{Terms}
use Rattle.mill_board.specs.declared.view.View.{View}
use Rattle.mill_board.specs.Works.{Means}
use Rattle.mill_board.specs.Seats.{given_half, kept_half}
use Rattle.mill_board.specs.Kept.{BoardState, HasView, Kept, times}
use Rattle.mill_board.specs.Shows.{Shows, idle_worker}
use Rattle.mill_board.specs.Steps.{SplitsAddWorkers, table_split}
use Rattle.mill_board.proofs.Sums.{here}
use Rattle.mill_board.proofs.Stepping.{at_len, each_at}

-- a worker that has ended has no number, and neither has one without a piece
idle_number : (o : Option ℕ) → number_of (idle_worker o) ≡ None
idle_number None = refl
idle_number (Some n) = refl

idle_holds_none : (o : Option ℕ) (n : ℕ) → idle_worker o ≡ Holding n → ⊥
idle_holds_none None n e = cc
idle_holds_none (Some m) n e = cc

module _ (o : Option ℕ) where
  -- the numbers of workers stay, where one without a piece comes last
  more_numbers : (ws : List Worker) (j : ℕ) → number_of (get_or (ws ++ idle_worker o ∷ []) j Done) ≡ number_of (get_or ws j Done)
  more_numbers [] zero = idle_number o
  more_numbers [] (suc j) = refl
  more_numbers (x ∷ xs) zero = refl
  more_numbers (x ∷ xs) (suc j) = more_numbers xs j

  -- and so do the pieces that they hold
  more_held : (ws : List Worker) (j n : ℕ) → get_or (ws ++ idle_worker o ∷ []) j Done ≡ Holding n → get_or ws j Done ≡ Holding n
  more_held [] zero n e = absurd (idle_holds_none o n e)
  more_held [] (suc j) n e = e
  more_held (x ∷ xs) zero n e = e
  more_held (x ∷ xs) (suc j) n e = more_held xs j n e

  held_more : (ws : List Worker) (j n : ℕ) → get_or ws j Done ≡ Holding n → get_or (ws ++ idle_worker o ∷ []) j Done ≡ Holding n
  held_more [] j n e = absurd (cc)
  held_more (x ∷ xs) zero n e = e
  held_more (x ∷ xs) (suc j) n e = held_more xs j n e

  more_before : (ws : List Worker) (j : ℕ) → j < length ws → get_or (ws ++ idle_worker o ∷ []) j Done ≡ get_or ws j Done
  more_before [] j lt = absurd (omega (arith, lt))
  more_before (x ∷ xs) zero lt = refl
  more_before (x ∷ xs) (suc j) lt = more_before xs j (omega (arith, lt))

  more_last : (ws : List Worker) (j : ℕ) → j ≡ length ws → get_or (ws ++ idle_worker o ∷ []) j Done ≡ idle_worker o
  more_last [] zero e = refl
  more_last [] (suc j) e = absurd (omega (arith, e))
  more_last (x ∷ xs) zero e = absurd (omega (arith, e))
  more_last (x ∷ xs) (suc j) e = more_last xs j (omega (arith, e))

-- what stands in a longer list stood in it before, or is the last
in_longer : {A : Type 0} (Q : ℕ → A → Type 0) (l : List A) (a : A) → ((j : ℕ) (u : A) → get_elem? l j ≡ some u → Q j u) → Q (length l) a → (j : ℕ) (u : A) → get_elem? (l ++ a ∷ []) j ≡ some u → Q j u
in_longer Q [] a all last zero u e = subst (Q zero) (some-injective a u e) last
in_longer Q [] a all last (suc j) u e = absurd (some-ne-none u (sym e))
in_longer Q (x ∷ xs) a all last zero u e = all zero u e
in_longer Q (x ∷ xs) a all last (suc j) u e = in_longer (λ i. Q (suc i)) xs a (λ i. all (suc i)) last j u e

module _ {W P : Type 0} (M : Means W P) (terms : Terms W) (s : BoardState W P) (k : Kept M terms s) (core : Core) (seat : ℕ) (v : View W) (h : Shows M terms s core) (at : HasView s seat v) where
  abbrev more : Core
  more = record core { workers = core.workers ++ idle_worker v.ended ∷ [] }

  abbrev kept : List (View W)
  kept = set s.views seat (kept_half v)

  same_number : (j : ℕ) → number_of (worker_at more j) ≡ number_of (worker_at core j)
  same_number j = more_numbers v.ended core.workers j

  last : length kept ≡ length core.workers
  last = length-set s.views seat (kept_half v) ∙ sym h.workers

  splits : Shows M terms (table_split s seat v) more
  splits = record {
    claim = h.claim;
    least = h.least;
    turns = h.turns;
    pieces = h.pieces;
    tasks = h.tasks;
    home = h.home;
    on_turn = h.on_turn;
    workers = let a = length-append core.workers (idle_worker v.ended ∷ []) in let b = length-append kept (given_half v ∷ []) in let c = last in omega (arith, a, b, c);
    out = λ n e. let q = h.out n e in
        dite (ℕ_discrete q.0 seat)
        (λ x. let y : some q.1 ≡ some v = sym q.2.view ∙ ap (get_elem? s.views) x ∙ at in let z : q.1 ≡ v = some-injective q.1 v y in (
          seat,
          kept_half v,
          record {
            view = at_longer kept (given_half v ∷ []) seat (kept_half v) (here s.views seat v (kept_half v) at);
            out = sym (ap (λ (u : View W). u.out) z) ∙ q.2.out;
            drawn = subst (λ (u : View W). 0 < times n u.drawn) z q.2.drawn;
            worker = same_number seat ∙ ap (λ i. number_of (worker_at core i)) (sym x) ∙ q.2.worker;
          },
        ))
        (λ ne. (q.0, q.1, record { view = at_longer kept (given_half v ∷ []) q.0 q.1 (set_else s.views seat q.0 (kept_half v) ne ∙ q.2.view); out = q.2.out; drawn = q.2.drawn; worker = same_number q.0 ∙ q.2.worker }));
    numbers = in_longer (λ j (u : View W). number_of (worker_at more j) ≡ u.out) kept (given_half v)
        (each_at (λ j (u : View W). number_of (worker_at more j) ≡ u.out) s.views seat (kept_half v) (λ j u _ e. same_number j ∙ h.numbers j u e) (same_number seat ∙ h.numbers seat v at))
        (ap number_of (more_last v.ended core.workers (length kept) last) ∙ idle_number v.ended);
    idle = in_longer (λ j (u : View W). u.out ≡ None → worker_at more j ≡ idle_worker u.ended) kept (given_half v)
        (each_at (λ j (u : View W). u.out ≡ None → worker_at more j ≡ idle_worker u.ended) s.views seat (kept_half v)
        (λ j u _ e free. more_before v.ended core.workers j (let a = at_len s.views j u e in let b = h.workers in omega (arith, a, b)) ∙ h.idle j u e free)
        (λ free. more_before v.ended core.workers seat (let a = at_len s.views seat v at in let b = h.workers in omega (arith, a, b)) ∙ h.idle seat v at free))
        (λ _. more_last v.ended core.workers (length kept) last);
    placed = record {
      untouched = h.placed.untouched;
      drawn = λ j n e. h.placed.drawn j n (sym (same_number j) ∙ e);
      held = λ j n. (λ e. (h.placed.held j n).0 (more_held v.ended core.workers j n e), λ e. held_more v.ended core.workers j n ((h.placed.held j n).1 e));
      apart = λ i j n e f. h.placed.apart i j n (sym (same_number i) ∙ e) (sym (same_number j) ∙ f);
    };
  }

pub splits_add_workers : {W P : Type 0} (M : Means W P) → SplitsAddWorkers M (Kept M)
splits_add_workers M terms s core seat v k h at = splits M terms s k core seat v h at
