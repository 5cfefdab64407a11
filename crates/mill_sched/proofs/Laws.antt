-- What holds of every list of events, whatever the state.
use Rattle.std.proofs.Common.{◌≡◌, ◌∙◌, ◌⊎◌, ℕ, ◌+◌, ◌<◌, ◌≤◌, min, ◌==◌, inl, inr, cond, ltb, List, [], ◌∷◌, length, set, drop, refl, sym, ap, subst, suc, zero, arith, length-set, zero-add}
use Rattle.std.proofs.Math.Seq.{map-set_same}
use Rattle.std.proofs.lemmas.Bool.Decides.{nat_tests}
use Rattle.std.proofs.lemmas.List.Sums.{sum_by-cons}
use Rattle.mill_sched.specs.declared.event.Event.{Event}
use Rattle.mill_sched.specs.declared.event.Event.TheVariants.{Draw, Take, Look, Lower, Put}
use Rattle.mill_sched.specs.declared.event.Outcome.{Outcome}
use Rattle.mill_sched.specs.declared.piece.Task.{Task}
use Rattle.mill_sched.specs.declared.piece.Piece.{Piece}
use Rattle.mill_sched.specs.declared.worker.Worker.{Worker}
use Rattle.mill_sched.specs.declared.worker.Worker.TheVariants.{Free, Drawn, Holding}
use Rattle.mill_sched.specs.States.{State, Work, piece_at, untouched, no_task, worker_at}
use Rattle.mill_sched.specs.Steps.{Step, actor_of, is_failure, is_stopped, looked, look_outcome, outcomes_of, state_after, step_by, step_of, turned}
use Rattle.mill_sched.specs.Laws.{DrawsEachOnce, SameGiven, is_drawing, times_drawn}
use Rattle.mill_sched.proofs.Events.{by_test}

-- 1 where the number is under both the claim and the count of pieces, else 0
abbrev pub under : ℕ → ℕ → ℕ → ℕ
under n claim count = cond (ltb n (min claim count)) 1 0

-- how often the number was drawn by what came of one event
abbrev pub drew : ℕ → Outcome → ℕ
drew n o = cond (is_drawing n o) 1 0

-- what one event, or a list of them, says of a number that is drawn so many times, of the least value and of what was given
pub record Steady (n : ℕ) (s t : State) (drawn : ℕ) : Type 0 where
  pub numbers : drawn + under n s.claim (length s.pieces) ≡ under n t.claim (length t.pieces)
  pub falls : t.least ≤ s.least
  pub same : SameGiven s t

-- nothing that was given is in the claim, in the least value, or in what a worker is about
same_given : (s : State) → SameGiven s s
same_given s = record { work = refl; pieces = refl; workers = refl }

worker_set : (s : State) (w claim : ℕ) (k : Worker) → SameGiven s record s { claim = claim; workers = set s.workers w k }
worker_set s w claim k = record { work = refl; pieces = refl; workers = length-set s.workers w k }

stays : (n : ℕ) (s : State) → Steady n s s 0
stays n s = record { numbers = omega arith; falls = omega arith; same = same_given s }

under_more : (n claim count : ℕ) → claim < count → cond (claim == n) 1 0 + under n claim count ≡ under n (claim + 1) count
under_more n claim count lt = grind (arith, nat_tests)

under_same : (n claim count : ℕ) → count ≤ claim → 0 + under n claim count ≡ under n (claim + 1) count
under_same n claim count le = grind (arith, nat_tests)

-- a piece comes to another of the same task, and a worker to another
sets : (n : ℕ) (s : State) (m : ℕ) (q : Piece) (ws : List Worker) → q.task ≡ (piece_at s m).task → length ws ≡ length s.workers → Steady n s record s { pieces = set s.pieces m q; workers = ws } 0
sets n s m q ws same count =
    let len = length-set s.pieces m q in
    record {
      numbers = zero-add (under n s.claim (length s.pieces)) ∙ ap (under n s.claim) (sym len);
      falls = omega arith;
      same = record {
        work = ap (λ (tasks : List Task). let w : Work = record { turns = s.turns; tasks = tasks } in w) (map-set_same (λ (p : Piece). p.task) s.pieces m q (untouched no_task) same);
        pieces = len;
        workers = count;
      };
    }

looked_task : (least : ℕ) (p : Piece) → (looked least p).task ≡ p.task
looked_task least p = by_test (λ (q : Piece). q.task ≡ p.task) (is_stopped least p) p (turned p) (λ _. refl)
    (λ _. by_test (λ (q : Piece). q.task ≡ p.task) (is_failure p.task.fails p.next) _ _ (λ _. refl) (λ _. refl))

looked_draws : (n least : ℕ) (p : Piece) → drew n (look_outcome least p) ≡ 0
looked_draws n least p = by_test (λ (o : Outcome). drew n o ≡ 0) (is_stopped least p) _ _ (λ _. refl)
    (λ _. by_test (λ (o : Outcome). drew n o ≡ 0) (is_failure p.task.fails p.next) _ _ (λ _. refl) (λ _. refl))

steady_by : (n : ℕ) (s : State) (e : Event) (k : Worker) → Steady n s (step_by s e k).state (drew n (step_by s e k).outcome)
steady_by n s (Draw w) Free = by_test (λ (t : Step). Steady n s t.state (drew n t.outcome)) (ltb s.claim (length s.pieces)) _ _
    (λ t. record { numbers = under_more n s.claim (length s.pieces) (grind (arith, nat_tests)); falls = omega arith; same = worker_set s w _ _ })
    (λ t. record { numbers = under_same n s.claim (length s.pieces) (grind (arith, nat_tests)); falls = omega arith; same = worker_set s w _ _ })
steady_by n s (Take w) (Drawn m) = sets n s m _ _ refl (length-set s.workers w _)
steady_by n s (Look w) (Holding m) =
    subst (λ drawn. Steady n s record s { pieces = set s.pieces m (looked s.least (piece_at s m)) } drawn) (sym (looked_draws n s.least (piece_at s m)))
    (sets n s m (looked s.least (piece_at s m)) s.workers (looked_task s.least (piece_at s m)) refl)
steady_by n s (Lower w) (Holding m) = by_test (λ (t : Step). Steady n s t.state (drew n t.outcome)) (piece_at s m).failed _ _
    (λ _. record { numbers = omega arith; falls = omega arith; same = record { work = refl; pieces = refl; workers = refl } })
    (λ _. stays n s)
steady_by n s (Put w) (Holding m) = sets n s m _ _ refl (length-set s.workers w _)
steady_by n s e k = stays n s

pub steady_step : (n : ℕ) (s : State) (e : Event) → Steady n s (step_of s e).state (drew n (step_of s e).outcome)
steady_step n s e = steady_by n s e (worker_at s (actor_of e))

pub steady_after : (n : ℕ) (s : State) (es : List Event) → Steady n s (state_after s es) (times_drawn n (outcomes_of s es))
steady_after n s [] = stays n s
steady_after n s (e ∷ es) =
    let first = steady_step n s e in
    let rest = steady_after n (step_of s e).state es in
    let times = sum_by-cons (drew n) (step_of s e).outcome (outcomes_of (step_of s e).state es) in
    record {
      numbers = omega (arith, first.numbers, rest.numbers, times);
      falls = omega (arith, first.falls, rest.falls);
      same = record {
        work = rest.same.work ∙ first.same.work;
        pieces = rest.same.pieces ∙ first.same.pieces;
        workers = rest.same.workers ∙ first.same.workers;
      };
    }

-- one number, by the two claims
drawn_once : (n old new count times : ℕ) → times + under n old count ≡ under n new count → old ≤ n → n < new → n < count → times ≡ 1
drawn_once n old new count times e from to there = grind (arith, nat_tests)

drawn_not : (n old new count times : ℕ) → times + under n old count ≡ under n new count → (n < old) ⊎ (new ≤ n) ⊎ (count ≤ n) → times ≡ 0
drawn_not n old new count times e other = grind (arith, nat_tests)

-- each number between the claims was drawn once, and no other
pub draws_each_once : (s : State) (es : List Event) → DrawsEachOnce s (state_after s es) (outcomes_of s es)
draws_each_once s es =
    let numbers : (n : ℕ) → times_drawn n (outcomes_of s es) + under n s.claim (length (state_after s es).pieces) ≡ under n (state_after s es).claim (length (state_after s es).pieces)
    = λ n. let t = steady_after n s es in ap (λ count. times_drawn n (outcomes_of s es) + under n s.claim count) t.same.pieces ∙ t.numbers in
    record {
      once = λ n. drawn_once n s.claim (state_after s es).claim (length (state_after s es).pieces) _ (numbers n);
      no_earlier = λ n earlier. drawn_not n s.claim (state_after s es).claim (length (state_after s es).pieces) _ (numbers n) (inl earlier);
      no_later = λ n later. drawn_not n s.claim (state_after s es).claim (length (state_after s es).pieces) _ (numbers n) (inr (inl later));
      no_further = λ n further. drawn_not n s.claim (state_after s es).claim (length (state_after s es).pieces) _ (numbers n) (inr (inr further));
    }

-- ----------------------------------------------------------------
-- a loop over events

drop_past : {A : Type 0} → (xs : List A) (i : ℕ) → length xs ≤ i → drop i xs ≡ []
drop_past [] zero le = refl
drop_past [] (suc i) le = refl
drop_past (x ∷ xs) zero le = absurd (omega arith)
drop_past (x ∷ xs) (suc i) le = drop_past xs i (omega arith)

-- once the loop has gone through all events, it has come to the state after them
pub run_end : (s t : State) (es : List Event) (i : ℕ) → length es ≤ i → state_after t (drop i es) ≡ state_after s es → t ≡ state_after s es
run_end s t es i through e = sym (ap (state_after t) (drop_past es i through)) ∙ e
