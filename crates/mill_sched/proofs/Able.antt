-- Who can do what, and what comes of it where nothing can be done.
use Rattle.std.proofs.Common.{◌≡◌, ◌≢◌, ◌∙◌, ◌⊎◌, ℕ, length, refl, sym, ap, subst, inl, inr, Some, ltb}
use Rattle.std.specs.Prelude.{slice_get}
use Rattle.std.proofs.lemmas.Option.{get_or_from_slice_get, slice_get-get_or}
use Rattle.mill_sched.specs.declared.event.Event.{Event}
use Rattle.mill_sched.specs.declared.event.Event.TheVariants.{Draw, Take, Look, Lower, Put}
use Rattle.mill_sched.specs.declared.event.Outcome.{Outcome}
use Rattle.mill_sched.specs.declared.event.Outcome.TheVariants.{Idle}
use Rattle.mill_sched.specs.declared.piece.Piece.{Piece}
use Rattle.mill_sched.specs.declared.worker.Worker.{Worker}
use Rattle.mill_sched.specs.declared.worker.Worker.TheVariants.{Free, Drawn, Holding, Done}
use Rattle.mill_sched.specs.States.{State, piece_at, worker_at}
use Rattle.mill_sched.specs.Steps.{Step, actor_of, is_failure, is_stopped, look_outcome, step_by, step_of}
use Rattle.mill_sched.specs.Laws.{CanDo}
use Rattle.mill_sched.proofs.Members.{is_there}
use Rattle.mill_sched.proofs.Events.{by_test}

-- a worker that is read as another than one that has ended is there
is_read : (s : State) (w : ℕ) (k : Worker) → worker_at s w ≡ k → k ≢ Done → slice_get s.workers w ≡ Some k
is_read s w k e other = slice_get-get_or s.workers w Done (is_there s.workers w k e other) ∙ ap Some e

-- what a worker that is there is read as
read_as : (s : State) (w : ℕ) (k : Worker) → slice_get s.workers w ≡ Some k → worker_at s w ≡ k
read_as s w k e = get_or_from_slice_get s.workers w k Done e

-- the event can be done, or nothing comes of it
able_by : (s : State) (e : Event) (k : Worker) → worker_at s (actor_of e) ≡ k → CanDo s e ⊎ ((step_by s e k).outcome ≡ Idle)
able_by s (Draw w) Free is = inl (is_read s w Free is (λ e. cc))
able_by s (Take w) (Drawn n) is = inl (n, is_read s w (Drawn n) is (λ e. cc))
able_by s (Look w) (Holding n) is = inl (n, is_read s w (Holding n) is (λ e. cc))
able_by s (Lower w) (Holding n) is =
    by_test (λ (t : Step). CanDo s (Lower w) ⊎ (t.outcome ≡ Idle)) (piece_at s n).failed _ _ (λ failed. inl (n, is_read s w (Holding n) is (λ e. cc), failed)) (λ _. inr refl)
able_by s (Put w) (Holding n) is = inl (n, is_read s w (Holding n) is (λ e. cc))
able_by s e k is = inr refl

pub able : (s : State) (e : Event) (o : Outcome) → o ≡ (step_of s e).outcome → CanDo s e ⊎ (o ≡ Idle)
able s e o is = subst (λ (o : Outcome). CanDo s e ⊎ (o ≡ Idle)) (sym is) (able_by s e (worker_at s (actor_of e)) refl)

look_is_done : (least : ℕ) (p : Piece) → look_outcome least p ≢ Idle
look_is_done least p = by_test (λ (o : Outcome). o ≢ Idle) (is_stopped least p) _ _ (λ _ e. cc)
    (λ _. by_test (λ (o : Outcome). o ≢ Idle) (is_failure p.task.fails p.next) _ _ (λ _ e. cc) (λ _ e. cc))

-- something comes of an event that can be done
can_is_done : (s : State) (e : Event) → CanDo s e → (step_of s e).outcome ≢ Idle
can_is_done s (Draw w) there =
    subst (λ (k : Worker). (step_by s (Draw w) k).outcome ≢ Idle) (sym (read_as s w Free there))
    (by_test (λ (t : Step). t.outcome ≢ Idle) (ltb s.claim (length s.pieces)) _ _ (λ _ e. cc) (λ _ e. cc))
can_is_done s (Take w) there = subst (λ (k : Worker). (step_by s (Take w) k).outcome ≢ Idle) (sym (read_as s w (Drawn there.0) there.1)) (λ e. cc)
can_is_done s (Look w) there = subst (λ (k : Worker). (step_by s (Look w) k).outcome ≢ Idle) (sym (read_as s w (Holding there.0) there.1)) (look_is_done s.least (piece_at s there.0))
can_is_done s (Lower w) there =
    subst (λ (k : Worker). (step_by s (Lower w) k).outcome ≢ Idle) (sym (read_as s w (Holding there.0) there.1))
    (by_test (λ (t : Step). t.outcome ≢ Idle) (piece_at s there.0).failed _ _ (λ _ e. cc) (λ yet _. let failed = there.2 in cc))
can_is_done s (Put w) there = subst (λ (k : Worker). (step_by s (Put w) k).outcome ≢ Idle) (sym (read_as s w (Holding there.0) there.1)) (λ e. cc)

-- where nothing comes of an event, all is as it was
kept_by : (s : State) (e : Event) (k : Worker) → (step_by s e k).outcome ≡ Idle → (step_by s e k).state ≡ s
kept_by s (Draw w) Free = by_test (λ (t : Step). t.outcome ≡ Idle → t.state ≡ s) (ltb s.claim (length s.pieces)) _ _ (λ _ e. absurd (cc)) (λ _ e. absurd (cc))
kept_by s (Take w) (Drawn n) = λ e. absurd (cc)
kept_by s (Look w) (Holding n) = λ e. absurd (look_is_done s.least (piece_at s n) e)
kept_by s (Lower w) (Holding n) = by_test (λ (t : Step). t.outcome ≡ Idle → t.state ≡ s) (piece_at s n).failed _ _ (λ _ e. absurd (cc)) (λ _ e. refl)
kept_by s (Put w) (Holding n) = λ e. absurd (cc)
kept_by s e k = λ _. refl

pub idle : (s new : State) (e : Event) (o : Outcome) → new ≡ (step_of s e).state → o ≡ (step_of s e).outcome → o ≡ Idle → (CanDo s e → ⊥) × (new ≡ s)
idle s new e o state outcome nothing =
    let is = sym outcome ∙ nothing in
    (λ can. can_is_done s e can is, state ∙ kept_by s e (worker_at s (actor_of e)) is)
