-- Each event leaves what a core keeps.
use Rattle.std.proofs.Common.{◌≡◌, ◌≢◌, ℕ, ◌+◌, ◌<◌, ◌≤◌, ◌⊎◌, ◌↔◌, min, Bool, true, false, cond, ltb, leb, ◌||◌, List, length, get_or, set, refl, sym, ap, subst, ◌∙◌, arith, inl, inr, ⊎_elim, Option, Some, None, length-set}
use Rattle.std.proofs.lemmas.List.Sums.{sum_by-set}
use Rattle.std.proofs.lemmas.Bool.Decides.{nat_tests}
use Rattle.std.specs.Prelude.{count_by}
use Rattle.mill_sched.specs.declared.event.Event.TheVariants.{Look}
use Rattle.mill_sched.specs.declared.event.Outcome.{Outcome}
use Rattle.mill_sched.specs.declared.piece.Piece.{Piece}
use Rattle.mill_sched.specs.declared.worker.Worker.{Worker}
use Rattle.mill_sched.specs.declared.worker.Worker.TheVariants.{Free, Drawn, Holding, Done}
use Rattle.mill_sched.specs.States.{State, piece_at, worker_at, untouched, no_task}
use Rattle.mill_sched.specs.Steps.{is_failure, is_stopped, turned, looked, look_outcome, step_by, step_of}
use Rattle.mill_sched.specs.Laws.{number_of, IsUntouched, IsPlaced, IsCaused}
use Rattle.mill_sched.specs.Kept.{GoesOn, Kept, is_done}
use Rattle.mill_sched.proofs.Members.{each_set, at_read, is_there, apart_set}
use mathlib.Core.Logic.{dite}
use native.Mathlib.Decide.{dec_le}

-- ----------------------------------------------------------------
-- what is read of a worker

pub there : (s : State) (w : ℕ) (k : Worker) → worker_at s w ≡ k → k ≢ Done → w < length s.workers
there s w k = is_there s.workers w k

-- how many workers have ended after one is set, by what it was and comes to
done_set : (ws : List Worker) (w : ℕ) (old new : Worker) → w < length ws → get_or ws w Done ≡ old
    → count_by is_done (set ws w new) + cond (is_done old) 1 0 ≡ count_by is_done ws + cond (is_done new) 1 0
done_set ws w old new within is =
    subst (λ k. count_by is_done (set ws w new) + cond (is_done k) 1 0 ≡ count_by is_done ws + cond (is_done new) 1 0) is (sum_by-set (λ k. cond (is_done k) 1 0) ws w new Done within)

-- ----------------------------------------------------------------
-- a worker draws

-- the places after a free worker comes to what holds no piece
pub draws_placed : (s : State) (w claim : ℕ) (k : Worker) → IsPlaced s → worker_at s w ≡ Free → s.claim ≤ claim
    → ((n : ℕ) → k ≢ Holding n)
    → ((n : ℕ) → number_of k ≡ Some n → (s.claim ≤ n) × (n < claim) × (n < length s.pieces))
    → IsPlaced record s { claim = claim; workers = set s.workers w k }
draws_placed s w claim k h free le empty new =
    let within = there s w Free free (λ e. cc) in
    record {
      untouched = λ n over. h.untouched n (omega arith);
      drawn = each_set (λ v (x : Worker). (n : ℕ) → number_of x ≡ Some n → (n < claim) × (n < length s.pieces)) s.workers w k Done within
          (λ v _ n e. let t = h.drawn v n e in (omega arith, t.1))
          (λ n e. let t = new n e in (t.1, t.2));
      held = each_set (λ v (x : Worker). (n : ℕ) → (x ≡ Holding n) ↔ ((piece_at s n).holder ≡ Some v)) s.workers w k Done within (λ v _. h.held v)
          (λ n. (λ e. absurd (empty n e), λ e. let t = (h.held w n).1 e in absurd (cc)));
      apart = apart_set s.workers w k within h.apart (λ n v e f. let t = new n e in let u = h.drawn v n f in absurd (omega (arith, t.0, u.0)));
    }

pub draws_one : (s : State) (w : ℕ) → Kept s → worker_at s w ≡ Free → s.claim < length s.pieces
    → Kept record s { claim = s.claim + 1; workers = set s.workers w (Drawn s.claim) }
draws_one s w h free room = record {
  pieces = h.pieces;
  placed = draws_placed s w (s.claim + 1) (Drawn s.claim) h.placed free (omega arith) (λ n e. cc) (λ n e. let same : s.claim ≡ n = cc in (omega arith, omega arith, omega arith));
  claim = omega arith;
  cause = h.cause;
  under = h.under;
}

pub draws_none : (s : State) (w : ℕ) → Kept s → worker_at s w ≡ Free → length s.pieces ≤ s.claim
    → Kept record s { claim = s.claim + 1; workers = set s.workers w Done }
draws_none s w h free room = record {
  pieces = h.pieces;
  placed = draws_placed s w (s.claim + 1) Done h.placed free (omega arith) (λ n e. cc) (λ n e. absurd (cc));
  claim = let t = done_set s.workers w Free Done (there s w Free free (λ e. cc)) free in let u = h.claim in omega (arith, t, u);
  cause = h.cause;
  under = h.under;
}

-- ----------------------------------------------------------------
-- a worker takes its piece, or puts it back

-- the piece that a worker has drawn or holds is there, and under the claim
pub piece_there : (s : State) (w n : ℕ) (k : Worker) → Kept s → worker_at s w ≡ k → number_of k ≡ Some n → n < length s.pieces
piece_there s w n k h is number = let t = h.placed.drawn w n (ap number_of is ∙ number) in t.1

-- the places after a worker that has this number comes to another state, and its piece with it
pub moves_placed : (s : State) (w n : ℕ) (k : Worker) (q : Piece) → IsPlaced s → w < length s.workers → number_of (worker_at s w) ≡ Some n
    → ((m : ℕ) → number_of k ≡ Some m → m ≡ n)
    → (k ≡ Holding n) ↔ (q.holder ≡ Some w)
    → ((v : ℕ) → q.holder ≡ Some v → v ≡ w)
    → IsPlaced record s { pieces = set s.pieces n q; workers = set s.workers w k }
moves_placed s w n k q h within mine same here own =
    let at_n = h.drawn w n mine in
    let room : n < length s.pieces = at_n.1 in
    let len : length (set s.pieces n q) ≡ length s.pieces = length-set s.pieces n q in
    let number : (m : ℕ) → worker_at s w ≡ Holding m → n ≡ m = λ m e. let t : Some n ≡ Some m = sym mine ∙ ap number_of e in cc in
    record {
      untouched = each_set (λ m p. s.claim ≤ m → IsUntouched p) s.pieces n q (untouched no_task) room (λ m _. h.untouched m) (λ over. absurd (omega (arith, at_n.0)));
      drawn = each_set (λ v (x : Worker). (m : ℕ) → number_of x ≡ Some m → (m < s.claim) × (m < length (set s.pieces n q))) s.workers w k Done within
          (λ v _ m e. let t = h.drawn v m e in (t.0, omega (arith, len)))
          (λ m e. let t = same m e in let u = at_n.0 in (omega arith, omega (arith, len)));
      held = λ v m. each_set (λ v (x : Worker). (x ≡ Holding m) ↔ ((get_or (set s.pieces n q) m (untouched no_task)).holder ≡ Some v)) s.workers w k Done within
          (λ v other. each_set (λ m (p : Piece). (worker_at s v ≡ Holding m) ↔ (p.holder ≡ Some v)) s.pieces n q (untouched no_task) room
          (λ m _. h.held v m)
          (λ e. absurd (other (h.apart v w n (ap number_of e) mine)), λ e. absurd (other (own v e))) m)
          (each_set (λ m (p : Piece). (k ≡ Holding m) ↔ (p.holder ≡ Some w)) s.pieces n q (untouched no_task) room
          (λ m other. (λ e. absurd (other (same m (ap number_of e))), λ e. let t = (h.held w m).1 e in absurd (other (sym (number m t)))))
          here m) v;
      apart = apart_set s.workers w k within h.apart (λ m v e f. let t = same m e in h.apart v w n (f ∙ ap Some t) mine);
    }

-- the least value has its cause as before, where a piece that had failed stays as it is
caused_set : (s : State) (n : ℕ) (q : Piece) → n < length s.pieces
    → ((piece_at s n).failed ≡ true → (q.failed ≡ true) × (q.next ≡ (piece_at s n).next))
    → IsCaused s → IsCaused record s { pieces = set s.pieces n q }
caused_set s n q room stays (inl e) = inl e
caused_set s n q room stays (inr t) =
    let one = each_set (λ m (p : Piece). (piece_at s m).failed ≡ true → (p.failed ≡ true) × (p.next ≡ (piece_at s m).next)) s.pieces n q (untouched no_task) room
    (λ m _ e. (e, refl)) stays t.0 t.1 in
    inr (t.0, one.0, one.1 ∙ t.2)

-- a piece goes on as it did, whoever holds it
held_goes_on : (p : Piece) (holder : Option ℕ) → GoesOn p → GoesOn record p { holder = holder }
held_goes_on p holder h = record { from = h.from; to = h.to; not_past = h.not_past; failed = h.failed }

-- a worker that has this number comes to another state, and its piece to another holder
moves : (s : State) (w n : ℕ) (old new : Worker) (holder : Option ℕ) → Kept s → worker_at s w ≡ old → old ≢ Done → number_of old ≡ Some n
    → is_done old ≡ is_done new
    → ((m : ℕ) → number_of new ≡ Some m → m ≡ n)
    → (new ≡ Holding n) ↔ (holder ≡ Some w)
    → ((v : ℕ) → holder ≡ Some v → v ≡ w)
    → Kept record s { pieces = set s.pieces n (record (piece_at s n) { holder = holder }); workers = set s.workers w new }
moves s w n old new holder h is some number ended same here own =
    let within = there s w old is some in
    let room = piece_there s w n old h is number in
    let q : Piece = record (piece_at s n) { holder = holder } in
    let len : length (set s.pieces n q) ≡ length s.pieces = length-set s.pieces n q in
    let done : count_by is_done (set s.workers w new) ≡ count_by is_done s.workers
    = let t = done_set s.workers w old new within is in let count : Bool → ℕ = λ b. cond b 1 0 in let u = ap count ended in omega (arith, t, u) in
    record {
      pieces = each_set (λ m p. GoesOn p) s.pieces n q (untouched no_task) room (λ m _. h.pieces m) (held_goes_on (piece_at s n) holder (h.pieces n));
      placed = moves_placed s w n new q h.placed within (ap number_of is ∙ number) same here own;
      claim = let t = h.claim in omega (arith, done, len);
      cause = caused_set s n q room (λ e. (e, refl)) h.cause;
      under = h.under;
    }

pub takes : (s : State) (w n : ℕ) (p : Piece) → Kept s → worker_at s w ≡ Drawn n → p ≡ get_or s.pieces n p
    → Kept record s { pieces = set s.pieces n (record p { holder = Some w }); workers = set s.workers w (Holding n) }
takes s w n p h is read =
    at_read (λ (p : Piece). Kept record s { pieces = set s.pieces n (record p { holder = Some w }); workers = set s.workers w (Holding n) })
    s.pieces n p (untouched no_task) (piece_there s w n (Drawn n) h is refl) read
    (moves s w n (Drawn n) (Holding n) (Some w) h is (λ e. cc) refl refl (λ m e. cc) (λ e. refl, λ e. refl) (λ v e. cc))

pub puts : (s : State) (w n : ℕ) (p : Piece) → Kept s → worker_at s w ≡ Holding n → p ≡ get_or s.pieces n p
    → Kept record s { pieces = set s.pieces n (record p { holder = None }); workers = set s.workers w Free }
puts s w n p h is read =
    at_read (λ (p : Piece). Kept record s { pieces = set s.pieces n (record p { holder = None }); workers = set s.workers w Free })
    s.pieces n p (untouched no_task) (piece_there s w n (Holding n) h is refl) read
    (moves s w n (Holding n) Free None h is (λ e. cc) refl refl (λ m e. absurd (cc)) (λ e. absurd (cc), λ e. absurd (cc)) (λ v e. absurd (cc)))

-- ----------------------------------------------------------------
-- a worker looks at the least value

-- a choice by a test, where what is wanted holds either way
pub by_test : {A : Type 0} → (P : A → Type 0) (b : Bool) (x y : A) → (b ≡ true → P x) → (b ≡ false → P y) → P (cond b x y)
by_test P true x y f g = f refl
by_test P false x y f g = g refl

-- what a look leaves of a piece
record IsLooked (p q : Piece) : Type 0 where
  task : q.task ≡ p.task
  holder : q.holder ≡ p.holder
  goes_on : GoesOn p → GoesOn q
  stays : p.failed ≡ true → (q.failed ≡ true) × (q.next ≡ p.next)

not_or : (a b : Bool) → (a || b) ≡ false → (a ≡ false) × (b ≡ false)
not_or true b e = absurd (cc)
not_or false b e = (refl, e)

-- a piece with a turn to do hasn't failed, and its turns aren't through
pub has_turn : (least : ℕ) (p : Piece) → is_stopped least p ≡ false → (p.failed ≡ false) × (p.next < p.task.limit)
has_turn least p e =
    let a = not_or (p.failed || leb p.task.limit p.next) (ltb least p.next) e in
    let b = not_or p.failed (leb p.task.limit p.next) a.0 in
    let through : leb p.task.limit p.next ≡ false = b.1 in
    (b.0, grind (arith, nat_tests))

pub failure_is : (o : Option ℕ) (t : ℕ) → is_failure o t ≡ true → o ≡ Some t
failure_is None t e = absurd (cc)
failure_is (Some f) t e = let same : f ≡ t = grind (arith, nat_tests) in ap Some same

pub failure_not : (o : Option ℕ) (t f : ℕ) → is_failure o t ≡ false → o ≡ Some f → t ≢ f
failure_not None t f e is = absurd (cc)
failure_not (Some g) t f e is = λ same. let x : g ≡ f = cc in let y : g ≡ t = x ∙ sym same in grind (arith, nat_tests)

fails_now : (p : Piece) → p.failed ≡ false → is_failure p.task.fails p.next ≡ true → IsLooked p record p { failed = true }
fails_now p yet e = record {
  task = refl;
  holder = refl;
  goes_on = λ h. record { from = h.from; to = h.to; not_past = h.not_past; failed = λ _. failure_is p.task.fails p.next e };
  stays = λ failed. (refl, refl);
}

passes_now : (p : Piece) → p.failed ≡ false → p.next < p.task.limit → is_failure p.task.fails p.next ≡ false → IsLooked p record p { next = p.next + 1 }
passes_now p yet more e = record {
  task = refl;
  holder = refl;
  goes_on = λ h. record {
    from = let a = h.from in omega arith;
    to = λ _. omega arith;
    not_past = λ f is order. let a = h.not_past f is order in let b = failure_not p.task.fails p.next f e is in omega (arith, a, b);
    failed = λ failed. absurd (cc);
  };
  stays = λ failed. absurd (cc);
}

is_looked : (least : ℕ) (p : Piece) → IsLooked p (looked least p)
is_looked least p = by_test (IsLooked p) (is_stopped least p) p (turned p)
    (λ e. record { task = refl; holder = refl; goes_on = λ h. h; stays = λ failed. (failed, refl) })
    (λ e. let t = has_turn least p e in by_test (IsLooked p) (is_failure p.task.fails p.next) _ _ (λ u. fails_now p t.0 u) (λ u. passes_now p t.0 t.1 u))

-- the places after the piece that a worker holds is looked at
pub looks_placed : (s : State) (w n : ℕ) → IsPlaced s → worker_at s w ≡ Holding n → IsPlaced record s { pieces = set s.pieces n (looked s.least (piece_at s n)) }
looks_placed s w n h is =
    let at_n = h.drawn w n (ap number_of is) in
    let room : n < length s.pieces = at_n.1 in
    let q : Piece = looked s.least (piece_at s n) in
    let one : IsLooked (piece_at s n) q = is_looked s.least (piece_at s n) in
    let len : length (set s.pieces n q) ≡ length s.pieces = length-set s.pieces n q in
    record {
      untouched = each_set (λ m p. s.claim ≤ m → IsUntouched p) s.pieces n q (untouched no_task) room (λ m _. h.untouched m) (λ over. absurd (omega (arith, at_n.0)));
      drawn = λ v m e. let t = h.drawn v m e in (t.0, omega (arith, len));
      held = λ v. each_set (λ m (p : Piece). (worker_at s v ≡ Holding m) ↔ (p.holder ≡ Some v)) s.pieces n q (untouched no_task) room
          (λ m _. h.held v m)
          (λ e. one.holder ∙ (h.held v n).0 e, λ e. (h.held v n).1 (sym one.holder ∙ e));
      apart = h.apart;
    }

looks_at : (s : State) (w n : ℕ) → Kept s → worker_at s w ≡ Holding n → Kept record s { pieces = set s.pieces n (looked s.least (piece_at s n)) }
looks_at s w n h is =
    let at_n = h.placed.drawn w n (ap number_of is) in
    let room : n < length s.pieces = at_n.1 in
    let q : Piece = looked s.least (piece_at s n) in
    let one : IsLooked (piece_at s n) q = is_looked s.least (piece_at s n) in
    let len : length (set s.pieces n q) ≡ length s.pieces = length-set s.pieces n q in
    record {
      pieces = each_set (λ m p. GoesOn p) s.pieces n q (untouched no_task) room (λ m _. h.pieces m) (one.goes_on (h.pieces n));
      placed = looks_placed s w n h.placed is;
      claim = let t = h.claim in omega (arith, len);
      cause = caused_set s n q room one.stays h.cause;
      under = h.under;
    }

pub looks : (s : State) (w n : ℕ) (p q : Piece) → Kept s → worker_at s w ≡ Holding n → p ≡ get_or s.pieces n p → q ≡ looked s.least p → Kept record s { pieces = set s.pieces n q }
looks s w n p q h is read new =
    subst (λ (q : Piece). Kept record s { pieces = set s.pieces n q }) (sym new)
    (at_read (λ (p : Piece). Kept record s { pieces = set s.pieces n (looked s.least p) }) s.pieces n p (untouched no_task) (piece_there s w n (Holding n) h is refl) read (looks_at s w n h is))

-- what a look comes to, by the piece that was read
pub looks_state : (s now : State) (w n : ℕ) (p q : Piece) → s ≡ now → worker_at s w ≡ Holding n → n < length s.pieces → p ≡ get_or s.pieces n p → q ≡ looked s.least p
    → record s { pieces = set s.pieces n q } ≡ (step_of now (Look w)).state
looks_state s now w n p q same is room read new =
    subst (λ (z : State). record s { pieces = set s.pieces n q } ≡ (step_of z (Look w)).state) same
    (subst (λ (k : Worker). record s { pieces = set s.pieces n q } ≡ (step_by s (Look w) k).state) (sym is)
    (at_read (λ (p : Piece). q ≡ looked s.least p → record s { pieces = set s.pieces n q } ≡ record s { pieces = set s.pieces n (looked s.least (piece_at s n)) }) s.pieces n p (untouched no_task) room read
    (λ e. ap (λ (q : Piece). let t : State = record s { pieces = set s.pieces n q } in t) e) new))

pub looks_outcome : (s now : State) (w n : ℕ) (p : Piece) (o : Outcome) → s ≡ now → worker_at s w ≡ Holding n → n < length s.pieces → p ≡ get_or s.pieces n p → o ≡ look_outcome s.least p
    → o ≡ (step_of now (Look w)).outcome
looks_outcome s now w n p o same is room read new =
    subst (λ (z : State). o ≡ (step_of z (Look w)).outcome) same
    (subst (λ (k : Worker). o ≡ (step_by s (Look w) k).outcome) (sym is)
    (at_read (λ (p : Piece). o ≡ look_outcome s.least p → o ≡ look_outcome s.least (piece_at s n)) s.pieces n p (untouched no_task) room read (λ e. e) new))

-- ----------------------------------------------------------------
-- a worker lowers the least value

-- the lesser of two, where one has a cause and the other is what has one or the number of turns
lesser_caused : (P : ℕ → Type 0) (v x turns : ℕ) → P x → (v ≡ turns) ⊎ P v → (min v x ≡ turns) ⊎ P (min v x)
lesser_caused P v x turns new old =
    dite (dec_le v x)
    (λ le. let e : min v x ≡ v = omega arith in ⊎_elim (λ a. inl (e ∙ a)) (λ b. inr (subst P (sym e) b)) old)
    (λ gt. let e : min v x ≡ x = omega arith in inr (subst P (sym e) new))

pub lowers : (s : State) (n v : ℕ) (p : Piece) → Kept s → n < length s.pieces → p ≡ get_or s.pieces n p → p.failed ≡ true → v ≡ min s.least p.next → Kept record s { least = v }
lowers s n v p h room read failed new =
    let here : (p.failed ≡ true) → (m : ℕ) × ((piece_at s m).failed ≡ true) × ((piece_at s m).next ≡ p.next)
    = at_read (λ (p : Piece). (p.failed ≡ true) → (m : ℕ) × ((piece_at s m).failed ≡ true) × ((piece_at s m).next ≡ p.next)) s.pieces n p (untouched no_task) room read (λ e. (n, e, refl)) in
    subst (λ v. Kept record s { least = v }) (sym new) (record {
      pieces = h.pieces;
      placed = record { untouched = h.placed.untouched; drawn = h.placed.drawn; held = h.placed.held; apart = h.placed.apart };
      claim = h.claim;
      cause = lesser_caused (λ v. (m : ℕ) × ((piece_at s m).failed ≡ true) × ((piece_at s m).next ≡ v)) s.least p.next s.turns (here failed) h.cause;
      under = let t = h.under in omega arith;
    })
