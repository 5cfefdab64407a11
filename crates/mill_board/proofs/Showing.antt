-- Whenever the rule holds, the table shows a state of the machine of events: its pieces at home are as in their slots, and the others as if their workers had drawn them and not taken them yet.
use Rattle.std.proofs.Common.{◌≡◌, ℕ, zero, suc, ◌+◌, ◌<◌, ◌≤◌, min, Bool, true, false, List, [], ◌∷◌, length, get_or, map, refl, sym, ap, subst, ◌∙◌, arith, Option, Some, None, IfSome, lt_of_not-le, add-zero}
use Rattle.std.proofs.lemmas.List.{length-map}
use mathlib.Core.Logic.{dite}
use mathlib.Core.Option.{some, none, some-injective, some-ne-none}
use native.Mathlib.Decide.{dec_le, ℕ_discrete}
use lib.ListN.{get_elem?}
use Rattle.mill_sched.specs.declared.piece.Task.{Task}
use Rattle.mill_sched.specs.declared.piece.Piece.{Piece}
use Rattle.mill_sched.specs.declared.worker.Worker.{Worker}
use Rattle.mill_sched.specs.declared.worker.Worker.TheVariants.{Drawn, Holding, Done}
use Rattle.mill_sched.specs.States.{State as Core, no_task, piece_at, untouched}
use Rattle.mill_sched.specs.Laws.{IsOnTurn, IsPlaced, IsUntouched, number_of}
use Rattle.mill_board.specs.declared.work.Held.{Held}
use Rattle.mill_board.specs.declared.work.Terms.{Terms}
use Rattle.mill_board.specs.declared.view.View.{View}
use Rattle.mill_board.specs.Works.{Means, FailsAt, IsTrueHeld, PassesBefore, started}
use Rattle.mill_board.specs.Kept.{BoardState, HasView, Kept, claim_of, least_of, times}
use Rattle.mill_board.specs.Shows.{AreFails, IsHomeAs, Shows, ShowsCore, idle_worker}
use Rattle.mill_board.proofs.Failing.{past}
use Rattle.mill_board.proofs.Sums.{once_at_most, once_in, sum_has, sum_has_two}
use Rattle.mill_board.proofs.Views.{same_some}

-- the worker of a seat, by the number that it has out and the one at which it has ended
abbrev worker_by : Option ℕ → Option ℕ → Worker
worker_by (Some n) ended = Drawn n
worker_by None ended = idle_worker ended

worker_number : (out : Option ℕ) (ended : Option ℕ) → number_of (worker_by out ended) ≡ out
worker_number (Some n) ended = refl
worker_number None (Some m) = refl
worker_number None None = refl

worker_holds_none : (out : Option ℕ) (ended : Option ℕ) (n : ℕ) → worker_by out ended ≡ Holding n → ⊥
worker_holds_none (Some m) ended n e = cc
worker_holds_none None (Some m) n e = cc
worker_holds_none None None n e = cc

module _ {W : Type 0} where
  abbrev worker_of : View W → Worker
  worker_of v = worker_by v.out v.ended

  abbrev workers_of : List (View W) → List Worker
  workers_of vs = map worker_of vs

  worker_there : (vs : List (View W)) (seat : ℕ) (v : View W) → get_elem? vs seat ≡ some v → get_or (workers_of vs) seat Done ≡ worker_of v
  worker_there [] seat v e = absurd (some-ne-none v (sym e))
  worker_there (x ∷ xs) zero v e = ap worker_of (some-injective x v e)
  worker_there (x ∷ xs) (suc seat) v e = worker_there xs seat v e

  -- a worker with a number is the one of a seat that has it out
  seat_of : (vs : List (View W)) (seat n : ℕ) → number_of (get_or (workers_of vs) seat Done) ≡ Some n → (v : View W) × (get_elem? vs seat ≡ some v) × (v.out ≡ Some n)
  seat_of [] seat n e = absurd (cc)
  seat_of (x ∷ xs) zero n e = (x, refl, sym (worker_number x.out x.ended) ∙ e)
  seat_of (x ∷ xs) (suc seat) n e = seat_of xs seat n e

  holds_none : (vs : List (View W)) (seat n : ℕ) → get_or (workers_of vs) seat Done ≡ Holding n → ⊥
  holds_none [] seat n e = cc
  holds_none (x ∷ xs) zero n e = worker_holds_none x.out x.ended n e
  holds_none (x ∷ xs) (suc seat) n e = holds_none xs seat n e

module _ {W P : Type 0} (M : Means W P) (work : W) (turn_of : ℕ → Option ℕ) where
  abbrev task_of : ℕ → Task
  task_of n = record { first = M.first work n; limit = M.limit work n; fails = turn_of n }

  abbrev piece_of : ℕ → mathlib.Core.Option.Option (Option (Held P)) → Piece
  piece_of n none = untouched (task_of n)
  piece_of n (some None) = untouched (task_of n)
  piece_of n (some (Some h)) = record { task = task_of n; next = h.next; failed = h.failed; holder = None }

  abbrev pieces_from : ℕ → List (mathlib.Core.Option.Option (Option (Held P))) → List Piece
  pieces_from n [] = []
  pieces_from n (x ∷ xs) = piece_of n x ∷ pieces_from (suc n) xs

  pieces_len : (n : ℕ) (xs : List (mathlib.Core.Option.Option (Option (Held P)))) → length (pieces_from n xs) ≡ length xs
  pieces_len n [] = refl
  pieces_len n (x ∷ xs) = let t = pieces_len (suc n) xs in omega (arith, t)

  piece_there : (k : ℕ) (xs : List (mathlib.Core.Option.Option (Option (Held P)))) (n : ℕ) (x : mathlib.Core.Option.Option (Option (Held P))) (d : Piece) → get_elem? xs n ≡ some x → get_or (pieces_from k xs) n d ≡ piece_of (n + k) x
  piece_there k [] n x d e = absurd (some-ne-none x (sym e))
  piece_there k (y ∷ ys) zero x d e = ap (piece_of k) (some-injective y x e) ∙ (let q : k ≡ zero + k = omega arith in ap (λ m. piece_of m x) q)
  piece_there k (y ∷ ys) (suc n) x d e = piece_there (suc k) ys n x d e ∙ (let q : n + suc k ≡ suc n + k = omega arith in ap (λ m. piece_of m x) q)

  slot_there : (xs : List (mathlib.Core.Option.Option (Option (Held P)))) (n : ℕ) → n < length xs → (x : mathlib.Core.Option.Option (Option (Held P))) × (get_elem? xs n ≡ some x)
  slot_there [] n lt = absurd (omega arith)
  slot_there (x ∷ xs) zero lt = (x, refl)
  slot_there (x ∷ xs) (suc n) lt = slot_there xs n (omega arith)

  past_all : (k : ℕ) (xs : List (mathlib.Core.Option.Option (Option (Held P)))) (n : ℕ) (d : Piece) → length xs ≤ n → get_or (pieces_from k xs) n d ≡ d
  past_all k [] n d le = refl
  past_all k (x ∷ xs) zero d le = absurd (omega arith)
  past_all k (x ∷ xs) (suc n) d le = past_all (suc k) xs n d (omega arith)

  task_there : (n : ℕ) (x : mathlib.Core.Option.Option (Option (Held P))) → (piece_of n x).task ≡ task_of n
  task_there n none = refl
  task_there n (some None) = refl
  task_there n (some (Some h)) = refl

  no_holder : (n : ℕ) (x : mathlib.Core.Option.Option (Option (Held P))) → (piece_of n x).holder ≡ None
  no_holder n none = refl
  no_holder n (some None) = refl
  no_holder n (some (Some h)) = refl

  pieces_free : (k : ℕ) (xs : List (mathlib.Core.Option.Option (Option (Held P)))) (n : ℕ) → (get_or (pieces_from k xs) n (untouched no_task)).holder ≡ None
  pieces_free k [] n = refl
  pieces_free k (x ∷ xs) zero = no_holder k x
  pieces_free k (x ∷ xs) (suc n) = pieces_free (suc k) xs n

module _ {W P : Type 0} (M : Means W P) (work : W) (turn_of : ℕ → Option ℕ) (are : AreFails M work turn_of) where
  -- what is at a failing turn is not past it
  not_past : (n next : ℕ) (o : Option ℕ) → turn_of n ≡ o → n < M.pieces work → ((f : ℕ) → FailsAt M work n f → next ≤ f) → IfSome o (λ f. next ≤ f)
  not_past n next None e under all = tt
  not_past n next (Some f) e under all = all f ((are n f under).0 e)

  untouched_on_turn : (n : ℕ) → n < M.pieces work → M.first work n ≤ M.limit work n → IsOnTurn (untouched (task_of M work turn_of n))
  untouched_on_turn n under span = record { from = omega arith; to = span; not_past = not_past n (M.first work n) (turn_of n) refl under (λ f fails_there. fails_there.from); failed = λ e. absurd (cc) }

  held_on_turn : (n : ℕ) (h : Held P) → n < M.pieces work → h.number ≡ n → IsTrueHeld M work h → IsOnTurn (piece_of M work turn_of n (some (Some h)))
  held_on_turn n h under number is = by_cases h.failed refl
    where
      by_cases : (b : Bool) → h.failed ≡ b → IsOnTurn (piece_of M work turn_of n (some (Some h)))
      by_cases true e =
          let f = subst (λ k. FailsAt M work k h.next) number (is.failed e).0 in
          let from = f.from in let to = f.to in
          record { from = from; to = omega (arith, to); not_past = not_past n h.next (turn_of n) refl under (λ u g. past M work n h.next u f.passes g); failed = λ q. (are n h.next under).1 f }
      by_cases false e =
          let g = is.going e in
          let from = subst (λ k. M.first work k ≤ h.next) number g.0 in
          let to = subst (λ k. h.next ≤ M.limit work k) number g.1 in
          record { from = from; to = to; not_past = not_past n h.next (turn_of n) refl under (λ u f. past M work n h.next u (subst (λ k. PassesBefore M work k h.next) number g.2) f); failed = λ q. absurd (cc) }

module _ {W P : Type 0} (M : Means W P) (terms : Terms W) (s : BoardState W P) (turn_of : ℕ → Option ℕ) (are : AreFails M terms.work turn_of) (h : Kept M terms s) where
  -- the state that is shown
  abbrev pub core_of : Core
  core_of = record { claim = claim_of s; least = least_of s; turns = terms.turns; pieces = pieces_from M terms.work turn_of 0 s.homes; workers = workers_of s.views }

  piece_is : (n : ℕ) (x : mathlib.Core.Option.Option (Option (Held P))) (d : Piece) → get_elem? s.homes n ≡ some x → get_or (pieces_from M terms.work turn_of 0 s.homes) n d ≡ piece_of M terms.work turn_of n x
  piece_is n x d e = piece_there M terms.work turn_of 0 s.homes n x d e ∙ ap (λ m. piece_of M terms.work turn_of m x) (add-zero n)

  -- a number that is out is under the claim and the pieces
  out_under : (seat : ℕ) (v : View W) (n : ℕ) → HasView s seat v → v.out ≡ Some n → (n < claim_of s) × (n < length s.homes)
  out_under seat v n at out =
      let one = (h.outs seat v n at out).0 in let all = sum_has (λ (u : View W). times n u.drawn) s.views seat v at in let sum = h.numbers n in let slots = h.slots in
      let t = once_in n (claim_of s) (M.pieces terms.work) (omega (arith, one, all, sum)) in let b = t.1 in (t.0, omega (arith, b, slots))

  -- no two seats have one number out
  apart : (i j : ℕ) (v w : View W) (n : ℕ) → HasView s i v → HasView s j w → v.out ≡ Some n → w.out ≡ Some n → i ≡ j
  apart i j v w n at at' out out' = dite (ℕ_discrete i j) (λ (e : i ≡ j). e)
      (λ ne. let a = (h.outs i v n at out).0 in let b = (h.outs j w n at' out').0 in let two = sum_has_two (λ (u : View W). times n u.drawn) s.views i j v w ne at at' in
      let sum = h.numbers n in let most = once_at_most n (min (claim_of s) (M.pieces terms.work)) in absurd (omega (arith, a, b, two, sum, most)))

  untouched_from : (n : ℕ) → claim_of s ≤ n → IsUntouched (piece_at core_of n)
  untouched_from n le = dite (dec_le (length s.homes) n)
      (λ over. subst IsUntouched (sym (past_all M terms.work turn_of 0 s.homes n (untouched no_task) over)) (record { next = refl; unfailed = refl; home = refl }))
      (λ gt. let lt = lt_of_not-le gt in let slots = h.slots in
      subst IsUntouched (sym (piece_is n (some (Some (started M terms.work n))) (untouched no_task) (h.untouched n le (omega (arith, lt, slots))))) (record { next = refl; unfailed = refl; home = refl }))

  is_placed : IsPlaced core_of
  is_placed = record {
    untouched = untouched_from;
    drawn = λ w n e. let t = seat_of s.views w n e in let u = out_under w t.0 n t.1 t.2 in (u.0, let b = u.1 in let len = pieces_len M terms.work turn_of 0 s.homes in omega (arith, b, len));
    held = λ w n. (λ e. absurd (holds_none s.views w n e), λ e. let no = pieces_free M terms.work turn_of 0 s.homes n in absurd (cc));
    apart = λ v w n e f. let a = seat_of s.views v n e in let b = seat_of s.views w n f in apart v w a.0 b.0 n a.1 b.1 a.2 b.2;
  }

  slot_on_turn : (n : ℕ) (x : mathlib.Core.Option.Option (Option (Held P))) → get_elem? s.homes n ≡ some x → n < M.pieces terms.work → IsOnTurn (piece_of M terms.work turn_of n x)
  slot_on_turn n none e lt = untouched_on_turn M terms.work turn_of are n lt (h.spans n lt).0
  slot_on_turn n (some None) e lt = untouched_on_turn M terms.work turn_of are n lt (h.spans n lt).0
  slot_on_turn n (some (Some k)) e lt =
      let t = h.home n (Some k) e in let is : k ≡ t.0 = same_some k t.0 t.1 in
      held_on_turn M terms.work turn_of are n k lt (ap (λ (q : Held P). q.number) is ∙ t.2) (subst (λ (q : Held P). IsTrueHeld M terms.work q) (sym is) t.3)

  pub is_shown : Shows M terms s core_of
  is_shown =
      let slots = h.slots in
      record {
        claim = refl;
        least = refl;
        turns = refl;
        pieces = pieces_len M terms.work turn_of 0 s.homes ∙ h.slots;
        workers = length-map s.views worker_of;
        tasks = λ n lt. let x = slot_there M terms.work turn_of s.homes n (omega (arith, lt, slots)) in
            let is : (piece_at core_of n).task ≡ task_of M terms.work turn_of n = ap (λ (p : Piece). p.task) (piece_is n x.0 (untouched no_task) x.1) ∙ task_there M terms.work turn_of n x.0 in
            record {
              first = ap (λ (t : Task). t.first) is;
              limit = ap (λ (t : Task). t.limit) is;
              fails = λ t. let same : (piece_at core_of n).task.fails ≡ turn_of n = ap (λ (k : Task). k.fails) is in
                  ((λ e. (are n t lt).0 (sym same ∙ e)), λ f. same ∙ (are n t lt).1 f);
            };
        home = λ n k e. subst (λ (p : Piece). IsHomeAs k p) (sym (piece_is n (some (Some k)) (untouched no_task) e)) (record { next = refl; failed = refl; home = refl });
        out = λ n e. let o = h.owned n e in (o.0, o.1, record { view = o.2; out = o.3; drawn = (h.outs o.0 o.1 n o.2 o.3).0; worker = ap number_of (worker_there s.views o.0 o.1 o.2) ∙ worker_number o.1.out o.1.ended ∙ o.3 });
        numbers = λ seat v at. ap number_of (worker_there s.views seat v at) ∙ worker_number v.out v.ended;
        idle = λ seat v at free. worker_there s.views seat v at ∙ ap (λ o. worker_by o v.ended) free;
        placed = is_placed;
        on_turn = λ k d lt. let len = pieces_len M terms.work turn_of 0 s.homes in let x = slot_there M terms.work turn_of s.homes k (omega (arith, lt, len)) in
            subst IsOnTurn (sym (piece_is k x.0 d x.1)) (slot_on_turn k x.0 x.1 (omega (arith, lt, len, slots)));
      }

pub shows_core : {W P : Type 0} (M : Means W P) → ShowsCore M (Kept M)
shows_core M terms s turn_of are h = (core_of M terms s turn_of are h, is_shown M terms s turn_of are h)
