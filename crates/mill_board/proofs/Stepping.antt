-- Each step of a seat on the table is one event of the machine: what the table shows afterwards is the state that the event leaves.
use Rattle.std.proofs.Common.{◌≡◌, ◌≢◌, ℕ, zero, suc, ◌+◌, ◌<◌, ◌≤◌, ◌==◌, ◌++◌, min, Bool, true, false, cond, ltb, List, [], ◌∷◌, length, get_or, set, refl, sym, ap, subst, ◌∙◌, arith, ⊎_elim, Some, None, length-set, get_or-set_same, get_or-set_other}
use Rattle.std.proofs.lemmas.Bool.Decides.{nat_tests}
use mathlib.Core.Logic.{dite}
use mathlib.Core.Option.{some, none, some-injective, some-ne-none}
use native.Mathlib.Decide.{ℕ_discrete}
use lib.ListN.{get_elem?}
use Rattle.atomic_table.proofs.Lists.{at_set, set_again, set_else}
use Rattle.mill_sched.specs.declared.event.Event.TheVariants.{Draw, Take, Look, Lower, Put}
use Rattle.mill_sched.specs.declared.piece.Piece.{Piece}
use Rattle.mill_sched.specs.declared.piece.Task.{Task}
use Rattle.mill_sched.specs.declared.worker.Worker.{Worker}
use Rattle.mill_sched.specs.declared.worker.Worker.TheVariants.{Free, Drawn, Holding, Done}
use Rattle.mill_sched.specs.States.{State as Core, no_task, piece_at, untouched, worker_at}
use Rattle.mill_sched.specs.Steps.{Step, is_failure, is_stopped, looked, step_by, step_of, turned}
use Rattle.mill_sched.specs.Laws.{IsOnTurn, IsPlaced, number_of}
use Rattle.mill_sched.proofs.Members.{each_set}
use Rattle.mill_sched.proofs.Events.{by_test, moves_placed}
use Rattle.mill_sched.proofs.Stays.{held_on_turn, on_turn_by, placed_by, turns_set}
use Rattle.mill_board.specs.declared.work.Held.{Held}
use Rattle.mill_board.specs.declared.work.Terms.{Terms}
use Rattle.mill_board.specs.declared.view.View.{View}
use Rattle.mill_board.specs.Works.{Means}
use Rattle.mill_board.specs.Kept.{BoardState, HasHome, HasView, IsOut, Kept, back_of, claim_of, least_of, times}
use Rattle.mill_board.specs.Shows.{IsHomeAs, IsOutWith, IsTaskOf, Shows, idle_worker}
use Rattle.mill_board.specs.Steps.{CanMake, HoldsAs, IsReady, Move, StepsAreEvents, TurnsAreEvents, draws, ends, event_of, looks, lowers, puts, table_after}
use Rattle.mill_board.proofs.Sums.{here, times_push}
use Rattle.mill_board.proofs.Views.{same_some}

-- what is there has a place in the list
pub at_len : {A : Type 0} (l : List A) (i : ℕ) (a : A) → get_elem? l i ≡ some a → i < length l
at_len [] i a e = absurd (some-ne-none a (sym e))
at_len (x ∷ xs) zero a e = omega arith
at_len (x ∷ xs) (suc i) a e = let t = at_len xs i a e in omega (arith, t)

-- a fact of each view by its place, where one is set
pub each_at : {A : Type 0} (Q : ℕ → A → Type 0) (vs : List A) (id : ℕ) (w : A) → ((j : ℕ) (u : A) → j ≢ id → get_elem? vs j ≡ some u → Q j u) → Q id w → (j : ℕ) (u : A) → get_elem? (set vs id w) j ≡ some u → Q j u
each_at {A = A} Q vs id w others one j u e = ⊎_elim
    (λ (t : (j ≡ id) × (w ≡ u)). subst (λ k. Q k u) (sym t.0) (subst (λ (z : A). Q id z) t.1 one))
    (λ (t : (j ≢ id) × (get_elem? vs j ≡ some u)). others j u t.0 t.1) (at_set vs id j w u e)

-- the one of two states that a test chooses
when_true : (Q : Step → Type 0) (b : Bool) (x y : Step) → b ≡ true → Q (cond b x y) → Q x
when_true Q true x y e q = q
when_true Q false x y e q = absurd (cc)

when_false : (Q : Step → Type 0) (b : Bool) (x y : Step) → b ≡ false → Q (cond b x y) → Q y
when_false Q true x y e q = absurd (cc)
when_false Q false x y e q = q

-- a look keeps what a piece was given
looked_task : (least : ℕ) (p : Piece) → (looked least p).task ≡ p.task
looked_task least p = by_test (λ (q : Piece). q.task ≡ p.task) (is_stopped least p) p (turned p) (λ _. refl)
    (λ _. by_test (λ (q : Piece). q.task ≡ p.task) (is_failure p.task.fails p.next) _ _ (λ _. refl) (λ _. refl))

-- each piece has what it was given, where one is set that has
tasks_set : (core : Core) (n : ℕ) (q : Piece) → n < length core.pieces → q.task ≡ (piece_at core n).task
    → (m : ℕ) → (get_or (set core.pieces n q) m (untouched no_task)).task ≡ (piece_at core m).task
tasks_set core n q room same = each_set (λ m (p : Piece). p.task ≡ (piece_at core m).task) core.pieces n q (untouched no_task) room (λ m _. refl) same

module _ {W P : Type 0} (M : Means W P) (terms : Terms W) (s : BoardState W P) (core : Core) (seat : ℕ) (v : View W) (h : Shows M terms s core) (at : HasView s seat v) where
  -- the seat's worker is there
  worker_there : seat < length core.workers
  worker_there = let a = at_len s.views seat v at in let b = h.workers in omega (arith, a, b)

  pub worker_set : (k : Worker) → get_or (set core.workers seat k) seat Done ≡ k
  worker_set k = get_or-set_same core.workers seat k Done worker_there

  worker_else : (k : Worker) (j : ℕ) → j ≢ seat → get_or (set core.workers seat k) j Done ≡ worker_at core j
  worker_else k j ne = get_or-set_other core.workers seat j k Done ne

  -- the seat's number, by its worker
  out_of : (k : Worker) (n : ℕ) → worker_at core seat ≡ k → number_of k ≡ Some n → v.out ≡ Some n
  out_of k n is number = sym (h.numbers seat v at) ∙ ap number_of is ∙ number

  module _ (t : BoardState W P) (next : Core) (w : View W) (views_are : t.views ≡ set s.views seat w)
      (others : (j : ℕ) → j ≢ seat → worker_at next j ≡ worker_at core j) (mine : number_of (worker_at next seat) ≡ w.out) where
    seen_at : (j : ℕ) (u : View W) → get_elem? (set s.views seat w) j ≡ some u → HasView t j u
    seen_at j u e = ap (λ (l : List (View W)). get_elem? l j) views_are ∙ e

    numbers_are : (j : ℕ) (u : View W) → HasView t j u → number_of (worker_at next j) ≡ u.out
    numbers_are j u e = each_at (λ i (z : View W). number_of (worker_at next i) ≡ z.out) s.views seat w (λ i z ne f. ap number_of (others i ne) ∙ h.numbers i z f) mine j u
        (sym (ap (λ (l : List (View W)). get_elem? l j) views_are) ∙ e)

    idle_are : (w.out ≡ None → worker_at next seat ≡ idle_worker w.ended) → (j : ℕ) (u : View W) → HasView t j u → u.out ≡ None → worker_at next j ≡ idle_worker u.ended
    idle_are own j u e = each_at (λ i (z : View W). z.out ≡ None → worker_at next i ≡ idle_worker z.ended) s.views seat w (λ i z ne f free. others i ne ∙ h.idle i z f free) own j u
        (sym (ap (λ (l : List (View W)). get_elem? l j) views_are) ∙ e)

    -- a slot that was out is so still with its seat
    still_out : (n : ℕ) → IsOut s n → (v.out ≡ Some n → (w.out ≡ Some n) × (0 < times n w.drawn)) → (j : ℕ) × (u : View W) × IsOutWith M t next n j u
    still_out n e more =
        let o = h.out n e in
        dite (ℕ_discrete o.0 seat)
        (λ x. let y : some o.1 ≡ some v = sym o.2.view ∙ ap (get_elem? s.views) x ∙ at in let z : o.1.out ≡ v.out = ap (λ (k : View W). k.out) (some-injective o.1 v y) in
        let m = more (sym z ∙ o.2.out) in
        (seat, w, record { view = seen_at seat w (here s.views seat v w at); out = m.0; drawn = m.1; worker = mine ∙ m.0 }))
        (λ ne. (o.0, o.1, record { view = seen_at o.0 o.1 (set_else s.views seat o.0 w ne ∙ o.2.view); out = o.2.out; drawn = o.2.drawn; worker = ap number_of (others o.0 ne) ∙ o.2.worker }))

module _ {W P : Type 0} (M : Means W P) (terms : Terms W) (s : BoardState W P) (k : Kept M terms s) where
  -- what tasks and pieces at home show, where a piece is set whose slot is out
  tasks_stay : (core next : Core) → Shows M terms s core → ((m : ℕ) → (piece_at next m).task ≡ (piece_at core m).task) → (m : ℕ) → m < M.pieces terms.work → IsTaskOf M terms.work m (piece_at next m).task
  tasks_stay core next h same m lt = subst (λ (x : Task). IsTaskOf M terms.work m x) (sym (same m)) (h.tasks m lt)

  home_set : (core : Core) (n : ℕ) (q : Piece) → Shows M terms s core → n < length core.pieces → IsOut s n
      → (m : ℕ) (x : Held P) → HasHome s m (Some x) → IsHomeAs x (get_or (set core.pieces n q) m (untouched no_task))
  home_set core n q h room out m x e =
      let ne : m ≢ n = λ same. let a : get_elem? s.homes m ≡ some none = subst (λ i. get_elem? s.homes i ≡ some none) (sym same) out in let b : some (some (Some x)) ≡ some none = sym e ∙ a in
      some-ne-none (Some x) (some-injective _ _ b) in
      subst (λ (p : Piece). IsHomeAs x p) (sym (get_or-set_other core.pieces n m q (untouched no_task) ne)) (h.home m x e)

  -- ----------------------------------------------------------------
  -- what a worker does by itself

  module _ (core : Core) (seat : ℕ) (v : View W) (h : Shows M terms s core) (at : HasView s seat v) where
    slot_out : (n : ℕ) → v.out ≡ Some n → IsOut s n
    slot_out n out = (k.outs seat v n at out).1

    same_views : s.views ≡ set s.views seat v
    same_views = sym (set_again s.views seat v at)

    -- the seat's worker may hold its piece, wherever on its turns
    pub hold_shows : (n : ℕ) (q : Piece) → number_of (worker_at core seat) ≡ Some n → q.task ≡ (piece_at core n).task → q.holder ≡ Some seat → IsOnTurn q
        → Shows M terms s record core { pieces = set core.pieces n q; workers = set core.workers seat (Holding n) }
    hold_shows n q is task holder on =
        let room = (h.placed.drawn seat n is).1 in
        let next : Core = record core { pieces = set core.pieces n q; workers = set core.workers seat (Holding n) } in
        let out : v.out ≡ Some n = sym (h.numbers seat v at) ∙ is in
        let mine : number_of (worker_at next seat) ≡ v.out = ap number_of (worker_set M terms s core seat v h at (Holding n)) ∙ sym out in
        let others = worker_else M terms s core seat v h at (Holding n) in
        record {
          claim = h.claim;
          least = h.least;
          turns = h.turns;
          pieces = length-set core.pieces n q ∙ h.pieces;
          workers = length-set core.workers seat (Holding n) ∙ h.workers;
          tasks = tasks_stay core next h (tasks_set core n q room task);
          home = home_set core n q h room (slot_out n out);
          out = λ m e. still_out M terms s core seat v h at s next v same_views others mine m e (λ o. (o, (k.outs seat v m at o).0));
          numbers = numbers_are M terms s core seat v h at s next v same_views others mine;
          idle = idle_are M terms s core seat v h at s next v same_views others mine (λ free. absurd (let z : Some n ≡ None = sym out ∙ free in cc));
          placed = moves_placed core seat n (Holding n) q h.placed (worker_there M terms s core seat v h at) is (λ m e. cc) (λ e. holder, λ e. refl) (λ j e. same_some j seat (sym e ∙ holder));
          on_turn = turns_set core n q room h.on_turn on;
        }

    takes_by : (x : Worker) → worker_at core seat ≡ x → Shows M terms s (step_by core (Take seat) x).state
    takes_by (Drawn n) is =
        let room = (h.placed.drawn seat n (ap number_of is)).1 in
        hold_shows n (record (piece_at core n) { holder = Some seat }) (ap number_of is) refl refl (held_on_turn (piece_at core n) (Some seat) (h.on_turn n (untouched no_task) room))
    takes_by Free is = h
    takes_by (Holding n) is = h
    takes_by Done is = h

    looks_by : (x : Worker) → worker_at core seat ≡ x → Shows M terms s (step_by core (Look seat) x).state
    looks_by (Holding n) is =
        let q : Piece = looked core.least (piece_at core n) in
        let room = (h.placed.drawn seat n (ap number_of is)).1 in
        let next : Core = record core { pieces = set core.pieces n q } in
        let out = out_of M terms s core seat v h at (Holding n) n is refl in
        record {
          claim = h.claim;
          least = h.least;
          turns = h.turns;
          pieces = length-set core.pieces n q ∙ h.pieces;
          workers = h.workers;
          tasks = tasks_stay core next h (tasks_set core n q room (looked_task core.least (piece_at core n)));
          home = home_set core n q h room (slot_out n out);
          out = λ m e. let o = h.out m e in (o.0, o.1, record { view = o.2.view; out = o.2.out; drawn = o.2.drawn; worker = o.2.worker });
          numbers = h.numbers;
          idle = h.idle;
          placed = placed_by core (Look seat) (Holding n) is h.placed;
          on_turn = on_turn_by core (Look seat) (Holding n) is h.placed h.on_turn;
        }
    looks_by Free is = h
    looks_by (Drawn n) is = h
    looks_by Done is = h

    take_shows : Shows M terms s (step_of core (Take seat)).state
    take_shows = takes_by (worker_at core seat) refl

    look_shows : Shows M terms s (step_of core (Look seat)).state
    look_shows = looks_by (worker_at core seat) refl

  -- ----------------------------------------------------------------
  -- the least turn

  sees_shows : (core : Core) (seat : ℕ) (v : View W) (x : ℕ) → Shows M terms s core → HasView s seat v
      → Shows M terms record { words = set s.words 1 x; homes = s.homes; views = set s.views seat (record v { seen = x }) } record core { least = x }
  sees_shows core seat v x h at =
      let w : View W = record v { seen = x } in
      let t : BoardState W P = record { words = set s.words 1 x; homes = s.homes; views = set s.views seat w } in
      let next : Core = record core { least = x } in
      let len = k.words in
      record {
        claim = h.claim ∙ sym (get_or-set_other s.words 1 0 x 0 (λ e. omega arith));
        least = sym (get_or-set_same s.words 1 x 0 (omega (arith, len)));
        turns = h.turns;
        pieces = h.pieces;
        workers = h.workers ∙ sym (length-set s.views seat w);
        tasks = h.tasks;
        home = h.home;
        out = λ m e. still_out M terms s core seat v h at t next w refl (λ j ne. refl) (h.numbers seat v at) m e (λ o. (o, (k.outs seat v m at o).0));
        numbers = numbers_are M terms s core seat v h at t next w refl (λ j ne. refl) (h.numbers seat v at);
        idle = idle_are M terms s core seat v h at t next w refl (λ j ne. refl) (h.numbers seat v at) (h.idle seat v at);
        placed = record { untouched = h.placed.untouched; drawn = h.placed.drawn; held = h.placed.held; apart = h.placed.apart };
        on_turn = h.on_turn;
      }

  look_step : (core : Core) (seat : ℕ) (v : View W) → Shows M terms s core → HasView s seat v → Shows M terms (table_after s seat v looks) (step_of core (Look seat)).state
  look_step core seat v h at =
      let next : Core = (step_of core (Look seat)).state in
      let g : Shows M terms s next = look_shows core seat v h at in
      subst (λ x. Shows M terms (table_after s seat v looks) record next { least = x }) (sym g.least) (sees_shows next seat v (least_of s) g at)

  lower_step : (core : Core) (seat : ℕ) (v : View W) (x : Held P) → Shows M terms s core → HasView s seat v → x.failed ≡ true → HoldsAs core seat x
      → Shows M terms (table_after s seat v (lowers x)) (step_of core (Lower seat)).state
  lower_step core seat v x h at failed held =
      let n : ℕ = x.number in
      let least : min (least_of s) x.next ≡ min core.least (piece_at core n).next = ap (λ i. min i x.next) (sym h.least) ∙ ap (λ i. min core.least i) (sym held.next) in
      let done : Shows M terms (table_after s seat v (lowers x)) record core { least = min core.least (piece_at core n).next }
      = subst (λ i. Shows M terms (table_after s seat v (lowers x)) record core { least = i }) least (sees_shows core seat v (min (least_of s) x.next) h at) in
      subst (λ (i : Worker). Shows M terms (table_after s seat v (lowers x)) (step_by core (Lower seat) i).state) (sym held.worker)
      (by_test (λ (i : Step). Shows M terms (table_after s seat v (lowers x)) i.state) (piece_at core n).failed _ _ (λ _. done) (λ e. absurd (let f = held.failed in cc)))

  -- ----------------------------------------------------------------
  -- the claim

  draw_step : (core : Core) (seat : ℕ) (v : View W) → Shows M terms s core → HasView s seat v → v.out ≡ None → v.ended ≡ None → claim_of s < M.pieces terms.work
      → Shows M terms (table_after s seat v draws) (step_of core (Draw seat)).state
  draw_step core seat v h at free going room =
      let c : ℕ = claim_of s in
      let w : View W = record v { drawn = v.drawn ++ c ∷ []; out = Some c } in
      let t : BoardState W P = table_after s seat v draws in
      let next : Core = record core { claim = core.claim + 1; workers = set core.workers seat (Drawn core.claim) } in
      let is : worker_at core seat ≡ Free = h.idle seat v at free ∙ ap idle_worker going in
      let len = k.words in let slots = k.slots in let claim = h.claim in let count = h.pieces in
      let mine : number_of (worker_at next seat) ≡ w.out = ap number_of (worker_set M terms s core seat v h at (Drawn core.claim)) ∙ ap Some h.claim in
      let others = worker_else M terms s core seat v h at (Drawn core.claim) in
      let one : 0 < times c w.drawn = let q = times_push c c v.drawn in let one_n : ℕ = 1 in let r : cond (c == c) 1 0 ≡ one_n = grind (arith, nat_tests) in omega (arith, q, r) in
      subst (λ (i : Worker). Shows M terms t (step_by core (Draw seat) i).state) (sym is)
      (by_test (λ (i : Step). Shows M terms t i.state) (ltb core.claim (length core.pieces)) _ _
      (λ b. record {
        claim = ap (λ i. i + 1) h.claim ∙ sym (get_or-set_same s.words 0 (c + 1) 0 (omega (arith, len)));
        least = h.least ∙ sym (get_or-set_other s.words 0 1 (c + 1) 0 (λ e. omega arith));
        turns = h.turns;
        pieces = h.pieces;
        workers = length-set core.workers seat (Drawn core.claim) ∙ h.workers ∙ sym (length-set s.views seat w);
        tasks = h.tasks;
        home = λ n x e. ⊎_elim (λ (i : (n ≡ c) × (none ≡ some (Some x))). absurd (some-ne-none (Some x) (sym i.1))) (λ (i : (n ≢ c) × (get_elem? s.homes n ≡ some (some (Some x)))). h.home n x i.1) (at_set s.homes c n none (some (Some x)) e);
        out = λ n e. ⊎_elim
            (λ (i : (n ≡ c) × (none ≡ none)). (seat, w, record { view = here s.views seat v w at; out = ap Some (sym i.0); drawn = subst (λ m. 0 < times m w.drawn) (sym i.0) one; worker = mine ∙ ap Some (sym i.0) }))
            (λ (i : (n ≢ c) × (get_elem? s.homes n ≡ some none)). still_out M terms s core seat v h at t next w refl others mine n i.1 (λ o. absurd (let z : None ≡ Some n = sym free ∙ o in cc)))
            (at_set s.homes c n none none e);
        numbers = numbers_are M terms s core seat v h at t next w refl others mine;
        idle = idle_are M terms s core seat v h at t next w refl others mine (λ e. absurd (cc));
        placed = when_true (λ i. IsPlaced i.state) (ltb core.claim (length core.pieces)) _ _ b (placed_by core (Draw seat) Free is h.placed);
        on_turn = h.on_turn;
      })
      (λ b. absurd (let le : length core.pieces ≤ core.claim = grind (arith, nat_tests) in omega (arith, le, claim, count, room))))

  end_step : (core : Core) (seat : ℕ) (v : View W) → Shows M terms s core → HasView s seat v → v.out ≡ None → v.ended ≡ None → M.pieces terms.work ≤ claim_of s
      → Shows M terms (table_after s seat v ends) (step_of core (Draw seat)).state
  end_step core seat v h at free going over =
      let c : ℕ = claim_of s in
      let w : View W = record v { ended = Some c } in
      let t : BoardState W P = table_after s seat v ends in
      let next : Core = record core { claim = core.claim + 1; workers = set core.workers seat Done } in
      let is : worker_at core seat ≡ Free = h.idle seat v at free ∙ ap idle_worker going in
      let len = k.words in let claim = h.claim in let count = h.pieces in
      let mine : number_of (worker_at next seat) ≡ w.out = ap number_of (worker_set M terms s core seat v h at Done) ∙ sym free in
      let others = worker_else M terms s core seat v h at Done in
      subst (λ (i : Worker). Shows M terms t (step_by core (Draw seat) i).state) (sym is)
      (by_test (λ (i : Step). Shows M terms t i.state) (ltb core.claim (length core.pieces)) _ _
      (λ b. absurd (let lt : core.claim < length core.pieces = grind (arith, nat_tests) in omega (arith, lt, claim, count, over)))
      (λ b. record {
        claim = ap (λ i. i + 1) h.claim ∙ sym (get_or-set_same s.words 0 (c + 1) 0 (omega (arith, len)));
        least = h.least ∙ sym (get_or-set_other s.words 0 1 (c + 1) 0 (λ e. omega arith));
        turns = h.turns;
        pieces = h.pieces;
        workers = length-set core.workers seat Done ∙ h.workers ∙ sym (length-set s.views seat w);
        tasks = h.tasks;
        home = h.home;
        out = λ n e. still_out M terms s core seat v h at t next w refl others mine n e (λ o. absurd (let z : None ≡ Some n = sym free ∙ o in cc));
        numbers = numbers_are M terms s core seat v h at t next w refl others mine;
        idle = idle_are M terms s core seat v h at t next w refl others mine (λ e. worker_set M terms s core seat v h at Done);
        placed = when_false (λ i. IsPlaced i.state) (ltb core.claim (length core.pieces)) _ _ b (placed_by core (Draw seat) Free is h.placed);
        on_turn = h.on_turn;
      }))

  -- ----------------------------------------------------------------
  -- a piece comes home

  put_step : (core : Core) (seat : ℕ) (v : View W) (x : Held P) → Shows M terms s core → HasView s seat v → v.out ≡ Some x.number → HoldsAs core seat x
      → Shows M terms (table_after s seat v (puts x)) (step_of core (Put seat)).state
  put_step core seat v x h at out held =
      let n : ℕ = x.number in
      let w : View W = record v { out = None } in
      let t : BoardState W P = table_after s seat v (puts x) in
      let q : Piece = record (piece_at core n) { holder = None } in
      let next : Core = record core { pieces = set core.pieces n q; workers = set core.workers seat Free } in
      let is : worker_at core seat ≡ Holding n = held.worker in
      let room = (h.placed.drawn seat n (ap number_of is)).1 in
      let b : ℕ = back_of s in
      let mine : number_of (worker_at next seat) ≡ w.out = ap number_of (worker_set M terms s core seat v h at Free) in
      let others = worker_else M terms s core seat v h at Free in
      subst (λ (i : Worker). Shows M terms t (step_by core (Put seat) i).state) (sym is)
      (record {
        claim = h.claim ∙ sym (get_or-set_other s.words 2 0 (b + 1) 0 (λ e. omega arith));
        least = h.least ∙ sym (get_or-set_other s.words 2 1 (b + 1) 0 (λ e. omega arith));
        turns = h.turns;
        pieces = length-set core.pieces n q ∙ h.pieces;
        workers = length-set core.workers seat Free ∙ h.workers ∙ sym (length-set s.views seat w);
        tasks = tasks_stay core next h (tasks_set core n q room refl);
        home = λ m y e. ⊎_elim
            (λ (i : (m ≡ n) × (some (Some x) ≡ some (Some y))). let same : x ≡ y = same_some x y (some-injective _ _ i.1) in
            let there : piece_at next m ≡ q = ap (λ j. piece_at next j) i.0 ∙ get_or-set_same core.pieces n q (untouched no_task) room in
            subst (λ (p : Piece). IsHomeAs y p) (sym there) (subst (λ (z : Held P). IsHomeAs z q) same (record { next = held.next; failed = held.failed; home = refl })))
            (λ (i : (m ≢ n) × (get_elem? s.homes m ≡ some (some (Some y)))). subst (λ (p : Piece). IsHomeAs y p) (sym (get_or-set_other core.pieces n m q (untouched no_task) i.0)) (h.home m y i.1))
            (at_set s.homes n m (some (Some x)) (some (Some y)) e);
        out = λ m e. ⊎_elim (λ (i : (m ≡ n) × (some (Some x) ≡ none)). absurd (some-ne-none (Some x) i.1))
            (λ (i : (m ≢ n) × (get_elem? s.homes m ≡ some none)). still_out M terms s core seat v h at t next w refl others mine m i.1 (λ o. absurd (let z : Some m ≡ Some n = sym o ∙ out in i.0 (same_some m n z))))
            (at_set s.homes n m (some (Some x)) none e);
        numbers = numbers_are M terms s core seat v h at t next w refl others mine;
        idle = idle_are M terms s core seat v h at t next w refl others mine (λ e. worker_set M terms s core seat v h at Free ∙ ap idle_worker (sym (k.busy seat v n at out)));
        placed = placed_by core (Put seat) (Holding n) is h.placed;
        on_turn = on_turn_by core (Put seat) (Holding n) is h.placed h.on_turn;
      })

  step_shows : (core : Core) (seat : ℕ) (v : View W) (m : Move P) → Shows M terms s core → HasView s seat v → CanMake M terms s v m → IsReady core seat m → Shows M terms (table_after s seat v m) (step_of core (event_of seat m)).state
  step_shows core seat v draws h at can ready = draw_step core seat v h at can.0 can.1 can.2
  step_shows core seat v ends h at can ready = end_step core seat v h at can.0 can.1 can.2
  step_shows core seat v looks h at can ready = look_step core seat v h at
  step_shows core seat v (lowers x) h at can ready = lower_step core seat v x h at can.1 ready
  step_shows core seat v (puts x) h at can ready = put_step core seat v x h at can ready

pub steps_are_events : {W P : Type 0} (M : Means W P) → StepsAreEvents M (Kept M)
steps_are_events M terms s core seat v m k h at can ready = step_shows M terms s k core seat v m h at can ready

pub turns_are_events : {W P : Type 0} (M : Means W P) → TurnsAreEvents M (Kept M)
turns_are_events M terms s core seat v k h at = (take_shows M terms s k core seat v h at, look_shows M terms s k core seat v h at)
