-- What is known of turns and of the least value, where the work fits.
use Rattle.std.proofs.Common.{◌≡◌, ◌∙◌, ℕ, ◌<◌, ◌≤◌, List, [], ◌∷◌, length, get_or, refl, sym, ap, subst, suc, zero, arith, ⊎_elim, Option, Some, None}
use Rattle.std.specs.Prelude.{All, IfSome, unwrap_or}
use Rattle.std.proofs.Math.ListN.{get_or-map}
use Rattle.std.proofs.lemmas.List.{length-map}
use Rattle.std.proofs.lemmas.List.Elements.{All-from_get_or}
use Rattle.mill_sched.specs.declared.piece.Task.{Task}
use Rattle.mill_sched.specs.declared.piece.Piece.{Piece}
use Rattle.mill_sched.specs.States.{State, piece_at, untouched, no_task, work_of}
use Rattle.mill_sched.specs.Laws.{Fits, IsFit, IsOnTurn, IsSettled, NeedsNoTurn, least_of, least_failure}
use Rattle.mill_sched.specs.Kept.{Kept}

-- ----------------------------------------------------------------
-- a turn that may be given

if_some_at : (P : ℕ → Type 0) (o : Option ℕ) (f : ℕ) → IfSome o P → o ≡ Some f → P f
if_some_at P o f h e = subst (λ (o : Option ℕ). IfSome o P) e h

if_some_from : (P : ℕ → Type 0) (o : Option ℕ) → ((f : ℕ) → o ≡ Some f → P f) → IfSome o P
if_some_from P None h = tt
if_some_from P (Some f) h = h f refl

-- ----------------------------------------------------------------
-- the turns of a piece

-- the task of a piece, by the list of tasks
task_at : (s : State) (n : ℕ) → get_or (work_of s).tasks n no_task ≡ (piece_at s n).task
task_at s n = get_or-map (λ (p : Piece). p.task) s.pieces n (untouched no_task)

fit_at : (s : State) (n : ℕ) → Fits (work_of s) → n < length s.pieces → IsFit s.turns (piece_at s n).task
fit_at s n fits within = let len = length-map s.pieces (λ (p : Piece). p.task) in subst (λ (t : Task). IsFit s.turns t) (task_at s n) (fits n no_task (omega (arith, len)))

pub on_turn : (s : State) (n : ℕ) → Kept s → Fits (work_of s) → n < length s.pieces → IsOnTurn (piece_at s n)
on_turn s n h fits within =
    let fit = fit_at s n fits within in
    let on = h.pieces n in
    record {
      from = on.from;
      to = on.to fit.order;
      not_past = if_some_from (λ f. (piece_at s n).next ≤ f) (piece_at s n).task.fails
          (λ f e. let own = if_some_at (λ f. ((piece_at s n).task.first ≤ f) × (f < (piece_at s n).task.limit)) (piece_at s n).task.fails f fit.fails e in on.not_past f e own.0);
      failed = on.failed;
    }

pub all_on_turn : (s : State) → Kept s → Fits (work_of s) → All IsOnTurn s.pieces
all_on_turn s h fits = All-from_get_or IsOnTurn s.pieces (untouched no_task) (λ n within. on_turn s n h fits within)

-- ----------------------------------------------------------------
-- the least failure

least_low : (turns : ℕ) (tasks : List Task) → least_of turns tasks ≤ turns
least_low turns [] = omega arith
least_low turns (t ∷ ts) = let a = least_low turns ts in omega arith

-- no piece fails under it
least_under : (turns : ℕ) (tasks : List Task) (n f : ℕ) → (get_or tasks n no_task).fails ≡ Some f → least_of turns tasks ≤ f
least_under turns [] n f e = absurd (cc)
least_under turns (t ∷ ts) zero f e = let here : unwrap_or t.fails turns ≡ f = ap (λ (o : Option ℕ). unwrap_or o turns) e in omega arith
least_under turns (t ∷ ts) (suc n) f e = let a = least_under turns ts n f e in omega arith

over_given : (v turns : ℕ) (o : Option ℕ) → v ≤ turns → ((f : ℕ) → o ≡ Some f → v ≤ f) → v ≤ unwrap_or o turns
over_given v turns None low h = low
over_given v turns (Some f) low h = h f refl

-- it is over what is over no failing turn
least_over : (v turns : ℕ) (tasks : List Task) → v ≤ turns → ((n f : ℕ) → n < length tasks → (get_or tasks n no_task).fails ≡ Some f → v ≤ f) → v ≤ least_of turns tasks
least_over v turns [] low h = low
least_over v turns (t ∷ ts) low h =
    let here = over_given v turns t.fails low (λ f e. h 0 f (omega arith) e) in
    let rest = least_over v turns ts low (λ n f within e. h (suc n) f (omega arith) e) in
    omega arith

-- the least value is never under the least failure
pub never_under : (s : State) → Kept s → least_failure (work_of s) ≤ s.least
never_under s h = ⊎_elim
    (λ e. let low = least_low s.turns (work_of s).tasks in omega (arith, e, low))
    (λ t. let fails = (h.pieces t.0).failed t.1 in
    let given : (get_or (work_of s).tasks t.0 no_task).fails ≡ Some s.least = ap (λ (x : Task). x.fails) (task_at s t.0) ∙ fails ∙ ap Some t.2 in
    least_under s.turns (work_of s).tasks t.0 s.least given)
    h.cause

-- where a piece needs no turn, the least value isn't over its failing turn
settled_at : (s : State) (n f : ℕ) → Kept s → Fits (work_of s) → n < length s.pieces → NeedsNoTurn s.least (piece_at s n) → (piece_at s n).task.fails ≡ Some f → s.least ≤ f
settled_at s n f h fits within settled e =
    let fit = fit_at s n fits within in
    let on = h.pieces n in
    let own = if_some_at (λ f. ((piece_at s n).task.first ≤ f) × (f < (piece_at s n).task.limit)) (piece_at s n).task.fails f fit.fails e in
    let not_past = on.not_past f e own.0 in
    ⊎_elim
    (λ t. let is : Some (piece_at s n).next ≡ Some f = sym (on.failed t.0) ∙ e in let same : (piece_at s n).next ≡ f = cc in let le = t.1 in omega arith)
    (λ t. ⊎_elim (λ through. let under = own.1 in absurd (omega arith)) (λ over. omega arith) t)
    settled

-- where nothing is left to be done, the least value is the least failure
pub settled_least : (s : State) → Kept s → Fits (work_of s) → IsSettled s → s.least ≡ least_failure (work_of s)
settled_least s h fits settled =
    let len = length-map s.pieces (λ (p : Piece). p.task) in
    let over = least_over s.least s.turns (work_of s).tasks h.under
    (λ n f within e. let there : n < length s.pieces = omega (arith, len) in
    settled_at s n f h fits there (settled n (untouched no_task) there) (ap (λ (x : Task). x.fails) (sym (task_at s n)) ∙ e)) in
    let under = never_under s h in
    omega arith
