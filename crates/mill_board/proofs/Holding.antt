-- The table shows a state of the machine in which a worker holds the piece that its seat has out, as far as it is.
use Rattle.std.proofs.Common.{◌≡◌, ℕ, ◌≤◌, Bool, true, false, set, refl, ap, subst, ◌∙◌, arith, Option, Some, None, IfSome, get_or-set_same}
use Rattle.mill_sched.specs.declared.piece.Piece.{Piece}
use Rattle.mill_sched.specs.declared.piece.Task.{Task}
use Rattle.mill_sched.specs.declared.worker.Worker.TheVariants.{Holding}
use Rattle.mill_sched.specs.States.{State as Core, no_task, piece_at, untouched, worker_at}
use Rattle.mill_sched.specs.Laws.{IsOnTurn, number_of}
use Rattle.mill_board.specs.declared.work.Held.{Held}
use Rattle.mill_board.specs.Works.{Means, FailsAt, IsTrueHeld, PassesBefore}
use Rattle.mill_board.specs.Kept.{Kept}
use Rattle.mill_board.specs.Shows.{IsTaskOf, Shows}
use Rattle.mill_board.specs.Steps.{ShowsHeld}
use Rattle.mill_board.proofs.Failing.{past}
use Rattle.mill_board.proofs.Showing.{core_of, is_shown}
use Rattle.mill_board.proofs.Stepping.{hold_shows, worker_set}

module _ {W P : Type 0} (M : Means W P) (work : W) (n : ℕ) (task : Task) (is : IsTaskOf M work n task) where
  -- what is at none of its failing turns is not past them
  not_past : (next : ℕ) (o : Option ℕ) → task.fails ≡ o → ((f : ℕ) → FailsAt M work n f → next ≤ f) → IfSome o (λ f. next ≤ f)
  not_past next None e all = tt
  not_past next (Some f) e all = all f ((is.fails f).0 e)

  -- a true piece is on the turns of its task
  true_on_turn : (x : Held P) (holder : Option ℕ) → x.number ≡ n → IsTrueHeld M work x → IsOnTurn record { task = task; next = x.next; failed = x.failed; holder = holder }
  true_on_turn x holder number held = by_cases x.failed refl
    where
      by_cases : (b : Bool) → x.failed ≡ b → IsOnTurn record { task = task; next = x.next; failed = x.failed; holder = holder }
      by_cases true e =
          let f = subst (λ k. FailsAt M work k x.next) number (held.failed e).0 in
          let from = f.from in let to = f.to in let first = is.first in let limit = is.limit in
          record { from = omega (arith, from, first); to = omega (arith, to, limit); not_past = not_past x.next task.fails refl (λ u g. past M work n x.next u f.passes g); failed = λ q. (is.fails x.next).1 f }
      by_cases false e =
          let g = held.going e in
          let from = subst (λ k. M.first work k ≤ x.next) number g.0 in
          let to = subst (λ k. x.next ≤ M.limit work k) number g.1 in
          let first = is.first in let limit = is.limit in
          record { from = omega (arith, from, first); to = omega (arith, to, limit); not_past = not_past x.next task.fails refl (λ u f. past M work n x.next u (subst (λ k. PassesBefore M work k x.next) number g.2) f); failed = λ q. absurd (cc) }

pub shows_held : {W P : Type 0} (M : Means W P) → ShowsHeld M (Kept M)
shows_held M terms s turn_of seat v x are k at out held =
    let n : ℕ = x.number in
    let core : Core = core_of M terms s turn_of are k in
    let shown : Shows M terms s core = is_shown M terms s turn_of are k in
    let number : number_of (worker_at core seat) ≡ Some n = shown.numbers seat v at ∙ out in
    let q : Piece = record (piece_at core n) { next = x.next; failed = x.failed; holder = Some seat } in
    let room = (shown.placed.drawn seat n number).1 in
    let on : IsOnTurn q = true_on_turn M terms.work n (piece_at core n).task (shown.tasks n held.number) x (Some seat) refl held in
    let next : Core = record core { pieces = set core.pieces n q; workers = set core.workers seat (Holding n) } in
    let there : piece_at next n ≡ q = get_or-set_same core.pieces n q (untouched no_task) room in (
      next,
      hold_shows M terms s k core seat v shown at n q number refl refl on,
      record { worker = worker_set M terms s core seat v shown at (Holding n); next = ap (λ (p : Piece). p.next) there; failed = ap (λ (p : Piece). p.failed) there },
    )
