use Rattle.std.proofs.Common.{ℕ, sym, subst}
use Rattle.mill_board.specs.Works.{HasPassedTo, IsDue}
use Rattle.mill_verify.specs.declared.piece.Piece.{Piece}
use Rattle.mill_verify.specs.declared.piece.Piece.TheVariants.{Stock}
use Rattle.mill_verify.specs.inner.Pieces.{TestsShown, tests}
use Rattle.mill_verify.specs.inner.Readiness.{rows_at}
use Rattle.mill_verify.proofs.Sharing.{row_due, row_goes_over, row_next}
use Rattle.mill_verify.proofs.work.TestsWork.pass_over.Goals as goal

pub go_over-requires-clause-row : goal.go_over-requires-clause-row
go_over-requires-clause-row c =
    let w : TestsShown = record { job = c.self.inside.job.now.fields; part = c.self.inside.part.now; start = rows_at c.self.inside.start.now; moves = c.self.inside.bands.moves; turns = c.self.inside.bands.count } in
    let t : ℕ = c.args.turn in
    let n : ℕ = c.requires.0 in
    let due = subst (λ (x : TestsShown). IsDue tests x n t (Stock c.in-Stock.number c.in-Stock.row)) (sym c.self.view_is) (subst (λ (p : Piece). IsDue tests c.args.self.now n t p) c.in-Stock.is c.requires.1) in
    row_due w n t c.in-Stock.number c.in-Stock.row c.self.invariant.0.start_ok due

pub go_over-requires-clause-next : goal.go_over-requires-clause-next
go_over-requires-clause-next c =
    let w : TestsShown = record { job = c.self.inside.job.now.fields; part = c.self.inside.part.now; start = rows_at c.self.inside.start.now; moves = c.self.inside.bands.moves; turns = c.self.inside.bands.count } in
    let t : ℕ = c.args.turn in
    let n : ℕ = c.requires.0 in
    let due = subst (λ (x : TestsShown). IsDue tests x n t (Stock c.in-Stock.number c.in-Stock.row)) (sym c.self.view_is) (subst (λ (p : Piece). IsDue tests c.args.self.now n t p) c.in-Stock.is c.requires.1) in
    row_next w n t c.in-Stock.number c.in-Stock.row due

pub returns-in-Stock-clause-passed : goal.returns-in-Stock-clause-passed
returns-in-Stock-clause-passed c =
    let w : TestsShown = record { job = c.self.inside.job.now.fields; part = c.self.inside.part.now; start = rows_at c.self.inside.start.now; moves = c.self.inside.bands.moves; turns = c.self.inside.bands.count } in
    let over = c.go_over.ensures in
    subst (λ (x : TestsShown). (n : ℕ) → IsDue tests x n c.args.turn c.args.piece.now → HasPassedTo tests x n c.go_over.result (Stock c.in-Stock.number c.go_over.new.self)) c.self.view_is
    (λ n d. row_goes_over w n c.args.turn c.in-Stock.number c.in-Stock.row c.go_over.new.self c.go_over.result (subst (λ (p : Piece). IsDue tests w n c.args.turn p) c.in-Stock.is d) over.onward over.within over.clears over.is)
