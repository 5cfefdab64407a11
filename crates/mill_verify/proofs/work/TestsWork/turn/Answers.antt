use Rattle.std.proofs.Common.{◌≡◌, ℕ, ◌+◌, List, sym, subst}
use Rattle.mill_base.specs.declared.motion.Move.{Move}
use Rattle.mill_board.specs.Works.{IsDue}
use Rattle.mill_dexel.specs.Turns.{ClearsRow, IsLeftBy, IsRowStopped, move_at, turned}
use Rattle.mill_verify.specs.Blocks.{IsBlockStopped}
use Rattle.mill_verify.specs.Clashes.{IsClear}
use Rattle.mill_verify.specs.declared.piece.Piece.{Piece}
use Rattle.mill_verify.specs.declared.piece.Piece.TheVariants.{Block, Stock}
use Rattle.mill_verify.specs.inner.Pieces.{IsPieceAt, IsPieceFailed, PassesTest, TestsShown, tests}
use Rattle.mill_verify.specs.inner.Readiness.{rows_at}
use Rattle.mill_verify.proofs.Sharing.{block_fails, block_passes, row_due, row_fails, row_left, row_passes}
use Rattle.mill_verify.proofs.work.TestsWork.turn.Goals as goal

pub turn_on-requires-clause-row : goal.turn_on-requires-clause-row
turn_on-requires-clause-row c =
    let w : TestsShown = record { job = c.self.inside.job.now.fields; part = c.self.inside.part.now; start = rows_at c.self.inside.start.now; moves = c.self.inside.bands.moves; turns = c.self.inside.bands.count } in
    let t : ℕ = c.args.turn in
    let n : ℕ = c.requires.0 in
    let due = subst (λ (x : TestsShown). IsDue tests x n t (Stock c.in-Stock.number c.in-Stock.row)) (sym c.self.view_is) (subst (λ (p : Piece). IsDue tests c.args.self.now n t p) c.in-Stock.is c.requires.1) in
    row_due w n t c.in-Stock.number c.in-Stock.row c.self.invariant.0.start_ok due

pub turn_on-requires-clause-left : goal.turn_on-requires-clause-left
turn_on-requires-clause-left c =
    let w : TestsShown = record { job = c.self.inside.job.now.fields; part = c.self.inside.part.now; start = rows_at c.self.inside.start.now; moves = c.self.inside.bands.moves; turns = c.self.inside.bands.count } in
    let t : ℕ = c.args.turn in
    let n : ℕ = c.requires.0 in
    let due = subst (λ (x : TestsShown). IsDue tests x n t (Stock c.in-Stock.number c.in-Stock.row)) (sym c.self.view_is) (subst (λ (p : Piece). IsDue tests c.args.self.now n t p) c.in-Stock.is c.requires.1) in
    subst (λ (ms : List Move). IsLeftBy w.job ms t c.in-Stock.row) (sym c.moves-moves.ensures) (row_left w n t c.in-Stock.number c.in-Stock.row due)

pub returns-in-Block-clause-passed : goal.returns-in-Block-clause-passed
returns-in-Block-clause-passed c e =
    let w : TestsShown = record { job = c.self.inside.job.now.fields; part = c.self.inside.part.now; start = rows_at c.self.inside.start.now; moves = c.self.inside.bands.moves; turns = c.self.inside.bands.count } in
    subst (λ (x : TestsShown). (n : ℕ) → IsDue tests x n c.args.turn c.args.piece.now → PassesTest x n c.args.turn × IsPieceAt x n (c.args.turn + 1) (Block c.in-Block.number c.turn.new.self)) c.self.view_is
    (λ n d. block_passes w n c.args.turn c.in-Block.number c.in-Block.block c.turn.new.self (subst (λ (p : Piece). IsDue tests w n c.args.turn p) c.in-Block.is d) (subst (λ (ms : List Move). IsClear w.job w.part (move_at ms c.args.turn)) c.moves-moves.ensures (c.turn.ensures.clears e)) (c.turn.ensures.passed e))

pub returns-in-Block-clause-failed : goal.returns-in-Block-clause-failed
returns-in-Block-clause-failed c e =
    let w : TestsShown = record { job = c.self.inside.job.now.fields; part = c.self.inside.part.now; start = rows_at c.self.inside.start.now; moves = c.self.inside.bands.moves; turns = c.self.inside.bands.count } in
    subst (λ (x : TestsShown). (n : ℕ) → IsDue tests x n c.args.turn c.args.piece.now → (¬ PassesTest x n c.args.turn) × IsPieceFailed x n c.args.turn (Block c.in-Block.number c.turn.new.self)) c.self.view_is
    (λ n d. block_fails w n c.args.turn c.in-Block.number c.in-Block.block c.turn.new.self (subst (λ (p : Piece). IsDue tests w n c.args.turn p) c.in-Block.is d) (subst (λ (ms : List Move). IsBlockStopped w.job w.part ms c.in-Block.block c.turn.new.self) c.moves-moves.ensures (c.turn.ensures.stopped e)))

pub returns-in-Stock-clause-passed : goal.returns-in-Stock-clause-passed
returns-in-Stock-clause-passed c e =
    let w : TestsShown = record { job = c.self.inside.job.now.fields; part = c.self.inside.part.now; start = rows_at c.self.inside.start.now; moves = c.self.inside.bands.moves; turns = c.self.inside.bands.count } in
    subst (λ (x : TestsShown). (n : ℕ) → IsDue tests x n c.args.turn c.args.piece.now → PassesTest x n c.args.turn × IsPieceAt x n (c.args.turn + 1) (Stock c.in-Stock.number c.turn_on.new.self)) c.self.view_is
    (λ n d. row_passes w n c.args.turn c.in-Stock.number c.in-Stock.row c.turn_on.new.self c.self.invariant.0.within (subst (λ (p : Piece). IsDue tests w n c.args.turn p) c.in-Stock.is d) (subst (λ (ms : List Move). ClearsRow w.job c.in-Stock.row (move_at ms c.args.turn)) c.moves-moves.ensures (c.turn_on.ensures.clears e)) (subst (λ (ms : List Move). c.turn_on.new.self ≡ turned w.job (move_at ms c.args.turn) c.in-Stock.row) c.moves-moves.ensures (c.turn_on.ensures.cut e)))

pub returns-in-Stock-clause-failed : goal.returns-in-Stock-clause-failed
returns-in-Stock-clause-failed c e =
    let w : TestsShown = record { job = c.self.inside.job.now.fields; part = c.self.inside.part.now; start = rows_at c.self.inside.start.now; moves = c.self.inside.bands.moves; turns = c.self.inside.bands.count } in
    subst (λ (x : TestsShown). (n : ℕ) → IsDue tests x n c.args.turn c.args.piece.now → (¬ PassesTest x n c.args.turn) × IsPieceFailed x n c.args.turn (Stock c.in-Stock.number c.turn_on.new.self)) c.self.view_is
    (λ n d. row_fails w n c.args.turn c.in-Stock.number c.in-Stock.row c.turn_on.new.self (subst (λ (p : Piece). IsDue tests w n c.args.turn p) c.in-Stock.is d) (subst (λ (ms : List Move). IsRowStopped w.job (move_at ms c.args.turn) c.in-Stock.row c.turn_on.new.self) c.moves-moves.ensures (c.turn_on.ensures.stopped e)))
