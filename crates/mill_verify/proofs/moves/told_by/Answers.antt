use Rattle.std.proofs.Common.{List, length, sym, subst, arith}
use Rattle.mill_board.specs.declared.work.Held.{Held}
use Rattle.mill_dexel.specs.Rows.{RowState}
use Rattle.mill_verify.specs.declared.piece.Piece.{Piece}
use Rattle.mill_verify.specs.declared.verdict.Reason.TheVariants.{Floor}
use Rattle.mill_verify.specs.inner.Failures.{IsFirstFailed, NoneFailed}
use Rattle.mill_verify.specs.inner.Firsts.{ArePassed}
use Rattle.mill_verify.specs.inner.Readiness.{rows_at, stock_of}
use Rattle.mill_verify.proofs.Named.{named}
use Rattle.mill_verify.proofs.Tested.{all_passed, floor_rejects, in_list, move_there, reason_there, rejected}
use Rattle.mill_verify.proofs.moves.told_by.Goals as goal

pub bounds-moves-least : goal.bounds-moves-least
bounds-moves-least c =
    let q = c.requires in
    let first = subst (λ (hs : List (Held Piece)). IsFirstFailed c.args.closed.least hs c.in-Some.number) c.deref.ensures.value c.in-Some.ensures in
    move_there c.args.job.now.fields c.args.part.now (rows_at c.args.start.now) c.args.moves.now c.args.turns c.args.closed.least c.args.closed.pieces.items q.ready.within q.floor q.tested c.in-Some.number first

pub index-requires : goal.index-requires
index-requires c =
    let under = in_list c.deref.result.now c.in-Some.number c.in-Some.ensures.held c.in-Some.ensures.there in
    let same = c.deref.ensures.len in
    omega (under, same, arith)

pub reason_of-requires : goal.reason_of-requires
reason_of-requires c =
    let q = c.requires in
    let first = subst (λ (hs : List (Held Piece)). IsFirstFailed c.args.closed.least hs c.in-Some.number) c.deref.ensures.value c.in-Some.ensures in
    reason_there c.args.job.now.fields c.args.part.now (rows_at c.args.start.now) c.args.moves.now c.args.turns c.args.closed.least c.args.closed.pieces.items q.ready.within q.floor q.tested c.in-Some.number first
    _ c.count.result c.count.ensures c.args.job.now.is_job q.ready.few c.index.result.now c.index.ensures

pub returns-in-Some : goal.returns-in-Some
returns-in-Some c =
    let q = c.requires in
    let first = subst (λ (hs : List (Held Piece)). IsFirstFailed c.args.closed.least hs c.in-Some.number) c.deref.ensures.value c.in-Some.ensures in
    named c.failing_is_blocked.ensures c.args.job.now.fields c.args.part.now (stock_of c.args.job.now.fields c.args.start.now) c.args.moves.now c.args.job.now.is_job q.ready.moves_ok c.reason_of.result
    (rejected c.args.job.now.fields c.args.part.now (rows_at c.args.start.now) c.args.moves.now c.args.turns c.args.closed.least c.args.closed.pieces.items q.ready.within q.floor q.tested c.in-Some.number first
    _ c.count.result c.count.ensures c.index.result.now c.reason_of.result c.index.ensures c.reason_of.ensures)

pub returns-then-turns-moves : goal.returns-then-turns-moves
returns-then-turns-moves c =
    let q = c.requires in
    let none = subst (λ (hs : List (Held Piece)). NoneFailed c.args.closed.least hs (length hs)) c.deref.ensures.value c.in_default.ensures in
    named c.failing_is_blocked.ensures c.args.job.now.fields c.args.part.now (stock_of c.args.job.now.fields c.args.start.now) c.args.moves.now c.args.job.now.is_job q.ready.moves_ok (Floor c.args.turns)
    (floor_rejects c.args.job.now.fields c.args.part.now (rows_at c.args.start.now) c.args.moves.now c.args.turns c.args.closed.least c.args.closed.pieces.items q.ready.within q.floor q.tested none c.if-turns-moves.true)

pub returns : goal.returns
returns c =
    let q = c.requires in let over = c.if-turns-moves.false in
    let none = subst (λ (hs : List (Held Piece)). NoneFailed c.args.closed.least hs (length hs)) c.deref.ensures.value c.in_default.ensures in
    subst (λ (rows : List RowState). ArePassed c.args.job.now.fields c.args.part.now (stock_of c.args.job.now.fields c.args.start.now) c.args.moves.now rows) (sym c.in_ok-rows_of.ensures)
    (all_passed c.args.job.now.fields c.args.part.now (rows_at c.args.start.now) c.args.moves.now c.args.turns c.args.closed.least c.args.closed.pieces.items q.ready.within q.floor q.tested none (omega (over, arith)))
