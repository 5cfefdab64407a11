use Rattle.std.specs.Prelude.{◌≤◌, List, length, MatchOption}
use Rattle.std.proofs.Common.{◌≡◌, sym, ap, subst, arith}
use Rattle.mill_base.specs.Ranges.{MovesInRange}
use Rattle.mill_base.specs.declared.motion.Move.{Move}
use Rattle.mill_dexel.specs.Turns.{ClearsRow, IsLeftBy, StopsRow, move_at, turned}
use Rattle.mill_report.proofs.Passing.{passing_over, passing_start, passing_turn, row_ended, row_left, row_next, row_unfailed, told_ended}
use Rattle.mill_report.proofs.pass.take_turns.Goals as goal

pub loop-next-init : goal.loop-next-init
loop-next-init c = passing_start c.args.job.now.fields c.args.bands.now.moves c.args.number c.args.row.now c.args.stops.now c.requires.fresh c.requires.row_ok c.requires.told

pub go_over-turn-requires-clause-unfailed : goal.go_over-turn-requires-clause-unfailed
go_over-turn-requires-clause-unfailed c = row_unfailed c.args.job.now.fields c.args.bands.now.moves c.args.number c.loop-next.next c.loop-next.row c.loop-next.stops c.loop-next.invariant

pub go_over-turn-requires-clause-next : goal.go_over-turn-requires-clause-next
go_over-turn-requires-clause-next c = row_next c.args.job.now.fields c.args.bands.now.moves c.args.number c.loop-next.next c.loop-next.row c.loop-next.stops c.loop-next.invariant

-- the row where its next turn is
pub turn_through-fail-requires-clause-unfailed : goal.turn_through-fail-requires-clause-unfailed
turn_through-fail-requires-clause-unfailed c =
    let o = c.go_over-turn.ensures in
    row_unfailed c.args.job.now.fields c.args.bands.now.moves c.args.number c.go_over-turn.result c.go_over-turn.new.self c.loop-next.stops
    (passing_over c.args.job.now.fields c.args.bands.now.moves c.args.number c.loop-next.next c.loop-next.row c.loop-next.stops c.loop-next.invariant c.go_over-turn.new.self c.go_over-turn.result o.onward (omega (arith, o.within, c.requires.whole)) o.clears o.is o.row)

pub turn_through-fail-requires-clause-next : goal.turn_through-fail-requires-clause-next
turn_through-fail-requires-clause-next c =
    let o = c.go_over-turn.ensures in
    row_next c.args.job.now.fields c.args.bands.now.moves c.args.number c.go_over-turn.result c.go_over-turn.new.self c.loop-next.stops
    (passing_over c.args.job.now.fields c.args.bands.now.moves c.args.number c.loop-next.next c.loop-next.row c.loop-next.stops c.loop-next.invariant c.go_over-turn.new.self c.go_over-turn.result o.onward (omega (arith, o.within, c.requires.whole)) o.clears o.is o.row)

pub turn_through-fail-requires-clause-moves_ok : goal.turn_through-fail-requires-clause-moves_ok
turn_through-fail-requires-clause-moves_ok c = subst MovesInRange (sym c.moves-moves.ensures) c.requires.moves_ok

pub turn_through-fail-requires-clause-there : goal.turn_through-fail-requires-clause-there
turn_through-fail-requires-clause-there c =
    let same = ap (λ (ms : List Move). length ms) c.moves-moves.ensures in
    omega (arith, same, c.requires.whole, c.if-turn-count.false, c.count-count.ensures.value)

pub turn_through-fail-requires-clause-left : goal.turn_through-fail-requires-clause-left
turn_through-fail-requires-clause-left c =
    let o = c.go_over-turn.ensures in
    subst (λ (ms : List Move). IsLeftBy c.args.job.now.fields ms c.go_over-turn.result c.go_over-turn.new.self) (sym c.moves-moves.ensures)
    (row_left c.args.job.now.fields c.args.bands.now.moves c.args.number c.go_over-turn.result c.go_over-turn.new.self c.loop-next.stops
    (passing_over c.args.job.now.fields c.args.bands.now.moves c.args.number c.loop-next.next c.loop-next.row c.loop-next.stops c.loop-next.invariant c.go_over-turn.new.self c.go_over-turn.result o.onward (omega (arith, o.within, c.requires.whole)) o.clears o.is o.row))

pub note-requires : goal.note-requires
note-requires c = omega (arith, c.loop-next.invariant.count, c.requires.whole, c.if-turn-count.false, c.count-count.ensures.value)

pub loop-next-preserved : goal.loop-next-preserved
loop-next-preserved c =
    let o = c.go_over-turn.ensures in
    let t = c.turn_through-fail.ensures in
    let n = c.note.ensures in
    passing_turn c.args.job.now.fields c.args.bands.now.moves c.args.number c.go_over-turn.result c.go_over-turn.new.self c.loop-next.stops
    (passing_over c.args.job.now.fields c.args.bands.now.moves c.args.number c.loop-next.next c.loop-next.row c.loop-next.stops c.loop-next.invariant c.go_over-turn.new.self c.go_over-turn.result o.onward (omega (arith, o.within, c.requires.whole)) o.clears o.is o.row)
    c.turn_through-fail.new.self c.turn_through-fail.result c.note.new.stops (omega (arith, c.requires.whole, c.if-turn-count.false, c.count-count.ensures.value))
    (subst (λ (ms : List Move). MatchOption c.turn_through-fail.result (ClearsRow c.args.job.now.fields c.go_over-turn.new.self (move_at ms c.go_over-turn.result)) (StopsRow c.args.job.now.fields c.go_over-turn.new.self (move_at ms c.go_over-turn.result)))
    c.moves-moves.ensures t.told)
    (subst (λ (ms : List Move). c.turn_through-fail.new.self ≡ turned c.args.job.now.fields (move_at ms c.go_over-turn.result) c.go_over-turn.new.self) c.moves-moves.ensures t.cut)
    t.row n.count n.noted n.others

pub returns-then-turn-count : goal.returns-then-turn-count
returns-then-turn-count c =
    let o = c.go_over-turn.ensures in
    let over = passing_over c.args.job.now.fields c.args.bands.now.moves c.args.number c.loop-next.next c.loop-next.row c.loop-next.stops c.loop-next.invariant c.go_over-turn.new.self c.go_over-turn.result o.onward (omega (arith, o.within, c.requires.whole)) o.clears o.is o.row in
    let all : length c.args.bands.now.moves ≤ c.go_over-turn.result = omega (arith, c.requires.whole, c.if-turn-count.true, c.count-count.ensures.value) in
    record {
      is = row_ended c.args.job.now.fields c.args.bands.now.moves c.args.number c.go_over-turn.result c.go_over-turn.new.self c.loop-next.stops over all;
      row_ok = o.row;
      told = told_ended c.args.job.now.fields c.args.bands.now.moves c.args.number c.go_over-turn.result c.go_over-turn.new.self c.loop-next.stops over all;
    }

pub returns : goal.returns
returns c =
    let all : length c.args.bands.now.moves ≤ c.loop-next.next = omega (arith, c.requires.whole, c.loop-next-test.false, c.count-count.ensures.value) in
    record {
      is = row_ended c.args.job.now.fields c.args.bands.now.moves c.args.number c.loop-next.next c.loop-next.row c.loop-next.stops c.loop-next.invariant all;
      row_ok = c.loop-next.invariant.is_row;
      told = told_ended c.args.job.now.fields c.args.bands.now.moves c.args.number c.loop-next.next c.loop-next.row c.loop-next.stops c.loop-next.invariant all;
    }
