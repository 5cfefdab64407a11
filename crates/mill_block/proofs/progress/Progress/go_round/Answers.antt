use Rattle.std.proofs.Common.{◌≡◌, false, true, sym, ◌∙◌, arith, rules}
use Rattle.std.proofs.lemmas.Result.{err_from_is_err_and}
use Rattle.std.specs.List.{list_all}
use Rattle.std.specs.Prelude.{pos, ◌&&◌, int_le, List, map}
use Rattle.mill_base.specs.declared.points.Pt3.{Pt3}
use Rattle.mill_block.specs.MachineArcs.{chord_end}
use Rattle.mill_block.specs.MachineLines.{is_in_range, turned, went_round}
use Rattle.mill_block.proofs.ArcMoves.{no_first, no_second, points_are, points_off, turned_is, turned_off}
use Rattle.mill_block.proofs.progress.Progress.go_round.Goals as goal
use Rattle.mill_block.proofs.progress.Progress.go_round.Goals.{else-control-ge0-via-then-control-ge0+else-self, else-control-ge0-via-else-control-ge0}

pub returns-in_err-chords-clause-fault : goal.returns-in_err-chords-clause-fault
returns-in_err-chords-clause-fault c =
    let p = c.args.self.now in
    let w = c.sweep-sweep.result in
    let path : (int_le (pos 0) c.args.control.arc_room && p.machine.wide_path) ≡ false =
    elim c.else-control-ge0.branch [
      | else-control-ge0-via-then-control-ge0+else-self w ↦ no_second (int_le (pos 0) c.args.control.arc_room) p.machine.wide_path w.if-self.false
      | else-control-ge0-via-else-control-ge0 w ↦ no_first (int_le (pos 0) c.args.control.arc_room) p.machine.wide_path (search (rules, arith))
    ] in
    let answer = err_from_is_err_and c.from_residual-in_err-chords.result c.from_residual-in_err-chords.ensures.1 in
    rw (answer.1, answer.2) (λ other. turned_off c.args.control p c.args.said.now c.args.turn c.in_ok-to.to w _ path (search rules) (search rules) c.sweep-sweep.ensures.value (c.in_err-chords.ensures.fault other))

pub are_in_range-requires-clause-placeable : goal.are_in_range-requires-clause-placeable
are_in_range-requires-clause-placeable c = rw c.deref.ensures.value c.in_ok-chords.ensures.placeable

pub follow-requires-clause-placeable : goal.follow-requires-clause-placeable
follow-requires-clause-placeable c = rw c.deref-2.ensures.value c.in_ok-chords.ensures.placeable

pub returns-then-not-are_in_range-clause-fault : goal.returns-then-not-are_in_range-clause-fault
returns-then-not-are_in_range-clause-fault c other =
    let p = c.args.self.now in
    let w = c.sweep-sweep.result in
    let path : (int_le (pos 0) c.args.control.arc_room && p.machine.wide_path) ≡ false =
    elim c.else-control-ge0.branch [
      | else-control-ge0-via-then-control-ge0+else-self w ↦ no_second (int_le (pos 0) c.args.control.arc_room) p.machine.wide_path w.if-self.false
      | else-control-ge0-via-else-control-ge0 w ↦ no_first (int_le (pos 0) c.args.control.arc_room) p.machine.wide_path (search (rules, arith))
    ] in
    let points : List Pt3 = map (chord_end p.machine.plane w) c.in_ok-chords.chords.items in
    let not_in : c.are_in_range.result ≡ false = search rules in
    let off : list_all (is_in_range p.unit) points ≡ false = rw c.deref.ensures.value at (sym c.are_in_range.ensures ∙ not_in) in
    turned_off c.args.control p c.args.said.now c.args.turn c.in_ok-to.to w _ path (search rules) (search rules) c.sweep-sweep.ensures.value (points_off p w c.in_ok-chords.chords.items c.in_ok-chords.ensures.sound c.in_ok-chords.ensures.chords off)

pub returns-clause-ok : goal.returns-clause-ok
returns-clause-ok c =
    let p = c.args.self.now in
    let w = c.sweep-sweep.result in
    let path : (int_le (pos 0) c.args.control.arc_room && p.machine.wide_path) ≡ false =
    elim c.else-control-ge0.branch [
      | else-control-ge0-via-then-control-ge0+else-self w ↦ no_second (int_le (pos 0) c.args.control.arc_room) p.machine.wide_path w.if-self.false
      | else-control-ge0-via-else-control-ge0 w ↦ no_first (int_le (pos 0) c.args.control.arc_room) p.machine.wide_path (search (rules, arith))
    ] in
    let points : List Pt3 = map (chord_end p.machine.plane w) c.in_ok-chords.chords.items in
    let all_in : c.are_in_range.result ≡ true = search rules in
    let on : list_all (is_in_range p.unit) points ≡ true = rw c.deref.ensures.value at (sym c.are_in_range.ensures ∙ all_in) in
    let is : turned c.args.control p c.args.said.now c.args.turn ≡ went_round p points =
    turned_is c.args.control p c.args.said.now c.args.turn c.in_ok-to.to w points path (search rules) (search rules) c.sweep-sweep.ensures.value (points_are p w c.in_ok-chords.chords.items c.in_ok-chords.ensures.sound c.in_ok-chords.ensures.chords on) in
    rw is (rw c.deref-2.ensures.value at c.follow.ensures.ok)

pub returns-clause-fault : goal.returns-clause-fault
returns-clause-fault c =
    let p = c.args.self.now in
    let w = c.sweep-sweep.result in
    let path : (int_le (pos 0) c.args.control.arc_room && p.machine.wide_path) ≡ false =
    elim c.else-control-ge0.branch [
      | else-control-ge0-via-then-control-ge0+else-self w ↦ no_second (int_le (pos 0) c.args.control.arc_room) p.machine.wide_path w.if-self.false
      | else-control-ge0-via-else-control-ge0 w ↦ no_first (int_le (pos 0) c.args.control.arc_room) p.machine.wide_path (search (rules, arith))
    ] in
    let points : List Pt3 = map (chord_end p.machine.plane w) c.in_ok-chords.chords.items in
    let all_in : c.are_in_range.result ≡ true = search rules in
    let on : list_all (is_in_range p.unit) points ≡ true = rw c.deref.ensures.value at (sym c.are_in_range.ensures ∙ all_in) in
    let is : turned c.args.control p c.args.said.now c.args.turn ≡ went_round p points =
    turned_is c.args.control p c.args.said.now c.args.turn c.in_ok-to.to w points path (search rules) (search rules) c.sweep-sweep.ensures.value (points_are p w c.in_ok-chords.chords.items c.in_ok-chords.ensures.sound c.in_ok-chords.ensures.chords on) in
    rw is (rw c.deref-2.ensures.value at c.follow.ensures.fault)
