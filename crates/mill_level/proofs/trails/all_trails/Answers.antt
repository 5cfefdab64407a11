use Rattle.mill_level.specs.declared.trace.Trail.{Trail}
use Rattle.std.proofs.Common.{◌≡◌, ℕ, ◌+◌, ◌*◌, ◌<◌, Bool, false, List, replicate, arith, sym, subst, ap, ◌∙◌, true≢false}
use Rattle.mill_level.proofs.Found.{FoundBelow, found_none, found_next, found_trail, found_all, mark_at}
use Rattle.mill_level.proofs.trails.all_trails.Goals as goal
use Rattle.mill_level.proofs.trails.all_trails.Goals.{then-is_crossing+then-not-index+in_ok-trace+in_ok-push, else-is_crossing, else-is_crossing-via-then-is_crossing+else-not-index, else-is_crossing-via-else-is_crossing}

pub loop-number-init : goal.loop-number-init
loop-number-init c = record {
  found = found_none c.args.map.now c.in_ok-passed.passed.items c.new-trails.result.items
      (c.in_ok-passed.ensures.items_if_clones_equal (λ y e. e) ∙ ap (λ (n : ℕ). replicate n false) c.edge_count-count.ensures) c.new-trails.ensures.items;
  is = omega arith;
  column = λ inside. c.requires.some_columns;
  row = c.requires.some_rows;
}

pub index-requires : goal.index-requires
index-requires c = omega (arith, c.loop-number.invariant.found.marks.size)

pub trace-requires-clause-start_ok : goal.trace-requires-clause-start_ok
trace-requires-clause-start_ok c =
    let crosses = sym c.is_crossing.ensures ∙ c.if-is_crossing.true in
    let found = c.loop-number.invariant.found in
    record {
      crosses = crosses;
      unmarked = mark_at c.args.map.now c.loop-number.passed.items c.loop-number.edge c.loop-number.number c.index.result.now c.loop-number.invariant.is (omega (arith, found.marks.size)) c.index.ensures crosses
          ∙ c.if-not-index.true;
      marks = found.marks;
    }

pub loop-number-preserved : goal.loop-number-preserved
loop-number-preserved c =
    let next = ap (λ (n : ℕ). n + 1) c.loop-number.invariant.is ∙ sym c.next_edge-edge.ensures.number in
    let more = λ (passed : List Bool) (trails : List Trail).
    found_next c.args.map.now passed trails c.loop-number.edge c.loop-number.number c.loop-number.invariant.is (c.loop-number.invariant.column (rw c.edge_count-count.ensures at c.loop-number-test.true)) c.loop-number.invariant.row in
    record {
      found = elim c.if-is_crossing.branch [
        | then-is_crossing+then-not-index+in_ok-trace+in_ok-push w ↦
            (let found = found_trail c.args.map.now c.loop-number.passed.items w.trace.new.passed.items c.loop-number.trails.items w.in_ok-trace.field-0 c.loop-number.number
            w.in_ok-trace.ensures.trail w.in_ok-trace.ensures.once w.in_ok-trace.ensures.marks c.loop-number.invariant.found in
            rw (w.passed-is, w.trails-is, w.in_ok-push.ensures.items) (more w.trace.new.passed.items _ (λ h. w.in_ok-trace.ensures.start) found))
        | else-is_crossing w ↦ rw (w.passed-is, w.trails-is) (more c.loop-number.passed.items c.loop-number.trails.items (elim w.else-is_crossing.branch [
          | else-is_crossing-via-then-is_crossing+else-not-index v ↦ λ h.
              mark_at c.args.map.now c.loop-number.passed.items c.loop-number.edge c.loop-number.number v.index.result.now c.loop-number.invariant.is
              (omega (arith, c.loop-number.invariant.found.marks.size)) v.index.ensures h ∙ v.if-not-index.false
          | else-is_crossing-via-else-is_crossing v ↦ λ h. absurd (true≢false (sym h ∙ sym v.if-is_crossing.ensures))
        ]) c.loop-number.invariant.found)
      ];
      is = next;
      column = λ inside. c.next_edge-edge.ensures.column (subst (λ (n : ℕ). n < 2 * (c.args.map.now.columns * c.args.map.now.rows)) next inside);
      row = c.next_edge-edge.ensures.row;
    }

pub returns : goal.returns
returns c =
    let all : c.loop-number.number ≡ 2 * (c.args.map.now.columns * c.args.map.now.rows) = omega arith in
    found_all c.args.map.now c.loop-number.passed.items c.loop-number.trails.items (subst (FoundBelow c.args.map.now c.loop-number.passed.items c.loop-number.trails.items) all c.loop-number.invariant.found)
