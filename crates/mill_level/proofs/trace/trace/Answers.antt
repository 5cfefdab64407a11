use Rattle.std.proofs.Common.{◌≡◌, ◌+◌, ◌++◌, List, drop, take, reverse, sym, ap, subst, ◌∙◌}
use Rattle.mill_level.specs.declared.edge.Edge.{Edge}
use Rattle.mill_level.specs.inner.Trails.{mark}
use Rattle.mill_level.specs.inner.Ways.{IsLeast, WentOn}
use Rattle.mill_level.proofs.Chaining.{chain_ok, edges_ok, rank_first, times_of}
use Rattle.mill_level.proofs.Trailing.{IsTraced, traced_closed, traced_marks, traced_open, went_back_open}
use Rattle.mill_level.proofs.trace.trace.Goals as goal
use Rattle.mill_level.proofs.trace.trace.Goals.{then-closed, else-closed+in_ok-go_on}

pub go_on-requires-clause-way : goal.go_on-requires-clause-way
go_on-requires-clause-way c = rw c.reverse.ensures.items (went_back_open _ _ _ _ _ _ c.if-closed.false c.requires.start_ok.marks c.in_ok-closed.ensures)

traced : (c : goal.After-rank) → IsTraced c.args.map.now c.args.passed.now.items c.if-closed.passed.items c.args.start c.in_ok-closed.closed c.if-closed.edges.items
traced c =
    let back : c.reverse.new.self.items ≡ reverse c.go_back.new.edges.items = c.reverse.ensures.items in
    elim c.if-closed.branch [
      | then-closed w ↦
          let m = w.least_of-least.result in
          let least : IsLeast c.args.map.now (reverse c.go_back.new.edges.items) m =
          subst (λ (es : List Edge). IsLeast c.args.map.now es m) (w.deref.ensures.value ∙ back) w.least_of-least.ensures in
          let turned : w.rotate_left.new.self.items ≡ drop m (reverse c.go_back.new.edges.items) ++ take m (reverse c.go_back.new.edges.items) =
          w.rotate_left.ensures.items ∙ ap (λ (es : List Edge). drop m es ++ take m es) back in
          rw (w.passed-is, w.edges-is, turned) (traced_closed _ _ _ _ _ _ m w.if-closed.true c.in_ok-closed.ensures least)
      | else-closed+in_ok-go_on w ↦
          let on : WentOn c.args.map.now c.go_back.new.passed.items w.go_on.new.passed.items (reverse c.go_back.new.edges.items) w.go_on.new.edges.items =
          subst (λ (es : List Edge). WentOn c.args.map.now c.go_back.new.passed.items w.go_on.new.passed.items es w.go_on.new.edges.items) back w.in_ok-go_on.ensures in
          rw (w.passed-is, w.edges-is) (traced_open _ _ _ _ _ _ _ _ w.if-closed.false c.in_ok-closed.ensures on)
    ]

pub returns-clause-trail : goal.returns-clause-trail
returns-clause-trail c =
    let t = traced c in record {
      some = t.track.some;
      edges = edges_ok c.args.map.now c.if-closed.edges.items t.track.crosses;
      chain = chain_ok _ _ _ _ _ _ t;
      rank = c.rank.ensures ∙ rank_first c.args.map.now c.in_ok-closed.closed c.if-closed.edges.items c.index.result.now t.track.some c.index.ensures;
    }

pub returns-clause-once : goal.returns-clause-once
returns-clause-once c e =
    let t = traced c in
    t.track.marks e ∙ ap (λ n. mark c.args.map.now c.args.passed.now.items e + n)
    (sym (times_of c.args.map.now c.in_ok-closed.closed c.if-closed.edges.items e t.track.some))

pub returns-clause-marks : goal.returns-clause-marks
returns-clause-marks c = traced_marks _ _ _ _ _ _ c.requires.start_ok.marks (traced c)

pub returns-clause-start : goal.returns-clause-start
returns-clause-start c = (traced c).start_marked
