use Rattle.std.proofs.Common.{rules, sym, subst}
use Rattle.mill_push.specs.inner.Unions.{AreOrdered, AreSpans}
use Rattle.mill_push.specs.Fibers.{IsBlocked}
use Rattle.mill_push.proofs.BothSolids.{few_of_both}
use Rattle.mill_push.proofs.Sorting.{ordered_from_sort, spans_moved, first_within, last_within, runs_from_stretches, IfOk-more}
use Rattle.mill_push.proofs.Stored.{stored}
use Rattle.mill_push.proofs.runs.push_after.Goals as goal

pub returns-in_err-stretches-clause-cost : goal.returns-in_err-stretches-clause-cost
returns-in_err-stretches-clause-cost g c = few_of_both c.args.tool.now c.args.part.now c.args.fiber c.args.from c.args.to c.args.steps.now c.tool_stretches.new.steps c.requires.from_ok c.requires.to_ok (rw (stored c.args.from c.requires.from_ok, stored c.args.to c.requires.to_ok) at c.tool_stretches.ensures.cost)

pub returns-in_err-sort_by_key-clause-cost : goal.returns-in_err-sort_by_key-clause-cost
returns-in_err-sort_by_key-clause-cost g c = few_of_both c.args.tool.now c.args.part.now c.args.fiber c.args.from c.args.to c.args.steps.now c.tool_stretches.new.steps c.requires.from_ok c.requires.to_ok (rw (stored c.args.from c.requires.from_ok, stored c.args.to c.requires.to_ok) at c.tool_stretches.ensures.cost)

pub returns-in_err-sort_by_key-clause-near : goal.returns-in_err-sort_by_key-clause-near
returns-in_err-sort_by_key-clause-near g c = rw (stored c.args.from c.requires.from_ok, stored c.args.to c.requires.to_ok) at c.tool_stretches.ensures.cost

pub returns-clause-near : goal.returns-clause-near
returns-clause-near g c = rw (stored c.args.from c.requires.from_ok, stored c.args.to c.requires.to_ok) at c.tool_stretches.ensures.cost

pub returns-clause-cost : goal.returns-clause-cost
returns-clause-cost g c = few_of_both c.args.tool.now c.args.part.now c.args.fiber c.args.from c.args.to c.args.steps.now c.tool_stretches.new.steps c.requires.from_ok c.requires.to_ok (rw (stored c.args.from c.requires.from_ok, stored c.args.to c.requires.to_ok) at c.tool_stretches.ensures.cost)

pub union-requires-clause-ordered : goal.union-requires-clause-ordered
union-requires-clause-ordered g c = subst AreOrdered (sym c.deref.ensures.value) (ordered_from_sort _ c.in_ok-sort_by_key.ensures.sorted (λ a r q k. search rules))

pub union-requires-clause-firsts : goal.union-requires-clause-firsts
union-requires-clause-firsts g c =
    let from = stored c.args.from c.requires.from_ok in
    let to = stored c.args.to c.requires.to_ok in
    let s = rw (from, to) at c.in_ok-stretches.ensures.stretches in
    let spans = spans_moved _ _ c.args.from c.args.to c.in_ok-sort_by_key.ensures.permutation s.spans in
    first_within c.deref.result.now c.args.from c.args.to c.requires.from_ok c.requires.to_ok (subst (AreSpans c.args.from c.args.to) (sym c.deref.ensures.value) spans)

pub union-requires-clause-lasts : goal.union-requires-clause-lasts
union-requires-clause-lasts g c =
    let from = stored c.args.from c.requires.from_ok in
    let to = stored c.args.to c.requires.to_ok in
    let s = rw (from, to) at c.in_ok-stretches.ensures.stretches in
    let spans = spans_moved _ _ c.args.from c.args.to c.in_ok-sort_by_key.ensures.permutation s.spans in
    last_within c.deref.result.now c.args.from c.args.to c.requires.from_ok c.requires.to_ok (subst (AreSpans c.args.from c.args.to) (sym c.deref.ensures.value) spans)

pub returns-clause-runs : goal.returns-clause-runs
returns-clause-runs g c =
    let from = stored c.args.from c.requires.from_ok in
    let to = stored c.args.to c.requires.to_ok in
    let s = rw (from, to) at c.in_ok-stretches.ensures.stretches in
    let spans = spans_moved _ _ c.args.from c.args.to c.in_ok-sort_by_key.ensures.permutation s.spans in
    let union = rw c.deref.ensures.value at c.union.ensures in
    IfOk-more c.union.result _ _ (λ runs h. runs_from_stretches (IsBlocked c.args.tool.now c.args.part.now c.args.fiber) c.args.from c.args.to _ _ runs.items s c.in_ok-sort_by_key.ensures.permutation (h c.args.from c.args.to spans)) union
