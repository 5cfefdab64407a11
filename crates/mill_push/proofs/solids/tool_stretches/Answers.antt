use Rattle.mill_push.proofs.BothSolids.{stretches_bare, stretches_held, touches_first, touches_held}
use Rattle.mill_push.proofs.Stored.{stored}
use Rattle.mill_push.proofs.solids.tool_stretches.Goals as goal

pub returns-in_err-stretches-clause-cost : goal.returns-in_err-stretches-clause-cost
returns-in_err-stretches-clause-cost g c =
    let from = stored c.args.from c.requires.from_ok in
    let to = stored c.args.to c.requires.to_ok in
    touches_first c.args.tool.now c.args.part.now c.args.fiber c.args.from c.args.to c.args.steps.now c.solid_stretches.new.steps (rw (from, to) at c.solid_stretches.ensures.cost)

pub returns-in_default-clause-stretches : goal.returns-in_default-clause-stretches
returns-in_default-clause-stretches g c =
    let from = stored c.args.from c.requires.from_ok in
    let to = stored c.args.to c.requires.to_ok in
    stretches_bare c.args.tool.now c.args.part.now c.args.fiber c.args.from c.args.to c.in_ok-stretches.stretches.items c.in_default.is (rw (from, to) at c.in_ok-stretches.ensures.stretches)

pub returns-in_err-extend_from_slice-clause-cost : goal.returns-in_err-extend_from_slice-clause-cost
returns-in_err-extend_from_slice-clause-cost g c =
    let from = stored c.args.from c.requires.from_ok in
    let to = stored c.args.to c.requires.to_ok in
    touches_held c.args.tool.now c.args.part.now c.args.fiber c.args.from c.args.to c.args.steps.now c.solid_stretches.new.steps c.solid_stretches-2.new.steps c.in-Some.holder c.in-Some.is
    (rw (from, to) at c.solid_stretches.ensures.cost) (rw (from, to) at c.solid_stretches-2.ensures.cost)

pub returns-clause-stretches : goal.returns-clause-stretches
returns-clause-stretches g c =
    let from = stored c.args.from c.requires.from_ok in
    let to = stored c.args.to c.requires.to_ok in
    rw (c.in_ok-extend_from_slice.ensures.items, c.deref.ensures.value) (stretches_held c.args.tool.now c.args.part.now c.args.fiber c.args.from c.args.to c.in_ok-stretches.stretches.items c.in_ok-others.others.items c.in-Some.holder c.in-Some.is
    (rw (from, to) at c.in_ok-stretches.ensures.stretches) (rw (from, to) at c.in_ok-others.ensures.stretches))

pub returns-clause-cost : goal.returns-clause-cost
returns-clause-cost g c =
    let from = stored c.args.from c.requires.from_ok in
    let to = stored c.args.to c.requires.to_ok in
    touches_held c.args.tool.now c.args.part.now c.args.fiber c.args.from c.args.to c.args.steps.now c.solid_stretches.new.steps c.solid_stretches-2.new.steps c.in-Some.holder c.in-Some.is
    (rw (from, to) at c.solid_stretches.ensures.cost) (rw (from, to) at c.solid_stretches-2.ensures.cost)
