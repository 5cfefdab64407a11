use Rattle.std.proofs.Common.{◌≡◌, suc, ◌-◌, refl, arith}
use Rattle.mill_sweep.specs.Leaves.{span_of}
use Rattle.mill_sweep.proofs.Depths.{depth_most}
use Rattle.mill_sweep.proofs.Firsts.{fails_at_bottom, fails_left, right_decides}
use Rattle.mill_sweep.proofs.halving.+first_under.Goals as goal

pub returns-then-is_passed : goal.returns-then-is_passed
returns-then-is_passed t c = c.is_passed.ensures.yes c.if-is_passed.true c.args.more c.requires.deep

pub returns-then-more-eq0 : goal.returns-then-more-eq0
returns-then-more-eq0 t c =
    fails_at_bottom c.args.prepared.now.cutter c.args.prepared.now.step c.args.tri.now c.args.more c.args.leaf (span_of c.args.prepared.now.step c.args.leaf.d c.args.leaf.k) c.requires.prepared_ok.move_ok refl c.if-more-eq0.true c.requires.deep
    (c.is_passed.ensures.no c.if-is_passed.false) (c.is_passed.ensures.blocked c.if-is_passed.false)

pub left_half-requires-clause-d_ok : goal.left_half-requires-clause-d_ok
left_half-requires-clause-d_ok t c = let most = depth_most c.args.prepared.now.step c.requires.prepared_ok.move_ok in let deep = c.requires.deep in let some = c.if-more-eq0.false in omega arith

pub right_half-requires-clause-d_ok : goal.right_half-requires-clause-d_ok
right_half-requires-clause-d_ok t c = let most = depth_most c.args.prepared.now.step c.requires.prepared_ok.move_ok in let deep = c.requires.deep in let some = c.if-more-eq0.false in omega arith

pub returns-in-Some : goal.returns-in-Some
returns-in-Some t c =
    let some = c.if-more-eq0.false in
    let next : c.args.more ≡ suc (c.args.more - 1) = omega arith in
    fails_left c.args.prepared.now.cutter c.args.prepared.now.step c.args.tri.now c.args.more (c.args.more - 1) c.args.leaf c.left_half.result c.left_half.result (span_of c.args.prepared.now.step c.args.leaf.d c.args.leaf.k) refl
    (c.is_passed.ensures.no c.if-is_passed.false) next
    c.left_half.ensures.d c.left_half.ensures.k c.in-Some.at c.in-Some.ensures

pub returns : goal.returns
returns t c =
    let some = c.if-more-eq0.false in
    let next : c.args.more ≡ suc (c.args.more - 1) = omega arith in
    right_decides c.args.prepared.now.cutter c.args.prepared.now.step c.args.tri.now c.args.more (c.args.more - 1) c.args.leaf c.left_half.result c.right_half.result (span_of c.args.prepared.now.step c.args.leaf.d c.args.leaf.k) refl
    (c.is_passed.ensures.no c.if-is_passed.false) next
    c.left_half.ensures.d c.left_half.ensures.k c.right_half.ensures.d c.right_half.ensures.k c.in_default.ensures c.first_under-2.result c.first_under-2.ensures
