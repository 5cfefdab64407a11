use Rattle.std.proofs.Common.{arith}
use Rattle.std.proofs.lemmas.Int.{ints}
use Rattle.mill_contact_cone.specs.inner.Positions.{flattened}
use Rattle.mill_contact_cone.proofs.Zones.{edge_turned}
use Rattle.mill_contact_cone.proofs.Splits.{all_less, all_more, split_less, split_more, less_turned, more_turned}
use Rattle.mill_contact_cone.proofs.Stored.{x_kept}
use Rattle.mill_contact_cone.proofs.side.edge_side.Goals as goal

pub returns-then-q-le0 : goal.returns-then-q-le0
returns-then-q-le0 c =
    let p_less = rw (x_kept c.args.p c.requires.p_ok) at c.if-p-lt0.true in
    let q_less = rw (x_kept c.args.q c.requires.q_ok) at c.if-q-le0.true in
    all_less c.args.cone c.args.p c.args.q c.requires.seen c.requires.apart (omega (arith, ints)) (omega (arith, ints))

pub returns-then-before : goal.returns-then-before
returns-then-before c =
    let p_less = rw (x_kept c.args.p c.requires.p_ok) at c.if-p-lt0.true in
    split_less c.args.cone c.args.p c.args.q c.requires.cone_ok c.requires.seen c.requires.apart (omega (arith, ints)) (c.is_before-before.ensures.yes c.if-before.true)

pub returns-then-p-lt0 : goal.returns-then-p-lt0
returns-then-p-lt0 c =
    let p_less = rw (x_kept c.args.p c.requires.p_ok) at c.if-p-lt0.true in
    let q_more = rw (x_kept c.args.q c.requires.q_ok) at c.if-q-le0.false in
    split_more c.args.cone c.args.p c.args.q c.requires.cone_ok c.requires.seen c.requires.apart (omega (arith, ints)) (omega (arith, ints)) (c.is_before-before.ensures.no c.if-before.false)

pub returns-then-q-ge0 : goal.returns-then-q-ge0
returns-then-q-ge0 c =
    let p_more = rw (x_kept c.args.p c.requires.p_ok) at c.if-p-lt0.false in
    let q_more = rw (x_kept c.args.q c.requires.q_ok) at c.if-q-ge0.true in
    all_more c.args.cone c.args.p c.args.q c.requires.seen c.requires.apart (omega (arith, ints)) (omega (arith, ints))

pub returns-then-p-le0 : goal.returns-then-p-le0
returns-then-p-le0 c =
    let p_less = rw (x_kept c.args.p c.requires.p_ok) at c.if-p-le0.true in
    let q_less = rw (x_kept c.args.q c.requires.q_ok) at c.if-q-ge0.false in
    all_less c.args.cone c.args.p c.args.q c.requires.seen c.requires.apart (omega (arith, ints)) (omega (arith, ints))

pub returns-then-behind : goal.returns-then-behind
returns-then-behind c =
    let q_less = rw (x_kept c.args.q c.requires.q_ok) at c.if-q-ge0.false in
    less_turned c.args.cone c.args.q c.args.p (split_less c.args.cone c.args.q c.args.p c.requires.cone_ok (edge_turned c.args.cone (flattened c.args.p) (flattened c.args.q) c.requires.seen)
    (λ t. c.requires.apart (edge_turned c.args.cone c.args.q c.args.p t)) (omega (arith, ints)) (c.is_before-behind.ensures.yes c.if-behind.true))

pub returns : goal.returns
returns c =
    let p_more = rw (x_kept c.args.p c.requires.p_ok) at c.if-p-le0.false in
    let q_less = rw (x_kept c.args.q c.requires.q_ok) at c.if-q-ge0.false in
    more_turned c.args.cone c.args.q c.args.p (split_more c.args.cone c.args.q c.args.p c.requires.cone_ok (edge_turned c.args.cone (flattened c.args.p) (flattened c.args.q) c.requires.seen)
    (λ t. c.requires.apart (edge_turned c.args.cone c.args.q c.args.p t)) (omega (arith, ints)) (omega (arith, ints)) (c.is_before-behind.ensures.no c.if-behind.false))
