use Rattle.std.proofs.Common.{inr, arith}
use Rattle.std.proofs.lemmas.Int.{ints}
use Rattle.mill_contact_cone.proofs.Zones.{upper_edge, lower_edge, edge_under, edge_low, edge_high, edge_both}
use Rattle.mill_contact_cone.proofs.Passes.{lower_edge_is, upper_edge_is}
use Rattle.mill_contact_cone.proofs.Stored.{z_kept, over_kept}
use Rattle.mill_contact_cone.proofs.edge.touches_rising.Goals as goal

pub returns-then-q-le0-clause-no : goal.returns-then-q-le0-clause-no
returns-then-q-le0-clause-no c = λ h t.
    let q_down = rw (z_kept c.args.q c.requires.q_ok) at c.if-q-le0.true in
    edge_under c.args.cone c.args.p c.args.q c.requires.rising (omega (arith, ints)) t

pub returns-then-q-le0-2-clause-yes : goal.returns-then-q-le0-2-clause-yes
returns-then-q-le0-2-clause-yes c = λ h. lower_edge c.args.cone c.args.p c.args.q c.requires.cone_ok c.requires.p_is c.requires.q_is (c.crosses_cone.ensures.yes h)

pub returns-then-q-le0-2-clause-no : goal.returns-then-q-le0-2-clause-no
returns-then-q-le0-2-clause-no c = λ h t.
    let q_low = rw (over_kept c.args.q c.requires.q_ok) at c.if-q-le0-2.true in
    edge_low c.args.cone c.args.p c.args.q c.requires.cone_ok c.requires.p_is c.requires.q_is c.requires.rising (omega (arith, ints)) (c.crosses_cone.ensures.no h) t

pub returns-then-p-ge0-clause-yes : goal.returns-then-p-ge0-clause-yes
returns-then-p-ge0-clause-yes c = λ h. upper_edge c.args.cone c.args.p c.args.q c.requires.cone_ok c.requires.p_is c.requires.q_is (c.passes_cylinder.ensures.yes h)

pub returns-then-p-ge0-clause-no : goal.returns-then-p-ge0-clause-no
returns-then-p-ge0-clause-no c = λ h t.
    let p_high = rw (over_kept c.args.p c.requires.p_ok) at c.if-p-ge0.true in
    let q_high = rw (over_kept c.args.q c.requires.q_ok) at c.if-q-le0-2.false in
    edge_high c.args.cone c.args.p c.args.q (omega (arith, ints)) (omega (arith, ints)) (c.passes_cylinder.ensures.no h) t

pub returns-then-hits_upper-clause-yes : goal.returns-then-hits_upper-clause-yes
returns-then-hits_upper-clause-yes c = λ h. upper_edge c.args.cone c.args.p c.args.q c.requires.cone_ok c.requires.p_is c.requires.q_is (c.hits_upper.ensures.yes c.if-hits_upper.true)

pub returns-clause-yes : goal.returns-clause-yes
returns-clause-yes c = λ h. lower_edge c.args.cone c.args.p c.args.q c.requires.cone_ok c.requires.p_is c.requires.q_is (c.hits_lower.ensures.yes h)

pub returns-clause-no : goal.returns-clause-no
returns-clause-no c = λ h t. edge_both c.args.cone c.args.p c.args.q (c.hits_upper.ensures.no c.if-hits_upper.false) (c.hits_lower.ensures.no h) t

pub hits_lower-requires-clause-under : goal.hits_lower-requires-clause-under
hits_lower-requires-clause-under c =
    let p_low = rw (over_kept c.args.p c.requires.p_ok) at c.if-p-ge0.false in
    inr (omega (arith, ints))

pub crosses_cone-requires-clause-edge : goal.crosses_cone-requires-clause-edge
crosses_cone-requires-clause-edge c =
    lower_edge_is c.args.cone c.args.p c.args.q c.requires.p_is c.requires.q_is c.requires.rising (rw (z_kept c.args.q c.requires.q_ok) at c.if-q-le0.false) (rw (over_kept c.args.q c.requires.q_ok) at c.if-q-le0-2.true)

pub passes_cylinder-requires-clause-edge : goal.passes_cylinder-requires-clause-edge
passes_cylinder-requires-clause-edge c =
    upper_edge_is c.args.cone c.args.p c.args.q c.requires.p_is c.requires.q_is (rw (over_kept c.args.p c.requires.p_ok) at c.if-p-ge0.true) (rw (over_kept c.args.q c.requires.q_ok) at c.if-q-le0-2.false)
