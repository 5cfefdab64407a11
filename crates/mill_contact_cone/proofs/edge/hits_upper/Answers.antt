use Rattle.mill_contact_cone.proofs.Zones.{part_upper, upper_part, upper_apart}
use Rattle.mill_contact_cone.proofs.Stored.{over_kept}
use Rattle.mill_contact_cone.proofs.edge.hits_upper.Goals as goal

pub hits_between-requires-clause-apart : goal.hits_between-requires-clause-apart
hits_between-requires-clause-apart c =
    upper_apart c.args.p.over c.args.q.over c.start-from.result c.last.result (rw (over_kept c.args.p c.requires.p_ok, over_kept c.args.q c.requires.q_ok) at c.start-from.ensures.place) c.last.ensures.u c.last.ensures.v c.requires.q_over

pub returns-clause-yes : goal.returns-clause-yes
returns-clause-yes c = λ h.
    part_upper c.args.cone c.args.p c.args.q c.upper_form-form.result c.start-from.result c.last.result c.upper_form-form.ensures.value (rw (over_kept c.args.p c.requires.p_ok, over_kept c.args.q c.requires.q_ok) at c.start-from.ensures.place) c.last.ensures.u c.last.ensures.v
    c.requires.q_over (c.hits_between.ensures.yes h)

pub returns-clause-no : goal.returns-clause-no
returns-clause-no c = λ h t.
    c.hits_between.ensures.no h
    (upper_part c.args.cone c.args.p c.args.q c.upper_form-form.result c.start-from.result c.last.result c.upper_form-form.ensures.value (rw (over_kept c.args.p c.requires.p_ok, over_kept c.args.q c.requires.q_ok) at c.start-from.ensures.place) c.last.ensures.u c.last.ensures.v t)
