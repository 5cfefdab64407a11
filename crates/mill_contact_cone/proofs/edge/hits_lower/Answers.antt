use Rattle.std.proofs.Common.{sym, subst, arith}
use lib.IntN.{ℤ, pos, ◌-ℤ◌}
use lib.Signed.{◌≤ℤ◌}
use Rattle.std.proofs.lemmas.Int.{ints}
use Rattle.mill_contact_cone.proofs.Zones.{part_lower, lower_part, lower_apart, lower_under}
use Rattle.mill_contact_cone.proofs.Stored.{z_kept, under_kept, under_within}
use Rattle.mill_contact_cone.proofs.edge.hits_lower.Goals as goal

opposed : (x : ℤ) → x ≤ℤ pos 0 → (pos 0) ≤ℤ (pos 0 -ℤ x)
opposed x h = omega (arith, ints)

pub start-back-requires-clause-f_ok : goal.start-back-requires-clause-f_ok
start-back-requires-clause-f_ok c = under_within c.args.q c.requires.q_ok

pub start-back-requires-clause-g_ok : goal.start-back-requires-clause-g_ok
start-back-requires-clause-g_ok c = under_within c.args.p c.requires.p_ok

pub start-back-requires-clause-g_least : goal.start-back-requires-clause-g_least
start-back-requires-clause-g_least c =
    subst (λ t. (pos 0) ≤ℤ t) (sym (under_kept c.args.p c.requires.p_ok))
    (opposed c.args.p.over (lower_under c.args.cone c.args.p c.args.q c.requires.cone_ok c.requires.p_is c.requires.q_is c.requires.rising c.requires.under))

pub hits_between-requires-clause-apart : goal.hits_between-requires-clause-apart
hits_between-requires-clause-apart c =
    lower_apart c.args.cone c.args.p c.args.q c.start-from.result c.start-back.result c.turned.result c.requires.cone_ok c.requires.p_is c.requires.q_is
    (rw (z_kept c.args.p c.requires.p_ok, z_kept c.args.q c.requires.q_ok) at c.start-from.ensures.place) (rw (under_kept c.args.p c.requires.p_ok, under_kept c.args.q c.requires.q_ok) at c.start-back.ensures.place) c.turned.ensures.u c.turned.ensures.v c.requires.q_up c.requires.under

pub returns-clause-yes : goal.returns-clause-yes
returns-clause-yes c = λ h.
    part_lower c.args.cone c.args.p c.args.q c.lower_form-form.result c.start-from.result c.start-back.result c.turned.result c.lower_form-form.ensures.value
    (rw (z_kept c.args.p c.requires.p_ok, z_kept c.args.q c.requires.q_ok) at c.start-from.ensures.place) (rw (under_kept c.args.p c.requires.p_ok, under_kept c.args.q c.requires.q_ok) at c.start-back.ensures.place) c.turned.ensures.u c.turned.ensures.v c.requires.q_up
    (lower_under c.args.cone c.args.p c.args.q c.requires.cone_ok c.requires.p_is c.requires.q_is c.requires.rising c.requires.under) (c.hits_between.ensures.yes h)

pub returns-clause-no : goal.returns-clause-no
returns-clause-no c = λ h t.
    c.hits_between.ensures.no h
    (lower_part c.args.cone c.args.p c.args.q c.lower_form-form.result c.start-from.result c.start-back.result c.turned.result c.lower_form-form.ensures.value
    (rw (z_kept c.args.p c.requires.p_ok, z_kept c.args.q c.requires.q_ok) at c.start-from.ensures.place) (rw (under_kept c.args.p c.requires.p_ok, under_kept c.args.q c.requires.q_ok) at c.start-back.ensures.place) c.turned.ensures.u c.turned.ensures.v t)
