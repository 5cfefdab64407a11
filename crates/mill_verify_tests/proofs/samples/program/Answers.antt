use Rattle.std.proofs.Common.{arith, refl, subst}
use Rattle.std.proofs.lemmas.Int.{ints}
use Rattle.mill_base.proofs.Ranges.{in_range_of_unit}
use Rattle.mill_job.specs.Columns.{home}
use Rattle.mill_verify_tests.proofs.Programs.{LeadTo, leads_none, leads_more, leads_follow}
use Rattle.mill_verify_tests.proofs.samples.program.Goals as goal

pub loop-each-init : goal.loop-each-init
loop-each-init c =
    subst (λ start. LeadTo start c.home-at.result c.new-moves.result.items) c.home-at.ensures.value
    (leads_none _ _ (in_range_of_unit c.args.job.now.fields.unit _ c.home-at.ensures.in_range) c.new-moves.ensures.items)

pub loop-each-preserved : goal.loop-each-preserved
loop-each-preserved c = leads_more _ _ _ _ c.in_ok-step.step c.loop-each.invariant c.in_ok-step.ensures.start c.in_ok-step.ensures.range c.in_ok-push.ensures.items

pub returns-clause-follow : goal.returns-clause-follow
returns-clause-follow c = record { from = home c.args.job.now.fields; over = omega (arith, ints); at_home = λ _. refl; follow = leads_follow _ _ _ c.loop-each.invariant }
