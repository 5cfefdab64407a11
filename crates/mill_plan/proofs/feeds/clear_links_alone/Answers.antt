use Rattle.std.proofs.Common.{◌≡◌, ℕ, length, subst, arith}
use Rattle.std.specs.List.{AllZip, range_with_len}
use Rattle.mill_plan.specs.inner.Feeds.{SaysClearTo}
use Rattle.mill_plan.proofs.Feeding.{as_many, told_more}
use Rattle.mill_plan.proofs.feeds.clear_links_alone.Goals as goal

pub is_clear_to-requires : goal.is_clear_to-requires
is_clear_to-requires c = record { visits_ok = c.requires; number_ok = c.loop-number-test.true }

pub loop-number-preserved : goal.loop-number-preserved
loop-number-preserved c =
    told_more (SaysClearTo c.args.job.now.fields c.args.part.now c.args.visits.now) c.loop-number.number c.loop-number.answers.items c.push.new.self.items c.is_clear_to.result c.loop-number.invariant
    c.is_clear_to.ensures c.in_ok-push.ensures.items

pub returns-clause-say : goal.returns-clause-say
returns-clause-say c =
    let all : c.loop-number.number ≡ length c.args.visits.now = omega (arith, c.loop-number-test.false) in
    subst (λ (n : ℕ). AllZip (SaysClearTo c.args.job.now.fields c.args.part.now c.args.visits.now) (range_with_len 0 n) c.loop-number.answers.items) all c.loop-number.invariant

pub returns-clause-each : goal.returns-clause-each
returns-clause-each c =
    as_many (SaysClearTo c.args.job.now.fields c.args.part.now c.args.visits.now) 0 (length c.args.visits.now) c.loop-number.answers.items (returns-clause-say c)
