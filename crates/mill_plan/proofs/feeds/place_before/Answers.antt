use Rattle.std.proofs.Common.{◌≡◌, ◌+◌, ◌-◌, ◌<◌, length, arith}
use Rattle.std.proofs.lemmas.List.Elements.{All-get_or}
use Rattle.mill_base.specs.Ranges.{IsInUnitRange}
use Rattle.mill_plan.proofs.Touring.{place_at}
use Rattle.mill_plan.proofs.feeds.place_before.Goals as goal

pub returns-clause-value : goal.returns-clause-value
returns-clause-value c =
    let next : (c.args.number - 1) + 1 ≡ c.args.number = omega arith in
    place_at c.args.job.now.fields c.args.visits.now c.args.number (c.args.number - 1) _ next c.requires.number_ok

pub returns-clause-in_range : goal.returns-clause-in_range
returns-clause-in_range c =
    let inside : (c.args.number - 1) < length c.args.visits.now = omega arith in
    All-get_or (λ v. IsInUnitRange c.args.job.now.fields.unit v.at) c.args.visits.now (c.args.number - 1) _ inside c.requires.visits_ok
