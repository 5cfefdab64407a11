use Rattle.std.proofs.lemmas.List.Elements.{All-get_or, All-weaker}
use Rattle.mill_base.proofs.Ranges.{in_range_of_unit}
use Rattle.mill_base.specs.Ranges.{IsInUnitRange}
use Rattle.mill_paths.specs.Visits.{IsVisit}
use Rattle.mill_plan.proofs.Feeding.{says_to}
use Rattle.mill_plan.proofs.feeds.is_clear_to.Goals as goal

pub place_before-from-requires-clause-visits_ok : goal.place_before-from-requires-clause-visits_ok
place_before-from-requires-clause-visits_ok c =
    All-weaker (IsVisit c.args.job.now.fields c.args.part.now) (λ v. IsInUnitRange c.args.job.now.fields.unit v.at) (λ v is. is.in_range) c.args.visits.now c.requires.visits_ok

pub goes_clear-requires-clause-from_ok : goal.goes_clear-requires-clause-from_ok
goes_clear-requires-clause-from_ok c = in_range_of_unit c.args.job.now.fields.unit _ c.place_before-from.ensures.in_range

pub goes_clear-requires-clause-to_ok : goal.goes_clear-requires-clause-to_ok
goes_clear-requires-clause-to_ok c =
    in_range_of_unit c.args.job.now.fields.unit _ (All-get_or (IsVisit c.args.job.now.fields c.args.part.now) c.args.visits.now c.args.number _ c.requires.number_ok c.requires.visits_ok).in_range

pub returns : goal.returns
returns c =
    says_to c.args.job.now.fields c.args.part.now c.args.visits.now c.args.number _ c.place_before-from.result c.goes_clear.result c.requires.number_ok c.place_before-from.ensures.value c.goes_clear.ensures
