use Rattle.std.specs.List.{AllZip, range_with_len}
use Rattle.mill_plan.specs.inner.Feeds.{SaysClearTo}
use Rattle.mill_plan.proofs.feeds.clear_links_alone.Given as goal

abbrev pub invariant-loop-number : goal.invariant-loop-number
invariant-loop-number l = AllZip (SaysClearTo l.job.fields l.part l.visits) (range_with_len 0 l.number) l.answers.items
