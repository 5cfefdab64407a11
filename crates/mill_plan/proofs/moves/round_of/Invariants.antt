use Rattle.std.specs.Prelude.{◌≡◌, List, take, All}
use Rattle.mill_base.specs.Ranges.{IsInUnitRange}
use Rattle.mill_base.specs.declared.points.Tri.{Tri}
use Rattle.mill_dexel.specs.Rows.{IsRowOf}
use Rattle.mill_links.specs.Links.{FollowStock}
use Rattle.mill_links.specs.Tours.{GoesThrough}
use Rattle.mill_plan.specs.inner.Feeds.{SayClear, place_before}
use Rattle.mill_plan.proofs.moves.round_of.Given as goal

abbrev pub invariant-loop-number : goal.invariant-loop-number
invariant-loop-number l = record {
  place : l.place ≡ place_before l.job.fields l.visits l.number;
  tour : (part : List Tri) → SayClear l.job.fields part l.visits l.clear → GoesThrough l.job.fields part (take l.number l.visits) l.moves.items;
  stock : (part : List Tri) → SayClear l.job.fields part l.visits l.clear → FollowStock l.job.fields l.moves.items l.rows;
  rows_ok : All (IsRowOf l.job.fields) l.rows;
  in_range : IsInUnitRange l.job.fields.unit l.place;
}
