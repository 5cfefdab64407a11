use Rattle.std.proofs.Common.{◌≡◌, false, map, take}
use Rattle.std.specs.Prelude.{All}
use Rattle.mill_document.specs.Details.{failing_data}
use Rattle.serde_json.specs.View.{view}
use Rattle.serde_json.specs.Written.{has_float}
use Rattle.mill_document.proofs.list.failing_values.Given as goal

abbrev pub invariant-loop-index : goal.invariant-loop-index
invariant-loop-index l = record {
  told : map view l.values.items ≡ failing_data l.job.fields l.part l.moves l.text l.places (take l.index l.found) (take l.index l.lifts);
  plain : All (λ v. has_float (view v) ≡ false) l.values.items;
}
