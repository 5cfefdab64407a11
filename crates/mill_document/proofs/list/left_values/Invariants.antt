use Rattle.std.proofs.Common.{◌≡◌, false, map, take}
use Rattle.std.specs.Prelude.{All}
use Rattle.mill_document.specs.Details.{left_column}
use Rattle.mill_document.specs.Documents.{column_data}
use Rattle.serde_json.specs.View.{view}
use Rattle.serde_json.specs.Written.{has_float}
use Rattle.mill_document.proofs.list.left_values.Given as goal

abbrev pub invariant-loop-index : goal.invariant-loop-index
invariant-loop-index l = record {
  told : map view l.values.items ≡ map (λ c. column_data l.job.fields.unit (left_column l.job.fields c)) (take l.index l.left);
  plain : All (λ v. has_float (view v) ≡ false) l.values.items;
}
