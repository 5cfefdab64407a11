use Rattle.std.proofs.Common.{◌≡◌, sym, ap, subst, ◌∙◌}
use Rattle.std.proofs.lemmas.Int.{to_z-of_z}
use Rattle.std.specs.Int.{w32}
use Rattle.std.specs.Prelude.{IsUtf8}
use Rattle.mill_decimal.specs.Decimals.{canonical}
use Rattle.mill_document.proofs.Ascii.{IsUtf8-canonical, small_enough}
use Rattle.serde_json.specs.Data.{string}
use Rattle.mill_document.proofs.values.length_value.Goals as goal

pub returns : goal.returns
returns c =
    let passed = ap (canonical c.args.unit) (to_z-of_z w32 c.args.units c.ranges.units) in
    let bytes : c.as_bytes.result.now ≡ canonical c.args.unit c.args.units = c.as_bytes.ensures.text ∙ c.write_decimal.ensures ∙ passed in
    let valid : IsUtf8 c.as_bytes.result.now = subst IsUtf8 (sym bytes) (IsUtf8-canonical c.args.unit c.args.units (small_enough c.args.units c.ranges.units)) in
    c.from.ensures ∙ ap string (c.in_ok-text.ensures.ok valid ∙ bytes)
