use Rattle.std.proofs.Common.{◌≡◌, subst, sym, arith}
use Rattle.std.proofs.lemmas.Grind.{common_steps}
use Rattle.std.specs.Prelude.{List}
use Rattle.mill_base.specs.Ranges.{TrisInRange}
use Rattle.mill_base.specs.declared.points.Tri.{Tri}
use Rattle.mill_ffi_data.specs.Raw.{tris_of}
use Rattle.mill_ffi_data.proofs.Parts.{in_range_of, length-tris_of}
use Rattle.mill_ffi_data.proofs.part.part_from.Goals as goal

pub new-requires-clause-in_range : goal.new-requires-clause-in_range
new-requires-clause-in_range c =
    let whole : c.loop-raw.tris.items ≡ tris_of c.args.raws.now = grind (arith, common_steps) in
    subst (λ (tris : List Tri). TrisInRange tris) (sym whole) (in_range_of c.args.raws.now c.requires.in_range)

pub new-requires-clause-count : goal.new-requires-clause-count
new-requires-clause-count c =
    let whole : c.loop-raw.tris.items ≡ tris_of c.args.raws.now = grind (arith, common_steps) in
    rw whole (rw (length-tris_of c.args.raws.now) c.requires.count)
