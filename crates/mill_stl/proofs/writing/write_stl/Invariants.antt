use Rattle.std.proofs.Common.{◌≡◌, ◌++◌, take}
use Rattle.std.specs.List.{flat_map}
use Rattle.mill_stl.specs.Written.{facet_text}
use Rattle.mill_stl.proofs.WrittenTexts.{front}
use Rattle.mill_stl.proofs.writing.write_stl.Given as goal

abbrev pub invariant-loop-tri : goal.invariant-loop-tri
invariant-loop-tri l = l.text.items ≡ front ++ flat_map (facet_text l.unit) (take l.tri-index l.tris)
