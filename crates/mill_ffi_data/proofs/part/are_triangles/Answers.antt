use Rattle.std.proofs.Common.{subst}
use Rattle.std.specs.Prelude.{List, All}
use Rattle.std.proofs.lemmas.List.{take_all}
use Rattle.std.proofs.lemmas.List.Elements.{All-more}
use Rattle.mill_ffi_data.specs.Raw.{IsTriangle}
use Rattle.mill_ffi_data.specs.declared.raw.RawTriangle.{RawTriangle}
use Rattle.mill_ffi_data.proofs.part.are_triangles.Goals as goal

pub loop-raw-preserved : goal.loop-raw-preserved
loop-raw-preserved c = All-more IsTriangle c.args.raws.now c.loop-raw.raw-index _ c.loop-raw-test.true c.loop-raw.invariant (c.is_triangle.ensures.yes c.if-not-is_triangle.false)

pub returns-clause-yes : goal.returns-clause-yes
returns-clause-yes c = λ _. subst (λ (raws : List RawTriangle). All IsTriangle raws) (take_all c.loop-raw.raw-index c.args.raws.now c.loop-raw-test.false) c.loop-raw.invariant
