use Rattle.std.proofs.Common.{subst}
use Rattle.std.specs.Prelude.{List, All}
use Rattle.std.proofs.lemmas.List.{take_all}
use Rattle.std.proofs.lemmas.List.Elements.{All-more}
use Rattle.mill_ffi_data.specs.Raw.{IsPlace}
use Rattle.mill_ffi_data.specs.declared.raw.RawPlace.{RawPlace}
use Rattle.mill_ffi_data.proofs.part.are_places.Goals as goal

pub loop-raw-preserved : goal.loop-raw-preserved
loop-raw-preserved c = All-more IsPlace c.args.raws.now c.loop-raw.raw-index _ c.loop-raw-test.true c.loop-raw.invariant (c.is_place.ensures.yes c.if-not-is_place.false)

pub returns-clause-yes : goal.returns-clause-yes
returns-clause-yes c = λ _. subst (λ (raws : List RawPlace). All IsPlace raws) (take_all c.loop-raw.raw-index c.args.raws.now c.loop-raw-test.false) c.loop-raw.invariant
