use Rattle.std.proofs.Common.{subst}
use Rattle.std.specs.Prelude.{List, All}
use Rattle.std.proofs.lemmas.List.{take_all}
use Rattle.std.proofs.lemmas.List.Elements.{All-more}
use Rattle.mill_ffi_data.specs.declared.raw.RawFiber.{RawFiber}
use Rattle.mill_ffi.specs.Fibers.{IsSoundFiber}
use Rattle.mill_ffi.proofs.runs.are_fibers.Goals as goal

pub loop-raw-preserved : goal.loop-raw-preserved
loop-raw-preserved c = All-more IsSoundFiber c.args.raws.now c.loop-raw.raw-index _ c.loop-raw-test.true c.loop-raw.invariant (c.is_fiber.ensures.yes c.if-not-is_fiber.false)

pub returns-clause-yes : goal.returns-clause-yes
returns-clause-yes c = λ _. subst (λ (raws : List RawFiber). All IsSoundFiber raws) (take_all c.loop-raw.raw-index c.args.raws.now c.loop-raw-test.false) c.loop-raw.invariant
