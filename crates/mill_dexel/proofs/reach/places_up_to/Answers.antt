use Rattle.std.proofs.Common.{arith}
use Rattle.std.proofs.lemmas.Int.{ints}
use Rattle.mill_dexel.proofs.Reaches.{column_inside, column_outside, column_from_first}
use Rattle.mill_dexel.proofs.reach.places_up_to.Goals as goal

pub returns-then-span-lt0-clause-outside : goal.returns-then-span-lt0-clause-outside
returns-then-span-lt0-clause-outside c = λ i behind within.
    column_from_first i c.args.places.start c.args.«end» c.args.places.pitch (omega (arith, ints)) (omega (arith, ints))

pub steps_up_to-steps-requires-clause-pitch_ok : goal.steps_up_to-steps-requires-clause-pitch_ok
steps_up_to-steps-requires-clause-pitch_ok c = omega (arith, ints)

pub returns-clause-inside : goal.returns-clause-inside
returns-clause-inside c = λ i before.
    column_inside i c.unsigned_abs.result c.from-2.result c.args.places.start c.args.«end» c.args.places.pitch (omega (arith, ints)) (omega (arith, ints)) (omega (arith, ints))
    (c.steps_up_to-steps.ensures.inside i (omega (arith, ints)))

pub returns-clause-outside : goal.returns-clause-outside
returns-clause-outside c = λ i behind within.
    column_outside i c.unsigned_abs.result c.from-2.result c.args.places.start c.args.«end» c.args.places.pitch (omega (arith, ints)) (omega (arith, ints)) (omega (arith, ints))
    (c.steps_up_to-steps.ensures.outside i (omega (arith, ints)))
