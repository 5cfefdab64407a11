use Rattle.std.proofs.Common.{◌≡◌, ◌∙◌, sym, subst, rules, FitsSigned, w64, to_z, of_z}
use Rattle.std.specs.Prelude.{ℤ}
use Rattle.std.proofs.lemmas.Int.{to_z-of_z}
use Rattle.mill_arc.proofs.Parts.{arc_part}
use Rattle.mill_arc.specs.Arcs.{IsArc, IsSound, radius_of}
use Rattle.mill_arc.specs.Chords.{turn_of}
use Rattle.mill_arc.specs.declared.arc.Arc.{Arc}
use Rattle.mill_arc.specs.declared.chords.Turn.{Turn}
use Rattle.mill_arc.specs.inner.Nodes.{IsPart}
use Rattle.mill_arc.proofs.arc.Arc.add_to.Goals as goal

placed : (arc : Arc) (turn : Turn) (a b : ℤ) → IsArc arc → IsSound arc → turn ≡ turn_of arc → a ≡ radius_of arc.start → b ≡ radius_of arc.«end»
    → IsPart turn (record { at = arc.start; radius = a }) (record { at = arc.«end»; radius = b })
placed arc turn a b h sound t p q =
    subst (λ (s : Turn). IsPart s (record { at = arc.start; radius = a }) (record { at = arc.«end»; radius = b })) (sym t)
    (subst (λ (r : ℤ). IsPart (turn_of arc) (record { at = arc.start; radius = r }) (record { at = arc.«end»; radius = b })) (sym p)
    (subst (λ (r : ℤ). IsPart (turn_of arc) (record { at = arc.start; radius = radius_of arc.start }) (record { at = arc.«end»; radius = r })) (sym q) (arc_part arc h sound)))

pub add_chords-requires-clause-part_ok : goal.add_chords-requires-clause-part_ok
add_chords-requires-clause-part_ok c =
    let f1 : FitsSigned w64 c.start.result = search rules in
    let f2 : FitsSigned w64 c.end.result = search rules in
    placed c.args.self.now c.turn.result (to_z w64 (of_z w64 c.start.result)) (to_z w64 (of_z w64 c.end.result)) c.requires.arc c.requires.sound c.turn.ensures
    (to_z-of_z w64 _ f1 ∙ c.start.ensures ∙ c.radii-radii.ensures.start_is) (to_z-of_z w64 _ f2 ∙ c.end.ensures ∙ c.radii-radii.ensures.end_is)
