use Rattle.std.proofs.Common.{◌≡◌, ◌∙◌, sym, subst, ℕ, ◌+◌, ◌-◌, ◌*◌, ◌^◌, ◌<◌, ◌≤◌, Bool, true, false, List, [], ◌∷◌, ◌++◌, Ok, Err, arith}
use Rattle.std.specs.Prelude.{All, IfOk, Result}
use Rattle.std.proofs.lemmas.List.Elements.{All-push}
use Rattle.mill_base.specs.declared.memory.WantOfMemory.{WantOfMemory}
use Rattle.mill_arc.specs.Chords.{IsPlaceable, chord_to, chords_from, is_short, middle}
use Rattle.mill_arc.specs.Vectors.{IsNear}
use Rattle.mill_arc.specs.declared.chords.Chord.{Chord}
use Rattle.mill_arc.specs.declared.chords.Node.{Node}
use Rattle.mill_arc.specs.declared.chords.Turn.{Turn}
use Rattle.mill_arc.specs.declared.chords.TheConstants.{MAX_HALVINGS}
use Rattle.mill_arc.specs.inner.Lists.{AddsChords}
use Rattle.mill_arc.proofs.Halving.{both_add, first_adds, none_adds, short_adds}
use Rattle.mill_arc.proofs.Middles.{node_plain}
use Rattle.mill_arc.proofs.chords.+add_chords.Goals as goal

placeable : (old new : List Chord) (v : Node) (part depth : ℕ) → new ≡ old ++ (chord_to v part depth ∷ []) → IsNear v.at → part < 2 ^ depth → depth ≤ MAX_HALVINGS
    → All IsPlaceable old → All IsPlaceable new
placeable old new v part depth is near most deep all =
    subst (λ (xs : List Chord). All IsPlaceable xs) (sym is) (All-push IsPlaceable old (chord_to v part depth) all (record { near = near; part = omega arith; depth = deep }))

lift : (r : Result Bool WantOfMemory) (turn : Turn) (u v m : Node) (part depth : ℕ) (old mid new : List Chord) → is_short turn u v ≡ false → depth < MAX_HALVINGS → m ≡ middle turn u v
    → AddsChords old mid true (chords_from (MAX_HALVINGS - (depth + 1)) turn u m (2 * part) (depth + 1))
    → IfOk r (λ w. AddsChords mid new w (chords_from (MAX_HALVINGS - (depth + 1)) turn m v (2 * part + 1) (depth + 1)))
    → IfOk r (λ w. AddsChords old new w (chords_from (MAX_HALVINGS - depth) turn u v part depth))
lift (Ok w) turn u v m part depth old mid new e h is first second = both_add turn u v m part depth old mid new w e h is first second
lift (Err f) turn u v m part depth old mid new e h is first second = second

pub is_short-requires-clause-from_ok : goal.is_short-requires-clause-from_ok
is_short-requires-clause-from_ok t c = node_plain c.requires.part_ok.m c.requires.part_ok.x c.args.turn.now.radius c.args.from c.requires.part_ok.ring c.requires.part_ok.from

pub is_short-requires-clause-to_ok : goal.is_short-requires-clause-to_ok
is_short-requires-clause-to_ok t c = node_plain c.requires.part_ok.m c.requires.part_ok.x c.args.turn.now.radius c.args.to c.requires.part_ok.ring c.requires.part_ok.to

pub returns-then-is_short-clause-adds : goal.returns-then-is_short-clause-adds
returns-then-is_short-clause-adds t c =
    short_adds c.args.turn.now c.args.from c.args.to c.args.part c.args.depth c.args.chords.now.items c.push.new.self.items (sym c.is_short.ensures ∙ c.if-is_short.true) c.in_ok-push.ensures.items

pub returns-then-is_short-clause-placeable : goal.returns-then-is_short-clause-placeable
returns-then-is_short-clause-placeable t c =
    let near = (node_plain c.requires.part_ok.m c.requires.part_ok.x c.args.turn.now.radius c.args.to c.requires.part_ok.ring c.requires.part_ok.to).near in
    placeable c.args.chords.now.items c.push.new.self.items c.args.to c.args.part c.args.depth c.in_ok-push.ensures.items near c.requires.part_most c.requires.depth_ok

pub returns-then-depth-ge-MAX_HALVINGS-clause-adds : goal.returns-then-depth-ge-MAX_HALVINGS-clause-adds
returns-then-depth-ge-MAX_HALVINGS-clause-adds t c =
    none_adds c.args.turn.now c.args.from c.args.to c.args.part c.args.depth c.args.chords.now.items (sym c.is_short.ensures ∙ c.if-is_short.false) c.if-depth-ge-MAX_HALVINGS.true

pub returns-then-not-branch-clause-adds : goal.returns-then-not-branch-clause-adds
returns-then-not-branch-clause-adds t c =
    first_adds c.args.turn.now c.args.from c.args.to c.middle-middle.result c.args.part c.args.depth c.args.chords.now.items c.add_chords.new.chords.items
    (sym c.is_short.ensures ∙ c.if-is_short.false) c.if-depth-ge-MAX_HALVINGS.false c.middle-middle.ensures.value
    (subst (λ (w : Bool). AddsChords c.args.chords.now.items c.add_chords.new.chords.items w (chords_from (MAX_HALVINGS - (c.args.depth + 1)) c.args.turn.now c.args.from c.middle-middle.result (2 * c.args.part) (c.args.depth + 1)))
    c.if-not-branch.true c.in_ok-add_chords.ensures.adds)

pub returns-clause-adds : goal.returns-clause-adds
returns-clause-adds t c =
    lift c.add_chords-2.result c.args.turn.now c.args.from c.args.to c.middle-middle.result c.args.part c.args.depth c.args.chords.now.items c.add_chords.new.chords.items c.add_chords-2.new.chords.items
    (sym c.is_short.ensures ∙ c.if-is_short.false) c.if-depth-ge-MAX_HALVINGS.false c.middle-middle.ensures.value
    (subst (λ (w : Bool). AddsChords c.args.chords.now.items c.add_chords.new.chords.items w (chords_from (MAX_HALVINGS - (c.args.depth + 1)) c.args.turn.now c.args.from c.middle-middle.result (2 * c.args.part) (c.args.depth + 1)))
    c.if-not-branch.false c.in_ok-add_chords.ensures.adds)
    c.add_chords-2.ensures.adds
