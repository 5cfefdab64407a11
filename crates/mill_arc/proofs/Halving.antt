-- The chords of a sector, by its halves.
use Rattle.std.specs.Prelude.{◌≡◌, ℕ, zero, suc, ◌+◌, ◌-◌, ◌*◌, ◌<◌, ◌≤◌, Bool, true, false, if◌then◌else◌, List, [], ◌∷◌, ◌++◌, Option, Some, None}
use Rattle.std.proofs.Common.{refl, sym, ap, subst, ◌∙◌, append_assoc, arith}
use Rattle.mill_arc.specs.Chords.{chord_to, chords_from, is_short, joined, middle}
use Rattle.mill_arc.specs.declared.chords.Chord.{Chord}
use Rattle.mill_arc.specs.declared.chords.Node.{Node}
use Rattle.mill_arc.specs.declared.chords.Turn.{Turn}
use Rattle.mill_arc.specs.declared.chords.TheConstants.{MAX_HALVINGS}
use Rattle.mill_arc.specs.inner.Lists.{AddsChords}

abbrev pub halves : ℕ → Turn → Node → Node → ℕ → ℕ → Option (List Chord)
halves n turn u v part depth = joined (chords_from n turn u (middle turn u v) (2 * part) (depth + 1)) (chords_from n turn (middle turn u v) v (2 * part + 1) (depth + 1))

pub short_is : (n : ℕ) (turn : Turn) (u v : Node) (part depth : ℕ) → is_short turn u v ≡ true → chords_from n turn u v part depth ≡ Some (chord_to v part depth ∷ [])
unfolding chords_from
short_is zero turn u v part depth e = ap (λ (t : Bool). if t then Some (chord_to v part depth ∷ []) else None) e
short_is (suc n) turn u v part depth e = ap (λ (t : Bool). if t then Some (chord_to v part depth ∷ []) else halves n turn u v part depth) e

pub none_is : (turn : Turn) (u v : Node) (part depth : ℕ) → is_short turn u v ≡ false → chords_from 0 turn u v part depth ≡ None
unfolding chords_from
none_is turn u v part depth e = ap (λ (t : Bool). if t then Some (chord_to v part depth ∷ []) else None) e

pub halved : (n : ℕ) (turn : Turn) (u v : Node) (part depth : ℕ) → is_short turn u v ≡ false → chords_from (suc n) turn u v part depth ≡ halves n turn u v part depth
unfolding chords_from
halved n turn u v part depth e = ap (λ (t : Bool). if t then Some (chord_to v part depth ∷ []) else halves n turn u v part depth) e

-- ---- what is added, step by step

pub short_adds : (turn : Turn) (u v : Node) (part depth : ℕ) (old new : List Chord) → is_short turn u v ≡ true → new ≡ old ++ (chord_to v part depth ∷ [])
    → AddsChords old new true (chords_from (MAX_HALVINGS - depth) turn u v part depth)
short_adds turn u v part depth old new e is = subst (λ (o : Option (List Chord)). AddsChords old new true o) (sym (short_is (MAX_HALVINGS - depth) turn u v part depth e)) (refl, is)

pub none_adds : (turn : Turn) (u v : Node) (part depth : ℕ) (old : List Chord) → is_short turn u v ≡ false → MAX_HALVINGS ≤ depth
    → AddsChords old old false (chords_from (MAX_HALVINGS - depth) turn u v part depth)
none_adds turn u v part depth old e deep = subst (λ (o : Option (List Chord)). AddsChords old old false o) (sym (ap (λ (n : ℕ). chords_from n turn u v part depth) (none_left depth deep) ∙ none_is turn u v part depth e)) refl
  where
    none_left : (depth : ℕ) → MAX_HALVINGS ≤ depth → MAX_HALVINGS - depth ≡ 0
    none_left depth h = omega arith

left_of : (depth : ℕ) → depth < MAX_HALVINGS → MAX_HALVINGS - depth ≡ suc (MAX_HALVINGS - (depth + 1))
left_of depth h = omega arith

halves_of : (turn : Turn) (u v : Node) (part depth : ℕ) → is_short turn u v ≡ false → depth < MAX_HALVINGS
    → halves (MAX_HALVINGS - (depth + 1)) turn u v part depth ≡ chords_from (MAX_HALVINGS - depth) turn u v part depth
halves_of turn u v part depth e h = sym (ap (λ (n : ℕ). chords_from n turn u v part depth) (left_of depth h) ∙ halved (MAX_HALVINGS - (depth + 1)) turn u v part depth e)

pub first_adds : (turn : Turn) (u v m : Node) (part depth : ℕ) (old new : List Chord) → is_short turn u v ≡ false → depth < MAX_HALVINGS → m ≡ middle turn u v
    → AddsChords old new false (chords_from (MAX_HALVINGS - (depth + 1)) turn u m (2 * part) (depth + 1))
    → AddsChords old new false (chords_from (MAX_HALVINGS - depth) turn u v part depth)
first_adds turn u v m part depth old new e h is first =
    subst (λ (o : Option (List Chord)). AddsChords old new false o) (halves_of turn u v part depth e h)
    (by (chords_from (MAX_HALVINGS - (depth + 1)) turn u (middle turn u v) (2 * part) (depth + 1)) (chords_from (MAX_HALVINGS - (depth + 1)) turn (middle turn u v) v (2 * part + 1) (depth + 1))
    (subst (λ (n : Node). AddsChords old new false (chords_from (MAX_HALVINGS - (depth + 1)) turn u n (2 * part) (depth + 1))) is first))
  where
    by : (a b : Option (List Chord)) → AddsChords old new false a → AddsChords old new false (joined a b)
    by None b h = refl
    by (Some cs) None h = refl
    by (Some cs) (Some ds) h = let e = h.0 in absurd (differ e)
      where
        differ : false ≡ true → ⊥
        differ e = cc

pub both_add : (turn : Turn) (u v m : Node) (part depth : ℕ) (old mid new : List Chord) (whole : Bool) → is_short turn u v ≡ false → depth < MAX_HALVINGS → m ≡ middle turn u v
    → AddsChords old mid true (chords_from (MAX_HALVINGS - (depth + 1)) turn u m (2 * part) (depth + 1))
    → AddsChords mid new whole (chords_from (MAX_HALVINGS - (depth + 1)) turn m v (2 * part + 1) (depth + 1))
    → AddsChords old new whole (chords_from (MAX_HALVINGS - depth) turn u v part depth)
both_add turn u v m part depth old mid new whole e h is first second =
    subst (λ (o : Option (List Chord)). AddsChords old new whole o) (halves_of turn u v part depth e h)
    (by (chords_from (MAX_HALVINGS - (depth + 1)) turn u (middle turn u v) (2 * part) (depth + 1)) (chords_from (MAX_HALVINGS - (depth + 1)) turn (middle turn u v) v (2 * part + 1) (depth + 1))
    (subst (λ (n : Node). AddsChords old mid true (chords_from (MAX_HALVINGS - (depth + 1)) turn u n (2 * part) (depth + 1))) is first)
    (subst (λ (n : Node). AddsChords mid new whole (chords_from (MAX_HALVINGS - (depth + 1)) turn n v (2 * part + 1) (depth + 1))) is second))
  where
    differ : true ≡ false → ⊥
    differ e = cc

    by : (a b : Option (List Chord)) → AddsChords old mid true a → AddsChords mid new whole b → AddsChords old new whole (joined a b)
    by None b h k = absurd (differ h)
    by (Some cs) None h k = k
    by (Some cs) (Some ds) h k = (k.0, k.1 ∙ ap (λ (xs : List Chord). xs ++ ds) h.1 ∙ append_assoc old cs ds)
