-- The chords' parts of a turn stand one behind the other.
use Rattle.std.specs.Prelude.{◌≡◌, ℕ, zero, suc, ◌+◌, ◌*◌, ◌/◌, ◌^◌, ◌<◌, Bool, true, false, if◌then◌else◌, List, [], ◌∷◌, ◌++◌, Some, None}
use Rattle.std.proofs.Common.{refl, sym, ap, subst, ◌∙◌, arith}
use Rattle.std.proofs.Math.Nat.{mul-div_cancel, one-le-pow}
use Rattle.std.proofs.lemmas.Nat.{pow-add}
use Rattle.mill_arc.proofs.Parted.{AreJoined, joined_some, some_same}
use Rattle.mill_arc.specs.Chords.{chord_to, chords_from, end_of, is_short, joined, middle, start_of, turn_of}
use Rattle.mill_arc.specs.Turns.{GoesOn, PartsAreTurn}
use Rattle.mill_arc.specs.declared.chords.Chord.{Chord}
use Rattle.mill_arc.specs.declared.chords.Node.{Node}
use Rattle.mill_arc.specs.declared.chords.Turn.{Turn}
use Rattle.mill_arc.specs.declared.chords.TheConstants.{MAX_HALVINGS}

-- from p of 2^d parts to q of 2^e
abbrev SpansTo : ℕ → ℕ → ℕ → ℕ → List Chord → Type 0
SpansTo p d q e [] = p * 2 ^ e ≡ q * 2 ^ d
SpansTo p d q e (c ∷ cs) = (c.part * 2 ^ d ≡ p * 2 ^ c.depth + 2 ^ d) × SpansTo c.part c.depth q e cs

powers : (d : ℕ) → 0 < 2 ^ d
powers d = omega (arith, one-le-pow d 2 (omega arith))

cancel : (k a b : ℕ) → 0 < k → a * k ≡ b * k → a ≡ b
cancel k a b some e = sym (mul-div_cancel a {n = k} some) ∙ ap (λ (t : ℕ). t / k) e ∙ mul-div_cancel b {n = k} some

-- equal parts
same_part : (p q r d e f : ℕ) → 0 < e → p * e ≡ q * d → q * f ≡ r * e → p * f ≡ r * d
same_part p q r d e f some one two = cancel e (p * f) (r * d) some (omega (arith, ap (λ (t : ℕ). t * f) one, ap (λ (t : ℕ). t * d) two))

same_next : (p q c d e f : ℕ) → 0 < e → p * e ≡ q * d → c * e ≡ q * f + e → c * d ≡ p * f + d
same_next p q c d e f some one two = cancel e (c * d) (p * f + d) some (omega (arith, ap (λ (t : ℕ). t * f) one, ap (λ (t : ℕ). t * d) two))

-- two lists, one behind the other
spans_on : (p d q e r f : ℕ) (xs : List Chord) → p * 2 ^ e ≡ q * 2 ^ d → SpansTo q e r f xs → SpansTo p d r f xs
spans_on p d q e r f [] same it = same_part p q r (2 ^ d) (2 ^ e) (2 ^ f) (powers e) same it
spans_on p d q e r f (c ∷ xs) same it = (same_next p q c.part (2 ^ d) (2 ^ e) (2 ^ c.depth) (powers e) same it.0, it.1)

spans_twice : (p d q e r f : ℕ) (xs ys : List Chord) → SpansTo p d q e xs → SpansTo q e r f ys → SpansTo p d r f (xs ++ ys)
spans_twice p d q e r f [] ys first second = spans_on p d q e r f ys first second
spans_twice p d q e r f (c ∷ xs) ys first second = (first.0, spans_twice c.part c.depth q e r f xs ys first.1 second)

spans_end : (p d q e r f : ℕ) (xs : List Chord) → SpansTo p d q e xs → q * 2 ^ f ≡ r * 2 ^ e → SpansTo p d r f xs
spans_end p d q e r f [] it same = same_part p q r (2 ^ d) (2 ^ e) (2 ^ f) (powers e) it same
spans_end p d q e r f (c ∷ xs) it same = (it.0, spans_end c.part c.depth q e r f xs it.1 same)

twice : (depth : ℕ) → 2 ^ (depth + 1) ≡ 2 ^ depth * 2
twice depth = pow-add 2 depth 1

half_same : (a b p : ℕ) → b ≡ a * 2 → p * b ≡ (2 * p) * a
half_same a b p e = rw e (omega arith)

end_same : (a b p : ℕ) → b ≡ a * 2 → (2 * p + 1 + 1) * a ≡ (p + 1) * b
end_same a b p e = rw e (omega arith)

last : (p d : ℕ) → (p + 1) * 2 ^ d ≡ p * 2 ^ d + 2 ^ d
last p d = omega arith

-- the chords of a part span it
spans : (n : ℕ) (turn : Turn) (u v : Node) (part depth : ℕ) (cs : List Chord) → chords_from n turn u v part depth ≡ Some cs → SpansTo part depth (part + 1) depth cs
unfolding chords_from
spans zero turn u v part depth cs e = by (is_short turn u v) refl e
  where
    by : (t : Bool) → is_short turn u v ≡ t → (if t then Some (chord_to v part depth ∷ []) else None) ≡ Some cs → SpansTo part depth (part + 1) depth cs
    by true s e = subst (λ (l : List Chord). SpansTo part depth (part + 1) depth l) (some_same (chord_to v part depth ∷ []) cs e) (last part depth, refl)
    by false s e = cc
spans (suc n) turn u v part depth cs e =
    by (is_short turn u v) refl
    (λ j. spans n turn u (middle turn u v) (2 * part) (depth + 1) j.first j.first_is)
    (λ j. spans n turn (middle turn u v) v (2 * part + 1) (depth + 1) j.second j.second_is)
    e
  where
    by : (t : Bool) → is_short turn u v ≡ t
        → ((j : AreJoined (chords_from n turn u (middle turn u v) (2 * part) (depth + 1)) (chords_from n turn (middle turn u v) v (2 * part + 1) (depth + 1)) cs) → SpansTo (2 * part) (depth + 1) (2 * part + 1) (depth + 1) j.first)
        → ((j : AreJoined (chords_from n turn u (middle turn u v) (2 * part) (depth + 1)) (chords_from n turn (middle turn u v) v (2 * part + 1) (depth + 1)) cs) → SpansTo (2 * part + 1) (depth + 1) (2 * part + 1 + 1) (depth + 1) j.second)
        → (if t then Some (chord_to v part depth ∷ []) else joined (chords_from n turn u (middle turn u v) (2 * part) (depth + 1)) (chords_from n turn (middle turn u v) v (2 * part + 1) (depth + 1))) ≡ Some cs
        → SpansTo part depth (part + 1) depth cs
    by true s f g e = subst (λ (l : List Chord). SpansTo part depth (part + 1) depth l) (some_same (chord_to v part depth ∷ []) cs e) (last part depth, refl)
    by false s f g e = both (joined_some (chords_from n turn u (middle turn u v) (2 * part) (depth + 1)) (chords_from n turn (middle turn u v) v (2 * part + 1) (depth + 1)) cs e)
      where
        both : AreJoined (chords_from n turn u (middle turn u v) (2 * part) (depth + 1)) (chords_from n turn (middle turn u v) v (2 * part + 1) (depth + 1)) cs → SpansTo part depth (part + 1) depth cs
        both j = subst (λ (l : List Chord). SpansTo part depth (part + 1) depth l) (sym j.is)
            (spans_end part depth (2 * part + 1 + 1) (depth + 1) (part + 1) depth (j.first ++ j.second)
            (spans_on part depth (2 * part) (depth + 1) (2 * part + 1 + 1) (depth + 1) (j.first ++ j.second) (half_same (2 ^ depth) (2 ^ (depth + 1)) part (twice depth))
            (spans_twice (2 * part) (depth + 1) (2 * part + 1) (depth + 1) (2 * part + 1 + 1) (depth + 1) j.first j.second (f j) (g j)))
            (end_same (2 ^ depth) (2 ^ (depth + 1)) part (twice depth)))

pub parts_are_turn : PartsAreTurn
parts_are_turn arc cs e = goes 0 0 cs (spans MAX_HALVINGS (turn_of arc) (start_of arc) (end_of arc) 0 0 cs e)
  where
    goes : (p d : ℕ) (xs : List Chord) → SpansTo p d 1 0 xs → GoesOn p d xs
    goes p d [] h = omega (arith, h)
    goes p d (c ∷ xs) h = (h.0, goes c.part c.depth xs h.1)
