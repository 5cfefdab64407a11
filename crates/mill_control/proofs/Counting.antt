-- How many moves a hole has, and where there is none up to R or down to it.
use Rattle.std.specs.Prelude.{◌≡◌, ℕ, zero, suc, ◌+◌, ◌*◌, ℤ, ◌≤ℤ◌, int_lt, Bool, true, false, if◌then◌else◌, List, [], ◌∷◌, ◌++◌, length}
use Rattle.std.proofs.Common.{refl, sym, ap, ◌∙◌, arith}
use Rattle.std.proofs.lemmas.Int.{ints}
use Rattle.std.proofs.lemmas.List.{append-nil, length-append}
use Rattle.mill_base.specs.declared.motion.Kind.TheVariants.{Rapid, Feed}
use Rattle.mill_base.specs.declared.motion.Move.{Move}
use Rattle.mill_base.specs.declared.points.Pt3.{Pt3}
use Rattle.mill_control.specs.declared.hole.Hole.{Hole}
use Rattle.mill_control.specs.Holes.{Stop, at_height, bitten, bottom_of, count_bites, hole_moves, lowered, over_hole, risen_to, stops_of, sunk, top_of}
use Rattle.mill_control.specs.inner.Bounds.{crossing_move, each_of, goes_out, rests}
use Rattle.mill_control.proofs.Sinking.{bitten-length, sunk-length}

not-under : (a b : ℤ) → b ≤ℤ a → int_lt a b ≡ false
not-under a b over = by (int_lt a b) refl
  where
    by : (t : Bool) → int_lt a b ≡ t → int_lt a b ≡ false
    by true e = absurd (omega (e, over, arith, ints))
    by false e = e

-- ---- up to R and down to it

pub no_lowering : (top z : ℤ) → z ≤ℤ top → lowered top z ≡ []
no_lowering top z under = ap (λ (b : Bool). if b then (Rapid, top) ∷ [] else []) (not-under top z under)

-- with no moves more a list is as it was
pub none_added : (old moves : List Move) → moves ≡ [] → old ≡ old ++ moves
none_added old moves none = sym (append-nil old) ∙ ap (λ ms. old ++ ms) (sym none)

-- ---- how many

rise-length : (p : Pt3) (top : ℤ) → length (risen_to p top) ≡ (if int_lt p.z top then 1 else 0)
rise-length p top = by (int_lt p.z top)
  where
    by : (b : Bool) → length {A = Move} (if b then record { kind = Rapid; from = p; to = at_height p top } ∷ [] else []) ≡ (if b then 1 else 0)
    by true = refl
    by false = refl

lower-length : (top z : ℤ) → length (lowered top z) ≡ (if int_lt top z then 1 else 0)
lower-length top z = by (int_lt top z)
  where
    by : (b : Bool) → length {A = Stop} (if b then (Rapid, top) ∷ [] else []) ≡ (if b then 1 else 0)
    by true = refl
    by false = refl

one-way : (a b : ℤ) → (a ≡ b → ⊥) → (if int_lt a b then 1 else 0) + (if int_lt b a then 1 else 0) ≡ 1
one-way a b other = by (int_lt a b) (int_lt b a) refl refl
  where
    by : (up down : Bool) → int_lt a b ≡ up → int_lt b a ≡ down → (if up then 1 else 0) + (if down then 1 else 0) ≡ 1
    by true true p q = absurd (omega (p, q, arith, ints))
    by true false p q = refl
    by false true p q = refl
    by false false p q = absurd (other (omega (p, q, arith, ints)))

no-way : (a b : ℤ) → a ≡ b → (if int_lt a b then 1 else 0) + (if int_lt b a then 1 else 0) ≡ 0
no-way a b same = by (int_lt a b) (int_lt b a) refl refl
  where
    by : (up down : Bool) → int_lt a b ≡ up → int_lt b a ≡ down → (if up then 1 else 0) + (if down then 1 else 0) ≡ 0
    by true down p q = absurd (omega (p, same, arith, ints))
    by false true p q = absurd (omega (q, same, arith, ints))
    by false false p q = refl

all-length : (h : Hole) → length (hole_moves h) ≡ (if int_lt h.from.z (top_of h) then 1 else 0) + (if int_lt (top_of h) h.from.z then 1 else 0) + 3 + each_of (goes_out h.cycle) * count_bites h
unfolding hole_moves
all-length h =
    by (length (risen_to h.from (top_of h))) (length (lowered (top_of h) h.from.z)) (length (bitten h (count_bites h))) (length (stops_of h)) _ _ _ _
    (length-append (risen_to h.from (top_of h)) (crossing_move h ∷ sunk (over_hole h) (stops_of h)))
    (sunk-length (over_hole h) (stops_of h))
    (length-append (lowered (top_of h) h.from.z) (rests h)) (length-append (bitten h (count_bites h)) ((Feed, bottom_of h) ∷ (Rapid, h.end) ∷ []))
    (rise-length h.from (top_of h)) (lower-length (top_of h) h.from.z) (bitten-length h (count_bites h))
  where
    by : (rise lower bites stops sunken rest all up : ℕ) {down each : ℕ} → all ≡ rise + suc sunken → sunken ≡ stops → stops ≡ lower + rest → rest ≡ bites + 2 → rise ≡ up → lower ≡ down → bites ≡ each → all ≡ up + down + 3 + each
    by rise lower bites stops sunken rest all up a b c d e f g = omega arith

pub other-length : (h : Hole) → (h.from.z ≡ top_of h → ⊥) → length (hole_moves h) ≡ 4 + each_of (goes_out h.cycle) * count_bites h
other-length h other = by _ _ _ (all-length h) (one-way h.from.z (top_of h) other)
  where
    by : (all w e : ℕ) → all ≡ w + 3 + e → w ≡ 1 → all ≡ 4 + e
    by all w e p q = omega arith

pub same-length : (h : Hole) → h.from.z ≡ top_of h → length (hole_moves h) ≡ 3 + each_of (goes_out h.cycle) * count_bites h
same-length h same = by _ _ _ (all-length h) (no-way h.from.z (top_of h) same)
  where
    by : (all w e : ℕ) → all ≡ w + 3 + e → w ≡ 0 → all ≡ 3 + e
    by all w e p q = omega arith
