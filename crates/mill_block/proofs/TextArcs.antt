-- The chords of an arc end where its nodes are, to the nearest unit.
use Rattle.std.proofs.Common.{◌≡◌, ℕ, zero, suc, ◌+◌, ◌*◌, ◌^◌, ◌≤◌, ◌<◌, Bool, true, false, List, [], ◌∷◌, Option, Some, None, Result, Ok, Err, refl, sym, ap, subst, ◌∙◌, arith}
use Rattle.std.proofs.Math.Nat.{le_of_mul-le-mul_left, mul-pos, one-le-pow}
use Rattle.std.proofs.lemmas.Int.{ints}
use Rattle.std.specs.Prelude.{⊤, ℤ, pos, negsuc, neg_ℤ, nat_abs, ◌+ℤ◌, ◌-ℤ◌, ◌*ℤ◌, ◌≤ℤ◌, int_le, not, ◌&&◌, map, nat_lt, length, if◌then◌else◌}
use Rattle.std.specs.List.{list_all}
use Rattle.mill_base.proofs.Integers.{mul-add-ℤ, mul_assoc-ℤ}
use Rattle.mill_base.specs.Rounded.{AreRounded, IsRounded, IsRoundedTo}
use Rattle.mill_base.specs.declared.limits.TheConstants.{MAX_MOVES}
use Rattle.mill_base.specs.declared.motion.Kind.TheVariants.{Feed}
use Rattle.mill_base.specs.declared.motion.Move.{Move}
use Rattle.mill_base.specs.declared.points.Pt3.{Pt3}
use Rattle.mill_base.specs.declared.unit.Unit.{Unit}
use Rattle.mill_base.specs.declared.unit.Unit.TheVariants.{Hundredth, Thousandth}
use Rattle.mill_control.specs.Drilled.{ends_at}
use Rattle.mill_control.specs.Unrounded.{nano_parts}
use Rattle.mill_control.specs.declared.turn.Plane.{Plane}
use Rattle.mill_control.specs.declared.turn.Plane.TheVariants.{Xy, Zx, Yz}
use Rattle.mill_control.specs.declared.turn.Turn.{Turn}
use Rattle.mill_arc.specs.Arcs.{is_sound, nanometres_of}
use Rattle.mill_arc.specs.Chords.{chords_of}
use Rattle.mill_arc.specs.Places.{height_at, nearest}
use Rattle.mill_arc.specs.declared.chords.Chord.{Chord}
use Rattle.mill_arc.proofs.Nearest.{IsHalf, nearest_half}
use Rattle.mill_block.specs.MachineArcs.{chord_end, fed, sweep_of}
use Rattle.mill_block.specs.MachineLines.{Done, chords_or, is_in_range, points_of, points_or}
use Rattle.mill_block.specs.TextPaths.{text_chord_end, text_height, text_round}
use Rattle.mill_block.specs.declared.machine_arc.Sweep.{Sweep}
use Rattle.mill_block.specs.declared.progress.Progress.{Progress}
use Rattle.mill_said.specs.declared.fault.NgcFault.{NgcFault}
use Rattle.mill_said.specs.declared.fault.NgcFault.TheVariants as fault
use Rattle.mill_said.specs.Said.{◌>>=◌}
use Rattle.mill_block.proofs.RiseLemmas.{some_power}

-- ---- nearest numbers

times-abs : (k : ℕ) (u : ℤ) → nat_abs (pos k *ℤ u) ≡ k * nat_abs u
times-abs k (pos n) = omega (arith, ints)
times-abs k (negsuc n) = turned k n (k * suc n) refl
  where
    turned : (k n w : ℕ) → w ≡ k * suc n → nat_abs (pos k *ℤ negsuc n) ≡ w
    turned k n w is = omega (arith, ints)

minus-times : (k : ℕ) (a b : ℤ) → pos k *ℤ (a -ℤ b) ≡ (pos k *ℤ a) -ℤ (pos k *ℤ b)
minus-times k a b = apart (pos k *ℤ a) (pos k *ℤ (a -ℤ b)) (pos k *ℤ b) (ap (λ t. pos k *ℤ t) (back a b) ∙ mul-add-ℤ (pos k) (a -ℤ b) b)
  where
    back : (a b : ℤ) → a ≡ (a -ℤ b) +ℤ b
    back a b = omega (arith, ints)

    apart : (x y z : ℤ) → x ≡ y +ℤ z → y ≡ x -ℤ z
    apart x y z is = omega (arith, ints)

half-abs : (n : ℕ) (z w : ℤ) → IsHalf n z w → 2 * nat_abs (z -ℤ (pos n *ℤ w)) ≤ n
half-abs n z w h = by (pos n *ℤ w) h.most h.least
  where
    by : (v : ℤ) → (pos 2 *ℤ (v -ℤ z)) ≤ℤ pos n → (pos 0 -ℤ pos n) ≤ℤ (pos 2 *ℤ (v -ℤ z)) → 2 * nat_abs (z -ℤ v) ≤ n
    by v most least = omega (arith, ints)

-- k times as large, it is as near in parts that are k times as fine
near-times : (k n d : ℕ) (z w : ℤ) → k * n ≡ d → IsHalf n z w → 2 * nat_abs ((pos k *ℤ z) -ℤ (pos d *ℤ w)) ≤ d
near-times k n d z w is h =
    subst (λ (t : ℤ). 2 * nat_abs t ≤ d) (minus-times k z (pos n *ℤ w) ∙ ap (λ t. (pos k *ℤ z) -ℤ t) (finer w ∙ ap (λ t. pos t *ℤ w) is))
    (subst (λ (a : ℕ). 2 * a ≤ d) (sym (times-abs k (z -ℤ (pos n *ℤ w)))) (subst (λ (b : ℕ). 2 * (k * nat_abs (z -ℤ (pos n *ℤ w))) ≤ b) is (more k (nat_abs (z -ℤ (pos n *ℤ w))) n (half-abs n z w h))))
  where
    finer : (w : ℤ) → pos k *ℤ (pos n *ℤ w) ≡ pos (k * n) *ℤ w
    finer w = sym (mul_assoc-ℤ (pos k) (pos n) w)

    more : (k a n : ℕ) → 2 * a ≤ n → 2 * (k * a) ≤ k * n
    more zero a n le = omega arith
    more (suc k) a n le = let less = more k a n le in omega (arith, less)

-- the denominator taken away again: half a part more is none, where a unit has an even count of them
cancelled : (m d e g : ℕ) → 0 < m → d ≡ 2 * e → 2 * (m * g) ≤ m + m * d → 2 * g ≤ d
cancelled m d e g some even near = by (even-more g (less m (2 * g) (1 + d) some (within m d g near)))
  where
    within : (m d g : ℕ) → 2 * (m * g) ≤ m + m * d → m * (2 * g) ≤ m * (1 + d)
    within m d g near = omega arith

    less : (m a b : ℕ) → 0 < m → m * a ≤ m * b → a ≤ b
    less m a b some le = le_of_mul-le-mul_left le some

    even-more : (g : ℕ) → 2 * g ≤ 1 + d → g ≤ e
    even-more g le = omega (arith, even)

    by : g ≤ e → 2 * g ≤ d
    by le = omega (arith, even)

-- a number rounded to parts, and the same rounded to units
near-twice : (k n m d e : ℕ) (z q w : ℤ) → 0 < m → d ≡ 2 * e → k * n ≡ d → IsHalf m (pos k *ℤ z) q → IsHalf (m * n) z w → 2 * nat_abs (q -ℤ (pos d *ℤ w)) ≤ d
near-twice k n m d e z q w some even is fine coarse =
    cancelled m d e (nat_abs (q -ℤ (pos d *ℤ w))) some even
    (subst (λ (a : ℕ). 2 * a ≤ m + m * d) (times-abs m (q -ℤ (pos d *ℤ w)))
    (subst (λ (t : ℤ). 2 * nat_abs t ≤ m + m * d) (sym (minus-times m q (pos d *ℤ w) ∙ ap (λ t. (pos m *ℤ q) -ℤ t) (sym (mul_assoc-ℤ (pos m) (pos d) w))))
    (both (pos k *ℤ z) (pos m *ℤ q) (pos (m * d) *ℤ w) (half-abs m (pos k *ℤ z) q fine) (near-times k (m * n) (m * d) z w (scaled k n m d is) coarse))))
  where
    scaled : (k n m d : ℕ) → k * n ≡ d → k * (m * n) ≡ m * d
    scaled k n m d is =
        let turned : k * (m * n) ≡ m * (k * n) = omega arith in
        turned ∙ ap (λ t. m * t) is

    both : (a b c : ℤ) → 2 * nat_abs (a -ℤ b) ≤ m → 2 * nat_abs (a -ℤ c) ≤ m * d → 2 * nat_abs (b -ℤ c) ≤ m + m * d
    both a b c one two = by (m * d) one two
      where
        by : (w : ℕ) → 2 * nat_abs (a -ℤ b) ≤ m → 2 * nat_abs (a -ℤ c) ≤ w → 2 * nat_abs (b -ℤ c) ≤ m + w
        by w one two = omega (arith, ints)

-- ---- a chord's end

nanometres : Unit → ℕ
nanometres unit = nat_abs (nanometres_of unit)

nanos-are : (unit : Unit) → nano_parts unit * nanometres unit ≡ 10 ^ 18
unfolding nanometres
nanos-are Hundredth = refl
nanos-are Thousandth = refl

nanos-some : (unit : Unit) → 0 < nanometres unit
unfolding nanometres
nanos-some Hundredth = omega arith
nanos-some Thousandth = omega arith

place-near : (unit : Unit) (z : ℤ) → IsRoundedTo true (10 ^ 18) (pos (nano_parts unit) *ℤ z) (nearest z (nat_abs (nanometres_of unit)))
unfolding nanometres
place-near unit z = near-times (nano_parts unit) (nanometres unit) (10 ^ 18) z (nearest z (nanometres unit)) (nanos-are unit) (nearest_half z (nanometres unit) (nanos-some unit))

some-product : (a b : ℕ) → 0 < a → 0 < b → 0 < a * b
some-product a b = mul-pos

height-near : (unit : Unit) (m : ℕ) (z : ℤ) → 0 < m → IsRoundedTo true (10 ^ 18) (nearest (pos (nano_parts unit) *ℤ z) m) (nearest z (m * nat_abs (nanometres_of unit)))
unfolding nanometres
height-near unit m z some =
    near-twice (nano_parts unit) (nanometres unit) m (10 ^ 18) (5 * 10 ^ 17) z (nearest (pos (nano_parts unit) *ℤ z) m) (nearest z (m * nanometres unit)) some refl (nanos-are unit)
    (nearest_half (pos (nano_parts unit) *ℤ z) m some) (nearest_half z (m * nanometres unit) (some-product m (nanometres unit) some (nanos-some unit)))

chord-near : (plane : Plane) (w : Sweep) (chord : Chord) → IsRounded true (10 ^ 18) (text_chord_end w.arc.unit plane w chord) (chord_end plane w chord)
chord-near plane w chord = by plane
  where
    some : 0 < 2 ^ chord.depth
    some = one-le-pow chord.depth 2 (omega arith)

    first : IsRoundedTo true (10 ^ 18) (pos (nano_parts w.arc.unit) *ℤ (w.centre.first +ℤ chord.node.first)) (nearest (w.centre.first +ℤ chord.node.first) (nat_abs (nanometres_of w.arc.unit)))
    first = place-near w.arc.unit (w.centre.first +ℤ chord.node.first)

    second : IsRoundedTo true (10 ^ 18) (pos (nano_parts w.arc.unit) *ℤ (w.centre.second +ℤ chord.node.second)) (nearest (w.centre.second +ℤ chord.node.second) (nat_abs (nanometres_of w.arc.unit)))
    second = place-near w.arc.unit (w.centre.second +ℤ chord.node.second)

    third : IsRoundedTo true (10 ^ 18) (text_height w.arc.unit w chord) (nearest (height_at w.from w.to chord.part chord.depth) (2 ^ chord.depth * nat_abs (nanometres_of w.arc.unit)))
    third = height-near w.arc.unit (2 ^ chord.depth) (height_at w.from w.to chord.part chord.depth) some

    by : (plane : Plane) → IsRounded true (10 ^ 18) (text_chord_end w.arc.unit plane w chord) (chord_end plane w chord)
    by Xy = record { x_near = first; y_near = second; z_near = third }
    by Zx = record { x_near = second; y_near = third; z_near = first }
    by Yz = record { x_near = third; y_near = first; z_near = second }

-- one way for each chord
chords-near : (plane : Plane) (w : Sweep) (chords : List Chord) (at here : Pt3) → IsRounded true (10 ^ 18) at here
    → AreRounded true (10 ^ 18) (fed at (map (text_chord_end w.arc.unit plane w) chords)) (fed here (map (chord_end plane w) chords))
chords-near plane w [] at here near = tt
chords-near plane w (chord ∷ chords) at here near =
    let there = chord-near plane w chord in
    (record { kind = refl; from = near; to = there }, chords-near plane w chords (text_chord_end w.arc.unit plane w chord) (chord_end plane w chord) there)

-- ---- a turn

-- where there are chords in range, they are near
NearRound : Progress → Pt3 → Sweep → List Move → Result (List Pt3) NgcFault → Type 0
NearRound p at w ways (Ok points) = AreRounded true (10 ^ 18) ways (fed p.here points)
NearRound p at w ways (Err f) = ⊤

round-points : (p : Progress) (at : Pt3) (w : Sweep) (ways : List Move) (points : List Pt3) → AreRounded true (10 ^ 18) ways (fed p.here points) → NearRound p at w ways (points_or p points)
unfolding NearRound
round-points p at w ways points near = by (list_all (is_in_range p.unit) points)
  where
    by : (b : Bool) → NearRound p at w ways (if b then Ok points else Err (fault.OutOfRange p.line))
    by true = near
    by false = tt

round-chords : (p : Progress) (at : Pt3) (w : Sweep) (chords : Option (List Chord)) → w.arc.unit ≡ p.unit → IsRounded true (10 ^ 18) at p.here → NearRound p at w (text_round p at w chords) (chords_or p w chords)
unfolding NearRound
round-chords p at w None unit near = tt
round-chords p at w (Some chords) unit near =
    round-points p at w (fed at (map (text_chord_end p.unit p.machine.plane w) chords)) (map (chord_end p.machine.plane w) chords)
    (subst (λ (u : Unit). AreRounded true (10 ^ 18) (fed at (map (text_chord_end u p.machine.plane w) chords)) (fed p.here (map (chord_end p.machine.plane w) chords))) unit (chords-near p.machine.plane w chords at p.here near))

round-near : (p : Progress) (at : Pt3) (w : Sweep) → w.arc.unit ≡ p.unit → IsRounded true (10 ^ 18) at p.here → NearRound p at w (text_round p at w (chords_of w.arc)) (points_of p w)
unfolding points_of NearRound
round-near p at w unit near = by (is_sound w.arc)
  where
    by : (b : Bool) → NearRound p at w (text_round p at w (chords_of w.arc)) (if not b then Err (fault.Arc p.line) else chords_or p w (chords_of w.arc))
    by true = round-chords p at w (chords_of w.arc) unit near
    by false = tt

-- the points of a turn are near the chords of its own numbers
pub turn_near : (p : Progress) (at : Pt3) (w : Sweep) (points : List Pt3) → w.arc.unit ≡ p.unit → IsRounded true (10 ^ 18) at p.here → points_of p w ≡ Ok points
    → AreRounded true (10 ^ 18) (text_round p at w (chords_of w.arc)) (fed p.here points)
unfolding NearRound
turn_near p at w points unit near is = subst (λ (r : Result (List Pt3) NgcFault). NearRound p at w (text_round p at w (chords_of w.arc)) r) is (round-near p at w unit near)
