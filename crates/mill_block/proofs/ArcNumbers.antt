-- The numbers of an arc's words: how great they are, and where the line's end is by them.
use Rattle.std.proofs.Common.{◌≡◌, ℕ, ◌+◌, ◌*◌, ◌/◌, ◌^◌, ◌<◌, ◌≤◌, Bool, true, false, Option, Some, None, Result, Ok, Err, refl, sym, ap, ◌∙◌, arith}
use Rattle.std.proofs.Math.Nat.{div-lt_iff_lt-mul, one-le-pow}
use Rattle.std.proofs.lemmas.Bool.{and_parts}
use Rattle.std.proofs.lemmas.Bool.Decides.{nat_tests}
use Rattle.std.proofs.lemmas.Int.{ints}
use Rattle.std.specs.Prelude.{ℤ, pos, ◌+ℤ◌, ◌-ℤ◌, ◌*ℤ◌, ◌&&◌, int_le, nat_le}
use Rattle.mill_base.specs.Numbers.{Within}
use Rattle.mill_base.specs.declared.points.Pt3.{Pt3}
use Rattle.mill_base.specs.declared.unit.Unit.{Unit}
use Rattle.mill_words.specs.declared.word.Num.{Num}
use Rattle.mill_arc.specs.Arcs.{IsArc}
use Rattle.mill_arc.specs.Vectors.{IsNear, plus}
use Rattle.mill_arc.specs.declared.arc.TheConstants.{MAX_TOLERANCE}
use Rattle.mill_arc.specs.declared.vectors.Vector.{Vector}
use Rattle.mill_control.specs.Lengths.{nearest, rounded, signed}
use Rattle.mill_control.specs.Unrounded.{finer, parts, text_units}
use Rattle.mill_said.specs.MachineTakes.{is_at_most}
use Rattle.mill_said.specs.Said.{◌>>=◌}
use Rattle.mill_said.specs.declared.fault.NgcFault.{NgcFault}
use Rattle.mill_said.specs.declared.machine_said.MachineSaid.{MachineSaid}
use Rattle.mill_said.specs.declared.rules.Control.{Control}
use Rattle.mill_block.specs.MachineArcs.{are_nano, centre_fits, ends_fit, holds_arcs, is_nano_place, is_rounded_place, minus, names_one_centre, words_fit}
use Rattle.mill_block.specs.MachineLines.{coordinate_for, target_for}
use Rattle.mill_block.specs.MachineSettings.{per_of}
use Rattle.mill_block.specs.TextPlaces.{exact_here, text_or, text_target}
use Rattle.mill_block.specs.declared.progress.Progress.{Progress}
use Rattle.mill_block.specs.inner.Finers.{finer_or}
use Rattle.mill_block.specs.inner.Sweeps.{IsWithin, NANO}
use Rattle.mill_block.proofs.NamingLemmas.{units-are}

-- ---- what the words show

pub record Shows (c : Control) (p : Progress) (s : MachineSaid) : Type 0 where
  pub room : holds_arcs c ≡ true
  pub centre : centre_fits p s ≡ true
  pub start : is_nano_place p.unit (exact_here p) ≡ true
  pub end : is_nano_place p.unit (text_target p (exact_here p) s) ≡ true
  pub rounded : is_rounded_place p.here p.machine.finer ≡ true

pub words_show : (c : Control) (p : Progress) (s : MachineSaid) → words_fit c p s ≡ true → Shows c p s
words_show c p s e =
    let both = and_parts (holds_arcs c && names_one_centre p s) (centre_fits p s && ends_fit p s) e in
    let first = and_parts (holds_arcs c) (names_one_centre p s) both.0 in
    let second = and_parts (centre_fits p s) (ends_fit p s) both.1 in
    let third = and_parts (are_nano p s) (is_rounded_place p.here p.machine.finer) second.1 in
    let ends = and_parts (is_nano_place p.unit (exact_here p)) (is_nano_place p.unit (text_target p (exact_here p) s)) third.0 in
    record { room = first.0; centre = second.0; start = ends.0; end = ends.1; rounded = third.1 }

-- ---- an offset

most : (a n g : ℕ) → 0 < n → a ≤ g * n → nearest a n ≤ g
most a n g some le =
    let high : 2 * a + n < (g + 1) * (2 * n) = omega arith in
    let less : (2 * a + n) / (2 * n) < g + 1 = (div-lt_iff_lt-mul {k = 2 * n} (omega arith)).1 high in
    omega arith

signed-within : (neg : Bool) (k g : ℕ) → k ≤ g → Within g (signed neg k)
signed-within false k g le = record { within = le }
signed-within true k g le = record { within = omega (arith, ints) }

tens : (s : ℕ) → 0 < 10 ^ s
tens s = omega (arith, one-le-pow s 10 (omega arith))

pub offset_within : (per g : ℕ) (n : Num) → is_at_most per (pos g) n ≡ true → Within g (rounded per n)
unfolding rounded
offset_within per g n fits =
    let le : n.mant * per ≤ g * 10 ^ n.scale = by (n.mant * per) (g * 10 ^ n.scale) fits in
    signed-within n.neg (nearest (n.mant * per) (10 ^ n.scale)) g (most (n.mant * per) (10 ^ n.scale) g (tens n.scale) le)
  where
    by : (a b : ℕ) → nat_le a b ≡ true → a ≤ b
    by a b e = grind (arith, nat_tests)

-- ---- a place by the text's own numbers

beside : (u t : ℤ) → u +ℤ (t -ℤ u) ≡ t
beside u t = omega (arith, ints)

pub text_is : (per : ℕ) (n : Num) → (parts *ℤ rounded per n) +ℤ finer per n ≡ text_units per n
text_is per n = beside (parts *ℤ rounded per n) (text_units per n)

pub coordinate_is : (c : Control) (p : Progress) (here f z : ℤ) (num : Option Num) → coordinate_for c p here num ≡ Ok z → (parts *ℤ z) +ℤ finer_or (per_of p) f num ≡ text_or (per_of p) ((parts *ℤ here) +ℤ f) num
coordinate_is c p here f z None e =
    let same : z ≡ here = cc in
    ap (λ t. (parts *ℤ t) +ℤ f) same
coordinate_is c p here f z (Some n) e = ap (λ t. (parts *ℤ t) +ℤ finer (per_of p) n) (sym (units-are c p n z e)) ∙ text_is (per_of p) n

-- the three coordinates of an end
pub record AreEnds (rx ry rz : Result ℤ NgcFault) (to : Pt3) : Type 0 where
  pub x_is : rx ≡ Ok to.x
  pub y_is : ry ≡ Ok to.y
  pub z_is : rz ≡ Ok to.z

ends-by : (rx ry rz : Result ℤ NgcFault) (to : Pt3) → (rx >>= λ x. ry >>= λ y. rz >>= λ z. Ok (record { x = x; y = y; z = z })) ≡ Ok to → AreEnds rx ry rz to
ends-by (Err f) ry rz to e = absurd cc
ends-by (Ok x) (Err f) rz to e = absurd cc
ends-by (Ok x) (Ok y) (Err f) to e = absurd cc
ends-by (Ok x) (Ok y) (Ok z) to e = record { x_is = cc; y_is = cc; z_is = cc }

pub ends_are : (c : Control) (p : Progress) (s : MachineSaid) (to : Pt3) → target_for c p s ≡ Ok to → AreEnds (coordinate_for c p p.here.x s.x) (coordinate_for c p p.here.y s.y) (coordinate_for c p p.here.z s.z) to
unfolding target_for
ends_are c p s to e = ends-by (coordinate_for c p p.here.x s.x) (coordinate_for c p p.here.y s.y) (coordinate_for c p p.here.z s.z) to e

pub end_is : (c : Control) (p : Progress) (s : MachineSaid) (to : Pt3) → target_for c p s ≡ Ok to
    → record { x = (parts *ℤ to.x) +ℤ finer_or (per_of p) p.machine.finer.x s.x; y = (parts *ℤ to.y) +ℤ finer_or (per_of p) p.machine.finer.y s.y; z = (parts *ℤ to.z) +ℤ finer_or (per_of p) p.machine.finer.z s.z } ≡ text_target p (exact_here p) s
end_is c p s to e =
    let ends = ends_are c p s to e in
    by (coordinate_is c p p.here.x p.machine.finer.x to.x s.x ends.x_is) (coordinate_is c p p.here.y p.machine.finer.y to.y s.y ends.y_is) (coordinate_is c p p.here.z p.machine.finer.z to.z s.z ends.z_is)
  where
    point : ℤ → ℤ → ℤ → Pt3
    point x y z = record { x = x; y = y; z = z }

    by : {a b d e f g : ℤ} → a ≡ e → b ≡ f → d ≡ g → point a b d ≡ point e f g
    by i j k = rw (i, j, k) refl

pub coordinate_by : (per : ℕ) (n : Num) (units fine : ℤ) → units ≡ rounded per n → fine ≡ finer per n → (parts *ℤ units) +ℤ fine ≡ text_units per n
coordinate_by per n units fine a b = ap (λ t. (parts *ℤ t) +ℤ fine) a ∙ ap (λ t. (parts *ℤ rounded per n) +ℤ t) b ∙ text_is per n

-- ---- an arc

pub tolerance_least : (c : Control) → holds_arcs c ≡ true → 1 ≤ c.arc_tolerance
tolerance_least c e = by c.arc_tolerance (and_parts (nat_le 1 c.arc_tolerance) _ (and_parts (c.rounds && int_le (pos 0) c.arc_room) _ e).1).0
  where
    by : (t : ℕ) → nat_le 1 t ≡ true → 1 ≤ t
    by t e = grind (arith, nat_tests)

pub tolerance_most : (c : Control) → holds_arcs c ≡ true → c.arc_tolerance ≤ MAX_TOLERANCE
tolerance_most c e = by c.arc_tolerance (and_parts (nat_le 1 c.arc_tolerance) _ (and_parts (c.rounds && int_le (pos 0) c.arc_room) _ e).1).1
  where
    by : (t : ℕ) → nat_le t MAX_TOLERANCE ≡ true → t ≤ MAX_TOLERANCE
    by t e = grind (arith, nat_tests)

pub arc_fits : (from to offset : Vector) (t : ℕ) (ccw : Bool) (unit : Unit) → IsWithin NANO from → IsWithin NANO to → IsWithin NANO offset → 1 ≤ t → t ≤ MAX_TOLERANCE
    → IsArc (record { start = minus from (plus from offset); «end» = minus to (plus from offset); counterclockwise = ccw; unit = unit; tolerance = t })
arc_fits from to offset t ccw unit f g o least most =
    let f1 = f.first_within.within in
    let f2 = f.second_within.within in
    let g1 = g.first_within.within in
    let g2 = g.second_within.within in
    let o1 = o.first_within.within in
    let o2 = o.second_within.within in
    record {
      start_first = record { within = omega (arith, ints) };
      start_second = record { within = omega (arith, ints) };
      end_first = record { within = omega (arith, ints) };
      end_second = record { within = omega (arith, ints) };
      tolerance_least = least;
      tolerance_most = most;
    }

pub centre_near : (v : Vector) → IsWithin (2 * NANO) v → IsNear v
centre_near v h = record { first = record { within = omega (arith, ints, h.first_within.within) }; second = record { within = omega (arith, ints, h.second_within.within) } }
