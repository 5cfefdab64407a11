-- The chords of an arc are its turn.
use Rattle.std.specs.Prelude.{◌≡◌, ℕ, ◌+◌, Bool, true, false, not, if◌then◌else◌, cond, List, [], ◌∷◌, ℤ, pos, ◌-ℤ◌, ◌*ℤ◌, ◌<ℤ◌, ◌≤ℤ◌, int_lt}
use Rattle.std.specs.List.{count_by}
use Rattle.std.proofs.Common.{refl, sym, ap, ap₂, ◌∙◌, arith, zero-add}
use Rattle.std.proofs.lemmas.Int.{ints}
use Rattle.std.proofs.lemmas.List.Sums.{sum_by-append}
use Rattle.mill_base.proofs.Integers.{mul_pos-ℤ}
use Rattle.mill_arc.proofs.Counts.{number}
use Rattle.mill_arc.proofs.Insides.{middle_inside}
use Rattle.mill_arc.proofs.Middles.{middle_node}
use Rattle.mill_arc.proofs.Nodes.{node_least}
use Rattle.mill_arc.proofs.Parted.{IsTurn, Parted, arc_parted, one, parted_end, parted_sectors, short_sector, two}
use Rattle.mill_arc.proofs.Parts.{arc_ring, end_node, start_node}
use Rattle.mill_arc.proofs.Quads.{on_is, quad_of}
use Rattle.mill_arc.proofs.Rounding.{unit_least}
use Rattle.mill_arc.proofs.Signs.{parted}
use Rattle.mill_arc.proofs.Decided.{true_lt}
use Rattle.mill_arc.specs.Arcs.{greatest_radius, least_radius, nanometres_of}
use Rattle.mill_arc.specs.Chords.{end_of, is_short, middle, start_of, turn_of}
use Rattle.mill_arc.specs.Sectors.{Sector, sector, sectors_from}
use Rattle.mill_arc.specs.Turns.{ChordsAreTurn, is_in_half, is_in_sector, is_on_turn}
use Rattle.mill_arc.specs.Vectors.{ahead, dot}
use Rattle.mill_arc.specs.declared.chords.Chord.{Chord}
use Rattle.mill_arc.specs.declared.chords.Node.{Node}
use Rattle.mill_arc.specs.declared.chords.Turn.{Turn}
use Rattle.mill_arc.specs.declared.vectors.Vector.{Vector}
use Rattle.mill_arc.specs.inner.Nodes.{IsNode}

-- a node isn't at the centre
pub node_some : (m x : ℤ) (n : Node) → pos 1000 ≤ℤ m → IsNode m x n → (pos 0) <ℤ dot n.at n.at
node_some m x n some node = by ((m -ℤ pos 1) *ℤ (m -ℤ pos 1)) (dot n.at n.at) (far m some) (node_least m x n some node)
  where
    far : (m : ℤ) → pos 1000 ≤ℤ m → (pos 0) <ℤ ((m -ℤ pos 1) *ℤ (m -ℤ pos 1))
    far m h = mul_pos-ℤ (m -ℤ pos 1) (m -ℤ pos 1) (omega (arith, ints)) (omega (arith, ints))

    by : (a b : ℤ) → (pos 0) <ℤ a → a ≤ℤ b → (pos 0) <ℤ b
    by a b h k = omega (arith, ints)

-- ---- by the halving

short_on : (t : Bool) (u v x : Vector) → (pos 0) <ℤ ahead t u v → is_in_sector t x (sector u v) ≡ is_on_turn t u v x
short_on t u v x h = sym (ap (λ (b : Bool). if b then is_in_sector t x (sector u v) else (if int_lt (ahead t u v) (pos 0) then not (is_in_sector t x (sector v u)) else (if int_lt (pos 0) (dot u v) then true else is_in_half t u x)))
    (true_lt (pos 0) (ahead t u v) h))

one_count : (t : Bool) (u v x : Vector) → count_by (is_in_sector t x) (sector u v ∷ []) ≡ number (is_in_sector t x (sector u v))
one_count t u v x = zero-add (number (is_in_sector t x (sector u v)))

halves_on : (turn : Turn) (m x k : ℤ) (u v : Node) (p : Vector) → IsTurn turn m x k → pos 1000 ≤ℤ k → IsNode m x u → IsNode m x v → is_short turn u v ≡ false → (pos 0) <ℤ dot p p
    → number (is_on_turn turn.counterclockwise u.at v.at p) ≡ number (is_on_turn turn.counterclockwise u.at (middle turn u v).at p) + number (is_on_turn turn.counterclockwise (middle turn u v).at v.at p)
halves_on turn m x k u v p it unit from to long some =
    let t = turn.counterclockwise in
    let w = middle turn u v in
    let mid = middle_node m x turn u v it.ring from to in
    let q = quad_of t u.at w.at v.at p (node_some m x u it.ring.some from) (node_some m x w it.ring.some mid) some in
    ap number (on_is t u.at v.at p) ∙ parted q (middle_inside turn m x k u v p it unit from to long (node_some m x u it.ring.some from) (node_some m x w it.ring.some mid) some (node_some m x v it.ring.some to))
    ∙ sym (ap₂ (λ (a b : Bool). number a + number b) (on_is t u.at w.at p) (on_is t w.at v.at p))

once : (turn : Turn) (m x k : ℤ) (u v : Node) (cs : List Chord) (p : Vector) → IsTurn turn m x k → pos 1000 ≤ℤ k → IsNode m x u → IsNode m x v → (pos 0) <ℤ dot p p → Parted turn u v cs
    → count_by (is_in_sector turn.counterclockwise p) (sectors_from u.at cs) ≡ number (is_on_turn turn.counterclockwise u.at v.at p)
once turn m x k u v cs p it unit from to some (one _ _ _ c s e is) =
    ap (λ (l : List Chord). count_by (is_in_sector turn.counterclockwise p) (sectors_from u.at l)) is
    ∙ one_count turn.counterclockwise u.at c.node p
    ∙ ap (λ (w : Vector). number (is_in_sector turn.counterclockwise p (sector u.at w))) e
    ∙ ap number (short_on turn.counterclockwise u.at v.at p (short_sector turn m x k u v it s from to).forward)
once turn m x k u v cs p it unit from to some (two _ _ _ xs ys s first second is) =
    let t = turn.counterclockwise in
    let w = middle turn u v in
    let mid = middle_node m x turn u v it.ring from to in
    ap (λ (l : List Sector). count_by (is_in_sector t p) l) (parted_sectors turn u v w cs xs ys first is)
    ∙ sum_by-append (λ (y : Sector). cond (is_in_sector t p y) 1 0) (sectors_from u.at xs) (sectors_from w.at ys)
    ∙ ap₂ (λ (a b : ℕ). a + b) (once turn m x k u w xs p it unit from mid some first) (once turn m x k w v ys p it unit mid to some second)
    ∙ sym (halves_on turn m x k u v p it unit from to s some)

pub chords_are_turn : ChordsAreTurn
chords_are_turn arc cs h sound e = record {
  ends = parted_end (turn_of arc) (start_of arc) (end_of arc) cs (arc_parted arc cs e);
  once = λ p some. once (turn_of arc) (least_radius arc) (greatest_radius arc) (nanometres_of arc.unit) (start_of arc) (end_of arc) cs p
      (record { ring = arc_ring arc h sound; bend = refl }) (unit_least arc.unit) (start_node arc h sound) (end_node arc h sound) some (arc_parted arc cs e);
}
