-- An arc's chords, as they come from halving its turn.
use Rattle.std.specs.Prelude.{◌≡◌, ℕ, zero, suc, ◌+◌, ◌*◌, Bool, true, false, if◌then◌else◌, List, [], ◌∷◌, ◌++◌, Option, Some, None, ℤ, pos, ◌-ℤ◌, ◌*ℤ◌, ◌≤ℤ◌, int_le, int_lt}
use Rattle.std.specs.List.{All}
use Rattle.std.proofs.Common.{refl, sym, ap, subst, ◌∙◌}
use Rattle.std.proofs.lemmas.List.Elements.{All-append, All-cons, All-contains, All-nil}
use Rattle.mill_arc.proofs.Middles.{middle_node}
use Rattle.mill_arc.proofs.Parts.{arc_ring, end_node, start_node}
use Rattle.mill_arc.proofs.Decided.{and_left, and_right, le_true, lt_true}
use Rattle.mill_arc.specs.Arcs.{greatest_radius, least_radius, nanometres_of}
use Rattle.mill_arc.specs.Chords.{chord_to, chords_from, end_of, is_flat, is_short, joined, middle, start_of, turn_of}
use Rattle.mill_arc.specs.Rings.{IsChordOf}
use Rattle.mill_arc.specs.Sectors.{Sector, end_from, sector, sectors_from}
use Rattle.mill_arc.specs.Vectors.{ahead, dot}
use Rattle.mill_arc.specs.declared.arc.Arc.{Arc}
use Rattle.mill_arc.specs.declared.chords.Chord.{Chord}
use Rattle.mill_arc.specs.declared.chords.Node.{Node}
use Rattle.mill_arc.specs.declared.chords.Turn.{Turn}
use Rattle.mill_arc.specs.declared.chords.TheConstants.{MAX_HALVINGS}
use Rattle.mill_arc.specs.declared.vectors.Vector.{Vector}
use Rattle.mill_arc.specs.inner.Nodes.{IsNode, IsRing, IsShortSector}

-- these chords go from node to node
pub data Parted (turn : Turn) : Node → Node → List Chord → Type 0 where
  one : (u v : Node) (cs : List Chord) (c : Chord) → is_short turn u v ≡ true → c.node ≡ v.at → cs ≡ c ∷ [] → Parted turn u v cs
  two : (u v : Node) (cs first second : List Chord) → is_short turn u v ≡ false → Parted turn u (middle turn u v) first → Parted turn (middle turn u v) v second
      → cs ≡ first ++ second → Parted turn u v cs

-- a list that two were joined to
pub record AreJoined (a b : Option (List Chord)) (cs : List Chord) : Type 0 where
  pub first : List Chord
  pub second : List Chord
  pub first_is : a ≡ Some first
  pub second_is : b ≡ Some second
  pub is : cs ≡ first ++ second

pub some_same : (xs ys : List Chord) → Some xs ≡ Some ys → xs ≡ ys
some_same xs ys e = cc

pub joined_some : (a b : Option (List Chord)) (cs : List Chord) → joined a b ≡ Some cs → AreJoined a b cs
joined_some None b cs e = cc
joined_some (Some xs) None cs e = cc
joined_some (Some xs) (Some ys) cs e = record { first = xs; second = ys; first_is = refl; second_is = refl; is = sym (some_same (xs ++ ys) cs e) }

parted_of : (n : ℕ) (turn : Turn) (u v : Node) (part depth : ℕ) (cs : List Chord) → chords_from n turn u v part depth ≡ Some cs → Parted turn u v cs
unfolding chords_from
parted_of zero turn u v part depth cs e = by (is_short turn u v) refl e
  where
    by : (t : Bool) → is_short turn u v ≡ t → (if t then Some (chord_to v part depth ∷ []) else None) ≡ Some cs → Parted turn u v cs
    by true s e = one u v cs (chord_to v part depth) s refl (sym (some_same _ cs e))
    by false s e = cc
parted_of (suc n) turn u v part depth cs e =
    by (is_short turn u v) refl
    (λ j. parted_of n turn u (middle turn u v) (2 * part) (depth + 1) j.first j.first_is)
    (λ j. parted_of n turn (middle turn u v) v (2 * part + 1) (depth + 1) j.second j.second_is)
    e
  where
    by : (t : Bool) → is_short turn u v ≡ t
        → ((j : AreJoined (chords_from n turn u (middle turn u v) (2 * part) (depth + 1)) (chords_from n turn (middle turn u v) v (2 * part + 1) (depth + 1)) cs) → Parted turn u (middle turn u v) j.first)
        → ((j : AreJoined (chords_from n turn u (middle turn u v) (2 * part) (depth + 1)) (chords_from n turn (middle turn u v) v (2 * part + 1) (depth + 1)) cs) → Parted turn (middle turn u v) v j.second)
        → (if t then Some (chord_to v part depth ∷ []) else joined (chords_from n turn u (middle turn u v) (2 * part) (depth + 1)) (chords_from n turn (middle turn u v) v (2 * part + 1) (depth + 1))) ≡ Some cs
        → Parted turn u v cs
    by true s f g e = one u v cs (chord_to v part depth) s refl (sym (some_same _ cs e))
    by false s f g e = both (joined_some (chords_from n turn u (middle turn u v) (2 * part) (depth + 1)) (chords_from n turn (middle turn u v) v (2 * part + 1) (depth + 1)) cs e)
      where
        both : AreJoined (chords_from n turn u (middle turn u v) (2 * part) (depth + 1)) (chords_from n turn (middle turn u v) v (2 * part + 1) (depth + 1)) cs → Parted turn u v cs
        both j = two u v cs j.first j.second s (f j) (g j) j.is

pub arc_parted : (arc : Arc) (cs : List Chord) → chords_from MAX_HALVINGS (turn_of arc) (start_of arc) (end_of arc) 0 0 ≡ Some cs → Parted (turn_of arc) (start_of arc) (end_of arc) cs
arc_parted arc cs e = parted_of MAX_HALVINGS (turn_of arc) (start_of arc) (end_of arc) 0 0 cs e

-- ---- sectors of joined lists

pub sectors-append : (u : Vector) (xs ys : List Chord) → sectors_from u (xs ++ ys) ≡ sectors_from u xs ++ sectors_from (end_from u xs) ys
sectors-append u [] ys = refl
sectors-append u (c ∷ xs) ys = ap (λ (l : List Sector). sector u c.node ∷ l) (sectors-append c.node xs ys)

pub end-append : (u : Vector) (xs ys : List Chord) → end_from u (xs ++ ys) ≡ end_from (end_from u xs) ys
end-append u [] ys = refl
end-append u (c ∷ xs) ys = end-append c.node xs ys

pub parted_end : (turn : Turn) (u v : Node) (cs : List Chord) → Parted turn u v cs → end_from u.at cs ≡ v.at
parted_end turn u v cs (one _ _ _ c s e is) = ap (λ (l : List Chord). end_from u.at l) is ∙ e
parted_end turn u v cs (two _ _ _ xs ys s first second is) =
    ap (λ (l : List Chord). end_from u.at l) is ∙ end-append u.at xs ys ∙ ap (λ (p : Vector). end_from p ys) (parted_end turn u (middle turn u v) xs first) ∙ parted_end turn (middle turn u v) v ys second

pub parted_sectors : (turn : Turn) (u v m : Node) (cs xs ys : List Chord) → Parted turn u m xs → cs ≡ xs ++ ys → sectors_from u.at cs ≡ sectors_from u.at xs ++ sectors_from m.at ys
parted_sectors turn u v m cs xs ys first is =
    ap (λ (l : List Chord). sectors_from u.at l) is ∙ sectors-append u.at xs ys ∙ ap (λ (p : Vector). sectors_from u.at xs ++ sectors_from p ys) (parted_end turn u m xs first)

-- ---- each sector is short

-- a turn of a ring that bends by at most 4*m*k
pub record IsTurn (turn : Turn) (m x k : ℤ) : Type 0 where
  pub ring : IsRing m x turn.radius
  pub bend : turn.bend ≡ pos 4 *ℤ (m *ℤ k)

pub short_sector : (turn : Turn) (m x k : ℤ) (u v : Node) → IsTurn turn m x k → is_short turn u v ≡ true → IsNode m x u → IsNode m x v → IsShortSector turn.counterclockwise m x k (sector u.at v.at)
unfolding is_short
short_sector turn m x k u v it e from to =
    let flat = and_right (int_lt (pos 0) (ahead turn.counterclockwise u.at v.at)) (is_flat turn u v (dot u.at v.at)) e in
    record {
      a = u.radius;
      b = v.radius;
      from = from;
      to = to;
      forward = lt_true (pos 0) (ahead turn.counterclockwise u.at v.at) (and_left (int_lt (pos 0) (ahead turn.counterclockwise u.at v.at)) (is_flat turn u v (dot u.at v.at)) e);
      quarter = le_true (pos 0) (dot u.at v.at) (and_left (int_le (pos 0) (dot u.at v.at)) (int_le (u.radius *ℤ v.radius -ℤ dot u.at v.at) turn.bend) flat);
      bend = subst (λ (t : ℤ). (u.radius *ℤ v.radius -ℤ dot u.at v.at) ≤ℤ t) it.bend
          (le_true (u.radius *ℤ v.radius -ℤ dot u.at v.at) turn.bend (and_right (int_le (pos 0) (dot u.at v.at)) (int_le (u.radius *ℤ v.radius -ℤ dot u.at v.at) turn.bend) flat));
    }

all_short : (turn : Turn) (m x k : ℤ) (u v : Node) (cs : List Chord) → IsTurn turn m x k → IsNode m x u → IsNode m x v → Parted turn u v cs
    → All (IsShortSector turn.counterclockwise m x k) (sectors_from u.at cs)
all_short turn m x k u v cs it from to (one _ _ _ c s e is) =
    subst (λ (l : List Chord). All (IsShortSector turn.counterclockwise m x k) (sectors_from u.at l)) (sym is)
    (All-cons (IsShortSector turn.counterclockwise m x k) (sector u.at c.node) []
    (subst (λ (p : Vector). IsShortSector turn.counterclockwise m x k (sector u.at p)) (sym e) (short_sector turn m x k u v it s from to))
    (All-nil (IsShortSector turn.counterclockwise m x k)))
all_short turn m x k u v cs it from to (two _ _ _ xs ys s first second is) =
    let mid = middle_node m x turn u v it.ring from to in
    subst (λ (l : List Sector). All (IsShortSector turn.counterclockwise m x k) l) (sym (parted_sectors turn u v (middle turn u v) cs xs ys first is))
    (All-append (IsShortSector turn.counterclockwise m x k) (sectors_from u.at xs) (sectors_from (middle turn u v).at ys)
    (all_short turn m x k u (middle turn u v) xs it from mid first)
    (all_short turn m x k (middle turn u v) v ys it mid to second))

pub chord_short : (arc : Arc) (s : Sector) → IsChordOf arc s → IsShortSector arc.counterclockwise (least_radius arc) (greatest_radius arc) (nanometres_of arc.unit) s
chord_short arc s chord =
    All-contains (IsShortSector arc.counterclockwise (least_radius arc) (greatest_radius arc) (nanometres_of arc.unit)) (sectors_from arc.start chord.chords) s
    (all_short (turn_of arc) (least_radius arc) (greatest_radius arc) (nanometres_of arc.unit) (start_of arc) (end_of arc) chord.chords
    (record { ring = arc_ring arc chord.arc_ok chord.sound; bend = refl })
    (start_node arc chord.arc_ok chord.sound) (end_node arc chord.arc_ok chord.sound) (arc_parted arc chord.chords chord.are))
    chord.stands
