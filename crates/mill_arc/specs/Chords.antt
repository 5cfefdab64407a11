-- The chords of an arc: its turn is parted in two until a chord stands for each part.
use Rattle.std.specs.Prelude.{ℕ, zero, suc, ◌+◌, ◌*◌, ◌^◌, ◌≤◌, Bool, true, false, ◌&&◌, if◌then◌else◌, ℤ, pos, nat_abs, ◌-ℤ◌, ◌*ℤ◌, int_le, int_lt, List, [], ◌∷◌, ◌++◌, Option, Some, None}
use Rattle.mill_base.specs.Numbers.{floor_root_of}
use Rattle.mill_arc.specs.Arcs.{least_radius, mean_radius, nanometres_of, radius_of}
use Rattle.mill_arc.specs.Places.{nearest}
use Rattle.mill_arc.specs.Vectors.{IsNear, ahead, dot, opposite, plus, turned_way, vector}
use Rattle.mill_arc.specs.declared.arc.Arc.{Arc}
use Rattle.mill_arc.specs.declared.chords.Chord.{Chord}
use Rattle.mill_arc.specs.declared.chords.Node.{Node}
use Rattle.mill_arc.specs.declared.chords.Turn.{Turn}
use Rattle.mill_arc.specs.declared.chords.TheConstants.{MAX_HALVINGS}
use Rattle.mill_arc.specs.declared.vectors.Vector.{Vector}

-- how an arc's turn is parted: the middles lie at the mean radius, and a chord is about a unit at most from its part of the circle
abbrev pub turn_of : Arc → Turn
turn_of arc = record { counterclockwise = arc.counterclockwise; radius = mean_radius arc; bend = pos 4 *ℤ (least_radius arc *ℤ nanometres_of arc.unit) }

abbrev pub start_of : Arc → Node
start_of arc = record { at = arc.start; radius = radius_of arc.start }

abbrev pub end_of : Arc → Node
end_of arc = record { at = arc.«end»; radius = radius_of arc.«end» }

-- the product of two vectors is at least 0, and that of their radii is greater by the bend at most
abbrev pub is_flat : Turn → Node → Node → ℤ → Bool
is_flat turn u v onward = int_le (pos 0) onward && int_le (u.radius *ℤ v.radius -ℤ onward) turn.bend

-- a sector of at most a quarter turn, whose product of radii and of 1 less the cosine is at most the bend
unfoldable pub is_short : Turn → Node → Node → Bool
is_short turn u v = int_lt (pos 0) (ahead turn.counterclockwise u.at v.at) && is_flat turn u v (dot u.at v.at)

-- from the centre to the middle of the sector from u to v: of one up to a quarter turn, of one from three quarters to a whole turn, and of one between
unfoldable pub toward_middle : Bool → Vector → Vector → Vector
toward_middle t u v =
    if int_lt (dot u v) (pos 0) then turned_way t u v
    else (if int_lt (pos 0) (ahead t u v) then plus u v else opposite (plus u v))

-- the vector w made so long, its coordinates rounded
unfoldable pub lengthened : ℤ → Vector → Vector
lengthened length w = vector (nearest (w.first *ℤ length) (floor_root_of (nat_abs (dot w w)))) (nearest (w.second *ℤ length) (floor_root_of (nat_abs (dot w w))))

abbrev pub middle : Turn → Node → Node → Node
middle turn u v = record { at = lengthened turn.radius (toward_middle turn.counterclockwise u.at v.at); radius = turn.radius }

-- the chord to the end of such a part of the turn, counted from 0
abbrev pub chord_to : Node → ℕ → ℕ → Chord
chord_to v part depth = record { node = v.at; part = part + 1; depth = depth }

-- one list behind the other, if there are both
abbrev pub joined : Option (List Chord) → Option (List Chord) → Option (List Chord)
joined None second = None
joined (Some first) None = None
joined (Some first) (Some second) = Some (first ++ second)

-- the chords of the sector from u to v, which is such a part of the turn: one where it is short, else those of its two halves. There are none where a sector
-- that can't be halved any more isn't short; the first number says how often it can be
unfoldable pub chords_from : ℕ → Turn → Node → Node → ℕ → ℕ → Option (List Chord)
chords_from zero turn u v part depth = if is_short turn u v then Some (chord_to v part depth ∷ []) else None
chords_from (suc n) turn u v part depth =
    if is_short turn u v then Some (chord_to v part depth ∷ [])
    else joined (chords_from n turn u (middle turn u v) (2 * part) (depth + 1)) (chords_from n turn (middle turn u v) v (2 * part + 1) (depth + 1))

-- the chords of an arc
abbrev pub chords_of : Arc → Option (List Chord)
chords_of arc = chords_from MAX_HALVINGS (turn_of arc) (start_of arc) (end_of arc) 0 0

-- whether there are chords, and the list with them behind it
abbrev pub with_chords : List Chord → Option (List Chord) → Bool × List Chord
with_chords before None = (false, before)
with_chords before (Some cs) = (true, before ++ cs)

-- what `place` and `height` ask of a chord
pub record IsPlaceable (c : Chord) : Type 0 where
  pub near : IsNear c.node
  pub part : c.part ≤ 2 ^ c.depth
  pub depth : c.depth ≤ MAX_HALVINGS
