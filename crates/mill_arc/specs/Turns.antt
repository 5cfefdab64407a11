-- Which directions an arc turns over, and which of them its chords stand for.
use Rattle.std.specs.Prelude.{◌≡◌, ℕ, ◌+◌, ◌*◌, ◌^◌, true, Bool, not, ◌&&◌, ◌||◌, if◌then◌else◌, cond, List, [], ◌∷◌, Some, pos, ◌<ℤ◌, int_le, int_lt}
use Rattle.std.specs.List.{count_by}
use Rattle.mill_arc.specs.Arcs.{IsArc, IsSound}
use Rattle.mill_arc.specs.Chords.{chords_of}
use Rattle.mill_arc.specs.Sectors.{Sector, end_from, sector, sectors_of}
use Rattle.mill_arc.specs.Vectors.{ahead, dot}
use Rattle.mill_arc.specs.declared.arc.Arc.{Arc}
use Rattle.mill_arc.specs.declared.chords.Chord.{Chord}
use Rattle.mill_arc.specs.declared.vectors.Vector.{Vector}

-- x lies in a sector of less than half a turn: behind where it begins, and not behind where it ends
abbrev pub is_in_sector : Bool → Vector → Sector → Bool
is_in_sector t x s = int_lt (pos 0) (ahead t s.from x) && int_le (pos 0) (ahead t x s.to)

-- x lies behind u by half a turn at most
abbrev pub is_in_half : Bool → Vector → Vector → Bool
is_in_half t u x = int_lt (pos 0) (ahead t u x) || (int_le (pos 0) (ahead t u x) && int_lt (dot u x) (pos 0))

-- x lies on the turn from u to v: on one of less than half; on one of more, of which the rest is the sector from v to u; on a whole one, where u and v have one direction; or on half a turn
abbrev pub is_on_turn : Bool → Vector → Vector → Vector → Bool
is_on_turn t u v x =
    if int_lt (pos 0) (ahead t u v) then is_in_sector t x (sector u v)
    else (if int_lt (ahead t u v) (pos 0) then not (is_in_sector t x (sector v u))
    else (if int_lt (pos 0) (dot u v) then true else is_in_half t u x))

-- each sector lies between two neighbours, the last one ends where the arc does, and each direction that the arc turns over lies in exactly one, any other one in none
pub record AreTurn (arc : Arc) (cs : List Chord) : Type 0 where
  pub ends : end_from arc.start cs ≡ arc.«end»
  pub once : (x : Vector) → (pos 0) <ℤ dot x x
      → count_by (is_in_sector arc.counterclockwise x) (sectors_of arc cs) ≡ cond (is_on_turn arc.counterclockwise arc.start arc.«end» x) 1 0

-- the chords of an arc are its turn
abbrev pub ChordsAreTurn : Type 0
ChordsAreTurn = (arc : Arc) (cs : List Chord) → IsArc arc → IsSound arc → chords_of arc ≡ Some cs → AreTurn arc cs

-- so many of 2^depth parts of the turn lie behind; each chord is the next part, of 2 to its own depth, and the last one ends the turn
abbrev pub GoesOn : ℕ → ℕ → List Chord → Type 0
GoesOn part depth [] = part ≡ 2 ^ depth
GoesOn part depth (c ∷ cs) = (c.part * 2 ^ depth ≡ part * 2 ^ c.depth + 2 ^ depth) × GoesOn c.part c.depth cs

-- the chords' parts are the whole turn, one behind the other
abbrev pub PartsAreTurn : Type 0
PartsAreTurn = (arc : Arc) (cs : List Chord) → chords_of arc ≡ Some cs → GoesOn 0 0 cs
