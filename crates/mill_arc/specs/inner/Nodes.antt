-- The nodes of an arc, and how far they are from its centre.
use Rattle.std.specs.Prelude.{◌^◌, Bool, ℤ, pos, ◌+ℤ◌, ◌-ℤ◌, ◌*ℤ◌, ◌<ℤ◌, ◌≤ℤ◌}
use Rattle.mill_base.specs.Numbers.{Within, square}
use Rattle.mill_arc.specs.Vectors.{IsNear, ahead, dot}
use Rattle.mill_arc.specs.Sectors.{Sector}
use Rattle.mill_arc.specs.declared.chords.Node.{Node}
use Rattle.mill_arc.specs.declared.chords.Turn.{Turn}

-- the lesser radius of an arc, the greater and their mean
pub record IsRing (m x r : ℤ) : Type 0 where
  pub some : pos 1000 ≤ℤ m
  pub least : m ≤ℤ r
  pub most : r ≤ℤ x
  pub twice : x ≤ℤ (pos 2 *ℤ m)
  pub mean : (pos 2 *ℤ r) ≤ℤ (m +ℤ x)
  pub bound : x ≤ℤ pos 1856000000

-- a node's radius is one of the ring's, and its length is near it
pub record IsNode (m x : ℤ) (n : Node) : Type 0 where
  pub least : m ≤ℤ n.radius
  pub most : n.radius ≤ℤ x
  pub inner : square (n.radius -ℤ pos 1) ≤ℤ dot n.at n.at
  pub outer : dot n.at n.at ≤ℤ square (n.radius +ℤ pos 2)

-- from one node of a turn to another
pub record IsPart (turn : Turn) (u v : Node) : Type 0 where
  pub m : ℤ
  pub x : ℤ
  pub ring : IsRing m x turn.radius
  pub from : IsNode m x u
  pub to : IsNode m x v

-- the numbers of a node are small enough for products
pub record IsPlain (n : Node) : Type 0 where
  pub near : IsNear n.at
  pub radius : Within (2 ^ 32) n.radius

-- the sector of a chord, as the laws on its distance take it
pub record IsShortSector (t : Bool) (m x k : ℤ) (s : Sector) : Type 0 where
  pub a : ℤ
  pub b : ℤ
  pub from : IsNode m x (record { at = s.from; radius = a })
  pub to : IsNode m x (record { at = s.to; radius = b })
  pub forward : (pos 0) <ℤ ahead t s.from s.to
  pub quarter : (pos 0) ≤ℤ dot s.from s.to
  pub bend : (a *ℤ b -ℤ dot s.from s.to) ≤ℤ (pos 4 *ℤ (m *ℤ k))
