-- Moments of a move, where its tip may be, and moves that follow on each other.
use Rattle.std.specs.Prelude.{◌≡◌, ◌≢◌, ◌⊎◌, Bool, not, ◌&&◌, ◌||◌, if◌then◌else◌, ℤ, pos, ◌-ℤ◌, ◌*ℤ◌, ◌<ℤ◌, ◌≤ℤ◌, List, [], ◌∷◌}
use Rattle.std.specs.Ordering.{int_eq}
use Rattle.mill_base.specs.Numbers.{lesser, greater}
use Rattle.mill_base.specs.Points.{plus, times}
use Rattle.mill_base.specs.declared.points.Pt3.{Pt3}
use Rattle.mill_base.specs.declared.motion.Kind.{Kind}
use Rattle.mill_base.specs.declared.motion.Kind.TheVariants.{Rapid, Feed, Dogleg}
use Rattle.mill_base.specs.declared.motion.Move.{Move}

-- k/n is a moment of a move: a fraction from 0 to 1
pub record IsMoment (k n : ℤ) : Type 0 where
  pub some : (pos 0) <ℤ n
  pub after : (pos 0) ≤ℤ k
  pub before : k ≤ℤ n

-- the tip at the moment k/n, over the denominator n
abbrev pub tip_at : Move → ℤ → ℤ → Pt3
tip_at m k n = plus (times (n -ℤ k) m.from) (times k m.to)

-- every move goes straight but a dogleg
abbrev pub IsStraight : Move → Type 0
IsStraight m = m.kind ≢ Dogleg

-- t over the denominator n lies between two places along an axis
pub record IsBetween (from to n t : ℤ) : Type 0 where
  pub least : (n *ℤ lesser from to) ≤ℤ t
  pub most : t ≤ℤ (n *ℤ greater from to)

-- the point t over n lies in the box of the move's two ends
pub record IsInBox (m : Move) (n : ℤ) (t : Pt3) : Type 0 where
  pub some : (pos 0) <ℤ n
  pub x : IsBetween m.from.x m.to.x n t.x
  pub y : IsBetween m.from.y m.to.y n t.y
  pub z : IsBetween m.from.z m.to.z n t.z

-- the point t over n is the tip at some moment of the move, where it goes straight
pub record IsOnWay (m : Move) (n : ℤ) (t : Pt3) : Type 0 where
  pub k : ℤ
  pub moment : IsMoment k n
  pub place : t ≡ tip_at m k n

-- the point t over n is one at which the tip may be on the move: at some moment of it, or for a dogleg anywhere in the box of its two ends
abbrev pub IsTipBy : Kind → Move → ℤ → Pt3 → Type 0
IsTipBy Rapid m n t = IsOnWay m n t
IsTipBy Feed m n t = IsOnWay m n t
IsTipBy Dogleg m n t = IsInBox m n t

abbrev pub IsTipOf : Move → ℤ → Pt3 → Type 0
IsTipOf m n t = IsTipBy m.kind m n t

-- at the moment k/n it is surely known where the tip is: at each moment of a straight move, and of a dogleg at its two ends
abbrev pub IsSureBy : Kind → ℤ → ℤ → Type 0
IsSureBy Rapid k n = IsMoment k n
IsSureBy Feed k n = IsMoment k n
IsSureBy Dogleg k n = IsMoment k n × ((k ≡ pos 0) ⊎ (k ≡ n))

abbrev pub IsSure : Move → ℤ → ℤ → Type 0
IsSure m k n = IsSureBy m.kind k n

-- two places differ along an axis
abbrev pub differ : ℤ → ℤ → Bool
differ a b = not (int_eq a b)

-- at least two of three are so
abbrev pub are_two : Bool → Bool → Bool → Bool
are_two x y z = (x && y) || ((x && z) || (y && z))

-- the move's ends differ along at least two axes
abbrev pub changes_two : Move → Bool
changes_two m = are_two (differ m.from.x m.to.x) (differ m.from.y m.to.y) (differ m.from.z m.to.z)

-- the kind of a move, where the axes run apart on a rapid: of a rapid along two axes or more it is a dogleg
abbrev pub bent_kind : Kind → Bool → Kind
bent_kind Rapid two = if two then Dogleg else Rapid
bent_kind Feed two = Feed
bent_kind Dogleg two = Dogleg

-- the move as such a machine makes it
abbrev pub bent : Move → Move
bent m = record { kind = bent_kind m.kind (changes_two m); from = m.from; to = m.to }

-- each move begins where the one before it ended, the first at this point
abbrev pub Follow : Pt3 → List Move → Type 0
Follow at [] = Unit {0}
Follow at (m ∷ moves) = (m.from ≡ at) × Follow m.to moves
