-- The moves that link the place where the cutter is to the next visit.
use Rattle.std.specs.Prelude.{◌≡◌, ◌≢◌, ◌⊎◌, ◌↔◌, ℕ, zero, suc, ◌-◌, ◌/◌, Bool, IsTrue, ◌&&◌, if◌then◌else◌, ℤ, pos, nat_abs, ◌+ℤ◌, ◌-ℤ◌, ◌*ℤ◌, ◌≤ℤ◌, int_lt, List, [], ◌∷◌, ◌++◌}
use Rattle.std.specs.Ordering.{int_eq}
use Rattle.mill_base.specs.Points.{point_at}
use Rattle.mill_base.specs.declared.points.Pt3.{Pt3}
use Rattle.mill_base.specs.declared.points.Tri.{Tri}
use Rattle.mill_base.specs.declared.motion.Move.{Move}
use Rattle.mill_base.specs.declared.motion.Kind.TheVariants.{Rapid, Feed}
use Rattle.mill_dexel.specs.Rows.{RowState}
use Rattle.mill_dexel.specs.Stocks.{IsStock}
use Rattle.mill_dexel.specs.Tops.{ClearsColumns, IsTested}
use Rattle.mill_gouge.specs.Gouges.{ToolPassesPart}
use Rattle.mill_job.specs.Columns.{home}
use Rattle.mill_job.specs.Habits.{is_elsewhere, made_by}
use Rattle.mill_job.specs.Jobs.{tool_of}
use Rattle.mill_margin.specs.Margins.{offset_of}
use Rattle.mill_job.specs.declared.fields.JobFields.{JobFields}
use Rattle.mill_links.specs.declared.visit.Visit.{Visit}

-- how far one coordinate lies from another
abbrev pub distance : ℤ → ℤ → ℤ
distance a b = pos (nat_abs (a -ℤ b))

-- the visit lies at most twice its step away, in x and in y
pub record IsNearBy (from : Pt3) (visit : Visit) : Type 0 where
  pub x_near : distance visit.at.x from.x ≤ℤ (pos 2 *ℤ visit.step)
  pub y_near : distance visit.at.y from.y ≤ℤ (pos 2 *ℤ visit.step)

-- the feed from one place to another
abbrev pub feed_to : Pt3 → Pt3 → Move
feed_to from at = record { kind = Feed; from = from; to = at }

-- the rapid from one place to another
abbrev pub rapid_to : Pt3 → Pt3 → Move
rapid_to from at = record { kind = Rapid; from = from; to = at }

-- the rapid that stays where it is
abbrev pub stay : Pt3 → Move
stay p = rapid_to p p

-- the place at this height over or under another
abbrev pub at_height : Pt3 → ℤ → Pt3
at_height p z = point_at p.x p.y z

-- up to the clear height, from a place under it
abbrev pub climb : JobFields → Pt3 → List Move
climb job from = if int_lt from.z job.clear then rapid_to from (at_height from job.clear) ∷ [] else []

-- two places are one
abbrev pub is_same_point : Pt3 → Pt3 → Bool
is_same_point p q = int_eq p.x q.x && (int_eq p.y q.y && int_eq p.z q.z)

-- two places have the same x and y
abbrev pub is_over_place : Pt3 → Pt3 → Bool
is_over_place p q = int_eq p.x q.x && int_eq p.y q.y

-- the rapid across at the clear height, as the job's machine makes it
abbrev pub across : JobFields → Pt3 → Pt3 → Move
across job from at = made_by job.rapids (rapid_to (at_height from job.clear) (at_height at job.clear))

-- across at the clear height, to another x or y
abbrev pub cross : JobFields → Pt3 → Pt3 → List Move
cross job from at = if is_over_place from at then [] else across job from at ∷ []

-- the lowest height of the tool's tip at which nothing of the cutter, with the slack around it, is under the top of the stock
unfoldable pub over_stock : JobFields → ℤ
over_stock job = job.top +ℤ offset_of job.cutter job.slack

-- from the clear height down to there, where that is lower
abbrev pub descend : JobFields → Pt3 → List Move
descend job at = if int_lt (over_stock job) job.clear then rapid_to (at_height at job.clear) (at_height at (over_stock job)) ∷ [] else []

-- feeds straight down to a place, the first from the height start over it: so many end the depth under each other, the first of them the depth under the height z (pecks), and one more goes the rest of the way
abbrev pub pecks : ℕ → ℤ → Pt3 → ℤ → ℤ → List Move
pecks zero depth at start z = feed_to (at_height at start) at ∷ []
pecks (suc n) depth at start z = feed_to (at_height at start) (at_height at (z -ℤ depth)) ∷ pecks n depth at (z -ℤ depth) (z -ℤ depth)

-- how many pecks of this depth end over a place so far under their start; none where the depth isn't limited, or the place doesn't lie under the start
abbrev pub peck_count : ℤ → ℤ → ℕ
peck_count depth height = if int_lt (pos 0) depth && int_lt (pos 0) height then (nat_abs height - 1) / nat_abs depth else 0

-- from there down to the place, by as many pecks of the job's greatest depth of cut, counted from the top of the stock, as end over it, and a feed for the rest
abbrev pub plunge : JobFields → Pt3 → List Move
plunge job at = pecks (peck_count job.max_cut (job.top -ℤ at.z)) job.max_cut at (over_stock job) job.top

-- the way round over everything: up, across and down
abbrev pub detour : JobFields → Pt3 → Pt3 → List Move
detour job from at = climb job from ++ cross job from at ++ descend job at ++ plunge job at

-- after the moves done so far the straight feed to the visit may be made: it is near, and on the feed the tool passes each triangle of the part, and the cutter cuts no column too deep
pub record MayFeed (job : JobFields) (part : List Tri) (done : List Move) (from : Pt3) (visit : Visit) : Type 0 where
  pub near : IsNearBy from visit
  pub passes : ToolPassesPart (tool_of job) (feed_to from visit.at) part
  pub depth : ClearsColumns job done (feed_to from visit.at)

-- what can be said of that without the stock: the visit is near, and on the feed the tool passes each triangle of the part
pub record IsClear (job : JobFields) (part : List Tri) (from : Pt3) (visit : Visit) : Type 0 where
  pub near : IsNearBy from visit
  pub passes : ToolPassesPart (tool_of job) (feed_to from visit.at) part

-- nothing but the stock may stand in the way of the link: the cutter is at the visit already, or the straight feed to it is clear
abbrev pub GoesClear : JobFields → List Tri → Pt3 → Visit → Type 0
GoesClear job part from visit = (visit.at ≡ from) ⊎ IsClear job part from visit

-- the answer says whether that is so
abbrev pub SaysClear : JobFields → List Tri → Pt3 → Visit → Bool → Type 0
SaysClear job part from visit answer = IsTrue answer ↔ GoesClear job part from visit

-- the cutter is at the visit already, and no move is made
pub record IsStay (from : Pt3) (visit : Visit) (moves : List Move) : Type 0 where
  pub there : visit.at ≡ from
  pub none : moves ≡ []

-- it isn't there, the straight feed may be made, and it is
pub record IsStraight (job : JobFields) (part : List Tri) (done : List Move) (from : Pt3) (visit : Visit) (moves : List Move) : Type 0 where
  pub away : visit.at ≢ from
  pub free : MayFeed job part done from visit
  pub feed : moves ≡ feed_to from visit.at ∷ []

-- it isn't there, the straight feed may not be made, and the cutter goes round
pub record IsDetour (job : JobFields) (part : List Tri) (done : List Move) (from : Pt3) (visit : Visit) (moves : List Move) : Type 0 where
  pub away : visit.at ≢ from
  pub barred : ¬ MayFeed job part done from visit
  pub round : moves ≡ detour job from visit.at

-- after the moves done so far these link the place to the visit
abbrev pub IsLink : JobFields → List Tri → List Move → Pt3 → Visit → List Move → Type 0
IsLink job part done from visit moves = IsStay from visit moves ⊎ (IsStraight job part done from visit moves ⊎ IsDetour job part done from visit moves)

-- the way home: up and across
abbrev pub way_home : JobFields → Pt3 → List Move
way_home job from = climb job from ++ cross job from (home job)

-- with what a program begins: where it may start from elsewhere than over home, two rapids that stay at home, of which a text has the lines that bring the tool there
unfoldable pub head : JobFields → List Move
head job = if is_elsewhere job.start then stay (home job) ∷ stay (home job) ∷ [] else []

-- the list gets the moves of a link after the moves done so far
pub record AddsLink (job : JobFields) (part : List Tri) (done : List Move) (from : Pt3) (visit : Visit) (old new : List Move) : Type 0 where
  pub moves : List Move
  pub link : IsLink job part done from visit moves
  pub joined : new ≡ old ++ moves

-- where feeds are tested, the rows are the stock as the moves done so far leave it
abbrev pub FollowStock : JobFields → List Move → List RowState → Type 0
FollowStock job done rows = IsTested job Feed → IsStock job done rows
