-- A link of which it is known whether it goes straight, and lists that moves are added to. It serves the functions within.
use Rattle.std.specs.Prelude.{◌≡◌, ◌⊎◌, ◌↔◌, Bool, IsTrue, if◌then◌else◌, List, [], ◌∷◌, ◌++◌}
use Rattle.mill_base.specs.declared.points.Pt3.{Pt3}
use Rattle.mill_base.specs.declared.points.Tri.{Tri}
use Rattle.mill_base.specs.declared.motion.Move.{Move}
use Rattle.mill_job.specs.declared.fields.JobFields.{JobFields}
use Rattle.mill_links.specs.Links.{is_same_point, MayFeed, detour, feed_to}
use Rattle.mill_links.specs.declared.visit.Visit.{Visit}

-- the link needs no way round: the cutter is at the visit already, or the straight feed to it may be made
abbrev pub GoesStraight : JobFields → List Tri → List Move → Pt3 → Visit → Type 0
GoesStraight job part done from visit = (visit.at ≡ from) ⊎ MayFeed job part done from visit

-- the answer says whether the link needs none
abbrev pub SaysStraight : JobFields → List Tri → List Move → Pt3 → Visit → Bool → Type 0
SaysStraight job part done from visit answer = IsTrue answer ↔ GoesStraight job part done from visit

-- the moves of a link that goes straight, or of one that doesn't
abbrev pub link_moves : JobFields → Pt3 → Visit → Bool → List Move
link_moves job from visit straight = if is_same_point visit.at from then [] else if straight then feed_to from visit.at ∷ [] else detour job from visit.at

-- the list is as it was, or goes on with more moves
pub record GoesOn (old new : List Move) : Type 0 where
  pub added : List Move
  pub joined : new ≡ old ++ added
