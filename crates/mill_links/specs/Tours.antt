-- The moves that go from a place through visits, one after the other.
use Rattle.std.specs.Prelude.{◌≡◌, List, [], ◌∷◌, ◌++◌}
use Rattle.std.specs.List.{flat_map}
use Rattle.mill_base.specs.declared.points.Pt3.{Pt3}
use Rattle.mill_base.specs.declared.points.Tri.{Tri}
use Rattle.mill_base.specs.declared.motion.Move.{Move}
use Rattle.mill_job.specs.Columns.{home}
use Rattle.mill_job.specs.declared.fields.JobFields.{JobFields}
use Rattle.mill_links.specs.Links.{IsLink, head}
use Rattle.mill_links.specs.declared.visit.Visit.{Visit}

-- after the moves done so far these are the links to the visits, one list of moves each: the first from this place, and each other from the visit before it
abbrev pub AreLinks : JobFields → List Tri → List Move → Pt3 → List Visit → List (List Move) → Type 0
AreLinks job part done from [] [] = Unit {0}
AreLinks job part done from [] (link ∷ links) = ⊥
AreLinks job part done from (v ∷ vs) [] = ⊥
AreLinks job part done from (v ∷ vs) (link ∷ links) = IsLink job part done from v link × AreLinks job part (done ++ link) v.at vs links

-- after the moves done so far these go from this place through all the visits: they are the links, one after the other
pub record IsTour (job : JobFields) (part : List Tri) (done : List Move) (from : Pt3) (visits : List Visit) (moves : List Move) : Type 0 where
  pub links : List (List Move)
  pub are : AreLinks job part done from visits links
  pub joined : moves ≡ flat_map (λ link. link) links

-- where the cutter is after the visits
abbrev pub last_place : Pt3 → List Visit → Pt3
last_place from [] = from
last_place from (v ∷ vs) = last_place v.at vs

-- a program that begins with these moves goes from home through all the visits: behind what it begins with come the links
pub record GoesThrough (job : JobFields) (part : List Tri) (visits : List Visit) (moves : List Move) : Type 0 where
  pub toured : List Move
  pub tour : IsTour job part (head job) (home job) visits toured
  pub joined : moves ≡ head job ++ toured
