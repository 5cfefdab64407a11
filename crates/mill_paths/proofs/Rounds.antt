-- From home through visits and home again, the moves go safely.
use Rattle.std.specs.Prelude.{ℤ, ◌<ℤ◌, ◌≤ℤ◌, List, [], All}
use Rattle.std.proofs.Common.{subst, sym, arith}
use Rattle.std.proofs.lemmas.Int.{ints}
use Rattle.std.proofs.lemmas.List.Elements.{All-weaker}
use Rattle.mill_base.specs.declared.motion.Move.{Move}
use Rattle.mill_base.specs.declared.points.Tri.{Tri}
use Rattle.mill_job.specs.Columns.{home}
use Rattle.mill_job.specs.Jobs.{IsJob}
use Rattle.mill_job.specs.declared.fields.JobFields.{JobFields}
use Rattle.mill_links.specs.Links.{head, way_home}
use Rattle.mill_links.specs.Safety.{GoSafely, IsFreePlace}
use Rattle.mill_links.specs.Tours.{last_place}
use Rattle.mill_links.specs.declared.visit.Visit.{Visit}
use Rattle.mill_links.proofs.Going.{go_on, head_is_safe, tour_is_safe, way_home_is_safe}
use Rattle.mill_paths.specs.Unique.{RoundIsSafe}
use Rattle.mill_paths.specs.Visits.{IsVisit}

level : (z : ℤ) → z ≤ℤ z
level z = omega (arith, ints)

-- the tool may stand at a visit
pub free_place : (job : JobFields) (part : List Tri) (visit : Visit) → IsVisit job part visit → IsFreePlace job part visit.at
free_place job part visit is = record {
  ranged = is.in_range;
  floor = is.kept;
  top = under visit.at.z job.top is.under_top;
  free = is.free visit.at.z (level visit.at.z);
}
  where
    under : (a b : ℤ) → a <ℤ b → a ≤ℤ b
    under a b h = omega (h, arith, ints)

pub round_is_safe : RoundIsSafe
round_is_safe job part visits toured ok under each through =
    let free : All (λ (v : Visit). IsFreePlace job part v.at) visits =
    All-weaker (IsVisit job part) (λ (v : Visit). IsFreePlace job part v.at) (λ v is. free_place job part v is) visits each in
    let begun : GoSafely job part [] (home job) (head job) (home job) = head_is_safe job part ok under in
    let tour : GoSafely job part (head job) (home job) through.toured (last_place (home job) visits) =
    tour_is_safe job part (head job) (home job) visits through.toured ok under begun.reached free through.tour in
    let there : GoSafely job part [] (home job) toured (last_place (home job) visits) =
    subst (λ (ms : List Move). GoSafely job part [] (home job) ms (last_place (home job) visits)) (sym through.joined)
    (go_on job part [] (home job) (home job) (last_place (home job) visits) (head job) through.toured begun tour) in
    go_on job part [] (home job) (last_place (home job) visits) (home job) toured (way_home job (last_place (home job) visits)) there
    (way_home_is_safe job part toured (last_place (home job) visits) ok under there.reached)
