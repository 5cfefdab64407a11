-- Which of a plan's links are clear, one visit at a time. It serves the functions within.
use Rattle.std.specs.Prelude.{ℕ, ◌<◌, Bool, pos, List, length, take, slice_index_or, All}
use Rattle.std.specs.List.{AllZip, range_with_len}
use Rattle.mill_base.specs.Points.{point_at}
use Rattle.mill_base.specs.declared.points.Pt3.{Pt3}
use Rattle.mill_base.specs.declared.points.Tri.{Tri}
use Rattle.mill_job.specs.Columns.{home}
use Rattle.mill_job.specs.declared.fields.JobFields.{JobFields}
use Rattle.mill_links.specs.Links.{SaysClear}
use Rattle.mill_links.specs.Tours.{last_place}
use Rattle.mill_links.specs.declared.visit.Visit.{Visit}
use Rattle.mill_paths.specs.Visits.{IsVisit}

-- what stands past the end of a list of visits; it is never looked at
abbrev pub no_visit : Visit
no_visit = record { at = point_at (pos 0) (pos 0) (pos 0); step = pos 1 }

-- the visit of this number
abbrev pub visit_number : List Visit → ℕ → Visit
visit_number visits number = slice_index_or visits number no_visit

-- where the cutter is before it comes to the visit of this number: at home, or at the visit before
abbrev pub place_before : JobFields → List Visit → ℕ → Pt3
place_before job visits number = last_place (home job) (take number visits)

-- the answer says whether the link to the visit of this number is clear
abbrev pub SaysClearTo : JobFields → List Tri → List Visit → ℕ → Bool → Type 0
SaysClearTo job part visits number answer = SaysClear job part (place_before job visits number) (visit_number visits number) answer

-- the answers say so of each visit, in their order
abbrev pub SayClear : JobFields → List Tri → List Visit → List Bool → Type 0
SayClear job part visits answers = AllZip (SaysClearTo job part visits) (range_with_len 0 (length visits)) answers

-- what the answer for the visit of this number needs
pub record IsLinkTask (job : JobFields) (part : List Tri) (visits : List Visit) (number : ℕ) : Type 0 where
  pub visits_ok : All (IsVisit job part) visits
  pub number_ok : number < length visits
