-- A list of visits that was made isn't one of which too many differ from the one before them: the drop heights and the waterlines are unique, and so is the list.
use Rattle.std.proofs.Common.{◌≡◌, ℕ, ◌<◌, ◌≤◌, Bool, true, List, [], length, refl, sym, ◌∙◌, subst, arith}
use Rattle.std.specs.Prelude.{◌==◌, ℤ, pos, Option, None, Some, MatchOption}
use Rattle.std.specs.List.{AllZip, flat_map}
use Rattle.std.proofs.lemmas.Bool.{eqb-true}
use Rattle.std.proofs.lemmas.List.{nil_from_length}
use Rattle.mill_base.specs.declared.points.Tri.{Tri}
use Rattle.mill_drop.specs.Maps.{AreDropHeights}
use Rattle.mill_drop.proofs.Uniqueness.{one_map}
use Rattle.mill_job.specs.Jobs.{tool_of}
use Rattle.mill_job.specs.declared.fields.JobFields.{JobFields}
use Rattle.mill_level.specs.Waterlines.{IsWaterline, Outline}
use Rattle.mill_links.specs.declared.visit.Visit.{Visit}
use Rattle.mill_paths.specs.Lattices.{finish_lattice, rough_lattice}
use Rattle.mill_paths.specs.Limits.{change_count, most_changes}
use Rattle.mill_paths.specs.Visits.{AreFinishVisits, AreNodeVisits, AreRowVisits, AreWaterlines, HaveManyFinishVisits, HaveManyLevelVisits, HaveManyNodeVisits, HaveManyRoughVisits, HaveManyRowVisits, finish_visits_of, level_visits_of, rough_visits_of, rough_visits_on, row_visits_from}
use Rattle.mill_paths.proofs.LayerLemmas.{no_layers}
use Rattle.mill_paths.proofs.Uniqueness.{first_changes, one_waterlines}

over : (n : ℕ) → n ≤ most_changes → most_changes < n → ⊥
over n few many = omega arith

none_over : most_changes < 0 → ⊥
none_over many = omega arith

pub few_finish : (job : JobFields) (part : List Tri) (list : List Visit) → AreFinishVisits job part list → change_count list ≤ most_changes → ¬ HaveManyFinishVisits job part
few_finish job part list are few many = by job.path_tol are many
  where
    through : (a b c : ℕ) → a < b → b ≤ c → c ≤ a → ⊥
    through a b c h g k = omega (h, g, k, arith)

    by : (t : Option ℤ) → MatchOption t (AreNodeVisits job part list) (λ tol. AreRowVisits job part tol list)
        → MatchOption t (HaveManyNodeVisits job part) (λ tol. HaveManyRowVisits job part tol) → ⊥
    by None are many =
        over (change_count list) few (subst (λ (visits : List Visit). most_changes < change_count visits) (sym are.visits)
        (subst (λ (hs : List ℤ). most_changes < change_count (finish_visits_of job hs)) (one_map (tool_of job) part job.floor (finish_lattice job) many.heights are.heights many.are are.are) many.many))
    by (Some tol) are many =
        through most_changes (change_count (row_visits_from job 0 many.paths)) (change_count (row_visits_from job 0 are.paths)) many.many
        (first_changes job part tol many.rows many.paths are.paths many.are are.are) (subst (λ (visits : List Visit). change_count visits ≤ most_changes) are.visits few)

pub few_rough : (job : JobFields) (part : List Tri) (heights : List ℤ) (list : List Visit) → AreDropHeights (tool_of job) part job.floor (rough_lattice job) heights
    → list ≡ rough_visits_of job heights → change_count list ≤ most_changes → ¬ HaveManyRoughVisits job part
few_rough job part heights list are is few many =
    over (change_count list) few (subst (λ (visits : List Visit). most_changes < change_count visits) (sym is)
    (subst (λ (hs : List ℤ). most_changes < change_count (rough_visits_of job hs)) (one_map (tool_of job) part job.floor (rough_lattice job) many.heights heights many.are are) many.many))

-- without a layer there are none
pub none_rough : (job : JobFields) (part : List Tri) → job.layer ≡ pos 0 → ¬ HaveManyRoughVisits job part
none_rough job part none many =
    none_over (subst (λ (zs : List ℤ). most_changes < change_count (flat_map (rough_visits_on job many.heights) zs)) (no_layers job none) many.many)

pub few_level : (job : JobFields) (part : List Tri) (waterlines : List (List Outline)) (list : List Visit) → AreWaterlines job part waterlines
    → list ≡ level_visits_of job waterlines → change_count list ≤ most_changes → ¬ HaveManyLevelVisits job part
few_level job part waterlines list are is few many =
    over (change_count list) few (subst (λ (visits : List Visit). most_changes < change_count visits) (sym is)
    (subst (λ (lines : List (List Outline)). most_changes < change_count (level_visits_of job lines)) (one_waterlines job part many.waterlines waterlines many.are are) many.many))

-- levels that are as many as none
pub no_level : (levels slice : List ℤ) (empty : Bool) → slice ≡ levels → empty ≡ (length slice == 0) → empty ≡ true → levels ≡ []
no_level levels slice empty same test holds = sym same ∙ nil_from_length slice (eqb-true (length slice) 0 (sym test ∙ holds))

-- without levels there are none
pub no_waterlines : (job : JobFields) (part : List Tri) → job.levels ≡ [] → AreWaterlines job part []
no_waterlines job part none = subst (λ (zs : List ℤ). AllZip (λ z outlines. IsWaterline (tool_of job) part z (finish_lattice job) outlines) zs []) (sym none) tt

pub none_level : (job : JobFields) (part : List Tri) → job.levels ≡ [] → ¬ HaveManyLevelVisits job part
none_level job part none = few_level job part [] [] (no_waterlines job part none) refl (omega arith)
