-- A job and a part settle the heights, the visits, the links and so the moves of their plan.
use Rattle.std.specs.Prelude.{◌≡◌, ℕ, zero, suc, ◌+◌, ◌≤◌, length, Bool, true, false, if◌then◌else◌, ℤ, pos, ◌-ℤ◌, ◌*ℤ◌, ◌<ℤ◌, int_lt, List, [], ◌∷◌, ◌++◌, map, take, drop, Option, None, Some, MatchOption}
use Rattle.std.specs.List.{AllZip, flat_map, range_with_len}
use Rattle.std.proofs.Common.{inl, inr, refl, sym, ap, ◌∙◌, subst, arith}
use Rattle.std.proofs.lemmas.Int.{ints}
use Rattle.std.proofs.lemmas.List.{take-append-drop}
use Rattle.mill_base.specs.Lattices.{lattice_ys}
use Rattle.mill_base.specs.declared.motion.Move.{Move}
use Rattle.mill_base.specs.declared.points.Pt3.{Pt3}
use Rattle.mill_base.specs.declared.points.Tri.{Tri}
use Rattle.mill_drop.proofs.PathLemmas.{same_path}
use Rattle.mill_drop.proofs.Uniqueness.{one_map}
use Rattle.mill_job.specs.Columns.{home}
use Rattle.mill_job.specs.Jobs.{tool_of}
use Rattle.mill_job.specs.declared.fields.JobFields.{JobFields}
use Rattle.mill_level.specs.Waterlines.{IsWaterline, Outline}
use Rattle.mill_level.proofs.Apart.{joins_are_apart}
use Rattle.mill_level.proofs.OneWaterline.{one_waterline}
use Rattle.mill_links.specs.Links.{IsLink, head, way_home}
use Rattle.mill_links.specs.Tours.{AreLinks, GoesThrough, IsTour, last_place}
use Rattle.mill_links.specs.declared.visit.Visit.{Visit}
use Rattle.mill_paths.specs.Lattices.{finish_lattice, rough_lattice}
use Rattle.mill_paths.specs.Limits.{change_count}
use Rattle.mill_paths.specs.Plans.{ArePlanVisits}
use Rattle.mill_paths.specs.Unique.{OnePlan}
use Rattle.mill_paths.specs.Visits.{AreFinishVisits, AreFirstPaths, AreLevelVisits, AreNodeVisits, AreRoughVisits, AreRowPaths, AreRowVisits, AreWaterlines, IsRowPath, finish_visits_of, layer_count, level_visits_of, rough_visits_of, rough_visits_on, row_visits_from}
use Rattle.mill_paths.proofs.Changes.{more_changes}
use Rattle.mill_paths.proofs.RowVisits.{rows_join}

-- where the job has no layer there is no roughing visit
none_rough : (job : JobFields) (heights : List ℤ) → int_lt (pos 0) job.layer ≡ false → rough_visits_of job heights ≡ []
none_rough job heights none =
    ap (λ (t : Bool). flat_map (rough_visits_on job heights) (if t then map (λ k. job.top -ℤ pos k *ℤ job.layer) (range_with_len 1 (layer_count job)) else [])) none

pub one_rough : (job : JobFields) (part : List Tri) (a b : List Visit) → AreRoughVisits job part a → AreRoughVisits job part b → a ≡ b
one_rough job part a b h g = h.visits ∙ by (int_lt (pos 0) job.layer) refl ∙ sym g.visits
  where
    some : (layer : ℤ) → int_lt (pos 0) layer ≡ true → (pos 0) <ℤ layer
    some layer e = omega (arith, ints)

    by : (t : Bool) → int_lt (pos 0) job.layer ≡ t → rough_visits_of job h.heights ≡ rough_visits_of job g.heights
    by true e =
        ap (λ (heights : List ℤ). rough_visits_of job heights)
        (one_map (tool_of job) part job.floor (rough_lattice job) h.heights g.heights (h.are (some job.layer e)) (g.are (some job.layer e)))
    by false e = none_rough job h.heights e ∙ sym (none_rough job g.heights e)

-- lists that each item of another settles place by place
one_list : {A B : Type 0} (R : A → B → Type 0) → ((x : A) (y z : B) → R x y → R x z → y ≡ z) → (xs : List A) (ys zs : List B)
    → AllZip R xs ys → AllZip R xs zs → ys ≡ zs
one_list R one [] [] [] h g = refl
one_list R one [] [] (z ∷ zs) h g = absurd g
one_list R one [] (y ∷ ys) zs h g = absurd h
one_list R one (x ∷ xs) [] zs h g = absurd h
one_list R one (x ∷ xs) (y ∷ ys) [] h g = absurd g
one_list R one (x ∷ xs) (y ∷ ys) (z ∷ zs) h g = ap (λ w. w ∷ ys) (one x y z h.0 g.0) ∙ ap (λ ws. z ∷ ws) (one_list R one xs ys zs h.1 g.1)

-- the first of another list are settled by the first items
first_of : {A B : Type 0} (R : A → B → Type 0) (n : ℕ) (xs : List A) (ys : List B) → AllZip R xs ys → AllZip R (take n xs) (take n ys)
first_of R zero xs ys h = tt
first_of R (suc n) [] [] h = tt
first_of R (suc n) [] (y ∷ ys) h = absurd h
first_of R (suc n) (x ∷ xs) [] h = absurd h
first_of R (suc n) (x ∷ xs) (y ∷ ys) h = (h.0, first_of R n xs ys h.1)

-- the finishing visits at the nodes, and those along the rows' paths
one_at_nodes : (job : JobFields) (part : List Tri) (a b : List Visit) → AreNodeVisits job part a → AreNodeVisits job part b → a ≡ b
one_at_nodes job part a b h g =
    h.visits
    ∙ ap (λ (heights : List ℤ). finish_visits_of job heights) (one_map (tool_of job) part job.floor (finish_lattice job) h.heights g.heights h.are g.are)
    ∙ sym g.visits

module _ (job : JobFields) (part : List Tri) (tol : ℤ) where
  one_row : (y : ℤ) (a b : List Pt3) → IsRowPath job part tol y a → IsRowPath job part tol y b → a ≡ b
  one_row y a b h g = same_path (tool_of job) part y job.area.x0 job.area.x1 job.floor tol a b h g

  one_along_rows : (a b : List Visit) → AreRowVisits job part tol a → AreRowVisits job part tol b → a ≡ b
  one_along_rows a b h g =
      h.visits
      ∙ ap (λ (paths : List (List Pt3)). row_visits_from job 0 paths) (one_list (IsRowPath job part tol) one_row (lattice_ys (finish_lattice job)) h.paths g.paths h.are g.are)
      ∙ sym g.visits

  -- along the first rows no more visits differ from the one before them than along all
  pub first_changes : (rows : ℕ) (first all : List (List Pt3)) → AreFirstPaths job part tol rows first → AreRowPaths job part tol all
      → change_count (row_visits_from job 0 first) ≤ change_count (row_visits_from job 0 all)
  first_changes rows first all h g =
      let begins : take rows all ≡ first =
      one_list (IsRowPath job part tol) one_row (take rows (lattice_ys (finish_lattice job))) (take rows all) first (first_of (IsRowPath job part tol) rows (lattice_ys (finish_lattice job)) all g) h in
      let whole : first ++ drop rows all ≡ all = ap (λ (paths : List (List Pt3)). paths ++ drop rows all) (sym begins) ∙ take-append-drop rows all in
      subst (λ (paths : List (List Pt3)). change_count (row_visits_from job 0 first) ≤ change_count (row_visits_from job 0 paths)) whole
      (subst (λ (visits : List Visit). change_count (row_visits_from job 0 first) ≤ change_count visits) (sym (rows_join job 0 first (drop rows all)))
      (more_changes (row_visits_from job 0 first) (row_visits_from job (0 + length first) (drop rows all))))

pub one_finish : (job : JobFields) (part : List Tri) (a b : List Visit) → AreFinishVisits job part a → AreFinishVisits job part b → a ≡ b
one_finish job part a b h g = by job.path_tol h g
  where
    by : (t : Option ℤ) → MatchOption t (AreNodeVisits job part a) (λ tol. AreRowVisits job part tol a) → MatchOption t (AreNodeVisits job part b) (λ tol. AreRowVisits job part tol b)
        → a ≡ b
    by None p q = one_at_nodes job part a b p q
    by (Some tol) p q = one_along_rows job part tol a b p q

pub one_waterlines : (job : JobFields) (part : List Tri) (a b : List (List Outline)) → AreWaterlines job part a → AreWaterlines job part b → a ≡ b
one_waterlines job part a b h g =
    one_list (λ z outlines. IsWaterline (tool_of job) part z (finish_lattice job) outlines)
    (λ z ours theirs p q. one_waterline joins_are_apart (tool_of job) part z (finish_lattice job) ours theirs p q) job.levels a b h g

pub one_level : (job : JobFields) (part : List Tri) (a b : List Visit) → AreLevelVisits job part a → AreLevelVisits job part b → a ≡ b
one_level job part a b h g =
    h.visits ∙ ap (λ (lines : List (List Outline)). level_visits_of job lines) (one_waterlines job part h.waterlines g.waterlines h.are g.are) ∙ sym g.visits

-- the link to a visit: the three kinds exclude each other
pub one_link : (job : JobFields) (part : List Tri) (done : List Move) (from : Pt3) (visit : Visit) (a b : List Move) → IsLink job part done from visit a → IsLink job part done from visit b → a ≡ b
one_link job part done from visit a b (inl h) (inl g) = h.none ∙ sym g.none
one_link job part done from visit a b (inl h) (inr (inl g)) = absurd (g.away h.there)
one_link job part done from visit a b (inl h) (inr (inr g)) = absurd (g.away h.there)
one_link job part done from visit a b (inr (inl h)) (inl g) = absurd (h.away g.there)
one_link job part done from visit a b (inr (inl h)) (inr (inl g)) = h.feed ∙ sym g.feed
one_link job part done from visit a b (inr (inl h)) (inr (inr g)) = absurd (g.barred h.free)
one_link job part done from visit a b (inr (inr h)) (inl g) = absurd (h.away g.there)
one_link job part done from visit a b (inr (inr h)) (inr (inl g)) = absurd (h.barred g.free)
one_link job part done from visit a b (inr (inr h)) (inr (inr g)) = h.round ∙ sym g.round

one_links : (job : JobFields) (part : List Tri) (done : List Move) (from : Pt3) (visits : List Visit) (ls ks : List (List Move)) → AreLinks job part done from visits ls
    → AreLinks job part done from visits ks → ls ≡ ks
one_links job part done from [] [] [] h g = refl
one_links job part done from [] [] (k ∷ ks) h g = absurd g
one_links job part done from [] (l ∷ ls) ks h g = absurd h
one_links job part done from (v ∷ vs) [] ks h g = absurd h
one_links job part done from (v ∷ vs) (l ∷ ls) [] h g = absurd g
one_links job part done from (v ∷ vs) (l ∷ ls) (k ∷ ks) h g =
    let same : l ≡ k = one_link job part done from v l k h.0 g.0 in
    let later : AreLinks job part (done ++ l) v.at vs ks = subst (λ (m : List Move). AreLinks job part (done ++ m) v.at vs ks) (sym same) g.1 in
    ap (λ (m : List Move). m ∷ ls) same ∙ ap (λ (ms : List (List Move)). k ∷ ms) (one_links job part (done ++ l) v.at vs ls ks h.1 later)

pub one_tour : (job : JobFields) (part : List Tri) (done : List Move) (from : Pt3) (visits : List Visit) (a b : List Move) → IsTour job part done from visits a
    → IsTour job part done from visits b → a ≡ b
one_tour job part done from visits a b h g =
    h.joined ∙ ap (λ (links : List (List Move)). flat_map (λ (link : List Move). link) links) (one_links job part done from visits h.links g.links h.are g.are) ∙ sym g.joined

-- the moves from home through the visits
one_way_through : (job : JobFields) (part : List Tri) (visits : List Visit) (a b : List Move) → GoesThrough job part visits a → GoesThrough job part visits b → a ≡ b
one_way_through job part visits a b h g =
    h.joined ∙ ap (λ (ms : List Move). head job ++ ms) (one_tour job part (head job) (home job) visits h.toured g.toured h.tour g.tour) ∙ sym g.joined

-- a job and a part have one list of visits at most
pub one_visits : (job : JobFields) (part : List Tri) (a b : List Visit) → ArePlanVisits job part a → ArePlanVisits job part b → a ≡ b
one_visits job part a b h g =
    h.all
    ∙ ap (λ (vs : List Visit). vs ++ h.level ++ h.finish) (one_rough job part h.rough g.rough h.are_rough g.are_rough)
    ∙ ap (λ (vs : List Visit). g.rough ++ vs ++ h.finish) (one_level job part h.level g.level h.are_level g.are_level)
    ∙ ap (λ (vs : List Visit). g.rough ++ g.level ++ vs) (one_finish job part h.finish g.finish h.are_finish g.are_finish)
    ∙ sym g.all

pub one_plan : OnePlan
one_plan job part a b h g =
    let visits : h.visits ≡ g.visits = one_visits job part h.visits g.visits h.are g.are in
    let tour : GoesThrough job part h.visits g.toured = subst (λ (vs : List Visit). GoesThrough job part vs g.toured) (sym visits) g.tour in
    let moves : h.toured ≡ g.toured = one_way_through job part h.visits h.toured g.toured h.tour tour in
    h.joined
    ∙ ap (λ (ms : List Move). ms ++ way_home job (last_place (home job) h.visits)) moves
    ∙ ap (λ (vs : List Visit). g.toured ++ way_home job (last_place (home job) vs)) visits
    ∙ sym g.joined
