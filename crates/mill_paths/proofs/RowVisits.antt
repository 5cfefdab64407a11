-- The visits along the points of a row's path as they are added, and those of the rows one after the other.
use Rattle.std.proofs.Common.{◌≡◌, ℕ, zero, suc, ◌+◌, ◌<◌, ◌≤◌, Bool, true, false, List, [], ◌∷◌, ◌++◌, length, take, drop, get_or, refl, sym, ap, ◌∙◌, subst, arith}
use Rattle.std.specs.Prelude.{if◌then◌else◌, int_lt, ℤ, pos, ◌+ℤ◌, slice_get, Some, None}
use Rattle.std.specs.List.{AllZip, flat_map, range_with_len}
use Rattle.std.proofs.lemmas.List.{append_assoc, append-nil, length-take-le, take_all, take_more, take-append-drop}
use Rattle.std.proofs.lemmas.Slice.Zip.{AllZip-long, all_zipped_more}
use Rattle.mill_base.specs.Lattices.{lattice_ys}
use Rattle.mill_base.specs.Points.{point_at}
use Rattle.mill_base.specs.declared.points.Pt3.{Pt3}
use Rattle.mill_base.specs.declared.points.Tri.{Tri}
use Rattle.mill_job.specs.declared.fields.JobFields.{JobFields}
use Rattle.mill_links.specs.declared.visit.Visit.{Visit}
use Rattle.mill_paths.specs.Lattices.{finish_lattice}
use Rattle.mill_paths.specs.Limits.{IsListFault, change_count, most_changes}
use Rattle.mill_paths.specs.Visits.{AreRowVisits, HaveManyRowVisits, IsRowPath, in_turn, point_visit, point_visits, row_visits_from, step_from, visits_after}
use Rattle.mill_paths.specs.declared.fault.PathFault.{PathFault}
use Rattle.mill_paths.specs.declared.path.Path.TheVariants.{Finish}
use Rattle.mill_paths.specs.inner.Paths.{path_height}
use Rattle.mill_paths.specs.RowPaths.{IsTurnedPath, row_y}
use Rattle.mill_paths.specs.inner.Rows.{AreFirstVisits, last_point}
use Rattle.mill_paths.proofs.Changes.{fault_stays}

-- ---- along one row

last_more : (before : Pt3) (points : List Pt3) (p : Pt3) → last_point before (points ++ p ∷ []) ≡ p
last_more before [] p = refl
last_more before (q ∷ points) p = last_more q points p

module _ (job : JobFields) where
  -- the visits at points and at others after them
  visits_join : (before : Pt3) (ps qs : List Pt3) → visits_after job before (ps ++ qs) ≡ visits_after job before ps ++ visits_after job (last_point before ps) qs
  visits_join before [] qs = refl
  visits_join before (p ∷ ps) qs =
      ap (λ vs. point_visit job before p ++ vs) (visits_join p ps qs)
      ∙ sym (append_assoc (point_visit job before p) (visits_after job p ps) (visits_after job (last_point p ps) qs))

  -- a list to which the visit at the point of number k is added
  pub point_more : (before last : Pt3) (points : List Pt3) (d : Pt3) (k : ℕ) (start old new : List Visit) → k < length points → last ≡ last_point before (take k points)
      → old ≡ start ++ visits_after job before (take k points) → new ≡ old ++ point_visit job last (get_or points k d)
      → new ≡ start ++ visits_after job before (take (k + 1) points)
  point_more before last points d k start old new inside at so_far more =
      let done : List Visit = visits_after job before (take k points) in
      let here : List Visit = point_visit job (last_point before (take k points)) (get_or points k d) in
      more
      ∙ ap (λ (p : Pt3). old ++ point_visit job p (get_or points k d)) at
      ∙ ap (λ vs. vs ++ here) so_far
      ∙ append_assoc start done here
      ∙ ap (λ vs. start ++ (done ++ vs)) (sym (append-nil here))
      ∙ ap (λ vs. start ++ vs) (sym (visits_join before (take k points) (get_or points k d ∷ [])))
      ∙ ap (λ ps. start ++ visits_after job before ps) (sym (take_more points k d inside))

  -- and the point that comes last then
  pub last_is : (before : Pt3) (points : List Pt3) (d : Pt3) (k : ℕ) → k < length points → get_or points k d ≡ last_point before (take (k + 1) points)
  last_is before points d k inside =
      sym (last_more before (take k points) (get_or points k d)) ∙ ap (λ ps. last_point before ps) (sym (take_more points k d inside))

  -- a list that is too long with it is so with those at all points
  pub point_fault : (before last : Pt3) (points : List Pt3) (d : Pt3) (k : ℕ) (start old : List Visit) (fault : PathFault) → k < length points
      → last ≡ last_point before (take k points) → old ≡ start ++ visits_after job before (take k points)
      → IsListFault (old ++ point_visit job last (get_or points k d)) fault → IsListFault (start ++ visits_after job before points) fault
  point_fault before last points d k start old fault inside at so_far h =
      let upto : List Pt3 = take (k + 1) points in
      let rest : List Pt3 = drop (k + 1) points in
      let here : old ++ point_visit job last (get_or points k d) ≡ start ++ visits_after job before upto =
      point_more before last points d k start old (old ++ point_visit job last (get_or points k d)) inside at so_far refl in
      let whole : visits_after job before upto ++ visits_after job (last_point before upto) rest ≡ visits_after job before points =
      sym (visits_join before upto rest) ∙ ap (λ ps. visits_after job before ps) (take-append-drop (k + 1) points) in
      subst (λ vs. IsListFault vs fault) (append_assoc start (visits_after job before upto) (visits_after job (last_point before upto) rest) ∙ ap (λ vs. start ++ vs) whole)
      (fault_stays (start ++ visits_after job before upto) (visits_after job (last_point before upto) rest) fault (subst (λ vs. IsListFault vs fault) here h))

  -- the visits at points are those from the first of them on
  pub from_first : (points : List Pt3) (first : Pt3) → slice_get points 0 ≡ Some first → point_visits job points ≡ visits_after job first points
  from_first [] first is = absurd (cc)
  from_first (p ∷ points) first is = let same : p ≡ first = cc in ap (λ (q : Pt3). visits_after job q (p ∷ points)) same

  -- the visit at a point, where the finishing path comes there, and where it doesn't
  abbrev visit_with : ℤ → ℤ → ℤ → ℤ → List Visit
  visit_with x y z step = record { at = point_at x y z; step = step } ∷ []

  raised : (before p : Pt3) (z : ℤ) (t : Bool) → Some z ≡ (if t then Some (p.z +ℤ job.lift) else None)
      → visit_with p.x p.y z (step_from job before p) ≡ (if t then visit_with p.x p.y (p.z +ℤ job.lift) (step_from job before p) else [])
  raised before p z true is = let same : z ≡ p.z +ℤ job.lift = cc in ap (λ (h : ℤ). visit_with p.x p.y h (step_from job before p)) same
  raised before p z false is = absurd (cc)

  pub point_there : (before p : Pt3) (x y z step : ℤ) → x ≡ p.x → y ≡ p.y → step ≡ step_from job before p → Some z ≡ path_height job Finish p.z
      → visit_with x y z step ≡ point_visit job before p
  point_there before p x y z step same_x same_y same_step is =
      (λ i. visit_with (same_x i) (same_y i) z (same_step i)) ∙ raised before p z (int_lt (p.z +ℤ job.lift) job.top) is

  not_raised : (before p : Pt3) (t : Bool) → None ≡ (if t then Some (p.z +ℤ job.lift) else None)
      → [] ≡ (if t then visit_with p.x p.y (p.z +ℤ job.lift) (step_from job before p) else [])
  not_raised before p true is = absurd (cc)
  not_raised before p false is = refl

  pub point_nowhere : (before p : Pt3) → None ≡ path_height job Finish p.z → [] ≡ point_visit job before p
  point_nowhere before p is = not_raised before p (int_lt (p.z +ℤ job.lift) job.top) is

  -- ---- row after row

  -- the visits of rows and of others after them
  pub rows_join : (row : ℕ) (ps qs : List (List Pt3)) → row_visits_from job row (ps ++ qs) ≡ row_visits_from job row ps ++ row_visits_from job (row + length ps) qs
  rows_join row [] qs = ap (λ n. row_visits_from job n qs) (plain row)
    where
      plain : (n : ℕ) → n ≡ n + 0
      plain n = omega arith
  rows_join row (p ∷ ps) qs =
      let here : List Visit = point_visits job (in_turn row p) in
      ap (λ vs. here ++ vs) (rows_join (row + 1) ps qs)
      ∙ sym (append_assoc here (row_visits_from job (row + 1) ps) (row_visits_from job (row + 1 + length ps) qs))
      ∙ ap (λ n. (here ++ row_visits_from job (row + 1) ps) ++ row_visits_from job n qs) (shift row (length ps))
    where
      shift : (n m : ℕ) → n + 1 + m ≡ n + suc m
      shift n m = omega arith

  module _ (part : List Tri) (tol : ℤ) where
    -- at first there is none
    pub first_none : (list : List Visit) → list ≡ [] → AreFirstVisits job part tol 0 list
    first_none list none = record { paths = []; are = tt; visits = none }

    -- the next row has the visits along its path
    first_more : (row : ℕ) (list : List Visit) (points : List Pt3) → row < length (lattice_ys (finish_lattice job)) → AreFirstVisits job part tol row list
        → IsTurnedPath job part tol row points → AreFirstVisits job part tol (row + 1) (list ++ point_visits job points)
    first_more row list points inside first next =
        let ys : List ℤ = lattice_ys (finish_lattice job) in
        let counted : length first.paths ≡ row = AllZip-long (IsRowPath job part tol) (take row ys) first.paths first.are ∙ length-take-le row ys (upto row (length ys) inside) in
        record {
          paths = first.paths ++ next.path ∷ [];
          are = subst (λ zs. AllZip (IsRowPath job part tol) zs (first.paths ++ next.path ∷ [])) (sym (take_more ys row (pos 0) inside))
              (all_zipped_more (IsRowPath job part tol) (take row ys) first.paths (row_y job row) next.path first.are next.is);
          visits =
              ap (λ vs. vs ++ point_visits job points) first.visits
              ∙ ap (λ ps. row_visits_from job 0 first.paths ++ point_visits job ps) (next.turned ∙ ap (λ n. in_turn n next.path) (sym counted ∙ plain (length first.paths)))
              ∙ ap (λ vs. row_visits_from job 0 first.paths ++ vs) (sym (append-nil (point_visits job (in_turn (0 + length first.paths) next.path))))
              ∙ sym (rows_join 0 first.paths (next.path ∷ []));
        }
      where
        upto : (a b : ℕ) → a < b → a ≤ b
        upto a b h = omega arith

        plain : (n : ℕ) → n ≡ 0 + n
        plain n = omega arith

    -- and so have the next rows
    pub first_joined : (n row : ℕ) (list : List Visit) (paths : List (List Pt3)) → row + n ≤ length (lattice_ys (finish_lattice job)) → AreFirstVisits job part tol row list
        → AllZip (IsTurnedPath job part tol) (range_with_len row n) paths → AreFirstVisits job part tol (row + n) (list ++ flat_map (point_visits job) paths)
    first_joined zero row list [] inside first next =
        subst (λ m. AreFirstVisits job part tol m (list ++ [])) (plain row) (subst (λ vs. AreFirstVisits job part tol row vs) (sym (append-nil list)) first)
      where
        plain : (n : ℕ) → n ≡ n + 0
        plain n = omega arith
    first_joined zero row list (points ∷ paths) inside first next = absurd next
    first_joined (suc n) row list [] inside first next = absurd next
    first_joined (suc n) row list (points ∷ paths) inside first next =
        subst (λ m. AreFirstVisits job part tol m (list ++ flat_map (point_visits job) (points ∷ paths))) (shift row n)
        (subst (λ vs. AreFirstVisits job part tol (row + 1 + n) vs) (append_assoc list (point_visits job points) (flat_map (point_visits job) paths))
        (first_joined n (row + 1) (list ++ point_visits job points) paths (more row n (length (lattice_ys (finish_lattice job))) inside)
        (first_more row list points (less row n (length (lattice_ys (finish_lattice job))) inside) first next.0) next.1))
      where
        shift : (a b : ℕ) → a + 1 + b ≡ a + suc b
        shift a b = omega arith

        more : (a b c : ℕ) → a + suc b ≤ c → a + 1 + b ≤ c
        more a b c h = omega arith

        less : (a b c : ℕ) → a + suc b ≤ c → a < c
        less a b c h = omega arith

    -- too many visits along the first rows are too many
    pub many_first : (rows : ℕ) (list : List Visit) → AreFirstVisits job part tol rows list → most_changes < change_count list → HaveManyRowVisits job part tol
    many_first rows list first many = record {
      rows = rows;
      paths = first.paths;
      are = first.are;
      many = subst (λ (visits : List Visit). most_changes < change_count visits) first.visits many;
    }

    -- where these are all the rows, the visits are those of the rows
    pub all_rows : (rows : ℕ) (list : List Visit) → length (lattice_ys (finish_lattice job)) ≤ rows → AreFirstVisits job part tol rows list → AreRowVisits job part tol list
    all_rows rows list all first = record {
      paths = first.paths;
      are = subst (λ zs. AllZip (IsRowPath job part tol) zs first.paths) (take_all rows (lattice_ys (finish_lattice job)) all) first.are;
      visits = first.visits;
    }
