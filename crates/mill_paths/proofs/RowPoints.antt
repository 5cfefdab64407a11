-- Each visit along the rows' paths is a place that a plan may come to.
use Rattle.std.proofs.Common.{◌≡◌, ℕ, ◌-◌, ◌*◌, ◌<◌, Bool, true, false, List, [], ◌∷◌, length, map, reverse, refl, sym, subst, arith}
use Rattle.std.specs.Prelude.{◌%◌, ◌==◌, if◌then◌else◌, cond, nat_abs, int_lt, ℤ, pos, ◌+ℤ◌, ◌-ℤ◌, ◌<ℤ◌, ◌≤ℤ◌, All}
use Rattle.std.specs.List.{AllZip}
use Rattle.std.proofs.lemmas.Int.{ints}
use Rattle.std.proofs.lemmas.List.{get_or-reverse, length-reverse}
use Rattle.std.proofs.lemmas.List.Elements.{All-append, All-cons, All-head, All-nil, All-tail}
use Rattle.mill_base.specs.Numbers.{Within, greater}
use Rattle.mill_base.specs.Points.{point_at}
use Rattle.mill_base.specs.Tools.{ToolGouges}
use Rattle.mill_base.specs.Units.{greatest_of}
use Rattle.mill_base.specs.declared.limits.TheConstants.{MAX_COORDINATE}
use Rattle.mill_base.specs.declared.points.Pt3.{Pt3}
use Rattle.mill_base.specs.declared.points.Tri.{Tri}
use Rattle.mill_base.specs.declared.tool.Tool.{Tool}
use Rattle.mill_base.proofs.Ranges.{within_of_unit}
use Rattle.mill_drop.specs.Drops.{IsDropHeight}
use Rattle.mill_drop.specs.Paths.{GoesOn, IsTip, KeepsTolerance}
use Rattle.mill_drop.proofs.PathLemmas.{path_keeps}
use Rattle.mill_job.specs.Jobs.{IsFrom, IsJob, tool_of}
use Rattle.mill_job.specs.declared.fields.JobFields.{JobFields}
use Rattle.mill_links.specs.declared.visit.Visit.{Visit}
use Rattle.mill_paths.specs.Visits.{IsVisit, in_turn, point_visit, point_visits, step_from, visits_after}
use Rattle.mill_paths.specs.RowPaths.{IsTurnedPath, row_y}
use Rattle.mill_paths.specs.inner.Rows.{IsInArea}

-- ---- where the points of a path lie

-- from a point on a path goes to greater x, up to its end
onward : (tool : Tool) (part : List Tri) (y x1 floor tol : ℤ) (a : Pt3) (points : List Pt3) → GoesOn tool part y x1 floor tol a points → a.x ≤ℤ x1
onward tool part y x1 floor tol a [] goes = same a.x x1 goes
  where
    same : (u v : ℤ) → u ≡ v → u ≤ℤ v
    same u v e = omega (e, arith, ints)
onward tool part y x1 floor tol a (b ∷ points) goes =
    past a.x b.x x1 goes.0.onward (onward tool part y x1 floor tol b points goes.1)
  where
    past : (u v w : ℤ) → u <ℤ v → v ≤ℤ w → u ≤ℤ w
    past u v w h e = omega (h, e, arith, ints)

module _ (job : JobFields) where
  inside_on : (tool : Tool) (part : List Tri) (y floor tol : ℤ) (a : Pt3) (points : List Pt3) → GoesOn tool part y job.area.x1 floor tol a points
      → job.area.x0 ≤ℤ a.x → All (IsInArea job) points
  inside_on tool part y floor tol a [] goes from = All-nil (IsInArea job)
  inside_on tool part y floor tol a (b ∷ points) goes from =
      let here : job.area.x0 ≤ℤ b.x = past job.area.x0 a.x b.x from goes.0.onward in
      All-cons (IsInArea job) b points
      (record { from_x0 = here; to_x1 = onward tool part y job.area.x1 floor tol b points goes.1 })
      (inside_on tool part y floor tol b points goes.1 here)
    where
      past : (u v w : ℤ) → u ≤ℤ v → v <ℤ w → u ≤ℤ w
      past u v w h e = omega (h, e, arith, ints)

  -- the points of a row's path lie in the job's area
  pub path_inside : (tool : Tool) (part : List Tri) (y floor tol : ℤ) (points : List Pt3) → KeepsTolerance tool part y job.area.x0 job.area.x1 floor tol points
      → All (IsInArea job) points
  path_inside tool part y floor tol points keeps =
      subst (λ ps. All (IsInArea job) ps) (sym keeps.all)
      (All-cons (IsInArea job) keeps.first keeps.rest
      (record { from_x0 = start job.area.x0 keeps.first.x keeps.start; to_x1 = onward tool part y job.area.x1 floor tol keeps.first keeps.rest keeps.legs })
      (inside_on tool part y floor tol keeps.first keeps.rest keeps.legs (start job.area.x0 keeps.first.x keeps.start)))
    where
      start : (u v : ℤ) → v ≡ u → u ≤ℤ v
      start u v e = omega (e, arith, ints)

-- a point in the job's area is in range in x
pub x_within : (job : JobFields) (p : Pt3) → IsJob job → IsInArea job p → Within MAX_COORDINATE p.x
x_within job p ok at =
    between job.area.x0 p.x job.area.x1 (within_of_unit job.unit job.area.x0 ok.x0_ok) (within_of_unit job.unit job.area.x1 ok.x1_ok) at.from_x0 at.to_x1
  where
    between : (a b c : ℤ) → Within MAX_COORDINATE a → Within MAX_COORDINATE c → a ≤ℤ b → b ≤ℤ c → Within MAX_COORDINATE b
    between a b c h e low high = let low_ok = h.within in let high_ok = e.within in record { within = omega (low_ok, high_ok, low, high, arith, ints) }

-- what holds of all points holds of them the other way round, and in turn
pub all_reverse : {X : Type 0} (P : X → Type 0) (xs : List X) → All P xs → All P (reverse xs)
all_reverse P xs each =
    λ k d inside.
    let less : k < length xs = subst (λ n. k < n) (length-reverse xs) inside in
    subst P (sym (get_or-reverse xs k d less)) (each (length xs - 1 - k) d (mirrored (length xs) k less))
  where
    mirrored : (n k : ℕ) → k < n → n - 1 - k < n
    mirrored n k h = omega arith

pub all_in_turn : (P : Pt3 → Type 0) (row : ℕ) (points : List Pt3) → All P points → All P (in_turn row points)
all_in_turn P row points each = by (row % 2 == 0)
  where
    by : (even : Bool) → All P (if even then points else reverse points)
    by true = each
    by false = all_reverse P points each

-- so those of a path in its turn lie in the job's area
turned_inside : (job : JobFields) (part : List Tri) (tol : ℤ) (row : ℕ) (points : List Pt3) → IsJob job → IsTurnedPath job part tol row points → All (IsInArea job) points
turned_inside job part tol row points ok turned =
    let keeps : KeepsTolerance (tool_of job) part (row_y job row) job.area.x0 job.area.x1 job.floor tol turned.path =
    path_keeps (tool_of job) part (row_y job row) job.area.x0 job.area.x1 job.floor tol turned.path ok.x_order turned.is in
    subst (λ ps. All (IsInArea job) ps) (sym turned.turned)
    (all_in_turn (IsInArea job) row turned.path (path_inside job (tool_of job) part (row_y job row) job.floor tol turned.path keeps))

-- and so do those of all these paths
pub all_inside : {V : Type 0} (items : V → List Pt3) (job : JobFields) (part : List Tri) (tol : ℤ) (rows : List ℕ) (paths : List V) → IsJob job
    → AllZip (IsTurnedPath job part tol) rows (map items paths) → All (λ path. All (IsInArea job) (items path)) paths
all_inside items job part tol [] [] ok are = All-nil (λ path. All (IsInArea job) (items path))
all_inside items job part tol [] (path ∷ paths) ok are = absurd are
all_inside items job part tol (row ∷ rows) [] ok are = absurd are
all_inside items job part tol (row ∷ rows) (path ∷ paths) ok are =
    All-cons (λ path. All (IsInArea job) (items path)) path paths (turned_inside job part tol row (items path) ok are.0) (all_inside items job part tol rows paths ok are.1)

-- ---- the visits there

-- a step that is the greater of a raster and a way in the unit's range
step_ok : (raster d : ℤ) → (pos 1) ≤ℤ raster → raster ≤ℤ (pos 10000) → d ≤ℤ (pos (2 * MAX_COORDINATE)) → IsFrom (pos 1) (pos (2 * MAX_COORDINATE)) (greater raster d)
step_ok raster d some few short = by (int_lt raster d) refl
  where
    over : int_lt raster d ≡ true → (pos 1) ≤ℤ d
    over e = omega (some, e, arith, ints)

    by : (t : Bool) → int_lt raster d ≡ t → IsFrom (pos 1) (pos (2 * MAX_COORDINATE)) (cond t d raster)
    by true e = record { low = over e; high = short }
    by false e = record { low = some; high = omega (few, arith, ints) }

-- how far two points of an area lie from each other
way_ok : (x0 x1 u v : ℤ) → Within MAX_COORDINATE x0 → Within MAX_COORDINATE x1 → x0 ≤ℤ u → u ≤ℤ x1 → x0 ≤ℤ v → v ≤ℤ x1 → (pos (nat_abs (u -ℤ v))) ≤ℤ (pos (2 * MAX_COORDINATE))
way_ok x0 x1 u v low high a b c d = let p = low.within in let q = high.within in omega (p, q, a, b, c, d, arith, ints)

-- a point at its drop height over the row
record IsRowTip (job : JobFields) (part : List Tri) (y : ℤ) (p : Pt3) : Type 0 where
  tip : IsTip (tool_of job) part y job.floor p
  inside : IsInArea job p

module _ (job : JobFields) (part : List Tri) (y : ℤ) (ok : IsJob job) (y_ok : Within (greatest_of job.unit) y) where
  raised_ok : (before p : Pt3) → IsInArea job before → IsRowTip job part y p → (p.z +ℤ job.lift) <ℤ job.top
      → IsVisit job part (record { at = point_at p.x p.y (p.z +ℤ job.lift); step = step_from job before p })
  raised_ok before p from tip under =
      let drop : IsDropHeight (tool_of job) part p.x y job.floor p.z = tip.tip.height in
      let over : p.z ≤ℤ (p.z +ℤ job.lift) = raised p.z job.lift ok.lift_ok.low in
      let kept : job.floor ≤ℤ (p.z +ℤ job.lift) = upto job.floor p.z (p.z +ℤ job.lift) drop.kept over in
      record {
        in_range = record {
          x_ok = between (greatest_of job.unit) job.area.x0 p.x job.area.x1 ok.x0_ok ok.x1_ok tip.inside.from_x0 tip.inside.to_x1;
          y_ok = subst (λ (v : ℤ). Within (greatest_of job.unit) v) (sym tip.tip.on_row) y_ok;
          z_ok = below (greatest_of job.unit) job.floor (p.z +ℤ job.lift) job.top ok.floor_ok ok.top_ok kept under;
        };
        kept = kept;
        under_top = under;
        free = λ higher h. subst (λ (v : ℤ). ¬ ToolGouges (tool_of job) (pos 1) (point_at p.x v higher) part) (sym tip.tip.on_row) (drop.free higher (upto p.z (p.z +ℤ job.lift) higher over h));
        step_ok = step_ok job.raster (pos (nat_abs (p.x -ℤ before.x))) ok.raster_ok.low ok.raster_ok.high
            (way_ok job.area.x0 job.area.x1 p.x before.x (within_of_unit job.unit job.area.x0 ok.x0_ok) (within_of_unit job.unit job.area.x1 ok.x1_ok)
            tip.inside.from_x0 tip.inside.to_x1 from.from_x0 from.to_x1);
      }
    where
      raised : (z lift : ℤ) → (pos 0) ≤ℤ lift → z ≤ℤ (z +ℤ lift)
      raised z lift h = omega (h, arith, ints)

      upto : (a b c : ℤ) → a ≤ℤ b → b ≤ℤ c → a ≤ℤ c
      upto a b c h e = omega (h, e, arith, ints)

      between : (most : ℕ) (a b c : ℤ) → Within most a → Within most c → a ≤ℤ b → b ≤ℤ c → Within most b
      between most a b c h e low high = let low_ok = h.within in let high_ok = e.within in record { within = omega (low_ok, high_ok, low, high, arith, ints) }

      below : (most : ℕ) (a b c : ℤ) → Within most a → Within most c → a ≤ℤ b → b <ℤ c → Within most b
      below most a b c h e low high = let low_ok = h.within in let high_ok = e.within in record { within = omega (low_ok, high_ok, low, high, arith, ints) }

  -- the visit at one point, where there is one
  point_ok : (before p : Pt3) → IsInArea job before → IsRowTip job part y p → All (IsVisit job part) (point_visit job before p)
  point_ok before p from tip = by (int_lt (p.z +ℤ job.lift) job.top) refl
    where
      visit : Visit
      visit = record { at = point_at p.x p.y (p.z +ℤ job.lift); step = step_from job before p }

      under : (z top : ℤ) → int_lt z top ≡ true → z <ℤ top
      under z top e = omega (e, arith, ints)

      by : (t : Bool) → int_lt (p.z +ℤ job.lift) job.top ≡ t → All (IsVisit job part) (if t then visit ∷ [] else [])
      by true e = All-cons (IsVisit job part) visit [] (raised_ok before p from tip (under (p.z +ℤ job.lift) job.top e)) (All-nil (IsVisit job part))
      by false e = All-nil (IsVisit job part)

  after_ok : (before : Pt3) (points : List Pt3) → IsInArea job before → All (IsRowTip job part y) points → All (IsVisit job part) (visits_after job before points)
  after_ok before [] from tips = All-nil (IsVisit job part)
  after_ok before (p ∷ points) from tips =
      let tip : IsRowTip job part y p = All-head (IsRowTip job part y) p points tips in
      All-append (IsVisit job part) (point_visit job before p) (visits_after job p points) (point_ok before p from tip)
      (after_ok p points tip.inside (All-tail (IsRowTip job part y) p points tips))

  -- those at all points
  points_ok : (points : List Pt3) → All (IsRowTip job part y) points → All (IsVisit job part) (point_visits job points)
  points_ok [] tips = All-nil (IsVisit job part)
  points_ok (p ∷ points) tips = after_ok p (p ∷ points) (All-head (IsRowTip job part y) p points tips).inside tips

  -- and those along a path, in its turn
  pub turned_ok : (tol : ℤ) (row : ℕ) (points : List Pt3) → KeepsTolerance (tool_of job) part y job.area.x0 job.area.x1 job.floor tol points
      → All (IsVisit job part) (point_visits job (in_turn row points))
  turned_ok tol row points keeps =
      points_ok (in_turn row points)
      (all_in_turn (IsRowTip job part y) row points
      (λ k d inside. record { tip = keeps.tips k d inside; inside = path_inside job (tool_of job) part y job.floor tol points keeps k d inside }))
