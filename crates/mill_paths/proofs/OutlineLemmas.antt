-- The points of a job's waterlines are places that a plan may come to.
use Rattle.std.proofs.Common.{◌≡◌, ℕ, zero, suc, ◌+◌, ◌<◌, ◌≤◌, Bool, true, false, List, [], ◌∷◌, ◌++◌, map, take, get_or, inl, inr, refl, sym, subst, arith}
use Rattle.std.specs.Prelude.{if◌then◌else◌, nat_abs, ℤ, pos, ◌+ℤ◌, ◌-ℤ◌, ◌<ℤ◌, ◌≤ℤ◌, All, Contains, MatchBool}
use Rattle.std.specs.List.{AllZip, flat_map}
use Rattle.std.proofs.lemmas.Bool.{cases_lt, and_parts, ltb-true}
use Rattle.std.proofs.lemmas.Int.{ints}
use Rattle.std.proofs.lemmas.List.Elements.{All-append, All-contains_itself, All-head, All-map, All-nil, All-tail, All-take, All-weaker}
use Rattle.mill_base.specs.Lattices.{lattice_xs, lattice_ys}
use Rattle.mill_base.specs.Numbers.{Within}
use Rattle.mill_base.specs.Points.{point_at}
use Rattle.mill_base.specs.Tools.{ToolGouges}
use Rattle.mill_base.specs.Units.{greatest_of}
use Rattle.mill_base.specs.declared.lattice.Lattice.{Lattice}
use Rattle.mill_base.specs.declared.points.Pt3.{Pt3}
use Rattle.mill_base.specs.declared.points.Tri.{Tri}
use Rattle.mill_base.specs.declared.tool.Tool.{Tool}
use Rattle.mill_base.specs.declared.unit.Unit.{Unit}
use Rattle.mill_geom.specs.declared.touch.Axis.{Axis}
use Rattle.mill_geom.specs.declared.touch.Axis.TheVariants.{X, Y}
use Rattle.mill_job.specs.Jobs.{IsJob, IsLevel, tool_of}
use Rattle.mill_job.specs.declared.fields.JobFields.{JobFields}
use Rattle.mill_level.specs.Grids.{Grid, differ, edge, is_blocked, is_crossing, upper_column, upper_row}
use Rattle.mill_level.specs.Crossings.{Crossing, HasLastFree, TellsBlocked, on_the_way}
use Rattle.mill_level.specs.Chains.{AreChains, Chain, crossings_of, times, times_in}
use Rattle.mill_level.specs.Waterlines.{IsWaterline, Outline, outline}
use Rattle.mill_level.proofs.Members.{IsIn, member_counts}
use Rattle.mill_level.proofs.Positions.{positions_rise}
use Rattle.mill_level.proofs.SameChain.{IsOn, times_from_on}
use Rattle.mill_links.specs.declared.visit.Visit.{Visit}
use Rattle.mill_paths.specs.Lattices.{finish_lattice}
use Rattle.mill_paths.specs.Visits.{AreWaterlines, IsVisit, LevelVisitsAreFree, level_visits_of, outline_visits}
use Rattle.mill_paths.proofs.ToolLemmas.{gouges_lower}
use Rattle.mill_paths.proofs.VisitLemmas.{IsJobLattice, area_in_range, positions_within, wider_step}

in_contains : {X : Type 0} (x : X) (xs : List X) → Contains xs x → IsIn x xs
in_contains x [] h = let less = h.1 in absurd (omega arith)
in_contains x (y ∷ ys) (zero, less, e) = inl e
in_contains x (y ∷ ys) (suc k, less, e) = inr (in_contains x ys (k, omega (less, arith), e))

-- an edge of a crossing that stands in a chain of the grid crosses
crosses : (grid : Grid) (chains : List Chain) (chain : Chain) (c : Crossing) → AreChains grid chains → Contains chains chain → Contains (crossings_of chain) c
    → is_crossing grid c.edge ≡ true
crosses grid chains chain c are there on = by (is_crossing grid c.edge) (are.once c.edge)
  where
    stands : IsOn c.edge chain
    stands = record { crossing = c; member = in_contains c (crossings_of chain) on; edge = refl }

    some : 0 < times c.edge chains
    some = omega (arith, times_from_on c.edge chain stands, member_counts (times_in c.edge) chain chains (in_contains chain chains there))

    by : (b : Bool) → times c.edge chains ≡ (if b then 1 else 0) → b ≡ true
    by true e = refl
    by false e = absurd (omega (some, e, arith))

-- positions from one to another: where the first k are free and the other one is blocked, k doesn't come up to it
sooner : (Free : ℕ → Type 0) (k d : ℕ) → ((n : ℕ) → n ≤ k → Free n) → ¬ Free d → k < d
sooner Free k d free blocked = elim (cases_lt k d) [ inl less ↦ less | inr past ↦ absurd (blocked (free d past)) ]

between : (most : ℕ) (a b : ℤ) (k : ℕ) → Within most a → Within most b → a ≤ℤ b → k < nat_abs (b -ℤ a) → Within most (a +ℤ pos k) × Within most (b +ℤ (pos 0 -ℤ pos k))
between most a b k a_ok b_ok order less = let p = a_ok.within in let q = b_ok.within in (record { within = omega (arith, ints) }, record { within = omega (arith, ints) })

up_to : (a b : ℤ) → a ≤ℤ b → a +ℤ pos (nat_abs (b -ℤ a)) ≡ b
up_to a b order = omega (arith, ints)

down_to : (a b : ℤ) → a ≤ℤ b → b +ℤ (pos 0 -ℤ pos (nat_abs (b -ℤ a))) ≡ a
down_to a b order = omega (arith, ints)

-- on the way from the free one of two places to the blocked one, the last free position is in range
module _ (Gouged : Pt3 → Type 0) (place : ℤ → Pt3) (most : ℕ) (a b : ℤ) (a_ok : Within most a) (b_ok : Within most b) (order : a ≤ℤ b) where
  abbrev way : Bool → ℕ → Pt3
  way low k = if low then place (b +ℤ (pos 0 -ℤ pos k)) else place (a +ℤ pos k)

  record IsPosition (p : Pt3) : Type 0 where
    pub at : ℤ
    pub at_ok : Within most at
    pub is : p ≡ place at

  on_way : (low high : Bool) (k : ℕ) → differ low high ≡ true → MatchBool low (Gouged (place a)) (¬ Gouged (place a)) → MatchBool high (Gouged (place b)) (¬ Gouged (place b))
      → ((n : ℕ) → n ≤ k → ¬ Gouged (way low n)) → IsPosition (way low k)
  on_way true true k apart at_low at_high free = absurd (cc)
  on_way false false k apart at_low at_high free = absurd (cc)
  on_way true false k apart at_low at_high free =
      let less : k < nat_abs (b -ℤ a) =
      sooner (λ n. ¬ Gouged (way true n)) k (nat_abs (b -ℤ a)) free (λ none. none (subst (λ z. Gouged (place z)) (sym (down_to a b order)) at_low)) in
      record { at = b +ℤ (pos 0 -ℤ pos k); at_ok = (between most a b k a_ok b_ok order less).1; is = refl }
  on_way false true k apart at_low at_high free =
      let less : k < nat_abs (b -ℤ a) =
      sooner (λ n. ¬ Gouged (way false n)) k (nat_abs (b -ℤ a)) free (λ none. none (subst (λ z. Gouged (place z)) (sym (up_to a b order)) at_high)) in
      record { at = a +ℤ pos k; at_ok = (between most a b k a_ok b_ok order less).0; is = refl }

-- a place in the unit's range in x and y
record IsNear (unit : Unit) (p : Pt3) : Type 0 where
  pub x_ok : Within (greatest_of unit) p.x
  pub y_ok : Within (greatest_of unit) p.y

module _ (tool : Tool) (part : List Tri) (z : ℤ) (unit : Unit) (lattice : Lattice) (ok : IsJobLattice unit lattice) (grid : Grid) (tells : TellsBlocked tool part z lattice grid) where
  abbrev Gouged : Pt3 → Type 0
  Gouged p = ToolGouges tool (pos 1) p part

  abbrev node_x : ℕ → ℤ
  node_x i = get_or (lattice_xs lattice) i (pos 0)

  abbrev node_y : ℕ → ℤ
  node_y j = get_or (lattice_ys lattice) j (pos 0)

  x_within : (i : ℕ) → i < grid.columns → Within (greatest_of unit) (node_x i)
  x_within i inside =
      positions_within (greatest_of unit) lattice.area.x0 lattice.area.x1 lattice.step i ok.area_ok.x0_ok ok.area_ok.x1_ok ok.area_ok.x_order ok.step_ok.low (subst (λ n. i < n) tells.columns inside)

  y_within : (j : ℕ) → j < grid.rows → Within (greatest_of unit) (node_y j)
  y_within j inside =
      positions_within (greatest_of unit) lattice.area.y0 lattice.area.y1 lattice.step j ok.area_ok.y0_ok ok.area_ok.y1_ok ok.area_ok.y_order ok.step_ok.low (subst (λ n. j < n) tells.rows inside)

  weak : (a b : ℤ) → a <ℤ b → a ≤ℤ b
  weak a b h = omega (h, arith, ints)

  x_rises : (i : ℕ) → i + 1 < grid.columns → node_x i ≤ℤ node_x (i + 1)
  x_rises i inside =
      weak _ _ (positions_rise lattice.area.x0 lattice.area.x1 lattice.step ok.area_ok.x_order ok.step_ok.low i (i + 1) (pos 0) (omega arith) (subst (λ n. i + 1 < n) tells.columns inside))

  y_rises : (j : ℕ) → j + 1 < grid.rows → node_y j ≤ℤ node_y (j + 1)
  y_rises j inside =
      weak _ _ (positions_rise lattice.area.y0 lattice.area.y1 lattice.step ok.area_ok.y_order ok.step_ok.low j (j + 1) (pos 0) (omega arith) (subst (λ n. j + 1 < n) tells.rows inside))

  before : (n m : ℕ) → n + 1 < m → n < m
  before n m h = omega (h, arith)

  -- the last free position between two neighbouring nodes is in range
  on_edge : (axis : Axis) (i j k : ℕ) → upper_column (edge i j axis) < grid.columns → upper_row (edge i j axis) < grid.rows
      → differ (is_blocked grid i j) (is_blocked grid (upper_column (edge i j axis)) (upper_row (edge i j axis))) ≡ true
      → ((n : ℕ) → n ≤ k → ¬ Gouged (on_the_way lattice z grid (edge i j axis) n)) → IsNear unit (on_the_way lattice z grid (edge i j axis) k)
  on_edge X i j k column row apart free =
      let found = on_way Gouged (λ v. point_at v (node_y j) z) (greatest_of unit) (node_x i) (node_x (i + 1)) (x_within i (before i grid.columns column)) (x_within (i + 1) column) (x_rises i column)
      (is_blocked grid i j) (is_blocked grid (i + 1) j) k apart (tells.tells i j (before i grid.columns column) row) (tells.tells (i + 1) j column row) free in
      subst (λ p. IsNear unit p) (sym found.is) (record { x_ok = found.at_ok; y_ok = y_within j row })
  on_edge Y i j k column row apart free =
      let found = on_way Gouged (λ v. point_at (node_x i) v z) (greatest_of unit) (node_y j) (node_y (j + 1)) (y_within j (before j grid.rows row)) (y_within (j + 1) row) (y_rises j row)
      (is_blocked grid i j) (is_blocked grid i (j + 1)) k apart (tells.tells i j column (before j grid.rows row)) (tells.tells i (j + 1) column row) free in
      subst (λ p. IsNear unit p) (sym found.is) (record { x_ok = x_within i column; y_ok = found.at_ok })

  -- so is the place of a crossing
  crossing_within : (c : Crossing) → is_crossing grid c.edge ≡ true → HasLastFree tool part z lattice grid c → IsNear unit (point_at c.x c.y z)
  crossing_within c crosses last =
      let parts = and_parts _ _ crosses in
      let ends = and_parts _ _ parts.0 in
      subst (λ p. IsNear unit p) (sym last.place)
      (on_edge c.edge.axis c.edge.column c.edge.row last.k (ltb-true (upper_column c.edge) grid.columns ends.0) (ltb-true (upper_row c.edge) grid.rows ends.1) parts.1 last.free)

  -- and the tool doesn't gouge there, nor higher
  crossing_free : (c : Crossing) → HasLastFree tool part z lattice grid c → (higher : ℤ) → z ≤ℤ higher → ¬ Gouged (point_at c.x c.y higher)
  crossing_free c last higher over gouges =
      subst (λ p. ¬ Gouged p) (sym last.place) (last.free last.k (itself last.k)) (gouges_lower part c.x c.y z higher over tool gouges)
    where
      itself : (n : ℕ) → n ≤ n
      itself n = omega arith

-- what holds of each element that a list has holds of all
all_of : {X : Type 0} (P : X → Type 0) (xs : List X) → ((x : X) → Contains xs x → P x) → All P xs
all_of P xs each = All-weaker (Contains xs) P each xs (All-contains_itself xs)

-- what holds of all that each element gives holds of all together
pub all_given : {X A : Type 0} (P : A → Type 0) (f : X → List A) (xs : List X) → All (λ x. All P (f x)) xs → All P (flat_map f xs)
all_given P f [] each = All-nil P
all_given P f (x ∷ xs) each =
    All-append P (f x) (flat_map f xs) (All-head (λ y. All P (f y)) x xs each) (all_given P f xs (All-tail (λ y. All P (f y)) x xs each))

-- and so does what each element of a list gives that another list settles place by place
zip_given : {X Y A : Type 0} (P : A → Type 0) (Q : X → Type 0) (R : X → Y → Type 0) (f : Y → List A) → ((x : X) (y : Y) → Q x → R x y → All P (f y)) → (xs : List X) (ys : List Y)
    → All Q xs → AllZip R xs ys → All P (flat_map f ys)
zip_given P Q R f each [] [] h zips = All-nil P
zip_given P Q R f each [] (y ∷ ys) h zips = absurd zips
zip_given P Q R f each (x ∷ xs) [] h zips = absurd zips
zip_given P Q R f each (x ∷ xs) (y ∷ ys) h zips =
    All-append P (f y) (flat_map f ys) (each x y (All-head Q x xs h) zips.0) (zip_given P Q R f each xs ys (All-tail Q x xs h) zips.1)

module _ (job : JobFields) (part : List Tri) (ok : IsJob job) (z : ℤ) (low : job.floor ≤ℤ z) (high : z <ℤ job.top) where
  abbrev visit_of : Pt3 → Visit
  visit_of p = record { at = p; step = job.raster }

  lattice_ok : IsJobLattice job.unit (finish_lattice job)
  lattice_ok = record { area_ok = area_in_range job ok; step_ok = ok.raster_ok }

  z_within : Within (greatest_of job.unit) z
  z_within = by (greatest_of job.unit) job.floor job.top ok.floor_ok ok.top_ok low high
    where
      by : (most : ℕ) (a b : ℤ) → Within most a → Within most b → a ≤ℤ z → z <ℤ b → Within most z
      by most a b a_ok b_ok h g = let p = a_ok.within in let q = b_ok.within in record { within = omega (arith, ints) }

  -- a visit at a crossing of a waterline
  crossing_ok : (outlines : List Outline) (line : IsWaterline (tool_of job) part z (finish_lattice job) outlines) (chain : Chain) (c : Crossing) → Contains line.chains chain
      → Contains (crossings_of chain) c → IsVisit job part (visit_of (point_at c.x c.y z))
  crossing_ok outlines line chain c there on =
      let last = line.places chain c there on in
      let near = crossing_within (tool_of job) part z job.unit (finish_lattice job) lattice_ok line.grid line.tells c (crosses line.grid line.chains chain c line.are_chains there on) last in
      record {
        in_range = record { x_ok = near.x_ok; y_ok = near.y_ok; z_ok = z_within };
        kept = low;
        under_top = high;
        free = crossing_free (tool_of job) part z job.unit (finish_lattice job) lattice_ok line.grid line.tells c last;
        step_ok = wider_step job.raster ok.raster_ok;
      }

  -- the visits along a chain, and along all chains of a waterline
  outline_ok : (o : Outline) → All (λ p. IsVisit job part (visit_of p)) o.points → All (IsVisit job part) (outline_visits job.raster o)
  outline_ok o each =
      All-map (IsVisit job part) visit_of (o.points ++ (if o.closed then take 1 o.points else []))
      (All-append (λ p. IsVisit job part (visit_of p)) o.points (if o.closed then take 1 o.points else []) each (again o.closed))
    where
      again : (closed : Bool) → All (λ p. IsVisit job part (visit_of p)) (if closed then take 1 o.points else [])
      again true = All-take (λ p. IsVisit job part (visit_of p)) 1 o.points each
      again false = All-nil (λ p. IsVisit job part (visit_of p))

  pub waterline_ok : (outlines : List Outline) → IsWaterline (tool_of job) part z (finish_lattice job) outlines → All (IsVisit job part) (flat_map (outline_visits job.raster) outlines)
  waterline_ok outlines line =
      subst (λ (os : List Outline). All (IsVisit job part) (flat_map (outline_visits job.raster) os)) (sym line.points)
      (all_given (IsVisit job part) (outline_visits job.raster) (map (outline z) line.chains)
      (All-map (λ o. All (IsVisit job part) (outline_visits job.raster o)) (outline z) line.chains
      (all_of (λ chain. All (IsVisit job part) (outline_visits job.raster (outline z chain))) line.chains (λ chain there.
      outline_ok (outline z chain)
      (All-map (λ p. IsVisit job part (visit_of p)) (λ c. point_at c.x c.y z) (crossings_of chain)
      (all_of (λ c. IsVisit job part (visit_of (point_at c.x c.y z))) (crossings_of chain) (λ c on. crossing_ok outlines line chain c there on)))))))

-- so are those along all waterlines of a job
pub level_visits_ok : (job : JobFields) (part : List Tri) (waterlines : List (List Outline)) → IsJob job → AreWaterlines job part waterlines → All (IsVisit job part) (level_visits_of job waterlines)
level_visits_ok job part waterlines ok are =
    zip_given (IsVisit job part) (IsLevel job.floor job.top) (λ z outlines. IsWaterline (tool_of job) part z (finish_lattice job) outlines) (flat_map (outline_visits job.raster))
    (λ z outlines level line. waterline_ok job part ok z level.over_floor level.under_top outlines line) job.levels waterlines ok.levels_ok.within are

pub level_visits_are_free : LevelVisitsAreFree
level_visits_are_free job part list ok are =
    subst (λ (visits : List Visit). All (IsVisit job part) visits) (sym are.visits) (level_visits_ok job part are.waterlines ok are.are)
