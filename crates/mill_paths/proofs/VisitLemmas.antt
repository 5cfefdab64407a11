-- Each visit of a plan is in the unit's range, between floor and top, and free of the part.
use Rattle.std.proofs.Common.{◌≡◌, ◌⊎◌, inl, inr, negsuc, ℕ, zero, suc, ◌+◌, ◌*◌, ◌/◌, ◌%◌, ◌<◌, Bool, true, false, List, [], ◌∷◌, length, get_or, min, refl, sym, ◌∙◌, subst, mod-lt, arith}
use Rattle.std.specs.Prelude.{nat_abs, int_lt, int_le, ℤ, pos, ◌+ℤ◌, ◌-ℤ◌, ◌<ℤ◌, ◌≤ℤ◌, All, Option, None, Some, MatchOption}
use Rattle.std.specs.List.{AllZip, flat_map, range_with_len}
use Rattle.std.specs.Int.{div_ceil}
use Rattle.std.proofs.lemmas.Int.{ints}
use Rattle.std.proofs.lemmas.List.{get_or_default}
use Rattle.std.proofs.lemmas.List.Elements.{All-append, All-cons, All-head, All-nil, All-tail}
use Rattle.std.proofs.lemmas.List.FromFn.{length-range_with_len, get_or-range_with_len}
use Rattle.mill_base.specs.Numbers.{Within}
use Rattle.mill_base.specs.Units.{greatest_of}
use Rattle.mill_base.specs.declared.limits.TheConstants.{MAX_COORDINATE}
use Rattle.mill_base.specs.Lattices.{lattice_positions, lattice_xs, lattice_ys, nodes_of, node_at}
use Rattle.mill_base.specs.declared.lattice.Lattice.{Lattice}
use Rattle.mill_base.specs.declared.points.Pt3.{Pt3}
use Rattle.mill_base.specs.declared.points.Tri.{Tri}
use Rattle.mill_base.specs.declared.unit.Unit.{Unit}
use Rattle.mill_drop.specs.Drops.{IsDropHeight}
use Rattle.mill_drop.specs.Maps.{AreDropHeights, IsHeightAt}
use Rattle.mill_drop.proofs.PathLemmas.{path_keeps}
use Rattle.mill_base.proofs.NodeLemmas.{length-rows, get_or-rows, row_within, length-positions, get_or-positions}
use Rattle.mill_job.specs.Jobs.{IsFrom, IsJob, tool_of}
use Rattle.mill_job.specs.Tables.{IsArea}
use Rattle.mill_job.specs.declared.fields.JobFields.{JobFields}
use Rattle.mill_links.specs.declared.visit.Visit.{Visit}
use Rattle.mill_paths.specs.Lattices.{finish_lattice, rough_lattice, zigzag_of, zigzag_row}
use Rattle.mill_paths.specs.Visits.{FinishVisitsAreFree, RoughVisitsAreFree, AreNodeVisits, AreRowVisits, IsRowPath, IsVisit, in_turn, point_visits, row_visits_from, finish_visit, finish_visits_of, height_at, layer_heights, rough_visit, rough_visits_of, rough_visits_on, visit_at, visit_if}
use Rattle.mill_paths.proofs.Adding.{flat_map-nested}
use Rattle.mill_paths.proofs.RowPoints.{turned_ok}
use Rattle.mill_paths.proofs.LayerLemmas.{IsLayerHeight, is_layer_height, no_layers}
use Rattle.mill_paths.proofs.ZigzagLemmas.{length-zigzag_row, number_within}

-- what holds place by place of two lists holds at each number
pub AllZip-at : {A B : Type 0} (R : A → B → Type 0) (xs : List A) (ys : List B) (k : ℕ) (d : A) (e : B) → AllZip R xs ys → k < length xs → R (get_or xs k d) (get_or ys k e)
AllZip-at R [] ys k d e h inside = absurd (omega arith)
AllZip-at R (x ∷ xs) [] k d e h inside = absurd h
AllZip-at R (x ∷ xs) (y ∷ ys) zero d e h inside = h.0
AllZip-at R (x ∷ xs) (y ∷ ys) (suc k) d e h inside = AllZip-at R xs ys k d e h.1 (omega arith)

-- what holds of all that each item gives holds of all together
pub All-flat_map : {X A : Type 0} (P : A → Type 0) (f : X → List A) (xs : List X) (d : X) → ((k : ℕ) → k < length xs → All P (f (get_or xs k d))) → All P (flat_map f xs)
All-flat_map P f [] d each = All-nil P
All-flat_map P f (x ∷ xs) d each =
    All-append P (f x) (flat_map f xs) (each 0 (omega arith)) (All-flat_map P f xs d (λ k inside. each (suc k) (omega arith)))

-- the positions of a lattice along an axis are some, and in range
some_positions : (lo hi step : ℤ) → 0 < length (lattice_positions lo hi step)
some_positions lo hi step =
    subst (λ n. 0 < n) (sym (length-positions lo hi step)) (more (div_ceil (nat_abs (hi -ℤ lo)) (nat_abs step)))
  where
    more : (n : ℕ) → 0 < n + 1
    more n = omega arith

between_ends : (most : ℕ) (lo hi : ℤ) (n : ℕ) → Within most lo → Within most hi → lo ≤ℤ hi → Within most (lo +ℤ pos (min n (nat_abs (hi -ℤ lo))))
between_ends most lo hi n l h order =
    let a = l.within in
    let b = h.within in
    record { within = omega (arith, ints) }

pub positions_within : (most : ℕ) (lo hi step : ℤ) (k : ℕ) → Within most lo → Within most hi → lo ≤ℤ hi → (pos 1) ≤ℤ step → k < length (lattice_positions lo hi step)
    → Within most (get_or (lattice_positions lo hi step) k (pos 0))
positions_within most lo hi step k low high order some inside =
    subst (λ z. Within most z) (sym (get_or-positions lo hi step k order some inside)) (between_ends most lo hi (k * nat_abs step) low high order)

-- the node of each number is in the unit's range
record IsPlace (unit : Unit) (node : ℤ × ℤ) : Type 0 where
  pub x_ok : Within (greatest_of unit) node.0
  pub y_ok : Within (greatest_of unit) node.1

-- a lattice over the area of a job in this unit
pub record IsJobLattice (unit : Unit) (lattice : Lattice) : Type 0 where
  pub area_ok : IsArea unit lattice.area
  pub step_ok : IsFrom (pos 1) (pos 10000) lattice.step

pub area_in_range : (job : JobFields) → IsJob job → IsArea job.unit job.area
area_in_range job ok = record { x0_ok = ok.x0_ok; y0_ok = ok.y0_ok; x1_ok = ok.x1_ok; y1_ok = ok.y1_ok; x_order = ok.x_order; y_order = ok.y_order }

node_within : (unit : Unit) (lattice : Lattice) (number : ℕ) → IsJobLattice unit lattice → number < length (nodes_of lattice) → IsPlace unit (node_at lattice number)
node_within unit lattice number ok inside =
    let xs : List ℤ = lattice_xs lattice in
    let ys : List ℤ = lattice_ys lattice in
    let some : 0 < length xs = some_positions lattice.area.x0 lattice.area.x1 lattice.step in
    let product : number < length xs * length ys = subst (λ n. number < n) (length-rows xs ys) inside in
    let is : node_at lattice number ≡ (get_or xs (number % length xs) (pos 0), get_or ys (number / length xs) (pos 0)) = get_or-rows xs ys number (pos 0, pos 0) some product in
    subst (λ node. IsPlace unit node) (sym is) (record {
      x_ok = positions_within (greatest_of unit) lattice.area.x0 lattice.area.x1 lattice.step (number % length xs) ok.area_ok.x0_ok ok.area_ok.x1_ok ok.area_ok.x_order ok.step_ok.low (mod-lt number some);
      y_ok = positions_within (greatest_of unit) lattice.area.y0 lattice.area.y1 lattice.step (number / length xs) ok.area_ok.y0_ok ok.area_ok.y1_ok ok.area_ok.y_order ok.step_ok.low (row_within xs ys (length xs) number refl some inside);
    })

-- the step of a lattice is one that a visit may have
pub wider_step : (step : ℤ) → IsFrom (pos 1) (pos 10000) step → IsFrom (pos 1) (pos (2 * MAX_COORDINATE)) step
wider_step step ok = let high = ok.high in record { low = ok.low; high = omega (high, arith, ints) }

-- a visit of a job over a node, from its drop height on and under the top
visit_ok : (job : JobFields) (part : List Tri) (lattice : Lattice) (heights : List ℤ) (number : ℕ) (z : ℤ) → IsJob job → IsJobLattice job.unit lattice
    → AreDropHeights (tool_of job) part job.floor lattice heights → number < length (nodes_of lattice) → height_at heights number ≤ℤ z → z <ℤ job.top
    → IsVisit job part (visit_at lattice number z)
visit_ok job part lattice heights number z ok lattice_ok are inside free under =
    let node : ℤ × ℤ = node_at lattice number in
    let place : IsPlace job.unit node = node_within job.unit lattice number lattice_ok inside in
    let drop : IsDropHeight (tool_of job) part node.0 node.1 job.floor (height_at heights number) =
    AllZip-at (IsHeightAt (tool_of job) part job.floor) (nodes_of lattice) heights number (pos 0, pos 0) (pos 0) are inside in
    let kept : job.floor ≤ℤ z = upto job.floor (height_at heights number) z drop.kept free in
    record {
      in_range = record { x_ok = place.x_ok; y_ok = place.y_ok; z_ok = between (greatest_of job.unit) job.floor z job.top ok.floor_ok ok.top_ok kept under };
      kept = kept;
      under_top = under;
      free = λ higher h. drop.free higher (upto (height_at heights number) z higher free h);
      step_ok = wider_step lattice.step lattice_ok.step_ok;
    }
  where
    upto : (a b c : ℤ) → a ≤ℤ b → b ≤ℤ c → a ≤ℤ c
    upto a b c h e = omega (arith, ints)

    between : (most : ℕ) (a b c : ℤ) → Within most a → Within most c → a ≤ℤ b → b <ℤ c → Within most b
    between most a b c h e low high = let low_ok = h.within in let high_ok = e.within in record { within = omega (arith, ints) }

-- what holds of the one visit where there is one holds of all of it
if_ok : (P : Visit → Type 0) (holds : Bool) (lattice : Lattice) (number : ℕ) (z : ℤ) → (holds ≡ true → P (visit_at lattice number z)) → All P (visit_if holds lattice number z)
if_ok P true lattice number z h = All-cons P (visit_at lattice number z) [] (h refl) (All-nil P)
if_ok P false lattice number z h = All-nil P

-- each visit on a layer between floor and top
rough_visit_ok : (job : JobFields) (part : List Tri) (heights : List ℤ) (z : ℤ) (number : ℕ) → IsJob job → IsLayerHeight job z
    → AreDropHeights (tool_of job) part job.floor (rough_lattice job) heights → number < length (nodes_of (rough_lattice job)) → All (IsVisit job part) (rough_visit job heights z number)
rough_visit_ok job part heights z number ok height are inside =
    if_ok (IsVisit job part) (int_le (height_at heights number +ℤ job.rough_stock) z) (rough_lattice job) number z
    (λ holds. visit_ok job part (rough_lattice job) heights number z ok (record { area_ok = area_in_range job ok; step_ok = ok.rough_raster_ok }) are inside (less (height_at heights number) job.rough_stock z ok.rough_stock_ok.low holds) height.under)
  where
    less : (h stock z : ℤ) → (pos 0) ≤ℤ stock → int_le (h +ℤ stock) z ≡ true → h ≤ℤ z
    less h stock z least e = omega (arith, ints)

finish_visit_ok : (job : JobFields) (part : List Tri) (heights : List ℤ) (number : ℕ) → IsJob job
    → AreDropHeights (tool_of job) part job.floor (finish_lattice job) heights → number < length (nodes_of (finish_lattice job)) → All (IsVisit job part) (finish_visit job heights number)
finish_visit_ok job part heights number ok are inside =
    if_ok (IsVisit job part) (int_lt (height_at heights number +ℤ job.lift) job.top) (finish_lattice job) number (height_at heights number +ℤ job.lift)
    (λ holds. visit_ok job part (finish_lattice job) heights number (height_at heights number +ℤ job.lift) ok (record { area_ok = area_in_range job ok; step_ok = ok.raster_ok }) are inside
    (more (height_at heights number) job.lift ok.lift_ok.low) (less (height_at heights number +ℤ job.lift) job.top holds))
  where
    more : (h lift : ℤ) → (pos 0) ≤ℤ lift → h ≤ℤ (h +ℤ lift)
    more h lift least = omega (arith, ints)

    less : (a b : ℤ) → int_lt a b ≡ true → a <ℤ b
    less a b e = omega (arith, ints)

-- what holds of all that each node gives holds of all in zigzag order
zigzag_ok : (P : Visit → Type 0) (f : ℕ → List Visit) (lattice : Lattice) → ((number : ℕ) → number < length (nodes_of lattice) → All P (f number)) → All P (flat_map f (zigzag_of lattice))
zigzag_ok P f lattice each =
    let columns : ℕ = length (lattice_xs lattice) in
    let rows : ℕ = length (lattice_ys lattice) in
    subst (λ (vs : List Visit). All P vs) (sym (flat_map-nested f (zigzag_row columns) (range_with_len 0 rows)))
    (All-flat_map P (λ (row : ℕ). flat_map f (zigzag_row columns row)) (range_with_len 0 rows) 0 (λ k inside.
    let row : k < rows = subst (λ n. k < n) (length-range_with_len 0 rows) inside in
    let is : get_or (range_with_len 0 rows) k 0 ≡ k = get_or-range_with_len 0 rows k 0 row ∙ plain k in
    subst (λ (n : ℕ). All P (flat_map f (zigzag_row columns n))) (sym is)
    (All-flat_map P f (zigzag_row columns k) 0 (λ place within.
    each (get_or (zigzag_row columns k) place 0) (number_within lattice columns k place refl row (subst (λ n. place < n) (length-zigzag_row columns k) within))))))
  where
    plain : (n : ℕ) → 0 + n ≡ n
    plain n = omega arith

-- the finishing visits at the nodes, and the roughing visits
pub node_visits_ok : (job : JobFields) (part : List Tri) (heights : List ℤ) → IsJob job
    → AreDropHeights (tool_of job) part job.floor (finish_lattice job) heights → All (IsVisit job part) (finish_visits_of job heights)
node_visits_ok job part heights ok are =
    zigzag_ok (IsVisit job part) (finish_visit job heights) (finish_lattice job) (λ number inside. finish_visit_ok job part heights number ok are inside)

pub rough_visits_ok : (job : JobFields) (part : List Tri) (heights : List ℤ) → IsJob job → (pos 0) <ℤ job.layer
    → AreDropHeights (tool_of job) part job.floor (rough_lattice job) heights → All (IsVisit job part) (rough_visits_of job heights)
rough_visits_ok job part heights ok some are =
    All-flat_map (IsVisit job part) (rough_visits_on job heights) (layer_heights job) (pos 0) (λ k inside.
    zigzag_ok (IsVisit job part) (rough_visit job heights (get_or (layer_heights job) k (pos 0))) (rough_lattice job) (λ number within.
    rough_visit_ok job part heights (get_or (layer_heights job) k (pos 0)) number ok (is_layer_height job k ok some inside) are within))

-- so are those along the rows' paths
pub row_in_range : (job : JobFields) (row : ℕ) → IsJob job → row < length (lattice_ys (finish_lattice job)) → Within (greatest_of job.unit) (get_or (lattice_ys (finish_lattice job)) row (pos 0))
row_in_range job row ok inside = positions_within (greatest_of job.unit) job.area.y0 job.area.y1 job.raster row ok.y0_ok ok.y1_ok ok.y_order ok.raster_ok.low inside

rows_in_range : (job : JobFields) → IsJob job → All (Within (greatest_of job.unit)) (lattice_ys (finish_lattice job))
rows_in_range job ok = λ k d inside.
    subst (λ (y : ℤ). Within (greatest_of job.unit) y) (get_or_default (lattice_ys (finish_lattice job)) k (pos 0) d inside)
    (row_in_range job k ok inside)

rows_ok : (job : JobFields) (part : List Tri) (tol : ℤ) (row : ℕ) (ys : List ℤ) (paths : List (List Pt3)) → IsJob job → All (Within (greatest_of job.unit)) ys
    → AllZip (IsRowPath job part tol) ys paths → All (IsVisit job part) (row_visits_from job row paths)
rows_ok job part tol row [] [] ok within are = All-nil (IsVisit job part)
rows_ok job part tol row [] (path ∷ paths) ok within are = absurd are
rows_ok job part tol row (y ∷ ys) [] ok within are = absurd are
rows_ok job part tol row (y ∷ ys) (path ∷ paths) ok within are =
    All-append (IsVisit job part) (point_visits job (in_turn row path)) (row_visits_from job (row + 1) paths)
    (turned_ok job part y ok (All-head (Within (greatest_of job.unit)) y ys within) tol row path
    (path_keeps (tool_of job) part y job.area.x0 job.area.x1 job.floor tol path ok.x_order are.0))
    (rows_ok job part tol (row + 1) ys paths ok (All-tail (Within (greatest_of job.unit)) y ys within) are.1)

-- so all finishing visits of a job and a part are, and all its roughing visits, of which there are none without a layer
pub finish_visits_are_free : FinishVisitsAreFree
finish_visits_are_free job part list ok are = by job.path_tol are
  where
    by : (t : Option ℤ) → MatchOption t (AreNodeVisits job part list) (λ tol. AreRowVisits job part tol list) → All (IsVisit job part) list
    by None h = subst (λ (visits : List Visit). All (IsVisit job part) visits) (sym h.visits) (node_visits_ok job part h.heights ok h.are)
    by (Some tol) h =
        subst (λ (visits : List Visit). All (IsVisit job part) visits) (sym h.visits)
        (rows_ok job part tol 0 (lattice_ys (finish_lattice job)) h.paths ok (rows_in_range job ok) h.are)

layered : (l : ℤ) → (pos 0) ≤ℤ l → (l ≡ pos 0) ⊎ ((pos 0) <ℤ l)
layered (pos zero) least = inl refl
layered (pos (suc n)) least = inr (omega (arith, ints))
layered (negsuc n) least = absurd (omega (least, arith, ints))

pub rough_visits_are_free : RoughVisitsAreFree
rough_visits_are_free job part list ok are =
    subst (λ (visits : List Visit). All (IsVisit job part) visits) (sym are.visits) (elim (layered job.layer ok.layer_ok.low) [
      | inl none ↦ subst (λ (zs : List ℤ). All (IsVisit job part) (flat_map (rough_visits_on job are.heights) zs)) (sym (no_layers job none)) (All-nil (IsVisit job part))
      | inr some ↦ rough_visits_ok job part are.heights ok some (are.are some)
    ])
