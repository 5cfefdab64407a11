-- The visits along the rows' paths are at different places, so that a way through them has a move for each.
use Rattle.std.proofs.Common.{◌≡◌, ℕ, zero, suc, ◌+◌, ◌*◌, ◌/◌, ◌<◌, ◌≤◌, Bool, true, false, List, [], ◌∷◌, ◌++◌, map, reverse, get_or, mul-le-mul_right, refl, sym, ap, ◌∙◌, subst, arith}
use Rattle.std.specs.Prelude.{◌≢◌, ◌%◌, ◌==◌, if◌then◌else◌, nat_abs, int_lt, ℤ, pos, ◌+ℤ◌, ◌-ℤ◌, ◌*ℤ◌, All}
use Rattle.std.specs.List.{AllZip, range_with_len}
use Rattle.std.proofs.lemmas.Bool.{eqb-false}
use Rattle.std.proofs.lemmas.Grind.{reverse_onto}
use Rattle.std.proofs.lemmas.Int.{ints, unsigned_abs-mul}
use Rattle.std.proofs.lemmas.List.Elements.{All-append, All-cons, All-head, All-map, All-nil, All-tail, All-weaker}
use Rattle.std.proofs.Math.Nat.{div-zero, mul-mod_left}
use Rattle.mill_base.specs.Lattices.{lattice_positions, lattice_ys}
use Rattle.mill_base.specs.Points.{point_at}
use Rattle.mill_base.specs.declared.points.Pt3.{Pt3}
use Rattle.mill_base.specs.declared.points.Tri.{Tri}
use Rattle.mill_drop.specs.Paths.{path_places, tip_over}
use Rattle.mill_drop.proofs.Halving.{GoStraight, later_places, path_goes}
use Rattle.mill_job.specs.declared.fields.JobFields.{JobFields}
use Rattle.mill_links.specs.declared.visit.Visit.{Visit}
use Rattle.mill_paths.specs.Lattices.{finish_lattice}
use Rattle.mill_paths.specs.Visits.{IsRowPath, in_turn, point_visit, point_visits, row_visits_from, step_from, visits_after}
use Rattle.mill_paths.proofs.RowPoints.{all_in_turn, all_reverse}

-- ---- lists of which each item stands in a relation to all later ones

abbrev pub Apart : {X : Type 0} → (X → X → Type 0) → List X → Type 0
Apart R [] = Unit {0}
Apart R (x ∷ xs) = All (R x) xs × Apart R xs

apart_join : {X : Type 0} (R : X → X → Type 0) (xs ys : List X) → Apart R xs → Apart R ys → All (λ x. All (R x) ys) xs → Apart R (xs ++ ys)
apart_join R [] ys h g cross = g
apart_join R (x ∷ xs) ys h g cross = (
  All-append (R x) xs ys h.0 (All-head (λ z. All (R z) ys) x xs cross),
  apart_join R xs ys h.1 g (All-tail (λ z. All (R z) ys) x xs cross),
)

apart_map : {X Y : Type 0} (R : X → X → Type 0) (S : Y → Y → Type 0) (f : X → Y) → ((x y : X) → R x y → S (f x) (f y)) → (xs : List X) → Apart R xs → Apart S (map f xs)
apart_map R S f keep [] h = tt
apart_map R S f keep (x ∷ xs) h = (All-map (S (f x)) f xs (All-weaker (R x) (λ y. S (f x) (f y)) (keep x) xs h.0), apart_map R S f keep xs h.1)

apart_reverse : {X : Type 0} (R : X → X → Type 0) → ((x y : X) → R x y → R y x) → (xs : List X) → Apart R xs → Apart R (reverse xs)
apart_reverse R turn [] h = tt
apart_reverse R turn (x ∷ xs) h =
    subst (λ zs. Apart R zs) (sym (reverse_onto xs x []))
    (apart_join R (reverse xs) (x ∷ []) (apart_reverse R turn xs h.1) (All-nil (R x), tt)
    (all_reverse (λ y. All (R y) (x ∷ [])) xs (All-weaker (R x) (λ y. All (R y) (x ∷ [])) (λ y r. All-cons (R y) x [] (turn x y r) (All-nil (R y))) xs h.0)))

-- ---- the positions of a lattice

numbers_after : (b a n : ℕ) → b < a → All (λ k. b < k) (range_with_len a n)
numbers_after b a zero h = All-nil (λ k. b < k)
numbers_after b a (suc n) h = All-cons (λ k. b < k) a (range_with_len (a + 1) n) h (numbers_after b (a + 1) n (later b a h))
  where
    later : (u v : ℕ) → u < v → u < v + 1
    later u v e = omega (e, arith)

numbers_apart : (a n : ℕ) → Apart (λ i j. i < j) (range_with_len a n)
numbers_apart a zero = tt
numbers_apart a (suc n) = (numbers_after a (a + 1) n (next a), numbers_apart (a + 1) n)
  where
    next : (u : ℕ) → u < u + 1
    next u = omega arith

-- so many steps of one length
abs_steps : (n : ℕ) (z : ℤ) → nat_abs (pos n *ℤ z) ≡ n * nat_abs z
abs_steps n z = unsigned_abs-mul (pos n) z

more_steps : (s i j : ℕ) → 0 < s → i < j → i * s ≡ j * s → ⊥
more_steps s i j some less same = let m : suc i * s ≤ j * s = mul-le-mul_right s less in omega (some, m, same, arith)

module _ (lo hi step : ℤ) where
  -- positions that are some steps from the start differ
  steps_differ : (i j : ℕ) → 0 < nat_abs step → i < j → (lo +ℤ pos j *ℤ step) ≢ (lo +ℤ pos i *ℤ step)
  steps_differ i j some less same =
      more_steps (nat_abs step) i j some less (sym (abs_steps i step) ∙ ap (λ z. nat_abs z) (sym (cancel lo (pos j *ℤ step) (pos i *ℤ step) same)) ∙ abs_steps j step)
    where
      cancel : (a u v : ℤ) → a +ℤ u ≡ a +ℤ v → u ≡ v
      cancel a u v e = omega (e, arith, ints)

  -- and so does the end from them, where no step comes there
  end_differs : (i : ℕ) → ((nat_abs (hi -ℤ lo) % nat_abs step) == 0) ≡ false → hi ≢ (lo +ℤ pos i *ℤ step)
  end_differs i apart same =
      eqb-false (nat_abs (hi -ℤ lo) % nat_abs step) 0 apart
      (ap (λ z. nat_abs z % nat_abs step) (way lo hi (pos i *ℤ step) same) ∙ ap (λ n. n % nat_abs step) (abs_steps i step) ∙ mul-mod_left i (nat_abs step))
    where
      way : (a b u : ℤ) → b ≡ a +ℤ u → b -ℤ a ≡ u
      way a b u e = omega (e, arith, ints)

  abbrev Differ : ℤ → ℤ → Type 0
  Differ y z = z ≢ y

  stepped_apart : (s : ℕ) → s ≡ nat_abs step → Apart Differ (map (λ i. lo +ℤ pos i *ℤ step) (range_with_len 0 (nat_abs (hi -ℤ lo) / s + 1)))
  stepped_apart zero is =
      subst (λ n. Apart Differ (map (λ i. lo +ℤ pos i *ℤ step) (range_with_len 0 (n + 1)))) (sym (div-zero (nat_abs (hi -ℤ lo)))) (All-nil (Differ (lo +ℤ pos 0 *ℤ step)), tt)
  stepped_apart (suc s) is =
      apart_map (λ i j. i < j) Differ (λ i. lo +ℤ pos i *ℤ step) (λ i j less. steps_differ i j (subst (λ n. 0 < n) is (omega arith)) less)
      (range_with_len 0 (nat_abs (hi -ℤ lo) / suc s + 1)) (numbers_apart 0 (nat_abs (hi -ℤ lo) / suc s + 1))

  -- no two positions are the same, whatever the step
  pub positions_apart : Apart Differ (lattice_positions lo hi step)
  positions_apart = by ((nat_abs (hi -ℤ lo) % nat_abs step) == 0) refl
    where
      steps : List ℤ
      steps = map (λ i. lo +ℤ pos i *ℤ step) (range_with_len 0 (nat_abs (hi -ℤ lo) / nat_abs step + 1))

      none_after : (xs : List ℤ) → All (λ x. All (Differ x) []) xs
      none_after xs = λ k d inside. All-nil (Differ (get_or xs k d))

      by : (t : Bool) → ((nat_abs (hi -ℤ lo) % nat_abs step) == 0) ≡ t → Apart Differ (steps ++ (if t then [] else hi ∷ []))
      by true e = apart_join Differ steps [] (stepped_apart (nat_abs step) refl) tt (none_after steps)
      by false e =
          apart_join Differ steps (hi ∷ []) (stepped_apart (nat_abs step) refl) (All-nil (Differ hi), tt)
          (All-map (λ x. All (Differ x) (hi ∷ [])) (λ i. lo +ℤ pos i *ℤ step) (range_with_len 0 (nat_abs (hi -ℤ lo) / nat_abs step + 1))
          (λ k d inside. All-cons (Differ (lo +ℤ pos (get_or numbers k d) *ℤ step)) hi [] (end_differs (get_or numbers k d) e) (All-nil (Differ (lo +ℤ pos (get_or numbers k d) *ℤ step)))))
        where
          numbers : List ℕ
          numbers = range_with_len 0 (nat_abs (hi -ℤ lo) / nat_abs step + 1)

-- ---- the points of a path

-- the places over which a tool goes ascend
ascending : (heights : List ℤ) (tol : ℤ) (n p o : ℕ) (ks : List ℕ) → o < p → GoStraight heights tol n p ks → All (λ k. o < k) ks
ascending heights tol n p o [] less goes = All-nil (λ k. o < k)
ascending heights tol n p o (k ∷ ks) less goes =
    All-cons (λ j. o < j) k ks (later o p k less goes.0.0) (ascending heights tol n k o ks (later o p k less goes.0.0) goes.1)
  where
    later : (a b c : ℕ) → a < b → b < c → a < c
    later a b c u v = omega (u, v, arith)

ascending_apart : (heights : List ℤ) (tol : ℤ) (n p : ℕ) (ks : List ℕ) → GoStraight heights tol n p ks → Apart (λ i j. i < j) (p ∷ ks)
ascending_apart heights tol n p [] goes = (All-nil (λ k. p < k), tt)
ascending_apart heights tol n p (k ∷ ks) goes =
    (All-cons (λ j. p < j) k ks goes.0.0 (ascending heights tol n k p ks goes.0.0 goes.1), ascending_apart heights tol n k ks goes.1)

path_places_apart : (heights : List ℤ) (tol : ℤ) (n : ℕ) → Apart (λ i j. i < j) (path_places heights tol n)
path_places_apart heights tol n = ascending_apart heights tol n 0 (later_places heights tol n) (path_goes heights tol n)

-- two points are at different x
abbrev Aside : Pt3 → Pt3 → Type 0
Aside p q = q.x ≢ p.x

turned_aside : (p q : Pt3) → Aside p q → Aside q p
turned_aside p q apart same = apart (sym same)

module _ (job : JobFields) (part : List Tri) (tol : ℤ) where
  -- those of a path are, also in its turn, and all lie on the row
  path_aside : (y : ℤ) (path : List Pt3) → IsRowPath job part tol y path → Apart Aside path
  path_aside y path is =
      subst (λ ps. Apart Aside ps) (sym is.places)
      (apart_map (λ i j. i < j) Aside (tip_over y job.area.x0 is.heights) (λ i j less. differs job.area.x0 i j less) (path_places is.heights tol (nat_abs (job.area.x1 -ℤ job.area.x0)))
      (path_places_apart is.heights tol (nat_abs (job.area.x1 -ℤ job.area.x0))))
    where
      differs : (x : ℤ) (i j : ℕ) → i < j → (x +ℤ pos j) ≢ (x +ℤ pos i)
      differs x i j less same = absurd (omega (less, same, arith, ints))

  turned_path_aside : (y : ℤ) (row : ℕ) (path : List Pt3) → IsRowPath job part tol y path → Apart Aside (in_turn row path)
  turned_path_aside y row path is = by (row % 2 == 0)
    where
      by : (even : Bool) → Apart Aside (if even then path else reverse path)
      by true = path_aside y path is
      by false = apart_reverse Aside turned_aside path (path_aside y path is)

  path_on_row : (y : ℤ) (path : List Pt3) → IsRowPath job part tol y path → All (λ (p : Pt3). p.y ≡ y) path
  path_on_row y path is =
      subst (λ ps. All (λ (p : Pt3). p.y ≡ y) ps) (sym is.places)
      (All-map (λ (p : Pt3). p.y ≡ y) (tip_over y job.area.x0 is.heights) (path_places is.heights tol (nat_abs (job.area.x1 -ℤ job.area.x0))) (λ k d inside. refl))

-- ---- the visits there

-- two visits are at different places
abbrev pub Elsewhere : Visit → Visit → Type 0
Elsewhere v w = w.at ≢ v.at

module _ (job : JobFields) where
  -- what holds of the places of points, whatever their heights, holds of those of the visits there
  at_point : (P : ℤ → ℤ → Type 0) (before p : Pt3) → P p.x p.y → All (λ (v : Visit). P v.at.x v.at.y) (point_visit job before p)
  at_point P before p h = by (int_lt (p.z +ℤ job.lift) job.top)
    where
      by : (t : Bool) → All (λ (v : Visit). P v.at.x v.at.y) (if t then record { at = point_at p.x p.y (p.z +ℤ job.lift); step = step_from job before p } ∷ [] else [])
      by true = All-cons (λ (v : Visit). P v.at.x v.at.y) (record { at = point_at p.x p.y (p.z +ℤ job.lift); step = step_from job before p }) [] h (All-nil (λ (v : Visit). P v.at.x v.at.y))
      by false = All-nil (λ (v : Visit). P v.at.x v.at.y)

  at_points : (P : ℤ → ℤ → Type 0) (before : Pt3) (points : List Pt3) → All (λ (p : Pt3). P p.x p.y) points → All (λ (v : Visit). P v.at.x v.at.y) (visits_after job before points)
  at_points P before [] h = All-nil (λ (v : Visit). P v.at.x v.at.y)
  at_points P before (p ∷ points) h =
      All-append (λ (v : Visit). P v.at.x v.at.y) (point_visit job before p) (visits_after job p points)
      (at_point P before p (All-head (λ (q : Pt3). P q.x q.y) p points h)) (at_points P p points (All-tail (λ (q : Pt3). P q.x q.y) p points h))

  on_row : (y : ℤ) (points : List Pt3) → All (λ (p : Pt3). p.y ≡ y) points → All (λ (v : Visit). v.at.y ≡ y) (point_visits job points)
  on_row y [] h = All-nil (λ (v : Visit). v.at.y ≡ y)
  on_row y (p ∷ points) h = at_points (λ u v. v ≡ y) p (p ∷ points) h

  -- the visits at points at different x are at different places
  one_elsewhere : (before p : Pt3) → Apart Elsewhere (point_visit job before p)
  one_elsewhere before p = by (int_lt (p.z +ℤ job.lift) job.top)
    where
      by : (t : Bool) → Apart Elsewhere (if t then record { at = point_at p.x p.y (p.z +ℤ job.lift); step = step_from job before p } ∷ [] else [])
      by true = (All-nil (Elsewhere (record { at = point_at p.x p.y (p.z +ℤ job.lift); step = step_from job before p })), tt)
      by false = tt

  after_elsewhere : (before : Pt3) (points : List Pt3) → Apart Aside points → Apart Elsewhere (visits_after job before points)
  after_elsewhere before [] h = tt
  after_elsewhere before (p ∷ points) h =
      apart_join Elsewhere (point_visit job before p) (visits_after job p points) (one_elsewhere before p) (after_elsewhere p points h.1)
      (All-weaker (λ (v : Visit). v.at.x ≡ p.x) (λ v. All (Elsewhere v) (visits_after job p points)) (λ v here.
      All-weaker (λ (w : Visit). w.at.x ≢ p.x) (Elsewhere v) (λ w away same. away (ap (λ (q : Pt3). q.x) same ∙ here)) (visits_after job p points) (at_points (λ x y. x ≢ p.x) p points h.0))
      (point_visit job before p) (at_point (λ x y. x ≡ p.x) before p refl))

  points_elsewhere : (points : List Pt3) → Apart Aside points → Apart Elsewhere (point_visits job points)
  points_elsewhere [] h = tt
  points_elsewhere (p ∷ points) h = after_elsewhere p (p ∷ points) h

  module _ (part : List Tri) (tol : ℤ) where
    -- what holds of each row's place in y holds of that of each visit
    rows_at : (P : ℤ → Type 0) (row : ℕ) (ys : List ℤ) (paths : List (List Pt3)) → AllZip (IsRowPath job part tol) ys paths → All P ys
        → All (λ (v : Visit). P v.at.y) (row_visits_from job row paths)
    rows_at P row [] [] are h = All-nil (λ (v : Visit). P v.at.y)
    rows_at P row [] (path ∷ paths) are h = absurd are
    rows_at P row (y ∷ ys) [] are h = absurd are
    rows_at P row (y ∷ ys) (path ∷ paths) are h =
        All-append (λ (v : Visit). P v.at.y) (point_visits job (in_turn row path)) (row_visits_from job (row + 1) paths)
        (All-weaker (λ (v : Visit). v.at.y ≡ y) (λ (v : Visit). P v.at.y) (λ v on. subst P (sym on) (All-head P y ys h)) (point_visits job (in_turn row path))
        (on_row y (in_turn row path) (all_in_turn (λ (p : Pt3). p.y ≡ y) row path (path_on_row job part tol y path are.0))))
        (rows_at P (row + 1) ys paths are.1 (All-tail P y ys h))

    rows_elsewhere : (row : ℕ) (ys : List ℤ) (paths : List (List Pt3)) → AllZip (IsRowPath job part tol) ys paths → Apart (λ y z. z ≢ y) ys → Apart Elsewhere (row_visits_from job row paths)
    rows_elsewhere row [] [] are h = tt
    rows_elsewhere row [] (path ∷ paths) are h = absurd are
    rows_elsewhere row (y ∷ ys) [] are h = absurd are
    rows_elsewhere row (y ∷ ys) (path ∷ paths) are h =
        let here : List Visit = point_visits job (in_turn row path) in
        let rest : List Visit = row_visits_from job (row + 1) paths in
        apart_join Elsewhere here rest (points_elsewhere (in_turn row path) (turned_path_aside job part tol y row path are.0)) (rows_elsewhere (row + 1) ys paths are.1 h.1)
        (All-weaker (λ (v : Visit). v.at.y ≡ y) (λ v. All (Elsewhere v) rest) (λ v on.
        All-weaker (λ (w : Visit). w.at.y ≢ y) (Elsewhere v) (λ w away same. away (ap (λ (q : Pt3). q.y) same ∙ on)) rest (rows_at (λ z. z ≢ y) (row + 1) ys paths are.1 h.0))
        here (on_row y (in_turn row path) (all_in_turn (λ (p : Pt3). p.y ≡ y) row path (path_on_row job part tol y path are.0))))

    -- so are all along the rows' paths
    pub all_elsewhere : (paths : List (List Pt3)) → AllZip (IsRowPath job part tol) (lattice_ys (finish_lattice job)) paths → Apart Elsewhere (row_visits_from job 0 paths)
    all_elsewhere paths are =
        rows_elsewhere 0 (lattice_ys (finish_lattice job)) paths are (positions_apart job.area.y0 job.area.y1 job.raster)
