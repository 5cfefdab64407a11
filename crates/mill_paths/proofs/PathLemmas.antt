-- The visit of a path at one node.
use Rattle.std.proofs.Common.{◌≡◌, ℕ, Bool, true, false, List, [], ◌∷◌, refl, sym, ap, ◌∙◌, arith}
use Rattle.std.specs.Prelude.{if◌then◌else◌, int_lt, int_le, ℤ, ◌+ℤ◌, ◌-ℤ◌, ◌<ℤ◌, ◌≤ℤ◌, Some, None}
use Rattle.std.proofs.lemmas.Int.{ints}
use Rattle.mill_base.specs.declared.lattice.Lattice.{Lattice}
use Rattle.mill_base.specs.Points.{point_at}
use Rattle.mill_base.specs.Lattices.{node_at}
use Rattle.mill_job.specs.declared.fields.JobFields.{JobFields}
use Rattle.mill_links.specs.declared.visit.Visit.{Visit}
use Rattle.mill_paths.specs.Lattices.{finish_lattice, rough_lattice}
use Rattle.mill_paths.specs.Visits.{height_at, visit_at, visit_if}
use Rattle.mill_paths.specs.inner.Paths.{path_height, path_lattice, path_visit}
use Rattle.mill_paths.specs.declared.path.Path.{Path}
use Rattle.mill_paths.specs.declared.path.Path.TheVariants.{Layer, Finish}

-- the visit at these coordinates
abbrev pub made : ℤ → ℤ → ℤ → ℤ → Visit
made x y z step = record { at = point_at x y z; step = step }

one_visit : (holds : Bool) (lattice : Lattice) (number : ℕ) (y z : ℤ) → (if holds then Some y else None) ≡ Some z
    → visit_if holds lattice number y ≡ visit_at lattice number z ∷ []
one_visit true lattice number y z is = let same : y ≡ z = cc in ap (λ w. visit_at lattice number w ∷ []) same
one_visit false lattice number y z is = absurd (cc)

no_visit : (holds : Bool) (lattice : Lattice) (number : ℕ) (y : ℤ) → (if holds then Some y else None) ≡ None → visit_if holds lattice number y ≡ []
no_visit true lattice number y is = absurd (cc)
no_visit false lattice number y is = refl

-- where the path comes there, at the tip's height, and where it doesn't
pub visit_there : (job : JobFields) (heights : List ℤ) (path : Path) (number : ℕ) (z : ℤ) → path_height job path (height_at heights number) ≡ Some z
    → path_visit job heights path number ≡ visit_at (path_lattice job path) number z ∷ []
visit_there job heights (Layer height) number z is =
    one_visit (int_le (height_at heights number +ℤ job.rough_stock) height) (rough_lattice job) number height z is
visit_there job heights Finish number z is =
    one_visit (int_lt (height_at heights number +ℤ job.lift) job.top) (finish_lattice job) number (height_at heights number +ℤ job.lift) z is

pub visit_nowhere : (job : JobFields) (heights : List ℤ) (path : Path) (number : ℕ) → path_height job path (height_at heights number) ≡ None
    → path_visit job heights path number ≡ []
visit_nowhere job heights (Layer height) number is =
    no_visit (int_le (height_at heights number +ℤ job.rough_stock) height) (rough_lattice job) number height is
visit_nowhere job heights Finish number is =
    no_visit (int_lt (height_at heights number +ℤ job.lift) job.top) (finish_lattice job) number (height_at heights number +ℤ job.lift) is

picked : (t : Bool) (y : ℤ) → t ≡ true → Some y ≡ (if t then Some y else None)
picked true y e = refl
picked false y e = absurd (cc)

not_picked : (t : Bool) (y : ℤ) → t ≡ false → None ≡ (if t then Some y else None)
not_picked true y e = absurd (cc)
not_picked false y e = refl

-- the tip's height in roughing, where a layer's height is great enough, and where it isn't
pub rough_height : (job : JobFields) (z drop : ℤ) → (drop +ℤ job.rough_stock) ≤ℤ z → Some z ≡ path_height job (Layer z) drop
rough_height job z drop h = picked (int_le (drop +ℤ job.rough_stock) z) z (by (int_le (drop +ℤ job.rough_stock) z) refl)
  where
    by : (t : Bool) → int_le (drop +ℤ job.rough_stock) z ≡ t → t ≡ true
    by true e = refl
    by false e = absurd (omega (arith, ints))

pub no_rough_height : (job : JobFields) (z drop : ℤ) → z <ℤ (drop +ℤ job.rough_stock) → None ≡ path_height job (Layer z) drop
no_rough_height job z drop h = not_picked (int_le (drop +ℤ job.rough_stock) z) z (by (int_le (drop +ℤ job.rough_stock) z) refl)
  where
    by : (t : Bool) → int_le (drop +ℤ job.rough_stock) z ≡ t → t ≡ false
    by true e = absurd (omega (arith, ints))
    by false e = refl

-- and of the finishing path, where the lift leaves it under the top, and where it doesn't
pub finish_height : (job : JobFields) (drop : ℤ) → drop <ℤ (job.top -ℤ job.lift) → Some (drop +ℤ job.lift) ≡ path_height job Finish drop
finish_height job drop h = picked (int_lt (drop +ℤ job.lift) job.top) (drop +ℤ job.lift) (by (int_lt (drop +ℤ job.lift) job.top) refl)
  where
    by : (t : Bool) → int_lt (drop +ℤ job.lift) job.top ≡ t → t ≡ true
    by true e = refl
    by false e = absurd (omega (arith, ints))

pub no_finish_height : (job : JobFields) (drop : ℤ) → (job.top -ℤ job.lift) ≤ℤ drop → None ≡ path_height job Finish drop
no_finish_height job drop h = not_picked (int_lt (drop +ℤ job.lift) job.top) (drop +ℤ job.lift) (by (int_lt (drop +ℤ job.lift) job.top) refl)
  where
    by : (t : Bool) → int_lt (drop +ℤ job.lift) job.top ≡ t → t ≡ false
    by true e = absurd (omega (arith, ints))
    by false e = refl

-- a visit that is put together from its parts
pub visit_made : (job : JobFields) (heights : List ℤ) (path : Path) (number : ℕ) (lattice : Lattice) (node : ℤ × ℤ) (tip x y z step : ℤ) → x ≡ node.0 → y ≡ node.1 → z ≡ tip → step ≡ lattice.step
    → node ≡ node_at lattice number → lattice ≡ path_lattice job path → Some tip ≡ path_height job path (height_at heights number)
    → made x y z step ∷ [] ≡ path_visit job heights path number
visit_made job heights path number lattice node tip x y z step is_x is_y is_z is_step place over there =
    let all_x : x ≡ (node_at (path_lattice job path) number).0 = is_x ∙ ap (λ (p : ℤ × ℤ). p.0) place ∙ ap (λ (l : Lattice). (node_at l number).0) over in
    let all_y : y ≡ (node_at (path_lattice job path) number).1 = is_y ∙ ap (λ (p : ℤ × ℤ). p.1) place ∙ ap (λ (l : Lattice). (node_at l number).1) over in
    let all_step : step ≡ (path_lattice job path).step = is_step ∙ ap (λ (l : Lattice). l.step) over in
    (λ i. made (all_x i) (all_y i) (is_z i) (all_step i) ∷ []) ∙ sym (visit_there job heights path number tip (sym there))
