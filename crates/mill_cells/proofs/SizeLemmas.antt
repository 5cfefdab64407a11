-- Sizes of cells.
use Rattle.std.proofs.Common.{◌≡◌, ℕ, suc, ◌+◌, ◌*◌, ◌/◌, ◌%◌, ◌^◌, ◌<◌, ◌≤◌, List, [], ◌∷◌, length, get_or, map, take, take_all, refl, sym, subst, ap, ap₂, ◌∙◌, inl, inr, to_z, arith}
use Rattle.std.specs.Prelude.{sum_by, nat_abs}
use Rattle.std.proofs.Math.Nat.{div-mul-le_self, mul-le-mul, mul-le-mul_left}
use mir.Syntax.{w32}
use Rattle.std.proofs.Math.Pow.{pow_mono}
use Rattle.std.proofs.lemmas.Bool.{cases_lt}
use Rattle.std.proofs.lemmas.Int.{ints, to_z_pos}
use Rattle.std.proofs.lemmas.Nat.{le-div, div_below, one_shl}
use Rattle.std.proofs.lemmas.List.Sums.{sum_by-cons}
use Rattle.std.proofs.lemmas.List.Elements.{Contains-get_or}
use lib.IntN.{ℤ, pos, ◌-ℤ◌}
use lib.Signed.{◌<ℤ◌, ◌≤ℤ◌}
use Rattle.mill_base.specs.Numbers.{Within}
use Rattle.mill_base.specs.declared.limits.TheConstants.{MAX_COORDINATE}
use Rattle.mill_base.specs.Ranges.{TrisInRange}
use Rattle.mill_base.specs.declared.points.Tri.{Tri}
use Rattle.mill_base.specs.declared.points.Box2.{Box2}
use Rattle.mill_cells.specs.Boxes.{box_of, boxes_of, bounds_of, IsBounds, IsInside, AllInside}
use Rattle.mill_cells.specs.Frames.{cell_of, frame_over, cell_count, block_of, frame_area, IsFrame}
use Rattle.mill_cells.specs.declared.frame.Frame.{Frame}
use Rattle.mill_cells.specs.Sizes.{frame_of, entry_count, IsSmallGrid, IsCellSize}
use Rattle.mill_cells.proofs.BoxLemmas.{bounds_ok, box_bounds, bounds_hold, bounds_hold_one}

-- how many cells the box of one triangle covers
abbrev pub tri_cells : List Tri → ℕ → Tri → ℕ
tri_cells tris size t = frame_area (block_of (frame_of tris size) (box_of t))

-- a greater size has no more cells
div_anti : (n a b : ℕ) → 0 < a → a ≤ b → n / b ≤ n / a
div_anti n a b some le = le-div (n / b) n a some (omega (arith, div-mul-le_self n b, mul-le-mul_left {m = a} {n = b} (n / b) le))

pub cells_fewer : (b : Box2) (s t : ℕ) → 0 < s → s ≤ t → cell_count (frame_over b t) ≤ cell_count (frame_over b s)
cells_fewer b s t some le =
    mul-le-mul {n₁ = cell_of b.x0 t b.x1 + 1} {m₁ = cell_of b.y0 t b.y1 + 1} {n₂ = cell_of b.x0 s b.x1 + 1} {m₂ = cell_of b.y0 s b.y1 + 1}
    (omega (arith, div_anti (nat_abs (b.x1 -ℤ b.x0)) s t some le)) (omega (arith, div_anti (nat_abs (b.y1 -ℤ b.y0)) s t some le))

pub works_on : (tris : List Tri) (s : ℕ) (size : ℤ) → 0 < s → IsSmallGrid tris s → pos s ≤ℤ size → IsCellSize tris size
works_on tris s size some h le =
    let le' : s ≤ nat_abs size = omega (arith, ints) in
    record { some = omega (arith, ints); few = omega (arith, h.few, cells_fewer (bounds_of tris) s (nat_abs size) some le') }

-- the greatest size makes one cell of any bounds
one_cell_of : (low a : ℤ) → Within MAX_COORDINATE low → Within MAX_COORDINATE a → cell_of low (2 ^ 20) a ≡ 0
one_cell_of low a hl ha =
    let k = hl.within in
    let l = ha.within in
    let d : nat_abs (a -ℤ low) ≤ 1048574 = omega (arith, ints) in
    let less : nat_abs (a -ℤ low) / (2 ^ 20) < 1 = div_below (nat_abs (a -ℤ low)) (2 ^ 20) 1 (omega arith) (omega arith) in
    omega arith

one_block : (b c : Box2) → IsBounds b → IsBounds c → frame_area (block_of (frame_over b (2 ^ 20)) c) ≡ 1
one_block b c hb hc =
    rw (one_cell_of b.x0 c.x0 hb.x0_ok hc.x0_ok, one_cell_of b.x0 c.x1 hb.x0_ok hc.x1_ok, one_cell_of b.y0 c.y0 hb.y0_ok hc.y0_ok, one_cell_of b.y0 c.y1 hb.y0_ok hc.y1_ok) refl

ones : (b : Box2) (tris : List Tri) → IsBounds b → TrisInRange tris → sum_by (λ t. frame_area (block_of (frame_over b (2 ^ 20)) (box_of t))) tris ≡ length tris
ones b [] hb all = refl
ones b (t ∷ tris) hb all =
    let f = λ (u : Tri). frame_area (block_of (frame_over b (2 ^ 20)) (box_of u)) in
    let here : f t ≡ 1 = one_block b (box_of t) hb (box_bounds t (all t (0, omega arith, refl))) in
    let others = ones b tris hb (λ u m. all u (suc m.0, omega (arith, m.1), m.2)) in
    let e = sum_by-cons f t tris in
    omega arith

pub greatest_fits : (tris : List Tri) → TrisInRange tris → IsSmallGrid tris (2 ^ 20)
greatest_fits tris all =
    let h = bounds_ok tris all in
    let b = bounds_of tris in
    let one : cell_count (frame_of tris (2 ^ 20)) ≡ 1 = rw (one_cell_of b.x0 b.x1 h.x0_ok h.x1_ok, one_cell_of b.y0 b.y1 h.y0_ok h.y1_ok) refl in
    let entries : entry_count tris (2 ^ 20) ≡ length tris = ones b tris h all in
    record { few = omega arith; small = omega arith }

-- a triangle's box within the bounds
pub tri_inside : (tris : List Tri) (i : ℕ) (d : Tri) → TrisInRange tris → i < length tris → IsInside (bounds_of tris) (box_of (get_or tris i d))
tri_inside tris i d all less = bounds_hold_one tris (get_or tris i d) all (Contains-get_or tris i d less)

-- no lesser power of two fits, where none before this one does
pub least_power : (tris : List Tri) (d : ℕ) → ((k : ℕ) → k < d → ¬ IsSmallGrid tris (2 ^ k)) → (k : ℕ) → (pos (2 ^ k)) <ℤ (pos (2 ^ d)) → ¬ IsSmallGrid tris (2 ^ k)
least_power tris d before k less = elim (cases_lt k d) [
  | inl early ↦ before k early
  | inr late ↦ absurd (not_under (2 ^ k) (2 ^ d) less (pow_mono {i = d} {j = k} late))
]
  where
    not_under : (a b : ℕ) → (pos a) <ℤ (pos b) → b ≤ a → ⊥
    not_under a b h k = omega (arith, ints)

-- a power of two as it is shifted and cast
pub shifted : (d n : ℕ) → d < 20 → n ≡ 1 * 2 ^ d % 4294967296 → (n ≡ 2 ^ d) × (n ≤ 2 ^ 19) × (to_z w32 n ≡ pos (2 ^ d))
shifted d n less e =
    let same : n ≡ 2 ^ d = e ∙ one_shl d 32 (omega arith) in
    let small = pow_mono {i = d} {j = 19} (omega arith) in
    let low : n ≤ 2 ^ 19 = omega arith in
    (same, low, to_z_pos w32 n (omega arith) ∙ ap pos same)

-- the cells of a fit size over the triangles
pub frame_is : (tris : List Tri) (f : Frame) (b : Box2) (x : ℕ) (size : ℤ) → TrisInRange tris → b ≡ bounds_of tris → f ≡ frame_over b x → x ≡ nat_abs size → IsCellSize tris size → IsFrame f
frame_is tris f b x size all eb ef ex h =
    let e : f ≡ frame_of tris (nat_abs size) = ef ∙ ap₂ frame_over eb ex in
    subst IsFrame (sym e) (record { bounds = bounds_ok tris all; some = positive size h.some; made = refl; few = h.few })
  where
    positive : (z : ℤ) → (pos 0) <ℤ z → 0 < nat_abs z
    positive z k = omega (arith, ints)

pub boxes_inside : (tris : List Tri) (f : Frame) (b : Box2) (x : ℕ) (boxes : List Box2) (i : ℕ) → TrisInRange tris → b ≡ bounds_of tris → f ≡ frame_over b x → length tris ≤ i → boxes ≡ map box_of (take i tris)
    → AllInside f.bounds boxes
boxes_inside tris f b x boxes i all eb ef end e =
    let whole : boxes ≡ boxes_of tris = e ∙ ap (map box_of) (take_all i tris end) in
    let eb' : f.bounds ≡ bounds_of tris = ap (λ (g : Frame). g.bounds) ef ∙ eb in
    subst (λ (c : Box2). AllInside c boxes) (sym eb') (subst (AllInside (bounds_of tris)) (sym whole) (bounds_hold tris all))
