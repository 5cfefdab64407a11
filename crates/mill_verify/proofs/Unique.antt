-- There is at most one verdict.
use Rattle.std.specs.Prelude.{◌≡◌, ℕ, ◌<◌, ℤ, ◌≤ℤ◌, List, length}
use Rattle.std.proofs.Common.{sym, ◌∙◌, ap, subst, inl, inr, arith}
use Rattle.std.proofs.lemmas.Int.{ints}
use Rattle.mill_base.specs.declared.points.Tri.{Tri}
use Rattle.mill_base.specs.declared.motion.Move.{Move}
use Rattle.mill_base.specs.declared.motion.Kind.{Kind}
use Rattle.mill_base.specs.declared.motion.Kind.TheVariants.{Rapid, Feed}
use Rattle.mill_base.specs.Points.{point_tri, tri_at}
use Rattle.mill_base.specs.Solids.{Solid, lifted}
use Rattle.mill_gouge.specs.Gouges.{PassesPart}
use Rattle.mill_sweep.specs.Solids.{SolidFailsAt, SolidPasses, SolidPassesPoint}
use Rattle.mill_sweep.specs.declared.leaf.Leaf.{Leaf}
use Rattle.mill_job.specs.Solids.{holder_solid_of, outer_of, part_solid_of, stock_solid_of}
use Rattle.mill_job.specs.declared.fields.JobFields.{JobFields}
use Rattle.mill_job.specs.declared.fixtures.Fixture.{Fixture as Stands}
use Rattle.mill_job.specs.Columns.{IsBefore, IsColumn}
use Rattle.mill_dexel.specs.Tops.{Stock, stock_after, tested_as, tested_point_on, top_point_on}
use Rattle.mill_obstacles.specs.Faces.{first_half, second_half}
use Rattle.mill_verify.specs.Fixtures.{FailsFixture, PassesFixture, PassesFixtures, fixture_at}
use Rattle.mill_verify.specs.Tests.{ClearsFixtures, ClearsPart, ClearsStockOn, GoodBeforeOn, HolderClearsFixtures, HolderClearsPart, HolderClearsStockOn, IsGoodOn, IsOverFloor, stock_met}
use Rattle.mill_dexel.specs.Turns.{move_at}
use Rattle.mill_dexel.proofs.RunLaws.{same_number, leaf_is_one}
use Rattle.mill_verify.proofs.Depths.{clears_as, passes_as}
use Rattle.mill_verify.proofs.Mounted.{of_some, one_some}
use Rattle.mill_verify.proofs.Scanning.{fixture_fails}
use Rattle.mill_verify.specs.Verdicts.{AcceptsOn, FailsCutOn, FailsFixtureOn, FailsFloorOn, FailsHolderFixtureOn, FailsHolderOn, FailsHolderStockOn, FailsPartOn, FailsStockOn, IsMostLeftOn, IsOfMove, IsRejectionOn, IsVerdictOn}
use Rattle.mill_verify.specs.declared.verdict.Verdict.{Verdict}
use Rattle.mill_verify.specs.declared.verdict.Verdict.TheVariants.{Accept, Reject}
use Rattle.mill_verify.specs.declared.verdict.Reason.{Reason}
use Rattle.mill_verify.specs.declared.verdict.Reason.TheVariants.{Floor, Gouge, Holder, Fixture, HolderFixture, Rapid as RapidCut, Cut, HolderStock, Left}
use Rattle.mill_verify.specs.Reasons.{cut_reason}

pub not_before : (j i a b : ℕ) → ¬ IsBefore j i a b → ¬ IsBefore a b j i → (j ≡ a) × (i ≡ b)
not_before j i a b h g =
    let row : j ≡ a = same_number j a (λ x. h (inl x)) (λ x. g (inl x)) in
    (row, same_number i b (λ x. h (inr (row, x))) (λ x. g (inr (sym row, x))))

-- what is left at most is one number
pub most_is_one : (job : JobFields) (part : List Tri) (stock : Stock) (x y : ℤ) → IsMostLeftOn job part stock x → IsMostLeftOn job part stock y → x ≡ y
most_is_one job part stock x y h g = same x y (g.most h.row h.col x h.column h.there) (h.most g.row g.col y g.column g.there)
  where
    same : (x y : ℤ) → x ≤ℤ y → y ≤ℤ x → x ≡ y
    same x y h k = omega (h, k, arith, ints)

-- a fixture fails at one leaf
one_leaf : (solid : Solid) (m : Move) (box : Stands) (a b : Leaf) → FailsFixture solid m box a → FailsFixture solid m box b → a ≡ b
one_leaf solid m box a b (inl h) (inl g) = leaf_is_one solid.cutter (lifted solid m) (first_half box) a b h g
one_leaf solid m box a b (inl h) (inr g) = absurd (h.fails g.0)
one_leaf solid m box a b (inr h) (inl g) = absurd (g.fails h.0)
one_leaf solid m box a b (inr h) (inr g) = leaf_is_one solid.cutter (lifted solid m) (second_half box) a b h.1 g.1

not_alike : Rapid ≡ Feed → ⊥
not_alike e = cc

module _ (job : JobFields) (part : List Tri) (start : Stock) (moves : List Move) where
  -- the first bad move
  record Stops (k : ℕ) : Type 0 where
    there : k < length moves
    before : GoodBeforeOn job part start moves k
    bad : ¬ IsGoodOn job part start moves k

  stops_floor : (k : ℕ) → FailsFloorOn job part start moves k → Stops k
  stops_floor k h = record { there = h.there; before = h.before; bad = λ g. h.fails g.floor }

  stops_part : (k t : ℕ) (leaf : Leaf) → FailsPartOn job part start moves k t leaf → Stops k
  stops_part k t leaf h = record { there = h.there; before = h.before; bad = λ g. h.fails.fails (g.clears t h.tri) }

  stops_stock : (kind : Kind) (k j i : ℕ) (leaf : Leaf) → FailsStockOn job part start moves kind k j i leaf → Stops k
  stops_stock kind k j i leaf h = record { there = h.there; before = h.before; bad = λ g. h.fails.fails (clears_as job start moves kind k h.is g.stock h.tested j i h.column) }

  -- a holder that fails a test doesn't pass it
  held_fails : (k t : ℕ) (leaf : Leaf) → FailsHolderOn job part start moves k t leaf → ¬ HolderClearsPart job part moves k
  held_fails k t leaf h clears = h.fails.fails (of_some (λ (v : Solid). PassesPart v (move_at moves k) part) (holder_solid_of job) h.holder h.mounted clears t h.tri)

  held_stock_fails : (k j i : ℕ) (leaf : Leaf) → FailsHolderStockOn job part start moves k j i leaf → ¬ HolderClearsStockOn job start moves k
  held_stock_fails k j i leaf h clears =
      h.fails.fails (of_some (λ (v : Solid). (a b : ℕ) → IsColumn job a b → SolidPassesPoint v (move_at moves k) (top_point_on job (stock_met job start moves k) a b)) (holder_solid_of job) h.holder h.mounted clears j i h.column)

  stops_held : (k t : ℕ) (leaf : Leaf) → FailsHolderOn job part start moves k t leaf → Stops k
  stops_held k t leaf h = record { there = h.there; before = h.before; bad = λ g. held_fails k t leaf h g.holder }

  stops_held_stock : (k j i : ℕ) (leaf : Leaf) → FailsHolderStockOn job part start moves k j i leaf → Stops k
  stops_held_stock k j i leaf h = record { there = h.there; before = h.before; bad = λ g. held_stock_fails k j i leaf h g.holder_stock }

  stops_fixture : (k b : ℕ) (leaf : Leaf) → FailsFixtureOn job part start moves k b leaf → Stops k
  stops_fixture k b leaf h = record { there = h.there; before = h.before; bad = λ g. fixture_fails (outer_of job) (move_at moves k) (fixture_at job.keep_out b) leaf h.fails (g.fixtures b h.fixture) }

  -- a holder that fails at a fixture doesn't clear the fixtures
  held_hits : (k b : ℕ) (leaf : Leaf) → FailsHolderFixtureOn job part start moves k b leaf → ¬ HolderClearsFixtures job moves k
  held_hits k b leaf h clears =
      fixture_fails h.holder (move_at moves k) (fixture_at job.keep_out b) leaf h.fails
      (of_some (λ (v : Solid). PassesFixtures v (move_at moves k) job.keep_out) (holder_solid_of job) h.holder h.mounted clears b h.fixture)

  stops_held_fixture : (k b : ℕ) (leaf : Leaf) → FailsHolderFixtureOn job part start moves k b leaf → Stops k
  stops_held_fixture k b leaf h = record { there = h.there; before = h.before; bad = λ g. held_hits k b leaf h g.holder_fixtures }

  one_stop : (a b : ℕ) → Stops a → Stops b → a ≡ b
  one_stop a b h g = same_number a b (λ x. h.bad (g.before a x)) (λ x. g.bad (h.before b x))

  no_stop : (k : ℕ) → Stops k → GoodBeforeOn job part start moves (length moves) → ⊥
  no_stop k h g = h.bad (g k h.there)

  one_gouge : (k t u : ℕ) (a b : Leaf) → FailsPartOn job part start moves k t a → FailsPartOn job part start moves k u b → t ≡ u
  one_gouge k t u a b h g = same_number t u (λ x. h.fails.fails (g.first t x)) (λ x. g.fails.fails (h.first u x))

  one_fixture : (k b c : ℕ) (x y : Leaf) → FailsFixtureOn job part start moves k b x → FailsFixtureOn job part start moves k c y → b ≡ c
  one_fixture k b c x y h g =
      same_number b c (λ less. fixture_fails (outer_of job) (move_at moves k) (fixture_at job.keep_out b) x h.fails (g.first b less))
      (λ less. fixture_fails (outer_of job) (move_at moves k) (fixture_at job.keep_out c) y g.fails (h.first c less))

  one_held_fixture : (k b c : ℕ) (x y : Leaf) → FailsHolderFixtureOn job part start moves k b x → FailsHolderFixtureOn job part start moves k c y → b ≡ c
  one_held_fixture k b c x y h g =
      let same : g.holder ≡ h.holder = one_some (holder_solid_of job) g.holder h.holder g.mounted h.mounted in
      same_number b c (λ less. fixture_fails h.holder (move_at moves k) (fixture_at job.keep_out b) x h.fails (subst (λ (v : Solid). PassesFixture v (move_at moves k) (fixture_at job.keep_out b)) same (g.first b less)))
      (λ less. fixture_fails g.holder (move_at moves k) (fixture_at job.keep_out c) y g.fails (subst (λ (v : Solid). PassesFixture v (move_at moves k) (fixture_at job.keep_out c)) (sym same) (h.first c less)))

  one_column : (kind : Kind) (k j i c d : ℕ) (a b : Leaf) → FailsStockOn job part start moves kind k j i a → FailsStockOn job part start moves kind k c d b → (j ≡ c) × (i ≡ d)
  one_column kind k j i c d a b h g =
      let at = passes_as job start moves kind k h.is in
      not_before j i c d (λ x. h.fails.fails (at j i (g.first j i h.column x))) (λ x. g.fails.fails (at c d (h.first c d g.column x)))

  -- the triangle and the leaf at which the holder fails, whichever it is called
  one_held : (k t u : ℕ) (a b : Leaf) → FailsHolderOn job part start moves k t a → FailsHolderOn job part start moves k u b → t ≡ u
  one_held k t u a b h g =
      let same : h.holder ≡ g.holder = one_some (holder_solid_of job) h.holder g.holder h.mounted g.mounted in
      same_number t u
      (λ x. h.fails.fails (subst (λ (v : Solid). SolidPasses v (move_at moves k) (tri_at part t)) (sym same) (g.first t x)))
      (λ x. g.fails.fails (subst (λ (v : Solid). SolidPasses v (move_at moves k) (tri_at part u)) same (h.first u x)))

  one_held_column : (k j i c d : ℕ) (a b : Leaf) → FailsHolderStockOn job part start moves k j i a → FailsHolderStockOn job part start moves k c d b → (j ≡ c) × (i ≡ d)
  one_held_column k j i c d a b h g =
      let same : h.holder ≡ g.holder = one_some (holder_solid_of job) h.holder g.holder h.mounted g.mounted in
      not_before j i c d
      (λ x. h.fails.fails (subst (λ (v : Solid). SolidPassesPoint v (move_at moves k) (top_point_on job (stock_met job start moves k) j i)) (sym same) (g.first j i h.column x)))
      (λ x. g.fails.fails (subst (λ (v : Solid). SolidPassesPoint v (move_at moves k) (top_point_on job (stock_met job start moves k) c d)) same (h.first c d g.column x)))

  one_uncut : (j i c d : ℕ) (s t : ℤ) → FailsCutOn job part start moves j i s → FailsCutOn job part start moves c d t → (j ≡ c) × (i ≡ d)
  one_uncut j i c d s t h g = not_before j i c d (λ x. h.fails (g.first j i h.column x)) (λ x. g.fails (h.first c d g.column x))

  same_gouge : (k l t u : ℕ) (a b : Leaf) → k ≡ l → FailsPartOn job part start moves k t a → FailsPartOn job part start moves l u b → Gouge k t a ≡ Gouge l u b
  same_gouge k l t u a b e h g =
      let g2 : FailsPartOn job part start moves k u b = subst (λ (n : ℕ). FailsPartOn job part start moves n u b) (sym e) g in
      let f : t ≡ u = one_gouge k t u a b h g2 in
      let g3 : FailsPartOn job part start moves k t b = subst (λ (n : ℕ). FailsPartOn job part start moves k n b) (sym f) g2 in
      let q : a ≡ b = leaf_is_one (part_solid_of job).cutter (lifted (part_solid_of job) (move_at moves k)) (tri_at part t) a b h.fails g3.fails in
      ap (λ (n : ℕ). Gouge n t a) e ∙ ap (λ (n : ℕ). Gouge l n a) f ∙ ap (λ (x : Leaf). Gouge l u x) q

  same_stock : (kind : Kind) (k l j i c d : ℕ) (a b : Leaf) → k ≡ l → FailsStockOn job part start moves kind k j i a → FailsStockOn job part start moves kind l c d b
      → cut_reason kind k j i a ≡ cut_reason kind l c d b
  same_stock kind k l j i c d a b e h g =
      let g2 : FailsStockOn job part start moves kind k c d b = subst (λ (n : ℕ). FailsStockOn job part start moves kind n c d b) (sym e) g in
      let f = one_column kind k j i c d a b h g2 in
      let g3 : FailsStockOn job part start moves kind k j d b = subst (λ (n : ℕ). FailsStockOn job part start moves kind k n d b) (sym f.0) g2 in
      let g4 : FailsStockOn job part start moves kind k j i b = subst (λ (n : ℕ). FailsStockOn job part start moves kind k j n b) (sym f.1) g3 in
      let q : a ≡ b = leaf_is_one (stock_solid_of job).cutter (lifted (stock_solid_of job) (move_at moves k)) (point_tri (tested_point_on job kind (stock_met job start moves k) j i)) a b h.fails g4.fails in
      let r = cut_reason kind in
      ap (λ (n : ℕ). r n j i a) e ∙ ap (λ (n : ℕ). r l n i a) f.0 ∙ ap (λ (n : ℕ). r l c n a) f.1 ∙ ap (λ (x : Leaf). r l c d x) q

  same_held : (k l t u : ℕ) (a b : Leaf) → k ≡ l → FailsHolderOn job part start moves k t a → FailsHolderOn job part start moves l u b → Holder k t a ≡ Holder l u b
  same_held k l t u a b e h g =
      let g2 : FailsHolderOn job part start moves k u b = subst (λ (n : ℕ). FailsHolderOn job part start moves n u b) (sym e) g in
      let f : t ≡ u = one_held k t u a b h g2 in
      let g3 : FailsHolderOn job part start moves k t b = subst (λ (n : ℕ). FailsHolderOn job part start moves k n b) (sym f) g2 in
      let same : g3.holder ≡ h.holder = one_some (holder_solid_of job) g3.holder h.holder g3.mounted h.mounted in
      let q : a ≡ b = leaf_is_one h.holder.cutter (lifted h.holder (move_at moves k)) (tri_at part t) a b h.fails (subst (λ (v : Solid). SolidFailsAt v (move_at moves k) (tri_at part t) b) same g3.fails) in
      ap (λ (n : ℕ). Holder n t a) e ∙ ap (λ (n : ℕ). Holder l n a) f ∙ ap (λ (x : Leaf). Holder l u x) q

  same_fixture : (k l b c : ℕ) (x y : Leaf) → k ≡ l → FailsFixtureOn job part start moves k b x → FailsFixtureOn job part start moves l c y → Fixture k b x ≡ Fixture l c y
  same_fixture k l b c x y e h g =
      let g2 : FailsFixtureOn job part start moves k c y = subst (λ (n : ℕ). FailsFixtureOn job part start moves n c y) (sym e) g in
      let f : b ≡ c = one_fixture k b c x y h g2 in
      let g3 : FailsFixtureOn job part start moves k b y = subst (λ (n : ℕ). FailsFixtureOn job part start moves k n y) (sym f) g2 in
      let q : x ≡ y = one_leaf (outer_of job) (move_at moves k) (fixture_at job.keep_out b) x y h.fails g3.fails in
      ap (λ (n : ℕ). Fixture n b x) e ∙ ap (λ (n : ℕ). Fixture l n x) f ∙ ap (λ (v : Leaf). Fixture l c v) q

  same_held_fixture : (k l b c : ℕ) (x y : Leaf) → k ≡ l → FailsHolderFixtureOn job part start moves k b x → FailsHolderFixtureOn job part start moves l c y → HolderFixture k b x ≡ HolderFixture l c y
  same_held_fixture k l b c x y e h g =
      let g2 : FailsHolderFixtureOn job part start moves k c y = subst (λ (n : ℕ). FailsHolderFixtureOn job part start moves n c y) (sym e) g in
      let f : b ≡ c = one_held_fixture k b c x y h g2 in
      let g3 : FailsHolderFixtureOn job part start moves k b y = subst (λ (n : ℕ). FailsHolderFixtureOn job part start moves k n y) (sym f) g2 in
      let same : g3.holder ≡ h.holder = one_some (holder_solid_of job) g3.holder h.holder g3.mounted h.mounted in
      let q : x ≡ y = one_leaf h.holder (move_at moves k) (fixture_at job.keep_out b) x y h.fails (subst (λ (v : Solid). FailsFixture v (move_at moves k) (fixture_at job.keep_out b) y) same g3.fails) in
      ap (λ (n : ℕ). HolderFixture n b x) e ∙ ap (λ (n : ℕ). HolderFixture l n x) f ∙ ap (λ (v : Leaf). HolderFixture l c v) q

  same_held_stock : (k l j i c d : ℕ) (a b : Leaf) → k ≡ l → FailsHolderStockOn job part start moves k j i a → FailsHolderStockOn job part start moves l c d b → HolderStock k j i a ≡ HolderStock l c d b
  same_held_stock k l j i c d a b e h g =
      let g2 : FailsHolderStockOn job part start moves k c d b = subst (λ (n : ℕ). FailsHolderStockOn job part start moves n c d b) (sym e) g in
      let f = one_held_column k j i c d a b h g2 in
      let g3 : FailsHolderStockOn job part start moves k j d b = subst (λ (n : ℕ). FailsHolderStockOn job part start moves k n d b) (sym f.0) g2 in
      let g4 : FailsHolderStockOn job part start moves k j i b = subst (λ (n : ℕ). FailsHolderStockOn job part start moves k j n b) (sym f.1) g3 in
      let same : g4.holder ≡ h.holder = one_some (holder_solid_of job) g4.holder h.holder g4.mounted h.mounted in
      let tri = point_tri (top_point_on job (stock_met job start moves k) j i) in
      let q : a ≡ b = leaf_is_one h.holder.cutter (lifted h.holder (move_at moves k)) tri a b h.fails (subst (λ (v : Solid). SolidFailsAt v (move_at moves k) tri b) same g4.fails) in
      ap (λ (n : ℕ). HolderStock n j i a) e ∙ ap (λ (n : ℕ). HolderStock l n i a) f.0 ∙ ap (λ (n : ℕ). HolderStock l c n a) f.1 ∙ ap (λ (x : Leaf). HolderStock l c d x) q

  -- no move is tested both as a Rapid and as a Feed
  two_kinds : (k l j i c d : ℕ) (a b : Leaf) → FailsStockOn job part start moves Rapid k j i a → FailsStockOn job part start moves Feed l c d b → ⊥
  two_kinds k l j i c d a b h g =
      let same : k ≡ l = one_stop k l (stops_stock Rapid k j i a h) (stops_stock Feed l c d b g) in
      not_alike (sym h.is ∙ ap (λ (n : ℕ). tested_as (move_at moves n).kind) same ∙ g.is)

  same_left : (j i c d : ℕ) (s t : ℤ) → FailsCutOn job part start moves j i s → FailsCutOn job part start moves c d t → Left j i s ≡ Left c d t
  same_left j i c d s t h g =
      let f = one_uncut j i c d s t h g in
      let g3 : FailsCutOn job part start moves j d t = subst (λ (n : ℕ). FailsCutOn job part start moves n d t) (sym f.0) g in
      let g4 : FailsCutOn job part start moves j i t = subst (λ (n : ℕ). FailsCutOn job part start moves j n t) (sym f.1) g3 in
      ap (λ (n : ℕ). Left n i s) f.0 ∙ ap (λ (n : ℕ). Left c n s) f.1 ∙ ap (λ (x : ℤ). Left c d x) (h.shown ∙ sym g4.shown)

  -- a move that fails one test first doesn't fail a later one first
  no_floor : (k l : ℕ) → FailsFloorOn job part start moves k → Stops l → IsOverFloor job moves l → ⊥
  no_floor k l h stop over = h.fails (subst (λ (n : ℕ). IsOverFloor job moves n) (one_stop l k stop (stops_floor k h)) over)

  no_part : (k l t : ℕ) (a : Leaf) → FailsPartOn job part start moves k t a → Stops l → ClearsPart job part moves l → ⊥
  no_part k l t a h stop clears = h.fails.fails (subst (λ (n : ℕ). ClearsPart job part moves n) (one_stop l k stop (stops_part k t a h)) clears t h.tri)

  no_held : (k l t : ℕ) (a : Leaf) → FailsHolderOn job part start moves k t a → Stops l → HolderClearsPart job part moves l → ⊥
  no_held k l t a h stop clears = held_fails k t a h (subst (λ (n : ℕ). HolderClearsPart job part moves n) (one_stop l k stop (stops_held k t a h)) clears)

  no_fixture : (k l b : ℕ) (x : Leaf) → FailsFixtureOn job part start moves k b x → Stops l → ClearsFixtures job moves l → ⊥
  no_fixture k l b x h stop clears =
      fixture_fails (outer_of job) (move_at moves k) (fixture_at job.keep_out b) x h.fails (subst (λ (n : ℕ). ClearsFixtures job moves n) (one_stop l k stop (stops_fixture k b x h)) clears b h.fixture)

  no_held_fixture : (k l b : ℕ) (x : Leaf) → FailsHolderFixtureOn job part start moves k b x → Stops l → HolderClearsFixtures job moves l → ⊥
  no_held_fixture k l b x h stop clears = held_hits k b x h (subst (λ (n : ℕ). HolderClearsFixtures job moves n) (one_stop l k stop (stops_held_fixture k b x h)) clears)

  no_stock : (kind : Kind) (k l j i : ℕ) (a : Leaf) → FailsStockOn job part start moves kind k j i a → Stops l → ClearsStockOn job start moves l → ⊥
  no_stock kind k l j i a h stop clears =
      h.fails.fails (clears_as job start moves kind k h.is (subst (λ (n : ℕ). ClearsStockOn job start moves n) (one_stop l k stop (stops_stock kind k j i a h)) clears) h.tested j i h.column)

  same_at : (kind : Kind) (k l j i c d : ℕ) (a b : Leaf) → FailsStockOn job part start moves kind k j i a → FailsStockOn job part start moves kind l c d b
      → cut_reason kind k j i a ≡ cut_reason kind l c d b
  same_at kind k l j i c d a b h g = same_stock kind k l j i c d a b (one_stop k l (stops_stock kind k j i a h) (stops_stock kind l c d b g)) h g

  pub one_reason : (r s : Reason) → IsRejectionOn job part start moves r → IsRejectionOn job part start moves s → r ≡ s
  one_reason (Floor k) (Floor l) h g = ap (λ (n : ℕ). Floor n) (one_stop k l (stops_floor k h) (stops_floor l g))
  one_reason (Floor k) (Gouge l u b) h g = absurd (no_floor k l h (stops_part l u b g) g.floor)
  one_reason (Floor k) (Holder l u b) h g = absurd (no_floor k l h (stops_held l u b g) g.floor)
  one_reason (Floor k) (Fixture l u b) h g = absurd (no_floor k l h (stops_fixture l u b g) g.floor)
  one_reason (Floor k) (HolderFixture l u b) h g = absurd (no_floor k l h (stops_held_fixture l u b g) g.floor)
  one_reason (Floor k) (RapidCut l c d b) h g = absurd (no_floor k l h (stops_stock Rapid l c d b g) g.floor)
  one_reason (Floor k) (Cut l c d b) h g = absurd (no_floor k l h (stops_stock Feed l c d b g) g.floor)
  one_reason (Floor k) (HolderStock l c d b) h g = absurd (no_floor k l h (stops_held_stock l c d b g) g.floor)
  one_reason (Floor k) (Left c d z) h g = absurd (no_stop k (stops_floor k h) g.before)
  one_reason (Gouge k t a) (Floor l) h g = absurd (no_floor l k g (stops_part k t a h) h.floor)
  one_reason (Gouge k t a) (Gouge l u b) h g = same_gouge k l t u a b (one_stop k l (stops_part k t a h) (stops_part l u b g)) h g
  one_reason (Gouge k t a) (Holder l u b) h g = absurd (no_part k l t a h (stops_held l u b g) g.clears)
  one_reason (Gouge k t a) (Fixture l u b) h g = absurd (no_part k l t a h (stops_fixture l u b g) g.clears)
  one_reason (Gouge k t a) (HolderFixture l u b) h g = absurd (no_part k l t a h (stops_held_fixture l u b g) g.clears)
  one_reason (Gouge k t a) (RapidCut l c d b) h g = absurd (no_part k l t a h (stops_stock Rapid l c d b g) g.clears)
  one_reason (Gouge k t a) (Cut l c d b) h g = absurd (no_part k l t a h (stops_stock Feed l c d b g) g.clears)
  one_reason (Gouge k t a) (HolderStock l c d b) h g = absurd (no_part k l t a h (stops_held_stock l c d b g) g.clears)
  one_reason (Gouge k t a) (Left c d z) h g = absurd (no_stop k (stops_part k t a h) g.before)
  one_reason (Holder k t a) (Floor l) h g = absurd (no_floor l k g (stops_held k t a h) h.floor)
  one_reason (Holder k t a) (Gouge l u b) h g = absurd (no_part l k u b g (stops_held k t a h) h.clears)
  one_reason (Holder k t a) (Holder l u b) h g = same_held k l t u a b (one_stop k l (stops_held k t a h) (stops_held l u b g)) h g
  one_reason (Holder k t a) (Fixture l u b) h g = absurd (no_held k l t a h (stops_fixture l u b g) g.holder)
  one_reason (Holder k t a) (HolderFixture l u b) h g = absurd (no_held k l t a h (stops_held_fixture l u b g) g.holder_clears)
  one_reason (Holder k t a) (RapidCut l c d b) h g = absurd (no_held k l t a h (stops_stock Rapid l c d b g) g.holder)
  one_reason (Holder k t a) (Cut l c d b) h g = absurd (no_held k l t a h (stops_stock Feed l c d b g) g.holder)
  one_reason (Holder k t a) (HolderStock l c d b) h g = absurd (no_held k l t a h (stops_held_stock l c d b g) g.holder_clears)
  one_reason (Holder k t a) (Left c d z) h g = absurd (no_stop k (stops_held k t a h) g.before)
  one_reason (Fixture k t a) (Floor l) h g = absurd (no_floor l k g (stops_fixture k t a h) h.floor)
  one_reason (Fixture k t a) (Gouge l u b) h g = absurd (no_part l k u b g (stops_fixture k t a h) h.clears)
  one_reason (Fixture k t a) (Holder l u b) h g = absurd (no_held l k u b g (stops_fixture k t a h) h.holder)
  one_reason (Fixture k t a) (Fixture l u b) h g = same_fixture k l t u a b (one_stop k l (stops_fixture k t a h) (stops_fixture l u b g)) h g
  one_reason (Fixture k t a) (HolderFixture l u b) h g = absurd (no_fixture k l t a h (stops_held_fixture l u b g) g.fixtures)
  one_reason (Fixture k t a) (RapidCut l c d b) h g = absurd (no_fixture k l t a h (stops_stock Rapid l c d b g) g.fixtures)
  one_reason (Fixture k t a) (Cut l c d b) h g = absurd (no_fixture k l t a h (stops_stock Feed l c d b g) g.fixtures)
  one_reason (Fixture k t a) (HolderStock l c d b) h g = absurd (no_fixture k l t a h (stops_held_stock l c d b g) g.fixtures)
  one_reason (Fixture k t a) (Left c d z) h g = absurd (no_stop k (stops_fixture k t a h) g.before)
  one_reason (HolderFixture k t a) (Floor l) h g = absurd (no_floor l k g (stops_held_fixture k t a h) h.floor)
  one_reason (HolderFixture k t a) (Gouge l u b) h g = absurd (no_part l k u b g (stops_held_fixture k t a h) h.clears)
  one_reason (HolderFixture k t a) (Holder l u b) h g = absurd (no_held l k u b g (stops_held_fixture k t a h) h.holder_clears)
  one_reason (HolderFixture k t a) (Fixture l u b) h g = absurd (no_fixture l k u b g (stops_held_fixture k t a h) h.fixtures)
  one_reason (HolderFixture k t a) (HolderFixture l u b) h g = same_held_fixture k l t u a b (one_stop k l (stops_held_fixture k t a h) (stops_held_fixture l u b g)) h g
  one_reason (HolderFixture k t a) (RapidCut l c d b) h g = absurd (no_held_fixture k l t a h (stops_stock Rapid l c d b g) g.holder_fixtures)
  one_reason (HolderFixture k t a) (Cut l c d b) h g = absurd (no_held_fixture k l t a h (stops_stock Feed l c d b g) g.holder_fixtures)
  one_reason (HolderFixture k t a) (HolderStock l c d b) h g = absurd (no_held_fixture k l t a h (stops_held_stock l c d b g) g.holder_fixtures)
  one_reason (HolderFixture k t a) (Left c d z) h g = absurd (no_stop k (stops_held_fixture k t a h) g.before)
  one_reason (RapidCut k j i a) (Floor l) h g = absurd (no_floor l k g (stops_stock Rapid k j i a h) h.floor)
  one_reason (RapidCut k j i a) (Gouge l u b) h g = absurd (no_part l k u b g (stops_stock Rapid k j i a h) h.clears)
  one_reason (RapidCut k j i a) (Holder l u b) h g = absurd (no_held l k u b g (stops_stock Rapid k j i a h) h.holder)
  one_reason (RapidCut k j i a) (Fixture l u b) h g = absurd (no_fixture l k u b g (stops_stock Rapid k j i a h) h.fixtures)
  one_reason (RapidCut k j i a) (HolderFixture l u b) h g = absurd (no_held_fixture l k u b g (stops_stock Rapid k j i a h) h.holder_fixtures)
  one_reason (RapidCut k j i a) (RapidCut l c d b) h g = same_at Rapid k l j i c d a b h g
  one_reason (RapidCut k j i a) (Cut l c d b) h g = absurd (two_kinds k l j i c d a b h g)
  one_reason (RapidCut k j i a) (HolderStock l c d b) h g = absurd (no_stock Rapid k l j i a h (stops_held_stock l c d b g) g.stock)
  one_reason (RapidCut k j i a) (Left c d z) h g = absurd (no_stop k (stops_stock Rapid k j i a h) g.before)
  one_reason (Cut k j i a) (Floor l) h g = absurd (no_floor l k g (stops_stock Feed k j i a h) h.floor)
  one_reason (Cut k j i a) (Gouge l u b) h g = absurd (no_part l k u b g (stops_stock Feed k j i a h) h.clears)
  one_reason (Cut k j i a) (Holder l u b) h g = absurd (no_held l k u b g (stops_stock Feed k j i a h) h.holder)
  one_reason (Cut k j i a) (Fixture l u b) h g = absurd (no_fixture l k u b g (stops_stock Feed k j i a h) h.fixtures)
  one_reason (Cut k j i a) (HolderFixture l u b) h g = absurd (no_held_fixture l k u b g (stops_stock Feed k j i a h) h.holder_fixtures)
  one_reason (Cut k j i a) (RapidCut l c d b) h g = absurd (two_kinds l k c d j i b a g h)
  one_reason (Cut k j i a) (Cut l c d b) h g = same_at Feed k l j i c d a b h g
  one_reason (Cut k j i a) (HolderStock l c d b) h g = absurd (no_stock Feed k l j i a h (stops_held_stock l c d b g) g.stock)
  one_reason (Cut k j i a) (Left c d z) h g = absurd (no_stop k (stops_stock Feed k j i a h) g.before)
  one_reason (HolderStock k j i a) (Floor l) h g = absurd (no_floor l k g (stops_held_stock k j i a h) h.floor)
  one_reason (HolderStock k j i a) (Gouge l u b) h g = absurd (no_part l k u b g (stops_held_stock k j i a h) h.clears)
  one_reason (HolderStock k j i a) (Holder l u b) h g = absurd (no_held l k u b g (stops_held_stock k j i a h) h.holder_clears)
  one_reason (HolderStock k j i a) (Fixture l u b) h g = absurd (no_fixture l k u b g (stops_held_stock k j i a h) h.fixtures)
  one_reason (HolderStock k j i a) (HolderFixture l u b) h g = absurd (no_held_fixture l k u b g (stops_held_stock k j i a h) h.holder_fixtures)
  one_reason (HolderStock k j i a) (RapidCut l c d b) h g = absurd (no_stock Rapid l k c d b g (stops_held_stock k j i a h) h.stock)
  one_reason (HolderStock k j i a) (Cut l c d b) h g = absurd (no_stock Feed l k c d b g (stops_held_stock k j i a h) h.stock)
  one_reason (HolderStock k j i a) (HolderStock l c d b) h g = same_held_stock k l j i c d a b (one_stop k l (stops_held_stock k j i a h) (stops_held_stock l c d b g)) h g
  one_reason (HolderStock k j i a) (Left c d z) h g = absurd (no_stop k (stops_held_stock k j i a h) g.before)
  one_reason (Left j i s) (Floor l) h g = absurd (no_stop l (stops_floor l g) h.before)
  one_reason (Left j i s) (Gouge l u b) h g = absurd (no_stop l (stops_part l u b g) h.before)
  one_reason (Left j i s) (Holder l u b) h g = absurd (no_stop l (stops_held l u b g) h.before)
  one_reason (Left j i s) (Fixture l u b) h g = absurd (no_stop l (stops_fixture l u b g) h.before)
  one_reason (Left j i s) (HolderFixture l u b) h g = absurd (no_stop l (stops_held_fixture l u b g) h.before)
  one_reason (Left j i s) (RapidCut l c d b) h g = absurd (no_stop l (stops_stock Rapid l c d b g) h.before)
  one_reason (Left j i s) (Cut l c d b) h g = absurd (no_stop l (stops_stock Feed l c d b g) h.before)
  one_reason (Left j i s) (HolderStock l c d b) h g = absurd (no_stop l (stops_held_stock l c d b g) h.before)
  one_reason (Left j i s) (Left c d z) h g = same_left j i c d s z h g

  -- where a move is rejected not all are good
  pub moves_fail : (r : Reason) → IsOfMove r → IsRejectionOn job part start moves r → GoodBeforeOn job part start moves (length moves) → ⊥
  moves_fail (Floor l) of_move h good = no_stop l (stops_floor l h) good
  moves_fail (Gouge l u b) of_move h good = no_stop l (stops_part l u b h) good
  moves_fail (Holder l u b) of_move h good = no_stop l (stops_held l u b h) good
  moves_fail (Fixture l u b) of_move h good = no_stop l (stops_fixture l u b h) good
  moves_fail (HolderFixture l u b) of_move h good = no_stop l (stops_held_fixture l u b h) good
  moves_fail (RapidCut l c d b) of_move h good = no_stop l (stops_stock Rapid l c d b h) good
  moves_fail (Cut l c d b) of_move h good = no_stop l (stops_stock Feed l c d b h) good
  moves_fail (HolderStock l c d b) of_move h good = no_stop l (stops_held_stock l c d b h) good
  moves_fail (Left c d z) of_move h good = of_move

  not_both : (count columns : ℕ) (left : ℤ) (r : Reason) → AcceptsOn job part start moves count columns left → IsRejectionOn job part start moves r → ⊥
  not_both count columns left (Floor l) h g = moves_fail (Floor l) tt g h.good
  not_both count columns left (Gouge l u b) h g = moves_fail (Gouge l u b) tt g h.good
  not_both count columns left (Holder l u b) h g = moves_fail (Holder l u b) tt g h.good
  not_both count columns left (Fixture l u b) h g = moves_fail (Fixture l u b) tt g h.good
  not_both count columns left (HolderFixture l u b) h g = moves_fail (HolderFixture l u b) tt g h.good
  not_both count columns left (RapidCut l c d b) h g = moves_fail (RapidCut l c d b) tt g h.good
  not_both count columns left (Cut l c d b) h g = moves_fail (Cut l c d b) tt g h.good
  not_both count columns left (HolderStock l c d b) h g = moves_fail (HolderStock l c d b) tt g h.good
  not_both count columns left (Left c d z) h g = g.fails (h.cut c d g.column)

  one_accept : (n m c d : ℕ) (x y : ℤ) → AcceptsOn job part start moves n c x → AcceptsOn job part start moves m d y → Accept n c x ≡ Accept m d y
  one_accept n m c d x y h g =
      let e : x ≡ y = most_is_one job part (stock_after job start moves) x y h.most g.most in
      ap (λ (z : ℕ). Accept z c x) (h.all_moves ∙ sym g.all_moves) ∙ ap (λ (z : ℕ). Accept m z x) (h.all_columns ∙ sym g.all_columns) ∙ ap (λ (z : ℤ). Accept m d z) e

  -- two verdicts on the same moves are equal
  pub one_verdict : (v w : Verdict) → IsVerdictOn job part start moves v → IsVerdictOn job part start moves w → v ≡ w
  one_verdict (Accept n c x) (Accept m d y) h g = one_accept n m c d x y h g
  one_verdict (Accept n c x) (Reject r) h g = absurd (not_both n c x r h g)
  one_verdict (Reject r) (Accept n c x) h g = absurd (not_both n c x r g h)
  one_verdict (Reject r) (Reject s) h g = ap (λ (z : Reason). Reject z) (one_reason r s h g)
