-- Fixtures against a move: which need not be tried, and the first that a solid doesn't pass.
use Rattle.std.specs.Prelude.{◌≡◌, ℕ, ◌+◌, ◌<◌, ◌≤◌, ℤ, ◌<ℤ◌, ◌≤ℤ◌, List, length, slice_index_or, Option, Some, None, MatchOption}
use Rattle.std.proofs.Common.{inl, inr, subst, arith}
use Rattle.std.proofs.lemmas.Bool.{cases_lt}
use Rattle.std.proofs.lemmas.Int.{ints}
use Rattle.std.proofs.lemmas.List.{get_or_default}
use Rattle.mill_base.specs.Numbers.{greater, lesser}
use Rattle.mill_base.specs.Solids.{Solid, lifted}
use Rattle.mill_base.specs.declared.motion.Move.{Move}
use Rattle.mill_base.specs.declared.points.Box2.{Box2}
use Rattle.mill_base.specs.declared.points.Tri.{Tri}
use Rattle.mill_base.specs.declared.unit.Unit.{Unit}
use Rattle.mill_cells.specs.Boxes.{IsIn, Meet, box_of}
use Rattle.mill_job.specs.Fixtures.{IsFixture}
use Rattle.mill_job.specs.declared.fixtures.Fixture.{Fixture}
use Rattle.mill_sweep.specs.Passing.{FailsAt, IsBlocked, Passes}
use Rattle.mill_sweep.specs.Apart.{low_end_of}
use Rattle.mill_sweep.specs.Sweeps.{Swept}
use Rattle.mill_sweep.specs.declared.leaf.Leaf.{Leaf}
use Rattle.mill_sweep.proofs.Solids.{out_of_reach_passes}
use Rattle.mill_obstacles.specs.Faces.{first_half, second_half}
use Rattle.mill_obstacles.proofs.FaceLemmas.{first_in_range, second_in_range}
use Rattle.mill_verify.specs.Fixtures.{BlocksSolid, FailsFixture, PassesFixture, fixture_at}
use Rattle.mill_verify.specs.inner.Reaches.{IsReach}

least : (a b c x : ℤ) → a ≤ℤ b → a ≤ℤ c → lesser a (lesser b c) ≤ℤ x → a ≤ℤ x
least a b c x h k g = grind (h, k, g, arith, ints)

most : (a b c x d : ℤ) → a ≤ℤ d → b ≤ℤ d → c ≤ℤ d → x ≤ℤ greater a (greater b c) → x ≤ℤ d
most a b c x d h k g i = grind (h, k, g, i, arith, ints)

flat_top : (z low : ℤ) → z ≤ℤ low → greater z (greater z z) ≤ℤ low
flat_top z low h = grind (h, arith, ints)

same : (a : ℤ) → a ≤ℤ a
same a = omega (arith, ints)

-- boxes that lie apart, in x or in y, don't meet
pub apart_x : (one other : Box2) → other.x1 <ℤ one.x0 → ¬ Meet one other
apart_x one other apart meet = let a = meet.in_first.right in let b = meet.in_second.left in omega (a, b, apart, arith, ints)

pub apart_y : (one other : Box2) → other.y1 <ℤ one.y0 → ¬ Meet one other
apart_y one other apart meet = let a = meet.in_first.over in let b = meet.in_second.under in omega (a, b, apart, arith, ints)

pub turned : (one other : Box2) → ¬ Meet other one → ¬ Meet one other
turned one other apart meet = apart (record { x = meet.x; y = meet.y; in_first = meet.in_second; in_second = meet.in_first })

module _ (unit : Unit) (f : Fixture) (ok : IsFixture unit f) where
  -- their boxes lie in the fixture's area
  first_in : (x y : ℤ) → IsIn (box_of (first_half f)) x y → IsIn f.area x y
  first_in x y i =
      let wide = ok.area_ok.x_order in let deep = ok.area_ok.y_order in
      record {
        right = least f.area.x0 f.area.x1 f.area.x1 x wide wide i.right;
        left = most f.area.x0 f.area.x1 f.area.x1 x f.area.x1 wide (same f.area.x1) (same f.area.x1) i.left;
        over = least f.area.y0 f.area.y0 f.area.y1 y (same f.area.y0) deep i.over;
        under = most f.area.y0 f.area.y0 f.area.y1 y f.area.y1 deep deep (same f.area.y1) i.under;
      }

  second_in : (x y : ℤ) → IsIn (box_of (second_half f)) x y → IsIn f.area x y
  second_in x y i =
      let wide = ok.area_ok.x_order in let deep = ok.area_ok.y_order in
      record {
        right = least f.area.x0 f.area.x1 f.area.x0 x wide (same f.area.x0) i.right;
        left = most f.area.x0 f.area.x1 f.area.x0 x f.area.x1 wide (same f.area.x1) wide i.left;
        over = least f.area.y0 f.area.y1 f.area.y1 y deep deep i.over;
        under = most f.area.y0 f.area.y1 f.area.y1 y f.area.y1 deep (same f.area.y1) (same f.area.y1) i.under;
      }

  module _ (solid : Solid) (m : Move) (area : Box2) (low : ℤ) (reach : IsReach solid m area low) where
    -- a fixture that doesn't come over the lower end of the solid's way is passed
    pub low_passes : f.height ≤ℤ low → PassesFixture solid m f
    low_passes under =
        let high = subst (λ (z : ℤ). f.height ≤ℤ z) reach.low_is under in
        record {
          first = out_of_reach_passes solid m (first_half f) reach.solid_ok reach.move_ok (first_in_range unit f ok) (inr (flat_top f.height (low_end_of (lifted solid m)) high));
          second = out_of_reach_passes solid m (second_half f) reach.solid_ok reach.move_ok (second_in_range unit f ok) (inr (flat_top f.height (low_end_of (lifted solid m)) high));
        }

    -- and so is one that doesn't meet the area about it
    pub far_passes : ¬ Meet f.area area → PassesFixture solid m f
    far_passes far =
        let apart = subst (λ (b : Box2). ¬ Meet f.area b) reach.area_is far in
        record {
          first = out_of_reach_passes solid m (first_half f) reach.solid_ok reach.move_ok (first_in_range unit f ok)
              (inl (λ meet. apart (record { x = meet.x; y = meet.y; in_first = first_in meet.x meet.y meet.in_first; in_second = meet.in_second })));
          second = out_of_reach_passes solid m (second_half f) reach.solid_ok reach.move_ok (second_in_range unit f ok)
              (inl (λ meet. apart (record { x = meet.x; y = meet.y; in_first = second_in meet.x meet.y meet.in_first; in_second = meet.in_second })));
        }

-- a fact about the fixture that was read
pub at_fixture : (P : Fixture → Type 0) (fixtures : List Fixture) (b : ℕ) (d : Fixture) → b < length fixtures → P (slice_index_or fixtures b d) → P (fixture_at fixtures b)
at_fixture P fixtures b d there p = subst P (get_or_default fixtures b d _ there) p

-- the fixtures passed so far, and one more
pub passes_more : (solid : Solid) (m : Move) (fixtures : List Fixture) (n : ℕ) → ((b : ℕ) → b < n → PassesFixture solid m (fixture_at fixtures b)) → PassesFixture solid m (fixture_at fixtures n)
    → (b : ℕ) → b < n + 1 → PassesFixture solid m (fixture_at fixtures b)
passes_more solid m fixtures n before here b under = elim (cases_lt b n) [
  | inl less ↦ before b less
  | inr rest ↦ subst (λ (k : ℕ). PassesFixture solid m (fixture_at fixtures k)) (is rest under) here
]
  where
    is : n ≤ b → b < n + 1 → n ≡ b
    is low high = omega (low, high, arith)

-- what a sweep of the solid says of a triangle
abbrev pub Tells : Swept → Tri → Leaf → Type 0
Tells swept tri leaf = FailsAt swept.cutter swept.move tri leaf × IsBlocked swept.cutter swept.move tri leaf

module _ (solid : Solid) (m : Move) (f : Fixture) (swept : Swept) where
  -- the first triangle's leaf
  pub first_fails : (leaf : Leaf) → swept ≡ record { cutter = solid.cutter; move = lifted solid m } → Tells swept (first_half f) leaf → FailsFixture solid m f leaf × BlocksSolid solid m f leaf
  first_fails leaf is told = let t = subst (λ (s : Swept). Tells s (first_half f) leaf) is told in (inl t.0, inl t.1)

  -- and what is told of the second, where the first is passed
  pub second_told : (o : Option Leaf) → swept ≡ record { cutter = solid.cutter; move = lifted solid m } → Passes swept.cutter swept.move (first_half f)
      → MatchOption o (Passes swept.cutter swept.move (second_half f)) (Tells swept (second_half f))
      → MatchOption o (PassesFixture solid m f) (λ leaf. FailsFixture solid m f leaf × BlocksSolid solid m f leaf)
  second_told None is first told = record {
    first = subst (λ (s : Swept). Passes s.cutter s.move (first_half f)) is first;
    second = subst (λ (s : Swept). Passes s.cutter s.move (second_half f)) is told;
  }
  second_told (Some leaf) is first told =
      let t = subst (λ (s : Swept). Tells s (second_half f) leaf) is told in (inr (subst (λ (s : Swept). Passes s.cutter s.move (first_half f)) is first, t.0), inr t.1)
