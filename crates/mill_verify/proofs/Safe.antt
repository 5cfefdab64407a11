-- An accepted program cuts safely, wherever within the slack the machine's own tip is, by the laws of the layers below.
use Rattle.std.specs.Prelude.{◌≡◌, ℕ, ◌+◌, ◌<◌, ℤ, pos, ◌-ℤ◌, ◌+ℤ◌, ◌*ℤ◌, ◌<ℤ◌, ◌≤ℤ◌, List, Contains, length, take, drop, slice_index_or, [], ◌∷◌, zero, suc, negsuc, int_lt, Bool, true, false, Some, refl}
use Rattle.std.proofs.Common.{sym, subst, ap, inl, inr, arith, ◌∙◌}
use Rattle.std.proofs.lemmas.Int.{ints}
use lib.IntN.{*ℤ_comm}
use borrow.Author.Differences.{same_in}
use Rattle.std.proofs.lemmas.List.{get_or_read, take-append-drop, take_more}
use Rattle.std.proofs.lemmas.List.Elements.{Contains-append_left}
use Rattle.mill_base.specs.declared.points.Pt3.{Pt3}
use Rattle.mill_base.specs.declared.points.Tri.{Tri}
use Rattle.mill_base.specs.declared.motion.Move.{Move}
use Rattle.mill_base.specs.declared.motion.Kind.{Kind}
use Rattle.mill_base.specs.declared.motion.Kind.TheVariants.{Rapid}
use Rattle.mill_base.specs.Numbers.{square}
use Rattle.mill_base.proofs.Tips.{tip_some}
use Rattle.mill_base.specs.Motion.{IsTipOf}
use Rattle.mill_base.specs.Solids.{IsSolid, Solid, SolidGouges, SolidHolds, at_tip, solid_tip}
use Rattle.mill_base.specs.Sizes.{IsCutter}
use Rattle.mill_base.specs.Contact.{Holds, HoldsOver}
use Rattle.mill_base.specs.Covers.{CoveredBelow, HasPointOver}
use Rattle.mill_base.specs.Ranges.{IsInRange, MoveInRange, MovesInRange}
use Rattle.mill_base.specs.declared.limits.TheConstants.{MAX_COORDINATE}
use Rattle.mill_sweep.specs.Moments.{PassingIsClear, PassingKeepsPoint}
use Rattle.mill_sweep.specs.Solids.{SolidPasses, SolidPassesPoint}
use Rattle.mill_margin.specs.Laws.{GrownHolds}
use Rattle.mill_margin.specs.Margins.{grown}
use Rattle.mill_job.specs.declared.fields.JobFields.{JobFields}
use Rattle.mill_job.specs.Jobs.{IsJob}
use Rattle.mill_job.specs.Slack.{graze_of}
use Rattle.mill_job.specs.Solids.{held_with, holder_solid_of, part_solid_of, stock_solid_of}
use Rattle.mill_job.specs.Columns.{IsColumn, column_x, column_y}
use Rattle.mill_job.proofs.SolidFacts.{graze_core_ok, holder_solid_ok, outer_ok, overcut_core_ok, part_solid_ok, stock_solid_ok}
use Rattle.mill_gouge.specs.Gouges.{PassesPart}
use Rattle.mill_job.specs.declared.fixtures.Fixture.{Fixture}
use Rattle.mill_obstacles.specs.Faces.{first_half, second_half}
use Rattle.mill_verify.specs.Fixtures.{PassesFixture, PassesFixtures, fixture_at}
use Rattle.mill_verify.proofs.Faces.{touches_face}
use Rattle.mill_dexel.specs.Stocks.{IsStockOf}
use Rattle.mill_dexel.specs.Tops.{Stock, stock_after, tested_height, tested_point_on, top_after_move, top_on, top_point_on, uncut}
use Rattle.mill_dexel.specs.Laws.{OverTopIsRemoved, PassedIsLeft}
use Rattle.mill_dexel.proofs.RowLaws.{top_on_more}
use Rattle.mill_dexel.proofs.TopLaws.{stock_stays, uncut_stays}
use Rattle.mill_base.proofs.Ranges.{within_of_unit}
use Rattle.mill_verify.proofs.Mounted.{if_some, of_some}
use Rattle.mill_verify.proofs.Ranges.{column_within, stock_within}
use Rattle.mill_verify.proofs.Depths.{as_rapid, clears_as, tested_deep, tested_each, tested_high, tested_within}
use Rattle.mill_verify.specs.Tests.{GoodBeforeOn, IsCutOn, PassesColumnOn, stock_met}
use Rattle.mill_dexel.specs.Turns.{move_at}
use Rattle.mill_base.specs.Points.{point_at, tri_at}
use Rattle.mill_verify.specs.Verdicts.{AcceptsOn}
use Rattle.mill_verify.specs.Claims.{AreCovered, CutsSafely, HolderKeepsClearOf, HolderStaysClear, IsColumnPoint, IsPointOfFixture, IsRealTip, KeepsDepthOn, KeepsOff, KeepsOut, KeepsPart, LeavesPoint, NeverGouges, Points, PointsMet, RapidsMiss, column_point, core, left_before}

not_over : (a b : ℤ) → ¬ (a <ℤ b) → b ≤ℤ a
not_over a b h = by (int_lt a b) refl
  where
    by : (t : Bool) → int_lt a b ≡ t → b ≤ℤ a
    by true e = absurd (h (omega (e, arith, ints)))
    by false e = omega (e, arith, ints)

move_is : (moves : List Move) (k : ℕ) (m : Move) → k < length moves → slice_index_or moves k m ≡ m → m ≡ move_at moves k
move_is moves k m h e = get_or_read moves k m h (sym e) _

tri_is : (part : List Tri) (t : ℕ) (tri : Tri) → t < length part → slice_index_or part t tri ≡ tri → tri ≡ tri_at part t
tri_is part t tri h e = get_or_read part t tri h (sym e) _

fixture_is : (fixtures : List Fixture) (b : ℕ) (f : Fixture) → b < length fixtures → slice_index_or fixtures b f ≡ f → f ≡ fixture_at fixtures b
fixture_is fixtures b f h e = get_or_read fixtures b f h (sym e) _

any_default : (ms : List Move) (n : ℕ) (d e : Move) → n < length ms → slice_index_or ms n d ≡ slice_index_or ms n e
any_default [] n d e h = absurd (omega (h, arith))
any_default (m ∷ ms) zero d e h = refl
any_default (m ∷ ms) (suc n) d e h = any_default ms n d e (omega (h, arith))

-- the square sum isn't negative
sq : (a : ℤ) → (pos 0) ≤ℤ square a
sq (pos n) = omega (arith, ints)
sq (negsuc n) = omega (arith, ints)

times_none : (n : ℤ) → n *ℤ pos 0 ≡ pos 0
times_none n = *ℤ_comm n (pos 0) ∙ zero-mul n
  where
    zero-mul : (a : ℤ) → pos 0 *ℤ a ≡ pos 0
    zero-mul a = same_in _ _ (omega (arith, ints))

none : (n : ℤ) → square (n *ℤ pos 0) ≤ℤ pos 0
none n = subst (λ (v : ℤ). square v ≤ℤ pos 0) (sym (times_none n)) (omega (arith, ints))

no_distance : (a b n : ℤ) → (square a +ℤ square b) <ℤ square (n *ℤ pos 0) → ⊥
no_distance a b n h = no_less (square a) (square b) (square (n *ℤ pos 0)) (sq a) (sq b) (none n) h
  where
    no_less : (a b c : ℤ) → (pos 0) ≤ℤ a → (pos 0) ≤ℤ b → c ≤ℤ pos 0 → (a +ℤ b) <ℤ c → ⊥
    no_less a b c p q r h = omega (p, q, r, h, arith, ints)

-- the points that are left as a move meets them lie at or under the stock's top then
abbrev pub AreUnderTop : JobFields → Stock → List Move → PointsMet → Type 0
AreUnderTop job start moves Met = (k j i : ℕ) (h : ℤ) → IsColumnPoint job j i h → Met k j i h → h ≤ℤ stock_met job start moves k j i

-- what no part point is inside holds no point of a column at or under the part
holds_no_column : HoldsOver → (part : List Tri) (x y h : ℤ) (solid : Solid) (n : ℤ) (r : Pt3) → (pos 0) <ℤ n → HasPointOver part (pos 0) x y h → ¬ SolidGouges solid n r part
    → ¬ SolidHolds solid n r (pos 1) (point_at x y h)
holds_no_column over part x y h solid n r some stands never holds =
    never (record { tri = stands.tri; member = stands.member; touches = record { n = stands.n; p = stands.p; point = stands.point; inside = held } })
  where
    at_column : (stands.p.x ≡ stands.n *ℤ x) × (stands.p.y ≡ stands.n *ℤ y)
    at_column = elim stands.beside [ inl h ↦ h | inr h ↦ absurd (no_distance _ _ stands.n h) ]

    held : Holds solid.cutter n (solid_tip solid n r) stands.n stands.p
    held = over solid.cutter n (solid_tip solid n r) stands.n stands.p x y h some stands.point.some holds at_column.0 at_column.1 stands.high

-- where the points that are left of a stock lie at or under its tops, they are covered
pub are_covered : CoveredBelow → (job : JobFields) (part : List Tri) (stock : Stock) (Left : Points) → ((j i : ℕ) (h : ℤ) → IsColumnPoint job j i h → Left j i h → h ≤ℤ stock j i)
    → ((j i : ℕ) → IsColumn job j i → IsCutOn job part stock j i) → AreCovered job part Left
are_covered below job part stock Left under cut j i h point left =
    below part job.floor job.band (column_x job i) (column_y job j) (stock j i -ℤ job.allowance) (h -ℤ job.allowance) (less_both h (stock j i) job.allowance (under j i h point left)) (cut j i point.column)
  where
    less_both : (a b c : ℤ) → a ≤ℤ b → (a -ℤ c) ≤ℤ (b -ℤ c)
    less_both a b c h = omega (h, arith, ints)

-- the job's slack is one that the law of grown solids takes
slack_least : (job : JobFields) → IsJob job → (pos 0) ≤ℤ job.slack
slack_least job ok = ok.slack_ok.low

slack_most : (job : JobFields) → IsJob job → job.slack ≤ℤ pos MAX_COORDINATE
slack_most job ok = let most = ok.slack_ok.high in omega (most, arith, ints)

-- what a solid holds at a real tip, it holds with the slack around it where the program has the tip
module _ (law : GrownHolds) (job : JobFields) (ok : IsJob job) (solid : Solid) (size : IsCutter solid.cutter) (m : Move) (n : ℤ) (r : Pt3) (real : IsRealTip job.slack m n r) where
  grown_holds : (q : ℤ) (p : Pt3) → (pos 0) <ℤ q → SolidHolds solid n r q p → SolidHolds (grown solid job.slack) real.d real.tip q p
  grown_holds q p some holds =
      law solid job.slack real.d n q real.tip r p size (slack_least job ok) (slack_most job ok) (tip_some m real.d real.tip real.is) real.some some real.near holds

  grown_gouges : (part : List Tri) → SolidGouges solid n r part → SolidGouges (grown solid job.slack) real.d real.tip part
  grown_gouges part g = record {
    tri = g.tri;
    member = g.member;
    touches = record { n = g.touches.n; p = g.touches.p; point = g.touches.point; inside = grown_holds g.touches.n g.touches.p g.touches.point.some g.touches.inside };
  }

module _ (job : JobFields) (part : List Tri) (start : Stock) (moves : List Move) (ok : IsJob job) (start_ok : IsStockOf job start) (all_ok : MovesInRange moves) where
  pub in_range : (k : ℕ) → k < length moves → MoveInRange (move_at moves k)
  in_range k hk = all_ok (move_at moves k) (k, hk, any_default moves k _ _ hk)

  -- the tops stay the job's
  met_ok : (k : ℕ) → IsStockOf job (stock_met job start moves k)
  met_ok k = stock_stays job start (take k moves) start_ok

  -- the point at a column's top is in range
  pub top_ok : (k j i : ℕ) → IsColumn job j i → IsInRange (top_point_on job (stock_met job start moves k) j i)
  top_ok k j i c = column_within ok c (stock_within ok (met_ok k j i c))

  -- and so is the one at which a move is tested
  tested_ok : (kind : Kind) (k j i : ℕ) → IsColumn job j i → IsInRange (tested_point_on job kind (stock_met job start moves k) j i)
  tested_ok kind k j i c = column_within ok c (tested_within kind (stock_met job start moves k j i) ok (met_ok k j i c))

  -- a solid that passes the part on each move has no part point strictly inside wherever the tip may be
  module _ (clear : PassingIsClear) (solid : Solid) (solid_ok : IsSolid solid) (each : (k : ℕ) → k < length moves → PassesPart solid (move_at moves k) part) where
    passes : (k t : ℕ) (m : Move) (tri : Tri) → k < length moves → slice_index_or moves k m ≡ m → t < length part → slice_index_or part t tri ≡ tri → SolidPasses solid m tri
    passes k t m tri hk ek ht et =
        let q : SolidPasses solid m (tri_at part t) = subst (λ (v : Move). SolidPasses solid v (tri_at part t)) (sym (move_is moves k m hk ek)) (each k hk t ht) in
        subst (λ (v : Tri). SolidPasses solid m v) (sym (tri_is part t tri ht et)) q

    pub misses_part : (m : Move) (n : ℤ) (tip : Pt3) → Contains moves m → IsTipOf m n tip → ¬ SolidGouges solid n tip part
    misses_part m n tip member is g =
        clear solid m g.tri n tip solid_ok (all_ok m member) (passes member.0 g.member.0 m g.tri member.1 member.2 g.member.1 g.member.2) is g.touches

  -- one that passes each fixture on each move has no point of a fixture strictly inside wherever the tip may be
  module _ (clear : PassingIsClear) (solid : Solid) (solid_ok : IsSolid solid) (each : (k : ℕ) → k < length moves → PassesFixtures solid (move_at moves k) job.keep_out) where
    passes_box : (k b : ℕ) (m : Move) (f : Fixture) → k < length moves → slice_index_or moves k m ≡ m → b < length job.keep_out → slice_index_or job.keep_out b f ≡ f → PassesFixture solid m f
    passes_box k b m f hk ek hb eb =
        let q : PassesFixture solid m (fixture_at job.keep_out b) = subst (λ (v : Move). PassesFixture solid v (fixture_at job.keep_out b)) (sym (move_is moves k m hk ek)) (each k hk b hb) in
        subst (λ (v : Fixture). PassesFixture solid m v) (sym (fixture_is job.keep_out b f hb eb)) q

    pub misses_fixtures : (m : Move) (n : ℤ) (tip : Pt3) (f : Fixture) (q : ℤ) (p : Pt3) → Contains moves m → IsTipOf m n tip → Contains job.keep_out f → IsPointOfFixture f q p → ¬ SolidHolds solid n tip q p
    misses_fixtures m n tip f q p member is there point holds =
        let passed = passes_box member.0 there.0 m f member.1 member.2 there.1 there.2 in
        elim (touches_face f q p point solid.cutter n (solid_tip solid n tip) (tip_some m n tip is) holds) [
          | inl first ↦ clear solid m (first_half f) n tip solid_ok (all_ok m member) passed.first is first
          | inr second ↦ clear solid m (second_half f) n tip solid_ok (all_ok m member) passed.second is second
        ]

  -- so it is, at each real tip, of a solid that passes them with the slack around it
  keeps_off : GrownHolds → PassingIsClear → (solid : Solid) → IsCutter solid.cutter → IsSolid (grown solid job.slack)
      → ((k : ℕ) → k < length moves → PassesFixtures (grown solid job.slack) (move_at moves k) job.keep_out) → KeepsOff solid job moves
  keeps_off law clear solid size solid_ok each m n r member real hit =
      misses_fixtures clear (grown solid job.slack) solid_ok each m real.d real.tip hit.fixture hit.n hit.p member real.is hit.member hit.point
      (grown_holds law job ok solid size m n r real hit.n hit.p hit.point.some hit.inside)

  -- of the cutter, and of the holder, if there is one
  pub keeps_out : GrownHolds → PassingIsClear → GoodBeforeOn job part start moves (length moves) → KeepsOut job moves
  keeps_out law clear good = record {
    cutter = keeps_off law clear (at_tip job.cutter) ok.cutter_ok (outer_ok job ok) (λ k hk. (good k hk).fixtures);
    holder = if_some (λ (holder : Solid). KeepsOff holder job moves) job.holder held;
  }
    where
      held : (holder : Solid) → job.holder ≡ Some holder → KeepsOff holder job moves
      held holder mounted =
          let with_it : holder_solid_of job ≡ Some (grown holder job.slack) = ap (held_with job.slack) mounted in
          keeps_off law clear holder (of_some IsSolid job.holder holder mounted ok.holder_ok).cutter_ok (of_some IsSolid (holder_solid_of job) (grown holder job.slack) with_it (holder_solid_ok job ok))
          (λ k hk. of_some (λ (v : Solid). PassesFixtures v (move_at moves k) job.keep_out) (holder_solid_of job) (grown holder job.slack) with_it (good k hk).holder_fixtures)

  -- nor is a part point inside the cutter's core at a real tip
  pub never_gouges : GrownHolds → PassingIsClear → GoodBeforeOn job part start moves (length moves) → NeverGouges job part moves
  never_gouges law clear good m n r member real g =
      misses_part clear (part_solid_of job) (part_solid_ok job ok) (λ k hk. (good k hk).clears) m real.d real.tip member real.is
      (grown_gouges law job ok (core job job.overcut) (overcut_core_ok job ok) m n r real part g)

  pub keeps_part : GrownHolds → PassingIsClear → HoldsOver → GoodBeforeOn job part start moves (length moves) → KeepsPart job part moves
  keeps_part law clear over good m j i h n r member point stands real =
      holds_no_column over part (column_x job i) (column_y job j) h (core job job.overcut) n r real.some stands (never_gouges law clear good m n r member real)

  pub rapids_miss : GrownHolds → PassingKeepsPoint → (Met : PointsMet) → AreUnderTop job start moves Met → GoodBeforeOn job part start moves (length moves) → RapidsMiss job moves Met
  rapids_miss law keeps Met under good k j i h n r hk rapid point met real holds =
      keeps (stock_solid_of job) (move_at moves k) (column_x job i) (column_y job j) (stock_met job start moves k j i) h real.d real.tip (stock_solid_ok job ok)
      (in_range k hk) (top_ok k j i point.column) (clears_as job start moves Rapid k (as_rapid (move_at moves k).kind rapid) (good k hk).stock tt j i point.column) (under k j i h point met) real.is
      (grown_holds law job ok (core job (graze_of job)) (graze_core_ok job ok) (move_at moves k) n r real (pos 1) (column_point job j i h) (omega (arith, ints)) holds)

  -- where the depth of cut is limited
  module _ (good : GoodBeforeOn job part start moves (length moves)) (limited : (pos 0) <ℤ job.max_cut) where
    -- each move passes each column
    passes_each : (k j i : ℕ) → k < length moves → IsColumn job j i → PassesColumnOn job start moves k j i
    passes_each k j i hk column = (good k hk).stock (tested_each job (move_at moves k).kind limited) j i column

    at_most : (a b c : ℤ) → a ≤ℤ b → b ≤ℤ c → a ≤ℤ c
    at_most a b c h g = omega (h, g, arith, ints)

    -- so it takes no point as low as that
    cuts_shallow : GrownHolds → PassingKeepsPoint → (k j i : ℕ) (h n : ℤ) (r : Pt3) → k < length moves → IsColumnPoint job j i h → h ≤ℤ (stock_met job start moves k j i -ℤ job.max_cut)
        → IsRealTip job.slack (move_at moves k) n r → ¬ SolidHolds (core job (graze_of job)) n r (pos 1) (column_point job j i h)
    cuts_shallow law keeps k j i h n r hk point deep real holds =
        let kind = (move_at moves k).kind in
        let top = stock_met job start moves k j i in
        keeps (stock_solid_of job) (move_at moves k) (column_x job i) (column_y job j) (tested_height job kind top) h real.d real.tip (stock_solid_ok job ok) (in_range k hk)
        (tested_ok kind k j i point.column) (passes_each k j i hk point.column) (at_most _ _ _ deep (tested_deep job kind top limited)) real.is
        (grown_holds law job ok (core job (graze_of job)) (graze_core_ok job ok) (move_at moves k) n r real (pos 1) (column_point job j i h) (omega (arith, ints)) holds)

    -- one move more lowers a top by that move
    top_lowered : (k j i : ℕ) → k < length moves
        → stock_met job start moves (k + 1) j i ≡ top_after_move job (column_x job i) (column_y job j) (stock_met job start moves k j i) (move_at moves k)
    top_lowered k j i hk =
        ap (top_on job (column_x job i) (column_y job j) (start j i)) (take_more moves k _ hk) ∙ top_on_more job (column_x job i) (column_y job j) (start j i) (take k moves) (move_at moves k)

    -- and, without a graze, not under the point that it passes
    tops_shallow : PassedIsLeft → graze_of job ≡ pos 0 → (k j i : ℕ) → k < length moves → IsColumn job j i
        → (stock_met job start moves k j i -ℤ job.max_cut) ≤ℤ stock_met job start moves (k + 1) j i
    tops_shallow left bare k j i hk column =
        let kind = (move_at moves k).kind in
        let top = stock_met job start moves k j i in
        let high = tested_high kind top ok (met_ok k j i column).low in
        subst (λ (z : ℤ). (top -ℤ job.max_cut) ≤ℤ z) (sym (top_lowered k j i hk))
        (at_most _ _ _ (tested_deep job kind top limited)
        (left job (move_at moves k) (column_x job i) (column_y job j) top (tested_height job kind top) ok bare (in_range k hk)
        (top_ok k j i column) (tested_ok kind k j i column) high (passes_each k j i hk column)))

  pub keeps_depth : GrownHolds → PassingKeepsPoint → PassedIsLeft → GoodBeforeOn job part start moves (length moves) → KeepsDepthOn job start moves
  keeps_depth law keeps left good limited = record {
    feeds = λ k j i h n r hk feed point deep real. cuts_shallow good limited law keeps k j i h n r hk point deep real;
    tops = λ bare. tops_shallow good limited left bare;
  }

  -- where there is a holder
  module _ (good : GoodBeforeOn job part start moves (length moves)) (Met : PointsMet) (under : AreUnderTop job start moves Met) (holder : Solid) (mounted : job.holder ≡ Some holder) where
    with_slack : holder_solid_of job ≡ Some (grown holder job.slack)
    with_slack = ap (held_with job.slack) mounted

    around_ok : IsSolid (grown holder job.slack)
    around_ok = of_some IsSolid (holder_solid_of job) (grown holder job.slack) with_slack (holder_solid_ok job ok)

    size : IsCutter holder.cutter
    size = (of_some IsSolid job.holder holder mounted ok.holder_ok).cutter_ok

    -- it passes each triangle on each move
    holder_passes : (k : ℕ) → k < length moves → PassesPart (grown holder job.slack) (move_at moves k) part
    holder_passes k hk = of_some (λ (h : Solid). PassesPart h (move_at moves k) part) (holder_solid_of job) (grown holder job.slack) with_slack (good k hk).holder

    misses_all : GrownHolds → PassingIsClear → (m : Move) (n : ℤ) (r : Pt3) → Contains moves m → IsRealTip job.slack m n r → ¬ SolidGouges holder n r part
    misses_all law clear m n r member real g =
        misses_part clear (grown holder job.slack) around_ok holder_passes m real.d real.tip member real.is (grown_gouges law job ok holder size m n r real part g)

    -- and each column's top
    misses_stock : GrownHolds → PassingKeepsPoint → (k j i : ℕ) (h n : ℤ) (r : Pt3) → k < length moves → IsColumnPoint job j i h → Met k j i h → IsRealTip job.slack (move_at moves k) n r
        → ¬ SolidHolds holder n r (pos 1) (column_point job j i h)
    misses_stock law keeps k j i h n r hk point met real holds =
        let each = of_some (λ (v : Solid). (b c : ℕ) → IsColumn job b c → SolidPassesPoint v (move_at moves k) (top_point_on job (stock_met job start moves k) b c)) (holder_solid_of job)
        (grown holder job.slack) with_slack (good k hk).holder_stock in
        keeps (grown holder job.slack) (move_at moves k) (column_x job i) (column_y job j) (stock_met job start moves k j i) h real.d real.tip around_ok
        (in_range k hk) (top_ok k j i point.column) (each j i point.column) (under k j i h point met) real.is
        (grown_holds law job ok holder size (move_at moves k) n r real (pos 1) (column_point job j i h) (omega (arith, ints)) holds)

    stays_clear : GrownHolds → PassingIsClear → PassingKeepsPoint → HolderStaysClear holder job part moves Met
    stays_clear law clear keeps = record { misses_part = misses_all law clear; misses_stock = misses_stock law keeps }

  pub keeps_clear : GrownHolds → PassingIsClear → PassingKeepsPoint → (Met : PointsMet) → AreUnderTop job start moves Met → GoodBeforeOn job part start moves (length moves)
      → HolderKeepsClearOf job part moves Met
  keeps_clear law clear keeps Met under good =
      if_some (λ (holder : Solid). HolderStaysClear holder job part moves Met) job.holder (λ holder mounted. stays_clear good Met under holder mounted law clear keeps)

-- one program, from the uncut stock on
module _ (job : JobFields) (part : List Tri) (moves : List Move) (ok : IsJob job) (all_ok : MovesInRange moves) where
  first_ok : (k : ℕ) → MovesInRange (take k moves)
  first_ok k m member = all_ok m (subst (λ (v : List Move). Contains v m) (take-append-drop k moves) (Contains-append_left (take k moves) (drop k moves) m member))

  pub under_top : OverTopIsRemoved → (ms : List Move) → MovesInRange ms → (j i : ℕ) (h : ℤ) → IsColumnPoint job j i h → LeavesPoint job ms j i h → h ≤ℤ stock_after job (uncut job) ms j i
  under_top removed ms ms_ok j i h point leaves =
      not_over _ h (λ over. leaves (removed job ms (column_x job i) (column_y job j) h ok ms_ok (column_within ok point.column (within_of_unit job.unit job.top ok.top_ok)) over point.top))

  pub uncut_ok : IsStockOf job (uncut job)
  uncut_ok = uncut_stays job ok.stock

  pub met_under : OverTopIsRemoved → AreUnderTop job (uncut job) moves (left_before job moves)
  met_under removed k j i h point leaves = under_top removed (take k moves) (first_ok k) j i h point leaves

  -- what an accepted program does, from the laws
  pub safe : GrownHolds → PassingIsClear → PassingKeepsPoint → OverTopIsRemoved → PassedIsLeft → CoveredBelow → HoldsOver → (count columns : ℕ) (most : ℤ)
      → AcceptsOn job part (uncut job) moves count columns most → CutsSafely job part moves
  safe law clear keeps removed left below over count columns most a = record {
    gouges = never_gouges job part (uncut job) moves ok uncut_ok all_ok law clear a.good;
    rapids = rapids_miss job part (uncut job) moves ok uncut_ok all_ok law keeps (left_before job moves) (met_under removed) a.good;
    covered = are_covered below job part (stock_after job (uncut job) moves) (LeavesPoint job moves) (under_top removed moves all_ok) a.cut;
    kept = keeps_part job part (uncut job) moves ok uncut_ok all_ok law clear over a.good;
    depth = keeps_depth job part (uncut job) moves ok uncut_ok all_ok law keeps left a.good;
    holder = keeps_clear job part (uncut job) moves ok uncut_ok all_ok law clear keeps (left_before job moves) (met_under removed) a.good;
    fixtures = keeps_out job part (uncut job) moves ok uncut_ok all_ok law clear a.good;
  }
