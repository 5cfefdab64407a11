-- Moves that go safely pass all tests but the holder's against the stock, each after those before it; so none of them is rejected but for stock that is left, or that
-- the holder would touch.
use Rattle.std.specs.Prelude.{◌≡◌, ℕ, zero, suc, ◌<◌, ℤ, ◌≤ℤ◌, List, [], ◌∷◌, ◌++◌, length, map, take, Contains, Option, None, IfSome}
use Rattle.std.proofs.Common.{ap, inl, inr, refl, sym, ◌∙◌, subst, arith}
use Rattle.std.proofs.lemmas.List.{append_assoc, append-nil, get_or_default}
use Rattle.mill_base.specs.Motion.{Follow, bent}
use Rattle.mill_base.specs.Ranges.{MoveInUnitRange, MovesInUnitRange}
use Rattle.mill_base.specs.declared.motion.Kind.{Kind}
use Rattle.mill_base.specs.declared.motion.Kind.TheVariants.{Rapid, Feed, Dogleg}
use Rattle.mill_base.specs.declared.motion.Move.{Move}
use Rattle.mill_base.specs.declared.points.Pt3.{Pt3}
use Rattle.mill_base.specs.declared.points.Tri.{Tri}
use Rattle.mill_base.specs.Solids.{Solid}
use Rattle.mill_job.specs.Columns.{IsColumn, column_x, column_y}
use Rattle.mill_job.specs.Habits.{made_by, run_by}
use Rattle.mill_job.specs.Jobs.{IsJob, part_tool_of, tool_of}
use Rattle.mill_job.specs.Solids.{held_with, outer_of, stock_solid_of}
use Rattle.mill_job.specs.declared.fields.JobFields.{JobFields}
use Rattle.mill_job.specs.declared.fixtures.Fixture.{Fixture as Box}
use Rattle.mill_job.specs.declared.habits.Rapids.{Rapids}
use Rattle.mill_job.specs.declared.habits.Rapids.TheVariants.{Straight, Axes}
use Rattle.mill_gouge.specs.Gouges.{PassesPart, ToolPassesPart}
use Rattle.mill_ngc.specs.Writing.{as_written}
use Rattle.mill_sweep.specs.Solids.{SolidPassesPoint}
use Rattle.mill_sweep.specs.declared.leaf.Leaf.{Leaf}
use Rattle.mill_dexel.specs.Tops.{ClearsColumns, HolderClearsColumns, IsTested, stock_after, tested_point, top_point, uncut}
use Rattle.mill_dexel.proofs.TestedAs.{is_tested, point_as}
use Rattle.mill_links.specs.Safety.{AreSafe, Connect, GoSafely, IsSafeMove}
use Rattle.mill_obstacles.specs.Faces.{obstacles_of}
use Rattle.mill_verify.specs.Fixtures.{FailsFixture, PassesFixture, PassesFixtures, ToolPassesFixtures, fixture_at}
use Rattle.mill_verify.proofs.Obstacles.{tool_passes_fixtures, tool_passes_part}
use Rattle.mill_verify.specs.Tests.{ClearsFixtures, ClearsPart, ClearsStock, GoodBefore, HolderClearsFixtures, HolderClearsPart, IsOverFloor}
use Rattle.mill_dexel.specs.Turns.{move_at}
use Rattle.mill_verify.specs.Verdicts.{FailsFixtureOn, FailsHolder, FailsHolderFixtureOn, FailsStock, IsRejection}
use Rattle.mill_verify.specs.declared.verdict.Reason.{Reason}
use Rattle.mill_verify.specs.declared.verdict.Reason.TheVariants.{Floor, Gouge, Holder, Fixture, HolderFixture, Rapid as RapidCut, Cut, HolderStock, Left}
use Rattle.mill_plan.specs.Laws.{IsOfStock}
use Rattle.mill_plan.proofs.Nested.{part_tool_passes}

-- move k passes each test that comes before the holder's against the stock
pub record PassesFirst (job : JobFields) (part : List Tri) (moves : List Move) (k : ℕ) : Type 0 where
  pub floor : IsOverFloor job moves k
  pub clears : ClearsPart job part moves k
  pub holder : HolderClearsPart job part moves k
  pub fixtures : ClearsFixtures job moves k
  pub holder_fixtures : HolderClearsFixtures job moves k
  pub stock : ClearsStock job moves k

-- so does each move
abbrev pub AllPassFirst : JobFields → List Tri → List Move → Type 0
AllPassFirst job part moves = (k : ℕ) → k < length moves → PassesFirst job part moves k

module _ (job : JobFields) (part : List Tri) where
  -- the move of each number is safe after those before it
  safe_at : (done ms : List Move) (k : ℕ) → AreSafe job part done ms → k < length ms → IsSafeMove job part (done ++ take k ms) (move_at ms k)
  safe_at done [] k safe inside = absurd (omega arith)
  safe_at done (m ∷ ms) zero safe inside = subst (λ (before : List Move). IsSafeMove job part before m) (sym (append-nil done)) safe.0
  safe_at done (m ∷ ms) (suc k) safe inside =
      subst (λ (before : List Move). IsSafeMove job part before (move_at ms k)) (append_assoc done (m ∷ []) (take k ms))
      (safe_at (done ++ m ∷ []) ms k safe.1 (omega arith))

  joined : (a b : Move) (others rest : List Move) → a ≡ b → others ≡ rest → a ∷ others ≡ b ∷ rest
  joined a b others rest e g = cc

  -- safe moves are what the job's machine makes of their text
  made_each : (done moves : List Move) → AreSafe job part done moves → moves ≡ map (λ (m : Move). made_by job.rapids (as_written m)) moves
  made_each done [] safe = refl
  made_each done (m ∷ moves) safe =
      joined m (made_by job.rapids (as_written m)) moves (map (λ (n : Move). made_by job.rapids (as_written n)) moves) (sym safe.0.made) (made_each (done ++ m ∷ []) moves safe.1)

  run_each : (rapids : Rapids) (moves : List Move) → map (λ (m : Move). made_by rapids (as_written m)) moves ≡ run_by rapids (map as_written moves)
  run_each Straight [] = refl
  run_each Straight (m ∷ moves) = ap (λ (ms : List Move). as_written m ∷ ms) (run_each Straight moves)
  run_each Axes [] = refl
  run_each Axes (m ∷ moves) = ap (λ (ms : List Move). bent (as_written m) ∷ ms) (run_each Axes moves)

  pub read_made : (done moves : List Move) → AreSafe job part done moves → moves ≡ run_by job.rapids (map as_written moves)
  read_made done moves safe = made_each done moves safe ∙ run_each job.rapids moves

  -- a safe move passes each column, if it is tested
  columns : (done : List Move) (m : Move) (kind : Kind) → m.kind ≡ kind → IsSafeMove job part done m → ClearsColumns job done m
  columns done m Rapid e safe =
      subst (λ (v : Kind). IsTested job v → (j i : ℕ) → IsColumn job j i → SolidPassesPoint (stock_solid_of job) m (tested_point job v done j i)) (sym e)
      (λ tested j i column. safe.stock (λ feed. no_feed (sym e ∙ feed)) (column_x job i) (column_y job j))
    where
      no_feed : Rapid ≡ Feed → ⊥
      no_feed h = cc
  columns done m Dogleg e safe =
      subst (λ (v : Kind). IsTested job v → (j i : ℕ) → IsColumn job j i → SolidPassesPoint (stock_solid_of job) m (tested_point job v done j i)) (sym e)
      (λ tested j i column. safe.stock (λ feed. no_feed (sym e ∙ feed)) (column_x job i) (column_y job j))
    where
      no_feed : Dogleg ≡ Feed → ⊥
      no_feed h = cc
  columns done m Feed e safe = safe.depth e

  -- without a holder there is no further test
  no_holder : (done : List Move) (m : Move) → job.holder ≡ None → HolderClearsColumns job done m
  no_holder done m bare =
      subst (λ (o : Option Solid). IfSome (held_with job.slack o) (λ holder. (j i : ℕ) → IsColumn job j i → SolidPassesPoint holder m (top_point job done j i))) (sym bare) tt

  pub in_range : (from to : Pt3) (moves : List Move) → GoSafely job part [] from moves to → MovesInUnitRange job.unit moves
  in_range from to moves go m member =
      subst (λ (n : Move). MoveInUnitRange job.unit n) (get_or_default moves member.0 _ m member.1 ∙ member.2) (safe_at [] moves member.0 go.safe member.1).ranged

  connected : (from to : Pt3) (ms : List Move) → Connect from ms to → Follow from ms
  connected from to [] connect = tt
  connected from to (m ∷ ms) connect = (connect.0, connected m.to to ms connect.1)

  pub follow : (from to : Pt3) (moves : List Move) → GoSafely job part [] from moves to → Follow from moves
  follow from to moves go = connected from to moves go.connect

module _ (job : JobFields) (part : List Tri) (from to : Pt3) (moves : List Move) (ok : IsJob job) (go : GoSafely job (obstacles_of job part) [] from moves to) where
  -- moves that go safely past the part and the fixtures pass the part, and each fixture
  pub pass_first : AllPassFirst job part moves
  pass_first k inside =
      let m : Move = move_at moves k in
      let safe : IsSafeMove job (obstacles_of job part) (take k moves) m = safe_at job (obstacles_of job part) [] moves k go.safe inside in
      let passes : ToolPassesPart (part_tool_of job) m part = part_tool_passes job m part ok (tool_passes_part job part m (tool_of job) safe.passes) in
      let off : ToolPassesFixtures (tool_of job) m job.keep_out = tool_passes_fixtures job part m (tool_of job) safe.passes in
      record {
        floor = record { start = safe.floor_from; «end» = safe.floor_to };
        clears = passes.cutter;
        holder = passes.holder;
        fixtures = off.cutter;
        holder_fixtures = off.holder;
        stock = columns job (obstacles_of job part) (take k moves) m m.kind refl safe;
      }

  pub good : job.holder ≡ None → GoodBefore job part moves (length moves)
  good bare k inside =
      let first : PassesFirst job part moves k = pass_first k inside in
      record {
        floor = first.floor;
        clears = first.clears;
        holder = first.holder;
        fixtures = first.fixtures;
        holder_fixtures = first.holder_fixtures;
        stock = first.stock;
        holder_stock = no_holder job part (take k moves) (move_at moves k) bare;
      }

-- a good move ends at or over the floor
pub floor_at_end : (job : JobFields) (part : List Tri) (moves : List Move) (m : Move) → GoodBefore job part moves (length moves) → Contains moves m → job.floor ≤ℤ m.to.z
floor_at_end job part moves m good member =
    subst (λ (n : Move). job.floor ≤ℤ n.to.z) (get_or_default moves member.0 _ m member.1 ∙ member.2) (good member.0 member.1).floor.«end»

-- a fixture that is passed fails at no leaf
no_fixture_fails : (solid : Solid) (m : Move) (box : Box) (leaf : Leaf) → FailsFixture solid m box leaf → PassesFixture solid m box → ⊥
no_fixture_fails solid m box leaf (inl first) passes = first.fails passes.first
no_fixture_fails solid m box leaf (inr second) passes = second.1.fails passes.second

module _ (job : JobFields) (part : List Tri) (moves : List Move) (all : AllPassFirst job part moves) where
  -- such a move isn't stopped by a column
  not_stopped : (kind : Kind) (k j i : ℕ) (leaf : Leaf) → FailsStock job part moves kind k j i leaf → ⊥
  not_stopped kind k j i leaf fails =
      let passes : SolidPassesPoint (stock_solid_of job) (move_at moves k) (tested_point job kind (take k moves) j i) =
      subst (λ (v : Kind). SolidPassesPoint (stock_solid_of job) (move_at moves k) (tested_point job v (take k moves) j i)) fails.is
      (subst (λ (p : Pt3). SolidPassesPoint (stock_solid_of job) (move_at moves k) p) (point_as job (move_at moves k).kind (stock_after job (uncut job) (take k moves)) j i)
      ((all k fails.there).stock (is_tested job (move_at moves k).kind (subst (IsTested job) (sym fails.is) fails.tested)) j i fails.column)) in
      fails.fails.fails passes

  -- nor is its holder by a triangle
  not_held : (k t : ℕ) (leaf : Leaf) → FailsHolder job part moves k t leaf → ⊥
  not_held k t leaf fails =
      let passes : PassesPart fails.holder (move_at moves k) part =
      subst (λ (o : Option Solid). IfSome o (λ holder. PassesPart holder (move_at moves k) part)) fails.mounted (all k fails.there).holder in
      fails.fails.fails (passes t fails.tri)

  -- nor by a fixture, neither is
  clear_of : (k b : ℕ) (leaf : Leaf) → FailsFixtureOn job part (uncut job) moves k b leaf → ⊥
  clear_of k b leaf fails = no_fixture_fails (outer_of job) (move_at moves k) (fixture_at job.keep_out b) leaf fails.fails ((all k fails.there).fixtures b fails.fixture)

  held_clear_of : (k b : ℕ) (leaf : Leaf) → FailsHolderFixtureOn job part (uncut job) moves k b leaf → ⊥
  held_clear_of k b leaf fails =
      let passes : PassesFixtures fails.holder (move_at moves k) job.keep_out =
      subst (λ (o : Option Solid). IfSome o (λ holder. PassesFixtures holder (move_at moves k) job.keep_out)) fails.mounted (all k fails.there).holder_fixtures in
      no_fixture_fails fails.holder (move_at moves k) (fixture_at job.keep_out b) leaf fails.fails (passes b fails.fixture)

  -- so such moves are rejected for nothing but the stock
  pub only_of_stock : (reason : Reason) → IsRejection job part moves reason → IsOfStock reason
  only_of_stock (Floor k) fails = absurd (fails.fails (all k fails.there).floor)
  only_of_stock (Gouge k t leaf) fails = absurd (fails.fails.fails ((all k fails.there).clears t fails.tri))
  only_of_stock (Holder k t leaf) fails = absurd (not_held k t leaf fails)
  only_of_stock (Fixture k b leaf) fails = absurd (clear_of k b leaf fails)
  only_of_stock (HolderFixture k b leaf) fails = absurd (held_clear_of k b leaf fails)
  only_of_stock (RapidCut k j i leaf) fails = absurd (not_stopped Rapid k j i leaf fails)
  only_of_stock (Cut k j i leaf) fails = absurd (not_stopped Feed k j i leaf fails)
  only_of_stock (HolderStock k j i leaf) fails = tt
  only_of_stock (Left j i top) fails = tt

-- a reason of the stock is that it is left, or that the holder would touch it
pub of_stock_only : (reason : Reason) → IsOfStock reason → ((row col : ℕ) (top : ℤ) → reason ≡ Left row col top → ⊥)
    → ((number row col : ℕ) (leaf : Leaf) → reason ≡ HolderStock number row col leaf → ⊥) → ⊥
of_stock_only (Floor k) stock left held = stock
of_stock_only (Gouge k t leaf) stock left held = stock
of_stock_only (Holder k t leaf) stock left held = stock
of_stock_only (Fixture k b leaf) stock left held = stock
of_stock_only (HolderFixture k b leaf) stock left held = stock
of_stock_only (RapidCut k j i leaf) stock left held = stock
of_stock_only (Cut k j i leaf) stock left held = stock
of_stock_only (HolderStock k j i leaf) stock left held = held k j i leaf refl
of_stock_only (Left j i top) stock left held = left j i top refl
