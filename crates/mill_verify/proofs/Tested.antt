-- The verdict, from what the tests that threads share have come to.
use Rattle.std.specs.Prelude.{◌≡◌, ◌⊎◌, ℕ, zero, suc, ◌+◌, ◌/◌, ◌<◌, ◌≤◌, List, [], ◌∷◌, length, slice_get, slice_index_or, Option, Some, unwrap_or, refl}
use Rattle.std.specs.List.{flat_map}
use Rattle.std.proofs.Common.{sym, ◌∙◌, ap, subst, inl, inr, ⊎_elim, arith}
use Rattle.mill_base.specs.declared.points.Tri.{Tri}
use Rattle.mill_base.specs.declared.motion.Move.{Move}
use Rattle.mill_base.specs.declared.motion.Kind.{Kind}
use Rattle.mill_base.specs.declared.motion.Kind.TheVariants.{Rapid, Feed, Dogleg}
use Rattle.mill_base.specs.declared.limits.TheConstants.{MAX_MOVES}
use Rattle.mill_board.specs.declared.work.Held.{Held}
use Rattle.mill_board.specs.Works.{FailsAt, IsDone}
use Rattle.mill_board.proofs.Outcomes.{fails_least, passes_all, passes_to, passes_under}
use Rattle.mill_base.specs.Solids.{Solid}
use Rattle.mill_base.specs.Points.{point_tri, tri_at}
use Rattle.mill_base.specs.declared.points.Pt3.{Pt3}
use Rattle.mill_sweep.specs.Solids.{SolidFailsAt, SolidIsBlocked, SolidPassesPoint}
use Rattle.mill_dexel.specs.Tops.{Stock as OneStock, tested_as, top_point_on}
use Rattle.mill_dexel.proofs.TestedAs.{is_tested_as, point_as}
use Rattle.mill_sweep.specs.declared.leaf.Leaf.{Leaf}
use Rattle.mill_job.specs.Solids.{holder_solid_of, stock_solid_of}
use Rattle.mill_job.specs.declared.fields.JobFields.{JobFields}
use Rattle.mill_job.specs.Columns.{row_count}
use Rattle.mill_job.specs.Jobs.{IsJob}
use Rattle.mill_dexel.specs.Rows.{RowState, cutting, fresh_row, holding}
use Rattle.mill_dexel.specs.Turns.{CutClearsRow, CutStopsAt, HolderStopsAt, StopsAt as StopsBy, StopsRow, move_at, row_before}
use Rattle.mill_dexel.specs.declared.fail.RowFail.{RowFail}
use Rattle.mill_dexel.specs.declared.fail.RowTest.{RowTest}
use Rattle.mill_dexel.specs.declared.fail.RowTest.TheVariants as test
use Rattle.mill_verify.specs.Blocks.{BlockState}
use Rattle.mill_verify.specs.Clashes.{IsClash, IsClear}
use Rattle.mill_obstacles.specs.Faces.{first_half, second_half}
use Rattle.mill_verify.specs.Fixtures.{fixture_at}
use Rattle.mill_verify.specs.declared.clash.Clash.{Clash}
use Rattle.mill_verify.specs.declared.clash.Clash.TheVariants as clash
use Rattle.mill_verify.specs.Reasons.{clash_reason, cut_reason, stock_reason}
use Rattle.mill_verify.specs.Tests.{GoodBeforeOn, PassesColumnOn, stock_met}
use Rattle.mill_verify.specs.Verdicts.{FailsStockOn}
use Rattle.mill_verify.specs.declared.verdict.Reason.{Reason}
use Rattle.mill_verify.specs.declared.verdict.Reason.TheVariants.{Floor, HolderStock}
use Rattle.mill_verify.specs.declared.piece.Piece.{Piece}
use Rattle.mill_verify.specs.declared.piece.Piece.TheVariants.{Block, Stock}
use Rattle.mill_verify.specs.inner.Failures.{HasFailed, HasFailedBy, IsFirstFailed, IsReasonOf, NoneFailed, NoneFailedBy, test_in, test_of}
use Rattle.mill_verify.specs.inner.Firsts.{ArePassed, IsFloorEnd}
use Rattle.mill_verify.specs.inner.Pieces.{AreTested, IsPieceAt, IsPieceFailed, PassesTest, TestsShown, blocks_of, first_turn, piece_count, row_in, tests, turn_limit}
use Rattle.mill_verify.specs.inner.Readiness.{start_stock}
use Rattle.mill_verify.proofs.Failed.{failed_or_not, in_one_way}
use Rattle.mill_verify.proofs.Gathered.{gathered}
use Rattle.mill_verify.proofs.Mounted.{for_some, of_some}
use Rattle.mill_verify.proofs.Ranges.{rows_few}
use Rattle.mill_verify.proofs.ReadLemmas.{move_read}
use Rattle.mill_verify.proofs.Shown.{BlocksHeld, IsShown, StopsAt}
use Rattle.mill_verify.proofs.Sharing.{first_of_block, first_of_row, limit_of_block, limit_of_row, spans}
use Rattle.mill_verify.proofs.Turned.{HolderPassesTops, RowClears, RowHolderClears, holder_clears_all, row_clears, row_cut_clears, row_holder_clears, row_stops}

there_in : {A : Type 0} → (xs : List A) (n : ℕ) → n < length xs → (x : A) × (slice_get xs n ≡ Some x)
there_in [] n lt = absurd (omega (lt, arith))
there_in (x ∷ xs) zero lt = (x, refl)
there_in (x ∷ xs) (suc n) lt = there_in xs n (omega (lt, arith))

pub in_list : {A : Type 0} → (xs : List A) (n : ℕ) (x : A) → slice_get xs n ≡ Some x → n < length xs
in_list [] n x e = absurd (cc)
in_list (y ∷ ys) zero x e = omega arith
in_list (y ∷ ys) (suc n) x e = let t = in_list ys n x e in omega (t, arith)

one_of : {A : Type 0} {x y : A} → Some x ≡ Some y → x ≡ y
one_of {A} {x} {y} e = ap (λ (o : Option A). unwrap_or o x) e

-- what is read of a list is what is there
read_there : {A : Type 0} → (xs : List A) (n : ℕ) (x y : A) → slice_get xs n ≡ Some x → y ≡ slice_index_or xs n y → x ≡ y
read_there [] n x y e f = absurd (cc)
read_there (z ∷ zs) zero x y e f = one_of (sym e) ∙ sym f
read_there (z ∷ zs) (suc n) x y e f = read_there zs n x y e f

module _ (job : JobFields) (part : List Tri) (start : Option (List RowState)) (moves : List Move) (turns least : ℕ) (hs : List (Held Piece)) (within : turns ≤ length moves) (floor : IsFloorEnd job moves turns) (closed : AreTested job part start moves turns least hs) where
  abbrev stock : OneStock
  stock = start_stock job start

  abbrev w : TestsShown
  w = record { job = job; part = part; start = start; moves = moves; turns = turns }

  done : (n : ℕ) → n < piece_count w → (h : Held Piece) × (slice_get hs n ≡ Some h) × IsDone tests w least n h
  done n under = let t = there_in hs n (let c = closed.count in omega (under, c, arith)) in (t.0, t.1, closed.each n t.0 t.1)

  -- a turn of a piece lies under the number of turns
  under_turns : (n t : ℕ) → n < piece_count w → t < turn_limit w n → t < turns
  under_turns n t under to = let s = (spans w n under).1 in omega (to, s, arith)

  least_most : least ≤ turns
  least_most = ⊎_elim (λ (e : least ≡ turns). omega (e, arith)) (λ (t : (n : ℕ) × (n < piece_count w) × FailsAt tests w n least). let u = under_turns t.0 least t.1 t.2.to in omega (u, arith)) closed.failure

  -- the block that a move stands in
  block_under : (u : ℕ) → u < turns → u / 64 < blocks_of w
  block_under u lt = omega (lt, arith)

  block_first : (u : ℕ) → u < turns → first_turn w (u / 64) ≤ u
  block_first u lt = let f = first_of_block w (u / 64) (block_under u lt) in omega (f, arith)

  block_last : (u : ℕ) → u < turns → u < turn_limit w (u / 64)
  block_last u lt = let l = limit_of_block w (u / 64) (block_under u lt) in omega (l, lt, arith)

  row_first : (u j : ℕ) → first_turn w (blocks_of w + j) ≤ u
  row_first u j = let f = first_of_row w (blocks_of w + j) (omega arith) in omega (f, arith)

  row_last : (u j : ℕ) → u < turns → u < turn_limit w (blocks_of w + j)
  row_last u j lt = let l = limit_of_row w (blocks_of w + j) (omega arith) in omega (l, lt, arith)

  -- what comes of a move whose tests pass
  block_cleared : (u : ℕ) → u < turns → PassesTest w (u / 64) u → IsClear job part (move_at moves u)
  block_cleared u lt p = p.block (block_under u lt)

  row_cleared : (u j : ℕ) → PassesTest w (blocks_of w + j) u → RowClears job stock moves u j
  row_cleared u j p = row_clears job stock moves u j (p.stock j refl)

  row_held : (u j : ℕ) → PassesTest w (blocks_of w + j) u → RowHolderClears job stock moves u j
  row_held u j p = row_holder_clears job stock moves u j (p.stock j refl)

  -- before the least turn all tests pass
  before_least : (n u : ℕ) → n < piece_count w → first_turn w n ≤ u → u < turn_limit w n → u < least → PassesTest w n u
  before_least n u under from to less = let t = done n under in passes_under tests w least n t.0 t.2 (λ k. closed.under n k under) u from to less

  pub good_to : (k : ℕ) → k ≤ least → GoodBeforeOn job part stock moves k
  good_to k to e less =
      let most = least_most in
      let lt : e < turns = omega (less, to, most, arith) in
      let early : e < least = omega (less, to, arith) in
      let clear = block_cleared e lt (before_least (e / 64) e (let b = block_under e lt in omega (b, arith)) (block_first e lt) (block_last e lt) early) in
      let row : (j : ℕ) → j < row_count job → PassesTest w (blocks_of w + j) e = λ j r. before_least (blocks_of w + j) e (omega (r, arith)) (row_first e j) (row_last e j lt) early in
      record {
        floor = floor.over e lt;
        clears = clear.passes_part.cutter;
        holder = clear.passes_part.holder;
        fixtures = clear.passes_fixtures.cutter;
        holder_fixtures = clear.passes_fixtures.holder;
        stock = λ tested j i column. row_cleared e j (row j column.row) tested i column.column;
        holder_stock = holder_clears_all job stock moves e (λ j r. row_held e j (row j r));
      }

  -- a row that fails at the least turn by the holder's test passes the cutter's
  abbrev FailsHeld : ℕ → Type 0
  FailsHeld m = (j : ℕ) × (m ≡ blocks_of w + j) × CutClearsRow job (row_before job moves (fresh_row job stock j) least) (move_at moves least)

  cut_of : (r : RowState) (m : Move) (i : ℕ) (leaf : Leaf) (t : RowTest) → t ≡ test.Holder → StopsBy t job r m i leaf → CutClearsRow job r m
  cut_of r m i leaf test.Cut e stops = absurd (cc)
  cut_of r m i leaf test.Holder e stops = stops.cut

  held_of : (m : ℕ) (p : Piece) → IsPieceFailed w m least p → test_of p ≡ test.Holder → FailsHeld m
  held_of m (Block b s) f e = absurd (cc)
  held_of m (Stock b r) f e =
      let found = f.2.fail in (
        r.row,
        f.1,
        cut_of (row_before job moves (fresh_row job stock r.row) least) (move_at moves least) found.col found.leaf found.test
            (sym (ap test_in (ap (λ (x : RowState). x.failed) f.2.noted)) ∙ e) f.2.stops.stops,
      )

  -- how a piece failed that failed at the least turn
  failed_there : (m : ℕ) (h : Held Piece) → IsDone tests w least m h → HasFailed least h → FailsAt tests w m least × IsPieceFailed w m least h.piece
  failed_there m h d f =
      let g = d.is_true.failed f.0 in
      subst (λ (t : ℕ). FailsAt tests w m t × IsPieceFailed w m t h.piece) f.1
      (subst (λ (k : ℕ). FailsAt tests w k h.next × IsPieceFailed w k h.next h.piece) d.number g)

  -- a piece that hasn't failed at the least turn passes its tests of that move
  not_failed : (m : ℕ) → m < piece_count w → first_turn w m ≤ least → least < turn_limit w m → ((h : Held Piece) → slice_get hs m ≡ Some h → ¬ HasFailed least h) → PassesTest w m least
  not_failed m under from to none =
      let t = done m under in
      passes_to tests w least m t.0 t.2 (λ k. closed.under m k under) least from to (omega arith) (none t.0 t.1)

  -- one that has failed in no way but by the holder's test of a row passes its tests, or is such a row
  not_cut : (m : ℕ) → m < piece_count w → first_turn w m ≤ least → least < turn_limit w m → ((h : Held Piece) → slice_get hs m ≡ Some h → ¬ HasFailedBy test.Cut least h) → PassesTest w m least ⊎ FailsHeld m
  not_cut m under from to none =
      let t = done m under in
      elim (failed_or_not least t.0) [
        | inl f ↦ by t.0 t.1 t.2 f (test_of t.0.piece) refl
        | inr passed ↦ inl (passes_to tests w least m t.0 t.2 (λ k. closed.under m k under) least from to (omega arith) passed)
      ]
    where
      by : (h : Held Piece) → slice_get hs m ≡ Some h → IsDone tests w least m h → HasFailed least h → (u : RowTest) → test_of h.piece ≡ u → PassesTest w m least ⊎ FailsHeld m
      by h at d f test.Cut e = absurd (none h at (f, e))
      by h at d f test.Holder e = inr (held_of m h.piece (failed_there m h d f).1 e)

  module _ (n : ℕ) (first : IsFirstFailed least hs n) where
    here : IsDone tests w least n first.held
    here = closed.each n first.held first.there

    under : n < piece_count w
    under = subst (λ (k : ℕ). k < piece_count w) here.number here.is_true.number

    failing : FailsAt tests w n least × IsPieceFailed w n least first.held.piece
    failing = failed_there n first.held here first.failed

    turn_there : least < turns
    turn_there = under_turns n least under failing.0.to

    pub move_there : least < length moves
    move_there = let t = turn_there in omega (t, within, arith)

    -- the kind of the move that fails, and that it is what is read
    abbrev kind : Kind
    kind = (move_at moves least).kind

    kind_read : (d : Move) → kind ≡ (slice_index_or moves least d).kind
    kind_read d = sym (ap (λ (m : Move). m.kind) (move_read moves least d move_there))

    -- it has a reason
    has_reason : IsJob job → length moves ≤ MAX_MOVES → (p : Piece) → IsPieceFailed w n least p → (reason : Reason) × IsReasonOf kind (blocks_of w) least p reason
    has_reason ok few (Block m b) f = (clash_reason least f.2.fail, (f.2.fail, ap (λ (x : BlockState). x.failed) f.2.noted, refl))
    has_reason ok few (Stock m r) f =
        let u = under in let rows = rows_few ok in let same = f.0 in
        (stock_reason f.2.fail.test kind least r.row f.2.fail.col f.2.fail.leaf, (f.2.fail, ap (λ (x : RowState). x.failed) f.2.noted, f.0 ∙ f.1, omega (same, u, rows, few, within, arith), refl))

    pub reason_there : (d : Move) (blocks : ℕ) → blocks ≡ blocks_of w → IsJob job → length moves ≤ MAX_MOVES → (h : Held Piece) → h ≡ slice_index_or hs n h
        → (reason : Reason) × IsReasonOf (slice_index_or moves least d).kind blocks h.next h.piece reason
    reason_there d blocks count ok few h at =
        let same : first.held ≡ h = read_there hs n first.held h first.there at in
        subst (λ (v : Kind). (reason : Reason) × IsReasonOf v blocks h.next h.piece reason) (kind_read d)
        (subst (λ (k : ℕ). (reason : Reason) × IsReasonOf kind k h.next h.piece reason) (sym count)
        (subst (λ (x : Held Piece). (reason : Reason) × IsReasonOf kind (blocks_of w) x.next x.piece reason) same
        (subst (λ (t : ℕ). (reason : Reason) × IsReasonOf kind (blocks_of w) t first.held.piece reason) (sym first.failed.1) (has_reason ok few first.held.piece failing.1))))

    -- which is the program's
    abbrev Rejects : Reason → Type 0
    Rejects reason = IsShown job part stock moves reason

    held_shown : (tri : Tri) (holder : Solid) → holder_solid_of job ≡ Some holder → (leaf : Leaf) → SolidIsBlocked holder (move_at moves least) tri leaf → BlocksHeld job moves least leaf tri
    held_shown tri holder mounted leaf = for_some (λ (v : Solid). SolidIsBlocked v (move_at moves least) tri leaf) (holder_solid_of job) holder mounted

    clash_rejects : (found : Clash) → IsClash job part (move_at moves least) found → Rejects (clash_reason least found)
    clash_rejects (clash.Cutter g) f = record {
      of_move = tt;
      rejects = record {
        there = move_there;
        before = good_to least (omega arith);
        floor = floor.over least turn_there;
        tri = f.tri;
        first = f.first;
        fails = f.fails;
      };
      shown = f.blocked;
    }
    clash_rejects (clash.Holder g) f = record {
      of_move = tt;
      rejects = record {
        there = move_there;
        before = good_to least (omega arith);
        floor = floor.over least turn_there;
        clears = f.clears;
        holder = f.holder;
        mounted = f.mounted;
        tri = f.first.tri;
        first = f.first.first;
        fails = f.first.fails;
      };
      shown = for_some (λ (holder : Solid). SolidIsBlocked holder (move_at moves least) (tri_at part g.tri) g.leaf) (holder_solid_of job) f.holder f.mounted f.first.blocked;
    }
    clash_rejects (clash.Fixture hit) f = record {
      of_move = tt;
      rejects = record {
        there = move_there;
        before = good_to least (omega arith);
        floor = floor.over least turn_there;
        clears = f.passes_part.cutter;
        holder = f.passes_part.holder;
        fixture = f.first.there;
        first = f.first.first;
        fails = f.first.fails;
      };
      shown = f.first.blocked;
    }
    clash_rejects (clash.HolderFixture hit) f = record {
      of_move = tt;
      rejects = record {
        there = move_there;
        before = good_to least (omega arith);
        floor = floor.over least turn_there;
        clears = f.passes_part.cutter;
        holder_clears = f.passes_part.holder;
        fixtures = f.clears;
        holder = f.holder;
        mounted = f.mounted;
        fixture = f.first.there;
        first = f.first.first;
        fails = f.first.fails;
      };
      shown = elim f.first.blocked [
        | inl first ↦ inl (held_shown (first_half (fixture_at job.keep_out hit.fixture)) f.holder f.mounted hit.leaf first)
        | inr second ↦ inr (held_shown (second_half (fixture_at job.keep_out hit.fixture)) f.holder f.mounted hit.leaf second)
      ];
    }

    kind_rejects : (v : Kind) (j i : ℕ) (leaf : Leaf) → FailsStockOn job part stock moves (tested_as v) least j i leaf → StopsAt job stock moves (tested_as v) least j i leaf → Rejects (cut_reason v least j i leaf)
    kind_rejects Rapid j i leaf fails stops = record { of_move = tt; rejects = fails; shown = stops }
    kind_rejects Feed j i leaf fails stops = record { of_move = tt; rejects = fails; shown = stops }
    kind_rejects Dogleg j i leaf fails stops = record { of_move = tt; rejects = fails; shown = stops }

    -- the pieces of these numbers have failed in no way but by the holder's test of a row
    abbrev NoCut : ℕ → Type 0
    NoCut bound = NoneFailedBy test.Cut least hs bound

    block_passed : (bound : ℕ) → NoCut bound → blocks_of w ≤ bound → IsClear job part (move_at moves least)
    block_passed bound none over =
        let lt = turn_there in
        let b = block_under least lt in
        elim (not_cut (least / 64) (omega (b, arith)) (block_first least lt) (block_last least lt) (λ h at. none (least / 64) h (omega (b, over, arith)) at)) [
          | inl p ↦ block_cleared least lt p
          | inr t ↦ absurd (let e = t.1 in omega (e, b, arith))
        ]

    row_cut : (bound j : ℕ) → NoCut bound → blocks_of w + j < bound → j < row_count job → RowClears job stock moves least j
    row_cut bound j none under_bound there =
        elim (not_cut (blocks_of w + j) (omega (there, arith)) (row_first least j) (row_last least j turn_there) (λ h at. none (blocks_of w + j) h under_bound at)) [
          | inl p ↦ row_cleared least j p
          | inr t ↦ row_cut_clears job stock moves least j (subst (λ (i : ℕ). CutClearsRow job (row_before job moves (fresh_row job stock i) least) (move_at moves least)) (let e = t.1 in let same : t.0 ≡ j = omega (e, arith) in same) t.2)
        ]

    cut_rejects : (j i : ℕ) (leaf : Leaf) → n ≡ blocks_of w + j → NoCut n → CutStopsAt job (row_before job moves (fresh_row job stock j) least) (move_at moves least) i leaf → Rejects (cut_reason kind least j i leaf)
    cut_rejects j i leaf number none stop =
        let s = row_stops job stock moves least j (cutting job kind (move_at moves least)) i leaf stop.column stop.blocked in
        let u = under in
        let clear = block_passed n none (omega (number, arith)) in
        let here = point_as job kind (stock_met job stock moves least) j i in
        kind_rejects kind j i leaf
        (record {
          there = move_there;
          before = good_to least (omega arith);
          floor = floor.over least turn_there;
          clears = clear.passes_part.cutter;
          holder = clear.passes_part.holder;
          fixtures = clear.passes_fixtures.cutter;
          holder_fixtures = clear.passes_fixtures.holder;
          is = refl;
          tested = is_tested_as job kind stop.tested;
          column = record { row = omega (number, u, arith); column = s.column };
          first = λ a b column order. elim order [
            | inl less ↦ row_cut n a none (omega (less, number, arith)) column.row stop.tested b column.column
            | inr same ↦ subst (λ (v : ℕ). PassesColumnOn job stock moves least v b) (sym same.0) (s.before b same.1)
          ];
          fails = subst (λ (p : Pt3). SolidFailsAt (stock_solid_of job) (move_at moves least) (point_tri p) leaf) here s.fails;
        })
        (subst (λ (p : Pt3). SolidIsBlocked (stock_solid_of job) (move_at moves least) (point_tri p) leaf) here s.blocked)

    -- a row before it that failed in neither way passes the holder's test
    row_passed : (a : ℕ) → NoCut (length hs) → NoneFailedBy test.Holder least hs n → blocks_of w + a < n → RowHolderClears job stock moves least a
    row_passed a none held before =
        let u = under in let count = closed.count in
        row_held least a (not_failed (blocks_of w + a) (omega (before, u, arith)) (row_first least a) (row_last least a turn_there)
        (λ h at. in_one_way least h (none (blocks_of w + a) h (omega (before, u, count, arith)) at) (held (blocks_of w + a) h before at)))

    held_rejects : (j i : ℕ) (leaf : Leaf) → n ≡ blocks_of w + j → NoCut (length hs) → NoneFailedBy test.Holder least hs n → HolderStopsAt job (row_before job moves (fresh_row job stock j) least) (move_at moves least) i leaf → Rejects (HolderStock least j i leaf)
    held_rejects j i leaf number none held stop =
        let held_stop = stop.holder in
        let s = row_stops job stock moves least j (holding held_stop.holder (move_at moves least)) i leaf held_stop.column held_stop.blocked in
        let u = under in let count = closed.count in
        let clear = block_passed (length hs) none (omega (u, number, count, arith)) in record {
          of_move = tt;
          rejects = record {
            there = move_there;
            before = good_to least (omega arith);
            floor = floor.over least turn_there;
            clears = clear.passes_part.cutter;
            holder_clears = clear.passes_part.holder;
            fixtures = clear.passes_fixtures.cutter;
            holder_fixtures = clear.passes_fixtures.holder;
            stock = λ tested a b column. row_cut (length hs) a none (let r = column.row in omega (r, count, arith)) column.row tested b column.column;
            holder = held_stop.holder;
            mounted = held_stop.there;
            column = record { row = omega (number, u, arith); column = s.column };
            first = λ a b column order. elim order [
              | inl less ↦ of_some (λ (h : Solid). HolderPassesTops h job stock moves least a) (holder_solid_of job) held_stop.holder held_stop.there (row_passed a none held (omega (less, number, arith))) b column.column
              | inr same ↦ subst (λ (v : ℕ). SolidPassesPoint held_stop.holder (move_at moves least) (top_point_on job (stock_met job stock moves least) v b)) (sym same.0) (s.before b same.1)
            ];
            fails = s.fails;
          };
          shown = for_some (λ (h : Solid). SolidIsBlocked h (move_at moves least) (point_tri (top_point_on job (stock_met job stock moves least) j i)) leaf) (holder_solid_of job) held_stop.holder held_stop.there s.blocked;
        }

    stock_rejects : (j i : ℕ) (leaf : Leaf) (t : RowTest) → n ≡ blocks_of w + j → (t ≡ test.Holder → NoCut (length hs)) → NoneFailedBy t least hs n
        → StopsBy t job (row_before job moves (fresh_row job stock j) least) (move_at moves least) i leaf → Rejects (stock_reason t kind least j i leaf)
    stock_rejects j i leaf test.Cut number none before stop = cut_rejects j i leaf number before stop
    stock_rejects j i leaf test.Holder number none before stop = held_rejects j i leaf number (none refl) before stop

    rejects : (p : Piece) (reason : Reason) → (test_of p ≡ test.Holder → NoCut (length hs)) → NoneFailedBy (test_of p) least hs n → IsPieceFailed w n least p → IsReasonOf kind (blocks_of w) least p reason → Rejects reason
    rejects (Block m b) reason none before f r =
        let same : f.2.fail ≡ r.0 = one_of (sym (ap (λ (x : BlockState). x.failed) f.2.noted) ∙ r.1) in
        subst Rejects (sym r.2) (clash_rejects r.0 (subst (λ (g : Clash). IsClash job part (move_at moves least) g) same f.2.fails))
    rejects (Stock m row) reason none before f r =
        let same : f.2.fail ≡ r.0 = one_of (sym (ap (λ (x : RowState). x.failed) f.2.noted) ∙ r.1) in
        let way : test_of (Stock m row) ≡ r.0.test = ap test_in r.1 in
        let stop = subst (λ (x : RowFail). StopsRow job (row_before job moves (fresh_row job stock row.row) least) (move_at moves least) x) same f.2.stops in
        subst Rejects (sym r.4) (stock_rejects row.row r.0.col r.0.leaf r.0.test f.1 (λ e. none (way ∙ e)) (subst (λ (u : RowTest). NoneFailedBy u least hs n) way before) stop.stops)

    pub rejected : (d : Move) (blocks : ℕ) → blocks ≡ blocks_of w → (h : Held Piece) (reason : Reason) → h ≡ slice_index_or hs n h
        → IsReasonOf (slice_index_or moves least d).kind blocks h.next h.piece reason → Rejects reason
    rejected d blocks count h reason at told =
        let of_kind = subst (λ (v : Kind). IsReasonOf v blocks h.next h.piece reason) (sym (kind_read d)) told in
        let r = subst (λ (k : ℕ). IsReasonOf kind k h.next h.piece reason) count of_kind in
        let same : h ≡ first.held = sym (read_there hs n first.held h first.there at) in
        rejects first.held.piece reason first.cut first.before failing.1
        (subst (λ (t : ℕ). IsReasonOf kind (blocks_of w) t first.held.piece reason) first.failed.1 (subst (λ (x : Held Piece). IsReasonOf kind (blocks_of w) x.next x.piece reason) same r))

  module _ (none : NoneFailed least hs (length hs)) where
    -- where no piece has failed at the least turn, that is the number of turns
    all_turns : least ≡ turns
    all_turns = ⊎_elim (λ (e : least ≡ turns). e)
        (λ (t : (n : ℕ) × (n < piece_count w) × FailsAt tests w n least).
        let d = done t.0 t.1 in let f = fails_least tests w least t.0 d.0 d.2 t.2 in absurd (none t.0 d.0 (in_list hs t.0 d.0 d.1) d.1 (f.failed, f.next))) closed.failure

    -- the first move that fails test (i) is then the program's failure
    pub floor_rejects : turns < length moves → IsShown job part stock moves (Floor turns)
    floor_rejects there = record {
      of_move = tt;
      rejects = record { there = there; before = good_to turns (let e = all_turns in omega (e, arith)); fails = floor.fails there };
      shown = tt;
    }

    module _ (whole : length moves ≤ turns) where
      count_is : turns ≡ length moves
      count_is = omega (whole, within, arith)

      pub all_passed : ArePassed job part stock moves (flat_map row_in hs)
      all_passed = record {
        good = good_to (length moves) (let e = all_turns in let c = count_is in omega (e, c, arith));
        shows = gathered w count_is hs closed.count (λ n h at.
            let d = closed.each n h at in
            let p = passes_all tests w turns least n h (spans w) all_turns closed.under d in
            subst (λ (t : ℕ). IsPieceAt w n t h.piece) p.next p.piece);
      }
