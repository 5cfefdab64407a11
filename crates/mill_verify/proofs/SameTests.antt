-- What is said of a program on a stock is said of it on each stock that is the same at each column.
use Rattle.std.specs.Prelude.{◌≡◌, ℕ, ℤ, ◌-ℤ◌, List, length, take, Result, Ok, Err}
use Rattle.std.proofs.Common.{◌∙◌, ap, subst}
use Rattle.mill_base.specs.Covers.{Covered, IsHighestCovered}
use Rattle.mill_base.specs.Points.{point_at, point_tri}
use Rattle.mill_base.specs.declared.points.Pt3.{Pt3}
use Rattle.mill_base.specs.declared.points.Tri.{Tri}
use Rattle.mill_base.specs.declared.motion.Kind.{Kind}
use Rattle.mill_base.specs.declared.motion.Kind.TheVariants.{Rapid, Feed}
use Rattle.mill_base.specs.declared.motion.Move.{Move}
use Rattle.mill_base.specs.Solids.{Solid}
use Rattle.mill_sweep.specs.Solids.{SolidFailsAt, SolidPassesPoint}
use Rattle.mill_sweep.specs.declared.leaf.Leaf.{Leaf}
use Rattle.mill_job.specs.Solids.{holder_solid_of, stock_solid_of}
use Rattle.mill_job.specs.declared.fields.JobFields.{JobFields}
use Rattle.mill_job.specs.Columns.{IsColumn, column_x, column_y}
use Rattle.mill_dexel.specs.Rows.{RowState}
use Rattle.mill_dexel.specs.Stocks.{AreSame, ShowsStock, shown_by}
use Rattle.mill_dexel.specs.Tops.{Stock, stock_after, tested_height, tested_point_on, top_point_on}
use Rattle.mill_dexel.specs.Turns.{move_at}
use Rattle.mill_dexel.proofs.SameStocks.{same_after, same_back, shown_same, shows_same}
use Rattle.mill_verify.specs.Tests.{ClearsStockOn, GoodBeforeOn, HolderClearsStockOn, IsCutOn, IsGoodOn, stock_met}
use Rattle.mill_verify.specs.Verdicts.{BlocksHolder, BlocksLeaf, FailsHolderStockOn, FailsStockOn, IsFirstUncut, IsLeftOverOn, StopsMoveOn}
use Rattle.mill_verify.specs.declared.left.Uncut.{Uncut}
use Rattle.mill_verify.specs.declared.verdict.Reason.{Reason}
use Rattle.mill_verify.specs.declared.verdict.Reason.TheVariants.{Floor, Gouge, Holder, Fixture, HolderFixture, Rapid as RapidCut, Cut, HolderStock, Left}
use Rattle.mill_verify.specs.inner.Firsts.{ArePassed, AreRowsTold, IsStockLeft, IsStockTold, IsStopped}
use Rattle.mill_verify.specs.inner.Readiness.{AreJobRows}
use Rattle.mill_verify.proofs.Mounted.{each_some}
use Rattle.mill_verify.proofs.Ranges.{some_rows}
use Rattle.mill_verify.proofs.Remaining.{stock_told}

-- test (iv)
module _ (job : JobFields) (part : List Tri) (a b : Stock) (same : AreSame job a b) where
  same_cut : (j i : ℕ) → IsColumn job j i → IsCutOn job part a j i → IsCutOn job part b j i
  same_cut j i column cut = subst (λ (top : ℤ). Covered part job.floor job.band (column_x job i) (column_y job j) (top -ℤ job.allowance)) (same j i column) cut

  same_left : (j i : ℕ) (left : ℤ) → IsColumn job j i → IsLeftOverOn job part a j i left → IsLeftOverOn job part b j i left
  same_left j i left column h = record {
    height = h.height;
    highest = subst (λ (top : ℤ). IsHighestCovered part job.floor job.band (column_x job i) (column_y job j) top h.height) (same j i column) h.highest;
    difference = subst (λ (top : ℤ). left ≡ top -ℤ h.height) (same j i column) h.difference;
  }

module _ (job : JobFields) (part : List Tri) (a b : Stock) (same : AreSame job a b) where
  back : AreSame job b a
  back = same_back job a b same

  same_stock_left : (left : ℤ) → IsStockLeft job part a left → IsStockLeft job part b left
  same_stock_left left h = record {
    cut = λ j i column. same_cut job part a b same j i column (h.cut j i column);
    most = record {
      row = h.most.row;
      col = h.most.col;
      column = h.most.column;
      there = same_left job part a b same h.most.row h.most.col left h.most.column h.most.there;
      most = λ j i other column over. h.most.most j i other column (same_left job part b a back j i other column over);
    };
  }

  same_uncut : (j i : ℕ) (top : ℤ) → IsFirstUncut job part a j i top → IsFirstUncut job part b j i top
  same_uncut j i top h = record {
    column = h.column;
    first = λ c d column order. same_cut job part a b same c d column (h.first c d column order);
    fails = λ cut. h.fails (same_cut job part b a back j i h.column cut);
    shown = h.shown ∙ same j i h.column;
  }

-- so what is said of the stock that rows show is said of the stock whose tops they have
told_same : (job : JobFields) (part : List Tri) (rows : List RowState) (stock : Stock) → ShowsStock job stock rows → (told : Result ℤ Uncut) → IsStockTold job part (shown_by rows) told → IsStockTold job part stock told
told_same job part rows stock shows (Ok left) h = same_stock_left job part (shown_by rows) stock (shown_same job stock rows shows) left h
told_same job part rows stock shows (Err uncut) h = same_uncut job part (shown_by rows) stock (shown_same job stock rows shows) uncut.row uncut.col uncut.top h

-- and what is said of all rows is said of that stock
pub rows_told : (job : JobFields) (part : List Tri) (rows : List RowState) (told : Result ℤ Uncut) → AreJobRows job rows → AreRowsTold job part (shown_by rows) 0 (length rows) told
    → (stock : Stock) → ShowsStock job stock rows → IsStockTold job part stock told
rows_told job part rows told are h stock shows = told_same job part rows stock shows told (stock_told job part (shown_by rows) (length rows) told are.shows.count (some_rows job) h)

-- tests (iii) and (iii h)
module _ (job : JobFields) (part : List Tri) (a b : Stock) (moves : List Move) (same : AreSame job a b) where
  met : (k : ℕ) → AreSame job (stock_met job a moves k) (stock_met job b moves k)
  met k = same_after job a b same (take k moves)

  same_tested : (kind : Kind) (k j i : ℕ) → IsColumn job j i → tested_point_on job kind (stock_met job a moves k) j i ≡ tested_point_on job kind (stock_met job b moves k) j i
  same_tested kind k j i column = ap (λ (top : ℤ). point_at (column_x job i) (column_y job j) (tested_height job kind top)) (met k j i column)

  same_top : (k j i : ℕ) → IsColumn job j i → top_point_on job (stock_met job a moves k) j i ≡ top_point_on job (stock_met job b moves k) j i
  same_top k j i column = ap (λ (top : ℤ). point_at (column_x job i) (column_y job j) top) (met k j i column)

  same_clears : (k : ℕ) → ClearsStockOn job a moves k → ClearsStockOn job b moves k
  same_clears k clears tested j i column = subst (λ (p : Pt3). SolidPassesPoint (stock_solid_of job) (move_at moves k) p) (same_tested (move_at moves k).kind k j i column) (clears tested j i column)

  same_holder_clears : (k : ℕ) → HolderClearsStockOn job a moves k → HolderClearsStockOn job b moves k
  same_holder_clears k = each_some
      (λ (holder : Solid). (j i : ℕ) → IsColumn job j i → SolidPassesPoint holder (move_at moves k) (top_point_on job (stock_met job a moves k) j i))
      (λ (holder : Solid). (j i : ℕ) → IsColumn job j i → SolidPassesPoint holder (move_at moves k) (top_point_on job (stock_met job b moves k) j i)) (holder_solid_of job)
      (λ holder clears j i column. subst (λ (p : Pt3). SolidPassesPoint holder (move_at moves k) p) (same_top k j i column) (clears j i column))

  same_good : (k : ℕ) → IsGoodOn job part a moves k → IsGoodOn job part b moves k
  same_good k good = record {
    floor = good.floor;
    clears = good.clears;
    holder = good.holder;
    fixtures = good.fixtures;
    holder_fixtures = good.holder_fixtures;
    stock = same_clears k good.stock;
    holder_stock = same_holder_clears k good.holder_stock;
  }

  same_before : (k : ℕ) → GoodBeforeOn job part a moves k → GoodBeforeOn job part b moves k
  same_before k before e under = same_good e (before e under)

  same_fails : (kind : Kind) (k j i : ℕ) (leaf : Leaf) → FailsStockOn job part a moves kind k j i leaf → FailsStockOn job part b moves kind k j i leaf
  same_fails kind k j i leaf h = record {
    there = h.there;
    before = same_before k h.before;
    floor = h.floor;
    clears = h.clears;
    holder = h.holder;
    fixtures = h.fixtures;
    holder_fixtures = h.holder_fixtures;
    is = h.is;
    tested = h.tested;
    column = h.column;
    first = λ c d column order. subst (λ (p : Pt3). SolidPassesPoint (stock_solid_of job) (move_at moves k) p) (same_tested (move_at moves k).kind k c d column) (h.first c d column order);
    fails = subst (λ (p : Pt3). SolidFailsAt (stock_solid_of job) (move_at moves k) (point_tri p) leaf) (same_tested kind k j i h.column) h.fails;
  }

  same_stops : (kind : Kind) (k j i : ℕ) (leaf : Leaf) → IsColumn job j i → StopsMoveOn job a moves kind k j i leaf → StopsMoveOn job b moves kind k j i leaf
  same_stops kind k j i leaf column = subst (λ (p : Pt3). BlocksLeaf (stock_solid_of job) (move_at moves k) leaf (point_tri p)) (same_tested kind k j i column)

  same_holder_fails : (k j i : ℕ) (leaf : Leaf) → FailsHolderStockOn job part a moves k j i leaf → FailsHolderStockOn job part b moves k j i leaf
  same_holder_fails k j i leaf h = record {
    there = h.there;
    before = same_before k h.before;
    floor = h.floor;
    clears = h.clears;
    holder_clears = h.holder_clears;
    fixtures = h.fixtures;
    holder_fixtures = h.holder_fixtures;
    stock = same_clears k h.stock;
    holder = h.holder;
    mounted = h.mounted;
    column = h.column;
    first = λ c d column order. subst (λ (p : Pt3). SolidPassesPoint h.holder (move_at moves k) p) (same_top k c d column) (h.first c d column order);
    fails = subst (λ (p : Pt3). SolidFailsAt h.holder (move_at moves k) (point_tri p) leaf) (same_top k j i h.column) h.fails;
  }

  -- a move that fails first on the one does on the other
  pub same_stopped : (reason : Reason) → IsStopped job part a moves reason → IsStopped job part b moves reason
  same_stopped (Floor k) h = record { of_move = tt; rejects = record { there = h.rejects.there; before = same_before k h.rejects.before; fails = h.rejects.fails }; names = tt }
  same_stopped (Gouge k t leaf) h = record {
    of_move = tt;
    rejects = record { there = h.rejects.there; before = same_before k h.rejects.before; floor = h.rejects.floor; tri = h.rejects.tri; first = h.rejects.first; fails = h.rejects.fails };
    names = h.names;
  }
  same_stopped (Holder k t leaf) h = record {
    of_move = tt;
    rejects = record {
      there = h.rejects.there;
      before = same_before k h.rejects.before;
      floor = h.rejects.floor;
      clears = h.rejects.clears;
      holder = h.rejects.holder;
      mounted = h.rejects.mounted;
      tri = h.rejects.tri;
      first = h.rejects.first;
      fails = h.rejects.fails;
    };
    names = h.names;
  }
  same_stopped (Fixture k b leaf) h = record {
    of_move = tt;
    rejects = record {
      there = h.rejects.there;
      before = same_before k h.rejects.before;
      floor = h.rejects.floor;
      clears = h.rejects.clears;
      holder = h.rejects.holder;
      fixture = h.rejects.fixture;
      first = h.rejects.first;
      fails = h.rejects.fails;
    };
    names = h.names;
  }
  same_stopped (HolderFixture k b leaf) h = record {
    of_move = tt;
    rejects = record {
      there = h.rejects.there;
      before = same_before k h.rejects.before;
      floor = h.rejects.floor;
      clears = h.rejects.clears;
      holder_clears = h.rejects.holder_clears;
      fixtures = h.rejects.fixtures;
      holder = h.rejects.holder;
      mounted = h.rejects.mounted;
      fixture = h.rejects.fixture;
      first = h.rejects.first;
      fails = h.rejects.fails;
    };
    names = h.names;
  }
  same_stopped (RapidCut k j i leaf) h = record { of_move = tt; rejects = same_fails Rapid k j i leaf h.rejects; names = same_stops Rapid k j i leaf h.rejects.column h.names }
  same_stopped (Cut k j i leaf) h = record { of_move = tt; rejects = same_fails Feed k j i leaf h.rejects; names = same_stops Feed k j i leaf h.rejects.column h.names }
  same_stopped (HolderStock k j i leaf) h = record {
    of_move = tt;
    rejects = same_holder_fails k j i leaf h.rejects;
    names = subst (λ (p : Pt3). BlocksHolder job moves k leaf (point_tri p)) (same_top k j i h.rejects.column) h.names;
  }
  same_stopped (Left j i top) h = absurd h.of_move

  -- and one that passes on the one does on the other
  pub same_passed : (rows : List RowState) → ArePassed job part a moves rows → ArePassed job part b moves rows
  same_passed rows h = record {
    good = same_before (length moves) h.good;
    shows = shows_same job (stock_after job a moves) (stock_after job b moves) (same_after job a b same moves) rows h.shows;
  }
