-- A move by itself on a stock, and as one of a program's.
use Rattle.std.specs.Prelude.{◌≡◌, ℕ, zero, suc, ◌<◌, List, [], ◌∷◌, length, refl}
use Rattle.std.proofs.Common.{sym, ◌∙◌, ap, subst, arith, inl, inr}
use Rattle.mill_base.specs.declared.points.Tri.{Tri}
use Rattle.mill_base.specs.declared.motion.Move.{Move}
use Rattle.mill_base.specs.declared.motion.Kind.{Kind}
use Rattle.mill_base.specs.declared.motion.Kind.TheVariants.{Rapid, Feed}
use Rattle.mill_base.specs.Points.{point_tri, tri_at}
use Rattle.mill_sweep.specs.declared.leaf.Leaf.{Leaf}
use Rattle.mill_job.specs.declared.fields.JobFields.{JobFields}
use Rattle.mill_dexel.specs.Tops.{Stock, top_point_on, uncut}
use Rattle.mill_dexel.specs.Turns.{move_at}
use Rattle.mill_obstacles.specs.Faces.{first_half, second_half}
use Rattle.mill_verify.specs.Fixtures.{fixture_at}
use Rattle.mill_verify.specs.Tests.{GoodBefore, IsGood, IsGoodOn, IsOverFloor, stock_met}
use Rattle.mill_verify.specs.Verdicts.{BlocksHolder, FailsStockOn, IsOfMove, IsRejection, IsRejectionOn, NamesLeaf}
use Rattle.mill_verify.specs.declared.verdict.Reason.{Reason}
use Rattle.mill_verify.specs.declared.verdict.Reason.TheVariants.{Floor, Gouge, Holder, Fixture, HolderFixture, Rapid as RapidCut, Cut, HolderStock, Left}
use Rattle.mill_verify.proofs.Unique.{moves_fail, one_reason}
use Rattle.mill_report.specs.Findings.{FailsAlone, IsFinding, move_of, numbered}

-- a reason, by what it is but for its number, and by that
renumbered : (r : Reason) → numbered (move_of r) (numbered 0 r) ≡ r
renumbered (Floor k) = refl
renumbered (Gouge k t leaf) = refl
renumbered (Holder k t leaf) = refl
renumbered (Fixture k b leaf) = refl
renumbered (HolderFixture k b leaf) = refl
renumbered (RapidCut k j i leaf) = refl
renumbered (Cut k j i leaf) = refl
renumbered (HolderStock k j i leaf) = refl
renumbered (Left j i top) = refl

-- a move fails alone for one reason
pub one_failure : (job : JobFields) (part : List Tri) (stock : Stock) (m : Move) (r s : Reason) → FailsAlone job part stock m r → FailsAlone job part stock m s → move_of r ≡ move_of s → r ≡ s
one_failure job part stock m r s h g e =
    sym (renumbered r)
    ∙ ap (λ (x : Reason). numbered (move_of r) x) (one_reason job part stock (m ∷ []) (numbered 0 r) (numbered 0 s) h.rejects g.rejects)
    ∙ ap (λ (n : ℕ). numbered n (numbered 0 s)) e
    ∙ renumbered s

-- and then it isn't good alone
still_of_move : (r : Reason) → IsOfMove r → IsOfMove (numbered 0 r)
still_of_move (Floor k) h = h
still_of_move (Gouge k t leaf) h = h
still_of_move (Holder k t leaf) h = h
still_of_move (Fixture k b leaf) h = h
still_of_move (HolderFixture k b leaf) h = h
still_of_move (RapidCut k j i leaf) h = h
still_of_move (Cut k j i leaf) h = h
still_of_move (HolderStock k j i leaf) h = h
still_of_move (Left j i top) h = h

pub alone_fails : (job : JobFields) (part : List Tri) (stock : Stock) (m : Move) (r : Reason) → FailsAlone job part stock m r → ¬ IsGoodOn job part stock (m ∷ []) 0
alone_fails job part stock m r h good = moves_fail job part stock (m ∷ []) (numbered 0 r) (still_of_move r h.of_move) h.rejects each
  where
    each : (e : ℕ) → e < 1 → IsGoodOn job part stock (m ∷ []) e
    each zero less = good
    each (suc e) less = absurd (omega (less, arith))

-- ---- as one of a program's moves
module _ (job : JobFields) (part : List Tri) (moves : List Move) where
  abbrev met : ℕ → Stock
  met k = stock_met job (uncut job) moves k

  abbrev alone : ℕ → List Move
  alone k = move_at moves k ∷ []

  -- the floor is tested on the move alone
  over_met : (k : ℕ) → IsOverFloor job (alone k) 0 → IsOverFloor job moves k
  over_met k over = record { start = over.start; «end» = over.«end» }

  pub good_alone : (k : ℕ) → IsGood job part moves k → IsGoodOn job part (met k) (alone k) 0
  good_alone k g = record { floor = record { start = g.floor.start; «end» = g.floor.«end» }; clears = g.clears; holder = g.holder; fixtures = g.fixtures; holder_fixtures = g.holder_fixtures; stock = g.stock; holder_stock = g.holder_stock }

  pub good_met : (k : ℕ) → IsGoodOn job part (met k) (alone k) 0 → IsGood job part moves k
  good_met k g = record { floor = over_met k g.floor; clears = g.clears; holder = g.holder; fixtures = g.fixtures; holder_fixtures = g.holder_fixtures; stock = g.stock; holder_stock = g.holder_stock }

  -- where all before a move are good, it is rejected as it is alone
  stock_rejected : (kind : Kind) (k j i : ℕ) (leaf : Leaf) → k < length moves → GoodBefore job part moves k → FailsStockOn job part (met k) (alone k) kind 0 j i leaf → FailsStockOn job part (uncut job) moves kind k j i leaf
  stock_rejected kind k j i leaf there before h = record {
    there = there;
    before = before;
    floor = over_met k h.floor;
    clears = h.clears;
    holder = h.holder;
    fixtures = h.fixtures;
    holder_fixtures = h.holder_fixtures;
    is = h.is;
    tested = h.tested;
    column = h.column;
    first = h.first;
    fails = h.fails;
  }

  pub rejected_met : (r : Reason) → IsOfMove r → move_of r < length moves → GoodBefore job part moves (move_of r) → IsRejectionOn job part (met (move_of r)) (alone (move_of r)) (numbered 0 r) → IsRejection job part moves r
  rejected_met (Floor k) of_move there before h = record { there = there; before = before; fails = λ over. h.fails (record { start = over.start; «end» = over.«end» }) }
  rejected_met (Gouge k t leaf) of_move there before h = record { there = there; before = before; floor = over_met k h.floor; tri = h.tri; first = h.first; fails = h.fails }
  rejected_met (Holder k t leaf) of_move there before h = record {
    there = there;
    before = before;
    floor = over_met k h.floor;
    clears = h.clears;
    holder = h.holder;
    mounted = h.mounted;
    tri = h.tri;
    first = h.first;
    fails = h.fails;
  }
  rejected_met (Fixture k b leaf) of_move there before h = record {
    there = there;
    before = before;
    floor = over_met k h.floor;
    clears = h.clears;
    holder = h.holder;
    fixture = h.fixture;
    first = h.first;
    fails = h.fails;
  }
  rejected_met (HolderFixture k b leaf) of_move there before h = record {
    there = there;
    before = before;
    floor = over_met k h.floor;
    clears = h.clears;
    holder_clears = h.holder_clears;
    fixtures = h.fixtures;
    holder = h.holder;
    mounted = h.mounted;
    fixture = h.fixture;
    first = h.first;
    fails = h.fails;
  }
  rejected_met (RapidCut k j i leaf) of_move there before h = stock_rejected Rapid k j i leaf there before h
  rejected_met (Cut k j i leaf) of_move there before h = stock_rejected Feed k j i leaf there before h
  rejected_met (HolderStock k j i leaf) of_move there before h = record {
    there = there;
    before = before;
    floor = over_met k h.floor;
    clears = h.clears;
    holder_clears = h.holder_clears;
    fixtures = h.fixtures;
    holder_fixtures = h.holder_fixtures;
    stock = h.stock;
    holder = h.holder;
    mounted = h.mounted;
    column = h.column;
    first = h.first;
    fails = h.fails;
  }
  rejected_met (Left j i top) of_move there before h = absurd of_move

  -- and names the leaf that it names alone
  held_met : (k : ℕ) (leaf : Leaf) (tri : Tri) → BlocksHolder job (alone k) 0 leaf tri → BlocksHolder job moves k leaf tri
  held_met k leaf tri h = record { holder = h.holder; mounted = h.mounted; blocks = h.blocks }

  pub names_met : (r : Reason) → NamesLeaf job part (met (move_of r)) (alone (move_of r)) (numbered 0 r) → NamesLeaf job part (uncut job) moves r
  names_met (Floor k) h = tt
  names_met (Gouge k t leaf) h = h
  names_met (Holder k t leaf) h = held_met k leaf (tri_at part t) h
  names_met (Fixture k b leaf) h = h
  names_met (HolderFixture k b leaf) h = elim h [
    | inl first ↦ inl (held_met k leaf (first_half (fixture_at job.keep_out b)) first)
    | inr second ↦ inr (held_met k leaf (second_half (fixture_at job.keep_out b)) second)
  ]
  names_met (RapidCut k j i leaf) h = h
  names_met (Cut k j i leaf) h = h
  names_met (HolderStock k j i leaf) h = held_met k leaf (point_tri (top_point_on job (met k) j i)) h
  names_met (Left j i top) h = tt

  -- a finding's move isn't good, and there is one of a move
  pub finding_fails : (r : Reason) → IsFinding job part moves r → ¬ IsGood job part moves (move_of r)
  finding_fails r h good = alone_fails job part (met (move_of r)) (move_at moves (move_of r)) r h.fails (good_alone (move_of r) good)

  pub one_finding : (r s : Reason) → IsFinding job part moves r → IsFinding job part moves s → move_of r ≡ move_of s → r ≡ s
  one_finding r s h g e =
      let same : FailsAlone job part (met (move_of r)) (move_at moves (move_of r)) s = subst (λ (n : ℕ). FailsAlone job part (met n) (move_at moves n) s) (sym e) g.fails in
      one_failure job part (met (move_of r)) (move_at moves (move_of r)) r s h.fails same e
