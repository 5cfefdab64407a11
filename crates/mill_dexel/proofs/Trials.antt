-- A row's tests, by the cutter or by its holder: which columns, and which rows, each passes without being tried.
use Rattle.std.proofs.Common.{◌≡◌, inl, inr, ℕ, ◌<◌, ◌≤◌, sym, subst, arith}
use Rattle.std.specs.Prelude.{ℤ, pos, ◌+ℤ◌, ◌≤ℤ◌}
use Rattle.std.proofs.lemmas.Bool.{cases_lt}
use Rattle.std.proofs.lemmas.Int.{ints}
use Rattle.mill_base.proofs.SolidLemmas.{higher_once}
use Rattle.mill_base.specs.Points.{point_at, point_tri}
use Rattle.mill_base.specs.Ranges.{MoveInRange}
use Rattle.mill_base.specs.Sizes.{IsCutter}
use Rattle.mill_base.specs.Solids.{IsLift, IsSolid, Solid, higher, lifted}
use Rattle.mill_base.specs.declared.cutter.Cutter.{Cutter}
use Rattle.mill_job.specs.Columns.{column_x, column_y}
use Rattle.mill_job.specs.declared.fields.JobFields.{JobFields}
use Rattle.mill_sweep.specs.Moments.{IsFar}
use Rattle.mill_sweep.specs.Reach.{margin_of}
use Rattle.mill_sweep.specs.Solids.{SolidPassesPoint}
use Rattle.mill_sweep.proofs.Solids.{far_passes}
use Rattle.mill_dexel.specs.inner.Cuts.{IsReachBy, IsBeyond}
use Rattle.mill_dexel.specs.Rows.{RowState, Test, PassesAt, PassesRow, top_at}
use Rattle.mill_dexel.specs.Tops.{tested_height}
use Rattle.mill_dexel.specs.inner.Passing.{PassesBeside}

-- a solid is in range, as its parts say that the code reads
pub read_solid : (solid : Solid) (cutter : Cutter) (lift : ℤ) → cutter ≡ solid.cutter → IsCutter cutter → lift ≡ solid.lift → IsLift lift → IsSolid solid
read_solid solid cutter lift cutter_is cutter_ok lift_is lift_ok = record { cutter_ok = subst IsCutter cutter_is cutter_ok; lift_ok = subst IsLift lift_is lift_ok }

module _ (job : JobFields) (test : Test) (r : RowState) (solid_ok : IsSolid test.solid) (range : MoveInRange test.move) where
  -- a test passes a point that is far from the move of its solid's tip
  far_point : (x y z : ℤ) → IsFar test.solid.cutter (lifted test.solid test.move) (point_tri (point_at x y z)) → SolidPassesPoint test.solid test.move (point_at x y z)
  far_point x y z far = far_passes test.solid test.move (point_tri (point_at x y z)) solid_ok range far

  -- such as one that is no higher than both its ends
  low_point : (x y z : ℤ) → z ≤ℤ higher (pos 1) test.move.from.z test.solid.lift → z ≤ℤ higher (pos 1) test.move.to.z test.solid.lift → SolidPassesPoint test.solid test.move (point_at x y z)
  low_point x y z from to = far_point x y z (inl (record { from = record { a = from; b = from; c = from }; to = record { a = to; b = to; c = to } }))

  pub low_passes : (i : ℕ) → tested_height job test.kind (top_at r.tops i) ≤ℤ (test.move.from.z +ℤ test.solid.lift) → tested_height job test.kind (top_at r.tops i) ≤ℤ (test.move.to.z +ℤ test.solid.lift) → PassesAt job test r i
  low_passes i from to = low_point (column_x job i) (column_y job r.row) (tested_height job test.kind (top_at r.tops i)) (lift_over test.move.from.z from) (lift_over test.move.to.z to)
    where
      lift_over : (a : ℤ) → tested_height job test.kind (top_at r.tops i) ≤ℤ (a +ℤ test.solid.lift) → tested_height job test.kind (top_at r.tops i) ≤ℤ higher (pos 1) a test.solid.lift
      lift_over a h = subst (λ (z : ℤ). tested_height job test.kind (top_at r.tops i) ≤ℤ z) (sym (higher_once a test.solid.lift)) h

  -- and one at least the radius and 2 away from both in x
  beside_point : (x y z : ℤ) → IsBeyond (margin_of test.solid.cutter) test.move.from.x test.move.to.x x → SolidPassesPoint test.solid test.move (point_at x y z)
  beside_point x y z (inl h) = far_point x y z (inr (inl (inr (record { a_e = h.first; b_e = h.first; c_e = h.first; a_f = h.second; b_f = h.second; c_f = h.second }))))
  beside_point x y z (inr h) = far_point x y z (inr (inl (inl (record { a_e = h.first; b_e = h.first; c_e = h.first; a_f = h.second; b_f = h.second; c_f = h.second }))))

  beside_passes : (i : ℕ) → IsBeyond (margin_of test.solid.cutter) test.move.from.x test.move.to.x (column_x job i) → PassesAt job test r i
  beside_passes i beyond = beside_point (column_x job i) (column_y job r.row) (tested_height job test.kind (top_at r.tops i)) beyond

  -- or in y, and so each of a row that stands there
  apart_point : (x y z : ℤ) → IsBeyond (margin_of test.solid.cutter) test.move.from.y test.move.to.y y → SolidPassesPoint test.solid test.move (point_at x y z)
  apart_point x y z (inl h) = far_point x y z (inr (inr (inr (record { a_e = h.first; b_e = h.first; c_e = h.first; a_f = h.second; b_f = h.second; c_f = h.second }))))
  apart_point x y z (inr h) = far_point x y z (inr (inr (inl (record { a_e = h.first; b_e = h.first; c_e = h.first; a_f = h.second; b_f = h.second; c_f = h.second }))))

  pub far_passes_row : IsBeyond (margin_of test.solid.cutter) test.move.from.y test.move.to.y (column_y job r.row) → PassesRow job test r
  far_passes_row beyond i within = apart_point (column_x job i) (column_y job r.row) (tested_height job test.kind (top_at r.tops i)) beyond

  -- so it passes the columns out of its reach, and those in reach, before one, that are no higher than its way's lower end
  pub passes_beside : (start upto «end» : ℕ) (low is : ℤ) → is ≡ low → IsReachBy job (margin_of test.solid.cutter) test.move.from.x test.move.to.x start «end»
      → low ≤ℤ (test.move.from.z +ℤ test.solid.lift) → low ≤ℤ (test.move.to.z +ℤ test.solid.lift) → ((k : ℕ) → start ≤ k → k < upto → tested_height job test.kind (top_at r.tops k) ≤ℤ is)
      → PassesBeside job test r upto «end»
  passes_beside start upto «end» low is same reach from to lower = record {
    before = λ k within. elim (cases_lt k start) [
      | inl outside ↦ beside_passes k (inl (reach.under k outside))
      | inr inside ↦
          let under = lower k inside within in
          low_passes k (over _ is low _ under same from) (over _ is low _ under same to)
    ];
    behind = λ k past within. beside_passes k (inr (reach.over k past within));
  }
    where
      over : (a b c d : ℤ) → a ≤ℤ b → b ≡ c → c ≤ℤ d → a ≤ℤ d
      over a b c d h e k = omega (h, e, k, arith, ints)

-- where the columns before one are passed, and it isn't before the end of those that are tried, so is the row
pub passes_all : (job : JobFields) (test : Test) (r : RowState) (first «end» upto : ℕ) → PassesBeside job test r first «end» → «end» ≤ upto → ((k : ℕ) → k < upto → PassesAt job test r k) → PassesRow job test r
passes_all job test r first «end» upto beside past before k within = elim (cases_lt k upto) [
  | inl early ↦ before k early
  | inr late ↦ beside.behind k (omega (past, late, arith)) within
]

pub passes_none_tried : (job : JobFields) (test : Test) (r : RowState) (first «end» : ℕ) → PassesBeside job test r first «end» → «end» ≤ first → PassesRow job test r
passes_none_tried job test r first «end» beside none = passes_all job test r first «end» first beside none beside.before
