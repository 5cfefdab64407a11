-- Least lifts: raising keeps what passes, and over the part everything does.
use Rattle.std.specs.Prelude.{◌≡◌, ℕ, ◌+◌, ◌-◌, ◌<◌, ◌≤◌, ℤ, pos, ◌+ℤ◌, ◌≤ℤ◌, List, Option, Some, None, IfSome}
use Rattle.std.proofs.Common.{inl, inr, refl, arith}
use Rattle.std.proofs.lemmas.Bool.{cases_lt}
use Rattle.std.proofs.lemmas.Int.{ints}
use Rattle.mill_base.specs.Solids.{Solid}
use Rattle.mill_base.specs.declared.motion.Move.{Move}
use Rattle.mill_base.specs.declared.points.Tri.{Tri}
use Rattle.mill_base.specs.declared.tool.Tool.{Tool}
use Rattle.mill_sweep.proofs.Solids.{low_end_lifted}
use Rattle.mill_sweep.specs.Apart.{low_end_of}
use Rattle.mill_gouge.specs.Gouges.{PassesPart, ToolPassesPart}
use Rattle.mill_gouge.specs.Laws.{RaisingKeepsPass, OverPartPasses, PassesFromLift, PassingNeedsNoLift, OneLift}
use Rattle.mill_gouge.specs.Lifts.{raised, IsLeastLift}
use Rattle.mill_gouge.proofs.Looking.{over_clears}
use Rattle.mill_gouge.proofs.Lows.{cutter_over, holder_over}
use Rattle.mill_gouge.proofs.Rising.{tool_rises}

none_less : (n : ℕ) → (pos 0) ≤ℤ pos n
none_less n = omega (arith, ints)

pub raising_keeps_pass : RaisingKeepsPass
raising_keeps_pass tool part m n passes =
    tool_rises m m.from.z m.to.z (m.from.z +ℤ pos n) (m.to.z +ℤ pos n) (pos n) (none_less n) refl refl part tool passes

-- a move that passes when it is raised by less passes when it is raised by more
pub more_passes : (tool : Tool) (part : List Tri) (m : Move) (k n : ℕ) → k ≤ n → ToolPassesPart tool (raised k m) part → ToolPassesPart tool (raised n m) part
more_passes tool part m k n less passes =
    tool_rises m (m.from.z +ℤ pos k) (m.to.z +ℤ pos k) (m.from.z +ℤ pos n) (m.to.z +ℤ pos n) (pos (n - k)) (none_less (n - k)) (rest m.from.z) (rest m.to.z) part tool passes
  where
    rest : (z : ℤ) → (z +ℤ pos n) ≡ ((z +ℤ pos k) +ℤ pos (n - k))
    rest z = omega (less, arith, ints)

-- raised by nothing, it is as it stands
pub unraised_passes : (tool : Tool) (part : List Tri) (m : Move) → ToolPassesPart tool (raised 0 m) part → ToolPassesPart tool m part
unraised_passes tool part m passes =
    tool_rises m (m.from.z +ℤ pos 0) (m.to.z +ℤ pos 0) m.from.z m.to.z (pos 0) (none_less 0) (same m.from.z) (same m.to.z) part tool passes
  where
    same : (z : ℤ) → z ≡ ((z +ℤ pos 0) +ℤ pos 0)
    same z = omega (arith, ints)

-- a lift with which the move passes is the least, if with the one before it it doesn't
pub next_is_least : (tool : Tool) (part : List Tri) (m : Move) (short n : ℕ) → n ≤ short + 1 → ¬ ToolPassesPart tool (raised short m) part → ToolPassesPart tool (raised n m) part → IsLeastLift tool part m n
next_is_least tool part m short n next fails passes = record {
  passes = passes;
  least = λ k less early. fails (more_passes tool part m k short (before k less) early);
}
  where
    before : (k : ℕ) → k < n → k ≤ short
    before k less = omega (next, less, arith)

-- a move that passes needs no lift
pub none_is_least : (tool : Tool) (part : List Tri) (m : Move) → ToolPassesPart tool m part → IsLeastLift tool part m 0
none_is_least tool part m passes = record {
  passes = raising_keeps_pass tool part m 0 passes;
  least = λ k less. absurd (nothing k less);
}
  where
    nothing : (k : ℕ) → k < 0 → ⊥
    nothing k less = omega (less, arith)

pub passing_needs_no_lift : PassingNeedsNoLift
passing_needs_no_lift tool part m = (none_is_least tool part m, λ least. unraised_passes tool part m least.passes)

pub passes_from_lift : PassesFromLift
passes_from_lift tool part m n k least = (
  λ passes. elim (cases_lt k n) [
    | inl less ↦ absurd (least.least k less passes)
    | inr from ↦ from
  ],
  λ from. more_passes tool part m n k from least.passes,
)

pub one_lift : OneLift
one_lift tool part m n k first second =
    same ((passes_from_lift tool part m n k first).0 second.passes) ((passes_from_lift tool part m k n second).0 first.passes)
  where
    same : n ≤ k → k ≤ n → n ≡ k
    same p q = omega (p, q, arith)

-- ---- over the part

pub over_part_passes : OverPartPasses
over_part_passes tool part m top under over = record {
  cutter = passes tool.cutter (cutter_over tool top (low_end_of m) over);
  holder = by tool.holder (holder_over tool top (low_end_of m) over);
}
  where
    passes : (solid : Solid) → top ≤ℤ (low_end_of m +ℤ solid.lift) → PassesPart solid m part
    passes solid high = over_clears solid m part top under (rw (low_end_lifted solid m) high)

    by : (o : Option Solid) → IfSome o (λ holder. top ≤ℤ (low_end_of m +ℤ holder.lift)) → IfSome o (λ holder. PassesPart holder m part)
    by None high = tt
    by (Some holder) high = passes holder high
