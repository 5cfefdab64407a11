use Rattle.std.proofs.Common.{◌≡◌, inl, inr, ℕ, ◌+◌, ◌<◌, ◌≤◌, subst, w32, arith}
use Rattle.std.specs.Prelude.{ℤ, ◌≤ℤ◌}
use Rattle.std.proofs.lemmas.Bool.{cases_lt}
use Rattle.std.proofs.lemmas.Int.{ints}
use Rattle.mill_base.proofs.Machine.{stored}
use Rattle.mill_dexel.specs.Rows.{top_at}
use Rattle.mill_dexel.specs.Tops.{tested_height}
use Rattle.mill_dexel.proofs.row.Row.first_over.Goals as goal

pub loop-column-init : goal.loop-column-init
loop-column-init c = λ k from before. absurd (omega (from, before, arith))

pub loop-column-preserved : goal.loop-column-preserved
loop-column-preserved c =
    let under : c.height_at.result ≤ℤ stored w32 c.args.low = omega (arith, ints) in
    λ k from before. elim (cases_lt k c.loop-column.column) [
      | inl early ↦ c.loop-column.invariant k from early
      | inr late ↦ subst (λ (n : ℕ). tested_height c.args.job.now.fields c.args.kind (top_at c.args.self.now.tops n) ≤ℤ stored w32 c.args.low) (same k c.loop-column.column late before)
          (subst (λ (z : ℤ). z ≤ℤ stored w32 c.args.low) c.height_at.ensures under)
    ]
  where
    same : (k n : ℕ) → n ≤ k → k < n + 1 → n ≡ k
    same k n h g = omega (h, g, arith)

pub returns-clause-before : goal.returns-clause-before
returns-clause-before c =
    let stays : stored w32 c.args.low ≡ c.args.low = omega (arith, ints) in
    λ k from before. subst (λ (z : ℤ). tested_height c.args.job.now.fields c.args.kind (top_at c.args.self.now.tops k) ≤ℤ z) stays (c.loop-column.invariant k from (omega (before, arith)))

pub returns-then-low-height_at-clause-before : goal.returns-then-low-height_at-clause-before
returns-then-low-height_at-clause-before c =
    let stays : stored w32 c.args.low ≡ c.args.low = omega (arith, ints) in
    λ k from before. subst (λ (z : ℤ). tested_height c.args.job.now.fields c.args.kind (top_at c.args.self.now.tops k) ≤ℤ z) stays (c.loop-column.invariant k from before)
