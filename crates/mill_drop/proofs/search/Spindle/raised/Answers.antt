use Rattle.std.proofs.Common.{◌≡◌, true, FitsSigned, rules, ◌∙◌, arith}
use mir.Syntax.{w32}
use lib.IntN.{ℤ}
use lib.Signed.{◌<ℤ◌, ◌≤ℤ◌, le_z}
use Rattle.std.proofs.lemmas.Int.{ints, to_z-of_z}
use Rattle.mill_drop.specs.inner.Spindles.{IsTipHeight}
use Rattle.mill_drop.proofs.Heights.{highest_within, over_top_free}
use Rattle.mill_drop.proofs.Stored.{tip_within}
use Rattle.mill_drop.proofs.search.Spindle.raised.Goals as goal

at_most : (top z high from : ℤ) → top ≡ high → z ≡ from → le_z top z ≡ true → high ≤ℤ from
at_most top z high from e f test = omega (arith, ints)

pub returns-then-top-from-clause-free : goal.returns-then-top-from-clause-free
returns-then-top-from-clause-free c =
    let fits : FitsSigned w32 c.highest-top.result = search rules in
    let stored = to_z-of_z w32 c.highest-top.result fits in
    let from = to_z-of_z w32 c.args.from c.ranges.from in
    rw from (over_top_free c.args.self.cutter c.args.tri.now c.args.self.x c.args.self.y c.args.from c.requires.self_ok.cutter_ok (at_most _ _ _ _ (stored ∙ c.highest-top.ensures) from c.if-top-from.true))

pub least_free-requires-clause-bracket : goal.least_free-requires-clause-bracket
least_free-requires-clause-bracket c =
    let fits : FitsSigned w32 c.highest-top.result = search rules in
    let stored = to_z-of_z w32 c.highest-top.result fits in
    record {
      low_ok = search rules;
      top_ok = rw (stored, c.highest-top.ensures) (tip_within _ (highest_within c.args.tri.now c.requires.tri_ok));
      order = search rules;
      held = search rules;
      free = over_top_free c.args.self.cutter c.args.tri.now c.args.self.x c.args.self.y _ c.requires.self_ok.cutter_ok (same _ _ (stored ∙ c.highest-top.ensures));
    }
  where
    same : (z h : ℤ) → z ≡ h → h ≤ℤ z
    same z h e = omega (arith, ints)

between : (low z high : ℤ) → IsTipHeight low → IsTipHeight high → low <ℤ z → z ≤ℤ high → IsTipHeight z
between low z high hl hh h k = let l = hl.least in let m = hh.most in record { least = omega (arith, ints); most = omega (arith, ints) }

pub returns-clause-bound : goal.returns-clause-bound
returns-clause-bound c =
    let top : FitsSigned w32 c.highest-top.result = search rules in
    let fits : FitsSigned w32 c.least_free.result = search rules in
    let from = to_z-of_z w32 c.args.from c.ranges.from in
    let under = rw (to_z-of_z w32 c.highest-top.result top, c.highest-top.ensures) at c.least_free.ensures.under in
    rw (to_z-of_z w32 c.least_free.result fits) (between c.args.from c.least_free.result _ c.requires.from_ok (tip_within _ (highest_within c.args.tri.now c.requires.tri_ok)) (rw from at c.least_free.ensures.over) under)
