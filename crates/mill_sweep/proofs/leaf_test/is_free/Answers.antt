use Rattle.std.proofs.Common.{◌≡◌, ◌∙◌, false, refl, rules, arith, w32, FitsSigned}
use lib.IntN.{ℤ}
use lib.Signed.{◌<ℤ◌, le_z}
use Rattle.std.proofs.lemmas.Bool.{not-false}
use Rattle.std.proofs.lemmas.Int.{ints, to_z-of_z}
use Rattle.mill_base.proofs.Machine.{kept}
use Rattle.mill_sweep.proofs.Blocking.{touched_blocks}
use Rattle.mill_sweep.specs.Widths.{highest_tip}
use Rattle.mill_sweep.proofs.leaf_test.is_free.Goals as goal

higher : (top z high low : ℤ) → top ≡ high → z ≡ low → le_z top z ≡ false → low <ℤ high
higher top z high low e f test = omega (arith, ints)

pub returns-clause-blocked : goal.returns-clause-blocked
returns-clause-blocked c = λ held _.
    let fits : FitsSigned w32 c.highest.result = search rules in
    let top = to_z-of_z w32 c.highest.result fits ∙ c.highest.ensures in
    let low = kept w32 c.args.span.zlow highest_tip c.requires.span_ok.low_ok.within refl in
    touched_blocks c.args.cutter c.args.span c.args.tri.now (higher _ _ _ _ top low c.if-highest-span.false) (c.outer_holds_some.ensures.yes (not-false _ held))
