use Rattle.std.proofs.Common.{◌<◌, max, refl, subst, w32}
use lib.IntN.{pos}
use lib.Signed.{◌≤ℤ◌}
use Rattle.mill_base.proofs.Machine.{kept}
use Rattle.mill_sweep.specs.Halving.{Blocks, IsFreeSpan}
use Rattle.mill_sweep.specs.Sweeps.{span_at}
use Rattle.mill_sweep.specs.declared.leaf.Span.{Span}
use Rattle.mill_sweep.proofs.Blocking.{reach_is_great, not_free}
use Rattle.mill_base.specs.declared.limits.TheConstants.{MAX_REACH}
use Rattle.mill_sweep.specs.Widths.{highest_tip}
use Rattle.mill_sweep.proofs.leaf_test.is_free_by.Goals as goal

pub returns-then-max-gt-MAX_REACH-clause-no : goal.returns-then-max-gt-MAX_REACH-clause-no
returns-then-max-gt-MAX_REACH-clause-no c = λ _.
    let far : MAX_REACH < max c.args.x.farther c.args.y.farther = rw (← c.max.ensures) c.if-max-gt-MAX_REACH.true in
    not_free c.args.cutter (span_at c.args.x c.args.y c.args.zlow) c.args.tri.now (reach_is_great c.args.x.farther c.args.y.farther c.requires.x_ok.farther_ok c.requires.y_ok.farther_ok far) c.requires.higher

pub returns-then-max-gt-MAX_REACH-clause-blocked : goal.returns-then-max-gt-MAX_REACH-clause-blocked
returns-then-max-gt-MAX_REACH-clause-blocked c = λ _ near.
    let far : MAX_REACH < max c.args.x.farther c.args.y.farther = rw (← c.max.ensures) c.if-max-gt-MAX_REACH.true in
    absurd (reach_is_great c.args.x.farther c.args.y.farther c.requires.x_ok.farther_ok c.requires.y_ok.farther_ok far near)

pub returns-clause-yes : goal.returns-clause-yes
returns-clause-yes c = λ free.
    let span = rw (kept w32 c.args.zlow highest_tip c.requires.zlow_ok.within refl) at c.span_by.ensures.value in
    subst (λ (s : Span). IsFreeSpan c.args.cutter s c.args.tri.now) span (c.is_free.ensures.yes free)

pub returns-clause-no : goal.returns-clause-no
returns-clause-no c = λ held.
    let span = rw (kept w32 c.args.zlow highest_tip c.requires.zlow_ok.within refl) at c.span_by.ensures.value in
    subst (λ (s : Span). ¬ IsFreeSpan c.args.cutter s c.args.tri.now) span (c.is_free.ensures.no held)

pub returns-clause-blocked : goal.returns-clause-blocked
returns-clause-blocked c = λ held.
    let span = rw (kept w32 c.args.zlow highest_tip c.requires.zlow_ok.within refl) at c.span_by.ensures.value in
    subst (λ (s : Span). s.reach ≤ℤ pos MAX_REACH → Blocks c.args.cutter s c.args.tri.now) span (c.is_free.ensures.blocked held)
