use Rattle.std.proofs.Common.{subst}
use lib.IntN.{pos}
use lib.Signed.{◌≤ℤ◌}
use Rattle.mill_sweep.specs.Halving.{Blocks, IsFreeSpan}
use Rattle.mill_sweep.specs.declared.leaf.Span.{Span}
use Rattle.mill_sweep.proofs.Segments.{free_down, whole_in_range, whole_span}
use Rattle.mill_base.specs.declared.limits.TheConstants.{MAX_REACH}
use Rattle.mill_sweep.proofs.halving.is_passed.Goals as goal

pub is_free-requires-clause-span_ok : goal.is_free-requires-clause-span_ok
is_free-requires-clause-span_ok c = whole_in_range c.args.prepared.now c.requires.prepared_ok

pub returns-then-leaf-eq0-clause-yes : goal.returns-then-leaf-eq0-clause-yes
returns-then-leaf-eq0-clause-yes c = λ free.
    let span = whole_span c.args.prepared.now c.requires.prepared_ok c.args.leaf.d c.args.leaf.k c.if-leaf-eq0.true c.requires.k_ok in
    free_down c.args.prepared.now.cutter c.args.prepared.now.step c.args.tri.now c.args.leaf.d c.args.leaf.k c.args.prepared.now.whole span (c.is_free.ensures.yes free)

pub returns-then-leaf-eq0-clause-no : goal.returns-then-leaf-eq0-clause-no
returns-then-leaf-eq0-clause-no c = λ held.
    let span = whole_span c.args.prepared.now c.requires.prepared_ok c.args.leaf.d c.args.leaf.k c.if-leaf-eq0.true c.requires.k_ok in
    subst (λ (s : Span). ¬ IsFreeSpan c.args.prepared.now.cutter s c.args.tri.now) span (c.is_free.ensures.no held)

pub returns-then-leaf-eq0-clause-blocked : goal.returns-then-leaf-eq0-clause-blocked
returns-then-leaf-eq0-clause-blocked c = λ held.
    let span = whole_span c.args.prepared.now c.requires.prepared_ok c.args.leaf.d c.args.leaf.k c.if-leaf-eq0.true c.requires.k_ok in
    subst (λ (s : Span). s.reach ≤ℤ pos MAX_REACH → Blocks c.args.prepared.now.cutter s c.args.tri.now) span (c.is_free.ensures.blocked held)
