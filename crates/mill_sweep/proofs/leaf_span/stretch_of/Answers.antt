use Rattle.std.proofs.Common.{◌≡◌, ◌∙◌, ℤ, refl, ap, sym, subst, to_z, w32, ◌+◌, arith}
use Rattle.mill_base.proofs.Machine.{kept}
use Rattle.mill_sweep.specs.Leaves.{end_of, middle_of, farther_of}
use Rattle.mill_sweep.proofs.Rest.{middle_at_rest, farther_at_rest}
use Rattle.mill_sweep.proofs.Spans.{end_within}
use Rattle.mill_base.specs.declared.limits.TheConstants.{MAX_COORDINATE}
use Rattle.mill_sweep.proofs.leaf_span.stretch_of.Goals as goal

pub returns-then-from-to-clause-value : goal.returns-then-from-to-clause-value
returns-then-from-to-clause-value c =
    let keep_from = kept w32 c.args.from MAX_COORDINATE c.requires.from_ok.within refl in
    let keep_to = kept w32 c.args.to MAX_COORDINATE c.requires.to_ok.within refl in
    let same : c.args.from ≡ c.args.to = sym keep_from ∙ ap (to_z w32) c.if-from-to.true ∙ keep_to in
    record {
      middle = keep_from ∙ subst (λ (t : ℤ). c.args.from ≡ middle_of c.args.from t c.args.leaf.d c.args.leaf.k) same (sym (middle_at_rest c.args.from c.args.leaf.d c.args.leaf.k c.requires.k_ok));
      farther = subst (λ (t : ℤ). 0 ≡ farther_of c.args.from t c.args.leaf.d c.args.leaf.k) same (sym (farther_at_rest c.args.from c.args.leaf.d c.args.leaf.k c.requires.k_ok));
    }

pub stretch_between-requires-clause-first_ok : goal.stretch_between-requires-clause-first_ok
stretch_between-requires-clause-first_ok c =
    let keep_from = kept w32 c.args.from MAX_COORDINATE c.requires.from_ok.within refl in
    let keep_to = kept w32 c.args.to MAX_COORDINATE c.requires.to_ok.within refl in
    let inside = c.requires.k_ok in
    let first : c.ends_of.result.first ≡ end_of c.args.from c.args.to c.args.leaf.d c.args.leaf.k = rw (keep_from, keep_to) at c.ends_of.ensures.first in
    rw first (end_within c.args.from c.args.to c.args.leaf.d c.args.leaf.k c.requires.from_ok.within c.requires.to_ok.within (omega arith))

pub stretch_between-requires-clause-last_ok : goal.stretch_between-requires-clause-last_ok
stretch_between-requires-clause-last_ok c =
    let keep_from = kept w32 c.args.from MAX_COORDINATE c.requires.from_ok.within refl in
    let keep_to = kept w32 c.args.to MAX_COORDINATE c.requires.to_ok.within refl in
    let inside = c.requires.k_ok in
    let last : c.ends_of.result.last ≡ end_of c.args.from c.args.to c.args.leaf.d (c.args.leaf.k + 1) = rw (keep_from, keep_to) at c.ends_of.ensures.last in
    rw last (end_within c.args.from c.args.to c.args.leaf.d (c.args.leaf.k + 1) c.requires.from_ok.within c.requires.to_ok.within (omega arith))
