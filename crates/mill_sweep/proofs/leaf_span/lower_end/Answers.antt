use Rattle.std.proofs.Common.{◌≡◌, ◌∙◌, ℤ, refl, ap, rules, sym, subst, to_z, w32}
use Rattle.mill_base.proofs.Machine.{kept}
use Rattle.mill_sweep.specs.Leaves.{lower_of}
use Rattle.mill_sweep.proofs.Rest.{lower_at_rest}
use Rattle.mill_sweep.proofs.Segments.{lower_height}
use Rattle.mill_sweep.specs.Widths.{highest_tip}
use Rattle.mill_sweep.proofs.leaf_span.lower_end.Goals as goal

pub returns-then-from-to-clause-value : goal.returns-then-from-to-clause-value
returns-then-from-to-clause-value c =
    let keep_from = kept w32 c.args.from highest_tip c.requires.from_ok.within refl in
    let keep_to = kept w32 c.args.to highest_tip c.requires.to_ok.within refl in
    let same : c.args.from ≡ c.args.to = sym keep_from ∙ ap (to_z w32) c.if-from-to.true ∙ keep_to in
    keep_from ∙ subst (λ (t : ℤ). c.args.from ≡ lower_of c.args.from t c.args.leaf.d c.args.leaf.k) same (sym (lower_at_rest c.args.from c.args.leaf.d c.args.leaf.k c.requires.k_ok))

pub returns-clause-value : goal.returns-clause-value
returns-clause-value c = search rules

pub returns-clause-bound : goal.returns-clause-bound
returns-clause-bound c = rw (returns-clause-value c) (lower_height c.args.from c.args.to c.args.leaf.d c.args.leaf.k c.requires.from_ok c.requires.to_ok c.requires.k_ok)
