use Rattle.std.proofs.Common.{◌∙◌, ap, pos, sym}
use Rattle.mill_base.specs.declared.motion.Kind.{Kind}
use Rattle.mill_dexel.specs.Samples.{split_by}
use Rattle.mill_dexel.proofs.sample.halvings.Goals as goal

pub returns-in-Rapid-clause-value : goal.returns-in-Rapid-clause-value
returns-in-Rapid-clause-value c = c.straight_halvings.ensures.value ∙ ap (λ (k : Kind). split_by k (pos c.args.sample) c.args.step.now) (sym c.in-Rapid.is)

pub returns-in-Feed-clause-value : goal.returns-in-Feed-clause-value
returns-in-Feed-clause-value c = c.straight_halvings-in-Feed.ensures.value ∙ ap (λ (k : Kind). split_by k (pos c.args.sample) c.args.step.now) (sym c.in-Feed.is)

pub returns-in-Dogleg-clause-value : goal.returns-in-Dogleg-clause-value
returns-in-Dogleg-clause-value c = ap (λ (k : Kind). split_by k (pos c.args.sample) c.args.step.now) (sym c.in-Dogleg.is)
