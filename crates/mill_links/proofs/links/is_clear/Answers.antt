use Rattle.std.specs.Prelude.{◌≡◌, true}
use Rattle.std.proofs.Common.{sym, subst}
use Rattle.mill_base.specs.declared.motion.Move.{Move}
use Rattle.mill_base.specs.declared.tool.Tool.{Tool}
use Rattle.mill_gouge.specs.Gouges.{ToolPassesPart}
use Rattle.mill_job.specs.Jobs.{tool_of}
use Rattle.mill_links.proofs.links.is_clear.Goals as goal

pub returns-clause-yes : goal.returns-clause-yes
returns-clause-yes c = λ yes. record {
  near = c.is_near_by.ensures.yes c.if-not-is_near_by.false;
  passes = subst (λ (m : Move). ToolPassesPart (tool_of c.args.job.now.fields) m c.args.part.now) c.feed_to.ensures
      (subst (λ (tool : Tool). ToolPassesPart tool c.feed_to.result c.args.part.now) c.tool.ensures (c.tool_clears.ensures.0 yes));
}

pub returns-clause-no : goal.returns-clause-no
returns-clause-no c = λ no may.
    let passes = subst (λ (m : Move). ToolPassesPart (tool_of c.args.job.now.fields) m c.args.part.now) (sym c.feed_to.ensures) may.passes in
    let yes : c.tool_clears.result ≡ true =
    c.tool_clears.ensures.1 (subst (λ (tool : Tool). ToolPassesPart tool c.feed_to.result c.args.part.now) (sym c.tool.ensures) passes) in
    cc
