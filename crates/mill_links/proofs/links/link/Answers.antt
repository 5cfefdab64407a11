use Rattle.mill_links.proofs.links.link.Goals as goal

pub returns-clause-ok : goal.returns-clause-ok
returns-clause-ok c = λ done follow. c.link_known.ensures.ok c.args.part.now done c.goes_clear-clear.ensures follow
