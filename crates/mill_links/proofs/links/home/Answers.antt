use Rattle.std.proofs.Common.{◌∙◌}
use Rattle.mill_links.specs.Links.{way_home}
use Rattle.mill_links.proofs.Joining.{all_stands, none_stands}
use Rattle.mill_links.proofs.links.home.Goals as goal

pub returns-clause-ok : goal.returns-clause-ok
returns-clause-ok c = all_stands c.go_home-added.result c.all_or_none.result c.args.out.now.items _ _ (way_home c.args.job.now.fields c.args.from) c.all_or_none.ensures.same c.go_home-added.ensures.ok c.all_or_none.ensures.ok

pub returns-clause-err : goal.returns-clause-err
returns-clause-err c =
    none_stands c.all_or_none.result c.args.out.now.items _ _ c.len-first.result (c.len-first.ensures ∙ c.args.out.now.ok.0) c.go_home-added.ensures.on c.all_or_none.ensures.err
