use Rattle.mill_links.proofs.Joining.{on_either, on_more, on_on, on_same}
use Rattle.mill_links.proofs.links.go_home.Goals as goal

pub returns-in_err-climb-clause-on : goal.returns-in_err-climb-clause-on
returns-in_err-climb-clause-on c = on_same _ _ c.in_err-climb.ensures.err

pub returns-clause-on : goal.returns-clause-on
returns-clause-on c = on_on _ _ _ (on_more _ _ _ c.in_ok-climb.ensures.ok) (on_either c.cross.result _ _ _ c.cross.ensures.ok c.cross.ensures.err)
