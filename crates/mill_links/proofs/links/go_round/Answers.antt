use Rattle.mill_links.specs.Links.{climb, cross, descend, plunge}
use Rattle.mill_links.proofs.Joining.{four_added, ok_gives, on_more, on_on, on_same}
use Rattle.mill_links.proofs.links.go_round.Goals as goal

pub returns-in_err-climb-clause-on : goal.returns-in_err-climb-clause-on
returns-in_err-climb-clause-on c = on_same _ _ c.in_err-climb.ensures.err

pub returns-in_err-cross-clause-on : goal.returns-in_err-cross-clause-on
returns-in_err-cross-clause-on c = on_on _ _ _ (on_more _ _ _ c.in_ok-climb.ensures.ok) (on_same _ _ c.in_err-cross.ensures.err)

pub returns-in_err-descend-clause-on : goal.returns-in_err-descend-clause-on
returns-in_err-descend-clause-on c =
    on_on _ _ _ (on_more _ _ _ c.in_ok-climb.ensures.ok) (on_on _ _ _ (on_more _ _ _ c.in_ok-cross.ensures.ok) (on_same _ _ c.in_err-descend.ensures.err))

pub returns-clause-ok : goal.returns-clause-ok
returns-clause-ok c =
    let job = c.args.job.now.fields in
    ok_gives c.plunge.result (λ added. four_added c.args.out.now.items (climb job c.args.from) (cross job c.args.from c.args.at) (descend job c.args.at) (plunge job c.args.at) _ _ _ _
    c.in_ok-climb.ensures.ok c.in_ok-cross.ensures.ok c.in_ok-descend.ensures.ok added) c.plunge.ensures.ok

pub returns-clause-on : goal.returns-clause-on
returns-clause-on c =
    on_on _ _ _ (on_more _ _ _ c.in_ok-climb.ensures.ok)
    (on_on _ _ _ (on_more _ _ _ c.in_ok-cross.ensures.ok) (on_on _ _ _ (on_more _ _ _ c.in_ok-descend.ensures.ok) c.plunge.ensures.on))
