use Rattle.std.proofs.Common.{◌∙◌, rules, w32}
use Rattle.std.proofs.lemmas.Int.{to_z-of_z}
use Rattle.mill_control.proofs.Joining.{ok_gives, on_more, on_on, on_same}
use Rattle.mill_control.proofs.Stages.{whole}
use Rattle.mill_control.proofs.hole.go_all.Goals as goal

pub returns-in_err-rise-clause-on : goal.returns-in_err-rise-clause-on
returns-in_err-rise-clause-on c = on_same _ _ c.in_err-rise.ensures.err

pub returns-in_err-cross-clause-on : goal.returns-in_err-cross-clause-on
returns-in_err-cross-clause-on c = on_on _ _ _ (on_more _ _ _ c.in_ok-rise.ensures.ok) (on_same _ _ c.in_err-cross.ensures.err)

pub returns-in_err-lower-clause-on : goal.returns-in_err-lower-clause-on
returns-in_err-lower-clause-on c =
    on_on _ _ _ (on_more _ _ _ c.in_ok-rise.ensures.ok) (on_on _ _ _ (on_more _ _ _ c.in_ok-cross.ensures.ok) (on_same _ _ c.in_err-lower.ensures.err))

pub returns-clause-ok : goal.returns-clause-ok
returns-clause-ok c =
    ok_gives c.go_down.result (λ added. whole c.args.hole _ c.args.out.now.items _ _ _ _ (to_z-of_z w32 c.top-top.result (search rules) ∙ c.top-top.ensures) c.in_ok-rise.ensures.ok c.in_ok-cross.ensures.ok c.in_ok-lower.ensures.ok added)
    c.go_down.ensures.ok

pub returns-clause-on : goal.returns-clause-on
returns-clause-on c =
    on_on _ _ _ (on_more _ _ _ c.in_ok-rise.ensures.ok) (on_on _ _ _ (on_more _ _ _ c.in_ok-cross.ensures.ok) (on_on _ _ _ (on_more _ _ _ c.in_ok-lower.ensures.ok) c.go_down.ensures.on))
