use Rattle.std.specs.Prelude.{[], ◌∷◌, ◌++◌}
use Rattle.std.proofs.Common.{sym, ap, ◌∙◌}
use Rattle.std.proofs.lemmas.List.{append-nil}
use Rattle.mill_links.specs.Links.{detour}
use Rattle.mill_links.proofs.Joining.{all_stands, none_stands, ok_gives}
use Rattle.mill_links.proofs.Straight.{no_moves, one_feed, round_moves}
use Rattle.mill_links.proofs.links.add_link.Goals as goal

pub returns-then-eq-clause-ok : goal.returns-then-eq-clause-ok
returns-then-eq-clause-ok c =
    sym (append-nil c.args.out.now.items) ∙ ap (λ ms. c.args.out.now.items ++ ms) (sym (no_moves c.args.job.now.fields c.args.from c.args.to c.args.straight (sym c.eq.ensures ∙ c.if-eq.true)))

pub returns-then-straight-clause-ok : goal.returns-then-straight-clause-ok
returns-then-straight-clause-ok c =
    ok_gives c.add.result (λ added. added ∙ ap (λ m. c.args.out.now.items ++ m ∷ []) c.feed_to.ensures
    ∙ ap (λ ms. c.args.out.now.items ++ ms) (sym (one_feed c.args.job.now.fields c.args.from c.args.to c.args.straight (sym c.eq.ensures ∙ c.if-eq.false) c.if-straight.true))) c.add.ensures.ok

pub returns-clause-ok : goal.returns-clause-ok
returns-clause-ok c =
    ok_gives c.all_or_none.result (λ added. added ∙ ap (λ ms. c.args.out.now.items ++ ms) (sym (round_moves c.args.job.now.fields c.args.from c.args.to c.args.straight (sym c.eq.ensures ∙ c.if-eq.false) c.if-straight.false)))
    (all_stands c.go_round-added.result c.all_or_none.result c.args.out.now.items _ _ (detour c.args.job.now.fields c.args.from c.args.to.at) c.all_or_none.ensures.same c.go_round-added.ensures.ok c.all_or_none.ensures.ok)

pub returns-clause-err : goal.returns-clause-err
returns-clause-err c =
    none_stands c.all_or_none.result c.args.out.now.items _ _ c.len-first.result (c.len-first.ensures ∙ c.args.out.now.ok.0) c.go_round-added.ensures.on c.all_or_none.ensures.err
