use Rattle.std.specs.Prelude.{List, ◌++◌}
use Rattle.std.proofs.Common.{sym, ◌∙◌, subst}
use Rattle.mill_base.specs.Ranges.{MovesInRange}
use Rattle.mill_base.specs.declared.motion.Move.{Move}
use Rattle.mill_dexel.specs.Stocks.{IsStock}
use Rattle.mill_links.specs.inner.Linking.{link_moves}
use Rattle.mill_links.proofs.Joining.{past_old}
use Rattle.mill_links.proofs.Ranged.{link_ranged}
use Rattle.mill_links.proofs.Straight.{link_so}
use Rattle.mill_links.proofs.links.link_known.Goals as goal

pub cut-requires-clause-moves_ok : goal.cut-requires-clause-moves_ok
cut-requires-clause-moves_ok c =
    let moves = link_moves c.args.job.now.fields c.args.from c.args.to c.goes_straight-straight.result in
    subst MovesInRange
    (sym (past_old c.args.out.now.items moves c.deref.result.now c.len-first.result (c.len-first.ensures ∙ c.args.out.now.ok.0) (c.deref.ensures.value ∙ c.in_ok-add_link.ensures.ok)))
    (link_ranged c.args.job.now.fields c.args.job.now.is_job c.args.from c.args.to c.goes_straight-straight.result c.requires.from_ok c.requires.to_ok)

pub returns-clause-ok : goal.returns-clause-ok
returns-clause-ok c = λ part done says follow. record {
  moves = link_moves c.args.job.now.fields c.args.from c.args.to c.goes_straight-straight.result;
  link = link_so c.args.job.now.fields part c.args.from c.args.to done c.goes_straight-straight.result (c.goes_straight-straight.ensures part done says follow);
  joined = c.in_ok-add_link.ensures.ok;
}

pub returns-clause-stock : goal.returns-clause-stock
returns-clause-stock c = λ done added follow joined tested.
    subst (λ (ms : List Move). IsStock c.args.job.now.fields (done ++ ms) c.cut.new.rows)
    (past_old c.args.out.now.items added c.deref.result.now c.len-first.result (c.len-first.ensures ∙ c.args.out.now.ok.0) (c.deref.ensures.value ∙ joined))
    (c.cut.ensures.stock done follow tested)
