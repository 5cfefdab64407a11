use Rattle.std.specs.Prelude.{◌≡◌, List, false, IsTrue}
use Rattle.std.proofs.Common.{refl, subst}
use Rattle.mill_base.specs.declared.motion.Kind.TheVariants.{Feed}
use Rattle.mill_base.specs.declared.motion.Move.{Move}
use Rattle.mill_dexel.specs.Stocks.{IsStock}
use Rattle.mill_dexel.specs.Tops.{ClearsColumns}
use Rattle.mill_links.proofs.Kept.{no_limit, some_limit}
use Rattle.mill_links.proofs.Points.{other_point, same_point}
use Rattle.mill_links.proofs.Straight.{at_place, by_depth, unlimited}
use Rattle.mill_links.proofs.links.goes_straight.Goals as goal
use Rattle.mill_links.proofs.links.goes_straight.Goals.{then-job-eq0-via-then-job-eq0, then-job-eq0-via-else-job-eq0+then-eq}

pub returns-then-job-eq0 : goal.returns-then-job-eq0
returns-then-job-eq0 c = λ part done says follow. elim c.then-job-eq0.branch [
  | then-job-eq0-via-then-job-eq0 w ↦
      unlimited c.args.job.now.fields part c.args.from c.args.to done c.args.clear says c.if-not-clear.false (no_limit c.args.job.now.fields c.args.job.now.is_job w.if-job-eq0.true)
  | then-job-eq0-via-else-job-eq0+then-eq w ↦
      at_place c.args.job.now.fields part c.args.from c.args.to done (same_point c.args.to.at c.args.from w.eq.result w.eq.ensures w.if-eq.true)
]

pub returns : goal.returns
returns c = λ part done says follow.
    let stock = follow (some_limit c.args.job.now.fields c.args.job.now.is_job c.if-job-eq0.false) in
    let keeps = subst (λ (m : Move). IsTrue c.keeps_depth.result → m.kind ≡ Feed → (ms : List Move) → IsStock c.args.job.now.fields ms c.args.rows.now → ClearsColumns c.args.job.now.fields ms m)
    c.feed_to.ensures c.keeps_depth.ensures.yes in
    let fails = subst (λ (m : Move). c.keeps_depth.result ≡ false → m.kind ≡ Feed → (ms : List Move) → IsStock c.args.job.now.fields ms c.args.rows.now → ¬ ClearsColumns c.args.job.now.fields ms m)
    c.feed_to.ensures c.keeps_depth.ensures.no in
    by_depth c.args.job.now.fields part c.args.from c.args.to done c.args.clear c.keeps_depth.result says c.if-not-clear.false
    (other_point c.args.to.at c.args.from c.eq.result c.eq.ensures c.if-eq.false)
    (λ holds. keeps holds refl done stock) (λ fails_so. fails fails_so refl done stock)
