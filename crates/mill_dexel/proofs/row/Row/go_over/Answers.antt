use Rattle.std.proofs.Common.{◌≡◌, ◌∙◌, ℕ, ◌≤◌, length, sym, subst, ap, rules, arith}
use Rattle.mill_dexel.specs.Rows.{RowState}
use Rattle.mill_dexel.proofs.RunLaws.{IsRunTo}
use Rattle.mill_dexel.proofs.Blocks.{run_start, over_runs, gone_over}
use Rattle.mill_dexel.proofs.row.Row.go_over.Goals as goal

pub loop-next-init : goal.loop-next-init
loop-next-init c =
    let done : c.args.self.now.done ≡ c.args.t = sym c.requires.next in (
      subst (λ (n : ℕ). IsRunTo c.args.job.now.fields c.args.bands.now.moves c.args.self.now c.args.self.now n) done (run_start c.args.job.now.fields c.args.bands.now.moves c.args.self.now c.requires.row c.requires.unfailed),
      done,
      omega (arith, c.requires.there),
    )

pub loop-next-preserved : goal.loop-next-preserved
loop-next-preserved c =
    let around = c.around-band.ensures in
    let over = c.pass_over.ensures.passed (search rules) in
    let there : c.around-band.result.now.«end» ≤ length c.args.bands.now.moves = omega (arith, around.within, c.count-count.ensures.there, c.count-count.ensures.value) in (
      over_runs c.args.job.now.fields c.args.bands.now.moves c.around-band.result.now c.args.self.now c.loop-next.self c.pass_over.new.self c.args.job.now.is_job c.requires.moves_ok there around.is_band
          (subst (λ (n : ℕ). IsRunTo c.args.job.now.fields c.args.bands.now.moves c.args.self.now c.loop-next.self n) (sym c.loop-next.invariant.1) c.loop-next.invariant.0) over,
      ap (λ (r : RowState). r.done) over.is,
      around.within,
    )

pub returns-then-not-pass_over-clause-clears : goal.returns-then-not-pass_over-clause-clears
returns-then-not-pass_over-clause-clears c = (gone_over c.args.job.now.fields c.args.bands.now.moves c.args.t c.args.self.now c.loop-next.self c.loop-next.next c.requires.next c.loop-next.invariant.0).clears

pub returns-then-not-pass_over-clause-is : goal.returns-then-not-pass_over-clause-is
returns-then-not-pass_over-clause-is c =
    c.pass_over.ensures.kept (search rules)
    ∙ (gone_over c.args.job.now.fields c.args.bands.now.moves c.args.t c.args.self.now c.loop-next.self c.loop-next.next c.requires.next c.loop-next.invariant.0).is

pub returns-clause-clears : goal.returns-clause-clears
returns-clause-clears c = (gone_over c.args.job.now.fields c.args.bands.now.moves c.args.t c.args.self.now c.loop-next.self c.loop-next.next c.requires.next c.loop-next.invariant.0).clears

pub returns-clause-is : goal.returns-clause-is
returns-clause-is c = (gone_over c.args.job.now.fields c.args.bands.now.moves c.args.t c.args.self.now c.loop-next.self c.loop-next.next c.requires.next c.loop-next.invariant.0).is
