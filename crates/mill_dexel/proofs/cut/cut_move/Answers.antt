use Rattle.std.specs.Prelude.{ℤ, ◌≤ℤ◌}
use Rattle.std.proofs.Common.{◌≡◌, ◌∙◌, pos, ap, sym, subst, rules, w32, arith}
use Rattle.std.proofs.lemmas.Int.{ints, to_z-of_z}
use Rattle.mill_job.proofs.SolidFacts.{inner_lift, inner_ok}
use Rattle.mill_job.specs.Solids.{inner_of}
use Rattle.mill_base.specs.Sizes.{radius_of}
use Rattle.mill_base.specs.Solids.{Solid}
use Rattle.mill_base.specs.declared.cutter.Cutter.{Cutter}
use Rattle.mill_job.specs.Columns.{column_y}
use Rattle.mill_dexel.specs.Samples.{raised_sample, sample_at, split_of}
use Rattle.mill_dexel.specs.inner.Cuts.{IsCutBy}
use Rattle.mill_dexel.proofs.Again.{first_starts}
use Rattle.mill_dexel.proofs.CutRows.{samples_go_on, samples_end}
use Rattle.mill_dexel.proofs.Beyond.{move_keeps}
use Rattle.mill_dexel.proofs.Reaches.{beyond_same}
use Rattle.mill_dexel.proofs.cut.cut_move.Goals as goal

pub returns-then-is_beyond : goal.returns-then-is_beyond
returns-then-is_beyond c =
    let inner = inner_of c.args.job.now.fields in
    let radius = to_z-of_z w32 c.radius.result (search rules) ∙ c.radius.ensures ∙ ap radius_of c.cutter-cutter.ensures.value ∙ ap (λ (s : Solid). radius_of s.cutter) c.inner-inner.ensures in
    move_keeps c.args.job.now.fields c.args.number c.args.step.now c.args.tops.now (inner_ok c.args.job.now.fields c.args.job.now.is_job).cutter_ok
    (beyond_same _ _ _ _ (radius_of inner.cutter) c.args.step.now.from.y c.args.step.now.to.y (column_y c.args.job.now.fields c.args.number)
    radius (omega (arith, ints)) (omega (arith, ints)) (omega (arith, ints)) (c.is_beyond.ensures.yes c.if-is_beyond.true))

-- The lift, as it is stored, is the inner solid's.
pub raise-requires-clause-lift_least : goal.raise-requires-clause-lift_least
raise-requires-clause-lift_least c =
    let lift = to_z-of_z w32 c.lift-lift.result (search rules) ∙ c.lift-lift.ensures.value ∙ ap (λ (s : Solid). s.lift) c.inner-inner.ensures in
    subst (λ (l : ℤ). (pos 0) ≤ℤ l) (sym lift) (inner_lift c.args.job.now.fields c.args.job.now.is_job).low

pub raise-requires-clause-lift_most : goal.raise-requires-clause-lift_most
raise-requires-clause-lift_most c =
    let lift = to_z-of_z w32 c.lift-lift.result (search rules) ∙ c.lift-lift.ensures.value ∙ ap (λ (s : Solid). s.lift) c.inner-inner.ensures in
    subst (λ (l : ℤ). l ≤ℤ pos 3400) (sym lift) (inner_lift c.args.job.now.fields c.args.job.now.is_job).high

pub loop-k-init : goal.loop-k-init
loop-k-init c =
    first_starts c.args.job.now.fields c.args.number c.args.step.now c.halvings-d.result c.first_sample-k.result c.args.last c.args.tops.now c.first_sample-k.ensures.bound c.first_sample-k.ensures.known c.requires.last

pub loop-k-preserved : goal.loop-k-preserved
loop-k-preserved c =
    let inner = inner_of c.args.job.now.fields in
    let lift = to_z-of_z w32 c.lift-lift.result (search rules) ∙ c.lift-lift.ensures.value ∙ ap (λ (s : Solid). s.lift) c.inner-inner.ensures in
    let cutter = c.cutter-cutter.ensures.value ∙ ap (λ (s : Solid). s.cutter) c.inner-inner.ensures in
    let sample = c.sample_at-sample.ensures.value ∙ ap (λ (v : Cutter). sample_at v c.args.step.now c.halvings-d.result c.loop-k.k) cutter in
    let same = c.raise.ensures.value ∙ ap (λ (l : ℤ). raised_sample l c.sample_at-sample.result) lift ∙ ap (raised_sample inner.lift) sample in
    samples_go_on c.args.job.now.fields c.args.number c.args.step.now c.halvings-d.result c.loop-k.k c.args.tops.now c.loop-k.tops c.cut_sample.new.tops c.loop-k.invariant
    (subst (λ s. IsCutBy c.args.job.now.fields c.args.number s c.loop-k.tops c.cut_sample.new.tops) same c.cut_sample.ensures)

pub returns : goal.returns
returns c =
    let same : pos c.unsigned_abs.result ≡ c.args.job.now.fields.sample = omega (arith, ints) in
    let split : c.halvings-d.result ≡ split_of c.args.job.now.fields.sample c.args.step.now = subst (λ s. c.halvings-d.result ≡ split_of s c.args.step.now) same c.halvings-d.ensures.value in
    samples_end c.args.job.now.fields c.args.number c.args.step.now c.halvings-d.result c.loop-k.k c.args.tops.now c.loop-k.tops split
    (omega (arith, c.power_of_two-k-end.ensures, c.loop-k.auto.k-end, c.loop-k-test.false)) c.loop-k.invariant
