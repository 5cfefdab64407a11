use Rattle.std.proofs.Common.{◌≡◌, ◌-◌, ◌∙◌, length, sym, ap, subst, arith}
use Rattle.std.specs.Prelude.{IfOk}
use Rattle.std.specs.List.{AllZip, range_with_len}
use Rattle.rayon.specs.Numbers.{nat_range}
use Rattle.rayon.proofs.ListFacts.{IfOk-then}
use Rattle.rayon.proofs.ToStd.{nat_range-All}
use Rattle.mill_plan.specs.inner.Feeds.{IsLinkTask, SayClear, SaysClearTo}
use Rattle.mill_plan.proofs.Feeding.{as_many}
use Rattle.mill_plan.proofs.feeds.clear_links_by_threads.Goals as goal

pub collect-requires-clause-ready : goal.collect-requires-clause-ready
collect-requires-clause-ready g c κs =
    let ends = c.into_par_iter.ensures in
    let inside = nat_range-All (λ i. IsLinkTask c.args.job.now.fields c.args.part.now c.args.visits.now i) 0 (length c.args.visits.now) (λ i low high.
    record { visits_ok = c.requires; number_ok = high }) in
    λ lifetimes. rw (c.map.ensures.base, c.map.ensures.f, ends.0, ends.1) (λ k d lt. (inside k d lt, λ y p. tt))

pub returns-clause-say : goal.returns-clause-say
returns-clause-say g c =
    let ends = c.into_par_iter.ensures in
    let whole : length c.args.visits.now - 0 ≡ length c.args.visits.now = omega arith in
    let all : IfOk c.collect.result (λ answers. SayClear c.args.job.now.fields c.args.part.now c.args.visits.now answers.items) =
    IfOk-then c.collect.result _ _ c.collect.ensures (λ v h.
    let chain = rw (c.map.ensures.base, c.map.ensures.f) at h.1 in
    let numbers : chain.0 ≡ range_with_len 0 (length c.args.visits.now) = chain.1 ∙ (λ i. nat_range (ends.0 i) (ends.1 i)) ∙ ap (range_with_len 0) whole in
    let each = subst (λ ks. AllZip (SaysClearTo c.args.job.now.fields c.args.part.now c.args.visits.now) ks h.0) numbers chain.2 in
    subst (λ zs. SayClear c.args.job.now.fields c.args.part.now c.args.visits.now zs) (sym h.2) each) in
    rw c.in_ok-answers.was at all

pub returns-clause-each : goal.returns-clause-each
returns-clause-each g c =
    let ends = c.into_par_iter.ensures in
    let whole : length c.args.visits.now - 0 ≡ length c.args.visits.now = omega arith in
    let all : IfOk c.collect.result (λ answers. length answers.items ≡ length c.args.visits.now) =
    IfOk-then c.collect.result _ _ c.collect.ensures (λ v h.
    let chain = rw (c.map.ensures.base, c.map.ensures.f) at h.1 in
    let numbers : chain.0 ≡ range_with_len 0 (length c.args.visits.now) = chain.1 ∙ (λ i. nat_range (ends.0 i) (ends.1 i)) ∙ ap (range_with_len 0) whole in
    let each = subst (λ ks. AllZip (SaysClearTo c.args.job.now.fields c.args.part.now c.args.visits.now) ks h.0) numbers chain.2 in
    ap (λ zs. length zs) h.2 ∙ as_many (SaysClearTo c.args.job.now.fields c.args.part.now c.args.visits.now) 0 (length c.args.visits.now) h.0 each) in
    rw c.in_ok-answers.was at all
