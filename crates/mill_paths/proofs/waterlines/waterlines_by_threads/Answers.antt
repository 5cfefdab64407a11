use Rattle.std.proofs.Common.{◌≡◌, ℕ, ◌-◌, ◌<◌, ◌∙◌, length, map, ap, subst, arith}
use Rattle.std.specs.Prelude.{pos}
use Rattle.std.specs.List.{range_with_len}
use Rattle.rayon.specs.Numbers.{nat_range}
use Rattle.rayon.proofs.ToStd.{nat_range-All}
use Rattle.mill_job.specs.Jobs.{tool_of}
use Rattle.mill_level.specs.Waterlines.{IsWaterline, seen}
use Rattle.mill_paths.specs.Lattices.{finish_lattice}
use Rattle.mill_paths.proofs.Gathered.{when_made}
use Rattle.mill_paths.proofs.waterlines.waterlines_by_threads.Goals as goal

pub collect-requires-clause-ready : goal.collect-requires-clause-ready
collect-requires-clause-ready g c κs =
    let n : ℕ = length c.as_slice.result.now in
    let ends = c.into_par_iter.ensures in
    let all : n ≡ length c.args.job.now.fields.levels = ap (λ zs. length zs) c.as_slice.ensures.list in
    let inside = nat_range-All (λ i. i < length c.args.job.now.fields.levels) 0 n (λ i low high. subst (λ m. i < m) all high) in
    λ lifetimes. rw (c.map.ensures.base, c.map.ensures.f, c.with_min_len.ensures.base, ends.0, ends.1) (λ k d lt. (inside k d lt, λ y p. tt))

pub returns : goal.returns
returns g c =
    let ends = c.into_par_iter.ensures in
    let h = c.in_ok-collect.ensures {u = tt} in
    let mapped = rw c.map.ensures.base at h.1 in
    let each = rw c.map.ensures.f at mapped in
    let chain = rw c.with_min_len.ensures.base at each in
    let whole : length c.as_slice.result.now - 0 ≡ length c.as_slice.result.now = omega arith in
    let all : length c.as_slice.result.now ≡ length c.args.job.now.fields.levels = ap (λ zs. length zs) c.as_slice.ensures.list in
    let numbers : chain.0 ≡ range_with_len 0 (length c.args.job.now.fields.levels) = chain.1 ∙ (λ i. nat_range (ends.0 i) (ends.1 i)) ∙ ap (range_with_len 0) (whole ∙ all) in
    when_made _ (λ v. v.items) chain.0 h.0 chain.2 (λ z outlines. IsWaterline (tool_of c.args.job.now.fields) c.args.part.now z (finish_lattice c.args.job.now.fields) outlines) (λ chains. map seen chains.items)
    c.args.job.now.fields.levels (pos 0) numbers (λ k v p. p) c.in_ok-collect.field-0 h.2
