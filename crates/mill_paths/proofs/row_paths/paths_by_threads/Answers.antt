use Rattle.std.proofs.Common.{◌≡◌, ℕ, ◌-◌, ◌<◌, ◌≤◌, ◌∙◌, List, map, subst, arith}
use Rattle.std.specs.Prelude.{IfOk}
use Rattle.std.specs.List.{AllZip, range_with_len}
use Rattle.rayon.specs.Numbers.{nat_range}
use Rattle.rayon.proofs.ToStd.{nat_range-All}
use Rattle.mill_part.proofs.Stored.{band_kept}
use Rattle.mill_paths.specs.RowPaths.{IsTurnedPath}
use Rattle.mill_paths.specs.inner.Rows.{IsRowTask}
use Rattle.mill_paths.proofs.Gathered.{when_counted}
use Rattle.mill_paths.proofs.row_paths.paths_by_threads.Goals as goal

within : (a b c : ℕ) → a < b → b ≤ c → a < c
within a b c h e = omega (h, e, arith)

pub collect-requires-clause-ready : goal.collect-requires-clause-ready
collect-requires-clause-ready g c κs =
    let ends = c.into_par_iter.ensures in
    let each = nat_range-All (λ i. IsRowTask c.args.job.now.fields c.args.tol i) c.args.rows.start c.args.rows.end (λ i low high.
    record { tol_ok = c.requires.tol_ok; few = c.requires.few; row_ok = within i c.args.rows.end _ high c.requires.rows_ok }) in
    λ lifetimes. rw (c.map.ensures.base, c.map.ensures.f, c.with_min_len.ensures.base, ends.0, ends.1, band_kept c.args.tol c.requires.tol_ok.low c.requires.tol_ok.high) (λ k d lt. (each k d lt, λ y p. tt))

pub returns : goal.returns
returns g c =
    let ends = c.into_par_iter.ensures in
    let h = c.in_ok-collect.ensures {u = tt} in
    let mapped = rw c.map.ensures.base at h.1 in
    let each = rw c.map.ensures.f at mapped in
    let chain = rw c.with_min_len.ensures.base at each in
    let numbers : chain.0 ≡ range_with_len c.args.rows.start (c.args.rows.end - c.args.rows.start) = chain.1 ∙ (λ i. nat_range (ends.0 i) (ends.1 i)) in
    subst (λ (ks : List ℕ). IfOk c.in_ok-collect.field-0 (λ paths. AllZip (IsTurnedPath c.args.job.now.fields c.args.part.now c.args.tol) ks (map (λ path. path.items) paths.items))) numbers
    (when_counted _ (λ v. v.items) chain.0 h.0 chain.2 (IsTurnedPath c.args.job.now.fields c.args.part.now c.args.tol) (λ path. path.items) (λ k v p. rw (band_kept c.args.tol c.requires.tol_ok.low c.requires.tol_ok.high) at p) c.in_ok-collect.field-0 h.2)
