use Rattle.std.proofs.Common.{◌≡◌, ℕ, ◌+◌, ◌-◌, ◌≤◌, ◌++◌, List, length, map, sym, subst, arith}
use Rattle.std.specs.List.{flat_map, range_with_len}
use Rattle.std.proofs.lemmas.Result.{err_from_is_err_and}
use Rattle.mill_base.specs.Lattices.{lattice_ys}
use Rattle.mill_base.specs.declared.points.Pt3.{Pt3}
use Rattle.mill_part.proofs.Stored.{band_kept}
use Rattle.mill_links.specs.declared.visit.Visit.{Visit}
use Rattle.mill_paths.specs.Lattices.{finish_lattice}
use Rattle.mill_paths.specs.Limits.{IsListFault}
use Rattle.mill_paths.specs.Visits.{AreRowVisits, HaveManyRowVisits, point_visits}
use Rattle.mill_paths.specs.inner.Rows.{AreFirstVisits}
use Rattle.mill_paths.proofs.FaultLemmas.{from_list}
use Rattle.mill_paths.proofs.RowPoints.{all_inside}
use Rattle.mill_paths.proofs.RowVisits.{all_rows, first_joined, many_first}
use Rattle.mill_paths.proofs.row_visits.row_visits.Goals as goal

joined : (a b : ℕ) → a ≤ b → a + (b - a) ≡ b
joined a b h = omega (h, arith)

within : (a b c : ℕ) → a ≤ b → b ≤ c → a + (b - a) ≤ c
within a b c h e = omega (h, e, arith)

pub add_paths-requires : goal.add_paths-requires
add_paths-requires g c =
    let kept = band_kept c.args.tol c.requires.tol_ok.low c.requires.tol_ok.high in
    rw c.deref.ensures.value
    (all_inside (λ path. path.items) c.args.job.now.fields c.args.part.now c.args.tol (range_with_len c.loop-first.first (c.min-end.result - c.loop-first.first)) c.in_ok-paths.paths.items
    c.args.job.now.is_job (rw kept at c.in_ok-paths.ensures))

pub returns-in_err-add_paths-clause-fault : goal.returns-in_err-add_paths-clause-fault
returns-in_err-add_paths-clause-fault g c =
    let p = err_from_is_err_and c.from_residual-in_err-add_paths.result c.from_residual-in_err-add_paths.ensures.1 in
    let job = c.args.job.now.fields in
    let kept = band_kept c.args.tol c.requires.tol_ok.low c.requires.tol_ok.high in
    let so_far = rw kept at c.loop-first.invariant in
    let turned = rw kept at c.in_ok-paths.ensures in
    let n : ℕ = c.min-end.result - c.loop-first.first in
    let paths : List (List Pt3) = map (λ path. path.items) c.in_ok-paths.paths.items in
    let list : List Visit = c.loop-first.list.visits.items ++ flat_map (point_visits job) paths in
    let order : c.loop-first.first ≤ c.min-end.result = omega (arith, c.in_ok-rows.ensures.value, c.min-end.ensures) in
    let most : c.min-end.result ≤ length (lattice_ys (finish_lattice job)) = omega (arith, c.in_ok-rows.ensures.value, c.min-end.ensures) in
    let first : AreFirstVisits job c.args.part.now c.args.tol (c.loop-first.first + n) list =
    first_joined job c.args.part.now c.args.tol n c.loop-first.first c.loop-first.list.visits.items paths
    (within c.loop-first.first c.min-end.result (length (lattice_ys (finish_lattice job))) order most) so_far turned in
    let fault : IsListFault list c.in_err-add_paths.field-0.0 = rw c.deref.ensures.value at c.in_err-add_paths.ensures.fault in
    rw (p.1, p.2)
    (from_list (finish_lattice job) (HaveManyRowVisits job c.args.part.now c.args.tol) list c.in_err-add_paths.field-0.0 c.in_ok-rows.ensures.few
    (many_first job c.args.part.now c.args.tol (c.loop-first.first + n) list first) fault)

pub loop-first-preserved : goal.loop-first-preserved
loop-first-preserved g c =
    let job = c.args.job.now.fields in
    let kept = band_kept c.args.tol c.requires.tol_ok.low c.requires.tol_ok.high in
    let so_far = rw kept at c.loop-first.invariant in
    let turned = rw kept at c.in_ok-paths.ensures in
    let n : ℕ = c.min-end.result - c.loop-first.first in
    let paths : List (List Pt3) = map (λ path. path.items) c.in_ok-paths.paths.items in
    let list : List Visit = c.loop-first.list.visits.items ++ flat_map (point_visits job) paths in
    let order : c.loop-first.first ≤ c.min-end.result = omega (arith, c.in_ok-rows.ensures.value, c.min-end.ensures) in
    let most : c.min-end.result ≤ length (lattice_ys (finish_lattice job)) = omega (arith, c.in_ok-rows.ensures.value, c.min-end.ensures) in
    let first : AreFirstVisits job c.args.part.now c.args.tol (c.loop-first.first + n) list =
    first_joined job c.args.part.now c.args.tol n c.loop-first.first c.loop-first.list.visits.items paths
    (within c.loop-first.first c.min-end.result (length (lattice_ys (finish_lattice job))) order most) so_far turned in
    let added : c.add_paths.new.list.visits.items ≡ list = rw c.deref.ensures.value at c.in_ok-add_paths.ensures.ok in
    rw kept
    (subst (λ (rows : ℕ). AreFirstVisits job c.args.part.now c.args.tol rows c.add_paths.new.list.visits.items) (joined c.loop-first.first c.min-end.result order)
    (subst (λ (visits : List Visit). AreFirstVisits job c.args.part.now c.args.tol (c.loop-first.first + n) visits) (sym added) first))

pub returns-clause-list : goal.returns-clause-list
returns-clause-list g c =
    let kept = band_kept c.args.tol c.requires.tol_ok.low c.requires.tol_ok.high in
    let all : length (lattice_ys (finish_lattice c.args.job.now.fields)) ≤ c.loop-first.first = omega (arith, c.in_ok-rows.ensures.value) in
    subst (λ (visits : List Visit). AreRowVisits c.args.job.now.fields c.args.part.now c.args.tol visits) (sym c.into_visits.ensures.visits)
    (all_rows c.args.job.now.fields c.args.part.now c.args.tol c.loop-first.first c.loop-first.list.visits.items all (rw kept at c.loop-first.invariant))
