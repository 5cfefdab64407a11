use Rattle.std.specs.Prelude.{◌≡◌, ◌≤◌, true, false, ℤ, pos, nat_abs, ◌-ℤ◌, ◌<ℤ◌, ◌≤ℤ◌}
use Rattle.std.proofs.Common.{inl, inr, sym, arith}
use Rattle.std.proofs.lemmas.Int.{ints}
use Rattle.mill_base.proofs.Ranges.{coordinate}
use Rattle.mill_links.proofs.Kept.{limit_stored, no_limit, some_limit, unit_coordinate}
use Rattle.mill_links.proofs.Pecks.{no_pecks, some_pecks}
use Rattle.mill_links.proofs.links.peck_count.Goals as goal
use Rattle.mill_links.proofs.links.peck_count.Goals.{then-job-eq0-via-then-job-eq0, then-job-eq0-via-else-job-eq0+then-at-top}
use lib.Signed.{le_z}

not_under : (a b : ℤ) → le_z a b ≡ true → (a -ℤ b) ≤ℤ pos 0
not_under a b e = omega (e, arith, ints)

under : (a b : ℤ) → le_z a b ≡ false → (pos 0) <ℤ (a -ℤ b)
under a b e = omega (e, arith, ints)

lower : (a b : ℤ) → le_z a b ≡ false → b <ℤ a
lower a b e = omega (e, arith, ints)

some : (a b : ℤ) → le_z a b ≡ false → 1 ≤ nat_abs (a -ℤ b)
some a b e = omega (e, arith, ints)

pub returns-then-job-eq0-clause-value : goal.returns-then-job-eq0-clause-value
returns-then-job-eq0-clause-value c =
    let job = c.args.job.now.fields in
    let top = unit_coordinate job.unit job.top c.args.job.now.is_job.top_ok in
    let z = coordinate c.args.at.z c.requires.z_ok in
    elim c.then-job-eq0.branch [
      | then-job-eq0-via-then-job-eq0 w ↦ sym (no_pecks job.max_cut (job.top -ℤ c.args.at.z) (inl (no_limit job c.args.job.now.is_job w.if-job-eq0.true)))
      | then-job-eq0-via-else-job-eq0+then-at-top w ↦
          sym (no_pecks job.max_cut (job.top -ℤ c.args.at.z) (inr (not_under job.top c.args.at.z (rw (top, z) at w.if-at-top.true))))
    ]

pub overflow_sub-result : goal.overflow_sub-result
overflow_sub-result c =
    let job = c.args.job.now.fields in
    let top = unit_coordinate job.unit job.top c.args.job.now.is_job.top_ok in
    let z = coordinate c.args.at.z c.requires.z_ok in
    let height : c.abs_diff.result ≡ nat_abs (job.top -ℤ c.args.at.z) = rw (top, z) at c.abs_diff.ensures in
    rw height (some job.top c.args.at.z (rw (top, z) at c.if-at-top.false))

pub returns-clause-value : goal.returns-clause-value
returns-clause-value c =
    let job = c.args.job.now.fields in
    let top = unit_coordinate job.unit job.top c.args.job.now.is_job.top_ok in
    let z = coordinate c.args.at.z c.requires.z_ok in
    let height : c.abs_diff.result ≡ nat_abs (job.top -ℤ c.args.at.z) = rw (top, z) at c.abs_diff.ensures in
    let depth : c.unsigned_abs.result ≡ nat_abs job.max_cut = rw (limit_stored job c.args.job.now.is_job) at c.unsigned_abs.ensures.value in
    rw (height, depth)
    (sym (some_pecks job.max_cut (job.top -ℤ c.args.at.z) (some_limit job c.args.job.now.is_job c.if-job-eq0.false) (under job.top c.args.at.z (rw (top, z) at c.if-at-top.false))))

pub returns-clause-under : goal.returns-clause-under
returns-clause-under c = λ some.
    let job = c.args.job.now.fields in
    let top = unit_coordinate job.unit job.top c.args.job.now.is_job.top_ok in
    let z = coordinate c.args.at.z c.requires.z_ok in
    lower job.top c.args.at.z (rw (top, z) at c.if-at-top.false)
