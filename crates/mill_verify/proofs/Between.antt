-- A tool between what is removed for sure and what may be touched leaves less than the one, and touches no more than the other.
use Rattle.std.specs.Prelude.{◌≡◌, ℕ, ℤ, pos, ◌+ℤ◌, ◌-ℤ◌, List, take}
use Rattle.std.proofs.Common.{refl, subst, arith}
use Rattle.std.proofs.lemmas.Int.{ints}
use Rattle.mill_base.specs.Motion.{tip_at}
use Rattle.mill_base.specs.Solids.{Solid, SolidHolds, at_tip}
use Rattle.mill_base.specs.Ranges.{MovesInRange}
use Rattle.mill_base.specs.declared.cutter.Cutter.{Cutter}
use Rattle.mill_base.specs.declared.cutter.Cutter.TheVariants.{Flat, Ball, Cone}
use Rattle.mill_base.specs.declared.motion.Kind.TheVariants.{Rapid}
use Rattle.mill_base.specs.declared.motion.Move.{Move}
use Rattle.mill_base.specs.declared.points.Tri.{Tri}
use Rattle.mill_margin.specs.Margins.{cone_offset_of, grown, shrunk}
use Rattle.mill_job.specs.Columns.{column_x, column_y}
use Rattle.mill_job.specs.Jobs.{IsJob}
use Rattle.mill_job.specs.Slack.{graze_of}
use Rattle.mill_job.specs.Solids.{deeper_in, outer_of, part_solid_of, stock_solid_of}
use Rattle.mill_job.specs.declared.fields.JobFields.{JobFields}
use Rattle.mill_job.proofs.SolidFacts.{outer_ok, part_solid_ok, stock_solid_ok}
use Rattle.mill_part.proofs.Below.{covered_below}
use Rattle.mill_sweep.proofs.Solids.{passing_is_clear, passing_keeps_point}
use Rattle.mill_dexel.specs.Tops.{stock_after, uncut}
use Rattle.mill_dexel.specs.Turns.{move_at}
use Rattle.mill_dexel.proofs.Removal.{over_top_is_removed}
use Rattle.mill_verify.specs.Between.{BetweenIsSafe, CutsSafelyWith, LeavesWith, LiesBetween, Shape}
use Rattle.mill_verify.specs.Claims.{LeavesPoint, column_point}
use Rattle.mill_verify.specs.Verdicts.{AcceptsOn}
use Rattle.mill_verify.proofs.Depths.{as_rapid, clears_as}
use Rattle.mill_verify.proofs.Safe.{are_covered, in_range, met_under, misses_fixtures, misses_part, top_ok, under_top, uncut_ok}

abbrev solid_with : Cutter → ℤ → Solid
solid_with cutter lift = record { cutter = cutter; lift = lift }

-- a margin put around a solid and then one taken off it come to what comes when it is the other way round
swapped : (r s o : ℤ) → (r +ℤ s) -ℤ o ≡ (r -ℤ o) +ℤ s
swapped r s o = omega (arith, ints)

lifts : (u d : ℤ) → ((pos 0) -ℤ d) +ℤ u ≡ ((pos 0) +ℤ u) -ℤ d
lifts u d = omega (arith, ints)

same_flat : (x y l k : ℤ) → x ≡ y → l ≡ k → solid_with (Flat x) l ≡ solid_with (Flat y) k
same_flat x y l k e h = rw (e, h) refl

same_ball : (x y l k : ℤ) → x ≡ y → l ≡ k → solid_with (Ball x) l ≡ solid_with (Ball y) k
same_ball x y l k e h = rw (e, h) refl

same_cone : (a b x y l k : ℤ) → x ≡ y → l ≡ k → solid_with (Cone x a b) l ≡ solid_with (Cone y a b) k
same_cone a b x y l k e h = rw (e, h) refl

deeper_is : (cutter : Cutter) (depth slack : ℤ) → shrunk (grown (at_tip cutter) slack) depth ≡ deeper_in cutter depth slack
deeper_is (Flat r) o s = same_flat _ _ _ _ (swapped r s o) (lifts o s)
deeper_is (Ball r) o s = same_ball _ _ _ _ (swapped r s o) (lifts o s)
deeper_is (Cone r a b) o s = same_cone a b _ _ _ _ (swapped r s o) (lifts (cone_offset_of a b o) (cone_offset_of a b s))

module _ (job : JobFields) (part : List Tri) (moves : List Move) (tool : Shape) (ok : IsJob job) (all_ok : MovesInRange moves) (between : LiesBetween job tool) where
  -- what the tool leaves the cutter may leave
  may_leave : (ms : List Move) (j i : ℕ) (h : ℤ) → LeavesWith job tool ms j i h → LeavesPoint job ms j i h
  may_leave ms j i h left removed =
      let r = removed.removes in
      left (record { move = removed.move; member = removed.member; k = r.k; n = r.n; moment = r.moment; inside = between.inner r.n (tip_at removed.move r.k r.n) (pos 1) (column_point job j i h) r.inside })

  pub cuts_with : (count columns : ℕ) (most : ℤ) → AcceptsOn job part (uncut job) moves count columns most → CutsSafelyWith job part moves tool
  cuts_with count columns most accepts = record {
    gouges = λ m n tip tri q p member is part_member point inside deeper.
        misses_part job part (uncut job) moves ok (uncut_ok job part moves ok all_ok) all_ok passing_is_clear (part_solid_of job) (part_solid_ok job ok) (λ k hk. (accepts.good k hk).clears) m n tip member is
        (record { tri = tri; member = part_member; touches = record { n = q; p = p; point = point; inside = subst (λ (s : Solid). SolidHolds s n tip q p) (deeper_is job.cutter job.overcut job.slack) deeper } });
    rapids = λ k j i h n tip there rapid point left is inside deeper.
        passing_keeps_point (stock_solid_of job) (move_at moves k) (column_x job i) (column_y job j) (stock_after job (uncut job) (take k moves) j i) h n tip (stock_solid_ok job ok)
        (in_range job part (uncut job) moves ok (uncut_ok job part moves ok all_ok) all_ok k there) (top_ok job part (uncut job) moves ok (uncut_ok job part moves ok all_ok) all_ok k j i point.column)
        (clears_as job (uncut job) moves Rapid k (as_rapid (move_at moves k).kind rapid) (accepts.good k there).stock tt j i point.column) (met_under job part moves ok all_ok over_top_is_removed k j i h point (may_leave (take k moves) j i h left)) is
        (subst (λ (s : Solid). SolidHolds s n tip (pos 1) (column_point job j i h)) (deeper_is job.cutter (graze_of job) job.slack) deeper);
    covered = λ j i h point left. are_covered covered_below job part (stock_after job (uncut job) moves) (LeavesPoint job moves) (under_top job part moves ok all_ok over_top_is_removed moves all_ok) accepts.cut j i h point
        (may_leave moves j i h left);
    fixtures = λ m n tip fixture q p member is there point inside.
        misses_fixtures job part (uncut job) moves ok (uncut_ok job part moves ok all_ok) all_ok passing_is_clear (outer_of job) (outer_ok job ok) (λ k hk. (accepts.good k hk).fixtures) m n tip fixture q p
        member is there point (between.outer n tip q p inside);
  }

pub between_is_safe : BetweenIsSafe
between_is_safe job part moves tool count columns left ok all_ok between a = cuts_with job part moves tool ok all_ok between count columns left a
