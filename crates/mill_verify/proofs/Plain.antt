-- Without a slack the real tip is the program's, and without overcut and graze the cutter's core is the cutter.
use Rattle.std.specs.Prelude.{◌≡◌, ◌≢◌, ℕ, ◌<◌, ℤ, pos, ◌-ℤ◌, ◌*ℤ◌, ◌<ℤ◌, ◌≤ℤ◌, List, Contains, length, take, Option, Some, None, IfSome}
use Rattle.std.proofs.Common.{◌∙◌, refl, ap, sym, subst, arith}
use Rattle.std.proofs.lemmas.Int.{ints}
use lib.IntN.{*ℤ_comm}
use Rattle.mill_base.proofs.Integers.{zero-mul-ℤ}
use Rattle.mill_base.specs.Contact.{GougesOn, IsRemoved, MayRemove}
use Rattle.mill_base.proofs.Tips.{sure_is_tip, tip_some}
use Rattle.mill_base.specs.Motion.{IsTipOf, tip_at}
use Rattle.mill_base.specs.Numbers.{square}
use Rattle.mill_base.specs.Solids.{Solid, SolidGouges, SolidHolds, at_tip}
use Rattle.mill_base.specs.declared.motion.Move.{Move}
use Rattle.mill_base.specs.declared.points.Pt3.{Pt3}
use Rattle.mill_base.specs.declared.points.Tri.{Tri}
use Rattle.mill_job.specs.Slack.{graze_of}
use Rattle.mill_job.specs.Solids.{inner_of}
use Rattle.mill_base.specs.Covers.{HasPointOver}
use Rattle.mill_job.specs.Columns.{column_x, column_y}
use Rattle.mill_base.specs.declared.motion.Kind.TheVariants.{Feed}
use Rattle.mill_verify.specs.Tests.{stock_met}
use Rattle.mill_job.specs.declared.fields.JobFields.{JobFields}
use Rattle.mill_job.proofs.NoSlack.{bare_inner}
use Rattle.mill_margin.specs.Margins.{IsWithin, shrunk}
use Rattle.mill_dexel.specs.Removed.{IsRemovedBy, SolidRemoves}
use Rattle.mill_dexel.specs.Tops.{uncut}
use Rattle.mill_dexel.specs.Turns.{move_at}
use Rattle.mill_verify.proofs.Mounted.{each_some}
use Rattle.mill_verify.specs.Claims.{CutsSafely, HolderStaysClear, KeepsOff, IsColumnPoint, IsRealTip, LeavesPoint, column_point, core, left_before}
use Rattle.mill_verify.specs.Plain.{CutsNoDeeper, CutsPlainly, HolderTouchesNothing, IsPlain, PlainIsPlain, StaysLeft, StaysOff}

-- a point is at no distance from itself
no_way : (n a : ℤ) → square ((n *ℤ a) -ℤ (n *ℤ a)) ≡ pos 0
no_way n a = by ((n *ℤ a) -ℤ (n *ℤ a)) (itself (n *ℤ a))
  where
    itself : (b : ℤ) → b -ℤ b ≡ pos 0
    itself b = omega (arith, ints)

    by : (b : ℤ) → b ≡ pos 0 → square b ≡ pos 0
    by b e = rw e refl

by_none : (n : ℤ) → n *ℤ pos 0 ≡ pos 0
by_none n = *ℤ_comm n (pos 0) ∙ zero-mul-ℤ n

no_length : (n : ℤ) → (pos 0) ≤ℤ square (n *ℤ (n *ℤ pos 0))
no_length n = subst (λ (v : ℤ). (pos 0) ≤ℤ square v) (sym (ap (λ (v : ℤ). n *ℤ v) (by_none n) ∙ by_none n)) (omega (arith, ints))

at_itself : (n : ℤ) (t : Pt3) → IsWithin (pos 0) n t n t
at_itself n t = record { near = rw (no_way n t.x, no_way n t.y, no_way n t.z) (no_length n) }

-- so the program's tip is a real one
real_tip : (m : Move) (n : ℤ) (tip : Pt3) → IsTipOf m n tip → IsRealTip (pos 0) m n tip
real_tip m n tip is = record { some = tip_some m n tip is; d = n; tip = tip; is = is; near = at_itself n tip }

module _ (job : JobFields) (plain : IsPlain job) where
  tip_is : (m : Move) (n : ℤ) (tip : Pt3) → IsTipOf m n tip → IsRealTip job.slack m n tip
  tip_is m n tip is = subst (λ (s : ℤ). IsRealTip s m n tip) (sym plain.no_slack) (real_tip m n tip is)

  overcut_core : core job job.overcut ≡ at_tip job.cutter
  overcut_core = ap (λ (d : ℤ). core job d) plain.no_overcut ∙ bare_inner job.cutter

  graze_core : core job (graze_of job) ≡ at_tip job.cutter
  graze_core = ap (λ (d : ℤ). core job d) plain.no_graze ∙ bare_inner job.cutter

  inner_is : inner_of job ≡ at_tip job.cutter
  inner_is = ap (λ (s : ℤ). shrunk (at_tip job.cutter) s) plain.no_slack ∙ bare_inner job.cutter

  -- what is removed for sure is what is removed
  for_sure : (moves : List Move) (p : Pt3) → IsRemovedBy (inner_of job) moves p → IsRemoved job.cutter moves p
  for_sure moves p r = by (subst (λ (s : Solid). SolidRemoves s r.move p) inner_is r.removes)
    where
      by : SolidRemoves (at_tip job.cutter) r.move p → IsRemoved job.cutter moves p
      by s = record { move = r.move; member = r.member; removes = record { k = s.k; m = s.n; moment = s.moment; inside = s.inside } }

  left_too : (moves : List Move) (j i : ℕ) (h : ℤ) → StaysLeft job moves j i h → LeavesPoint job moves j i h
  left_too moves j i h left removed = left (for_sure moves (column_point job j i h) removed)

  module _ (part : List Tri) (moves : List Move) (safe : CutsSafely job part moves) where
    gouges : (m : Move) → Contains moves m → ¬ GougesOn job.cutter m part
    gouges m member g =
        safe.gouges m g.m g.tip member (tip_is m g.m g.tip g.is) (subst (λ (s : Solid). SolidGouges s g.m g.tip part) (sym overcut_core) g.gouges)

    rapids : (k j i : ℕ) (h : ℤ) → k < length moves → (move_at moves k).kind ≢ Feed → IsColumnPoint job j i h → StaysLeft job (take k moves) j i h
        → ¬ MayRemove job.cutter (move_at moves k) (pos 1) (column_point job j i h)
    rapids k j i h there rapid point left r =
        safe.rapids k j i h r.m r.tip there rapid point (left_too (take k moves) j i h left) (tip_is (move_at moves k) r.m r.tip r.is)
        (subst (λ (s : Solid). SolidHolds s r.m r.tip (pos 1) (column_point job j i h)) (sym graze_core) r.inside)

    kept : (j i : ℕ) (h : ℤ) → IsColumnPoint job j i h → HasPointOver part (pos 0) (column_x job i) (column_y job j) h → StaysLeft job moves j i h
    kept j i h point stands removed =
        let r = removed.removes in
        safe.kept removed.move j i h r.m (tip_at removed.move r.k r.m) removed.member point stands (tip_is removed.move r.m (tip_at removed.move r.k r.m) (sure_is_tip removed.move r.k r.m r.moment))
        (subst (λ (s : Solid). SolidHolds s r.m (tip_at removed.move r.k r.m) (pos 1) (column_point job j i h)) (sym overcut_core) r.inside)

    depth : (pos 0) <ℤ job.max_cut → CutsNoDeeper job (uncut job) moves
    depth limited = record { feeds = feeds; tops = (safe.depth limited).tops plain.no_graze }
      where
        feeds : (k j i : ℕ) (h : ℤ) → k < length moves → (move_at moves k).kind ≡ Feed → IsColumnPoint job j i h → h ≤ℤ (stock_met job (uncut job) moves k j i -ℤ job.max_cut)
            → ¬ MayRemove job.cutter (move_at moves k) (pos 1) (column_point job j i h)
        feeds k j i h there feed point deep r =
            (safe.depth limited).feeds k j i h r.m r.tip there feed point deep (tip_is (move_at moves k) r.m r.tip r.is)
            (subst (λ (s : Solid). SolidHolds s r.m r.tip (pos 1) (column_point job j i h)) (sym graze_core) r.inside)

    holder : (o : Option Solid) → IfSome o (λ holder. HolderStaysClear holder job part moves (left_before job moves)) → IfSome o (λ holder. HolderTouchesNothing holder job part moves)
    holder None clear = tt
    holder (Some s) clear = record {
      misses_part = λ m n tip member is. clear.misses_part m n tip member (tip_is m n tip is);
      misses_stock = λ k j i h n tip there point left is.
          clear.misses_stock k j i h n tip there point (left_too (take k moves) j i h left) (tip_is (move_at moves k) n tip is);
    }

    off : (solid : Solid) → KeepsOff solid job moves → StaysOff solid job moves
    off solid keeps m n tip member is hit = keeps m n tip member (tip_is m n tip is) hit

    cuts_plainly : CutsPlainly job part moves
    cuts_plainly = record {
      gouges = gouges;
      rapids = rapids;
      covered = λ j i h point left. safe.covered j i h point (left_too moves j i h left);
      kept = kept;
      depth = depth;
      holder = holder job.holder safe.holder;
      fixtures = record { cutter = off (at_tip job.cutter) safe.fixtures.cutter; holder = each_some (λ (v : Solid). KeepsOff v job moves) (λ (v : Solid). StaysOff v job moves) job.holder off safe.fixtures.holder };
    }

pub plain_is_plain : PlainIsPlain
plain_is_plain job part moves plain safe = cuts_plainly job plain part moves safe
