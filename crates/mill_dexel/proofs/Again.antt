-- A move's first and last samples are the cutter itself at its ends, and a cut at the same place again changes nothing.
use Rattle.std.proofs.Common.{◌≡◌, refl, sym, ap, subst, ◌∙◌, ◌⊎◌, inl, inr, length, arith}
use Rattle.std.specs.Prelude.{ℕ, zero, suc, ◌+◌, ◌*◌, ◌%◌, ◌^◌, ◌==◌, ◌<◌, ◌≤◌, nat_abs, Bool, true, false, ◌&&◌, ℤ, pos, negsuc, neg_ℤ, ◌+ℤ◌, ◌*ℤ◌, ◌<ℤ◌, ◌≤ℤ◌, List, Option, Some, None, IfSome}
use Rattle.std.proofs.lemmas.Int.{ints}
use Rattle.std.proofs.lemmas.Nat.{pow_pos}
use Rattle.std.proofs.Math.Nat.{mul-mod_right}
use lib.IntN.{*ℤ_comm}
use Rattle.mill_base.proofs.Divisions.{floor_div_high, ceil_div_high, half_low, half_high}
use Rattle.mill_base.proofs.Integers.{neg-mul-ℤ}
use Rattle.mill_base.specs.Numbers.{divides, floor_div, ceil_div, round_half_up, lesser, greater}
use Rattle.mill_base.specs.Points.{point_at}
use Rattle.mill_base.specs.declared.points.Pt3.{Pt3}
use Rattle.mill_base.specs.declared.motion.Move.{Move}
use Rattle.mill_base.specs.declared.cutter.Cutter.{Cutter}
use Rattle.mill_job.specs.Solids.{inner_of}
use Rattle.mill_base.specs.Solids.{solid_tip}
use Rattle.mill_job.specs.declared.fields.JobFields.{JobFields}
use Rattle.mill_job.specs.Columns.{column_x, column_y}
use Rattle.mill_sweep.specs.Leaves.{end_of}
use Rattle.mill_dexel.specs.declared.sample.Placed.{Placed}
use Rattle.mill_dexel.specs.Samples.{is_at_whole_place, placed, raised_sample, sample_at, sample_centre, split_of}
use Rattle.mill_dexel.specs.Tops.{lowered_to, top_after_sample, top_after_move, tops_after_move}
use Rattle.mill_dexel.specs.Rows.{top_at}
use Rattle.mill_dexel.specs.inner.Cuts.{IsCutBy, IsCutAt}
use Rattle.mill_base.proofs.Extremes.{greater_left, greater_is, greater_of_less, lesser_left, lesser_right}
use Rattle.mill_dexel.proofs.Reaches.{kept_over}
use Rattle.mill_dexel.proofs.EndCerts.{weighed_start, weighed_end, whole_least, whole_most}
use Rattle.mill_dexel.proofs.InnerCerts.{nearest_low, nearest_high}
use Rattle.mill_dexel.proofs.Places.{whole_is}
use Rattle.mill_dexel.proofs.RowLaws.{length-tops_after_move, tops_after_move-at}
use Rattle.mill_dexel.proofs.CutRows.{IsCutByFirst, first_and_one, samples_start, samples_go_on, top_of_first}

-- n times a whole number is a multiple of n, and is that number when it is divided by n, however it is rounded
whole_divides : (n : ℕ) (w : ℤ) → divides n (pos n *ℤ w) ≡ true
whole_divides n w = ap (λ (r : ℕ). r == 0) (ap (λ (a : ℕ). a % n) (magnitude w) ∙ mul-mod_right n (nat_abs w))
  where
    magnitude : (w : ℤ) → nat_abs (pos n *ℤ w) ≡ n * nat_abs w
    magnitude (pos a) = omega (arith, ints)
    magnitude (negsuc a) = omega (arith, ints)

same_whole : (a b : ℤ) → a ≤ℤ b → b ≤ℤ a → a ≡ b
same_whole a b h k = omega (arith, ints)

some_parts : (n : ℕ) → 0 < n → (pos 0) <ℤ pos n
some_parts n some = omega (arith, ints)

whole_nearest : (n : ℕ) (w : ℤ) → 0 < n → round_half_up (pos n *ℤ w) n ≡ w
whole_nearest n w some =
    same_whole (round_half_up (pos n *ℤ w) n) w
    (nearest_high (pos n) (round_half_up (pos n *ℤ w) n) w (some_parts n some) (half_low (pos n *ℤ w) n some))
    (nearest_low (pos n) (round_half_up (pos n *ℤ w) n) w (some_parts n some) (half_high (pos n *ℤ w) n some))

whole_up : (n : ℕ) (w : ℤ) → 0 < n → ceil_div (pos n *ℤ w) n ≡ w
whole_up n w some =
    same_whole (ceil_div (pos n *ℤ w) n) w
    (whole_most (pos n) (ceil_div (pos n *ℤ w) n) w (some_parts n some) (most (floor_div (neg_ℤ (pos n *ℤ w)) n) (floor_div_high (neg_ℤ (pos n *ℤ w)) n some)))
    (whole_least (pos n) (ceil_div (pos n *ℤ w) n) w (some_parts n some) (ceil_div_high (pos n *ℤ w) n some))
  where
    turned : (q : ℤ) → pos n *ℤ neg_ℤ q ≡ neg_ℤ (pos n *ℤ q)
    turned q = *ℤ_comm (pos n) (neg_ℤ q) ∙ neg-mul-ℤ q (pos n) ∙ ap neg_ℤ (*ℤ_comm q (pos n))

    most : (q : ℤ) → neg_ℤ (pos n *ℤ w) <ℤ (pos n *ℤ q +ℤ pos n) → (pos n *ℤ neg_ℤ q) <ℤ (pos n *ℤ w +ℤ pos n)
    most q h = rw (turned q) (omega (arith, ints))

-- the sample at a moment when the tip is at a whole place is the cutter itself there
record IsWholeAt (m : Move) (d k : ℕ) (tip : Pt3) : Type 0 where
  x : end_of m.from.x m.to.x d k ≡ pos (2 ^ d) *ℤ tip.x
  y : end_of m.from.y m.to.y d k ≡ pos (2 ^ d) *ℤ tip.y
  z : end_of m.from.z m.to.z d k ≡ pos (2 ^ d) *ℤ tip.z

place_of : (a b c d e f : ℤ) → a ≡ d → b ≡ e → c ≡ f → point_at a b c ≡ point_at d e f
place_of a b c d e f p q r = cc

both_are : (a b : Bool) → a ≡ true → b ≡ true → (a && b) ≡ true
both_are true b p q = q
both_are false b p q = p

sample_is : (cutter : Cutter) (m : Move) (d k : ℕ) (tip : Pt3) → IsWholeAt m d k tip → sample_at cutter m d k ≡ Some (placed cutter tip)
sample_is cutter m d k tip at = sym (whole_is cutter m d k whole) ∙ ap (λ (p : Pt3). Some (placed cutter p)) centre
  where
    whole : is_at_whole_place m d k ≡ true
    whole = both_are (divides (2 ^ d) (end_of m.from.x m.to.x d k)) (divides (2 ^ d) (end_of m.from.y m.to.y d k))
        (ap (divides (2 ^ d)) at.x ∙ whole_divides (2 ^ d) tip.x) (ap (divides (2 ^ d)) at.y ∙ whole_divides (2 ^ d) tip.y)

    centre : sample_centre m d k ≡ tip
    centre = place_of _ _ _ tip.x tip.y tip.z
        (ap (λ (e : ℤ). round_half_up e (2 ^ d)) at.x ∙ whole_nearest (2 ^ d) tip.x (pow_pos d))
        (ap (λ (e : ℤ). round_half_up e (2 ^ d)) at.y ∙ whole_nearest (2 ^ d) tip.y (pow_pos d))
        (ap (λ (e : ℤ). ceil_div e (2 ^ d)) at.z ∙ whole_up (2 ^ d) tip.z (pow_pos d))

pub sample_at-start : (cutter : Cutter) (m : Move) (d : ℕ) → sample_at cutter m d 0 ≡ Some (placed cutter m.from)
sample_at-start cutter m d = sample_is cutter m d 0 m.from (record {
  x = weighed_start (pos (2 ^ d)) m.from.x m.to.x;
  y = weighed_start (pos (2 ^ d)) m.from.y m.to.y;
  z = weighed_start (pos (2 ^ d)) m.from.z m.to.z;
})

pub sample_at-end : (cutter : Cutter) (m : Move) (d : ℕ) → sample_at cutter m d (2 ^ d) ≡ Some (placed cutter m.to)
sample_at-end cutter m d = sample_is cutter m d (2 ^ d) m.to (record {
  x = weighed_end (pos (2 ^ d)) m.from.x m.to.x;
  y = weighed_end (pos (2 ^ d)) m.from.y m.to.y;
  z = weighed_end (pos (2 ^ d)) m.from.z m.to.z;
})

same_height : (a b : ℤ) → Some a ≡ Some b → a ≡ b
same_height a b e = cc

-- a top that was cut down to a height isn't lowered by a cut to that height again
lowered_again : (floor top : ℤ) (cut : Option ℤ) → lowered_to floor top cut ≡ lowered_to floor (lowered_to floor top cut) cut
lowered_again floor top None = refl
lowered_again floor top (Some h) = by (greater floor (lesser top h)) (greater_left floor (lesser top h)) (greater_is floor (lesser top h)) (lesser_right top h)
  where
    under : (v g : ℤ) → v ≤ℤ h → h ≡ g → v ≤ℤ g
    under v g l e = omega (arith, ints)

    by : (v : ℤ) → floor ≤ℤ v → (v ≡ floor) ⊎ (v ≡ lesser top h) → lesser top h ≤ℤ h → v ≡ greater floor (lesser v h)
    by v low (inl e) most = e ∙ greater_of_less floor (lesser v h) (rw (← e) (lesser_left v h))
    by v low (inr e) most = kept_over floor v (Some h) low (λ g same. under v g (rw e most) (same_height h g same))

sample_again : (floor x y top : ℤ) (s : Option Placed) → top_after_sample floor x y top s ≡ top_after_sample floor x y (top_after_sample floor x y top s) s
sample_again floor x y top None = refl
sample_again floor x y top (Some s) = lowered_again floor top _

-- after a move, the row is cut at its end
pub cut_at_end : (job : JobFields) (j : ℕ) (m : Move) (tops : List ℤ) → IsCutAt job j m.to (tops_after_move job j 0 m tops)
cut_at_end job j m tops = record { columns = refl; each = λ i within. each i (rw (← length-tops_after_move job j 0 m tops) within) }
  where
    -- the tops after all samples of the move but the last one
    before_last : ℕ → ℤ
    before_last i = top_of_first job j m (split_of job.sample m) (2 ^ split_of job.sample m) tops i

    last : (i : ℕ) → top_of_first job j m (split_of job.sample m) (2 ^ split_of job.sample m + 1) tops i ≡ top_after_sample job.floor (column_x job i) (column_y job j) (before_last i) (Some (placed (inner_of job).cutter (solid_tip (inner_of job) (pos 1) m.to)))
    last i =
        first_and_one job j m (split_of job.sample m) (2 ^ split_of job.sample m) tops i
        ∙ ap (top_after_sample job.floor (column_x job i) (column_y job j) (before_last i)) (ap (raised_sample (inner_of job).lift) (sample_at-end (inner_of job).cutter m (split_of job.sample m)))

    top : (i : ℕ) → i < length tops → top_at (tops_after_move job j 0 m tops) i ≡ top_after_sample job.floor (column_x job i) (column_y job j) (before_last i) (Some (placed (inner_of job).cutter (solid_tip (inner_of job) (pos 1) m.to)))
    top i within =
        tops_after_move-at job j 0 m tops i (pos 0) within
        ∙ ap (λ (k : ℕ). top_after_move job (column_x job k) (column_y job j) (top_at tops i) m) (omega arith)
        ∙ last i

    each : (i : ℕ) → i < length tops
        → top_at (tops_after_move job j 0 m tops) i ≡ top_after_sample job.floor (column_x job i) (column_y job j) (top_at (tops_after_move job j 0 m tops) i) (Some (placed (inner_of job).cutter (solid_tip (inner_of job) (pos 1) m.to)))
    each i within =
        top i within
        ∙ sample_again job.floor (column_x job i) (column_y job j) (before_last i) (Some (placed (inner_of job).cutter (solid_tip (inner_of job) (pos 1) m.to)))
        ∙ ap (λ (t : ℤ). top_after_sample job.floor (column_x job i) (column_y job j) t (Some (placed (inner_of job).cutter (solid_tip (inner_of job) (pos 1) m.to)))) (sym (top i within))

-- where a row is cut at a move's start, the move's first sample changes nothing
first_is_cut : (job : JobFields) (j : ℕ) (m : Move) (d : ℕ) (tops : List ℤ) → IsCutAt job j m.from tops → IsCutByFirst job j m d 1 tops tops
first_is_cut job j m d tops cut =
    samples_go_on job j m d 0 tops tops tops (samples_start job j m d tops)
    (subst (λ (s : Option Placed). IsCutBy job j s tops tops) (sym (ap (raised_sample (inner_of job).lift) (sample_at-start (inner_of job).cutter m d))) cut)

-- so a move's samples may begin from number 1 on where the row is cut at its start, and from 0 on in any row
pub first_starts : (job : JobFields) (j : ℕ) (m : Move) (d first : ℕ) (last : Option Pt3) (tops : List ℤ) → first ≤ 1 → (first ≡ 1 → last ≡ Some m.from) → IfSome last (λ tip. IsCutAt job j tip tops)
    → IsCutByFirst job j m d first tops tops
first_starts job j m d zero last tops most known cut = samples_start job j m d tops
first_starts job j m d (suc zero) last tops most known cut = first_is_cut job j m d tops (subst (λ (o : Option Pt3). IfSome o (λ tip. IsCutAt job j tip tops)) (known refl) cut)
first_starts job j m d (suc (suc first)) last tops most known cut = absurd (omega (arith, most))
