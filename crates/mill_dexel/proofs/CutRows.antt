-- How a loop over the columns in reach lowers the tops of a row by one sample, and one over the samples of a move by the move.
use Rattle.std.proofs.Common.{◌≡◌, ◌⊎◌, inl, inr, ℕ, ◌+◌, ◌^◌, ◌<◌, ◌≤◌, ◌≢◌, refl, sym, ap, ◌∙◌, length, arith}
use Rattle.std.specs.Prelude.{ℤ, pos, ◌-ℤ◌, ◌≤ℤ◌, List, [], ◌∷◌, fold, map, Option, Some, None, slice_set, replicate}
use Rattle.std.specs.List.{range_with_len}
use Rattle.std.specs.Int.{int_min, int_max}
use Rattle.std.proofs.lemmas.Bool.{cases_lt}
use Rattle.std.proofs.lemmas.List.{ext_get_or, get_or-set_same, get_or-set_other, set-get_or, length-set, length-replicate}
use Rattle.std.proofs.lemmas.List.Elements.{All-replicate}
use Rattle.std.proofs.lemmas.List.FromFn.{map-range_with_len_more}
use Rattle.std.proofs.lemmas.List.Sums.{fold-append}
use Rattle.std.proofs.Math.Nat.{eq-or-lt_of_le}
use Rattle.std.proofs.lemmas.Int.{ints}
use Rattle.mill_base.specs.Sizes.{IsCutter, radius_of, cut_height_of}
use Rattle.mill_base.specs.declared.motion.Move.{Move}
use Rattle.mill_job.specs.Solids.{inner_of}
use Rattle.mill_job.specs.declared.fields.JobFields.{JobFields}
use Rattle.mill_job.specs.Columns.{row_count, column_count, column_x, column_y}
use Rattle.mill_job.specs.Jobs.{IsJob, IsFrom}
use Rattle.mill_dexel.specs.declared.sample.Placed.{Placed}
use Rattle.mill_dexel.specs.Samples.{solid_sample_at, split_of}
use Rattle.mill_dexel.specs.Tops.{lowered_to, top_after_sample, top_after_move, tops_after_move}
use Rattle.mill_dexel.specs.Rows.{RowState, IsRowOf, top_at}
use Rattle.mill_dexel.specs.inner.Cuts.{IsCutBy, IsReachBy, IsBeyond, IsHalfChord}
use Rattle.mill_dexel.proofs.Reaches.{beyond_far, far_keeps, beside_keeps, free_keeps, outside_keeps}
use Rattle.mill_base.specs.Contact.{Holds}
use Rattle.mill_base.specs.Points.{point_at}
use Rattle.mill_dexel.proofs.RowLaws.{length-tops_after_move, tops_after_move-at}

-- what the sample makes of the top of column k
abbrev pub cut_top : JobFields → ℕ → Placed → List ℤ → ℕ → ℤ
cut_top job j s tops k = top_after_sample job.floor (column_x job k) (column_y job j) (top_at tops k) (Some s)

-- the columns before i are lowered by the sample, and the others are as they were
pub record IsCutBefore (job : JobFields) (j : ℕ) (s : Placed) (i : ℕ) (old new : List ℤ) : Type 0 where
  pub columns : length new ≡ length old
  pub done : (k : ℕ) → k < i → k < length old → top_at new k ≡ cut_top job j s old k
  pub rest : (k : ℕ) → i ≤ k → top_at new k ≡ top_at old k

-- the columns before the reach are too far away to be lowered
pub cut_starts : (job : JobFields) (j : ℕ) (s : Placed) (chord : ℤ) (first «end» : ℕ) (old : List ℤ) → IsHalfChord (radius_of s.cutter) (column_y job j -ℤ s.tip.y) chord
    → IsReachBy job chord s.tip.x s.tip.x first «end» → IsCutBefore job j s first old old
cut_starts job j s chord first «end» old half reach = record {
  columns = refl;
  done = λ k before within. beside_keeps s job.floor (column_x job k) (column_y job j) (top_at old k) chord half (inl (reach.under k before).first);
  rest = λ k behind. refl;
}

-- lowering column i, too
pub cut_goes_on : (job : JobFields) (j : ℕ) (s : Placed) (i : ℕ) (old new : List ℤ) → i < length old → IsCutBefore job j s i old new
    → IsCutBefore job j s (i + 1) old (slice_set new i (cut_top job j s new i))
cut_goes_on job j s i old new there so_far = record {
  columns = length-set new i (cut_top job j s new i) ∙ so_far.columns;
  done = λ k before within. by k (eq-or-lt_of_le (at_most k before)) within;
  rest = λ k behind. get_or-set_other new i k (cut_top job j s new i) (pos 0) (after k behind) ∙ so_far.rest k (omega arith);
}
  where
    at_most : (k : ℕ) → k < i + 1 → k ≤ i
    at_most k h = omega arith

    after : (k : ℕ) → i + 1 ≤ k → k ≢ i
    after k h = omega arith

    in_new : i < length new
    in_new = let e = so_far.columns in omega arith

    other : (k : ℕ) → k < i → k ≢ i
    other k h = omega arith

    by : (k : ℕ) → (k ≡ i) ⊎ (k < i) → k < length old → top_at (slice_set new i (cut_top job j s new i)) k ≡ cut_top job j s old k
    by k (inl same) within =
        rw same
        (get_or-set_same new i (cut_top job j s new i) (pos 0) in_new
        ∙ ap (λ t. top_after_sample job.floor (column_x job i) (column_y job j) t (Some s)) (so_far.rest i (omega arith)))
    by k (inr before) within = get_or-set_other new i k (cut_top job j s new i) (pos 0) (other k before) ∙ so_far.done k before within

-- the columns from the reach's end on are too far away as well
pub cut_ends : (job : JobFields) (j : ℕ) (s : Placed) (chord : ℤ) (first «end» i : ℕ) (old new : List ℤ) → IsHalfChord (radius_of s.cutter) (column_y job j -ℤ s.tip.y) chord
    → IsReachBy job chord s.tip.x s.tip.x first «end» → length old ≡ column_count job → «end» ≤ i → IsCutBefore job j s i old new → IsCutBy job j (Some s) old new
cut_ends job j s chord first «end» i old new half reach columns passed so_far = record {
  columns = so_far.columns;
  each = λ k within. by k within (cases_lt k i);
}
  where
    behind : (k : ℕ) → i ≤ k → «end» ≤ k
    behind k h = omega arith

    column : (k : ℕ) → k < length old → k < column_count job
    column k h = omega arith

    by : (k : ℕ) → k < length old → (k < i) ⊎ (i ≤ k) → top_at new k ≡ cut_top job j s old k
    by k within (inl before) = so_far.done k before within
    by k within (inr h) =
        so_far.rest k h
        ∙ beside_keeps s job.floor (column_x job k) (column_y job j) (top_at old k) chord half (inr (reach.over k (behind k h) (column k within)).first)

-- a row too far away in y keeps all its tops
pub beyond_keeps : (job : JobFields) (j : ℕ) (s : Placed) (old : List ℤ) → IsCutter s.cutter → IsBeyond (radius_of s.cutter) s.tip.y s.tip.y (column_y job j) → IsCutBy job j (Some s) old old
beyond_keeps job j s old size beyond = record {
  columns = refl;
  each = λ k within. far_keeps s job.floor (column_x job k) (column_y job j) (top_at old k) size (inr (beyond_far (radius_of s.cutter) s.tip.y (column_y job j) beyond));
}

-- no sample, too
pub none_keeps : (job : JobFields) (j : ℕ) (old : List ℤ) → IsCutBy job j None old old
none_keeps job j old = record { columns = refl; each = λ k within. refl }

-- the tops after the first k samples of a move
abbrev pub top_of_first : JobFields → ℕ → Move → ℕ → ℕ → List ℤ → ℕ → ℤ
top_of_first job j m d k tops i = fold (top_after_sample job.floor (column_x job i) (column_y job j)) (top_at tops i) (map (solid_sample_at (inner_of job) m d) (range_with_len 0 k))

pub record IsCutByFirst (job : JobFields) (j : ℕ) (m : Move) (d k : ℕ) (old new : List ℤ) : Type 0 where
  pub columns : length new ≡ length old
  pub each : (i : ℕ) → i < length old → top_at new i ≡ top_of_first job j m d k old i

pub samples_start : (job : JobFields) (j : ℕ) (m : Move) (d : ℕ) (old : List ℤ) → IsCutByFirst job j m d 0 old old
samples_start job j m d old = record { columns = refl; each = λ i within. refl }

-- one sample more
pub first_and_one : (job : JobFields) (j : ℕ) (m : Move) (d k : ℕ) (old : List ℤ) (i : ℕ)
    → top_of_first job j m d (k + 1) old i ≡ top_after_sample job.floor (column_x job i) (column_y job j) (top_of_first job j m d k old i) (solid_sample_at (inner_of job) m d k)
first_and_one job j m d k old i =
    ap (λ (places : List (Option Placed)). fold (top_after_sample job.floor (column_x job i) (column_y job j)) (top_at old i) places)
    (map-range_with_len_more (solid_sample_at (inner_of job) m d) 0 k k (omega arith))
    ∙ fold-append (top_after_sample job.floor (column_x job i) (column_y job j)) (top_at old i) (map (solid_sample_at (inner_of job) m d) (range_with_len 0 k)) (solid_sample_at (inner_of job) m d k ∷ [])

pub samples_go_on : (job : JobFields) (j : ℕ) (m : Move) (d k : ℕ) (old mid new : List ℤ) → IsCutByFirst job j m d k old mid → IsCutBy job j (solid_sample_at (inner_of job) m d k) mid new
    → IsCutByFirst job j m d (k + 1) old new
samples_go_on job j m d k old mid new so_far cut = record {
  columns = cut.columns ∙ so_far.columns;
  each = λ i within.
      cut.each i (in_mid i within)
      ∙ ap (λ t. top_after_sample job.floor (column_x job i) (column_y job j) t (solid_sample_at (inner_of job) m d k)) (so_far.each i within)
      ∙ sym (first_and_one job j m d k old i);
}
  where
    in_mid : (i : ℕ) → i < length old → i < length mid
    in_mid i h = let e = so_far.columns in omega arith

-- all samples of a move make the tops after the move
pub samples_end : (job : JobFields) (j : ℕ) (m : Move) (d k : ℕ) (old new : List ℤ) → d ≡ split_of job.sample m → k ≡ 2 ^ d + 1 → IsCutByFirst job j m d k old new
    → new ≡ tops_after_move job j 0 m old
samples_end job j m d k old new split parts cut =
    ext_get_or (pos 0) new (tops_after_move job j 0 m old) (cut.columns ∙ sym (length-tops_after_move job j 0 m old)) each
  where
    in_old : (i : ℕ) → i < length new → i < length old
    in_old i h = let e = cut.columns in omega arith

    whole : (i : ℕ) → top_of_first job j m d k old i ≡ top_after_move job (column_x job i) (column_y job j) (top_at old i) m
    whole i = rw (parts, split) refl

    each : (i : ℕ) → i < length new → top_at new i ≡ top_at (tops_after_move job j 0 m old) i
    each i h =
        cut.each i (in_old i h)
        ∙ whole i
        ∙ ap (λ (k : ℕ). top_after_move job (column_x job k) (column_y job j) (top_at old i) m) (omega arith)
        ∙ sym (tops_after_move-at job j 0 m old i (pos 0) (in_old i h))

-- the tops of the uncut stock make a row
pub uncut_is_row : (job : JobFields) (r : RowState) → IsJob job → r.row < row_count job → r.tops ≡ replicate (column_count job) job.top → IsRowOf job r
uncut_is_row job r is_job there uncut = record {
  there = there;
  columns = ap length uncut ∙ length-replicate (column_count job) job.top;
  in_stock = rw uncut (All-replicate (IsFrom job.floor job.top) (column_count job) job.top (record { low = is_job.stock; high = omega (arith, ints) }));
}

at_column : (job : JobFields) (j i : ℕ) (s : Placed) (x y : ℤ) → x ≡ column_x job i → y ≡ column_y job j
    → cut_height_of s.cutter s.tip x y ≡ cut_height_of s.cutter s.tip (column_x job i) (column_y job j)
at_column job j i s x y x_is y_is = ap (λ (t : ℤ). cut_height_of s.cutter s.tip t y) x_is ∙ ap (λ (t : ℤ). cut_height_of s.cutter s.tip (column_x job i) t) y_is

-- the code's steps give the top that the definition gives, where the cutter cuts the column
pub lowered_is : (job : JobFields) (j i : ℕ) (s : Placed) (tops : List ℤ) (x y height top bound low least base high new : ℤ)
    → Some height ≡ cut_height_of s.cutter s.tip x y → x ≡ column_x job i → y ≡ column_y job j
    → top ≡ top_at tops i → bound ≡ height → low ≡ int_min top bound → least ≡ low → base ≡ job.floor → high ≡ int_max least base → new ≡ high
    → new ≡ cut_top job j s tops i
lowered_is job j i s tops x y height top bound low least base high new cut x_is y_is top_is bound_is low_is least_is base_is high_is new_is =
    new_is
    ∙ high_is
    ∙ ap (λ (t : ℤ). int_max t base) (least_is ∙ low_is)
    ∙ ap (λ (t : ℤ). int_max (int_min top bound) t) base_is
    ∙ ap (λ (t : ℤ). int_max (int_min t bound) job.floor) top_is
    ∙ ap (λ (t : ℤ). int_max (int_min (top_at tops i) t) job.floor) bound_is
    ∙ ap (lowered_to job.floor (top_at tops i)) (cut ∙ at_column job j i s x y x_is y_is)

-- and where it doesn't
pub kept_is : (job : JobFields) (j i : ℕ) (s : Placed) (tops : List ℤ) (x y : ℤ)
    → None ≡ cut_height_of s.cutter s.tip x y → x ≡ column_x job i → y ≡ column_y job j
    → tops ≡ slice_set tops i (cut_top job j s tops i)
kept_is job j i s tops x y cut x_is y_is =
    sym (set-get_or tops i (pos 0))
    ∙ ap (λ (cut : Option ℤ). slice_set tops i (lowered_to job.floor (top_at tops i) cut)) (cut ∙ at_column job j i s x y x_is y_is)

-- a top from the floor to the tip's height stays, too
pub free_is : (job : JobFields) (j i : ℕ) (s : Placed) (tops : List ℤ) → IsCutter s.cutter → job.floor ≤ℤ top_at tops i → top_at tops i ≤ℤ s.tip.z
    → tops ≡ slice_set tops i (cut_top job j s tops i)
free_is job j i s tops size low high =
    sym (set-get_or tops i (pos 0))
    ∙ ap (λ (t : ℤ). slice_set tops i t) (free_keeps s job.floor (column_x job i) (column_y job j) (top_at tops i) size low high)

-- so does one from the floor on that isn't strictly inside the cutter
pub clear_is : (job : JobFields) (j i : ℕ) (s : Placed) (tops : List ℤ) (x y top : ℤ) → IsCutter s.cutter → x ≡ column_x job i → y ≡ column_y job j → top ≡ top_at tops i
    → job.floor ≤ℤ top → ¬ Holds s.cutter (pos 1) s.tip (pos 1) (point_at x y top) → tops ≡ slice_set tops i (cut_top job j s tops i)
clear_is job j i s tops x y top size x_is y_is top_is low outside =
    sym (set-get_or tops i (pos 0))
    ∙ ap (λ (t : ℤ). slice_set tops i t) (sym top_is ∙ outside_keeps s job.floor x y top size low outside ∙ at_place)
  where
    at_place : top_after_sample job.floor x y top (Some s) ≡ cut_top job j s tops i
    at_place = rw (x_is, y_is, top_is) refl
