-- A move's last sample frees the cutter at the move's end of every column's top, and no later cut takes that back.
use Rattle.std.specs.Prelude.{◌≡◌, zero, suc, ◌^◌, Bool, true, false, cond, if◌then◌else◌, ℤ, pos, ◌+ℤ◌, ◌-ℤ◌, ◌*ℤ◌, ◌<ℤ◌, ◌≤ℤ◌, int_lt, List, [], ◌∷◌, fold, map, Contains, Option, Some, None}
use Rattle.std.specs.List.{range_with_len}
use Rattle.std.proofs.Common.{inl, inr, ap, refl, sym, subst, arith}
use Rattle.std.proofs.lemmas.Int.{ints}
use Rattle.std.proofs.lemmas.List.Elements.{Contains-append_cases}
use Rattle.std.proofs.lemmas.List.FromFn.{map-range_with_len_more}
use Rattle.std.proofs.lemmas.List.Sums.{fold-append}
use Rattle.mill_base.proofs.Integers.{one-mul-ℤ}
use Rattle.mill_base.specs.Numbers.{square, lesser, greater}
use Rattle.mill_base.specs.Points.{point_at}
use Rattle.mill_base.specs.Contact.{Holds}
use Rattle.mill_base.specs.Sizes.{IsCutter, radius_of, is_within, cut_height_of}
use Rattle.mill_base.specs.declared.points.Pt3.{Pt3}
use Rattle.mill_base.specs.declared.motion.Move.{Move}
use Rattle.mill_base.specs.declared.cutter.Cutter.{Cutter}
use Rattle.mill_base.specs.declared.limits.TheConstants.{MAX_RADIUS}
use Rattle.mill_shape.proofs.CutHeights.{cut_height_is_greatest, cutter_is_wide}
use Rattle.mill_shape.proofs.Holding.{holds_near, holds_over_tip}
use Rattle.mill_shape.proofs.Over.{holds_over}
use Rattle.mill_sweep.proofs.Passing.{radius_least}
use Rattle.mill_sweep.proofs.Vertical.{vertical_passes_point}
use Rattle.mill_base.specs.Solids.{Solid, SolidHolds, higher, lifted, solid_tip}
use Rattle.mill_job.specs.Solids.{inner_of, stock_solid_of}
use Rattle.mill_job.proofs.SolidFacts.{inner_lift, inner_ok, stock_in_inner}
use Rattle.mill_job.specs.Jobs.{IsJob}
use Rattle.mill_sweep.specs.Vertical.{StaysOver}
use Rattle.mill_margin.proofs.Nesting.{inside_is_held}
use Rattle.mill_base.proofs.SolidLemmas.{higher_once}
use Rattle.mill_job.specs.declared.fields.JobFields.{JobFields}
use Rattle.mill_dexel.specs.declared.sample.Placed.{Placed}
use Rattle.mill_dexel.specs.Samples.{placed, raised_sample, samples, solid_sample_at, split_of}
use Rattle.mill_dexel.specs.Tops.{lowered_to, top_after_sample, top_after_move, top_after}
use Rattle.mill_dexel.specs.Laws.{CutAtEnd, PassesAfterCut}
use Rattle.mill_dexel.proofs.Ends.{last_sample}
use Rattle.mill_base.proofs.Extremes.{lesser_left}

lesser_right : (a b : ℤ) → lesser a b ≤ℤ b
lesser_right a b = by (int_lt b a) refl
  where
    by : (t : Bool) → int_lt b a ≡ t → cond t b a ≤ℤ b
    by true e = omega (arith, ints)
    by false e = omega (arith, ints)

-- what is so of two numbers is so of the greater
pub greater_is : (P : ℤ → Type 0) (a b : ℤ) → P a → P b → P (greater a b)
greater_is P a b p q = by (int_lt a b)
  where
    by : (t : Bool) → P (cond t b a)
    by true = q
    by false = p

-- the cutter with its tip at t doesn't hold the column at (x, y) at this height
abbrev pub IsFreeAt : Cutter → Pt3 → ℤ → ℤ → ℤ → Type 0
IsFreeAt cutter t x y h = ¬ Holds cutter (pos 1) t (pos 1) (point_at x y h)

module _ (cutter : Cutter) (t : Pt3) (x y : ℤ) where
  -- so it doesn't at each lower one
  free_lower : (low high : ℤ) → low ≤ℤ high → IsFreeAt cutter t x y high → IsFreeAt cutter t x y low
  free_lower low high order free held =
      free (holds_over cutter (pos 1) t (pos 1) (point_at x y high) x y low (omega (arith, ints)) (omega (arith, ints)) held (sym (one-mul-ℤ x)) (sym (one-mul-ℤ y)) (up low high order))
    where
      up : (a b : ℤ) → a ≤ℤ b → (pos 1 *ℤ a) ≤ℤ b
      up a b h = omega (arith, ints)

  -- nor at the tip's height or under it
  pub free_under_tip : (h : ℤ) → IsCutter cutter → h ≤ℤ t.z → IsFreeAt cutter t x y h
  free_under_tip h size under held =
      no t.z h (holds_over_tip cutter (pos 1) t (pos 1) (point_at x y h) (radius_least cutter size) (omega (arith, ints)) (omega (arith, ints)) held) under
    where
      no : (a b : ℤ) → (pos 1 *ℤ a) <ℤ (pos 1 *ℤ b) → b ≤ℤ a → ⊥
      no a b l k = absurd (omega (arith, ints))

  -- nor anywhere where it has no height to cut to
  free_beside : (h : ℤ) → cut_height_of cutter t x y ≡ None → IsFreeAt cutter t x y h
  free_beside h none held =
      no (square (x -ℤ t.x) +ℤ square (y -ℤ t.y)) (square (radius_of cutter)) (outside (is_within cutter t x y) _ none)
      (rw (one-mul-ℤ x, one-mul-ℤ y, one-mul-ℤ t.x, one-mul-ℤ t.y) at (holds_near cutter (pos 1) t (pos 1) (point_at x y h) held))
    where
      outside : (test : Bool) (v : ℤ) → (if test then Some v else None) ≡ None → test ≡ false
      outside true v e = cc
      outside false v e = refl

      no : (a b : ℤ) → int_lt a b ≡ false → a <ℤ (b *ℤ (pos 1)) → ⊥
      no a b e l = absurd (omega (arith, ints))

  -- a cut by this very cutter frees it of the top, where its tip isn't under the floor
  cut_frees : (floor top : ℤ) → IsCutter cutter → floor ≤ℤ t.z → IsFreeAt cutter t x y (lowered_to floor top (cut_height_of cutter t x y))
  cut_frees floor top size low = by (cut_height_of cutter t x y) refl
    where
      by : (cut : Option ℤ) → cut_height_of cutter t x y ≡ cut → IsFreeAt cutter t x y (lowered_to floor top cut)
      by None e = free_beside top e
      by (Some h) e =
          greater_is (IsFreeAt cutter t x y) floor (lesser top h) (free_under_tip floor size low)
          (free_lower (lesser top h) h (lesser_right top h) (cut_height_is_greatest cutter t x y h (cutter_is_wide cutter MAX_RADIUS (omega (arith, ints)) size) e).free)

-- no cut of a job takes it back
module _ (job : JobFields) (cutter : Cutter) (t : Pt3) (x y : ℤ) (size : IsCutter cutter) (low : job.floor ≤ℤ t.z) where
  lowered_keeps : (top : ℤ) (cut : Option ℤ) → IsFreeAt cutter t x y top → IsFreeAt cutter t x y (lowered_to job.floor top cut)
  lowered_keeps top None free = free
  lowered_keeps top (Some h) free =
      greater_is (IsFreeAt cutter t x y) job.floor (lesser top h) (free_under_tip cutter t x y job.floor size low)
      (free_lower cutter t x y (lesser top h) top (lesser_left top h) free)

  sample_keeps : (top : ℤ) (s : Option Placed) → IsFreeAt cutter t x y top → IsFreeAt cutter t x y (top_after_sample job.floor x y top s)
  sample_keeps top None free = free
  sample_keeps top (Some s) free = lowered_keeps top (cut_height_of s.cutter s.tip x y) free

  samples_keep : (top : ℤ) (places : List (Option Placed)) → IsFreeAt cutter t x y top → IsFreeAt cutter t x y (fold (top_after_sample job.floor x y) top places)
  samples_keep top [] free = free
  samples_keep top (s ∷ places) free = samples_keep (top_after_sample job.floor x y top s) places (sample_keeps top s free)

  moves_keep : (top : ℤ) (moves : List Move) → IsFreeAt cutter t x y top → IsFreeAt cutter t x y (fold (top_after_move job x y) top moves)
  moves_keep top [] free = free
  moves_keep top (m ∷ moves) free = moves_keep (top_after_move job x y top m) moves (samples_keep top (samples (inner_of job) job.sample m) free)

-- where the inner solid's tip is with the tool's at the end of a move
abbrev end_tip : JobFields → Move → Pt3
end_tip job m = solid_tip (inner_of job) (pos 1) m.to

-- a move ends with the sample at its end
module _ (job : JobFields) (m : Move) (x y : ℤ) (size : IsCutter (inner_of job).cutter) (low : job.floor ≤ℤ (end_tip job m).z) where
  move_frees : (top : ℤ) → IsFreeAt (inner_of job).cutter (end_tip job m) x y (top_after_move job x y top m)
  move_frees top =
      let d = split_of job.sample m in
      let before = map (solid_sample_at (inner_of job) m d) (range_with_len 0 (2 ^ d)) in
      subst (λ (places : List (Option Placed)). IsFreeAt (inner_of job).cutter (end_tip job m) x y (fold (top_after_sample job.floor x y) top places))
      (sym (map-range_with_len_more (solid_sample_at (inner_of job) m d) 0 (2 ^ d) (2 ^ d) (omega arith)))
      (subst (IsFreeAt (inner_of job).cutter (end_tip job m) x y)
      (sym (fold-append (top_after_sample job.floor x y) top before (solid_sample_at (inner_of job) m d (2 ^ d) ∷ [])))
      (at_last (fold (top_after_sample job.floor x y) top before) (solid_sample_at (inner_of job) m d (2 ^ d)) (ap (raised_sample (inner_of job).lift) (last_sample (inner_of job).cutter m d))))
    where
      at_last : (between : ℤ) (s : Option Placed) → s ≡ Some (placed (inner_of job).cutter (end_tip job m))
          → IsFreeAt (inner_of job).cutter (end_tip job m) x y (top_after_sample job.floor x y between s)
      at_last between s e =
          subst (λ (o : Option Placed). IsFreeAt (inner_of job).cutter (end_tip job m) x y (top_after_sample job.floor x y between o)) (sym e)
          (cut_frees (inner_of job).cutter (end_tip job m) x y job.floor between size low)

  moves_free : (top : ℤ) (moves : List Move) → Contains moves m → IsFreeAt (inner_of job).cutter (end_tip job m) x y (fold (top_after_move job x y) top moves)
  moves_free top [] (i, less, e) = absurd (omega arith)
  moves_free top (n ∷ moves) member = elim (Contains-append_cases (n ∷ []) moves m member) [
    | inl first ↦ moves_keep job (inner_of job).cutter (end_tip job m) x y size low (top_after_move job x y top n) moves
        (subst (λ (o : Move). IsFreeAt (inner_of job).cutter (end_tip job m) x y (top_after_move job x y top o)) (only n first) (move_frees top))
    | inr later ↦ moves_free (top_after_move job x y top n) moves later
  ]
    where
      only : (n : Move) → Contains (n ∷ []) m → m ≡ n
      only n (zero, less, e) = sym e
      only n (suc i, less, e) = absurd (omega arith)

-- the inner solid's tip is at or over the tool's
over_floor_too : (job : JobFields) (m : Move) → IsJob job → job.floor ≤ℤ m.to.z → job.floor ≤ℤ (end_tip job m).z
over_floor_too job m ok low = subst (λ (z : ℤ). job.floor ≤ℤ z) (sym (higher_once m.to.z (inner_of job).lift)) (up job.floor m.to.z (inner_of job).lift low (inner_lift job ok).low)
  where
    up : (f z l : ℤ) → f ≤ℤ z → (pos 0) ≤ℤ l → f ≤ℤ (z +ℤ l)
    up f z l h k = omega (h, k, arith, ints)

pub cut_at_end : CutAtEnd
cut_at_end job moves m x y ok member low = moves_free job m x y (inner_ok job ok).cutter_ok (over_floor_too job m ok low) job.top moves member

-- so the stock solid, which lies in the inner one, doesn't hold it either
pub stock_solid_free : (job : JobFields) (moves : List Move) (m : Move) (x y : ℤ) → IsJob job → Contains moves m → job.floor ≤ℤ m.to.z
    → ¬ SolidHolds (stock_solid_of job) (pos 1) m.to (pos 1) (point_at x y (top_after job x y moves))
stock_solid_free job moves m x y ok member low held =
    cut_at_end job moves m x y ok member low
    (inside_is_held (stock_solid_of job) (inner_of job) (pos 1) (pos 1) m.to (point_at x y (top_after job x y moves)) (inner_ok job ok).cutter_ok (stock_in_inner job ok) (omega (arith, ints)) (omega (arith, ints)) held)

-- a solid's tip stays over where it is with the tool's at a place, if the tool's stays over the place
pub solid_stays_over : (solid : Solid) (p : Pt3) (m : Move) → StaysOver p m → StaysOver (solid_tip solid (pos 1) p) (lifted solid m)
solid_stays_over solid p m over = record {
  from = record { x_same = over.from.x_same; y_same = over.from.y_same; z_least = both over.from.z_least };
  to = record { x_same = over.to.x_same; y_same = over.to.y_same; z_least = both over.to.z_least };
}
  where
    both : {a b : ℤ} → a ≤ℤ b → higher (pos 1) a solid.lift ≤ℤ higher (pos 1) b solid.lift
    both {a} {b} h = rw (higher_once a solid.lift, higher_once b solid.lift) (more a b solid.lift h)
      where
        more : (a b l : ℤ) → a ≤ℤ b → (a +ℤ l) ≤ℤ (b +ℤ l)
        more a b l h = omega (h, arith, ints)

pub passes_after_cut : PassesAfterCut
passes_after_cut job moves m next x y ok member low straight over =
    vertical_passes_point (stock_solid_of job).cutter (lifted (stock_solid_of job) next) (point_at x y (top_after job x y moves)) (solid_tip (stock_solid_of job) (pos 1) m.to)
    straight (solid_stays_over (stock_solid_of job) m.to next over) (stock_solid_free job moves m x y ok member low)
