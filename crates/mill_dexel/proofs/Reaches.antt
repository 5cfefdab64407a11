-- Columns at least the cutter's radius away from a sample keep their tops.
use Rattle.std.proofs.Common.{◌≡◌, ◌⊎◌, inl, inr, refl, sym, ap, ◌∙◌, [], ◌∷◌, w32, true, false, Bool, subst, ℕ, ◌*◌, ◌<◌, ◌≤◌, FitsSigned, arith}
use Rattle.std.specs.Prelude.{ℤ, pos, ◌+ℤ◌, ◌-ℤ◌, ◌*ℤ◌, ◌<ℤ◌, ◌≤ℤ◌, negsuc, nat_abs, int_lt, cond, Option, Some, None, IfSome, if◌then◌else◌}
use Rattle.std.proofs.lemmas.Int.{ints}
use Rattle.std.proofs.Math.IntN.{pos-*ℤ-pos}
use Rattle.mill_base.specs.Numbers.{square}
use Rattle.mill_base.specs.Contact.{Holds}
use Rattle.mill_base.specs.Points.{point_at}
use Rattle.mill_base.specs.Sizes.{IsCutter, radius_of, is_within, surface, cut_height_of}
use Rattle.mill_base.specs.Solids.{Solid}
use Rattle.mill_base.specs.declared.points.Pt3.{Pt3}
use Rattle.mill_base.specs.declared.cutter.Cutter.{Cutter}
use Rattle.mill_base.specs.declared.cutter.Cutter.TheVariants.{Flat, Ball, Cone}
use Rattle.mill_base.proofs.Exit.{split_lt}
use Rattle.mill_base.proofs.Machine.{Read, Lit, Sum, exact, sum_fits, stored}
use Rattle.mill_base.specs.declared.limits.TheConstants.{MAX_RADIUS}
use Rattle.mill_base.proofs.Integers.{sq-ℤ}
use Rattle.mill_shape.proofs.CutHeights.{cut_height_is_greatest, cutter_is_wide}
use Rattle.mill_shape.proofs.Holding.{holds_over_tip}
use Rattle.mill_job.specs.Jobs.{IsJob}
use Rattle.mill_job.specs.Solids.{holder_solid_of, inner_of, stock_solid_of}
use Rattle.mill_job.proofs.SolidFacts.{held_wider, stock_in_inner}
use Rattle.mill_job.specs.declared.fields.JobFields.{JobFields}
use Rattle.mill_sweep.specs.Reach.{margin_of}
use Rattle.mill_sweep.proofs.Passing.{radius_least}
use Rattle.mill_dexel.specs.declared.sample.Placed.{Placed}
use Rattle.mill_dexel.specs.Tops.{top_after_sample, lowered_to}
use Rattle.mill_dexel.specs.inner.Cuts.{IsReachAlong, IsReachBy, IsBeyond, IsHalfChord}
use Rattle.mill_dexel.specs.inner.Passing.{IsAway}
use Rattle.mill_dexel.proofs.FarCerts.{far_under, far_over}

-- two numbers are at least r apart
abbrev pub AreFar : ℤ → ℤ → ℤ → Type 0
AreFar r x t = ((x +ℤ r) ≤ℤ t) ⊎ ((t +ℤ r) ≤ℤ x)

-- the square of a distance of at least r is at least the square of r
far_square : (r x t : ℤ) → (pos 1) ≤ℤ r → AreFar r x t → square r ≤ℤ square (x -ℤ t)
far_square r x t least (inl under) = far_under x t r (omega (arith, ints)) under
far_square r x t least (inr over) = far_over x t r (omega (arith, ints)) over

-- where one of two squares reaches a third, so does their sum
sum_reaches : (a b s : ℤ) → (pos 0) ≤ℤ a → (pos 0) ≤ℤ b → (s ≤ℤ a) ⊎ (s ≤ℤ b) → s ≤ℤ (a +ℤ b)
sum_reaches a b s a_ok b_ok (inl h) = omega (arith, ints)
sum_reaches a b s a_ok b_ok (inr h) = omega (arith, ints)

not_less : (a s : ℤ) → s ≤ℤ a → int_lt a s ≡ false
not_less a s h = by (int_lt a s) refl
  where
    by : (t : Bool) → int_lt a s ≡ t → t ≡ false
    by true e = absurd (omega (arith, ints))
    by false e = refl

none_of : (test : Bool) (v : ℤ) → test ≡ false → (if test then Some v else None) ≡ None
none_of true v e = cc
none_of false v e = refl

-- the tip is at least the radius away from the column in x or in y
abbrev pub IsFar : Cutter → Pt3 → ℤ → ℤ → Type 0
IsFar cutter tip x y = AreFar (radius_of cutter) x tip.x ⊎ AreFar (radius_of cutter) y tip.y

-- a cutter far from a column doesn't cut it
far_is_none : (cutter : Cutter) (tip : Pt3) (x y : ℤ) → (pos 1) ≤ℤ radius_of cutter → IsFar cutter tip x y → cut_height_of cutter tip x y ≡ None
far_is_none cutter tip x y least far =
    let dx = x -ℤ tip.x in
    let dy = y -ℤ tip.y in
    let r = square (radius_of cutter) in
    none_of (is_within cutter tip x y) (tip.z +ℤ surface cutter (square dx +ℤ square dy)) (not_less (square dx +ℤ square dy) r (sum_reaches (square dx) (square dy) r (sq-ℤ dx) (sq-ℤ dy) (squares far)))
  where
    squares : IsFar cutter tip x y → (square (radius_of cutter) ≤ℤ square (x -ℤ tip.x)) ⊎ (square (radius_of cutter) ≤ℤ square (y -ℤ tip.y))
    squares (inl h) = inl (far_square (radius_of cutter) x tip.x least h)
    squares (inr h) = inr (far_square (radius_of cutter) y tip.y least h)

-- and so leaves its top as it is
pub far_keeps : (s : Placed) (floor x y top : ℤ) → IsCutter s.cutter → IsFar s.cutter s.tip x y → top ≡ top_after_sample floor x y top (Some s)
far_keeps s floor x y top size far =
    sym (ap (λ (cut : Option ℤ). lowered_to floor top cut) (far_is_none s.cutter s.tip x y (radius_least s.cutter size) far))

-- so does one whose row crosses its circle, but beside the column
beside_is_none : (cutter : Cutter) (tip : Pt3) (x y chord : ℤ) → IsHalfChord (radius_of cutter) (y -ℤ tip.y) chord → AreFar chord x tip.x → cut_height_of cutter tip x y ≡ None
beside_is_none cutter tip x y chord half far =
    none_of (is_within cutter tip x y) (tip.z +ℤ surface cutter (square (x -ℤ tip.x) +ℤ square (y -ℤ tip.y)))
    (not_less (square (x -ℤ tip.x) +ℤ square (y -ℤ tip.y)) (square (radius_of cutter)) (over (square chord) (square (radius_of cutter)) (square (x -ℤ tip.x)) (square (y -ℤ tip.y)) (far_square chord x tip.x half.least far) half.wide))
  where
    over : (c r a b : ℤ) → c ≤ℤ a → r ≤ℤ (c +ℤ b) → r ≤ℤ (a +ℤ b)
    over c r a b h k = omega (arith, ints)

pub beside_keeps : (s : Placed) (floor x y top chord : ℤ) → IsHalfChord (radius_of s.cutter) (y -ℤ s.tip.y) chord → AreFar chord x s.tip.x → top ≡ top_after_sample floor x y top (Some s)
beside_keeps s floor x y top chord half far = sym (ap (λ (cut : Option ℤ). lowered_to floor top cut) (beside_is_none s.cutter s.tip x y chord half far))

-- the same of numbers that are stored as they are
pub beyond_same : (r a b y s c d z : ℤ) → r ≡ s → a ≡ c → b ≡ d → y ≡ z → IsBeyond r a b y → IsBeyond s c d z
beyond_same r a b y s c d z er ea eb ey (inl h) = let l = h.first in let k = h.second in inl (record { first = omega (arith, ints); second = omega (arith, ints) })
beyond_same r a b y s c d z er ea eb ey (inr h) = let l = h.first in let k = h.second in inr (record { first = omega (arith, ints); second = omega (arith, ints) })

-- what is beyond a distance is beyond a lesser one, as what is beyond the distance at which a cutter passes is beyond its radius
nearer : (q r a b y : ℤ) → q ≤ℤ r → IsBeyond r a b y → IsBeyond q a b y
nearer q r a b y less (inl h) = let l = h.first in let k = h.second in inl (record { first = omega (arith, ints); second = omega (arith, ints) })
nearer q r a b y less (inr h) = let l = h.first in let k = h.second in inr (record { first = omega (arith, ints); second = omega (arith, ints) })

pub past_margin : (cutter : Cutter) (a b y : ℤ) → IsBeyond (margin_of cutter) a b y → IsBeyond (radius_of cutter) a b y
past_margin cutter a b y beyond = nearer (radius_of cutter) (margin_of cutter) a b y (less (radius_of cutter)) beyond
  where
    less : (r : ℤ) → r ≤ℤ (r +ℤ pos 2)
    less r = omega (arith, ints)

-- a row as far away as the holder, which is wider than the cutter, or as the cutter where there is no holder, is far enough away
module _ (job : JobFields) (a b y : ℤ) where
  abbrev HolderIsBeyond : Option Solid → Type 0
  HolderIsBeyond o = IfSome o (λ holder. IsBeyond (margin_of holder.cutter) a b y)

  pub away_bare : holder_solid_of job ≡ None → IsBeyond (margin_of (inner_of job).cutter) a b y → IsAway job a b y
  away_bare none beyond = record { cut = beyond; holder = subst HolderIsBeyond (sym none) tt }

  pub away_held : (holder : Solid) → IsJob job → holder_solid_of job ≡ Some holder → IsBeyond (margin_of holder.cutter) a b y → IsAway job a b y
  away_held holder is_job there beyond = record {
    cut = nearer (margin_of (inner_of job).cutter) (margin_of holder.cutter) a b y
        (wide (radius_of (inner_of job).cutter) (radius_of holder.cutter) (subst (λ (o : Option Solid). IfSome o (λ h. radius_of (inner_of job).cutter <ℤ radius_of h.cutter)) there (held_wider job is_job))) beyond;
    holder = subst HolderIsBeyond (sym there) beyond;
  }
    where
      wide : (q r : ℤ) → q <ℤ r → (q +ℤ pos 2) ≤ℤ (r +ℤ pos 2)
      wide q r h = omega (h, arith, ints)

-- what is far from the inner solid is far from the stock solid, which is no wider
pub stock_beyond : (job : JobFields) (a b y : ℤ) → IsJob job → IsBeyond (margin_of (inner_of job).cutter) a b y → IsBeyond (margin_of (stock_solid_of job).cutter) a b y
stock_beyond job a b y ok beyond = nearer (margin_of (stock_solid_of job).cutter) (margin_of (inner_of job).cutter) a b y (both (radius_of (stock_solid_of job).cutter) (radius_of (inner_of job).cutter) (stock_in_inner job ok).narrow) beyond
  where
    both : (q r : ℤ) → q ≤ℤ r → (q +ℤ pos 2) ≤ℤ (r +ℤ pos 2)
    both q r h = omega (h, arith, ints)

pub away_same : (job : JobFields) (a b y c d z : ℤ) → a ≡ c → b ≡ d → y ≡ z → IsAway job a b y → IsAway job c d z
away_same job a b y c d z ea eb ey away = rw (← ea, ← eb, ← ey) away

pub half_same : (r a c s b d : ℤ) → r ≡ s → a ≡ b → c ≡ d → IsHalfChord r a c → IsHalfChord s b d
half_same r a c s b d er ea ec half = rw (← er, ← ea, ← ec) half

pub reach_same : (job : JobFields) (r a b s c d : ℤ) (first «end» : ℕ) → r ≡ s → a ≡ c → b ≡ d → IsReachBy job r a b first «end» → IsReachBy job s c d first «end»
reach_same job r a b s c d first «end» er ea eb reach = record {
  within = reach.within;
  under = λ i before. let h = reach.under i before in let l = h.first in let k = h.second in record { first = omega (arith, ints); second = omega (arith, ints) };
  over = λ i behind within. let h = reach.over i behind within in let l = h.first in let k = h.second in record { first = omega (arith, ints); second = omega (arith, ints) };
}

pub along_same : (a p : ℤ) (n : ℕ) (r f t b q : ℤ) (m : ℕ) (s g u : ℤ) (first «end» : ℕ) → a ≡ b → p ≡ q → n ≡ m → r ≡ s → f ≡ g → t ≡ u
    → IsReachAlong a p n r f t first «end» → IsReachAlong b q m s g u first «end»
along_same a p n r f t b q m s g u first «end» ea ep en er ef et reach = rw (← ea, ← ep, ← en, ← er, ← ef, ← et) reach

-- a row or a column beyond a distance from the tip is that far from it
pub beyond_far : (r t x : ℤ) → IsBeyond r t t x → AreFar r x t
beyond_far r t x (inl under) = inl under.first
beyond_far r t x (inr over) = inr over.first

-- a cutter cuts no column under its tip
cut_is_over : (s : Placed) (x y h : ℤ) → IsCutter s.cutter → cut_height_of s.cutter s.tip x y ≡ Some h → s.tip.z ≤ℤ h
cut_is_over s x y h size cut = elim (split_lt h s.tip.z) [
  | inr over ↦ over
  | inl under ↦ absurd (
      let held = (cut_height_is_greatest s.cutter s.tip x y h (cutter_is_wide s.cutter MAX_RADIUS (omega (arith, ints)) size) cut).greatest s.tip.z under in
      let over = holds_over_tip s.cutter (pos 1) s.tip (pos 1) (point_at x y s.tip.z) (radius_least s.cutter size) (omega (arith, ints)) (omega (arith, ints)) held in
      omega (arith, ints))
]

pub kept_over : (floor top : ℤ) (cut : Option ℤ) → floor ≤ℤ top → ((h : ℤ) → cut ≡ Some h → top ≤ℤ h) → top ≡ lowered_to floor top cut
kept_over floor top None low over = refl
kept_over floor top (Some h) low over = let high = over h refl in rw (not_less h top high) (by (int_lt floor top) refl)
  where
    by : (t : Bool) → int_lt floor top ≡ t → top ≡ cond t top floor
    by true e = refl
    by false e = omega (arith, ints)

-- so a top from the floor to the tip's height stays as it is
pub free_keeps : (s : Placed) (floor x y top : ℤ) → IsCutter s.cutter → floor ≤ℤ top → top ≤ℤ s.tip.z → top ≡ top_after_sample floor x y top (Some s)
free_keeps s floor x y top size low high =
    kept_over floor top (cut_height_of s.cutter s.tip x y) low (λ h cut. over h (cut_is_over s x y h size cut))
  where
    over : (h : ℤ) → s.tip.z ≤ℤ h → top ≤ℤ h
    over h k = omega (arith, ints)

-- a job's cutter has a radius up to 10,000
pub radius_most : (cutter : Cutter) → IsCutter cutter → radius_of cutter ≤ℤ MAX_RADIUS
radius_most (Flat r) h = h.within
radius_most (Ball r) h = h.within
radius_most (Cone r a b) h = h.0.within

radius_small : (cutter : Cutter) (r : ℤ) → IsCutter cutter → r ≡ radius_of cutter → nat_abs r ≤ 10000
radius_small cutter r size e = rw e (small (radius_of cutter) (radius_least cutter size) (radius_most cutter size))
  where
    small : (q : ℤ) → (pos 1) ≤ℤ q → q ≤ℤ MAX_RADIUS → nat_abs q ≤ 10000
    small q least most = omega (arith, ints)

-- the distance beyond which a move passes, as the code has it
pub passes_beyond : (cutter : Cutter) (r : ℤ) → IsCutter cutter → r ≡ radius_of cutter → stored w32 (stored w32 r +ℤ pos 2) ≡ margin_of cutter
passes_beyond cutter r size e = exact (r ∷ []) (10000 ∷ []) (Sum w32 (Read w32 0) (Lit (pos 2))) (radius_small cutter r size e, tt) refl ∙ ap (λ (s : ℤ). s +ℤ pos 2) e

pub beyond_fits : (cutter : Cutter) (r : ℤ) → IsCutter cutter → r ≡ radius_of cutter → FitsSigned w32 (stored w32 r +ℤ pos 2)
beyond_fits cutter r size e = sum_fits w32 (r ∷ []) (10000 ∷ []) (Read w32 0) (Lit (pos 2)) (radius_small cutter r size e, tt) refl

-- a column that stands at most s after the first one, and one that stands more than s after it
pub column_inside : (i s p : ℕ) (x0 x pitch : ℤ) → (pos 0) ≤ℤ pitch → p ≡ nat_abs pitch → (x0 +ℤ pos s) ≤ℤ x → i * p ≤ s → (x0 +ℤ pos i *ℤ pitch) ≤ℤ x
column_inside i s p x0 x (pos q) pitch_ok e place h = let near : i * q ≤ s = rw (← e) h in rw (pos-*ℤ-pos i q) (omega (arith, ints))
column_inside i s p x0 x (negsuc q) pitch_ok e place h = absurd (omega (arith, ints))

pub column_outside : (i s p : ℕ) (x0 x pitch : ℤ) → (pos 0) ≤ℤ pitch → p ≡ nat_abs pitch → x ≤ℤ (x0 +ℤ pos s) → s < i * p → x <ℤ (x0 +ℤ pos i *ℤ pitch)
column_outside i s p x0 x (pos q) pitch_ok e place h = let far : s < i * q = rw (← e) h in rw (pos-*ℤ-pos i q) (omega (arith, ints))
column_outside i s p x0 x (negsuc q) pitch_ok e place h = absurd (omega (arith, ints))

-- no column stands before the first one
pub column_from_first : (i : ℕ) (x0 x pitch : ℤ) → (pos 0) ≤ℤ pitch → x <ℤ x0 → x <ℤ (x0 +ℤ pos i *ℤ pitch)
column_from_first i x0 x (pos q) pitch_ok h = rw (pos-*ℤ-pos i q) (omega (arith, ints))
column_from_first i x0 x (negsuc q) pitch_ok h = absurd (omega (arith, ints))

-- a top from the floor on that isn't strictly inside the cutter stays as it is
pub outside_keeps : (s : Placed) (floor x y top : ℤ) → IsCutter s.cutter → floor ≤ℤ top → ¬ Holds s.cutter (pos 1) s.tip (pos 1) (point_at x y top) → top ≡ top_after_sample floor x y top (Some s)
outside_keeps s floor x y top size low outside =
    kept_over floor top (cut_height_of s.cutter s.tip x y) low (λ h cut. at_most h cut (split_lt h top))
  where
    at_most : (h : ℤ) → cut_height_of s.cutter s.tip x y ≡ Some h → (h <ℤ top) ⊎ (top ≤ℤ h) → top ≤ℤ h
    at_most h cut (inl under) = absurd (outside ((cut_height_is_greatest s.cutter s.tip x y h (cutter_is_wide s.cutter MAX_RADIUS (omega (arith, ints)) size) cut).greatest top under))
    at_most h cut (inr over) = over
