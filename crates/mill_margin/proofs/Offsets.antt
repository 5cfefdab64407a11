-- How far a cutter's tip is shifted for a margin: enough for the slope of a cone, and at most 17 times the margin.
use Rattle.std.specs.Prelude.{◌≡◌, ℕ, zero, suc, ◌+◌, ◌-◌, ◌*◌, ◌^◌, ◌<◌, ◌≤◌, nat_abs, ℤ, pos, negsuc, ◌+ℤ◌, ◌*ℤ◌, ◌≤ℤ◌}
use Rattle.std.specs.Int.{div_ceil}
use Rattle.std.proofs.Common.{inl, inr, [], ◌∷◌, ap, refl, sym, subst, ◌∙◌, arith}
use Rattle.std.proofs.Math.Nat.{mul-le-mul}
use Rattle.std.proofs.lemmas.Bool.{cases_lt}
use Rattle.std.proofs.lemmas.Grind.{div_ceil_times}
use Rattle.std.proofs.lemmas.Int.{ints}
use Rattle.mill_base.proofs.Divisions.{ceil_div_high, ceil_div_is}
use Rattle.mill_base.proofs.Range.{bound_is}
use Rattle.mill_base.proofs.Ring.{Var, Add, Mul}
use Rattle.mill_base.proofs.Squares.{sq_mono}
use Rattle.mill_base.specs.Numbers.{square, ceil_div, ceil_root_of}
use Rattle.mill_base.specs.Sizes.{IsCutter, IsSlope}
use Rattle.mill_base.specs.declared.cutter.Cutter.{Cutter}
use Rattle.mill_base.specs.declared.cutter.Cutter.TheVariants.{Flat, Ball, Cone}
use Rattle.mill_base.specs.declared.limits.TheConstants.{MAX_COORDINATE}
use Rattle.mill_shape.proofs.RootLemmas.{ceil_root_is, ceil_root_agrees}
use Rattle.mill_shape.specs.inner.Roots.{IsCeilRoot}
use Rattle.mill_margin.specs.Margins.{IsMargin, cone_offset_of, offset_of}
use Rattle.mill_margin.specs.declared.margin.TheConstants.{MAX_MARGIN}
use Rattle.mill_margin.proofs.MarginCerts.{offset_most, slope_square}

-- a margin is as small as the laws ask
pub margin_small : (s : ℤ) → s ≤ℤ pos MAX_MARGIN → s ≤ℤ pos MAX_COORDINATE
margin_small s h = omega (arith, ints)

-- the square of a cone's margin along its slant
abbrev pub slant_square : ℤ → ℤ → ℤ → ℤ
slant_square a b s = square s *ℤ (square a +ℤ square b)

-- it is so small that its root is what the definition computes
pub slant_small : (a b s : ℤ) → (pos 0) ≤ℤ s → s ≤ℤ pos MAX_COORDINATE → IsSlope a b → nat_abs (slant_square a b s) < 2 ^ 64
slant_small a b s least most slope =
    let rise = slope.rise in
    let rise_most = slope.rise_most in
    let along = slope.run in
    let along_most = slope.run_most in
    let bound : nat_abs (slant_square a b s) ≤ 5497537167380000 = bound_is (s ∷ a ∷ b ∷ []) (524287 ∷ 100 ∷ 100 ∷ []) (Mul (Mul (Var 0) (Var 0)) (Add (Mul (Var 1) (Var 1)) (Mul (Var 2) (Var 2))))
    (omega (arith, ints), (omega (arith, ints), (omega (arith, ints), tt))) in
    omega arith

over_magnitude : (z : ℤ) (r : ℕ) → nat_abs z ≤ r * r → z ≤ℤ (pos r *ℤ pos r)
over_magnitude z r h = omega (arith, ints)

not_negative : (x n : ℕ) → (pos 0) ≤ℤ ceil_div (pos x) n
not_negative zero n = omega (arith, ints)
not_negative (suc x) n = omega (arith, ints)

-- over the run the offset rises at least as far as the slant is long
pub offset_reaches : (a b s : ℤ) → (pos 0) ≤ℤ s → s ≤ℤ pos MAX_COORDINATE → IsSlope a b → (square s *ℤ (square a +ℤ square b)) ≤ℤ square (b *ℤ cone_offset_of a b s)
unfolding cone_offset_of
offset_reaches a b s least most slope = by b slope.run (ceil_root_of (nat_abs (slant_square a b s))) (ceil_root_is (nat_abs (slant_square a b s)) (slant_small a b s least most slope)).reaches
  where
    by : (c : ℤ) → (pos 1) ≤ℤ c → (r : ℕ) → nat_abs (slant_square a b s) ≤ r * r → slant_square a b s ≤ℤ square (c *ℤ ceil_div (pos r) (nat_abs c))
    by (pos c) h r root =
        let under = over_magnitude (slant_square a b s) r root in
        let up = sq_mono (pos r) (pos c *ℤ ceil_div (pos r) c) (omega (arith, ints)) (ceil_div_high (pos r) c (omega (arith, ints))) in
        at_most _ _ _ under up
      where
        at_most : (x y z : ℤ) → x ≤ℤ y → y ≤ℤ z → x ≤ℤ z
        at_most x y z g h = omega (arith, ints)
    by (negsuc c) h r root = absurd (omega (arith, ints))

pub offset_least : (a b s : ℤ) → (pos 0) ≤ℤ s → s ≤ℤ pos MAX_COORDINATE → IsSlope a b → s ≤ℤ cone_offset_of a b s
unfolding cone_offset_of
offset_least a b s least most slope =
    let along = slope.run in
    offset_most a b s (cone_offset_of a b s) (omega (arith, ints)) least (not_negative (ceil_root_of (nat_abs (slant_square a b s))) (nat_abs b)) (offset_reaches a b s least most slope)

-- what the code computes without signs is the offset
pub offset_is : (a b s : ℤ) (root d : ℕ) → IsMargin s → IsSlope a b → IsCeilRoot (nat_abs s * nat_abs s * (nat_abs a * nat_abs a + nat_abs b * nat_abs b)) root → d ≡ div_ceil root (nat_abs b)
    → pos d ≡ cone_offset_of a b s
unfolding cone_offset_of
offset_is (pos a) (pos b) (pos s) root d margin slope is_root e =
    let along = slope.run in
    let agrees = ceil_root_agrees (s * s * (a * a + b * b)) root (slant_small (pos a) (pos b) (pos s) margin.least (margin_small (pos s) margin.most) slope) is_root in
    ap pos (e ∙ ap (λ r. div_ceil r b) agrees) ∙ sym (ceil_div_is (ceil_root_of (s * s * (a * a + b * b))) b (omega (arith, ints)))
offset_is (pos a) (pos b) (negsuc s) root d margin slope is_root e = absurd (let least = margin.least in omega (arith, ints))
offset_is (pos a) (negsuc b) s root d margin slope is_root e = absurd (let least = slope.run in omega (arith, ints))
offset_is (negsuc a) b s root d margin slope is_root e = absurd (let least = slope.rise in omega (arith, ints))

-- a root is at most each number whose square isn't less
root_under : (n r q : ℕ) → IsCeilRoot n r → n ≤ q * q → r ≤ q
root_under n r q is_root h = elim (cases_lt q r) [
  | inr more ↦ more
  | inl less ↦ absurd (
      let under = is_root.least (omega arith) in
      let before : q ≤ r - 1 = omega arith in
      let square = mul-le-mul before before in
      omega arith)
]

-- a slope of at most 16 has a slant of less than 17 times the run
pub offset_under : (a b s : ℤ) (root d : ℕ) → IsMargin s → IsSlope a b → IsCeilRoot (nat_abs s * nat_abs s * (nat_abs a * nat_abs a + nat_abs b * nat_abs b)) root → d ≡ div_ceil root (nat_abs b)
    → d ≤ 17 * nat_abs s
offset_under (pos a) (pos b) (pos s) root d margin slope is_root e =
    let along = slope.run in
    let some : 0 < b = omega (arith, ints) in
    let flat : (s * s) * (a * a + b * b) ≤ (17 * (b * s)) * (17 * (b * s)) = natural (slope_square (pos a) (pos b) (pos s) (omega (arith, ints)) margin.least slope.steepest) in
    let short = root_under (s * s * (a * a + b * b)) root (17 * (b * s)) is_root flat in
    let times : d * b < root + b = subst (λ t. t * b < root + b) (sym e) (div_ceil_times root b some).1 in
    elim (cases_lt d (17 * s + 1)) [
      | inl less ↦ omega arith
      | inr more ↦ absurd (let much : (17 * s + 1) * b ≤ d * b = mul-le-mul more (same b) in omega arith)
    ]
  where
    natural : {x y : ℕ} → pos x ≤ℤ pos y → x ≤ y
    natural h = omega (arith, ints)

    same : (n : ℕ) → n ≤ n
    same n = omega arith
offset_under (pos a) (pos b) (negsuc s) root d margin slope is_root e = absurd (let least = margin.least in omega (arith, ints))
offset_under (pos a) (negsuc b) s root d margin slope is_root e = absurd (let least = slope.run in omega (arith, ints))
offset_under (negsuc a) b s root d margin slope is_root e = absurd (let least = slope.rise in omega (arith, ints))

-- so an offset is from its margin to 17 times as much
at_most : (a b s : ℤ) → IsMargin s → IsSlope a b → cone_offset_of a b s ≤ℤ (pos 17 *ℤ s)
at_most (pos a) (pos b) (pos s) margin slope =
    let n : ℕ = s * s * (a * a + b * b) in
    let root = ceil_root_is n (slant_small (pos a) (pos b) (pos s) margin.least (margin_small (pos s) margin.most) slope) in
    let under = offset_under (pos a) (pos b) (pos s) (ceil_root_of n) (div_ceil (ceil_root_of n) b) margin slope root refl in
    subst (λ (o : ℤ). o ≤ℤ (pos 17 *ℤ pos s)) (offset_is (pos a) (pos b) (pos s) (ceil_root_of n) (div_ceil (ceil_root_of n) b) margin slope root refl) (integer (div_ceil (ceil_root_of n) b) s under)
  where
    integer : (d m : ℕ) → d ≤ 17 * m → pos d ≤ℤ (pos 17 *ℤ pos m)
    integer d m h = omega (arith, ints)
at_most (pos a) (pos b) (negsuc s) margin slope = absurd (let least = margin.least in omega (arith, ints))
at_most (pos a) (negsuc b) s margin slope = absurd (let least = slope.run in omega (arith, ints))
at_most (negsuc a) b s margin slope = absurd (let least = slope.rise in omega (arith, ints))

pub offset_bounds : (cutter : Cutter) (s : ℤ) → IsCutter cutter → IsMargin s → (s ≤ℤ offset_of cutter s) × (offset_of cutter s ≤ℤ (pos 17 *ℤ s))
offset_bounds (Flat r) s ok margin = let least = margin.least in (omega (arith, ints), omega (arith, ints))
offset_bounds (Ball r) s ok margin = let least = margin.least in (omega (arith, ints), omega (arith, ints))
offset_bounds (Cone r a b) s ok margin = (offset_least a b s margin.least (margin_small s margin.most) ok.1, at_most a b s margin ok.1)
