-- The lesser and the greater of numbers, and the stretch between two coordinates that is made wider and cut off.
use Rattle.std.proofs.Common.{◌≡◌, ◌≤◌, ◌*◌, ◌∙◌, FitsSigned, refl, ap, w32, arith}
use Rattle.std.specs.Prelude.{nat_abs}
use Rattle.std.specs.Int.{int_min, int_max}
use Rattle.std.proofs.lemmas.Int.{ints, to_z-of_z}
use lib.IntN.{ℤ, pos, ◌+ℤ◌, ◌-ℤ◌}
use lib.Signed.{◌≤ℤ◌}
use Rattle.mill_base.proofs.Machine.{stored, kept}
use Rattle.mill_base.specs.Numbers.{Within, lesser, greater}
use Rattle.mill_base.specs.declared.limits.TheConstants.{MAX_COORDINATE}
use Rattle.mill_cells.proofs.BoxLemmas.{least, most, least_is, most_is}
use Rattle.mill_sweep.specs.Reach.{low_side_of, high_side_of}

pub least_of : (a b c : ℤ) → (lesser a (lesser b c) ≤ℤ a) × (lesser a (lesser b c) ≤ℤ b) × (lesser a (lesser b c) ≤ℤ c)
least_of a b c = grind (arith, ints)

pub most_of : (a b c : ℤ) → (a ≤ℤ greater a (greater b c)) × (b ≤ℤ greater a (greater b c)) × (c ≤ℤ greater a (greater b c))
most_of a b c = grind (arith, ints)

pub ends_of : (f t : ℤ) → (lesser f t ≤ℤ f) × (lesser f t ≤ℤ t) × (f ≤ℤ greater f t) × (t ≤ℤ greater f t)
ends_of f t = grind (arith, ints)

-- the greater of two is under what both are under, and the lesser over what both are over
pub joined : (a b n : ℤ) → a ≤ℤ n → b ≤ℤ n → greater a b ≤ℤ n
joined a b n p q = grind (p, q, arith, ints)

pub split : (a b n : ℤ) → n ≤ℤ a → n ≤ℤ b → n ≤ℤ lesser a b
split a b n p q = grind (p, q, arith, ints)

pub at_least : (a b : ℤ) → b ≤ℤ greater a b
at_least a b = grind (arith, ints)

-- wider by r, a stretch still begins before it ends, also where it is cut off
pub wide : (l h e r : ℤ) → l ≤ℤ e → e ≤ℤ h → (pos 0) ≤ℤ r → nat_abs e ≤ 524287
    → ((l -ℤ r) ≤ℤ (h +ℤ r)) × ((l -ℤ r) ≤ℤ pos 524287) × ((pos 0 -ℤ pos 524287) ≤ℤ (h +ℤ r)) × ((pos 0 -ℤ pos 524287) ≤ℤ pos 524287)
wide l h e r p q s u = (omega (p, q, s, arith, ints), omega (p, s, u, arith, ints), omega (q, s, u, arith, ints), omega (arith, ints))

-- the begin is no further out than a coordinate
pub low_within : (f t r : ℤ) → Within MAX_COORDINATE f → (pos 0) ≤ℤ r → Within MAX_COORDINATE (low_side_of f t r)
low_within f t r f_ok some =
    let n = ends_of f t in
    let w = wide (lesser f t) (greater f t) f r n.0 n.2 some f_ok.within in
    record { within = between (low_side_of f t r) (at_least (lesser f t -ℤ r) (pos 0 -ℤ pos 524287)) (joined (lesser f t -ℤ r) (pos 0 -ℤ pos 524287) (pos 524287) w.1 w.3) }
  where
    between : (z : ℤ) → (pos 0 -ℤ pos 524287) ≤ℤ z → z ≤ℤ pos 524287 → nat_abs z ≤ 524287
    between z p q = omega (p, q, arith, ints)

-- what is computed is what is said
module _ (n m f t r : ℤ) (fm : FitsSigned w32 m) (fn : FitsSigned w32 n) (ff : FitsSigned w32 f) (ft : FitsSigned w32 t) (fr : FitsSigned w32 r) (f_ok : Within MAX_COORDINATE f) (t_ok : Within MAX_COORDINATE t) (r_ok : Within MAX_COORDINATE r) where
  pub low_stored : m ≡ int_min (stored w32 f) (stored w32 t) → n ≡ int_max (stored w32 (stored w32 m -ℤ stored w32 r)) (stored w32 (pos 0 -ℤ pos MAX_COORDINATE)) → stored w32 n ≡ low_side_of f t r
  low_stored e g =
      let d : stored w32 (stored w32 m -ℤ stored w32 r) ≡ lesser f t -ℤ r = ap (stored w32) (parts (stored w32 m) (stored w32 r) (lesser f t) r (least m f t fm ff ft e) (to_z-of_z w32 r fr)) ∙ kept w32 (lesser f t -ℤ r) (2 * MAX_COORDINATE) (small f t r f_ok.within t_ok.within r_ok.within) refl in
      to_z-of_z w32 n fn ∙ (g ∙ (ap (λ (z : ℤ). int_max z (stored w32 (pos 0 -ℤ pos MAX_COORDINATE))) d ∙ most_is (lesser f t -ℤ r) (pos 0 -ℤ pos MAX_COORDINATE)))
    where
      parts : (a b c d : ℤ) → a ≡ c → b ≡ d → (a -ℤ b) ≡ (c -ℤ d)
      parts a b c d p q = cc

      small : (f t r : ℤ) → nat_abs f ≤ 524287 → nat_abs t ≤ 524287 → nat_abs r ≤ 524287 → nat_abs (lesser f t -ℤ r) ≤ 1048574
      small f t r a b c = grind (a, b, c, arith, ints)

  pub high_stored : m ≡ int_max (stored w32 f) (stored w32 t) → n ≡ int_min (stored w32 (stored w32 m +ℤ stored w32 r)) (stored w32 (pos MAX_COORDINATE)) → stored w32 n ≡ high_side_of f t r
  high_stored e g =
      let d : stored w32 (stored w32 m +ℤ stored w32 r) ≡ greater f t +ℤ r = ap (stored w32) (parts (stored w32 m) (stored w32 r) (greater f t) r (most m f t fm ff ft e) (to_z-of_z w32 r fr)) ∙ kept w32 (greater f t +ℤ r) (2 * MAX_COORDINATE) (small f t r f_ok.within t_ok.within r_ok.within) refl in
      to_z-of_z w32 n fn ∙ (g ∙ (ap (λ (z : ℤ). int_min z (stored w32 (pos MAX_COORDINATE))) d ∙ least_is (greater f t +ℤ r) (pos MAX_COORDINATE)))
    where
      parts : (a b c d : ℤ) → a ≡ c → b ≡ d → (a +ℤ b) ≡ (c +ℤ d)
      parts a b c d p q = cc

      small : (f t r : ℤ) → nat_abs f ≤ 524287 → nat_abs t ≤ 524287 → nat_abs r ≤ 524287 → nat_abs (greater f t +ℤ r) ≤ 1048574
      small f t r a b c = grind (a, b, c, arith, ints)
