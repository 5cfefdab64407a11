-- Feeds straight down by pecks: how many they are, how deep each goes, and that they lead on from each other.
use Rattle.std.specs.Prelude.{◌≡◌, ◌⊎◌, ℕ, zero, suc, ◌+◌, ◌-◌, ◌*◌, ◌/◌, ◌<◌, ◌≤◌, Bool, true, false, ◌&&◌, if◌then◌else◌, ℤ, pos, ◌+ℤ◌, ◌-ℤ◌, ◌<ℤ◌, ◌≤ℤ◌, nat_abs, int_lt, [], ◌∷◌}
use Rattle.std.proofs.Common.{inl, inr, refl, subst, arith}
use Rattle.std.proofs.Math.Nat.{div-mul-le_self, lt-div-mul-add, suc-mul}
use Rattle.std.proofs.lemmas.Int.{ints}
use Rattle.std.proofs.lemmas.List.Elements.{Contains-append_right}
use Rattle.mill_base.specs.declared.points.Pt3.{Pt3}
use Rattle.mill_links.specs.Links.{at_height, feed_to, peck_count, pecks}
use Rattle.mill_links.specs.Safety.{Connect, IsEndOf}

-- from the height z so many pecks of this depth end at low or over it, and from the last one it is no deeper than that, where the depth is limited
abbrev pub Fit : ℕ → ℤ → ℤ → ℤ → Type 0
Fit zero depth z low = (low ≤ℤ z) × ((pos 0) <ℤ depth → z ≤ℤ (low +ℤ depth))
Fit (suc n) depth z low = (low ≤ℤ (z -ℤ depth)) × Fit n depth (z -ℤ depth) low

fit_so : (n d h : ℕ) (z low : ℤ) → z ≡ low +ℤ pos h → n * d ≤ h → (0 < d → h ≤ n * d + d) → Fit n (pos d) z low
fit_so zero d h z low e some all = (over z low h e, λ limited. under z low h d e (all (positive d limited)))
  where
    positive : (d : ℕ) → (pos 0) <ℤ pos d → 0 < d
    positive d limited = omega (limited, arith, ints)

    over : (z low : ℤ) (h : ℕ) → z ≡ low +ℤ pos h → low ≤ℤ z
    over z low h e = omega (e, arith, ints)

    under : (z low : ℤ) (h d : ℕ) → z ≡ low +ℤ pos h → h ≤ 0 * d + d → z ≤ℤ (low +ℤ pos d)
    under z low h d e few = omega (e, few, arith, ints)
fit_so (suc n) d h z low e some all =
    let fits : n * d + d ≤ h = subst (λ m. m ≤ h) (suc-mul n d) some in (
      over z low h d (n * d) e fits,
      fit_so n d (h - d) (z -ℤ pos d) low (lower z low h d (n * d) e fits) (fewer h d (n * d) fits)
          (λ limited. less h d (n * d) fits (subst (λ m. h ≤ m + d) (suc-mul n d) (all limited))),
    )
  where
    over : (z low : ℤ) (h d rest : ℕ) → z ≡ low +ℤ pos h → rest + d ≤ h → low ≤ℤ (z -ℤ pos d)
    over z low h d rest e fits = omega (e, fits, arith, ints)

    lower : (z low : ℤ) (h d rest : ℕ) → z ≡ low +ℤ pos h → rest + d ≤ h → z -ℤ pos d ≡ low +ℤ pos (h - d)
    lower z low h d rest e fits = omega (e, fits, arith, ints)

    fewer : (h d rest : ℕ) → rest + d ≤ h → rest ≤ h - d
    fewer h d rest fits = omega (fits, arith)

    less : (h d rest : ℕ) → rest + d ≤ h → h ≤ rest + d + d → h - d ≤ rest + d
    less h d rest fits few = omega (fits, few, arith)

-- the pecks of the way down from the top to a place fit
pub pecks_fit : (depth top low : ℤ) → (pos 0) ≤ℤ depth → low ≤ℤ top → Fit (peck_count depth (top -ℤ low)) depth top low
pecks_fit depth top low least under =
    subst (λ d. Fit (peck_count depth (top -ℤ low)) d top low) (magnitude depth least)
    (by (int_lt (pos 0) depth && int_lt (pos 0) (top -ℤ low)) refl)
  where
    magnitude : (d : ℤ) → (pos 0) ≤ℤ d → pos (nat_abs d) ≡ d
    magnitude d least = omega (least, arith, ints)

    apart : (a b : ℤ) → b ≤ℤ a → a ≡ b +ℤ pos (nat_abs (a -ℤ b))
    apart a b h = omega (h, arith, ints)

    none_left : (a b : ℤ) → (int_lt (pos 0) a && int_lt (pos 0) b) ≡ false → 0 < nat_abs a → (pos 0) ≤ℤ a → (pos 0) ≤ℤ b → nat_abs b ≤ 0 * nat_abs a + nat_abs a
    none_left a b e some p q = grind (e, some, p, q, arith, ints)

    not_under : (a b : ℤ) → b ≤ℤ a → (pos 0) ≤ℤ (a -ℤ b)
    not_under a b h = omega (h, arith, ints)

    low_enough : (h p : ℕ) → p ≤ h - 1 → p ≤ h
    low_enough h p few = omega (few, arith)

    high_enough : (h p d : ℕ) → h - 1 < p + d → h ≤ p + d
    high_enough h p d less = omega (less, arith)

    by : (t : Bool) → (int_lt (pos 0) depth && int_lt (pos 0) (top -ℤ low)) ≡ t
        → Fit (if t then (nat_abs (top -ℤ low) - 1) / nat_abs depth else 0) (pos (nat_abs depth)) top low
    by true e =
        let h : ℕ = nat_abs (top -ℤ low) in
        let d : ℕ = nat_abs depth in
        fit_so ((h - 1) / d) d h top low (apart top low under) (low_enough h ((h - 1) / d * d) (div-mul-le_self (h - 1) d))
        (λ some. high_enough h ((h - 1) / d * d) d (lt-div-mul-add some))
    by false e =
        fit_so 0 (nat_abs depth) (nat_abs (top -ℤ low)) top low (apart top low under) (omega arith)
        (λ some. none_left depth (top -ℤ low) e some least (not_under top low under))

-- they lead from their start to the place
pub pecks_connect : (n : ℕ) (depth : ℤ) (at : Pt3) (start z : ℤ) → Connect (at_height at start) (pecks n depth at start z) at
pecks_connect zero depth at start z = (refl, refl)
pecks_connect (suc n) depth at start z = (refl, pecks_connect n depth at (z -ℤ depth) (z -ℤ depth))

pub pecks_end : (n : ℕ) (depth : ℤ) (at : Pt3) (start z : ℤ) → IsEndOf (pecks n depth at start z) at
pecks_end zero depth at start z = record { move = feed_to (at_height at start) at; member = (0, omega arith, refl); here = refl }
pecks_end (suc n) depth at start z =
    let end : IsEndOf (pecks n depth at (z -ℤ depth) (z -ℤ depth)) at = pecks_end n depth at (z -ℤ depth) (z -ℤ depth) in
    record {
      move = end.move;
      member = Contains-append_right (feed_to (at_height at start) (at_height at (z -ℤ depth)) ∷ []) (pecks n depth at (z -ℤ depth) (z -ℤ depth)) end.move end.member;
      here = end.here;
    }

-- where the depth isn't limited there are none, nor where the place isn't under the start
pub no_pecks : (depth height : ℤ) → (depth ≡ pos 0) ⊎ (height ≤ℤ pos 0) → peck_count depth height ≡ 0
no_pecks depth height none = by (int_lt (pos 0) depth && int_lt (pos 0) height) refl
  where
    clash : (a b : ℤ) → (int_lt (pos 0) a && int_lt (pos 0) b) ≡ true → (a ≡ pos 0) ⊎ (b ≤ℤ pos 0) → ⊥
    clash a b e (inl h) = grind (e, h, arith, ints)
    clash a b e (inr h) = grind (e, h, arith, ints)

    by : (t : Bool) → (int_lt (pos 0) depth && int_lt (pos 0) height) ≡ t → (if t then (nat_abs height - 1) / nat_abs depth else 0) ≡ 0
    by true e = absurd (clash depth height e none)
    by false e = refl

pub some_pecks : (depth height : ℤ) → (pos 0) <ℤ depth → (pos 0) <ℤ height → peck_count depth height ≡ (nat_abs height - 1) / nat_abs depth
some_pecks depth height limited under = by (int_lt (pos 0) depth && int_lt (pos 0) height) refl
  where
    clash : (a b : ℤ) → (int_lt (pos 0) a && int_lt (pos 0) b) ≡ false → (pos 0) <ℤ a → (pos 0) <ℤ b → ⊥
    clash a b e p q = grind (e, p, q, arith, ints)

    by : (t : Bool) → (int_lt (pos 0) depth && int_lt (pos 0) height) ≡ t
        → (if t then (nat_abs height - 1) / nat_abs depth else 0) ≡ (nat_abs height - 1) / nat_abs depth
    by true e = refl
    by false e = absurd (clash depth height e limited under)
