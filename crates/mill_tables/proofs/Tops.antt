-- Parts that aren't over a height.
use Rattle.std.specs.Prelude.{◌≡◌, ℕ, ℤ, ◌≤ℤ◌, ◌<◌, List, length, Option, None, Some, IfSome, IsNone}
use Rattle.std.specs.Prelude.{true, refl}
use Rattle.std.proofs.Common.{sym, subst, arith}
use Rattle.std.proofs.lemmas.Int.{ints}
use Rattle.std.specs.Option.{unwrap_or}
use lib.Signed.{le_z}
use Rattle.mill_base.specs.Covers.{IsUnder}
use Rattle.mill_base.specs.declared.points.Tri.{Tri}
use Rattle.mill_part.specs.Tops.{IsTop}

-- the part's top, or any height where the part has no triangle
top_or : (part : List Tri) (top : Option ℤ) (other : ℤ) → (IsNone top → length part ≡ 0)
    → IfSome top (IsTop part) → IsUnder part (unwrap_or top other)
top_or part None other none some = λ tri m. absurd (nothing m.0 (length part) m.1 (none refl))
  where
    nothing : (k n : ℕ) → k < n → n ≡ 0 → ⊥
    nothing k n h e = omega (h, e, arith)
top_or part (Some top) other none some = some.under

-- where the part's top isn't over a height, no corner is
pub under_top : (part : List Tri) (top : Option ℤ) (most t : ℤ) → (IsNone top → length part ≡ 0)
    → IfSome top (IsTop part) → t ≡ unwrap_or top most → le_z t most ≡ true → IsUnder part most
under_top part top most t none some e h tri m =
    let under = subst (IsUnder part) (sym e) (top_or part top most none some) tri m in
    (less under.0, less under.1, less under.2)
  where
    less : {a : ℤ} → a ≤ℤ t → a ≤ℤ most
    less k = omega (k, h, arith, ints)
