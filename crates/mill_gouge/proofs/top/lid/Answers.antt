use Rattle.std.specs.Prelude.{◌≡◌, ℕ, ◌<◌, ℤ, pos, List, length, Option, Some, None, IsNone, IfSome, refl}
use Rattle.std.specs.Option.{unwrap_or}
use Rattle.std.proofs.Common.{FitsSigned, rules, sym, ◌∙◌, subst, w32, arith}
use Rattle.std.proofs.lemmas.Int.{to_z-of_z}
use Rattle.mill_base.specs.declared.points.Tri.{Tri}
use Rattle.mill_part.specs.Tops.{IsTop}
use Rattle.mill_base.specs.Covers.{IsUnder}
use Rattle.mill_gouge.proofs.top.lid.Goals as goal

nothing : (k n : ℕ) → k < n → n ≡ 0 → ⊥
nothing k n h e = omega (h, e, arith)

lid_of : (part : List Tri) (top : Option ℤ) (other : ℤ) → (IsNone top → length part ≡ 0) → IfSome top (IsTop part) → IsUnder part (unwrap_or top other)
lid_of part None other none some = λ tri m. absurd (nothing m.0 (length part) m.1 (none refl))
lid_of part (Some top) other none some = some.under

pub returns : goal.returns
returns c =
    let part = c.args.part.now in
    let fits : FitsSigned w32 c.unwrap_or.result = search rules in
    subst (λ (z : ℤ). IsUnder part z) (sym (to_z-of_z w32 c.unwrap_or.result fits ∙ c.unwrap_or.ensures)) (lid_of part c.top.result (pos 0) c.top.ensures.none.0 c.top.ensures.greatest)
