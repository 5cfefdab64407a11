use Rattle.std.proofs.Common.{◌≡◌, ◌⊎◌, ◌↔◌, inl, inr, IsTrue, Bool, false}
use mir.Syntax.{w32}
use Rattle.std.proofs.lemmas.Int.{to_z-of_z}
use Rattle.mill_part.proofs.column.are_apart.Goals as goal

-- where the first of two tests failed, the second decides
second_decides : {P Q : Type 0} (r s : Bool) → r ≡ false → (IsTrue r ↔ P) → (IsTrue s ↔ Q) → IsTrue s ↔ (P ⊎ Q)
second_decides r s failed p q = (λ t. inr (q.0 t), λ e. elim e [ inl l ↦ let t = p.1 l in absurd (cc) | inr k ↦ q.1 k ])

pub returns : goal.returns
returns c =
    let a = to_z-of_z w32 c.args.a c.ranges.a in
    let b = to_z-of_z w32 c.args.b c.ranges.b in
    let d = to_z-of_z w32 c.args.c c.ranges.c in
    let at = to_z-of_z w32 c.args.at c.ranges.at in
    second_decides c.are_over.result c.are_under.result c.if-are_over.false (rw (a, b, d, at) at c.are_over.ensures) (rw (a, b, d, at) at c.are_under.ensures)
