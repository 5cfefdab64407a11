use Rattle.std.proofs.Common.{[], ◌∷◌, refl, subst}
use Rattle.std.specs.String.{string_bytes}
use Rattle.mill_tables.specs.Rows.{Replaced}
use Rattle.mill_tables.proofs.words.with_bytes.Goals as goal

pub returns : goal.returns
returns c =
    let made = c.in_ok-text-2.ensures.ok in
    let last = c.in_ok-replace.ensures.ok in
    let returns = string_bytes c.in_ok-text-2.text in
    let bytes = string_bytes c.in_ok-replace.field-0 in
    let second = subst (λ lines. Replaced (92 ∷ 114 ∷ []) (13 ∷ []) lines returns)
    c.deref.ensures (made.0, _, refl, made.1) in
    let third = subst (λ lines. Replaced (92 ∷ 116 ∷ []) (9 ∷ []) lines bytes)
    c.deref-2.ensures (last.0, _, refl, last.1) in
    (string_bytes c.in_ok-text.text, returns, c.in_ok-text.ensures, second, third)
