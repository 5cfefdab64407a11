-- The parts of a text round a mark.
use Rattle.std.specs.Prelude.{◌≡◌, ℕ, List, Option, None, Some, MatchOption}
use Rattle.std.specs.Borrow.{Bor}
use Rattle.std.specs.Option.{unwrap_or}
use Rattle.std.specs.Str.Pattern.{FindsText, SplitsAroundMatch}
use Rattle.std.proofs.Common.{◌∙◌, ap, inl, inr, subst, sym}
use Rattle.mill_tables.specs.Rows.{CutsAt}

-- `split_once` at a mark, and what stands in its place where there is none
pub cut_of : (mark text : List ℕ) (found : Option (Bor (List ℕ) × Bor (List ℕ)))
    (before behind : Bor (List ℕ)) (parts : Bor (List ℕ) × Bor (List ℕ))
    → MatchOption found (FindsText mark text None)
    (λ x. SplitsAroundMatch (FindsText mark) text x.0.now x.1.now)
    → parts ≡ unwrap_or found (before, behind) → before.now ≡ text
    → CutsAt mark behind.now text parts.0.now parts.1.now
cut_of mark text None before behind parts cases e same =
    inr (cases, ap (λ x. x.0.now) e ∙ same, ap (λ x. x.1.now) e)
cut_of mark text (Some x) before behind parts cases e same =
    inl (subst (λ y. SplitsAroundMatch (FindsText mark) text y.0.now y.1.now) (sym e) cases)
