-- What is said of a text where it is told.
use Rattle.std.proofs.Common.{◌≡◌, ℕ, Bool, true, false, List, Option, Some, None, refl}
use Rattle.std.specs.Prelude.{IsSome, IfSome}

both : (b : Bool) → b ≡ false → b ≡ true → ⊥
both b e h = cc

none_told : (let o : Option (List ℕ) = None in IsSome o) → ⊥
none_told s = both false refl s

-- where the text is told, two things that are said of it are said of one text
pub told_both : (P Q : List ℕ → Type 0) (o : Option (List ℕ)) → IsSome o → IfSome o P → IfSome o Q → (text : List ℕ) × P text × Q text
told_both P Q None s p q = absurd (none_told s)
told_both P Q (Some text) s p q = (text, p, q)
