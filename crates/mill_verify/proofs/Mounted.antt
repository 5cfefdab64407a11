-- What is said of a holder, if there is one.
use Rattle.std.specs.Prelude.{◌≡◌, Option, Some, None, IfSome, unwrap_or, refl}
use Rattle.std.proofs.Common.{sym, ◌∙◌, ap, subst}

module _ {A : Type 0} where
  -- what holds of the one that is there
  pub of_some : (P : A → Type 0) (o : Option A) (a : A) → o ≡ Some a → IfSome o P → P a
  of_some P o a there holds = subst (λ (x : Option A). IfSome x P) there holds

  pub for_some : (P : A → Type 0) (o : Option A) (a : A) → o ≡ Some a → P a → IfSome o P
  for_some P o a there holds = subst (λ (x : Option A). IfSome x P) (sym there) holds

  pub each_some : (P Q : A → Type 0) (o : Option A) → ((a : A) → P a → Q a) → IfSome o P → IfSome o Q
  each_some P Q None map none = tt
  each_some P Q (Some a) map holds = map a holds

  pub if_some : (P : A → Type 0) (o : Option A) → ((a : A) → o ≡ Some a → P a) → IfSome o P
  if_some P None holds = tt
  if_some P (Some a) holds = holds a refl

  -- two that are there are one
  pub one_some : (o : Option A) (a b : A) → o ≡ Some a → o ≡ Some b → a ≡ b
  one_some o a b here there = ap (λ (x : Option A). unwrap_or x a) (sym here ∙ there)
