-- An array that is written place after place.
use Rattle.std.proofs.Common.{◌≡◌, ℕ, suc, ◌+◌, ◌<◌, ◌≤◌, inl, inr, ap, ◌∙◌, sym, subst, subst₂, length, get_or, set, arith}
use Rattle.std.specs.Prelude.{List, [], ◌∷◌}
use Rattle.std.specs.List.{AllZip}
use Rattle.std.proofs.lemmas.Bool.{cases_eq}
use Rattle.std.proofs.lemmas.Grind.{get_or-set_at}
use Rattle.std.proofs.lemmas.List.{get_or-set_other, get_or_default, length-set}

-- there is a result for each of the given things, and those before n are what R asks of them
pub record AreWrittenTo {A B : Type 0} (R : A → B → Type 0) (given : List A) (results : List B) (n : ℕ) : Type 0 where
  pub count : length results ≡ length given
  pub each : (k : ℕ) (d : A) (e : B) → k < n → R (get_or given k d) (get_or results k e)

-- one result more, which stored is as a machine keeps it
pub written_more : {A B : Type 0} (R : A → B → Type 0) (given : List A) (results : List B) (n : ℕ) (d : A) (result stored : B) → stored ≡ result → n < length given → AreWrittenTo R given results n → R (get_or given n d) result → AreWrittenTo R given (set results n stored) (n + 1)
written_more R given results n d result stored same_result inside so_far here =
    let kept : R (get_or given n d) stored = subst (λ one. R (get_or given n d) one) (sym same_result) here in
    record {
      count = length-set results n stored ∙ so_far.count;
      each = λ k p e before. elim (cases_eq k n) [
        | inl same ↦ subst₂ (λ thing one. R thing one) (get_or_default given n d p inside ∙ ap (λ i. get_or given i p) (sym same)) (sym (get_or-set_at results n k stored e same (omega (arith, inside, so_far.count)))) kept
        | inr other ↦ subst (λ one. R (get_or given k p) one) (sym (get_or-set_other results n k stored e other)) (so_far.each k p e (omega (arith, before, other)))
      ];
    }

-- two lists, member by member
zip_from_each : {A B : Type 0} (R : A → B → Type 0) (xs : List A) (ys : List B) → length ys ≡ length xs → ((k : ℕ) (d : A) (e : B) → k < length xs → R (get_or xs k d) (get_or ys k e)) → AllZip R xs ys
zip_from_each R [] [] same each = tt
zip_from_each R [] (y ∷ ys) same each = absurd (omega (arith, same))
zip_from_each R (x ∷ xs) [] same each = absurd (omega (arith, same))
zip_from_each R (x ∷ xs) (y ∷ ys) same each = (each 0 x y (omega arith), zip_from_each R xs ys (omega (arith, same)) (λ k d e there. each (suc k) d e (omega (arith, there))))

pub written_end : {A B : Type 0} (R : A → B → Type 0) (given : List A) (results : List B) (n : ℕ) → length given ≤ n → AreWrittenTo R given results n → AllZip R given results
written_end R given results n over so_far = zip_from_each R given results so_far.count (λ k d e there. so_far.each k d e (omega (arith, over, there)))
