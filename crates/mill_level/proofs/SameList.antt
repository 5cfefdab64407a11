-- Two lists in order that have the same elements, each once, are equal.
use Rattle.std.proofs.Common.{◌≡◌, inl, inr, ℕ, suc, ◌+◌, Bool, false, List, [], ◌∷◌, get_or, IsSortedBy, refl, sym, ◌∙◌, ap, subst, arith}
use Rattle.std.specs.Cmp.{IsStrictWeakOrder}
use Rattle.mill_level.proofs.Members.{IsIn, IsDistinct}

module _ {X : Type 0} (before : X → X → Bool) where
  -- none of the elements comes before one that stands before it
  abbrev pub Ascends : List X → Type 0
  Ascends [] = Unit {0}
  Ascends (x ∷ xs) = ((y : X) → IsIn y xs → before y x ≡ false) × Ascends xs

  sorted_rest : (x : X) (xs : List X) → IsSortedBy before (x ∷ xs) → IsSortedBy before xs
  sorted_rest x xs h k d low less =
      let on : suc k + 1 ≡ suc (k + 1) = omega arith in
      subst (λ (n : ℕ). before (get_or (x ∷ xs) n d) (get_or xs k d) ≡ false) on (h (suc k) d (omega arith) (omega arith))

  pub ascends_from_sorted : IsStrictWeakOrder before → (xs : List X) → IsSortedBy before xs → Ascends xs
  ascends_from_sorted o [] h = tt
  ascends_from_sorted o (x ∷ []) h = (λ y g. absurd g, tt)
  ascends_from_sorted o (x ∷ y ∷ ys) h =
      let rest = ascends_from_sorted o (y ∷ ys) (sorted_rest x (y ∷ ys) h) in
      let first : before y x ≡ false = h 0 x (omega arith) (omega arith) in
      (λ z g. elim g [ inl e ↦ subst (λ (w : X). before w x ≡ false) e first | inr k ↦ o.chain z y x (rest.0 z k) first ], rest)

  -- after the same first element the rest has the same elements
  same_rest : (x y : X) (xs ys : List X) → x ≡ y → (¬ IsIn x xs) → ((z : X) → IsIn z (x ∷ xs) → IsIn z (y ∷ ys)) → (z : X) → IsIn z xs → IsIn z ys
  same_rest x y xs ys e once to z h =
      elim (to z (inr h)) [ inl d ↦ absurd (once (subst (λ (w : X). IsIn w xs) (sym (e ∙ d)) h)) | inr g ↦ g ]

  pub same_list : (xs ys : List X) → Ascends xs → Ascends ys → IsDistinct xs → IsDistinct ys → ((x : X) → IsIn x xs → IsIn x ys) → ((y : X) → IsIn y ys → IsIn y xs)
      → ((x y : X) → IsIn x xs → IsIn y ys → before x y ≡ false → before y x ≡ false → x ≡ y) → xs ≡ ys
  same_list [] [] up rise once single to back tie = refl
  same_list [] (y ∷ ys) up rise once single to back tie = absurd (back y (inl refl))
  same_list (x ∷ xs) [] up rise once single to back tie = absurd (to x (inl refl))
  same_list (x ∷ xs) (y ∷ ys) up rise once single to back tie =
      let e : x ≡ y = elim (to x (inl refl)) [
        | inl d ↦ sym d
        | inr h ↦ elim (back y (inl refl)) [ inl d ↦ d | inr g ↦ tie x y (inl refl) (inl refl) (rise.0 x h) (up.0 y g) ]
      ] in
      ap (λ (w : X). w ∷ xs) e ∙ ap (λ (ws : List X). y ∷ ws) (same_list xs ys up.1 rise.1 once.1 single.1
      (same_rest x y xs ys e once.0 to) (same_rest y x ys xs (sym e) single.0 back) (λ v w h g. tie v w (inr h) (inr g)))
