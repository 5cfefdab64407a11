-- A list by the numbers of its items.
use Rattle.std.proofs.Common.{◌≡◌, ℕ, ◌+◌, ◌<◌, List, [], ◌∷◌, length, map, get_or, ◌∙◌, subst, arith}
use Rattle.std.specs.List.{All, AllZip, range_with_len}
use Rattle.std.proofs.lemmas.List.{same_lists, get_or_default}
use Rattle.std.proofs.lemmas.List.Elements.{All-cons, All-nil}
use Rattle.std.proofs.lemmas.List.FromFn.{length-map-range_with_len, get_or-map-range_with_len}

-- a list is that of its own items by number
listed : {X : Type 0} (xs : List X) (d : X) → map (λ k. get_or xs k d) (range_with_len 0 (length xs)) ≡ xs
listed xs d = same_lists _ _ (length-map-range_with_len (λ k. get_or xs k d) 0 (length xs)) (λ k e h.
    let inside : k < length xs = subst (λ n. k < n) (length-map-range_with_len (λ k. get_or xs k d) 0 (length xs)) h in
    get_or-map-range_with_len (λ k. get_or xs k d) 0 (length xs) k k e inside (plain k) ∙ get_or_default xs k d e inside)
  where
    plain : (n : ℕ) → 0 + n ≡ n
    plain n = omega arith

mapped : {A B C : Type 0} (R : B → C → Type 0) (f : A → B) (xs : List A) (ys : List C) → AllZip (λ x y. R (f x) y) xs ys → AllZip R (map f xs) ys
mapped R f [] [] h = h
mapped R f [] (y ∷ ys) h = h
mapped R f (x ∷ xs) [] h = h
mapped R f (x ∷ xs) (y ∷ ys) h = (h.0, mapped R f xs ys h.1)

-- what holds of a list's items by number holds of them
pub AllZip-listed : {X Y : Type 0} (R : X → Y → Type 0) (xs : List X) (d : X) (ys : List Y) → AllZip (λ k y. R (get_or xs k d) y) (range_with_len 0 (length xs)) ys → AllZip R xs ys
AllZip-listed R xs d ys h = subst (λ zs. AllZip R zs ys) (listed xs d) (mapped R (λ k. get_or xs k d) (range_with_len 0 (length xs)) ys h)

module _ {X Y : Type 0} (R : X → Y → Type 0) (P : Y → Type 0) (turn : (x : X) (y : Y) → R x y → P y) where
  -- what each pair of two lists shows of its second item holds of all of the second list's
  pub AllZip-second : (xs : List X) (ys : List Y) → AllZip R xs ys → All P ys
  AllZip-second [] [] h = All-nil P
  AllZip-second [] (y ∷ ys) h = absurd h
  AllZip-second (x ∷ xs) [] h = absurd h
  AllZip-second (x ∷ xs) (y ∷ ys) h = All-cons P y ys (turn x y h.0) (AllZip-second xs ys h.1)
