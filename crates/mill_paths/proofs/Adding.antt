-- A list to which a loop adds what each item of another gives.
use Rattle.std.proofs.Common.{◌≡◌, ℕ, ◌+◌, ◌<◌, ◌≤◌, List, [], ◌∷◌, ◌++◌, length, take, drop, get_or, refl, sym, ap, ◌∙◌, subst, append_assoc, arith}
use Rattle.std.specs.List.{flat_map, range_with_len}
use Rattle.std.proofs.lemmas.Grind.{flat_map-append}
use Rattle.std.proofs.lemmas.List.{flat_map_more, take_all, take_more, take-append-drop}
use Rattle.std.proofs.lemmas.List.FromFn.{length-range_with_len, get_or-range_with_len}
use Rattle.mill_links.specs.declared.visit.Visit.{Visit}
use Rattle.mill_paths.specs.declared.fault.PathFault.{PathFault}
use Rattle.mill_paths.specs.Limits.{IsListFault}
use Rattle.mill_paths.proofs.Changes.{fault_stays}

-- it goes on by what the item of number k gives
pub adds_more : {X A : Type 0} (f : X → List A) (xs : List X) (d : X) (k : ℕ) (start old new : List A) → k < length xs
    → old ≡ start ++ flat_map f (take k xs) → new ≡ old ++ f (get_or xs k d) → new ≡ start ++ flat_map f (take (k + 1) xs)
adds_more f xs d k start old new inside so_far more =
    more ∙ ap (λ zs. zs ++ f (get_or xs k d)) so_far ∙ flat_map_more f start (take k xs) (get_or xs k d) ∙ ap (λ zs. start ++ flat_map f zs) (sym (take_more xs k d inside))

-- at last it has what all items give
pub adds_all : {X A : Type 0} (f : X → List A) (xs : List X) (k : ℕ) (start old : List A) → length xs ≤ k
    → old ≡ start ++ flat_map f (take k xs) → old ≡ start ++ flat_map f xs
adds_all f xs k start old past so_far = so_far ∙ ap (λ zs. start ++ flat_map f zs) (take_all k xs past)

-- a list that is too long with what the item of number k gives is so with what all give
pub adds_fault : {X : Type 0} (f : X → List Visit) (xs : List X) (d : X) (k : ℕ) (start old : List Visit) (fault : PathFault) → k < length xs
    → old ≡ start ++ flat_map f (take k xs) → IsListFault (old ++ f (get_or xs k d)) fault → IsListFault (start ++ flat_map f xs) fault
adds_fault f xs d k start old fault inside so_far h =
    let before : List Visit = flat_map f (take (k + 1) xs) in
    let after : List Visit = flat_map f (drop (k + 1) xs) in
    let upto : old ++ f (get_or xs k d) ≡ start ++ before = adds_more f xs d k start old (old ++ f (get_or xs k d)) inside so_far refl in
    let whole : before ++ after ≡ flat_map f xs = sym (flat_map-append f (take (k + 1) xs) (drop (k + 1) xs)) ∙ ap (λ zs. flat_map f zs) (take-append-drop (k + 1) xs) in
    subst (λ zs. IsListFault zs fault) (append_assoc start before after ∙ ap (λ zs. start ++ zs) whole)
    (fault_stays (start ++ before) after fault (subst (λ zs. IsListFault zs fault) upto h))

-- what the items of lists give, list by list
pub flat_map-nested : {X Y A : Type 0} (f : Y → List A) (g : X → List Y) (xs : List X) → flat_map f (flat_map g xs) ≡ flat_map (λ x. flat_map f (g x)) xs
flat_map-nested f g [] = refl
flat_map-nested f g (x ∷ xs) = flat_map-append f (g x) (flat_map g xs) ∙ ap (λ zs. flat_map f (g x) ++ zs) (flat_map-nested f g xs)

counted : (n k : ℕ) → k < n → get_or (range_with_len 0 n) k 0 ≡ k
counted n k inside = get_or-range_with_len 0 n k 0 inside ∙ plain k
  where
    plain : (n : ℕ) → 0 + n ≡ n
    plain n = omega arith

-- the same over the numbers under n
pub counts_more : {A : Type 0} (f : ℕ → List A) (n k : ℕ) (start old new : List A) → k < n
    → old ≡ start ++ flat_map f (take k (range_with_len 0 n)) → new ≡ old ++ f k → new ≡ start ++ flat_map f (take (k + 1) (range_with_len 0 n))
counts_more f n k start old new inside so_far more =
    adds_more f (range_with_len 0 n) 0 k start old new (subst (λ m. k < m) (sym (length-range_with_len 0 n)) inside) so_far (subst (λ (m : ℕ). new ≡ old ++ f m) (sym (counted n k inside)) more)

pub counts_all : {A : Type 0} (f : ℕ → List A) (n k : ℕ) (start old : List A) → n ≤ k
    → old ≡ start ++ flat_map f (take k (range_with_len 0 n)) → old ≡ start ++ flat_map f (range_with_len 0 n)
counts_all f n k start old past so_far = adds_all f (range_with_len 0 n) k start old (subst (λ m. m ≤ k) (sym (length-range_with_len 0 n)) past) so_far

pub counts_fault : (f : ℕ → List Visit) (n k : ℕ) (start old : List Visit) (fault : PathFault) → k < n
    → old ≡ start ++ flat_map f (take k (range_with_len 0 n)) → IsListFault (old ++ f k) fault → IsListFault (start ++ flat_map f (range_with_len 0 n)) fault
counts_fault f n k start old fault inside so_far h =
    adds_fault f (range_with_len 0 n) 0 k start old fault (subst (λ m. k < m) (sym (length-range_with_len 0 n)) inside) so_far
    (subst (λ (m : ℕ). IsListFault (old ++ f m) fault) (sym (counted n k inside)) h)
