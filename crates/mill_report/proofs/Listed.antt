-- A list of all that there is under some numbers: how it begins, goes on, and that it is one.
use Rattle.std.specs.Prelude.{◌≡◌, ◌⊎◌, ◌≢◌, ℕ, zero, suc, ◌+◌, ◌<◌, ◌≤◌, List, [], ◌∷◌, ◌++◌, All, AllPairs, Contains, length, refl}
use Rattle.std.proofs.Common.{sym, ◌∙◌, ap, subst, inl, inr, ⊎_elim, get_or, arith}
use Rattle.std.proofs.lemmas.Bool.{cases_lt}
use Rattle.std.proofs.lemmas.List.{get_or_append_left, get_or_push, length_push}
use Rattle.std.proofs.lemmas.List.Elements.{All-cons, All-contains, All-nil, All-push, All-weaker}
use Rattle.mill_report.specs.Listings.{IsListing}

module _ {A : Type 0} (number : A → ℕ) where
  abbrev Less : A → A → Type 0
  Less a b = number a < number b

  -- none of a list has this number
  abbrev Apart : ℕ → List A → Type 0
  Apart k xs = All (λ a. number a ≢ k) xs

  here : (x : A) (xs : List A) → Contains (x ∷ xs) x
  here x xs = (0, omega arith, refl)

  there : (x : A) (xs : List A) (a : A) → Contains xs a → Contains (x ∷ xs) a
  there x xs a c = let lt = c.1 in (suc c.0, omega (lt, arith), c.2)

  in_none : (a : A) → Contains [] a → ⊥
  in_none a c = let lt = c.1 in omega (lt, arith)

  in_rest : (x : A) (xs : List A) (a : A) → Contains (x ∷ xs) a → (x ≡ a) ⊎ Contains xs a
  in_rest x xs a c = by c.0 c.1 c.2
    where
      by : (k : ℕ) → k < length (x ∷ xs) → get_or (x ∷ xs) k a ≡ a → (x ≡ a) ⊎ Contains xs a
      by zero lt e = inl e
      by (suc k) lt e = inr (k, omega (lt, arith), e)

  -- a number is that of one of the list, or of none
  found : (k : ℕ) (xs : List A) → Apart k xs ⊎ ((a : A) × Contains xs a × (number a ≡ k))
  found k [] = inl (All-nil (λ a. number a ≢ k))
  found k (x ∷ xs) =
      ⊎_elim (λ less. rest (λ e. omega (less, e, arith)) (found k xs))
      (λ least. ⊎_elim (λ more. rest (λ e. omega (more, e, arith)) (found k xs)) (λ most. inr (x, here x xs, omega (least, most, arith))) (cases_lt k (number x)))
      (cases_lt (number x) k)
    where
      rest : number x ≢ k → Apart k xs ⊎ ((a : A) × Contains xs a × (number a ≡ k)) → Apart k (x ∷ xs) ⊎ ((a : A) × Contains (x ∷ xs) a × (number a ≡ k))
      rest apart (inl none) = inl (All-cons (λ a. number a ≢ k) x xs apart none)
      rest apart (inr one) = inr (one.0, there x xs one.0 one.1, one.2)

  -- in order of their numbers, the first has the least
  above : (x : A) (xs : List A) → AllPairs Less (x ∷ xs) → (a : A) → Contains xs a → number x < number a
  above x xs order a c = let lt = c.1 in subst (λ (b : A). number x < number b) c.2 (order zero (suc c.0) a (omega arith) (omega (lt, arith)))

  below : (x : A) (xs : List A) → AllPairs Less (x ∷ xs) → AllPairs Less xs
  below x xs order i j d less within = order (suc i) (suc j) d (omega (less, arith)) (omega (within, arith))

  -- two such lists with the same things are one
  same : (xs ys : List A) → AllPairs Less xs → AllPairs Less ys → ((a : A) → Contains xs a → Contains ys a) → ((a : A) → Contains ys a → Contains xs a) → xs ≡ ys
  same [] [] o p f g = refl
  same [] (y ∷ ys) o p f g = absurd (in_none y (g y (here y ys)))
  same (x ∷ xs) [] o p f g = absurd (in_none x (f x (here x xs)))
  same (x ∷ xs) (y ∷ ys) o p f g = ap (λ (a : A). a ∷ xs) e ∙ ap (λ (zs : List A). y ∷ zs) (same xs ys (below x xs o) (below y ys p) to from)
    where
      heads : (y ≡ x) ⊎ Contains ys x → (x ≡ y) ⊎ Contains xs y → x ≡ y
      heads (inl e) other = sym e
      heads (inr c) (inl e) = e
      heads (inr c) (inr d) = let u = above y ys p x c in let v = above x xs o y d in absurd (omega (u, v, arith))

      e : x ≡ y
      e = heads (in_rest y ys x (f x (here x xs))) (in_rest x xs y (g y (here y ys)))

      to : (a : A) → Contains xs a → Contains ys a
      to a c = ⊎_elim (λ q. let u = above x xs o a c in let v = ap number (e ∙ q) in absurd (omega (u, v, arith))) (λ d. d) (in_rest y ys a (f a (there x xs a c)))

      from : (a : A) → Contains ys a → Contains xs a
      from a c = ⊎_elim (λ q. let u = above y ys p a c in let v = ap number (sym e ∙ q) in absurd (omega (u, v, arith))) (λ d. d) (in_rest x xs a (g a (there y ys a c)))

module _ (A : Type 0) (number : A → ℕ) (Is : A → Type 0) (IsBare : ℕ → Type 0) where
  abbrev Listing : ℕ → List A → Type 0
  Listing n xs = IsListing A number Is IsBare n xs

  -- before number 0 there is none
  pub listing_start : Listing 0 []
  listing_start = record { each = All-nil Is; under = All-nil (λ a. number a < 0); others = λ k less. absurd (omega (less, arith)); order = λ i j d less within. absurd (omega (within, arith)) }

  -- what is said of each number under the next
  next_of : (P : ℕ → Type 0) (n : ℕ) → ((k : ℕ) → k < n → P k) → P n → (k : ℕ) → k < n + 1 → P k
  next_of P n before last k less = ⊎_elim (λ (lt : k < n). before k lt) (λ (le : n ≤ k). let e : n ≡ k = omega (le, less, arith) in subst P e last) (cases_lt k n)

  -- a bare number adds nothing
  pub listing_bare : (n : ℕ) (xs : List A) → Listing n xs → IsBare n → Listing (n + 1) xs
  listing_bare n xs h bare = record {
    each = h.each;
    under = All-weaker (λ a. number a < n) (λ a. number a < n + 1) (λ a less. omega (less, arith)) xs h.under;
    others = next_of (λ k. All (λ a. number a ≢ k) xs → IsBare k) n h.others (λ apart. bare);
    order = h.order;
  }

  -- one more thing, of the next number
  module _ (n : ℕ) (xs : List A) (x : A) (h : Listing n xs) (is : Is x) (at : number x ≡ n) where
    apart_left : (k : ℕ) → All (λ a. number a ≢ k) (xs ++ x ∷ []) → All (λ a. number a ≢ k) xs
    apart_left k apart i d within = let long = length_push xs x in subst (λ (a : A). number a ≢ k) (get_or_append_left xs (x ∷ []) d i within) (apart i d (omega (long, within, arith)))

    last_apart : (k : ℕ) → All (λ a. number a ≢ k) (xs ++ x ∷ []) → number x ≢ k
    last_apart k apart = let long = length_push xs x in subst (λ (a : A). number a ≢ k) (get_or_push xs x x (length xs) refl) (apart (length xs) x (omega (long, arith)))

    pairs : AllPairs (λ a b. number a < number b) (xs ++ x ∷ [])
    pairs i j d less within =
        let long = length_push xs x in
        let inside : i < length xs = omega (less, within, long, arith) in
        let low : get_or (xs ++ x ∷ []) i d ≡ get_or xs i d = get_or_append_left xs (x ∷ []) d i inside in
        ⊎_elim
        (λ (in_xs : j < length xs). rw (low, get_or_append_left xs (x ∷ []) d j in_xs) (h.order i j d less in_xs))
        (λ (at_end : length xs ≤ j). rw (low, get_or_push xs x d j (omega (at_end, within, long, arith))) (let u = h.under i d inside in omega (u, at, arith)))
        (cases_lt j (length xs))

    pub listing_more : Listing (n + 1) (xs ++ x ∷ [])
    listing_more = record {
      each = All-push Is xs x h.each is;
      under = All-push (λ a. number a < n + 1) xs x (All-weaker (λ a. number a < n) (λ a. number a < n + 1) (λ a less. omega (less, arith)) xs h.under) (omega (at, arith));
      others = next_of (λ k. All (λ a. number a ≢ k) (xs ++ x ∷ []) → IsBare k) n (λ k less apart. h.others k less (apart_left k apart)) (λ apart. absurd (last_apart n apart at));
      order = pairs;
    }

  -- where a listed thing's number isn't bare, and no two have one number, there is one list
  module _ (full : (a : A) → Is a → ¬ IsBare (number a)) (one : (a b : A) → Is a → Is b → number a ≡ number b → a ≡ b) where
    within : (n : ℕ) (xs ys : List A) → Listing n xs → Listing n ys → (a : A) → Contains xs a → Contains ys a
    within n xs ys h g a c = by (found number (number a) ys)
      where
        is : Is a
        is = All-contains Is xs a h.each c

        by : All (λ b. number b ≢ number a) ys ⊎ ((b : A) × Contains ys b × (number b ≡ number a)) → Contains ys a
        by (inl none) = absurd (full a is (g.others (number a) (All-contains (λ b. number b < n) xs a h.under c) none))
        by (inr b) = subst (λ (z : A). Contains ys z) (one b.0 a (All-contains Is ys b.0 g.each b.1) is b.2) b.1

    pub one_listing : (n : ℕ) (xs ys : List A) → Listing n xs → Listing n ys → xs ≡ ys
    one_listing n xs ys h g = same number xs ys h.order g.order (within n xs ys h g) (within n ys xs g h)

  -- the first of a list is listed, and each number before its own is bare
  pub first_is : (n : ℕ) (x : A) (xs : List A) → Listing n (x ∷ xs) → Is x
  first_is n x xs h = h.each 0 x (omega arith)

  pub before_first : (n : ℕ) (x : A) (xs : List A) → Listing n (x ∷ xs) → (k : ℕ) → k < number x → IsBare k
  before_first n x xs h k less =
      let to : number x < n = h.under 0 x (omega arith) in
      h.others k (omega (less, to, arith)) (All-cons (λ a. number a ≢ k) x xs (λ e. omega (less, e, arith)) rest)
    where
      rest : All (λ a. number a ≢ k) xs
      rest i d inside e = let up : number x < number (get_or xs i d) = h.order 0 (suc i) d (omega arith) (omega (inside, arith)) in omega (less, e, up, arith)

  -- where nothing is listed each number is bare
  pub none_listed : (n : ℕ) → Listing n [] → (k : ℕ) → k < n → IsBare k
  none_listed n h k less = h.others k less (All-nil (λ a. number a ≢ k))

  -- and where each is bare nothing is listed
  pub all_bare : (full : (a : A) → Is a → ¬ IsBare (number a)) → (n : ℕ) (xs : List A) → Listing n xs → ((k : ℕ) → k < n → IsBare k) → xs ≡ []
  all_bare full n [] h bare = refl
  all_bare full n (x ∷ xs) h bare = absurd (full x (first_is n x xs h) (bare (number x) (h.under 0 x (omega arith))))
