-- The nodes of a lattice by their numbers.
use Rattle.std.proofs.Common.{◌≡◌, ℕ, suc, ◌+◌, ◌-◌, ◌*◌, ◌/◌, ◌%◌, ◌<◌, ◌≤◌, min, Bool, true, false, List, [], ◌∷◌, ◌++◌, length, map, take, get_or, inl, inr, refl, sym, ap, ap₂, ◌∙◌, subst, arith, append-nil, mul-zero, mul-suc, mul_comm, add_comm, mul-le-mul_right, div-mul-le_self, mod-lt, div-lt_iff_lt-mul}
use Rattle.std.specs.Prelude.{◌==◌, if◌then◌else◌, nat_abs}
use Rattle.std.specs.List.{flat_map, range_with_len}
use Rattle.std.specs.Int.{div_ceil}
use Rattle.std.proofs.lemmas.Bool.{cases_lt, eqb-true, eqb-false}
use Rattle.std.proofs.lemmas.Int.{ints}
use Rattle.std.proofs.lemmas.List.{length-append, length-map, length-take-le, get_or-map, get_or_append_left, get_or-append_right}
use Rattle.std.proofs.lemmas.List.Concat.{get_or-flat_map}
use Rattle.std.proofs.lemmas.List.FromFn.{length-map-range_with_len, get_or-map-range_with_len}
use Rattle.std.proofs.Math.Nat.{div-add-mod, lt-mul-div-succ}
use lib.IntN.{ℤ, pos, ◌+ℤ◌, ◌-ℤ◌, ◌*ℤ◌}
use lib.Signed.{◌≤ℤ◌}
use Rattle.mill_base.specs.Numbers.{Within}
use Rattle.mill_base.specs.declared.limits.TheConstants.{MAX_COORDINATE}
use Rattle.mill_base.specs.Lattices.{lattice_positions, rows_of}

pub length-rows : (xs ys : List ℤ) → length (rows_of xs ys) ≡ length xs * length ys
length-rows xs [] = sym (mul-zero (length xs))
length-rows xs (y ∷ ys) =
    let row : List (ℤ × ℤ) = map (λ (x : ℤ). (x, y)) xs in
    length-append row (rows_of xs ys) ∙ ap₂ (λ (a b : ℕ). a + b) (long xs) (length-rows xs ys) ∙ swap (length xs) (length ys)
  where
    long : (zs : List ℤ) → length {A = ℤ × ℤ} (map (λ (x : ℤ). (x, y)) zs) ≡ length zs
    long zs = length-map zs (λ (x : ℤ). (x, y))

    swap : (n m : ℕ) → n + n * m ≡ n * suc m
    swap n m = add_comm n (n * m) ∙ sym (mul-suc n m)

-- node k is k % n places along row k / n
pub get_or-rows : (xs ys : List ℤ) (k : ℕ) (d : ℤ × ℤ) → 0 < length xs → k < length xs * length ys
    → get_or (rows_of xs ys) k d ≡ (get_or xs (k % length xs) (pos 0), get_or ys (k / length xs) (pos 0))
get_or-rows xs ys k d some inside =
    let n = length xs in
    let row : ℤ → List (ℤ × ℤ) = λ y. map (λ (x : ℤ). (x, y)) xs in
    let i = k / n in
    let j = k % n in
    let placed : ℤ → ℤ × ℤ = λ x. (x, get_or ys i (pos 0)) in
    let row_ok : i < length ys = (div-lt_iff_lt-mul some).1 (commuted k n (length ys) inside) in
    let place_ok : j < n = mod-lt k some in
    let before : length (flat_map row (take i ys)) ≡ n * i = length-rows xs (take i ys) ∙ ap (λ m. n * m) (length-take-le i ys (before_it i (length ys) row_ok)) in
    let here : length (flat_map row (take i ys)) + j ≡ k = ap (λ m. m + j) before ∙ div-add-mod k n in
    ap (λ m. get_or (rows_of xs ys) m d) (sym here)
    ∙ get_or-flat_map row ys i j (pos 0) d row_ok (subst (λ m. j < m) (sym (long (get_or ys i (pos 0)) xs)) place_ok)
    ∙ get_or-map placed xs j (pos 0) d place_ok
  where
    long : (y : ℤ) (zs : List ℤ) → length {A = ℤ × ℤ} (map (λ (x : ℤ). (x, y)) zs) ≡ length zs
    long y zs = length-map zs (λ (x : ℤ). (x, y))

    commuted : (k n m : ℕ) → k < n * m → k < m * n
    commuted k n m h = subst (λ p. k < p) (mul_comm n m) h

    before_it : (i m : ℕ) → i < m → i ≤ m
    before_it i m h = omega arith

-- row k / n is one of them
pub row_within : (xs ys : List ℤ) (n k : ℕ) → n ≡ length xs → 0 < n → k < length (rows_of xs ys) → k / n < length ys
row_within xs ys n k long some inside =
    (div-lt_iff_lt-mul some).1 (subst (λ m. k < m) (length-rows xs ys ∙ ap (λ m. m * length ys) (sym long) ∙ mul_comm n (length ys)) inside)

-- the node of number k from its position along the row and that of its row
pub node_placed : (xs ys : List ℤ) (n k : ℕ) (x y : ℤ) → n ≡ length xs → 0 < n → k < length (rows_of xs ys)
    → x ≡ get_or xs (k % n) (pos 0) → y ≡ get_or ys (k / n) (pos 0) → (x, y) ≡ get_or (rows_of xs ys) k (pos 0, pos 0)
node_placed xs ys n k x y long some inside along row =
    let some_xs : 0 < length xs = subst (λ m. 0 < m) long some in
    let within : k < length xs * length ys = subst (λ m. k < m) (length-rows xs ys) inside in
    let x_is : x ≡ get_or xs (k % length xs) (pos 0) = along ∙ ap (λ m. get_or xs (k % m) (pos 0)) long in
    let y_is : y ≡ get_or ys (k / length xs) (pos 0) = row ∙ ap (λ m. get_or ys (k / m) (pos 0)) long in
    (λ i. (x_is i, y_is i)) ∙ sym (get_or-rows xs ys k (pos 0, pos 0) some_xs within)

-- how many positions there are: one for each whole step and one for the start, and one for the end where no step comes there
counted : (f : ℕ → ℤ) (hi : ℤ) (l s : ℕ) (t : Bool) → (l % s == 0) ≡ t
    → length (map f (range_with_len 0 (l / s + 1)) ++ (if t then [] else hi ∷ [])) ≡ div_ceil l s + 1
counted f hi l s true e =
    let even = eqb-true _ _ e in
    rw (length-append (map f (range_with_len 0 (l / s + 1))) [], length-map-range_with_len f 0 (l / s + 1)) (omega arith)
counted f hi l s false e =
    let uneven = eqb-false _ _ e in
    rw (length-append (map f (range_with_len 0 (l / s + 1))) (hi ∷ []), length-map-range_with_len f 0 (l / s + 1)) (omega arith)

pub length-positions : (lo hi step : ℤ) → length (lattice_positions lo hi step) ≡ div_ceil (nat_abs (hi -ℤ lo)) (nat_abs step) + 1
length-positions lo hi step = counted (λ i. lo +ℤ pos i *ℤ step) hi (nat_abs (hi -ℤ lo)) (nat_abs step) _ refl

-- the positions of a range of l units by steps of s: those that a step comes to, and the end where none does
stepped : (lo hi step : ℤ) (s l k : ℕ) (t : Bool) → (l % s == 0) ≡ t → step ≡ pos s → hi ≡ lo +ℤ pos l → 0 < s
    → k < length (map (λ i. lo +ℤ pos i *ℤ step) (range_with_len 0 (l / s + 1)) ++ (if t then [] else hi ∷ []))
    → get_or (map (λ i. lo +ℤ pos i *ℤ step) (range_with_len 0 (l / s + 1)) ++ (if t then [] else hi ∷ [])) k (pos 0) ≡ lo +ℤ pos (min (k * s) l)
stepped lo hi step s l k t even e ends some inside = by t inside
  where
    first : List ℤ
    first = map (λ i. lo +ℤ pos i *ℤ step) (range_with_len 0 (l / s + 1))

    long : length first ≡ l / s + 1
    long = length-map-range_with_len (λ i. lo +ℤ pos i *ℤ step) 0 (l / s + 1)

    upto : (a b c : ℕ) → a ≤ b → b ≤ c → a ≤ c
    upto a b c h e = omega arith

    less : (a b : ℕ) → a < b + 1 → a ≤ b
    less a b h = omega arith

    least_left : (a b : ℕ) → a ≤ b → min a b ≡ a
    least_left a b h = omega arith

    least_right : (a b : ℕ) → b ≤ a → min a b ≡ b
    least_right a b h = omega arith

    plain : (n : ℕ) → 0 + n ≡ n
    plain n = omega arith

    under : k < l / s + 1 → k * s ≤ l
    under h = upto (k * s) (l / s * s) l (mul-le-mul_right s (less k (l / s) h)) (div-mul-le_self l s)

    over : l / s + 1 ≤ k → l ≤ k * s
    over h = upto l ((l / s + 1) * s) (k * s) (before l (s * (l / s + 1)) ((l / s + 1) * s) (lt-mul-div-succ l some) (mul_comm s (l / s + 1))) (mul-le-mul_right s h)
      where
        before : (a b c : ℕ) → a < b → b ≡ c → a ≤ c
        before a b c h e = omega arith

    at_step : (rest : List ℤ) → k < l / s + 1 → get_or (first ++ rest) k (pos 0) ≡ lo +ℤ pos (min (k * s) l)
    at_step rest h =
        get_or_append_left first rest (pos 0) k (subst (λ n. k < n) (sym long) h)
        ∙ get_or-map-range_with_len (λ i. lo +ℤ pos i *ℤ step) 0 (l / s + 1) k k (pos 0) h (plain k)
        ∙ ap (λ z. lo +ℤ pos k *ℤ z) e
        ∙ ap (λ n. lo +ℤ pos n) (sym (least_left (k * s) l (under h)))

    at_end : l / s + 1 ≤ k → k < length (first ++ hi ∷ []) → get_or (first ++ hi ∷ []) k (pos 0) ≡ lo +ℤ pos (min (k * s) l)
    at_end h inside =
        get_or-append_right first (hi ∷ []) (l / s + 1) k (pos 0) long h
        ∙ ap (λ m. get_or (hi ∷ []) m (pos 0)) (none_past k (l / s + 1) (subst (λ n. k < n) (length-append first (hi ∷ []) ∙ ap (λ n. n + 1) long) inside) h)
        ∙ ends
        ∙ ap (λ n. lo +ℤ pos n) (sym (least_right (k * s) l (over h)))
      where
        none_past : (a b : ℕ) → a < b + 1 → b ≤ a → a - b ≡ 0
        none_past a b h e = omega arith

    outside : (a b c : ℕ) → b ≤ a → a < c → c ≡ b → ⊥
    outside a b c h e same = omega arith

    by : (t : Bool) → k < length (first ++ (if t then [] else hi ∷ [])) → get_or (first ++ (if t then [] else hi ∷ [])) k (pos 0) ≡ lo +ℤ pos (min (k * s) l)
    by true inside = elim (cases_lt k (l / s + 1)) [
      | inl h ↦ at_step [] h
      | inr h ↦ absurd (outside k (l / s + 1) _ h inside (ap (λ (zs : List ℤ). length zs) (append-nil first) ∙ long))
    ]
    by false inside = elim (cases_lt k (l / s + 1)) [
      | inl h ↦ at_step (hi ∷ []) h
      | inr h ↦ at_end h inside
    ]

-- the position of number k: as many steps from the start on, but not past the end
pub get_or-positions : (lo hi step : ℤ) (k : ℕ) → lo ≤ℤ hi → (pos 1) ≤ℤ step → k < length (lattice_positions lo hi step)
    → get_or (lattice_positions lo hi step) k (pos 0) ≡ lo +ℤ pos (min (k * nat_abs step) (nat_abs (hi -ℤ lo)))
get_or-positions lo hi step k order some inside =
    stepped lo hi step (nat_abs step) (nat_abs (hi -ℤ lo)) k _ refl (whole step some) (spans lo hi order) (least step some) inside
  where
    whole : (s : ℤ) → (pos 1) ≤ℤ s → s ≡ pos (nat_abs s)
    whole s h = omega (arith, ints)

    least : (s : ℤ) → (pos 1) ≤ℤ s → 0 < nat_abs s
    least s h = omega (arith, ints)

    spans : (a b : ℤ) → a ≤ℤ b → b ≡ a +ℤ pos (nat_abs (b -ℤ a))
    spans a b h = omega (arith, ints)

-- such a position is in range
pub position_within : (lo hi : ℤ) (n : ℕ) → Within MAX_COORDINATE lo → Within MAX_COORDINATE hi → lo ≤ℤ hi → Within MAX_COORDINATE (lo +ℤ pos (min n (nat_abs (hi -ℤ lo))))
position_within lo hi n l h order =
    let a = l.within in
    let b = h.within in
    record { within = omega (arith, ints) }
