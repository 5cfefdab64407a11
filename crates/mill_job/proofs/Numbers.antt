-- The whole numbers of an array.
use Rattle.std.proofs.Common.{◌≡◌, ◌≢◌, ℕ, suc, ◌+◌, ◌<◌, ◌≤◌, drop, List, [], ◌∷◌, length, get_or, Bool, false, Option, Some, None, Err, refl, sym, ap, ◌∙◌, arith}
use Rattle.std.proofs.lemmas.List.{at_drop_more, at_drop_all}
use Rattle.std.proofs.lemmas.Option.{same_Some}
use Rattle.std.specs.Prelude.{ℤ}
use Rattle.toml.specs.declared.value.Value.{Value}
use Rattle.toml.specs.Data.{as_integer}
use Rattle.toml.specs.View.{view, items_view}
use Rattle.mill_base.specs.declared.unit.Unit.{Unit}
use Rattle.mill_job.specs.Tables.{with_rest, integers, kind_fault, misfit_of, is_area, is_place, checked}
use Rattle.mill_job.specs.declared.key.Key.{Key}

length-with_rest : (a : Option ℤ) (r : Option (List ℤ)) (n : ℕ) (zs : List ℤ) → ((ys : List ℤ) → r ≡ Some ys → length ys ≡ n) → with_rest a r ≡ Some zs → length zs ≡ suc n
length-with_rest None r n zs h e = cc
length-with_rest (Some z) None n zs h e = cc
length-with_rest (Some z) (Some ys) n zs h e =
    let same : zs ≡ z ∷ ys = sym (same_Some _ _ e) in
    let rest : length ys ≡ n = h ys refl in
    rw same (ap suc rest)

-- an array of whole numbers has as many numbers as members
pub length-integers : (vs : List Value) (zs : List ℤ) → integers (items_view vs) ≡ Some zs → length zs ≡ length vs
length-integers [] zs e = let same : zs ≡ [] = sym (same_Some _ _ e) in rw same refl
length-integers (v ∷ vs) zs e = length-with_rest (as_integer (view v)) (integers (items_view vs)) (length vs) zs (length-integers vs) e

misfits_at : {V : Type 0} (key : Key) (test : List ℤ → Bool) (r : Option (List ℤ)) → ((zs : List ℤ) → r ≡ Some zs → test zs ≡ false) → (w : V) → Err (misfit_of key r) ≡ checked (kind_fault key test r) w
misfits_at key test None h w = refl
misfits_at key test (Some zs) h w = let fails : test zs ≡ false = h zs refl in rw fails refl

-- an array of another length is of a wrong kind or out of range
pub misfits : {V : Type 0} (key : Key) (test : List ℤ → Bool) (n : ℕ) → ((zs : List ℤ) → length zs ≢ n → test zs ≡ false) → (vs : List Value) → length vs ≢ n → (w : V)
    → Err (misfit_of key (integers (items_view vs))) ≡ checked (kind_fault key test (integers (items_view vs))) w
misfits key test n h vs other w = misfits_at key test (integers (items_view vs)) (λ zs e. h zs (λ same. other (sym (length-integers vs zs e) ∙ same))) w

pub is_area-other : (unit : Unit) (zs : List ℤ) → length zs ≢ 4 → is_area unit zs ≡ false
is_area-other unit [] h = refl
is_area-other unit (a ∷ []) h = refl
is_area-other unit (a ∷ b ∷ []) h = refl
is_area-other unit (a ∷ b ∷ c ∷ []) h = refl
is_area-other unit (a ∷ b ∷ c ∷ d ∷ []) h = absurd (h refl)
is_area-other unit (a ∷ b ∷ c ∷ d ∷ e ∷ zs) h = refl

pub is_place-other : (unit : Unit) (zs : List ℤ) → length zs ≢ 2 → is_place unit zs ≡ false
is_place-other unit [] h = refl
is_place-other unit (a ∷ []) h = refl
is_place-other unit (a ∷ b ∷ []) h = absurd (h refl)
is_place-other unit (a ∷ b ∷ c ∷ zs) h = refl

-- a list of so many members, by its members
pub are_four : (vs : List Value) (a b c d : Value) → length vs ≡ 4 → a ≡ get_or vs 0 a → b ≡ get_or vs 1 b → c ≡ get_or vs 2 c → d ≡ get_or vs 3 d → vs ≡ a ∷ b ∷ c ∷ d ∷ []
are_four [] a b c d h ea eb ec ed = absurd (omega arith)
are_four (v ∷ []) a b c d h ea eb ec ed = absurd (omega arith)
are_four (v ∷ w ∷ []) a b c d h ea eb ec ed = absurd (omega arith)
are_four (v ∷ w ∷ x ∷ []) a b c d h ea eb ec ed = absurd (omega arith)
are_four (v ∷ w ∷ x ∷ y ∷ []) a b c d h ea eb ec ed = cc
are_four (v ∷ w ∷ x ∷ y ∷ z ∷ vs) a b c d h ea eb ec ed = absurd (omega arith)

-- the numbers from a value on are its own and those after it
pub next_number : (vs : List Value) (i : ℕ) (v : Value) → i < length vs → v ≡ get_or vs i v
    → integers (items_view (drop i vs)) ≡ with_rest (as_integer (view v)) (integers (items_view (drop (i + 1) vs)))
next_number vs i v there here =
    at_drop_more (λ (ws : List Value). integers (items_view ws)) vs i v there
    ∙ ap (λ (w : Value). with_rest (as_integer (view w)) (integers (items_view (drop (i + 1) vs)))) (sym here)

pub no_more_numbers : (vs : List Value) (i : ℕ) → length vs ≤ i → integers (items_view (drop i vs)) ≡ Some []
no_more_numbers vs i there = at_drop_all (λ (ws : List Value). integers (items_view ws)) vs i there
