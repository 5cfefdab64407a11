-- Of a list of numbers, those whose top is over a height.
use Rattle.std.proofs.Common.{◌≡◌, ℕ, ◌<◌, Bool, true, false, cond, List, [], ◌∷◌, ◌++◌, length, refl, sym, subst, ap, ◌∙◌, ◌↔◌, arith}
use Rattle.std.specs.Prelude.{int_lt, nat_eq, Option, Some, None, MatchOption}
use Rattle.std.specs.Iterator.{MakesProgress, item_count}
use Rattle.std.specs.List.{Contains, IsDistinct}
use Rattle.std.proofs.lemmas.Int.{ints}
use Rattle.std.proofs.lemmas.List.Elements.{All-contains}
use lib.IntN.{ℤ}
use lib.Signed.{◌<ℤ◌, ◌≤ℤ◌}
use Rattle.mill_base.specs.declared.points.Box2.{Box2}
use Rattle.mill_cells.specs.Boxes.{IsNear}
use Rattle.mill_cells.specs.inner.Passed.{ArePassed, IsNext}
use Rattle.mill_cells.specs.Sorted.{top_at, over_of, IsNearOver}
use Rattle.mill_cells.proofs.Lists.{here, there, Contains-filter, filter_keeps, distinct-filter}

test_over : (a b : ℤ) → int_lt a b ≡ true → a <ℤ b
test_over a b e = omega (e, arith, ints)

over_test : (a b : ℤ) → a <ℤ b → int_lt a b ≡ true
over_test a b h = by (int_lt a b) refl
  where
    by : (t : Bool) → int_lt a b ≡ t → int_lt a b ≡ true
    by true e = e
    by false e = absurd (omega (h, e, arith, ints))

test_under : (a b : ℤ) → b ≤ℤ a → int_lt a b ≡ false
test_under a b h = by (int_lt a b) refl
  where
    by : (t : Bool) → int_lt a b ≡ t → int_lt a b ≡ false
    by true e = absurd (omega (h, e, arith, ints))
    by false e = e

-- which they are
pub over_are : (tops : List ℤ) (height : ℤ) (numbers : List ℕ) (i : ℕ) → Contains (over_of tops height numbers) i → Contains numbers i × (height <ℤ top_at tops i)
over_are tops height numbers i c = let k = Contains-filter (λ j. int_lt height (top_at tops j)) numbers i c in (k.0, test_over height (top_at tops i) k.1)

pub over_has : (tops : List ℤ) (height : ℤ) (numbers : List ℕ) (i : ℕ) → Contains numbers i → height <ℤ top_at tops i → Contains (over_of tops height numbers) i
over_has tops height numbers i c h = filter_keeps (λ j. int_lt height (top_at tops j)) numbers i (over_test height (top_at tops i) h) c

-- those that aren't over the height leave nothing
none_over : (tops : List ℤ) (height : ℤ) (passed left : List ℕ) → ((i : ℕ) → Contains passed i → top_at tops i ≤ℤ height) → over_of tops height (passed ++ left) ≡ over_of tops height left
none_over tops height [] left under = refl
none_over tops height (x ∷ passed) left under =
    ap (λ (b : Bool). cond b (x ∷ over_of tops height (passed ++ left)) (over_of tops height (passed ++ left))) (test_under height (top_at tops x) (under x (here x passed)))
    ∙ none_over tops height passed left (λ i c. under i (there x passed i c))

pub over_passed : (tops : List ℤ) (height : ℤ) (old new : List ℕ) → ArePassed tops height old new → over_of tops height old ≡ over_of tops height new
over_passed tops height old new p = ap (over_of tops height) p.split ∙ none_over tops height p.passed new (λ i c. All-contains (λ j. top_at tops j ≤ℤ height) p.passed i p.under c)

-- the next number comes first
pub over_next : (tops : List ℤ) (height : ℤ) (old : List ℕ) (i : ℕ) (new : List ℕ) → IsNext tops height old i new → over_of tops height old ≡ i ∷ over_of tops height new
over_next tops height old i new n =
    over_passed tops height old (i ∷ new) n.passed
    ∙ ap (λ (b : Bool). cond b (i ∷ over_of tops height new) (over_of tops height new)) (over_test height (top_at tops i) n.over)

-- as a caller sees them
pub over_near : (boxes : List Box2) (area : Box2) (tops all : List ℤ) (stored height : ℤ) (numbers : List ℕ) → tops ≡ all → stored ≡ height
    → ((i : ℕ) → Contains numbers i ↔ IsNear boxes area i) → (i : ℕ) → Contains (over_of tops stored numbers) i ↔ IsNearOver (record { boxes = boxes; tops = all }) area height i
over_near boxes area tops all stored height numbers same kept each i =
    subst (λ (ts : List ℤ). Contains (over_of tops stored numbers) i ↔ IsNearOver (record { boxes = boxes; tops = ts }) area height i) same
    (subst (λ (z : ℤ). Contains (over_of tops stored numbers) i ↔ IsNearOver (record { boxes = boxes; tops = tops }) area z i) kept there_and_back)
  where
    there_and_back : Contains (over_of tops stored numbers) i ↔ IsNearOver (record { boxes = boxes; tops = tops }) area stored i
    there_and_back = ((λ c. let o = over_are tops stored numbers i c in record { near = (each i).0 o.0; over = o.1 }), (λ n. over_has tops stored numbers i ((each i).1 n.near) n.over))

pub over_once : (tops : List ℤ) (height : ℤ) (numbers : List ℕ) → IsDistinct nat_eq numbers → IsDistinct nat_eq (over_of tops height numbers)
over_once tops height numbers d = distinct-filter (λ j. int_lt height (top_at tops j)) numbers d

-- what a walk that passes over the others gives
pub over_yields : (tops later : List ℤ) (stored height : ℤ) (old new : List ℕ) (next : Option ℕ) → later ≡ tops → stored ≡ height
    → MatchOption next (ArePassed tops stored old [] × (new ≡ [])) (λ i. IsNext tops stored old i new)
    → MatchOption next ((over_of tops height old ≡ []) × (over_of later height new ≡ [])) (λ i. over_of tops height old ≡ i ∷ over_of later height new)
over_yields tops later stored height old new next same kept h =
    subst (λ (ts : List ℤ). MatchOption next ((over_of tops height old ≡ []) × (over_of ts height new ≡ [])) (λ i. over_of tops height old ≡ i ∷ over_of ts height new)) (sym same)
    (subst (λ (z : ℤ). MatchOption next ((over_of tops z old ≡ []) × (over_of tops z new ≡ [])) (λ i. over_of tops z old ≡ i ∷ over_of tops z new)) kept (by next h))
  where
    by : (next : Option ℕ) → MatchOption next (ArePassed tops stored old [] × (new ≡ [])) (λ i. IsNext tops stored old i new)
        → MatchOption next ((over_of tops stored old ≡ []) × (over_of tops stored new ≡ [])) (λ i. over_of tops stored old ≡ i ∷ over_of tops stored new)
    by None h = (over_passed tops stored old [] h.0, ap (over_of tops stored) h.1)
    by (Some i) h = over_next tops stored old i new h

-- fewer are left after each that came
pub over_goes : (can : List ℕ → Type 0) → ((numbers : List ℕ) → can numbers) → (old new : List ℕ) (next : Option ℕ) → MatchOption next ((old ≡ []) × (new ≡ [])) (λ i. old ≡ i ∷ new)
    → MakesProgress can (item_count (λ numbers. numbers)) old next new
over_goes can always old new None h = record { on = λ _. tt; keeps = tt; rests = λ _. tt }
over_goes can always old new (Some i) h = record {
  on = λ _. (always new, tt, subst (λ (numbers : List ℕ). length new < length numbers) (sym h) (omega arith));
  keeps = always new;
  rests = λ _. tt;
}
