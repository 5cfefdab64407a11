-- What holds of each view, where one of them changes.
use Rattle.std.proofs.Common.{◌≡◌, ◌≢◌, ℕ, ◌+◌, List, [], ◌∷◌, ◌++◌, set, sym, ap, subst, ◌∙◌, arith, ⊎_elim, Some}
use Rattle.std.specs.Prelude.{sum_by}
use Rattle.std.proofs.lemmas.List.Sums.{sum_by_push}
use mathlib.Core.Logic.{dite}
use mathlib.Core.Option.{some, some-injective}
use native.Mathlib.Decide.{ℕ_discrete}
use lib.ListN.{get_elem?}
use Rattle.atomic_table.proofs.Lists.{at_set, set_else, at_snoc}
use Rattle.mill_board.specs.declared.view.View.{View}
use Rattle.mill_board.proofs.Sums.{sum_set, here}

pub same_some : {A : Type 0} (x y : A) → Some x ≡ Some y → x ≡ y
same_some x y e = cc

module _ {W : Type 0} where
  -- a fact of each view, where one is set
  pub each_view : (Q : View W → Type 0) (vs : List (View W)) (id : ℕ) (w : View W) → ((j : ℕ) (v : View W) → get_elem? vs j ≡ some v → Q v) → Q w
      → (j : ℕ) (v : View W) → get_elem? (set vs id w) j ≡ some v → Q v
  each_view Q vs id w all one j v e = ⊎_elim (λ (t : (j ≡ id) × (w ≡ v)). subst Q t.1 one) (λ (t : (j ≢ id) × (get_elem? vs j ≡ some v)). all j v t.1) (at_set vs id j w v e)

  -- a slot that is out has still its owner, where a view is set that has out what it had
  pub owner_set : (vs : List (View W)) (id : ℕ) (v w : View W) (n : ℕ) → get_elem? vs id ≡ some v → (v.out ≡ Some n → w.out ≡ Some n)
      → ((seat : ℕ) × (u : View W) × (get_elem? vs seat ≡ some u) × (u.out ≡ Some n))
      → (seat : ℕ) × (u : View W) × (get_elem? (set vs id w) seat ≡ some u) × (u.out ≡ Some n)
  owner_set vs id v w n at same q = dite (ℕ_discrete q.0 id)
      (λ x. let y : some q.1 ≡ some v = sym q.2 ∙ ap (get_elem? vs) x ∙ at in let z : q.1.out ≡ v.out = ap (λ (k : View W). k.out) (some-injective q.1 v y) in
      (id, w, here vs id v w at, same (sym z ∙ q.3)))
      (λ ne. (q.0, q.1, set_else vs id q.0 w ne ∙ q.2, q.3))

  -- the same facts, where a view comes too
  pub each_split : (Q : View W → Type 0) (vs : List (View W)) (id : ℕ) (w u : View W) → ((j : ℕ) (v : View W) → get_elem? vs j ≡ some v → Q v) → Q w → Q u
      → (j : ℕ) (v : View W) → get_elem? (set vs id w ++ u ∷ []) j ≡ some v → Q v
  each_split Q vs id w u all one two j v e = ⊎_elim (each_view Q vs id w all one j v) (λ (t : u ≡ v). subst Q t two) (at_snoc (set vs id w) u v j e)

  -- a sum over the views stays, where the two parts have together what was split
  pub sum_split : (f : View W → ℕ) (vs : List (View W)) (id : ℕ) (v w u : View W) → get_elem? vs id ≡ some v → f w + f u ≡ f v → sum_by f (set vs id w ++ u ∷ []) ≡ sum_by f vs
  sum_split f vs id v w u at same = let a = sum_set f vs id v w at in let b = sum_by_push f (set vs id w) u in omega (arith, a, b, same)
