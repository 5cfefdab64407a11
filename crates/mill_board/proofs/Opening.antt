-- The rule holds at the start.
use Rattle.std.proofs.Common.{◌≡◌, ℕ, zero, suc, ◌+◌, ◌-◌, ◌^◌, ◌<◌, ◌≤◌, List, [], ◌∷◌, ◌++◌, length, refl, sym, ap, subst, ◌∙◌, arith, inl, Option, Some, None, append_assoc, append-nil, map, add-zero}
use mathlib.Core.Option.{some, none, some-injective, some-ne-none}
use lib.ListN.{get_elem?}
use Rattle.atomic_table.specs.Table.{opening}
use Rattle.mill_board.specs.declared.work.Held.{Held}
use Rattle.mill_board.specs.declared.view.View.{View}
use Rattle.mill_board.specs.Works.{Means, HasSpans, IsTrueHeld, started}
use Rattle.mill_board.specs.Seats.{first_view}
use Rattle.mill_board.specs.Kept.{Kept}
use Rattle.mill_board.specs.inner.Starts.{StartTrue, starts}
use Rattle.mill_board.proofs.Sums.{once_least}

one_view : {A : Type 0} → {v : A} (Q : A → Type 0) → Q v → (j : ℕ) (u : A) → get_elem? (v ∷ []) j ≡ some u → Q u
one_view {v = v} Q q zero u e = subst Q (some-injective v u e) q
one_view {v = v} Q q (suc j) u e = absurd (some-ne-none u (sym e))

length-map_some : {A : Type 0} → (xs : List A) → length (map some xs) ≡ length xs
length-map_some [] = refl
length-map_some (x ∷ xs) = let t = length-map_some xs in omega (arith, t)

module _ {W P : Type 0} (M : Means W P) (work : W) where
  pub starts_len : (n k : ℕ) → length (starts M work n k) ≡ k
  starts_len n zero = refl
  starts_len n (suc k) = let t = starts_len (n + 1) k in omega (arith, t)

  pub starts_more : (xs : List (Option (Held P))) (x : Option (Held P)) (n p : ℕ) (all : List (Option (Held P))) → n < p → x ≡ Some (started M work n) → xs ++ starts M work n (p - n) ≡ all
      → (xs ++ x ∷ []) ++ starts M work (n + 1) (p - (n + 1)) ≡ all
  starts_more xs x n p all lt is was =
      let e : p - n ≡ suc (p - (n + 1)) = omega arith in
      let a : (xs ++ x ∷ []) ++ starts M work (n + 1) (p - (n + 1)) ≡ xs ++ (x ∷ starts M work (n + 1) (p - (n + 1))) = append_assoc xs (x ∷ []) (starts M work (n + 1) (p - (n + 1))) in
      let b : starts M work n (p - n) ≡ Some (started M work n) ∷ starts M work (n + 1) (p - (n + 1)) = ap (starts M work n) e in
      let c : xs ++ (x ∷ starts M work (n + 1) (p - (n + 1))) ≡ xs ++ starts M work n (p - n) = ap (λ (y : Option (Held P)). xs ++ (y ∷ starts M work (n + 1) (p - (n + 1)))) is ∙ ap (λ (l : List (Option (Held P))). xs ++ l) (sym b) in
      a ∙ c ∙ was

  pub starts_end : (xs : List (Option (Held P))) (n p : ℕ) (all : List (Option (Held P))) → p ≤ n → xs ++ starts M work n (p - n) ≡ all → xs ≡ all
  starts_end xs n p all le was = let e : p - n ≡ 0 = omega arith in sym (ap (λ k. xs ++ starts M work n k) e ∙ append-nil xs) ∙ was

  starts_at : (n k i : ℕ) (x : Option (Held P)) → get_elem? (map some (starts M work n k)) i ≡ some (some x) → (x ≡ Some (started M work (n + i))) × (i < k)
  starts_at n zero i x e = absurd (some-ne-none (some x) (sym e))
  starts_at n (suc k) zero x e = (sym (some-injective _ _ (some-injective _ _ e)) ∙ ap (λ m. Some (started M work m)) (sym (add-zero n)), omega arith)
  starts_at n (suc k) (suc i) x e = let t = starts_at (n + 1) k i x e in let q : n + 1 + i ≡ n + suc i = omega arith in (t.0 ∙ ap (λ m. Some (started M work m)) q, let l = t.1 in omega arith)

  starts_there : (n k i : ℕ) → i < k → get_elem? (map some (starts M work n k)) i ≡ some (some (Some (started M work (n + i))))
  starts_there n zero i lt = absurd (omega arith)
  starts_there n (suc k) zero lt = ap (λ m. some (some (Some (started M work m)))) (sym (add-zero n))
  starts_there n (suc k) (suc i) lt = starts_there (n + 1) k i (omega arith) ∙ ap (λ m. some (some (Some (started M work m)))) (let q : n + 1 + i ≡ n + suc i = omega arith in q)

  starts_none : (n k i : ℕ) → get_elem? (map some (starts M work n k)) i ≡ some none → ⊥
  starts_none n zero i e = some-ne-none none (sym e)
  starts_none n (suc k) zero e = some-ne-none _ (some-injective _ _ e)
  starts_none n (suc k) (suc i) e = starts_none (n + 1) k i e

  pub opens : (turns p : ℕ) (slots : List (Option (Held P))) → p ≡ M.pieces work → p < 2 ^ 32 → HasSpans M work turns → slots ≡ starts M work 0 p → StartTrue M work p
      → Kept M (record { work = work; turns = turns }) (opening (0 ∷ turns ∷ 0 ∷ []) slots (first_view (record { work = work; turns = turns })))
  opens turns p slots count few spans are all_true =
      let v : View W = first_view (record { work = work; turns = turns }) in
      subst (λ (l : List (Option (Held P))). Kept M (record { work = work; turns = turns }) (opening (0 ∷ turns ∷ 0 ∷ []) l v)) (sym are)
      (record {
        words = refl;
        slots = length-map_some (starts M work 0 p) ∙ starts_len 0 p ∙ count;
        few = omega (arith, count, few);
        spans = spans;
        terms_are = one_view (λ u. u.terms ≡ record { work = work; turns = turns }) refl;
        numbers = λ n. let t = once_least n (M.pieces work) in omega (arith, t);
        seen = one_view (λ u. turns ≤ u.seen) (omega arith);
        least = inl refl;
        home = λ n x e. let t = starts_at 0 p n x e in let q : 0 + n ≡ n = omega arith in let lt = t.1 in
            (started M work n, t.0 ∙ ap (λ m. Some (started M work m)) q, refl, all_true n lt);
        untouched = λ n le lt. let q : 0 + n ≡ n = omega arith in starts_there 0 p n (omega (arith, lt, count)) ∙ ap (λ m. some (some (Some (started M work m)))) q;
        back = refl;
        outs = λ j u n e o. absurd (let z = one_view (λ (k : View W). k.out ≡ None) refl j u e in cc);
        busy = λ j u n e o. absurd (let z = one_view (λ (k : View W). k.out ≡ None) refl j u e in cc);
        owned = λ n e. absurd (starts_none 0 p n e);
        claim_most = omega arith;
        all_out = λ j u n e f. absurd (let z = one_view (λ (k : View W). k.ended ≡ None) refl j u e in cc);
        spares = one_view (λ u. 1 ≤ u.spare) (omega arith);
        spare = refl;
      })
