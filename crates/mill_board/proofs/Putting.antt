-- A step that puts a piece back keeps the rule.
use Rattle.std.proofs.Common.{◌≡◌, ◌≢◌, ℕ, ◌+◌, ◌^◌, ◌%◌, ◌<◌, ◌≤◌, min, List, [], ◌∷◌, set, refl, sym, ap, subst, ◌∙◌, arith, ⊎_elim, Option, Some, None, length-set, mod-eq_of_lt, take, get_or-set_same, get_or-set_other}
use Rattle.std.specs.Prelude.{slice_index, sum_by}
use mathlib.Core.Option.{some, none, some-injective, some-ne-none}
use lib.ListN.{get_elem?}
use Rattle.atomic_table.specs.Table.{gives, Allows, step}
use Rattle.atomic_table.proofs.Lists.{at_set, set_else}
use Rattle.mill_board.specs.declared.work.Held.{Held}
use Rattle.mill_board.specs.declared.work.Terms.{Terms}
use Rattle.mill_board.specs.declared.view.View.{View}
use Rattle.mill_board.specs.Works.{Means, IsTrueHeld}
use Rattle.mill_board.specs.Kept.{BoardState, Kept, back_of, claim_of, least_of, is_home, once_under, spare_ended, times}
use Rattle.mill_board.specs.inner.Plays.{Puts, Mine}
use Rattle.mill_board.proofs.Sums.{sum_set, sum_has, sum_has_two, once_some, homes_back, homes_most, once_at_most}
use Rattle.mill_board.proofs.Views.{each_view, owner_set}
use Rattle.mill_board.proofs.Listed.{FailsIn, fails_more, listed_set}

module _ {W P : Type 0} (M : Means W P) (terms : Terms W) where
  -- the piece comes home
  puts_home : (s : BoardState W P) (id : ℕ) (v : View W) (x : Held P) → Kept M terms s → get_elem? s.views id ≡ some v → v.out ≡ Some x.number → IsTrueHeld M terms.work x
      → Kept M terms record { words = set s.words 2 (back_of s + 1); homes = set s.homes x.number (some (Some x)); views = set s.views id (record v { out = None }) }
  puts_home s id v x h at out is_true =
      let n : ℕ = x.number in
      let w : View W = record v { out = None } in
      let len = h.words in
      let ours = h.outs id v n at out in
      let b : ℕ = back_of s in
      let under : n < claim_of s = let p = h.numbers n in let q = sum_has (λ (u : View W). times n u.drawn) s.views id v at in once_some n (claim_of s) (M.pieces terms.work) (let r = ours.0 in omega (arith, p, q, r)) in
      let word : slice_index (set s.words 2 (b + 1)) 2 ≡ b + 1 = get_or-set_same s.words 2 (b + 1) 0 (omega (arith, len)) in
      let other0 : slice_index (set s.words 2 (b + 1)) 0 ≡ claim_of s = get_or-set_other s.words 2 0 (b + 1) 0 (λ e. omega arith) in
      let other1 : slice_index (set s.words 2 (b + 1)) 1 ≡ least_of s = get_or-set_other s.words 2 1 (b + 1) 0 (λ e. omega arith) in
      record {
        words = length-set s.words 2 (b + 1) ∙ h.words;
        slots = length-set s.homes n (some (Some x)) ∙ h.slots;
        few = h.few;
        spans = h.spans;
        terms_are = each_view (λ u. u.terms ≡ terms) s.views id w h.terms_are (h.terms_are id v at);
        numbers = λ m. let a = sum_set (λ (u : View W). times m u.drawn) s.views id v w at in let d = h.numbers m in
            let f : once_under m (min (slice_index (set s.words 2 (b + 1)) 0) (M.pieces terms.work)) ≡ once_under m (min (claim_of s) (M.pieces terms.work)) = ap (λ k. once_under m (min k (M.pieces terms.work))) other0 in
            omega (arith, a, d) ∙ sym f;
        seen = λ j u e. subst (λ k. k ≤ u.seen) (sym other1) (each_view (λ z. least_of s ≤ z.seen) s.views id w h.seen (h.seen id v at) j u e);
        least = subst (λ k. FailsIn M terms (set s.views id w) k) (sym other1) (fails_more M terms s.views (set s.views id w) (least_of s) (λ m. listed_set s.views id v w m at (λ lt. lt)) h.least);
        home = λ m y e. ⊎_elim (λ (t : (m ≡ n) × (some (Some x) ≡ some y)). (x, sym (some-injective (Some x) y t.1), sym t.0, is_true)) (λ (t : (m ≢ n) × (get_elem? s.homes m ≡ some (some y))). h.home m y t.1) (at_set s.homes n m (some (Some x)) (some y) e);
        untouched = λ m le lt. let le' : claim_of s ≤ m = subst (λ k. k ≤ m) other0 le in set_else s.homes n m (some (Some x)) (λ e. absurd (omega arith)) ∙ h.untouched m le' lt;
        back = word ∙ ap (λ k. k + 1) h.back ∙ sym (homes_back s.homes (claim_of s) n (Some x) under ours.1) ∙ ap (λ k. sum_by is_home (take k (set s.homes n (some (Some x))))) (sym other0);
        outs = λ j u m e o. ⊎_elim
            (λ (t : (j ≡ id) × (w ≡ u)). let q : None ≡ Some m = ap (λ (z : View W). z.out) t.1 ∙ o in absurd (cc))
            (λ (t : (j ≢ id) × (get_elem? s.views j ≡ some u)). let was = h.outs j u m t.1 o in
            let ne : m ≢ n = λ y. let two = sum_has_two (λ (z : View W). times n z.drawn) s.views j id u v t.0 t.1 at in let p = h.numbers n in let r = once_at_most n (min (claim_of s) (M.pieces terms.work)) in
            let a : 0 < times n u.drawn = subst (λ k. 0 < times k u.drawn) y was.0 in let c = ours.0 in absurd (omega (arith, two, p, r, a, c)) in
            (was.0, set_else s.homes n m (some (Some x)) ne ∙ was.1)) (at_set s.views id j w u e);
        busy = λ j u m e o. each_view (λ z. (k : ℕ) → z.out ≡ Some k → z.ended ≡ None) s.views id w (λ i z f k. h.busy i z k f) (λ k q. absurd (cc)) j u e m o;
        owned = λ m e. ⊎_elim (λ (t : (m ≡ n) × (some (Some x) ≡ none)). absurd (some-ne-none (Some x) t.1))
            (λ (t : (m ≢ n) × (get_elem? s.homes m ≡ some none)). owner_set s.views id v w m at (λ o. let q : Some n ≡ Some m = sym out ∙ o in let r : n ≡ m = cc in absurd (t.0 (sym r))) (h.owned m t.1)) (at_set s.homes n m (some (Some x)) none e);
        claim_most = let a = sum_set spare_ended s.views id v w at in let c = h.claim_most in omega (arith, other0, a, c);
        all_out = λ j u m e is. let t = each_view (λ z. (k : ℕ) → z.ended ≡ Some k → (M.pieces terms.work ≤ k) × (k < claim_of s)) s.views id w (λ i z f k. h.all_out i z k f) (λ k. h.all_out id v k at) j u e m is in (t.0, let lt = t.1 in omega (arith, other0, lt));
        spares = each_view (λ u. 1 ≤ u.spare) s.views id w h.spares (h.spares id v at);
        spare = let a = sum_set (λ (u : View W). u.spare) s.views id v w at in let c = h.spare in omega (arith, a, c);
      }

  -- the back word can rise by one
  back_small : (s : BoardState W P) → Kept M terms s → back_of s + 1 < 2 ^ 64
  back_small s h = let a = h.back in let b = homes_most s.homes (claim_of s) in let c = h.slots in let d = h.few in omega (arith, a, b, c, d)

  puts_one : (slots id : ℕ) (v : View W) (x : Held P) → v.out ≡ Some x.number → IsTrueHeld M terms.work x
      → Allows (Kept M terms) slots id (v, (x.number, Some x) ∷ []) 2 (λ n. (n + 1) % 2 ^ 64) (Puts M (step slots 2 1 0 none) (v, (x.number, Some x) ∷ []))
  puts_one slots id v x out is_true s h len at small =
      let next : (back_of s + 1) % 2 ^ 64 ≡ back_of s + 1 = mod-eq_of_lt (back_small s h) in (
        record v { out = None },
        gives,
        tt,
        subst (λ k. Kept M terms record { words = set s.words 2 k; homes = set s.homes x.number (some (Some x)); views = set s.views id (record v { out = None }) }) (sym next) (puts_home s id v x h at out is_true),
        (refl, refl),
      )

  -- a seat that carries the true piece of the number that it has out gives it back
  pub puts : (slots id : ℕ) (me : Mine W P) (x : Held P) → me.1 ≡ (x.number, Some x) ∷ [] → me.0.out ≡ Some x.number → IsTrueHeld M terms.work x
      → Allows (Kept M terms) slots id me 2 (λ n. (n + 1) % 2 ^ 64) (Puts M (step slots 2 1 0 none) me)
  puts slots id me x one out is_true = subst (λ (l : List (ℕ × Option (Held P))). Allows (Kept M terms) slots id (me.0, l) 2 (λ n. (n + 1) % 2 ^ 64) (Puts M (step slots 2 1 0 none) (me.0, l))) (sym one) (puts_one slots id me.0 x out is_true)
