-- A step that draws a number keeps the rule.
use Rattle.std.proofs.Common.{◌≡◌, ◌≢◌, ℕ, ◌+◌, ◌^◌, ◌%◌, ◌<◌, ◌≤◌, ◌==◌, min, cond, List, [], ◌∷◌, ◌++◌, set, refl, sym, ap, subst, ◌∙◌, arith, inl, inr, ⊎_elim, Option, Some, None, length-set, add-one, mod-eq_of_lt, take, lt_of_not-le, get_or-set_same, get_or-set_other}
use Rattle.std.specs.Prelude.{is_some, slice_index, sum_by}
use Rattle.std.proofs.lemmas.Bool.Decides.{nat_tests}
use mathlib.Core.Logic.{dite}
use mathlib.Core.Option.{some, none, some-injective, some-ne-none}
use native.Mathlib.Decide.{dec_le}
use lib.ListN.{get_elem?}
use Rattle.atomic_table.specs.Table.{takes, keeps, Allows, step}
use Rattle.atomic_table.proofs.Lists.{at_set, set_else, set_here}
use Rattle.mill_board.specs.declared.work.Held.{Held}
use Rattle.mill_board.specs.declared.work.Terms.{Terms}
use Rattle.mill_board.specs.declared.view.View.{View}
use Rattle.mill_board.specs.Works.{Means, IsTrueHeld, started}
use Rattle.mill_board.specs.Kept.{BoardState, Kept, back_of, claim_of, least_of, is_home, once_under, spare_ended, times}
use Rattle.mill_board.specs.inner.Plays.{Draws, Mine}
use Rattle.mill_board.proofs.Sums.{times_push, sum_set, sum_has, sum_under, once_more, once_same, once_none, some_or_none, here, homes_taken, homes_past}
use Rattle.mill_board.proofs.Views.{each_view, owner_set, same_some}
use Rattle.mill_board.proofs.Listed.{FailsIn, fails_more, listed_set}

module _ {W P : Type 0} (M : Means W P) (terms : Terms W) where
  -- the claim can rise by one
  claim_small : (s : BoardState W P) → Kept M terms s → claim_of s + 1 < 2 ^ 64
  claim_small s h =
      let a = h.claim_most in let b = h.few in
      let c = sum_under spare_ended (λ v. v.spare) (λ v. some_or_none (is_some v.ended) v.spare) s.views in
      let d = h.spare in omega (arith, a, b, c, d)

  -- a number that is a piece's is drawn
  draws_piece : (s : BoardState W P) (id : ℕ) (v : View W) → Kept M terms s → get_elem? s.views id ≡ some v → v.out ≡ None → v.ended ≡ None → claim_of s < M.pieces terms.work
      → Kept M terms record {
        words = set s.words 0 (claim_of s + 1);
        homes = set s.homes (claim_of s) none;
        views = set s.views id (record v { drawn = v.drawn ++ claim_of s ∷ []; out = Some (claim_of s) });
      }
  draws_piece s id v h at free going room =
      let c : ℕ = claim_of s in
      let w : View W = record v { drawn = v.drawn ++ c ∷ []; out = Some c } in
      let word : slice_index (set s.words 0 (c + 1)) 0 ≡ c + 1 = get_or-set_same s.words 0 (c + 1) 0 (let t = h.words in omega (arith, t)) in
      let other : slice_index (set s.words 0 (c + 1)) 1 ≡ least_of s = get_or-set_other s.words 0 1 (c + 1) 0 (λ e. omega arith) in
      let other2 : slice_index (set s.words 0 (c + 1)) 2 ≡ back_of s = get_or-set_other s.words 0 2 (c + 1) 0 (λ e. omega arith) in
      record {
        words = length-set s.words 0 (c + 1) ∙ h.words;
        slots = length-set s.homes c none ∙ h.slots;
        few = h.few;
        spans = h.spans;
        terms_are = each_view (λ u. u.terms ≡ terms) s.views id w h.terms_are (h.terms_are id v at);
        numbers = λ n.
            let a = sum_set (λ (u : View W). times n u.drawn) s.views id v w at in
            let b = times_push n c v.drawn in
            let d = h.numbers n in
            let e = once_more n c (M.pieces terms.work) room in
            let f : once_under n (min (c + 1) (M.pieces terms.work)) ≡ once_under n (min (slice_index (set s.words 0 (c + 1)) 0) (M.pieces terms.work)) = ap (λ k. once_under n (min k (M.pieces terms.work))) (sym word) in
            omega (arith, a, b, d, e) ∙ f;
        seen = λ j u e. subst (λ k. k ≤ u.seen) (sym other) (each_view (λ z. least_of s ≤ z.seen) s.views id w h.seen (h.seen id v at) j u e);
        least = subst (λ k. FailsIn M terms (set s.views id w) k) (sym other) (fails_more M terms s.views (set s.views id w) (least_of s) (λ n. listed_set s.views id v w n at (λ lt. let b = times_push n c v.drawn in omega (arith, lt, b))) h.least);
        back = other2 ∙ h.back ∙ sym (homes_taken s.homes c) ∙ ap (λ k. sum_by is_home (take k (set s.homes c none))) (sym (add-one c) ∙ sym word);
        outs = λ j u n e o. ⊎_elim
            (λ (t : (j ≡ id) × (w ≡ u)). let same : c ≡ n = same_some c n (ap (λ (z : View W). z.out) t.1 ∙ o) in
            let one : 0 < times c w.drawn = let q = times_push c c v.drawn in let one_n : ℕ = 1 in let r : cond (c == c) 1 0 ≡ one_n = grind (arith, nat_tests) in omega (arith, q, r) in
            (subst (λ m. 0 < times m u.drawn) same (subst (λ (z : View W). 0 < times c z.drawn) t.1 one), subst (λ m. get_elem? (set s.homes c none) m ≡ some none) same (set_here s.homes c none (let z = h.slots in omega (arith, z)))))
            (λ (t : (j ≢ id) × (get_elem? s.views j ≡ some u)). let was = h.outs j u n t.1 o in
            let ne : n ≢ c = λ x. let y = h.numbers c in let z = once_none c (M.pieces terms.work) in let k = sum_has (λ (q : View W). times c q.drawn) s.views j u t.1 in
            let l : 0 < times c u.drawn = subst (λ m. 0 < times m u.drawn) x was.0 in absurd (omega (arith, y, z, k, l)) in
            (was.0, set_else s.homes c n none ne ∙ was.1)) (at_set s.views id j w u e);
        busy = λ j u n e o. each_view (λ z. (m : ℕ) → z.out ≡ Some m → z.ended ≡ None) s.views id w (λ i z f m. h.busy i z m f) (λ m _. going) j u e n o;
        owned = λ n e. ⊎_elim
            (λ (t : (n ≡ c) × (none ≡ none)). (id, w, here s.views id v w at, ap Some (sym t.0)))
            (λ (t : (n ≢ c) × (get_elem? s.homes n ≡ some none)). let q = h.owned n t.1 in
            let ne : q.0 ≢ id = λ x. let y : some q.1 ≡ some v = sym q.2 ∙ ap (get_elem? s.views) x ∙ at in let z : q.1.out ≡ v.out = ap (λ (k : View W). k.out) (some-injective q.1 v y) in
            let g : Some n ≡ None = sym q.3 ∙ z ∙ free in absurd (cc) in
            (q.0, q.1, set_else s.views id q.0 w ne ∙ q.2, q.3)) (at_set s.homes c n none none e);
        home = λ n x e. ⊎_elim (λ (t : (n ≡ c) × (none ≡ some x)). absurd (some-ne-none x (sym t.1))) (λ (t : (n ≢ c) × (get_elem? s.homes n ≡ some (some x))). h.home n x t.1) (at_set s.homes c n none (some x) e);
        untouched = λ n le lt. let le' : c + 1 ≤ n = subst (λ k. k ≤ n) word le in set_else s.homes c n none (λ e. absurd (omega arith)) ∙ h.untouched n (omega arith) lt;
        claim_most = let a = sum_set spare_ended s.views id v w at in let b = h.claim_most in omega (arith, word, a, b, room);
        all_out = λ j u m e is. let t = each_view (λ z. (k : ℕ) → z.ended ≡ Some k → (M.pieces terms.work ≤ k) × (k < c)) s.views id w (λ i z f k. h.all_out i z k f) (λ k. h.all_out id v k at) j u e m is in (t.0, let lt = t.1 in omega (arith, word, lt));
        spares = each_view (λ u. 1 ≤ u.spare) s.views id w h.spares (h.spares id v at);
        spare = let a = sum_set (λ (u : View W). u.spare) s.views id v w at in let b = h.spare in omega (arith, a, b);
      }

  -- none is left
  draws_end : (s : BoardState W P) (id : ℕ) (v : View W) → Kept M terms s → get_elem? s.views id ≡ some v → v.ended ≡ None → v.out ≡ None → M.pieces terms.work ≤ claim_of s
      → Kept M terms record { words = set s.words 0 (claim_of s + 1); homes = s.homes; views = set s.views id (record v { ended = Some (claim_of s) }) }
  draws_end s id v h at going free none_left =
      let c : ℕ = claim_of s in
      let w : View W = record v { ended = Some (claim_of s) } in
      let word : slice_index (set s.words 0 (c + 1)) 0 ≡ c + 1 = get_or-set_same s.words 0 (c + 1) 0 (let t = h.words in omega (arith, t)) in
      let other : slice_index (set s.words 0 (c + 1)) 1 ≡ least_of s = get_or-set_other s.words 0 1 (c + 1) 0 (λ e. omega arith) in
      let other2 : slice_index (set s.words 0 (c + 1)) 2 ≡ back_of s = get_or-set_other s.words 0 2 (c + 1) 0 (λ e. omega arith) in
      record {
        words = length-set s.words 0 (c + 1) ∙ h.words;
        slots = h.slots;
        few = h.few;
        spans = h.spans;
        terms_are = each_view (λ u. u.terms ≡ terms) s.views id w h.terms_are (h.terms_are id v at);
        numbers = λ n.
            let a = sum_set (λ (u : View W). times n u.drawn) s.views id v w at in
            let d = h.numbers n in
            let e = once_same n c (M.pieces terms.work) none_left in
            let f : once_under n (min (c + 1) (M.pieces terms.work)) ≡ once_under n (min (slice_index (set s.words 0 (c + 1)) 0) (M.pieces terms.work)) = ap (λ k. once_under n (min k (M.pieces terms.work))) (sym word) in
            omega (arith, a, d, e) ∙ f;
        seen = λ j u e. subst (λ k. k ≤ u.seen) (sym other) (each_view (λ z. least_of s ≤ z.seen) s.views id w h.seen (h.seen id v at) j u e);
        least = subst (λ k. FailsIn M terms (set s.views id w) k) (sym other) (fails_more M terms s.views (set s.views id w) (least_of s) (λ n. listed_set s.views id v w n at (λ lt. lt)) h.least);
        back = other2 ∙ h.back ∙ sym (homes_past s.homes c (let t = h.slots in omega (arith, t))) ∙ ap (λ k. sum_by is_home (take k s.homes)) (sym (add-one c) ∙ sym word);
        outs = λ j u n e o. each_view (λ z. (m : ℕ) → z.out ≡ Some m → (0 < times m z.drawn) × (get_elem? s.homes m ≡ some none)) s.views id w (λ k z f m. h.outs k z m f) (λ m. h.outs id v m at) j u e n o;
        busy = λ j u n e o. each_view (λ z. (m : ℕ) → z.out ≡ Some m → z.ended ≡ None) s.views id w (λ i z f m. h.busy i z m f) (λ m q. absurd (let r : None ≡ Some m = sym free ∙ q in cc)) j u e n o;
        owned = λ n e. let q = h.owned n e in owner_set s.views id v w n at (λ o. o) q;
        home = h.home;
        untouched = λ n le lt. absurd (let le' : c + 1 ≤ n = subst (λ k. k ≤ n) word le in omega (arith, le', lt, none_left));
        claim_most = let a = sum_set spare_ended s.views id v w at in let b = h.claim_most in let d : spare_ended v ≡ 0 = ap (λ (o : Option ℕ). cond (is_some o) v.spare 0) going in let e = h.spares id v at in omega (arith, word, a, b, d, e);
        all_out = λ j u m e is. each_view (λ z. (k : ℕ) → z.ended ≡ Some k → (M.pieces terms.work ≤ k) × (k < slice_index (set s.words 0 (c + 1)) 0)) s.views id w
            (λ i z f k g. let t = h.all_out i z k f g in (t.0, let lt = t.1 in omega (arith, word, lt)))
            (λ k g. let same : c ≡ k = same_some c k g in (omega (arith, none_left, same), omega (arith, word, same))) j u e m is;
        spares = each_view (λ u. 1 ≤ u.spare) s.views id w h.spares (h.spares id v at);
        spare = let a = sum_set (λ (u : View W). u.spare) s.views id v w at in let b = h.spare in omega (arith, a, b);
      }

  -- a seat that hasn't ended and holds no piece draws a number: it takes that slot, or no piece is left
  pub draws : (slots id : ℕ) (me : Mine W P) → me.0.ended ≡ None → me.0.out ≡ None → Allows (Kept M terms) slots id me 0 (λ n. (n + 1) % 2 ^ 64) (Draws M (step slots 0 1 0 none) me)
  draws slots id me going free s h len at small =
      let v : View W = me.0 in
      let c : ℕ = claim_of s in
      let next : (c + 1) % 2 ^ 64 ≡ c + 1 = mod-eq_of_lt (claim_small s h) in
      let mine : v.terms ≡ terms = h.terms_are id v at in
      let none_drawn : times c v.drawn ≡ 0 = let a = sum_has (λ (u : View W). times c u.drawn) s.views id v at in let b = h.numbers c in let d = once_none c (M.pieces terms.work) in omega (arith, a, b, d) in
      let count : slots ≡ M.pieces v.terms.work = sym len ∙ h.slots ∙ ap (λ (t : Terms W). M.pieces t.work) (sym mine) in
      dite (dec_le (M.pieces terms.work) c)
      (λ le. (
        record v { ended = Some (claim_of s) },
        keeps,
        tt,
        subst (λ k. Kept M terms record { words = set s.words 0 k; homes = s.homes; views = set s.views id (record v { ended = Some (claim_of s) }) }) (sym next) (draws_end s id v h at going free le),
        (count, inr record { over = subst (λ (t : Terms W). M.pieces t.work ≤ c) (sym mine) le; view = refl; carried = refl }),
      ))
      (λ gt. let room : c < M.pieces terms.work = lt_of_not-le gt in
      let first = h.untouched c (omega arith) room in
      let home = h.home c (Some (started M terms.work c)) first in
      let is_it : started M terms.work c ≡ home.0 = same_some (started M terms.work c) home.0 home.1 in
      let is_true : IsTrueHeld M terms.work (started M terms.work c) = subst (λ (k : Held P). IsTrueHeld M terms.work k) (sym is_it) home.3 in (
        record v { drawn = v.drawn ++ c ∷ []; out = Some c },
        takes c (Some (started M terms.work c)),
        first,
        subst (λ k. Kept M terms record { words = set s.words 0 k; homes = set s.homes c none; views = set s.views id (record v { drawn = v.drawn ++ c ∷ []; out = Some c }) }) (sym next) (draws_piece s id v h at free going room),
        (
          count,
          inl record {
            under = subst (λ (t : Terms W). c < M.pieces t.work) (sym mine) room;
            view = refl;
            taken = ap (λ (t : Terms W). let x : List (ℕ × Option (Held P)) = (c, Some (started M t.work c)) ∷ me.1 in x) (sym mine);
            fresh = none_drawn;
            is_true = subst (λ (t : Terms W). IsTrueHeld M t.work (started M t.work c)) (sym mine) is_true;
          },
        ),
      ))
