-- A step that looks at the least turn, or lowers it, keeps the rule.
use Rattle.std.proofs.Common.{◌≡◌, ℕ, ◌<◌, ◌≤◌, min, set, refl, sym, ap, subst, ◌∙◌, arith, inr, Some, None, length-set, take, get_or-set_same, get_or-set_other}
use Rattle.std.specs.Prelude.{slice_index, sum_by}
use mathlib.Core.Logic.{dite}
use mathlib.Core.Option.{some, none}
use native.Mathlib.Decide.{dec_le}
use lib.ListN.{get_elem?}
use Rattle.atomic_table.specs.Table.{keeps, Allows, step}
use Rattle.mill_board.specs.declared.work.Terms.{Terms}
use Rattle.mill_board.specs.declared.view.View.{View}
use Rattle.mill_board.specs.Works.{Means, FailsAt, IsFailure, started}
use Rattle.mill_board.specs.Kept.{BoardState, IsListedFailure, Kept, back_of, claim_of, least_of, is_home, once_under, spare_ended, times}
use Rattle.mill_board.specs.inner.Plays.{Looks, Lowers, Mine}
use Rattle.mill_board.proofs.Sums.{sum_set}
use Rattle.mill_board.proofs.Views.{each_view, owner_set}
use Rattle.mill_board.proofs.Listed.{FailsIn, fails_more, is_failure, listed_set}

module _ {W P : Type 0} (M : Means W P) (terms : Terms W) where
  -- the least word and what one seat has seen fall together
  seen_falls : (s : BoardState W P) (id : ℕ) (v : View W) (x : ℕ) → Kept M terms s → get_elem? s.views id ≡ some v → x ≤ least_of s → IsListedFailure M terms s x
      → Kept M terms record { words = set s.words 1 x; homes = s.homes; views = set s.views id (record v { seen = x }) }
  seen_falls s id v x h at le fail =
      let w : View W = record v { seen = x } in
      let len = h.words in
      let word : slice_index (set s.words 1 x) 1 ≡ x = get_or-set_same s.words 1 x 0 (omega (arith, len)) in
      let other0 : slice_index (set s.words 1 x) 0 ≡ claim_of s = get_or-set_other s.words 1 0 x 0 (λ e. omega arith) in
      let other2 : slice_index (set s.words 1 x) 2 ≡ back_of s = get_or-set_other s.words 1 2 x 0 (λ e. omega arith) in
      record {
        words = length-set s.words 1 x ∙ h.words;
        slots = h.slots;
        few = h.few;
        spans = h.spans;
        terms_are = each_view (λ u. u.terms ≡ terms) s.views id w h.terms_are (h.terms_are id v at);
        numbers = λ n. let a = sum_set (λ (u : View W). times n u.drawn) s.views id v w at in let d = h.numbers n in
            let f : once_under n (min (slice_index (set s.words 1 x) 0) (M.pieces terms.work)) ≡ once_under n (min (claim_of s) (M.pieces terms.work)) = ap (λ k. once_under n (min k (M.pieces terms.work))) other0 in
            omega (arith, a, d) ∙ sym f;
        seen = λ j u e. subst (λ k. k ≤ u.seen) (sym word) (each_view (λ z. x ≤ z.seen) s.views id w (λ k z f. let q = h.seen k z f in omega (arith, q, le)) (omega arith) j u e);
        least = subst (λ k. FailsIn M terms (set s.views id w) k) (sym word) (fails_more M terms s.views (set s.views id w) x (λ n. listed_set s.views id v w n at (λ lt. lt)) fail);
        home = h.home;
        untouched = λ n. subst (λ k. k ≤ n → n < M.pieces terms.work → get_elem? s.homes n ≡ some (some (Some (started M terms.work n)))) (sym other0) (h.untouched n);
        back = other2 ∙ h.back ∙ ap (λ k. sum_by is_home (take k s.homes)) (sym other0);
        outs = λ j u n e o. each_view (λ z. (m : ℕ) → z.out ≡ Some m → (0 < times m z.drawn) × (get_elem? s.homes m ≡ some none)) s.views id w (λ k z f m. h.outs k z m f) (λ m. h.outs id v m at) j u e n o;
        busy = λ j u n e o. each_view (λ z. (m : ℕ) → z.out ≡ Some m → z.ended ≡ None) s.views id w (λ i z f m. h.busy i z m f) (λ m. h.busy id v m at) j u e n o;
        owned = λ n e. owner_set s.views id v w n at (λ o. o) (h.owned n e);
        claim_most = let a = sum_set spare_ended s.views id v w at in let b = h.claim_most in omega (arith, other0, a, b);
        all_out = λ j u m e is. let t = each_view (λ z. (k : ℕ) → z.ended ≡ Some k → (M.pieces terms.work ≤ k) × (k < claim_of s)) s.views id w (λ i z f k. h.all_out i z k f) (λ k. h.all_out id v k at) j u e m is in (t.0, let lt = t.1 in omega (arith, other0, lt));
        spares = each_view (λ u. 1 ≤ u.spare) s.views id w h.spares (h.spares id v at);
        spare = let a = sum_set (λ (u : View W). u.spare) s.views id v w at in let b = h.spare in omega (arith, a, b);
      }

  pub looks : (slots id : ℕ) (me : Mine W P) → Allows (Kept M terms) slots id me 1 (λ n. n) (Looks M (step slots 1 0 0 none) me)
  looks slots id me s h len at small =
      let v : View W = me.0 in let x : ℕ = least_of s in
      let mine : v.terms ≡ terms = h.terms_are id v at in (
        record v { seen = x },
        keeps,
        tt,
        seen_falls s id v x h at (omega arith) h.least,
        record { falls = h.seen id v at; failure = subst (λ (t : Terms W). IsFailure M t x) (sym mine) (is_failure M terms s h x h.least); view = refl; carried = refl },
      )

  -- a seat lowers to the turn at which the piece of the number that it has out fails
  pub lowers : (slots id n t : ℕ) (me : Mine W P) → me.0.out ≡ Some n → FailsAt M me.0.terms.work n t → Allows (Kept M terms) slots id me 1 (λ n. min n t) (Lowers M (step slots 1 t 0 none) me)
  lowers slots id n t me out fail s h len at small =
      let v : View W = me.0 in let x : ℕ = least_of s in
      let mine : v.terms ≡ terms = h.terms_are id v at in
      let fail_here : IsListedFailure M terms s t = inr (n, (id, v, at, (h.outs id v n at out).0), subst (λ (k : Terms W). FailsAt M k.work n t) mine fail) in
      let seen = h.seen id v at in
      let either : IsListedFailure M terms s (min x t) = dite (dec_le x t) (λ le. subst (λ k. IsListedFailure M terms s k) (let e : x ≡ min x t = omega arith in e) h.least) (λ gt. subst (λ k. IsListedFailure M terms s k) (let e : t ≡ min x t = omega arith in e) fail_here) in (
        record v { seen = min x t },
        keeps,
        tt,
        seen_falls s id v (min x t) h at (omega arith) either,
        record { falls = omega (arith, seen); failure = subst (λ (k : Terms W). IsFailure M k (min x t)) (sym mine) (is_failure M terms s h (min x t) either); view = refl; carried = refl },
      )
