-- A seat that is split keeps the rule.
use Rattle.std.proofs.Common.{◌≡◌, ℕ, ◌+◌, ◌-◌, ◌/◌, ◌<◌, ◌≤◌, true, false, cond, [], ◌∷◌, ◌++◌, set, ◌∙◌, arith, Some, None}
use Rattle.std.specs.Prelude.{is_some}
use mathlib.Core.Option.{some, none}
use lib.ListN.{get_elem?}
use Rattle.atomic_table.specs.Table.{Splits}
use Rattle.atomic_table.proofs.Lists.{at_longer}
use Rattle.mill_board.specs.declared.work.Terms.{Terms}
use Rattle.mill_board.specs.declared.view.View.{View}
use Rattle.mill_board.specs.Works.{Means}
use Rattle.mill_board.specs.Seats.{kept_half, given_half}
use Rattle.mill_board.specs.Kept.{Kept, claim_of, least_of, times}
use Rattle.mill_board.proofs.Views.{owner_set, each_split, sum_split}
use Rattle.mill_board.proofs.Listed.{fails_more, listed_set}

module _ {W P : Type 0} (M : Means W P) (terms : Terms W) where
  pub splits : (id : ℕ) (v : View W) → 2 ≤ v.spare → Splits (Kept M terms) id v (kept_half v) (given_half v)
  splits id v two s h at =
      let one : 1 ≤ v.spare / 2 = omega arith in
      let rest_one : 1 ≤ v.spare - v.spare / 2 = omega arith in
      let sums : (v.spare - v.spare / 2) + v.spare / 2 ≡ v.spare = omega arith in
      record {
        words = h.words;
        slots = h.slots;
        few = h.few;
        spans = h.spans;
        terms_are = each_split (λ u. u.terms ≡ terms) s.views id (kept_half v) (given_half v) h.terms_are (h.terms_are id v at) (h.terms_are id v at);
        numbers = λ n. sum_split (λ u. times n u.drawn) s.views id v (kept_half v) (given_half v) at (omega arith) ∙ h.numbers n;
        seen = each_split (λ u. least_of s ≤ u.seen) s.views id (kept_half v) (given_half v) h.seen (h.seen id v at) (h.seen id v at);
        least = fails_more M terms s.views (set s.views id (kept_half v) ++ given_half v ∷ []) (least_of s) (λ n q. let t = listed_set s.views id v (kept_half v) n at (λ lt. lt) q in (t.0, t.1, at_longer (set s.views id (kept_half v)) (given_half v ∷ []) t.0 t.1 t.2, t.3)) h.least;
        home = h.home;
        untouched = h.untouched;
        back = h.back;
        outs = λ j u n e o. each_split (λ z. (m : ℕ) → z.out ≡ Some m → (0 < times m z.drawn) × (get_elem? s.homes m ≡ some none)) s.views id (kept_half v) (given_half v) (λ k z f m. h.outs k z m f) (λ m. h.outs id v m at) (λ m e. absurd (cc)) j u e n o;
        busy = λ j u m e o. each_split (λ z. (k : ℕ) → z.out ≡ Some k → z.ended ≡ None) s.views id (kept_half v) (given_half v) (λ i z f k. h.busy i z k f) (λ k. h.busy id v k at) (λ k q. absurd (cc)) j u e m o;
        owned = λ n e. let q = owner_set s.views id v (kept_half v) n at (λ o. o) (h.owned n e) in (q.0, q.1, at_longer (set s.views id (kept_half v)) (given_half v ∷ []) q.0 q.1 q.2, q.3);
        claim_most = let a = sum_split (λ u. cond (is_some u.ended) u.spare 0) s.views id v (kept_half v) (given_half v) at (elim (is_some v.ended) as (λ b. cond b (v.spare - v.spare / 2) 0 + cond b (v.spare / 2) 0 ≡ cond b v.spare 0) [ true ↦ sums | false ↦ omega arith ]) in let c = h.claim_most in omega (arith, a, c);
        all_out = λ j u m e is. each_split (λ z. (k : ℕ) → z.ended ≡ Some k → (M.pieces terms.work ≤ k) × (k < claim_of s)) s.views id (kept_half v) (given_half v) (λ i z f k. h.all_out i z k f) (λ k. h.all_out id v k at) (λ k. h.all_out id v k at) j u e m is;
        spares = each_split (λ u. 1 ≤ u.spare) s.views id (kept_half v) (given_half v) h.spares rest_one one;
        spare = let a = sum_split (λ (u : View W). u.spare) s.views id v (kept_half v) (given_half v) at sums in let c = h.spare in omega (arith, a, c);
      }
