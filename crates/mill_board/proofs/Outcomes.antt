-- What a work comes to is one thing; and of its pieces, which turns pass.
use Rattle.std.proofs.Common.{◌≡◌, ◌∙◌, lt_of_not-le, ℕ, ◌<◌, ◌≤◌, ◌⊎◌, Bool, true, false, List, refl, sym, ap, arith, ⊎_elim, subst}
use mathlib.Core.Logic.{dite}
use native.Mathlib.Decide.{dec_le}
use Rattle.mill_board.specs.declared.work.Held.{Held}
use Rattle.mill_board.specs.declared.work.Terms.{Terms}
use Rattle.mill_board.specs.Works.{Means, FailsAt, HasSpans, IsClosed, IsDone, IsThrough, PassesBefore}
use Rattle.mill_board.specs.Laws.{HasOneState, OneOutcome}
use Rattle.mill_board.proofs.Failing.{one_fail, past}

module _ {W P : Type 0} (M : Means W P) (work : W) where
  -- a piece that fails at the least turn has failed there
  pub record HasFailedAt (t n : ℕ) (h : Held P) : Type 0 where
    pub number : h.number ≡ n
    pub next : h.next ≡ t
    pub failed : h.failed ≡ true
    pub piece : M.IsFailed work n t h.piece

  -- a piece that is through its last turn
  pub record IsPassed (n : ℕ) (h : Held P) : Type 0 where
    pub number : h.number ≡ n
    pub next : h.next ≡ M.limit work n
    pub failed : h.failed ≡ false
    pub passes : PassesBefore M work n h.next
    pub piece : M.IsAt work n h.next h.piece

  -- where a piece isn't through its turns to the least one, it has failed
  not_through : (h : Held P) (least : ℕ) → h.failed ≡ false → IsThrough M work least h → (M.limit work h.number ≤ h.next) ⊎ (least < h.next)
  not_through h least e t = ⊎_elim (λ (z : h.failed ≡ true). absurd (cc)) (λ k. k) t

  pub fails_least : (least n : ℕ) (h : Held P) → IsDone M work least n h → FailsAt M work n least → HasFailedAt least n h
  fails_least least n h d f = by_cases h.failed refl
    where
      at : FailsAt M work h.number least
      at = subst (λ k. FailsAt M work k least) (sym d.number) f

      by_cases : (b : Bool) → h.failed ≡ b → HasFailedAt least n h
      by_cases true e =
          let g = d.is_true.failed e in
          let next = one_fail M work h.number h.next least g.0 at in
          record { number = d.number; next = next; failed = e; piece = subst (λ k. M.IsFailed work n k h.piece) next (subst (λ k. M.IsFailed work k h.next h.piece) d.number g.1) }
      by_cases false e =
          let g = d.is_true.going e in let x = past M work h.number h.next least g.2 at in let to = at.to in
          absurd (⊎_elim (λ (z : M.limit work h.number ≤ h.next). omega (arith, x, to, z)) (λ (z : least < h.next). omega (arith, x, z)) (not_through h least e d.through))

  -- the turns of a piece up to the least one pass, but for the one at which it has failed
  pub passes_to : (least n : ℕ) (h : Held P) → IsDone M work least n h → ((t : ℕ) → FailsAt M work n t → least ≤ t)
      → (u : ℕ) → M.first work n ≤ u → u < M.limit work n → u ≤ least → ¬ ((h.failed ≡ true) × (h.next ≡ u)) → M.Passes work n u
  passes_to least n h d under u from to most apart = subst (λ k. M.Passes work k u) d.number (by_cases h.failed refl)
    where
      first : M.first work h.number ≤ u
      first = subst (λ k. M.first work k ≤ u) (sym d.number) from

      last : u < M.limit work h.number
      last = subst (λ k. u < M.limit work k) (sym d.number) to

      by_cases : (b : Bool) → h.failed ≡ b → M.Passes work h.number u
      by_cases true e =
          let g = d.is_true.failed e in
          let over = under h.next (subst (λ k. FailsAt M work k h.next) d.number g.0) in
          dite (dec_le h.next u)
          (λ le. absurd (apart (e, omega (arith, le, over, most))))
          (λ gt. g.0.passes u first (lt_of_not-le gt))
      by_cases false e =
          let g = d.is_true.going e in let l = last in
          let before : u < h.next = ⊎_elim (λ (z : M.limit work h.number ≤ h.next). omega (arith, l, z)) (λ (z : least < h.next). omega (arith, most, z)) (not_through h least e d.through) in
          g.2 u first before

  -- the turns of a piece before the least one pass
  pub passes_under : (least n : ℕ) (h : Held P) → IsDone M work least n h → ((t : ℕ) → FailsAt M work n t → least ≤ t)
      → (u : ℕ) → M.first work n ≤ u → u < M.limit work n → u < least → M.Passes work n u
  passes_under least n h d under u from to less = passes_to least n h d under u from to (omega (arith, less))
      (λ q. let over = under h.next (subst (λ k. FailsAt M work k h.next) d.number (d.is_true.failed q.0).0) in let here = q.1 in absurd (omega (arith, over, here, less)))

  -- where no piece fails, each is through its last turn
  pub passes_all : (turns least n : ℕ) (h : Held P) → HasSpans M work turns → least ≡ turns → ((n t : ℕ) → n < M.pieces work → FailsAt M work n t → least ≤ t)
      → IsDone M work least n h → IsPassed n h
  passes_all turns least n h spans none under d = by_cases h.failed refl
    where
      span : M.limit work h.number ≤ turns
      span = (spans h.number d.is_true.number).1

      by_cases : (b : Bool) → h.failed ≡ b → IsPassed n h
      by_cases true e = let g = d.is_true.failed e in let x = under h.number h.next d.is_true.number g.0 in let to = g.0.to in let s = span in absurd (omega (arith, x, to, s, none))
      by_cases false e =
          let g = d.is_true.going e in let s = span in let to = g.1 in
          let last : h.next ≡ M.limit work h.number = ⊎_elim (λ (z : M.limit work h.number ≤ h.next). omega (arith, to, z)) (λ (z : least < h.next). absurd (omega (arith, z, to, s, none))) (not_through h least e d.through) in
          record {
            number = d.number;
            next = last ∙ ap (M.limit work) d.number;
            failed = e;
            passes = subst (λ k. PassesBefore M work k h.next) d.number g.2;
            piece = subst (λ k. M.IsAt work k h.next h.piece) d.number g.3;
          }

  held_is : (a b : Held P) → a.number ≡ b.number → a.piece ≡ b.piece → a.next ≡ b.next → a.failed ≡ b.failed → a ≡ b
  held_is a b e f g h = λ i. record { number = e i; piece = f i; next = g i; failed = h i }

  -- two that failed at one turn are one
  same_failed : HasOneState M work → (t n : ℕ) (h k : Held P) → HasFailedAt t n h → HasFailedAt t n k → h ≡ k
  same_failed one t n h k a b = held_is h k (a.number ∙ sym b.number) (one.at_failure n t h.piece k.piece a.piece b.piece) (a.next ∙ sym b.next) (a.failed ∙ sym b.failed)

  -- two that are through their last turn are one
  same_passed : HasOneState M work → (n : ℕ) (h k : Held P) → IsPassed n h → IsPassed n k → h ≡ k
  same_passed one n h k a b =
      let next : h.next ≡ k.next = a.next ∙ sym b.next in
      held_is h k (a.number ∙ sym b.number) (one.at_turn n k.next h.piece k.piece (subst (λ t. M.IsAt work n t h.piece) next a.piece) b.piece) next (a.failed ∙ sym b.failed)

module _ {W P : Type 0} (M : Means W P) where
  -- no outcome's least turn is over another's
  not_over : (terms : Terms W) (least other : ℕ) (pieces others : List (Held P)) → HasSpans M terms.work terms.turns → IsClosed M terms least pieces → IsClosed M terms other others → least ≤ other
  not_over terms least other pieces others spans a b = ⊎_elim
      (λ (e : other ≡ terms.turns). ⊎_elim (λ (f : least ≡ terms.turns). omega (arith, e, f)) (λ (t : (n : ℕ) × (n < M.pieces terms.work) × FailsAt M terms.work n least). let to = t.2.to in let s = (spans t.0 t.1).1 in omega (arith, e, to, s)) a.failure)
      (λ (t : (n : ℕ) × (n < M.pieces terms.work) × FailsAt M terms.work n other). a.under t.0 other t.1 t.2) b.failure

  pub one_outcome : OneOutcome M
  one_outcome terms least pieces other others spans one a b =
      let same : least ≡ other = let x = not_over terms least other pieces others spans a b in let y = not_over terms other least others pieces spans b a in omega (arith, x, y) in
      record {
        least_is = same;
        failing = λ n h k at ak f. same_failed M terms.work one least n h k (fails_least M terms.work least n h (a.each n h at) f) (fails_least M terms.work least n k (subst (λ (t : ℕ). IsDone M terms.work t n k) (sym same) (b.each n k ak)) f);
        unfailed = λ none n h k at ak. same_passed M terms.work one n h k (passes_all M terms.work terms.turns least n h spans none a.under (a.each n h at)) (passes_all M terms.work terms.turns other n k spans (sym same ∙ none) b.under (b.each n k ak));
      }
