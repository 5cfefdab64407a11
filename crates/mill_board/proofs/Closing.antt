-- What the words and slots of a closed board are, and how its pieces settle one after another.
use Rattle.std.proofs.Common.{◌≡◌, ℕ, ◌<◌, ◌≤◌, ◌+◌, ◌++◌, [], ◌∷◌, zero, suc, min, length-append, List, length, refl, sym, ap, subst, ◌∙◌, arith, Option, Some, None, get_or, Bool, true, false, lt_of_not-le, ⊎_elim, ◌⊎◌, inl, inr}
use Rattle.std.specs.Prelude.{if◌then◌else◌, slice_get, slice_index}
use mathlib.Core.Logic.{dite}
use mathlib.Core.Option.{some, some-injective, some-ne-none}
use native.Mathlib.Decide.{dec_le, ℕ_discrete}
use lib.ListN.{get_elem?}
use Rattle.atomic_table.specs.Table.{Final, Seen}
use Rattle.mill_board.specs.declared.work.Held.{Held}
use Rattle.mill_board.specs.declared.work.Terms.{Terms}
use Rattle.mill_board.specs.declared.view.View.{View}
use Rattle.mill_board.specs.Works.{Means, FailsAt, HasSpans, IsClosed, IsDone, IsFailure, IsThrough, IsTrueHeld, started}
use Rattle.mill_board.specs.Kept.{BoardState, Kept, claim_of, least_of}
use Rattle.mill_board.specs.inner.Closings.{HasTrue, HasTrueFrom, IsSettled, IsSound}
use Rattle.mill_board.proofs.Failing.{one_fail, past}
use Rattle.mill_board.proofs.Listed.{is_failure}
use Rattle.mill_board.proofs.Sums.{all_home}

word_is : (ws : List ℕ) (i n : ℕ) → get_elem? ws i ≡ some n → slice_index ws i ≡ n
word_is [] i n e = absurd (some-ne-none n (sym e))
word_is (x ∷ xs) zero n e = some-injective x n e
word_is (x ∷ xs) (suc i) n e = word_is xs i n e

got : {A : Type 0} → (xs : List (Option A)) (n : ℕ) (o : Option A) → get_elem? xs n ≡ some o → get_or xs n None ≡ o
got [] n o e = absurd (some-ne-none o (sym e))
got (x ∷ xs) zero o e = some-injective x o e
got (x ∷ xs) (suc n) o e = got xs n o e

past_end : {A : Type 0} → (xs : List (Option A)) (n : ℕ) → length xs ≤ n → get_or xs n None ≡ None
past_end [] n le = refl
past_end (x ∷ xs) zero le = absurd (omega arith)
past_end (x ∷ xs) (suc n) le = past_end xs n (omega arith)

-- what is known of the words and slots of a closed board
pub record Left {W P : Type 0} (M : Means W P) (terms : Terms W) (claim least back : ℕ) (slots : List (Option (Held P))) : Type 0 where
  pub spans : HasSpans M terms.work terms.turns
  pub count : length slots ≡ M.pieces terms.work
  pub failure : IsFailure M terms least
  pub sound : (from : ℕ) → IsSound claim back (M.pieces terms.work) from → HasTrueFrom M terms.work from slots

module _ {W P : Type 0} (M : Means W P) (terms : Terms W) where
  -- a slot that was at home has its true piece
  home_is : (id : ℕ) (v : View W) (ws : List ℕ) (xs : List (Option (Held P))) → (f : Final (Seen (Kept M terms) id v) ws xs) → (n : ℕ) (x : Option (Held P)) → get_elem? f.0.homes n ≡ some (some x)
      → HasTrue M terms.work n (get_or xs n None)
  home_is id v ws xs f n x e =
      let t = f.1.0.home n x e in
      let at : get_or xs n None ≡ Some t.0 = got xs n x (f.4 n x e) ∙ t.1 in
      subst (λ (o : Option (Held P)). HasTrue M terms.work n o) (sym at) (t.3, t.2)

  from_claim : (id : ℕ) (v : View W) (ws : List ℕ) (xs : List (Option (Held P))) → (f : Final (Seen (Kept M terms) id v) ws xs) → HasTrueFrom M terms.work (claim_of f.0) xs
  from_claim id v ws xs f n le = dite (dec_le (length xs) n)
      (λ over. subst (λ (o : Option (Held P)). HasTrue M terms.work n o) (sym (past_end xs n over)) tt)
      (λ gt. let lt = lt_of_not-le gt in let h = f.1.0 in let c = h.slots in let d = f.3 in
      home_is id v ws xs f n (Some (started M terms.work n)) (h.untouched n le (omega (arith, lt, c, d))))

  -- where as many pieces came back as were drawn, every slot has its piece
  from_start : (id : ℕ) (v : View W) (ws : List ℕ) (xs : List (Option (Held P))) → (f : Final (Seen (Kept M terms) id v) ws xs) → slice_index ws 2 ≡ min (slice_index ws 0) (M.pieces terms.work) → HasTrueFrom M terms.work 0 xs
  from_start id v ws xs f all n le =
      let s : BoardState W P = f.0 in let h = f.1.0 in
      dite (dec_le (claim_of s) n) (from_claim id v ws xs f n)
      (λ gt. dite (dec_le (length xs) n)
      (λ over. subst (λ (o : Option (Held P)). HasTrue M terms.work n o) (sym (past_end xs n over)) tt)
      (λ in_list. let under = lt_of_not-le gt in let lt = lt_of_not-le in_list in
      let w0 = ap (λ (l : List ℕ). slice_index l 0) f.2 in let w2 = ap (λ (l : List ℕ). slice_index l 2) f.2 in let b = h.back in let c = h.slots in let d = f.3 in
      let q = all_home s.homes (claim_of s) n (omega (arith, all, w0, w2, b, c)) (omega (arith, under, lt, d)) in home_is id v ws xs f n q.0 q.1))

  pub left : (id : ℕ) (v : View W) (ws : List ℕ) (xs : List (Option (Held P))) (claim least back : ℕ) → Final (Seen (Kept M terms) id v) ws xs
      → get_elem? ws 0 ≡ some claim → get_elem? ws 1 ≡ some least → get_elem? ws 2 ≡ some back → Left M terms claim least back xs
  left id v ws xs claim least back f e0 e1 e2 =
      let h = f.1.0 in
      let word : (i n : ℕ) → get_elem? ws i ≡ some n → slice_index f.0.words i ≡ n = λ i n e. ap (λ (l : List ℕ). slice_index l i) f.2 ∙ word_is ws i n e in
      record {
        spans = h.spans;
        count = sym f.3 ∙ h.slots;
        failure = subst (λ k. IsFailure M terms k) (word 1 least e1) (is_failure M terms f.0 h (least_of f.0) h.least);
        sound = λ from is. ⊎_elim
            (λ (t : from ≡ claim). let q : claim_of f.0 ≡ from = word 0 claim e0 ∙ sym t in subst (λ k. HasTrueFrom M terms.work k xs) q (from_claim id v ws xs f))
            (λ (t : (from ≡ 0) × (back ≡ min claim (M.pieces terms.work))). let a = word_is ws 0 claim e0 in let b = word_is ws 2 back e2 in let e = t.1 in
            subst (λ k. HasTrueFrom M terms.work k xs) (sym t.0) (from_start id v ws xs f (omega (arith, a, b, e)))) is;
      }

module _ {W P : Type 0} (M : Means W P) (work : W) where
  -- a piece that is through fails at no turn under the lesser of its own failing turn and the least one
  pub through_least : (h : Held P) (least low t : ℕ) → IsTrueHeld M work h → IsThrough M work least h → low ≤ least → (h.failed ≡ true → low ≤ h.next) → FailsAt M work h.number t → low ≤ t
  through_least h least low t is by le fell f = by_cases h.failed refl
    where
      by_cases : (b : Bool) → h.failed ≡ b → low ≤ t
      by_cases true e = let g = is.failed e in let x = one_fail M work h.number h.next t g.0 f in let y = fell e in omega (arith, x, y)
      by_cases false e = let g = is.going e in let x = past M work h.number h.next t g.2 f in let y = f.to in
          ⊎_elim (λ (z : h.failed ≡ true). absurd (cc)) (λ k. ⊎_elim (λ (z : M.limit work h.number ≤ h.next). absurd (omega (arith, x, y, z))) (λ (z : least < h.next). omega (arith, x, z, le)) k) by

snoc_get : {A : Type 0} → (l : List A) (a b : A) (j : ℕ) → slice_get (l ++ a ∷ []) j ≡ Some b → (slice_get l j ≡ Some b) ⊎ ((j ≡ length l) × (a ≡ b))
snoc_get [] a b zero e = inr (refl, cc)
snoc_get [] a b (suc j) e = absurd (cc)
snoc_get (x ∷ xs) a b zero e = inl e
snoc_get (x ∷ xs) a b (suc j) e = ⊎_elim inl (λ (t : (j ≡ length xs) × (a ≡ b)). inr (let q = t.0 in omega arith, t.1)) (snoc_get xs a b j e)

low_facts : (b : Bool) (least next low : ℕ) → low ≡ (if b then min least next else least) → (low ≤ least) × (b ≡ true → low ≤ next)
low_facts true least next low e = (omega (arith, e), λ t. omega (arith, e))
low_facts false least next low e = (omega (arith, e), λ t. absurd (cc))

module _ {W P : Type 0} (M : Means W P) (terms : Terms W) where
  low_fails : (b : Bool) (least next low : ℕ) → low ≡ (if b then min least next else least) → IsFailure M terms least → (b ≡ true → IsFailure M terms next) → IsFailure M terms low
  low_fails true least next low e f g = dite (dec_le least next) (λ le. let q : least ≡ low = omega (arith, e) in subst (λ k. IsFailure M terms k) q f) (λ gt. let q : next ≡ low = omega (arith, e) in subst (λ k. IsFailure M terms k) q (g refl))
  low_fails false least next low e f g = subst (λ k. IsFailure M terms k) (sym e) f

  still_through : (h : Held P) (least low : ℕ) → low ≤ least → IsThrough M terms.work least h → IsThrough M terms.work low h
  still_through h least low le t = ⊎_elim inl (λ k. inr (⊎_elim inl (λ (z : least < h.next). inr (omega arith)) k)) t

  -- one piece more is done, and the least turn falls to its failing one
  pub settles : (n least low : ℕ) (hs : List (Held P)) (h : Held P) → IsSettled M terms n least hs → IsDone M terms.work least n h
      → low ≡ (if h.failed then min least h.next else least) → IsSettled M terms (n + 1) low (hs ++ h ∷ [])
  settles n least low hs h s d e =
      let f = low_facts h.failed least h.next low e in
      let len = s.count in
      let is = d.is_true in
      record {
        count = let a = length-append hs (h ∷ []) in omega (arith, a, len);
        each = λ k x at. ⊎_elim (λ (t : slice_get hs k ≡ Some x). let o = s.each k x t in record { number = o.number; is_true = o.is_true; through = still_through x least low f.0 o.through })
            (λ (t : (k ≡ length hs) × (h ≡ x)). let q : n ≡ k = let z = t.0 in omega (arith, z, len) in
            subst (λ (y : Held P). IsDone M terms.work low k y) t.1 (record { number = d.number ∙ q; is_true = is; through = still_through h least low f.0 d.through })) (snoc_get hs h x k at);
        failure = low_fails h.failed least h.next low e s.failure (λ b. let g = is.failed b in inr (h.number, is.number, g.0));
        under = λ k t lt fl. dite (ℕ_discrete k n)
            (λ same. through_least M terms.work h least low t is d.through f.0 f.1 (subst (λ j. FailsAt M terms.work j t) (same ∙ sym d.number) fl))
            (λ ne. let old = s.under k t (omega arith) fl in let g = f.0 in omega (arith, old, g));
      }

  pub all_settled : (n least : ℕ) (hs : List (Held P)) → n ≡ M.pieces terms.work → IsSettled M terms n least hs → IsClosed M terms least hs
  all_settled n least hs e s = record { count = s.count ∙ e; each = s.each; failure = s.failure; under = λ k t lt. s.under k t (omega (arith, lt, e)) }
