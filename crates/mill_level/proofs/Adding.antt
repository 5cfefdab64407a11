-- Items that are added to a list.
use Rattle.std.specs.Prelude.{◌≡◌, ℕ, ◌+◌, ◌-◌, ◌≤◌, ◌<◌, ℤ, pos, List, [], ◌∷◌, ◌++◌, length, slice_index_or, refl}
use Rattle.std.proofs.Common.{arith, sym, subst, ap, ◌∙◌, inl, inr}
use Rattle.std.proofs.lemmas.Bool.{cases_lt}
use Rattle.std.proofs.lemmas.List.{append-nil, append_assoc, length_push, get_or_append_left, get_or_push, get_or_default}
use Rattle.mill_level.specs.inner.Fibers.{AreAdded, IsPlaceBetween, Places}

module _ {X : Type 0} (IsRight : ℕ → X → Type 0) where
  pub none_added : (old : List X) → AreAdded IsRight 0 old old
  none_added old = record { added = []; is = sym (append-nil old); size = refl; each = λ k x below. absurd (omega (below, arith)) }

  -- one more item at the end
  at_end : (added : List X) (n k : ℕ) (x d : X) → length added ≡ n → n ≤ k → k < n + 1 → IsRight n x → IsRight k (slice_index_or (added ++ x ∷ []) k d)
  at_end added n k x d long from to h =
      let same : n ≡ k = omega (from, to, arith) in
      subst (λ m. IsRight m (slice_index_or (added ++ x ∷ []) m d)) same (subst (IsRight n) (sym (get_or_push added x d n long)) h)

  pub one_added : (n : ℕ) (old new later : List X) (x : X) → AreAdded IsRight n old new → IsRight n x → later ≡ new ++ x ∷ [] → AreAdded IsRight (n + 1) old later
  one_added n old new later x h right is = record {
    added = h.added ++ x ∷ [];
    is = is ∙ ap (λ xs. xs ++ x ∷ []) h.is ∙ append_assoc old h.added (x ∷ []);
    size = length_push h.added x ∙ ap (λ m. m + 1) h.size;
    each = λ k d below. elim (cases_lt k n) [
      | inl less ↦ subst (IsRight k) (sym (get_or_append_left h.added (x ∷ []) d k (subst (λ m. k < m) (sym h.size) less))) (h.each k d less)
      | inr more ↦ at_end h.added n k x d h.size more below right
    ];
  }

-- the place between the position before this number and its own
pub place_added : (Blocked : ℤ → Type 0) (positions : List ℤ) (at : ℕ) → 0 < at → at < length positions → (old new later : List ℤ) (place : ℤ)
    → IsPlaceBetween Blocked (slice_index_or positions (at - 1) (pos 0)) (slice_index_or positions at (pos 0)) place
    → AreAdded (Places Blocked positions) (at - 1) old new → later ≡ new ++ place ∷ [] → AreAdded (Places Blocked positions) (at + 1 - 1) old later
place_added Blocked positions at some inside old new later place between so_far is =
    subst (λ (n : ℕ). AreAdded (Places Blocked positions) n old later) same (one_added (Places Blocked positions) (at - 1) old new later place so_far right is)
  where
    same : at - 1 + 1 ≡ at + 1 - 1
    same = omega (some, arith)

    next : at - 1 + 1 ≡ at
    next = omega (some, arith)

    before : at - 1 < length positions
    before = omega (some, inside, arith)

    right : Places Blocked positions (at - 1) place
    right v _ =
        subst (λ (n : ℕ). IsPlaceBetween Blocked (slice_index_or positions (at - 1) v) (slice_index_or positions n v) place) (sym next)
        (subst (λ (p : ℤ). IsPlaceBetween Blocked p (slice_index_or positions at v) place) (get_or_default positions (at - 1) (pos 0) v before)
        (subst (λ (p : ℤ). IsPlaceBetween Blocked (slice_index_or positions (at - 1) (pos 0)) p place) (get_or_default positions at (pos 0) v inside) between))

-- what is added last stands for no place
pub last_added : (Blocked : ℤ → Type 0) (positions : List ℤ) (at : ℕ) → 0 < at → at ≡ length positions → (old new later : List ℤ) (place : ℤ)
    → AreAdded (Places Blocked positions) (at - 1) old new → later ≡ new ++ place ∷ [] → AreAdded (Places Blocked positions) (length positions) old later
last_added Blocked positions at some all old new later place so_far is =
    subst (λ (n : ℕ). AreAdded (Places Blocked positions) n old later) same (one_added (Places Blocked positions) (at - 1) old new later place so_far (λ v more. absurd (none more)) is)
  where
    same : at - 1 + 1 ≡ length positions
    same = omega (some, all, arith)

    none : at - 1 + 1 < length positions → ⊥
    none h = omega (h, some, all, arith)

-- what is right in one way is right in another
pub added_as : {X : Type 0} (R S : ℕ → X → Type 0) (n : ℕ) (old new : List X) → ((k : ℕ) (x : X) → k < n → R k x → S k x) → AreAdded R n old new → AreAdded S n old new
added_as R S n old new go h = record { added = h.added; is = h.is; size = h.size; each = λ k x below. go k (slice_index_or h.added k x) below (h.each k x below) }
