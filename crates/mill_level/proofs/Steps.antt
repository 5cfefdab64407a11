-- Lists of edges of which each is a step from the one before it, and how often an edge stands in one.
use Rattle.std.proofs.Common.{◌≡◌, ℕ, suc, ◌+◌, ◌-◌, ◌<◌, ◌≤◌, Bool, true, false, cond, List, [], ◌∷◌, ◌++◌, reverse, length, get_or, inl, inr, take, drop, refl, sym, ap, subst, ◌∙◌, arith}
use Rattle.std.proofs.lemmas.List.{get_or_default, get_or_push, get_or_append_left, get_or-append_right, get_or-take, get_or-drop, get_or-reverse, length_push, length-append, length-take, length-drop, length-reverse}
use Rattle.std.proofs.lemmas.Bool.{cases_lt}
use Rattle.std.proofs.lemmas.List.Sums.{sum_by-cons, sum_by_more, sum_by-take-le, get_or-le-sum_by}
use Rattle.mill_level.specs.declared.edge.Edge.{Edge}
use Rattle.mill_level.specs.Grids.{same_edge}
use Rattle.mill_level.specs.inner.Ways.{AreSteps, times_among}
use Rattle.mill_level.proofs.Edges.{same_is, same_self}

-- the edge stands in the list
abbrev pub Stands : List Edge → Edge → Type 0
Stands edges e = (k : ℕ) × (k < length edges) × ((d : Edge) → get_or edges k d ≡ e)

pub stands_at : (edges : List Edge) (k : ℕ) (d : Edge) → k < length edges → Stands edges (get_or edges k d)
stands_at edges k d lt = (k, lt, λ c. get_or_default edges k c d lt)

abbrev pub one_when : Bool → ℕ
one_when b = cond b 1 0

abbrev one_if : Edge → Edge → ℕ
one_if e d = one_when (same_edge d e)

one_self : (e : Edge) → one_if e e ≡ 1
one_self e = ap one_when (same_self e)

pub stands_counts : (edges : List Edge) (e : Edge) → Stands edges e → 0 < times_among e edges
stands_counts edges e s =
    let at : one_if e (get_or edges s.0 e) ≡ 1 = ap (one_if e) (s.2 e) ∙ one_self e in
    omega (arith, get_or-le-sum_by (one_if e) edges s.0 e s.1)

pub counts_stands : (edges : List Edge) (e : Edge) → 0 < times_among e edges → Stands edges e
counts_stands [] e some = absurd (omega arith)
counts_stands (a ∷ edges) e some = by (same_edge a e) refl (counts_stands edges e)
  where
    by : (b : Bool) → same_edge a e ≡ b → (0 < times_among e edges → Stands edges e) → Stands (a ∷ edges) e
    by true h rest = (0, omega arith, λ d. same_is a e h)
    by false h rest =
        let more : times_among e (a ∷ edges) ≡ one_if e a + times_among e edges = sum_by-cons (one_if e) a edges in
        let none : one_if e a ≡ 0 = ap one_when h in
        let s = rest (omega arith) in
        let lt = s.1 in
        (suc s.0, omega arith, s.2)

pub twice : (edges : List Edge) (e : Edge) (j k : ℕ) → j < k → k < length edges → get_or edges j e ≡ e → get_or edges k e ≡ e → 2 ≤ times_among e edges
twice edges e j k less lt at_j at_k =
    let long = length-take k edges in
    let first : one_if e (get_or (take k edges) j e) ≡ 1 = ap (one_if e) (get_or-take k edges j e less ∙ at_j) ∙ one_self e in
    let second : one_if e (get_or edges k e) ≡ 1 = ap (one_if e) at_k ∙ one_self e in
    omega (arith, get_or-le-sum_by (one_if e) (take k edges) j e (omega arith), sum_by_more (one_if e) edges k e lt, sum_by-take-le (one_if e) edges (k + 1))

-- the list begun at place m: first what stands from there on, and then the rest
abbrev pub turned : ℕ → List Edge → List Edge
turned m edges = drop m edges ++ take m edges

module _ (edges : List Edge) (m : ℕ) (within : m < length edges) where
  pub turned_length : length (turned m edges) ≡ length edges
  turned_length = omega (arith, length-append (drop m edges) (take m edges), length-drop m edges, length-take m edges)

  pub turned_low : (k j : ℕ) (d : Edge) → m + k ≡ j → j < length edges → get_or (turned m edges) k d ≡ get_or edges j d
  turned_low k j d at lt =
      let long = length-drop m edges in
      get_or_append_left (drop m edges) (take m edges) d k (omega arith) ∙ get_or-drop m edges k d ∙ ap (λ n. get_or edges n d) at

  pub turned_high : (k j : ℕ) (d : Edge) → m + k ≡ length edges + j → j < m → get_or (turned m edges) k d ≡ get_or edges j d
  turned_high k j d at lt =
      let long = length-drop m edges in
      let back : k - (length edges - m) ≡ j = omega arith in
      get_or-append_right (drop m edges) (take m edges) (length edges - m) k d long (omega arith)
      ∙ ap (λ n. get_or (take m edges) n d) back ∙ get_or-take m edges j d lt

module _ (Step : Edge → Edge → Type 0) where
  pub step_at : (a b c d : Edge) → a ≡ c → b ≡ d → Step c d → Step a b
  step_at a b c d e f h = subst (λ (x : Edge). Step x b) (sym e) (subst (λ (x : Edge). Step c x) (sym f) h)

  pub no_steps : (x : Edge) → AreSteps Step (x ∷ [])
  no_steps x k d lt = absurd (omega arith)

  pub steps_push : (edges : List Edge) (last x : Edge) → 0 < length edges → AreSteps Step edges → ((d : Edge) → get_or edges (length edges - 1) d ≡ last)
      → Step last x → AreSteps Step (edges ++ x ∷ [])
  steps_push edges last x some h ends next k d lt =
      let long = length_push edges x in
      let here : k < length edges = omega arith in
      let kept : (j : ℕ) → j < length edges → get_or (edges ++ x ∷ []) j d ≡ get_or edges j d = λ j l. get_or_append_left edges (x ∷ []) d j l in
      elim (cases_lt (k + 1) (length edges)) [
        | inl l ↦ step_at _ _ _ _ (kept k here) (kept (k + 1) l) (h k d l)
        | inr g ↦
            let at : k ≡ length edges - 1 = omega arith in
            step_at _ _ _ _ (kept k here ∙ ap (λ n. get_or edges n d) at ∙ ends d) (get_or_push edges x d (k + 1) (omega arith)) next
      ]

  pub steps_back : (edges : List Edge) → AreSteps Step edges → AreSteps (λ a b. Step b a) (reverse edges)
  steps_back edges h k d lt =
      let long = length-reverse edges in
      let other : length edges - 1 - k ≡ (length edges - 1 - (k + 1)) + 1 = omega arith in
      step_at _ _ _ _ (get_or-reverse edges (k + 1) d (omega arith)) (get_or-reverse edges k d (omega arith) ∙ ap (λ n. get_or edges n d) other)
      (h (length edges - 1 - (k + 1)) d (omega arith))

  -- with a step from the last to the first, the list may begin anywhere
  pub steps_turned : (edges : List Edge) (m : ℕ) → m < length edges → AreSteps Step edges
      → ((d : Edge) → Step (get_or edges (length edges - 1) d) (get_or edges 0 d)) → AreSteps Step (turned m edges)
  steps_turned edges m within h closes k d lt =
      let long = turned_length edges m within in
      elim (cases_lt (m + (k + 1)) (length edges)) [
        | inl l ↦ step_at _ _ _ _ (turned_low edges m within k (m + k) d refl (omega arith)) (turned_low edges m within (k + 1) (m + k + 1) d (omega arith) (omega arith))
            (h (m + k) d (omega arith))
        | inr g ↦ elim (cases_lt (m + k) (length edges)) [
          | inl l ↦ step_at _ _ _ _ (turned_low edges m within k (length edges - 1) d (omega arith) (omega arith))
              (turned_high edges m within (k + 1) 0 d (omega arith) (omega arith)) (closes d)
          | inr f ↦
              let j = m + k - length edges in
              step_at _ _ _ _ (turned_high edges m within k j d (omega arith) (omega arith)) (turned_high edges m within (k + 1) (j + 1) d (omega arith) (omega arith))
              (h j d (omega arith))
        ]
      ]
