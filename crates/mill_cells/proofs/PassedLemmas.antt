-- Numbers that are passed over, since their tops aren't over a height.
use Rattle.std.proofs.Common.{◌≡◌, ℕ, ◌<◌, List, [], ◌∷◌, ◌++◌, length, get_or, map, append_assoc, sym, subst, ap, ◌∙◌, inl, inr, Option, Some, None, arith}
use Rattle.std.specs.Prelude.{nat_eq, All, MatchOption}
use Rattle.std.specs.List.{Contains, IsDistinct}
use Rattle.std.proofs.lemmas.List.{length-append, get_or-map}
use Rattle.std.proofs.lemmas.List.Elements.{All-nil, All-cons, All-append, All-contains, Contains-append_cases, Contains-append_right, Contains-get_or}
use lib.IntN.{ℤ, pos}
use lib.Signed.{◌≤ℤ◌}
use Rattle.mill_base.specs.Points.{highest}
use Rattle.mill_base.specs.declared.points.Tri.{Tri}
use Rattle.mill_cells.specs.Ahead.{Ahead, Comes, NoneComes, AreDealt}
use Rattle.mill_cells.specs.inner.Passed.{ArePassed, IsNext}
use Rattle.mill_cells.specs.Sorted.{top_at}
use Rattle.mill_cells.proofs.Lists.{nothing_in_nil, here, there, cons_cases}

-- the top of a triangle in the list
pub top_is : (tris : List Tri) (i : ℕ) (d : Tri) → i < length tris → top_at (map highest tris) i ≡ highest (get_or tris i d)
top_is tris i d less = get_or-map highest tris i d (pos 0) less

-- what holds of each member
pub All-members : (P : ℕ → Type 0) (xs : List ℕ) → ((i : ℕ) → Contains xs i → P i) → All P xs
All-members P xs f k d less = f (get_or xs k d) (Contains-get_or xs k d less)

-- none is passed over, or one, or some and then more
pub none_passed : (tops : List ℤ) (height : ℤ) (old new : List ℕ) → old ≡ new → ArePassed tops height old new
none_passed tops height old new e = record { passed = []; split = e; under = All-nil (λ i. top_at tops i ≤ℤ height) }

pub one_passed : (tops : List ℤ) (height : ℤ) (old new : List ℕ) (i : ℕ) → old ≡ i ∷ new → top_at tops i ≤ℤ height → ArePassed tops height old new
one_passed tops height old new i e le =
    record { passed = i ∷ []; split = e; under = All-cons (λ j. top_at tops j ≤ℤ height) i [] le (All-nil (λ j. top_at tops j ≤ℤ height)) }

pub passed_on : (tops : List ℤ) (height : ℤ) (old mid new : List ℕ) → ArePassed tops height old mid → ArePassed tops height mid new → ArePassed tops height old new
passed_on tops height old mid new p q = record {
  passed = p.passed ++ q.passed;
  split = p.split ∙ (ap (λ (xs : List ℕ). p.passed ++ xs) q.split ∙ sym (append_assoc p.passed q.passed new));
  under = All-append (λ j. top_at tops j ≤ℤ height) p.passed q.passed p.under q.under;
}

pub next_on : (tops : List ℤ) (height : ℤ) (old mid new : List ℕ) (i : ℕ) → ArePassed tops height old mid → IsNext tops height mid i new → IsNext tops height old i new
next_on tops height old mid new i p q = record { passed = passed_on tops height old mid (i ∷ new) p q.passed; over = q.over }

-- what is behind others in a list with no number twice has none twice
distinct_behind : (xs ys : List ℕ) → IsDistinct nat_eq (xs ++ ys) → IsDistinct nat_eq ys
unfolding IsDistinct
distinct_behind [] ys d = d
distinct_behind (x ∷ xs) ys d = distinct_behind xs ys d.1

-- as a caller sees it
pub comes : (height : ℤ) (old new : Ahead) (i : ℕ) → new.tops ≡ old.tops → IsNext old.tops height old.numbers i new.numbers → Comes height old i new
comes height old new i same h =
    let p = h.passed.passed in
    let e = h.passed.split in
    record {
      tops = same;
      number = subst (λ (xs : List ℕ). Contains xs i) (sym e) (Contains-append_right p (i ∷ new.numbers) i (here i new.numbers));
      over = h.over;
      each = λ j c. elim (Contains-append_cases p (i ∷ new.numbers) j (subst (λ (xs : List ℕ). Contains xs j) e c)) [
        | inl before ↦ inr (inr (All-contains (λ k. top_at old.tops k ≤ℤ height) p j h.passed.under before))
        | inr from ↦ elim (cons_cases i new.numbers j from) [
          | inl it ↦ inl it
          | inr behind ↦ inr (inl behind)
        ]
      ];
      rest = λ j c. subst (λ (xs : List ℕ). Contains xs j) (sym e) (Contains-append_right p (i ∷ new.numbers) j (there i new.numbers j c));
      once = λ d. distinct_behind p (i ∷ new.numbers) (subst (IsDistinct nat_eq) e d);
      shorter = omega (arith, ap length e, length-append p (i ∷ new.numbers));
    }

pub none_comes : (height : ℤ) (old new : Ahead) → new.tops ≡ old.tops → ArePassed old.tops height old.numbers [] → new.numbers ≡ [] → NoneComes height old new
none_comes height old new same h none = record {
  tops = same;
  each = λ j c. elim (Contains-append_cases h.passed [] j (subst (λ (xs : List ℕ). Contains xs j) h.split c)) [
    | inl before ↦ All-contains (λ k. top_at old.tops k ≤ℤ height) h.passed j h.under before
    | inr behind ↦ absurd (nothing_in_nil j behind)
  ];
  none = none;
}

pub which_comes : (height : ℤ) (old new : Ahead) (next : Option ℕ) → new.tops ≡ old.tops
    → MatchOption next (ArePassed old.tops height old.numbers [] × (new.numbers ≡ [])) (λ i. IsNext old.tops height old.numbers i new.numbers)
    → MatchOption next (NoneComes height old new) (λ i. Comes height old i new)
which_comes height old new None same h = none_comes height old new same h.0 h.1
which_comes height old new (Some i) same h = comes height old new i same h

-- a caller's invariant goes on, and ends with all dealt with
pub deals_on : (First Before After : ℕ → Type 0) (height : ℤ) (old new : Ahead) (i : ℕ) → Comes height old i new → ((j : ℕ) → Before j → After j) → After i
    → ((j : ℕ) → top_at old.tops j ≤ℤ height → After j) → AreDealt First Before old.numbers → AreDealt First After new.numbers
deals_on First Before After height old new i h kept now under before j first = elim (before j first) [
  | inl ahead ↦ elim (h.each j ahead) [
    | inl it ↦ inr (subst After it now)
    | inr (inl behind) ↦ inl behind
    | inr (inr low) ↦ inr (under j low)
  ]
  | inr dealt ↦ inr (kept j dealt)
]

pub deals_last : (First Dealt : ℕ → Type 0) (height : ℤ) (old new : Ahead) → NoneComes height old new → ((j : ℕ) → top_at old.tops j ≤ℤ height → Dealt j)
    → AreDealt First Dealt old.numbers → (j : ℕ) → First j → Dealt j
deals_last First Dealt height old new h under before j first = elim (before j first) [
  | inl ahead ↦ under j (h.each j ahead)
  | inr dealt ↦ dealt
]
