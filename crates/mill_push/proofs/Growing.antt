-- A list of runs with one stretch more.
use Rattle.std.proofs.Common.{◌≡◌, ◌⊎◌, inl, inr, ℕ, ◌<◌, List, [], ◌∷◌, ◌++◌, length, get_or, set, sym, subst, ap, ◌∙◌, arith}
use Rattle.std.specs.Int.{int_min, int_max}
use Rattle.std.specs.List.{Contains}
use Rattle.std.proofs.lemmas.Bool.{cases_eq}
use Rattle.std.proofs.lemmas.Int.{ints, by_lt_z}
use Rattle.std.proofs.lemmas.List.{get_or_default, get_or-set_same, get_or-set_other, length-set}
use Rattle.std.proofs.lemmas.List.Elements.{Contains-append_left, Contains-push, Contains-push_cases}
use lib.IntN.{ℤ, pos, ◌+ℤ◌}
use lib.Signed.{◌<ℤ◌, ◌≤ℤ◌}
use Rattle.mill_push.specs.declared.fiber.Run.{Run}
use Rattle.mill_push.specs.Runs.{StandsIn}
use Rattle.mill_push.specs.inner.Known.{AreJoined, IsAt, IsGrown, IsHull}
use Rattle.mill_push.specs.inner.Unions.{IsSpan}

module _ (a b : Run) where
  -- the hull of two runs between which no free position lies
  pub hull_is : AreJoined a b → IsHull a b (record { first = int_min a.first b.first; last = int_max a.last b.last })
  hull_is h = record {
    first = λ v at. record { first = least_left a.first b.first v at.first; last = most_left a.last b.last v at.last };
    second = λ v at. record { first = least_right a.first b.first v at.first; last = most_right a.last b.last v at.last };
    only = λ v at. by_lt_z v a.first
        (λ less. inr (record { first = not_left a.first b.first v at.first less; last = reached a.first b.last v h.before less }))
        (λ from. by_lt_z a.last v
        (λ past. inr (record { first = next b.first a.last v h.after past; last = not_right a.last b.last v at.last past }))
        (λ to. inl (record { first = from; last = to })));
    spans = λ from to s t. record {
      after = from_least from a.first b.first s.after t.after;
      some = ends a.first b.first a.last b.last s.some;
      within = to_most to a.last b.last s.within t.within;
    };
  }
    where
      least_left : (f g v : ℤ) → f ≤ℤ v → int_min f g ≤ℤ v
      least_left f g v h = grind (arith, ints)

      least_right : (f g v : ℤ) → g ≤ℤ v → int_min f g ≤ℤ v
      least_right f g v h = grind (arith, ints)

      most_left : (l m v : ℤ) → v ≤ℤ l → v ≤ℤ int_max l m
      most_left l m v h = grind (arith, ints)

      most_right : (l m v : ℤ) → v ≤ℤ m → v ≤ℤ int_max l m
      most_right l m v h = grind (arith, ints)

      not_left : (f g v : ℤ) → int_min f g ≤ℤ v → v <ℤ f → g ≤ℤ v
      not_left f g v h k = grind (arith, ints)

      not_right : (l m v : ℤ) → v ≤ℤ int_max l m → l <ℤ v → v ≤ℤ m
      not_right l m v h k = grind (arith, ints)

      reached : (f m v : ℤ) → f ≤ℤ (m +ℤ pos 1) → v <ℤ f → v ≤ℤ m
      reached f m v h k = omega (arith, ints)

      next : (g l v : ℤ) → g ≤ℤ (l +ℤ pos 1) → l <ℤ v → g ≤ℤ v
      next g l v h k = omega (arith, ints)

      from_least : (from f g : ℤ) → from ≤ℤ f → from ≤ℤ g → from ≤ℤ int_min f g
      from_least from f g h k = grind (arith, ints)

      to_most : (to l m : ℤ) → l ≤ℤ to → m ≤ℤ to → int_max l m ≤ℤ to
      to_most to l m h k = grind (arith, ints)

      ends : (f g l m : ℤ) → f ≤ℤ l → int_min f g ≤ℤ int_max l m
      ends f g l m h = grind (arith, ints)

-- the same position in the same run
at_same : {a b : Run} (v : ℤ) → a ≡ b → IsAt a v → IsAt b v
at_same v e h = subst (λ (r : Run). IsAt r v) e h

stands_at : (runs : List Run) (run : Run) (v : ℤ) → Contains runs run → IsAt run v → StandsIn runs v
stands_at runs run v member at = record { run = run; member = member; first = at.first; last = at.last }

its_place : {runs : List Run} {v : ℤ} → (s : StandsIn runs v) → IsAt s.run v
its_place s = record { first = s.first; last = s.last }

module _ (old : List Run) (stretch : Run) where
  -- the stretch becomes a run of its own
  pub grown_by_one : IsGrown old stretch (old ++ stretch ∷ [])
  grown_by_one = record {
    spans = λ from to all one run c. elim (Contains-push_cases old stretch run c) [ inl before ↦ all run before | inr new ↦ subst (IsSpan from to) new one ];
    kept = λ v s. stands_at _ s.run v (Contains-append_left old (stretch ∷ []) s.run s.member) (its_place s);
    added = λ v at. stands_at _ stretch v (Contains-push old stretch) at;
    only = λ v s. elim (Contains-push_cases old stretch s.run s.member) [
      | inl before ↦ inl (stands_at old s.run v before (its_place s))
      | inr new ↦ inr (at_same v (sym new) (its_place s))
    ];
  }

  module _ (i : ℕ) (d hull : Run) (inside : i < length old) (h : IsHull (get_or old i d) stretch hull) where
    -- a run of the list is the hull now, or was there before
    set_cases : (run : Run) → Contains (set old i hull) run → (hull ≡ run) ⊎ Contains old run
    set_cases run c = elim (cases_eq c.0 i) [
      | inl here ↦ inl (sym (get_or-set_same old i hull run inside) ∙ (ap (λ k. get_or (set old i hull) k run) (sym here) ∙ c.2))
      | inr other ↦ inr (c.0, subst (λ n. c.0 < n) (length-set old i hull) c.1, sym (get_or-set_other old i c.0 hull run other) ∙ c.2)
    ]

    hull_there : Contains (set old i hull) hull
    hull_there = (i, subst (λ n. i < n) (sym (length-set old i hull)) inside, get_or-set_same old i hull hull inside)

    it_there : Contains old (get_or old i d)
    it_there = (i, inside, get_or_default old i (get_or old i d) d inside)

    -- it is joined to a run of the list
    pub grown_at : IsGrown old stretch (set old i hull)
    grown_at = record {
      spans = λ from to all one run c. elim (set_cases run c) [
        | inl here ↦ subst (IsSpan from to) here (h.spans from to (all (get_or old i d) it_there) one)
        | inr before ↦ all run before
      ];
      kept = λ v s. kept v s.run s.member (its_place s);
      added = λ v at. stands_at _ hull v hull_there (h.second v at);
      only = λ v s. elim (set_cases s.run s.member) [
        | inl here ↦ split v (h.only v (at_same v (sym here) (its_place s)))
        | inr before ↦ inl (stands_at old s.run v before (its_place s))
      ];
    }
      where
        kept : (v : ℤ) (run : Run) → Contains old run → IsAt run v → StandsIn (set old i hull) v
        kept v run c at = elim (cases_eq c.0 i) [
          | inl here ↦ stands_at _ hull v hull_there (h.first v (at_same v (sym (get_or_default old i d run inside ∙ (ap (λ k. get_or old k run) (sym here) ∙ c.2))) at))
          | inr other ↦ stands_at _ run v (c.0, subst (λ n. c.0 < n) (sym (length-set old i hull)) c.1, get_or-set_other old i c.0 hull run other ∙ c.2) at
        ]

        split : (v : ℤ) → IsAt (get_or old i d) v ⊎ IsAt stretch v → StandsIn old v ⊎ IsAt stretch v
        split v (inl there) = inl (stands_at old (get_or old i d) v it_there there)
        split v (inr new) = inr new
