-- The greatest height of the triangles before a place in a list.
use Rattle.std.proofs.Common.{◌≡◌, ◌⊎◌, ◌↔◌, ℕ, zero, suc, ◌+◌, ◌<◌, ◌≤◌, Bool, true, false, cond, List, [], ◌∷◌, length, take, get_or, take_all, rules, refl, sym, subst, ap, inl, inr, arith}
use Rattle.std.specs.Prelude.{Option, Some, None, IsNone, IfSome, int_lt}
use Rattle.std.specs.Option.{option_cmp}
use Rattle.std.specs.Ordering.{int_cmp, is_lt, ord_max}
use Rattle.mill_base.specs.Covers.{IsUnder}
use Rattle.std.specs.List.{All, Contains}
use Rattle.std.proofs.lemmas.List.Elements.{All-nil, All-more, All-weaker, All-contains, Contains-get_or}
use Rattle.std.proofs.lemmas.Int.{ints}
use Rattle.mill_base.specs.Numbers.{greater}
use Rattle.mill_base.specs.Points.{highest}
use Rattle.mill_base.specs.declared.points.Tri.{Tri}
use Rattle.mill_part.specs.Parts.{top_of}
use Rattle.mill_part.specs.Tops.{HasCornerAt, IsTop}
use lib.IntN.{ℤ}
use lib.Signed.{◌≤ℤ◌}

-- top is the greatest height of the first k triangles
pub record IsTopBefore (part : List Tri) (k : ℕ) (top : ℤ) : Type 0 where
  pub some : 0 < k
  pub tri : Tri
  pub member : Contains part tri
  pub corner : highest tri ≡ top
  pub under : All (λ t. highest t ≤ℤ top) (take k part)

abbrev pub TopBefore : List Tri → ℕ → Option ℤ → Type 0
TopBefore part k None = k ≡ 0
TopBefore part k (Some top) = IsTopBefore part k top

pub less_is : (z top : ℤ) → is_lt (int_cmp z top) ≡ true → z ≤ℤ top
less_is z top e = grind (arith, ints)

pub other_is : (z top : ℤ) → is_lt (int_cmp z top) ≡ false → top ≤ℤ z
other_is z top e = grind (arith, ints)

none_before : (part : List Tri) (k : ℕ) (z : ℤ) → k ≡ 0 → All (λ t. highest t ≤ℤ z) (take k part)
none_before part k z e = rw e (All-nil (λ t. highest t ≤ℤ z))

pub top_more : (part : List Tri) (k : ℕ) (d : Tri) (top : Option ℤ) (z : ℤ) → k < length part → z ≡ highest (get_or part k d)
    → TopBefore part k top → TopBefore part (k + 1) (ord_max (option_cmp int_cmp) top (Some z))
top_more part k d None z here e before = record {
  some = omega arith;
  tri = get_or part k d;
  member = Contains-get_or part k d here;
  corner = sym e;
  under = All-more (λ t. highest t ≤ℤ z) part k d here (none_before part k z before) (omega (arith, ints, e));
}
top_more part k d (Some top) z here e before = by (is_lt (int_cmp z top)) refl
  where
    by : (b : Bool) → is_lt (int_cmp z top) ≡ b → TopBefore part (k + 1) (cond b (Some top) (Some z))
    by true less = record {
      some = omega arith;
      tri = before.tri;
      member = before.member;
      corner = before.corner;
      under = All-more (λ t. highest t ≤ℤ top) part k d here before.under (subst (λ t. t ≤ℤ top) e (less_is z top less));
    }
    by false other = record {
      some = omega arith;
      tri = get_or part k d;
      member = Contains-get_or part k d here;
      corner = sym e;
      under = All-more (λ t. highest t ≤ℤ z) part k d here
          (All-weaker (λ t. highest t ≤ℤ top) (λ t. highest t ≤ℤ z) (λ t h. let l = other_is z top other in omega (arith, ints)) (take k part) before.under)
          (subst (λ t. t ≤ℤ z) e (omega (arith, ints)));
    }

-- no corner is over the triangle's highest, and that is one of them
pub corners_under : (tri : Tri) → (tri.a.z ≤ℤ highest tri) × (tri.b.z ≤ℤ highest tri) × (tri.c.z ≤ℤ highest tri)
corners_under tri = under3 tri.a.z tri.b.z tri.c.z
  where
    under3 : (a b c : ℤ) → (a ≤ℤ greater a (greater b c)) × (b ≤ℤ greater a (greater b c)) × (c ≤ℤ greater a (greater b c))
    under3 a b c = grind (arith, ints)

pub highest_is : (tri : Tri) → HasCornerAt tri (highest tri)
highest_is tri = one3 tri.a.z tri.b.z tri.c.z
  where
    one3 : (a b c : ℤ) → (a ≡ greater a (greater b c)) ⊎ ((b ≡ greater a (greater b c)) ⊎ (c ≡ greater a (greater b c)))
    one3 a b c = grind (arith, ints)

-- what is so of each triangle of the list's whole length is so of its members
all_of : (P : Tri → Type 0) (part : List Tri) (k : ℕ) → length part ≤ k → All P (take k part) → All P part
all_of P part k end all = subst (All P) (take_all k part end) all

pub top_some : (part : List Tri) (k : ℕ) (top : Option ℤ) → length part ≤ k → TopBefore part k top → IfSome top (λ t. IsTop part t)
top_some part k None end before = tt
top_some part k (Some top) end before = record {
  under = λ tri member.
      let u = All-contains (λ t. highest t ≤ℤ top) part tri (all_of (λ t. highest t ≤ℤ top) part k end before.under) member in
      let v = corners_under tri in
      (omega (arith, ints), omega (arith, ints), omega (arith, ints));
  tri = before.tri;
  member = before.member;
  corner = subst (HasCornerAt before.tri) before.corner (highest_is before.tri);
}

-- members of a list of one and more
cons_cases : (x : Tri) (xs : List Tri) (y : Tri) → Contains (x ∷ xs) y → (x ≡ y) ⊎ Contains xs y
cons_cases x xs y h = by h.0 h.1 h.2
  where
    by : (k : ℕ) → k < length (x ∷ xs) → get_or (x ∷ xs) k y ≡ y → (x ≡ y) ⊎ Contains xs y
    by zero w e = inl e
    by (suc k) w e = inr (k, omega (arith, w), e)

here : (x : Tri) (xs : List Tri) → Contains (x ∷ xs) x
here x xs = (0, omega arith, refl)

there : (x : Tri) (xs : List Tri) (y : Tri) → Contains xs y → Contains (x ∷ xs) y
there x xs y h = (suc h.0, omega (arith, h.1), h.2)

-- the greatest height of one triangle, and of one and others
one_top : (tri : Tri) → IsTop (tri ∷ []) (highest tri)
one_top tri = record {
  under = λ t m. elim (cons_cases tri [] t m) [
    | inl same ↦ subst (λ t. (t.a.z ≤ℤ highest tri) × (t.b.z ≤ℤ highest tri) × (t.c.z ≤ℤ highest tri)) same (corners_under tri)
    | inr more ↦ absurd (omega (arith, more.1))
  ];
  tri = tri;
  member = here tri [];
  corner = highest_is tri;
}

more_top : (tri : Tri) (tris : List Tri) (top : ℤ) → IsTop tris top → IsTop (tri ∷ tris) (greater (highest tri) top)
more_top tri tris top is = by (int_lt (highest tri) top) refl
  where
    under_of : (most : ℤ) → highest tri ≤ℤ most → top ≤ℤ most → IsUnder (tri ∷ tris) most
    under_of most own others t m = elim (cons_cases tri tris t m) [
      | inl same ↦ subst (λ t. (t.a.z ≤ℤ most) × (t.b.z ≤ℤ most) × (t.c.z ≤ℤ most)) same
          (let u = corners_under tri in (omega (arith, ints), omega (arith, ints), omega (arith, ints)))
      | inr more ↦ let u = is.under t more in (omega (arith, ints), omega (arith, ints), omega (arith, ints))
    ]

    by : (b : Bool) → int_lt (highest tri) top ≡ b → IsTop (tri ∷ tris) (cond b top (highest tri))
    by true less = record {
      under = under_of top (grind (arith, ints)) (omega (arith, ints));
      tri = is.tri;
      member = there tri tris is.tri is.member;
      corner = is.corner;
    }
    by false other = record {
      under = under_of (highest tri) (omega (arith, ints)) (grind (arith, ints));
      tri = tri;
      member = here tri tris;
      corner = highest_is tri;
    }

-- the height that the definition computes is the greatest, and no other is
top_is_greatest : (tris : List Tri) → IfSome (top_of tris) (λ top. IsTop tris top)
top_is_greatest [] = tt
top_is_greatest (tri ∷ []) = one_top tri
top_is_greatest (tri ∷ next ∷ tris) = more_top tri (next ∷ tris) _ (top_is_greatest (next ∷ tris))

top_of-none : (tris : List Tri) → IsNone (top_of tris) ↔ (length tris ≡ 0)
top_of-none [] = (λ _. refl, λ _. search rules)
top_of-none (tri ∷ tris) = (λ h. absurd (cc), λ h. absurd (omega (arith, h)))

not_over : (tris : List Tri) (low high : ℤ) → IsTop tris low → IsTop tris high → low ≤ℤ high
not_over tris low high is other = by (other.under is.tri is.member) is.corner
  where
    by : (is.tri.a.z ≤ℤ high) × (is.tri.b.z ≤ℤ high) × (is.tri.c.z ≤ℤ high) → HasCornerAt is.tri low → low ≤ℤ high
    by u (inl e) = subst (λ z. z ≤ℤ high) e (omega (arith, ints, u))
    by u (inr (inl e)) = subst (λ z. z ≤ℤ high) e (omega (arith, ints, u))
    by u (inr (inr e)) = subst (λ z. z ≤ℤ high) e (omega (arith, ints, u))

same_top : (tris : List Tri) (top other : ℤ) → IsTop tris top → IsTop tris other → top ≡ other
same_top tris top other is also = let a = not_over tris top other is also in let b = not_over tris other top also is in omega (arith, ints)

-- what is found before the end of the list is what the definition computes
pub top_of_is : (part : List Tri) (k : ℕ) (top : Option ℤ) → length part ≤ k → k ≤ length part → TopBefore part k top → top ≡ top_of part
top_of_is [] k None end within before = refl
top_of_is [] k (Some top) end within before = absurd (omega (arith, before.some))
top_of_is (tri ∷ tris) k None end within before = absurd (omega (arith, before))
top_of_is (tri ∷ tris) k (Some top) end within before =
    ap Some (same_top (tri ∷ tris) top _ (top_some (tri ∷ tris) k (Some top) end before) (top_is_greatest (tri ∷ tris)))

-- so it is with a height that is kept beside the list
pub kept_none : (part tris : List Tri) (top : Option ℤ) → top ≡ top_of tris → tris ≡ part → IsNone top ↔ (length part ≡ 0)
kept_none part tris top kept same = rw (kept, same) (top_of-none part)

pub kept_some : (part tris : List Tri) (top : Option ℤ) → top ≡ top_of tris → tris ≡ part → IfSome top (λ t. IsTop part t)
kept_some part tris top kept same = rw (kept, same) (top_is_greatest part)
