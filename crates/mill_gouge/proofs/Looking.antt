-- The first gouge of a move, triangle by triangle of those that are in its reach.
use Rattle.std.proofs.Common.{◌≡◌, ◌⊎◌, ◌↔◌, inl, inr, refl, ℕ, ◌<◌, Bool, true, false, List, [], ◌∷◌, length, map, get_or, sym, subst, ◌∙◌, arith}
use Rattle.std.specs.Prelude.{Option, Some, None, MatchOption, int_lt, int_le}
use Rattle.std.specs.List.{Contains}
use Rattle.std.proofs.lemmas.Bool.Decides.{eqb_tells}
use Rattle.std.proofs.lemmas.Int.{ints}
use Rattle.std.proofs.lemmas.List.{length-map, get_or-map}
use Rattle.std.proofs.lemmas.List.Elements.{Contains-get_or}
use lib.IntN.{ℤ}
use lib.Signed.{◌<ℤ◌, ◌≤ℤ◌}
use Rattle.mill_base.specs.Numbers.{greater, lesser}
use Rattle.mill_base.specs.Points.{highest, tri_at}
use Rattle.mill_base.specs.Covers.{IsUnder}
use Rattle.mill_base.specs.Ranges.{MoveInRange, TriInRange, TrisInRange}
use Rattle.mill_base.specs.Solids.{IsSolid, Solid, at_tip, lifted}
use Rattle.mill_base.specs.declared.points.Tri.{Tri}
use Rattle.mill_base.specs.declared.points.Box2.{Box2}
use Rattle.mill_base.specs.declared.motion.Move.{Move}
use Rattle.mill_base.specs.declared.cutter.Cutter.{Cutter}
use Rattle.mill_cells.specs.Boxes.{Meet, IsNear, box_of, origin_box}
use Rattle.mill_cells.specs.Sorted.{Sorted, sorted_of, top_at, IsNearOver}
use Rattle.mill_cells.proofs.Lists.{nothing_in_nil, here, there, cons_cases}
use Rattle.mill_cells.proofs.PassedLemmas.{top_is}
use Rattle.mill_sweep.specs.Passing.{FailsAt, IsBlocked, Passes}
use Rattle.mill_sweep.specs.Apart.{low_end_of}
use Rattle.mill_sweep.specs.Reach.{reach_box_of}
use Rattle.mill_sweep.specs.Sweeps.{Swept}
use Rattle.mill_sweep.specs.declared.leaf.Leaf.{Leaf}
use Rattle.mill_gouge.specs.declared.gouge.Gouge.{Gouge}
use Rattle.mill_gouge.specs.Gouges.{PassesPart, IsFirstGouge}
use Rattle.mill_sweep.proofs.ByKind.{low_passes_all}
use Rattle.mill_sweep.proofs.Solids.{out_of_reach_passes}
use Rattle.mill_gouge.specs.inner.Reaches.{PassesOutside}
use Rattle.mill_gouge.specs.inner.Firsts.{ComesBefore, IsEarlier, IsGouge}

-- each triangle of a part in range is in range
pub part_in_range : (part : List Tri) (t : ℕ) → TrisInRange part → t < length part → TriInRange (tri_at part t)
part_in_range part t ok inside = ok (tri_at part t) (Contains-get_or part t _ inside)

-- a solid that stays over the part's top passes the part
pub over_clears : (solid : Solid) (m : Move) (part : List Tri) (top : ℤ) → IsUnder part top → top ≤ℤ low_end_of (lifted solid m) → PassesPart solid m part
over_clears solid m part top under over t inside =
    let way = lifted solid m in
    let h = under (tri_at part t) (Contains-get_or part t _ inside) in
    let high = most (tri_at part t).a.z (tri_at part t).b.z (tri_at part t).c.z top (low_end_of way) h.0 h.1 h.2 over in
    low_passes_all solid.cutter way (tri_at part t) (up _ _ _ high (ends way.from.z way.to.z).0) (up _ _ _ high (ends way.from.z way.to.z).1)
  where
    most : (a b c top low : ℤ) → a ≤ℤ top → b ≤ℤ top → c ≤ℤ top → top ≤ℤ low → greater a (greater b c) ≤ℤ low
    most a b c top low p q r s = grind (p, q, r, s, arith, ints)

    up : (a b c : ℤ) → a ≤ℤ b → b ≤ℤ c → a ≤ℤ c
    up a b c p q = omega (p, q, arith, ints)

    ends : (a b : ℤ) → (lesser a b ≤ℤ a) × (lesser a b ≤ℤ b)
    ends a b = grind (arith, ints)

-- the test whether it does, of the two heights as they are stored
pub is_over : (top low end stored_top stored_low : ℤ) → stored_top ≡ top → stored_low ≡ low → low ≡ end → int_le stored_top stored_low ≡ true → top ≤ℤ end
is_over top low end stored_top stored_low p q r e = subst (λ (z : ℤ). z ≤ℤ end) p (subst (λ (z : ℤ). stored_top ≤ℤ z) (q ∙ r) (tested stored_top stored_low e))
  where
    tested : (a b : ℤ) → int_le a b ≡ true → a ≤ℤ b
    tested a b e = omega (e, arith, ints)

-- the triangle is one of the part's, the move fails at it, and it blocks the leaf
pub record IsFound (cutter : Cutter) (m : Move) (part : List Tri) (gouge : Gouge) : Type 0 where
  pub tri : gouge.tri < length part
  pub fails : FailsAt cutter m (tri_at part gouge.tri) gouge.leaf
  pub blocked : IsBlocked cutter m (tri_at part gouge.tri) gouge.leaf

-- the numbers left are those of triangles; the first gouge so far is one, and each triangle before it is passed or left
pub record IsLooking (cutter : Cutter) (m : Move) (part : List Tri) (left : List ℕ) (first : Option Gouge) : Type 0 where
  pub within : (t : ℕ) → Contains left t → t < length part
  pub found : (gouge : Gouge) → first ≡ Some gouge → IsFound cutter m part gouge
  pub others : (t : ℕ) → t < length part → ComesBefore t first → Passes cutter m (tri_at part t) ⊎ Contains left t

-- a number is one of the list's, or isn't
is_one : (xs : List ℕ) (i : ℕ) → Contains xs i ⊎ (Contains xs i → ⊥)
is_one [] i = inr (nothing_in_nil i)
is_one (x ∷ xs) i = elim (eqb_tells x i) [
  | inl same ↦ inl (subst (Contains (x ∷ xs)) same.1 (here x xs))
  | inr apart ↦ elim (is_one xs i) [
    | inl c ↦ inl (there x xs i c)
    | inr none ↦ inr (λ c. elim (cons_cases x xs i c) [
      | inl same ↦ apart.1 same
      | inr later ↦ none later
    ])
  ]
]

-- a triangle of the part that isn't near the area and over the height is passed, where those are that lie outside
out_passes : (cutter : Cutter) (m : Move) (part : List Tri) (area : Box2) (low : ℤ) (t : ℕ) → PassesOutside cutter m area low → TrisInRange part → t < length part
    → (IsNearOver (sorted_of part) area low t → ⊥) → Passes cutter m (tri_at part t)
out_passes cutter m part area low t out tris inside none = by (int_lt low (top_at (map highest part) t)) refl
  where
    tri_ok : TriInRange (tri_at part t)
    tri_ok = part_in_range part t tris inside

    over_it : (a b : ℤ) → int_lt a b ≡ true → a <ℤ b
    over_it a b e = omega (e, arith, ints)

    under_it : (a b : ℤ) → int_lt a b ≡ false → b ≤ℤ a
    under_it a b e = omega (e, arith, ints)

    near : Meet (box_of (tri_at part t)) area → IsNear (map box_of part) area t
    near meet = record {
      within = subst (λ n. t < n) (sym (length-map part box_of)) inside;
      meets = subst (λ (b : Box2). Meet b area) (sym (get_or-map box_of part t _ origin_box inside)) meet;
    }

    by : (b : Bool) → int_lt low (top_at (map highest part) t) ≡ b → Passes cutter m (tri_at part t)
    by true e = out (tri_at part t) tri_ok (inl (λ meet. none (record { near = near meet; over = over_it _ _ e })))
    by false e = out (tri_at part t) tri_ok (inr (subst (λ (h : ℤ). h ≤ℤ low) (top_is part t _ inside) (under_it _ _ e)))

-- before the first triangle, those in reach are left
pub look_starts : (cutter : Cutter) (m : Move) (part : List Tri) (sorted : Sorted) (left : List ℕ) (area : Box2) (low : ℤ) → PassesOutside cutter m area low → TrisInRange part → sorted ≡ sorted_of part
    → ((i : ℕ) → Contains left i ↔ IsNearOver sorted area low i) → IsLooking cutter m part left None
look_starts cutter m part sorted left area low out tris e each = record {
  within = λ t c. subst (λ n. t < n) (length-map part box_of) ((near t).0 c).near.within;
  found = λ gouge same. absurd (cc);
  others = λ t inside before. elim (is_one left t) [
    | inl c ↦ inr c
    | inr none ↦ inl (out_passes cutter m part area low t out tris inside (λ n. none ((near t).1 n)))
  ];
}
  where
    near : (i : ℕ) → Contains left i ↔ IsNearOver (sorted_of part) area low i
    near = subst (λ (s : Sorted). (i : ℕ) → Contains left i ↔ IsNearOver s area low i) e each

-- what comes of the cells is near the area and over the height
pub reach_each : (sorted : Sorted) (items left : List ℕ) (area : Box2) (stored_low low : ℤ) → left ≡ items → stored_low ≡ low
    → ((i : ℕ) → Contains items i ↔ IsNearOver sorted area stored_low i) → (i : ℕ) → Contains left i ↔ IsNearOver sorted area low i
reach_each sorted items left area stored_low low same low_is each =
    subst (λ (l : List ℕ). (i : ℕ) → Contains l i ↔ IsNearOver sorted area low i) (sym same)
    (subst (λ (z : ℤ). (i : ℕ) → Contains items i ↔ IsNearOver sorted area z i) low_is each)

-- a solid passes what lies outside its reach
pub outside_move : (s : Swept) (solid : Solid) (m : Move) (area : Box2) (low : ℤ) → s ≡ record { cutter = solid.cutter; move = lifted solid m } → area ≡ reach_box_of solid.cutter m
    → low ≡ low_end_of (lifted solid m) → IsSolid solid → MoveInRange m → PassesOutside s.cutter s.move area low
outside_move s solid m area low same area_is low_is ok ranged =
    subst (λ (v : Swept). PassesOutside v.cutter v.move area low) (sym same)
    (subst (λ (b : Box2). PassesOutside solid.cutter (lifted solid m) b low) (sym area_is)
    (subst (λ (z : ℤ). PassesOutside solid.cutter (lifted solid m) (reach_box_of solid.cutter m) z) (sym low_is) (λ tri inside out. out_of_reach_passes solid m tri ok ranged inside out)))

-- each triangle that comes is one of the part's
pub next_within : (cutter : Cutter) (m : Move) (part : List Tri) (left later : List ℕ) (i : ℕ) (first : Option Gouge) → left ≡ i ∷ later → IsLooking cutter m part left first → i < length part
next_within cutter m part left later i first next h = h.within i (subst (λ (l : List ℕ). Contains l i) (sym next) (here i later))

-- each triangle that is read is in range
pub tri_in_range : (tris part : List Tri) (i : ℕ) (d : Tri) → tris ≡ part → i < length tris → TrisInRange part → TriInRange (get_or tris i d)
tri_in_range tris part i d e h ok = ok _ (subst (λ (l : List Tri). Contains l (get_or tris i d)) e (Contains-get_or tris i d h))

-- what a solid's sweep clears, the solid clears on the move, and what it finds first, that does
module _ (s : Swept) (solid : Solid) (m : Move) (part : List Tri) (same : s ≡ record { cutter = solid.cutter; move = lifted solid m }) where
  pub clears_swept : (b : Bool) → ((b ≡ true) ↔ PassesPart (at_tip s.cutter) s.move part) → (b ≡ true) ↔ PassesPart solid m part
  clears_swept b h = subst (λ (v : Swept). (b ≡ true) ↔ PassesPart (at_tip v.cutter) v.move part) same h

  pub first_swept : (o : Option Gouge) → MatchOption o (PassesPart (at_tip s.cutter) s.move part) (IsFirstGouge (at_tip s.cutter) s.move part) → MatchOption o (PassesPart solid m part) (IsFirstGouge solid m part)
  first_swept o h = by o (subst (λ (v : Swept). MatchOption o (PassesPart (at_tip v.cutter) v.move part) (IsFirstGouge (at_tip v.cutter) v.move part)) same h)
    where
      by : (o : Option Gouge) → MatchOption o (PassesPart solid m part) (IsFirstGouge (at_tip solid.cutter) (lifted solid m) part) → MatchOption o (PassesPart solid m part) (IsFirstGouge solid m part)
      by None passes = passes
      by (Some gouge) h = record { tri = h.tri; first = h.first; fails = h.fails; blocked = h.blocked }

-- one more triangle
pub look_goes_on : (cutter : Cutter) (m : Move) (part : List Tri) (left later : List ℕ) (i : ℕ) (first next : Option Gouge) → left ≡ i ∷ later → IsLooking cutter m part left first
    → IsEarlier cutter m (tri_at part i) i first next → IsLooking cutter m part later next
look_goes_on cutter m part left later i first next e h new = elim new [
  | inl same ↦ subst (λ (o : Option Gouge). IsLooking cutter m part later o) (sym same.0) (kept same.1)
  | inr told ↦ changed told.0 told.1
]
  where
    inside : (t : ℕ) → Contains later t → t < length part
    inside t c = h.within t (subst (λ (l : List ℕ). Contains l t) (sym e) (there i later t c))

    is_left : (t : ℕ) → Contains left t → (i ≡ t) ⊎ Contains later t
    is_left t c = cons_cases i later t (subst (λ (l : List ℕ). Contains l t) e c)

    kept : (¬ ComesBefore i first) ⊎ Passes cutter m (tri_at part i) → IsLooking cutter m part later first
    kept why = record {
      within = inside;
      found = h.found;
      others = λ t there_is before. elim (h.others t there_is before) [
        | inl passes ↦ inl passes
        | inr c ↦ elim (is_left t c) [
          | inl same ↦ elim why [
            | inl after ↦ absurd (after (subst (λ n. ComesBefore n first) (sym same) before))
            | inr passes ↦ inl (subst (λ n. Passes cutter m (tri_at part n)) same passes)
          ]
          | inr rest ↦ inr rest
        ]
      ];
    }

    sooner : (t : ℕ) (o : Option Gouge) → t < i → ComesBefore i o → ComesBefore t o
    sooner t None less before = before
    sooner t (Some gouge) less before = chain t i gouge.tri less before
      where
        chain : (a b c : ℕ) → a < b → b < c → a < c
        chain a b c p q = omega (p, q, arith)

    apart : (t n : ℕ) → t < n → n ≡ t → ⊥
    apart t n p q = omega (p, q, arith)

    one : (leaf : Leaf) (gouge : Gouge) → Some (record { tri = i; leaf = leaf }) ≡ Some gouge → gouge ≡ record { tri = i; leaf = leaf }
    one leaf gouge same = cc

    changed : ComesBefore i first → IsGouge cutter m (tri_at part i) i next → IsLooking cutter m part later next
    changed before g = subst (λ (o : Option Gouge). IsLooking cutter m part later o) (sym g.told_so) (record {
      within = inside;
      found = λ gouge same. subst (λ (v : Gouge). IsFound cutter m part v) (sym (one g.leaf gouge same)) (record {
        tri = next_within cutter m part left later i first e h;
        fails = g.fails;
        blocked = g.blocked;
      });
      others = λ t there_is less. elim (h.others t there_is (sooner t first less before)) [
        | inl passes ↦ inl passes
        | inr c ↦ elim (is_left t c) [
          | inl same ↦ absurd (apart t i less same)
          | inr rest ↦ inr rest
        ]
      ];
    })

-- after the last one, what was found is first
pub look_ends : (cutter : Cutter) (m : Move) (part : List Tri) (left : List ℕ) (first : Option Gouge) → left ≡ [] → IsLooking cutter m part left first
    → MatchOption first (PassesPart (at_tip cutter) m part) (IsFirstGouge (at_tip cutter) m part)
look_ends cutter m part left first e h = by first h
  where
    chain : (a b c : ℕ) → a < b → b < c → a < c
    chain a b c p q = omega (p, q, arith)

    none_left : (t : ℕ) → Contains left t → ⊥
    none_left t c = nothing_in_nil t (subst (λ (l : List ℕ). Contains l t) e c)

    by : (first : Option Gouge) → IsLooking cutter m part left first → MatchOption first (PassesPart (at_tip cutter) m part) (IsFirstGouge (at_tip cutter) m part)
    by None h = λ t inside. elim (h.others t inside tt) [
      | inl passes ↦ passes
      | inr c ↦ absurd (none_left t c)
    ]
    by (Some gouge) h =
        let f = h.found gouge refl in
        record {
          tri = f.tri;
          first = λ t less. elim (h.others t (chain t gouge.tri (length part) less f.tri) less) [
            | inl passes ↦ passes
            | inr c ↦ absurd (none_left t c)
          ];
          fails = f.fails;
          blocked = f.blocked;
        }
