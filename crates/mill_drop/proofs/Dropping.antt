-- The drop height, triangle by triangle of those that are near.
use Rattle.std.proofs.Common.{◌≡◌, ◌⊎◌, ◌↔◌, inl, inr, refl, ℕ, ◌<◌, List, length, get_or, map, sym, subst, ap, ◌∙◌, arith}
use Rattle.std.specs.List.{Contains}
use Rattle.std.proofs.lemmas.Int.{ints}
use Rattle.std.proofs.lemmas.List.{length-map, get_or-map, get_or_default}
use Rattle.std.proofs.lemmas.List.Elements.{Contains-get_or}
use lib.IntN.{ℤ, pos, ◌-ℤ◌}
use lib.Signed.{◌<ℤ◌, ◌≤ℤ◌}
use Rattle.mill_base.specs.Points.{point_at, highest}
use Rattle.mill_base.specs.Sizes.{IsCutter}
use Rattle.mill_base.specs.Solids.{at_tip}
use Rattle.mill_base.specs.declared.points.Tri.{Tri}
use Rattle.mill_base.specs.declared.points.Box2.{Box2}
use Rattle.mill_base.specs.declared.cutter.Cutter.{Cutter}
use Rattle.mill_cells.specs.Boxes.{Meet, IsNear, box_of, boxes_of, origin_box}
use Rattle.mill_cells.specs.Ahead.{Ahead, Comes, NoneComes, AreDealt}
use Rattle.mill_cells.specs.Sorted.{Sorted, sorted_of, top_at}
use Rattle.mill_cells.proofs.PassedLemmas.{deals_on, deals_last, top_is}
use Rattle.mill_drop.specs.inner.Solids.{TouchesAt, CutterGougesAt, IsRaised, IsSolidDrop}
use Rattle.mill_drop.specs.inner.Near.{AreFree, square_about}
use Rattle.mill_drop.specs.inner.Spindles.{IsTipHeight}
use Rattle.mill_drop.proofs.Heights.{lowered, has_radius, over_top_free}
use Rattle.mill_drop.proofs.NearLemmas.{touching_meets}

-- the triangle whose corners are the origin
abbrev pub no_tri : Tri
no_tri = record { a = point_at (pos 0) (pos 0) (pos 0); b = point_at (pos 0) (pos 0) (pos 0); c = point_at (pos 0) (pos 0) (pos 0) }

through : (a b c : ℤ) → a ≤ℤ b → b ≤ℤ c → a ≤ℤ c
through a b c h k = omega (arith, ints)

-- a height that isn't raised
pub raised_none : (cutter : Cutter) (part : List Tri) (x y z : ℤ) → IsRaised cutter part x y z z
raised_none cutter part x y z = record { kept = omega (arith, ints); reached = inl refl }

-- a height that is raised twice
pub raised_twice : (cutter : Cutter) (part : List Tri) (x y a b c : ℤ) → IsRaised cutter part x y a b → IsRaised cutter part x y b c → IsRaised cutter part x y a c
raised_twice cutter part x y a b c h k = record {
  kept = through a b c h.kept k.kept;
  reached = elim k.reached [
    | inl same ↦ subst (λ z. (z ≡ a) ⊎ CutterGougesAt cutter part x y (z -ℤ pos 1)) (sym same) h.reached
    | inr g ↦ inr g
  ];
}

-- a height that is raised once more, by one triangle of the part
pub raised_on : (cutter : Cutter) (part : List Tri) (x y from height new : ℤ) (i : ℕ) (d : Tri) → i < length part → IsRaised cutter part x y from height
    → height ≤ℤ new → (new ≡ height) ⊎ TouchesAt cutter (get_or part i d) x y (new -ℤ pos 1) → IsRaised cutter part x y from new
raised_on cutter part x y from height new i d inside before more least = raised_twice cutter part x y from height new before (record {
  kept = more;
  reached = elim least [
    | inl same ↦ inl same
    | inr t ↦ inr (record { tri = get_or part i d; member = Contains-get_or part i d inside; touches = t })
  ];
})

-- a triangle is near the place
abbrev pub IsNearBy : List Tri → Box2 → ℕ → Type 0
IsNearBy part area i = IsNear (boxes_of part) area i

-- the cutter holds nothing of a triangle at this height
abbrev pub IsFree : Cutter → List Tri → Tri → ℤ → ℤ → ℤ → ℕ → Type 0
IsFree cutter part d x y height i = i < length part → ¬ TouchesAt cutter (get_or part i d) x y height

-- the numbers ahead are those of triangles, and each near triangle is ahead or the cutter holds nothing of it at this height
pub record RaisesSoFar (cutter : Cutter) (part : List Tri) (d : Tri) (area : Box2) (x y from : ℤ) (near : Ahead) (height : ℤ) : Type 0 where
  pub raised : IsRaised cutter part x y from height
  pub bound : IsTipHeight height
  pub tops : near.tops ≡ map highest part
  pub within : (i : ℕ) → Contains near.numbers i → i < length part
  pub dealt : AreDealt (IsNearBy part area) (IsFree cutter part d x y height) near.numbers

-- before the first triangle, those near are ahead
pub raise_starts : (cutter : Cutter) (part : List Tri) (d : Tri) (area : Box2) (x y from : ℤ) (s : Sorted) (near : Ahead) → IsTipHeight from → s ≡ sorted_of part → near.tops ≡ s.tops
    → ((i : ℕ) → Contains near.numbers i ↔ IsNear s.boxes area i) → RaisesSoFar cutter part d area x y from near from
raise_starts cutter part d area x y from s near ranged e same each = record {
  raised = raised_none cutter part x y from;
  bound = ranged;
  tops = same ∙ ap (λ (t : Sorted). t.tops) e;
  within = λ i c. let n = subst (λ (t : Sorted). IsNear t.boxes area i) e ((each i).0 c) in subst (λ m. i < m) (length-map part box_of) n.within;
  dealt = λ i n. inl ((each i).1 (subst (λ (t : Sorted). IsNear t.boxes area i) (sym e) n));
}

pub next_within : (cutter : Cutter) (part : List Tri) (d : Tri) (area : Box2) (x y from : ℤ) (near later : Ahead) (i : ℕ) (z height : ℤ) → Comes z near i later → RaisesSoFar cutter part d area x y from near height → i < length part
next_within cutter part d area x y from near later i z height h s = s.within i h.number

-- the cutter holds nothing of a triangle whose top isn't over its tip
low_top : (cutter : Cutter) (part : List Tri) (d : Tri) (x y height : ℤ) (tops : List ℤ) (j : ℕ) → IsCutter cutter → tops ≡ map highest part → top_at tops j ≤ℤ height → IsFree cutter part d x y height j
low_top cutter part d x y height tops j ok e le inside t =
    let top = ap (λ (ts : List ℤ). top_at ts j) e ∙ top_is part j d inside in
    over_top_free cutter (get_or part j d) x y height ok (subst (λ z. z ≤ℤ height) top le) t

pub raise_goes_on : (cutter : Cutter) (part : List Tri) (d : Tri) (area : Box2) (x y from : ℤ) (near later : Ahead) (i : ℕ) (height new : ℤ) → IsCutter cutter → Comes height near i later
    → RaisesSoFar cutter part d area x y from near height → height ≤ℤ new → IsTipHeight new → (¬ TouchesAt cutter (get_or part i d) x y new) → (new ≡ height) ⊎ TouchesAt cutter (get_or part i d) x y (new -ℤ pos 1)
    → RaisesSoFar cutter part d area x y from later new
raise_goes_on cutter part d area x y from near later i height new ok h s more bound free least = record {
  raised = raised_on cutter part x y from height new i d (s.within i h.number) s.raised more least;
  bound = bound;
  tops = h.tops ∙ s.tops;
  within = λ j c. s.within j (h.rest j c);
  dealt = deals_on (IsNearBy part area) (IsFree cutter part d x y height) (IsFree cutter part d x y new) height near later i h
      (λ j before inside t. before inside (lowered cutter (get_or part j d) x y new height more t))
      (λ inside. free)
      (λ j le inside t. low_top cutter part d x y height near.tops j ok s.tops le inside (lowered cutter (get_or part j d) x y new height more t))
      s.dealt;
}

-- after the last one those near are free
pub raise_ends : (cutter : Cutter) (part : List Tri) (d : Tri) (area : Box2) (x y from : ℤ) (near later : Ahead) (height : ℤ) → IsCutter cutter → NoneComes height near later
    → RaisesSoFar cutter part d area x y from near height → AreFree cutter part area x y height
raise_ends cutter part d area x y from near later height ok none s tri m meet t =
    let place = get_or_default part m.0 d tri m.1 ∙ m.2 in
    let near_it : IsNearBy part area m.0 = record {
      within = subst (λ n. m.0 < n) (sym (length-map part box_of)) m.1;
      meets = subst (λ (b : Box2). Meet b area) (sym (get_or-map box_of part m.0 d origin_box m.1)) (subst (λ (u : Tri). Meet (box_of u) area) (sym place) meet);
    } in
    deals_last (IsNearBy part area) (IsFree cutter part d x y height) height near later none (λ j le. low_top cutter part d x y height near.tops j ok s.tops le) s.dealt m.0 near_it m.1
    (subst (λ (u : Tri). TouchesAt cutter u x y height) (sym place) t)

-- where no triangle of the part is held, a height that was raised so is the drop height
pub drop_where_free : (cutter : Cutter) (part : List Tri) (x y floor height : ℤ) → IsRaised cutter part x y floor height
    → ((tri : Tri) → Contains part tri → ¬ TouchesAt cutter tri x y height) → IsSolidDrop (at_tip cutter) part x y floor height
drop_where_free cutter part x y floor height h free = record {
  kept = h.kept;
  free = λ higher over g. free g.tri g.member (lowered cutter g.tri x y higher height over g.touches);
  least = λ lower kept under. elim h.reached [
    | inl same ↦ absurd (none lower floor height kept under same)
    | inr g ↦ record { tri = g.tri; member = g.member; touches = lowered cutter g.tri x y (height -ℤ pos 1) lower (next lower height under) g.touches }
  ];
}
  where
    none : (l f z : ℤ) → f ≤ℤ l → l <ℤ z → z ≡ f → ⊥
    none l f z a b e = omega (arith, ints)

    next : (l z : ℤ) → l <ℤ z → l ≤ℤ (z -ℤ pos 1)
    next l z h = omega (arith, ints)

-- so it is where those in the square about the place are free
pub drop_is : (cutter : Cutter) (part : List Tri) (x y floor height : ℤ) → IsCutter cutter → IsRaised cutter part x y floor height → AreFree cutter part (square_about cutter x y) x y height
    → IsSolidDrop (at_tip cutter) part x y floor height
drop_is cutter part x y floor height ok h free =
    drop_where_free cutter part x y floor height h (λ tri m t. free tri m (touching_meets cutter tri x y height (has_radius cutter ok) t) t)
