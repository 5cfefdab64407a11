-- The covered height, triangle by triangle of those that are near and over the height so far.
-- And whether a height is covered, by those that are near and come up to it.
use Rattle.std.proofs.Common.{◌≡◌, ◌⊎◌, ◌↔◌, inl, inr, ℕ, ◌<◌, List, length, get_or, map, sym, subst, ap, ◌∙◌, arith}
use Rattle.std.specs.List.{Contains}
use Rattle.std.proofs.lemmas.Int.{ints}
use Rattle.std.proofs.lemmas.List.{length-map, get_or-map, get_or_default}
use Rattle.std.proofs.lemmas.List.Elements.{Contains-get_or}
use lib.IntN.{ℤ, pos, ◌-ℤ◌}
use lib.Signed.{◌≤ℤ◌}
use Rattle.mill_base.specs.Numbers.{Within}
use Rattle.mill_base.specs.declared.limits.TheConstants.{MAX_COORDINATE}
use Rattle.mill_base.specs.Points.{point_at, highest}
use Rattle.mill_base.specs.Covers.{Covered, HasPointOver}
use Rattle.mill_base.specs.Ranges.{TrisInRange}
use Rattle.mill_base.specs.declared.points.Tri.{Tri}
use Rattle.mill_base.specs.declared.points.Box2.{Box2}
use Rattle.mill_cells.specs.Ahead.{Ahead, Comes, NoneComes, AreDealt}
use Rattle.mill_cells.specs.Boxes.{Meet, IsNear, box_of, boxes_of, origin_box}
use Rattle.mill_cells.specs.Sorted.{Sorted, sorted_of, top_at}
use Rattle.mill_cells.proofs.PassedLemmas.{deals_on, deals_last, top_is}
use Rattle.mill_part.specs.inner.Columns.{CoversColumn, square_about}
use Rattle.mill_part.proofs.Below.{covered_below}
use Rattle.mill_part.proofs.CoverLemmas.{point_of_part, covers_of_point, covered_bound, under_highest}
use Rattle.mill_part.proofs.NearLemmas.{covering_meets}

-- the triangle whose corners are the origin
abbrev pub no_tri : Tri
no_tri = record { a = point_at (pos 0) (pos 0) (pos 0); b = point_at (pos 0) (pos 0) (pos 0); c = point_at (pos 0) (pos 0) (pos 0) }

-- a triangle is near the column
abbrev pub IsNearBy : List Tri → ℤ → ℤ → ℤ → ℕ → Type 0
IsNearBy part band x y i = IsNear (boxes_of part) (square_about band x y) i

-- a triangle covers no height over this one
abbrev pub IsLow : List Tri → Tri → ℤ → ℤ → ℤ → ℤ → ℕ → Type 0
IsLow part d band x y height i = i < length part → (h : ℤ) → CoversColumn (get_or part i d) band x y h → h ≤ℤ height

-- the numbers ahead are those of triangles, the height is covered and not under the floor, and each near triangle is ahead or covers no greater one
pub record CoversSoFar (part : List Tri) (d : Tri) (floor band x y : ℤ) (near : Ahead) (height : ℤ) : Type 0 where
  pub kept : floor ≤ℤ height
  pub reached : Covered part floor band x y height
  pub tops : near.tops ≡ map highest part
  pub within : (i : ℕ) → Contains near.numbers i → i < length part
  pub dealt : AreDealt (IsNearBy part band x y) (IsLow part d band x y height) near.numbers

through : (a b c : ℤ) → a ≤ℤ b → b ≤ℤ c → a ≤ℤ c
through a b c h k = omega (arith, ints)

-- before the first triangle, those near are ahead
pub scan_starts : (part : List Tri) (d : Tri) (floor band x y : ℤ) (s : Sorted) (near : Ahead) → s ≡ sorted_of part → near.tops ≡ s.tops
    → ((i : ℕ) → Contains near.numbers i ↔ IsNear s.boxes (square_about band x y) i) → CoversSoFar part d floor band x y near floor
scan_starts part d floor band x y s near e same each = record {
  kept = omega (arith, ints);
  reached = inl (omega (arith, ints));
  tops = same ∙ ap (λ (t : Sorted). t.tops) e;
  within = λ i c. let n = subst (λ (t : Sorted). IsNear t.boxes (square_about band x y) i) e ((each i).0 c) in subst (λ m. i < m) (length-map part box_of) n.within;
  dealt = λ i n. inl ((each i).1 (subst (λ (t : Sorted). IsNear t.boxes (square_about band x y) i) (sym e) n));
}

pub next_within : (part : List Tri) (d : Tri) (floor band x y : ℤ) (near later : Ahead) (i : ℕ) (z height : ℤ) → Comes z near i later → CoversSoFar part d floor band x y near height → i < length part
next_within part d floor band x y near later i z height h s = s.within i h.number

-- a triangle whose top isn't over a height covers none over it
low_top : (part : List Tri) (d : Tri) (band x y height : ℤ) (tops : List ℤ) (j : ℕ) → tops ≡ map highest part → top_at tops j ≤ℤ height → IsLow part d band x y height j
low_top part d band x y height tops j e le inside h over =
    let top = ap (λ (ts : List ℤ). top_at ts j) e ∙ top_is part j d inside in
    through h (highest (get_or part j d)) height (under_highest (get_or part j d) band x y h over) (subst (λ z. z ≤ℤ height) top le)

pub scan_goes_on : (part : List Tri) (d : Tri) (floor band x y : ℤ) (near later : Ahead) (i : ℕ) (height new : ℤ) → Comes height near i later → CoversSoFar part d floor band x y near height
    → height ≤ℤ new → (new ≡ height) ⊎ CoversColumn (get_or part i d) band x y new → ((h : ℤ) → CoversColumn (get_or part i d) band x y h → h ≤ℤ new)
    → CoversSoFar part d floor band x y later new
scan_goes_on part d floor band x y near later i height new h s more reached top = record {
  kept = through floor height new s.kept more;
  reached = elim reached [
    | inl same ↦ subst (Covered part floor band x y) (sym same) s.reached
    | inr over ↦ inr (point_of_part part (get_or part i d) band x y new (Contains-get_or part i d (s.within i h.number)) over)
  ];
  tops = h.tops ∙ s.tops;
  within = λ j c. s.within j (h.rest j c);
  dealt = deals_on (IsNearBy part band x y) (IsLow part d band x y height) (IsLow part d band x y new) height near later i h
      (λ j low inside z over. through z height new (low inside z over) more)
      (λ inside. top)
      (λ j le inside z over. through z height new (low_top part d band x y height near.tops j s.tops le inside z over) more)
      s.dealt;
}

-- a triangle that covers the column is near it
is_near_by : (part : List Tri) (d : Tri) (band x y h : ℤ) (i : ℕ) → i < length part → (pos 0) ≤ℤ band → CoversColumn (get_or part i d) band x y h → IsNearBy part band x y i
is_near_by part d band x y h i inside least covers = record {
  within = subst (λ n. i < n) (sym (length-map part box_of)) inside;
  meets = subst (λ (b : Box2). Meet b (square_about band x y)) (sym (get_or-map box_of part i d origin_box inside)) (covering_meets (get_or part i d) band x y h least covers);
}

-- after the last one it is exact
pub scan_ends : (part : List Tri) (d : Tri) (floor band x y : ℤ) (near later : Ahead) (height : ℤ) → (pos 0) ≤ℤ band → NoneComes height near later → CoversSoFar part d floor band x y near height
    → (h : ℤ) → Covered part floor band x y h ↔ (h ≤ℤ height)
scan_ends part d floor band x y near later height least none s h = (under, λ le. covered_below part floor band x y height h le s.reached)
  where
    under : Covered part floor band x y h → h ≤ℤ height
    under (inl low) = through h floor height low s.kept
    under (inr over) =
        let m = over.member in
        let place = get_or_default part m.0 d over.tri m.1 ∙ m.2 in
        let covers = subst (λ (t : Tri). CoversColumn t band x y h) (sym place) (covers_of_point part band x y h over) in
        let near_it = is_near_by part d band x y h m.0 m.1 least covers in
        deals_last (IsNearBy part band x y) (IsLow part d band x y height) height near later none (λ j le. low_top part d band x y height near.tops j s.tops le) s.dealt m.0 near_it m.1 h covers

pub scan_bound : (part : List Tri) (d : Tri) (floor band x y : ℤ) (near : Ahead) (height : ℤ) → TrisInRange part → Within MAX_COORDINATE floor → CoversSoFar part d floor band x y near height → Within MAX_COORDINATE height
scan_bound part d floor band x y near height ok floor_ok s = covered_bound part floor band x y height ok floor_ok s.kept s.reached

-- a triangle doesn't cover the height
abbrev pub IsMissed : List Tri → Tri → ℤ → ℤ → ℤ → ℤ → ℕ → Type 0
IsMissed part d band x y h i = i < length part → ¬ CoversColumn (get_or part i d) band x y h

-- the numbers ahead are those of triangles, and each near triangle is ahead or doesn't cover the height
pub record NoneSoFar (part : List Tri) (d : Tri) (band x y : ℤ) (near : Ahead) (h : ℤ) : Type 0 where
  pub tops : near.tops ≡ map highest part
  pub within : (i : ℕ) → Contains near.numbers i → i < length part
  pub dealt : AreDealt (IsNearBy part band x y) (IsMissed part d band x y h) near.numbers

pub search_starts : (part : List Tri) (d : Tri) (band x y h : ℤ) (s : Sorted) (near : Ahead) → s ≡ sorted_of part → near.tops ≡ s.tops
    → ((i : ℕ) → Contains near.numbers i ↔ IsNear s.boxes (square_about band x y) i) → NoneSoFar part d band x y near h
search_starts part d band x y h s near e same each = record {
  tops = same ∙ ap (λ (t : Sorted). t.tops) e;
  within = λ i c. let n = subst (λ (t : Sorted). IsNear t.boxes (square_about band x y) i) e ((each i).0 c) in subst (λ m. i < m) (length-map part box_of) n.within;
  dealt = λ i n. inl ((each i).1 (subst (λ (t : Sorted). IsNear t.boxes (square_about band x y) i) (sym e) n));
}

-- a triangle whose top isn't over the next lower height doesn't cover the height
too_low : (part : List Tri) (d : Tri) (band x y h : ℤ) (tops : List ℤ) (j : ℕ) → tops ≡ map highest part → top_at tops j ≤ℤ (h -ℤ pos 1) → IsMissed part d band x y h j
too_low part d band x y h tops j e le inside over =
    let top = ap (λ (ts : List ℤ). top_at ts j) e ∙ top_is part j d inside in
    clash h (highest (get_or part j d)) (under_highest (get_or part j d) band x y h over) (subst (λ z. z ≤ℤ (h -ℤ pos 1)) top le)
  where
    clash : (h z : ℤ) → h ≤ℤ z → z ≤ℤ (h -ℤ pos 1) → ⊥
    clash h z a b = omega (a, b, arith, ints)

pub search_goes_on : (part : List Tri) (d : Tri) (band x y h lower : ℤ) (near later : Ahead) (i : ℕ) → lower ≡ h -ℤ pos 1 → Comes lower near i later → NoneSoFar part d band x y near h
    → ¬ CoversColumn (get_or part i d) band x y h → NoneSoFar part d band x y later h
search_goes_on part d band x y h lower near later i is c s missed = record {
  tops = c.tops ∙ s.tops;
  within = λ j k. s.within j (c.rest j k);
  dealt = deals_on (IsNearBy part band x y) (IsMissed part d band x y h) (IsMissed part d band x y h) lower near later i c (λ j m. m) (λ inside. missed)
      (λ j le. too_low part d band x y h near.tops j s.tops (subst (λ z. top_at near.tops j ≤ℤ z) is le))
      s.dealt;
}

-- after the last one none covers it
pub search_ends : (part : List Tri) (d : Tri) (band x y h lower : ℤ) (near later : Ahead) → (pos 0) ≤ℤ band → lower ≡ h -ℤ pos 1 → NoneComes lower near later → NoneSoFar part d band x y near h
    → ¬ HasPointOver part band x y h
search_ends part d band x y h lower near later least is none s over =
    let m = over.member in
    let place = get_or_default part m.0 d over.tri m.1 ∙ m.2 in
    let covers = subst (λ (t : Tri). CoversColumn t band x y h) (sym place) (covers_of_point part band x y h over) in
    deals_last (IsNearBy part band x y) (IsMissed part d band x y h) lower near later none (λ j le. too_low part d band x y h near.tops j s.tops (subst (λ z. top_at near.tops j ≤ℤ z) is le))
    s.dealt m.0 (is_near_by part d band x y h m.0 m.1 least covers) m.1 covers
