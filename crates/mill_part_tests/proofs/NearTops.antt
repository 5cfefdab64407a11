-- The greatest top near an area, as a caller of next_over finds it.
use Rattle.std.proofs.Common.{◌≡◌, ◌↔◌, ℕ, ◌<◌, List, length, get_or, inl, sym, subst, ap, ◌∙◌, arith}
use Rattle.std.specs.List.{Contains}
use Rattle.std.proofs.lemmas.Int.{ints}
use Rattle.std.proofs.lemmas.List.{length-map}
use lib.IntN.{ℤ}
use lib.Signed.{◌<ℤ◌, ◌≤ℤ◌}
use Rattle.mill_base.specs.Points.{highest}
use Rattle.mill_base.specs.declared.points.Box2.{Box2}
use Rattle.mill_base.specs.declared.points.Tri.{Tri}
use Rattle.mill_cells.specs.Ahead.{Ahead, Comes, NoneComes, AreDealt}
use Rattle.mill_cells.specs.Boxes.{IsNear, box_of}
use Rattle.mill_cells.specs.Sorted.{Sorted, sorted_of, top_at}
use Rattle.mill_cells.proofs.PassedLemmas.{top_is, deals_on, deals_last}

-- each triangle near the area is still to come, or isn't over the top
pub record IsTopNear (sorted : Sorted) (area : Box2) (near : Ahead) (top : ℤ) : Type 0 where
  pub tops : near.tops ≡ sorted.tops
  pub known : (i : ℕ) → Contains near.numbers i → IsNear sorted.boxes area i
  pub dealt : AreDealt (IsNear sorted.boxes area) (λ i. top_at sorted.tops i ≤ℤ top) near.numbers

pub top_starts : (sorted : Sorted) (area : Box2) (near : Ahead) (top : ℤ) → near.tops ≡ sorted.tops → ((i : ℕ) → Contains near.numbers i ↔ IsNear sorted.boxes area i) → IsTopNear sorted area near top
top_starts sorted area near top same each = record { tops = same; known = λ i c. (each i).0 c; dealt = λ i n. inl ((each i).1 n) }

lower : (a b c : ℤ) → a ≤ℤ b → b <ℤ c → a ≤ℤ c
lower a b c h k = omega (arith, ints)

pub top_on : (sorted : Sorted) (area : Box2) (old new : Ahead) (i : ℕ) (top next : ℤ) → Comes top old i new → next ≡ top_at sorted.tops i → IsTopNear sorted area old top → IsTopNear sorted area new next
top_on sorted area old new i top next h e before =
    let over : top <ℤ next = subst (λ (z : ℤ). top <ℤ z) (ap (λ (ts : List ℤ). top_at ts i) before.tops ∙ sym e) h.over in
    record {
      tops = h.tops ∙ before.tops;
      known = λ j c. before.known j (h.rest j c);
      dealt = deals_on (IsNear sorted.boxes area) (λ j. top_at sorted.tops j ≤ℤ top) (λ j. top_at sorted.tops j ≤ℤ next) top old new i h
          (λ j low. lower (top_at sorted.tops j) top next low over)
          (subst (λ (z : ℤ). z ≤ℤ next) e (omega (arith, ints)))
          (λ j low. lower (top_at sorted.tops j) top next (subst (λ (ts : List ℤ). top_at ts j ≤ℤ top) before.tops low) over)
          before.dealt;
    }

pub top_last : (sorted : Sorted) (area : Box2) (old new : Ahead) (top : ℤ) → NoneComes top old new → IsTopNear sorted area old top → (i : ℕ) → IsNear sorted.boxes area i → top_at sorted.tops i ≤ℤ top
top_last sorted area old new top h before =
    deals_last (IsNear sorted.boxes area) (λ j. top_at sorted.tops j ≤ℤ top) top old new h (λ j low. subst (λ (ts : List ℤ). top_at ts j ≤ℤ top) before.tops low) before.dealt

-- the triangle that comes is one of the list, and its top is in the model
pub comes_within : (tris : List Tri) (sorted : Sorted) (area : Box2) (old new : Ahead) (i : ℕ) (top : ℤ) → sorted ≡ sorted_of tris → Comes top old i new → IsTopNear sorted area old top → i < length tris
comes_within tris sorted area old new i top e h before =
    let n = (before.known i h.number).within in
    omega (arith, n, ap (λ (s : Sorted). length s.boxes) e, length-map tris box_of)

pub top_comes : (tris : List Tri) (sorted : Sorted) (i : ℕ) (d : Tri) → sorted ≡ sorted_of tris → i < length tris → top_at sorted.tops i ≡ highest (get_or tris i d)
top_comes tris sorted i d e less = ap (λ (s : Sorted). top_at s.tops i) e ∙ top_is tris i d less
