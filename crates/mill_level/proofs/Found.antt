-- The trails that are found from the edges below a number.
use Rattle.std.proofs.Common.{◌≡◌, ℕ, zero, suc, ◌+◌, ◌*◌, ◌<◌, Bool, true, false, cond, ◌&&◌, if◌then◌else◌, ◌⊎◌, ⊎_elim, List, [], ◌∷◌, ◌++◌, replicate, slice_index_or, length, All, refl, sym, ap, ◌∙◌, subst, true≢false, arith, mul-le-mul_right, eq-or-lt_of_le}
use Rattle.std.proofs.lemmas.List.{get_or_default, length-replicate, map-append}
use Rattle.std.proofs.lemmas.List.Elements.{All-nil, All-push}
use Rattle.std.proofs.lemmas.List.Sums.{sum_by_push}
use Rattle.mill_level.specs.declared.edge.Edge.{Edge}
use Rattle.mill_level.specs.declared.grid.LevelMap.{LevelMap}
use Rattle.mill_level.specs.declared.trace.Trail.{Trail}
use Rattle.mill_level.specs.Chains.{times, times_in}
use Rattle.mill_level.specs.Grids.{Grid, has_edge, is_along_y, is_crossing}
use Rattle.mill_level.specs.inner.Maps.{edge_number, grid_of}
use Rattle.mill_level.specs.inner.Trails.{AreMarks, AreTrails, IsTrail, chain_of, chains_of, is_passed, mark}
use Rattle.mill_level.proofs.Edges.{crossing_has_edge, edge_within, one_number}

-- the trails are chains, the marks are those of their crossings, and every crossing below the number is marked
pub record FoundBelow (level : LevelMap) (passed : List Bool) (trails : List Trail) (number : ℕ) : Type 0 where
  pub each : All (IsTrail level) trails
  pub marks : AreMarks level passed
  pub once : (e : Edge) → times e (chains_of level trails) ≡ mark level passed e
  pub below : (e : Edge) → is_crossing (grid_of level) e ≡ true → edge_number (grid_of level) e < number → is_passed level passed e ≡ true

unmarked : (n k : ℕ) → slice_index_or (replicate n false) k false ≡ false
unmarked zero k = refl
unmarked (suc n) zero = refl
unmarked (suc n) (suc k) = unmarked n k

none_of : (b : Bool) {c : Bool} → c ≡ false → b && c ≡ false
none_of true e = e
none_of false e = refl

-- of marks none of which is set
pub none_is_passed : (level : LevelMap) (passed : List Bool) (n : ℕ) → passed ≡ replicate n false → (e : Edge) → is_passed level passed e ≡ false
none_is_passed level passed n is e = none_of (has_edge (grid_of level) e) (ap (λ (l : List Bool). slice_index_or l (edge_number (grid_of level) e) false) is ∙ unmarked n (edge_number (grid_of level) e))

pub found_none : (level : LevelMap) (passed : List Bool) (trails : List Trail) → passed ≡ replicate (2 * (level.columns * level.rows)) false → trails ≡ [] → FoundBelow level passed trails 0
found_none level passed trails is none =
    let never : (e : Edge) → is_passed level passed e ≡ true → ⊥ = λ e h. true≢false (sym h ∙ none_is_passed level passed _ is e) in
    record {
      each = subst (All (IsTrail level)) (sym none) (All-nil (IsTrail level));
      marks = record {
        size = ap length is ∙ length-replicate _ false;
        crosses = λ e h. absurd (never e h);
        after = λ a b j h. absurd (never a h);
        before = λ a b j h. absurd (never b h);
      };
      once = λ e. ap (λ ts. times e (chains_of level ts)) none ∙ sym (ap (λ b. cond b 1 0) (none_is_passed level passed _ is e));
      below = λ e h k. absurd (omega arith);
    }

-- one more number, at whose edge there is no crossing or one that is marked
pub found_next : (level : LevelMap) (passed : List Bool) (trails : List Trail) (edge : Edge) (n : ℕ) → n ≡ edge_number (grid_of level) edge → edge.column < level.columns → edge.row < level.rows
    → (is_crossing (grid_of level) edge ≡ true → is_passed level passed edge ≡ true) → FoundBelow level passed trails n → FoundBelow level passed trails (n + 1)
found_next level passed trails edge n is column row here f = record { each = f.each; marks = f.marks; once = f.once; below = λ e h less. ⊎_elim (λ same. at e h same) (λ lt. f.below e h lt) (at_or_below _ _ less) }
  where
    at_or_below : (k m : ℕ) → k < m + 1 → (k ≡ m) ⊎ (k < m)
    at_or_below k m less = eq-or-lt_of_le (omega arith)

    at : (e : Edge) → is_crossing (grid_of level) e ≡ true → edge_number (grid_of level) e ≡ n → is_passed level passed e ≡ true
    at e h same =
        let within = edge_within (grid_of level) e (crossing_has_edge (grid_of level) e h) in
        let one : e ≡ edge = one_number (grid_of level) e edge within.0 within.1 column row (same ∙ is) in
        subst (λ d. is_passed level passed d ≡ true) (sym one) (here (subst (λ d. is_crossing (grid_of level) d ≡ true) one h))

-- a crossing's mark, read at its number
pub mark_at : (level : LevelMap) (passed : List Bool) (edge : Edge) (n : ℕ) (b : Bool) → n ≡ edge_number (grid_of level) edge → n < length passed → b ≡ slice_index_or passed n b
    → is_crossing (grid_of level) edge ≡ true → is_passed level passed edge ≡ b
mark_at level passed edge n b is less at h =
    ap (λ has. has && slice_index_or passed (edge_number (grid_of level) edge) false) (crossing_has_edge (grid_of level) edge h)
    ∙ ap (λ k. slice_index_or passed k false) (sym is) ∙ get_or_default passed n false b less ∙ sym at

still_marked : (a b : Bool) (k : ℕ) → cond b 1 0 ≡ cond a 1 0 + k → a ≡ true → b ≡ true
still_marked a true k e h = refl
still_marked true false k e h = absurd (omega (arith, e))
still_marked false false k e h = h

times_push : (level : LevelMap) (trails : List Trail) (trail : Trail) (e : Edge) → times e (chains_of level (trails ++ trail ∷ [])) ≡ times e (chains_of level trails) + times_in e (chain_of level trail)
times_push level trails trail e = ap (times e) (map-append (chain_of level) trails (trail ∷ [])) ∙ sum_by_push (times_in e) (chains_of level trails) (chain_of level trail)

-- one more trail, whose crossings are marked now and weren't before
pub found_trail : (level : LevelMap) (old new : List Bool) (trails : List Trail) (trail : Trail) (n : ℕ) → IsTrail level trail → ((e : Edge) → mark level new e ≡ mark level old e + times_in e (chain_of level trail))
    → AreMarks level new → FoundBelow level old trails n → FoundBelow level new (trails ++ trail ∷ []) n
found_trail level old new trails trail n is more marks f = record {
  each = All-push (IsTrail level) trails trail f.each is;
  marks = marks;
  once = λ e. times_push level trails trail e ∙ ap (λ k. k + times_in e (chain_of level trail)) (f.once e) ∙ sym (more e);
  below = λ e h less. still_marked (is_passed level old e) (is_passed level new e) _ (more e) (f.below e h less);
}

number_below : (grid : Grid) (e : Edge) → has_edge grid e ≡ true → edge_number grid e < 2 * (grid.columns * grid.rows)
number_below grid e h = let within = edge_within grid e h in by (is_along_y e.axis) within.0 within.1
  where
    by : (b : Bool) → e.column < grid.columns → e.row < grid.rows → cond b (grid.columns * grid.rows + (e.column * grid.rows + e.row)) (e.row * grid.columns + e.column) < 2 * (grid.columns * grid.rows)
    by true column row = omega (arith, mul-le-mul_right {m = e.column + 1} {n = grid.columns} grid.rows (omega arith))
    by false column row = omega (arith, mul-le-mul_right {m = e.row + 1} {n = grid.rows} grid.columns (omega arith))

same_marks : (p c : Bool) → (p ≡ true → c ≡ true) → (c ≡ true → p ≡ true) → ◌≡◌ {A = ℕ} (if p then 1 else 0) (if c then 1 else 0)
same_marks true true h k = refl
same_marks true false h k = absurd (true≢false (sym (h refl)))
same_marks false true h k = absurd (true≢false (sym (k refl)))
same_marks false false h k = refl

-- once all numbers have been asked
pub found_all : (level : LevelMap) (passed : List Bool) (trails : List Trail) → FoundBelow level passed trails (2 * (level.columns * level.rows)) → AreTrails level trails
found_all level passed trails f = record {
  each = f.each;
  once = λ e. f.once e ∙ same_marks (is_passed level passed e) (is_crossing (grid_of level) e) (f.marks.crosses e)
      (λ h. f.below e h (number_below (grid_of level) e (crossing_has_edge (grid_of level) e h)));
}
