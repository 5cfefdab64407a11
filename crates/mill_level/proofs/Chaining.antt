-- A list of edges as a chain of crossings.
use Rattle.std.proofs.Common.{◌≡◌, ℕ, suc, ◌+◌, ◌-◌, ◌<◌, Bool, true, false, cond, List, [], ◌∷◌, length, get_or, map, refl, sym, ap, subst, ◌∙◌, arith}
use Rattle.std.specs.Prelude.{ℤ, All, MatchBool, count_by}
use Rattle.std.proofs.lemmas.List.{length-map, get_or-map}
use Rattle.std.proofs.lemmas.List.Elements.{All-contains, All-from_get_or, All-weaker}
use Rattle.std.proofs.lemmas.List.Sums.{sum_by-cons}
use Rattle.mill_level.specs.declared.edge.Edge.{Edge}
use Rattle.mill_level.specs.declared.grid.LevelMap.{LevelMap}
use Rattle.mill_level.specs.Grids.{Grid, has_edge, is_along_y, is_crossing, same_edge}
use Rattle.mill_level.specs.Joins.{IsJoin}
use Rattle.mill_level.specs.Crossings.{Crossing}
use Rattle.mill_level.specs.Chains.{IsChain, IsClosedChain, IsOpenChain, IsWay, comes_before, times_in}
use Rattle.mill_level.specs.inner.Maps.{crossing_at, grid_of}
use Rattle.mill_level.specs.inner.Trails.{chain_from, rank_of}
use Rattle.mill_level.specs.inner.Ways.{AreSteps, GoesOn, times_among}
use Rattle.mill_level.proofs.Edges.{crossing_has_edge}
use Rattle.mill_level.proofs.Steps.{one_when}
use Rattle.mill_level.proofs.Trailing.{EndsClosed, EndsOpen, IsTraced}

either : (b : Bool) (e : Edge) (p q r s : ℤ) → (cond {A = Crossing} b (record { edge = e; x = p; y = q }) (record { edge = e; x = r; y = s })).edge ≡ e
either true e p q r s = refl
either false e p q r s = refl

-- a crossing keeps its edge
pub edge_of : (level : LevelMap) (e : Edge) → (crossing_at level e).edge ≡ e
edge_of level e = either (is_along_y e.axis) e _ _ _ _

join_of : (level : LevelMap) (a b : Edge) → IsJoin (grid_of level) a b → IsJoin (grid_of level) (crossing_at level a).edge (crossing_at level b).edge
join_of level a b h =
    subst (λ (x : Edge). IsJoin (grid_of level) x (crossing_at level b).edge) (sym (edge_of level a))
    (subst (λ (x : Edge). IsJoin (grid_of level) a x) (sym (edge_of level b)) h)

-- the join at the crossings of two edges is one at the edges
join_at_edges : (level : LevelMap) (a b : Edge) → IsJoin (grid_of level) (crossing_at level a).edge b → IsJoin (grid_of level) a b
join_at_edges level a b h = subst (λ (x : Edge). IsJoin (grid_of level) x b) (edge_of level a) h

join_to_edges : (level : LevelMap) (a b : Edge) → IsJoin (grid_of level) a (crossing_at level b).edge → IsJoin (grid_of level) a b
join_to_edges level a b h = subst (λ (x : Edge). IsJoin (grid_of level) a x) (edge_of level b) h

steps_rest : (grid : Grid) (e : Edge) (edges : List Edge) → AreSteps (GoesOn grid) (e ∷ edges) → AreSteps (GoesOn grid) edges
steps_rest grid e edges h k d lt =
    let on : suc k + 1 ≡ suc (k + 1) = omega arith in
    subst (λ (n : ℕ). IsJoin grid (get_or edges k d) (get_or (e ∷ edges) n d)) on (h (suc k) d (omega arith))

pub way_to : (level : LevelMap) (e : Edge) (edges : List Edge) (last : Edge) → AreSteps (GoesOn (grid_of level)) (e ∷ edges)
    → ((d : Edge) → get_or (e ∷ edges) (length edges) d ≡ last) → IsWay (grid_of level) (crossing_at level e) (map (crossing_at level) edges) (crossing_at level last)
way_to level e [] last h ends = ap (crossing_at level) (ends e)
way_to level e (f ∷ edges) last h ends =
    (join_of level e f (h 0 e (omega arith)), way_to level f edges last (steps_rest (grid_of level) e (f ∷ edges) h) ends)

times_map : (level : LevelMap) (e : Edge) (edges : List Edge)
    → count_by (λ (c : Crossing). same_edge c.edge e) (map (crossing_at level) edges) ≡ times_among e edges
times_map level e [] = refl
times_map level e (f ∷ edges) =
    sum_by-cons (λ (c : Crossing). one_when (same_edge c.edge e)) (crossing_at level f) (map (crossing_at level) edges)
    ∙ (λ k. one_when (same_edge (edge_of level f k) e) + times_map level e edges k)
    ∙ sym (sum_by-cons (λ (d : Edge). one_when (same_edge d e)) f edges)

pub times_of : (level : LevelMap) (closed : Bool) (edges : List Edge) (e : Edge) → 0 < length edges → times_in e (chain_from level closed edges) ≡ times_among e edges
times_of level closed [] e some = absurd (omega arith)
times_of level closed (f ∷ edges) e some = times_map level e (f ∷ edges)

pub edges_ok : (level : LevelMap) (edges : List Edge) → All (λ e. is_crossing (grid_of level) e ≡ true) edges → All (λ e. has_edge (grid_of level) e ≡ true) edges
edges_ok level edges h =
    All-weaker (λ e. is_crossing (grid_of level) e ≡ true) (λ e. has_edge (grid_of level) e ≡ true) (λ e. crossing_has_edge (grid_of level) e) edges h

pub rank_first : (level : LevelMap) (closed : Bool) (edges : List Edge) (e : Edge) → 0 < length edges → e ≡ get_or edges 0 e
    → rank_of (crossing_at level e) ≡ rank_of (chain_from level closed edges).first
rank_first level closed [] e some h = absurd (omega arith)
rank_first level closed (f ∷ edges) e some h = ap (λ (x : Edge). rank_of (crossing_at level x)) h

module _ (level : LevelMap) (old new : List Bool) (start : Edge) (closed : Bool) (edges : List Edge) (traced : IsTraced level old new start closed edges) where
  ends_at : (e : Edge) (rest : List Edge) → edges ≡ e ∷ rest → (d : Edge) → get_or (e ∷ rest) (length rest) d ≡ traced.last
  ends_at e rest is d =
      let at : length edges - 1 ≡ length rest = omega (arith, ap length is) in
      ap (λ (es : List Edge). get_or es (length rest) d) (sym is) ∙ ap (λ n. get_or edges n d) (sym at) ∙ traced.track.ends d

  way_of : (e : Edge) (rest : List Edge) → edges ≡ e ∷ rest → IsWay (grid_of level) (crossing_at level e) (map (crossing_at level) rest) (crossing_at level traced.last)
  way_of e rest is = way_to level e rest traced.last (subst (AreSteps (GoesOn (grid_of level))) is traced.track.steps) (ends_at e rest is)

  none_before : (e : Edge) (rest : List Edge) → edges ≡ e ∷ rest → EndsClosed level edges traced.last
      → All (λ c. comes_before c (crossing_at level e) ≡ false) (map (crossing_at level) rest)
  none_before e rest is ends =
      let long : length edges ≡ suc (length rest) = ap length is in
      let more = length-map rest (crossing_at level) in
      All-from_get_or (λ c. comes_before c (crossing_at level e) ≡ false) (map (crossing_at level) rest) (crossing_at level e) (λ i lt.
      subst (λ (c : Crossing). comes_before c (crossing_at level e) ≡ false) (sym (get_or-map (crossing_at level) rest i e (crossing_at level e) (omega arith)))
      (subst (λ (es : List Edge). comes_before (crossing_at level (get_or es (suc i) e)) (crossing_at level (get_or es 0 e)) ≡ false) is
      (ends.least.least (suc i) e (omega arith))))

  closed_chain : (e : Edge) (rest : List Edge) → edges ≡ e ∷ rest → EndsClosed level edges traced.last
      → IsClosedChain (grid_of level) (chain_from level true (e ∷ rest))
  closed_chain e rest is ends =
      let here : get_or edges 0 traced.last ≡ e = ap (λ (es : List Edge). get_or es 0 traced.last) is in record {
        last = crossing_at level traced.last;
        way = way_of e rest is;
        closes = join_of level traced.last e (subst (λ (x : Edge). IsJoin (grid_of level) traced.last x) here ends.closes);
        least = λ c at. All-contains (λ d. comes_before d (crossing_at level e) ≡ false) (map (crossing_at level) rest) c (none_before e rest is ends) at;
      }

  open_chain : (e : Edge) (rest : List Edge) → edges ≡ e ∷ rest → EndsOpen level edges traced.last → IsOpenChain (grid_of level) (chain_from level false (e ∷ rest))
  open_chain e rest is ends =
      let here : get_or edges 0 traced.last ≡ e = ap (λ (es : List Edge). get_or es 0 traced.last) is in record {
        last = crossing_at level traced.last;
        way = way_of e rest is;
        starts = λ a h. ends.comes_first a (subst (λ (x : Edge). IsJoin (grid_of level) a x) (sym here) (join_to_edges level a e h));
        ends = λ a h. ends.comes_last a (join_at_edges level traced.last a h);
      }

  pub chain_ok : IsChain (grid_of level) (chain_from level closed edges)
  chain_ok = by closed edges refl traced.track.some traced.ends
    where
      by : (c : Bool) (es : List Edge) → edges ≡ es → 0 < length es → MatchBool c (EndsClosed level edges traced.last) (EndsOpen level edges traced.last)
          → IsChain (grid_of level) (chain_from level c es)
      by c [] is some ends = absurd (omega arith)
      by true (e ∷ rest) is some ends = closed_chain e rest is ends
      by false (e ∷ rest) is some ends = open_chain e rest is ends
