-- Each crossing of the chains is at the place that the map has for it; so what was found makes a waterline.
use Rattle.std.proofs.Common.{◌≡◌, inl, inr, w32, to_z, of_z, ℤ, zero, suc, ◌<◌, Bool, true, false, if◌then◌else◌, List, [], ◌∷◌, length, map, Contains, refl, sym, ◌∙◌, ap, subst, arith}
use Rattle.std.proofs.lemmas.List.Elements.{All-contains}
use Rattle.std.specs.Prelude.{All}
use Rattle.mill_base.specs.Numbers.{Within}
use Rattle.mill_base.specs.declared.limits.TheConstants.{MAX_COORDINATE}
use Rattle.mill_base.specs.declared.points.Tri.{Tri}
use Rattle.mill_base.specs.declared.tool.Tool.{Tool}
use Rattle.mill_base.specs.declared.lattice.Lattice.{Lattice}
use Rattle.mill_push.proofs.Stored.{stored}
use Rattle.mill_level.specs.declared.edge.Edge.{Edge}
use Rattle.mill_level.specs.declared.grid.LevelMap.{LevelMap}
use Rattle.mill_level.specs.declared.trace.Trail.{Trail}
use Rattle.mill_level.specs.Grids.{is_crossing}
use Rattle.mill_level.specs.Crossings.{Crossing, HasLastFree}
use Rattle.mill_level.specs.Chains.{AreChains, Chain, crossings_of, times, times_in}
use Rattle.mill_level.specs.Waterlines.{IsWaterline, Outline, outline}
use Rattle.mill_level.specs.inner.Maps.{IsMapOf, crossing_at, grid_of}
use Rattle.mill_level.specs.inner.Trails.{IsTrail, chain_from, chain_of, chains_of}
use Rattle.mill_level.proofs.Chaining.{edge_of}
use Rattle.mill_level.proofs.Members.{IsIn, contains_in, member_counts}
use Rattle.mill_level.proofs.SameChain.{IsOn, times_from_on}

in_contains : {X : Type 0} (x : X) (xs : List X) → Contains xs x → IsIn x xs
in_contains x [] h = let less = h.1 in absurd (omega (arith))
in_contains x (y ∷ ys) (zero, less, e) = inl e
in_contains x (y ∷ ys) (suc k, less, e) = inr (in_contains x ys (k, omega (less, arith), e))

-- what stands in a list's images is the image of something in it
image : {X Y : Type 0} (f : X → Y) (xs : List X) (y : Y) → IsIn y (map f xs) → (x : X) × IsIn x xs × (f x ≡ y)
image f [] y h = absurd h
image f (x ∷ xs) y (inl e) = (x, inl refl, e)
image f (x ∷ xs) y (inr h) = let m = image f xs y h in (m.0, inr m.1, m.2)

module _ (level : LevelMap) (P : Crossing → Type 0) (places : (e : Edge) → is_crossing (grid_of level) e ≡ true → P (crossing_at level e)) where
  -- a crossing of a chain of edges is that of its own edge
  own : (closed : Bool) (es : List Edge) (c : Crossing) → 0 < length es → IsIn c (crossings_of (chain_from level closed es)) → crossing_at level c.edge ≡ c
  own closed [] c some h = absurd (omega (some, arith))
  own closed (e ∷ es) c some h =
      let m = image (crossing_at level) (e ∷ es) c h in
      ap (λ (x : Crossing). crossing_at level x.edge) (sym m.2) ∙ ap (crossing_at level) (edge_of level m.0) ∙ m.2

  module _ (trails : List Trail) (each : All (IsTrail level) trails) (chains : AreChains (grid_of level) (chains_of level trails)) where
    -- an edge that stands in a chain crosses
    crosses : (e : Edge) → 0 < times e (chains_of level trails) → is_crossing (grid_of level) e ≡ true
    crosses e some = by (is_crossing (grid_of level) e) (chains.once e)
      where
        by : (b : Bool) → times e (chains_of level trails) ≡ (if b then 1 else 0) → b ≡ true
        by true k = refl
        by false k = absurd (omega (some, k, arith))

    pub placed : (chain : Chain) (c : Crossing) → Contains (chains_of level trails) chain → Contains (crossings_of chain) c → P c
    placed chain c k m =
        let there : IsIn chain (chains_of level trails) = in_contains chain (chains_of level trails) k in
        let trail = image (chain_of level) trails chain there in
        let on : IsOn c.edge chain = record { crossing = c; member = in_contains c (crossings_of chain) m; edge = refl } in
        let counted : 0 < times c.edge (chains_of level trails) =
        omega (arith, times_from_on c.edge chain on, member_counts (times_in c.edge) chain (chains_of level trails) there) in
        let is : IsTrail level trail.0 = All-contains (IsTrail level) trails trail.0 each (contains_in trail.0 trails trail.1) in
        let same : crossing_at level c.edge ≡ c =
        own trail.0.closed trail.0.edges.items c is.some (subst (λ (x : Chain). IsIn c (crossings_of x)) (sym trail.2) on.member) in
        subst P same (places c.edge (crosses c.edge counted))

same_outlines : (level : LevelMap) (z : ℤ) (trails : List Trail) → map (λ trail. outline z (chain_of level trail)) trails ≡ map (outline z) (chains_of level trails)
same_outlines level z [] = refl
same_outlines level z (trail ∷ trails) = ap (λ os. outline z (chain_of level trail) ∷ os) (same_outlines level z trails)

-- what was found of a lattice at a height, which the machine stores, makes its waterline
pub waterline_of : (tool : Tool) (part : List Tri) (z : ℤ) (lattice : Lattice) (level : LevelMap) (trails : List Trail) (outlines : List Outline)
    → Within MAX_COORDINATE z → IsMapOf tool part (to_z w32 (of_z w32 z)) lattice level → All (IsTrail level) trails
    → AreChains (grid_of level) (chains_of level trails) → outlines ≡ map (λ trail. outline (to_z w32 (of_z w32 z)) (chain_of level trail)) trails
    → IsWaterline tool part z lattice outlines
waterline_of tool part z lattice level trails outlines z_ok found each chains are =
    let same = stored z z_ok in
    let h : IsMapOf tool part z lattice level = subst (λ (w : ℤ). IsMapOf tool part w lattice level) same found in
    record {
      grid = grid_of level;
      tells = h.tells;
      chains = chains_of level trails;
      are_chains = chains;
      places = placed level (HasLastFree tool part z lattice (grid_of level)) h.places trails each chains;
      points = are ∙ ap (λ (w : ℤ). map (λ trail. outline w (chain_of level trail)) trails) same ∙ same_outlines level z trails;
    }
