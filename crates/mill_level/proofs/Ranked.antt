-- Trails in the order of their ranks.
use Rattle.std.proofs.Common.{◌≡◌, Ordering, ℕ, ◌+◌, ◌<◌, ℤ, Bool, false, Bor, List, [], ◌∷◌, length, get_or, All, IsPermutation, fold, sym, ap₂, ◌∙◌, arith}
use Rattle.std.specs.Fn.{Called, ComputesKey}
use Rattle.std.specs.List.Sorted.{IsSortedByKey}
use Rattle.std.specs.Ordering.{ordering_then, int_cmp, nat_cmp, bool_cmp, is_lt}
use Rattle.std.proofs.lemmas.Fn.{always_returns_same}
use Rattle.std.proofs.lemmas.List.{get_or-map, length-map}
use Rattle.std.proofs.lemmas.List.Elements.{All-contains, All-get_or, All-map, All-weaker}
use Rattle.std.proofs.lemmas.List.Folds.{fold-map}
use Rattle.std.proofs.lemmas.List.Sorted.{All-permutation, sum_by-IsPermutation}
use denote.Param.Members.{Mut}
use Rattle.mill_level.specs.declared.edge.Edge.{Edge}
use Rattle.mill_level.specs.declared.grid.LevelMap.{LevelMap}
use Rattle.mill_level.specs.declared.trace.Trail.{Trail}
use Rattle.mill_level.specs.Chains.{AreChains, Chain, IsChain, starts_before, times, times_in}
use Rattle.mill_level.specs.inner.Maps.{grid_of}
use Rattle.mill_level.specs.inner.Trails.{AreTrails, IsTrail, chain_of, chains_of}

-- what trails are ordered by, and the order of that
abbrev Rank : Type 0
Rank = ℤ × ℤ × ℕ × ℕ × Bool

abbrev rank_cmp : Rank → Rank → Ordering
rank_cmp a b = ordering_then (ordering_then (ordering_then (ordering_then (int_cmp a.0 b.0) (int_cmp a.1 b.1)) (nat_cmp a.2 b.2)) (nat_cmp a.3 b.3)) (bool_cmp a.4 b.4)

abbrev rank : Trail → Rank
rank trail = trail.rank

-- the order of two trails' ranks is that of their chains' starts
same_order : (level : LevelMap) (a b : Trail) → IsTrail level a → IsTrail level b → is_lt (rank_cmp (rank a) (rank b)) ≡ starts_before (chain_of level a) (chain_of level b)
same_order level a b p q = ap₂ (λ (x y : Rank). is_lt (rank_cmp x y)) p.rank q.rank

chains_sorted : (level : LevelMap) (trails : List Trail) → All (IsTrail level) trails → IsSortedByKey rank rank_cmp trails → (k : ℕ) (d : Chain) → k + 1 < length (chains_of level trails)
    → starts_before (get_or (chains_of level trails) (k + 1) d) (get_or (chains_of level trails) k d) ≡ false
chains_sorted level [] each up k d less = absurd (omega arith)
chains_sorted level (t ∷ ts) each up k d less =
    let f = chain_of level in
    let long = length-map (t ∷ ts) f in
    let after = get_or-map f (t ∷ ts) (k + 1) t d (omega arith) in
    let before = get_or-map f (t ∷ ts) k t d (omega arith) in
    let later = All-get_or (IsTrail level) (t ∷ ts) (k + 1) t (omega arith) each in
    let sooner = All-get_or (IsTrail level) (t ∷ ts) k t (omega arith) each in
    ap₂ starts_before after before ∙ sym (same_order level _ _ later sooner) ∙ up k t (omega arith) (omega arith)

-- how often an edge stands in the chains of trails doesn't depend on the order
times_moved : (level : LevelMap) (old new : List Trail) (e : Edge) → IsPermutation old new → times e (chains_of level new) ≡ times e (chains_of level old)
times_moved level old new e p = by new ∙ sum_by-IsPermutation (λ t. times_in e (chain_of level t)) old new p ∙ sym (by old)
  where
    by : (ts : List Trail) → times e (chains_of level ts) ≡ fold (λ n t. n + times_in e (chain_of level t)) 0 ts
    by ts = fold-map (λ n c. n + times_in e c) (chain_of level) 0 ts

chains_sort : (level : LevelMap) (old new : List Trail) → AreTrails level old → IsPermutation old new → IsSortedByKey rank rank_cmp new → AreChains (grid_of level) (chains_of level new)
chains_sort level old new are p up =
    let each = All-permutation (IsTrail level) old new p are.each in
    record {
      each = λ c in_list. All-contains (IsChain (grid_of level)) (chains_of level new) c
          (All-map (IsChain (grid_of level)) (chain_of level) new (All-weaker (IsTrail level) (λ t. IsChain (grid_of level) (chain_of level t)) (λ t is. is.chain) new each)) in_list;
      once = λ e. times_moved level old new e p ∙ are.once e;
      ordered = λ k d zero_le less. chains_sorted level new each up k d less;
    }

-- from the clauses of `sort_by_key`, where each call gives the rank
pub chains_from_sort : {F : Type 0} {g : Mut F (Bor Trail × Unit {0}) Rank} {f : F} (level : LevelMap) (old new : List Trail) → AreTrails level old → IsPermutation old new
    → ((key : Trail → Rank) → ComputesKey g key f → IsSortedByKey key rank_cmp new)
    → ((a : Bor Trail × Unit {0}) (r : Rank) (f' : F) → Called g f a r f' → (r ≡ a.0.now.rank) × (f' ≡ f)) → AreChains (grid_of level) (chains_of level new)
chains_from_sort {g = g} {f = f} level old new are p up h = chains_sort level old new are p (up rank (always_returns_same g (λ a r. r ≡ a.0.now.rank) f h))
