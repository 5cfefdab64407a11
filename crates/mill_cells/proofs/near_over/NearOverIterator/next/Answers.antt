use Rattle.std.proofs.Common.{ℕ, List, [], ◌∷◌, ◌≡◌, rules, subst, w32, to_z, of_z}
use Rattle.std.specs.Prelude.{MatchOption}
use Rattle.std.proofs.lemmas.Int.{to_z-of_z}
use Rattle.mill_cells.specs.Sorted.{over_of}
use Rattle.mill_cells.specs.Walks.{rest_of}
use Rattle.mill_cells.proofs.Over.{over_yields, over_goes}
use Rattle.mill_cells.proofs.near_over.NearOverIterator.next.Goals as goal

pub returns-clause-steps : goal.returns-clause-steps
returns-clause-steps c =
    let old = c.self.inside.walk in
    let new = c.next_over.new.self in
    let height = c.self.inside.height in
    let later = over_of new.grid.now.tops.items height (rest_of new) in
    subst (λ (numbers : List ℕ). MatchOption c.next_over.result ((numbers ≡ []) × (later ≡ [])) (λ i. numbers ≡ i ∷ later)) c.self.view_is
    (over_yields old.grid.now.tops.items new.grid.now.tops.items (to_z w32 (of_z w32 height)) height (rest_of old) (rest_of new) c.next_over.result c.next_over.ensures.tops (to_z-of_z w32 height (search rules)) c.next_over.ensures.over)

pub returns-clause-goes : goal.returns-clause-goes
returns-clause-goes c = over_goes _ (λ _. tt) _ _ c.next_over.result (returns-clause-steps c)
