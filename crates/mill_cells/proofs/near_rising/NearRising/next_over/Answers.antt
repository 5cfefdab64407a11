use Rattle.std.proofs.Common.{ℤ, subst, w32, to_z, of_z}
use Rattle.std.specs.Prelude.{MatchOption}
use Rattle.std.proofs.lemmas.Int.{to_z-of_z}
use Rattle.mill_cells.specs.Ahead.{Ahead, Comes, NoneComes}
use Rattle.mill_cells.specs.Walks.{rest_of}
use Rattle.mill_cells.proofs.PassedLemmas.{which_comes}
use Rattle.mill_cells.proofs.near_rising.NearRising.next_over.Goals as goal

pub returns : goal.returns
returns c =
    let old : Ahead = record { numbers = rest_of c.self.inside.walk; tops = c.self.inside.walk.grid.now.tops.items } in
    let new : Ahead = record { numbers = rest_of c.next_over.new.self; tops = c.next_over.new.self.grid.now.tops.items } in
    subst (λ (a : Ahead). MatchOption c.next_over.result (NoneComes c.args.height a new) (λ i. Comes c.args.height a i new)) c.self.view_is
    (subst (λ (z : ℤ). MatchOption c.next_over.result (NoneComes z old new) (λ i. Comes z old i new)) (to_z-of_z w32 c.args.height c.ranges.height)
    (which_comes (to_z w32 (of_z w32 c.args.height)) old new c.next_over.result c.next_over.ensures.tops c.next_over.ensures.over))
