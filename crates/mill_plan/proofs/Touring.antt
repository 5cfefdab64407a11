-- A list to which the links to the visits are added, one after the other, and when it is too long.
use Rattle.std.specs.Prelude.{◌≡◌, ℕ, ◌+◌, ◌<◌, ◌≤◌, List, ◌++◌, length, take, drop, slice_index_or}
use Rattle.std.proofs.Common.{sym, ap, ◌∙◌, subst, arith}
use Rattle.std.proofs.lemmas.List.{take_all, take_more, take-append-drop}
use Rattle.mill_base.specs.declared.motion.Move.{Move}
use Rattle.mill_base.specs.declared.points.Pt3.{Pt3}
use Rattle.mill_base.specs.declared.points.Tri.{Tri}
use Rattle.mill_dexel.specs.Rows.{RowState}
use Rattle.mill_job.specs.Columns.{home}
use Rattle.mill_job.specs.declared.fields.JobFields.{JobFields}
use Rattle.mill_links.specs.Links.{AddsLink, FollowStock, IsLink, way_home}
use Rattle.mill_links.specs.Tours.{GoesThrough, last_place}
use Rattle.mill_links.specs.declared.visit.Visit.{Visit}
use Rattle.mill_links.proofs.Steps.{last_snoc, through_snoc}
use Rattle.mill_base.specs.declared.limits.TheConstants.{MAX_MOVES}
use Rattle.mill_plan.specs.inner.Feeds.{place_before}
use Rattle.mill_plan.specs.inner.Steps.{IsLongRound, IsRound, IsTourOver}

module _ (job : JobFields) where
  -- where the cutter is after the visit of number k, and after all
  pub place_after : (visits : List Visit) (k : ℕ) (d : Visit) → k < length visits → (slice_index_or visits k d).at ≡ place_before job visits (k + 1)
  place_after visits k d inside =
      sym (ap (λ (vs : List Visit). last_place (home job) vs) (take_more visits k d inside) ∙ last_snoc (home job) (take k visits) (slice_index_or visits k d))

  -- where it is before a visit is where the visit before that one lies
  pub place_at : (visits : List Visit) (number before : ℕ) (d : Visit) → before + 1 ≡ number → number < length visits
      → (slice_index_or visits before d).at ≡ place_before job visits number
  place_at visits number before d next inside =
      place_after visits before d (omega (next, inside, arith)) ∙ ap (λ k. place_before job visits k) next

  pub place_at_last : (visits : List Visit) (k : ℕ) (place : Pt3) → length visits ≤ k → place ≡ place_before job visits k → place ≡ last_place (home job) visits
  place_at_last visits k place past so_far = so_far ∙ ap (λ (vs : List Visit). last_place (home job) vs) (take_all k visits past)

  module _ (part : List Tri) where
    -- the tour goes on by the link to the visit of number k
    pub tour_more : (visits : List Visit) (k : ℕ) (d : Visit) (place : Pt3) (old new : List Move) → k < length visits → place ≡ place_before job visits k
        → GoesThrough job part (take k visits) old → AddsLink job part old place (slice_index_or visits k d) old new
        → GoesThrough job part (take (k + 1) visits) new
    tour_more visits k d place old new inside there so_far next =
        subst (λ (ms : List Move). GoesThrough job part (take (k + 1) visits) ms) (sym next.joined)
        (subst (λ (vs : List Visit). GoesThrough job part vs (old ++ next.moves)) (sym (take_more visits k d inside))
        (through_snoc job part (take k visits) (slice_index_or visits k d) old next.moves so_far
        (subst (λ (p : Pt3). IsLink job part old p (slice_index_or visits k d) next.moves) there next.link)))

    -- the rows go on with the moves of the link
    pub stock_more : (place : Pt3) (visit : Visit) (old new : List Move) (rows : List RowState) (next : AddsLink job part old place visit old new)
        → FollowStock job (old ++ next.moves) rows → FollowStock job new rows
    stock_more place visit old new rows next follow = subst (λ (ms : List Move). FollowStock job ms rows) (sym next.joined) follow

    -- with the link to the visit of number k there are too many moves
    pub over_at : (visits : List Visit) (k : ℕ) (moves : List Move) → GoesThrough job part (take (k + 1) visits) moves → MAX_MOVES < length moves
        → IsTourOver job part visits
    over_at visits k moves so_far many = record {
      begun = moves;
      begins = record { first = take (k + 1) visits; rest = drop (k + 1) visits; all = sym (take-append-drop (k + 1) visits); tour = so_far };
      many = many;
    }

    -- the tour through all visits and the way home are a round
    pub round_made : (visits : List Visit) (k : ℕ) (place : Pt3) (toured moves : List Move) → length visits ≤ k → place ≡ place_before job visits k
        → GoesThrough job part (take k visits) toured → moves ≡ toured ++ way_home job place → IsRound job part visits moves
    round_made visits k place toured moves past there so_far joined = record {
      toured = toured;
      tour = subst (λ (vs : List Visit). GoesThrough job part vs toured) (take_all k visits past) so_far;
      joined = joined ∙ ap (λ (p : Pt3). toured ++ way_home job p) (place_at_last visits k place past there);
    }

    pub long_round : (visits : List Visit) (moves : List Move) → IsRound job part visits moves → MAX_MOVES < length moves → IsLongRound job part visits
    long_round visits moves round many = record { moves = moves; round = round; many = many }
