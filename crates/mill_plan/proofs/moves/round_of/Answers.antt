use Rattle.std.proofs.Common.{◌≡◌, ◌+◌, ◌<◌, ◌++◌, ◌∙◌, List, [], ap, inl, inr, length, subst, sym, take}
use Rattle.std.proofs.lemmas.List.Elements.{All-get_or}
use Rattle.std.proofs.lemmas.Result.{err_from_is_err_and}
use Rattle.mill_base.proofs.Ranges.{in_range_of_unit}
use Rattle.mill_base.specs.Ranges.{IsInRange, IsInUnitRange, MovesInRange}
use Rattle.mill_base.specs.declared.motion.Move.{Move}
use Rattle.mill_base.specs.declared.points.Tri.{Tri}
use Rattle.mill_base.specs.declared.limits.TheConstants.{MAX_MOVES}
use Rattle.mill_dexel.specs.Stocks.{IsStock}
use Rattle.mill_links.specs.Links.{FollowStock, head, way_home}
use Rattle.mill_links.specs.Tours.{GoesThrough}
use Rattle.mill_links.proofs.Steps.{through_none}
use Rattle.mill_plan.specs.inner.Feeds.{SayClear}
use Rattle.mill_plan.specs.inner.Steps.{IsRound}
use Rattle.mill_plan.proofs.Feeding.{says_at}
use Rattle.mill_plan.proofs.Homing.{head_ranged, home_in_range, past_old, way_home_ranged}
use Rattle.mill_plan.proofs.Touring.{long_round, over_at, place_after, round_made, stock_more, tour_more}
use Rattle.mill_plan.proofs.moves.round_of.Goals as goal

pub cut-requires-clause-moves_ok : goal.cut-requires-clause-moves_ok
cut-requires-clause-moves_ok c =
    let job = c.args.job.now.fields in
    subst MovesInRange (sym (c.deref.ensures.value ∙ c.in_ok-head.ensures.ok ∙ ap (λ (ms : List Move). ms ++ head job) c.new-moves.ensures.items))
    (head_ranged job (home_in_range job c.args.job.now.is_job))

pub loop-number-init : goal.loop-number-init
loop-number-init c =
    let job = c.args.job.now.fields in
    let begun : c.head.new.out.items ≡ head job = c.in_ok-head.ensures.ok ∙ ap (λ (ms : List Move). ms ++ head job) c.new-moves.ensures.items in
    record {
      place = c.home-place.ensures.value;
      tour = λ part say. subst (λ (ms : List Move). GoesThrough job part [] ms) (sym begun) (through_none job part);
      stock = λ part say. subst (λ (ms : List Move). FollowStock job ms c.cut.new.rows) c.deref.ensures.value (c.cut.ensures.stock [] c.requires.rows_ok.stock);
      rows_ok = c.cut.ensures.rows_ok;
      in_range = c.home-place.ensures.in_range;
    }

pub link_known-requires-clause-from_ok : goal.link_known-requires-clause-from_ok
link_known-requires-clause-from_ok c = in_range_of_unit c.args.job.now.fields.unit c.loop-number.place c.loop-number.invariant.in_range

pub link_known-requires-clause-to_ok : goal.link_known-requires-clause-to_ok
link_known-requires-clause-to_ok c =
    in_range_of_unit c.args.job.now.fields.unit _ (All-get_or (λ v. IsInUnitRange c.args.job.now.fields.unit v.at) c.args.visits.now c.loop-number.number _ c.loop-number-test.true c.requires.visits_ok)

pub loop-number-preserved : goal.loop-number-preserved
loop-number-preserved c =
    let so_far = c.loop-number.invariant in
    let says = λ (part : List Tri) (say : SayClear c.args.job.now.fields part c.args.visits.now c.args.clear.now).
    says_at c.args.job.now.fields part c.args.visits.now c.args.clear.now c.loop-number.number _ _ c.loop-number.place say c.loop-number-test.true so_far.place in
    let adds = λ (part : List Tri) (say : SayClear c.args.job.now.fields part c.args.visits.now c.args.clear.now).
    c.in_ok-link_known.ensures.ok part c.loop-number.moves.items (says part say) (so_far.stock part say) in
    record {
      place = place_after c.args.job.now.fields c.args.visits.now c.loop-number.number _ c.loop-number-test.true;
      tour = λ part say. tour_more c.args.job.now.fields part c.args.visits.now c.loop-number.number _ c.loop-number.place c.loop-number.moves.items c.link_known.new.out.items
          c.loop-number-test.true so_far.place (so_far.tour part say) (adds part say);
      stock = λ part say. stock_more c.args.job.now.fields part c.loop-number.place _ c.loop-number.moves.items c.link_known.new.out.items c.link_known.new.rows (adds part say)
          (c.in_ok-link_known.ensures.stock c.loop-number.moves.items (adds part say).moves (so_far.stock part say) (adds part say).joined);
      rows_ok = c.link_known.ensures.rows_ok;
      in_range = All-get_or (λ v. IsInUnitRange c.args.job.now.fields.unit v.at) c.args.visits.now c.loop-number.number _ c.loop-number-test.true c.requires.visits_ok;
    }

pub returns-in_err-check_moves-clause-fault : goal.returns-in_err-check_moves-clause-fault
returns-in_err-check_moves-clause-fault c = λ part say.
    let p = err_from_is_err_and c.from_residual-in_err-check_moves.result c.from_residual-in_err-check_moves.ensures.1 in
    let so_far = c.loop-number.invariant in
    let tour : GoesThrough c.args.job.now.fields part (take (c.loop-number.number + 1) c.args.visits.now) c.link_known.new.out.items =
    tour_more c.args.job.now.fields part c.args.visits.now c.loop-number.number _ c.loop-number.place c.loop-number.moves.items c.link_known.new.out.items
    c.loop-number-test.true so_far.place (so_far.tour part say)
    (c.in_ok-link_known.ensures.ok part c.loop-number.moves.items
    (says_at c.args.job.now.fields part c.args.visits.now c.args.clear.now c.loop-number.number _ _ c.loop-number.place say c.loop-number-test.true so_far.place) (so_far.stock part say)) in
    let many : MAX_MOVES < length c.link_known.new.out.items = rw c.deref-in-loop-number.ensures.value at c.in_err-check_moves.ensures.many in
    rw (p.1, p.2, c.in_err-check_moves.ensures.fault)
    (inl (over_at c.args.job.now.fields part c.args.visits.now c.loop-number.number c.link_known.new.out.items tour many))

pub returns-in_err-check_moves-2-clause-fault : goal.returns-in_err-check_moves-2-clause-fault
returns-in_err-check_moves-2-clause-fault c = λ part say.
    let p = err_from_is_err_and c.from_residual-in_err-check_moves-2.result c.from_residual-in_err-check_moves-2.ensures.1 in
    let so_far = c.loop-number.invariant in
    let round : IsRound c.args.job.now.fields part c.args.visits.now c.home.new.out.items =
    round_made c.args.job.now.fields part c.args.visits.now c.loop-number.number c.loop-number.place c.loop-number.moves.items c.home.new.out.items c.loop-number-test.false
    so_far.place (so_far.tour part say) c.in_ok-home.ensures.ok in
    let many : MAX_MOVES < length c.home.new.out.items = rw c.deref-2.ensures.value at c.in_err-check_moves-2.ensures.many in
    rw (p.1, p.2, c.in_err-check_moves-2.ensures.fault) (inr (long_round c.args.job.now.fields part c.args.visits.now c.home.new.out.items round many))

pub returns-clause-round : goal.returns-clause-round
returns-clause-round c = λ part say.
    let so_far = c.loop-number.invariant in
    round_made c.args.job.now.fields part c.args.visits.now c.loop-number.number c.loop-number.place c.loop-number.moves.items c.home.new.out.items c.loop-number-test.false
    so_far.place (so_far.tour part say) c.in_ok-home.ensures.ok

pub cut-requires-2-clause-moves_ok : goal.cut-requires-2-clause-moves_ok
cut-requires-2-clause-moves_ok c =
    let way = way_home c.args.job.now.fields c.loop-number.place in
    subst MovesInRange
    (sym (past_old c.loop-number.moves.items way c.deref-3.result.now c.len-first.result (c.len-first.ensures ∙ c.loop-number.moves.ok.0) (c.deref-3.ensures.value ∙ c.in_ok-home.ensures.ok)))
    (way_home_ranged c.args.job.now.fields c.loop-number.place c.args.job.now.is_job (in_range_of_unit c.args.job.now.fields.unit c.loop-number.place c.loop-number.invariant.in_range)
    (subst IsInRange c.home-place.ensures.value (in_range_of_unit c.args.job.now.fields.unit c.home-place.result c.home-place.ensures.in_range)))

pub returns-clause-stock : goal.returns-clause-stock
returns-clause-stock c = λ part say tested.
    let way = way_home c.args.job.now.fields c.loop-number.place in
    subst (λ (ms : List Move). IsStock c.args.job.now.fields ms c.cut-2.new.rows)
    (ap (λ ms. c.loop-number.moves.items ++ ms)
    (past_old c.loop-number.moves.items way c.deref-3.result.now c.len-first.result (c.len-first.ensures ∙ c.loop-number.moves.ok.0) (c.deref-3.ensures.value ∙ c.in_ok-home.ensures.ok))
    ∙ sym c.in_ok-home.ensures.ok)
    (c.cut-2.ensures.stock c.loop-number.moves.items (c.loop-number.invariant.stock part say) tested)
