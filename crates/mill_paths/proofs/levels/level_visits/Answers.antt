use Rattle.std.proofs.Common.{◌≡◌, ◌∙◌, List, [], map, refl, sym, subst}
use Rattle.std.specs.Prelude.{All, Err}
use Rattle.std.proofs.lemmas.Result.{err_from_is_err_and}
use Rattle.mill_level.specs.Waterlines.{Outline, seen}
use Rattle.mill_links.specs.declared.visit.Visit.{Visit}
use Rattle.mill_paths.specs.Limits.{IsListFault}
use Rattle.mill_paths.specs.Visits.{IsVisit, level_visits_of}
use Rattle.mill_paths.proofs.FaultLemmas.{list_fault_visits}
use Rattle.mill_paths.proofs.Many.{few_level, no_level, no_waterlines, none_level}
use Rattle.mill_paths.proofs.OutlineLemmas.{level_visits_ok}
use Rattle.mill_paths.proofs.levels.level_visits.Goals as goal

pub returns-then-is_empty-clause-list : goal.returns-then-is_empty-clause-list
returns-then-is_empty-clause-list g c =
    let none : c.args.job.now.fields.levels ≡ [] = no_level c.args.job.now.fields.levels c.as_slice.result.now c.is_empty.result c.as_slice.ensures.list c.is_empty.ensures c.if-is_empty.true in
    record { waterlines = []; are = no_waterlines c.args.job.now.fields c.args.part.now none; visits = c.new.ensures.items }

pub returns-then-is_empty-clause-many : goal.returns-then-is_empty-clause-many
returns-then-is_empty-clause-many g c =
    none_level c.args.job.now.fields c.args.part.now (no_level c.args.job.now.fields.levels c.as_slice.result.now c.is_empty.result c.as_slice.ensures.list c.is_empty.ensures c.if-is_empty.true)

pub returns-in_err-add_waterlines-clause-visits : goal.returns-in_err-add_waterlines-clause-visits
returns-in_err-add_waterlines-clause-visits g c =
    let p = err_from_is_err_and c.from_residual-in_err-add_waterlines.result c.from_residual-in_err-add_waterlines.ensures.1 in
    let is : c.from_residual-in_err-add_waterlines.result ≡ Err c.in_err-add_waterlines.field-0.0 = rw (p.1, p.2) refl in
    let lines : List (List Outline) = map (λ chains. map seen chains.items) c.in_ok-waterlines.waterlines.items in
    let fault : IsListFault (level_visits_of c.args.job.now.fields lines) c.in_err-add_waterlines.field-0.0 = rw (c.new-list.ensures, c.deref.ensures.value) at c.in_err-add_waterlines.ensures.fault in
    λ told. record {
      waterlines = lines;
      are = c.in_ok-waterlines.ensures.waterlines;
      many = list_fault_visits c.from_residual-in_err-add_waterlines.result (level_visits_of c.args.job.now.fields lines) c.in_err-add_waterlines.field-0.0 is fault told;
    }

pub returns-clause-list : goal.returns-clause-list
returns-clause-list g c =
    let added = rw (c.new-list.ensures, c.deref.ensures.value) at c.in_ok-add_waterlines.ensures.ok in
    record {
      waterlines = map (λ chains. map seen chains.items) c.in_ok-waterlines.waterlines.items;
      are = c.in_ok-waterlines.ensures.waterlines;
      visits = c.into_visits.ensures.visits ∙ added;
    }

pub returns-clause-each : goal.returns-clause-each
returns-clause-each g c =
    let lines : List (List Outline) = map (λ chains. map seen chains.items) c.in_ok-waterlines.waterlines.items in
    let added = rw (c.new-list.ensures, c.deref.ensures.value) at c.in_ok-add_waterlines.ensures.ok in
    let visits : c.into_visits.result.items ≡ level_visits_of c.args.job.now.fields lines = c.into_visits.ensures.visits ∙ added in
    subst (λ (list : List Visit). All (IsVisit c.args.job.now.fields c.args.part.now) list) (sym visits)
    (level_visits_ok c.args.job.now.fields c.args.part.now lines c.args.job.now.is_job c.in_ok-waterlines.ensures.waterlines)

pub returns-clause-many : goal.returns-clause-many
returns-clause-many g c =
    let lines : List (List Outline) = map (λ chains. map seen chains.items) c.in_ok-waterlines.waterlines.items in
    let added = rw (c.new-list.ensures, c.deref.ensures.value) at c.in_ok-add_waterlines.ensures.ok in
    few_level c.args.job.now.fields c.args.part.now lines c.into_visits.result.items c.in_ok-waterlines.ensures.waterlines (c.into_visits.ensures.visits ∙ added) c.into_visits.ensures.few
