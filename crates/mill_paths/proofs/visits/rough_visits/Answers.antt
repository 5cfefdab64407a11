use Rattle.std.proofs.Common.{◌≡◌, ◌∙◌, List, [], refl, sym, ap, subst}
use Rattle.std.specs.Prelude.{ℤ, pos, ◌<ℤ◌, All, Err}
use Rattle.std.specs.List.{flat_map}
use Rattle.std.proofs.lemmas.List.Elements.{All-nil}
use Rattle.std.proofs.lemmas.Result.{err_from_is_err_and}
use Rattle.std.proofs.lemmas.Slice.Zip.{AllZip-long}
use Rattle.mill_base.specs.Lattices.{nodes_of, IsMapLattice}
use Rattle.mill_drop.specs.Maps.{AreDropHeights, IsHeightAt}
use Rattle.mill_job.specs.Jobs.{tool_of}
use Rattle.mill_links.specs.declared.visit.Visit.{Visit}
use Rattle.mill_paths.specs.Lattices.{rough_lattice}
use Rattle.mill_paths.specs.Limits.{IsHeightsFault, IsListFault}
use Rattle.mill_paths.specs.Visits.{IsVisit, rough_visits_of, rough_visits_on}
use Rattle.mill_paths.proofs.FaultLemmas.{heights_fault, heights_fault_visits, list_fault, list_fault_visits, list_there, layer_none, layer_some, list_without_layer, no_layer, with_layer}
use Rattle.mill_paths.proofs.LayerLemmas.{layer_within, no_layers}
use Rattle.mill_paths.proofs.Many.{few_rough, none_rough}
use Rattle.mill_paths.proofs.VisitLemmas.{rough_visits_ok}
use Rattle.mill_paths.proofs.visits.rough_visits.Goals as goal

pub returns-then-job-eq0-clause-list : goal.returns-then-job-eq0-clause-list
returns-then-job-eq0-clause-list g c =
    let none = layer_none c.args.job.now.fields.unit c.args.job.now.fields.layer (layer_within c.args.job.now.fields c.args.job.now.is_job) c.if-job-eq0.true in
    record {
      heights = [];
      are = λ some. absurd (no_layer c.args.job.now.fields.layer none some);
      visits = c.new.ensures.items ∙ sym (ap (λ (zs : List ℤ). flat_map (rough_visits_on c.args.job.now.fields []) zs) (no_layers c.args.job.now.fields none));
    }

pub returns-then-job-eq0-clause-each : goal.returns-then-job-eq0-clause-each
returns-then-job-eq0-clause-each g c =
    subst (λ (visits : List Visit). All (IsVisit c.args.job.now.fields c.args.part.now) visits) (sym c.new.ensures.items) (All-nil (IsVisit c.args.job.now.fields c.args.part.now))

pub returns-then-job-eq0-clause-nodes : goal.returns-then-job-eq0-clause-nodes
returns-then-job-eq0-clause-nodes g c =
    let none = layer_none c.args.job.now.fields.unit c.args.job.now.fields.layer (layer_within c.args.job.now.fields c.args.job.now.is_job) c.if-job-eq0.true in
    λ nodes. list_without_layer c.new.result (rough_lattice c.args.job.now.fields) c.args.job.now.fields.layer none nodes

pub returns-in_err-heights-clause-nodes : goal.returns-in_err-heights-clause-nodes
returns-in_err-heights-clause-nodes g c =
    let some : (pos 0) <ℤ c.args.job.now.fields.layer = layer_some c.args.job.now.fields.layer c.args.job.now.is_job.layer_ok.low c.if-job-eq0.false in
    let p = err_from_is_err_and c.from_residual.result c.from_residual.ensures.1 in
    let is : c.from_residual.result ≡ Err c.in_err-heights.field-0.0 = rw (p.1, p.2) refl in
    let fault : IsHeightsFault (rough_lattice c.args.job.now.fields) c.in_err-heights.field-0.0 = rw c.rough_lattice-lattice.ensures at c.in_err-heights.ensures.fault in
    λ nodes. with_layer c.args.job.now.fields.layer some (heights_fault c.from_residual.result (rough_lattice c.args.job.now.fields) c.in_err-heights.field-0.0 is fault nodes)

pub returns-in_err-heights-clause-visits : goal.returns-in_err-heights-clause-visits
returns-in_err-heights-clause-visits g c =
    let p = err_from_is_err_and c.from_residual.result c.from_residual.ensures.1 in
    let is : c.from_residual.result ≡ Err c.in_err-heights.field-0.0 = rw (p.1, p.2) refl in
    let fault : IsHeightsFault (rough_lattice c.args.job.now.fields) c.in_err-heights.field-0.0 = rw c.rough_lattice-lattice.ensures at c.in_err-heights.ensures.fault in
    λ told. absurd (heights_fault_visits c.from_residual.result (rough_lattice c.args.job.now.fields) c.in_err-heights.field-0.0 is fault told)

pub add_layers-requires-clause-lattice_ok : goal.add_layers-requires-clause-lattice_ok
add_layers-requires-clause-lattice_ok g c =
    rw c.rough_lattice-lattice.ensures at c.in_ok-heights.ensures.lattice_ok

pub add_layers-requires-clause-heights_ok : goal.add_layers-requires-clause-heights_ok
add_layers-requires-clause-heights_ok g c =
    let are : AreDropHeights (tool_of c.args.job.now.fields) c.args.part.now c.args.job.now.fields.floor (rough_lattice c.args.job.now.fields) c.in_ok-heights.heights.items = rw c.rough_lattice-lattice.ensures at c.in_ok-heights.ensures.heights in
    rw c.deref.ensures.value (AllZip-long (IsHeightAt (tool_of c.args.job.now.fields) c.args.part.now c.args.job.now.fields.floor) (nodes_of (rough_lattice c.args.job.now.fields)) c.in_ok-heights.heights.items are)

pub returns-in_err-add_layers-clause-nodes : goal.returns-in_err-add_layers-clause-nodes
returns-in_err-add_layers-clause-nodes g c =
    let some : (pos 0) <ℤ c.args.job.now.fields.layer = layer_some c.args.job.now.fields.layer c.args.job.now.is_job.layer_ok.low c.if-job-eq0.false in
    let p = err_from_is_err_and c.from_residual-in_err-add_layers.result c.from_residual-in_err-add_layers.ensures.1 in
    let is : c.from_residual-in_err-add_layers.result ≡ Err c.in_err-add_layers.field-0.0 = rw (p.1, p.2) refl in
    let fault : IsListFault (rough_visits_of c.args.job.now.fields c.in_ok-heights.heights.items) c.in_err-add_layers.field-0.0 = rw (c.new-list.ensures, c.deref.ensures.value) at c.in_err-add_layers.ensures.fault in
    let map_ok : IsMapLattice (rough_lattice c.args.job.now.fields) = rw c.rough_lattice-lattice.ensures at c.in_ok-heights.ensures.lattice_ok in
    λ nodes. with_layer c.args.job.now.fields.layer some (list_fault c.from_residual-in_err-add_layers.result (rough_lattice c.args.job.now.fields) (rough_visits_of c.args.job.now.fields c.in_ok-heights.heights.items) c.in_err-add_layers.field-0.0 is fault map_ok nodes)

pub returns-in_err-add_layers-clause-visits : goal.returns-in_err-add_layers-clause-visits
returns-in_err-add_layers-clause-visits g c =
    let some : (pos 0) <ℤ c.args.job.now.fields.layer = layer_some c.args.job.now.fields.layer c.args.job.now.is_job.layer_ok.low c.if-job-eq0.false in
    let p = err_from_is_err_and c.from_residual-in_err-add_layers.result c.from_residual-in_err-add_layers.ensures.1 in
    let is : c.from_residual-in_err-add_layers.result ≡ Err c.in_err-add_layers.field-0.0 = rw (p.1, p.2) refl in
    let fault : IsListFault (rough_visits_of c.args.job.now.fields c.in_ok-heights.heights.items) c.in_err-add_layers.field-0.0 = rw (c.new-list.ensures, c.deref.ensures.value) at c.in_err-add_layers.ensures.fault in
    let are : AreDropHeights (tool_of c.args.job.now.fields) c.args.part.now c.args.job.now.fields.floor (rough_lattice c.args.job.now.fields) c.in_ok-heights.heights.items = rw c.rough_lattice-lattice.ensures at c.in_ok-heights.ensures.heights in
    λ told. (
      some,
      record {
        heights = c.in_ok-heights.heights.items;
        are = are;
        many = list_fault_visits c.from_residual-in_err-add_layers.result (rough_visits_of c.args.job.now.fields c.in_ok-heights.heights.items) c.in_err-add_layers.field-0.0 is fault told;
      },
    )

pub returns-clause-list : goal.returns-clause-list
returns-clause-list g c =
    let are : AreDropHeights (tool_of c.args.job.now.fields) c.args.part.now c.args.job.now.fields.floor (rough_lattice c.args.job.now.fields) c.in_ok-heights.heights.items = rw c.rough_lattice-lattice.ensures at c.in_ok-heights.ensures.heights in
    let added = rw (c.new-list.ensures, c.deref.ensures.value) at c.in_ok-add_layers.ensures.ok in
    let visits : c.into_visits.result.items ≡ rough_visits_of c.args.job.now.fields c.in_ok-heights.heights.items = c.into_visits.ensures.visits ∙ added in
    record { heights = c.in_ok-heights.heights.items; are = λ some. are; visits = visits }

pub returns-clause-each : goal.returns-clause-each
returns-clause-each g c =
    let some : (pos 0) <ℤ c.args.job.now.fields.layer = layer_some c.args.job.now.fields.layer c.args.job.now.is_job.layer_ok.low c.if-job-eq0.false in
    let are : AreDropHeights (tool_of c.args.job.now.fields) c.args.part.now c.args.job.now.fields.floor (rough_lattice c.args.job.now.fields) c.in_ok-heights.heights.items = rw c.rough_lattice-lattice.ensures at c.in_ok-heights.ensures.heights in
    let map_ok : IsMapLattice (rough_lattice c.args.job.now.fields) = rw c.rough_lattice-lattice.ensures at c.in_ok-heights.ensures.lattice_ok in
    let added = rw (c.new-list.ensures, c.deref.ensures.value) at c.in_ok-add_layers.ensures.ok in
    let visits : c.into_visits.result.items ≡ rough_visits_of c.args.job.now.fields c.in_ok-heights.heights.items = c.into_visits.ensures.visits ∙ added in
    subst (λ (list : List Visit). All (IsVisit c.args.job.now.fields c.args.part.now) list) (sym visits) (rough_visits_ok c.args.job.now.fields c.args.part.now c.in_ok-heights.heights.items c.args.job.now.is_job some are)

pub returns-clause-nodes : goal.returns-clause-nodes
returns-clause-nodes g c =
    let some : (pos 0) <ℤ c.args.job.now.fields.layer = layer_some c.args.job.now.fields.layer c.args.job.now.is_job.layer_ok.low c.if-job-eq0.false in
    let map_ok : IsMapLattice (rough_lattice c.args.job.now.fields) = rw c.rough_lattice-lattice.ensures at c.in_ok-heights.ensures.lattice_ok in
    λ nodes. with_layer c.args.job.now.fields.layer some (list_there c.into_visits.result (rough_lattice c.args.job.now.fields) map_ok nodes)

pub returns-then-job-eq0-clause-many : goal.returns-then-job-eq0-clause-many
returns-then-job-eq0-clause-many g c =
    none_rough c.args.job.now.fields c.args.part.now (layer_none c.args.job.now.fields.unit c.args.job.now.fields.layer (layer_within c.args.job.now.fields c.args.job.now.is_job) c.if-job-eq0.true)

pub returns-clause-many : goal.returns-clause-many
returns-clause-many g c =
    let are : AreDropHeights (tool_of c.args.job.now.fields) c.args.part.now c.args.job.now.fields.floor (rough_lattice c.args.job.now.fields) c.in_ok-heights.heights.items = rw c.rough_lattice-lattice.ensures at c.in_ok-heights.ensures.heights in
    let added = rw (c.new-list.ensures, c.deref.ensures.value) at c.in_ok-add_layers.ensures.ok in
    few_rough c.args.job.now.fields c.args.part.now c.in_ok-heights.heights.items c.into_visits.result.items are (c.into_visits.ensures.visits ∙ added) c.into_visits.ensures.few
