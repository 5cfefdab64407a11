use Rattle.std.proofs.Common.{◌≡◌, ◌∙◌, ◌++◌, ap, sym}
use Rattle.std.specs.Prelude.{ℤ}
use Rattle.std.proofs.lemmas.Result.{err_from_is_err_and}
use Rattle.toml.specs.View.{table_view}
use Rattle.mill_job.specs.Cutters.{cutter_faults, cutter_key_faults}
use Rattle.mill_job.specs.Documents.{job_with, key_faults_in, relation_faults}
use Rattle.mill_job.specs.Jobs.{IsJob}
use Rattle.mill_job.specs.inner.Groups.{extras_faults, job_of_groups, measure_faults, paths_faults, paths_of, space_faults}
use Rattle.mill_job.specs.inner.Relations.{IsRelated}
use Rattle.mill_job.proofs.Faults.{first-append, first-found, if_ok, told}
use Rattle.mill_job.proofs.AllKeys.{by_relations, behind_keys, behind_measure, behind_outline, behind_paths, behind_space, is_job, cutter_of_outline, is_ranged, job_of_document, slope_of_outline}
use Rattle.mill_job.proofs.Stored.{stored_number}
use Rattle.mill_job.proofs.reading.fields_in.Goals as goal

-- The first fault of a group is that of all keys, where nothing is wrong with those before it.
pub returns-in_err-outline-clause-value : goal.returns-in_err-outline-clause-value
returns-in_err-outline-clause-value c =
    let unit = c.args.unit in
    let ms = table_view c.args.table.now in
    let rest = cutter_faults ms ++ relation_faults (job_with unit ms) in
    let answer = err_from_is_err_and c.from_residual.result c.from_residual.ensures.1 in
    rw (answer.1, answer.2) (told (key_faults_in unit ms ++ rest) _ (job_with unit ms) (first-found (cutter_key_faults ms) _ _ c.in_err-outline.ensures.err))

pub returns-in_err-space-clause-value : goal.returns-in_err-space-clause-value
returns-in_err-space-clause-value c =
    let unit = c.args.unit in
    let ms = table_view c.args.table.now in
    let rest = cutter_faults ms ++ relation_faults (job_with unit ms) in
    let answer = err_from_is_err_and c.from_residual-in_err-space.result c.from_residual-in_err-space.ensures.1 in
    rw (answer.1, answer.2) (told (key_faults_in unit ms ++ rest) _ (job_with unit ms) (behind_outline unit ms rest c.in_ok-outline.ensures.ok.0 ∙ first-found (space_faults unit ms) _ _ c.in_err-space.ensures.err))

pub returns-in_err-measure-clause-value : goal.returns-in_err-measure-clause-value
returns-in_err-measure-clause-value c =
    let unit = c.args.unit in
    let ms = table_view c.args.table.now in
    let rest = cutter_faults ms ++ relation_faults (job_with unit ms) in
    let answer = err_from_is_err_and c.from_residual-in_err-measure.result c.from_residual-in_err-measure.ensures.1 in
    rw (answer.1, answer.2) (told (key_faults_in unit ms ++ rest) _ (job_with unit ms) (behind_space unit ms rest c.in_ok-outline.ensures.ok.0 c.in_ok-space.ensures.ok.0 ∙ first-found (measure_faults ms) _ _ c.in_err-measure.ensures.err))

pub returns-in_err-paths-clause-value : goal.returns-in_err-paths-clause-value
returns-in_err-paths-clause-value c =
    let unit = c.args.unit in
    let ms = table_view c.args.table.now in
    let rest = cutter_faults ms ++ relation_faults (job_with unit ms) in
    let answer = err_from_is_err_and c.from_residual-in_err-paths.result c.from_residual-in_err-paths.ensures.1 in
    rw (answer.1, answer.2) (told (key_faults_in unit ms ++ rest) _ (job_with unit ms) (behind_measure unit ms rest c.in_ok-outline.ensures.ok.0 c.in_ok-space.ensures.ok.0 c.in_ok-measure.ensures.ok.0 ∙ first-found (paths_faults unit ms) _ _ c.in_err-paths.ensures.err))

pub returns-in_err-extras-clause-value : goal.returns-in_err-extras-clause-value
returns-in_err-extras-clause-value c =
    let unit = c.args.unit in
    let ms = table_view c.args.table.now in
    let rest = cutter_faults ms ++ relation_faults (job_with unit ms) in
    let answer = err_from_is_err_and c.from_residual-in_err-extras.result c.from_residual-in_err-extras.ensures.1 in
    rw (answer.1, answer.2) (told (key_faults_in unit ms ++ rest) _ (job_with unit ms) (behind_paths unit ms rest c.in_ok-outline.ensures.ok.0 c.in_ok-space.ensures.ok.0 c.in_ok-measure.ensures.ok.0 c.in_ok-paths.ensures.ok.0 ∙ first-found (extras_faults unit ms) _ _ c.in_err-extras.ensures.err))

-- Behind keys with which nothing is wrong, a fault between the cutter's keys is the first.
pub returns-in_err-cutter-clause-value : goal.returns-in_err-cutter-clause-value
returns-in_err-cutter-clause-value c =
    let unit = c.args.unit in
    let ms = table_view c.args.table.now in
    let rest = cutter_faults ms ++ relation_faults (job_with unit ms) in
    let slope = sym (slope_of_outline ms c.in_ok-outline.outline c.in_ok-outline.ensures.ok.1) ∙ c.in_err-cutter.ensures.err in
    let found = behind_keys unit ms rest c.in_ok-outline.ensures.ok.0 c.in_ok-space.ensures.ok.0 c.in_ok-measure.ensures.ok.0 c.in_ok-paths.ensures.ok.0 c.in_ok-extras.ensures.ok.0 ∙ first-found (cutter_faults ms) (relation_faults (job_with unit ms)) _ slope in
    let answer = err_from_is_err_and c.from_residual-in_err-cutter.result c.from_residual-in_err-cutter.ensures.1 in
    rw (answer.1, answer.2) (told (key_faults_in unit ms ++ rest) _ (job_with unit ms) found)

-- Each value is the one that the document gives, and no key has a fault: so the relations decide.
pub returns-clause-value : goal.returns-clause-value
returns-clause-value c =
    let unit = c.args.unit in
    let ms = table_view c.args.table.now in
    let rest = cutter_faults ms ++ relation_faults (job_with unit ms) in
    let outline = c.in_ok-outline.ensures.ok.1 in
    let slope = sym (slope_of_outline ms c.in_ok-outline.outline outline) ∙ c.in_ok-cutter.ensures.ok.0 in
    let cutter = c.in_ok-cutter.ensures.ok.1 ∙ cutter_of_outline ms c.in_ok-outline.outline outline in
    let pitch = stored_number c.in_ok-measure.ensures.in_range.pitch_ok (record { le = tt }) (record { le = tt }) in
    let paths = c.in_ok-paths.ensures.ok.1 ∙ ap (λ (z : ℤ). paths_of z ms) pitch in
    let job : c.assembled-fields.result ≡ job_with unit ms = c.assembled-fields.ensures ∙ job_of_document unit ms c.in_ok-cutter.cutter c.in_ok-space.space c.in_ok-measure.measure c.in_ok-paths.paths c.in_ok-extras.extras cutter c.in_ok-space.ensures.ok.1 c.in_ok-measure.ensures.ok.1 paths c.in_ok-extras.ensures.ok.1 in
    let relations = behind_keys unit ms rest c.in_ok-outline.ensures.ok.0 c.in_ok-space.ensures.ok.0 c.in_ok-measure.ensures.ok.0 c.in_ok-paths.ensures.ok.0 c.in_ok-extras.ensures.ok.0 ∙ first-append (cutter_faults ms) (relation_faults (job_with unit ms)) slope in
    by_relations c.unless.result c.relation_fault.result c.assembled-fields.result (job_with unit ms) (key_faults_in unit ms ++ rest) c.unless.ensures c.relation_fault.ensures.value job relations

pub relation_fault-requires : goal.relation_fault-requires
relation_fault-requires c = rw c.assembled-fields.ensures (is_ranged c.args.unit c.in_ok-cutter.cutter c.in_ok-space.space c.in_ok-measure.measure c.in_ok-paths.paths c.in_ok-extras.extras c.in_ok-cutter.ensures.in_range c.in_ok-space.ensures.in_range c.in_ok-measure.ensures.in_range c.in_ok-paths.ensures.in_range c.in_ok-extras.ensures.in_range)

pub returns-clause-in_range : goal.returns-clause-in_range
returns-clause-in_range c = rw c.unless.ensures (if_ok c.relation_fault.result _ IsJob (λ none.
    let related : IsRelated (job_of_groups c.args.unit c.in_ok-cutter.cutter c.in_ok-space.space c.in_ok-measure.measure c.in_ok-paths.paths c.in_ok-extras.extras) = rw (← c.assembled-fields.ensures) (c.relation_fault.ensures.none none) in
    rw c.assembled-fields.ensures (is_job c.args.unit c.in_ok-cutter.cutter c.in_ok-space.space c.in_ok-measure.measure c.in_ok-paths.paths c.in_ok-extras.extras c.in_ok-cutter.ensures.in_range c.in_ok-space.ensures.in_range c.in_ok-measure.ensures.in_range c.in_ok-paths.ensures.in_range c.in_ok-extras.ensures.in_range related)))
