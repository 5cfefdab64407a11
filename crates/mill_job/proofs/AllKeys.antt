-- From groups of keys to all keys: which fault is the first, and what the job is where there is none.
use Rattle.std.proofs.Common.{◌≡◌, ◌∙◌, List, ◌++◌, Option, Some, None, Result, Ok, Err, IfOk, IfErr, ap, refl, sym}
use Rattle.toml.specs.Data.{Members}
use Rattle.mill_base.specs.Sizes.{IsCutter}
use Rattle.mill_base.specs.declared.cutter.Cutter.{Cutter}
use Rattle.mill_base.specs.declared.unit.Unit.{Unit}
use Rattle.mill_job.specs.Cutters.{cutter_faults, cutter_key_faults, cutter_of, cutter_with, slope_faults}
use Rattle.mill_job.specs.Documents.{job_with, key_faults_in, relation_faults}
use Rattle.mill_job.specs.Jobs.{IsJob}
use Rattle.mill_job.specs.Tables.{checked, first}
use Rattle.mill_job.specs.declared.cutter.Outline.{Outline}
use Rattle.mill_job.specs.declared.groups.Extras.{Extras}
use Rattle.mill_job.specs.declared.fault.JobFault.{JobFault}
use Rattle.mill_job.specs.declared.fields.JobFields.{JobFields}
use Rattle.mill_job.specs.declared.groups.Measure.{Measure}
use Rattle.mill_job.specs.declared.groups.Paths.{Paths}
use Rattle.mill_job.specs.declared.groups.Space.{Space}
use Rattle.mill_job.specs.inner.Groups.{extras_faults, extras_of, job_of_groups, measure_faults, measure_of, outline_of, paths_faults, paths_of, space_faults, space_of}
use Rattle.mill_job.specs.inner.Ranged.{AreExtras, ArePaths, IsMeasure, IsRanged, IsSpace}
use Rattle.mill_job.specs.inner.Relations.{IsRelated}
use Rattle.mill_job.proofs.Faults.{first-append, told}

-- nothing is wrong with the keys of the groups before one, and the faults behind them decide
pub behind_outline : (unit : Unit) (ms : Members) (rest : List (Option JobFault)) → first (cutter_key_faults ms) ≡ None
    → first (key_faults_in unit ms ++ rest) ≡ first (space_faults unit ms ++ measure_faults ms ++ paths_faults unit ms ++ extras_faults unit ms ++ rest)
behind_outline unit ms rest outline = first-append (cutter_key_faults ms) (space_faults unit ms ++ measure_faults ms ++ paths_faults unit ms ++ extras_faults unit ms ++ rest) outline

pub behind_space : (unit : Unit) (ms : Members) (rest : List (Option JobFault)) → first (cutter_key_faults ms) ≡ None → first (space_faults unit ms) ≡ None
    → first (key_faults_in unit ms ++ rest) ≡ first (measure_faults ms ++ paths_faults unit ms ++ extras_faults unit ms ++ rest)
behind_space unit ms rest outline space = behind_outline unit ms rest outline ∙ first-append (space_faults unit ms) (measure_faults ms ++ paths_faults unit ms ++ extras_faults unit ms ++ rest) space

pub behind_measure : (unit : Unit) (ms : Members) (rest : List (Option JobFault)) → first (cutter_key_faults ms) ≡ None → first (space_faults unit ms) ≡ None → first (measure_faults ms) ≡ None
    → first (key_faults_in unit ms ++ rest) ≡ first (paths_faults unit ms ++ extras_faults unit ms ++ rest)
behind_measure unit ms rest outline space measure = behind_space unit ms rest outline space ∙ first-append (measure_faults ms) (paths_faults unit ms ++ extras_faults unit ms ++ rest) measure

pub behind_paths : (unit : Unit) (ms : Members) (rest : List (Option JobFault)) → first (cutter_key_faults ms) ≡ None → first (space_faults unit ms) ≡ None → first (measure_faults ms) ≡ None → first (paths_faults unit ms) ≡ None
    → first (key_faults_in unit ms ++ rest) ≡ first (extras_faults unit ms ++ rest)
behind_paths unit ms rest outline space measure paths = behind_measure unit ms rest outline space measure ∙ first-append (paths_faults unit ms) (extras_faults unit ms ++ rest) paths

pub behind_keys : (unit : Unit) (ms : Members) (rest : List (Option JobFault)) → first (cutter_key_faults ms) ≡ None → first (space_faults unit ms) ≡ None → first (measure_faults ms) ≡ None → first (paths_faults unit ms) ≡ None → first (extras_faults unit ms) ≡ None
    → first (key_faults_in unit ms ++ rest) ≡ first rest
behind_keys unit ms rest outline space measure paths extras = behind_paths unit ms rest outline space measure paths ∙ first-append (extras_faults unit ms) rest extras

-- what is wrong between the cutter's keys, and the cutter, are what its outline says
pub slope_of_outline : (ms : Members) (outline : Outline) → outline ≡ outline_of ms → first (slope_faults outline.shape outline.rise outline.run) ≡ first (cutter_faults ms)
slope_of_outline ms outline e = ap (λ (o : Outline). first (slope_faults o.shape o.rise o.run)) e

pub cutter_of_outline : (ms : Members) (outline : Outline) → outline ≡ outline_of ms → cutter_with outline.shape outline.radius outline.rise outline.run ≡ cutter_of ms
cutter_of_outline ms outline e = ap (λ (o : Outline). cutter_with o.shape o.radius o.rise o.run) e

-- behind keys with which nothing is wrong, the cutter is that of its outline, or the first fault is between its keys
pub cutter_decides : (ms : Members) (outline : Outline) (answer : Result Cutter JobFault) → first (cutter_key_faults ms) ≡ None → outline ≡ outline_of ms
    → IfOk answer (λ cutter. (first (slope_faults outline.shape outline.rise outline.run) ≡ None) × (cutter ≡ cutter_with outline.shape outline.radius outline.rise outline.run))
    → IfErr answer (λ fault. first (slope_faults outline.shape outline.rise outline.run) ≡ Some fault)
    → answer ≡ checked (first (cutter_key_faults ms ++ cutter_faults ms)) (cutter_of ms)
cutter_decides ms outline (Ok cutter) keys e ok err =
    rw (first-append (cutter_key_faults ms) (cutter_faults ms) keys, ← slope_of_outline ms outline e, ok.0) (ap Ok (ok.1 ∙ cutter_of_outline ms outline e))
cutter_decides ms outline (Err fault) keys e ok err =
    told (cutter_key_faults ms ++ cutter_faults ms) fault (cutter_of ms) (first-append (cutter_key_faults ms) (cutter_faults ms) keys ∙ (sym (slope_of_outline ms outline e) ∙ err))

-- the groups' values make the document's job
pub job_of_document : (unit : Unit) (ms : Members) (cutter : Cutter) (space : Space) (measure : Measure) (paths : Paths) (extras : Extras)
    → cutter ≡ cutter_of ms → space ≡ space_of ms → measure ≡ measure_of ms → paths ≡ paths_of measure.pitch ms → extras ≡ extras_of ms
    → job_of_groups unit cutter space measure paths extras ≡ job_with unit ms
job_of_document unit ms cutter space measure paths extras c s m p e = rw (p, c, s, m, e) refl

-- with the relations, the groups' ranges are all that is known of a job
pub is_job : (unit : Unit) (cutter : Cutter) (space : Space) (measure : Measure) (paths : Paths) (extras : Extras)
    → IsCutter cutter → IsSpace unit space → IsMeasure measure → ArePaths unit paths → AreExtras unit extras → IsRelated (job_of_groups unit cutter space measure paths extras)
    → IsJob (job_of_groups unit cutter space measure paths extras)
is_job unit cutter space measure paths extras c s m p e related = record {
  cutter_ok = c;
  floor_ok = s.floor_ok;
  top_ok = s.top_ok;
  clear_ok = s.clear_ok;
  x0_ok = s.area_ok.x0_ok;
  y0_ok = s.area_ok.y0_ok;
  x1_ok = s.area_ok.x1_ok;
  y1_ok = s.area_ok.y1_ok;
  home_ok = s.home_ok;
  pitch_ok = m.pitch_ok;
  sample_ok = m.sample_ok;
  allowance_ok = m.allowance_ok;
  band_ok = m.band_ok;
  x_order = s.area_ok.x_order;
  y_order = s.area_ok.y_order;
  stock = related.of_stock.stock;
  over_stock = related.of_stock.over_stock;
  few = related.of_stock.few;
  narrow = related.of_cut.narrow;
  lift_ok = p.lift_ok;
  raster_ok = p.raster_ok;
  rough_raster_ok = p.rough_raster_ok;
  layer_ok = p.layer_ok;
  rough_stock_ok = p.rough_stock_ok;
  layers = related.of_cut.layers;
  levels_ok = record { few = p.levels_ok.few; falling = p.levels_ok.falling; within = related.of_cut.levels };
  max_cut_ok = e.max_cut_ok;
  holder_ok = e.holder_ok;
  stickout = e.stickout;
  wider = related.of_cut.wider;
  path_tol_ok = e.path_tol_ok;
  slack_ok = e.slack_ok;
  overcut_ok = e.overcut_ok;
  graze_ok = e.graze_ok;
  peck_clearance_ok = e.peck_clearance_ok;
  arc_tol_ok = e.arc_tol_ok;
  keep_out_ok = e.keep_out_ok;
  room = related.of_room.room;
  holder_room = related.of_room.holder_room;
  away = related.of_room.away;
  arc_room = related.of_room.arc_room;
}

-- the numbers with which the relations are reckoned are in range
pub is_ranged : (unit : Unit) (cutter : Cutter) (space : Space) (measure : Measure) (paths : Paths) (extras : Extras)
    → IsCutter cutter → IsSpace unit space → IsMeasure measure → ArePaths unit paths → AreExtras unit extras → IsRanged (job_of_groups unit cutter space measure paths extras)
is_ranged unit cutter space measure paths extras c s m p e =
    record { cutter_ok = c; floor_ok = s.floor_ok; top_ok = s.top_ok; clear_ok = s.clear_ok; area_ok = s.area_ok; pitch_ok = m.pitch_ok; layer_ok = p.layer_ok; slack_ok = e.slack_ok; graze_ok = e.graze_ok; arc_tol_ok = e.arc_tol_ok }

-- behind keys with which nothing is wrong, the relations decide
pub by_relations : (answer : Result JobFields JobFault) (fault : Option JobFault) (job other : JobFields) (faults : List (Option JobFault))
    → answer ≡ checked fault job → fault ≡ first (relation_faults job) → job ≡ other → first faults ≡ first (relation_faults other) → answer ≡ checked (first faults) other
by_relations answer fault job other faults answered found same none = answered ∙ rw (found, none, same) refl
