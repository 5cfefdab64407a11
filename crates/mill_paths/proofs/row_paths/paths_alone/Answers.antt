use Rattle.std.proofs.Common.{◌≡◌, ℕ, ◌<◌, ◌≤◌, map, subst, arith}
use Rattle.mill_part.proofs.Stored.{band_kept}
use Rattle.mill_paths.specs.RowPaths.{AreTurnedPaths, IsTurnedPath}
use Rattle.mill_paths.proofs.Gathered.{counted_more, counted_none}
use Rattle.mill_paths.proofs.row_paths.paths_alone.Goals as goal

within : (a b c : ℕ) → a < b → b ≤ c → a < c
within a b c h e = omega (h, e, arith)

pub loop-row-init : goal.loop-row-init
loop-row-init c = counted_none (IsTurnedPath c.args.job.now.fields c.args.part.now _) (λ path. path.items) c.args.rows.start c.new-paths.result.items c.new-paths.ensures.items

pub path_of-requires : goal.path_of-requires
path_of-requires c =
    rw (band_kept c.args.tol c.requires.tol_ok.low c.requires.tol_ok.high) (record {
      tol_ok = c.requires.tol_ok;
      few = c.requires.few;
      row_ok = within c.loop-row.row c.args.rows.end _ c.loop-row-test.true c.requires.rows_ok;
    })

pub loop-row-preserved : goal.loop-row-preserved
loop-row-preserved c =
    counted_more (IsTurnedPath c.args.job.now.fields c.args.part.now _) (λ path. path.items) c.args.rows.start c.loop-row.row c.loop-row.paths.items c.push.new.self.items c.in_ok-path.path c.loop-row.auto.row
    c.loop-row.invariant c.in_ok-path.ensures c.in_ok-push.ensures.items

pub returns : goal.returns
returns c =
    let all : c.loop-row.row ≡ c.args.rows.end = omega (arith, c.loop-row-test.false, c.loop-row.auto.row-end c.requires.order) in
    subst (λ (end : ℕ). AreTurnedPaths c.args.job.now.fields c.args.part.now c.args.tol c.args.rows.start end (map (λ path. path.items) c.loop-row.paths.items)) all
    (rw (band_kept c.args.tol c.requires.tol_ok.low c.requires.tol_ok.high) at c.loop-row.invariant)
