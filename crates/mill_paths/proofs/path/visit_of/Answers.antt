use Rattle.std.proofs.Common.{◌≡◌, ◌<◌, ◌∙◌, length, sym, ap, subst, w32, arith}
use Rattle.std.specs.Prelude.{ℤ}
use Rattle.std.proofs.lemmas.Int.{ints}
use Rattle.mill_base.proofs.Machine.{stored}
use Rattle.mill_base.specs.declared.lattice.Lattice.{Lattice}
use Rattle.mill_base.specs.Lattices.{nodes_of}
use Rattle.mill_base.proofs.Ranges.{coordinate}
use Rattle.mill_paths.specs.inner.Paths.{path_height}
use Rattle.mill_paths.specs.Visits.{height_at}
use Rattle.mill_paths.proofs.PathLemmas.{visit_made, visit_nowhere}
use Rattle.mill_paths.proofs.path.visit_of.Goals as goal

pub returns-in_err-z : goal.returns-in_err-z
returns-in_err-z c =
    let drop : ℤ = height_at c.args.heights.now c.args.number in
    let kept : stored w32 drop ≡ drop = omega (arith, ints) in
    rw c.from_residual.ensures
    (sym (visit_nowhere c.args.job.now.fields c.args.heights.now c.args.path c.args.number (ap (λ (d : ℤ). path_height c.args.job.now.fields c.args.path d) (sym kept) ∙ sym c.in_err-z.ensures)))

pub node-x-requires-clause-number_ok : goal.node-x-requires-clause-number_ok
node-x-requires-clause-number_ok c =
    subst (λ (lattice : Lattice). c.args.number < length (nodes_of lattice)) (sym c.lattice_of-lattice.ensures) c.requires.number_ok

pub returns : goal.returns
returns c =
    let drop : ℤ = height_at c.args.heights.now c.args.number in
    let kept : stored w32 drop ≡ drop = omega (arith, ints) in
    let z : stored w32 c.in_ok-z.z ≡ c.in_ok-z.z = omega (arith, ints) in
    let step : stored w32 c.lattice_of-lattice.result.step ≡ c.lattice_of-lattice.result.step = omega (arith, ints) in
    visit_made c.args.job.now.fields c.args.heights.now c.args.path c.args.number c.lattice_of-lattice.result c.node-x.result c.in_ok-z.z
    (stored w32 c.node-x.result.0) (stored w32 c.node-x.result.1) (stored w32 c.in_ok-z.z) (stored w32 c.lattice_of-lattice.result.step)
    (coordinate c.node-x.result.0 c.node-x.ensures.x_ok) (coordinate c.node-x.result.1 c.node-x.ensures.y_ok) z step
    c.node-x.ensures.place c.lattice_of-lattice.ensures (c.in_ok-z.ensures ∙ ap (λ (d : ℤ). path_height c.args.job.now.fields c.args.path d) kept)
