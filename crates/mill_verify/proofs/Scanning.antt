-- A block through its turns.
use Rattle.std.specs.Prelude.{◌≡◌, ℕ, ◌+◌, ◌<◌, ◌≤◌, List, Some}
use Rattle.std.proofs.Common.{◌∙◌, ap, subst, inl, inr, arith}
use Rattle.mill_base.specs.declared.points.Tri.{Tri}
use Rattle.mill_base.specs.declared.motion.Move.{Move}
use Rattle.mill_job.specs.Solids.{holder_solid_of}
use Rattle.mill_job.specs.declared.fields.JobFields.{JobFields}
use Rattle.mill_dexel.specs.Turns.{move_at}
use Rattle.mill_base.specs.Solids.{Solid}
use Rattle.mill_gouge.specs.Gouges.{PassesPart}
use Rattle.mill_job.specs.declared.fixtures.Fixture.{Fixture}
use Rattle.mill_sweep.specs.declared.leaf.Leaf.{Leaf}
use Rattle.mill_verify.specs.Blocks.{BlockState, turned, IsBlockStopped}
use Rattle.mill_verify.specs.Clashes.{IsClash, IsClear}
use Rattle.mill_verify.specs.Fixtures.{FailsFixture, PassesFixture, PassesFixtures}
use Rattle.mill_verify.specs.declared.clash.Clash.{Clash}
use Rattle.mill_verify.specs.declared.clash.Clash.TheVariants as clash
use Rattle.mill_verify.proofs.Mounted.{of_some}
use Rattle.mill_verify.specs.inner.Firsts.{block_before}

-- a number before the end is one of a move
pub inside : {k e n : ℕ} → k < e → e ≤ n → k < n
inside h g = omega (h, g, arith)

-- a block one turn later
pub block_more : (b old new : BlockState) (k : ℕ) → old ≡ block_before b k → new ≡ turned old → new ≡ block_before b (k + 1)
block_more b old new k is passed = passed ∙ ap turned is

-- how the block's next move failed, and nothing else, is noted where the block stops
pub stops_at : (job : JobFields) (part : List Tri) (moves : List Move) (old same : BlockState) (t : ℕ) (found : Clash) → same ≡ old → t ≡ old.next → IsClash job part (move_at moves t) found
    → IsBlockStopped job part moves old (record same { failed = Some found })
stops_at job part moves old same t found view is fails = record {
  fail = found;
  fails = subst (λ (n : ℕ). IsClash job part (move_at moves n) found) is fails;
  noted = ap (λ (b : BlockState). record b { failed = Some found }) view;
}

-- a solid that fails at a fixture doesn't pass it
pub fixture_fails : (solid : Solid) (m : Move) (box : Fixture) (leaf : Leaf) → FailsFixture solid m box leaf → ¬ PassesFixture solid m box
fixture_fails solid m box leaf fails passes = elim fails [ inl first ↦ first.fails passes.first | inr second ↦ second.1.fails passes.second ]

-- where the tool clashes on a move, it doesn't clear the part and the fixtures
pub clash_fails : (job : JobFields) (part : List Tri) (m : Move) (found : Clash) → IsClash job part m found → ¬ IsClear job part m
clash_fails job part m (clash.Cutter g) f passes = f.fails.fails (passes.passes_part.cutter g.tri f.tri)
clash_fails job part m (clash.Holder g) f passes =
    f.first.fails.fails (of_some (λ (holder : Solid). PassesPart holder m part) (holder_solid_of job) f.holder f.mounted passes.passes_part.holder g.tri f.first.tri)
clash_fails job part m (clash.Fixture hit) f passes = fixture_fails _ m _ hit.leaf f.first.fails (passes.passes_fixtures.cutter hit.fixture f.first.there)
clash_fails job part m (clash.HolderFixture hit) f passes =
    fixture_fails f.holder m _ hit.leaf f.first.fails
    (of_some (λ (holder : Solid). PassesFixtures holder m job.keep_out) (holder_solid_of job) f.holder f.mounted passes.passes_fixtures.holder hit.fixture f.first.there)
