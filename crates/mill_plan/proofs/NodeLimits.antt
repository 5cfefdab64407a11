-- Lattices within their limits, and over them.
use Rattle.std.specs.Prelude.{◌≡◌, ℕ, ◌<◌, ◌≤◌}
use Rattle.std.proofs.Common.{inl, inr, sym, ◌∙◌, arith}
use Rattle.mill_base.specs.Lattices.{node_count}
use Rattle.mill_base.specs.declared.lattice.Lattice.{Lattice}
use Rattle.mill_job.specs.declared.fields.JobFields.{JobFields}
use Rattle.mill_paths.specs.Lattices.{finish_lattice, rough_lattice}
use Rattle.mill_paths.specs.Limits.{HasManyNodes}
use Rattle.mill_base.specs.declared.limits.TheConstants.{MAX_NODES}
use Rattle.mill_plan.specs.Plans.{HasFewNodes, IsOverNodes}

not_both : (n m : ℕ) → n ≡ m → 4000000 < n → m ≤ 4000000 → ⊥
not_both n m e many few = omega (e, many, few, arith)

-- a lattice within its limit isn't over it
few_not_many : (lattice : Lattice) (nodes : ℕ) → node_count lattice ≤ MAX_NODES → HasManyNodes lattice nodes → ⊥
few_not_many lattice nodes few many = not_both nodes (node_count lattice) many.all many.many few

pub few_not_over : (job : JobFields) (nodes : ℕ) → HasFewNodes job → IsOverNodes job nodes → ⊥
few_not_over job nodes few (inl many) = few_not_many (finish_lattice job) nodes few.finish many
few_not_over job nodes few (inr many) = few_not_many (rough_lattice job) nodes (few.rough many.layer) many.rough

-- the first lattice that is over its limit has one number of nodes
pub one_over : (job : JobFields) (n m : ℕ) → IsOverNodes job n → IsOverNodes job m → n ≡ m
one_over job n m (inl a) (inl b) = a.all ∙ sym b.all
one_over job n m (inl a) (inr b) = absurd (few_not_many (finish_lattice job) n b.finish a)
one_over job n m (inr a) (inl b) = absurd (few_not_many (finish_lattice job) m a.finish b)
one_over job n m (inr a) (inr b) = a.rough.all ∙ sym b.rough.all
