-- The list of obstacles, as it is gathered fixture by fixture.
use Rattle.std.specs.Prelude.{◌≡◌, ℕ, ◌+◌, ◌*◌, ◌<◌, ◌≤◌, List, [], ◌∷◌, ◌++◌, length, take, All, Contains}
use Rattle.std.specs.List.{flat_map}
use Rattle.std.proofs.Common.{refl, ap, ◌∙◌, arith}
use Rattle.std.proofs.lemmas.List.{length-append, take_all}
use Rattle.std.proofs.lemmas.List.Elements.{All-contains, All-contains_itself, All-weaker}
use Rattle.mill_base.specs.Ranges.{TriInRange, TrisInRange}
use Rattle.mill_base.specs.declared.points.Tri.{Tri}
use Rattle.mill_base.specs.declared.unit.Unit.{Unit}
use Rattle.mill_job.specs.Fixtures.{IsFixture}
use Rattle.mill_job.specs.declared.fields.JobFields.{JobFields}
use Rattle.mill_job.specs.declared.fixtures.Fixture.{Fixture}
use Rattle.mill_obstacles.specs.Faces.{faces_of, obstacles_of}
use Rattle.mill_obstacles.proofs.FaceLemmas.{first_in_range, second_in_range}
use Rattle.mill_obstacles.proofs.Kept.{OfFaces, of_obstacles}

-- the part's triangles, and those of the first fixtures
abbrev pub gathered : List Tri → List Fixture → ℕ → List Tri
gathered part fixtures k = part ++ flat_map faces_of (take k fixtures)

-- at last they are all obstacles
pub all_of_them : (job : JobFields) (part : List Tri) (fixtures : List Fixture) (k : ℕ) (old : List Tri) → fixtures ≡ job.keep_out → length fixtures ≤ k
    → old ≡ gathered part fixtures k → old ≡ obstacles_of job part
unfolding obstacles_of
all_of_them job part fixtures k old are past so_far =
    so_far ∙ ap (λ (fs : List Fixture). part ++ flat_map faces_of fs) (take_all k fixtures past ∙ are)

-- how many there are
two_each : (fixtures : List Fixture) → length (flat_map faces_of fixtures) ≡ 2 * length fixtures
two_each [] = refl
two_each (f ∷ fs) = let h = two_each fs in omega (h, arith)

count_is : (job : JobFields) (part : List Tri) → length (obstacles_of job part) ≡ length part + 2 * length job.keep_out
unfolding obstacles_of
count_is job part = length-append part (flat_map faces_of job.keep_out) ∙ ap (λ n. length part + n) (two_each job.keep_out)

pub few_enough : (job : JobFields) (part tris : List Tri) (fixtures : List Fixture) → tris ≡ part → fixtures ≡ job.keep_out → length tris + 2 * length fixtures ≤ 4294967295
    → length (obstacles_of job part) < 4294967296
few_enough job part tris fixtures same are few =
    by (length (obstacles_of job part)) (length part) (length job.keep_out) (length tris) (length fixtures) (count_is job part) (ap length same) (ap length are) few
  where
    by : (n a b c d : ℕ) → n ≡ a + 2 * b → c ≡ a → d ≡ b → c + 2 * d ≤ 4294967295 → n < 4294967296
    by n a b c d sum p q h = omega (sum, p, q, h, arith)

-- each is in range
faces_in_range : (unit : Unit) (f : Fixture) → IsFixture unit f → OfFaces TriInRange f
faces_in_range unit f ok = record { first = first_in_range unit f ok; second = second_in_range unit f ok }

pub all_in_range : (job : JobFields) (part : List Tri) → TrisInRange part → All (IsFixture job.unit) job.keep_out → TrisInRange (obstacles_of job part)
all_in_range job part own fixtures tri member =
    All-contains TriInRange (obstacles_of job part) tri
    (of_obstacles TriInRange job part (All-weaker (Contains part) TriInRange own part (All-contains_itself part))
    (All-weaker (IsFixture job.unit) (OfFaces TriInRange) (faces_in_range job.unit) job.keep_out fixtures)) member
