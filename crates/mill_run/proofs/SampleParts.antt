-- The sample part is in range and under its job's top, and its job is one.
use Rattle.std.proofs.Common.{◌≡◌, ℕ, ◌+◌, ◌*◌, ◌%◌, ◌/◌, ◌<◌, ◌≤◌, ◌^◌, zero, suc, List, [], ◌∷◌, length, refl, sym, subst, length-append, arith}
use Rattle.std.specs.Prelude.{ℤ, pos, ◌-ℤ◌, ◌≤ℤ◌, nat_abs, All}
use Rattle.std.specs.List.{flat_map, range_with_len}
use Rattle.std.proofs.lemmas.Int.{ints}
use Rattle.std.proofs.lemmas.List.Elements.{All-append, All-cons, All-contains, All-nil}
use Rattle.std.proofs.lemmas.Nat.{mul-le}
use Rattle.mill_base.specs.Covers.{IsUnder}
use Rattle.mill_base.specs.Numbers.{Within}
use Rattle.mill_base.specs.Ranges.{IsInRange, TriInRange, TrisInRange}
use Rattle.mill_base.specs.declared.points.Tri.{Tri}
use Rattle.mill_base.specs.declared.limits.TheConstants.{MAX_COORDINATE, MAX_TEXT_COORDINATE}
use Rattle.mill_job.specs.Columns.{positions}
use Rattle.mill_job.specs.Jobs.{AreLevels, IsJob, IsLevel}
use Rattle.mill_job.specs.declared.fields.JobFields.{JobFields}
use Rattle.mill_load.specs.declared.load.Setup.{Setup}
use Rattle.mill_run.specs.SamplePart.{IsSample, IsSize, sample_node, sample_square, sample_row, sample_part, sample_job}

-- ---- what holds of what each number gives

module _ (P : Tri → Type 0) (f : ℕ → List Tri) where
  counted_all : (n first : ℕ) → ((k : ℕ) → k < first + n → All P (f k)) → All P (flat_map f (range_with_len first n))
  counted_all zero first each = All-nil P
  counted_all (suc n) first each =
      All-append P (f first) (flat_map f (range_with_len (first + 1) n)) (each first (omega arith)) (counted_all n (first + 1) (λ k inside. each k (omega arith)))

counted_few : (f : ℕ → List Tri) → ((k : ℕ) → length (f k) ≤ 200) → (n first : ℕ) → length (flat_map f (range_with_len first n)) ≤ n * 200
counted_few f each zero first = omega arith
counted_few f each (suc n) first =
    omega (arith, length-append (f first) (flat_map f (range_with_len (first + 1) n)), each first, counted_few f each n (first + 1))

counted_twice : (f : ℕ → List Tri) → ((k : ℕ) → length (f k) ≡ 2) → (n first : ℕ) → length (flat_map f (range_with_len first n)) ≡ n * 2
counted_twice f each zero first = refl
counted_twice f each (suc n) first =
    omega (arith, length-append (f first) (flat_map f (range_with_len (first + 1) n)), each first, counted_twice f each n (first + 1))

-- ---- the part

-- a triangle is in range, and not over 200
record IsLowTri (tri : Tri) : Type 0 where
  in_range : TriInRange tri
  under : (tri.a.z ≤ℤ pos 200) × (tri.b.z ≤ℤ pos 200) × (tri.c.z ≤ℤ pos 200)

side_ok : (i : ℕ) → i ≤ 100 → Within MAX_COORDINATE (pos (100 * i))
side_ok i few = record { within = omega arith }

height_ok : (a : ℕ) → Within MAX_COORDINATE (pos (100 + a % 40))
height_ok a = record { within = omega arith }

height_low : (a : ℕ) → pos (100 + a % 40) ≤ℤ pos 200
height_low a = omega (arith, ints)

node_ok : (i j : ℕ) → i ≤ 100 → j ≤ 100 → IsInRange (sample_node i j)
node_ok i j x y = record { x_ok = side_ok i x; y_ok = side_ok j y; z_ok = height_ok (7 * i * i + 13 * j * j + 5 * i * j) }

node_low : (i j : ℕ) → (sample_node i j).z ≤ℤ pos 200
node_low i j = height_low (7 * i * i + 13 * j * j + 5 * i * j)

abbrev right_half : ℕ → ℕ → Tri
right_half j i = record { a = sample_node i j; b = sample_node (i + 1) j; c = sample_node (i + 1) (j + 1) }

abbrev left_half : ℕ → ℕ → Tri
left_half j i = record { a = sample_node i j; b = sample_node (i + 1) (j + 1); c = sample_node i (j + 1) }

right_ok : (j i : ℕ) → j < 100 → i < 100 → IsLowTri (right_half j i)
right_ok j i y x = record {
  in_range = record { a_ok = node_ok i j (omega arith) (omega arith); b_ok = node_ok (i + 1) j (omega arith) (omega arith); c_ok = node_ok (i + 1) (j + 1) (omega arith) (omega arith) };
  under = (node_low i j, node_low (i + 1) j, node_low (i + 1) (j + 1));
}

left_ok : (j i : ℕ) → j < 100 → i < 100 → IsLowTri (left_half j i)
left_ok j i y x = record {
  in_range = record { a_ok = node_ok i j (omega arith) (omega arith); b_ok = node_ok (i + 1) (j + 1) (omega arith) (omega arith); c_ok = node_ok i (j + 1) (omega arith) (omega arith) };
  under = (node_low i j, node_low (i + 1) (j + 1), node_low i (j + 1));
}

square_ok : (j i : ℕ) → j < 100 → i < 100 → All IsLowTri (sample_square j i)
square_ok j i y x =
    All-cons IsLowTri (right_half j i) (left_half j i ∷ []) (right_ok j i y x) (All-cons IsLowTri (left_half j i) [] (left_ok j i y x) (All-nil IsLowTri))

part_ok : (n : ℕ) → n ≤ 100 → All IsLowTri (sample_part n)
part_ok n few =
    counted_all IsLowTri (sample_row n) n 0 (λ j row. counted_all IsLowTri (sample_square j) n 0 (λ i column. square_ok j i (omega arith) (omega arith)))

pub part_in_range : (n : ℕ) → n ≤ 100 → TrisInRange (sample_part n)
part_in_range n few = λ tri member. (All-contains IsLowTri (sample_part n) tri (part_ok n few) member).in_range

pub part_under : (n : ℕ) → n ≤ 100 → IsUnder (sample_part n) (pos 200)
part_under n few = λ tri member. (All-contains IsLowTri (sample_part n) tri (part_ok n few) member).under

pub part_few : (n : ℕ) → n ≤ 100 → length (sample_part n) < 2 ^ 32
part_few n few =
    let row : (j : ℕ) → length (sample_row n j) ≤ 200 = λ j. (let twice : length (sample_row n j) ≡ n * 2 = counted_twice (sample_square j) (λ i. refl) n 0 in omega arith) in
    let all : length (sample_part n) ≤ n * 200 = counted_few (sample_row n) row n 0 in
    omega arith

-- ---- the job

-- the job and the part of a size are such that a plan can be made
pub sample_ready : (n : ℕ) (job : JobFields) (part : List Tri) → IsSize n → job ≡ sample_job n → part ≡ sample_part n → IsSample n job part
sample_ready n job part size job_is part_is = record {
  size_ok = size;
  job_is = job_is;
  part_is = part_is;
  under = subst (λ (j : JobFields). IsUnder part j.top) (sym job_is) (subst (λ (p : List Tri). IsUnder p (pos 200)) (sym part_is) (part_under n size.few));
}
