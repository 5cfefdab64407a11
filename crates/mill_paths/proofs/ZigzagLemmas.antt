-- The numbers of the nodes of a row, in zigzag order.
use Rattle.std.proofs.Common.{◌≡◌, ℕ, suc, ◌+◌, ◌-◌, ◌*◌, ◌/◌, ◌%◌, ◌<◌, ◌≤◌, Bool, true, false, List, length, get_or, sym, ap, ◌∙◌, subst, mul_comm, arith}
use Rattle.std.specs.Prelude.{◌==◌, if◌then◌else◌, reverse, ℤ, pos}
use Rattle.std.specs.List.{flat_map, range_with_len}
use Rattle.std.proofs.Math.Nat.{mul-div_cancel, mul-le-mul_right}
use Rattle.std.proofs.lemmas.List.{length-reverse, get_or-reverse}
use Rattle.std.proofs.lemmas.List.FromFn.{length-range_with_len, get_or-range_with_len}
use Rattle.mill_base.specs.Lattices.{lattice_xs, lattice_ys, node_at, node_count, nodes_of}
use Rattle.mill_base.specs.declared.lattice.Lattice.{Lattice}
use Rattle.mill_base.proofs.NodeLemmas.{get_or-rows, length-rows}
use Rattle.mill_paths.specs.Lattices.{zigzag_of, zigzag_row}
use Rattle.mill_paths.proofs.Adding.{flat_map-nested}

-- a row's numbers in order, or the other way round
abbrev either : Bool → ℕ → ℕ → List ℕ
either even first n = if even then range_with_len first n else reverse (range_with_len first n)

length-either : (even : Bool) (first n : ℕ) → length (either even first n) ≡ n
length-either true first n = length-range_with_len first n
length-either false first n = length-reverse (range_with_len first n) ∙ length-range_with_len first n

-- a row has as many numbers as the lattice has columns
pub length-zigzag_row : (columns row : ℕ) → length (zigzag_row columns row) ≡ columns
length-zigzag_row columns row = length-either (row % 2 == 0) (row * columns) columns

get_or-reversed : (first n k : ℕ) → k < n → get_or (reverse (range_with_len first n)) k 0 ≡ first + (n - 1 - k)
get_or-reversed first n k inside =
    let long : length (range_with_len first n) ≡ n = length-range_with_len first n in
    get_or-reverse (range_with_len first n) k 0 (subst (λ m. k < m) (sym long) inside)
    ∙ ap (λ m. get_or (range_with_len first n) (m - 1 - k) 0) long
    ∙ get_or-range_with_len first n (n - 1 - k) 0 (omega arith)

-- the number at a place of a row of even number, and of odd
pub even_number : (columns row k : ℕ) → (row % 2 == 0) ≡ true → k < columns → get_or (zigzag_row columns row) k 0 ≡ row * columns + k
even_number columns row k even inside =
    ap (λ (t : Bool). get_or (either t (row * columns) columns) k 0) even ∙ get_or-range_with_len (row * columns) columns k 0 inside

pub odd_number : (columns row k : ℕ) → (row % 2 == 0) ≡ false → k < columns → get_or (zigzag_row columns row) k 0 ≡ row * columns + (columns - 1 - k)
odd_number columns row k odd inside =
    ap (λ (t : Bool). get_or (either t (row * columns) columns) k 0) odd ∙ get_or-reversed (row * columns) columns k inside

below : (even : Bool) (first n k : ℕ) → k < n → get_or (either even first n) k 0 < first + n
below true first n k inside = let e : get_or (range_with_len first n) k 0 ≡ first + k = get_or-range_with_len first n k 0 inside in omega arith
below false first n k inside = let e : get_or (reverse (range_with_len first n)) k 0 ≡ first + (n - 1 - k) = get_or-reversed first n k inside in omega arith

-- the rows up to this one have no more nodes than the lattice
pub row_within : (lattice : Lattice) (columns row : ℕ) → columns ≡ length (lattice_xs lattice) → row < length (lattice_ys lattice)
    → row * columns + columns ≤ node_count lattice
row_within lattice columns row long inside =
    subst (λ n. row * n + n ≤ node_count lattice) (sym long) at_length
  where
    at_length : row * length (lattice_xs lattice) + length (lattice_xs lattice) ≤ length (lattice_xs lattice) * length (lattice_ys lattice)
    at_length = rows (length (lattice_xs lattice)) row (length (lattice_ys lattice)) inside
      where
        rows : (n row all : ℕ) → row < all → row * n + n ≤ n * all
        rows n row all h =
            let m : suc row * n ≤ all * n = mul-le-mul_right n h in
            let c : all * n ≡ n * all = mul_comm all n in
            omega arith

-- the number at a place of a row is that of a node
pub number_within : (lattice : Lattice) (columns row k : ℕ) → columns ≡ length (lattice_xs lattice) → row < length (lattice_ys lattice) → k < columns
    → get_or (zigzag_row columns row) k 0 < length (nodes_of lattice)
number_within lattice columns row k long inside place =
    let number : get_or (zigzag_row columns row) k 0 < row * columns + columns = below (row % 2 == 0) (row * columns) columns k place in
    let most : row * columns + columns ≤ node_count lattice = row_within lattice columns row long inside in
    let all : length (nodes_of lattice) ≡ node_count lattice = length-rows (lattice_xs lattice) (lattice_ys lattice) in
    less _ _ _ _ number most all
  where
    less : (a b c d : ℕ) → a < b → b ≤ c → d ≡ c → a < d
    less a b c d h e f = omega arith

-- a row's first number is that of a node, which lies where the row does
pub start_within : (lattice : Lattice) (columns row : ℕ) → columns ≡ length (lattice_xs lattice) → 0 < columns → row < length (lattice_ys lattice)
    → row * columns < length (nodes_of lattice)
start_within lattice columns row long some inside =
    let most : row * columns + columns ≤ node_count lattice = row_within lattice columns row long inside in
    let all : length (nodes_of lattice) ≡ node_count lattice = length-rows (lattice_xs lattice) (lattice_ys lattice) in
    less (row * columns) columns (node_count lattice) (length (nodes_of lattice)) some most all
  where
    less : (a b c d : ℕ) → 0 < b → a + b ≤ c → d ≡ c → a < d
    less a b c d h e f = omega (h, e, f, arith)

pub start_on_row : (lattice : Lattice) (columns row : ℕ) → columns ≡ length (lattice_xs lattice) → 0 < columns → row < length (lattice_ys lattice)
    → (node_at lattice (row * columns)).1 ≡ get_or (lattice_ys lattice) row (pos 0)
start_on_row lattice columns row long some inside =
    let xs : List ℤ = lattice_xs lattice in
    let ys : List ℤ = lattice_ys lattice in
    let some_xs : 0 < length xs = subst (λ n. 0 < n) long some in
    let within : row * columns < length xs * length ys = subst (λ n. row * columns < n) (length-rows xs ys) (start_within lattice columns row long some inside) in
    ap (λ (node : ℤ × ℤ). node.1) (get_or-rows xs ys (row * columns) (pos 0, pos 0) some_xs within)
    ∙ ap (λ (n : ℕ). get_or ys (row * columns / n) (pos 0)) (sym long)
    ∙ ap (λ (n : ℕ). get_or ys n (pos 0)) (mul-div_cancel row some)

-- what the nodes give row by row is what they give in zigzag order
pub by_rows : {A : Type 0} (f : ℕ → List A) (lattice : Lattice) (columns : ℕ) → columns ≡ length (lattice_xs lattice)
    → flat_map (λ row. flat_map f (zigzag_row columns row)) (range_with_len 0 (length (lattice_ys lattice))) ≡ flat_map f (zigzag_of lattice)
by_rows f lattice columns long =
    ap (λ (n : ℕ). flat_map (λ row. flat_map f (zigzag_row n row)) (range_with_len 0 (length (lattice_ys lattice)))) long
    ∙ sym (flat_map-nested f (zigzag_row (length (lattice_xs lattice))) (range_with_len 0 (length (lattice_ys lattice))))
