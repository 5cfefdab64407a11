-- The cells that a box covers, met row by row.
use Rattle.std.proofs.Common.{◌≡◌, ℕ, ◌+◌, ◌*◌, ◌^◌, ◌<◌, ◌≤◌, true, false, mul_comm, add-mul, sym, subst, ◌∙◌, arith}
use Rattle.std.proofs.Math.Nat.{mul-le-mul_right}
use Rattle.std.proofs.lemmas.Nat.{mul-add-lt}
use Rattle.mill_base.specs.declared.points.Box2.{Box2}
use Rattle.mill_cells.specs.Boxes.{IsInside}
use Rattle.mill_cells.specs.Frames.{cell_count, block_of, covers, IsFrame}
use Rattle.mill_cells.specs.declared.frame.Frame.{Frame}
use Rattle.mill_cells.specs.declared.frame.Block.{Block}
use Rattle.mill_cells.proofs.FrameLemmas.{block_in, block_is, covers_at, has_cell_yes, before_row, after_row, before_column, after_column, row_part}

-- which of the cells in each row the box covers
pub record Walked (f : Frame) (b : Box2) (k : Block) : Type 0 where
  pub small : (k.last_column < 2 ^ 20) × (k.last_row < 2 ^ 20)
  pub last : (k.last_row + 1) * f.columns ≤ cell_count f
  pub order : (k.first_column ≤ k.last_column) × (k.first_row ≤ k.last_row) × (k.last_column < f.columns) × (k.last_row < f.rows)
  pub before_rows : (c : ℕ) → c < k.first_row * f.columns → covers f b c ≡ false
  pub before_columns : (row c : ℕ) → row * f.columns ≤ c → c < row * f.columns + k.first_column → covers f b c ≡ false
  pub after_columns : (row c : ℕ) → row * f.columns + (k.last_column + 1) ≤ c → c < (row + 1) * f.columns → covers f b c ≡ false
  pub after_rows : (c : ℕ) → (k.last_row + 1) * f.columns ≤ c → covers f b c ≡ false
  pub here : (row c : ℕ) → k.first_row ≤ row → row < k.last_row + 1 → k.first_column ≤ c → c < k.last_column + 1 → (row * f.columns + c < cell_count f) × (covers f b (row * f.columns + c) ≡ true)

whole : (f : Frame) (b : Box2) → IsFrame f → IsInside f.bounds b → Walked f b (block_of f b)
whole f b h i =
    let n = block_in f b h i in
    let small = block_is f b h.bounds h.some i in
    let some : 0 < f.columns = omega (arith, n.narrow) in
    record {
      small = (small.narrow, small.low);
      last = rw (mul_comm f.columns f.rows) (mul-le-mul_right {m = (block_of f b).last_row + 1} {n = f.rows} f.columns (omega (arith, n.low)));
      order = (n.columns, n.rows, n.narrow, n.low);
      before_rows = λ c less. before_row f b c some less;
      before_columns = λ row c p q. let r = row_part f row 0 (block_of f b).first_column c (omega (arith, n.columns, n.narrow)) (omega arith) q in
          subst (λ t. covers f b t ≡ false) (sym r.4) (before_column f b r.0 row r.3 r.2);
      after_columns = λ row c p q. let r = row_part f row ((block_of f b).last_column + 1) f.columns c (omega arith) p (omega (arith, add-mul row 1 f.columns)) in
          subst (λ t. covers f b t ≡ false) (sym r.4) (after_column f b r.0 row r.3 (omega (arith, r.1)));
      after_rows = λ c more. after_row f b c some more;
      here = λ row c p q r s. (
        rw (mul_comm f.columns f.rows) (mul-add-lt_turned row f.columns c f.rows (omega (arith, n.low)) (omega (arith, n.narrow))),
        covers_at f b c row (omega (arith, n.narrow)) ∙ has_cell_yes (block_of f b) c row r (omega arith) p (omega arith),
      );
    }
  where
    mul-add-lt_turned : (a w b h : ℕ) → a < h → b < w → a * w + b < h * w
    mul-add-lt_turned a w b h p q = rw (mul_comm h w) (mul-add-lt a w b h p q)

pub walked : (f : Frame) (b : Box2) (k : Block) → IsFrame f → IsInside f.bounds b → k ≡ block_of f b → Walked f b k
walked f b k h i e = subst (Walked f b) (sym e) (whole f b h i)
