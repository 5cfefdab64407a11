-- Items in rows of the same width.
use Rattle.std.specs.Prelude.{◌≡◌, ℕ, ◌+◌, ◌*◌, ◌≤◌, ◌<◌, List, [], ◌++◌, length, slice_index_or}
use Rattle.std.proofs.Common.{arith, inl, inr, sym, subst, ap, ◌∙◌}
use Rattle.std.proofs.Math.Nat.{mul-le-mul_right}
use Rattle.std.proofs.lemmas.Bool.{cases_lt}
use Rattle.std.proofs.lemmas.List.{length-append, get_or_append_left, get_or-append-add}
use Rattle.mill_level.specs.inner.Fibers.{AreAdded}

-- so many rows of items, each right by the numbers of its row and of its place in it
pub record IsTable {X : Type 0} (IsRight : ℕ → ℕ → X → Type 0) (width count : ℕ) (items : List X) : Type 0 where
  pub size : length items ≡ count * width
  pub each : (i j : ℕ) (x : X) → i < width → j < count → IsRight j i (slice_index_or items (j * width + i) x)

-- a place in a row before the end
pub before : (i j width count : ℕ) → i < width → j < count → j * width + i < count * width
before i j width count inside row =
    let h : (j + 1) * width ≤ count * width = mul-le-mul_right width (next row) in
    omega (h, inside, arith)
  where
    next : j < count → j + 1 ≤ count
    next h = omega (h, arith)

module _ {X : Type 0} (IsRight : ℕ → ℕ → X → Type 0) (width : ℕ) where
  pub no_rows : IsTable IsRight width 0 []
  no_rows = record { size = none width; each = λ i j x inside row. absurd (omega (row, arith)) }
    where
      none : (n : ℕ) → 0 ≡ 0 * n
      none n = omega arith

  pub one_row : (count : ℕ) (old new : List X) → IsTable IsRight width count old → AreAdded (IsRight count) width old new → IsTable IsRight width (count + 1) new
  one_row count old new t h = record {
    size = ap (λ xs. length xs) h.is ∙ length-append old h.added ∙ more (length old) (length h.added) t.size h.size;
    each = λ i j x inside row. subst (λ xs. IsRight j i (slice_index_or xs (j * width + i) x)) (sym h.is) (elim (cases_lt j count) [
      | inl less ↦ subst (IsRight j i) (sym (get_or_append_left old h.added x (j * width + i) (subst (λ n. j * width + i < n) (sym t.size) (before i j width count inside less)))) (t.each i j x inside less)
      | inr last ↦ subst (λ m. IsRight m i (slice_index_or (old ++ h.added) (m * width + i) x)) (same j row last)
          (subst (λ n. IsRight count i (slice_index_or (old ++ h.added) (n + i) x)) t.size (subst (IsRight count i) (sym (get_or-append-add old h.added i x)) (h.each i x inside)))
    ]);
  }
    where
      more : (a b : ℕ) → a ≡ count * width → b ≡ width → a + b ≡ (count + 1) * width
      more a b e f = omega (e, f, arith)

      same : (j : ℕ) → j < count + 1 → count ≤ j → count ≡ j
      same j h e = omega (h, e, arith)
