-- A map as it is filled, row by row and then column by column.
use Rattle.std.specs.Prelude.{◌≡◌, ℕ, ◌+◌, ◌<◌, ℤ, pos, Bool, List, [], ◌++◌, length, slice_index_or, refl}
use Rattle.std.proofs.Common.{sym, subst, ap, ◌∙◌}
use Rattle.std.proofs.lemmas.List.{append-nil, append_assoc}
use Rattle.mill_base.specs.Lattices.{lattice_xs, lattice_ys}
use Rattle.mill_base.specs.declared.points.Tri.{Tri}
use Rattle.mill_base.specs.declared.tool.Tool.{Tool}
use Rattle.mill_base.specs.declared.lattice.Lattice.{Lattice}
use Rattle.mill_base.specs.Numbers.{Within}
use Rattle.mill_base.specs.declared.limits.TheConstants.{MAX_COORDINATE}
use Rattle.mill_geom.specs.declared.touch.Axis.TheVariants.{X, Y}
use Rattle.mill_push.specs.declared.fiber.Fiber.{Fiber}
use Rattle.mill_push.specs.Fibers.{IsBlocked}
use Rattle.mill_level.specs.inner.Fibers.{AreAdded, ArePositions, Places, Tells}
use Rattle.mill_level.proofs.Tables.{IsTable, no_rows, one_row}

module _ (tool : Tool) (part : List Tri) (z : ℤ) (lattice : Lattice) where
  abbrev pub row_fiber : ℕ → Fiber
  row_fiber j = record { axis = X; at = slice_index_or (lattice_ys lattice) j (pos 0); z = z }

  abbrev pub column_fiber : ℕ → Fiber
  column_fiber i = record { axis = Y; at = slice_index_or (lattice_xs lattice) i (pos 0); z = z }

  abbrev pub TellRow : ℕ → ℕ → Bool → Type 0
  TellRow j = Tells (IsBlocked tool part (row_fiber j)) (lattice_xs lattice)

  abbrev pub PlaceRow : ℕ → ℕ → ℤ → Type 0
  PlaceRow j = Places (IsBlocked tool part (row_fiber j)) (lattice_xs lattice)

  abbrev pub PlaceColumn : ℕ → ℕ → ℤ → Type 0
  PlaceColumn i = Places (IsBlocked tool part (column_fiber i)) (lattice_ys lattice)

  -- so many rows are done
  pub record RowsDone (count : ℕ) (blocked : List Bool) (places : List ℤ) : Type 0 where
    pub tell : IsTable TellRow (length (lattice_xs lattice)) count blocked
    pub place : IsTable PlaceRow (length (lattice_xs lattice)) count places

  -- all rows are done, and so many columns
  pub record ColumnsDone (count : ℕ) (blocked : List Bool) (places : List ℤ) : Type 0 where
    pub first : List ℤ
    pub rest : List ℤ
    pub is : places ≡ first ++ rest
    pub rows : RowsDone (length (lattice_ys lattice)) blocked first
    pub place : IsTable PlaceColumn (length (lattice_ys lattice)) count rest

  pub rows_start : (blocked : List Bool) (places : List ℤ) → blocked ≡ [] → places ≡ [] → RowsDone 0 blocked places
  rows_start blocked places b p = record {
    tell = subst (IsTable TellRow (length (lattice_xs lattice)) 0) (sym b) (no_rows TellRow (length (lattice_xs lattice)));
    place = subst (IsTable PlaceRow (length (lattice_xs lattice)) 0) (sym p) (no_rows PlaceRow (length (lattice_xs lattice)));
  }

  pub rows_more : (count : ℕ) (blocked told : List Bool) (places placed : List ℤ) → RowsDone count blocked places
      → AreAdded (TellRow count) (length (lattice_xs lattice)) blocked told → AreAdded (PlaceRow count) (length (lattice_xs lattice)) places placed → RowsDone (count + 1) told placed
  rows_more count blocked told places placed h b p = record {
    tell = one_row TellRow (length (lattice_xs lattice)) count blocked told h.tell b;
    place = one_row PlaceRow (length (lattice_xs lattice)) count places placed h.place p;
  }

  pub columns_start : (count : ℕ) (blocked : List Bool) (places : List ℤ) → count ≡ length (lattice_ys lattice) → RowsDone count blocked places → ColumnsDone 0 blocked places
  columns_start count blocked places all h = record {
    first = places;
    rest = [];
    is = sym (append-nil places);
    rows = subst (λ n. RowsDone n blocked places) all h;
    place = no_rows PlaceColumn (length (lattice_ys lattice));
  }

  pub columns_more : (count : ℕ) (blocked : List Bool) (places placed : List ℤ) → ColumnsDone count blocked places
      → AreAdded (PlaceColumn count) (length (lattice_ys lattice)) places placed → ColumnsDone (count + 1) blocked placed
  columns_more count blocked places placed h p = record {
    first = h.first;
    rest = h.rest ++ p.added;
    is = p.is ∙ ap (λ zs. zs ++ p.added) h.is ∙ append_assoc h.first h.rest p.added;
    rows = h.rows;
    place = one_row PlaceColumn (length (lattice_ys lattice)) count h.rest (h.rest ++ p.added) h.place (record { added = p.added; is = refl; size = p.size; each = p.each });
  }

-- an item of positions is in range
pub item_within : (items positions : List ℤ) → items ≡ positions → ArePositions positions → (k : ℕ) → k < length items → Within MAX_COORDINATE (slice_index_or items k (pos 0))
item_within items positions e ok k inside = subst (λ zs. Within MAX_COORDINATE (slice_index_or zs k (pos 0))) (sym e) (ok.within k (pos 0) (subst (λ zs. k < length zs) e inside))
