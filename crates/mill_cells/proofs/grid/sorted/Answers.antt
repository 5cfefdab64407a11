use Rattle.std.proofs.Common.{◌≡◌, ℕ, ◌+◌, ◌<◌, ◌≤◌, List, length, replicate, refl, sym, subst, ap, ◌∙◌, arith}
use Rattle.std.specs.Prelude.{slice_index}
use Rattle.mill_cells.specs.Frames.{cell_count}
use Rattle.mill_cells.specs.Grids.{start_of}
use Rattle.mill_cells.specs.inner.Placing.{IsCounting, IsPlacing, sum_before}
use Rattle.mill_cells.proofs.Counting.{counts_small, sums_are_starts}
use Rattle.mill_cells.proofs.LidLemmas.{starts_order, starts_room, lids_placed, lids_same}
use Rattle.mill_cells.proofs.Placements.{none_placed, cells_placed, starts_placed}
use Rattle.mill_cells.proofs.Summing.{put_back}
use Rattle.mill_cells.proofs.grid.sorted.Goals as goal

pub sum_up-total-requires-clause-small : goal.sum_up-total-requires-clause-small
sum_up-total-requires-clause-small c =
    let n : c.loop-number.number ≡ length c.args.boxes.items = omega (arith, c.args.boxes.ok.0) in
    let counted = subst (λ m. IsCounting c.args.frame c.args.boxes.items c.loop-number.starts.items m 0) n c.loop-number.invariant in
    subst (λ (xs : List ℕ). (k : ℕ) → k < length xs → slice_index xs k < 4294967296) (sym c.deref_mut-2.ensures.value) (counts_small c.args.frame c.args.boxes.items c.loop-number.starts.items c.requires.count counted)

pub loop-number-2-init : goal.loop-number-2-init
loop-number-2-init c =
    let f = c.args.frame in
    let boxes = c.args.boxes.items in
    let old = c.loop-number.starts.items in
    let new = c.sum_up-total.new.starts in
    let n : c.loop-number.number ≡ length boxes = omega (arith, c.args.boxes.ok.0) in
    let counted = subst (λ m. IsCounting f boxes old m 0) n c.loop-number.invariant in
    let v = c.deref_mut-2.ensures.value in
    let long : length new ≡ cell_count f + 1 = omega (arith, ap length v, counted.long, c.sum_up-total.auto.starts) in
    let back = put_back old new c.loop-number.starts.len (omega (arith, c.loop-number.starts.ok.0, counted.long)) (omega (arith, c.loop-number.starts.ok.0, counted.long)) in
    let first : slice_index new 0 ≡ 0 = c.sum_up-total.ensures.first ∙ (ap (λ (xs : List ℕ). slice_index xs 0) v ∙ counted.first) in
    let total : c.sum_up-total.result ≡ start_of f boxes (cell_count f) =
    c.sum_up-total.ensures.total (cell_count f) (omega (arith, ap length v, counted.long)) ∙ (ap (λ (xs : List ℕ). sum_before xs (cell_count f)) v ∙ sums_are_starts f boxes old (cell_count f) (omega arith) counted) in
    let items : c.in_ok-entries.entries.items ≡ replicate c.sum_up-total.result 0 = c.in_ok-entries.ensures.items_if_clones_equal (λ y e. e) in
    let none = none_placed f boxes new long first
    (λ k less. c.sum_up-total.ensures.sums k (omega (arith, ap length v, counted.long)) ∙ (ap (λ (xs : List ℕ). sum_before xs k) v ∙ sums_are_starts f boxes old k (omega arith) counted)) in
    subst (λ (xs : List ℕ). IsPlacing f boxes xs c.in_ok-entries.entries.items 0 0) (sym back)
    (subst (λ (ys : List ℕ). IsPlacing f boxes new ys 0 0) (sym (items ∙ ap (λ n. replicate n 0) total)) none)

pub returns : goal.returns
returns c =
    let n : c.loop-number-2.number ≡ length c.args.boxes.items = omega (arith, c.args.boxes.ok.0) in
    let placed = subst (λ m. IsPlacing c.args.frame c.args.boxes.items c.loop-number-2.starts.items c.loop-number-2.entries.items m 0) n c.loop-number-2.invariant in (
      refl,
      refl,
      refl,
      record {
        frame = c.requires.frame;
        inside = c.requires.inside;
        count = c.requires.count;
        long = placed.long;
        starts = starts_placed c.args.frame c.args.boxes.items c.loop-number-2.starts.items c.loop-number-2.entries.items placed;
        size = placed.size;
        known = placed.known;
        cells = cells_placed c.args.frame c.args.boxes.items c.loop-number-2.starts.items c.loop-number-2.entries.items placed;
        tops = c.requires.tops;
        lids_long = omega (arith, c.in_ok-lids.ensures.0, ap length c.deref-2.ensures.value, placed.long);
        lids = lids_placed c.args.frame c.args.boxes.items c.loop-number-2.starts.items c.loop-number-2.entries.items c.args.tops.items c.in_ok-lids.lids.items
            (starts_placed c.args.frame c.args.boxes.items c.loop-number-2.starts.items c.loop-number-2.entries.items placed)
            (cells_placed c.args.frame c.args.boxes.items c.loop-number-2.starts.items c.loop-number-2.entries.items placed)
            (omega (arith, c.in_ok-lids.ensures.0, ap length c.deref-2.ensures.value, placed.long))
            (lids_same _ _ _ _ _ _ c.in_ok-lids.lids.items c.deref-2.ensures.value c.deref-3.ensures.value c.deref-4.ensures.value c.in_ok-lids.ensures.1);
      },
    )

pub lids-requires-clause-order : goal.lids-requires-clause-order
lids-requires-clause-order c =
    let f = c.args.frame in
    let boxes = c.args.boxes.items in
    let n : c.loop-number-2.number ≡ length boxes = omega (arith, c.args.boxes.ok.0) in
    let placed = subst (λ m. IsPlacing f boxes c.loop-number-2.starts.items c.loop-number-2.entries.items m 0) n c.loop-number-2.invariant in
    subst (λ (xs : List ℕ). (k : ℕ) → k + 1 < length xs → slice_index xs k ≤ slice_index xs (k + 1)) (sym c.deref-2.ensures.value)
    (starts_order f boxes c.loop-number-2.starts.items placed.long (starts_placed f boxes c.loop-number-2.starts.items c.loop-number-2.entries.items placed))

pub lids-requires-clause-room : goal.lids-requires-clause-room
lids-requires-clause-room c =
    let f = c.args.frame in
    let boxes = c.args.boxes.items in
    let n : c.loop-number-2.number ≡ length boxes = omega (arith, c.args.boxes.ok.0) in
    let placed = subst (λ m. IsPlacing f boxes c.loop-number-2.starts.items c.loop-number-2.entries.items m 0) n c.loop-number-2.invariant in
    subst (λ (ys : List ℕ). (k : ℕ) → k < length c.deref-2.result.now → slice_index c.deref-2.result.now k ≤ length ys) (sym c.deref-3.ensures.value)
    (subst (λ (xs : List ℕ). (k : ℕ) → k < length xs → slice_index xs k ≤ length c.loop-number-2.entries.items) (sym c.deref-2.ensures.value)
    (starts_room f boxes c.loop-number-2.starts.items c.loop-number-2.entries.items placed.long placed.size (starts_placed f boxes c.loop-number-2.starts.items c.loop-number-2.entries.items placed)))
