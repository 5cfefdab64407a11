-- Where a row is tested: in range, and never higher than the uncut row. So a move that passes the uncut row passes every column of the row, however far it is cut.
use Rattle.std.proofs.Common.{◌≡◌, get_or, ℕ, ◌+◌, ◌/◌, ◌<◌, ◌≤◌, length, refl, sym, subst, ap, ◌∙◌, arith}
use Rattle.std.specs.Int.{int_max}
use mir.Syntax.{w32}
use Rattle.std.specs.Prelude.{[], ◌∷◌, ℤ, pos, negsuc, ◌+ℤ◌, ◌-ℤ◌, ◌*ℤ◌, ◌≤ℤ◌, nat_abs}
use Rattle.std.proofs.lemmas.Int.{ints}
use Rattle.std.proofs.lemmas.List.{get_or_default}
use Rattle.std.proofs.lemmas.List.Elements.{All-get_or}
use Rattle.std.proofs.Math.Nat.{div-mul-le_self, mul-le-mul_right}
use Rattle.std.proofs.Math.IntN.{pos-*ℤ-pos}
use Rattle.mill_base.specs.Numbers.{Within, greater}
use Rattle.mill_base.specs.declared.limits.TheConstants.{MAX_COORDINATE}
use Rattle.mill_base.proofs.Machine.{Read, Diff, stored, exact, kept}
use Rattle.mill_base.proofs.Ranges.{within_of_unit}
use Rattle.mill_base.specs.Points.{point_at}
use Rattle.mill_base.specs.Ranges.{IsInRange, MoveInRange, TriInRange}
use Rattle.mill_base.specs.Solids.{IsSolid, lifted}
use Rattle.mill_base.specs.Units.{greatest_of}
use Rattle.mill_base.specs.declared.motion.Move.{Move}
use Rattle.mill_base.specs.declared.motion.Kind.{Kind}
use Rattle.mill_base.specs.declared.motion.Kind.TheVariants.{Rapid, Feed, Dogleg}
use Rattle.mill_base.specs.declared.unit.Unit.{Unit}
use Rattle.mill_job.specs.Solids.{stock_solid_of}
use Rattle.mill_sweep.specs.Solids.{SolidPasses}
use Rattle.mill_job.specs.declared.fields.JobFields.{JobFields}
use Rattle.mill_job.specs.Columns.{row_count, column_count, column_x, column_y}
use Rattle.mill_job.specs.Jobs.{IsJob, IsFrom}
use Rattle.mill_dexel.specs.Rows.{RowState, IsRowOf, Test, cutting, PassesRow, top_at, row_point, uncut_tri}
use Rattle.mill_dexel.specs.Tops.{cut_limit, tested_height}
use Rattle.mill_base.proofs.Extremes.{greater_left, greater_right, greater_least, most_is}
use Rattle.mill_dexel.proofs.Lines.{line_passes}
use Rattle.mill_dexel.proofs.Trials.{low_passes}

-- a number of steps that fits into a span leads no farther than its end
steps_within : (i : ℕ) (x0 x1 pitch : ℤ) → x0 ≤ℤ x1 → (pos 1) ≤ℤ pitch → i < nat_abs (x1 -ℤ x0) / nat_abs pitch + 1 → IsFrom x0 x1 (x0 +ℤ pos i *ℤ pitch)
steps_within i x0 x1 (negsuc p) order least there = absurd (omega (arith, ints))
steps_within i x0 x1 (pos p) order least there =
    let count : i ≤ nat_abs (x1 -ℤ x0) / p = omega arith in
    let near = mul-le-mul_right p count in
    let whole = div-mul-le_self (nat_abs (x1 -ℤ x0)) p in
    rw (pos-*ℤ-pos i p) (record { low = omega (arith, ints); high = omega (arith, ints) })

-- what lies between two coordinates of a unit is in range
between_within : (unit : Unit) (low high z : ℤ) → Within (greatest_of unit) low → Within (greatest_of unit) high → IsFrom low high z → Within MAX_COORDINATE z
between_within unit low high z low_ok high_ok from =
    record { within = small low high z (within_of_unit unit low low_ok).within (within_of_unit unit high high_ok).within from.low from.high }
  where
    small : (a b c : ℤ) → nat_abs a ≤ MAX_COORDINATE → nat_abs b ≤ MAX_COORDINATE → a ≤ℤ c → c ≤ℤ b → nat_abs c ≤ MAX_COORDINATE
    small a b c h g l k = omega (arith, ints)

row_within : (job : JobFields) (j : ℕ) → IsJob job → j < row_count job → Within MAX_COORDINATE (column_y job j)
row_within job j is_job there =
    between_within job.unit job.area.y0 job.area.y1 (column_y job j) is_job.y0_ok is_job.y1_ok (steps_within j job.area.y0 job.area.y1 job.pitch is_job.y_order is_job.pitch_ok.low there)

-- a move is tested from the floor to the top, and the higher the top, the higher
pub tested_from_floor : (job : JobFields) (kind : Kind) (top : ℤ) → job.floor ≤ℤ top → (pos 0) ≤ℤ job.max_cut → IsFrom job.floor top (tested_height job kind top)
tested_from_floor job Rapid top low some = record { low = low; high = omega (arith, ints) }
tested_from_floor job Dogleg top low some = record { low = low; high = omega (arith, ints) }
tested_from_floor job Feed top low some = record { low = greater_left job.floor (top -ℤ job.max_cut); high = greater_least job.floor (top -ℤ job.max_cut) top low (less top job.max_cut some) }
  where
    less : (a b : ℤ) → (pos 0) ≤ℤ b → (a -ℤ b) ≤ℤ a
    less a b h = omega (arith, ints)

tested_higher : (job : JobFields) (kind : Kind) (low high : ℤ) → low ≤ℤ high → tested_height job kind low ≤ℤ tested_height job kind high
tested_higher job Rapid low high order = order
tested_higher job Dogleg low high order = order
tested_higher job Feed low high order =
    greater_least job.floor (low -ℤ job.max_cut) (greater job.floor (high -ℤ job.max_cut)) (greater_left job.floor (high -ℤ job.max_cut))
    (under low high job.max_cut (greater job.floor (high -ℤ job.max_cut)) order (greater_right job.floor (high -ℤ job.max_cut)))
  where
    under : (a b cut c : ℤ) → a ≤ℤ b → (b -ℤ cut) ≤ℤ c → (a -ℤ cut) ≤ℤ c
    under a b cut c h k = omega (arith, ints)

-- so the height is in range
tested_within : (job : JobFields) (kind : Kind) (top : ℤ) → IsJob job → IsFrom job.floor job.top top → Within MAX_COORDINATE (tested_height job kind top)
tested_within job kind top is_job stock =
    let tested = tested_from_floor job kind top stock.low is_job.max_cut_ok.low in
    between_within job.unit job.floor job.top (tested_height job kind top) is_job.floor_ok is_job.top_ok (narrow job.floor job.top top (tested_height job kind top) tested.low tested.high stock.high)
  where
    narrow : (a b c z : ℤ) → a ≤ℤ z → z ≤ℤ c → c ≤ℤ b → IsFrom a b z
    narrow a b c z h k l = record { low = h; high = omega (arith, ints) }

-- the height at which a feed is tested, as the code has it
pub limit_stored : (job : JobFields) (top m : ℤ) → IsJob job → IsFrom job.floor job.top top → m ≡ int_max (stored w32 job.floor) (stored w32 (stored w32 top -ℤ stored w32 job.max_cut)) → stored w32 m ≡ cut_limit job top
limit_stored job top m is_job stock is =
    kept w32 m MAX_COORDINATE (subst (λ (v : ℤ). nat_abs v ≤ MAX_COORDINATE) (sym value) (tested_within job Feed top is_job stock).within) refl
    ∙ value
  where
    within : (v : ℤ) → Within (greatest_of job.unit) v → nat_abs v ≤ MAX_COORDINATE
    within v h = (within_of_unit job.unit v h).within

    depth : (n : ℕ) (cut : ℤ) → IsFrom (pos 0) (pos n) cut → nat_abs cut ≤ n
    depth n cut from = let low = from.low in let high = from.high in omega (arith, ints)

    plain : (floor v cut : ℤ) → nat_abs floor ≤ MAX_COORDINATE → nat_abs v ≤ MAX_COORDINATE → nat_abs cut ≤ MAX_COORDINATE
        → int_max (stored w32 floor) (stored w32 (stored w32 v -ℤ stored w32 cut)) ≡ greater floor (v -ℤ cut)
    plain floor v cut floor_in in_range cut_in =
        ap (λ (a : ℤ). int_max a (stored w32 (stored w32 v -ℤ stored w32 cut))) (kept w32 floor MAX_COORDINATE floor_in refl)
        ∙ ap (int_max floor) (exact (v ∷ cut ∷ []) (MAX_COORDINATE ∷ MAX_COORDINATE ∷ []) (Diff w32 (Read w32 0) (Read w32 1)) (in_range, (cut_in, tt)) refl)
        ∙ most_is floor (v -ℤ cut)

    value : m ≡ cut_limit job top
    value =
        is
        ∙ plain job.floor top job.max_cut (within job.floor is_job.floor_ok) (between_within job.unit job.floor job.top top is_job.floor_ok is_job.top_ok stock).within
        (within job.max_cut (record { within = depth (greatest_of job.unit) job.max_cut is_job.max_cut_ok }))

-- the tops of a row are from the floor to the uncut stock's top
pub top_stays : (job : JobFields) (r : RowState) (i : ℕ) → IsRowOf job r → i < column_count job → IsFrom job.floor job.top (top_at r.tops i)
top_stays job r i is_row there = All-get_or (IsFrom job.floor job.top) r.tops i (pos 0) in_row is_row.in_stock
  where
    in_row : i < length r.tops
    in_row = let e = is_row.columns in omega arith

-- the points of a row at which a move is tested, and those of the uncut row, are in range
pub tested_in_range : (job : JobFields) (kind : Kind) (r : RowState) (i : ℕ) → IsJob job → IsRowOf job r → i < column_count job → IsInRange (row_point job kind r i)
tested_in_range job kind r i is_job is_row there = record {
  x_ok = between_within job.unit job.area.x0 job.area.x1 (column_x job i) is_job.x0_ok is_job.x1_ok (steps_within i job.area.x0 job.area.x1 job.pitch is_job.x_order is_job.pitch_ok.low there);
  y_ok = row_within job r.row is_job is_row.there;
  z_ok = tested_within job kind (top_at r.tops i) is_job (top_stays job r i is_row there);
}

-- the top that the code reads
pub top_read : (job : JobFields) (r : RowState) (i : ℕ) (top : ℤ) → IsJob job → IsRowOf job r → i < column_count job → top ≡ get_or r.tops i top → stored w32 top ≡ top_at r.tops i
top_read job r i top is_job is_row there read =
    kept w32 top MAX_COORDINATE (subst (λ (v : ℤ). nat_abs v ≤ MAX_COORDINATE) (sym value) (between_within job.unit job.floor job.top (top_at r.tops i) is_job.floor_ok is_job.top_ok (top_stays job r i is_row there)).within) refl
    ∙ value
  where
    in_row : i < length r.tops
    in_row = let e = is_row.columns in omega arith

    value : top ≡ top_at r.tops i
    value = read ∙ get_or_default r.tops i top (pos 0) in_row

pub uncut_in_range : (job : JobFields) (j : ℕ) → IsJob job → j < row_count job → TriInRange (uncut_tri job j)
uncut_in_range job j is_job there = record { a_ok = west; b_ok = east; c_ok = east }
  where
    y_in : Within MAX_COORDINATE (column_y job j)
    y_in = row_within job j is_job there

    height_in : Within MAX_COORDINATE job.top
    height_in = within_of_unit job.unit job.top is_job.top_ok

    west : IsInRange (point_at job.area.x0 (column_y job j) job.top)
    west = record { x_ok = within_of_unit job.unit job.area.x0 is_job.x0_ok; y_ok = y_in; z_ok = height_in }

    east : IsInRange (point_at job.area.x1 (column_y job j) job.top)
    east = record { x_ok = within_of_unit job.unit job.area.x1 is_job.x1_ok; y_ok = y_in; z_ok = height_in }

-- a row is at most as high as the uncut row, and its columns stand within the stock
pub uncut_passes : (job : JobFields) (r : RowState) (m : Move) → IsJob job → IsRowOf job r → SolidPasses (stock_solid_of job) m (uncut_tri job r.row) → PassesRow job (cutting job Rapid m) r
uncut_passes job r m is_job is_row passes i there =
    line_passes (stock_solid_of job).cutter (lifted (stock_solid_of job) m) job.area.x0 job.area.x1 (column_y job r.row) job.top (column_x job i) (top_at r.tops i)
    (steps_within i job.area.x0 job.area.x1 job.pitch is_job.x_order is_job.pitch_ok.low there)
    (top_stays job r i is_row there).high
    passes

-- a test passes every column of a row where even the uncut row is tested no higher than its solid's way
pub low_passes_row : (job : JobFields) (test : Test) (r : RowState) (low : ℤ) → IsRowOf job r → IsSolid test.solid → MoveInRange test.move → tested_height job test.kind job.top ≤ℤ low
    → low ≤ℤ (test.move.from.z +ℤ test.solid.lift) → low ≤ℤ (test.move.to.z +ℤ test.solid.lift) → PassesRow job test r
low_passes_row job test r low is_row solid_ok range under from to i there = low_passes job test r solid_ok range i (over _ _ _ _ higher under from) (over _ _ _ _ higher under to)
  where
    higher : tested_height job test.kind (top_at r.tops i) ≤ℤ tested_height job test.kind job.top
    higher = tested_higher job test.kind (top_at r.tops i) job.top (top_stays job r i is_row there).high

    over : (a b c d : ℤ) → a ≤ℤ b → b ≤ℤ c → c ≤ℤ d → a ≤ℤ d
    over a b c d h k l = omega (h, k, l, arith, ints)
