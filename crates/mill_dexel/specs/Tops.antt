-- The top of a column after a list of moves, and the tops of a whole stock.
use Rattle.std.specs.Prelude.{ℕ, ◌+◌, ℤ, pos, ◌-ℤ◌, ◌<ℤ◌, List, [], ◌∷◌, fold, map, Option, Some, None, IfSome}
use Rattle.std.specs.List.{range_with_len}
use Rattle.mill_base.specs.Numbers.{lesser, greater}
use Rattle.mill_base.specs.Points.{point_at}
use Rattle.mill_base.specs.Sizes.{cut_height_of}
use Rattle.mill_base.specs.declared.points.Pt3.{Pt3}
use Rattle.mill_base.specs.declared.motion.Move.{Move}
use Rattle.mill_base.specs.declared.motion.Kind.{Kind}
use Rattle.mill_base.specs.declared.motion.Kind.TheVariants.{Rapid, Feed, Dogleg}
use Rattle.mill_job.specs.declared.fields.JobFields.{JobFields}
use Rattle.mill_job.specs.Columns.{IsColumn, column_x, column_y, column_count}
use Rattle.mill_job.specs.Solids.{holder_solid_of, inner_of, stock_solid_of}
use Rattle.mill_sweep.specs.Solids.{SolidPassesPoint}
use Rattle.mill_dexel.specs.Samples.{samples}
use Rattle.mill_dexel.specs.declared.sample.Placed.{Placed}

-- a top cut down to a height, if there is one, but not under the floor
abbrev pub lowered_to : ℤ → ℤ → Option ℤ → ℤ
lowered_to floor top None = top
lowered_to floor top (Some h) = greater floor (lesser top h)

-- a column's top after one sample, if there is one
abbrev pub top_after_sample : ℤ → ℤ → ℤ → ℤ → Option Placed → ℤ
top_after_sample floor x y top None = top
top_after_sample floor x y top (Some s) = lowered_to floor top (cut_height_of s.cutter s.tip x y)

-- a column's top after one move, lowered by what the cutter removes for sure
abbrev pub top_after_move : JobFields → ℤ → ℤ → ℤ → Move → ℤ
top_after_move job x y top m = fold (top_after_sample job.floor x y) top (samples (inner_of job) job.sample m)

-- a column's top after a list of moves, from this top on
abbrev pub top_on : JobFields → ℤ → ℤ → ℤ → List Move → ℤ
top_on job x y top moves = fold (top_after_move job x y) top moves

-- the same from the job's top on
abbrev pub top_after : JobFields → ℤ → ℤ → List Move → ℤ
top_after job x y moves = top_on job x y job.top moves

-- a stock: the top of each column, by the numbers of its row and of its column in that
abbrev pub Stock : Type 0
Stock = ℕ → ℕ → ℤ

-- the uncut stock
abbrev pub uncut : JobFields → Stock
uncut job = λ j i. job.top

-- a stock after a list of moves
abbrev pub stock_after : JobFields → Stock → List Move → Stock
stock_after job stock moves = λ j i. top_on job (column_x job i) (column_y job j) (stock j i) moves

-- all tops of row j of a stock
abbrev pub row_tops : JobFields → Stock → ℕ → List ℤ
row_tops job stock j = map (λ i. stock j i) (range_with_len 0 (column_count job))

-- all tops of row j after a list of moves, from the uncut stock on
abbrev pub row_after : JobFields → ℕ → List Move → List ℤ
row_after job j moves = row_tops job (stock_after job (uncut job) moves) j

-- the tops of columns i, i + 1 and so on of row j, each after one move
abbrev pub tops_after_move : JobFields → ℕ → ℕ → Move → List ℤ → List ℤ
tops_after_move job j i m [] = []
tops_after_move job j i m (t ∷ ts) = top_after_move job (column_x job i) (column_y job j) t m ∷ tops_after_move job j (i + 1) m ts

-- ---- what a further move is tested against

-- how low a feed may cut a column with this top: by less than the job's limit, and not under the floor
abbrev pub cut_limit : JobFields → ℤ → ℤ
cut_limit job top = greater job.floor (top -ℤ job.max_cut)

-- as what a move of this kind is tested by the stock: a rapid, straight or not, as a rapid
abbrev pub tested_as : Kind → Kind
tested_as Rapid = Rapid
tested_as Feed = Feed
tested_as Dogleg = Rapid

-- the height at which a move of this kind is tested at a column with this top: a rapid, straight or not, at the top, and a feed as low as it may cut
abbrev pub tested_height : JobFields → Kind → ℤ → ℤ
tested_height job Rapid top = top
tested_height job Feed top = cut_limit job top
tested_height job Dogleg top = top

-- a move of this kind is tested: a rapid, straight or not, always, and a feed where the job limits the depth of cut
abbrev pub IsTested : JobFields → Kind → Type 0
IsTested job Rapid = Unit {0}
IsTested job Feed = (pos 0) <ℤ job.max_cut
IsTested job Dogleg = Unit {0}

-- the point of column i of row j of a stock at which a move of this kind is tested
abbrev pub tested_point_on : JobFields → Kind → Stock → ℕ → ℕ → Pt3
tested_point_on job kind stock j i = point_at (column_x job i) (column_y job j) (tested_height job kind (stock j i))

-- a move passes each column of a stock, if it is tested
abbrev pub ClearsColumnsOn : JobFields → Stock → Move → Type 0
ClearsColumnsOn job stock m = IsTested job m.kind → (j i : ℕ) → IsColumn job j i → SolidPassesPoint (stock_solid_of job) m (tested_point_on job m.kind stock j i)

-- the point at the top of column i of row j of a stock
abbrev pub top_point_on : JobFields → Stock → ℕ → ℕ → Pt3
top_point_on job stock j i = point_at (column_x job i) (column_y job j) (stock j i)

-- the holder, if the job has one, passes each column of a stock on a move, up to its top
abbrev pub HolderClearsColumnsOn : JobFields → Stock → Move → Type 0
HolderClearsColumnsOn job stock m = IfSome (holder_solid_of job) (λ holder. (j i : ℕ) → IsColumn job j i → SolidPassesPoint holder m (top_point_on job stock j i))

-- ---- a further move after a list of moves, from the uncut stock on

-- the point of column i of row j at which a move of this kind is tested
abbrev pub tested_point : JobFields → Kind → List Move → ℕ → ℕ → Pt3
tested_point job kind moves j i = tested_point_on job kind (stock_after job (uncut job) moves) j i

-- a further move passes each column, if it is tested
abbrev pub ClearsColumns : JobFields → List Move → Move → Type 0
ClearsColumns job moves m = ClearsColumnsOn job (stock_after job (uncut job) moves) m

-- the point at the top of column i of row j
abbrev pub top_point : JobFields → List Move → ℕ → ℕ → Pt3
top_point job moves j i = top_point_on job (stock_after job (uncut job) moves) j i

-- the holder, if the job has one, passes each column on a further move, up to its top
abbrev pub HolderClearsColumns : JobFields → List Move → Move → Type 0
HolderClearsColumns job moves m = HolderClearsColumnsOn job (stock_after job (uncut job) moves) m
