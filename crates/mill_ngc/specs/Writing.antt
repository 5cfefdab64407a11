-- The text of a list of moves.
use Rattle.std.specs.Prelude.{ℕ, ℤ, codes, List, [], ◌∷◌, ◌++◌, map, Option, Some, None}
use Rattle.std.specs.List.{flat_map}
use Rattle.mill_base.specs.declared.motion.Kind.{Kind}
use Rattle.mill_base.specs.declared.motion.Kind.TheVariants.{Rapid, Feed, Dogleg}
use Rattle.mill_base.specs.declared.motion.Move.{Move}
use Rattle.mill_base.specs.declared.points.Pt3.{Pt3}
use Rattle.mill_base.specs.declared.unit.Unit.{Unit}
use Rattle.mill_decimal.specs.Decimals.{canonical}

-- ---- the line of a move

-- the word for a kind of move: a program doesn't tell a dogleg from a straight rapid
abbrev pub motion_word : Kind → List ℕ
motion_word Rapid = codes "G0"
motion_word Feed = codes "G1"
motion_word Dogleg = codes "G0"

-- the kind that is read of what is written
abbrev pub written_as : Kind → Kind
written_as Rapid = Rapid
written_as Feed = Feed
written_as Dogleg = Rapid

-- the move that is read of its line
abbrev pub as_written : Move → Move
as_written m = record { kind = written_as m.kind; from = m.from; to = m.to }

-- a space, which is 32, the axis's letter, and the canonical decimal of the units
abbrev pub axis_word : Unit → ℕ → ℤ → List ℕ
axis_word unit letter units = 32 ∷ letter ∷ canonical unit units

-- how the move is made, and where it ends; X, Y and Z are 88, 89 and 90
unfoldable pub move_line : Unit → Move → List ℕ
move_line unit m = motion_word m.kind ++ axis_word unit 88 m.to.x ++ axis_word unit 89 m.to.y ++ axis_word unit 90 m.to.z

-- ---- the way to the first place

-- a rapid of length 0, where the tool is already
abbrev pub stay : Pt3 → Move
stay p = record { kind = Rapid; from = p; to = p }

-- the moves of a way to this place from wherever the tool is: its two lines make one each, at the place that it leads to
abbrev pub head_moves : Option Pt3 → List Move
head_moves None = []
head_moves (Some p) = stay p ∷ stay p ∷ []

-- straight up to the place's height
unfoldable pub up_line : Unit → Pt3 → List ℕ
up_line unit p = codes "G0" ++ axis_word unit 90 p.z

-- and from there across to the place
unfoldable pub across_line : Unit → Pt3 → List ℕ
across_line unit p = codes "G0" ++ axis_word unit 88 p.x ++ axis_word unit 89 p.y

abbrev pub head_lines : Unit → Option Pt3 → List (List ℕ)
head_lines unit None = []
head_lines unit (Some p) = up_line unit p ∷ across_line unit p ∷ []

-- ---- the program

-- a line with its line feed, which is 10
abbrev pub ended : List ℕ → List ℕ
ended line = line ++ 10 ∷ []

-- behind the header the way to the first place, if there is one, and the moves' own lines
abbrev pub program_lines : Unit → Option Pt3 → List Move → List (List ℕ)
program_lines unit begin moves = codes "%" ∷ codes "G17 G21 G90" ∷ (head_lines unit begin ++ (map (move_line unit) moves ++ codes "M2" ∷ codes "%" ∷ []))

-- the lines one after another
unfoldable pub program_text : Unit → Option Pt3 → List Move → List ℕ
program_text unit begin moves = flat_map ended (program_lines unit begin moves)
