-- The text of a plan is within the limit of a file.
use Rattle.std.proofs.Common.{◌≡◌, ℕ, ◌+◌, ◌*◌, ◌≤◌, Bool, true, false, List, [], ◌∷◌, ◌++◌, length, map, take, drop, Option, None, Some, ap, subst, arith, rules, length-append, length-drop}
use Rattle.std.specs.Prelude.{codes, if◌then◌else◌, Contains, IfSome}
use Rattle.std.specs.List.{flat_map}
use Rattle.std.proofs.lemmas.Grind.{flat_map-append}
use Rattle.std.proofs.lemmas.List.{take-append-drop}
use Rattle.std.proofs.lemmas.List.Elements.{Contains-append_right}
use Rattle.mill_base.specs.Ranges.{IsInUnitRange, MoveInUnitRange, MovesInUnitRange}
use Rattle.mill_base.specs.declared.motion.Kind.{Kind}
use Rattle.mill_base.specs.declared.motion.Kind.TheVariants.{Rapid, Feed, Dogleg}
use Rattle.mill_base.specs.declared.motion.Move.{Move}
use Rattle.mill_base.specs.declared.points.Pt3.{Pt3}
use Rattle.mill_base.specs.declared.unit.Unit.{Unit as LengthUnit}
use Rattle.mill_decimal.proofs.Canonical.{length-canonical}
use Rattle.mill_job.specs.Columns.{home}
use Rattle.mill_job.specs.Habits.{is_elsewhere}
use Rattle.mill_job.specs.Jobs.{IsJob}
use Rattle.mill_job.specs.declared.fields.JobFields.{JobFields}
use Rattle.mill_links.specs.Links.{head}
use Rattle.mill_ngc.specs.Writing.{motion_word, ended, move_line, up_line, across_line, head_lines, program_text}
use Rattle.mill_plan.specs.Plans.{begin_of, plan_text}
use Rattle.mill_load.specs.Setup.{Fits}

-- ---- the line of a move

length-motion : (kind : Kind) → length (motion_word kind) ≤ 2
length-motion Rapid = omega arith
length-motion Feed = omega arith
length-motion Dogleg = omega arith

length-move : (unit : LengthUnit) (m : Move) → IsInUnitRange unit m.to → length (move_line unit m) ≤ 32
unfolding move_line
length-move unit m fits =
    simp length-append (omega (arith, length-motion m.kind, length-canonical unit m.to.x fits.x_ok, length-canonical unit m.to.y fits.y_ok, length-canonical unit m.to.z fits.z_ok))

-- ---- the lines that lead home

length-up : (unit : LengthUnit) (p : Pt3) → IsInUnitRange unit p → length (up_line unit p) ≤ 12
unfolding up_line
length-up unit p fits = simp length-append (omega (arith, length-canonical unit p.z fits.z_ok))

length-across : (unit : LengthUnit) (p : Pt3) → IsInUnitRange unit p → length (across_line unit p) ≤ 22
unfolding across_line
length-across unit p fits = simp length-append (omega (arith, length-canonical unit p.x fits.x_ok, length-canonical unit p.y fits.y_ok))

length-head : (unit : LengthUnit) (begin : Option Pt3) → IfSome begin (IsInUnitRange unit) → length (flat_map ended (head_lines unit begin)) ≤ 36
length-head unit None here = omega arith
length-head unit (Some p) here =
    omega (
      arith,
      length-append (ended (up_line unit p)) (ended (across_line unit p) ++ []),
      length-append (ended (across_line unit p)) [],
      length-append (up_line unit p) (10 ∷ []),
      length-append (across_line unit p) (10 ∷ []),
      length-up unit p here,
      length-across unit p here,
    )

-- ---- the text

-- the lines of the moves, and those behind them
abbrev rest_of : LengthUnit → List Move → List (List ℕ)
rest_of unit moves = map (move_line unit) moves ++ codes "M2" ∷ codes "%" ∷ []

length-rest : (unit : LengthUnit) (moves : List Move) → MovesInUnitRange unit moves → length (flat_map ended (rest_of unit moves)) ≤ 33 * length moves + 5
length-rest unit [] fits = omega arith
length-rest unit (m ∷ moves) fits =
    let first : MoveInUnitRange unit m = fits m (search rules) in
    let others : MovesInUnitRange unit moves = λ n member. fits n (Contains-append_right (m ∷ []) moves n member) in
    omega (
      arith,
      length-append (ended (move_line unit m)) (flat_map ended (rest_of unit moves)),
      length-append (move_line unit m) (10 ∷ []),
      length-move unit m first.to_ok,
      length-rest unit moves others,
    )

length-program : (unit : LengthUnit) (begin : Option Pt3) (moves : List Move) → IfSome begin (IsInUnitRange unit) → MovesInUnitRange unit moves
    → length (program_text unit begin moves) ≤ 33 * length moves + 55
unfolding program_text
length-program unit begin moves here fits =
    let behind : List ℕ = flat_map ended (head_lines unit begin ++ rest_of unit moves) in
    omega (
      arith,
      length-append (ended (codes "%")) (ended (codes "G17 G21 G90") ++ behind),
      length-append (ended (codes "G17 G21 G90")) behind,
      ap length (flat_map-append ended (head_lines unit begin) (rest_of unit moves)),
      length-append (flat_map ended (head_lines unit begin)) (flat_map ended (rest_of unit moves)),
      length-head unit begin here,
      length-rest unit moves fits,
    )

-- ---- a plan

-- where it may start from elsewhere, the lines at its head lead to a place in range
begin_in_range : (job : JobFields) → IsJob job → IfSome (begin_of job) (IsInUnitRange job.unit)
begin_in_range job ok = by (is_elsewhere job.start)
  where
    by : (b : Bool) → IfSome (if b then Some (home job) else None) (IsInUnitRange job.unit)
    by true = record { x_ok = ok.home_ok.x_ok; y_ok = ok.home_ok.y_ok; z_ok = ok.clear_ok }
    by false = tt

-- moves in range are so behind the first of them
behind_in_range : (unit : LengthUnit) (n : ℕ) (moves : List Move) → MovesInUnitRange unit moves → MovesInUnitRange unit (drop n moves)
behind_in_range unit n moves fits m member =
    fits m (subst (λ (ms : List Move). Contains ms m) (take-append-drop n moves) (Contains-append_right (take n moves) (drop n moves) m member))

-- a plan of at most 1,000,000 moves in range fits into a file
pub plan_fits : (job : JobFields) (moves : List Move) (text : List ℕ) → IsJob job → MovesInUnitRange job.unit moves → length moves ≤ 1000000 → text ≡ plan_text job moves → Fits text
plan_fits job moves text ok fits few written =
    let n : ℕ = length (head job) in
    let short : length (plan_text job moves) ≤ 33 * length (drop n moves) + 55 = length-program job.unit (begin_of job) (drop n moves) (begin_in_range job ok) (behind_in_range job.unit n moves fits) in
    rw written (omega (arith, short, few, length-drop n moves))
