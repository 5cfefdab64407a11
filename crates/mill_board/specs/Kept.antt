-- The rule that holds between any two steps of the workers: what the words and slots of the shared table and the views of its seats have to do with one another.
use Rattle.std.specs.Prelude.{◌≡◌, ◌⊎◌, ℕ, ◌+◌, ◌^◌, ◌<◌, ◌≤◌, ◌==◌, min, cond, ltb, List, length, take, slice_index, sum_by, count_by, Option, Some, None, is_some}
use mathlib.Core.Option.{some, none}
use lib.ListN.{get_elem?}
use Rattle.atomic_table.specs.Table.{State}
use Rattle.mill_board.specs.declared.work.Held.{Held}
use Rattle.mill_board.specs.declared.work.Terms.{Terms}
use Rattle.mill_board.specs.declared.view.View.{View}
use Rattle.mill_board.specs.Works.{Means, FailsAt, HasSpans, IsTrueHeld, started}

-- how often a number stands in a list
abbrev pub times : ℕ → List ℕ → ℕ
times n numbers = count_by (λ m. m == n) numbers

-- 1 for a number under the bound, else 0
abbrev pub once_under : ℕ → ℕ → ℕ
once_under n bound = cond (ltb n bound) 1 0

-- 1 for a slot that has its value, 0 for one that is out
abbrev pub is_home : {A : Type 0} → mathlib.Core.Option.Option A → ℕ
is_home none = 0
is_home (some x) = 1

-- what a seat that has ended has to spare, and 0 of one that hasn't
abbrev pub spare_ended : {W : Type 0} → View W → ℕ
spare_ended v = cond (is_some v.ended) v.spare 0

-- how a board's table stands: its words, its slots and the views of its seats
abbrev pub BoardState : Type 0 → Type 0 → Type 0
BoardState W P = State (Option (Held P)) (View W)

-- the number that is drawn next
abbrev pub claim_of : {W P : Type 0} → BoardState W P → ℕ
claim_of s = slice_index s.words 0

-- the least turn to which a worker has lowered, or the number of turns
abbrev pub least_of : {W P : Type 0} → BoardState W P → ℕ
least_of s = slice_index s.words 1

-- how many of the pieces that were drawn came back
abbrev pub back_of : {W P : Type 0} → BoardState W P → ℕ
back_of s = slice_index s.words 2

-- a seat has this view
abbrev pub HasView : {W P : Type 0} → BoardState W P → ℕ → View W → Type 0
HasView s seat v = get_elem? s.views seat ≡ some v

-- a number stands in the list of a seat
abbrev pub IsListed : {W P : Type 0} → BoardState W P → ℕ → Type 0
IsListed {W} s n = (seat : ℕ) × (v : View W) × HasView s seat v × (0 < times n v.drawn)

-- the number of turns, or a turn at which the piece of a number fails that stands in a list
abbrev pub IsListedFailure : {W P : Type 0} → Means W P → Terms W → BoardState W P → ℕ → Type 0
IsListedFailure M terms s t = (t ≡ terms.turns) ⊎ ((n : ℕ) × IsListed s n × FailsAt M terms.work n t)

-- the slot of a number has its value
abbrev pub HasHome : {W P : Type 0} → BoardState W P → ℕ → Option (Held P) → Type 0
HasHome s n x = get_elem? s.homes n ≡ some (some x)

-- the slot of a number is out with a seat
abbrev pub IsOut : {W P : Type 0} → BoardState W P → ℕ → Type 0
IsOut s n = get_elem? s.homes n ≡ some none

-- the rule: the numbers that were drawn, the least turn, the slots, and what the seats have to spare
pub record Kept {W P : Type 0} (M : Means W P) (terms : Terms W) (s : BoardState W P) : Type 0 where
  -- a word for the claim, one for the least turn, one for what came back; a slot for each piece; every view has the board's work
  pub words : length s.words ≡ 3
  pub slots : length s.homes ≡ M.pieces terms.work
  pub few : M.pieces terms.work < 2 ^ 32
  pub spans : HasSpans M terms.work terms.turns
  pub terms_are : (seat : ℕ) (v : View W) → HasView s seat v → v.terms ≡ terms
  -- the numbers in the views' lists differ, and are exactly those under the claim and the count of pieces
  pub numbers : (n : ℕ) → sum_by (λ v. times n v.drawn) s.views ≡ once_under n (min (claim_of s) (M.pieces terms.work))
  -- the least turn is at most what each seat has seen, and is the number of turns or a turn at which a piece fails that a seat has drawn
  pub seen : (seat : ℕ) (v : View W) → HasView s seat v → least_of s ≤ v.seen
  pub least : IsListedFailure M terms s (least_of s)
  -- a slot at home has the true piece of its number, and from the claim on the one with no turn done; a slot that is out is the one that some seat has out, which hasn't ended
  pub home : (n : ℕ) (x : Option (Held P)) → HasHome s n x → (h : Held P) × (x ≡ Some h) × (h.number ≡ n) × IsTrueHeld M terms.work h
  pub untouched : (n : ℕ) → claim_of s ≤ n → n < M.pieces terms.work → HasHome s n (Some (started M terms.work n))
  pub back : back_of s ≡ sum_by is_home (take (claim_of s) s.homes)
  pub outs : (seat : ℕ) (v : View W) (n : ℕ) → HasView s seat v → v.out ≡ Some n → (0 < times n v.drawn) × IsOut s n
  pub busy : (seat : ℕ) (v : View W) (n : ℕ) → HasView s seat v → v.out ≡ Some n → v.ended ≡ None
  pub owned : (n : ℕ) → IsOut s n → (seat : ℕ) × (v : View W) × HasView s seat v × (v.out ≡ Some n)
  -- the claim is at most the pieces and what the ended seats have to spare, so that it doesn't wrap; a seat has ended at a number under the claim that is no piece's
  pub claim_most : claim_of s ≤ M.pieces terms.work + sum_by spare_ended s.views
  pub all_out : (seat : ℕ) (v : View W) (n : ℕ) → HasView s seat v → v.ended ≡ Some n → (M.pieces terms.work ≤ n) × (n < claim_of s)
  pub spares : (seat : ℕ) (v : View W) → HasView s seat v → 1 ≤ v.spare
  pub spare : sum_by (λ v. v.spare) s.views ≡ 2 ^ 62
