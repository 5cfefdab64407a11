-- What the rule of a board's table says of every state that it allows. A rule is told the work and its turns.
use Rattle.std.specs.Prelude.{◌≡◌, ◌↔◌, ℕ, ◌<◌, ◌≤◌}
use Rattle.mill_board.specs.declared.work.Terms.{Terms}
use Rattle.mill_board.specs.declared.view.View.{View}
use Rattle.mill_board.specs.Works.{Means}
use Rattle.mill_board.specs.Kept.{BoardState, HasView, IsListed, Kept, claim_of, times}

-- a rule: the states of a table that it allows, by the work and its turns
abbrev pub Rule : Type 0 → Type 0 → Type 1
Rule W P = Terms W → BoardState W P → Type 0

-- no number is drawn twice: it stands in no list twice, and in the lists of no two seats
pub record NoneTwice {W P : Type 0} (s : BoardState W P) : Type 0 where
  pub once : (seat : ℕ) (v : View W) (n : ℕ) → HasView s seat v → times n v.drawn ≤ 1
  pub apart : (i j : ℕ) (v w : View W) (n : ℕ) → HasView s i v → HasView s j w → 0 < times n v.drawn → 0 < times n w.drawn → i ≡ j

-- under this rule no number is drawn twice, by any seats
abbrev pub DrawsOnce : {W P : Type 0} → Rule W P → Type 0
DrawsOnce {W} {P} holds = (terms : Terms W) (s : BoardState W P) → holds terms s → NoneTwice s

-- under this rule the numbers that are drawn are those of pieces that are under the claim
abbrev pub DrawsAll : {W P : Type 0} → Means W P → Rule W P → Type 0
DrawsAll {W} {P} M holds = (terms : Terms W) (s : BoardState W P) → holds terms s → (n : ℕ) → IsListed s n ↔ ((n < claim_of s) × (n < M.pieces terms.work))

-- this rule has all that is said of the numbers, the least turn, the slots and what the seats have to spare
abbrev pub KeepsAll : {W P : Type 0} → Means W P → Rule W P → Type 0
KeepsAll {W} {P} M holds = (terms : Terms W) (s : BoardState W P) → holds terms s → Kept M terms s
