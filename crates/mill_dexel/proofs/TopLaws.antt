-- A column's top stays from the floor to the uncut stock's top, and only a cut lowers it.
use Rattle.std.proofs.Common.{◌≡◌, ◌⊎◌, inl, inr, refl, arith}
use Rattle.std.specs.Prelude.{ℤ, ◌<ℤ◌, ◌≤ℤ◌, List, [], ◌∷◌, fold, Option, Some, None}
use Rattle.std.proofs.lemmas.Int.{ints}
use Rattle.mill_base.specs.Numbers.{lesser, greater}
use Rattle.mill_base.specs.Sizes.{cut_height_of}
use Rattle.mill_base.specs.declared.motion.Move.{Move}
use Rattle.mill_job.specs.Solids.{inner_of}
use Rattle.mill_job.specs.declared.fields.JobFields.{JobFields}
use Rattle.mill_job.specs.Jobs.{IsFrom}
use Rattle.mill_dexel.specs.Samples.{samples}
use Rattle.mill_dexel.specs.declared.sample.Placed.{Placed}
use Rattle.mill_job.specs.Columns.{column_x, column_y}
use Rattle.mill_dexel.specs.Stocks.{IsStockOf}
use Rattle.mill_dexel.specs.Tops.{Stock, lowered_to, stock_after, top_after_sample, top_after_move, top_after, uncut}
use Rattle.mill_base.proofs.Extremes.{greater_left, greater_right, greater_least, lesser_left, lesser_under}

-- a lowered top stays from floor to high
pub lowered_stays : (floor high top : ℤ) (cut : Option ℤ) → IsFrom floor high top → IsFrom floor high (lowered_to floor top cut)
lowered_stays floor high top None stays = stays
lowered_stays floor high top (Some h) stays = record {
  low = greater_left floor (lesser top h);
  high = greater_least floor (lesser top h) high (over floor high top stays.low stays.high) (over (lesser top h) high top (lesser_left top h) stays.high);
}
  where
    over : (a b c : ℤ) → a ≤ℤ c → c ≤ℤ b → a ≤ℤ b
    over a b c l k = omega (arith, ints)

-- so does the top after a sample, after each of a list of samples, and after each of a list of moves
sample_stays : (floor high x y top : ℤ) (s : Option Placed) → IsFrom floor high top → IsFrom floor high (top_after_sample floor x y top s)
sample_stays floor high x y top None stays = stays
sample_stays floor high x y top (Some s) stays = lowered_stays floor high top (cut_height_of s.cutter s.tip x y) stays

pub samples_stay : (floor high x y top : ℤ) (places : List (Option Placed)) → IsFrom floor high top → IsFrom floor high (fold (top_after_sample floor x y) top places)
samples_stay floor high x y top [] stays = stays
samples_stay floor high x y top (s ∷ places) stays =
    samples_stay floor high x y (top_after_sample floor x y top s) places (sample_stays floor high x y top s stays)

pub move_stays : (job : JobFields) (x y top : ℤ) (m : Move) → IsFrom job.floor job.top top → IsFrom job.floor job.top (top_after_move job x y top m)
move_stays job x y top m stays = samples_stay job.floor job.top x y top (samples (inner_of job) job.sample m) stays

pub moves_stay : (job : JobFields) (x y top : ℤ) (moves : List Move) → IsFrom job.floor job.top top → IsFrom job.floor job.top (fold (top_after_move job x y) top moves)
moves_stay job x y top [] stays = stays
moves_stay job x y top (m ∷ moves) stays = moves_stay job x y (top_after_move job x y top m) moves (move_stays job x y top m stays)

-- a top stays from the floor to the uncut stock's top
pub top_after_stays : (job : JobFields) (x y : ℤ) (moves : List Move) → job.floor ≤ℤ job.top → IsFrom job.floor job.top (top_after job x y moves)
top_after_stays job x y moves order = moves_stay job x y job.top moves (record { low = order; high = omega (arith, ints) })

-- so does each top of a stock
pub stock_stays : (job : JobFields) (stock : Stock) (moves : List Move) → IsStockOf job stock → IsStockOf job (stock_after job stock moves)
stock_stays job stock moves of_job j i column = moves_stay job (column_x job i) (column_y job j) (stock j i) moves (of_job j i column)

pub uncut_stays : (job : JobFields) → job.floor ≤ℤ job.top → IsStockOf job (uncut job)
uncut_stays job order j i column = record { low = order; high = omega (arith, ints) }

-- a top that is lowered under h was under h before, or the cut is under h
pub lowered_under : (floor top h : ℤ) (cut : Option ℤ) → lowered_to floor top cut <ℤ h → (top <ℤ h) ⊎ ((c : ℤ) × ((cut ≡ Some c) × (c <ℤ h)))
lowered_under floor top h None under = inl under
lowered_under floor top h (Some c) under =
    elim (lesser_under top c h (below (lesser top c) (greater floor (lesser top c)) h (greater_right floor (lesser top c)) under)) [
      | inl before ↦ inl before
      | inr cut ↦ inr (c, (refl, cut))
    ]
  where
    below : (a b c : ℤ) → a ≤ℤ b → b <ℤ c → a <ℤ c
    below a b c l k = omega (arith, ints)
