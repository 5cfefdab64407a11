-- How many moves the files before one have.
use Rattle.std.specs.Prelude.{◌≡◌, ℕ, ◌+◌, ◌*◌, ◌<◌, ◌≤◌, List, All, length, take, slice_index_or}
use Rattle.std.proofs.Common.{sym, ◌∙◌, ap, subst, arith}
use Rattle.std.proofs.lemmas.List.{take_all}
use Rattle.std.proofs.lemmas.List.Sums.{sum_by_more}
use Rattle.mill_base.specs.declared.limits.TheConstants.{MAX_MOVES}
use Rattle.mill_base.specs.declared.motion.Move.{Move}
use Rattle.mill_verify.specs.Files.{File, HasFewMoves}
use Rattle.mill_verify.specs.Lists.{moves_in}

module _ (files : List File) (n moves : ℕ) (ms : List Move) (file : File) (there : n < length files) (read : file ≡ slice_index_or files n file) (are : ms ≡ file.moves) where
  few_there : All HasFewMoves files → length ms ≤ MAX_MOVES
  few_there few = subst (λ (v : List Move). length v ≤ MAX_MOVES) (sym are) (subst HasFewMoves (sym read) (few n file there))

  -- one file more
  pub moves_more : moves ≡ moves_in (take n files) → moves + length ms ≡ moves_in (take (n + 1) files)
  moves_more so_far =
      ap (λ (k : ℕ). k + length ms) so_far
      ∙ ap (λ (v : List Move). moves_in (take n files) + length v) (are ∙ ap (λ (f : File). f.moves) read)
      ∙ sym (sum_by_more (λ (f : File). length f.moves) files n file there)

  pub bound_more : All HasFewMoves files → moves ≤ n * MAX_MOVES → (moves + length ms) ≤ ((n + 1) * MAX_MOVES)
  bound_more few so_far = let one = few_there few in omega (so_far, one, arith)

  pub moves_fit : All HasFewMoves files → length files ≤ 16 → moves ≤ n * MAX_MOVES → (moves + length ms) ≤ 16000000
  moves_fit few count so_far = let one = few_there few in omega (so_far, one, count, there, arith)

-- all files
pub moves_all : (files : List File) (n moves : ℕ) → length files ≤ n → moves ≡ moves_in (take n files) → moves ≡ moves_in files
moves_all files n moves all is = is ∙ ap moves_in (take_all n files all)
