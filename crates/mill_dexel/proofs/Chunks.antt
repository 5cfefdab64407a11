-- A chunk of rows, turned one after another, and two chunks that are joined.
use Rattle.std.proofs.Common.{◌≡◌, ℕ, suc, ◌<◌, ◌≤◌, sym, subst, length, get_or, arith}
use Rattle.std.specs.Prelude.{List, [], ◌∷◌, ◌++◌, All}
use Rattle.std.specs.List.{AllZip}
use Rattle.std.proofs.lemmas.List.Elements.{AllZip-get_or, length_all_zip}
use Rattle.mill_base.specs.declared.motion.Move.{Move}
use Rattle.mill_job.specs.declared.fields.JobFields.{JobFields}
use Rattle.mill_dexel.specs.Rows.{RowState, IsRowOf}
use Rattle.mill_dexel.specs.Turns.{IsTurned, IsTurnedUpTo}
use Rattle.mill_dexel.proofs.RunLaws.{turned_is_row, up_to_is_row}
use Rattle.mill_dexel.proofs.Blocks.{turns_start, turns_join, turns_end}

-- two lists, member by member
zip_from_each : {A : Type 0} (R : A → A → Type 0) (xs ys : List A) → length ys ≡ length xs → ((i : ℕ) (d : A) → i < length xs → R (get_or xs i d) (get_or ys i d)) → AllZip R xs ys
zip_from_each R [] [] same each = tt
zip_from_each R [] (y ∷ ys) same each = absurd (omega (arith, same))
zip_from_each R (x ∷ xs) [] same each = absurd (omega (arith, same))
zip_from_each R (x ∷ xs) (y ∷ ys) same each = (each 0 x (omega arith), zip_from_each R xs ys (omega (arith, same)) (λ i d there. each (suc i) d (omega (arith, there))))

zip_append : {A : Type 0} (R : A → A → Type 0) (xs ys us vs : List A) → AllZip R xs ys → AllZip R us vs → AllZip R (xs ++ us) (ys ++ vs)
zip_append R [] [] us vs h g = g
zip_append R [] (y ∷ ys) us vs h g = absurd h
zip_append R (x ∷ xs) [] us vs h g = absurd h
zip_append R (x ∷ xs) (y ∷ ys) us vs h g = (h.0, zip_append R xs ys us vs h.1 g)

-- a list in two parts, each of which has become another one
pub zip_joined : {A : Type 0} (R : A → A → Type 0) (all xs ys us vs : List A) → all ≡ xs ++ us → AllZip R xs ys → AllZip R us vs → AllZip R all (ys ++ vs)
zip_joined R all xs ys us vs parts h g = subst (λ (zs : List _). AllZip R zs (ys ++ vs)) (sym parts) (zip_append R xs ys us vs h g)

-- the rows before n have gone through their turns up to move limit, and the others are as they were
pub record AreTurnedTo (job : JobFields) (moves : List Move) (limit n : ℕ) (old new : List RowState) : Type 0 where
  pub count : length new ≡ length old
  pub turned : (i : ℕ) (d : RowState) → i < n → i < length old → IsTurnedUpTo job moves limit (get_or old i d) (get_or new i d)
  pub rest : (i : ℕ) (d : RowState) → n ≤ i → get_or new i d ≡ get_or old i d

pub turned_all : (job : JobFields) (moves : List Move) (limit n : ℕ) (old new : List RowState) → length old ≤ n → AreTurnedTo job moves limit n old new → AllZip (IsTurnedUpTo job moves limit) old new
turned_all job moves limit n old new over so_far = zip_from_each (IsTurnedUpTo job moves limit) old new so_far.count (λ i d there. so_far.turned i d (omega (arith, over, there)) there)

-- turned rows of the job are rows of the job
pub rows_stay : (job : JobFields) (moves : List Move) (old new : List RowState) → All (IsRowOf job) old → AllZip (IsTurned job moves) old new → All (IsRowOf job) new
rows_stay job moves old new rows turned = λ k d there.
    let before : k < length old = omega (arith, there, length_all_zip (IsTurned job moves) old new turned) in
    turned_is_row job moves (get_or old k d) (get_or new k d) (AllZip-get_or (IsTurned job moves) old new k d d turned before) (rows k d before)

pub rows_stay_up_to : (job : JobFields) (moves : List Move) (limit : ℕ) (old new : List RowState) → All (IsRowOf job) old → AllZip (IsTurnedUpTo job moves limit) old new → All (IsRowOf job) new
rows_stay_up_to job moves limit old new rows turned = λ k d there.
    let before : k < length old = omega (arith, there, length_all_zip (IsTurnedUpTo job moves limit) old new turned) in
    up_to_is_row job moves limit (get_or old k d) (get_or new k d) (AllZip-get_or (IsTurnedUpTo job moves limit) old new k d d turned before) (rows k d before)

-- rows block by block: before the first move, one block more, and after the last
pub rows_start : (job : JobFields) (moves : List Move) (rows : List RowState) → AllZip (IsTurnedUpTo job moves 0) rows rows
rows_start job moves [] = tt
rows_start job moves (r ∷ rows) = (turns_start job moves r, rows_start job moves rows)

pub rows_join : (job : JobFields) (moves : List Move) (limit more : ℕ) (old mid new : List RowState) → AllZip (IsTurnedUpTo job moves limit) old mid → AllZip (IsTurnedUpTo job moves more) mid new → AllZip (IsTurnedUpTo job moves more) old new
rows_join job moves limit more [] [] [] h g = tt
rows_join job moves limit more [] [] (z ∷ zs) h g = absurd g
rows_join job moves limit more [] (y ∷ ys) zs h g = absurd h
rows_join job moves limit more (x ∷ xs) [] zs h g = absurd h
rows_join job moves limit more (x ∷ xs) (y ∷ ys) [] h g = absurd g
rows_join job moves limit more (x ∷ xs) (y ∷ ys) (z ∷ zs) h g = (turns_join job moves limit more x y z h.0 g.0, rows_join job moves limit more xs ys zs h.1 g.1)

pub rows_end : (job : JobFields) (moves : List Move) (limit : ℕ) (old new : List RowState) → length moves ≤ limit → AllZip (IsTurnedUpTo job moves limit) old new → AllZip (IsTurned job moves) old new
rows_end job moves limit [] [] all h = tt
rows_end job moves limit [] (y ∷ ys) all h = absurd h
rows_end job moves limit (x ∷ xs) [] all h = absurd h
rows_end job moves limit (x ∷ xs) (y ∷ ys) all h = (turns_end job moves limit x y all h.0, rows_end job moves limit xs ys all h.1)
