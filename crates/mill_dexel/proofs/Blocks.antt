-- A row that goes through the moves block by block, and over a block that stays far away from it.
use Rattle.std.proofs.Common.{◌≡◌, inl, inr, ℕ, zero, suc, ◌+◌, ◌-◌, ◌<◌, ◌≤◌, refl, sym, subst, ap, ◌∙◌, length, take, drop, arith}
use Rattle.std.specs.Prelude.{ℤ, ◌≤ℤ◌, List, [], ◌∷◌, ◌++◌, Option, Some, None, IfSome, MatchOption, slice_range}
use Rattle.std.proofs.lemmas.Bool.{cases_lt}
use Rattle.std.proofs.lemmas.Int.{ints}
use Rattle.std.proofs.Math.Seq.{drop-nil}
use Rattle.std.proofs.lemmas.List.Sums.{fold-append}
use Rattle.mill_base.specs.Ranges.{MoveInRange, MovesInRange}
use Rattle.mill_base.specs.Solids.{IsSolid, Solid}
use Rattle.mill_base.specs.declared.motion.Move.{Move}
use Rattle.mill_job.specs.Solids.{holder_solid_of, inner_of}
use Rattle.mill_job.proofs.SolidFacts.{holder_solid_ok, inner_ok, stock_solid_ok}
use Rattle.mill_job.specs.declared.fields.JobFields.{JobFields}
use Rattle.mill_job.specs.Jobs.{IsJob}
use Rattle.mill_job.specs.Columns.{column_y}
use Rattle.mill_sweep.specs.Reach.{margin_of}
use Rattle.mill_dexel.specs.Tops.{tops_after_move}
use Rattle.mill_dexel.specs.Rows.{RowState, IsRowOf, cutting, holding, HolderPassesRow}
use Rattle.mill_dexel.specs.inner.Cuts.{IsBeyond}
use Rattle.mill_dexel.specs.Turns.{move_at, ClearsRow, StopsRow, tops_after, row_before, TurnsEndAt, IsRunOn, IsTurned, TurnsEndBy, IsRunUpTo, IsTurnedUpTo}
use Rattle.mill_dexel.specs.Bands.{IsInBand, IsBand}
use Rattle.mill_dexel.specs.inner.Passing.{IsAway, PassesOver}
use Rattle.mill_dexel.specs.declared.fail.RowFail.{RowFail}
use Rattle.mill_dexel.specs.declared.band.Band.{Band}
use Rattle.mill_dexel.proofs.Beyond.{move_keeps}
use Rattle.mill_dexel.proofs.Reaches.{past_margin, stock_beyond}
use Rattle.mill_dexel.proofs.RunLaws.{IsRunTo, move_read, run_more, run_ended}
use Rattle.mill_dexel.proofs.Trials.{far_passes_row}

-- a list in two parts
take_none : {A : Type 0} (n : ℕ) → take {A = A} n [] ≡ []
take_none zero = refl
take_none (suc n) = refl

take_parts : {A : Type 0} (a b : ℕ) (xs : List A) → take (a + b) xs ≡ take a xs ++ take b (drop a xs)
take_parts zero b xs = let e : zero + b ≡ b = omega arith in ap (λ (n : ℕ). take n xs) e
take_parts (suc a) b [] = take_none (suc a + b) ∙ sym (take_none b)
take_parts (suc a) b (x ∷ xs) = let e : suc a + b ≡ suc (a + b) = omega arith in ap (λ (n : ℕ). take n (x ∷ xs)) e ∙ ap (λ ys. x ∷ ys) (take_parts a b xs)

drop_parts : {A : Type 0} (a b : ℕ) (xs : List A) → drop b (drop a xs) ≡ drop (a + b) xs
drop_parts zero b xs = let e : b ≡ zero + b = omega arith in ap (λ (n : ℕ). drop n xs) e
drop_parts (suc a) b [] = drop-nil b ∙ sym (drop-nil (suc a + b))
drop_parts (suc a) b (x ∷ xs) = let e : suc (a + b) ≡ suc a + b = omega arith in drop_parts a b xs ∙ ap (λ (n : ℕ). drop n (x ∷ xs)) e

slice_parts : (moves : List Move) (d k n : ℕ) → d ≤ k → k ≤ n → slice_range moves d n ≡ slice_range moves d k ++ slice_range moves k n
slice_parts moves d k n from to =
    ap (λ (c : ℕ). take c (drop d moves)) whole
    ∙ take_parts (k - d) (n - k) (drop d moves)
    ∙ ap (λ (ms : List Move). slice_range moves d k ++ take (n - k) ms) (drop_parts d (k - d) moves ∙ ap (λ (c : ℕ). drop c moves) here)
  where
    whole : n - d ≡ (k - d) + (n - k)
    whole = omega (arith, from, to)

    here : d + (k - d) ≡ k
    here = omega (arith, from)

tops_parts : (job : JobFields) (j : ℕ) (moves : List Move) (d k n : ℕ) (tops : List ℤ) → d ≤ k → k ≤ n
    → tops_after job j (slice_range moves d n) tops ≡ tops_after job j (slice_range moves k n) (tops_after job j (slice_range moves d k) tops)
tops_parts job j moves d k n tops from to =
    ap (λ (ms : List Move). tops_after job j ms tops) (slice_parts moves d k n from to)
    ∙ fold-append (λ (ts : List ℤ) (m : Move). tops_after_move job j 0 m ts) tops (slice_range moves d k) (slice_range moves k n)

-- a row that another one came to by its turns, as move n meets both
pub row_parts : (job : JobFields) (moves : List Move) (old mid : RowState) (n : ℕ) → old.done ≤ mid.done → mid.done ≤ n → mid ≡ row_before job moves old mid.done
    → row_before job moves mid n ≡ row_before job moves old n
row_parts job moves old mid n from to is =
    ap (λ (r : RowState). row_before job moves r n) is
    ∙ ap (λ (ts : List ℤ). record old { tops = ts; done = n }) (sym (tops_parts job old.row moves old.done mid.done n old.tops from to))

-- two runs, the second of which goes on where the first came to
module _ (job : JobFields) (moves : List Move) (limit more : ℕ) (old mid new : RowState) where
  runs_join : old.failed ≡ None → mid.failed ≡ None → IsRunUpTo job moves limit old mid → IsRunUpTo job moves more mid new → IsRunUpTo job moves more old new
  runs_join old_none mid_none first second = record {
    onward = omega (arith, first.onward, second.onward);
    passed = λ k from to. elim (cases_lt k mid.done) [
      | inl before ↦ first.passed k from before
      | inr rest ↦
          let passes = second.passed k rest to in
          record { there = passes.there; clears = subst (λ (r : RowState). ClearsRow job r (move_at moves k)) (same k rest) passes.clears }
    ];
    ends = ends new.failed second.ends;
    is = second.is ∙ ap (λ (r : RowState). record r { failed = new.failed }) (same new.done second.onward);
  }
    where
      mid_is : mid ≡ row_before job moves old mid.done
      mid_is = first.is ∙ ap (λ (f : Option RowFail). record (row_before job moves old mid.done) { failed = f }) (mid_none ∙ sym old_none)

      same : (n : ℕ) → mid.done ≤ n → row_before job moves mid n ≡ row_before job moves old n
      same n to = row_parts job moves old mid n first.onward to mid_is

      ends : (f : Option RowFail) → TurnsEndBy job moves mid more new.done f → TurnsEndBy job moves old more new.done f
      ends None h = h
      ends (Some fail) h = (h.0, subst (λ (r : RowState). StopsRow job r (move_at moves new.done) fail) (same new.done second.onward) h.1)

  -- a run that ended by a failure isn't gone on with
  run_stays : (fail : RowFail) → mid.failed ≡ Some fail → IsRunUpTo job moves limit old mid → IsRunUpTo job moves more old mid
  run_stays fail failed run = record {
    onward = run.onward;
    passed = run.passed;
    ends = subst (TurnsEndBy job moves old more mid.done) (sym failed) (subst (TurnsEndBy job moves old limit mid.done) failed run.ends);
    is = run.is;
  }

  pub turns_join : IsTurnedUpTo job moves limit old mid → IsTurnedUpTo job moves more mid new → IsTurnedUpTo job moves more old new
  turns_join = by old.failed mid.failed refl refl
    where
      by : (o m : Option RowFail) → old.failed ≡ o → mid.failed ≡ m → MatchOption o (IsRunUpTo job moves limit old mid) (λ fail. mid ≡ old) → MatchOption m (IsRunUpTo job moves more mid new) (λ fail. new ≡ mid)
          → MatchOption o (IsRunUpTo job moves more old new) (λ fail. new ≡ old)
      by None None e f first second = runs_join e f first second
      by None (Some fail) e f first second = subst (IsRunUpTo job moves more old) (sym second) (run_stays fail f first)
      by (Some fail) None e f first second = absurd (differ fail (sym e ∙ ap (λ (r : RowState). r.failed) (sym first) ∙ f))
        where
          differ : (fail : RowFail) → Some fail ≡ None → ⊥
          differ fail h = cc
      by (Some fail) (Some again) e f first second = second ∙ first

-- before the first move, a row is as it was
pub turns_start : (job : JobFields) (moves : List Move) (r : RowState) → IsTurnedUpTo job moves 0 r r
turns_start job moves r = by r.failed refl
  where
    none : (n : ℕ) → n - n ≡ 0
    none n = omega arith

    by : (o : Option RowFail) → r.failed ≡ o → MatchOption o (IsRunUpTo job moves 0 r r) (λ fail. r ≡ r)
    by None e = record {
      onward = omega arith;
      passed = λ k from to. absurd (omega (arith, from, to));
      ends = subst (TurnsEndBy job moves r 0 r.done) (sym e) (omega arith);
      is = ap (λ (n : ℕ). record r { tops = tops_after job r.row (take n (drop r.done moves)) r.tops }) (sym (none r.done));
    }
    by (Some fail) e = refl

-- after the last move, it went through its turns
pub turns_end : (job : JobFields) (moves : List Move) (limit : ℕ) (old new : RowState) → length moves ≤ limit → IsTurnedUpTo job moves limit old new → IsTurned job moves old new
turns_end job moves limit old new all = by old.failed
  where
    ends : (f : Option RowFail) → TurnsEndBy job moves old limit new.done f → TurnsEndAt job moves old new.done f
    ends None h = omega (arith, all, h)
    ends (Some fail) h = h

    by : (o : Option RowFail) → MatchOption o (IsRunUpTo job moves limit old new) (λ fail. new ≡ old) → MatchOption o (IsRunOn job moves old new) (λ fail. new ≡ old)
    by None run = record {
      onward = run.onward;
      passed = run.passed;
      ends = ends new.failed run.ends;
      row = ap (λ (r : RowState). r.row) run.is;
      tops = ap (λ (r : RowState). r.tops) run.is;
    }
    by (Some fail) same = same

-- a move that stays away from a row passes each of its columns, by its cutter and by its holder, and so the row
away_clears : (job : JobFields) (r : RowState) (m : Move) → IsJob job → MoveInRange m → IsAway job m.from.y m.to.y (column_y job r.row) → ClearsRow job r m
away_clears job r m is_job range away = record {
  cut = λ tested. far_passes_row job (cutting job m.kind m) r (stock_solid_ok job is_job) range (stock_beyond job m.from.y m.to.y (column_y job r.row) is_job away.cut);
  holder = held (holder_solid_of job) (holder_solid_ok job is_job) away.holder;
}
  where
    held : (o : Option Solid) → IfSome o IsSolid → IfSome o (λ holder. IsBeyond (margin_of holder.cutter) m.from.y m.to.y (column_y job r.row)) → IfSome o (λ holder. HolderPassesRow holder job r m)
    held None ok far = tt
    held (Some holder) ok far = far_passes_row job (holding holder m) r ok range far

-- a band that is widened to one move more
pub band_more : (moves : List Move) (first t : ℕ) (low high low' high' : ℤ) → ((k : ℕ) → first ≤ k → k < t → IsInBand low high (move_at moves k)) → low' ≤ℤ low → high ≤ℤ high' → IsInBand low' high' (move_at moves t)
    → (k : ℕ) → first ≤ k → k < t + 1 → IsInBand low' high' (move_at moves k)
band_more moves first t low high low' high' so_far lower higher last k from to = elim (cases_lt k t) [
  | inl before ↦ let old = so_far k from before in wider (move_at moves k) old.from_low old.from_high old.to_low old.to_high
  | inr rest ↦ subst (λ (n : ℕ). IsInBand low' high' (move_at moves n)) (same k t rest to) last
]
  where
    same : (k t : ℕ) → t ≤ k → k < t + 1 → t ≡ k
    same k t h l = omega (arith, h, l)

    wider : (m : Move) → low ≤ℤ m.from.y → m.from.y ≤ℤ high → low ≤ℤ m.to.y → m.to.y ≤ℤ high → IsInBand low' high' m
    wider m a b c d = record { from_low = omega (arith, ints); from_high = omega (arith, ints); to_low = omega (arith, ints); to_high = omega (arith, ints) }

-- what is away from a band is away from each move in it
in_band_beyond : (distance y low high : ℤ) (m : Move) → IsInBand low high m → IsBeyond distance low high y → IsBeyond distance m.from.y m.to.y y
in_band_beyond distance y low high m inside (inl h) = let l = h.first in let a = inside.from_low in let b = inside.to_low in inl (record { first = omega (arith, ints); second = omega (arith, ints) })
in_band_beyond distance y low high m inside (inr h) = let l = h.second in let a = inside.from_high in let b = inside.to_high in inr (record { first = omega (arith, ints); second = omega (arith, ints) })

in_band_away : (job : JobFields) (y low high : ℤ) (m : Move) → IsInBand low high m → IsAway job low high y → IsAway job m.from.y m.to.y y
in_band_away job y low high m inside away = record {
  cut = in_band_beyond (margin_of (inner_of job).cutter) y low high m inside away.cut;
  holder = held (holder_solid_of job) away.holder;
}
  where
    held : (o : Option Solid) → IfSome o (λ holder. IsBeyond (margin_of holder.cutter) low high y) → IfSome o (λ holder. IsBeyond (margin_of holder.cutter) m.from.y m.to.y y)
    held None far = tt
    held (Some holder) far = in_band_beyond (margin_of holder.cutter) y low high m inside far

contained : (moves : List Move) (k : ℕ) → MovesInRange moves → k < length moves → MoveInRange (move_at moves k)
contained moves k range there = range (move_at moves k) (k, there, move_read moves k (move_at moves k) there)

-- a row that hasn't failed, before its next move
pub run_start : (job : JobFields) (moves : List Move) (r : RowState) → IsRowOf job r → r.failed ≡ None → IsRunTo job moves r r r.done
run_start job moves r is_row unfailed = record {
  onward = omega arith;
  passed = λ k from to. absurd (omega (arith, from, to));
  is = ap (λ (n : ℕ). record r { tops = tops_after job r.row (take n (drop r.done moves)) r.tops }) (sym (none r.done));
  unfailed = unfailed;
  is_row = is_row;
}
  where
    none : (n : ℕ) → n - n ≡ 0
    none n = omega arith

-- a row passes over moves that stay far away from it
module _ (job : JobFields) (moves : List Move) (old now : RowState) (start : ℕ) (is_job : IsJob job) (range : MovesInRange moves) (run : IsRunTo job moves old now start) where
  -- the row, where it is before move k
  abbrev pub passing : ℕ → RowState
  passing k = record now { done = k }

  -- one move more
  past_one : (k : ℕ) → k < length moves → IsAway job (move_at moves k).from.y (move_at moves k).to.y (column_y job now.row) → IsRunTo job moves old (passing k) k
      → IsRunTo job moves old (passing (k + 1)) (k + 1)
  past_one k there far before =
      run_more job moves old (passing k) (passing (k + 1)) k there before (away_clears job (passing k) (move_at moves k) is_job (contained moves k range there) far)
      (ap (λ (ts : List ℤ). record now { tops = ts; done = k + 1 }) (move_keeps job now.row (move_at moves k) now.tops (inner_ok job is_job).cutter_ok (past_margin (inner_of job).cutter (move_at moves k).from.y (move_at moves k).to.y (column_y job now.row) far.cut)))
      (record { there = run.is_row.there; columns = run.is_row.columns; in_stock = run.is_row.in_stock })

  pub run_past : (more : ℕ) → start + more ≤ length moves
      → ((k : ℕ) → start ≤ k → k < start + more → IsAway job (move_at moves k).from.y (move_at moves k).to.y (column_y job now.row))
      → IsRunTo job moves old (passing (start + more)) (start + more)
  run_past zero there far =
      let same : start ≡ start + zero = omega arith in
      subst (λ (k : ℕ). IsRunTo job moves old (passing k) k) same (subst (λ (r : RowState). IsRunTo job moves old r start) (run.is ∙ ap (λ (r : RowState). record r { done = start }) (sym run.is)) run)
  run_past (suc more) there far =
      let next : start + more + 1 ≡ start + suc more = omega arith in
      subst (λ (k : ℕ). IsRunTo job moves old (passing k) k) next
      (past_one (start + more) (omega (arith, there)) (far (start + more) (omega arith) (omega arith)) (run_past more (omega (arith, there)) (λ k from to. far k from (omega (arith, to)))))

-- so a row that goes over a band at once went through its turns up to the band's end
pub over_runs : (job : JobFields) (moves : List Move) (band : Band) (old now new : RowState) → IsJob job → MovesInRange moves → band.«end» ≤ length moves → IsBand moves band
    → IsRunTo job moves old now now.done → PassesOver job band now new → IsRunTo job moves old new band.«end»
over_runs job moves band old now new is_job range there is_band run over =
    subst (λ (r : RowState). IsRunTo job moves old r band.«end») (sym over.is)
    (subst (λ (k : ℕ). IsRunTo job moves old (record now { done = k }) k) whole
    (run_past job moves old now now.done is_job range run (band.«end» - now.done) (omega (arith, there, over.onward))
    (λ k from to. in_band_away job (column_y job now.row) band.low band.high (move_at moves k) (is_band k (omega (arith, from, over.first)) (omega (arith, to, over.onward))) over.away)))
  where
    whole : now.done + (band.«end» - now.done) ≡ band.«end»
    whole = omega (arith, over.onward)

pub over_is_up_to : (job : JobFields) (moves : List Move) (band : Band) (old new : RowState) → IsJob job → MovesInRange moves → IsRowOf job old → old.failed ≡ None → band.«end» ≤ length moves → IsBand moves band
    → PassesOver job band old new → IsTurnedUpTo job moves band.«end» old new
over_is_up_to job moves band old new is_job range is_row unfailed there is_band over =
    run_ended job moves band.«end» old new band.«end» (omega arith) (over_runs job moves band old old new is_job range there is_band (run_start job moves old is_row unfailed) over)

-- a row that went over its moves from t on, its next one, before n
pub record IsOver (job : JobFields) (moves : List Move) (t : ℕ) (old now : RowState) (n : ℕ) : Type 0 where
  pub onward : t ≤ n
  pub clears : (k : ℕ) → t ≤ k → k < n → ClearsRow job (row_before job moves old k) (move_at moves k)
  pub is : now ≡ row_before job moves old n

pub gone_over : (job : JobFields) (moves : List Move) (t : ℕ) (old now : RowState) (n : ℕ) → t ≡ old.done → IsRunTo job moves old now n → IsOver job moves t old now n
gone_over job moves t old now n next run = record {
  onward = omega (arith, next, run.onward);
  clears = λ k from to. (run.passed k (omega (arith, next, from)) to).clears;
  is = run.is;
}
