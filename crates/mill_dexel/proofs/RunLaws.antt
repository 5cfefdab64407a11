-- A row through its turns: one turn more, the end of the turns, and that the moves determine it.
use Rattle.std.proofs.Common.{◌≡◌, inl, inr, ℕ, zero, suc, ◌+◌, ◌-◌, ◌*◌, ◌<◌, ◌≤◌, refl, sym, subst, ap, ◌∙◌, length, get_or, take, drop, arith, rules}
use Rattle.std.specs.Prelude.{ℤ, List, [], ◌∷◌, All, Option, Some, None, IfSome, MatchOption, slice_range, unwrap_or}
use Rattle.std.proofs.lemmas.Bool.{cases_lt}
use Rattle.std.proofs.lemmas.List.{get_or-drop, get_or_default, length-drop}
use Rattle.std.proofs.lemmas.List.Sums.{fold_more}
use Rattle.mill_base.specs.Points.{point_tri}
use Rattle.mill_base.specs.Solids.{Solid, lifted}
use Rattle.mill_base.specs.declared.points.Pt3.{Pt3}
use Rattle.mill_base.specs.declared.points.Tri.{Tri}
use Rattle.mill_base.specs.declared.motion.Kind.{Kind}
use Rattle.mill_base.specs.declared.motion.Kind.TheVariants.{Rapid, Feed, Dogleg}
use Rattle.mill_base.specs.declared.motion.Move.{Move}
use Rattle.mill_base.specs.declared.cutter.Cutter.{Cutter}
use Rattle.mill_sweep.specs.Leaves.{depth_of}
use Rattle.mill_sweep.specs.Halving.{LeadsTo}
use Rattle.mill_sweep.specs.Passing.{FailsAt, LeadsBy}
use Rattle.mill_sweep.specs.Solids.{SolidFailsAt}
use Rattle.mill_sweep.specs.declared.leaf.Leaf.{Leaf}
use Rattle.mill_job.specs.Solids.{holder_solid_of}
use Rattle.mill_job.specs.declared.fields.JobFields.{JobFields}
use Rattle.mill_job.specs.Columns.{row_count, column_count}
use Rattle.mill_job.specs.Jobs.{IsFrom}
use Rattle.mill_dexel.specs.inner.Cuts.{IsCutAt}
use Rattle.mill_dexel.specs.Tops.{tops_after_move}
use Rattle.mill_dexel.specs.Rows.{RowState, Test, cutting, holding, IsRowOf, IsFirstStop, row_point}
use Rattle.mill_dexel.specs.Turns.{move_at, ClearsRow, turned, StopsAt, StopsRow, IsLeftBy, IsRowStopped, tops_after, row_before, PassesTurn, TurnsEndAt, IsRunOn, IsTurned, TurnsEndBy, IsRunUpTo, IsTurnedUpTo}
use Rattle.mill_dexel.specs.declared.fail.RowFail.{RowFail}
use Rattle.mill_dexel.specs.declared.fail.RowTest.{RowTest}
use Rattle.mill_dexel.specs.declared.fail.RowTest.TheVariants as test
use Rattle.mill_dexel.proofs.Again.{cut_at_end}
use Rattle.mill_dexel.proofs.RowLaws.{row_stays}
use Rattle.mill_dexel.proofs.Stops.{cut_stop_fails, stop_fails}

-- the move that the code reads
pub move_read : (moves : List Move) (k : ℕ) (d : Move) → k < length moves → get_or moves k d ≡ move_at moves k
move_read moves k d there = get_or_default moves k d _ there

-- one move more
more_tops : (job : JobFields) (j : ℕ) (moves : List Move) (d k : ℕ) (tops : List ℤ) → d ≤ k → k < length moves
    → tops_after job j (slice_range moves d (k + 1)) tops ≡ tops_after_move job j 0 (move_at moves k) (tops_after job j (slice_range moves d k) tops)
more_tops job j moves d k tops from there =
    ap (λ (n : ℕ). tops_after job j (take n (drop d moves)) tops) more
    ∙ fold_more (λ (ts : List ℤ) (m : Move). tops_after_move job j 0 m ts) tops (drop d moves) (k - d) _ inside
    ∙ ap (λ (m : Move). tops_after_move job j 0 m (tops_after job j (slice_range moves d k) tops)) (get_or-drop d moves (k - d) _ ∙ ap (λ (n : ℕ). move_at moves n) here)
  where
    more : k + 1 - d ≡ k - d + 1
    more = omega (arith, from)

    here : d + (k - d) ≡ k
    here = omega (arith, from)

    inside : k - d < length (drop d moves)
    inside = rw (length-drop d moves) (omega (arith, from, there))

-- a row after its turns before k, all of which passed
pub record IsRunTo (job : JobFields) (moves : List Move) (old now : RowState) (k : ℕ) : Type 0 where
  pub onward : old.done ≤ k
  pub passed : (i : ℕ) → old.done ≤ i → i < k → PassesTurn job moves old i
  pub is : now ≡ row_before job moves old k
  pub unfailed : old.failed ≡ None
  pub is_row : IsRowOf job now

-- what was true before turn k, and is true of it, is true before the next
below_next : (P : ℕ → Type 0) (low k : ℕ) → ((i : ℕ) → low ≤ i → i < k → P i) → P k → (i : ℕ) → low ≤ i → i < k + 1 → P i
below_next P low k before here i from to = elim (cases_lt i k) [
  | inl less ↦ before i from less
  | inr rest ↦ subst P (same i k rest to) here
]
  where
    same : (i k : ℕ) → k ≤ i → i < k + 1 → k ≡ i
    same i k low high = omega (arith, low, high)

-- before its first turn a row is as it was
pub run_none : (job : JobFields) (moves : List Move) (old : RowState) → old.failed ≡ None → IsRowOf job old → IsRunTo job moves old old old.done
run_none job moves old unfailed is_row = record {
  onward = omega arith;
  passed = λ i from to. absurd (omega (arith, from, to));
  is = search rules;
  unfailed = unfailed;
  is_row = is_row;
}

pub run_more : (job : JobFields) (moves : List Move) (old now new : RowState) (k : ℕ) → k < length moves → IsRunTo job moves old now k → ClearsRow job now (move_at moves k) → new ≡ turned job (move_at moves k) now
    → IsRowOf job new → IsRunTo job moves old new (k + 1)
run_more job moves old now new k there run clears new_is is_row = record {
  onward = omega (arith, run.onward);
  passed = below_next (PassesTurn job moves old) old.done k run.passed (record { there = there; clears = subst (λ (r : RowState). ClearsRow job r (move_at moves k)) run.is clears });
  is = new_is ∙ ap (λ (r : RowState). turned job (move_at moves k) r) run.is ∙ ap (λ (ts : List ℤ). record old { tops = ts; done = k + 1 }) (sym (more_tops job old.row moves old.done k old.tops run.onward there));
  unfailed = run.unfailed;
  is_row = is_row;
}

-- the row is cut at the point where the last move ended, if one has cut it
abbrev pub IsLastCut : JobFields → RowState → Option Pt3 → Type 0
IsLastCut job r last = IfSome last (λ tip. IsCutAt job r.row tip r.tops)

pub turn_cuts : (job : JobFields) (moves : List Move) (now new : RowState) (k : ℕ) (d : Move) → k < length moves → new ≡ turned job (move_at moves k) now → IsLastCut job new (Some (get_or moves k d).to)
turn_cuts job moves now new k d there new_is =
    subst (λ (m : Move). IsCutAt job new.row m.to new.tops) (sym (move_read moves k d there))
    (subst (λ (r : RowState). IsCutAt job r.row (move_at moves k).to r.tops) (sym new_is) (cut_at_end job now.row (move_at moves k) now.tops))

-- what the moves before the next one leave of a row that none before the first had cut
pub left_next : (job : JobFields) (moves : List Move) (start : RowState) (k : ℕ) → start.done ≡ 0 → k < length moves → row_before job moves start (k + 1) ≡ turned job (move_at moves k) (row_before job moves start k)
left_next job moves start k fresh there = ap (λ (ts : List ℤ). record start { tops = ts; done = k + 1 }) (more_tops job start.row moves start.done k start.tops (omega (fresh, arith)) there)

-- a row that all moves before t have cut is cut at the end of the last of them
pub left_cuts : (job : JobFields) (moves : List Move) (r : RowState) (t : ℕ) (last : Option Pt3) → t < length moves → IsLeftBy job moves t r → (t ≡ 0 → last ≡ None)
    → (0 < t → last ≡ Some (move_at moves (t - 1)).to) → IsLastCut job r last
left_cuts job moves r zero last there left first later = subst (IsLastCut job r) (sym (first refl)) tt
left_cuts job moves r (suc k) last there left first later =
    subst (IsLastCut job r) (sym (later (omega arith)))
    (subst (λ (n : ℕ). IsCutAt job r.row (move_at moves n).to r.tops) here
    (subst (λ (s : RowState). IsCutAt job s.row (move_at moves k).to s.tops) (sym cut) (cut_at_end job left.start.row (move_at moves k) (row_before job moves left.start k).tops)))
  where
    here : k ≡ suc k - 1
    here = omega arith

    next : suc k ≡ k + 1
    next = omega arith

    cut : r ≡ turned job (move_at moves k) (row_before job moves left.start k)
    cut = left.is ∙ ap (λ (n : ℕ). row_before job moves left.start n) next ∙ left_next job moves left.start k left.fresh (omega (arith, there))

-- a row that hadn't failed is turned where it ran up to a move
runs_up_to : (job : JobFields) (moves : List Move) (limit : ℕ) (old new : RowState) → old.failed ≡ None → IsRunUpTo job moves limit old new → IsTurnedUpTo job moves limit old new
runs_up_to job moves limit old new unfailed run = subst (λ (o : Option RowFail). MatchOption o (IsRunUpTo job moves limit old new) (λ fail. new ≡ old)) (sym unfailed) run

pub run_stopped : (job : JobFields) (moves : List Move) (limit : ℕ) (old now new : RowState) (k : ℕ) → k < length moves → IsRunTo job moves old now k → IsRowStopped job (move_at moves k) now new → IsTurnedUpTo job moves limit old new
run_stopped job moves limit old now new k there run stopped = runs_up_to job moves limit old new run.unfailed
    (subst (IsRunUpTo job moves limit old) (sym (stopped.noted ∙ ap (λ (r : RowState). record r { failed = Some stopped.fail }) run.is)) (record {
      onward = run.onward;
      passed = run.passed;
      ends = (there, subst (λ (r : RowState). StopsRow job r (move_at moves k) stopped.fail) run.is stopped.stops);
      is = refl;
    }))

pub run_ended : (job : JobFields) (moves : List Move) (limit : ℕ) (old now : RowState) (k : ℕ) → limit ≤ k → IsRunTo job moves old now k → IsTurnedUpTo job moves limit old now
run_ended job moves limit old now k over run = runs_up_to job moves limit old now run.unfailed (subst (IsRunUpTo job moves limit old) (sym run.is) (record {
  onward = run.onward;
  passed = run.passed;
  ends = subst (TurnsEndBy job moves old limit k) (sym run.unfailed) over;
  is = refl;
}))

-- a row of the job is one after any turns
tops_stay : (job : JobFields) (moves : List Move) (r : RowState) → IsRowOf job r → IsRowOf job (record r { tops = tops_after job r.row moves r.tops })
tops_stay job [] r is_row = is_row
tops_stay job (m ∷ moves) r is_row = tops_stay job moves (record r { tops = tops_after_move job r.row 0 m r.tops }) (row_stays job r m is_row)

same_place : (job : JobFields) (r new : RowState) → new.row ≡ r.row → new.tops ≡ r.tops → IsRowOf job r → IsRowOf job new
same_place job r new row tops is_row = record {
  there = subst (λ (n : ℕ). n < row_count job) (sym row) is_row.there;
  columns = subst (λ (ts : List ℤ). length ts ≡ column_count job) (sym tops) is_row.columns;
  in_stock = subst (λ (ts : List ℤ). All (IsFrom job.floor job.top) ts) (sym tops) is_row.in_stock;
}

pub turned_is_row : (job : JobFields) (moves : List Move) (old new : RowState) → IsTurned job moves old new → IsRowOf job old → IsRowOf job new
turned_is_row job moves old new turned is_row = by old.failed turned
  where
    by : (o : Option RowFail) → MatchOption o (IsRunOn job moves old new) (λ fail. new ≡ old) → IsRowOf job new
    by None run = same_place job (record old { tops = tops_after job old.row (slice_range moves old.done new.done) old.tops }) new run.row run.tops (tops_stay job (slice_range moves old.done new.done) old is_row)
    by (Some fail) same = subst (IsRowOf job) (sym same) is_row

pub up_to_is_row : (job : JobFields) (moves : List Move) (limit : ℕ) (old new : RowState) → IsTurnedUpTo job moves limit old new → IsRowOf job old → IsRowOf job new
up_to_is_row job moves limit old new turned is_row = by old.failed turned
  where
    by : (o : Option RowFail) → MatchOption o (IsRunUpTo job moves limit old new) (λ fail. new ≡ old) → IsRowOf job new
    by None run =
        same_place job (record old { tops = tops_after job old.row (slice_range moves old.done new.done) old.tops }) new (ap (λ (r : RowState). r.row) run.is) (ap (λ (r : RowState). r.tops) run.is)
        (tops_stay job (slice_range moves old.done new.done) old is_row)
    by (Some fail) same = subst (IsRowOf job) (sym same) is_row

-- the moves determine what a row comes to
pub same_number : (a b : ℕ) → ¬ (a < b) → ¬ (b < a) → a ≡ b
same_number a b h k = omega (h, k, arith)

same_leaf : (a b : Leaf) → a.d ≡ b.d → a.k ≡ b.k → a ≡ b
same_leaf a b p q = ap (λ (d : ℕ). record { d = d; k = a.k }) p ∙ ap (λ (k : ℕ). record { d = b.d; k = k }) q

-- halving leads to one leaf: where the left half fails, it doesn't also pass
leads_to_one : (cutter : Cutter) (m : Move) (tri : Tri) (more d k : ℕ) (a b : Leaf) → LeadsTo cutter m tri more d k a → LeadsTo cutter m tri more d k b → a ≡ b
leads_to_one cutter m tri zero d k a b h g = same_leaf a b (h.0 ∙ sym g.0) (h.1 ∙ sym g.1)
leads_to_one cutter m tri (suc more) d k a b (inl h) (inl g) = leads_to_one cutter m tri more (d + 1) (2 * k) a b h.1 g.1
leads_to_one cutter m tri (suc more) d k a b (inl h) (inr g) = absurd (h.0 g.0)
leads_to_one cutter m tri (suc more) d k a b (inr h) (inl g) = absurd (g.0 h.0)
leads_to_one cutter m tri (suc more) d k a b (inr h) (inr g) = leads_to_one cutter m tri more (d + 1) (2 * k + 1) a b h.1 g.1

pub leaf_is_one : (cutter : Cutter) (m : Move) (tri : Tri) (a b : Leaf) → FailsAt cutter m tri a → FailsAt cutter m tri b → a ≡ b
leaf_is_one cutter m tri a b h g = by m.kind h.leads g.leads
  where
    by : (kind : Kind) → LeadsBy kind cutter m tri a → LeadsBy kind cutter m tri b → a ≡ b
    by Rapid h g = leads_to_one cutter m tri (depth_of m) 0 0 a b h g
    by Feed h g = leads_to_one cutter m tri (depth_of m) 0 0 a b h g
    by Dogleg h g = same_leaf a b (h.d ∙ sym g.d) (h.k ∙ sym g.k)

-- a test of a row has one first stop
first_is_one : (job : JobFields) (t : Test) (r : RowState) (i k : ℕ) (a b : Leaf) → IsFirstStop job t r i a → IsFirstStop job t r k b → (i ≡ k) × (a ≡ b)
first_is_one job t r i k a b h g =
    let col : i ≡ k = same_number i k (λ less. h.fails.fails (g.before i less)) (λ less. g.fails.fails (h.before k less)) in
    (col, leaf_is_one t.solid.cutter (lifted t.solid t.move) (point_tri (row_point job t.kind r i)) a b h.fails (subst (λ (n : ℕ). SolidFailsAt t.solid t.move (point_tri (row_point job t.kind r n)) b) (sym col) g.fails))

same_some : (a b : Solid) (o : Option Solid) → o ≡ Some a → o ≡ Some b → a ≡ b
same_some a b o h g = ap (λ (p : Option Solid). unwrap_or p a) (sym h ∙ g)

-- and a move fails one test first
stop_at_one : (job : JobFields) (r : RowState) (m : Move) (s t : RowTest) (i k : ℕ) (a b : Leaf) → StopsAt s job r m i a → StopsAt t job r m k b → (s ≡ t) × (i ≡ k) × (a ≡ b)
stop_at_one job r m test.Cut test.Cut i k a b h g = let one = first_is_one job (cutting job m.kind m) r i k a b h.column g.column in (refl, one.0, one.1)
stop_at_one job r m test.Cut test.Holder i k a b h g = absurd (cut_stop_fails job r m i a h g.cut)
stop_at_one job r m test.Holder test.Cut i k a b h g = absurd (cut_stop_fails job r m k b g h.cut)
stop_at_one job r m test.Holder test.Holder i k a b h g =
    let same = same_some g.holder.holder h.holder.holder (holder_solid_of job) g.holder.there h.holder.there in
    let one = first_is_one job (holding h.holder.holder m) r i k a b h.holder.column (subst (λ (holder : Solid). IsFirstStop job (holding holder m) r k b) same g.holder.column) in
    (refl, one.0, one.1)

same_fail : (a b : RowFail) → a.at ≡ b.at → a.test ≡ b.test → a.col ≡ b.col → a.leaf ≡ b.leaf → a ≡ b
same_fail a b p t q l =
    ap (λ (n : ℕ). record { at = n; col = a.col; leaf = a.leaf; test = a.test }) p
    ∙ ap (λ (n : ℕ). record { at = b.at; col = n; leaf = a.leaf; test = a.test }) q
    ∙ ap (λ (f : Leaf). record { at = b.at; col = b.col; leaf = f; test = a.test }) l
    ∙ ap (λ (s : RowTest). record { at = b.at; col = b.col; leaf = b.leaf; test = s }) t

stop_is_one : (job : JobFields) (r : RowState) (m : Move) (a b : RowFail) → StopsRow job r m a → StopsRow job r m b → a ≡ b
stop_is_one job r m a b h g =
    let one = stop_at_one job r m a.test b.test a.col b.col a.leaf b.leaf h.stops g.stops in
    same_fail a b (h.move ∙ sym g.move) one.0 one.1 one.2

-- a turn that passes isn't the end
end_passes : (job : JobFields) (moves : List Move) (r : RowState) (k : ℕ) (failed : Option RowFail) → TurnsEndAt job moves r k failed → PassesTurn job moves r k → ⊥
end_passes job moves r k None ends passes = let there = passes.there in omega (arith, ends, there)
end_passes job moves r k (Some fail) ends passes = stop_fails job (row_before job moves r k) (move_at moves k) fail ends.1 passes.clears

end_is_one : (job : JobFields) (moves : List Move) (r : RowState) (k : ℕ) (a b : Option RowFail) → TurnsEndAt job moves r k a → TurnsEndAt job moves r k b → a ≡ b
end_is_one job moves r k None None h g = refl
end_is_one job moves r k None (Some f) h g = let there = g.0 in absurd (omega (arith, h, there))
end_is_one job moves r k (Some f) None h g = let there = h.0 in absurd (omega (arith, g, there))
end_is_one job moves r k (Some f) (Some e) h g = ap (λ (v : RowFail). Some v) (stop_is_one job (row_before job moves r k) (move_at moves k) f e h.1 g.1)

run_is_one : (job : JobFields) (moves : List Move) (r a b : RowState) → IsRunOn job moves r a → IsRunOn job moves r b → a ≡ b
run_is_one job moves r a b h g =
    ap (λ (n : ℕ). record { row = n; tops = a.tops; done = a.done; failed = a.failed }) (h.row ∙ sym g.row)
    ∙ ap (λ (ts : List ℤ). record { row = b.row; tops = ts; done = a.done; failed = a.failed }) (h.tops ∙ ap (λ (n : ℕ). tops_after job r.row (slice_range moves r.done n) r.tops) done ∙ sym g.tops)
    ∙ ap (λ (n : ℕ). record { row = b.row; tops = b.tops; done = n; failed = a.failed }) done
    ∙ ap (λ (o : Option RowFail). record { row = b.row; tops = b.tops; done = b.done; failed = o }) (end_is_one job moves r b.done a.failed b.failed (subst (λ (n : ℕ). TurnsEndAt job moves r n a.failed) done h.ends) g.ends)
  where
    done : a.done ≡ b.done
    done = same_number a.done b.done (λ less. end_passes job moves r a.done a.failed h.ends (g.passed a.done h.onward less)) (λ less. end_passes job moves r b.done b.failed g.ends (h.passed b.done g.onward less))

pub one_outcome : (job : JobFields) (moves : List Move) (r a b : RowState) → IsTurned job moves r a → IsTurned job moves r b → a ≡ b
one_outcome job moves r a b = by r.failed
  where
    by : (o : Option RowFail) → MatchOption o (IsRunOn job moves r a) (λ fail. a ≡ r) → MatchOption o (IsRunOn job moves r b) (λ fail. b ≡ r) → a ≡ b
    by None h g = run_is_one job moves r a b h g
    by (Some fail) h g = h ∙ sym g
