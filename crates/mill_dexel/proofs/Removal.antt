-- What is over a column's top was held by the inner solid at some sample, and so is removed.
use Rattle.std.proofs.Common.{◌≡◌, ◌⊎◌, ◌∙◌, inl, inr, ap, refl, sym, subst, arith}
use Rattle.std.specs.Prelude.{ℕ, zero, suc, ◌+◌, ◌^◌, ◌<◌, ◌≤◌, Bool, true, false, ◌&&◌, ℤ, pos, ◌+ℤ◌, ◌-ℤ◌, ◌*ℤ◌, ◌<ℤ◌, ◌≤ℤ◌, List, [], ◌∷◌, fold, map, Some}
use Rattle.std.specs.List.{range_with_len}
use Rattle.std.proofs.lemmas.Int.{ints}
use Rattle.std.proofs.lemmas.Nat.{pow_pos}
use Rattle.std.proofs.lemmas.List.Elements.{Contains-append_right}
use Rattle.mill_base.proofs.Exit.{split_lt}
use Rattle.mill_base.proofs.Ring.{Var, Num, Sub, Add, Mul, ring}
use Rattle.mill_base.proofs.SolidLemmas.{higher_is}
use Rattle.mill_base.proofs.Tips.{sure_is_tip}
use Rattle.mill_base.proofs.Divisions.{half_low, half_high, ceil_div_high}
use Rattle.mill_base.specs.Numbers.{square, divides, round_half_up}
use Rattle.mill_base.specs.Points.{point_at}
use Rattle.mill_base.specs.Motion.{IsMoment, IsSure, IsSureBy, tip_at}
use Rattle.mill_base.specs.Contact.{Holds}
use Rattle.mill_base.specs.Sizes.{IsCutter, radius_of, with_radius, inner, shift, cut_height_of}
use Rattle.mill_base.specs.Solids.{Solid, higher, raised}
use Rattle.mill_base.specs.declared.points.Pt3.{Pt3}
use Rattle.mill_base.specs.declared.motion.Kind.{Kind}
use Rattle.mill_base.specs.declared.motion.Kind.TheVariants.{Rapid, Feed, Dogleg}
use Rattle.mill_base.specs.declared.motion.Move.{Move}
use Rattle.mill_base.specs.declared.cutter.Cutter.{Cutter}
use Rattle.mill_base.specs.declared.cutter.Cutter.TheVariants.{Flat, Ball, Cone}
use Rattle.mill_base.specs.declared.limits.TheConstants.{MAX_RADIUS}
use Rattle.mill_shape.proofs.CutHeights.{cut_height_is_greatest, cutter_is_wide}
use Rattle.mill_sweep.specs.Leaves.{end_of}
use Rattle.mill_sweep.specs.Solids.{SolidPassesPoint}
use Rattle.mill_sweep.proofs.Passing.{radius_least}
use Rattle.mill_sweep.proofs.Solids.{passing_keeps_point}
use Rattle.mill_job.specs.Jobs.{IsJob}
use Rattle.mill_job.specs.Solids.{inner_of}
use Rattle.mill_job.specs.declared.fields.JobFields.{JobFields}
use Rattle.mill_job.proofs.NoSlack.{stock_is_inner}
use Rattle.mill_job.proofs.SolidFacts.{inner_ok}
use Rattle.mill_dexel.specs.Removed.{IsRemovedBy, SolidRemoves}
use Rattle.mill_dexel.specs.declared.sample.Placed.{Placed}
use Rattle.mill_dexel.specs.Samples.{placed, raised_sample, solid_sample_at, split_by, split_of, straight_split_of, sample_centre, is_at_whole_place}
use Rattle.mill_dexel.specs.Tops.{top_after_sample, top_after_move}
use Rattle.mill_dexel.specs.Laws.{OverTopIsRemoved, PassedIsLeft}
use Rattle.mill_dexel.proofs.InnerCerts.{nearest_square}
use Rattle.mill_dexel.proofs.Inner.{inner_holds, no_raise, raise_of, parts_some}
use Rattle.mill_dexel.proofs.Places.{narrow_sample, sample_cases, inner_is, whole_place}
use Rattle.mill_dexel.proofs.TopLaws.{lowered_under}

-- a sample that brings a top under h holds the point at h
sample_holds : (s : Placed) (floor x y top h : ℤ) → IsCutter s.cutter → top_after_sample floor x y top (Some s) <ℤ h
    → (top <ℤ h) ⊎ Holds s.cutter (pos 1) s.tip (pos 1) (point_at x y h)
sample_holds s floor x y top h size under =
    elim (lowered_under floor top h (cut_height_of s.cutter s.tip x y) under) [
      | inl before ↦ inl before
      | inr cut ↦ inr ((cut_height_is_greatest s.cutter s.tip x y cut.0 (cutter_is_wide s.cutter MAX_RADIUS (omega (arith, ints)) size) cut.1.0).greatest h cut.1.1)
    ]

-- the moment k/2^d of a move, for k up to 2^d
moment_is : (d k : ℕ) → k ≤ 2 ^ d → IsMoment (pos k) (pos (2 ^ d))
moment_is d k h = by (2 ^ d) (pow_pos d) h
  where
    by : (n : ℕ) → 0 < n → k ≤ n → IsMoment (pos k) (pos n)
    by n some under = record { some = omega (arith, ints); after = omega (arith, ints); before = omega (arith, ints) }

-- it is one at which it is surely known where the tip is, where the move is halved as often as for its samples
sure_at : (sample : ℤ) (m : Move) (k : ℕ) → k ≤ 2 ^ split_of sample m → IsSure m (pos k) (pos (2 ^ split_of sample m))
sure_at sample m = by m.kind
  where
    by : (kind : Kind) (k : ℕ) → k ≤ 2 ^ split_by kind sample m → IsSureBy kind (pos k) (pos (2 ^ split_by kind sample m))
    by Rapid k h = moment_is (straight_split_of sample m) k h
    by Feed k h = moment_is (straight_split_of sample m) k h
    by Dogleg zero h = (moment_is 0 0 h, inl refl)
    by Dogleg (suc zero) h = (moment_is 0 1 h, inr refl)
    by Dogleg (suc (suc k)) h = let few : suc (suc k) ≤ 1 = h in absurd (omega (few, arith))

-- at whole places a sample stands where the tip is
on_place : (z w : ℤ) (n : ℕ) → 0 < n → divides n z ≡ true → divides n w ≡ true
    → (square (pos n *ℤ round_half_up z n -ℤ z) +ℤ square (pos n *ℤ round_half_up w n -ℤ w)) ≤ℤ square (pos 0 *ℤ pos n)
on_place z w n some hz hw = by (pos n *ℤ round_half_up z n) (pos n *ℤ round_half_up w n) (whole_place z n some hz) (whole_place w n some hw)
  where
    by : (p q : ℤ) → p ≡ z → q ≡ w → (square (p -ℤ z) +ℤ square (q -ℤ w)) ≤ℤ square (pos 0 *ℤ pos n)
    by p q e f =
        nearest_square (pos n) (p -ℤ z) (q -ℤ w) (pos 0) (omega (arith, ints)) (omega (arith, ints)) (omega (arith, ints)) (omega (arith, ints)) (omega (arith, ints))

-- and else at most a half away from it, in x and in y
near_place : (z w : ℤ) (n : ℕ) → 0 < n → (square (pos n *ℤ round_half_up z n -ℤ z) +ℤ square (pos n *ℤ round_half_up w n -ℤ w)) ≤ℤ square (pos 1 *ℤ pos n)
near_place z w n some = by (pos n *ℤ round_half_up z n) (pos n *ℤ round_half_up w n) (half_low z n some) (half_high z n some) (half_low w n some) (half_high w n some)
  where
    by : (p q : ℤ) → (pos 2 *ℤ p) ≤ℤ (pos 2 *ℤ z +ℤ pos n) → (pos 2 *ℤ z) <ℤ (pos 2 *ℤ p +ℤ pos n)
        → (pos 2 *ℤ q) ≤ℤ (pos 2 *ℤ w +ℤ pos n) → (pos 2 *ℤ w) <ℤ (pos 2 *ℤ q +ℤ pos n) → (square (p -ℤ z) +ℤ square (q -ℤ w)) ≤ℤ square (pos 1 *ℤ pos n)
    by p q pl ph ql qh =
        nearest_square (pos n) (p -ℤ z) (q -ℤ w) (pos 1) (omega (arith, ints)) (omega (arith, ints)) (omega (arith, ints)) (omega (arith, ints)) (omega (arith, ints))

both_true : (a b : Bool) → (a && b) ≡ true → (a ≡ true) × (b ≡ true)
both_true true true e = (refl, refl)
both_true true false e = cc
both_true false b e = cc

same_radius : (cutter : Cutter) → cutter ≡ with_radius cutter (radius_of cutter)
same_radius (Flat r) = refl
same_radius (Ball r) = refl
same_radius (Cone r a b) = refl

radius_some : (r : ℤ) → (pos 1) ≤ℤ r → (pos 0) ≤ℤ r
radius_some r h = omega (arith, ints)

-- what a sample at a whole place holds, the cutter holds at that moment
whole_holds : (cutter : Cutter) (m : Move) (d k : ℕ) (p : Pt3) → IsCutter cutter → is_at_whole_place m d k ≡ true → Holds cutter (pos 1) (sample_centre m d k) (pos 1) p
    → Holds cutter (pos (2 ^ d)) (tip_at m (pos k) (pos (2 ^ d))) (pos 1) p
whole_holds cutter m d k p size whole held =
    let c = sample_centre m d k in
    let both = both_true (divides (2 ^ d) (end_of m.from.x m.to.x d k)) (divides (2 ^ d) (end_of m.from.y m.to.y d k)) whole in
    inner_holds cutter (radius_of cutter) (pos 0) (pos 0) (pos (2 ^ d)) p c (tip_at m (pos k) (pos (2 ^ d))) (radius_some (radius_of cutter) (radius_least cutter size)) (omega (arith, ints)) (parts_some d) (unchanged (radius_of cutter))
    (no_raise cutter size)
    (on_place (end_of m.from.x m.to.x d k) (end_of m.from.y m.to.y d k) (2 ^ d) (pow_pos d) both.0 both.1)
    (ceil_div_high (end_of m.from.z m.to.z d k) (2 ^ d) (pow_pos d))
    (subst (λ s. Holds s (pos 1) (point_at c.x c.y (c.z +ℤ pos 0)) (pos 1) p) (same_radius cutter) (subst (λ z. Holds cutter (pos 1) (point_at c.x c.y z) (pos 1) p) (sym (unchanged c.z)) held))
  where
    unchanged : (a : ℤ) → a +ℤ pos 0 ≡ a
    unchanged a = omega (arith, ints)

-- what the narrower cutter of a sample holds, the cutter holds at that moment
narrow_holds : (cutter n : Cutter) (m : Move) (d k : ℕ) (p : Pt3) → IsCutter cutter → inner cutter ≡ Some n → Holds n (pos 1) (narrow_sample cutter m d k n).tip (pos 1) p
    → Holds cutter (pos (2 ^ d)) (tip_at m (pos k) (pos (2 ^ d))) (pos 1) p
narrow_holds cutter n m d k p size e held =
    let c = sample_centre m d k in
    let narrow = inner_is cutter n size e in
    inner_holds cutter (radius_of cutter -ℤ pos 1) (pos 1) (shift cutter (pos 1)) (pos (2 ^ d)) p c (tip_at m (pos k) (pos (2 ^ d))) (less (radius_of cutter) (radius_least cutter size)) (omega (arith, ints)) (parts_some d) (back (radius_of cutter))
    (raise_of cutter size)
    (near_place (end_of m.from.x m.to.x d k) (end_of m.from.y m.to.y d k) (2 ^ d) (pow_pos d))
    (ceil_div_high (end_of m.from.z m.to.z d k) (2 ^ d) (pow_pos d))
    (subst (λ s. Holds s (pos 1) (point_at c.x c.y (c.z +ℤ shift cutter (pos 1))) (pos 1) p) narrow.is held)
  where
    less : (r : ℤ) → (pos 1) ≤ℤ r → (pos 0) ≤ℤ (r -ℤ pos 1)
    less r h = omega (arith, ints)

    back : (r : ℤ) → (r -ℤ pos 1) +ℤ pos 1 ≡ r
    back r = omega (arith, ints)

-- a cutter whose tip is raised holds a point where it holds the one as much lower without that
height_down : (n h z l : ℤ) → ((n *ℤ h) -ℤ ((pos 1) *ℤ (z +ℤ n *ℤ l))) ≡ ((n *ℤ (h -ℤ l)) -ℤ ((pos 1) *ℤ z))
height_down n h z l =
    ring (n ∷ h ∷ z ∷ l ∷ []) (Sub (Mul (Var 0) (Var 1)) (Mul (Num (pos 1)) (Add (Var 2) (Mul (Var 0) (Var 3))))) (Sub (Mul (Var 0) (Sub (Var 1) (Var 3))) (Mul (Num (pos 1)) (Var 2))) refl

lowered_is : (n h z l : ℤ) → ((n *ℤ h) -ℤ ((pos 1) *ℤ higher n z l)) ≡ ((n *ℤ (h -ℤ l)) -ℤ ((pos 1) *ℤ z))
lowered_is n h z l = ap (λ (t : ℤ). (n *ℤ h) -ℤ ((pos 1) *ℤ t)) (higher_is n z l) ∙ height_down n h z l

module _ (cutter : Cutter) (l n : ℤ) (t : Pt3) (x y h : ℤ) where
  raised_down : Holds cutter n (raised l n t) (pos 1) (point_at x y h) → Holds cutter n t (pos 1) (point_at x y (h -ℤ l))
  raised_down held = rw (lowered_is n h t.z l) at held

  raised_up : Holds cutter n t (pos 1) (point_at x y (h -ℤ l)) → Holds cutter n (raised l n t) (pos 1) (point_at x y h)
  raised_up held = rw (lowered_is n h t.z l) held

-- a sample of a solid that brings a top under h removes the point at h
sample_removes : (solid : Solid) (m : Move) (d k : ℕ) (floor x y top h : ℤ) → IsCutter solid.cutter → IsSure m (pos k) (pos (2 ^ d)) → top_after_sample floor x y top (solid_sample_at solid m d k) <ℤ h
    → (top <ℤ h) ⊎ SolidRemoves solid m (point_at x y h)
sample_removes solid m d k floor x y top h size sure =
    sample_cases solid.cutter m d k (λ s. top_after_sample floor x y top (raised_sample solid.lift s) <ℤ h → (top <ℤ h) ⊎ SolidRemoves solid m (point_at x y h))
    (λ whole under. elim (sample_holds (placed solid.cutter (raised solid.lift (pos 1) (sample_centre m d k))) floor x y top h size under) [
      | inl before ↦ inl before
      | inr held ↦ inr (removes (whole_holds solid.cutter m d k (point_at x y (h -ℤ solid.lift)) size whole (raised_down solid.cutter solid.lift (pos 1) (sample_centre m d k) x y h held)))
    ])
    (λ under. inl under)
    (λ n e under. elim (sample_holds (placed n (raised solid.lift (pos 1) (narrow_sample solid.cutter m d k n).tip)) floor x y top h (inner_is solid.cutter n size e).size under) [
      | inl before ↦ inl before
      | inr held ↦ inr (removes (narrow_holds solid.cutter n m d k (point_at x y (h -ℤ solid.lift)) size e (raised_down n solid.lift (pos 1) (narrow_sample solid.cutter m d k n).tip x y h held)))
    ])
  where
    removes : Holds solid.cutter (pos (2 ^ d)) (tip_at m (pos k) (pos (2 ^ d))) (pos 1) (point_at x y (h -ℤ solid.lift)) → SolidRemoves solid m (point_at x y h)
    removes held = record {
      k = pos k;
      n = pos (2 ^ d);
      moment = sure;
      inside = raised_up solid.cutter solid.lift (pos (2 ^ d)) (tip_at m (pos k) (pos (2 ^ d))) x y h held;
    }

-- so do the samples from start on
samples_remove : (solid : Solid) (m : Move) (d : ℕ) (floor x y h : ℤ) (start n : ℕ) (top : ℤ) → IsCutter solid.cutter → ((k : ℕ) → k ≤ 2 ^ d → IsSure m (pos k) (pos (2 ^ d))) → start + n ≤ 2 ^ d + 1
    → fold (top_after_sample floor x y) top (map (solid_sample_at solid m d) (range_with_len start n)) <ℤ h → (top <ℤ h) ⊎ SolidRemoves solid m (point_at x y h)
samples_remove solid m d floor x y h start zero top size sure within under = inl under
samples_remove solid m d floor x y h start (suc n) top size sure within under =
    elim (samples_remove solid m d floor x y h (start + 1) n (top_after_sample floor x y top (solid_sample_at solid m d start)) size sure (omega arith) under) [
      | inl between ↦ sample_removes solid m d start floor x y top h size (sure start (omega arith)) between
      | inr removes ↦ inr removes
    ]

-- a move that brings a top under h removes the point at h
pub move_removes : (job : JobFields) (x y top h : ℤ) (m : Move) → IsJob job → top_after_move job x y top m <ℤ h
    → (top <ℤ h) ⊎ SolidRemoves (inner_of job) m (point_at x y h)
move_removes job x y top h m ok under =
    samples_remove (inner_of job) m (split_of job.sample m) job.floor x y h 0 (2 ^ split_of job.sample m + 1) top (inner_ok job ok).cutter_ok (sure_at job.sample m) (all (2 ^ split_of job.sample m + 1)) under
  where
    all : (n : ℕ) → 0 + n ≤ n
    all n = omega arith

-- a list of moves that brings a top under h removes the point at h, by one of its moves
pub moves_remove : (job : JobFields) (x y top h : ℤ) (moves : List Move) → IsJob job → fold (top_after_move job x y) top moves <ℤ h
    → (top <ℤ h) ⊎ IsRemovedBy (inner_of job) moves (point_at x y h)
moves_remove job x y top h [] ok under = inl under
moves_remove job x y top h (m ∷ moves) ok under =
    elim (moves_remove job x y (top_after_move job x y top m) h moves ok under) [
      | inl between ↦ by (move_removes job x y top h m ok between)
      | inr later ↦ inr (record { move = later.move; member = Contains-append_right (m ∷ []) moves later.move later.member; removes = later.removes })
    ]
  where
    by : (top <ℤ h) ⊎ SolidRemoves (inner_of job) m (point_at x y h) → (top <ℤ h) ⊎ IsRemovedBy (inner_of job) (m ∷ moves) (point_at x y h)
    by (inl before) = inl before
    by (inr removes) = inr (record { move = m; member = (0, omega arith, refl); removes = removes })

-- every point of a column over its top, up to the uncut stock's, is removed
pub over_top_is_removed : OverTopIsRemoved
over_top_is_removed job moves x y h ok in_range stock under top =
    elim (moves_remove job x y job.top h moves ok under) [
      | inl before ↦ absurd (omega (arith, ints))
      | inr removed ↦ removed
    ]

-- a move that passes a point of a column, at or under its top, leaves the column up to there: what it takes it would remove
pub passed_is_left : PassedIsLeft
passed_is_left job m x y top h ok bare range top_in in_range under passes =
    elim (split_lt (top_after_move job x y top m) h) [
      | inl lower ↦ no (move_removes job x y top h m ok lower)
      | inr left ↦ left
    ]
  where
    passes_inner : SolidPassesPoint (inner_of job) m (point_at x y h)
    passes_inner = subst (λ (s : Solid). SolidPassesPoint s m (point_at x y h)) (stock_is_inner job ok bare) passes

    no : (top <ℤ h) ⊎ SolidRemoves (inner_of job) m (point_at x y h) → h ≤ℤ top_after_move job x y top m
    no (inl before) = absurd (omega (arith, ints))
    no (inr removes) = absurd (passing_keeps_point (inner_of job) m x y h h removes.n (tip_at m removes.k removes.n) (inner_ok job ok) range in_range passes_inner (omega (arith, ints)) (sure_is_tip m removes.k removes.n removes.moment) removes.inside)
