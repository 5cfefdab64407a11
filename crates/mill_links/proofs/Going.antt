-- The moves of links, tours and the way home are safe, and lead on from each other.
use Rattle.std.specs.Prelude.{◌≡◌, ◌≢◌, ◌⊎◌, ℕ, zero, suc, Bool, true, false, ◌&&◌, if◌then◌else◌, ℤ, pos, ◌+ℤ◌, ◌-ℤ◌, ◌<ℤ◌, ◌≤ℤ◌, int_lt, List, [], ◌∷◌, ◌++◌, All}
use Rattle.std.specs.Ordering.{int_eq}
use Rattle.std.specs.List.{flat_map}
use Rattle.std.proofs.Common.{inl, inr, refl, sym, subst, ap, arith}
use Rattle.std.proofs.lemmas.Int.{ints}
use Rattle.std.proofs.lemmas.List.{append_assoc, append-nil}
use Rattle.std.proofs.lemmas.List.Elements.{All-head, All-tail, Contains-append_right}
use Rattle.mill_base.specs.Numbers.{Within, greater, lesser}
use Rattle.mill_base.specs.Units.{greatest_of}
use Rattle.mill_base.specs.Points.{highest, point_at, point_tri}
use Rattle.mill_base.specs.Ranges.{IsInUnitRange, MoveInUnitRange}
use Rattle.mill_base.specs.Solids.{Solid, higher, lifted}
use Rattle.mill_base.specs.declared.points.Pt3.{Pt3}
use Rattle.mill_base.specs.declared.points.Tri.{Tri}
use Rattle.mill_base.specs.declared.motion.Move.{Move}
use Rattle.mill_base.specs.declared.motion.Kind.TheVariants.{Rapid, Feed, Dogleg}
use Rattle.mill_base.specs.Motion.{IsStraight}
use Rattle.mill_dexel.specs.Tops.{cut_limit, top_after}
use Rattle.mill_dexel.proofs.TopLaws.{top_after_stays}
use Rattle.mill_dexel.proofs.Cleared.{passes_after_cut}
use Rattle.mill_dexel.proofs.Limits.{passes_limit_after_cut}
use Rattle.mill_gouge.specs.Gouges.{ToolPassesPart}
use Rattle.mill_gouge.proofs.Leasts.{over_part_passes}
use Rattle.mill_job.specs.Columns.{column_x, column_y, home}
use Rattle.mill_job.specs.Habits.{is_elsewhere, made_by}
use Rattle.mill_job.specs.Jobs.{IsJob, tool_of}
use Rattle.mill_job.specs.Solids.{stock_solid_of}
use Rattle.mill_job.specs.declared.fields.JobFields.{JobFields}
use Rattle.mill_job.proofs.SolidFacts.{stock_lift}
use Rattle.mill_margin.specs.Margins.{offset_of}
use Rattle.mill_ngc.specs.Writing.{as_written}
use Rattle.mill_sweep.specs.Apart.{low_end_of}
use Rattle.mill_sweep.specs.Solids.{SolidPassesPoint}
use Rattle.mill_sweep.specs.Vertical.{StaysOver}
use Rattle.mill_sweep.proofs.ByKind.{low_passes_all}
use Rattle.mill_links.specs.Links.{across, at_height, feed_to, rapid_to, stay, head, is_over_place, climb, cross, descend, over_stock, peck_count, pecks, plunge, detour, MayFeed, IsLink, way_home}
use Rattle.mill_links.specs.Tours.{AreLinks, last_place}
use Rattle.mill_links.specs.Safety.{IsSafeMove, AreSafe, Connect, IsFreePlace, IsEndOf, IsReached, GoSafely, LiesUnderClear, HeadIsSafe, LinkIsSafe, TourIsSafe, WayHomeIsSafe}
use Rattle.mill_links.specs.declared.visit.Visit.{Visit}
use Rattle.mill_links.proofs.Kept.{between}
use Rattle.mill_links.proofs.Made.{feed_made, made_no_feed, rapid_is_no_feed, rapid_made, upright_made}
use Rattle.mill_links.proofs.Overs.{clear_most, lifted_over, over_ok, over_part, top_least}
use Rattle.mill_links.proofs.Pecks.{Fit, pecks_connect, pecks_end, pecks_fit}
use Rattle.mill_links.proofs.Points.{same_pair}
use Rattle.mill_links.proofs.ToolLemmas.{passes_over}

through : (a b c : ℤ) → a ≤ℤ b → b ≤ℤ c → a ≤ℤ c
through a b c p q = omega (p, q, arith, ints)

at_most_itself : (a : ℤ) → a ≤ℤ a
at_most_itself a = omega (arith, ints)

all_low : (a b c h : ℤ) → a ≤ℤ h → b ≤ℤ h → c ≤ℤ h → greater a (greater b c) ≤ℤ h
all_low a b c h p q r = grind (p, q, r, arith, ints)

rapid_is_straight : Rapid ≡ Dogleg → ⊥
rapid_is_straight e = cc

feed_is_straight : Feed ≡ Dogleg → ⊥
feed_is_straight e = cc

lowered : (z depth : ℤ) → (pos 0) ≤ℤ depth → (z -ℤ depth) ≤ℤ z
lowered z depth least = omega (least, arith, ints)

reaches : (z low depth : ℤ) → z ≤ℤ (low +ℤ depth) → (z -ℤ depth) ≤ℤ low
reaches z low depth h = omega (h, arith, ints)

regains : (z depth : ℤ) → z ≤ℤ ((z -ℤ depth) +ℤ depth)
regains z depth = omega (arith, ints)

limited_by : (floor top t depth z : ℤ) → t ≤ℤ top → floor ≤ℤ z → (top -ℤ depth) ≤ℤ z → greater floor (t -ℤ depth) ≤ℤ z
limited_by floor top t depth z under over near = grind (under, over, near, arith, ints)

-- lists of safe moves, one after the other
module _ (job : JobFields) (part : List Tri) where
  safe-append : (done ms ns : List Move) → AreSafe job part done ms → AreSafe job part (done ++ ms) ns → AreSafe job part done (ms ++ ns)
  safe-append done [] ns none rest = subst (λ l. AreSafe job part l ns) (append-nil done) rest
  safe-append done (m ∷ ms) ns first rest =
      (first.0, safe-append (done ++ m ∷ []) ms ns first.1 (subst (λ l. AreSafe job part l ns) (sym (append_assoc done (m ∷ []) ms)) rest))

  connect-append : (from mid to : Pt3) (ms ns : List Move) → Connect from ms mid → Connect mid ns to → Connect from (ms ++ ns) to
  connect-append from mid to [] ns first rest = subst (λ p. Connect p ns to) first rest
  connect-append from mid to (m ∷ ms) ns first rest = (first.0, connect-append m.to mid to ms ns first.1 rest)

  go_nowhere : (done : List Move) (from to : Pt3) → to ≡ from → IsReached job part done from → GoSafely job part done from [] to
  go_nowhere done from to same at = record {
    safe = tt;
    connect = same;
    reached = subst (λ p. IsReached job part (done ++ []) p) (sym same) (subst (λ l. IsReached job part l from) (sym (append-nil done)) at);
  }

  go_once : (done : List Move) (m : Move) → IsSafeMove job part done m → IsReached job part (done ++ m ∷ []) m.to → GoSafely job part done m.from (m ∷ []) m.to
  go_once done m safe at = record { safe = (safe, tt); connect = (refl, refl); reached = at }

  pub go_on : (done : List Move) (from mid to : Pt3) (ms ns : List Move) → GoSafely job part done from ms mid → GoSafely job part (done ++ ms) mid ns to
      → GoSafely job part done from (ms ++ ns) to
  go_on done from mid to ms ns first rest = record {
    safe = safe-append done ms ns first.safe rest.safe;
    connect = connect-append from mid to ms ns first.connect rest.connect;
    reached = subst (λ l. IsReached job part l to) (append_assoc done ms ns) rest.reached;
  }

-- the moves themselves
module _ (job : JobFields) (part : List Tri) (ok : IsJob job) (under : LiesUnderClear job part) where
  abbrev solid : Solid
  solid = stock_solid_of job

  floor_least : job.floor ≤ℤ over_stock job
  floor_least = through _ _ _ ok.stock (top_least job ok)

  -- each column stays under the top of the stock, and under where the tool is just over it
  column_under : (done : List Move) (x y : ℤ) → top_after job x y done ≤ℤ job.top
  column_under done x y = (top_after_stays job x y done ok.stock).high

  column_low : (done : List Move) (x y : ℤ) → top_after job x y done ≤ℤ over_stock job
  column_low done x y = through _ _ _ (column_under done x y) (top_least job ok)

  -- what the tool's tip is over, the tip of what is tested against the stock is over
  stock_over : (a z : ℤ) → a ≤ℤ z → a ≤ℤ higher (pos 1) z solid.lift
  stock_over a z over = lifted_over a z solid.lift over (stock_lift job ok)

  -- what is no feed, over the stock
  over_safe : (done : List Move) (m : Move) → made_by job.rapids (as_written m) ≡ m → m.kind ≢ Feed → MoveInUnitRange job.unit m → over_stock job ≤ℤ m.from.z → over_stock job ≤ℤ m.to.z
      → ToolPassesPart (tool_of job) m part → IsSafeMove job part done m
  over_safe done m made no_feed ranged from to passes = record {
    ranged = ranged;
    made = made;
    floor_from = through _ _ _ floor_least from;
    floor_to = through _ _ _ floor_least to;
    passes = passes;
    stock = λ other x y. let h = low_column x y in
        low_passes_all solid.cutter (lifted solid m) (point_tri (point_at x y (top_after job x y done))) (stock_over _ m.from.z (through _ _ _ h from)) (stock_over _ m.to.z (through _ _ _ h to));
    depth = λ feed. absurd (no_feed feed);
  }
    where
      low_column : (x y : ℤ) → highest (point_tri (point_at x y (top_after job x y done))) ≤ℤ over_stock job
      low_column x y = let h = column_low done x y in all_low _ _ _ (over_stock job) h h h

  -- and at the clear height, or over it
  across_safe : (done : List Move) (m : Move) → made_by job.rapids (as_written m) ≡ m → m.kind ≢ Feed → MoveInUnitRange job.unit m → job.clear ≤ℤ m.from.z → job.clear ≤ℤ m.to.z
      → IsSafeMove job part done m
  across_safe done m made no_feed ranged from to =
      over_safe done m made no_feed ranged (through _ _ _ (clear_most job ok) from) (through _ _ _ (clear_most job ok) to)
      (over_part_passes (tool_of job) part m (job.clear -ℤ offset_of job.cutter job.slack) under (over_part job ok (low_end_of m) (both_over job.clear m.from.z m.to.z from to)))
    where
      both_over : (low a b : ℤ) → low ≤ℤ a → low ≤ℤ b → low ≤ℤ lesser a b
      both_over low a b p q = grind (p, q, arith, ints)

  -- the tool doesn't gouge at a free place, so it passes the part on a move straight over it
  passes_free : (m : Move) (p : Pt3) → IsFreePlace job part p → IsStraight m → StaysOver p m → ToolPassesPart (tool_of job) m part
  passes_free m p at straight over = passes_over m part p straight over (tool_of job) at.free

  raised_range : (p : Pt3) (z : ℤ) → IsInUnitRange job.unit p → Within (greatest_of job.unit) z → IsInUnitRange job.unit (at_height p z)
  raised_range p z ranged high = record { x_ok = ranged.x_ok; y_ok = ranged.y_ok; z_ok = high }

  at_clear : (done : List Move) (p : Pt3) → IsInUnitRange job.unit p → IsReached job part done (at_height p job.clear)
  at_clear done p ranged = record {
    ranged = raised_range p job.clear ranged ok.clear_ok;
    floor = through _ _ _ ok.stock ok.over_stock;
    low = at_most_itself job.clear;
    place = inl (at_most_itself job.clear);
  }

  at_end : (done : List Move) (p : Pt3) → IsFreePlace job part p → IsEndOf done p → IsReached job part done p
  at_end done p at end = record { ranged = at.ranged; floor = at.floor; low = through _ _ _ at.top ok.over_stock; place = inr (at, end) }

  last_of : (done ms : List Move) (m : Move) → IsEndOf (done ++ (ms ++ m ∷ [])) m.to
  last_of done ms m = record {
    move = m;
    member = Contains-append_right done (ms ++ m ∷ []) m (Contains-append_right ms (m ∷ []) m (0, omega arith, refl));
    here = refl;
  }

  -- up
  climb_safe : (done : List Move) (from : Pt3) → IsFreePlace job part from → IsEndOf done from → IsSafeMove job part done (rapid_to from (at_height from job.clear))
  climb_safe done from at end = record {
    ranged = record { from_ok = at.ranged; to_ok = raised_range from job.clear at.ranged ok.clear_ok };
    made = upright_made job.rapids from from.z job.clear;
    floor_from = at.floor;
    floor_to = through _ _ _ ok.stock ok.over_stock;
    passes = passes_free up from at rapid_is_straight stays;
    stock = λ rapid x y. passes_after_cut job done end.move up x y ok end.member
        (subst (λ p. job.floor ≤ℤ p.z) (sym end.here) at.floor) rapid_is_straight (subst (λ p. StaysOver p up) (sym end.here) stays);
    depth = λ feed. absurd (rapid_is_no_feed feed);
  }
    where
      up : Move
      up = rapid_to from (at_height from job.clear)

      stays : StaysOver from up
      stays = record {
        from = record { x_same = refl; y_same = refl; z_least = at_most_itself from.z };
        to = record { x_same = refl; y_same = refl; z_least = through _ _ _ at.top ok.over_stock };
      }

  climb_goes : (done : List Move) (from : Pt3) → IsReached job part done from → GoSafely job part done from (climb job from) (at_height from job.clear)
  climb_goes done from at = by (int_lt from.z job.clear) refl
    where
      up : int_lt from.z job.clear ≡ true → IsSafeMove job part done (rapid_to from (at_height from job.clear))
      up low = elim at.place [
        | inl high ↦ absurd (clash from.z job.clear low high)
        | inr free ↦ climb_safe done from free.0 free.1
      ]
        where
          clash : (a b : ℤ) → int_lt a b ≡ true → b ≤ℤ a → ⊥
          clash a b e h = grind (e, h, arith, ints)

      same : int_lt from.z job.clear ≡ false → at_height from job.clear ≡ from
      same high = ap (λ z. point_at from.x from.y z) (equal from.z job.clear high at.low)
        where
          equal : (a b : ℤ) → int_lt a b ≡ false → a ≤ℤ b → b ≡ a
          equal a b e h = grind (e, h, arith, ints)

      by : (b : Bool) → int_lt from.z job.clear ≡ b
          → GoSafely job part done from (if b then rapid_to from (at_height from job.clear) ∷ [] else []) (at_height from job.clear)
      by true low = go_once job part done (rapid_to from (at_height from job.clear)) (up low) (at_clear _ from at.ranged)
      by false high = go_nowhere job part done from (at_height from job.clear) (same high) at

  -- across
  cross_goes : (done : List Move) (from at : Pt3) → IsInUnitRange job.unit from → IsInUnitRange job.unit at
      → GoSafely job part done (at_height from job.clear) (cross job from at) (at_height at job.clear)
  cross_goes done from at ranged at_ok = by (is_over_place from at) refl
    where
      same : is_over_place from at ≡ true → at_height at job.clear ≡ at_height from job.clear
      same e = equal from.x from.y at.x at.y e
        where
          equal : (x y u v : ℤ) → (int_eq x u && int_eq y v) ≡ true → point_at u v job.clear ≡ point_at x y job.clear
          equal x y u v e = let h = same_pair x y u v e in rw (h.0, h.1) refl

      start : Pt3
      start = at_height from job.clear

      end : Pt3
      end = at_height at job.clear

      over : Move
      over = across job from at

      by : (b : Bool) → is_over_place from at ≡ b
          → GoSafely job part done (at_height from job.clear) (if b then [] else over ∷ []) (at_height at job.clear)
      by true e = go_nowhere job part done (at_height from job.clear) (at_height at job.clear) (same e) (at_clear done from ranged)
      by false e = go_once job part done over
          (across_safe done over (rapid_made job.rapids start end) (made_no_feed job.rapids start end) (record { from_ok = raised_range from job.clear ranged ok.clear_ok; to_ok = raised_range at job.clear at_ok ok.clear_ok })
          (at_most_itself job.clear) (at_most_itself job.clear))
          (at_clear _ at at_ok)

  -- a feed straight down over a free place that ends no deeper than the greatest depth of cut under the height z: that of the top of the stock, or where a move ended
  peck_safe : (done : List Move) (at : Pt3) (start z low : ℤ) → IsFreePlace job part at → at.z ≤ℤ low → low ≤ℤ z → z ≤ℤ start → start ≤ℤ over_stock job
      → ((pos 0) <ℤ job.max_cut → z ≤ℤ (low +ℤ job.max_cut)) → (z ≡ job.top) ⊎ IsEndOf done (at_height at z)
      → IsSafeMove job part done (feed_to (at_height at start) (at_height at low))
  peck_safe done at start z low free over under from high short begins = record {
    ranged = record {
      from_ok = raised_range at start free.ranged (between (greatest_of job.unit) at.z (over_stock job) start free.ranged.z_ok (over_ok job ok) (through _ _ _ over down) high);
      to_ok = raised_range at low free.ranged (between (greatest_of job.unit) at.z (over_stock job) low free.ranged.z_ok (over_ok job ok) over (through _ _ _ down high));
    };
    made = feed_made job.rapids (at_height at start) (at_height at low);
    floor_from = from_floor;
    floor_to = to_floor;
    passes = passes_free peck at free feed_is_straight (record {
      from = record { x_same = refl; y_same = refl; z_least = through _ _ _ over down };
      to = record { x_same = refl; y_same = refl; z_least = over };
    });
    stock = λ no_feed x y. absurd (no_feed refl);
    depth = λ feed tested j i there. limit_passes (column_x job i) (column_y job j) (short tested) begins;
  }
    where
      peck : Move
      peck = feed_to (at_height at start) (at_height at low)

      down : low ≤ℤ start
      down = through _ _ _ under from

      to_floor : job.floor ≤ℤ low
      to_floor = through _ _ _ free.floor over

      from_floor : job.floor ≤ℤ start
      from_floor = through _ _ _ to_floor down

      limit_passes : (x y : ℤ) → z ≤ℤ (low +ℤ job.max_cut) → (z ≡ job.top) ⊎ IsEndOf done (at_height at z)
          → SolidPassesPoint solid peck (point_at x y (cut_limit job (top_after job x y done)))
      limit_passes x y near (inl at_top) =
          let under_top = column_under done x y in
          let to : (job.top -ℤ job.max_cut) ≤ℤ low = reaches job.top low job.max_cut (subst (λ h. h ≤ℤ (low +ℤ job.max_cut)) at_top near) in
          let to_low = limited_by job.floor job.top (top_after job x y done) job.max_cut low under_top to_floor to in
          let from_low = limited_by job.floor job.top (top_after job x y done) job.max_cut start under_top from_floor (through _ _ _ to down) in
          low_passes_all solid.cutter (lifted solid peck) (point_tri (point_at x y (cut_limit job (top_after job x y done)))) (stock_over _ start (all_low _ _ _ start from_low from_low from_low))
          (stock_over _ low (all_low _ _ _ low to_low to_low to_low))
      limit_passes x y near (inr end) =
          passes_limit_after_cut job done end.move peck x y ok end.member (subst (λ p. job.floor ≤ℤ p.z) (sym end.here) (through _ _ _ to_floor under)) from_floor to_floor feed_is_straight
          (subst (λ p. StaysOver (point_at p.x p.y (p.z -ℤ job.max_cut)) peck) (sym end.here) (record {
            from = record { x_same = refl; y_same = refl; z_least = through _ _ _ (lowered z job.max_cut ok.max_cut_ok.low) from };
            to = record { x_same = refl; y_same = refl; z_least = reaches z low job.max_cut near };
          }))

  -- so do pecks that fit, one after the other
  pecks_safe : (n : ℕ) (done : List Move) (at : Pt3) (start z : ℤ) → IsFreePlace job part at → z ≤ℤ start → start ≤ℤ over_stock job → Fit n job.max_cut z at.z
      → (z ≡ job.top) ⊎ IsEndOf done (at_height at z) → AreSafe job part done (pecks n job.max_cut at start z)
  pecks_safe zero done at start z free from high fit begins = (peck_safe done at start z at.z free (at_most_itself at.z) fit.0 from high fit.1 begins, tt)
  pecks_safe (suc n) done at start z free from high fit begins =
      let down : (z -ℤ job.max_cut) ≤ℤ z = lowered z job.max_cut ok.max_cut_ok.low in (
        peck_safe done at start z (z -ℤ job.max_cut) free fit.0 down from high (λ limited. regains z job.max_cut) begins,
        pecks_safe n _ at (z -ℤ job.max_cut) (z -ℤ job.max_cut) free (at_most_itself (z -ℤ job.max_cut)) (through _ _ _ down (through _ _ _ from high)) fit.1
            (inr (last_of done [] (feed_to (at_height at start) (at_height at (z -ℤ job.max_cut))))),
      )

  plunge_safe : (done : List Move) (at : Pt3) → IsFreePlace job part at → AreSafe job part done (plunge job at)
  plunge_safe done at free =
      pecks_safe (peck_count job.max_cut (job.top -ℤ at.z)) done at (over_stock job) job.top free (top_least job ok) (at_most_itself (over_stock job))
      (pecks_fit job.max_cut job.top at.z ok.max_cut_ok.low free.top) (inl refl)

  -- down
  down_goes : (done : List Move) (at : Pt3) → IsFreePlace job part at
      → GoSafely job part done (at_height at job.clear) (descend job at ++ plunge job at) at
  down_goes done at free = by (int_lt (over_stock job) job.clear) refl
    where
      down : Move
      down = rapid_to (at_height at job.clear) (at_height at (over_stock job))

      stays : StaysOver at down
      stays = record {
        from = record { x_same = refl; y_same = refl; z_least = through _ _ _ free.top ok.over_stock };
        to = record { x_same = refl; y_same = refl; z_least = through _ _ _ free.top (top_least job ok) };
      }

      same : int_lt (over_stock job) job.clear ≡ false → at_height at (over_stock job) ≡ at_height at job.clear
      same high = ap (λ z. point_at at.x at.y z) (equal (over_stock job) job.clear high (clear_most job ok))
        where
          equal : (a b : ℤ) → int_lt a b ≡ false → a ≤ℤ b → a ≡ b
          equal a b e h = omega (e, h, arith, ints)

      led : Connect (at_height at (over_stock job)) (plunge job at) at
      led = pecks_connect (peck_count job.max_cut (job.top -ℤ at.z)) job.max_cut at (over_stock job) job.top

      end_within : (before first : List Move) → IsEndOf (before ++ (first ++ plunge job at)) at
      end_within before first =
          let end : IsEndOf (plunge job at) at = pecks_end (peck_count job.max_cut (job.top -ℤ at.z)) job.max_cut at (over_stock job) job.top in
          record {
            move = end.move;
            member = Contains-append_right before (first ++ plunge job at) end.move (Contains-append_right first (plunge job at) end.move end.member);
            here = end.here;
          }

      by : (b : Bool) → int_lt (over_stock job) job.clear ≡ b
          → GoSafely job part done (at_height at job.clear) ((if b then down ∷ [] else []) ++ plunge job at) at
      by true low = record {
        safe = (
          over_safe done down (upright_made job.rapids at job.clear (over_stock job)) rapid_is_no_feed (record { from_ok = raised_range at job.clear free.ranged ok.clear_ok; to_ok = raised_range at (over_stock job) free.ranged (over_ok job ok) }) (clear_most job ok) (at_most_itself (over_stock job))
              (passes_free down at free rapid_is_straight stays),
          plunge_safe (done ++ down ∷ []) at free,
        );
        connect = (refl, led);
        reached = at_end _ at free (end_within done (down ∷ []));
      }
      by false high = record {
        safe = plunge_safe done at free;
        connect = subst (λ p. Connect p (plunge job at) at) (same high) led;
        reached = at_end _ at free (end_within done []);
      }

  -- round
  detour_goes : (done : List Move) (from at : Pt3) → IsReached job part done from → IsFreePlace job part at
      → GoSafely job part done from (detour job from at) at
  detour_goes done from at reached free =
      subst (λ ms. GoSafely job part done from ms at) (sym (append_assoc (climb job from ++ cross job from at) (descend job at) (plunge job at)))
      (go_on job part done from (at_height at job.clear) at (climb job from ++ cross job from at) (descend job at ++ plunge job at)
      (go_on job part done from (at_height from job.clear) (at_height at job.clear) (climb job from) (cross job from at)
      (climb_goes done from reached) (cross_goes _ from at reached.ranged free.ranged))
      (down_goes _ at free))

  -- straight
  straight_goes : (done : List Move) (from : Pt3) (visit : Visit) → IsReached job part done from → IsFreePlace job part visit.at → MayFeed job part done from visit
      → GoSafely job part done from (feed_to from visit.at ∷ []) visit.at
  straight_goes done from visit reached free may = go_once job part done (feed_to from visit.at)
      (record {
        ranged = record { from_ok = reached.ranged; to_ok = free.ranged };
        made = feed_made job.rapids from visit.at;
        floor_from = reached.floor;
        floor_to = free.floor;
        passes = may.passes;
        stock = λ no_feed x y. absurd (no_feed refl);
        depth = λ feed. may.depth;
      })
      (at_end _ visit.at free (last_of done [] (feed_to from visit.at)))

  link_goes : (done : List Move) (from : Pt3) (visit : Visit) (moves : List Move) → IsReached job part done from → IsFreePlace job part visit.at
      → IsLink job part done from visit moves → GoSafely job part done from moves visit.at
  link_goes done from visit moves reached free (inl stay) =
      subst (λ ms. GoSafely job part done from ms visit.at) (sym stay.none) (go_nowhere job part done from visit.at stay.there reached)
  link_goes done from visit moves reached free (inr (inl straight)) =
      subst (λ ms. GoSafely job part done from ms visit.at) (sym straight.feed) (straight_goes done from visit reached free straight.free)
  link_goes done from visit moves reached free (inr (inr round)) =
      subst (λ ms. GoSafely job part done from ms visit.at) (sym round.round) (detour_goes done from visit.at reached free)

  links_go : (done : List Move) (from : Pt3) (visits : List Visit) (links : List (List Move)) → IsReached job part done from
      → All (λ v. IsFreePlace job part v.at) visits → AreLinks job part done from visits links
      → GoSafely job part done from (flat_map (λ link. link) links) (last_place from visits)
  links_go done from [] [] reached free are = go_nowhere job part done from from refl reached
  links_go done from [] (link ∷ links) reached free are = absurd are
  links_go done from (v ∷ vs) [] reached free are = absurd are
  links_go done from (v ∷ vs) (link ∷ links) reached free are =
      let first = link_goes done from v link reached (All-head (λ v. IsFreePlace job part v.at) v vs free) are.0 in
      go_on job part done from v.at (last_place v.at vs) link (flat_map (λ link. link) links) first
      (links_go (done ++ link) v.at vs links first.reached (All-tail (λ v. IsFreePlace job part v.at) v vs free) are.1)

  home_goes : (done : List Move) (from : Pt3) → IsReached job part done from → GoSafely job part done from (way_home job from) (home job)
  home_goes done from reached =
      go_on job part done from (at_height from job.clear) (home job) (climb job from) (cross job from (home job))
      (climb_goes done from reached) (cross_goes _ from (home job) reached.ranged (record { x_ok = ok.home_ok.x_ok; y_ok = ok.home_ok.y_ok; z_ok = ok.clear_ok }))

  -- what a program begins with
  head_goes : GoSafely job part [] (home job) (head job) (home job)
  unfolding head
  head_goes = by (is_elsewhere job.start)
    where
      ranged : IsInUnitRange job.unit (home job)
      ranged = record { x_ok = ok.home_ok.x_ok; y_ok = ok.home_ok.y_ok; z_ok = ok.clear_ok }

      waits : (done : List Move) → IsSafeMove job part done (stay (home job))
      waits done = across_safe done (stay (home job)) (upright_made job.rapids (home job) job.clear job.clear) rapid_is_no_feed (record { from_ok = ranged; to_ok = ranged }) (at_most_itself job.clear) (at_most_itself job.clear)

      by : (b : Bool) → GoSafely job part [] (home job) (if b then stay (home job) ∷ stay (home job) ∷ [] else []) (home job)
      by true = record {
        safe = (waits [], (waits (stay (home job) ∷ []), tt));
        connect = (refl, (refl, refl));
        reached = at_clear _ (home job) ranged;
      }
      by false = go_nowhere job part [] (home job) (home job) refl (at_clear [] (home job) ranged)

pub head_is_safe : HeadIsSafe
head_is_safe job part ok under = head_goes job part ok under

pub link_is_safe : LinkIsSafe
link_is_safe job part done from visit moves ok under reached free link = link_goes job part ok under done from visit moves reached free link

pub tour_is_safe : TourIsSafe
tour_is_safe job part done from visits moves ok under reached free tour =
    subst (λ ms. GoSafely job part done from ms (last_place from visits)) (sym tour.joined) (links_go job part ok under done from visits tour.links reached free tour.are)

pub way_home_is_safe : WayHomeIsSafe
way_home_is_safe job part done from ok under reached = home_goes job part ok under done from reached
