-- The stretches of the triangles near a fiber, one triangle after another.
use Rattle.std.proofs.Common.{◌≡◌, ◌↔◌, inl, inr, refl, ℕ, suc, ◌+◌, ◌*◌, ◌<◌, ◌≤◌, List, [], ◌∷◌, length, map, sym, subst, ap, ◌∙◌, arith}
use Rattle.std.specs.Prelude.{◌^◌, nat_eq, Bool, true, false}
use Rattle.std.specs.List.{Contains, IsDistinct}
use Rattle.std.proofs.lemmas.Bool.{eqb-true, eq-eqb}
use Rattle.std.proofs.lemmas.Int.{ints, by_lt_z}
use Rattle.std.proofs.lemmas.List.{length-map, get_or-map, get_or_default}
use Rattle.std.proofs.lemmas.List.Elements.{All-from_recursion, All-contains, Contains-get_or}
use Rattle.std.proofs.lemmas.Map.Keys.{IsDistinct-head, IsDistinct-tail}
use Rattle.std.proofs.lemmas.Map.Steps.{length-le_from_distinct_below}
use Rattle.std.proofs.lemmas.Map.Views.{Contains-from_any}
use lib.IntN.{ℤ, pos}
use lib.Signed.{◌<ℤ◌, ◌≤ℤ◌}
use Rattle.mill_base.specs.Numbers.{Within}
use Rattle.mill_base.specs.declared.limits.TheConstants.{MAX_COORDINATE}
use Rattle.mill_base.specs.Points.{highest, point_at, point_tri, tri_at}
use Rattle.mill_base.specs.Sizes.{radius_of}
use Rattle.mill_base.specs.declared.points.Tri.{Tri}
use Rattle.mill_base.specs.declared.points.Box2.{Box2}
use Rattle.mill_base.specs.declared.cutter.Cutter.{Cutter}
use Rattle.mill_cells.specs.Boxes.{Meet, IsNear, box_of, boxes_of, origin_box}
use Rattle.mill_cells.specs.Ahead.{Ahead, Comes, NoneComes, AreDealt}
use Rattle.mill_cells.specs.Sorted.{Sorted, sorted_of, top_at}
use Rattle.mill_cells.proofs.Lists.{nothing_in_nil, cons_cases, distinct-append, distinct-nil, distinct-one}
use Rattle.mill_cells.proofs.PassedLemmas.{deals_on, deals_last, top_is}
use Rattle.mill_push.specs.declared.fiber.Fiber.{Fiber}
use Rattle.mill_push.specs.declared.fiber.Run.{Run}
use Rattle.mill_push.specs.declared.stretch.Pusher.{Pusher}
use Rattle.mill_push.specs.Fibers.{IsTouched}
use Rattle.mill_push.specs.Runs.{StandsIn}
use Rattle.mill_push.specs.Touches.{IsTried, TouchesFew, position_count, strip_along}
use Rattle.mill_push.specs.inner.Known.{IsGrown, IsKnown, IsNewStretch}
use Rattle.mill_push.specs.inner.Pushers.{IsPusher}
use Rattle.mill_push.specs.inner.Reaches.{IsReachForPart}
use Rattle.mill_push.specs.inner.Solids.{IsCutterBlocked}
use Rattle.mill_push.specs.inner.Unions.{AreSpans, AreStretches}
use Rattle.mill_push.proofs.Meeting.{meets_wider, touched_meets, touched_over}
use Rattle.mill_push.proofs.Reaching.{for_member}

-- a list of numbers in which no number stands twice
head_once : (i : ℕ) (ns : List ℕ) → IsDistinct nat_eq (i ∷ ns) → Contains ns i → ⊥
head_once i ns d c = clash (nat_eq i i) (eq-eqb i i refl) (All-contains (λ j. nat_eq i j ≡ false) ns i (All-from_recursion (λ j. nat_eq i j ≡ false) ns (IsDistinct-head nat_eq i ns d)) c)
  where
    clash : (b : Bool) → b ≡ true → b ≡ false → ⊥
    clash b t f = cc

once_more : (i : ℕ) (ns : List ℕ) → IsDistinct nat_eq ns → (Contains ns i → ⊥) → IsDistinct nat_eq (i ∷ ns)
once_more i ns d new = distinct-append (i ∷ []) ns (distinct-one i) d (λ j one c. elim (cons_cases i [] j one) [
  | inl same ↦ new (subst (Contains ns) (sym same) c)
  | inr none ↦ nothing_in_nil j none
])

-- numbers below n, each once, are at most n
pub few_below : (ns : List ℕ) (n : ℕ) → IsDistinct nat_eq ns → ((i : ℕ) → Contains ns i → i < n) → length ns ≤ n
few_below ns n d h = length-le_from_distinct_below ns n d (λ q e. h q (Contains-from_any {eq = nat_eq} (λ x y s. eqb-true x y s) q ns e))

module _ (p : Pusher) (part : List Tri) (from to : ℤ) where
  abbrev strip : Box2
  strip = strip_along p.fiber.axis p.fiber.at p.reach from to

  -- a triangle's box meets the strip
  abbrev IsBeside : ℕ → Type 0
  IsBeside i = IsNear (boxes_of part) strip i

  -- the positions at which a triangle is touched stand in these runs
  abbrev IsDone : List Run → ℕ → Type 0
  IsDone found i = i < length part → (v : ℤ) → from ≤ℤ v → v ≤ℤ to → IsTouched p.cutter (tri_at part i) p.fiber v → StandsIn found v

  -- the runs so far, the triangles that are still to come, and the touches of those that were tried
  pub record CollectedSoFar (near : Ahead) (found : List Run) (old now : ℕ) : Type 0 where
    pub tops : near.tops ≡ map highest part
    pub beside : (i : ℕ) → Contains near.numbers i → IsBeside i
    pub once : IsDistinct nat_eq near.numbers
    pub spans : AreSpans from to found
    pub sound : (v : ℤ) → StandsIn found v → IsCutterBlocked p.cutter part p.fiber v
    pub dealt : AreDealt IsBeside (IsDone found) near.numbers
    pub numbers : List ℕ
    pub each_once : IsDistinct nat_eq numbers
    pub apart : (i : ℕ) → Contains numbers i → Contains near.numbers i → ⊥
    pub tried : (i : ℕ) → Contains numbers i → IsTried p.cutter part p.fiber from to i
    pub bound : (n : ℕ) → position_count from to < 2 ^ n → now ≤ old + 2 * n * length numbers

  pub collect_starts : (s : Sorted) (near : Ahead) (old : ℕ) → s ≡ sorted_of part → near.tops ≡ s.tops → ((i : ℕ) → Contains near.numbers i ↔ IsNear s.boxes strip i) → IsDistinct nat_eq near.numbers
      → CollectedSoFar near [] old old
  collect_starts s near old e same each once = record {
    tops = same ∙ ap (λ (t : Sorted). t.tops) e;
    beside = λ i c. subst (λ (t : Sorted). IsNear t.boxes strip i) e ((each i).0 c);
    once = once;
    spans = λ r c. absurd (omega (arith, c.1));
    sound = λ v c. absurd (omega (arith, c.member.1));
    dealt = λ i n. inl ((each i).1 (subst (λ (t : Sorted). IsNear t.boxes strip i) (sym e) n));
    numbers = [];
    each_once = distinct-nil;
    apart = λ i c d. nothing_in_nil i c;
    tried = λ i c. absurd (nothing_in_nil i c);
    bound = λ n h. omega arith;
  }

  beside_within : (i : ℕ) → IsBeside i → i < length part
  beside_within i n = subst (λ m. i < m) (length-map part box_of) n.within

  pub next_within : {near later : Ahead} {i : ℕ} {z : ℤ} {found : List Run} {old now : ℕ} → Comes z near i later → CollectedSoFar near found old now → i < length part
  next_within {i = i} h s = beside_within i (s.beside i h.number)

  -- a triangle that comes is near the fiber
  near_it : (near later : Ahead) (i : ℕ) → IsPusher p → near.tops ≡ map highest part → Comes p.fiber.z near i later → IsBeside i → IsTried p.cutter part p.fiber from to i
  near_it near later i ok e h n =
      let inside = beside_within i n in
      let d = point_tri (point_at (pos 0) (pos 0) (pos 0)) in
      record {
        within = inside;
        near = record {
          meets = meets_wider p.fiber.axis (box_of (tri_at part i)) p.fiber.at p.reach (radius_of p.cutter) from to ok.reach_most (subst (λ (b : Box2). Meet b strip) (get_or-map box_of part i d origin_box inside) n.meets);
          over = subst (λ z. p.fiber.z <ℤ z) (ap (λ (ts : List ℤ). top_at ts i) e ∙ top_is part i d inside) h.over;
        };
      }

  -- a triangle that isn't over the fiber's height isn't touched
  low_done : (tops : List ℤ) (found : List Run) (i : ℕ) → IsPusher p → tops ≡ map highest part → top_at tops i ≤ℤ p.fiber.z → IsDone found i
  low_done tops found i ok e low inside v a b t =
      let over = touched_over p.cutter (tri_at part i) p.fiber v ok.cutter_ok t in
      let top = ap (λ (ts : List ℤ). top_at ts i) e ∙ top_is part i (point_tri (point_at (pos 0) (pos 0) (pos 0))) inside in
      absurd (against over (subst (λ z. z ≤ℤ p.fiber.z) top low))
    where
      against : {z h : ℤ} → z <ℤ h → h ≤ℤ z → ⊥
      against a b = omega (arith, ints)

  -- what the next triangle leaves: its own positions stand in the runs now, and it was tried
  goes_on : {near later : Ahead} {i : ℕ} {found more : List Run} {old now then : ℕ} → IsPusher p → Comes p.fiber.z near i later → CollectedSoFar near found old now
      → AreSpans from to more → ((v : ℤ) → StandsIn more v → IsCutterBlocked p.cutter part p.fiber v) → ((v : ℤ) → StandsIn found v → StandsIn more v) → IsDone more i
      → ((n : ℕ) → position_count from to < 2 ^ n → then ≤ now + 2 * n) → CollectedSoFar later more old then
  goes_on {near} {later} {i} {found} {more} {old} {now} {then} ok h s spans sound kept done cost = record {
    tops = h.tops ∙ s.tops;
    beside = λ j c. s.beside j (h.rest j c);
    once = IsDistinct-tail nat_eq i later.numbers (h.once s.once);
    spans = spans;
    sound = sound;
    dealt = deals_on IsBeside (IsDone found) (IsDone more) p.fiber.z near later i h
        (λ j before inside v a b t. kept v (before inside v a b t))
        done
        (λ j low. low_done near.tops more j ok s.tops low)
        s.dealt;
    numbers = i ∷ s.numbers;
    each_once = once_more i s.numbers s.each_once (λ c. s.apart i c h.number);
    apart = λ j c d. elim (cons_cases i s.numbers j c) [
      | inl same ↦ head_once i later.numbers (h.once s.once) (subst (Contains later.numbers) (sym same) d)
      | inr before ↦ s.apart j before (h.rest j d)
    ];
    tried = λ j c. elim (cons_cases i s.numbers j c) [
      | inl same ↦ subst (IsTried p.cutter part p.fiber from to) same (near_it near later i ok s.tops h (s.beside i h.number))
      | inr before ↦ s.tried j before
    ];
    bound = λ n u. more_steps n (length s.numbers) (cost n u) (s.bound n u);
  }
    where
      more_steps : (n m : ℕ) → then ≤ now + 2 * n → now ≤ old + 2 * n * m → then ≤ old + 2 * n * suc m
      more_steps n m a b = omega arith

  -- the positions at which it is touched are known
  pub goes_on_without : {near later : Ahead} {i : ℕ} {found : List Run} {old now then : ℕ} → IsPusher p → Comes p.fiber.z near i later → CollectedSoFar near found old now
      → IsKnown p.cutter (tri_at part i) p.fiber found from to → ((n : ℕ) → position_count from to < 2 ^ n → then ≤ now + 2 * n) → CollectedSoFar later found old then
  goes_on_without ok h s known cost =
      goes_on ok h s s.spans s.sound (λ v c. c) (λ inside v a b t. known v a b t) cost

  -- those of one run are new
  pub goes_on_with : {near later : Ahead} {i : ℕ} {found more : List Run} {r : Run} {old now then : ℕ} → IsPusher p → Comes p.fiber.z near i later → CollectedSoFar near found old now
      → IsNewStretch p.cutter (tri_at part i) p.fiber from to found r → IsGrown found r more → ((n : ℕ) → position_count from to < 2 ^ n → then ≤ now + 2 * n) → CollectedSoFar later more old then
  goes_on_with {i = i} {found} {more} {r} ok h s stretch grown cost =
      goes_on ok h s (grown.spans from to s.spans stretch.span) sound grown.kept done cost
    where
      sound : (v : ℤ) → StandsIn more v → IsCutterBlocked p.cutter part p.fiber v
      sound v c = elim (grown.only v c) [
        | inl before ↦ s.sound v before
        | inr new ↦ record {
          tri = tri_at part i;
          member = Contains-get_or part i (point_tri (point_at (pos 0) (pos 0) (pos 0))) (beside_within i (s.beside i h.number));
          touches = stretch.touched v new.first new.last;
        }
      ]

      done : IsDone more i
      done inside v a b t = by_lt_z v r.first
          (λ less. grown.kept v (stretch.before v a less t))
          (λ from_it. by_lt_z r.last v
          (λ past. grown.kept v (stretch.beyond v past b t))
          (λ to_it. grown.added v (record { first = from_it; last = to_it })))

  -- after the last one
  pub collect_ends : {near later : Ahead} {found : List Run} {old now : ℕ} → IsPusher p → IsReachForPart p.cutter p.fiber.z p.reach part → NoneComes p.fiber.z near later → CollectedSoFar near found old now → AreStretches (IsCutterBlocked p.cutter part p.fiber) from to found
  collect_ends {near} {later} {found} ok reach none s = record { spans = s.spans; blocked = λ v a b. (stands v a b, s.sound v) }
    where
      d : Tri
      d = point_tri (point_at (pos 0) (pos 0) (pos 0))

      stands : (v : ℤ) → from ≤ℤ v → v ≤ℤ to → IsCutterBlocked p.cutter part p.fiber v → StandsIn found v
      stands v a b g =
          let m = g.member in
          let place : tri_at part m.0 ≡ g.tri = get_or_default part m.0 d g.tri m.1 ∙ m.2 in
          let meets = touched_meets p.cutter g.tri p.fiber p.reach from to v (for_member p.cutter p.fiber.z p.reach part g.tri reach m) a b g.touches in
          let beside_it : IsBeside m.0 = record {
            within = subst (λ n. m.0 < n) (sym (length-map part box_of)) m.1;
            meets = subst (λ (x : Box2). Meet x strip) (sym (get_or-map box_of part m.0 d origin_box m.1)) (subst (λ (u : Tri). Meet (box_of u) strip) (sym place) meets);
          } in
          deals_last IsBeside (IsDone found) p.fiber.z near later none (λ j low. low_done near.tops found j ok s.tops low) s.dealt m.0 beside_it m.1 v a b
          (subst (λ (u : Tri). IsTouched p.cutter u p.fiber v) (sym place) g.touches)

  -- before any triangle is tried
  pub no_cost : (old : ℕ) → TouchesFew p.cutter part p.fiber from to old old
  no_cost old = record { numbers = []; once = distinct-nil; tried = λ i c. absurd (nothing_in_nil i c); bound = λ n h. omega arith }

  pub collect_cost : {near : Ahead} {found : List Run} {old now : ℕ} → CollectedSoFar near found old now → TouchesFew p.cutter part p.fiber from to old now
  collect_cost s = record { numbers = s.numbers; once = s.each_once; tried = s.tried; bound = s.bound }

-- at most 40 touches for each triangle of the part
pub few_touches : (cutter : Cutter) (part : List Tri) (fiber : Fiber) (from to : ℤ) (old new : ℕ) → Within MAX_COORDINATE from → Within MAX_COORDINATE to → TouchesFew cutter part fiber from to old new
    → new ≤ old + 40 * length part
few_touches cutter part fiber from to old new h k t =
    let few = few_below t.numbers (length part) t.once (λ i c. (t.tried i c).within) in
    let steps = t.bound 20 (short from to h k) in
    omega arith
  where
    short : (from to : ℤ) → Within MAX_COORDINATE from → Within MAX_COORDINATE to → position_count from to < 1048576
    short from to h k = let a = h.within in let b = k.within in omega (arith, ints)
