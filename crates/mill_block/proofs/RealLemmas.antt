-- Where a machine's tip may be, by what is known of the place, and which of its ways the list foresees then.
use Rattle.std.proofs.Common.{◌≡◌, ℕ, zero, suc, ◌*◌, ◌^◌, ◌≤◌, Bool, true, false, Option, Some, None, List, [], ◌∷◌, refl, sym, ap, subst, ◌∙◌, arith, inl, inr}
use Rattle.std.proofs.lemmas.Bool.{and_parts, not-false}
use Rattle.std.proofs.lemmas.Int.{ints}
use Rattle.std.proofs.lemmas.List.Elements.{All-contains_itself, All-head}
use Rattle.std.specs.Prelude.{ℤ, pos, nat_abs, ◌+ℤ◌, ◌-ℤ◌, ◌*ℤ◌, ◌≤ℤ◌, int_le, is_some, not, ◌&&◌, ◌||◌, Contains, option_map, if◌then◌else◌}
use Rattle.mill_base.specs.Rounded.{IsRoundedTo, twice_off}
use Rattle.mill_base.specs.declared.motion.Kind.{Kind}
use Rattle.mill_base.specs.declared.motion.Kind.TheVariants.{Rapid, Feed, Dogleg}
use Rattle.mill_base.specs.declared.motion.Move.{Move}
use Rattle.mill_base.specs.declared.points.Pt3.{Pt3}
use Rattle.mill_words.specs.declared.word.Num.{Num}
use Rattle.mill_control.specs.Places.{across_allows, allows, behind, height_allows, whole_allows, is_high, is_known, is_over, is_under, low_allows, other_length, other_zero, raised, unsure}
use Rattle.mill_control.specs.declared.place.Height.{Height}
use Rattle.mill_control.specs.declared.place.Height.TheVariants.{Unknown, High, Known}
use Rattle.mill_control.specs.declared.place.Naming.{Naming}
use Rattle.mill_control.specs.declared.place.Place.{Place}
use Rattle.mill_block.specs.MachineLines.{place_in, place_of}
use Rattle.mill_block.specs.Motion.{is_rapid}
use Rattle.mill_block.specs.RealWays.{IsForeseen, IsHeight, IsHigh, IsToClear, LeavesTip, MayBeAt}
use Rattle.mill_control.specs.Unrounded.{parts, text_units}
use Rattle.mill_block.specs.TextPlaces.{text_or}
use Rattle.mill_said.specs.declared.profile.Mode.TheVariants.{On}
use Rattle.mill_block.specs.declared.progress.Known.{Known as Knowing}
use Rattle.mill_block.specs.declared.progress.Known.TheVariants.{Nothing, Height as Upright, All as Whole}
use Rattle.mill_block.specs.declared.progress.Progress.{Progress}
use Rattle.mill_said.specs.declared.rules.Control.{Control}

-- ---- heights

twice-up : (p a b : ℤ) (off : ℕ) → (pos 2 *ℤ p) ≤ℤ ((pos 2 *ℤ a) +ℤ pos off) → a ≤ℤ b → (pos 2 *ℤ p) ≤ℤ ((pos 2 *ℤ b) +ℤ pos off)
twice-up p a b off high up = omega (arith, ints)

-- no lower than a high one
pub high_up : (rounds : Bool) (clear a b : ℤ) → IsHigh rounds clear a → a ≤ℤ b → IsHigh rounds clear b
high_up rounds clear a b high up = twice-up (parts *ℤ clear) a b (twice_off rounds (10 ^ 18)) high up

twice-over : (p z : ℤ) (off : ℕ) → p ≤ℤ z → (pos 2 *ℤ p) ≤ℤ ((pos 2 *ℤ z) +ℤ pos off)
twice-over p z off over = omega (arith, ints)

pub high_over : (rounds : Bool) (clear z : ℤ) → (parts *ℤ clear) ≤ℤ z → IsHigh rounds clear z
high_over rounds clear z over = twice-over (parts *ℤ clear) z (twice_off rounds (10 ^ 18)) over

times-up : (d : ℕ) (a b : ℤ) → a ≤ℤ b → (pos d *ℤ a) ≤ℤ (pos d *ℤ b)
times-up zero a b le = omega (arith, ints)
times-up (suc d) a b le = let less = times-up d a b le in omega (arith, ints)

twice-near : (p w q : ℤ) (off : ℕ) → 2 * nat_abs (q -ℤ w) ≤ off → p ≤ℤ w → (pos 2 *ℤ p) ≤ℤ ((pos 2 *ℤ q) +ℤ pos off)
twice-near p w q off near over = omega (arith, ints)

-- where the whole number in its place is at or over the safe height
pub high_near : (rounds : Bool) (clear q w : ℤ) → IsRoundedTo rounds (10 ^ 18) q w → clear ≤ℤ w → IsHigh rounds clear q
high_near rounds clear q w near over = twice-near (parts *ℤ clear) (parts *ℤ w) q (twice_off rounds (10 ^ 18)) near (times-up (10 ^ 18) clear w over)

-- ---- where the tip may be

-- what is known of a place is so: the list has the tip at `at`, and it is at r
pub record Sure (place : Place) (rounds : Bool) (clear : ℤ) (at r : Pt3) : Type 0 where
  pub across : place.across ≡ true → (r.x ≡ at.x) × (r.y ≡ at.y)
  pub height : IsHeight place.height rounds clear at.z r.z
  pub high : place.across ≡ false → place.height ≡ Known → IsHigh rounds clear at.z

pub sure_of : (c : Control) (p : Progress) (at r : Pt3) → MayBeAt c p at r → Sure (place_of p) c.rounds p.clear at r
sure_of c p at r may = record { across = may.across; height = may.height; high = may.high }

pub may_be : (c : Control) (p : Progress) (place : Place) (clear : ℤ) (at r : Pt3) → place_of p ≡ place → p.clear ≡ clear → Sure place c.rounds clear at r → MayBeAt c p at r
may_be c p place clear at r is same sure =
    let here : Sure (place_of p) c.rounds p.clear at r = subst (λ (t : Place). Sure t c.rounds p.clear at r) (sym is) (subst (λ (z : ℤ). Sure place c.rounds z at r) (sym same) sure) in
    record { across = here.across; height = here.height; high = here.high }

-- ---- what isn't known any more

never-known : (h : Height) → unsure h ≡ Known → ⊥
never-known Unknown e = absurd cc
never-known High e = absurd cc
never-known Known e = absurd cc

high-known : (let h : Height = High in h) ≡ Known → ⊥
high-known e = absurd cc

still-height : (h : Height) (rounds : Bool) (clear listed z : ℤ) → IsHeight h rounds clear listed z → IsHeight (unsure h) rounds clear listed z
still-height Unknown rounds clear listed z is = tt
still-height High rounds clear listed z is = is
still-height Known rounds clear listed z is = tt

sure-zero : (place : Place) (rounds : Bool) (clear : ℤ) (at r : Pt3) → Sure place rounds clear at r → Sure (other_zero place) rounds clear at r
sure-zero place rounds clear at r sure = record { across = λ e. absurd cc; height = still-height place.height rounds clear at.z r.z sure.height; high = λ _ e. absurd (never-known place.height e) }

sure-length : (place : Place) (rounds : Bool) (clear : ℤ) (at r : Pt3) → Sure place rounds clear at r → Sure (other_length place) rounds clear at r
sure-length place rounds clear at r sure = record { across = sure.across; height = still-height place.height rounds clear at.z r.z sure.height; high = λ _ e. absurd (never-known place.height e) }

pub zero_in : (k : Knowing) (place : Place) (rounds : Bool) (clear : ℤ) (at r : Pt3) → Sure (place_in k place) rounds clear at r → Sure (place_in k (other_zero place)) rounds clear at r
zero_in Whole place rounds clear at r sure = sure-zero place rounds clear at r sure
zero_in Upright place rounds clear at r sure = sure-zero (record place { across = false }) rounds clear at r sure
zero_in Nothing place rounds clear at r sure = sure-zero (record place { across = false }) rounds clear at r sure

pub length_in : (k : Knowing) (place : Place) (rounds : Bool) (clear : ℤ) (at r : Pt3) → Sure (place_in k place) rounds clear at r → Sure (place_in k (other_length place)) rounds clear at r
length_in Whole place rounds clear at r sure = sure-length place rounds clear at r sure
length_in Upright place rounds clear at r sure = sure-length (record place { across = false }) rounds clear at r sure
length_in Nothing place rounds clear at r sure = sure-length (record place { across = false }) rounds clear at r sure

pub choice_in : (k : Knowing) (b : Bool) (p q : Place) (rounds : Bool) (clear : ℤ) (at r : Pt3) → Sure (place_in k p) rounds clear at r → Sure (place_in k q) rounds clear at r
    → Sure (place_in k (if b then p else q)) rounds clear at r
choice_in k true p q rounds clear at r h g = h
choice_in k false p q rounds clear at r h g = g

-- up to a high place, and what is known across stays so
sure-raised : (place : Place) (rounds : Bool) (clear : ℤ) (at to r q : Pt3) → (place.across ≡ true → (r.x ≡ at.x) × (r.y ≡ at.y)) → to.x ≡ at.x → to.y ≡ at.y → q.x ≡ r.x → q.y ≡ r.y → IsHigh rounds clear q.z
    → Sure (raised place) rounds clear to q
sure-raised place rounds clear at to r q across to_x to_y same_x same_y high =
    record { across = λ e. (same_x ∙ (across e).0 ∙ sym to_x, same_y ∙ (across e).1 ∙ sym to_y); height = high; high = λ _ e. absurd (high-known e) }

pub raised_in : (k : Knowing) (place : Place) (rounds : Bool) (clear : ℤ) (at to r q : Pt3) → Sure (place_in k place) rounds clear at r → to.x ≡ at.x → to.y ≡ at.y → q.x ≡ r.x → q.y ≡ r.y → IsHigh rounds clear q.z
    → Sure (place_in k (raised place)) rounds clear to q
raised_in Whole place rounds clear at to r q sure to_x to_y same_x same_y high = sure-raised place rounds clear at to r q sure.across to_x to_y same_x same_y high
raised_in Upright place rounds clear at to r q sure to_x to_y same_x same_y high = sure-raised (record place { across = false }) rounds clear at to r q sure.across to_x to_y same_x same_y high
raised_in Nothing place rounds clear at to r q sure to_x to_y same_x same_y high = sure-raised (record place { across = false }) rounds clear at to r q sure.across to_x to_y same_x same_y high

-- ---- a tool

anywhere : (h : Height) (rounds : Bool) (clear listed : ℤ) (r q : Pt3) → LeavesTip false true h rounds clear r q → IsHeight (unsure h) rounds clear listed q.z
anywhere Unknown rounds clear listed r q leaves = tt
anywhere High rounds clear listed r q leaves = leaves
anywhere Known rounds clear listed r q leaves = tt

pub tool_in : (k : Knowing) (raises of_tool : Bool) (place : Place) (rounds : Bool) (clear : ℤ) (at r q : Pt3) → LeavesTip raises of_tool place.height rounds clear r q → Sure (place_in k place) rounds clear at r
    → Sure (place_in k (if raises then raised (other_zero place) else (if of_tool then other_zero place else place))) rounds clear at q
tool_in k true of_tool place rounds clear at r q leaves sure = by k
  where
    by : (k : Knowing) → Sure (place_in k (raised (other_zero place))) rounds clear at q
    by Whole = record { across = λ e. absurd cc; height = leaves; high = λ _ e. absurd (high-known e) }
    by Upright = record { across = λ e. absurd cc; height = leaves; high = λ _ e. absurd (high-known e) }
    by Nothing = record { across = λ e. absurd cc; height = leaves; high = λ _ e. absurd (high-known e) }
tool_in k false true place rounds clear at r q leaves sure = by k
  where
    by : (k : Knowing) → Sure (place_in k (other_zero place)) rounds clear at q
    by Whole = record { across = λ e. absurd cc; height = anywhere place.height rounds clear at.z r q leaves; high = λ _ e. absurd (never-known place.height e) }
    by Upright = record { across = λ e. absurd cc; height = anywhere place.height rounds clear at.z r q leaves; high = λ _ e. absurd (never-known place.height e) }
    by Nothing = record { across = λ e. absurd cc; height = anywhere place.height rounds clear at.z r q leaves; high = λ _ e. absurd (never-known place.height e) }
tool_in k false false place rounds clear at r q leaves sure = subst (λ (t : Pt3). Sure (place_in k place) rounds clear at t) (sym leaves) sure

-- ---- across to the machine's own place

-- it parks at a height that is high, or known to be at or over the safe one
pub parked_high : (h : Height) (rounds : Bool) (clear listed z : ℤ) → (h ≡ Unknown → ⊥) → (h ≡ Known → IsHigh rounds clear listed) → IsHeight h rounds clear listed z → IsHigh rounds clear z
parked_high Unknown rounds clear listed z some safe is = absurd (some refl)
parked_high High rounds clear listed z some safe is = is
parked_high Known rounds clear listed z some safe is = subst (λ (t : ℤ). IsHigh rounds clear t) (sym is) (safe refl)

-- ---- a line that names coordinates

pub record Allows (place : Place) (n : Naming) : Type 0 where
  pub by_height : height_allows place.height n ≡ true
  pub low : low_allows place n ≡ true
  pub across : across_allows place n ≡ true
  pub hole : whole_allows place n ≡ true

pub allowed : (place : Place) (n : Naming) → allows place n ≡ true → Allows place n
allowed place n e =
    let all = and_parts (height_allows place.height n && low_allows place n) (across_allows place n && whole_allows place n) e in
    let up = and_parts (height_allows place.height n) (low_allows place n) all.0 in
    let over = and_parts (across_allows place n) (whole_allows place n) all.1 in
    record { by_height = up.0; low = up.1; across = over.0; hole = over.1 }

-- what a line names: `over` tells of a number that it is at or over the safe height
abbrev pub naming : Kind → Bool → Option Num → Option Num → Option Num → (Num → Bool) → Naming
naming kind drills x y z over = record { rapid = is_rapid (On kind); needs_place = drills; x = is_some x; y = is_some y; z = option_map over z }

-- where it leads
abbrev pub leads_to : ℕ → Pt3 → Option Num → Option Num → Option Num → Pt3
leads_to per q x y z = record { x = text_or per q.x x; y = text_or per q.y y; z = text_or per q.z z }

unnamed : (per : ℕ) (before : ℤ) (n : Option Num) → is_some n ≡ false → text_or per before n ≡ before
unnamed per before None e = refl
unnamed per before (Some n) e = absurd cc

neither : (a b : Bool) → not (a || b) ≡ true → (a ≡ false) × (b ≡ false)
neither false false e = (refl, refl)
neither false true e = absurd cc
neither true b e = absurd cc

rapid-is : (kind : Kind) → is_rapid (On kind) ≡ true → kind ≡ Rapid
rapid-is Rapid e = refl
rapid-is Feed e = absurd cc
rapid-is Dogleg e = absurd cc

-- numbers that tell so are high
abbrev pub AreHigh : Bool → ℤ → ℕ → Option Num → (Num → Bool) → Type 0
AreHigh rounds clear per z over = (n : Num) → z ≡ Some n → over n ≡ true → IsHigh rounds clear (text_units per n)

high-over : (rounds : Bool) (clear before : ℤ) (per : ℕ) (z : Option Num) (over : Num → Bool) → AreHigh rounds clear per z over → is_over (option_map over z) ≡ true → IsHigh rounds clear (text_or per before z)
high-over rounds clear before per None over high e = absurd cc
high-over rounds clear before per (Some n) over high e = high n refl e

high-unless : (rounds : Bool) (clear before : ℤ) (per : ℕ) (z : Option Num) (over : Num → Bool) → AreHigh rounds clear per z over → is_under (option_map over z) ≡ false → IsHigh rounds clear before
    → IsHigh rounds clear (text_or per before z)
high-unless rounds clear before per None over high e was = was
high-unless rounds clear before per (Some n) over high e was = high n refl (not-false (over n) e)

-- straight up or down
to-clear : (rounds : Bool) (clear : ℤ) (per : ℕ) (kind : Kind) (q : Pt3) (x y z : Option Num) (over : Num → Bool) → AreHigh rounds clear per z over
    → ((is_rapid (On kind) && is_over (option_map over z)) && not (is_some x || is_some y)) ≡ true → IsToClear rounds clear (record { kind = kind; from = q; to = leads_to per q x y z })
to-clear rounds clear per kind q x y z over high e =
    let all = and_parts (is_rapid (On kind) && is_over (option_map over z)) (not (is_some x || is_some y)) e in
    let up = and_parts (is_rapid (On kind)) (is_over (option_map over z)) all.0 in
    let none = neither (is_some x) (is_some y) all.1 in
    record { rapid = rapid-is kind up.0; same_x = unnamed per q.x x none.0; same_y = unnamed per q.y y none.1; to_high = high-over rounds clear q.z per z over high up.1 }

-- where x and y aren't known nothing under the safe height is named
not-low : (u w : Bool) → (not u || (false && w)) ≡ true → u ≡ false
not-low false w e = refl
not-low true w e = absurd cc

pub far_foreseen : (h : Height) (ways : List Move) (rounds : Bool) (clear : ℤ) (per : ℕ) (kind : Kind) (drills : Bool) (at q : Pt3) (x y z : Option Num) (over : Num → Bool) → AreHigh rounds clear per z over
    → Sure (record { across = false; height = h }) rounds clear at q → Allows (record { across = false; height = h }) (naming kind drills x y z over) → IsForeseen rounds clear ways (record { kind = kind; from = q; to = leads_to per q x y z })
far_foreseen Unknown ways rounds clear per kind drills at q x y z over high sure may = inr (inr (inr (to-clear rounds clear per kind q x y z over high may.by_height)))
far_foreseen High ways rounds clear per kind drills at q x y z over high sure may =
    inr (inl (record { from_high = sure.height; to_high = high-unless rounds clear q.z per z over high (not-low (is_under (option_map over z)) (not (true && (is_some x || is_some y))) may.low) sure.height }))
far_foreseen Known ways rounds clear per kind drills at q x y z over high sure may =
    let was : IsHigh rounds clear q.z = subst (λ (t : ℤ). IsHigh rounds clear t) (sym sure.height) (sure.high refl refl) in
    inr (inl (record { from_high = was; to_high = high-unless rounds clear q.z per z over high (not-low (is_under (option_map over z)) (not (false && (is_some x || is_some y))) may.low) was }))

-- down from a high place, over a place of the list
down-high : (u w : Bool) → (not u || (true && not (true && w))) ≡ true → u ≡ true → not w ≡ true
down-high true false e is = refl
down-high true true e is = absurd cc
down-high false w e is = absurd cc

down-foreseen : (rounds : Bool) (clear : ℤ) (per : ℕ) (kind : Kind) (at q : Pt3) (x y z : Option Num) (over : Num → Bool) → q.x ≡ at.x → q.y ≡ at.y → IsHigh rounds clear q.z
    → is_some x ≡ false → is_some y ≡ false → is_under (option_map over z) ≡ true
    → IsForeseen rounds clear (record { kind = kind; from = at; to = leads_to per at x y z } ∷ []) (record { kind = kind; from = q; to = leads_to per q x y z })
down-foreseen rounds clear per kind at q x y None over same_x same_y high no_x no_y under = absurd cc
down-foreseen rounds clear per kind at q x y (Some n) over same_x same_y high no_x no_y under = by (int_le (text_units per n) q.z) refl
  where
    way : Move
    way = record { kind = kind; from = at; to = leads_to per at x y (Some n) }

    real : Move
    real = record { kind = kind; from = q; to = leads_to per q x y (Some n) }

    x-is : q.x ≡ text_or per at.x x
    x-is = same_x ∙ sym (unnamed per at.x x no_x)

    y-is : q.y ≡ text_or per at.y y
    y-is = same_y ∙ sym (unnamed per at.y y no_y)

    below : (a b : ℤ) → int_le a b ≡ true → a ≤ℤ b
    below a b e = omega (e, arith, ints)

    above : (a b : ℤ) → int_le a b ≡ false → b ≤ℤ a
    above a b e = omega (e, arith, ints)

    even : (a : ℤ) → a ≤ℤ a
    even a = omega (arith, ints)

    by : (b : Bool) → int_le (text_units per n) q.z ≡ b → IsForeseen rounds clear (way ∷ []) real
    by true le =
        inr (inr (inl (record {
          way = way;
          member = All-head (Contains (way ∷ [])) way [] (All-contains_itself (way ∷ []));
          over = inr (record { from_x = x-is; from_y = y-is; from_over = below (text_units per n) q.z le; to_x = ap (λ (t : ℤ). text_or per t x) same_x; to_y = ap (λ (t : ℤ). text_or per t y) same_y; to_over = even (text_units per n) });
        })))
    by false over = inr (inl (record { from_high = high; to_high = high_up rounds clear q.z (text_units per n) high (above (text_units per n) q.z over) }))

-- where x and y are known
pub same_place : (at q : Pt3) → q.x ≡ at.x → q.y ≡ at.y → q.z ≡ at.z → q ≡ at
same_place at q x y z = rw (sym x, sym y, sym z) refl

near-foreseen : (h : Height) (rounds : Bool) (clear : ℤ) (per : ℕ) (kind : Kind) (drills : Bool) (at q : Pt3) (x y z : Option Num) (over : Num → Bool) → AreHigh rounds clear per z over
    → Sure (record { across = true; height = h }) rounds clear at q → Allows (record { across = true; height = h }) (naming kind drills x y z over)
    → IsForeseen rounds clear (record { kind = kind; from = at; to = leads_to per at x y z } ∷ []) (record { kind = kind; from = q; to = leads_to per q x y z })
near-foreseen Unknown rounds clear per kind drills at q x y z over high sure may = inr (inr (inr (to-clear rounds clear per kind q x y z over high may.by_height)))
near-foreseen High rounds clear per kind drills at q x y z over high sure may = by (is_under (option_map over z)) refl
  where
    by : (b : Bool) → is_under (option_map over z) ≡ b → IsForeseen rounds clear (record { kind = kind; from = at; to = leads_to per at x y z } ∷ []) (record { kind = kind; from = q; to = leads_to per q x y z })
    by false above = inr (inl (record { from_high = sure.height; to_high = high-unless rounds clear q.z per z over high above sure.height }))
    by true under =
        let none = neither (is_some x) (is_some y) (down-high (is_under (option_map over z)) (is_some x || is_some y) may.low under) in
        let same = sure.across refl in
        down-foreseen rounds clear per kind at q x y z over same.0 same.1 sure.height none.0 none.1 under
near-foreseen Known rounds clear per kind drills at q x y z over high sure may =
    let way : Move = record { kind = kind; from = at; to = leads_to per at x y z } in
    let same = sure.across refl in
    inl (subst (λ (t : Pt3). Contains (way ∷ []) (record { kind = kind; from = t; to = leads_to per t x y z })) (sym (same_place at q same.0 same.1 sure.height)) (All-head (Contains (way ∷ [])) way [] (All-contains_itself (way ∷ []))))

pub way_foreseen : (place : Place) (rounds : Bool) (clear : ℤ) (per : ℕ) (kind : Kind) (drills : Bool) (at q : Pt3) (x y z : Option Num) (over : Num → Bool) → AreHigh rounds clear per z over
    → Sure place rounds clear at q → Allows place (naming kind drills x y z over)
    → IsForeseen rounds clear (record { kind = kind; from = at; to = leads_to per at x y z } ∷ []) (record { kind = kind; from = q; to = leads_to per q x y z })
way_foreseen place rounds clear per kind drills at q x y z over high sure may = by place.across place.height sure may
  where
    by : (a : Bool) (h : Height) → Sure (record { across = a; height = h }) rounds clear at q → Allows (record { across = a; height = h }) (naming kind drills x y z over)
        → IsForeseen rounds clear (record { kind = kind; from = at; to = leads_to per at x y z } ∷ []) (record { kind = kind; from = q; to = leads_to per q x y z })
    by true h sure may = near-foreseen h rounds clear per kind drills at q x y z over high sure may
    by false h sure may = far_foreseen h (record { kind = kind; from = at; to = leads_to per at x y z } ∷ []) rounds clear per kind drills at q x y z over high sure may

-- ---- what is known behind it

named-both : (per : ℕ) (a b : ℤ) (n : Option Num) → is_some n ≡ true → text_or per a n ≡ text_or per b n
named-both per a b None e = absurd cc
named-both per a b (Some n) e = refl

across-behind : (a : Bool) (per : ℕ) (at q : Pt3) (x y z : Option Num) → (a ≡ true → (q.x ≡ at.x) × (q.y ≡ at.y)) → (a || (is_some x && is_some y)) ≡ true
    → (text_or per q.x x ≡ text_or per at.x x) × (text_or per q.y y ≡ text_or per at.y y)
across-behind true per at q x y z same e = (ap (λ (t : ℤ). text_or per t x) (same refl).0, ap (λ (t : ℤ). text_or per t y) (same refl).1)
across-behind false per at q x y z same e =
    let both = and_parts (is_some x) (is_some y) e in
    (named-both per q.x at.x x both.0, named-both per q.y at.y y both.1)

height-behind : (h : Height) (rounds : Bool) (clear : ℤ) (per : ℕ) (at q : Pt3) (z : Option Num) (over : Num → Bool) → IsHeight h rounds clear at.z q.z
    → IsHeight (if is_some (option_map over z) then Known else h) rounds clear (text_or per at.z z) (text_or per q.z z)
height-behind h rounds clear per at q None over is = is
height-behind h rounds clear per at q (Some n) over is = refl

not-across : (a w : Bool) → (a || w) ≡ false → a ≡ false
not-across false w e = refl
not-across true w e = absurd cc

low-unless : (a u w : Bool) → a ≡ false → (not u || (a && w)) ≡ true → u ≡ false
low-unless false u w is e = not-low u w e
low-unless true u w is e = absurd cc

high-behind : (h : Height) (rounds : Bool) (clear before : ℤ) (per : ℕ) (z : Option Num) (over : Num → Bool) → AreHigh rounds clear per z over → is_under (option_map over z) ≡ false → (h ≡ Known → IsHigh rounds clear before)
    → (if is_some (option_map over z) then Known else h) ≡ Known → IsHigh rounds clear (text_or per before z)
high-behind h rounds clear before per None over high not_under was e = was e
high-behind h rounds clear before per (Some n) over high not_under was e = high n refl (not-false (over n) not_under)

pub sure_behind : (place : Place) (rounds : Bool) (clear : ℤ) (per : ℕ) (kind : Kind) (drills : Bool) (at q : Pt3) (x y z : Option Num) (over : Num → Bool) → AreHigh rounds clear per z over
    → Sure place rounds clear at q → Allows place (naming kind drills x y z over) → Sure (behind place (naming kind drills x y z over)) rounds clear (leads_to per at x y z) (leads_to per q x y z)
sure_behind place rounds clear per kind drills at q x y z over high sure may = record {
  across = λ e. across-behind place.across per at q x y z sure.across e;
  height = height-behind place.height rounds clear per at q z over sure.height;
  high = λ e h. let far = not-across place.across (is_some x && is_some y) e in
      high-behind place.height rounds clear at.z per z over high (low-unless place.across (is_under (option_map over z)) (not (is_high place.height && (is_some x || is_some y))) far may.low) (λ known. sure.high far known) h;
}

-- before the first whole place it stays unknown across, unless both are named
pub behind_far : (k : Knowing) (place : Place) (n : Naming) → (k ≡ Whole → ⊥) → place.across ≡ false → (n.x && n.y) ≡ false → place_in k (behind place n) ≡ behind place n
behind_far Whole place n far none few = absurd (far refl)
behind_far Upright place n far none few = rw (none, few) refl
behind_far Nothing place n far none few = rw (none, few) refl

-- ---- a hole

pub all_known : (d a : Bool) (h : Height) → d ≡ true → (not d || (a && is_known h)) ≡ true → (a ≡ true) × (h ≡ Known)
all_known false a h is e = absurd cc
all_known true false h is e = absurd cc
all_known true true Known is e = (refl, refl)
all_known true true High is e = absurd cc
all_known true true Unknown is e = absurd cc

-- all of its place is known behind it
pub sure_there : (place : Place) (n : Naming) (rounds : Bool) (clear : ℤ) (at : Pt3) → place.across ≡ true → place.height ≡ Known → Sure (behind place n) rounds clear at at
sure_there place n rounds clear at known high = record { across = λ _. (refl, refl); height = same place.height n.z high; high = λ e. absurd (near place.across known e) }
  where
    same : (h : Height) (z : Option Bool) → h ≡ Known → IsHeight (if is_some z then Known else h) rounds clear at.z at.z
    same Known None e = refl
    same High None e = absurd cc
    same Unknown None e = absurd cc
    same h (Some over) e = refl

    near : (a : Bool) → a ≡ true → (a || (n.x && n.y)) ≡ false → ⊥
    near true e f = absurd cc
    near false e f = absurd cc
