-- Where there is room to raise a move over the part, and how high it goes then.
use Rattle.std.specs.Prelude.{◌≡◌, ◌⊎◌, ◌↔◌, ℕ, ◌≤◌, nat_abs, ℤ, pos, ◌+ℤ◌, ◌-ℤ◌, ◌≤ℤ◌, int_le, int_lt, Bool, true, false, cond, IsTrue, List}
use Rattle.std.proofs.Common.{inl, inr, [], ◌∷◌, refl, sym, ap, ◌∙◌, subst, w32, arith}
use Rattle.std.proofs.lemmas.Int.{ints}
use Rattle.mill_base.proofs.Machine.{Read, Lit, Diff, exact, stored}
use Rattle.mill_base.specs.Covers.{IsUnder}
use Rattle.mill_base.specs.Numbers.{lesser}
use Rattle.mill_base.specs.Ranges.{IsInRange, MoveInRange}
use Rattle.mill_base.specs.declared.limits.TheConstants.{LOWEST_LIFT, MAX_COORDINATE, MAX_TEXT_COORDINATE}
use Rattle.mill_base.specs.declared.motion.Move.{Move}
use Rattle.mill_base.specs.declared.points.Pt3.{Pt3}
use Rattle.mill_base.specs.declared.points.Tri.{Tri}
use Rattle.mill_base.specs.declared.tool.Tool.{Tool}
use Rattle.mill_part.specs.Tops.{IsTop}
use Rattle.mill_sweep.specs.Leaves.{length_z}
use Rattle.mill_sweep.specs.Apart.{low_end_of}
use Rattle.mill_sweep.specs.Widths.{longest}
use Rattle.mill_gouge.specs.Laws.{HundredthsHaveRoom}
use Rattle.mill_gouge.specs.Lifts.{HasRoom, ceiling_of, low_of, lowest_tip_of, place_over, raised}
use Rattle.mill_gouge.proofs.Lows.{low_most}

up : (a b c : ℤ) → a ≤ℤ b → b ≤ℤ c → a ≤ℤ c
up a b c p q = omega (p, q, arith, ints)

-- a part is under a height exactly where its top isn't over it
pub top_under : (part : List Tri) (top h : ℤ) → IsTop part top → top ≤ℤ h → IsUnder part h
top_under part top h is under tri m = let p = is.under tri m in (up _ _ _ p.0 under, up _ _ _ p.1 under, up _ _ _ p.2 under)

pub under_top : (part : List Tri) (top h : ℤ) → IsTop part top → IsUnder part h → top ≤ℤ h
under_top part top h is under = let p = under is.tri is.member in elim is.corner [
  | inl a ↦ subst (λ (z : ℤ). z ≤ℤ h) a p.0
  | inr rest ↦ elim rest [
    | inl b ↦ subst (λ (z : ℤ). z ≤ℤ h) b p.1
    | inr c ↦ subst (λ (z : ℤ). z ≤ℤ h) c p.2
  ]
]

-- how high the part may be, as it is worked out
pub ceiling_stored : (rise low r l : ℤ) → rise ≡ r → low ≡ l → (pos 0) ≤ℤ rise → rise ≤ℤ pos longest → (pos 0) ≤ℤ low → low ≤ℤ (pos 0 -ℤ LOWEST_LIFT)
    → stored w32 (stored w32 (pos MAX_COORDINATE -ℤ stored w32 rise) -ℤ stored w32 low) ≡ ((pos MAX_COORDINATE -ℤ r) -ℤ l)
ceiling_stored rise low r l rise_is low_is least most low_least low_most =
    exact (rise ∷ low ∷ []) (longest ∷ 4300 ∷ []) (Diff w32 (Diff w32 (Lit (pos MAX_COORDINATE)) (Read w32 0)) (Read w32 1)) (omega (least, most, arith, ints), (omega (low_least, low_most, arith, ints), tt)) refl
    ∙ ap (λ (z : ℤ). (pos MAX_COORDINATE -ℤ z) -ℤ low) rise_is ∙ ap (λ (z : ℤ). (pos MAX_COORDINATE -ℤ r) -ℤ z) low_is

-- whether there is room is told by the top and that, as they are stored
pub room_told : (part : List Tri) (top limit stored_top stored_limit : ℤ) → stored_top ≡ top → stored_limit ≡ limit → IsTop part top → IsTrue (int_le stored_top stored_limit) ↔ IsUnder part limit
room_told part top limit stored_top stored_limit top_is limit_is is = (
  λ told. top_under part top limit is (not_over told),
  λ room. tells (under_top part top limit is room),
)
  where
    not_over : int_le stored_top stored_limit ≡ true → top ≤ℤ limit
    not_over told = omega (top_is, limit_is, told, arith, ints)

    ordered : (a b : ℤ) → a ≤ℤ b → int_le a b ≡ true
    ordered a b l = grind (l, arith, ints)

    tells : top ≤ℤ limit → int_le stored_top stored_limit ≡ true
    tells l = ordered stored_top stored_limit (omega (top_is, limit_is, l, arith, ints))

-- coordinates as texts in hundredths give them leave room
pub hundredths_have_room : HundredthsHaveRoom
hundredths_have_room tool part m cutter_ok holder_ok tris ok tri member =
    let corners = tris tri member in
    (room tri.a.z corners.a_ok.z_ok.within, room tri.b.z corners.b_ok.z_ok.within, room tri.c.z corners.c_ok.z_ok.within)
  where
    by : (z f t l : ℤ) → nat_abs z ≤ MAX_TEXT_COORDINATE → nat_abs f ≤ MAX_TEXT_COORDINATE → nat_abs t ≤ MAX_TEXT_COORDINATE → l ≤ℤ (pos 0 -ℤ LOWEST_LIFT)
        → z ≤ℤ ((pos MAX_COORDINATE -ℤ pos (nat_abs (t -ℤ f))) -ℤ l)
    by z f t l p q r s = omega (p, q, r, s, arith, ints)

    room : (z : ℤ) → nat_abs z ≤ MAX_TEXT_COORDINATE → z ≤ℤ ceiling_of tool m
    room z within = by z m.from.z m.to.z (low_of tool) within ok.from_ok.z_ok.within ok.to_ok.z_ok.within (low_most tool cutter_ok holder_ok)

-- ---- the range of a raised move

-- an end, raised so that the lower of the two comes no higher than the top, or not at all
end_within : (f t top : ℤ) (n : ℕ) → nat_abs f ≤ MAX_COORDINATE → nat_abs t ≤ MAX_COORDINATE → (n ≡ 0) ⊎ ((lesser f t +ℤ pos n) ≤ℤ top) → top ≤ℤ (pos MAX_COORDINATE -ℤ pos (nat_abs (t -ℤ f)))
    → (nat_abs (f +ℤ pos n) ≤ MAX_COORDINATE) × (nat_abs (t +ℤ pos n) ≤ MAX_COORDINATE)
end_within f t top n p q (inl none) room = (omega (p, none, arith, ints), omega (q, none, arith, ints))
end_within f t top n p q (inr under) room = (grind (p, q, under, room, arith, ints), grind (p, q, under, room, arith, ints))

place_within : (p : Pt3) (n : ℕ) → IsInRange p → nat_abs (p.z +ℤ pos n) ≤ MAX_COORDINATE → IsInRange (place_over n p)
place_within p n ok within = record { x_ok = ok.x_ok; y_ok = ok.y_ok; z_ok = record { within = within } }

pub raised_within : (m : Move) (top : ℤ) (n : ℕ) → MoveInRange m → (n ≡ 0) ⊎ ((low_end_of m +ℤ pos n) ≤ℤ top) → top ≤ℤ (pos MAX_COORDINATE -ℤ pos (length_z m)) → MoveInRange (raised n m)
raised_within m top n ok reaches room =
    let ends = end_within m.from.z m.to.z top n ok.from_ok.z_ok.within ok.to_ok.z_ok.within reaches room in
    record { from_ok = place_within m.from n ok.from_ok ends.0; to_ok = place_within m.to n ok.to_ok ends.1 }

-- ---- how low the tip of a tool's lowest solid comes, as it is worked out

pub tip_stored : (m : Move) (end low l : ℤ) → end ≡ low_end_of m → low ≡ l → MoveInRange m → (pos 0) ≤ℤ low → low ≤ℤ (pos 0 -ℤ LOWEST_LIFT)
    → stored w32 (stored w32 end -ℤ stored w32 low) ≡ (low_end_of m -ℤ l)
tip_stored m end low l end_is low_is ok least most =
    exact (end ∷ low ∷ []) (MAX_COORDINATE ∷ 4300 ∷ []) (Diff w32 (Read w32 0) (Read w32 1)) (subst (λ (z : ℤ). nat_abs z ≤ MAX_COORDINATE) (sym end_is) within, (omega (least, most, arith, ints), tt)) refl
    ∙ ap (λ (z : ℤ). z -ℤ low) end_is ∙ ap (λ (z : ℤ). low_end_of m -ℤ z) low_is
  where
    lesser_within : (a b : ℤ) → nat_abs a ≤ MAX_COORDINATE → nat_abs b ≤ MAX_COORDINATE → nat_abs (lesser a b) ≤ MAX_COORDINATE
    lesser_within a b p q = by (int_lt b a)
      where
        by : (t : Bool) → nat_abs (cond t b a) ≤ MAX_COORDINATE
        by true = q
        by false = p

    within : nat_abs (low_end_of m) ≤ MAX_COORDINATE
    within = lesser_within m.from.z m.to.z ok.from_ok.z_ok.within ok.to_ok.z_ok.within

-- ---- a lift that brings that tip up to the top, as it is worked out of the two as they are stored

pub climbs_over : (part : List Tri) (top low stored_top stored_low : ℤ) (n : ℕ) → stored_top ≡ top → stored_low ≡ low → IsTop part top → stored_top ≤ℤ (stored_low +ℤ pos n)
    → IsUnder part (low +ℤ pos n)
climbs_over part top low stored_top stored_low n top_is low_is is reaches = top_under part top (low +ℤ pos n) is over
  where
    over : top ≤ℤ (low +ℤ pos n)
    over = omega (top_is, low_is, reaches, arith, ints)

pub climbs_within : (tool : Tool) (part : List Tri) (m : Move) (top stored_top stored_low : ℤ) (n : ℕ) → stored_top ≡ top → stored_low ≡ lowest_tip_of tool m → IsTop part top → MoveInRange m
    → HasRoom tool part m → (n ≡ 0) ⊎ ((stored_low +ℤ pos n) ≤ℤ stored_top) → MoveInRange (raised n m)
climbs_within tool part m top stored_top stored_low n top_is low_is is ok room least =
    raised_within m (top +ℤ low_of tool) n ok (elim least [
      | inl none ↦ inl none
      | inr under ↦ inr (no_higher (low_end_of m) (low_of tool) low_is under)
    ]) (less (low_of tool) (length_z m) (under_top part top (ceiling_of tool m) is room))
  where
    no_higher : (e l : ℤ) → stored_low ≡ (e -ℤ l) → (stored_low +ℤ pos n) ≤ℤ stored_top → (e +ℤ pos n) ≤ℤ (top +ℤ l)
    no_higher e l same under = omega (top_is, same, under, arith, ints)

    less : (l : ℤ) (long : ℕ) → top ≤ℤ ((pos MAX_COORDINATE -ℤ pos long) -ℤ l) → (top +ℤ l) ≤ℤ (pos MAX_COORDINATE -ℤ pos long)
    less l long h = omega (h, arith, ints)
