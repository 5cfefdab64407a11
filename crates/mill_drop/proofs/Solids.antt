-- The drop height of a tool, from those of its solids.
use Rattle.std.proofs.Common.{◌≡◌, ◌⊎◌, inl, inr, refl, Bool, true, false, ap, sym, subst, FitsSigned, w32, arith}
use Rattle.std.specs.Prelude.{int_lt, List, Some, None, MatchOption}
use Rattle.std.proofs.lemmas.Int.{ints, to_z-of_z}
use lib.IntN.{ℤ, pos, ◌+ℤ◌, ◌-ℤ◌}
use lib.Signed.{◌<ℤ◌, ◌≤ℤ◌}
use Rattle.mill_base.specs.Points.{point_at}
use Rattle.mill_base.specs.Contact.{Gouges}
use Rattle.mill_base.specs.Solids.{Solid, at_tip, solid_tip}
use Rattle.mill_base.specs.declared.limits.TheConstants.{MAX_COORDINATE}
use Rattle.mill_base.specs.declared.points.Pt3.{Pt3}
use Rattle.mill_base.specs.declared.points.Tri.{Tri}
use Rattle.mill_base.specs.declared.tool.Tool.{Tool}
use Rattle.mill_base.proofs.Machine.{stored}
use Rattle.mill_base.proofs.SolidLemmas.{higher_once}
use Rattle.mill_drop.specs.Drops.{GougesAt, IsDropHeight, IsHeightFrom, IsToolHeight, IsUnderTop}
use Rattle.mill_drop.specs.inner.Solids.{CutterGougesAt, SolidGougesAt, IsSolidDrop}
use Rattle.mill_drop.proofs.Stored.{tool_stored}

-- the solid's tip is over the tool's by its lift
tip_over : (solid : Solid) (x y z : ℤ) → solid_tip solid (pos 1) (point_at x y z) ≡ point_at x y (z +ℤ solid.lift)
tip_over solid x y z = ap (λ (h : ℤ). point_at x y h) (higher_once z solid.lift)

-- so the solid gouges where its cutter does, that much higher
cutter_gouges : (solid : Solid) (part : List Tri) (x y z : ℤ) → SolidGougesAt solid part x y z → CutterGougesAt solid.cutter part x y (z +ℤ solid.lift)
cutter_gouges solid part x y z g = subst (λ (t : Pt3). Gouges solid.cutter (pos 1) t part) (tip_over solid x y z) g

solid_gouges : (solid : Solid) (part : List Tri) (x y z : ℤ) → CutterGougesAt solid.cutter part x y (z +ℤ solid.lift) → SolidGougesAt solid part x y z
solid_gouges solid part x y z g = subst (λ (t : Pt3). Gouges solid.cutter (pos 1) t part) (sym (tip_over solid x y z)) g

-- the least height of the solid's own tip, sought from start on, gives that of the tool's
pub solid_drop_is : (solid : Solid) (part : List Tri) (x y from start tip z : ℤ) → start ≤ℤ (from +ℤ solid.lift) → from ≤ℤ z → (tip -ℤ solid.lift) ≤ℤ z
    → (z ≡ from) ⊎ (z ≡ tip -ℤ solid.lift) → IsSolidDrop (at_tip solid.cutter) part x y start tip → IsSolidDrop solid part x y from z
solid_drop_is solid part x y from start tip z begins kept over least drop = record {
  kept = kept;
  free = λ higher up g. drop.free (higher +ℤ solid.lift) (raised solid.lift tip z higher over up) (cutter_gouges solid part x y higher g);
  least = λ lower low under. elim least [
    | inl same ↦ absurd (none lower from z low under same)
    | inr same ↦ solid_gouges solid part x y lower
        (drop.least (lower +ℤ solid.lift) (after solid.lift start from lower begins low) (before solid.lift lower tip z under same))
  ];
}
  where
    raised : (s t z h : ℤ) → (t -ℤ s) ≤ℤ z → z ≤ℤ h → t ≤ℤ (h +ℤ s)
    raised s t z h a b = omega (arith, ints)

    none : (l f z : ℤ) → f ≤ℤ l → l <ℤ z → z ≡ f → ⊥
    none l f z a b e = omega (arith, ints)

    after : (s b f l : ℤ) → b ≤ℤ (f +ℤ s) → f ≤ℤ l → b ≤ℤ (l +ℤ s)
    after s b f l a c = omega (arith, ints)

    before : (s l t z : ℤ) → l <ℤ z → z ≡ t -ℤ s → (l +ℤ s) <ℤ t
    before s l t z a e = omega (arith, ints)

-- without a holder, the cutter's drop height is the tool's
bare_drop_is : (tool : Tool) (part : List Tri) (x y floor z : ℤ) → tool.holder ≡ None → IsSolidDrop tool.cutter part x y floor z → IsDropHeight tool part x y floor z
bare_drop_is tool part x y floor z none drop = record {
  kept = drop.kept;
  free = λ higher up g. elim g [
    | inl c ↦ drop.free higher up c
    | inr h ↦ subst (λ o. MatchOption o ⊥ (λ holder. SolidGougesAt holder part x y higher)) none h
  ];
  least = λ lower low under. inl (drop.least lower low under);
}

-- with one, it is the holder's from the cutter's on
held_drop_is : (tool : Tool) (holder : Solid) (part : List Tri) (x y floor height z : ℤ) → tool.holder ≡ Some holder → IsSolidDrop tool.cutter part x y floor height
    → IsSolidDrop holder part x y height z → IsDropHeight tool part x y floor z
held_drop_is tool holder part x y floor height z some cutter drop = record {
  kept = through floor height z cutter.kept drop.kept;
  free = λ higher up g. elim g [
    | inl c ↦ cutter.free higher (through height z higher drop.kept up) c
    | inr h ↦ drop.free higher up (subst (λ o. MatchOption o ⊥ (λ holder. SolidGougesAt holder part x y higher)) some h)
  ];
  least = λ lower low under. by lower low under (int_lt lower height) refl;
}
  where
    through : (a b c : ℤ) → a ≤ℤ b → b ≤ℤ c → a ≤ℤ c
    through a b c h k = omega (arith, ints)

    is_under : (l h : ℤ) → int_lt l h ≡ true → l <ℤ h
    is_under l h e = omega (e, arith, ints)

    is_over : (l h : ℤ) → int_lt l h ≡ false → h ≤ℤ l
    is_over l h e = omega (e, arith, ints)

    by : (lower : ℤ) → floor ≤ℤ lower → lower <ℤ z → (t : Bool) → int_lt lower height ≡ t → GougesAt tool part x y lower
    by lower low under true e = inl (cutter.least lower low (is_under lower height e))
    by lower low under false e =
        inr (subst (λ o. MatchOption o ⊥ (λ holder. SolidGougesAt holder part x y lower)) (sym some) (drop.least lower (is_over lower height e) under))

-- a solid raises the tool no further than its own tip may be
pub under_top : (solid : Solid) (from tip z : ℤ) → tip ≤ℤ pos MAX_COORDINATE → (z ≡ from) ⊎ (z ≡ tip -ℤ solid.lift) → (z ≡ from) ⊎ IsUnderTop solid z
under_top solid from tip z most least = elim least [
  | inl same ↦ inl same
  | inr same ↦ inr (under solid.lift tip z most same)
]
  where
    under : (s t z : ℤ) → t ≤ℤ pos MAX_COORDINATE → z ≡ t -ℤ s → (z +ℤ s) ≤ℤ pos MAX_COORDINATE
    under s t z h e = omega (e, arith, ints)

-- so the tool is raised no further than its solids raise it
bare_height : (tool : Tool) (floor z : ℤ) → IsToolHeight z → (z ≡ floor) ⊎ IsUnderTop tool.cutter z → IsHeightFrom tool floor z
bare_height tool floor z in_range reached = record {
  in_range = in_range;
  reached = elim reached [
    | inl same ↦ inl same
    | inr cutter ↦ inr (inl cutter)
  ];
}

held_height : (tool : Tool) (holder : Solid) (floor height z : ℤ) → tool.holder ≡ Some holder → IsToolHeight z → (height ≡ floor) ⊎ IsUnderTop tool.cutter height
    → (z ≡ height) ⊎ IsUnderTop holder z → IsHeightFrom tool floor z
held_height tool holder floor height z some in_range first second = elim second [
  | inl same ↦ bare_height tool floor z in_range (subst (λ (h : ℤ). (h ≡ floor) ⊎ IsUnderTop tool.cutter h) (sym same) first)
  | inr held ↦ record {
    in_range = in_range;
    reached = inr (inr (subst (λ o. MatchOption o ⊥ (λ h. IsUnderTop h z)) (sym some) held));
  }
]

-- ---- and as the machine stores the place and the heights

module _ (tool : Tool) (part : List Tri) (x y floor : ℤ) (x_fits : FitsSigned w32 x) (y_fits : FitsSigned w32 y) (floor_fits : FitsSigned w32 floor) where
  -- how high one solid raises the tool from there, as it is worked out
  pub record Raises (solid : Solid) (from z : ℤ) : Type 0 where
    pub drop : IsSolidDrop solid part (stored w32 x) (stored w32 y) (stored w32 from) z
    pub bound : IsToolHeight z
    pub reached : (z ≡ stored w32 from) ⊎ IsUnderTop solid z

  plain : (solid : Solid) (from z : ℤ) → stored w32 from ≡ from → Raises solid from z → IsSolidDrop solid part x y from z
  plain solid from z kept raises = rw (to_z-of_z w32 x x_fits, to_z-of_z w32 y y_fits, kept) at raises.drop

  module _ (height : ℤ) (cutter : Raises tool.cutter floor height) where
    begins : IsSolidDrop tool.cutter part x y floor height
    begins = plain tool.cutter floor height (to_z-of_z w32 floor floor_fits) cutter

    up : (height ≡ floor) ⊎ IsUnderTop tool.cutter height
    up = rw (to_z-of_z w32 floor floor_fits) at cutter.reached

    pub bare_stored : tool.holder ≡ None → IsDropHeight tool part x y floor (stored w32 height)
    bare_stored none = rw (tool_stored height cutter.bound) (bare_drop_is tool part x y floor height none begins)

    pub bare_from : IsHeightFrom tool floor (stored w32 height)
    bare_from = rw (tool_stored height cutter.bound) (bare_height tool floor height cutter.bound up)

    module _ (holder : Solid) (z : ℤ) (some : tool.holder ≡ Some holder) (held : Raises holder height z) where
      pub held_stored : IsDropHeight tool part x y floor (stored w32 z)
      held_stored = rw (tool_stored z held.bound)
          (held_drop_is tool holder part x y floor height z some begins (plain holder height z (tool_stored height cutter.bound) held))

      pub held_from : IsHeightFrom tool floor (stored w32 z)
      held_from = rw (tool_stored z held.bound) (held_height tool holder floor height z some held.bound up (rw (tool_stored height cutter.bound) at held.reached))
