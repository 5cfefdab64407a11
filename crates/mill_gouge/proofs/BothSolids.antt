-- A tool passes what its cutter and its holder pass.
use Rattle.std.proofs.Common.{◌≡◌, ◌↔◌, ◌∙◌, Bool, true, false, List, Option, Some, None, refl, sym, subst}
use Rattle.std.specs.Prelude.{IfSome}
use Rattle.mill_base.specs.declared.points.Tri.{Tri}
use Rattle.mill_base.specs.declared.motion.Move.{Move}
use Rattle.mill_base.specs.Solids.{Solid}
use Rattle.mill_base.specs.declared.tool.Tool.{Tool}
use Rattle.mill_gouge.specs.Gouges.{PassesPart, ToolPassesPart}

-- a tool doesn't pass what its cutter doesn't
pub cutter_stops : (tool : Tool) (m : Move) (part : List Tri) (b : Bool) → b ≡ false → ((b ≡ true) ↔ PassesPart tool.cutter m part) → (false ≡ true) ↔ ToolPassesPart tool m part
cutter_stops tool m part b stops h = (λ e. absurd (cc), λ both. sym stops ∙ h.1 both.cutter)

-- one without a holder passes what its cutter does
pub bare_passes : (tool : Tool) (m : Move) (part : List Tri) → tool.holder ≡ None → PassesPart tool.cutter m part → (true ≡ true) ↔ ToolPassesPart tool m part
bare_passes tool m part bare passes = (
  λ e. record {
    cutter = passes;
    holder = subst (λ (o : Option Solid). IfSome o (λ holder. PassesPart holder m part)) (sym bare) tt;
  },
  λ both. refl,
)

-- one with a holder, whose cutter passes, passes what the holder does
pub held_passes : (tool : Tool) (m : Move) (part : List Tri) (holder : Solid) (b : Bool) → tool.holder ≡ Some holder → PassesPart tool.cutter m part → ((b ≡ true) ↔ PassesPart holder m part)
    → (b ≡ true) ↔ ToolPassesPart tool m part
held_passes tool m part holder b held passes h = (
  λ yes. record {
    cutter = passes;
    holder = subst (λ (o : Option Solid). IfSome o (λ v. PassesPart v m part)) (sym held) (h.0 yes);
  },
  λ both. h.1 (subst (λ (o : Option Solid). IfSome o (λ v. PassesPart v m part)) held both.holder),
)
