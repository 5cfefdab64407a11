-- Programs that are built move by move.
use Rattle.std.specs.Prelude.{◌≡◌, ℕ, ◌<◌, List, [], ◌∷◌, ◌++◌}
use Rattle.std.proofs.Common.{sym, subst, inl, inr, arith}
use Rattle.std.proofs.lemmas.List.{append_assoc, append-nil}
use Rattle.std.proofs.lemmas.List.Elements.{Contains-push_cases}
use Rattle.mill_base.specs.Motion.{Follow}
use Rattle.mill_base.specs.Ranges.{IsInRange, MoveInRange, MovesInRange}
use Rattle.mill_base.specs.declared.points.Pt3.{Pt3}
use Rattle.mill_base.specs.declared.motion.Move.{Move}

-- moves that lead from a start to a place
pub record LeadTo (start at : Pt3) (moves : List Move) : Type 0 where
  pub range : MovesInRange moves
  pub at_ok : IsInRange at
  pub follow : (rest : List Move) → Follow at rest → Follow start (moves ++ rest)

pub leads_none : (start : Pt3) (moves : List Move) → IsInRange start → moves ≡ [] → LeadTo start start moves
leads_none start moves ok e = subst (LeadTo start start) (sym e) (record { range = λ m member. absurd (nothing _ member.1); at_ok = ok; follow = λ rest h. h })
  where
    nothing : (k : ℕ) → k < 0 → ⊥
    nothing k h = omega (h, arith)

-- one move more
pub leads_more : (start at : Pt3) (moves after : List Move) (m : Move) → LeadTo start at moves → m.from ≡ at → MoveInRange m → after ≡ moves ++ m ∷ [] → LeadTo start m.to after
leads_more start at moves after m before from ok e = subst (LeadTo start m.to) (sym e) (record {
  range = λ x member. elim (Contains-push_cases moves m x member) [ inl old ↦ before.range x old | inr new ↦ subst MoveInRange new ok ];
  at_ok = ok.to_ok;
  follow = λ rest h. subst (Follow start) (sym (append_assoc moves (m ∷ []) rest)) (before.follow (m ∷ rest) (from, h));
})

pub leads_follow : (start at : Pt3) (moves : List Move) → LeadTo start at moves → Follow start moves
leads_follow start at moves h = subst (Follow start) (append-nil moves) (h.follow [] tt)
