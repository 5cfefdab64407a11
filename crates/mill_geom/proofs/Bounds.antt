-- How far the coordinates of offsets are from 0.
use Rattle.std.proofs.Common.{ℕ, List, [], ◌∷◌}
use lib.IntN.{ℤ}
use Rattle.mill_base.proofs.Range.{Bounded}
use Rattle.mill_geom.specs.declared.offset.Offset.{Offset}
use Rattle.mill_geom.specs.Widths.{farthest, most_lift}
use Rattle.mill_geom.specs.Offsets.{OffsetInRange, PlanInRange, LiftedInRange}

-- of two offsets in x and y
abbrev pub plan_of : Offset → Offset → List ℤ
plan_of p q = p.x ∷ p.y ∷ q.x ∷ q.y ∷ []

abbrev pub plan_bounds : List ℕ
plan_bounds = farthest ∷ farthest ∷ farthest ∷ farthest ∷ []

pub plan_in : (p q : Offset) → PlanInRange p → PlanInRange q → Bounded (plan_of p q) plan_bounds
plan_in p q hp hq = (hp.x_ok.within, (hp.y_ok.within, (hq.x_ok.within, (hq.y_ok.within, tt))))

-- of three offsets
abbrev pub space_of : Offset → Offset → Offset → List ℤ
space_of a b c = a.x ∷ a.y ∷ a.z ∷ b.x ∷ b.y ∷ b.z ∷ c.x ∷ c.y ∷ c.z ∷ []

abbrev pub space_bounds : List ℕ
space_bounds = farthest ∷ farthest ∷ farthest ∷ farthest ∷ farthest ∷ farthest ∷ farthest ∷ farthest ∷ farthest ∷ []

pub space_in : (a b c : Offset) → OffsetInRange a → OffsetInRange b → OffsetInRange c → Bounded (space_of a b c) space_bounds
space_in a b c ha hb hc = (ha.x_ok.within, (ha.y_ok.within, (ha.z_ok.within, (hb.x_ok.within, (hb.y_ok.within, (hb.z_ok.within, (hc.x_ok.within, (hc.y_ok.within, (hc.z_ok.within, tt)))))))))

-- of three offsets with scaled heights
abbrev pub lifted_bounds : List ℕ
lifted_bounds = farthest ∷ farthest ∷ most_lift ∷ farthest ∷ farthest ∷ most_lift ∷ farthest ∷ farthest ∷ most_lift ∷ []

pub lifted_in : (a b c : Offset) → LiftedInRange a → LiftedInRange b → LiftedInRange c → Bounded (space_of a b c) lifted_bounds
lifted_in a b c ha hb hc = (ha.x_ok.within, (ha.y_ok.within, (ha.z_ok.within, (hb.x_ok.within, (hb.y_ok.within, (hb.z_ok.within, (hc.x_ok.within, (hc.y_ok.within, (hc.z_ok.within, tt)))))))))
