-- What is proved of a job at most once: the facts that it carries tell no two jobs apart.
use mathlib.Core.HLevel.{collapsible→set}
use mathlib.Core.Sum.{⊎_set}
use Rattle.std.proofs.Props.{props}
use Rattle.std.proofs.Common.{◌≡◌, ◌⊎◌, ◌∙◌, inl, inr, ap, refl, sym}
use Rattle.std.specs.Prelude.{ℤ, List}
use Rattle.mill_base.specs.Sizes.{IsCutter}
use Rattle.mill_base.specs.declared.cutter.Cutter.{Cutter}
use Rattle.mill_base.specs.declared.cutter.Cutter.TheVariants.{Flat, Ball, Cone}
use Rattle.mill_base.specs.declared.unit.Unit.{Unit}
use Rattle.mill_job.specs.Fixtures.{AreFixtures}
use Rattle.mill_job.specs.Jobs.{HasRoom, HolderHasRoom}
use Rattle.mill_job.specs.declared.fixtures.Fixture.{Fixture}
use Rattle.mill_job.specs.declared.fields.JobFields.{JobFields}

-- that a cutter is in range has at most one proof
pub IsCutter-prop : (cutter : Cutter) → IsProp (IsCutter cutter)
IsCutter-prop (Flat r) = Prim.hlevel props
IsCutter-prop (Ball r) = Prim.hlevel props
IsCutter-prop (Cone r rise run) = Prim.hlevel props

-- so have the facts that are opened only where they are looked at
pub HasRoom-prop : (job : JobFields) (cutter : Cutter) → IsProp (HasRoom job cutter)
unfolding HasRoom
HasRoom-prop job cutter = Prim.hlevel props

pub HolderHasRoom-prop : (job : JobFields) → IsProp (HolderHasRoom job)
unfolding HolderHasRoom
HolderHasRoom-prop job = Prim.hlevel props

-- what tells two cutters apart is in their numbers, so an equation between two has one proof at most
numbers : Cutter → ℤ ⊎ (ℤ ⊎ (ℤ × (ℤ × ℤ)))
numbers (Flat r) = inl r
numbers (Ball r) = inr (inl r)
numbers (Cone r rise run) = inr (inr (r, (rise, run)))

cutter_with : ℤ ⊎ (ℤ ⊎ (ℤ × (ℤ × ℤ))) → Cutter
cutter_with (inl r) = Flat r
cutter_with (inr (inl r)) = Ball r
cutter_with (inr (inr n)) = Cone n.0 n.1.0 n.1.1

back : (cutter : Cutter) → cutter_with (numbers cutter) ≡ cutter
unfolding cutter_with numbers
back (Flat r) = refl
back (Ball r) = refl
back (Cone r rise run) = refl

pub Cutter-set : IsSet Cutter
Cutter-set = collapsible→set (λ x y p. sym (back x) ∙ ap cutter_with (ap numbers p) ∙ back y)
    (λ x y p q. ap (λ z. sym (back x) ∙ ap cutter_with z ∙ back y) (⊎_set (Prim.hlevel props) (⊎_set (Prim.hlevel props) (Prim.hlevel props)) (numbers x) (numbers y) (ap numbers p) (ap numbers q)))

pub AreFixtures-prop : (unit : Unit) (fixtures : List Fixture) → IsProp (AreFixtures unit fixtures)
unfolding AreFixtures
AreFixtures-prop unit fixtures = Prim.hlevel props

pub ruleset job_props = (props, IsCutter-prop, Cutter-set, HasRoom-prop, HolderHasRoom-prop, AreFixtures-prop)
