-- The obstacles of a job and a part stay under the clear height, and what is said of moves that keep off them is said of the plan.
use Rattle.std.specs.Prelude.{◌≡◌, Bool, true, ◌==◌, ℤ, ◌+ℤ◌, ◌-ℤ◌, ◌≤ℤ◌, List, [], length, All, Contains, Result, IfErr, IfOk}
use Rattle.std.specs.Global.{Vec}
use Rattle.std.proofs.Common.{sym, ◌∙◌, subst, arith}
use Rattle.std.proofs.lemmas.Bool.{eqb-true}
use Rattle.std.proofs.lemmas.Int.{ints}
use Rattle.std.proofs.lemmas.List.{nil_from_length}
use Rattle.std.proofs.lemmas.Result.{IfErr-weaker}
use Rattle.std.proofs.lemmas.List.Elements.{All-contains, All-contains_itself, All-weaker}
use Rattle.mill_base.specs.Covers.{IsUnder}
use Rattle.mill_base.specs.declared.motion.Move.{Move}
use Rattle.mill_base.specs.declared.points.Tri.{Tri}
use Rattle.mill_job.specs.Columns.{home}
use Rattle.mill_job.specs.Fixtures.{IsUnder as StaysUnder}
use Rattle.mill_job.specs.Jobs.{IsJob}
use Rattle.mill_job.specs.declared.fields.JobFields.{JobFields}
use Rattle.mill_job.specs.declared.fixtures.Fixture.{Fixture}
use Rattle.mill_job.proofs.Room.{over_fixtures, over_stock}
use Rattle.mill_links.specs.Safety.{GoSafely, LiesUnderClear}
use Rattle.mill_margin.specs.Margins.{offset_of}
use Rattle.mill_obstacles.specs.Faces.{obstacles_of}
use Rattle.mill_obstacles.proofs.Kept.{OfFaces, no_fixtures_no_more, of_obstacles}
use Rattle.mill_plan.specs.Plans.{HasPlan, IsPlanFault}
use Rattle.mill_plan.specs.inner.Conditions.{KeepsOffAll}
use Rattle.mill_plan.specs.inner.Steps.{IsMovesFault}
use Rattle.mill_plan.specs.declared.fault.PlanFault.{PlanFault}
use Rattle.mill_plan.specs.declared.fault.PlanFault.TheVariants.{TooManyNodes, TooManyMoves, Uncut, Held, WantOfMemory}

-- no corner is higher
record IsLow (top : ℤ) (tri : Tri) : Type 0 where
  low : (tri.a.z ≤ℤ top) × (tri.b.z ≤ℤ top) × (tri.c.z ≤ℤ top)

under_top : (part : List Tri) (top high : ℤ) → top ≤ℤ high → IsUnder part top → All (IsLow high) part
under_top part top high order under = All-weaker (Contains part) (IsLow high) (λ tri member. let h = under tri member in
    record { low = (through tri.a.z top high h.0 order, through tri.b.z top high h.1 order, through tri.c.z top high h.2 order) }) part (All-contains_itself part)
  where
    through : (a b c : ℤ) → a ≤ℤ b → b ≤ℤ c → a ≤ℤ c
    through a b c p q = omega (p, q, arith, ints)

less : (z low clear : ℤ) → (z +ℤ low) ≤ℤ clear → z ≤ℤ (clear -ℤ low)
less z low clear h = omega (h, arith, ints)

faces_under : (clear low : ℤ) (f : Fixture) → StaysUnder clear low f → OfFaces (IsLow (clear -ℤ low)) f
faces_under clear low f stays = let h = less f.height low clear stays.under in record { first = record { low = (h, h, h) }; second = record { low = (h, h, h) } }

pub lies_under_clear : (job : JobFields) (part : List Tri) → IsJob job → IsUnder part job.top → LiesUnderClear job (obstacles_of job part)
lies_under_clear job part ok under tri member =
    let low : ℤ = offset_of job.cutter job.slack in
    (All-contains (IsLow (job.clear -ℤ low)) (obstacles_of job part) tri
    (of_obstacles (IsLow (job.clear -ℤ low)) job part (under_top part job.top (job.clear -ℤ low) (less job.top low job.clear (over_stock job job.cutter ok.room)) under)
    (All-weaker (StaysUnder job.clear low) (OfFaces (IsLow (job.clear -ℤ low))) (faces_under job.clear low) job.keep_out (over_fixtures job job.cutter ok.room))) member).low

-- a fault of the moves is the planner's
pub fault_told : (job : JobFields) (part : List Tri) (fault : PlanFault) → IsMovesFault job (obstacles_of job part) fault → IsPlanFault job part fault
fault_told job part (TooManyNodes nodes) told = told
fault_told job part TooManyMoves told = told
fault_told job part (Uncut row col top) told = absurd told
fault_told job part (Held number row col) told = absurd told
fault_told job part WantOfMemory told = tt

-- without fixtures they are the part
pub part_alone : (job : JobFields) (part : List Tri) (fixtures : List Fixture) (empty : Bool) → fixtures ≡ job.keep_out → empty ≡ (length fixtures == 0) → empty ≡ true → part ≡ obstacles_of job part
part_alone job part fixtures empty are test holds =
    sym (no_fixtures_no_more job part (sym are ∙ nil_from_length fixtures (eqb-true (length fixtures) 0 (sym test ∙ holds))))

-- what holds of the moves that keep off all this, where it is the obstacles
module _ (job : JobFields) (part all : List Tri) (is : all ≡ obstacles_of job part) where
  pub low_is : IsJob job → IsUnder part job.top → LiesUnderClear job all
  low_is ok under = subst (LiesUnderClear job) (sym is) (lies_under_clear job part ok under)

  module _ (r : Result (Vec Move) PlanFault) where
    pub plan_is : IfOk r (λ moves. HasPlan job all moves.items) → IfOk r (λ moves. HasPlan job (obstacles_of job part) moves.items)
    plan_is h = subst (λ (tris : List Tri). IfOk r (λ moves. HasPlan job tris moves.items)) is h

    pub safe_is : IfOk r (λ moves. GoSafely job all [] (home job) moves.items (home job)) → IfOk r (λ moves. KeepsOffAll job part moves.items)
    safe_is h = subst (λ (tris : List Tri). IfOk r (λ moves. GoSafely job tris [] (home job) moves.items (home job))) is h

    pub fault_is : IfErr r (IsMovesFault job all) → IfErr r (IsPlanFault job part)
    fault_is h = IfErr-weaker r (IsMovesFault job (obstacles_of job part)) (IsPlanFault job part) (fault_told job part) (subst (λ (tris : List Tri). IfErr r (IsMovesFault job tris)) is h)
