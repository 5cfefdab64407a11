-- The round through a plan's visits is the plan, and what keeps the planner from it.
use Rattle.std.specs.Prelude.{◌≡◌, ◌↔◌, ℕ, ◌<◌, ◌≤◌, pos, ◌<ℤ◌, List, [], ◌++◌, length, All, Result, Ok, Err, IfOk, IsErrOf}
use Rattle.std.specs.Global.{Vec}
use Rattle.std.proofs.Common.{inl, inr, sym, subst, arith}
use Rattle.std.proofs.lemmas.List.Elements.{All-append}
use Rattle.mill_base.specs.declared.motion.Move.{Move}
use Rattle.mill_base.specs.declared.points.Tri.{Tri}
use Rattle.mill_job.specs.Columns.{home}
use Rattle.mill_job.specs.Jobs.{IsJob}
use Rattle.mill_job.specs.declared.fields.JobFields.{JobFields}
use Rattle.mill_links.specs.Safety.{GoSafely, LiesUnderClear}
use Rattle.mill_links.specs.declared.visit.Visit.{Visit}
use Rattle.mill_paths.specs.Lattices.{finish_lattice, rough_lattice}
use Rattle.mill_paths.specs.Limits.{HasManyNodes}
use Rattle.mill_paths.specs.Plans.{ArePlanVisits, IsPlan}
use Rattle.mill_paths.specs.Visits.{AreFinishVisits, AreLevelVisits, AreRoughVisits, HaveManyFinishVisits, HaveManyLevelVisits, HaveManyRoughVisits, IsVisit}
use Rattle.mill_paths.specs.declared.fault.PathFault.{PathFault}
use Rattle.mill_paths.specs.declared.fault.PathFault.TheVariants as path
use Rattle.mill_paths.proofs.Lengths.{many_finish, many_level, many_rough, plan_is_longer}
use Rattle.mill_paths.proofs.Rounds.{round_is_safe}
use Rattle.mill_paths.proofs.Uniqueness.{one_plan}
use Rattle.mill_plan.specs.Faults.{plan_fault_of}
use Rattle.mill_plan.specs.Plans.{HasFewNodes, HasPlan}
use Rattle.mill_base.specs.declared.limits.TheConstants.{MAX_MOVES}
use Rattle.mill_plan.specs.inner.Steps.{IsMovesFault, IsRound, IsRoundFault}
use Rattle.mill_plan.specs.declared.fault.PlanFault.{PlanFault}
use Rattle.mill_plan.specs.declared.fault.PlanFault.TheVariants.{TooManyNodes, TooManyMoves, Uncut, Held, WantOfMemory}

over : (a b c : ℕ) → a < b → b ≤ c → a < c
over a b c h g = omega (h, g, arith)

module _ (job : JobFields) (part : List Tri) where
  -- the three lists of visits, one after the other, are the plan's, and places that it may come to
  pub visits_joined : (rough level finish visits : List Visit) → AreRoughVisits job part rough → AreLevelVisits job part level → AreFinishVisits job part finish
      → visits ≡ rough ++ level ++ finish → ArePlanVisits job part visits
  visits_joined rough level finish visits are_rough are_level are_finish joined = record {
    rough = rough;
    level = level;
    finish = finish;
    are_rough = are_rough;
    are_level = are_level;
    are_finish = are_finish;
    all = joined;
  }

  pub each_joined : (rough level finish visits : List Visit) → All (IsVisit job part) rough → All (IsVisit job part) level → All (IsVisit job part) finish
      → visits ≡ rough ++ level ++ finish → All (IsVisit job part) visits
  each_joined rough level finish visits rough_ok level_ok finish_ok joined =
      subst (λ (vs : List Visit). All (IsVisit job part) vs) (sym joined)
      (All-append (IsVisit job part) (rough ++ level) finish (All-append (IsVisit job part) rough level rough_ok level_ok) finish_ok)

  -- the round through the visits is the plan
  plan_of : (visits : List Visit) (moves : List Move) → ArePlanVisits job part visits → IsRound job part visits moves → IsPlan job part moves
  plan_of visits moves are round = record { visits = visits; are = are; toured = round.toured; tour = round.tour; joined = round.joined }

  -- it goes safely
  pub plan_goes : (visits : List Visit) (moves : List Move) → IsJob job → LiesUnderClear job part → All (IsVisit job part) visits → IsRound job part visits moves
      → GoSafely job part [] (home job) moves (home job)
  plan_goes visits moves ok under each round =
      subst (λ (ms : List Move). GoSafely job part [] (home job) ms (home job)) (sym round.joined)
      (round_is_safe job part visits round.toured ok under each round.tour)

  -- a fault of the round is the planner's
  pub round_told : (visits : List Visit) (fault : PlanFault) → HasFewNodes job → ArePlanVisits job part visits → IsRoundFault job part visits fault → IsMovesFault job part fault
  round_told visits (TooManyNodes n) nodes are h = absurd h
  round_told visits TooManyMoves nodes are (inl begun) = record {
    nodes = nodes;
    shown = inr (inl (record { visits = visits; are = are; begun = begun.begun; begins = begun.begins; many = begun.many }));
    many = λ moves plan. over MAX_MOVES (length begun.begun) (length moves) begun.many (plan_is_longer job part visits begun.begun moves are begun.begins plan);
  }
  round_told visits TooManyMoves nodes are (inr long) =
      let made : IsPlan job part long.moves = plan_of visits long.moves are long.round in
      record {
        nodes = nodes;
        shown = inr (inr (record { moves = long.moves; plan = made; many = long.many }));
        many = λ moves plan. subst (λ (ms : List Move). MAX_MOVES < length ms) (one_plan job part long.moves moves made plan) long.many;
      }
  round_told visits (Uncut row col top) nodes are h = absurd h
  round_told visits (Held number row col) nodes are h = absurd h
  round_told visits WantOfMemory nodes are h = tt

  -- so is one that the roughing, the level or the finishing visits meet
  pub rough_told : {T : Type 0} (r : Result T PathFault) (fault : PathFault) → r ≡ Err fault → HasFewNodes job
      → ((n : ℕ) → IsErrOf r (path.TooManyNodes n) ↔ (((pos 0) <ℤ job.layer) × HasManyNodes (rough_lattice job) n))
      → (IsErrOf r path.TooManyVisits → ((pos 0) <ℤ job.layer) × HaveManyRoughVisits job part) → IsMovesFault job part (plan_fault_of fault)
  rough_told r (path.TooManyNodes n) is nodes many visits = let h = (many n).0 is in inr (record { finish = nodes.finish; layer = h.0; rough = h.1 })
  rough_told r path.TooManyVisits is nodes many visits = let h = visits is in record { nodes = nodes; shown = inl (inl h.1); many = λ moves plan. many_rough job part moves h.0 h.1 plan }
  rough_told r path.WantOfMemory is nodes many visits = tt

  pub level_told : {T : Type 0} (r : Result T PathFault) (fault : PathFault) → r ≡ Err fault → HasFewNodes job
      → ((n : ℕ) → IsErrOf r (path.TooManyNodes n) ↔ ((0 < length job.levels) × HasManyNodes (finish_lattice job) n))
      → (IsErrOf r path.TooManyVisits → HaveManyLevelVisits job part) → IsMovesFault job part (plan_fault_of fault)
  level_told r (path.TooManyNodes n) is nodes many visits = inl ((many n).0 is).1
  level_told r path.TooManyVisits is nodes many visits = record { nodes = nodes; shown = inl (inr (inl (visits is))); many = λ moves plan. many_level job part moves (visits is) plan }
  level_told r path.WantOfMemory is nodes many visits = tt

  pub finish_told : {T : Type 0} (r : Result T PathFault) (fault : PathFault) → r ≡ Err fault → HasFewNodes job
      → ((n : ℕ) → IsErrOf r (path.TooManyNodes n) ↔ HasManyNodes (finish_lattice job) n)
      → (IsErrOf r path.TooManyVisits → HaveManyFinishVisits job part) → IsMovesFault job part (plan_fault_of fault)
  finish_told r (path.TooManyNodes n) is nodes many visits = inl ((many n).0 is)
  finish_told r path.TooManyVisits is nodes many visits = record { nodes = nodes; shown = inl (inr (inr (visits is))); many = λ moves plan. many_finish job part moves (visits is) plan }
  finish_told r path.WantOfMemory is nodes many visits = tt

-- where a round of few moves is made, it is the plan
pub plan_if_made : (job : JobFields) (part : List Tri) (visits : List Visit) → HasFewNodes job → ArePlanVisits job part visits
    → (r : Result (Vec Move) PlanFault) → IfOk r (λ moves. IsRound job part visits moves.items) → IfOk r (λ moves. length moves.items ≤ MAX_MOVES)
    → IfOk r (λ moves. HasPlan job part moves.items)
plan_if_made job part visits nodes are (Ok moves) round few = record { nodes = nodes; is = plan_of job part visits moves.items are round; few = few }
plan_if_made job part visits nodes are (Err fault) round few = tt
