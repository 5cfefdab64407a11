-- A job and a part have at most one answer of the planner.
use Rattle.std.specs.Prelude.{◌≡◌, ℕ, ◌<◌, ◌≤◌, ℤ, List, length}
use Rattle.std.proofs.Common.{refl, sym, ap, ◌∙◌, subst, arith}
use Rattle.mill_base.specs.declared.motion.Move.{Move}
use Rattle.mill_base.specs.declared.points.Tri.{Tri}
use Rattle.mill_job.specs.declared.fields.JobFields.{JobFields}
use Rattle.mill_paths.specs.Unique.{OnePlan}
use Rattle.mill_obstacles.specs.Faces.{obstacles_of}
use Rattle.mill_sweep.specs.declared.leaf.Leaf.{Leaf}
use Rattle.mill_verify.specs.Verdicts.{IsVerdict, OneVerdict}
use Rattle.mill_verify.specs.declared.verdict.Verdict.{Verdict}
use Rattle.mill_verify.specs.declared.verdict.Verdict.TheVariants.{Accept, Reject}
use Rattle.mill_verify.specs.declared.verdict.Reason.TheVariants.{HolderStock, Left}
use Rattle.mill_plan.specs.Laws.{OnePlanAnswer}
use Rattle.mill_plan.specs.Plans.{PlanAnswer, done, too_many_nodes, too_many_moves, uncut, held, HasPlan, IsDone, IsHeld, IsOverMoves, IsPlanAnswer, IsUncut, plan_text}
use Rattle.mill_plan.proofs.NodeLimits.{few_not_over, one_over}

-- the numbers of two acceptances that are equal, and the column of two rejections
same_done : (t u : List ℕ) (n m c d : ℕ) (x y : ℤ) → t ≡ u → Accept n c x ≡ Accept m d y → done t n c x ≡ done u m d y
same_done t u n m c d x y text verdict = cc

same_uncut : (j i k l : ℕ) (s t : ℤ) → Reject (Left j i s) ≡ Reject (Left k l t) → uncut j i s ≡ uncut k l t
same_uncut j i k l s t verdict = cc

same_held : (n j i m k l : ℕ) (leaf other : Leaf) → Reject (HolderStock n j i leaf) ≡ Reject (HolderStock m k l other) → held n j i ≡ held m k l
same_held n j i m k l leaf other verdict = cc

-- verdicts of two kinds aren't equal
apart : (n c j i : ℕ) (x t : ℤ) → Accept n c x ≡ Reject (Left j i t) → ⊥
apart n c j i x t verdict = cc

apart_held : (n c k j i : ℕ) (x : ℤ) (leaf : Leaf) → Accept n c x ≡ Reject (HolderStock k j i leaf) → ⊥
apart_held n c k j i x leaf verdict = cc

left_or_held : (j i m k l : ℕ) (t : ℤ) (leaf : Leaf) → Reject (Left j i t) ≡ Reject (HolderStock m k l leaf) → ⊥
left_or_held j i m k l t leaf verdict = cc

not_both : (n : ℕ) → n ≤ 1000000 → 1000000 < n → ⊥
not_both n few many = omega (few, many, arith)

module _ (one : OnePlan) (verdict : OneVerdict) (job : JobFields) (part : List Tri) where
  abbrev all : List Tri
  all = obstacles_of job part

  -- a plan isn't too long and short enough
  not_long : (moves : List Move) → HasPlan job all moves → IsOverMoves job all → ⊥
  not_long moves plan over = not_both (length moves) plan.few (over.many moves plan.is)

  -- verdicts on plans are on one list of moves
  on_plan : (v w : Verdict) (a b : List Move) → HasPlan job all a → HasPlan job all b → IsVerdict job part a v → IsVerdict job part b w → v ≡ w
  on_plan v w a b plan_a plan_b is_a is_b =
      verdict job part b v w (subst (λ (moves : List Move). IsVerdict job part moves v) (one job all a b plan_a.is plan_b.is) is_a) is_b

  both_done : (t u : List ℕ) (n m c d : ℕ) (x y : ℤ) → IsDone job part t n c x → IsDone job part u m d y → done t n c x ≡ done u m d y
  both_done t u n m c d x y a b =
      same_done t u n m c d x y
      (a.written ∙ ap (plan_text job) (one job all a.moves b.moves a.plan.is b.plan.is) ∙ sym b.written)
      (on_plan (Accept n c x) (Accept m d y) a.moves b.moves a.plan b.plan a.accepted b.accepted)

  done_or_uncut : (t : List ℕ) (n c j i : ℕ) (x s : ℤ) → IsDone job part t n c x → IsUncut job part j i s → ⊥
  done_or_uncut t n c j i x s a b = apart n c j i x s (on_plan (Accept n c x) (Reject (Left j i s)) a.moves b.moves a.plan b.plan a.accepted b.left)

  both_uncut : (j i k l : ℕ) (s t : ℤ) → IsUncut job part j i s → IsUncut job part k l t → uncut j i s ≡ uncut k l t
  both_uncut j i k l s t a b = same_uncut j i k l s t (on_plan (Reject (Left j i s)) (Reject (Left k l t)) a.moves b.moves a.plan b.plan a.left b.left)

  done_or_held : (t : List ℕ) (n c k j i : ℕ) (x : ℤ) → IsDone job part t n c x → IsHeld job part k j i → ⊥
  done_or_held t n c k j i x a b =
      apart_held n c k j i x b.leaf (on_plan (Accept n c x) (Reject (HolderStock k j i b.leaf)) a.moves b.moves a.plan b.plan a.accepted b.stopped)

  uncut_or_held : (j i m k l : ℕ) (s : ℤ) → IsUncut job part j i s → IsHeld job part m k l → ⊥
  uncut_or_held j i m k l s a b =
      left_or_held j i m k l s b.leaf (on_plan (Reject (Left j i s)) (Reject (HolderStock m k l b.leaf)) a.moves b.moves a.plan b.plan a.left b.stopped)

  both_held : (n j i m k l : ℕ) → IsHeld job part n j i → IsHeld job part m k l → held n j i ≡ held m k l
  both_held n j i m k l a b =
      same_held n j i m k l a.leaf b.leaf
      (on_plan (Reject (HolderStock n j i a.leaf)) (Reject (HolderStock m k l b.leaf)) a.moves b.moves a.plan b.plan a.stopped b.stopped)

  one_answer : (a b : PlanAnswer) → IsPlanAnswer job part a → IsPlanAnswer job part b → a ≡ b
  one_answer (done t n c x) (done u m d y) h g = both_done t u n m c d x y h g
  one_answer (done t n c x) (too_many_nodes m) h g = absurd (few_not_over job m h.plan.nodes g)
  one_answer (done t n c x) too_many_moves h g = absurd (not_long h.moves h.plan g)
  one_answer (done t n c x) (uncut j i s) h g = absurd (done_or_uncut t n c j i x s h g)
  one_answer (done t n c x) (held k j i) h g = absurd (done_or_held t n c k j i x h g)
  one_answer (too_many_nodes n) (done t m c x) h g = absurd (few_not_over job n g.plan.nodes h)
  one_answer (too_many_nodes n) (too_many_nodes m) h g = ap too_many_nodes (one_over job n m h g)
  one_answer (too_many_nodes n) too_many_moves h g = absurd (few_not_over job n g.nodes h)
  one_answer (too_many_nodes n) (uncut j i s) h g = absurd (few_not_over job n g.plan.nodes h)
  one_answer (too_many_nodes n) (held k j i) h g = absurd (few_not_over job n g.plan.nodes h)
  one_answer too_many_moves (done t n c x) h g = absurd (not_long g.moves g.plan h)
  one_answer too_many_moves (too_many_nodes m) h g = absurd (few_not_over job m h.nodes g)
  one_answer too_many_moves too_many_moves h g = refl
  one_answer too_many_moves (uncut j i s) h g = absurd (not_long g.moves g.plan h)
  one_answer too_many_moves (held k j i) h g = absurd (not_long g.moves g.plan h)
  one_answer (uncut j i s) (done t n c x) h g = absurd (done_or_uncut t n c j i x s g h)
  one_answer (uncut j i s) (too_many_nodes m) h g = absurd (few_not_over job m h.plan.nodes g)
  one_answer (uncut j i s) too_many_moves h g = absurd (not_long h.moves h.plan g)
  one_answer (uncut j i s) (uncut k l t) h g = both_uncut j i k l s t h g
  one_answer (uncut j i s) (held m k l) h g = absurd (uncut_or_held j i m k l s h g)
  one_answer (held k j i) (done t n c x) h g = absurd (done_or_held t n c k j i x g h)
  one_answer (held k j i) (too_many_nodes m) h g = absurd (few_not_over job m h.plan.nodes g)
  one_answer (held k j i) too_many_moves h g = absurd (not_long h.moves h.plan g)
  one_answer (held m k l) (uncut j i s) h g = absurd (uncut_or_held j i m k l s g h)
  one_answer (held n j i) (held m k l) h g = both_held n j i m k l h g

pub one_plan_answer : OnePlan → OneVerdict → OnePlanAnswer
one_plan_answer one verdict job part a b h g = one_answer one verdict job part a b h g
