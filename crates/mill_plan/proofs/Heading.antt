-- What a plan begins with, and the text of it.
use Rattle.std.specs.Prelude.{◌≡◌, ℕ, ◌+◌, ◌-◌, ◌≤◌, Bool, true, false, if◌then◌else◌, is_some, List, [], ◌∷◌, ◌++◌, length, take, drop, Option, None, Some}
use Rattle.std.proofs.Common.{refl, sym, ap, ◌∙◌, arith}
use Rattle.std.proofs.lemmas.List.{append_assoc, length-append, length-drop, take_all}
use Rattle.std.proofs.Math.Seq.{drop-append_seam}
use Rattle.mill_base.specs.declared.motion.Move.{Move}
use Rattle.mill_base.specs.declared.points.Pt3.{Pt3}
use Rattle.mill_base.specs.declared.points.Tri.{Tri}
use Rattle.mill_job.specs.Columns.{home}
use Rattle.mill_job.specs.Habits.{is_elsewhere}
use Rattle.mill_job.specs.declared.fields.JobFields.{JobFields}
use Rattle.mill_links.specs.Links.{head, stay, way_home}
use Rattle.mill_links.specs.Tours.{last_place}
use Rattle.mill_ngc.specs.Writing.{head_moves}
use Rattle.mill_paths.specs.Plans.{IsPlan}
use Rattle.mill_plan.specs.Plans.{begin_of, behind_head}
use Rattle.mill_plan.specs.inner.Conditions.{BeginsWithHead}

module _ (job : JobFields) where
  -- they are the moves of the way to home, which the text has where a program may start from elsewhere
  head_is : head job ≡ head_moves (begin_of job)
  unfolding head
  head_is = by (is_elsewhere job.start)
    where
      by : (b : Bool) → (if b then stay (home job) ∷ stay (home job) ∷ [] else []) ≡ head_moves (if b then Some (home job) else None)
      by true = refl
      by false = refl

  pub begins_elsewhere : is_some (begin_of job) ≡ is_elsewhere job.start
  begins_elsewhere = by (is_elsewhere job.start)
    where
      by : (b : Bool) → is_some (if b then Some (home job) else None) ≡ b
      by true = refl
      by false = refl

  begin_if : (b : Bool) → is_elsewhere job.start ≡ b → begin_of job ≡ (if b then Some (home job) else None)
  begin_if b is = ap (λ (t : Bool). if t then Some (home job) else None) is

  pub begins_nowhere : is_elsewhere job.start ≡ false → None ≡ begin_of job
  begins_nowhere is = sym (begin_if false is)

  pub begins_at : (place : Pt3) → place ≡ home job → is_elsewhere job.start ≡ true → Some place ≡ begin_of job
  begins_at place there is = ap (λ (p : Pt3). Some p) there ∙ sym (begin_if true is)

  head_length : (b : Bool) → is_elsewhere job.start ≡ b → length (head job) ≡ (if b then 2 else 0)
  head_length b is = ap length head_is ∙ ap (λ (o : Option Pt3). length (head_moves o)) (begin_if b is) ∙ by b
    where
      by : (b : Bool) → length (head_moves (if b then Some (home job) else None)) ≡ (if b then 2 else 0)
      by true = refl
      by false = refl

  module _ (moves : List Move) where
    pub none_before : is_elsewhere job.start ≡ false → moves ≡ behind_head job moves
    none_before is = sym (ap (λ n. drop n moves) (head_length false is))

    pub two_before : is_elsewhere job.start ≡ true → take (length moves - 2) (drop 2 moves) ≡ behind_head job moves
    two_before is = take_all (length moves - 2) (drop 2 moves) (omega (length-drop 2 moves, arith)) ∙ sym (ap (λ n. drop n moves) (head_length true is))

    module _ (begins : BeginsWithHead job moves) where
      behind_is : behind_head job moves ≡ begins.rest
      behind_is = ap (λ (ms : List Move). drop (length (head job)) ms) begins.joined ∙ drop-append_seam (head job) begins.rest

      -- with those behind they are all
      pub whole : head_moves (begin_of job) ++ behind_head job moves ≡ moves
      whole = ap (λ (ms : List Move). ms ++ behind_head job moves) (sym head_is) ∙ ap (λ (ms : List Move). head job ++ ms) behind_is ∙ sym begins.joined

      pub two_there : is_elsewhere job.start ≡ true → 2 ≤ length moves
      two_there is = count (length (head job)) (length begins.rest) (length moves) (head_length true is) (ap length begins.joined ∙ length-append (head job) begins.rest)
        where
          count : (a b n : ℕ) → a ≡ 2 → n ≡ a + b → 2 ≤ n
          count a b n two sum = omega (two, sum, arith)

  -- a plan begins so
  pub plan_begins : (all : List Tri) (moves : List Move) → IsPlan job all moves → BeginsWithHead job moves
  plan_begins all moves plan =
      let way : List Move = way_home job (last_place (home job) plan.visits) in
      record {
        rest = plan.tour.toured ++ way;
        joined = plan.joined ∙ ap (λ (ms : List Move). ms ++ way) plan.tour.joined ∙ append_assoc (head job) plan.tour.toured way;
      }
