use Rattle.std.proofs.Common.{◌≡◌, ◌∙◌, ap, rules, subst, to_z, of_z, w32, Ok}
use Rattle.std.proofs.lemmas.Int.{to_z-of_z}
use Rattle.mill_verify.specs.Verdicts.{IsVerdict}
use Rattle.mill_verify.specs.declared.verdict.Reason.{Reason}
use Rattle.mill_verify.specs.declared.verdict.Verdict.{Verdict}
use Rattle.mill_verify.specs.declared.verdict.Verdict.TheVariants.{Reject}
use Rattle.mill_obstacles.specs.Faces.{obstacles_of}
use Rattle.mill_plan.proofs.Heading.{plan_begins}
use Rattle.mill_plan.proofs.Telling.{done_told, held_told, no_other, uncut_told}
use Rattle.mill_plan.proofs.program.verified.Goals as goal

pub unreachable-requires : goal.unreachable-requires
unreachable-requires g c =
    no_other c.args.job.now.fields c.args.part.now c.args.moves.now c.in-Reject.reason c.args.job.now.is_job c.requires.safe
    (subst (λ (v : Verdict). IsVerdict c.args.job.now.fields c.args.part.now c.args.moves.now v) c.in-Reject.is c.in_ok-count.ensures.verdict) c.in_default.not-Left c.in_default.not-HolderStock

pub returns-in_ok-program-in-Accept-clause-planned : goal.returns-in_ok-program-in-Accept-clause-planned
returns-in_ok-program-in-Accept-clause-planned g c =
    let left : to_z w32 (of_z w32 c.in-Accept.most_left) ≡ c.in-Accept.most_left = to_z-of_z w32 c.in-Accept.most_left (search rules) in
    rw left
    (done_told c.args.job.now.fields c.args.part.now c.args.moves.now c.requires.plan_ok c.in_ok-program-in-Accept.program.items c.in-Accept.count c.in-Accept.columns c.in-Accept.most_left
    c.requires.safe c.in_ok-program-in-Accept.ensures.text c.in_ok-program-in-Accept.ensures.reads
    (subst (λ (v : Verdict). IsVerdict c.args.job.now.fields c.args.part.now c.args.moves.now v) c.in-Accept.is c.in_ok-count.ensures.verdict)
    (c.verdict_on.ensures.safe c.in-Accept.count c.in-Accept.columns c.in-Accept.most_left (c.in_ok-count.was ∙ ap (λ (v : Verdict). Ok v) c.in-Accept.is)))

pub returns-in-Left-clause-fault : goal.returns-in-Left-clause-fault
returns-in-Left-clause-fault g c =
    let top : to_z w32 (of_z w32 c.in-Left.top) ≡ c.in-Left.top = to_z-of_z w32 c.in-Left.top (search rules) in
    rw top
    (uncut_told c.args.job.now.fields c.args.part.now c.args.moves.now c.requires.plan_ok c.in-Left.row c.in-Left.col c.in-Left.top c.args.job.now.is_job
    (subst (λ (v : Verdict). IsVerdict c.args.job.now.fields c.args.part.now c.args.moves.now v) (c.in-Reject.is ∙ ap (λ (r : Reason). Reject r) c.in-Left.is) c.in_ok-count.ensures.verdict))

pub returns-in-HolderStock-clause-fault : goal.returns-in-HolderStock-clause-fault
returns-in-HolderStock-clause-fault g c =
    held_told c.args.job.now.fields c.args.part.now c.args.moves.now c.requires.plan_ok c.in-HolderStock.at c.in-HolderStock.row c.in-HolderStock.col c.in-HolderStock.leaf
    (subst (λ (v : Verdict). IsVerdict c.args.job.now.fields c.args.part.now c.args.moves.now v) (c.in-Reject.is ∙ ap (λ (r : Reason). Reject r) c.in-HolderStock.is) c.in_ok-count.ensures.verdict)

pub text_of-requires : goal.text_of-requires
text_of-requires g c = record { begins = plan_begins c.args.job.now.fields (obstacles_of c.args.job.now.fields c.args.part.now) c.args.moves.now c.requires.plan_ok.is }
