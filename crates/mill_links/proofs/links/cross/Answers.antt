use Rattle.std.specs.Prelude.{[], ◌∷◌, ◌++◌}
use Rattle.std.proofs.Common.{sym, ap, ◌∙◌}
use Rattle.mill_job.specs.Habits.{made_by}
use Rattle.mill_links.specs.Links.{cross}
use Rattle.mill_links.proofs.Joining.{ok_gives}
use Rattle.mill_links.proofs.Kept.{unit_coordinate}
use Rattle.mill_links.proofs.Stages.{no_cross, none_added, one_cross}
use Rattle.mill_links.proofs.links.cross.Goals as goal

pub returns-then-eq-clause-ok : goal.returns-then-eq-clause-ok
returns-then-eq-clause-ok c =
    let job = c.args.job.now.fields in
    let kept = unit_coordinate job.unit job.clear c.args.job.now.is_job.clear_ok in
    let same = rw (c.at_height-start.ensures, c.at_height-end.ensures, kept) at (sym c.eq.ensures ∙ c.if-eq.true) in
    none_added c.args.out.now.items (cross job c.args.from c.args.at) (no_cross job c.args.from c.args.at same)

pub returns-clause-ok : goal.returns-clause-ok
returns-clause-ok c =
    let job = c.args.job.now.fields in
    let kept = unit_coordinate job.unit job.clear c.args.job.now.is_job.clear_ok in
    let other = rw (c.at_height-start.ensures, c.at_height-end.ensures, kept) at (sym c.eq.ensures ∙ c.if-eq.false) in
    let step = rw (c.at_height-start.ensures, c.at_height-end.ensures, kept) at c.rapid_to.ensures in
    let made = c.made.ensures ∙ ap (made_by job.rapids) step in
    ok_gives c.add.result (λ added. added ∙ ap (λ m. c.args.out.now.items ++ m ∷ []) made ∙ ap (λ ms. c.args.out.now.items ++ ms) (sym (one_cross job c.args.from c.args.at other)))
    c.add.ensures.ok
