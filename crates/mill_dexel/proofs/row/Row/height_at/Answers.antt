use Rattle.std.proofs.Common.{◌≡◌, ◌∙◌, get_or, sym, subst, ap, w32, arith}
use Rattle.std.specs.Prelude.{ℤ}
use Rattle.std.proofs.lemmas.Int.{ints}
use Rattle.mill_base.proofs.Machine.{stored}
use Rattle.mill_job.specs.Jobs.{IsFrom}
use Rattle.mill_dexel.specs.Rows.{RowState}
use Rattle.mill_dexel.specs.Tops.{tested_height}
use Rattle.mill_dexel.proofs.UncutRows.{top_read, top_stays}
use Rattle.mill_dexel.proofs.row.Row.height_at.Goals as goal

pub tested_height-requires : goal.tested_height-requires
tested_height-requires c =
    subst (λ (z : ℤ). IsFrom c.args.job.now.fields.floor c.args.job.now.fields.top z)
    (sym (top_read c.args.job.now.fields c.args.self.now c.args.column c.index.result.now c.args.job.now.is_job c.requires.row c.requires.column
    (c.index.ensures ∙ ap (λ (r : RowState). get_or r.tops c.args.column c.index.result.now) c.self.view_is)))
    (top_stays c.args.job.now.fields c.args.self.now c.args.column c.requires.row c.requires.column)

pub returns : goal.returns
returns c =
    let stays : stored w32 c.tested_height.result ≡ c.tested_height.result = omega (arith, ints) in
    stays
    ∙ c.tested_height.ensures.value
    ∙ ap (tested_height c.args.job.now.fields c.args.kind)
    (top_read c.args.job.now.fields c.args.self.now c.args.column c.index.result.now c.args.job.now.is_job c.requires.row c.requires.column
    (c.index.ensures ∙ ap (λ (r : RowState). get_or r.tops c.args.column c.index.result.now) c.self.view_is))
