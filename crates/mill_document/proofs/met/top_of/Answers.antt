use Rattle.std.proofs.Common.{ap, sym, ◌∙◌}
use Rattle.mill_base.proofs.Ranges.{coordinate}
use Rattle.mill_document.proofs.Tops.{stored_within}
use Rattle.mill_document.specs.Details.{shown_top}
use Rattle.mill_document.proofs.met.top_of.Goals as goal

pub returns-in-Some : goal.returns-in-Some
returns-in-Some c = record {
  in_range = stored_within _ c.column_top.ensures.in_range;
  top = λ stock shows. coordinate _ c.column_top.ensures.in_range ∙ c.column_top.ensures.top stock shows ∙ ap (shown_top stock) (sym c.in-Some.is ∙ c.column_numbers.ensures);
}
