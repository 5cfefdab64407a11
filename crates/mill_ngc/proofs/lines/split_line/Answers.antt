use Rattle.std.proofs.Common.{◌+◌, ◌∷◌, ◌∙◌, ap, sym, take, rules, arith}
use Rattle.mill_ngc.specs.Programs.{lines_of}
use Rattle.mill_ngc.proofs.LineLemmas.{behind, lines_of-first, lines_of-whole}
use Rattle.mill_ngc.proofs.lines.split_line.Goals as goal

pub returns-then-count-text-clause-lines : goal.returns-then-count-text-clause-lines
returns-then-count-text-clause-lines c = lines_of-whole c.args.text.now c.line_length-count.result c.line_length-count.ensures.value (search rules)

pub returns-clause-lines : goal.returns-clause-lines
returns-clause-lines c =
    let text = c.args.text.now in
    let count = c.line_length-count.result in
    lines_of-first text count c.line_length-count.ensures.value (omega (arith, c.line_length-count.ensures.within))
    ∙ ap (λ rest. take count text ∷ lines_of rest) (sym (behind text (count + 1)))
