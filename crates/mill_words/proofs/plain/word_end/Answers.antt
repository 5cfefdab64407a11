use Rattle.std.proofs.Common.{◌∙◌, arith, rules}
use Rattle.mill_words.specs.declared.stage.Stage.TheVariants.{InWord}
use Rattle.mill_words.proofs.Places.{word-before, word-last}
use Rattle.mill_words.proofs.plain.word_end.Goals as goal
use Rattle.mill_words.proofs.plain.word_end.Goals.{then-end-line-via-then-end-line, then-end-line-via-else-end-line+then-is_ascii_alphabetic}

pub returns-then-end-line-clause-same : goal.returns-then-end-line-clause-same
returns-then-end-line-clause-same c w l some =
    c.behind_blank-end.ensures.same (InWord w) l
    ∙ elim c.then-end-line.branch [
      | then-end-line-via-then-end-line v ↦ word-last w l c.args.line.now c.behind_blank-end.result some (omega (arith, v.if-end-line.true))
      | then-end-line-via-else-end-line+then-is_ascii_alphabetic v ↦
          word-before w l c.args.line.now c.behind_blank-end.result some (omega (arith, c.behind_blank-end.ensures.within, v.if-end-line.false)) (search rules)
    ]
