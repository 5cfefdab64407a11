use Rattle.std.proofs.Common.{◌≡◌, ◌++◌, ◌∙◌, take, ap, sym, arith}
use Rattle.std.proofs.lemmas.List.{take_all}
use Rattle.mill_ngc.proofs.TextLemmas.{back, program_text-parts}
use Rattle.mill_ngc.specs.Writing.{program_text}
use Rattle.mill_ngc.proofs.Moves.{reads_back}
use Rattle.mill_ngc.proofs.program.write_program.Goals as goal

pub returns-clause-text : goal.returns-clause-text
returns-clause-text c =
    let all : take c.loop-made.made-index c.args.moves.now ≡ c.args.moves.now = take_all c.loop-made.made-index c.args.moves.now (omega arith) in
    let so_far = rw all at c.loop-made.invariant in
    c.in_ok-add_text-2.ensures ∙ ap (λ text. text ++ back) so_far ∙ sym (program_text-parts c.args.unit c.args.begin c.args.moves.now)

pub returns-clause-reads : goal.returns-clause-reads
returns-clause-reads c =
    let text : c.add_text-2.new.text.items ≡ program_text c.args.unit c.args.begin c.args.moves.now = returns-clause-text c in
    rw text (reads_back c.args.unit c.args.begin c.args.moves.now)
