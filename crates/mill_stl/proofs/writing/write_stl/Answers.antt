use Rattle.std.proofs.Common.{◌≡◌, ◌++◌, ◌∙◌, take, ap, sym, arith}
use Rattle.std.proofs.lemmas.List.{take_all}
use Rattle.mill_stl.specs.Written.{part_text}
use Rattle.mill_stl.proofs.WrittenTexts.{back, part_text-parts, length-part_text, reads_back}
use Rattle.mill_stl.proofs.writing.write_stl.Goals as goal

pub returns-clause-text : goal.returns-clause-text
returns-clause-text c =
    let all : take c.loop-tri.tri-index c.args.tris.now ≡ c.args.tris.now = take_all c.loop-tri.tri-index c.args.tris.now (omega arith) in
    let so_far = rw all at c.loop-tri.invariant in
    c.in_ok-add_text-2.ensures ∙ ap (λ text. text ++ back) so_far ∙ sym (part_text-parts c.args.unit c.args.tris.now)

pub returns-clause-few : goal.returns-clause-few
returns-clause-few c =
    let text : c.add_text-2.new.text.items ≡ part_text c.args.unit c.args.tris.now = returns-clause-text c in
    rw text (length-part_text c.args.unit c.args.tris.now c.requires.in_range c.requires.few)

pub returns-clause-reads : goal.returns-clause-reads
returns-clause-reads c =
    let text : c.add_text-2.new.text.items ≡ part_text c.args.unit c.args.tris.now = returns-clause-text c in
    rw text (reads_back c.args.unit c.args.tris.now c.requires.in_range c.requires.few)
