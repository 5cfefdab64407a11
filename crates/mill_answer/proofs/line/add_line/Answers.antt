use Rattle.std.proofs.Common.{◌≡◌, ◌++◌, rules}
use Rattle.std.specs.List.{flat_map}
use Rattle.std.proofs.lemmas.List.{map-append}
use Rattle.mill_answer.specs.Lines.{spaced, word_text}
use Rattle.mill_answer.proofs.Ends.{all_spaced, empty_added, line_added}
use Rattle.mill_answer.proofs.line.add_line.Goals.{then-len-before, else-len-before}
use Rattle.mill_answer.proofs.line.add_line.Goals as goal

pub returns : goal.returns
returns c =
    let old = c.args.text.now.items in
    let words = c.args.start.now ++ c.args.more.now in
    let new = c.add_words-2.new.text.items in
    let is : new ≡ old ++ flat_map spaced words = rw (c.in_ok-add_words-2.ensures, c.in_ok-add_words.ensures) (all_spaced old c.args.start.now c.args.more.now) in
    rw (c.in_ok-push.ensures.items, ← map-append word_text c.args.start.now c.args.more.now)
    (elim c.if-len-before.branch [
      | then-len-before w ↦ rw (w.text-is, w.pop.ensures.rest) (line_added old words new _ is (search rules) (search rules))
      | else-len-before w ↦ rw w.text-is (empty_added old words new is (search rules))
    ])
