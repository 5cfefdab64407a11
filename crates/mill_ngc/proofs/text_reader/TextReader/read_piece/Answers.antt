use Rattle.std.proofs.Common.{◌<◌, ◌++◌, ◌∙◌, length, sym, rules, arith}
use Rattle.mill_block.specs.Lines.{line_begun}
use Rattle.mill_ngc.specs.Pieces.{fed}
use Rattle.mill_ngc.specs.Texts.{reading_of}
use Rattle.mill_ngc.proofs.ProgramLemmas.{so_far-begun, so_far-line, are_sound}
use Rattle.mill_ngc.proofs.PieceLemmas.{fed-next, fed-fault, fed-last, fed-ended, front-add, front-more, front-fed, fault_told, begun_ok, begun_fault, keeps_range}
use Rattle.mill_ngc.proofs.text_reader.TextReader.read_piece.Goals as goal

pub returns-in_err-end_line-in-Some-clause-fault : goal.returns-in_err-end_line-in-Some-clause-fault
returns-in_err-end_line-in-Some-clause-fault c =
    let lines = rw c.in-Some.is at c.split_line.ensures.lines in
    let f = c.in_err-end_line-in-Some.field-0.0 in
    let total = fed (reading_of c.args.self.now, c.args.out.now.items) c.args.piece.now in
    rw c.in_err-end_line-in-Some.ensures.kept (
    fault_told c.from_residual.result f total c.loop-rest.out.items (search rules)
    (λ other. fed-fault c.loop-rest.self.lines c.loop-rest.self.unfinished c.loop-rest.out.items c.loop-rest.rest.now c.split_line.result.0.now c.in-Some.text.now f total
    (search rules) lines (c.in_err-end_line-in-Some.ensures.fault other) c.loop-rest.invariant.so_far))

pub returns-in_err-end_line-in-Some-clause-front : goal.returns-in_err-end_line-in-Some-clause-front
returns-in_err-end_line-in-Some-clause-front c =
    let front = front-fed (reading_of c.loop-rest.self, c.loop-rest.out.items) c.loop-rest.rest.now _ c.loop-rest.invariant.so_far in
    rw c.in_err-end_line-in-Some.ensures.kept front

pub loop-rest-preserved : goal.loop-rest-preserved
loop-rest-preserved c =
    let p = c.loop-rest.self.lines in
    let q = c.end_line.new.self.lines in
    let moves = c.loop-rest.out.items in
    let adds = c.in_ok-end_line-in-Some.ensures.ok in
    let lines = rw c.in-Some.is at c.split_line.ensures.lines in
    let shorter : length c.in-Some.text.now < length c.loop-rest.rest.now = rw c.in-Some.is at c.split_line.ensures.shorter in
    rw adds.added (record {
      so_far = fed-next p q c.loop-rest.self.unfinished c.end_line.new.self.unfinished moves adds.made c.loop-rest.rest.now c.split_line.result.0.now c.in-Some.text.now
          (fed (reading_of c.args.self.now, c.args.out.now.items) c.args.piece.now)
          (search rules) lines adds.told c.in_ok-end_line-in-Some.ensures.begins c.loop-rest.invariant.so_far;
      lines = omega (arith, shorter, adds.keeps.same_line, c.loop-rest.invariant.lines);
      here = keeps_range (line_begun p) q adds.made adds.keeps;
      grows = front-more c.args.out.now.items moves (moves ++ adds.made) c.loop-rest.invariant.grows (front-add moves adds.made);
      moves = λ start unit rules s. so_far-line start unit rules (line_begun p) q moves adds.made (so_far-begun start unit rules p moves (c.loop-rest.invariant.moves start unit rules s)) adds.keeps;
    })

pub returns-in-None-clause-ok : goal.returns-in-None-clause-ok
returns-in-None-clause-ok c =
    let lines = rw c.in-None.is at c.split_line.ensures.lines in
    let last = fed-last c.loop-rest.self.lines c.loop-rest.self.unfinished c.loop-rest.out.items c.loop-rest.rest.now c.split_line.result.0.now lines in
    begun_ok c.keep.result _ (reading_of c.keep.new.self) (fed (reading_of c.args.self.now, c.args.out.now.items) c.args.piece.now) c.loop-rest.out.items
    (sym c.loop-rest.invariant.so_far ∙ last) c.keep.ensures.ok

pub returns-in-None-clause-fault : goal.returns-in-None-clause-fault
returns-in-None-clause-fault c =
    let lines = rw c.in-None.is at c.split_line.ensures.lines in
    let last = fed-last c.loop-rest.self.lines c.loop-rest.self.unfinished c.loop-rest.out.items c.loop-rest.rest.now c.split_line.result.0.now lines in
    begun_fault c.keep.result _ (fed (reading_of c.args.self.now, c.args.out.now.items) c.args.piece.now) c.loop-rest.out.items
    (sym c.loop-rest.invariant.so_far ∙ last) c.keep.ensures.fault

pub returns-in-None-clause-front : goal.returns-in-None-clause-front
returns-in-None-clause-front c =
    front-fed (reading_of c.loop-rest.self, c.loop-rest.out.items) c.loop-rest.rest.now _ c.loop-rest.invariant.so_far

pub returns-clause-ok : goal.returns-clause-ok
returns-clause-ok c =
    sym c.loop-rest.invariant.so_far ∙ fed-ended c.loop-rest.self.lines c.loop-rest.self.unfinished c.loop-rest.out.items c.loop-rest.rest.now (search rules)

pub returns-clause-front : goal.returns-clause-front
returns-clause-front c =
    front-fed (reading_of c.loop-rest.self, c.loop-rest.out.items) c.loop-rest.rest.now _ c.loop-rest.invariant.so_far

-- ---- the moves of the lines that are read are sound, where those before them were

pub returns-in_err-end_line-in-Some-clause-sound : goal.returns-in_err-end_line-in-Some-clause-sound
returns-in_err-end_line-in-Some-clause-sound c =
    rw c.in_err-end_line-in-Some.ensures.kept
    (λ start unit rules s. are_sound start unit rules c.loop-rest.self.lines c.loop-rest.out.items (c.loop-rest.invariant.moves start unit rules s))

pub returns-in-None-clause-sound : goal.returns-in-None-clause-sound
returns-in-None-clause-sound c start unit rules s =
    are_sound start unit rules c.loop-rest.self.lines c.loop-rest.out.items (c.loop-rest.invariant.moves start unit rules s)

pub returns-clause-sound : goal.returns-clause-sound
returns-clause-sound c start unit rules s =
    are_sound start unit rules c.loop-rest.self.lines c.loop-rest.out.items (c.loop-rest.invariant.moves start unit rules s)
