use Rattle.std.proofs.Common.{List, ℕ, codes, decimal, ◌++◌, rules}
use Rattle.std.proofs.lemmas.Result.{on_err_weaker, on_ok_weaker}
use Rattle.mill_io.specs.Views.{IsPartWritten, IsWritten}
use Rattle.mill_answer.proofs.Parts.{both_written, first_failed, second_failed}
use Rattle.mill_answer.proofs.telling.write_read_fault.Goals as goal

-- what stands before the number, and behind it
abbrev start : List ℕ
start = codes "read fault program "

abbrev end : List ℕ
end = codes "\n"

pub returns-in_err-write_whole-clause-part : goal.returns-in_err-write_whole-clause-part
returns-in_err-write_whole-clause-part g c =
    let part : IsPartWritten (start ++ (decimal c.args.number ++ end)) (g.O.Sink.shows c.args.out.now) (g.O.Sink.shows c.write_whole.new.sink) =
    first_failed start (decimal c.args.number ++ end) _ _ c.in_err-write_whole.ensures.part in
    search rules

pub returns-in_err-write_whole-2-clause-part : goal.returns-in_err-write_whole-2-clause-part
returns-in_err-write_whole-2-clause-part g c =
    let number : IsPartWritten (decimal c.args.number) (g.O.Sink.shows c.write_whole.new.sink) (g.O.Sink.shows c.write_whole-2.new.sink) =
    rw (c.as_bytes.ensures.value, c.format.ensures.text) at c.in_err-write_whole-2.ensures.part in
    let part : IsPartWritten (start ++ (decimal c.args.number ++ end)) (g.O.Sink.shows c.args.out.now) (g.O.Sink.shows c.write_whole-2.new.sink) =
    second_failed start (decimal c.args.number ++ end) _ _ _ c.in_ok-write_whole.ensures.whole (first_failed (decimal c.args.number) end _ _ number) in
    search rules

pub returns-clause-whole : goal.returns-clause-whole
returns-clause-whole g c =
    let number : IsWritten (decimal c.args.number) (g.O.Sink.shows c.write_whole.new.sink) (g.O.Sink.shows c.write_whole-2.new.sink) =
    rw (c.as_bytes.ensures.value, c.format.ensures.text) at c.in_ok-write_whole-2.ensures.whole in
    on_ok_weaker c.write_whole-3.result
    (λ last. both_written start (decimal c.args.number ++ end) _ _ _ c.in_ok-write_whole.ensures.whole (both_written (decimal c.args.number) end _ _ _ number last))
    c.write_whole-3.ensures.whole

pub returns-clause-part : goal.returns-clause-part
returns-clause-part g c =
    let number : IsWritten (decimal c.args.number) (g.O.Sink.shows c.write_whole.new.sink) (g.O.Sink.shows c.write_whole-2.new.sink) =
    rw (c.as_bytes.ensures.value, c.format.ensures.text) at c.in_ok-write_whole-2.ensures.whole in
    on_err_weaker c.write_whole-3.result
    (λ last. second_failed start (decimal c.args.number ++ end) _ _ _ c.in_ok-write_whole.ensures.whole (second_failed (decimal c.args.number) end _ _ _ number last))
    c.write_whole-3.ensures.part
