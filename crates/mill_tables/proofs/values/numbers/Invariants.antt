use Rattle.std.proofs.Common.{length, vec_len, ◌+◌, ◌≤◌}
use Rattle.std.specs.Str.Iter.{split_whitespace_rest}
use Rattle.mill_tables.proofs.values.numbers.Given as goal

abbrev pub invariant-loop-word : goal.invariant-loop-word
invariant-loop-word l =
    vec_len l.numbers + length (split_whitespace_rest l.word-iterator) ≤ length l.fn.text
