use Rattle.std.proofs.Common.{◌≡◌, ℕ, ◌<◌, ◌+◌, ◌^◌, take, get_or, true}
use Rattle.std.specs.Char.{is_ascii_digit}
use Rattle.std.specs.Str.Parse.{digits_value_after}
use Rattle.mill_decimal.proofs.digits.value_in_front.Given as goal

abbrev pub invariant-loop-place : goal.invariant-loop-place
invariant-loop-place l = record {
  digits : (k : ℕ) → k < l.place → is_ascii_digit (get_or l.text k 0) ≡ true;
  value : l.value ≡ digits_value_after 10 l.front (take l.place l.text);
  bound : l.value < 10 ^ (l.before + l.place);
}
