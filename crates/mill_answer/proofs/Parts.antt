-- What was written in two parts, one after the other.
use Rattle.std.proofs.Common.{ℕ, ◌+◌, ◌≤◌, List, ◌++◌, length, take, ap, subst, ◌∙◌, append_assoc, arith, length-append}
use Rattle.std.specs.Prelude.{Option, Some, None, option_map}
use Rattle.std.proofs.Math.Seq.{take-append-add}
use Rattle.std.proofs.lemmas.List.{take-append-le}
use Rattle.mill_io.specs.Causes.{Rose}
use Rattle.mill_io.specs.Contents.{Appended}
use Rattle.mill_io.specs.Views.{SinkView, IsWritten, IsPartWritten}

both_appended : (a b : List ℕ) (s t u : Option (List ℕ)) → Appended a s t → Appended b t u → Appended (a ++ b) s u
both_appended a b None t u first second = second ∙ ap (λ o. option_map (λ bytes. bytes ++ b) o) first
both_appended a b (Some before) t u first second = second ∙ (ap (λ o. option_map (λ bytes. bytes ++ b) o) first ∙ ap Some (append_assoc before a b))

-- both were written
pub both_written : (a b : List ℕ) (s t u : SinkView) → IsWritten a s t → IsWritten b t u → IsWritten (a ++ b) s u
both_written a b s t u first second = record {
  written = both_appended a b s.written t.written u.written first.written second.written;
  faults = second.faults ∙ first.faults;
}

-- the first failed
pub first_failed : (a b : List ℕ) (s t : SinkView) → IsPartWritten a s t → IsPartWritten (a ++ b) s t
first_failed a b s t part =
    let n = part.written.n in
    let within : n ≤ length a = part.written.within in
    record {
      written = record { n = n; within = omega (arith, length-append a b); appended = rw (take-append-le n a b within) part.written.appended };
      faults = part.faults;
    }

-- the first was written, and the second failed
pub second_failed : (a b : List ℕ) (s t u : SinkView) → IsWritten a s t → IsPartWritten b t u → IsPartWritten (a ++ b) s u
second_failed a b s t u first part =
    let n = part.written.n in
    let within : n ≤ length b = part.written.within in
    record {
      written = record {
        n = length a + n;
        within = omega (arith, length-append a b);
        appended = rw (take-append-add a b n) (both_appended a (take n b) s.written t.written u.written first.written part.written.appended);
      };
      faults = subst (λ (faults : ℕ). Rose faults u.faults) first.faults part.faults;
    }
