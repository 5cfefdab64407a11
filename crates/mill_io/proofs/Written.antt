-- Pieces that were written one after another.
use Rattle.std.proofs.Common.{◌≡◌, ℕ, ◌+◌, ◌≤◌, ◌-◌, List, ◌++◌, length, take, drop, ap, append_assoc, arith, ◌∙◌, sym, length-drop}
use Rattle.std.specs.Prelude.{Option, Some, None, option_map}
use Rattle.std.proofs.Math.Seq.{take-add}
use Rattle.std.proofs.lemmas.List.{take_all}
use Rattle.mill_io.specs.Contents.{Appended, AppendedPart}
use Rattle.mill_io.specs.Views.{StoreView, WritesOnly}

-- `&bytes[i..]` is what stands behind the first i
pub behind : (bytes : List ℕ) (i : ℕ) → take (length bytes - i) (drop i bytes) ≡ drop i bytes
behind bytes i = take_all (length bytes - i) (drop i bytes) (omega (arith, length-drop i bytes))

-- the first i, and then n of the rest, are the first i + n
joined : (before bytes : List ℕ) (i n : ℕ) → (before ++ take i bytes) ++ take n (drop i bytes) ≡ before ++ take (i + n) bytes
joined before bytes i n = append_assoc before (take i bytes) (take n (drop i bytes)) ∙ ap (λ x. before ++ x) (sym (take-add i n bytes))

-- the first i bytes were appended, and then n more of what stands behind them
pub appended_more : (bytes piece : List ℕ) (i n : ℕ) (a b c : Option (List ℕ)) → piece ≡ drop i bytes → Appended (take i bytes) a b → Appended (take n piece) b c → Appended (take (i + n) bytes) a c
appended_more bytes piece i n None b c e first second = second ∙ ap (λ o. option_map (λ x. x ++ take n piece) o) first
appended_more bytes piece i n (Some before) b c e first second =
    let there : Appended (take n piece) (Some (before ++ take i bytes)) c = rw first at second in
    there ∙ ap Some (rw e (joined before bytes i n))

-- the first i bytes were appended, and then a part of what stands behind them
pub part_more : (bytes piece : List ℕ) (i : ℕ) (a b c : Option (List ℕ)) → piece ≡ drop i bytes → i ≤ length bytes → Appended (take i bytes) a b → AppendedPart piece b c → AppendedPart bytes a c
part_more bytes piece i a b c e within first second = record {
  n = i + second.n;
  within = omega (arith, second.within, ap length e, length-drop i bytes);
  appended = appended_more bytes piece i second.n a b c e first second.appended;
}

-- writes to a name after writes to it are writes to it
pub writes_on : (name : List ℕ) (a b c : StoreView) → WritesOnly name a b → WritesOnly name b c → WritesOnly name a c
writes_on name a b c first next = record {
  others = λ other apart. next.others other apart ∙ first.others other apart;
  tells = next.tells ∙ first.tells;
  read_faults = next.read_faults ∙ first.read_faults;
}
