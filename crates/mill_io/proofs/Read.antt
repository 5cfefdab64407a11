-- Pieces that were read one after another.
use Rattle.std.proofs.Common.{◌≡◌, ℕ, ◌+◌, ◌≤◌, ◌<◌, List, ◌∷◌, ◌++◌, length, take, drop, refl, ap, arith, ◌∙◌, sym, length-append, length-drop}
use Rattle.std.proofs.lemmas.List.{length-take-le, take_all}
use Rattle.std.specs.Prelude.{Option, Some, None, IfSome}
use Rattle.std.proofs.Math.Seq.{take-add}
use Rattle.mill_io.specs.Contents.{GivesFrom}
use Rattle.mill_io.specs.Readings.{Reading}
use Rattle.mill_io.specs.Views.{StoreView, ReadsOnly}

-- a piece of n bytes makes what was read longer by n
pub length_more : (all buf next : List ℕ) (n : ℕ) → n ≤ length buf → next ≡ all ++ take n buf → length next ≡ length all + n
length_more all buf next n fits e = ap length e ∙ omega (arith, length-append all (take n buf), length-take-le n buf fits)

-- what was read so far is the front of the contents; n bytes more are too
pub read_more : (told now : Option (List ℕ)) (all buf next : List ℕ) (n : ℕ) → now ≡ told → IfSome told (λ bytes. all ≡ take (length all) bytes) → IfSome now (λ bytes. GivesFrom bytes (length all) n buf)
    → n ≤ length buf → next ≡ all ++ take n buf → IfSome told (λ bytes. next ≡ take (length next) bytes)
read_more None now all buf next n same so_far gives fits e = tt
read_more (Some bytes) now all buf next n same so_far gives_now fits e =
    let gives : GivesFrom bytes (length all) n buf = rw same at gives_now in
    let size : length next ≡ length all + n = length_more all buf next n fits e in
    let more : next ≡ all ++ take n (drop (length all) bytes) = e ∙ ap (λ p. all ++ p) gives.given in
    let front : all ++ take n (drop (length all) bytes) ≡ take (length all) bytes ++ take n (drop (length all) bytes) = ap (λ a. a ++ take n (drop (length all) bytes)) so_far in
    more ∙ front ∙ sym (take-add (length all) n bytes) ∙ ap (λ k. take k bytes) (sym size)

-- where a read gives nothing, all was read
pub read_all : (told : Option (List ℕ)) (all buf : List ℕ) → IfSome told (λ bytes. all ≡ take (length all) bytes) → IfSome told (λ bytes. GivesFrom bytes (length all) 0 buf) → 0 < length buf → IfSome told (λ bytes. all ≡ bytes)
read_all None all buf so_far gives room = tt
read_all (Some bytes) all buf so_far gives room = so_far ∙ take_all (length all) bytes ((gives.at_end room).0 refl)

-- each read but the last gave a byte at least
pub reads_more : (before now next : ℕ) (all all' n limit : ℕ) → next ≤ now + 1 → all' ≡ all + n → 0 < n → all ≤ limit → now ≤ before + all → (next ≤ before + all') × (next ≤ before + limit + 1)
reads_more before now next all all' n limit more e some within so_far = (omega arith, omega arith)

-- more bytes were given from a place on than the limit leaves
pub past_limit : (told : Option (List ℕ)) (from n limit : ℕ) (buf : List ℕ) → limit < from + n → 0 < n → IfSome told (λ bytes. GivesFrom bytes from n buf) → IfSome told (λ bytes. limit < length bytes)
past_limit None from n limit buf over some gives = tt
past_limit (Some bytes) from n limit buf over some gives = omega (arith, over, some, gives.within, length-drop from bytes)

-- a log that one read was added to is longer by one
pub one_longer : (r : Reading) (a b : List Reading) → b ≡ r ∷ a → length b ≤ length a + 1
one_longer r a b e = omega (arith, ap length e)

-- reads after reads are reads
pub reads_on : (a b c : StoreView) → ReadsOnly a b → ReadsOnly b c → ReadsOnly a c
reads_on a b c first next = record {
  contents = λ name. next.contents name ∙ first.contents name;
  tells = next.tells ∙ first.tells;
  write_faults = next.write_faults ∙ first.write_faults;
}
