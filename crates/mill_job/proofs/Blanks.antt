-- The blank places behind the values that are held in an array.
use Rattle.std.proofs.Common.{◌≡◌, ◌∙◌, ap, sym, ℕ, ◌+◌, ◌-◌, List, drop, arith}
use Rattle.std.proofs.lemmas.List.{drop-set-lt, drop-drop, drop-replicate}
use Rattle.std.specs.Prelude.{replicate, slice_set}
use Rattle.mill_job.specs.Filled.{blanks}

-- behind one place more there is a blank one less
pub one_more : {V : Type 0} (room : ℕ) (blank : V) (count : ℕ) (places : List V) (v : V) → drop count places ≡ blanks room blank count → drop (count + 1) (slice_set places count v) ≡ blanks room blank (count + 1)
one_more room blank count places v behind =
    let apart : drop (count + 1) (slice_set places count v) ≡ drop (count + 1) places = drop-set-lt (count + 1) places count v (omega arith) in
    let rest : drop 1 (blanks room blank count) ≡ replicate (room - count - 1) blank = drop-replicate 1 (room - count) blank in
    let fewer : replicate (room - count - 1) blank ≡ blanks room blank (count + 1) = ap (λ (n : ℕ). replicate n blank) (omega arith) in
    apart ∙ sym (drop-drop 1 count places) ∙ ap (drop 1) behind ∙ rest ∙ fewer
