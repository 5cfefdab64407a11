-- Sixteen bytes compared at once with a blank.
use Rattle.std.proofs.Common.{◌≡◌, ℕ, ◌+◌, ◌%◌, ◌^◌, ◌≤◌, ◌<◌, List, Bool, length, get_or, map, replicate, false, not, cond, leb, eqb, sym, ap, ◌∙◌, arith, w8}
use Rattle.std.specs.List.{prefix_len}
use Rattle.std.specs.Int.Count.{count_trailing_zeros}
use Rattle.std.specs.Simd.Lanes.{mask_l, zip2, top, chunk}
use Rattle.std.proofs.lemmas.Bool.Decides.{nat_tests}
use Rattle.std.proofs.lemmas.Simd.{length-chunk, bitmask_splat, trailing_mask_l, none_from_empty_mask, run_in_chunk_le, run_in_chunk_fails}
use Rattle.mill_stl.specs.Parts.{is_space}

-- the mask of those of the sixteen bytes at a place that pass a comparison with a blank
abbrev pub marks_of : (ℕ → ℕ → Bool) → List ℕ → ℕ → ℕ
marks_of test text place = mask_l (map (top 7) (zip2 (λ a b. cond (test a b) 255 0) (chunk place 16 text) (replicate 16 32))) % 2 ^ 64

marks_of-passing : (test : ℕ → ℕ → Bool) (text : List ℕ) (place : ℕ) → place + 16 ≤ length text
    → marks_of test text place ≡ mask_l (map (λ b. test b 32) (chunk place 16 text))
marks_of-passing test text place room = bitmask_splat w8 test (chunk place 16 text) 16 32 (length-chunk place 16 text room) (omega arith)

-- with no mark, none of the sixteen passes
pub fails-unmarked : (test : ℕ → ℕ → Bool) (text : List ℕ) (place : ℕ) → place + 16 ≤ length text → marks_of test text place ≡ 0
    → (k : ℕ) → place ≤ k → k < place + 16 → test (get_or text k 0) 32 ≡ false
fails-unmarked test text place room none = none_from_empty_mask (λ b. test b 32) text place 16 0 room (sym (marks_of-passing test text place room) ∙ none)

-- the lowest mark is the first that passes
lowest-mark : (test : ℕ → ℕ → Bool) (text : List ℕ) (place : ℕ) → place + 16 ≤ length text → 0 < marks_of test text place
    → count_trailing_zeros 64 (marks_of test text place) ≡ prefix_len (λ b. not (test b 32)) (chunk place 16 text)
lowest-mark test text place room some =
    let e = marks_of-passing test text place room in
    ap (λ (m : ℕ). count_trailing_zeros 64 m) e
    ∙ trailing_mask_l (λ b. test b 32) 64 (chunk place 16 text) (omega (arith, length-chunk place 16 text room)) (omega (arith, e, some))

-- so it is one of the sixteen, and none before it passes
pub lowest_mark-le : (test : ℕ → ℕ → Bool) (text : List ℕ) (place : ℕ) → place + 16 ≤ length text → 0 < marks_of test text place
    → count_trailing_zeros 64 (marks_of test text place) ≤ 16
lowest_mark-le test text place room some =
    run_in_chunk_le (λ b. test b 32) text place 16 (count_trailing_zeros 64 (marks_of test text place)) 0 room (lowest-mark test text place room some)

pub fails-below_mark : (test : ℕ → ℕ → Bool) (text : List ℕ) (place : ℕ) → place + 16 ≤ length text → 0 < marks_of test text place
    → (k : ℕ) → place ≤ k → k < place + count_trailing_zeros 64 (marks_of test text place) → test (get_or text k 0) 32 ≡ false
fails-below_mark test text place room some =
    run_in_chunk_fails (λ b. test b 32) text place 16 (count_trailing_zeros 64 (marks_of test text place)) 0 room (lowest-mark test text place room some)

-- a byte over a blank is no white space
pub no_space : (b : ℕ) → leb b 32 ≡ false → is_space b ≡ false
no_space b h = grind (arith, nat_tests)

-- a byte that does not differ from a blank is one
abbrev pub differs : ℕ → ℕ → Bool
differs a b = not (eqb a b)

pub is_blank : (b : ℕ) → differs b 32 ≡ false → b ≡ 32
is_blank b h = grind (arith, nat_tests)
