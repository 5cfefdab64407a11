-- Sixteen bytes compared at once with a line feed.
use Rattle.std.proofs.Common.{◌≡◌, ℕ, ◌+◌, ◌%◌, ◌^◌, ◌≤◌, ◌<◌, List, Bool, length, get_or, map, replicate, true, false, not, cond, eqb, sym, ap, ◌∙◌, arith, w8}
use Rattle.std.specs.List.{prefix_len}
use Rattle.std.specs.Int.Count.{count_trailing_zeros}
use Rattle.std.specs.Simd.Lanes.{mask_l, zip2, top, chunk}
use Rattle.std.proofs.lemmas.List.Sums.{prefix_len_is}
use Rattle.std.proofs.lemmas.Simd.{length-chunk, bitmask_splat, trailing_mask_l, none_from_empty_mask, run_in_chunk_le, run_in_chunk_fails, run_in_chunk_stops}

-- the byte is a line feed
abbrev pub is_feed : ℕ → Bool
is_feed b = eqb b 10

-- the mask of those of the sixteen bytes at a place that are line feeds
abbrev pub feeds_of : List ℕ → ℕ → ℕ
feeds_of text place = mask_l (map (top 7) (zip2 (λ a b. cond (eqb a b) 255 0) (chunk place 16 text) (replicate 16 10))) % 2 ^ 64

feeds_of-map : (text : List ℕ) (place : ℕ) → place + 16 ≤ length text → feeds_of text place ≡ mask_l (map is_feed (chunk place 16 text))
feeds_of-map text place room = bitmask_splat w8 eqb (chunk place 16 text) 16 10 (length-chunk place 16 text room) (omega arith)

-- with no mark, none of the sixteen is one
pub none-unmarked : (text : List ℕ) (place : ℕ) → place + 16 ≤ length text → feeds_of text place ≡ 0
    → (k : ℕ) → place ≤ k → k < place + 16 → is_feed (get_or text k 0) ≡ false
none-unmarked text place room none = none_from_empty_mask is_feed text place 16 0 room (sym (feeds_of-map text place room) ∙ none)

-- the lowest mark is the first line feed
lowest-feed : (text : List ℕ) (place : ℕ) → place + 16 ≤ length text → 0 < feeds_of text place
    → count_trailing_zeros 64 (feeds_of text place) ≡ prefix_len (λ b. not (is_feed b)) (chunk place 16 text)
lowest-feed text place room some =
    let e = feeds_of-map text place room in
    ap (λ (m : ℕ). count_trailing_zeros 64 m) e
    ∙ trailing_mask_l is_feed 64 (chunk place 16 text) (omega (arith, length-chunk place 16 text room)) (omega (arith, e, some))

-- so it is one of the sixteen, none stands before it, and one stands there
pub lowest_feed-le : (text : List ℕ) (place : ℕ) → place + 16 ≤ length text → 0 < feeds_of text place → count_trailing_zeros 64 (feeds_of text place) ≤ 16
lowest_feed-le text place room some =
    run_in_chunk_le is_feed text place 16 (count_trailing_zeros 64 (feeds_of text place)) 0 room (lowest-feed text place room some)

pub none-below_feed : (text : List ℕ) (place : ℕ) → place + 16 ≤ length text → 0 < feeds_of text place
    → (k : ℕ) → place ≤ k → k < place + count_trailing_zeros 64 (feeds_of text place) → is_feed (get_or text k 0) ≡ false
none-below_feed text place room some =
    run_in_chunk_fails is_feed text place 16 (count_trailing_zeros 64 (feeds_of text place)) 0 room (lowest-feed text place room some)

pub feed-at : (text : List ℕ) (place : ℕ) → place + 16 ≤ length text → 0 < feeds_of text place
    → count_trailing_zeros 64 (feeds_of text place) < 16 → is_feed (get_or text (place + count_trailing_zeros 64 (feeds_of text place)) 0) ≡ true
feed-at text place room some =
    run_in_chunk_stops is_feed text place 16 (count_trailing_zeros 64 (feeds_of text place)) 0 room (lowest-feed text place room some)

-- so many bytes stand before the first line feed, where none of them is one and behind them stands one or the end
pub before-feed : (text : List ℕ) (n : ℕ) → n ≤ length text → ((k : ℕ) → k < n → is_feed (get_or text k 0) ≡ false)
    → (n < length text → is_feed (get_or text n 0) ≡ true) → n ≡ prefix_len (λ b. not (is_feed b)) text
before-feed text n le none feed = sym (prefix_len_is (λ b. not (is_feed b)) text n 0 le (λ k lt. ap not (none k lt)) (λ lt. ap not (feed lt)))
