-- A list of bands of 64 moves: none, and one more.
use Rattle.std.proofs.Common.{◌≡◌, ◌⊎◌, inl, inr, ℕ, ◌+◌, ◌<◌, ◌≤◌, sym, subst, ap, length, arith}
use Rattle.std.specs.Prelude.{List, [], ◌∷◌, ◌++◌, slice_index_or}
use Rattle.std.proofs.lemmas.Bool.{cases_lt}
use Rattle.std.proofs.lemmas.List.{get_or_append_left, length_push}
use Rattle.std.proofs.Math.Seq.{get_or-append_seam}
use Rattle.mill_base.specs.declared.motion.Move.{Move}
use Rattle.mill_dexel.specs.declared.band.Band.{Band}
use Rattle.mill_dexel.specs.Bands.{IsBandAt, AreBandsTo}

-- no bands yet
pub bands_none : (moves : List Move) (count : ℕ) (bands : List Band) → bands ≡ [] → AreBandsTo moves count 0 bands
bands_none moves count bands e = record { number = ap length e; each = λ i other there. absurd (omega (arith, there)) }

-- one band more
pub bands_more : (moves : List Move) (count n : ℕ) (bands : List Band) (band : Band) → AreBandsTo moves count n bands → IsBandAt moves count n band → AreBandsTo moves count (n + 1) (bands ++ band ∷ [])
bands_more moves count n bands band so_far last = record {
  number = omega (arith, so_far.number, length_push bands band);
  each = λ i other there. by i other (cases_lt i n) there;
}
  where
    by : (i : ℕ) (other : Band) → (i < n) ⊎ (n ≤ i) → i < n + 1 → IsBandAt moves count i (slice_index_or (bands ++ band ∷ []) i other)
    by i other (inl before) there =
        let inside : i < length bands = omega (arith, before, so_far.number) in
        subst (IsBandAt moves count i) (sym (get_or_append_left bands (band ∷ []) other i inside)) (so_far.each i other before)
    by i other (inr rest) there =
        let same : length bands ≡ i = omega (arith, rest, there, so_far.number) in
        let here : n ≡ i = omega (arith, rest, there) in
        subst (λ (k : ℕ). IsBandAt moves count i (slice_index_or (bands ++ band ∷ []) k other)) same
        (subst (IsBandAt moves count i) (sym (get_or-append_seam bands band [] other)) (subst (λ (k : ℕ). IsBandAt moves count k band) here last))
