-- What the words of a line mean, one after another.
use Rattle.std.proofs.Common.{◌≡◌, ℕ, ◌+◌, ◌<◌, List, length, take, get_or, Bool, true, false, ◌||◌, refl, ◌∙◌}
use Rattle.std.proofs.Math.Bool.{or_comm}
use Rattle.std.proofs.lemmas.List.Folds.{list_any_more}
use Rattle.mill_words.specs.declared.word.Word.{Word}
use Rattle.mill_said.specs.declared.machine_table.Meaning.{Meaning}
use Rattle.mill_said.specs.MachineTable.{row_of}
use Rattle.mill_said.specs.MachineTakes.{has_word, is_drill, is_dwell, is_inches, is_length, is_millimetres, is_motion, is_rest, is_tolerance, is_turn, meaning_of}
use Rattle.mill_said.specs.inner.SeenWords.{seen_in, seen_with}

-- one word more
has_more : (test : Meaning → Bool) (words : List Word) (i : ℕ) (d : Word) → i < length words
    → has_word test (take (i + 1) words) ≡ (test (meaning_of (row_of (get_or words i d))) || has_word test (take i words))
has_more test words i d lt = list_any_more (λ w. test (meaning_of (row_of w))) words i d lt ∙ or_comm (has_word test (take i words)) (test (meaning_of (row_of (get_or words i d))))

pub seen_more : (words : List Word) (i : ℕ) (d : Word) → i < length words
    → seen_with (seen_in (take i words)) (meaning_of (row_of (get_or words i d))) ≡ seen_in (take (i + 1) words)
seen_more words i d lt =
    rw (
      has_more (is_length true) words i d lt,
      has_more (is_length false) words i d lt,
      has_more is_rest words i d lt,
      has_more is_tolerance words i d lt,
      has_more is_motion words i d lt,
      has_more is_drill words i d lt,
      has_more is_dwell words i d lt,
      has_more is_turn words i d lt,
      has_more is_inches words i d lt,
      has_more is_millimetres words i d lt,
    ) refl
