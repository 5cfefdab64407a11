-- The words of a line for a machine from left to right, as the reader's loop takes them.
use Rattle.std.proofs.Common.{◌≡◌, ℕ, ◌+◌, ◌<◌, ◌≤◌, List, length, drop, get_or, Result, Ok, Err, refl, sym, ap, ◌∙◌, add-one, drop-cons}
use Rattle.std.proofs.Math.ListN.{drop_of_length-le}
use Rattle.mill_words.specs.declared.word.Word.{Word}
use Rattle.mill_said.specs.declared.fault.NgcFault.{NgcFault}
use Rattle.mill_said.specs.declared.machine_said.MachineSaid.{MachineSaid}
use Rattle.mill_said.specs.declared.machine_takes.Takes.{Takes}
use Rattle.mill_said.specs.declared.before.Before.{Before}
use Rattle.mill_said.specs.MachineSaid.{told_from, told_word}
use Rattle.mill_said.specs.Said.{◌>>=◌}

-- the words behind one, after what that one says
abbrev behind : Before → Takes → List Word → Result MachineSaid NgcFault → Result MachineSaid NgcFault
behind p t ws so_far = so_far >>= λ u. told_from p t u ws

-- the meaning of the rest, from one word on
told_from-word : (p : Before) (t : Takes) (words : List Word) (i : ℕ) (d : Word) (s : MachineSaid) → i < length words
    → told_from p t s (drop i words) ≡ behind p t (drop (i + 1) words) (told_word p t s (get_or words i d))
unfolding told_from
told_from-word p t words i d s lt = rw (add-one i, drop-cons words i d lt) refl

-- it is that from the next word on
pub told_from-next : (p : Before) (t : Takes) (words : List Word) (i : ℕ) (d : Word) (s u : MachineSaid) (total : Result MachineSaid NgcFault)
    → i < length words → told_word p t s (get_or words i d) ≡ Ok u
    → told_from p t s (drop i words) ≡ total → told_from p t u (drop (i + 1) words) ≡ total
told_from-next p t words i d s u total lt h so_far =
    sym (told_from-word p t words i d s lt ∙ ap (behind p t (drop (i + 1) words)) h) ∙ so_far

-- or the word's fault
pub told_from-fault : (p : Before) (t : Takes) (words : List Word) (i : ℕ) (d : Word) (s : MachineSaid) (f : NgcFault) (total : Result MachineSaid NgcFault)
    → i < length words → told_word p t s (get_or words i d) ≡ Err f
    → told_from p t s (drop i words) ≡ total → total ≡ Err f
told_from-fault p t words i d s f total lt h so_far =
    sym so_far ∙ told_from-word p t words i d s lt ∙ ap (behind p t (drop (i + 1) words)) h

-- behind the last word all is said
pub told_from-end : (p : Before) (t : Takes) (words : List Word) (i : ℕ) (s : MachineSaid) (total : Result MachineSaid NgcFault)
    → length words ≤ i → told_from p t s (drop i words) ≡ total → total ≡ Ok s
unfolding told_from
told_from-end p t words i s total le so_far =
    let one : told_from p t s (drop i words) ≡ Ok s = rw (drop_of_length-le words le) refl in
    sym so_far ∙ one
