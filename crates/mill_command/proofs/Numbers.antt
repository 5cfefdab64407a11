-- Rows in which clap finds no fault give the numbers that arguments take.
use Rattle.std.proofs.Common.{◌≡◌, ◌≤◌, ◌<◌, ◌^◌, ◌∙◌, ◌||◌, ◌∷◌, [], ℕ, Bool, true, false, cond, refl, sym, ap, arith, true≢false, List, Option, Some, None}
use Rattle.std.specs.Prelude.{find, option_and_then, option_map, slice_get, Result, Ok, Err}
use Rattle.std.specs.List.{list_all}
use Rattle.std.specs.Str.{bytes_eq}
use Rattle.std.proofs.lemmas.Slice.Eq.{bytes_eq-Decides}
use Rattle.std.specs.Str.Parse.{ParsesUnsigned, digits_value, without_leading_plus}
use Rattle.clap.specs.Lexer.{without_minus}
use Rattle.clap.specs.Matches.{ReadsOne}
use Rattle.clap.specs.Values.{IsUnsignedIn, read_as}
use Rattle.clap.specs.ValueTests.{accepts, is_unsigned_in}
use Rattle.clap.specs.Walk.{Row, Text, has_row, row_text}
use Rattle.clap.specs.declared.builder.value_parser.Reading.{Reading}
use Rattle.clap.specs.declared.builder.value_parser.Reading.TheVariants.{AsWritten, WithoutMinus, Boolish, Falsey}
use Rattle.clap.specs.declared.builder.value_parser.ValueParser.TheVariants.{Unsigned}
use Rattle.clap.proofs.CallerReads.{signed_reads}
use Rattle.clap.proofs.ValueTestLemmas.{accepts-Accepts, Accepts-accepts}
use Rattle.clap.proofs.WalkLemmas.{both}
use Rattle.mill_command.specs.Set.{up_to}
use Rattle.mill_command.specs.Requests.{number_of, number_in}
use Rattle.mill_command.proofs.Faultless.{all_right, are_numbers, are_numbers_if, is_full, is_right, most_of, suits}

-- ---- the number of a text

abbrev is_number : Text → Bool
is_number text = is_unsigned_in 0 4294967295 text

-- the test, either way round
number_tested : (text : Text) → is_number text ≡ true → IsUnsignedIn 0 4294967295 text
number_tested text e = accepts-Accepts false (Unsigned 0 4294967295) text e

tested_number : (text : Text) → IsUnsignedIn 0 4294967295 text → is_number text ≡ true
tested_number text h = Accepts-accepts false (Unsigned 0 4294967295) text h

-- what reading a text as a `u32` comes to
pub number_read : (E : Type 0) (G : List ℕ → Result ℕ E → Type 0) (text : Text) (r : Option ℕ) → ReadsOne G text r → ((t : List ℕ) (x : Result ℕ E) → G t x → ParsesUnsigned 32 10 t x)
    → r ≡ number_of text
number_read E G text (Some n) read only =
    let h = only text (Ok n) read in
    let small : digits_value 10 (without_leading_plus text) < 4294967296 = h.0.1 in
    rw (tested_number text (h.0.0, omega arith, omega arith, omega arith)) (ap (λ k. Some k) h.1)
number_read E G text None read only = go (is_number text) refl
  where
    go : (b : Bool) → is_number text ≡ b → None ≡ cond b (Some (digits_value 10 (without_leading_plus text))) None
    go false e = refl
    go true e =
        let is = number_tested text e in
        let most : digits_value 10 (without_leading_plus text) ≤ 4294967295 = is.3 in
        absurd (only text (Err read.0) read.1 (is.0, omega arith))

reads_number : (text : Text) → ReadsOne {T = ℕ} {E = Unit {0}} (λ t x. ParsesUnsigned 32 10 t x) text (number_of text)
reads_number text = go (is_number text) refl
  where
    go : (b : Bool) → is_number text ≡ b → ReadsOne {T = ℕ} {E = Unit {0}} (λ t x. ParsesUnsigned 32 10 t x) text (cond b (Some (digits_value 10 (without_leading_plus text))) None)
    go true e =
        let is = number_tested text e in
        let most : digits_value 10 (without_leading_plus text) ≤ 4294967295 = is.3 in
        ((is.0, omega arith), refl)
    go false e = (
      tt,
      λ h.
          let small : digits_value 10 (without_leading_plus text) < 4294967296 = h.1 in
          absurd (true≢false (sym (tested_number text (h.0, omega arith, omega arith, omega arith)) ∙ e)),
    )

-- there is a number, and it is from 1 to this one
abbrev pub HasNumber : ℕ → Option ℕ → Type 0
HasNumber most o = (n : ℕ) × (o ≡ Some n) × (1 ≤ n) × (n ≤ most)

-- a text that clap takes as a number up to this one is one
counted : (most : ℕ) (text : Text) → most < 2 ^ 32 → accepts false (up_to most) text ≡ true → HasNumber most (number_of (without_minus text))
counted most text small e = signed_reads (Unit {0}) (λ t x. ParsesUnsigned 32 10 t x) 32 1 most text (number_of (without_minus text)) (reads_number (without_minus text)) (λ u x g. g) small
    (accepts-Accepts false (up_to most) text e)

-- ---- the row of an id that takes numbers

numbers_of : (most : ℕ) (how : Reading) (values : List Text) → most < 2 ^ 32 → is_full values ≡ true → are_numbers most how values ≡ true
    → HasNumber most (option_and_then number_of (option_map (read_as how) (slice_get values 0)))
numbers_of most how [] small full e = absurd (true≢false (sym full))
numbers_of most WithoutMinus (v ∷ vs) small full e = counted most v small (both (accepts false (up_to most) v) (list_all (accepts false (up_to most)) vs) e).0
numbers_of most AsWritten (v ∷ vs) small full e = absurd (true≢false (sym e))
numbers_of most Boolish (v ∷ vs) small full e = absurd (true≢false (sym e))
numbers_of most Falsey (v ∷ vs) small full e = absurd (true≢false (sym e))

-- rows in which clap finds no fault, one of them under an id that takes numbers, give its number
pub number_found : (id : Text) (most : ℕ) (rows : List Row) → most_of id ≡ Some most → most < 2 ^ 32 → all_right rows ≡ true → has_row id rows ≡ true → HasNumber most (number_in id rows)
number_found id most [] takes small right has = absurd (true≢false (sym has))
number_found id most (r ∷ rs) takes small right has =
    let here = both (is_right r) (all_right rs) right in
    let this = both (is_full r.values) (suits r.id r.reading r.values) here.0 in
    go (bytes_eq r.id id) refl this.0 this.1 has (λ there. number_found id most rs takes small here.1 there)
  where
    go : (b : Bool) → bytes_eq r.id id ≡ b → is_full r.values ≡ true → suits r.id r.reading r.values ≡ true → (b || has_row id rs) ≡ true
        → (has_row id rs ≡ true → HasNumber most (number_in id rs))
        → HasNumber most (option_and_then number_of (option_and_then row_text (cond b (Some r) (find (λ (x : Row). bytes_eq x.id id) rs))))
    go true same full suit there below =
        let under : most_of r.id ≡ Some most = ap most_of ((bytes_eq-Decides r.id id).0 same) ∙ takes in
        numbers_of most r.reading r.values small full (sym (ap (λ o. are_numbers_if o r.reading r.values) under) ∙ suit)
    go false same full suit there below = below there
