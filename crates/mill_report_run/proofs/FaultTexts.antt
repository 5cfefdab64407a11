-- The documents of the faults that take no memory.
use Rattle.std.proofs.Common.{◌≡◌, ℕ, ◌<◌, List, [], ◌∷◌, ◌++◌, Bool, true, ◌&&◌, codes, refl, sym, ap, ◌∙◌, ltb-true}
use Rattle.std.proofs.lemmas.Bool.{and_parts}
use Rattle.std.proofs.lemmas.List.Elements.{All-cons, All-nil}
use Rattle.std.proofs.lemmas.Str.{IsUtf8-from_ascii, utf8_lossy-IsUtf8}
use Rattle.std.proofs.lemmas.Str.Ascii.{IsAscii-from_all}
use Rattle.std.specs.Fmt.{digits}
use Rattle.std.specs.Prelude.{All, nat_lt}
use Rattle.std.specs.Str.Lossy.{utf8_lossy}
use Rattle.json.specs.Print.{escape_byte}
use Rattle.mill_document.specs.Documents.{fault_data, text_of}
use Rattle.serde_json.specs.Data.{Data, number, unsigned, string, object, member, no_members}

-- each byte is one of ASCII
abbrev are_low : List ℕ → Bool
are_low [] = true
are_low (b ∷ bytes) = nat_lt b 128 && are_low bytes

each_low : (bytes : List ℕ) → are_low bytes ≡ true → All (λ b. b < 128) bytes
each_low [] low = All-nil (λ b. b < 128)
each_low (b ∷ bytes) low =
    let parts = and_parts (nat_lt b 128) (are_low bytes) low in
    All-cons (λ b. b < 128) b bytes (ltb-true b 128 parts.0) (each_low bytes parts.1)

lossy_is : (line : List ℕ) → are_low line ≡ true → utf8_lossy line ≡ line
lossy_is line low = utf8_lossy-IsUtf8 line (IsUtf8-from_ascii line (IsAscii-from_all line (each_low line low)))

-- the data of a fault with this line
abbrev told : List ℕ → ℕ → Data
told line status = object (member (codes "line") (string line) (member (codes "status") (number (unsigned status)) no_members))

told_is : (line : List ℕ) (status : ℕ) → are_low line ≡ true → fault_data line status ≡ told line status
told_is line status low = ap (λ (text : List ℕ). told text status) (lossy_is line low)

-- the text of a fault, whose status is this digit
abbrev pub document : List ℕ → ℕ → List ℕ
document line digit = 123 ∷ 34 ∷ codes "line" ++ 34 ∷ 58 ∷ 34 ∷ line ++ 34 ∷ 44 ∷ 34 ∷ codes "status" ++ 34 ∷ 58 ∷ digit ∷ 125 ∷ 10 ∷ []

pub memory_written : document (codes "out of memory") 53 ≡ text_of (fault_data (codes "out of memory") 5)
unfolding escape_byte digits
memory_written =
    let written : document (codes "out of memory") 53 ≡ text_of (told (codes "out of memory") 5) = refl in
    written ∙ ap text_of (sym (told_is (codes "out of memory") 5 refl))

pub job_written : document (codes "read fault job") 54 ≡ text_of (fault_data (codes "read fault job") 6)
unfolding escape_byte digits
job_written =
    let written : document (codes "read fault job") 54 ≡ text_of (told (codes "read fault job") 6) = refl in
    written ∙ ap text_of (sym (told_is (codes "read fault job") 6 refl))

pub part_written : document (codes "read fault part") 54 ≡ text_of (fault_data (codes "read fault part") 6)
unfolding escape_byte digits
part_written =
    let written : document (codes "read fault part") 54 ≡ text_of (told (codes "read fault part") 6) = refl in
    written ∙ ap text_of (sym (told_is (codes "read fault part") 6 refl))

pub program_written : document (codes "read fault program") 54 ≡ text_of (fault_data (codes "read fault program") 6)
unfolding escape_byte digits
program_written =
    let written : document (codes "read fault program") 54 ≡ text_of (told (codes "read fault program") 6) = refl in
    written ∙ ap text_of (sym (told_is (codes "read fault program") 6 refl))
