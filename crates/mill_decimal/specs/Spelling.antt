-- How a decimal is spelled: a sign, digits with a point among them, an exponent.
use Rattle.std.specs.Prelude.{ℕ, ◌+◌, ◌==◌, nat_lt, nat_le, Bool, false, ◌&&◌, ◌||◌, if◌then◌else◌, ℤ, pos, neg_ℤ, ◌+ℤ◌, ◌-ℤ◌, List, [], ◌∷◌, ◌++◌, length, take, drop, Option, Some, None, option_map, Result, Ok, Err}
use Rattle.std.specs.List.{prefix_len}
use Rattle.std.specs.Char.{is_ascii_digit}
use Rattle.std.specs.Str.Parse.{digits_value}
use Rattle.mill_base.specs.declared.unit.Unit.{Unit}
use Rattle.mill_base.specs.Units.{places_of}
use Rattle.mill_decimal.specs.declared.fault.DecFault.{DecFault}
use Rattle.mill_decimal.specs.declared.fault.DecFault.TheVariants.{Spelling, TooManyDigits}
use Rattle.mill_decimal.specs.declared.scaled.Scaled.{Scaled}

-- ---- the sign and the digits; 43 is `+`, 45 is `-`, 46 is the point

-- the text begins with a minus sign
abbrev pub is_negative : List ℕ → Bool
is_negative [] = false
is_negative (b ∷ text) = b == 45

-- what stands behind the sign, if there is one
abbrev pub after_sign : List ℕ → List ℕ
after_sign [] = []
after_sign (b ∷ text) = if (b == 45) || (b == 43) then text else b ∷ text

-- a number with its sign
abbrev pub signed : Bool → ℕ → ℤ
signed negative n = if negative then neg_ℤ (pos n) else pos n

-- the digits that a text begins with
unfoldable pub digits_of : List ℕ → List ℕ
digits_of text = take (prefix_len is_ascii_digit text) text

-- what stands behind these digits
unfoldable pub after_digits : List ℕ → List ℕ
after_digits text = drop (prefix_len is_ascii_digit text) text

-- the digits behind a point that the text begins with, if it does
abbrev pub fraction_of : List ℕ → List ℕ
fraction_of [] = []
fraction_of (b ∷ text) = if b == 46 then digits_of text else []

-- what stands behind that point and its digits
abbrev pub after_fraction : List ℕ → List ℕ
after_fraction [] = []
after_fraction (b ∷ text) = if b == 46 then after_digits text else b ∷ text

-- ---- the exponent; 69 is `E`, 101 is `e`

-- the number of one to three digits with nothing behind them
abbrev pub short_number : List ℕ → List ℕ → Option ℕ
short_number digits [] = if nat_lt 0 (length digits) && nat_le (length digits) 3 then Some (digits_value 10 digits) else None
short_number digits (b ∷ rest) = None

-- the exponent behind its mark: an optional sign, and one to three digits
unfoldable pub marked_exponent : List ℕ → Option ℤ
marked_exponent text = option_map (signed (is_negative text)) (short_number (digits_of (after_sign text)) (after_digits (after_sign text)))

-- the exponent that a text spells: nothing is 0, and a mark stands before any other
abbrev pub exponent_of : List ℕ → Option ℤ
exponent_of [] = Some (pos 0)
exponent_of (b ∷ text) = if (b == 101) || (b == 69) then marked_exponent text else None

-- ---- the whole decimal

-- the digits are the mantissa, and a millimetre has so many decimals of units: units are the mantissa times ten to this power
abbrev pub scaled_digits : Unit → Bool → List ℕ → List ℕ → ℤ → Scaled
scaled_digits unit negative whole fraction exponent =
    record { negative = negative; mantissa = digits_value 10 (whole ++ fraction); power = (exponent -ℤ pos (length fraction)) +ℤ pos (places_of unit) }

-- at least one digit and an exponent, or it is no decimal; and at most 24 digits
abbrev pub scaled_by : Unit → Bool → List ℕ → List ℕ → Option ℤ → Result Scaled DecFault
scaled_by unit negative whole fraction None = Err Spelling
scaled_by unit negative whole fraction (Some exponent) =
    if length whole + length fraction == 0 then Err Spelling else
    (if nat_lt 24 (length whole + length fraction) then Err TooManyDigits else
    Ok (scaled_digits unit negative whole fraction exponent))

-- the whole digits and what stands behind them
abbrev pub scaled_behind : Unit → Bool → List ℕ → List ℕ → Result Scaled DecFault
scaled_behind unit negative whole rest = scaled_by unit negative whole (fraction_of rest) (exponent_of (after_fraction rest))

-- a text without its sign
abbrev pub scaled_unsigned : Unit → Bool → List ℕ → Result Scaled DecFault
scaled_unsigned unit negative text = scaled_behind unit negative (digits_of text) (after_digits text)

-- the units of a text that is spelled as a decimal of at most 24 digits
unfoldable pub scaled_of : Unit → List ℕ → Result Scaled DecFault
scaled_of unit text = scaled_unsigned unit (is_negative text) (after_sign text)
