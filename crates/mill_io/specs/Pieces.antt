-- What the next piece of a file is, and how the reading of its pieces ends.
use Rattle.std.specs.Prelude.{◌≡◌, ℕ, ◌+◌, ◌-◌, ◌≤◌, ◌<◌, ◌==◌, if◌then◌else◌, Option, Some, None, List, length, Result, Ok, Err, IfSome}
use Rattle.mill_io.specs.Causes.{Rose}
use Rattle.mill_io.specs.Contents.{GivesFrom}
use Rattle.mill_io.specs.declared.pieces.PieceEnd.{PieceEnd}
use Rattle.mill_io.specs.declared.pieces.PieceEnd.TheVariants.{ReadFault, TooLong}

-- an Ok gives the contents from where the pieces so far ended, at most limit bytes in all; TooLong says that the contents are longer
abbrev pub GivesNext : Option (List ℕ) → ℕ → ℕ → List ℕ → Result ℕ PieceEnd → Type 0
GivesNext told limit given buf (Ok n) = IfSome told (λ bytes. GivesFrom bytes given n buf) × (given + n ≤ limit)
GivesNext told limit given buf (Err TooLong) = IfSome told (λ bytes. limit < length bytes)
GivesNext told limit given buf (Err ReadFault) = Unit {0}

-- ReadFault says that the count of read faults rose, and each other answer that it stayed
abbrev pub PieceEndsBy : ℕ → ℕ → Result ℕ PieceEnd → Type 0
PieceEndsBy before now (Ok n) = now ≡ before
PieceEndsBy before now (Err TooLong) = now ≡ before
PieceEndsBy before now (Err ReadFault) = Rose before now

-- the answer behind such an end
abbrev pub answer_behind : Result Unit PieceEnd → Result ℕ PieceEnd
answer_behind (Ok u) = Ok 0
answer_behind (Err end) = Err end

-- how many bytes an answer gives
abbrev pub bytes_given : Result ℕ PieceEnd → ℕ
bytes_given (Ok n) = n
bytes_given (Err end) = 0

-- the end that an answer is, if it is one
abbrev pub end_by : Result ℕ PieceEnd → Option (Result Unit PieceEnd)
end_by (Ok n) = if n == 0 then Some (Ok tt) else None
end_by (Err end) = Some (Err end)

-- how many reads there may be yet: each but the last gives a byte at least
abbrev pub reads_left : Option (Result Unit PieceEnd) → ℕ → ℕ → ℕ
reads_left None limit given = limit - given + 1
reads_left (Some end) limit given = 0
