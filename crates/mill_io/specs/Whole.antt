-- What a whole read answers.
use Rattle.std.specs.Prelude.{◌≡◌, ℕ, ◌≤◌, ◌<◌, Option, List, length, Result, Ok, Err, IfSome, Vec}
use Rattle.std.specs.declared.alloc.Global.{Global}
use Rattle.mill_io.specs.Causes.{Rose}
use Rattle.mill_io.specs.declared.whole.ReadEnd.{ReadEnd}
use Rattle.mill_io.specs.declared.whole.ReadEnd.TheVariants.{ReadFault, TooLong, WantOfMemory}

-- an Ok is exactly the contents, at most limit long; TooLong says that the contents are longer
abbrev pub IsWhole : Option (List ℕ) → ℕ → Result (Vec ℕ Global) ReadEnd → Type 0
IsWhole told limit (Ok v) = IfSome told (λ bytes. v.items ≡ bytes) × (length v.items ≤ limit)
IsWhole told limit (Err TooLong) = IfSome told (λ bytes. limit < length bytes)
IsWhole told limit (Err ReadFault) = Unit {0}
IsWhole told limit (Err WantOfMemory) = Unit {0}

-- ReadFault says that the count of read faults rose, and each other answer that it stayed
abbrev pub ReadEndsBy : ℕ → ℕ → Result (Vec ℕ Global) ReadEnd → Type 0
ReadEndsBy before now (Ok v) = now ≡ before
ReadEndsBy before now (Err TooLong) = now ≡ before
ReadEndsBy before now (Err ReadFault) = Rose before now
ReadEndsBy before now (Err WantOfMemory) = now ≡ before
