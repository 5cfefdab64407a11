-- What a store and a sink show of themselves, and how a call on one may change it.
use Rattle.std.specs.Prelude.{◌≡◌, ℕ, Bool, false, IsTrue, List, Option, Some, None}
use Rattle.mill_io.specs.Causes.{Rose}
use Rattle.mill_io.specs.Contents.{Stay, OthersStay, Appended, AppendedPart, Stored, SameOrPart}
use Rattle.mill_io.specs.Readings.{Reading}

-- what a store of files shows: whether it tells its contents, what it tells of each name, how often a read and how often a create or an append failed, and what each read gave, the last one first
pub record StoreView : Type 0 where
  pub tells : Bool
  pub contents : List ℕ → Option (List ℕ)
  pub read_faults : ℕ
  pub write_faults : ℕ
  pub log : List Reading

-- what a sink shows: what was written, where it tells it, and how often a write failed
pub record SinkView : Type 0 where
  pub written : Option (List ℕ)
  pub faults : ℕ

-- a store that tells no contents, with these counts and these reads
abbrev pub untold : ℕ → ℕ → List Reading → StoreView
untold read_faults write_faults log = record { tells = false; contents = λ name. None; read_faults = read_faults; write_faults = write_faults; log = log }

-- a sink that doesn't tell what was written, with this count
abbrev pub unwritten : ℕ → SinkView
unwritten faults = record { written = None; faults = faults }

-- ---- stores

-- nothing that the store shows has changed, but for its reads and the count of those that failed
pub record ReadsOnly (old new : StoreView) : Type 0 where
  pub contents : Stay old.contents new.contents
  pub tells : new.tells ≡ old.tells
  pub write_faults : new.write_faults ≡ old.write_faults

-- nothing that the store shows has changed, but for the contents of this name and its count of failed writes
pub record WritesOnly (name : List ℕ) (old new : StoreView) : Type 0 where
  pub others : OthersStay name old.contents new.contents
  pub tells : new.tells ≡ old.tells
  pub read_faults : new.read_faults ≡ old.read_faults

-- the bytes are the whole contents of the name, where the store tells them, and nothing failed
pub record IsStored (name bytes : List ℕ) (old new : StoreView) : Type 0 where
  pub stored : Stored bytes (old.contents name) (new.contents name)
  pub told : IsTrue old.tells → new.contents name ≡ Some bytes
  pub only : WritesOnly name old new
  pub write_faults : new.write_faults ≡ old.write_faults

-- a create or an append failed: the contents of the name are as before, or a prefix of the bytes
pub record IsPartStored (name bytes : List ℕ) (old new : StoreView) : Type 0 where
  pub stored : SameOrPart bytes (old.contents name) (new.contents name)
  pub only : WritesOnly name old new
  pub write_faults : Rose old.write_faults new.write_faults

-- ---- sinks

-- the bytes were written, and nothing failed
pub record IsWritten (bytes : List ℕ) (old new : SinkView) : Type 0 where
  pub written : Appended bytes old.written new.written
  pub faults : new.faults ≡ old.faults

-- a write failed: a prefix of the bytes was written, which may be empty
pub record IsPartWritten (bytes : List ℕ) (old new : SinkView) : Type 0 where
  pub written : AppendedPart bytes old.written new.written
  pub faults : Rose old.faults new.faults
