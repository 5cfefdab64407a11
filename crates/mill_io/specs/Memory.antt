-- What the shelf and the sink in memory hold, and which of their calls fail.
use Rattle.std.specs.Prelude.{◌≡◌, ℕ, ◌&&◌, ◌-◌, ◌==◌, nat_lt, List, [], ◌∷◌, length, Option, Some, None, ◌||◌, if◌then◌else◌, Bool, true, not, is_none, IsTrue}
use Rattle.std.specs.List.{list_any}
use Rattle.std.specs.Str.{bytes_eq}
use Rattle.mill_io.specs.Causes.{counted}
use Rattle.mill_io.specs.Views.{StoreView, SinkView}
use Rattle.mill_io.specs.declared.script.Script.{Script}
use Rattle.mill_io.specs.declared.room.Room.{Room}
use Rattle.mill_io.specs.declared.mem_shelf.MemFile.{MemFile}
use Rattle.mill_io.specs.declared.mem_shelf.MemShelf.{MemShelf}
use Rattle.mill_io.specs.declared.mem_sink.MemSink.{MemSink}

-- the number n is one of a list
abbrev pub is_listed : ℕ → List ℕ → Bool
is_listed n listed = list_any (λ m. m == n) listed

-- no call was made yet, and these are to fail
pub record IsFresh (fails : List ℕ) (s : Script) : Type 0 where
  pub fails_are : s.fails.items ≡ fails
  pub calls_are : s.calls ≡ 0

-- one call more was made
pub record CountsCall (old new : Script) : Type 0 where
  pub fails_stay : new.fails ≡ old.fails
  pub calls_rise : new.calls ≡ counted old.calls

-- the next call is one of those that are to fail
abbrev pub is_next_listed : Script → Bool
is_next_listed s = is_listed s.calls s.fails.items

-- how many bytes can still be added
abbrev pub room_left : Room → ℕ
room_left r = r.capacity - length r.bytes.items

-- as many bytes of a piece as there is room for
abbrev pub taken_of : Room → List ℕ → ℕ
taken_of r piece = if nat_lt (room_left r) (length piece) then room_left r else length piece

-- a piece that isn't empty finds no room left
abbrev pub finds_no_room : Room → List ℕ → Bool
finds_no_room r piece = nat_lt 0 (length piece) && (room_left r == 0)

-- which calls of a sink or a shelf are to fail, and how much each can hold
abbrev pub sink_script : MemSink → Script
sink_script s = s.script

abbrev pub sink_capacity : MemSink → ℕ
sink_capacity s = s.out.capacity

abbrev pub shelf_script : MemShelf → Script
shelf_script s = s.script

abbrev pub shelf_capacity : MemShelf → ℕ
shelf_capacity s = s.out.capacity

-- as many bytes of a piece as a sink's or a shelf's written file has room for
abbrev pub sink_takes : MemSink → List ℕ → ℕ
sink_takes s piece = taken_of s.out piece

abbrev pub shelf_takes : MemShelf → List ℕ → ℕ
shelf_takes s piece = taken_of s.out piece

-- the name of a shelf's written file
abbrev pub out_name_of : MemShelf → List ℕ
out_name_of s = s.out_name.items

-- the same file can be written, and hold as much
pub record SameOutFile (old new : MemShelf) : Type 0 where
  pub name_stays : out_name_of new ≡ out_name_of old
  pub capacity_stays : shelf_capacity new ≡ shelf_capacity old

-- the bytes of the first file of a name
abbrev pub find_file : List ℕ → List MemFile → Option (List ℕ)
find_file name [] = None
find_file name (f ∷ fs) = if bytes_eq f.name.items name then Some f.bytes.items else find_file name fs

-- the contents under a name: those of the written file, once told, and else of the first file of the name
abbrev pub contents_of : MemShelf → List ℕ → Option (List ℕ)
contents_of s name = if bytes_eq name s.out_name.items then (if s.is_told then Some s.out.bytes.items else None) else find_file name s.files.items

-- what the shelf shows: it tells all its contents
abbrev pub shelf_view : MemShelf → StoreView
shelf_view s = record { tells = true; contents = contents_of s; read_faults = s.read_faults; write_faults = s.write_faults; log = s.log.reads }

-- a shelf that tells its contents, which are those of these files, of which no call has failed and nothing was read
pub record HoldsFiles (files : List MemFile) (view : StoreView) : Type 0 where
  pub tells : IsTrue view.tells
  pub contents : (name : List ℕ) → view.contents name ≡ find_file name files
  pub read_faults : view.read_faults ≡ 0
  pub write_faults : view.write_faults ≡ 0
  pub unread : view.log ≡ []

-- what the sink shows: it tells all that was written
abbrev pub sink_view : MemSink → SinkView
sink_view s = record { written = Some s.out.bytes.items; faults = s.faults }

-- a read fails: its number is listed, or its name isn't there
abbrev pub read_fails : MemShelf → List ℕ → Bool
read_fails s name = is_next_listed s.script || is_none (contents_of s name)

-- a create fails: its number is listed, or its name isn't the written file's
abbrev pub create_fails : MemShelf → List ℕ → Bool
create_fails s name = is_next_listed s.script || not (bytes_eq name s.out_name.items)

-- an append fails: as a create, or its piece finds no room
abbrev pub append_fails : MemShelf → List ℕ → List ℕ → Bool
append_fails s name piece = create_fails s name || finds_no_room s.out piece

-- a write fails: its number is listed, or its piece finds no room
abbrev pub write_fails : MemSink → List ℕ → Bool
write_fails s piece = is_next_listed s.script || finds_no_room s.out piece
