-- One call of the program, as the outside sees it.
use Rattle.std.specs.Prelude.{◌≡◌, ◌⊎◌, ◌↔◌, ◌<◌, ◌-◌, ◌^◌, ℕ, List, Option}
use Rattle.std.specs.Process.{exit_status}
use Rattle.std.specs.declared.process.ExitCode.{ExitCode}
use Rattle.mill_io.specs.Readings.{AreHeld}
use Rattle.mill_io.specs.Views.{StoreView, SinkView}
use Rattle.mill_answer.specs.declared.status.Status.{Status}
use Rattle.mill_answer.specs.Statuses.{status_code}

-- one call: its exit status, and what the store and the sink show before it and after it
pub record Call : Type 0 where
  pub status : ℕ
  pub store : StoreView
  pub store_after : StoreView
  pub sink : SinkView
  pub sink_after : SinkView

abbrev pub call_of : Status → StoreView → StoreView → SinkView → SinkView → Call
call_of status store store_after sink sink_after =
    record { status = status_code status; store = store; store_after = store_after; sink = sink; sink_after = sink_after }

-- the same, where the process ends with this code
abbrev pub ended_call : ExitCode → StoreView → StoreView → SinkView → SinkView → Call
ended_call code store store_after sink sink_after =
    record { status = exit_status code; store = store; store_after = store_after; sink = sink; sink_after = sink_after }

-- files of these contents hold what each read of the call gave
abbrev pub HoldsReads : (List ℕ → Option (List ℕ)) → Call → Type 0
HoldsReads contents call = AreHeld contents call.store.log call.store_after.log

-- each count of faults can still rise, so that a failed call is seen in it
pub record CanCount (store : StoreView) (sink : SinkView) : Type 0 where
  pub reads : store.read_faults < 2 ^ 64 - 1
  pub writes : store.write_faults < 2 ^ 64 - 1
  pub prints : sink.faults < 2 ^ 64 - 1

-- nothing of the outside failed: each count of faults is what it was
pub record NoFault (call : Call) : Type 0 where
  pub reads : call.store_after.read_faults ≡ call.store.read_faults
  pub writes : call.store_after.write_faults ≡ call.store.write_faults
  pub prints : call.sink_after.faults ≡ call.sink.faults

-- the status is 7 exactly where a write of the store or of the sink failed
abbrev pub BlamesWrites : Call → Type 0
BlamesWrites call =
    (call.status ≡ 7) ↔ ((call.store.write_faults < call.store_after.write_faults) ⊎ (call.sink.faults < call.sink_after.faults))

-- the status is 6 exactly where a read of the store failed and no write of the sink did
abbrev pub BlamesReads : Call → Type 0
BlamesReads call =
    (call.status ≡ 6) ↔ ((call.store.read_faults < call.store_after.read_faults) × (call.sink_after.faults ≡ call.sink.faults))

-- the status tells of a failed write, and of a failed read
pub record BlamesFaults (call : Call) : Type 0 where
  pub write : BlamesWrites call
  pub read : BlamesReads call
