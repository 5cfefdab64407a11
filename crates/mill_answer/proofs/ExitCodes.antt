-- A call whose process ends with the code of its status.
use Rattle.std.proofs.Common.{◌≡◌, ℕ, subst, sym}
use Rattle.std.specs.Process.{exit_status}
use Rattle.std.specs.declared.process.ExitCode.{ExitCode}
use Rattle.mill_io.specs.Views.{SinkView, StoreView}
use Rattle.mill_answer.specs.Statuses.{status_code}
use Rattle.mill_answer.specs.declared.status.Status.{Status}
use Rattle.mill_answer.specs.Calls.{Call, call_of, ended_call}

-- what holds of the call with the status holds of it with the code
pub ended_as : (P : Call → Type 0) (status : Status) (code : ExitCode) (store store_after : StoreView) (sink sink_after : SinkView) → exit_status code ≡ status_code status
    → P (call_of status store store_after sink sink_after) → P (ended_call code store store_after sink sink_after)
ended_as P status code store store_after sink sink_after same h =
    subst (λ (n : ℕ). P (record { status = n; store = store; store_after = store_after; sink = sink; sink_after = sink_after })) (sym same) h
