-- The exit statuses.
use Rattle.std.specs.Prelude.{ℕ}
use Rattle.mill_answer.specs.declared.status.Status.{Status}
use Rattle.mill_answer.specs.declared.status.Status.TheVariants as status

abbrev pub status_code : Status → ℕ
status_code status.Done = 0
status_code status.Words = 2
status_code status.Rejected = 3
status_code status.Refused = 4
status_code status.Memory = 5
status_code status.ReadFault = 6
status_code status.WriteFault = 7
status_code status.Uncut = 8
status_code status.TooLarge = 9
