use Rattle.mill_decimal.proofs.RoundTrip.{read_as-canonical}
use Rattle.mill_decimal.proofs.round_trip.written_reads_back.Goals as goal

pub returns : goal.returns
returns c = read_as-canonical
