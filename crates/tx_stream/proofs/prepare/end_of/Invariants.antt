use Rattle.tx_stream.specs.Transmit.{reached}
use Rattle.descriptors.specs.Cells.{record_at}
use Rattle.std.proofs.Common.{◌≡◌, ◌-◌, []}
use Rattle.tx_stream.proofs.prepare.end_of.Given as goal

abbrev pub invariant-loop-d : goal.invariant-loop-d
invariant-loop-d l =
    reached (record_at [] l.w) (l.n - l.d) l.d l.remaining ≡ reached (record_at [] l.w) l.n 0 l.bytes_pushed
