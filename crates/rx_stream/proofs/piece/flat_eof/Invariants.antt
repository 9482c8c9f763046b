use Rattle.rx_stream.specs.Receive.{flat_eof}
use Rattle.descriptors.specs.Cells.{record_at}
use Rattle.std.proofs.Common.{◌≡◌, ◌-◌, []}
use Rattle.rx_stream.proofs.piece.flat_eof.Given as goal

abbrev pub invariant-loop-at : goal.invariant-loop-at
invariant-loop-at l =
    flat_eof (record_at [] l.w) (l.n - l.at) l.at ≡ flat_eof (record_at [] l.w) (l.n - l.i) l.i
