use Rattle.rx_stream.specs.Receive.{flat_bytes}
use Rattle.descriptors.specs.Cells.{record_at}
use Rattle.std.proofs.Common.{◌≡◌, ◌+◌, ◌-◌, ◌*◌, ◌≤◌, []}
use Rattle.rx_stream.proofs.piece.flat_bytes.Given as goal

abbrev pub invariant-loop-at : goal.invariant-loop-at
invariant-loop-at l =
    (l.total ≤ 65535 * l.at) × (l.total + flat_bytes l.until_eof (record_at [] l.w) (l.n - l.at) l.at ≡ flat_bytes l.until_eof (record_at [] l.w) (l.n - l.i) l.i)
