use Rattle.rx_stream.specs.laws.Flats.{grown}
use Rattle.rx_stream.specs.Pieces.{piece_of}
use Rattle.descriptors.specs.Cells.{record_at}
use Rattle.std.proofs.Common.{◌≡◌, ◌+◌, ◌-◌, ◌*◌, ◌≤◌, []}
use Rattle.rx_stream.proofs.piece.piece_of.Given as goal

abbrev pub invariant-loop-at : goal.invariant-loop-at
invariant-loop-at l =
    (l.piece.bytes ≤ 65535 * l.piece.records) × (l.at ≡ l.i + l.piece.records)
    × (grown l.piece.bytes l.piece.records (piece_of (record_at [] l.w) l.offset (l.want - l.piece.bytes) (l.end - l.at) l.at) ≡ piece_of (record_at [] l.w) l.o l.want (l.end - l.i) l.i)
