use Rattle.tx_stream.specs.Faces.{fill_cells}
use Rattle.descriptors.specs.Record.{up_to}
use Rattle.std.proofs.Common.{◌≡◌, length}
use Rattle.tx_stream.proofs.prepare.mark_filled.Given as goal

abbrev pub invariant-loop-d : goal.invariant-loop-d
invariant-loop-d l =
    (length l.w ≡ length l.initial.w) × (l.w ≡ up_to fill_cells l.d l.initial.w)
