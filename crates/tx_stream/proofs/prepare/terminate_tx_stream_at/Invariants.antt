use Rattle.tx_stream.specs.Faces.{cut_cells}
use Rattle.descriptors.specs.Record.{up_to}
use Rattle.std.proofs.Common.{◌≡◌, ℕ, List, length}
use Rattle.tx_stream.proofs.prepare.terminate_tx_stream_at.Given as goal

abbrev pub invariant-loop-i : goal.invariant-loop-i
invariant-loop-i l =
    (length l.w ≡ length l.initial.w) × ((vs : List ℕ) → l.initial.w ≡ up_to (cut_cells l.start) l.start vs → l.w ≡ up_to (cut_cells l.start) l.i vs)
