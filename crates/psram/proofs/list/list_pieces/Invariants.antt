use lib.ListN.{length}
use Rattle.psram.specs.Cut.{piece}
use Rattle.descriptors.specs.Record.{up_to}
use Rattle.psram.specs.List.{list_start, list_cells, covered_of}
use Prim.Native.Nat.{◌*◌, ◌≤◌}
use mathlib.Core.Path.{◌≡◌}
use Rattle.psram.proofs.list.list_pieces.Given as goal

abbrev pub invariant-loop-i : goal.invariant-loop-i
invariant-loop-i l =
    (l.covered ≤ piece * l.i) × (length l.s ≡ length l.initial.s) × (length l.w ≡ length l.initial.w) × (l.covered ≡ covered_of l.p l.i) × (l.s ≡ up_to (list_start l.p) l.i l.initial.s) × (l.w ≡ up_to (list_cells l.p) l.i l.initial.w)
