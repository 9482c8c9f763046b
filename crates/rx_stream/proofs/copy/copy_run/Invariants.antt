use Rattle.rx_stream.specs.Receive.{over}
use Rattle.descriptors.specs.Walk.{run_data}
use Rattle.descriptors.specs.Cells.{records_of}
use Rattle.descriptors.specs.Record.{record_in}
use Rattle.descriptors.specs.declared.record.TransferDirection.TheVariants.{In}
use Rattle.std.proofs.Common.{◌≡◌, ◌<◌, ◌≤◌, ◌++◌, length, take, drop}
use Rattle.rx_stream.proofs.copy.copy_run.Given as goal

abbrev pub invariant-loop-left : goal.invariant-loop-left
invariant-loop-left l =
    (l.at < l.n) × (l.left ≤ l.n) × (l.offset ≤ (record_in (records_of l.s l.w) l.at).length) × (l.done ≤ l.k) × (l.k ≡ length l.initial.dst) × (length l.dst ≡ length l.initial.dst)
    × (take l.done l.dst ++ over (drop l.offset (run_data In (record_in (records_of l.s l.w)) l.src l.n l.left l.at)) (drop l.done l.dst) ≡ over (drop l.initial.offset (run_data In (record_in (records_of l.s l.w)) l.src l.n l.n l.initial.at)) l.initial.dst)

abbrev pub decreases-loop-left : goal.decreases-loop-left
decreases-loop-left l = l.left
