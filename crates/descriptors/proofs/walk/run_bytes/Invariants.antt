use Rattle.descriptors.specs.Walk.{run_bytes}
use Rattle.descriptors.specs.Cells.{record_at}
use Rattle.std.proofs.Common.{◌≡◌, ◌+◌, ◌-◌, ◌*◌, ◌≤◌, []}
use Rattle.descriptors.proofs.walk.run_bytes.Given as goal

abbrev pub invariant-loop-passed : goal.invariant-loop-passed
invariant-loop-passed l =
    (l.total ≤ 65535 * l._passed) × (l.total + run_bytes l.dir (record_at [] l.w) l.n (l.n - l._passed) l.at ≡ run_bytes l.dir (record_at [] l.w) l.n l.n l.i)
