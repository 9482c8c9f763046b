use Rattle.descriptors.specs.Walk.{walk}
use Rattle.descriptors.specs.Cells.{record_at}
use Rattle.std.proofs.Common.{◌≡◌, ◌-◌, ◌≤◌, []}
use Rattle.descriptors.proofs.walk.walk_over.Given as goal

abbrev pub invariant-loop-passed : goal.invariant-loop-passed
invariant-loop-passed l =
    (l.moved.back ≤ l._passed) × (walk l.dir (record_at [] l.w) l.n (l.n - l._passed) l.moved ≡ walk l.dir (record_at [] l.w) l.n l.n (record { at = l.i; offset = l.o; rest = l.k; back = 0 }))
