use Rattle.descriptors.specs.Record.{limit}
use Rattle.std.proofs.Common.{◌+◌, ◌*◌, nat_le, slice_index, rules}
use Rattle.descriptors.proofs.ring.marks_ok.Goals as goal

pub returns : goal.returns
returns c = c.all_below.ensures (λ j. nat_le (slice_index c.args.w.now (limit * 3 + j)) 1) (λ j b h q. search rules)
