use Rattle.psram.specs.laws.Parts.{head-le, tail-le}
use Rattle.psram.specs.Cut.{tail_of}
use Rattle.std.proofs.Common.{arith}
use Rattle.psram.proofs.cut.planned.Goals as goal

pub overflow_sub-length : goal.overflow_sub-length
overflow_sub-length c = let a = c.args in omega (arith, head-le a.least a.bounce a.address a.length c.requires)

pub overflow_sub-result : goal.overflow_sub-result
overflow_sub-result c = let a = c.args in omega (arith, head-le a.least a.bounce a.address a.length c.requires)

pub overflow_sub-result-2 : goal.overflow_sub-result-2
unfolding tail_of
overflow_sub-result-2 c = let a = c.args in rw (c.grown-tail.ensures, c.head_of-head.ensures) (tail-le a.least a.bounce a.address a.length c.requires)
