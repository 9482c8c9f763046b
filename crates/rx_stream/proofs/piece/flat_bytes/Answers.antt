use Rattle.rx_stream.specs.laws.Flats.{flat-none, flat-stop, flat-ends, flat-go}
use Rattle.std.proofs.Common.{arith}
use Rattle.rx_stream.proofs.piece.flat_bytes.Goals as goal

pub returns-then-not-is_cpu : goal.returns-then-not-is_cpu
returns-then-not-is_cpu c = grind (arith, flat-stop)

pub returns-then-ends_with : goal.returns-then-ends_with
returns-then-ends_with c = grind (arith, flat-ends)

pub loop-at-preserved : goal.loop-at-preserved
loop-at-preserved c = grind (arith, flat-go)

pub returns : goal.returns
returns c = grind (arith, flat-none)
