use Rattle.rx_stream.specs.laws.Flats.{eof-none, eof-stop, eof-here, eof-short, eof-go}
use Rattle.std.proofs.Common.{arith}
use Rattle.rx_stream.proofs.piece.flat_eof.Goals as goal

pub returns-then-not-is_cpu : goal.returns-then-not-is_cpu
returns-then-not-is_cpu c = grind (arith, eof-stop)

pub returns-then-suc_eof_of : goal.returns-then-suc_eof_of
returns-then-suc_eof_of c = grind (arith, eof-here)

pub returns-then-is_short : goal.returns-then-is_short
returns-then-is_short c = grind (arith, eof-short)

pub loop-at-preserved : goal.loop-at-preserved
loop-at-preserved c = grind (arith, eof-go)

pub returns : goal.returns
returns c = grind (arith, eof-none)
