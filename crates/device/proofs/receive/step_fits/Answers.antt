use mathlib.Core.Path.{sym}
use native.Mathlib.Omega.{arith}
use borrow.Author.Tests.{lt-ltb, le-ltb}
use Rattle.device.proofs.receive.step_fits.Goals as goal

pub returns-then-k-eq0 : goal.returns-then-k-eq0
returns-then-k-eq0 c = sym (rw (le-ltb 0 c.args.k (omega arith)))

pub returns : goal.returns
returns c = rw (lt-ltb 0 c.args.k (omega arith), c.size_of.ensures.0)
