use mathlib.Core.Path.{sym, ap, ◌∙◌}
use borrow.Author.Tests.{lt-ltb, le-ltb}
use Rattle.device.specs.Device.{stands_on}
use Rattle.device.proofs.stand.on_record.Goals as goal

pub returns-in_default : goal.returns-in_default
returns-in_default c = sym (ap (stands_on c.args.n) c.in_default.is)

pub returns-then-n-at : goal.returns-then-n-at
returns-then-n-at c = sym (ap (stands_on c.args.n) c.in-Some.is ∙ rw (le-ltb _ _ c.if-n-at.true))

pub returns : goal.returns
returns c = sym (ap (stands_on c.args.n) c.in-Some.is ∙ rw (lt-ltb _ _ c.if-n-at.false))
