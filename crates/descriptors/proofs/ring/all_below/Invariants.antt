use Rattle.std.proofs.Common.{◌≡◌, ℕ, Bool, ◌<◌}
use Rattle.descriptors.specs.Cells.{all_below}
use Rattle.descriptors.proofs.ring.all_below.Given as goal

abbrev pub invariant-loop-i : goal.invariant-loop-i
invariant-loop-i g l = (p : ℕ → Bool) → ((i : ℕ) (b : Bool) → i < l.n → goal.F-post g l.test i b → b ≡ p i) → l.ok ≡ all_below p l.i
