use Rattle.descriptors.specs.Cells.{all_below}
use Rattle.std.proofs.Common.{◌≡◌, ◌*◌, true, eqb, get_or}
use Rattle.descriptors.proofs.ring.starts_ok.Given as goal

-- While the flag is up, the start is the one that is due; afterwards it may be anything.
abbrev pub invariant-loop-i : goal.invariant-loop-i
invariant-loop-i l =
    (l.ok ≡ all_below (λ j. eqb (get_or l.s j 0) (j * l.chunk)) l.i) × (l.ok ≡ true → l.start ≡ l.i * l.chunk)
