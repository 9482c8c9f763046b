use Rattle.tx_stream.specs.laws.Prepares.{reached-none, reached-here, reached-on}
use Rattle.tx_stream.specs.Transmit.{Reached}
use Rattle.descriptors.specs.declared.record.DmaDescriptor.{DmaDescriptor}
use Rattle.descriptors.specs.Cells.{record_at}
use Rattle.std.proofs.Common.{◌≡◌, ℕ, ◌+◌, ◌-◌, [], sym, ap, ◌∙◌, arith}
use Rattle.tx_stream.proofs.prepare.end_of.Goals as goal

pub returns-then-remaining-size : goal.returns-then-remaining-size
returns-then-remaining-size c =
    let a = c.args in
    let f : ℕ → DmaDescriptor = record_at [] a.w.now in
    let e = sym (reached-here f (a.n - c.loop-d.d) c.loop-d.d c.loop-d.remaining (omega arith) (omega (arith, c.if-remaining-size.true, c.size_of-size.ensures.0))) ∙ c.loop-d.invariant in
    (ap (λ (p : Reached). p.at) e, ap (λ (p : Reached). p.rest) e, λ l. omega (arith, c.if-remaining-size.true, c.size_of-size.ensures.1))

pub loop-d-preserved : goal.loop-d-preserved
loop-d-preserved c =
    let a = c.args in
    let f : ℕ → DmaDescriptor = record_at [] a.w.now in
    let z : a.n - (c.loop-d.d + 1) ≡ a.n - c.loop-d.d - 1 = omega arith in
    rw (z, c.size_of-size.ensures.0) (sym (reached-on f (a.n - c.loop-d.d) c.loop-d.d c.loop-d.remaining (omega arith) (omega (arith, c.if-remaining-size.false, c.size_of-size.ensures.0))) ∙ c.loop-d.invariant)

pub returns : goal.returns
returns c =
    let a = c.args in
    let z : c.loop-d.d ≡ a.n = omega arith in
    let none : a.n - a.n ≡ 0 = omega arith in
    let e = sym (reached-none (record_at [] a.w.now) a.n c.loop-d.remaining) ∙ (rw (z, none) at c.loop-d.invariant) in
    (ap (λ (p : Reached). p.at) e, ap (λ (p : Reached). p.rest) e, λ l. absurd (omega arith))
