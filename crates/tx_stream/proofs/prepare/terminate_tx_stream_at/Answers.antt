use Rattle.tx_stream.specs.laws.Prepares.{cut-before, cut-first, cut-more}
use Rattle.tx_stream.specs.Faces.{cut_cells}
use Rattle.descriptors.specs.Record.{up_to}
use Rattle.std.proofs.Common.{◌≡◌, ◌∙◌, arith, rules}
use Rattle.tx_stream.proofs.prepare.terminate_tx_stream_at.Goals.{else-start-gt0, then-start-gt0}
use Rattle.tx_stream.proofs.prepare.terminate_tx_stream_at.Goals as goal

pub loop-i-preserved : goal.loop-i-preserved
loop-i-preserved c =
    (search rules, λ vs e. c.set_owner.ensures ∙ cut-more _ c.loop-i.i vs c.loop-i.w (omega arith) (c.loop-i.invariant.1 vs e))

pub returns : goal.returns
returns c =
    let begun : let a = c.args in c.if-start-gt0.w ≡ up_to (cut_cells a.start) a.start a.w.now = let a = c.args in
    elim c.if-start-gt0.branch [ then-start-gt0 v ↦ v.w-is ∙ v.set_next.ensures ∙ cut-before a.start a.w.now v.if-start-gt0.true | else-start-gt0 v ↦ let z : a.start ≡ 0 = omega arith in v.w-is ∙ rw z (cut-first a.w.now) ] in
    let a = c.args in
    let z : c.loop-i.i ≡ a.n = omega arith in
    rw z at (c.loop-i.invariant.1 a.w.now begun)
