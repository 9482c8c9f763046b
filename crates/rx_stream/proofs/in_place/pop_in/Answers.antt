use Rattle.std.proofs.lemmas.Result.{err_from_is_err_and}
use Rattle.rx_stream.specs.declared.Took.{Took}
use Rattle.rx_stream.specs.laws.Answers.{pop-refused, pop-idle, pop-done, popped-refused, popped-idle, popped-done}
use Rattle.rx_stream.specs.laws.Takes.{unsound, idle-shown, taken-cells, moved-head, took-known}
use Rattle.descriptors.specs.laws.Words.{cells_same}
use Rattle.descriptors.specs.laws.Sound.{ready-split}
use Rattle.descriptors.specs.Ring.{ring_of}
use Rattle.std.proofs.Common.{length, sym, refl, ap, ◌∙◌, Ok}
use Rattle.rx_stream.proofs.in_place.pop_in.Goals as goal

pub returns-in_err-judge : goal.returns-in_err-judge
returns-in_err-judge c =
    let a = c.args in
    let p = err_from_is_err_and c.from_residual.result c.from_residual.ensures.1 in
    let u = unsound _ c.judge.ensures c.in_err-judge.was in
    rw (pop-refused (ring_of a.s.now a.w.now a.h.now) (length a.buffer.now) (length a.dst.now) u.0, popped-refused (ring_of a.s.now a.w.now a.h.now) a.buffer.now a.dst.now u.0)
    (record { w_after = cells_same a.s.now a.w.now; h_after = refl; dst_after = refl; value = rw (p.1, p.2, u.1) refl })

pub returns-then-idle : goal.returns-then-idle
returns-then-idle c =
    let a = c.args in
    let passed = ready-split _ _ _ c.judge.ensures c.in_ok-judge.was in
    let e = sym (c.idle.ensures ∙ idle-shown a.s.now a.w.now a.h.now (length a.buffer.now) passed (length a.dst.now)) ∙ c.if-idle.true in
    rw (pop-idle (ring_of a.s.now a.w.now a.h.now) (length a.buffer.now) (length a.dst.now) passed e, popped-idle (ring_of a.s.now a.w.now a.h.now) a.buffer.now a.dst.now passed e)
    (record { w_after = cells_same a.s.now a.w.now; h_after = refl; dst_after = refl; value = refl })

pub copy_run-requires : goal.copy_run-requires
copy_run-requires c = ready-split _ _ _ c.judge.ensures c.in_ok-judge.was

pub returns : goal.returns
returns c =
    let a = c.args in
    let passed = ready-split _ _ _ c.judge.ensures c.in_ok-judge.was in
    let e = sym (c.idle.ensures ∙ idle-shown a.s.now a.w.now a.h.now (length a.buffer.now) passed (length a.dst.now)) ∙ c.if-idle.false in
    rw (pop-done (ring_of a.s.now a.w.now a.h.now) (length a.buffer.now) (length a.dst.now) passed e, popped-done (ring_of a.s.now a.w.now a.h.now) a.buffer.now a.dst.now passed e) (record {
      w_after = c.take_in.ensures.w_after ∙ taken-cells a.s.now a.w.now a.h.now (length a.buffer.now) passed (length a.dst.now);
      h_after = c.take_in.ensures.h_after ∙ moved-head a.s.now a.w.now a.h.now (length a.buffer.now) passed (length a.dst.now);
      dst_after = c.copy_run.ensures;
      value = ap (λ (t : Took). Ok t.taken) (c.take_in.ensures.value ∙ took-known a.s.now a.w.now a.h.now (length a.buffer.now) passed (length a.dst.now));
    })
