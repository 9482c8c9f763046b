use Rattle.std.proofs.lemmas.Result.{err_from_is_err_and}
use Rattle.rx_stream.specs.declared.Took.{Took}
use Rattle.rx_stream.specs.laws.Answers.{consume-refused, consume-done}
use Rattle.rx_stream.specs.laws.Takes.{unsound, taken-cells, moved-head, took-known}
use Rattle.descriptors.specs.laws.Words.{cells_same}
use Rattle.descriptors.specs.laws.Sound.{ready-split}
use Rattle.descriptors.specs.Ring.{ring_of}
use Rattle.std.proofs.Common.{refl, ap, ◌∙◌, Ok}
use Rattle.rx_stream.proofs.in_place.consume_in.Goals as goal

pub returns-in_err-judge : goal.returns-in_err-judge
returns-in_err-judge c =
    let a = c.args in
    let p = err_from_is_err_and c.from_residual.result c.from_residual.ensures.1 in
    let u = unsound _ c.judge.ensures c.in_err-judge.was in
    rw (consume-refused (ring_of a.s.now a.w.now a.h.now) a.len a.k u.0) (record { w_after = cells_same a.s.now a.w.now; h_after = refl; value = rw (p.1, p.2, u.1) refl })

pub returns : goal.returns
returns c =
    let a = c.args in
    let passed = ready-split _ _ _ c.judge.ensures c.in_ok-judge.was in
    rw (consume-done (ring_of a.s.now a.w.now a.h.now) a.len a.k passed) (record {
      w_after = c.take_in.ensures.w_after ∙ taken-cells a.s.now a.w.now a.h.now a.len passed a.k;
      h_after = c.take_in.ensures.h_after ∙ moved-head a.s.now a.w.now a.h.now a.len passed a.k;
      value = ap (λ (t : Took). Ok t) (c.take_in.ensures.value ∙ took-known a.s.now a.w.now a.h.now a.len passed a.k);
    })
