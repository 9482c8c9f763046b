use Rattle.std.proofs.lemmas.Result.{err_from_is_err_and}
use Rattle.rx_stream.specs.laws.Answers.{available-refused, available-done}
use Rattle.rx_stream.specs.laws.Takes.{unsound, room-known}
use Rattle.descriptors.specs.laws.Sound.{ready-split}
use Rattle.descriptors.specs.Ring.{ring_of}
use Rattle.std.proofs.Common.{ℕ, sym, ap, ◌∙◌, Ok}
use Rattle.rx_stream.proofs.in_place.available_in.Goals as goal

pub returns-in_err-judge : goal.returns-in_err-judge
returns-in_err-judge c =
    let a = c.args in
    let p = err_from_is_err_and c.from_residual.result c.from_residual.ensures.1 in
    let u = unsound _ c.judge.ensures c.in_err-judge.was in
    rw (p.1, p.2, u.1) (sym (available-refused (ring_of a.s.now a.w.now a.h) a.len u.0))

pub returns : goal.returns
returns c =
    let a = c.args in
    let passed = ready-split _ _ _ c.judge.ensures c.in_ok-judge.was in
    ap (λ (k : ℕ). Ok k) (c.available.ensures ∙ room-known a.s.now a.w.now a.h a.len passed)
    ∙ sym (available-done (ring_of a.s.now a.w.now a.h) a.len passed)
