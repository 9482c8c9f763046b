use Rattle.std.proofs.lemmas.Result.{err_from_is_err_and}
use Rattle.rx_stream.specs.laws.Answers.{peek-eof-refused, peek-eof-done}
use Rattle.rx_stream.specs.laws.Takes.{unsound}
use Rattle.rx_stream.specs.laws.Parts.{eof-read}
use Rattle.descriptors.specs.laws.Sound.{ready-split}
use Rattle.descriptors.specs.Ring.{ring_of}
use Rattle.std.proofs.Common.{Bool, sym, ap, ◌∙◌, Ok}
use Rattle.rx_stream.proofs.in_place.peek_eof_in.Goals as goal

pub returns-in_err-judge : goal.returns-in_err-judge
returns-in_err-judge c =
    let a = c.args in
    let p = err_from_is_err_and c.from_residual.result c.from_residual.ensures.1 in
    let u = unsound _ c.judge.ensures c.in_err-judge.was in
    rw (p.1, p.2, u.1) (sym (peek-eof-refused (ring_of a.s.now a.w.now a.h) a.len u.0))

pub returns : goal.returns
returns c =
    let a = c.args in
    let passed = ready-split _ _ _ c.judge.ensures c.in_ok-judge.was in
    ap (λ (b : Bool). Ok b) (eof-read a.s.now a.w.now a.h a.len passed c.flat_eof.ensures) ∙ sym (peek-eof-done (ring_of a.s.now a.w.now a.h) a.len passed)
