use Rattle.std.proofs.lemmas.Result.{err_from_is_err_and}
use Rattle.capi.specs.laws.Calls.{until-no, until-yes}
use Rattle.descriptors.specs.Ring.{ring_of}
use Rattle.rx_stream.specs.laws.Parts.{eof-read}
use Rattle.descriptors.specs.Cells.{eof_cell}
use mir.Val.{bool_byte}
use Rattle.std.proofs.Common.{◌≡◌, Bool, true, false, refl, sym, ap, ◌∙◌}
use Rattle.capi.proofs.flat.until_eof.Goals as goal

byte-cell : (b : Bool) → bool_byte b ≡ eof_cell b
byte-cell true = refl
byte-cell false = refl

pub returns-in_err-said : goal.returns-in_err-said
returns-in_err-said c =
    let a = c.args in
    let p = err_from_is_err_and c.from_residual.result c.from_residual.ensures.1 in
    let q = sym c.peeked.ensures ∙ c.in_err-said.was in
    rw (p.1, p.2) (sym q ∙ until-no (ring_of a.s.now a.w.now a.h) a.len _ q)

pub returns : goal.returns
returns c =
    let a = c.args in
    let y = until-yes (ring_of a.s.now a.w.now a.h) a.len _ (sym c.peeked.ensures ∙ c.in_ok-said.was) in
    y.words _ (c.from.ensures ∙ byte-cell _ ∙ ap eof_cell (eof-read a.s.now a.w.now a.h a.len y.sound c.flat_eof-eof.ensures))
