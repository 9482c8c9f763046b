use Rattle.std.proofs.lemmas.Result.{err_from_is_err_and}
use Prim.Native.Nat.{◌+◌, ◌≤◌}
use mathlib.Core.Bool.{true}
use mathlib.Core.Path.{◌≡◌, sym, ◌∙◌}
use native.Mathlib.Omega.{arith}
use borrow.Author.Tests.{not-true, not-false}
use lib.ListN.{length}
use Rattle.descriptors.specs.declared.record.TransferDirection.TheVariants.{In}
use Rattle.descriptors.specs.Ring.{ring_of}
use Rattle.descriptors.specs.Cells.{record_at, start_at}
use Rattle.descriptors.specs.Record.{most}
use Rattle.device.specs.laws.Receive.{receive-refused, receive-unfit, receive_inside, receive-small, receive-done}
use Rattle.device.specs.Device.{stand_of, fits}
use Rattle.std.specs.Prelude.{Ok}
use Rattle.device.proofs.receive.receive_step_in.Goals as goal

pub returns-in_err-i : goal.returns-in_err-i
returns-in_err-i c =
    let a = c.args in
    let p = err_from_is_err_and c.from_residual.result c.from_residual.ensures.1 in
    rw (p.1, p.2) (receive-refused a.s.now a.w.now a.h a.device.now a.buffer.now a.incoming.now a.eof _ _ c.find.ensures c.in_err-i.was)

pub returns-then-not-step_fits : goal.returns-then-not-step_fits
returns-then-not-step_fits c =
    let stood : let a = c.args in stand_of In (ring_of a.s.now a.w.now a.h) (length a.buffer.now) a.device.now ≡ Ok c.in_ok-i.i = sym c.find.ensures ∙ c.in_ok-i.was in
    let a = c.args in
    receive-unfit a.s.now a.w.now a.h a.device.now a.buffer.now a.incoming.now a.eof _ stood (sym c.step_fits.ensures ∙ not-true _ c.if-not-step_fits.true-raw)

pub place-requires : goal.place-requires
place-requires c =
    let stood : let a = c.args in stand_of In (ring_of a.s.now a.w.now a.h) (length a.buffer.now) a.device.now ≡ Ok c.in_ok-i.i = sym c.find.ensures ∙ c.in_ok-i.was in
    let fit : let a = c.args in fits (length a.incoming.now) (record_at a.s.now a.w.now c.in_ok-i.i) ≡ true = sym c.step_fits.ensures ∙ not-false _ c.if-not-step_fits.false-raw in
    let inside : let a = c.args in start_at a.s.now c.in_ok-i.i + length a.incoming.now ≤ length a.buffer.now = let a = c.args in
    receive_inside a.s.now a.w.now a.h a.device.now a.buffer.now a.incoming.now a.eof _ stood fit in
    omega (arith, c.start_of-start.ensures, inside)

pub overflow_cast-incoming : goal.overflow_cast-incoming
overflow_cast-incoming c =
    let stood : let a = c.args in stand_of In (ring_of a.s.now a.w.now a.h) (length a.buffer.now) a.device.now ≡ Ok c.in_ok-i.i = sym c.find.ensures ∙ c.in_ok-i.was in
    let fit : let a = c.args in fits (length a.incoming.now) (record_at a.s.now a.w.now c.in_ok-i.i) ≡ true = sym c.step_fits.ensures ∙ not-false _ c.if-not-step_fits.false-raw in
    let small : length c.args.incoming.now ≤ most = let a = c.args in
    receive-small a.s.now a.w.now a.h a.device.now a.buffer.now a.incoming.now a.eof _ stood fit in
    omega (arith, small)

pub returns : goal.returns
returns c =
    let stood : let a = c.args in stand_of In (ring_of a.s.now a.w.now a.h) (length a.buffer.now) a.device.now ≡ Ok c.in_ok-i.i = sym c.find.ensures ∙ c.in_ok-i.was in
    let fit : let a = c.args in fits (length a.incoming.now) (record_at a.s.now a.w.now c.in_ok-i.i) ≡ true = sym c.step_fits.ensures ∙ not-false _ c.if-not-step_fits.false-raw in
    let a = c.args in
    receive-done a.s.now a.w.now a.h a.device.now a.buffer.now a.incoming.now a.eof _ stood fit _ _ _ _ c.next_of.ensures c.start_of-start.ensures c.place.ensures c.close.ensures
