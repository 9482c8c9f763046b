use Rattle.std.proofs.lemmas.Result.{err_from_is_err_and}
use Prim.Native.Nat.{◌+◌, ◌≤◌}
use mathlib.Core.Path.{◌≡◌, sym, ◌∙◌}
use native.Mathlib.Omega.{arith}
use lib.ListN.{length}
use Rattle.descriptors.specs.declared.record.TransferDirection.TheVariants.{Out}
use Rattle.descriptors.specs.Ring.{ring_of}
use Rattle.descriptors.specs.Cells.{start_at}
use Rattle.device.specs.laws.Transmit.{transmit-refused, transmit-short, transmit-inside, transmit-done}
use Rattle.device.specs.Device.{stand_of}
use Rattle.std.specs.Prelude.{Ok}
use Rattle.device.proofs.transmit.transmit_step_in.Goals as goal

pub returns-in_err-i : goal.returns-in_err-i
returns-in_err-i c =
    let a = c.args in
    let p = err_from_is_err_and c.from_residual.result c.from_residual.ensures.1 in
    rw (p.1, p.2) (transmit-refused a.s.now a.w.now a.h a.device.now a.buffer.now a.out.now _ _ c.find.ensures c.in_err-i.was)

pub returns-then-out-k : goal.returns-then-out-k
returns-then-out-k c =
    let stood : let a = c.args in stand_of Out (ring_of a.s.now a.w.now a.h) (length a.buffer.now) a.device.now ≡ Ok c.in_ok-i.i = sym c.find.ensures ∙ c.in_ok-i.was in
    let a = c.args in
    transmit-short a.s.now a.w.now a.h a.device.now a.buffer.now a.out.now _ stood _ c.length_of-k.ensures.0 c.if-out-k.true

pub send-requires : goal.send-requires
send-requires c =
    let stood : let a = c.args in stand_of Out (ring_of a.s.now a.w.now a.h) (length a.buffer.now) a.device.now ≡ Ok c.in_ok-i.i = sym c.find.ensures ∙ c.in_ok-i.was in
    let inside : let a = c.args in start_at a.s.now c.in_ok-i.i + c.length_of-k.result ≤ length a.buffer.now = let a = c.args in
    transmit-inside a.s.now a.w.now a.h a.device.now a.buffer.now a.out.now _ stood _ c.length_of-k.ensures.0 in
    (omega (arith, c.start_of-start.ensures, inside), c.if-out-k.false)

pub returns : goal.returns
returns c =
    let stood : let a = c.args in stand_of Out (ring_of a.s.now a.w.now a.h) (length a.buffer.now) a.device.now ≡ Ok c.in_ok-i.i = sym c.find.ensures ∙ c.in_ok-i.was in
    let a = c.args in
    let k = c.length_of-k in
    transmit-done a.s.now a.w.now a.h a.device.now a.buffer.now a.out.now _ stood k.result k.ensures.0 c.if-out-k.false _ _ _ _ c.next_of.ensures c.start_of-start.ensures c.send.ensures c.release.ensures
