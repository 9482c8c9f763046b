use Rattle.psram.specs.laws.Lists.{heard, leaves-refused, leaves-ready}
use Rattle.psram.specs.laws.Pieces.{ready, bytes_le, small}
use Rattle.std.proofs.lemmas.Result.{err_from_is_err_and}
use Rattle.descriptors.specs.laws.Lifts.{words}
use Rattle.std.proofs.Common.{arith}
use Rattle.psram.proofs.list.build_descriptor_list_for_psram.Goals as goal

pub returns-in_err-ready : goal.returns-in_err-ready
returns-in_err-ready c =
    let a = c.args in
    let p = err_from_is_err_and c.from_residual.result c.from_residual.ensures.1 in
    let said = heard a.s.now a.w.now a.n a.address a.length a.chip a.store _ _ _ c.are_records-held.ensures c.ready.ensures c.in_err-ready.was in
    rw (p.1, p.2) (leaves-refused a.s.now a.w.now a.n a.address a.length a.chip a.store _ said)

pub pieces-requires : goal.pieces-requires
pieces-requires c =
    let a = c.args in
    let said = heard a.s.now a.w.now a.n a.address a.length a.chip a.store _ _ _ c.are_records-held.ensures c.ready.ensures c.in_ok-ready.was in
    let r = (ready _ a.n a.address a.length a.chip a.store said).1 in
    rw c.plan-p.ensures (bytes_le a.n a.address a.length a.chip a.store r)

pub list_pieces-covered-requires : goal.list_pieces-covered-requires
list_pieces-covered-requires c =
    let a = c.args in
    let said = heard a.s.now a.w.now a.n a.address a.length a.chip a.store _ _ _ c.are_records-held.ensures c.ready.ensures c.in_ok-ready.was in
    let r = ready _ a.n a.address a.length a.chip a.store said in
    let held = words a.s.now a.w.now r.0 in
    (rw c.plan-p.ensures (small a.n a.address a.length a.chip a.store r.1), omega (arith, r.1.few), omega (arith, r.1.few, held.starts))

pub returns : goal.returns
returns c =
    let a = c.args in
    let l = c.list_pieces-covered.ensures in
    let said = heard a.s.now a.w.now a.n a.address a.length a.chip a.store _ _ _ c.are_records-held.ensures c.ready.ensures c.in_ok-ready.was in
    rw (l.0, l.1, l.2, c.min-used.ensures, c.pieces.ensures, c.plan-p.ensures)
    (leaves-ready a.s.now a.w.now a.n a.address a.length a.chip a.store said)
