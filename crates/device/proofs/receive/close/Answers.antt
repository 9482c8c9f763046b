use Rattle.device.specs.laws.Receive.{close-stores}
use Rattle.device.proofs.receive.close.Goals as goal

pub returns : goal.returns
returns c =
    let a = c.args in
    close-stores a.i a.k a.eof a.w.now _ _ _ c.set_length.ensures c.set_suc_eof.ensures c.set_owner.ensures
