use Rattle.device.specs.laws.Values.{received-value}
use Rattle.device.proofs.by_value.receive_step.Goals as goal

pub returns : goal.returns
returns c =
    let a = c.args in
    let m = c.receive_step_in-answer in
    record { value = received-value a.ring a.device a.buffer.now a.incoming.now a.eof _ _ _ m.result m.ensures; buffer_after = m.ensures.buffer }
