use Rattle.device.specs.laws.Values.{sent-value}
use Rattle.device.proofs.by_value.transmit_step.Goals as goal

pub returns : goal.returns
returns c =
    let a = c.args in
    let m = c.transmit_step_in-answer in
    record { value = sent-value a.ring a.device a.buffer.now a.out.now _ _ _ m.result m.ensures; out_after = m.ensures.output }
