use Rattle.rx_stream.specs.Receive.{peek_refusal_of}
use Rattle.rx_stream.proofs.in_place.peek_refusal_in.Goals as goal

pub returns : goal.returns
unfolding peek_refusal_of
returns c = c.judge.ensures
