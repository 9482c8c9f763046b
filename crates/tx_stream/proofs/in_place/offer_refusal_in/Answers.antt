use Rattle.tx_stream.specs.Transmit.{offer_refusal_of}
use Rattle.tx_stream.proofs.in_place.offer_refusal_in.Goals as goal

pub returns : goal.returns
unfolding offer_refusal_of
returns c = c.judge.ensures
