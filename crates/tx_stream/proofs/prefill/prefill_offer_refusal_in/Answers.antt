use Rattle.tx_stream.specs.Transmit.{prefill_offer_refusal_of}
use Rattle.tx_stream.proofs.prefill.prefill_offer_refusal_in.Goals as goal

pub returns : goal.returns
unfolding prefill_offer_refusal_of
returns c = c.judge_split.ensures
