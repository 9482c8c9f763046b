use Rattle.tx_stream.specs.Faces.{filled_cells, filled_head}
use Rattle.tx_stream.proofs.accept.accept_in.Goals as goal

pub returns : goal.returns
unfolding filled_cells filled_head
returns c = (c.advance.ensures.w_after, c.advance.ensures.h_after)
