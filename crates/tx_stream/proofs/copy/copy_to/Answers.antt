use Rattle.std.proofs.Common.{length, refl, arith}
use Rattle.std.proofs.lemmas.Slice.{put_mid-paste}
use Rattle.tx_stream.proofs.copy.copy_to.Goals as goal

pub returns : goal.returns
returns c = put_mid-paste c.args.at _ c.args.buffer.now _ c.args.piece.now (length c.args.piece.now) c.copy_from_slice.ensures.after (omega arith) refl
