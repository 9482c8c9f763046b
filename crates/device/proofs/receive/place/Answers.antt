use Rattle.std.proofs.Common.{length, refl, arith}
use Rattle.std.proofs.lemmas.Slice.{put_mid-paste}
use Rattle.device.proofs.receive.place.Goals as goal

pub returns : goal.returns
returns c = put_mid-paste c.args.at _ c.args.buffer.now _ c.args.incoming.now (length c.args.incoming.now) c.copy_from_slice.ensures.after (omega arith) refl
