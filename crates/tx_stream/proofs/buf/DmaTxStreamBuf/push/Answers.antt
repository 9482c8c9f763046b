use Rattle.std.proofs.Common.{length, refl}
use Rattle.tx_stream.specs.Values.{buf_ring}
use Rattle.tx_stream.specs.laws.Values.{cells-kept, prefill-keeps}
use Rattle.tx_stream.proofs.buf.DmaTxStreamBuf.push.Goals as goal

pub returns : goal.returns
returns c =
    let a = c.args in
    let p = c.prefill_in-answer.ensures in
    record {
      value = rw (p.h_after, p.value, ← cells-kept a.self.starts a.self.cells _ (prefill-keeps (buf_ring a.self) (length a.buffer.now) (length a.«data».now))) refl;
      buffer_after = p.buffer_after;
    }
