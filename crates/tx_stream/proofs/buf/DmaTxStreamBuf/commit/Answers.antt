use Rattle.std.proofs.Common.{refl}
use Rattle.tx_stream.specs.Values.{buf_ring}
use Rattle.tx_stream.specs.laws.Values.{cells-kept, commit-keeps}
use Rattle.tx_stream.proofs.buf.DmaTxStreamBuf.commit.Goals as goal

pub returns : goal.returns
returns c =
    let a = c.args in
    let p = c.prefill_commit_in-answer.ensures in
    rw (p.h_after, p.value, ← cells-kept a.self.starts a.self.cells _ (commit-keeps (buf_ring a.self) a.len a.k)) refl
