use Rattle.psram.specs.laws.Pieces.{ready, bytes_le}
use Rattle.std.proofs.Common.{◌∙◌, true, sym}
use Rattle.psram.proofs.piece.numbered.Goals as goal

pub piece_at-requires : goal.piece_at-requires
piece_at-requires c =
    let a = c.args in
    let r = (ready true a.n a.address a.length a.chip a.store (sym c.ready.ensures ∙ c.in_ok-ready.was)).1 in
    rw c.plan.ensures (bytes_le a.n a.address a.length a.chip a.store r)
