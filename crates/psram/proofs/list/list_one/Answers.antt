use Rattle.psram.specs.laws.Pieces.{small-fits}
use Rattle.psram.specs.laws.Lists.{held-size, held-start}
use Rattle.psram.specs.Piece.{piece_of, start_in, size_in}
use Rattle.psram.specs.List.{list_start, list_cells}
use native.Mathlib.Omega.{arith}
use mathlib.Core.Path.{◌≡◌}
use Rattle.psram.proofs.list.list_one.Goals as goal

pub overflow_cast-size : goal.overflow_cast-size
overflow_cast-size c =
    let sized : c.size-size.result ≡ size_in (piece_of c.args.p c.args.i) = held-size _ _ _ _ c.piece_at.ensures c.unwrap_or-held.ensures c.size-size.ensures in
    omega (arith, (small-fits c.args.p c.requires c.args.i).0)

pub overflow_cast-start : goal.overflow_cast-start
overflow_cast-start c =
    let starts : c.start.result ≡ start_in (piece_of c.args.p c.args.i) = held-start _ _ _ _ c.piece_at.ensures c.unwrap_or-held.ensures c.start.ensures in
    omega (arith, (small-fits c.args.p c.requires c.args.i).1)

pub returns : goal.returns
unfolding list_start list_cells
returns c =
    let sized : c.size-size.result ≡ size_in (piece_of c.args.p c.args.i) = held-size _ _ _ _ c.piece_at.ensures c.unwrap_or-held.ensures c.size-size.ensures in
    let starts : c.start.result ≡ start_in (piece_of c.args.p c.args.i) = held-start _ _ _ _ c.piece_at.ensures c.unwrap_or-held.ensures c.start.ensures in
    (sized, omega (arith, sized, (small-fits c.args.p c.requires c.args.i).0), cc, cc)
