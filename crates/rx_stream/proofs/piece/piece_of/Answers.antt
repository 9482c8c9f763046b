use Rattle.rx_stream.specs.laws.Flats.{grown-none, grown-zero, grown-stop, grown-full, grown-short, grown-on}
use Rattle.descriptors.specs.Cells.{record_at}
use Rattle.std.proofs.Common.{◌-◌, [], arith}
use Rattle.rx_stream.proofs.piece.piece_of.Goals as goal

pub loop-at-init : goal.loop-at-init
loop-at-init c = grind (arith, grown-none)

pub returns-then-not-is_cpu : goal.returns-then-not-is_cpu
returns-then-not-is_cpu c =
    let a = c.args in
    let l = c.loop-at in
    grind (arith, grown-stop (record_at [] a.w.now) l.piece.bytes l.piece.records l.offset a.want (a.end - l.at) l.at)

pub returns-then-want-piece : goal.returns-then-want-piece
returns-then-want-piece c =
    let a = c.args in
    let l = c.loop-at in
    grind (arith, grown-full (record_at [] a.w.now) l.piece.bytes l.piece.records l.offset a.want (a.end - l.at) l.at c.holds.result)

pub returns-then-is_short : goal.returns-then-is_short
returns-then-is_short c =
    let a = c.args in
    let l = c.loop-at in
    grind (arith, grown-short (record_at [] a.w.now) l.piece.bytes l.piece.records l.offset a.want (a.end - l.at) l.at c.holds.result)

pub loop-at-preserved : goal.loop-at-preserved
loop-at-preserved c =
    let a = c.args in
    let l = c.loop-at in
    grind (arith, grown-on (record_at [] a.w.now) l.piece.bytes l.piece.records l.offset a.want (a.end - l.at) l.at c.holds.result)

pub returns : goal.returns
returns c =
    let a = c.args in
    let l = c.loop-at in
    grind (arith, grown-zero (record_at [] a.w.now) l.piece.bytes l.piece.records l.offset a.want (a.end - l.at) l.at)
