use Rattle.psram.specs.laws.Pieces.{there}
use Rattle.psram.specs.declared.held.Held.TheVariants.{InStore, InRange}
use Rattle.std.proofs.Common.{◌≤◌, ◌+◌, length, arith}
use Rattle.psram.proofs.piece.piece.Goals as goal

pub overflow_add-end : goal.overflow_add-end
overflow_add-end c =
    let a = c.args in
    let g = c.in-Ok-InStore in
    let inside : g.start + g.size ≤ length a.store.now = there a.n a.address (length a.range.now) a.chip (length a.store.now) a.i _ g.field-0 (InStore g.start g.size) c.numbered.ensures g.is g.field-0-is in
    omega (arith, c.well_formed)

pub slice_bounds-result-end : goal.slice_bounds-result-end
slice_bounds-result-end c =
    let a = c.args in
    let g = c.in-Ok-InStore in
    let inside : g.start + g.size ≤ length a.store.now = there a.n a.address (length a.range.now) a.chip (length a.store.now) a.i _ g.field-0 (InStore g.start g.size) c.numbered.ensures g.is g.field-0-is in
    omega arith

pub overflow_add-end-in-Ok-InRange : goal.overflow_add-end-in-Ok-InRange
overflow_add-end-in-Ok-InRange c =
    let a = c.args in
    let g = c.in-Ok-InRange in
    let inside : g.start + g.size ≤ length a.range.now = there a.n a.address (length a.range.now) a.chip (length a.store.now) a.i _ g.field-0 (InRange g.start g.size) c.numbered.ensures g.is g.field-0-is in
    omega (arith, c.well_formed)

pub slice_bounds-result-end-in-Ok-InRange : goal.slice_bounds-result-end-in-Ok-InRange
slice_bounds-result-end-in-Ok-InRange c =
    let a = c.args in
    let g = c.in-Ok-InRange in
    let inside : g.start + g.size ≤ length a.range.now = there a.n a.address (length a.range.now) a.chip (length a.store.now) a.i _ g.field-0 (InRange g.start g.size) c.numbered.ensures g.is g.field-0-is in
    omega arith
