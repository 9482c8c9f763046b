use Rattle.rx_stream.specs.laws.Answers.{peek-refused, peek-done, place-refused, place-done}
use Rattle.rx_stream.specs.laws.Parts.{part-read, part_length}
use Rattle.rx_stream.specs.laws.Takes.{unsound}
use Rattle.descriptors.specs.Part.{part_from}
use Rattle.descriptors.specs.laws.Sound.{ready-split}
use Rattle.descriptors.specs.Ring.{ring_of}
use Rattle.std.proofs.Common.{sym, ap, arith}
use Rattle.rx_stream.proofs.in_place.part_in.Goals as goal

pub returns-in_default : goal.returns-in_default
returns-in_default c =
    let a = c.args in
    let r = ring_of a.s.now a.w.now a.h in
    let u = (unsound _ c.judge.ensures c.in_default.is).0 in
    record { result_value = sym (peek-refused r a.buffer.now a.until_eof u); ref_ptr_value = ap (part_from a.buffer) (sym (place-refused r a.buffer.now u)) }

pub overflow_add-from : goal.overflow_add-from
overflow_add-from c =
    let a = c.args in
    let p = part-read a.s.now a.w.now a.h _ (ready-split _ _ _ c.judge.ensures c.in-Ok.is) a.until_eof c.start_of-start.ensures c.flat_bytes-bytes.ensures in
    omega (arith, p.forward, p.inside, c.well_formed)

pub overflow_add-to : goal.overflow_add-to
overflow_add-to c =
    let a = c.args in
    let p = part-read a.s.now a.w.now a.h _ (ready-split _ _ _ c.judge.ensures c.in-Ok.is) a.until_eof c.start_of-start.ensures c.flat_bytes-bytes.ensures in
    omega (arith, p.forward, p.inside, c.well_formed)

pub slice_bounds-result-count-2 : goal.slice_bounds-result-count-2
slice_bounds-result-count-2 c =
    let a = c.args in
    let p = part-read a.s.now a.w.now a.h _ (ready-split _ _ _ c.judge.ensures c.in-Ok.is) a.until_eof c.start_of-start.ensures c.flat_bytes-bytes.ensures in
    omega (arith, p.forward, p.inside, c.well_formed)

pub slice_bounds-result-start-2 : goal.slice_bounds-result-start-2
slice_bounds-result-start-2 c =
    let a = c.args in
    let p = part-read a.s.now a.w.now a.h _ (ready-split _ _ _ c.judge.ensures c.in-Ok.is) a.until_eof c.start_of-start.ensures c.flat_bytes-bytes.ensures in
    omega (arith, p.forward, p.inside, c.well_formed)

pub slice_bounds-result-end-2 : goal.slice_bounds-result-end-2
slice_bounds-result-end-2 c =
    let a = c.args in
    let p = part-read a.s.now a.w.now a.h _ (ready-split _ _ _ c.judge.ensures c.in-Ok.is) a.until_eof c.start_of-start.ensures c.flat_bytes-bytes.ensures in
    omega (arith, p.forward, p.inside, c.well_formed)

pub returns : goal.returns
returns c =
    let a = c.args in
    let r = ring_of a.s.now a.w.now a.h in
    let passed = ready-split _ _ _ c.judge.ensures c.in-Ok.is in
    let p = part-read a.s.now a.w.now a.h _ passed a.until_eof c.start_of-start.ensures c.flat_bytes-bytes.ensures in
    record { result_value = rw (peek-done r a.buffer.now a.until_eof passed) (simp (p.starts, p.flats, part_length)); ref_ptr_value = ap (part_from a.buffer) (rw (place-done r a.buffer.now passed) (simp p.starts)) }
