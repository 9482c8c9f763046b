use Rattle.rx_stream.specs.laws.Copies.{todo, none_left, found, wrapped-lt}
use Rattle.rx_stream.specs.laws.Takes.{known}
use Rattle.rx_stream.specs.laws.Lists.{put-none}
use Rattle.descriptors.specs.laws.Sound.{offset-least}
use Rattle.descriptors.specs.Ring.{ring_of, record_of}
use Rattle.descriptors.specs.Walk.{standing}
use lib.Seq.{paste}
use Rattle.descriptors.specs.declared.record.TransferDirection.TheVariants.{In}
use Rattle.std.proofs.Common.{◌≡◌, ℕ, ◌+◌, ◌-◌, length, drop, refl, ap, ◌∙◌, arith}
use Rattle.rx_stream.proofs.copy.copy_run.Goals as goal

pub loop-left-init : goal.loop-left-init
loop-left-init c =
    let a = c.args in
    let f = known a.s.now a.w.now a.h (length a.src.now) c.requires in
    (f.within, omega arith, offset-least In (record_of (ring_of a.s.now a.w.now a.h) a.h.descriptor_idx) a.h.descriptor_offset f.offset, omega arith, refl, refl, refl)

pub overflow_add-at : goal.overflow_add-at
overflow_add-at c =
    let a = c.args in
    omega (arith, (known a.s.now a.w.now a.h (length a.src.now) c.requires).split.parts.many)

pub returns-then-p-eq0 : goal.returns-then-p-eq0
unfolding standing
returns-then-p-eq0 c =
    let a = c.args in
    let l = c.loop-left in
    let f = found a.s.now a.w.now a.h a.src.now c.requires l.offset (length a.dst.now - l.done) l.left l.at l.invariant.0 (omega arith) l.invariant.2 c.min-end.ensures c.piece_of-p.ensures in
    f.none c.if-p-eq0.true l.dst l.done ∙ l.invariant.6

pub overflow_add-start : goal.overflow_add-start
overflow_add-start c =
    let a = c.args in
    let l = c.loop-left in
    let f = found a.s.now a.w.now a.h a.src.now c.requires l.offset (length a.dst.now - l.done) l.left l.at l.invariant.0 (omega arith) l.invariant.2 c.min-end.ensures c.piece_of-p.ensures in
    omega (arith, f.inside, c.start_of.ensures, c.well_formed)

pub copy_part-requires : goal.copy_part-requires
copy_part-requires c =
    let a = c.args in
    let l = c.loop-left in
    let f = found a.s.now a.w.now a.h a.src.now c.requires l.offset (length a.dst.now - l.done) l.left l.at l.invariant.0 (omega arith) l.invariant.2 c.min-end.ensures c.piece_of-p.ensures in
    (omega (arith, f.inside, c.start_of.ensures), omega arith)

pub returns-then-want-p : goal.returns-then-want-p
unfolding standing
returns-then-want-p c =
    let a = c.args in
    let l = c.loop-left in
    let f = found a.s.now a.w.now a.h a.src.now c.requires l.offset (length a.dst.now - l.done) l.left l.at l.invariant.0 (omega arith) l.invariant.2 c.min-end.ensures c.piece_of-p.ensures in
    c.copy_part.ensures
    ∙ ap (λ (x : ℕ). paste l.dst l.done (drop (x + l.offset) a.src.now) (length a.dst.now - l.done)) c.start_of.ensures
    ∙ f.full c.if-p-eq0.false l.dst l.done c.if-want-p.true (omega arith)
    ∙ l.invariant.6

pub copy_part-requires-in-loop-left : goal.copy_part-requires-in-loop-left
copy_part-requires-in-loop-left c =
    let a = c.args in
    let l = c.loop-left in
    let f = found a.s.now a.w.now a.h a.src.now c.requires l.offset (length a.dst.now - l.done) l.left l.at l.invariant.0 (omega arith) l.invariant.2 c.min-end.ensures c.piece_of-p.ensures in
    (omega (arith, f.inside, c.start_of.ensures), omega arith)

pub overflow_add-at-in-loop-left : goal.overflow_add-at-in-loop-left
overflow_add-at-in-loop-left c =
    let a = c.args in
    let l = c.loop-left in
    let f = found a.s.now a.w.now a.h a.src.now c.requires l.offset (length a.dst.now - l.done) l.left l.at l.invariant.0 (omega arith) l.invariant.2 c.min-end.ensures c.piece_of-p.ensures in
    omega (arith, (known a.s.now a.w.now a.h (length a.src.now) c.requires).split.parts.many, f.few)

pub overflow_sub-left : goal.overflow_sub-left
overflow_sub-left c =
    let a = c.args in
    let l = c.loop-left in
    let f = found a.s.now a.w.now a.h a.src.now c.requires l.offset (length a.dst.now - l.done) l.left l.at l.invariant.0 (omega arith) l.invariant.2 c.min-end.ensures c.piece_of-p.ensures in
    f.few

pub loop-left-smaller : goal.loop-left-smaller
loop-left-smaller c =
    let a = c.args in
    let l = c.loop-left in
    let f = found a.s.now a.w.now a.h a.src.now c.requires l.offset (length a.dst.now - l.done) l.left l.at l.invariant.0 (omega arith) l.invariant.2 c.min-end.ensures c.piece_of-p.ensures in
    omega (arith, f.few)

pub loop-left-preserved : goal.loop-left-preserved
loop-left-preserved c =
    let a = c.args in
    let l = c.loop-left in
    let f = found a.s.now a.w.now a.h a.src.now c.requires l.offset (length a.dst.now - l.done) l.left l.at l.invariant.0 (omega arith) l.invariant.2 c.min-end.ensures c.piece_of-p.ensures in (
      rw c.wrapped-at.ensures (wrapped-lt a.h.count (l.at + c.piece_of-p.result.records) (omega arith)),
      omega arith,
      omega arith,
      omega arith,
      refl,
      c.copy_part-in-loop-left.auto.dst ∙ l.invariant.5,
      rw (c.wrapped-at.ensures, c.copy_part-in-loop-left.ensures, c.start_of.ensures) (f.more c.if-p-eq0.false l.dst l.done (omega arith) ∙ l.invariant.6),
    )

pub returns : goal.returns
unfolding standing
returns c =
    let a = c.args in
    let l = c.loop-left in
    let z : l.left ≡ 0 = omega arith in
    put-none l.dst l.done (todo a.s.now a.w.now a.h a.src.now l.offset l.left l.at)
    (ap (λ (k : ℕ). todo a.s.now a.w.now a.h a.src.now l.offset k l.at) z ∙ none_left a.s.now a.w.now a.h a.src.now l.offset l.at)
    ∙ l.invariant.6
