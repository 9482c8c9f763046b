use Rattle.std.proofs.lemmas.Result.{err_from_is_err_and}
use Rattle.descriptors.specs.laws.Sound.{split-facts, split-records, refused-split, ready-split, sound-by, sound-stops, judged_true, judged_false}
use Rattle.descriptors.specs.laws.Lifts.{words}
use Rattle.descriptors.specs.Ring.{ring_of, split_sound, judged}
use Rattle.descriptors.specs.Record.{limit}
use Rattle.descriptors.specs.Cells.{cells}
use Rattle.std.proofs.Common.{◌≡◌, ◌≤◌, true, length, sym, refl, ap, ◌∙◌, le-ltb, lt-ltb}
use Rattle.descriptors.proofs.ring.judge.Goals.{In_ok-judge_split, else-lengths_ok-via-then-lengths_ok+then-nexts_ok+then-i-n+else-offset_ok, else-lengths_ok-via-then-lengths_ok+then-nexts_ok+else-i-n, else-lengths_ok-via-then-lengths_ok+else-nexts_ok, else-lengths_ok-via-else-lengths_ok}
use Rattle.descriptors.proofs.ring.judge.Goals as goal

-- the split is sound, and what the scans ask for
split : (c : In_ok-judge_split) → split_sound (ring_of c.args.s.now c.args.w.now c.args.h) c.args.len ≡ true
split c = ready-split _ _ _ c.judge_split.ensures c.in_ok-judge_split.was

room : (c : In_ok-judge_split) → (length c.args.w.now ≡ cells) × (c.args.h.count ≤ limit)
room c =
    let a = c.args in
    ((words a.s.now a.w.now (split-records a.s.now a.w.now a.h a.len (split c))).whole, (split-facts (ring_of a.s.now a.w.now a.h) a.len (split c)).parts.many)

pub returns-in_err-judge_split : goal.returns-in_err-judge_split
returns-in_err-judge_split c =
    let a = c.args in
    let p = err_from_is_err_and c.from_residual.result c.from_residual.ensures.1 in
    rw (p.1, p.2) (sym c.in_err-judge_split.was ∙ c.judge_split.ensures ∙ ap judged (sym (refused-split a.dir (ring_of a.s.now a.w.now a.h) a.len _ _ c.judge_split.ensures c.in_err-judge_split.was)))

pub lengths_ok-requires : goal.lengths_ok-requires
lengths_ok-requires c = room (goal.at.lengths_ok-requires c).In_ok-judge_split

pub nexts_ok-requires : goal.nexts_ok-requires
nexts_ok-requires c = room (goal.at.nexts_ok-requires c).In_ok-judge_split

pub returns-then-offset_ok : goal.returns-then-offset_ok
returns-then-offset_ok c =
    let a = c.args in
    judged_true _ (sound-by a.dir a.s.now a.w.now a.h a.len (split (goal.at.returns-then-offset_ok c).In_ok-judge_split) _ _ _ c.lengths_ok.ensures c.nexts_ok.ensures c.offset_ok.ensures
    ∙ rw (c.if-lengths_ok.true, c.if-nexts_ok.true, lt-ltb _ _ c.if-i-n.true) c.if-offset_ok.true)

pub returns : goal.returns
returns c =
    let a = c.args in
    let s = split (goal.at.returns c).In_ok-judge_split in
    judged_false _ (elim c.else-lengths_ok.branch [
      | else-lengths_ok-via-then-lengths_ok+then-nexts_ok+then-i-n+else-offset_ok w ↦
          sound-by a.dir a.s.now a.w.now a.h a.len s _ _ _ c.lengths_ok.ensures w.nexts_ok.ensures w.offset_ok.ensures
          ∙ rw (w.if-lengths_ok.true, w.if-nexts_ok.true, lt-ltb _ _ w.if-i-n.true) w.if-offset_ok.false
      | else-lengths_ok-via-then-lengths_ok+then-nexts_ok+else-i-n w ↦
          sound-by a.dir a.s.now a.w.now a.h a.len s _ _ _ c.lengths_ok.ensures w.nexts_ok.ensures refl
          ∙ rw (w.if-lengths_ok.true, w.if-nexts_ok.true, le-ltb _ _ w.if-i-n.false) refl
      | else-lengths_ok-via-then-lengths_ok+else-nexts_ok w ↦
          sound-by a.dir a.s.now a.w.now a.h a.len s _ _ _ c.lengths_ok.ensures w.nexts_ok.ensures refl
          ∙ rw (w.if-lengths_ok.true, w.if-nexts_ok.false) refl
      | else-lengths_ok-via-else-lengths_ok w ↦
          sound-stops a.dir a.s.now a.w.now a.h a.len s _ c.lengths_ok.ensures w.if-lengths_ok.false
    ])
