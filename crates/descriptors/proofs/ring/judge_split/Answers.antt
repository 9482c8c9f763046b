use Rattle.descriptors.specs.laws.Sound.{split-refused, split-no-records, split_by, split-stops, judged_true, judged_false}
use Rattle.descriptors.specs.laws.Splits.{Known, parts-known}
use Rattle.descriptors.specs.laws.Lifts.{words}
use Rattle.descriptors.specs.Ring.{ring_of, judged}
use Rattle.descriptors.specs.Split.{is_parts}
use Rattle.std.proofs.Common.{sym, refl, ap, ◌∙◌, arith, le-leb}
use borrow.Author.Tests.{lt-leb}
use Rattle.descriptors.proofs.ring.judge_split.Goals.{In-Ok, else-are_records-via-then-are_records+then-starts_ok+then-sizes_ok+else-h-len, else-are_records-via-then-are_records+then-starts_ok+else-sizes_ok, else-are_records-via-then-are_records+else-starts_ok, else-are_records-via-else-are_records}
use Rattle.descriptors.proofs.ring.judge_split.Goals as goal

-- what is known of the split
known : (c : In-Ok) → Known c.args.h.count c.args.len c.in-Ok.field-0.chunk c.in-Ok.field-0.rest
known c = parts-known _ _ _ (sym c.split_of.ensures ∙ c.in-Ok.is)

pub returns-in_default : goal.returns-in_default
returns-in_default c =
    let a = c.args in
    ap judged (sym (split-refused (ring_of a.s.now a.w.now a.h) a.len (ap is_parts (sym c.split_of.ensures ∙ c.in_default.is))))

pub starts_ok-requires : goal.starts_ok-requires
starts_ok-requires c =
    let k = known (goal.at.starts_ok-requires c).In-Ok in
    ((words _ _ (sym c.are_records.ensures ∙ c.if-are_records.true)).starts, k.facts.many, omega (arith, k.chunk-is, k.facts.chunk))

pub overflow_add-chunk : goal.overflow_add-chunk
overflow_add-chunk c =
    let k = known (goal.at.overflow_add-chunk c).In-Ok in
    omega (arith, k.chunk-is, k.rest-is, k.facts.last)

pub sizes_ok-requires : goal.sizes_ok-requires
sizes_ok-requires c =
    let k = known (goal.at.sizes_ok-requires c).In-Ok in
    ((words _ _ (sym c.are_records.ensures ∙ c.if-are_records.true)).whole, omega (arith, k.facts.few), k.facts.many, omega (arith, k.chunk-is, k.facts.chunk), omega (arith, k.chunk-is, k.rest-is, k.facts.last))

pub returns-then-h-len : goal.returns-then-h-len
returns-then-h-len c =
    let a = c.args in
    let k = known (goal.at.returns-then-h-len c).In-Ok in
    judged_true _ (split_by a.s.now a.w.now a.h a.len _ _ k (sym c.are_records.ensures ∙ c.if-are_records.true) _ _ c.starts_ok.ensures c.sizes_ok.ensures
    ∙ rw (c.if-starts_ok.true, c.if-sizes_ok.true) (le-leb _ _ c.if-h-len.true))

pub returns : goal.returns
returns c =
    let a = c.args in
    let k = known (goal.at.returns c).In-Ok in
    judged_false _ (elim c.else-are_records.branch [
      | else-are_records-via-then-are_records+then-starts_ok+then-sizes_ok+else-h-len w ↦
          split_by a.s.now a.w.now a.h a.len _ _ k (sym c.are_records.ensures ∙ w.if-are_records.true) _ _ w.starts_ok.ensures w.sizes_ok.ensures
          ∙ rw (w.if-starts_ok.true, w.if-sizes_ok.true) (lt-leb _ _ w.if-h-len.false)
      | else-are_records-via-then-are_records+then-starts_ok+else-sizes_ok w ↦
          split_by a.s.now a.w.now a.h a.len _ _ k (sym c.are_records.ensures ∙ w.if-are_records.true) _ _ w.starts_ok.ensures w.sizes_ok.ensures
          ∙ rw (w.if-starts_ok.true, w.if-sizes_ok.false) refl
      | else-are_records-via-then-are_records+else-starts_ok w ↦
          split-stops a.s.now a.w.now a.h a.len _ _ k (sym c.are_records.ensures ∙ w.if-are_records.true) _ w.starts_ok.ensures w.if-starts_ok.false
      | else-are_records-via-else-are_records w ↦
          split-no-records a.s.now a.w.now a.h a.len (sym c.are_records.ensures ∙ w.if-are_records.false) k.facts
    ])
