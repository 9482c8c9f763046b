use Rattle.std.proofs.lemmas.Result.{err_from_is_err_and}
use Rattle.std.proofs.Common.{◌≡◌, sym, ap, ◌∙◌, refl, arith, List, length, slice_set}
use Rattle.descriptors.specs.Record.{update}
use Rattle.descriptors.specs.Split.{laid}
use Rattle.descriptors.specs.laws.Updates.{up_none, up_more}
use Rattle.descriptors.specs.declared.record.DmaDescriptor.{DmaDescriptor}
use Rattle.lent.proofs.Lists.{placed, ready-known, new-ready, new-refused}
use Rattle.lent.proofs.list.new_over.Goals as goal

pub returns-in_err-judge_new : goal.returns-in_err-judge_new
returns-in_err-judge_new c =
    let p = err_from_is_err_and c.from_residual.result c.from_residual.ensures.1 in
    rw (p.1, p.2, new-refused c.args.dir c.args.ds.now c.args.len _ (sym c.in_err-judge_new.was ∙ c.judge_new.ensures)) (refl, refl)

pub loop-i-init : goal.loop-i-init
loop-i-init c = record { so_far = sym (up_none _ _) }

pub split_record-requires : goal.split_record-requires
split_record-requires c =
    let k = ready-known _ _ (sym c.in_ok-judge_new.was ∙ c.judge_new.ensures) in (k.0, k.1, omega arith)

pub loop-i-preserved : goal.loop-i-preserved
loop-i-preserved c =
    let xs = c.args.ds.now in
    let i = c.loop-i.i in
    let part = laid c.args.dir (length xs) c.args.len i in
    record { so_far = ap (slice_set c.loop-i.ds i) c.split_record.ensures ∙ ap (λ (ds : List DmaDescriptor). update ds i part) c.loop-i.invariant.so_far ∙ sym (up_more _ i xs) }

pub returns : goal.returns
returns c =
    let xs = c.args.ds.now in
    let all : c.loop-i.i ≡ length xs = omega arith in
    rw (new-ready c.args.dir xs c.args.len (sym c.in_ok-judge_new.was ∙ c.judge_new.ensures)) (refl, c.loop-i.invariant.so_far ∙ ap (placed c.args.dir c.args.len xs) all)
