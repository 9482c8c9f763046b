use Rattle.descriptors.specs.laws.Splits.{parts-known}
use Rattle.std.proofs.Common.{◌∙◌, sym, arith}
use Rattle.table.proofs.split_answer.Goals as goal

pub overflow_add-result : goal.overflow_add-result
overflow_add-result c =
    let k = parts-known c.args.n c.args.len _ (sym c.split_of.ensures ∙ c.in_ok-parts.was) in
    omega (arith, k.chunk-is, k.rest-is, k.facts.last)
