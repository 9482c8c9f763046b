use Rattle.bench.specs.Laws.{hex-long, number-prefix, number-hex, number-empty, number-decimal}
use Rattle.bench.specs.Number.{numeral_of}
use Rattle.std.proofs.Common.{ℕ, sym, ap, ◌∙◌, arith, length-drop}
use Rattle.std.proofs.lemmas.Bool.{eqb-true, eqb-false}
use Rattle.std.proofs.lemmas.List.{take_all}
use Rattle.bench.proofs.number.read.Goals as goal

pub returns-then-word-eq2 : goal.returns-then-word-eq2
returns-then-word-eq2 c = sym (number-prefix c.args.word.now (sym c.is_hex.ensures ∙ c.if-is_hex.true) c.if-word-eq2.true)

pub slice_bounds-numeral-count : goal.slice_bounds-numeral-count
slice_bounds-numeral-count c = omega (arith, hex-long c.args.word.now (sym c.is_hex.ensures ∙ c.if-is_hex.true))

pub slice_bounds-numeral-start : goal.slice_bounds-numeral-start
slice_bounds-numeral-start c = omega (arith, hex-long c.args.word.now (sym c.is_hex.ensures ∙ c.if-is_hex.true))

pub returns-then-is_hex : goal.returns-then-is_hex
returns-then-is_hex c =
    let w = c.args.word.now in
    c.numeral.ensures
    ∙ ap (λ x. numeral_of 16 0 x) (take_all _ _ (omega (arith, length-drop {A = ℕ} 2 w)))
    ∙ sym (number-hex w (sym c.is_hex.ensures ∙ c.if-is_hex.true) c.if-word-eq2.false)

pub returns-then-is_empty : goal.returns-then-is_empty
returns-then-is_empty c =
    sym (number-empty c.args.word.now (sym c.is_hex.ensures ∙ c.if-is_hex.false) (eqb-true _ _ (sym c.is_empty.ensures ∙ c.if-is_empty.true)))

pub returns : goal.returns
returns c =
    c.numeral-2.ensures
    ∙ sym (number-decimal c.args.word.now (sym c.is_hex.ensures ∙ c.if-is_hex.false) (eqb-false _ _ (sym c.is_empty.ensures ∙ c.if-is_empty.false)))
