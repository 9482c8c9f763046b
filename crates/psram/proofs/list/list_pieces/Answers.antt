use Rattle.descriptors.specs.laws.Updates.{up_none, up_more}
use Rattle.psram.specs.laws.Lists.{covered_none, covered_more}
use borrow.Author.Rules.{rules}
use Rattle.psram.specs.List.{list_start, list_cells}
use native.Mathlib.Omega.{arith}
use mathlib.Core.Path.{refl, sym, ◌∙◌, ap}
use Rattle.psram.proofs.list.list_pieces.Goals as goal

pub loop-i-init : goal.loop-i-init
loop-i-init c =
    let a = c.args in
    (omega arith, refl, refl, sym (covered_none a.p), sym (up_none (list_start a.p) a.s.now), sym (up_none (list_cells a.p) a.w.now))

pub loop-i-preserved : goal.loop-i-preserved
loop-i-preserved c =
    let l = c.list_one-covered in
    let a = c.args in (
      omega (arith, l.ensures.1),
      search rules,
      search rules,
      omega (arith, c.loop-i.invariant.3, l.ensures.0, covered_more a.p c.loop-i.i),
      l.ensures.2 ∙ ap (list_start a.p c.loop-i.i) c.loop-i.invariant.4 ∙ sym (up_more (list_start a.p) c.loop-i.i a.s.now),
      l.ensures.3 ∙ ap (list_cells a.p c.loop-i.i) c.loop-i.invariant.5 ∙ sym (up_more (list_cells a.p) c.loop-i.i a.w.now),
    )
