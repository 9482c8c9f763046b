use Rattle.tx_stream.specs.Faces.{fill_cells}
use Rattle.descriptors.specs.laws.Updates.{up_none, up_more}
use Rattle.descriptors.specs.Cells.{put_length, put_eof}
use Rattle.std.proofs.Common.{ℕ, true, List, sym, refl, ap, ◌∙◌, rules}
use Rattle.tx_stream.proofs.prepare.mark_filled.Goals as goal

pub loop-d-init : goal.loop-d-init
loop-d-init c = (refl, sym (up_none fill_cells c.args.w.now))

pub loop-d-preserved : goal.loop-d-preserved
unfolding fill_cells
loop-d-preserved c =
    let a = c.args in (
      search rules,
      c.set_suc_eof.ensures ∙ ap (λ (v : List ℕ). put_eof v c.loop-d.d true) (c.set_length.ensures ∙ ap (put_length c.loop-d.w c.loop-d.d) c.size_of-size.ensures.0)
          ∙ ap (λ (v : List ℕ). fill_cells c.loop-d.d v) c.loop-d.invariant.1 ∙ sym (up_more fill_cells c.loop-d.d a.w.now),
    )
