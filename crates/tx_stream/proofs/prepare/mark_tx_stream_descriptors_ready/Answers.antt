use Rattle.tx_stream.specs.laws.Prepares.{reached-to, marked-none, marked_all, marked-short, marked-on, cursor-by}
use Rattle.tx_stream.specs.Faces.{fill_cells, cut_cells}
use Rattle.descriptors.specs.Cells.{record_at, put_length, put_eof}
use Rattle.descriptors.specs.Record.{up_to}
use Rattle.std.proofs.Common.{◌≡◌, ℕ, true, List, [], sym, ap, ◌∙◌, arith}
use Rattle.tx_stream.proofs.prepare.mark_tx_stream_descriptors_ready.Goals as goal

pub returns-then-bytes_pushed-eq0 : goal.returns-then-bytes_pushed-eq0
returns-then-bytes_pushed-eq0 c = let a = c.args in marked-none a.n a.bytes_pushed a.w.now c.if-bytes_pushed-eq0.true

pub returns-then-end-n : goal.returns-then-end-n
returns-then-end-n c =
    let a = c.args in
    let q = marked_all a.n a.bytes_pushed a.w.now c.if-bytes_pushed-eq0.false (sym c.end_of-end.ensures.0 ∙ c.if-end-n.true) in
    (c.mark_filled.ensures ∙ q.0, q.1)

pub returns-then-end-eq0 : goal.returns-then-end-eq0
returns-then-end-eq0 c =
    let a = c.args in
    let q = marked-short a.n a.bytes_pushed a.w.now c.if-bytes_pushed-eq0.false (λ z. c.if-end-n.false (c.end_of-end.ensures.0 ∙ z)) (sym c.end_of-end.ensures.0 ∙ c.if-end-eq0.true) in
    (c.terminate_tx_stream_at.ensures ∙ ap (λ (v : List ℕ). up_to (cut_cells 1) a.n v) (c.set_suc_eof.ensures ∙ ap (λ (v : List ℕ). put_eof v 0 true) (c.set_length.ensures ∙ ap (put_length a.w.now 0) c.end_of-end.ensures.1)) ∙ q.0, q.1)

pub terminate_tx_stream_at-requires-2 : goal.terminate_tx_stream_at-requires-2
terminate_tx_stream_at-requires-2 c =
    let a = c.args in
    omega (arith, c.end_of-end.ensures.0, reached-to (record_at [] a.w.now) a.n 0 a.bytes_pushed)

pub returns : goal.returns
returns c =
    let a = c.args in
    let q = marked-on a.n a.bytes_pushed a.w.now c.if-bytes_pushed-eq0.false (λ z. c.if-end-n.false (c.end_of-end.ensures.0 ∙ z)) (λ z. c.if-end-eq0.false (c.end_of-end.ensures.0 ∙ z)) in
    let w : c.terminate_tx_stream_at-2.new.w ≡ up_to (cut_cells c.end_of-end.result.at) a.n (up_to fill_cells c.end_of-end.result.at a.w.now) = c.terminate_tx_stream_at-2.ensures ∙ ap (λ (v : List ℕ). up_to (cut_cells c.end_of-end.result.at) a.n v) c.mark_filled-2.ensures in (
      w ∙ ap (λ (k : ℕ). up_to (cut_cells k) a.n (up_to fill_cells k a.w.now)) c.end_of-end.ensures.0 ∙ q.0,
      cursor-by _ _ c.end_of-end.ensures.0 c.end_of-end.ensures.1 ∙ q.1,
    )
