use Rattle.descriptors.specs.declared.walk.Moved.{Moved}
use Rattle.descriptors.specs.laws.Walks.{walk-in-rest, tally-wraps}
use Rattle.descriptors.specs.Moves.{moved_in, head_moved}
use Rattle.descriptors.specs.Stores.{hand_all}
use Rattle.descriptors.specs.Cells.{record_at}
use Rattle.std.proofs.Common.{◌≤◌, [], ap, ◌∙◌, arith}
use Rattle.descriptors.proofs.walk.advance.Goals as goal

pub overflow_sub-bytes : goal.overflow_sub-bytes
overflow_sub-bytes c =
    let a = c.args in
    let rests : c.walk_over-moved.result.rest ≤ a.k =
    rw c.walk_over-moved.ensures (walk-in-rest a.dir (record_at [] a.w.now) a.h.now.count (record { at = a.h.now.descriptor_idx; offset = a.h.now.descriptor_offset; rest = a.k; back = 0 })) in
    omega (arith, rests)

pub returns-clause-w_after : goal.returns-clause-w_after
unfolding moved_in
returns-clause-w_after c =
    let a = c.args in
    c.hand_over.ensures ∙ ap (λ (x : Moved). hand_all a.dir a.h.now.count x.back a.h.now.descriptor_idx a.w.now) c.walk_over-moved.ensures

pub returns-clause-h_after : goal.returns-clause-h_after
unfolding moved_in
returns-clause-h_after c = simp tally-wraps (ap (head_moved c.args.h.now c.args.k) c.walk_over-moved.ensures)

pub returns-clause-value : goal.returns-clause-value
unfolding moved_in
returns-clause-value c = c.walk_over-moved.ensures
