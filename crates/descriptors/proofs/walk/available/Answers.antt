use Rattle.descriptors.specs.Moves.{room_in}
use Rattle.std.proofs.Common.{ℕ, ◌-◌, ap, ◌∙◌}
use Rattle.descriptors.proofs.walk.available.Goals as goal

pub returns : goal.returns
unfolding room_in
returns c = c.saturating_sub.ensures ∙ ap (λ (k : ℕ). k - c.args.h.descriptor_offset) c.run_bytes.ensures
