use Rattle.burst.specs.laws.Powers.{alignment-pos}
use Rattle.std.proofs.Common.{◌∙◌, sym}
use Rattle.burst.proofs.ensure_buffer_compatible.Goals as goal

pub ensure_buffer_aligned-requires : goal.ensure_buffer_aligned-requires
ensure_buffer_aligned-requires c =
    let a = c.args in
    rw c.min_alignment-alignment.ensures (alignment-pos a.address a.external a.internal_alignment a.external_alignment (sym c.is_good.ensures ∙ c.if-not-is_good.false))
