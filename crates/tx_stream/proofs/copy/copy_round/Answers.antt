use Rattle.tx_stream.specs.laws.Pastes.{paste-keeps}
use Rattle.std.proofs.Common.{ℕ, ◌-◌, List, length, take, drop, ap, ◌∙◌, arith, length-drop, length-take-le}
use Rattle.tx_stream.specs.laws.Pastes.{pasted-round}
use lib.Seq.{paste}
use Rattle.tx_stream.proofs.copy.copy_round.Goals as goal

pub copy_to-requires-2 : goal.copy_to-requires-2
copy_to-requires-2 c =
    let f : ℕ = c.min-first.result in
    omega (
      arith,
      length-take-le (c.args.k - f) (drop f c.args.«data».now) (omega (arith, length-drop f c.args.«data».now, c.requires.2)),
      ap length c.copy_to.ensures,
      paste-keeps c.args.buffer.now c.args.at f c.args.«data».now (omega (arith, c.min-first.ensures, c.requires.0)) (omega (arith, c.min-first.ensures, c.requires.2)),
      c.requires.1,
    )

pub returns : goal.returns
returns c =
    let a = c.args in
    let piece : List ℕ = take (a.k - c.min-first.result) (drop c.min-first.result a.«data».now) in
    c.copy_to-2.ensures ∙ ap (λ (b : List ℕ). paste b 0 piece (length piece)) c.copy_to.ensures
    ∙ pasted-round a.buffer.now a.«data».now a.at a.k c.min-first.result c.min-first.ensures c.requires.2
