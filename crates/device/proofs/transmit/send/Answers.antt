use Rattle.std.proofs.Common.{◌+◌, ◌-◌, ◌≡◌, ◌++◌, ℕ, List, take, drop, ap, ◌∙◌, arith}
use Rattle.device.proofs.transmit.send.Goals as goal

pub returns : goal.returns
returns c =
    let a = c.args in
    let k : a.at + a.k - a.at ≡ a.k = omega arith in
    ap (λ (l : List ℕ). l ++ drop a.k a.out.now) (c.copy_from_slice.ensures.after ∙ ap (λ (n : ℕ). take n (drop a.at a.buffer.now)) k)
