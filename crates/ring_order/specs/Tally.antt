-- A count that goes round at m: it is the whole count's remainder, and two readings differ by what came between.
use Rattle.std.specs.Prelude.{◌≡◌, ℕ, ◌+◌, ◌-◌, ◌*◌, ◌/◌, ◌%◌, ◌<◌}
use Rattle.std.proofs.Common.{◌∙◌, ap, mod-lt, mod-eq_of_lt, arith}
use Rattle.std.proofs.Math.Nat.{mod-add-mod, add-mod_right, add-mul-mod_self_left, mod-add-div}

pub goes-round : (t a d m : ℕ) → t ≡ a % m → (t + d) % m ≡ (a + d) % m
goes-round t a d m e = ap (λ (x : ℕ). (x + d) % m) e ∙ mod-add-mod a m d

-- what is left of (a + d) % m, less a % m, round at m
pub differs : (a d m : ℕ) → d < m → ((a + d) % m + (m - a % m)) % m ≡ d
differs a d m h =
    let r : a % m < m = mod-lt a (omega arith) in
    let q : a % m + m * (a / m) ≡ a = mod-add-div a m in
    let f : a + d + (m - a % m) ≡ d + m * (a / m) + m = omega arith in
    mod-add-mod (a + d) m (m - a % m) ∙ ap (λ (x : ℕ). x % m) f ∙ add-mod_right (d + m * (a / m)) m ∙ add-mul-mod_self_left d m (a / m)
    ∙ mod-eq_of_lt h
