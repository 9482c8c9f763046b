-- A digit's value, none for what is no digit, and a value's digit.
use Rattle.std.specs.Prelude.{ℕ, ◌+◌, ◌-◌, cond, ltb, leb, Option, Some, None}

unfoldable pub value_of : ℕ → Option ℕ
value_of b =
    cond (ltb b 48) None
    (cond (leb b 57) (Some (b - 48))
    (cond (ltb b 65) None
    (cond (leb b 70) (Some (b - 65 + 10))
    (cond (ltb b 97) None
    (cond (leb b 102) (Some (b - 97 + 10)) None)))))

unfoldable pub digit_of : ℕ → ℕ
digit_of d = cond (ltb d 10) (48 + d) (97 + (d - 10))
