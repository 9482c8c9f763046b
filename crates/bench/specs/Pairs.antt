-- Bytes as pairs of hex digits.
use Rattle.std.specs.Prelude.{ℕ, ◌+◌, ◌*◌, ◌/◌, ◌%◌, List, [], ◌∷◌, get_or, Option, Some, None}
use Rattle.bench.specs.Digit.{value_of, digit_of}

-- the byte that two digits' values spell, if both are digits
abbrev pub byte_of : Option ℕ → Option ℕ → Option ℕ
byte_of None low = None
byte_of (Some high) None = None
byte_of (Some high) (Some low) = Some (16 * high + low)

-- pair i of the digits of a list
unfoldable pub pair_at : List ℕ → ℕ → Option ℕ
pair_at w i = byte_of (value_of (get_or w (2 * i) 0)) (value_of (get_or w (2 * i + 1) 0))

-- the digits of bytes, two for each
unfoldable pub digits_of : List ℕ → List ℕ
digits_of [] = []
digits_of (b ∷ rest) = digit_of (b / 16) ∷ digit_of (b % 16) ∷ digits_of rest

-- bytes as an answer tells them: 45 is `-`
abbrev pub told : List ℕ → List ℕ
told [] = 45 ∷ []
told (b ∷ rest) = digits_of (b ∷ rest)
