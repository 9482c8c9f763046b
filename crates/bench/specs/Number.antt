-- A number as it is written: decimal, or hex after `0x`.
use Rattle.std.specs.Prelude.{ℕ, ◌+◌, ◌*◌, Bool, false, cond, ◌&&◌, List, [], ◌∷◌, eqb, ltb, leb, length, get_or, drop, Option, Some, None, Result, Ok, Err}
use Rattle.bench.specs.Digit.{value_of}
use Rattle.bench.specs.declared.why.Why.{Why}
use Rattle.bench.specs.declared.why.Why.TheVariants.{NoNumber, OutOfRange}

abbrev pub most : ℕ
most = 18446744073709551615

-- a digit's value behind digits that come to v, in a base, and what is made of the number with it
abbrev pub with_digit : ℕ → ℕ → Option ℕ → (ℕ → Result ℕ Why) → Result ℕ Why
with_digit base v None rest = Err NoNumber
with_digit base v (Some d) rest =
    cond (leb base d) (Err NoNumber) (cond (ltb most (v * base + d)) (Err OutOfRange) (rest (v * base + d)))

-- the digits of a list behind those that come to v, in a base
unfoldable pub numeral_of : ℕ → ℕ → List ℕ → Result ℕ Why
numeral_of base v [] = Ok v
numeral_of base v (x ∷ xs) = with_digit base v (value_of x) (λ n. numeral_of base n xs)

unfoldable pub is_hex : List ℕ → Bool
is_hex w = cond (ltb (length w) 2) false (eqb (get_or w 0 0) 48 && eqb (get_or w 1 0) 120)

unfoldable pub number_of : List ℕ → Result ℕ Why
number_of w =
    cond (is_hex w) (cond (eqb (length w) 2) (Err NoNumber) (numeral_of 16 0 (drop 2 w)))
    (cond (eqb (length w) 0) (Err NoNumber) (numeral_of 10 0 w))
