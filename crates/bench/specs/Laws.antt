-- Laws of numbers and pairs, digit by digit.
use Rattle.std.specs.Prelude.{ℕ, zero, suc, ◌+◌, ◌*◌, ◌≤◌, ◌<◌, Bool, true, false, cond, ◌≡◌, List, [], ◌∷◌, Option, None, Some, Ok, Err, eqb, ltb, length, get_or, drop}
use Rattle.std.proofs.Math.Path.{refl, ap}
use Rattle.std.proofs.Common.{◌∙◌, arith, add-one}
use Rattle.std.proofs.Math.Seq.{drop-cons}
use borrow.Author.Tests.{lt-ltb, le-ltb, le-leb, lt-leb, ne_eqb, eq-eqb, ltb-false}
use Rattle.bench.specs.Digit.{value_of}
use Rattle.bench.specs.Pairs.{pair_at}
use Rattle.bench.specs.Number.{most, is_hex, with_digit, numeral_of, number_of}
use Rattle.bench.specs.declared.why.Why.TheVariants.{NoNumber, OutOfRange}

module _ (w : List ℕ) (h : 2 ≤ length w) where
  pub hex-not : (get_or w 0 0 ≡ 48 → ⊥) → is_hex w ≡ false
  unfolding is_hex
  hex-not n = simp (le-ltb _ _ h, ne_eqb _ _ n)

  pub hex-second : get_or w 0 0 ≡ 48 → is_hex w ≡ eqb (get_or w 1 0) 120
  unfolding is_hex
  hex-second e = simp (le-ltb _ _ h, eq-eqb _ _ e)

not_short : (n : ℕ) (b t : Bool) → ltb n 2 ≡ t → cond t false b ≡ true → 2 ≤ n
not_short n b true p q = absurd (let z : ◌≡◌ {A = Bool} false true = q in let y : ◌≡◌ {A = ℕ} 0 1 = cc in omega arith)
not_short n b false p q = ltb-false n 2 p

module _ (w : List ℕ) where
  pub hex-long : is_hex w ≡ true → 2 ≤ length w
  unfolding is_hex
  hex-long e = not_short (length w) _ (ltb (length w) 2) refl e

  pub number-prefix : is_hex w ≡ true → length w ≡ 2 → number_of w ≡ Err NoNumber
  unfolding number_of
  number-prefix e n = simp (e, eq-eqb _ _ n)

  pub number-hex : is_hex w ≡ true → (length w ≡ 2 → ⊥) → number_of w ≡ numeral_of 16 0 (drop 2 w)
  unfolding number_of
  number-hex e n = simp (e, ne_eqb _ _ n)

  pub number-empty : is_hex w ≡ false → length w ≡ 0 → number_of w ≡ Err NoNumber
  unfolding number_of
  number-empty e n = simp (e, eq-eqb _ _ n)

  pub number-decimal : is_hex w ≡ false → (length w ≡ 0 → ⊥) → number_of w ≡ numeral_of 10 0 w
  unfolding number_of
  number-decimal e n = simp (e, ne_eqb _ _ n)

pub numeral-end : (b v : ℕ) (w : List ℕ) (i : ℕ) → length w ≤ i → numeral_of b v (drop i w) ≡ Ok v
unfolding numeral_of
numeral-end b v [] zero h = refl
numeral-end b v [] (suc i) h = refl
numeral-end b v (x ∷ w) zero h = absurd (omega arith)
numeral-end b v (x ∷ w) (suc i) h = numeral-end b v w i (omega arith)

-- one digit more
module _ (b v : ℕ) (w : List ℕ) (i : ℕ) (h : i < length w) where
  digit_more : (o : Option ℕ) → value_of (get_or w i 0) ≡ o
      → numeral_of b v (drop i w) ≡ with_digit b v o (λ n. numeral_of b n (drop (suc i) w))
  unfolding numeral_of
  digit_more o e = rw (drop-cons w i 0) (ap (λ x. with_digit b v x (λ n. numeral_of b n (drop (suc i) w))) e)

  pub numeral-none : value_of (get_or w i 0) ≡ None → numeral_of b v (drop i w) ≡ Err NoNumber
  numeral-none e = digit_more None e

  module _ (d : ℕ) (e : value_of (get_or w i 0) ≡ Some d) where
    pub numeral-bad : b ≤ d → numeral_of b v (drop i w) ≡ Err NoNumber
    numeral-bad x = digit_more (Some d) e ∙ simp (le-leb _ _ x)

    pub numeral-large : d < b → most < v * b + d → numeral_of b v (drop i w) ≡ Err OutOfRange
    numeral-large x y = digit_more (Some d) e ∙ simp (lt-leb _ _ x, lt-ltb _ _ y)

    pub numeral-more : d < b → v * b + d ≤ most → numeral_of b v (drop i w) ≡ numeral_of b (v * b + d) (drop (i + 1) w)
    numeral-more x y = rw add-one (digit_more (Some d) e ∙ simp (lt-leb _ _ x, le-ltb _ _ y))

-- pair i of the digits of a list
module _ (w : List ℕ) (i : ℕ) where
  pub pair-high : value_of (get_or w (2 * i) 0) ≡ None → pair_at w i ≡ None
  unfolding pair_at
  pair-high e = rw e refl

  module _ (a : ℕ) (p : value_of (get_or w (2 * i) 0) ≡ Some a) where
    pub pair-low : value_of (get_or w (2 * i + 1) 0) ≡ None → pair_at w i ≡ None
    unfolding pair_at
    pair-low e = rw (p, e) refl

    pub pair_is : (b : ℕ) → value_of (get_or w (2 * i + 1) 0) ≡ Some b → pair_at w i ≡ Some (16 * a + b)
    unfolding pair_at
    pair_is b q = rw (p, q) refl
