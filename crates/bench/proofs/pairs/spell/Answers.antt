-- At each byte its two digits are put behind those of the bytes before it. Digits are ASCII.
use Rattle.bench.specs.Digit.{digit_of}
use Rattle.bench.specs.Pairs.{digits_of}
use Rattle.std.proofs.Common.{◌≡◌, ℕ, suc, ◌+◌, ◌*◌, ◌/◌, ◌%◌, ◌<◌, ◌≤◌, List, [], ◌∷◌, ◌++◌, length, take, drop, get_or, slice_set, refl, ◌∙◌, arith}
use Rattle.std.proofs.lemmas.List.{append_assoc, append-nil, drop_all, drop_more, take_more_set, length-set}
use Rattle.std.proofs.lemmas.Str.{IsUtf8-from_ascii}
use Rattle.std.proofs.lemmas.Str.Ascii.{IsAscii-nil, IsAscii-cons}
use Rattle.std.specs.Str.{IsAscii}
use Rattle.bench.proofs.pairs.spell.Goals as goal

small : (d : ℕ) → d < 16 → digit_of d < 128
unfolding digit_of
small d h = grind arith

ascii : (bytes : List ℕ) → ((i : ℕ) → get_or bytes i 0 < 256) → IsAscii (digits_of bytes)
unfolding digits_of
ascii [] h = IsAscii-nil
ascii (b ∷ rest) h =
    let fits : b < 256 = h 0 in
    IsAscii-cons (digit_of (b / 16)) (digit_of (b % 16) ∷ digits_of rest) (small (b / 16) (omega arith))
    (IsAscii-cons (digit_of (b % 16)) (digits_of rest) (small (b % 16) (omega arith)) (ascii rest (λ i. h (suc i))))

two : (room : List ℕ) (at x y : ℕ) → at + 1 < length room
    → take (at + 2) (slice_set (slice_set room at x) (at + 1) y) ≡ take at room ++ (x ∷ y ∷ [])
two room at x y fits =
    let long : length (slice_set room at x) ≡ length room = length-set room at x in
    let one : at + 2 ≡ at + 1 + 1 = omega arith in
    let second = take_more_set (slice_set room at x) (at + 1) y (omega (arith, long)) in
    let first = take_more_set room at x (omega arith) in
    rw (one, second, first) (append_assoc (take at room) (x ∷ []) (y ∷ []))

more : (bytes : List ℕ) (i : ℕ) → i < length bytes
    → digits_of (drop i bytes) ≡ digit_of (get_or bytes i 0 / 16) ∷ digit_of (get_or bytes i 0 % 16) ∷ digits_of (drop (i + 1) bytes)
unfolding digits_of
more bytes i h = rw (drop_more bytes i 0 h) refl

step : (bytes room : List ℕ) (i x y : ℕ) → i < length bytes → 2 * i + 1 < length room
    → x ≡ digit_of (get_or bytes i 0 / 16) → y ≡ digit_of (get_or bytes i 0 % 16)
    → take (2 * i) room ++ digits_of (drop i bytes) ≡ digits_of bytes
    → take (2 * (i + 1)) (slice_set (slice_set room (2 * i) x) (2 * i + 1) y) ++ digits_of (drop (i + 1) bytes) ≡ digits_of bytes
step bytes room i x y h fits high low before =
    let at : 2 * (i + 1) ≡ 2 * i + 2 = omega arith in
    let front = two room (2 * i) x y fits in
    let rest = more bytes i h in
    rw (at, front, append_assoc, high, low) (rw rest at before)

done : (bytes room : List ℕ) (i : ℕ) → length bytes ≤ i → i ≤ length bytes
    → take (2 * i) room ++ digits_of (drop i bytes) ≡ digits_of bytes
    → take (2 * length bytes) room ≡ digits_of bytes
unfolding digits_of
done bytes room i low high before =
    let all : i ≡ length bytes = omega arith in
    let none = drop_all i bytes low in
    let written = rw (none, append-nil) at before in
    rw all at written

pub loop-i-preserved : goal.loop-i-preserved
loop-i-preserved c =
    let b : ℕ = get_or c.args.part.now c.loop-i.i 0 in
    let fits : b < 256 = omega (arith, c.type_inv.part c.loop-i.i) in
    let high : b / 16 % 16 ≡ b / 16 = omega arith in
    step c.args.part.now c.loop-i.room c.loop-i.i _ _ (omega arith) (omega arith) (rw high at c.digit_of.ensures) c.digit_of-in-loop-i.ensures c.loop-i.invariant

pub from_utf8_unchecked-requires : goal.from_utf8_unchecked-requires
from_utf8_unchecked-requires c =
    let text = done c.args.part.now c.loop-i.room c.loop-i.i (omega arith) (omega arith) c.loop-i.invariant in
    rw text (IsUtf8-from_ascii (digits_of c.args.part.now) (ascii c.args.part.now (λ i. omega (arith, c.type_inv.part i))))

pub returns : goal.returns
returns c =
    c.from_utf8_unchecked.ensures ∙ done c.args.part.now c.loop-i.room c.loop-i.i (omega arith) (omega arith) c.loop-i.invariant
