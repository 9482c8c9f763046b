-- "Twelve entries for the proved table": "one constant table, proved by a single computed test and also run by the program".
use Rattle.std.specs.Prelude.{ℕ, ◌+◌, ◌*◌, ◌≡◌, refl, Bool, true, false, ◌&&◌, List, [], ◌∷◌, ◌++◌, eqb, get_or, length, Ok, Err}
use Rattle.descriptors.specs.Refusal.{Answer, number_of}
use Rattle.descriptors.specs.Cells.{all_below}
use Rattle.descriptors.specs.Split.{split_of}
use Rattle.descriptors.specs.declared.refusal.DmaBufError.TheVariants.{InsufficientDescriptors, InvalidChunkSize, UnevenSplit}
use Rattle.descriptors.specs.declared.split.Split.{Split}
use Rattle.psram.specs.Cut.{cut_of, plan_of, head_of, tail_of}
use Rattle.psram.specs.declared.chip.Chip.TheVariants.{Ordinary, S2}
use Rattle.psram.specs.declared.plan.Cut.{Cut}
use Rattle.table.specs.declared.Asked.{Asked}
use Rattle.table.specs.declared.Asked.TheVariants as asked
use Rattle.table.specs.declared.Row.{Row}

-- a row has seven numbers: what is asked (0 the split of b bytes over a records, 1 the cut of b bytes at address a on an ordinary chip, 2
-- on an S2), a, b, and the answer: the refusal's number or 0, and then the size of the first records and of the last, or head, middle
-- and tail
abbrev pub wide : ℕ
wide = 7

abbrev pub count : ℕ
count = 12

-- A to L
unfoldable pub rows : List ℕ
rows =
    0 ∷ 4 ∷ 3 ∷ 2 ∷ 0 ∷ 0 ∷ 0 ∷
    0 ∷ 4 ∷ 4 ∷ 0 ∷ 1 ∷ 1 ∷ 0 ∷
    0 ∷ 4 ∷ 11 ∷ 3 ∷ 0 ∷ 0 ∷ 0 ∷
    0 ∷ 4 ∷ 14 ∷ 0 ∷ 3 ∷ 5 ∷ 0 ∷
    0 ∷ 4 ∷ 15 ∷ 3 ∷ 0 ∷ 0 ∷ 0 ∷
    0 ∷ 4 ∷ 16377 ∷ 0 ∷ 4094 ∷ 4095 ∷ 0 ∷
    0 ∷ 4 ∷ 16378 ∷ 1 ∷ 0 ∷ 0 ∷ 0 ∷
    0 ∷ 4 ∷ 16380 ∷ 0 ∷ 4095 ∷ 4095 ∷ 0 ∷
    0 ∷ 4 ∷ 16381 ∷ 1 ∷ 0 ∷ 0 ∷ 0 ∷
    1 ∷ 13 ∷ 100 ∷ 0 ∷ 3 ∷ 96 ∷ 1 ∷
    2 ∷ 13 ∷ 100 ∷ 0 ∷ 19 ∷ 64 ∷ 17 ∷
    2 ∷ 13 ∷ 24 ∷ 0 ∷ 24 ∷ 0 ∷ 0 ∷ []

-- the same rows in the program's types
unfoldable pub table : List Row
table =
    record { asked = asked.Split; a = 4; b = 3; answer = Err InvalidChunkSize } ∷
    record { asked = asked.Split; a = 4; b = 4; answer = Ok (1 ∷ 1 ∷ 0 ∷ []) } ∷
    record { asked = asked.Split; a = 4; b = 11; answer = Err UnevenSplit } ∷
    record { asked = asked.Split; a = 4; b = 14; answer = Ok (3 ∷ 5 ∷ 0 ∷ []) } ∷
    record { asked = asked.Split; a = 4; b = 15; answer = Err UnevenSplit } ∷
    record { asked = asked.Split; a = 4; b = 16377; answer = Ok (4094 ∷ 4095 ∷ 0 ∷ []) } ∷
    record { asked = asked.Split; a = 4; b = 16378; answer = Err InsufficientDescriptors } ∷
    record { asked = asked.Split; a = 4; b = 16380; answer = Ok (4095 ∷ 4095 ∷ 0 ∷ []) } ∷
    record { asked = asked.Split; a = 4; b = 16381; answer = Err InsufficientDescriptors } ∷
    record { asked = asked.Cut Ordinary; a = 13; b = 100; answer = Ok (3 ∷ 96 ∷ 1 ∷ []) } ∷
    record { asked = asked.Cut S2; a = 13; b = 100; answer = Ok (19 ∷ 64 ∷ 17 ∷ []) } ∷
    record { asked = asked.Cut S2; a = 13; b = 24; answer = Ok (24 ∷ 0 ∷ 0 ∷ []) } ∷ []

-- what `get_or` answers past the last row: nothing reads it
abbrev pub blank : Row
blank = record { asked = asked.Split; a = 0; b = 0; answer = Ok [] }

abbrev pub row_at : ℕ → Row
row_at k = get_or table k blank

-- the seven numbers of a row
abbrev pub asked_number : Asked → ℕ
asked_number asked.Split = 0
asked_number (asked.Cut Ordinary) = 1
asked_number (asked.Cut S2) = 2

abbrev pub answer_numbers : Answer (List ℕ) → List ℕ
answer_numbers (Ok sizes) = 0 ∷ sizes
answer_numbers (Err e) = number_of e ∷ 0 ∷ 0 ∷ 0 ∷ []

abbrev pub numbers_of : List Row → List ℕ
numbers_of [] = []
numbers_of (r ∷ rs) = (asked_number r.asked ∷ r.a ∷ r.b ∷ []) ++ (answer_numbers r.answer ++ numbers_of rs)

-- the program's rows are those of the document
pub table_is : numbers_of table ≡ rows
unfolding rows table
table_is = refl

-- what the rules answer
abbrev pub split_answer : Answer Split → Answer (List ℕ)
split_answer (Ok x) = Ok (x.chunk ∷ (x.chunk + x.rest) ∷ 0 ∷ [])
split_answer (Err e) = Err e

abbrev pub cut_answer : Answer Cut → Answer (List ℕ)
cut_answer (Ok x) = Ok (x.head ∷ x.middle ∷ x.tail ∷ [])
cut_answer (Err e) = Err e

abbrev pub answer_of : Asked → ℕ → ℕ → Answer (List ℕ)
answer_of asked.Split a b = split_answer (split_of a b)
answer_of (asked.Cut chip) a b = cut_answer (cut_of chip a b)

-- a row is right when its answer is that one: the same number, and the same sizes
abbrev pub same_numbers : List ℕ → List ℕ → Bool
same_numbers [] [] = true
same_numbers (x ∷ xs) (y ∷ ys) = eqb x y && same_numbers xs ys
same_numbers [] (y ∷ ys) = false
same_numbers (x ∷ xs) [] = false

abbrev pub same_as : Answer (List ℕ) → Answer (List ℕ) → Bool
same_as x y = same_numbers (answer_numbers x) (answer_numbers y)

abbrev pub right : ℕ → Bool
right k = let r = row_at k in same_as (answer_of r.asked r.a r.b) r.answer

-- THE TWELVE ROWS: one test, which the checker computes
pub rows_right : all_below right count ≡ true
unfolding table split_of cut_of plan_of head_of tail_of
rows_right = refl

pub rows_whole : length rows ≡ wide * count
unfolding rows
rows_whole = refl
