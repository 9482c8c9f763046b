-- What a call says: three words, which go into the answer, or a refusal, whose number is returned and which leaves the answer alone.
use Rattle.std.specs.Prelude.{ℕ, Bool, cond, List, ◌∷◌, leb, length, drop, Ok, Err}
use Rattle.descriptors.specs.Refusal.{Answer, number_of}
use Rattle.psram.specs.declared.held.Held.{Held}
use Rattle.psram.specs.declared.held.Held.TheVariants.{InStore, InRange}
use Rattle.psram.specs.declared.held.Listed.{Listed}
use Rattle.psram.specs.declared.plan.Cut.{Cut}
use Rattle.rx_stream.specs.declared.Took.{Took}
use Rattle.capi.specs.declared.answer.Said.{Said}

-- a shorter answer is no answer: the call is refused with 5
abbrev pub has_room : List ℕ → Bool
has_room an = leb 3 (length an)

unfoldable pub answered : List ℕ → ℕ → ℕ → ℕ → List ℕ
answered an x y z = cond (has_room an) (x ∷ (y ∷ (z ∷ drop 3 an))) an

abbrev pub said_number : Answer Said → ℕ
said_number (Ok x) = 0
said_number (Err e) = number_of e

abbrev pub said_in : List ℕ → Answer Said → List ℕ
said_in an (Ok x) = answered an x.first x.second x.third
said_in an (Err e) = an

-- ---- the words of a value

abbrev pub words_alone : Said → Said
words_alone x = x

abbrev pub words_of_count : ℕ → Said
words_of_count k = record { first = k; second = 0; third = 0 }

abbrev pub words_of_took : Took → Said
words_of_took x = record { first = x.taken; second = x.back; third = 0 }

-- head, middle, tail
abbrev pub words_of_cut : Cut → Said
words_of_cut x = record { first = x.head; second = x.middle; third = x.tail }

-- the bytes covered and the records used
abbrev pub words_of_listed : Listed → Said
words_of_listed x = record { first = x.covered; second = x.used; third = 0 }

-- 0 in the store or 1 in the range, start, size
abbrev pub words_of_held : Held → Said
words_of_held (InStore start size) = record { first = 0; second = start; third = size }
words_of_held (InRange start size) = record { first = 1; second = start; third = size }

-- ---- what an answer with such a value says

abbrev pub said_by : {A : Type 0} → (A → Said) → Answer A → Answer Said
said_by f (Ok x) = Ok (f x)
said_by f (Err e) = Err e

abbrev pub counted_said : Answer ℕ → Answer Said
counted_said = said_by words_of_count

abbrev pub took_said : Answer Took → Answer Said
took_said = said_by words_of_took

-- done, with a count
abbrev pub done_said : ℕ → Answer Unit → Answer Said
done_said k = said_by (λ (u : Unit). words_of_count k)

abbrev pub done_number : Answer Unit → ℕ
done_number (Ok tt) = 0
done_number (Err e) = number_of e
