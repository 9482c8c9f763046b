-- A ring lent as words: a head of five (count, record, offset, tally, prefilled count), the starts and the cells. And the device's
-- place, one word.
use Rattle.std.specs.Prelude.{ℕ, Bool, cond, ◌&&◌, List, [], ◌∷◌, eqb, leb, ltb, get_or, length, None, Option}
use Rattle.descriptors.specs.Record.{limit}
use Rattle.descriptors.specs.Cells.{next_of, next_cell}
use Rattle.descriptors.specs.Ring.{Ring, ring_of}
use Rattle.descriptors.specs.declared.ring.Head.{Head}

abbrev pub head_read : List ℕ → Head
head_read hw =
    record { count = get_or hw 0 0; descriptor_idx = get_or hw 1 0; descriptor_offset = get_or hw 2 0; tally = get_or hw 3 0; pre_filled = get_or hw 4 0 }

abbrev pub head_words : Head → List ℕ
head_words h = h.count ∷ (h.descriptor_idx ∷ (h.descriptor_offset ∷ (h.tally ∷ (h.pre_filled ∷ []))))

-- words that are a head: five, with a tally of 32 bits
unfoldable pub is_head : List ℕ → Bool
is_head hw = eqb (length hw) 5 && ltb (get_or hw 3 0) 4294967296

-- the head of a ring of no records: every call refuses it with 5 (laws/Words.antt)
abbrev pub no_head : Head
no_head = record { count = 0; descriptor_idx = 0; descriptor_offset = 0; tally = 0; pre_filled = 0 }

-- the head that the words are, where all else that was lent can be used
unfoldable pub head_in : Bool → List ℕ → Head
head_in ready hw = cond (ready && is_head hw) (head_read hw) no_head

-- the words, once their head has become h: words that are no head stay as they are
unfoldable pub head_made : List ℕ → Head → List ℕ
head_made hw h = cond (eqb (length hw) 5) (head_words h) hw

unfoldable pub head_now : Bool → List ℕ → Head → List ℕ
head_now ready hw h = cond (ready && is_head hw) (head_words h) hw

-- the ring that is lent
abbrev pub lent_ring : Bool → List ℕ → List ℕ → List ℕ → Ring
lent_ring ready hw st ws = ring_of st ws (head_in ready hw)

-- ---- the device's place: 0 stopped, i + 1 on record i. More than the most records of a ring is no place.

unfoldable pub is_place : List ℕ → Bool
is_place dw = eqb (length dw) 1 && leb (get_or dw 0 0) limit

unfoldable pub next_in : Bool → List ℕ → Option ℕ
next_in ready dw = cond (ready && is_place dw) (next_of (get_or dw 0 0)) None

unfoldable pub place_now : Bool → List ℕ → Option ℕ → List ℕ
place_now ready dw dev = cond (ready && is_place dw) (next_cell dev ∷ []) dw
