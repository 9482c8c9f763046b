-- Module 6 on numbers. A chip is 0, ordinary, or 1, S2; a direction is 0, In, or 1, Out; any other number names none and is refused
-- with 5.
use Rattle.std.specs.Prelude.{ℕ, zero, suc, Bool, cond, ◌&&◌, List, leb, Err}
use Rattle.descriptors.specs.declared.record.TransferDirection.{TransferDirection}
use Rattle.descriptors.specs.declared.record.TransferDirection.TheVariants.{In, Out}
use Rattle.descriptors.specs.declared.refusal.DmaBufError.TheVariants.{BadState}
use Rattle.descriptors.specs.Refusal.{Answer}
use Rattle.psram.specs.declared.chip.Chip.{Chip}
use Rattle.psram.specs.declared.chip.Chip.TheVariants.{Ordinary, S2}
use Rattle.psram.specs.declared.held.Held.{Held}
use Rattle.psram.specs.declared.held.Listed.{Listed}
use Rattle.psram.specs.declared.plan.Cut.{Cut}
use Rattle.capi.specs.declared.answer.Said.{Said}
use Rattle.capi.specs.Answer.{has_room, said_by, words_of_cut, words_of_listed, words_of_held}

abbrev pub chip_of : ℕ → Chip
chip_of zero = Ordinary
chip_of (suc k) = S2

abbrev pub direction_of : ℕ → TransferDirection
direction_of zero = In
direction_of (suc k) = Out

-- what a call asks of the answer and of the chip's number, first of all
unfoldable pub piece_ready : List ℕ → ℕ → Bool
piece_ready an chip = leb chip 1 && has_room an

abbrev pub ready_said : Bool → Answer Said → Answer Said
ready_said ready said = cond ready said (Err BadState)

abbrev pub cut_said : Answer Cut → Answer Said
cut_said = said_by words_of_cut

abbrev pub listed_said : Answer Listed → Answer Said
listed_said = said_by words_of_listed

abbrev pub held_said : Answer Held → Answer Said
held_said = said_by words_of_held
