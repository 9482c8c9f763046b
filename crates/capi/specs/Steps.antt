-- What a step asks of all that is lent besides the ring: an answer with room, a place of the device, and an EOF mark of 0 or 1.
use Rattle.std.specs.Prelude.{ℕ, Bool, ◌&&◌, List, leb}
use Rattle.capi.specs.Words.{is_place}
use Rattle.capi.specs.Answer.{has_room}

unfoldable pub step_ready : List ℕ → List ℕ → ℕ → Bool
step_ready an dw eof = leb eof 1 && (has_room an && is_place dw)
