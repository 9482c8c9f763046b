-- `new` over lent words: a head that is not of five words is refused with 5 first, and a refusal leaves the head as it is.
use Rattle.std.specs.Prelude.{ℕ, Bool, cond, List, eqb, length, Ok, Err}
use Rattle.descriptors.specs.Cells.{starts_now, cells_now}
use Rattle.descriptors.specs.Ring.{Outcome, head_of}
use Rattle.descriptors.specs.declared.ring.Head.{Head}
use Rattle.capi.specs.Words.{head_made}
use Rattle.descriptors.specs.Refusal.{Answer}
use Rattle.capi.specs.Answer.{done_number}

abbrev pub is_five : List ℕ → Bool
is_five hw = eqb (length hw) 5

unfoldable pub new_number : List ℕ → Outcome (Answer Unit) → ℕ
new_number hw o = cond (is_five hw) (done_number o.answer) 5

abbrev pub head_if : Answer Unit → List ℕ → Head → List ℕ
head_if (Ok tt) hw h = head_made hw h
head_if (Err e) hw h = hw

unfoldable pub new_head : List ℕ → Outcome (Answer Unit) → List ℕ
new_head hw o = head_if o.answer hw (head_of o.ring)

unfoldable pub new_starts : List ℕ → List ℕ → List ℕ → Outcome (Answer Unit) → List ℕ
new_starts hw st ws o = cond (is_five hw) (starts_now st ws o.ring.descriptors) st

unfoldable pub new_cells : List ℕ → List ℕ → List ℕ → Outcome (Answer Unit) → List ℕ
new_cells hw st ws o = cond (is_five hw) (cells_now st ws o.ring.descriptors) ws
