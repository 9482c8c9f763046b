-- The pieces of a range, by number: the head, the direct pieces, the tail.
use Rattle.std.specs.Prelude.{ℕ, ◌+◌, ◌-◌, ◌*◌, ◌/◌, ◌≤◌, min, Bool, true, cond, ◌&&◌, List, [], eqb, leb, ltb, take, drop, Ok, Err}
use Rattle.std.specs.Borrow.{Bor}
use Rattle.descriptors.specs.Record.{limit, top}
use Rattle.descriptors.specs.Part.{part_from}
use Rattle.descriptors.specs.declared.refusal.DmaBufError.TheVariants.{TooManyDescriptors, BadState, TooMuch, UnsupportedMemoryRegion}
use Rattle.psram.specs.Cut.{piece, bounce_of, plan_for}
use Rattle.psram.specs.declared.chip.Chip.{Chip}
use Rattle.psram.specs.declared.plan.Plan.{Plan}
use Rattle.psram.specs.declared.held.Held.TheVariants.{InStore, InRange}
use Rattle.descriptors.specs.Refusal.{Answer}
use Rattle.psram.specs.declared.held.Held.{Held}

abbrev pub bytes_of : Plan → ℕ
bytes_of p = p.head + p.middle + p.tail

-- a plan whose places and sizes a record can hold
pub record Small (p : Plan) : Type 0 where
  pub bytes : bytes_of p ≤ top
  pub head : p.head ≤ piece
  pub tail : p.tail ≤ piece
  pub bounce : p.bounce ≤ piece

-- head and tail are a piece each, unless they are empty
abbrev pub some : ℕ → ℕ
some size = cond (eqb size 0) 0 1

-- "Between them, direct pieces", "up to 4080": as few as hold the middle
abbrev pub directs : ℕ → ℕ
directs middle = (middle + (piece - 1)) / piece

unfoldable pub pieces_of : Plan → ℕ
pieces_of p = some p.head + directs p.middle + some p.tail

abbrev pub direct_of : Plan → ℕ → Held
direct_of p j = InRange (p.head + piece * j) (min piece (p.middle - piece * j))

-- piece i. "Bounce store: head at 0, tail at the bounce size."
unfoldable pub piece_of : Plan → ℕ → Answer Held
piece_of p i =
    cond (ltb i (some p.head)) (Ok (InStore 0 p.head))
    (cond (ltb (i - some p.head) (directs p.middle)) (Ok (direct_of p (i - some p.head)))
    (cond (ltb (i - some p.head - directs p.middle) (some p.tail)) (Ok (InStore p.bounce p.tail)) (Err TooMuch)))

abbrev pub start_of : Held → ℕ
start_of (InStore start size) = start
start_of (InRange start size) = start

abbrev pub size_of : Held → ℕ
size_of (InStore start size) = size
size_of (InRange start size) = size

abbrev pub start_in : Answer Held → ℕ
start_in (Ok h) = start_of h
start_in (Err e) = 0

abbrev pub size_in : Answer Held → ℕ
size_in (Ok h) = size_of h
size_in (Err e) = 0

-- "0 to 64 records; more is 4, then 5, then 9 for a range past 2^32"; 5 is given for a "bounce store under twice the bounce size",
-- and for lent words that hold no records
unfoldable pub ready_of : Bool → ℕ → ℕ → ℕ → Chip → ℕ → Answer Unit
ready_of held n address len chip store =
    cond (ltb limit n) (Err TooManyDescriptors)
    (cond (held && leb (2 * bounce_of chip) store)
    (cond (ltb top (address + len)) (Err UnsupportedMemoryRegion) (Ok tt))
    (Err BadState))

-- piece i, shown: "piece without a record" is 8
abbrev pub numbered_by : Answer Unit → ℕ → Plan → ℕ → Answer Held
numbered_by (Ok tt) n p i = cond (ltb i n) (piece_of p i) (Err TooMuch)
numbered_by (Err e) n p i = Err e

unfoldable pub numbered_of : ℕ → ℕ → ℕ → Chip → ℕ → ℕ → Answer Held
numbered_of n address len chip store i = numbered_by (ready_of true n address len chip store) n (plan_for chip address len) i

-- "A piece is shown as a part of the bounce store or of the caller's range, whichever holds it." "on a refusal the part is empty, and
-- a companion call on the same inputs gives the refusal's number"
abbrev pub shown_of : List ℕ → List ℕ → Answer Held → List ℕ
shown_of store range (Ok (InStore start size)) = take size (drop start store)
shown_of store range (Ok (InRange start size)) = take size (drop start range)
shown_of store range (Err e) = []

-- where in the one of the two that holds it the part begins
abbrev pub place_of : Bor (List ℕ) → Bor (List ℕ) → Answer Held → ℕ × ℕ
place_of store range (Ok (InStore start size)) = part_from store start
place_of store range (Ok (InRange start size)) = part_from range start
place_of store range (Err e) = part_from store 0

abbrev pub piece_refusal_of : Answer Held → Answer Unit
piece_refusal_of (Ok h) = Ok tt
piece_refusal_of (Err e) = Err e
