-- Module 6, "Head and tail": how a range is cut.
use Rattle.std.specs.Prelude.{ℕ, ◌+◌, ◌-◌, ◌*◌, ◌%◌, ◌≤◌, cond, ◌&&◌, leb, ltb, Ok, Err}
use Rattle.descriptors.specs.Record.{top}
use Rattle.descriptors.specs.declared.refusal.DmaBufError.TheVariants.{UnsupportedMemoryRegion}
use Rattle.psram.specs.declared.chip.Chip.{Chip}
use Rattle.psram.specs.declared.chip.Chip.TheVariants.{Ordinary, S2}
use Rattle.psram.specs.declared.plan.Plan.{Plan}
use Rattle.descriptors.specs.Refusal.{Answer}
use Rattle.psram.specs.declared.plan.Cut.{Cut}

-- "Line 16 (ours), pieces up to 4080."
abbrev pub line : ℕ
line = 16

abbrev pub piece : ℕ
piece = 4080

-- "Ordinary chips: least 1, bounce 16. S2: least 5, bounce 24."
abbrev pub least_of : Chip → ℕ
least_of Ordinary = 1
least_of S2 = 5

abbrev pub bounce_of : Chip → ℕ
bounce_of Ordinary = 16
bounce_of S2 = 24

-- what the two splits of chips have in common, and all that any proof asks of them: a range above the bounce size leaves the tail
-- what it needs, however long the head has grown
pub record Sides (least bounce : ℕ) : Type 0 where
  pub some : 1 ≤ least
  pub short : least ≤ line
  pub room : 2 * least + 14 ≤ bounce
  pub small : bounce ≤ piece

-- "each, if above 0 and below least, grows by 16"
abbrev pub grown : ℕ → ℕ → ℕ
grown least size = cond (ltb 0 size && ltb size least) (size + line) size

-- "Length at most bounce: all is head. Else head = (16 - address mod 16) mod 16"
unfoldable pub head_of : ℕ → ℕ → ℕ → ℕ → ℕ
head_of least bounce address len = cond (leb len bounce) len (grown least ((line - address % line) % line))

-- "tail = (length - head) mod 16"
unfoldable pub tail_of : ℕ → ℕ → ℕ → ℕ → ℕ
tail_of least bounce address len = grown least ((len - head_of least bounce address len) % line)

-- "Between them, direct pieces."
unfoldable pub plan_of : ℕ → ℕ → ℕ → ℕ → Plan
plan_of least bounce address len =
    record {
      head = head_of least bounce address len;
      middle = len - head_of least bounce address len - tail_of least bounce address len;
      tail = tail_of least bounce address len;
      bounce = bounce;
    }

abbrev pub plan_for : Chip → ℕ → ℕ → Plan
plan_for chip address len = plan_of (least_of chip) (bounce_of chip) address len

-- "9 for a range past 2^32"
unfoldable pub cut_of : Chip → ℕ → ℕ → Answer Cut
cut_of chip address len =
    cond (ltb top (address + len)) (Err UnsupportedMemoryRegion)
    (Ok (record { head = (plan_for chip address len).head; middle = (plan_for chip address len).middle; tail = (plan_for chip address len).tail }))
