-- What a step leaves in lent words and bytes, by the outcome that its rule has. The head stays as it is.
use Rattle.std.specs.Prelude.{ℕ, ◌≡◌, Bool, List, length, Option}
use Rattle.descriptors.specs.Cells.{cells_now, put_owner, put_eof, put_length}
use Rattle.descriptors.specs.Ring.{ring_of}
use Rattle.descriptors.specs.declared.record.Owner.TheVariants.{Cpu}
use Rattle.descriptors.specs.declared.ring.Head.{Head}
use Rattle.device.specs.Device.{receive_of, receive_into, transmit_of, transmit_over}
use Rattle.descriptors.specs.Refusal.{Answer}

-- ---- the receive step

-- a record closed, store by store
abbrev pub close_cells : ℕ → ℕ → Bool → List ℕ → List ℕ
close_cells i k eof ws = put_owner (put_eof (put_length ws i k) i eof) i Cpu

pub record ReceivedIn (st ws : List ℕ) (h : Head) (dev : Option ℕ) (bytes bs : List ℕ) (eof : Bool) (ws' bytes' : List ℕ) (dev' : Option ℕ) (a : Answer Unit) : Type 0 where
  pub cells : ws' ≡ cells_now st ws (receive_of (ring_of st ws h) dev (length bytes) (length bs) eof).ring.descriptors
  pub buffer : bytes' ≡ receive_into (ring_of st ws h) dev bytes bs
  pub device : dev' ≡ (receive_of (ring_of st ws h) dev (length bytes) (length bs) eof).device
  pub answer : a ≡ (receive_of (ring_of st ws h) dev (length bytes) (length bs) eof).answer

-- ---- the transmit step

pub record SentIn (st ws : List ℕ) (h : Head) (dev : Option ℕ) (bytes out : List ℕ) (ws' out' : List ℕ) (dev' : Option ℕ) (a : Answer ℕ) : Type 0 where
  pub cells : ws' ≡ cells_now st ws (transmit_of (ring_of st ws h) dev (length bytes) (length out)).ring.descriptors
  pub output : out' ≡ transmit_over (ring_of st ws h) dev bytes out
  pub device : dev' ≡ (transmit_of (ring_of st ws h) dev (length bytes) (length out)).device
  pub answer : a ≡ (transmit_of (ring_of st ws h) dev (length bytes) (length out)).answer
