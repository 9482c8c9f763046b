-- The device's transmit step: what it answers and leaves, by where the device stands.
use Rattle.std.specs.Prelude.{◌≡◌, Bool, true, cond, List, ◌++◌, ℕ, ◌<◌, leb, length, take, drop, Ok, Err, Some, None, Option}
use borrow.Author.Tests.{lt-ltb}
use Rattle.descriptors.specs.Record.{update, sent}
use Rattle.descriptors.specs.Ring.{Ring, with_records, record_of, sound}
use Rattle.descriptors.specs.declared.record.TransferDirection.TheVariants.{Out}
use Rattle.descriptors.specs.declared.refusal.DmaBufError.TheVariants.{BadState, Stopped}
use Rattle.device.specs.Device.{transmit_of, transmit_over}

module _ (r : Ring) (dev : Option ℕ) (len : ℕ) (s : sound Out r len ≡ true) where
  -- 7, Stopped: "device step after the device stopped"
  pub send-stopped : (room : ℕ) → dev ≡ None → transmit_of r dev len room ≡ record { ring = r; device = dev; answer = Err Stopped }
  unfolding transmit_of
  send-stopped room e = rw (e, s)

  -- "makes it CPU and moves likewise", or 5: "a transmit step's output slice shorter than the record's length"
  pub send-on : (room i : ℕ) (t : Bool) → dev ≡ Some i → i < r.count → leb (record_of r i).length room ≡ t
      → transmit_of r dev len room ≡ cond t record { ring = with_records r (update r.descriptors i sent); device = (record_of r i).next; answer = Ok (record_of r i).length }
      record { ring = r; device = dev; answer = Err BadState }
  unfolding transmit_of
  send-on room i t e h q = rw (e, s, lt-ltb i r.count h, q)

-- "A transmit step puts length bytes at the output's front"
pub over-on : (r : Ring) (dev : Option ℕ) (bytes out : List ℕ) (i : ℕ) → sound Out r (length bytes) ≡ true → dev ≡ Some i → i < r.count → leb (record_of r i).length (length out) ≡ true
    → transmit_over r dev bytes out ≡ take (record_of r i).length (drop (record_of r i).buffer bytes) ++ drop (record_of r i).length out
unfolding transmit_over
over-on r dev bytes out i s e h q = rw (e, s, lt-ltb i r.count h, q)
