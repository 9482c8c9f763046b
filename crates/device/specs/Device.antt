-- Module 5, "Device". "It stands on a record or is stopped, starting at record 0. It never looks at the owner." Where it stands is a
-- number, or nothing once it is stopped, since a step "moves to next as read at that moment; none means stopped".
use Rattle.std.specs.Prelude.{ℕ, Bool, cond, ◌&&◌, List, ◌++◌, leb, ltb, length, take, drop, Ok, Err, Some, None, Option}
use Rattle.std.proofs.Math.Seq.{paste}
use Rattle.descriptors.specs.Record.{update, closed, sent}
use Rattle.descriptors.specs.Ring.{Ring, with_records, record_of, sound}
use Rattle.descriptors.specs.declared.record.DmaDescriptor.{DmaDescriptor}
use Rattle.descriptors.specs.declared.record.TransferDirection.{TransferDirection}
use Rattle.descriptors.specs.declared.record.TransferDirection.TheVariants.{In, Out}
use Rattle.descriptors.specs.Refusal.{Answer}
use Rattle.descriptors.specs.declared.refusal.DmaBufError.TheVariants.{BadState, BadStep, Stopped}

-- what a step answers, and the ring and the device that it leaves
pub record Stepped (A : Type 0) : Type 0 where
  pub ring : Ring
  pub device : Option ℕ
  pub answer : A

-- a stopped device is 7, and a "device's record not below n" is 5
abbrev pub stands_on : ℕ → Option ℕ → Answer ℕ
stands_on n None = Err Stopped
stands_on n (Some i) = cond (ltb i n) (Ok i) (Err BadState)

-- "5 comes first, then 7": a ring that is not sound is 5
abbrev pub stand_of : TransferDirection → Ring → ℕ → Option ℕ → Answer ℕ
stand_of dir r len dev = cond (sound dir r len) (stands_on r.count dev) (Err BadState)

-- ---- the receive step

-- 6: "receive device step of 0 or more than size bytes"
abbrev pub fits : ℕ → DmaDescriptor → Bool
fits k d = ltb 0 k && leb k d.size

abbrev pub receive_by : Ring → Option ℕ → ℕ → Bool → Answer ℕ → Stepped (Answer Unit)
receive_by r dev k eof (Err e) = record { ring = r; device = dev; answer = Err e }
receive_by r dev k eof (Ok i) =
    cond (fits k (record_of r i))
    record { ring = with_records r (update r.descriptors i (closed k eof)); device = (record_of r i).next; answer = Ok tt }
    record { ring = r; device = dev; answer = Err BadStep }

-- "sets length and EOF, makes it CPU, and moves to next as read at that moment"
unfoldable pub receive_of : Ring → Option ℕ → ℕ → ℕ → Bool → Stepped (Answer Unit)
receive_of r dev len k eof = receive_by r dev k eof (stand_of In r len dev)

-- "A receive step writes its bytes at the start of the record"
abbrev pub receive_into_by : Ring → List ℕ → List ℕ → Answer ℕ → List ℕ
receive_into_by r bytes bs (Err e) = bytes
receive_into_by r bytes bs (Ok i) = cond (fits (length bs) (record_of r i)) (paste bytes (record_of r i).buffer bs (length bs)) bytes

unfoldable pub receive_into : Ring → Option ℕ → List ℕ → List ℕ → List ℕ
receive_into r dev bytes bs = receive_into_by r bytes bs (stand_of In r (length bytes) dev)

-- ---- the transmit step

-- 5: "a transmit step's output slice shorter than the record's length"
abbrev pub transmit_by : Ring → Option ℕ → ℕ → Answer ℕ → Stepped (Answer ℕ)
transmit_by r dev room (Err e) = record { ring = r; device = dev; answer = Err e }
transmit_by r dev room (Ok i) =
    cond (leb (record_of r i).length room)
    record { ring = with_records r (update r.descriptors i sent); device = (record_of r i).next; answer = Ok (record_of r i).length }
    record { ring = r; device = dev; answer = Err BadState }

-- "keeps length and EOF, makes it CPU and moves likewise"
unfoldable pub transmit_of : Ring → Option ℕ → ℕ → ℕ → Stepped (Answer ℕ)
transmit_of r dev len room = transmit_by r dev room (stand_of Out r len dev)

-- "A transmit step puts length bytes at the output's front": the output afterwards
abbrev pub transmit_over_by : Ring → List ℕ → List ℕ → Answer ℕ → List ℕ
transmit_over_by r bytes out (Err e) = out
transmit_over_by r bytes out (Ok i) =
    cond (leb (record_of r i).length (length out))
    (take (record_of r i).length (drop (record_of r i).buffer bytes) ++ drop (record_of r i).length out)
    out

unfoldable pub transmit_over : Ring → Option ℕ → List ℕ → List ℕ → List ℕ
transmit_over r dev bytes out = transmit_over_by r bytes out (stand_of Out r (length bytes) dev)
