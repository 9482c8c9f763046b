-- A step with the ring by value is the step in place.
use Rattle.std.specs.Prelude.{ℕ, ◌≡◌, refl, Bool, true, false, cond, List, leb, length, Ok, Err, Option}
use Rattle.descriptors.specs.Ring.{Ring, ring_of, head_of, record_of}
use Rattle.descriptors.specs.declared.record.TransferDirection.TheVariants.{In, Out}
use Rattle.rx_stream.specs.declared.view.DmaRxStreamBufView.{DmaRxStreamBufView}
use Rattle.tx_stream.specs.declared.view.DmaTxStreamBufView.{DmaTxStreamBufView}
use Rattle.descriptors.specs.declared.ring.Head.{Head}
use Rattle.device.specs.Device.{Stepped, stand_of, fits, receive_by, receive_of, transmit_by, transmit_of}
use Rattle.device.specs.Faces.{ReceivedIn, SentIn}
use Rattle.device.specs.Values.{received_of, sent_of}
use Rattle.descriptors.specs.Refusal.{Answer}

-- a step leaves count, cursor, tally and prefilled count as they are
either : {A : Type 0} (h : Head) (b : Bool) (x y : Stepped A) → head_of x.ring ≡ h → head_of y.ring ≡ h → head_of (cond b x y).ring ≡ h
either h true x y p q = p
either h false x y p q = q

receive-head : (r : Ring) (dev : Option ℕ) (len k : ℕ) (eof : Bool) → head_of (receive_of r dev len k eof).ring ≡ head_of r
unfolding receive_of
receive-head r dev len k eof = go (stand_of In r len dev)
  where
    go : (x : Answer ℕ) → head_of (receive_by r dev k eof x).ring ≡ head_of r
    go (Err e) = refl
    go (Ok i) = either (head_of r) (fits k (record_of r i)) _ _ refl refl

transmit-head : (r : Ring) (dev : Option ℕ) (len room : ℕ) → head_of (transmit_of r dev len room).ring ≡ head_of r
unfolding transmit_of
transmit-head r dev len room = go (stand_of Out r len dev)
  where
    go : (x : Answer ℕ) → head_of (transmit_by r dev room x).ring ≡ head_of r
    go (Err e) = refl
    go (Ok i) = either (head_of r) (leb (record_of r i).length room) _ _ refl refl

pub received-value : (v : DmaRxStreamBufView) (dev : Option ℕ) (bytes bs : List ℕ) (eof : Bool) (ws' bytes' : List ℕ) (dev' : Option ℕ) (an : Answer Unit)
    → ReceivedIn v.starts v.cells v.head dev bytes bs eof ws' bytes' dev' an
    → record { ring = record { starts = v.starts; cells = ws'; head = v.head }; device = dev'; answer = an }
    ≡ received_of v (receive_of (ring_of v.starts v.cells v.head) dev (length bytes) (length bs) eof)
received-value v dev bytes bs eof ws' bytes' dev' an p =
    rw (p.cells, p.device, p.answer, receive-head (ring_of v.starts v.cells v.head) dev (length bytes) (length bs) eof)

pub sent-value : (v : DmaTxStreamBufView) (dev : Option ℕ) (bytes out ws' out' : List ℕ) (dev' : Option ℕ) (an : Answer ℕ) → SentIn v.starts v.cells v.head dev bytes out ws' out' dev' an
    → record { ring = record { starts = v.starts; cells = ws'; head = v.head }; device = dev'; answer = an }
    ≡ sent_of v (transmit_of (ring_of v.starts v.cells v.head) dev (length bytes) (length out))
sent-value v dev bytes out ws' out' dev' an p =
    rw (p.cells, p.device, p.answer, transmit-head (ring_of v.starts v.cells v.head) dev (length bytes) (length out))
