-- "For every input, refusals too, a public call's contract determines its result, every record field, cursor, tally and buffer byte
-- afterwards. Show that no two differing outcomes satisfy it". A contract that is one equation does by the first law alone, and those of
-- the crates `capi`, `by_value` and `lent`, which have an equation for each thing, by `by-equations`. Of each other call
-- the contract is named here, over all that the call answers or changes, and every input stands before it.
use Rattle.std.specs.Prelude.{ℕ, ◌≡◌, refl, Bool, List, length, Option}
use Rattle.std.proofs.Common.{sym, ◌∙◌}
use Rattle.descriptors.specs.Cells.{cells_now, put_start, put_record}
use Rattle.descriptors.specs.Stores.{hand_all}
use Rattle.descriptors.specs.Moves.{moved_in, head_moved}
use Rattle.descriptors.specs.Ring.{Ring, ring_of, head_of, kept_of, NewIn}
use Rattle.descriptors.specs.declared.record.DmaDescriptor.{DmaDescriptor}
use Rattle.descriptors.specs.declared.record.TransferDirection.{TransferDirection}
use Rattle.descriptors.specs.declared.ring.Head.{Head}
use Rattle.descriptors.specs.declared.ring.Kept.{Kept}
use Rattle.descriptors.specs.declared.walk.Moved.{Moved}
use Rattle.std.specs.Borrow.{Bor}
use Rattle.psram.specs.List.{Leaves, Listing}
use Rattle.psram.specs.declared.held.Listed.{Listed}
use Rattle.psram.specs.declared.held.Held.{Held}
use Rattle.psram.specs.Piece.{shown_of, place_of}
use Rattle.rx_stream.specs.Receive as rx
use Rattle.rx_stream.specs.Receive.{peek_of, peek_place, consume_of, pop_of, popped_over}
use Rattle.rx_stream.specs.Faces.{view_now}
use Rattle.rx_stream.specs.declared.Took.{Took}
use Rattle.rx_stream.specs.declared.view.DmaRxStreamBufView.{DmaRxStreamBufView}
use Rattle.tx_stream.specs.Transmit as tx
use Rattle.tx_stream.specs.Transmit.{prefill_of, prefill_into, prefill_offer_of, push_of, push_into, offer_of, advance_of, commit_of, prefill_commit_of}
use Rattle.descriptors.specs.Part.{part_from}
use Rattle.tx_stream.specs.Faces.{prefill_place, offer_place}
use Rattle.tx_stream.specs.Values.{buf_ring, view_ring, buf_by, view_by}
use Rattle.tx_stream.specs.declared.buf.DmaTxStreamBuf.{DmaTxStreamBuf}
use Rattle.tx_stream.specs.declared.view.DmaTxStreamBufView.{DmaTxStreamBufView}
use Rattle.device.specs.Device.{receive_of, receive_into, transmit_of, transmit_over}
use Rattle.device.specs.Values.{received_of, sent_of}
use Rattle.device.specs.Faces.{ReceivedIn, SentIn}
use Rattle.device.specs.declared.by_value.Step.{Step}
use Rattle.descriptors.specs.Refusal.{Answer}

-- no two differing outcomes satisfy the contract C
abbrev pub Determined : {A : Type 0} → (A → Type 0) → Type 0
Determined {A} C = (x y : A) → C x → C y → x ≡ y

-- THE LAW: what is equal to one thing is one thing
pub by-equation : {A : Type 0} (z : A) → Determined (λ (x : A). x ≡ z)
by-equation z x y e f = e ∙ sym f

-- an equation, and a fact besides: `size_of`, `length_of`, `span`
pub by-equation-and : {A : Type 0} (z : A) (P : A → Type 0) → Determined (λ (x : A). (x ≡ z) × P x)
by-equation-and z P x y e f = e.0 ∙ sym f.0

-- THE LAW of a contract that has an equation for each thing i that a call answers or changes, however many they are: every contract of
-- `capi`, `by_value` and `lent` that is not one equation
pub by-equations : {I : Type 0} {A : I → Type 0} (z : (i : I) → A i) → Determined (λ (x : (i : I) → A i). (i : I) → x i ≡ z i)
by-equations z x y e f = λ j i. (e i ∙ sym (f i)) j

-- of two things, of three and of four, as the contracts below have them
pub by_two : {A B : Type 0} (z : A) (w : B) → Determined (λ (x : A × B). (x.0 ≡ z) × (x.1 ≡ w))
by_two z w x y e f = rw (e.0, e.1, f.0, f.1) refl

pub by_three : {A B C : Type 0} (z : A) (w : B) (v : C) → Determined (λ (x : A × B × C). (x.0 ≡ z) × (x.1 ≡ w) × (x.2 ≡ v))
by_three z w v x y e f = rw (e.0, e.1, e.2, f.0, f.1, f.2) refl

pub by_four : {A B C D : Type 0} (z : A) (w : B) (v : C) (u : D) → Determined (λ (x : A × B × C × D). (x.0 ≡ z) × (x.1 ≡ w) × (x.2 ≡ v) × (x.3 ≡ u))
by_four z w v u x y e f = rw (e.0, e.1, e.2, e.3, f.0, f.1, f.2, f.3) refl

-- ---- descriptors

-- `set_descriptor`: the starts and the cells
pub set-descriptor : (st ws : List ℕ) (i : ℕ) (d : DmaDescriptor)
    → Determined (λ (x : List ℕ × List ℕ). (x.0 ≡ put_start st i d.buffer) × (x.1 ≡ put_record ws i d))
set-descriptor st ws i d = by_two (put_start st i d.buffer) (put_record ws i d)

-- `new_in`: the starts, the cells, the head and the answer
pub new_in : (dir : TransferDirection) (st ws : List ℕ) (n len : ℕ)
    → Determined (λ (x : List ℕ × List ℕ × Head × Answer Unit). NewIn dir st ws n len x.0 x.1 x.2 x.3)
new_in dir st ws n len x y e f =
    rw (e.starts, e.cells, e.head, e.answer, f.starts, f.cells, f.head, f.answer) refl

-- `advance`: the cells, the head and the answer
pub advance : (dir : TransferDirection) (ws : List ℕ) (h : Head) (k : ℕ) → let m = moved_in dir ws h k in
    Determined (λ (x : List ℕ × Head × Moved). (x.0 ≡ hand_all dir h.count m.back h.descriptor_idx ws) × (x.1 ≡ head_moved h k m) × (x.2 ≡ m))
advance dir ws h k = by_three _ _ _

-- ---- psram

-- `build_descriptor_list_for_psram`: the starts, the cells and the answer
pub build-list : (st ws : List ℕ) (l : Listing)
    → Determined (λ (x : List ℕ × List ℕ × Answer Listed). Leaves st ws x.0 x.1 x.2 l)
build-list st ws l x y e f = rw (e.0, e.1.0, e.1.1, f.0, f.1.0, f.1.1) refl

-- `piece`: its bytes, and where it begins in the one of the two lent slices that holds it
pub piece : (store range : Bor (List ℕ)) (h : Answer Held) → Determined (λ (x : List ℕ × (ℕ × ℕ)). (x.0 ≡ shown_of store.now range.now h) × (x.1 ≡ place_of store range h))
piece store range h = by_two _ _

-- ---- device

-- the receive step: the cells, the buffer, the device and the answer
pub receive-step : (st ws : List ℕ) (h : Head) (dev : Option ℕ) (bytes bs : List ℕ) (eof : Bool)
    → Determined (λ (x : List ℕ × List ℕ × Option ℕ × Answer Unit). ReceivedIn st ws h dev bytes bs eof x.0 x.1 x.2 x.3)
receive-step st ws h dev bytes bs eof x y e f =
    rw (e.cells, e.buffer, e.device, e.answer, f.cells, f.buffer, f.device, f.answer) refl

-- the transmit step: the cells, the output, the device and the answer
pub transmit-step : (st ws : List ℕ) (h : Head) (dev : Option ℕ) (bytes out : List ℕ)
    → Determined (λ (x : List ℕ × List ℕ × Option ℕ × Answer ℕ). SentIn st ws h dev bytes out x.0 x.1 x.2 x.3)
transmit-step st ws h dev bytes out x y e f =
    rw (e.cells, e.output, e.device, e.answer, f.cells, f.output, f.device, f.answer) refl

-- the steps by value: the ring with device and answer, and the bytes
pub receive-step-by-value : (v : DmaRxStreamBufView) (dev : Option ℕ) (bytes bs : List ℕ) (eof : Bool) → let r = ring_of v.starts v.cells v.head in
    Determined (λ (x : Step DmaRxStreamBufView Unit × List ℕ). (x.0 ≡ received_of v (receive_of r dev (length bytes) (length bs) eof)) × (x.1 ≡ receive_into r dev bytes bs))
receive-step-by-value v dev bytes bs eof = by_two _ _

pub transmit-step-by-value : (v : DmaTxStreamBufView) (dev : Option ℕ) (bytes out : List ℕ) → let r = ring_of v.starts v.cells v.head in
    Determined (λ (x : Step DmaTxStreamBufView ℕ × List ℕ). (x.0 ≡ sent_of v (transmit_of r dev (length bytes) (length out))) × (x.1 ≡ transmit_over r dev bytes out))
transmit-step-by-value v dev bytes out = by_two _ _

-- ---- rx_stream: in place the cells, the head and the answer; by value one equation, but for pop's destination

module _ (st ws : List ℕ) (h : Head) where
  abbrev ring : Ring
  ring = ring_of st ws h

  -- the words after a call that left a ring
  abbrev left : Ring → List ℕ
  left r = cells_now st ws r.descriptors

  pub rx-prepare-in : (len : ℕ) → let o = rx.prepare_of ring len in Determined (λ (x : List ℕ × Head × Answer Unit). (x.0 ≡ left o.ring) × (x.1 ≡ head_of o.ring) × (x.2 ≡ o.answer))
  rx-prepare-in len = by_three _ _ _

  pub consume-in : (len k : ℕ) → let o = consume_of ring len k in Determined (λ (x : List ℕ × Head × Answer Took). (x.0 ≡ left o.ring) × (x.1 ≡ head_of o.ring) × (x.2 ≡ o.answer))
  consume-in len k = by_three _ _ _

  pub pop-in : (bytes dst : List ℕ) → let o = pop_of ring (length bytes) (length dst) in
      Determined (λ (x : List ℕ × Head × List ℕ × Answer ℕ). (x.0 ≡ left o.ring) × (x.1 ≡ head_of o.ring) × (x.2 ≡ popped_over ring bytes dst) × (x.3 ≡ o.answer))
  pop-in bytes dst = by_four _ _ _ _

  -- a part to read: its bytes, and where it begins in the lent buffer b
  pub peek-in : (until_eof : Bool) (b : Bor (List ℕ)) → Determined (λ (x : List ℕ × (ℕ × ℕ)). (x.0 ≡ peek_of until_eof ring b.now) × (x.1 ≡ part_from b (peek_place ring b.now)))
  peek-in until_eof b = by_two _ _

  -- ---- tx_stream, in place

  pub prefill-in : (bytes bs : List ℕ) → let o = prefill_of ring (length bytes) (length bs) in
      Determined (λ (x : Head × Answer ℕ × List ℕ). (x.0 ≡ head_of o.ring) × (x.1 ≡ o.answer) × (x.2 ≡ prefill_into ring bytes bs))
  prefill-in bytes bs = by_three _ _ _

  pub prefill-commit-in : (len k : ℕ) → let o = prefill_commit_of ring len k in Determined (λ (x : Head × Answer ℕ). (x.0 ≡ head_of o.ring) × (x.1 ≡ o.answer))
  prefill-commit-in len k = by_two _ _

  pub tx-prepare-in : (len : ℕ) → let o = tx.prepare_of ring len in Determined (λ (x : List ℕ × Head × Answer Unit). (x.0 ≡ left o.ring) × (x.1 ≡ head_of o.ring) × (x.2 ≡ o.answer))
  tx-prepare-in len = by_three _ _ _

  pub push-in : (bytes bs : List ℕ) → let o = push_of ring (length bytes) (length bs) in
      Determined (λ (x : List ℕ × Head × Answer ℕ × List ℕ). (x.0 ≡ left o.ring) × (x.1 ≡ head_of o.ring) × (x.2 ≡ o.answer) × (x.3 ≡ push_into ring bytes bs))
  push-in bytes bs = by_four _ _ _ _

  pub commit-in : (len k : ℕ) → let o = commit_of ring len k in Determined (λ (x : List ℕ × Head × Answer ℕ). (x.0 ≡ left o.ring) × (x.1 ≡ head_of o.ring) × (x.2 ≡ o.answer))
  commit-in len k = by_three _ _ _

  pub advance-in : (len k : ℕ) → let o = advance_of ring len k in Determined (λ (x : List ℕ × Head × Answer ℕ). (x.0 ≡ left o.ring) × (x.1 ≡ head_of o.ring) × (x.2 ≡ o.answer))
  advance-in len k = by_three _ _ _

  -- an offered part: its bytes, and where it begins in the lent buffer b
  pub offer-in : (b : Bor (List ℕ)) → Determined (λ (x : List ℕ × (ℕ × ℕ)). (x.0 ≡ offer_of ring b.now) × (x.1 ≡ part_from b (offer_place ring b.now)))
  offer-in b = by_two _ _

  pub prefill-offer-in : (b : Bor (List ℕ)) → Determined (λ (x : List ℕ × (ℕ × ℕ)). (x.0 ≡ prefill_offer_of ring b.now) × (x.1 ≡ part_from b (prefill_place ring b.now)))
  prefill-offer-in b = by_two _ _

-- ---- by value: the ring with its answer, and the bytes written

pub pop : (v : DmaRxStreamBufView) (bytes dst : List ℕ) → let r = ring_of v.starts v.cells v.head in
    Determined (λ (x : Kept DmaRxStreamBufView ℕ × List ℕ). (x.0 ≡ kept_of (view_now v) (pop_of r (length bytes) (length dst))) × (x.1 ≡ popped_over r bytes dst))
pop v bytes dst = by_two _ _

pub prefill : (b : DmaTxStreamBuf) (bytes bs : List ℕ)
    → Determined (λ (x : Kept DmaTxStreamBuf ℕ × List ℕ). (x.0 ≡ kept_of (buf_by b) (prefill_of (buf_ring b) (length bytes) (length bs))) × (x.1 ≡ prefill_into (buf_ring b) bytes bs))
prefill b bytes bs = by_two _ _

pub push : (v : DmaTxStreamBufView) (bytes bs : List ℕ)
    → Determined (λ (x : Kept DmaTxStreamBufView ℕ × List ℕ). (x.0 ≡ kept_of (view_by v) (push_of (view_ring v) (length bytes) (length bs))) × (x.1 ≡ push_into (view_ring v) bytes bs))
push v bytes bs = by_two _ _
