-- DEMAND 3. "Take a ring built and prepared once (for transmit, with at least one byte prefilled), its bytes written only through its
-- calls, offered parts and steps. After that let the other firmware calls of its direction (no more prefilling) and device steps come in
-- any order, each call whole; a receive step fills 1 to size bytes." Each rule but `standing Out` is one that a public contract cites.
use mathlib.Core.{Path.◌≡◌, Logic.◌⊎◌, Logic.◌↔◌, Bool.Bool, Bool.true, Bool.cond}
use mathlib.Core.List.{List, [], ◌∷◌, ◌++◌, foldl, Memᴰ as Among}
use Rattle.std.specs.Prelude.{ℕ, zero, suc, ◌+◌, ◌-◌, ◌%◌, ◌^◌, min, ◌≤◌, ◌<◌, Option, None, Some, Ok, Err}
use lib.{Dec.eqb, ListN.length, ListN.take, ListN.drop, ListN.get_or, Seq.paste}
use Rattle.descriptors.specs.{Record.record_in, Record.is_cpu, Place.after, Walk.standing}
use Rattle.descriptors.specs.Ring.{Ring, Outcome, record_of, sound, new_of, between_of}
use Rattle.descriptors.specs.declared.record.{DmaDescriptor.DmaDescriptor, Owner.TheVariants.Dma}
use Rattle.descriptors.specs.declared.record.TransferDirection.{TransferDirection, TheVariants.In, TheVariants.Out}
use Rattle.descriptors.specs.declared.refusal.{DmaBufError.TheVariants.Stopped}
use Rattle.rx_stream.specs.declared.Took.{Took}
use Rattle.rx_stream.specs.Receive as rx
use Rattle.tx_stream.specs.Transmit as tx
use Rattle.descriptors.specs.Refusal.{Answer}
use Rattle.device.specs.Device.{Stepped, receive_of, receive_into, transmit_of, transmit_over}

-- THE WORLD: the ring, its lent buffer and the device; and the histories: the bytes that calls took (receive) or accepted (transmit),
-- those that device steps received or sent, and the records that the steps were on
pub record World : Type 0 where
  pub ring : Ring
  pub bytes : List ℕ
  pub device : Option ℕ
  pub by_calls : List ℕ
  pub by_steps : List ℕ
  pub visited : List ℕ

abbrev pub world : Ring → List ℕ → Option ℕ → List ℕ → List ℕ → List ℕ → World
world r b d c s v = record { ring = r; bytes = b; device = d; by_calls = c; by_steps = s; visited = v }

-- what an answer tells of the bytes l: as many as it says, and none if it is a refusal
abbrev pub told : Answer ℕ → List ℕ → List ℕ
told (Ok k) l = take k l
told (Err e) l = []

abbrev pub told_took : Answer Took → List ℕ → List ℕ
told_took (Ok x) l = take x.taken l
told_took (Err e) l = []

abbrev pub told_done : Answer Unit → List ℕ → List ℕ
told_done (Ok tt) l = l
told_done (Err e) l = []

-- the record that the device stands on, and that a step is on unless it is refused
abbrev pub stands_on : Option ℕ → List ℕ
stands_on None = []
stands_on (Some i) = i ∷ []

abbrev pub unless_refused : Answer ℕ → List ℕ → List ℕ
unless_refused (Ok k) l = l
unless_refused (Err e) l = []

-- a call leaves the buffer b, and takes or accepts of bs what its answer tells; a step receives or sends bs, on the record v
abbrev pub called : {A : Type 0} → (A → List ℕ → List ℕ) → World → Outcome A → List ℕ → List ℕ → World
called tells w o b bs = world o.ring b w.device (w.by_calls ++ tells o.answer bs) w.by_steps w.visited

abbrev pub stepped : {A : Type 0} → World → Stepped A → List ℕ → List ℕ → List ℕ → World
stepped w s b bs v = world s.ring b s.device w.by_calls (w.by_steps ++ bs) (w.visited ++ v)

-- v put at place p of an offered part of m bytes, which begins at place s of the buffer: as much of it as the part has room for
abbrev pub writes : World → ℕ → ℕ → ℕ → List ℕ → World
writes w s m p v = world w.ring (paste w.bytes (s + p) v (min (length v) (m - p))) w.device w.by_calls w.by_steps w.visited

abbrev pub run : {A : Type 0} → (World → A → World) → World → List A → World
run step w acts = foldl step w acts

-- THE START, "built and prepared once": any records were lent, and any bytes
abbrev pub built : TransferDirection → List DmaDescriptor → ℕ → List ℕ → World
built dir ds n bytes = world (new_of dir ds n (length bytes)).ring bytes (Some 0) [] [] []

abbrev pub prepared : (Ring → ℕ → Outcome (Answer Unit)) → World → World
prepared prepare w = world (prepare w.ring (length w.bytes)).ring w.bytes (Some 0) w.by_calls [] []

-- "with at least one byte prefilled": pushed, or written into the offered part and committed
pub data Prefill : Type 0 where
  pre_push : List ℕ → Prefill
  pre_write : ℕ → List ℕ → Prefill
  pre_commit : ℕ → Prefill

unfoldable pub prefill : World → Prefill → World
prefill w (pre_push bs) = called told w (tx.prefill_of w.ring (length w.bytes) (length bs)) (tx.prefill_into w.ring w.bytes bs) bs
prefill w (pre_write p v) = writes w w.ring.prefilled (length (tx.prefill_offer_of w.ring w.bytes)) p v
prefill w (pre_commit k) = called told w (tx.prefill_commit_of w.ring (length w.bytes) k) w.bytes (tx.prefill_offer_of w.ring w.bytes)

-- THE ACTIONS, "the other firmware calls of its direction (no more prefilling) and device steps", with any argument; first the looks
pub data Look : Type 0 where
  available tally peek peek_refusal peek_until_eof peek_until_eof_ended offer offer_refusal : Look

pub data RxAction : Type 0 where
  rx_look : Look → RxAction
  consume : ℕ → RxAction
  pop : List ℕ → RxAction
  fill : List ℕ → Bool → RxAction

-- A look changes nothing, and neither does a refused action, by the rules. Consume takes the bytes that stand there, pop what it puts to
-- its destination's front; the device fills a record with bs.
unfoldable pub rx_step : World → RxAction → World
rx_step w (rx_look l) = w
rx_step w (consume k) = called told_took w (rx.consume_of w.ring (length w.bytes) k) w.bytes (standing In w.ring w.bytes)
rx_step w (pop dst) = called told w (rx.pop_of w.ring (length w.bytes) (length dst)) w.bytes (rx.popped_over w.ring w.bytes dst)
rx_step w (fill bs eof) =
    let s = receive_of w.ring w.device (length w.bytes) (length bs) eof in
    stepped w s (receive_into w.ring w.device w.bytes bs) (told_done s.answer bs) (told_done s.answer (stands_on w.device))

pub data TxAction : Type 0 where
  tx_look : Look → TxAction
  push : List ℕ → TxAction
  advance commit : ℕ → TxAction
  write : ℕ → List ℕ → TxAction
  send : List ℕ → TxAction

-- Push accepts of its data, advance and commit of what stands there (tx_meaning's advance-law, commit-law); send is told the output.
unfoldable pub tx_step : World → TxAction → World
tx_step w (tx_look l) = w
tx_step w (push bs) = called told w (tx.push_of w.ring (length w.bytes) (length bs)) (tx.push_into w.ring w.bytes bs) bs
tx_step w (advance k) = called told w (tx.advance_of w.ring (length w.bytes) k) w.bytes (standing Out w.ring w.bytes)
tx_step w (commit k) = called told w (tx.commit_of w.ring (length w.bytes) k) w.bytes (standing Out w.ring w.bytes)
tx_step w (write p v) = writes w (tx.write_at w.ring) (length (tx.offer_of w.ring w.bytes)) p v
tx_step w (send out) =
    let s = transmit_of w.ring w.device (length w.bytes) (length out) in
    stepped w s w.bytes (told s.answer (transmit_over w.ring w.device w.bytes out)) (unless_refused s.answer (stands_on w.device))

-- "Then both ends agree", whatever was done. First what holds of both directions alike.
pub record Agrees {A : Type 0} (dir : TransferDirection) (step : World → A → World) (n : ℕ) (w : World) : Type 0 where
  -- "later steps .. add nothing"
  pub halted : w.device ≡ None → (more : List A) → ((run step w more).device ≡ None) × ((run step w more).by_steps ≡ w.by_steps)
  -- no record is skipped: the k-th step of the ring's life was on record k mod n
  pub order : (k : ℕ) → k < length w.visited → get_or w.visited k 0 ≡ k % n
  -- every call finds a sound ring, and a step the device on one of its records: refusal 5 comes for an output that is too short alone
  pub fit : sound dir w.ring (length w.bytes) ≡ true
  pub stood : (i : ℕ) → w.device ≡ Some i → i < n
  -- the "32-bit tally of bytes taken (receive) or accepted (transmit)": two readings differ by the bytes between them
  pub counts : w.ring.tally ≡ length w.by_calls % 2 ^ 32
  pub between : (more : List A) → length (run step w more).by_calls - length w.by_calls < 2 ^ 32
      → between_of w.ring.tally (run step w more).ring.tally ≡ length (run step w more).by_calls - length w.by_calls

-- "the records its links reach": the one that it stands on, its next, and so on; k of them at most
unfoldable pub reached : Ring → ℕ → Option ℕ → List ℕ
reached r zero x = []
reached r (suc k) None = []
reached r (suc k) (Some i) = i ∷ reached r k (record_of r i).next

-- the unread bytes that record j holds: those of a CPU-owned record, at the cursor less the offset
unfoldable pub unread_at : World → ℕ → List ℕ
unread_at w j =
    let d : DmaDescriptor = record_of w.ring j in
    cond (is_cpu d.owner) (drop (cond (eqb j w.ring.idx) w.ring.offset 0) (take d.length (drop d.buffer w.bytes))) []

-- the records filled by `more`, in order
abbrev pub fills : World → List RxAction → List ℕ
fills w more = drop (length w.visited) (run rx_step w more).visited

pub record Receive (n : ℕ) (w : World) : Type 0 where
  pub both : Agrees In rx_step n w
  -- "bytes received are bytes taken followed by bytes unread": `available_bytes` counts those, and peek shows the first, one at least
  pub ends : w.by_steps ≡ w.by_calls ++ standing In w.ring w.bytes
  pub unread : rx.available_of w.ring (length w.bytes) ≡ Ok (length (standing In w.ring w.bytes))
  pub shown : (u : Bool) → rx.peek_of u w.ring w.bytes ≡ take (length (rx.peek_of u w.ring w.bytes)) (standing In w.ring w.bytes)
  pub shows : (u : Bool) → 0 < length (standing In w.ring w.bytes) → 0 < length (rx.peek_of u w.ring w.bytes)
  -- "until the device stops, the records its links reach are exactly those holding no unread byte"
  pub reach : (i : ℕ) → w.device ≡ Some i → (j : ℕ) → Among j (reached w.ring n w.device) ↔ ((j < n) × (unread_at w j ≡ []))
  -- "a record given back is filled within as many fills as there are records": one that the DMA owns, and no stop comes before
  pub soon : (i : ℕ) → w.device ≡ Some i → (j : ℕ) → j < n → (record_of w.ring j).owner ≡ Dma → (more : List RxAction)
      → (n ≤ length (fills w more)) ⊎ ((run rx_step w more).device ≡ None) → Among j (take n (fills w more))
  -- "it stops exactly when it closes a record and every record then holds unread bytes; later steps are refused"
  pub stop : (i : ℕ) → w.device ≡ Some i → (a : RxAction)
      → ((rx_step w a).device ≡ None) ↔ (((rx_step w a).visited ≡ w.visited ++ (i ∷ [])) × ((j : ℕ) → j < n → 0 < length (unread_at (rx_step w a) j)))
  pub refused : w.device ≡ None → (bs : List ℕ) (eof : Bool) → (receive_of w.ring w.device (length w.bytes) (length bs) eof).answer ≡ Err Stopped

-- "Queued" is the DMA-owned records' bytes, in ring order after the CPU run; "pending" is the offset's bytes at the cursor.
unfoldable pub dma_data : (ℕ → DmaDescriptor) → List ℕ → ℕ → ℕ → ℕ → List ℕ
dma_data f bytes n zero i = []
dma_data f bytes n (suc k) i = cond (is_cpu (f i).owner) [] (take (f i).length (drop (f i).buffer bytes)) ++ dma_data f bytes n k (after n i)

unfoldable pub queued_in : Ring → List ℕ → List ℕ
queued_in r bytes = dma_data (record_in r.descriptors) bytes r.count r.count r.idx

unfoldable pub pending_in : Ring → List ℕ → List ℕ
pending_in r bytes = take r.offset (drop (record_of r r.idx).buffer bytes)

pub record Transmit (n : ℕ) (w : World) : Type 0 where
  pub both : Agrees Out tx_step n w
  -- "bytes accepted for sending are those sent, queued and pending, in order"
  pub ends : w.by_calls ≡ w.by_steps ++ (queued_in w.ring w.bytes ++ pending_in w.ring w.bytes)
  -- the device stops exactly when nothing is queued after its step; "later steps are refused"
  pub stop : (i : ℕ) → w.device ≡ Some i → (a : TxAction) → ((tx_step w a).device ≡ None) ↔ (queued_in (tx_step w a).ring (tx_step w a).bytes ≡ [])
  pub refused : w.device ≡ None → (out : List ℕ) → (transmit_of w.ring w.device (length w.bytes) (length out)).answer ≡ Err Stopped

-- THE DEMAND: nothing more is asked of the lent records, the buffer and n than that `new` accepted
pub record Demand3 : Type 0 where
  pub receive : (ds : List DmaDescriptor) (n : ℕ) (bytes : List ℕ) → (new_of In ds n (length bytes)).answer ≡ Ok tt → (acts : List RxAction)
      → Receive n (run rx_step (prepared rx.prepare_of (built In ds n bytes)) acts)
  pub transmit : (ds : List DmaDescriptor) (n : ℕ) (bytes : List ℕ) → (new_of Out ds n (length bytes)).answer ≡ Ok tt → (before : List Prefill)
      → 0 < length (run prefill (built Out ds n bytes) before).by_calls → (acts : List TxAction)
      → Transmit n (run tx_step (prepared tx.prepare_of (run prefill (built Out ds n bytes) before)) acts)
