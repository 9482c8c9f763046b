-- Whatever calls and steps come, in any order: the invariant of transmit, kept by each.
use Rattle.std.specs.Prelude.{◌≡◌, Bool, true, false, cond, leb, length, drop, Ok, Err, Some, None, Option}
use Rattle.std.proofs.Math.Path.{refl, ap, subst}
use Rattle.std.proofs.Common.{sym, ◌∙◌, inl, inr, arith, leb-true, length-append, length-take, length-drop, length-take-le, take_at, take-take}
use mathlib.Core.List.{List, [], ◌∷◌, ◌++◌, append_assoc, append-nil, map, map-map, map-append}
use Prim.Native.Nat.{ℕ, zero, suc, ◌+◌, ◌%◌, ◌^◌, ◌≤◌, ◌<◌}
use Rattle.std.proofs.Math.Decide.{ℕ_discrete}
use Rattle.std.proofs.Math.ListN.{take}
use Rattle.std.proofs.lemmas.List.{length-map}
use Rattle.std.proofs.Math.Seq.{paste}
use Rattle.descriptors.specs.Record.{record_in, update, sent}
use Rattle.descriptors.specs.Place.{after}
use Rattle.descriptors.specs.Ring.{Ring, Outcome, refused, record_of, with_records, sound}
use Rattle.descriptors.specs.Walk.{available_in, standing, advanced}
use Rattle.descriptors.specs.declared.record.DmaDescriptor.{DmaDescriptor}
use Rattle.descriptors.specs.declared.record.TransferDirection.TheVariants.{Out}
use Rattle.descriptors.specs.declared.refusal.DmaBufError.{DmaBufError}
use Rattle.descriptors.specs.declared.refusal.DmaBufError.TheVariants.{TooMuch, BadState, Stopped}
use Rattle.ring_order.specs.Lists.{Somes, somes-append, somes-first}
use Rattle.ring_order.specs.Geometry.{within}
use Rattle.ring_order.specs.Shape.{Sound, sound-of}
use Rattle.descriptors.specs.laws.Updates.{update_same, update_other}
use Rattle.ring_order.specs.Stores.{shape-update}
use Rattle.ring_order.specs.Tests.{dma-test}
use Rattle.ring_order.specs.View.{Cell, cell_with, cell_in, held_by, round, view, hand_c, own}
use Rattle.ring_order.specs.Queue.{idxs, owners, loads, join, bares, same-bare, first, Cpus, Linked, Inside, Stored, ground, exact}
use Rattle.ring_order.specs.Give.{available-run}
use Rattle.ring_order.specs.Skeleton.{Move, steps, gives}
use Rattle.ring_order.specs.Order.{Stands, Order, order-sound, order-gives, order-give, head_at, head-stored, head-next, order-step, first-none}
use Rattle.ring_order.specs.Places.{turn}
use Rattle.device.specs.Device.{Stepped, transmit_of, transmit_over}
use Rattle.tx_stream.specs.Transmit.{write_at, offered, offer_of, push_of, push_into, accepted_up_to, advance_of, commit_of}
use Rattle.both_ends.specs.Demand3.{World, told, stands_on, unless_refused, called, stepped, writes, TxAction, tx_look, push, advance, commit, write, send, tx_step, queued_in, pending_in}
use Rattle.both_ends.proofs.Shared.{with_bytes, alone}
use Rattle.both_ends.proofs.transmit.Prefilling.{counts-more, part-written}
use Rattle.both_ends.proofs.transmit.Bytes.{sends, sends-append, sends-cpus, queued-is}
use Rattle.both_ends.proofs.transmit.Accepting.{advanced-count, advanced-tally, advanced-outgoing}
use Rattle.both_ends.proofs.transmit.Calls.{Kept, accepted-up-to, offer-kept, many, push-is, push_kept, push-stands}
use Rattle.descriptors.specs.Refusal.{Answer}
use Rattle.both_ends.specs.transmit.Sending.{send-stopped, send-on, over-on}

-- ---- the invariant: the queue is in order, and each of its records has bytes

pub record Fine (n q : ℕ) (w : World) : Type 0 where
  pub front : List Cell
  pub queue : List Cell
  pub order : Order Out (length w.bytes) w.ring w.bytes w.device (length w.visited) front queue
  pub size : length queue ≡ q
  pub count : w.ring.count ≡ n
  pub somes : Somes (loads queue)
  pub ends : w.by_calls ≡ w.by_steps ++ (queued_in w.ring w.bytes ++ pending_in w.ring w.bytes)
  pub counts : w.ring.tally ≡ length w.by_calls % 2 ^ 32

pub fine-passes : (n q : ℕ) (w : World) → Fine n q w → sound Out w.ring (length w.bytes) ≡ true
fine-passes n q w g = order-sound Out (length w.bytes) w.ring w.bytes w.device (length w.visited) g.front g.queue g.order

pub fine-sound : (n q : ℕ) (w : World) → Fine n q w → Sound Out w.ring (length w.bytes)
fine-sound n q w g = sound-of Out w.ring (length w.bytes) (fine-passes n q w g)

-- ---- what is queued, by the queue

sends-linked : (ys : List Cell) → Linked ys → sends ys ≡ join (loads ys)
sends-linked [] l = refl
sends-linked (y ∷ ys) l =
    ap (λ (t : Bool). cond t [] (take y.desc.length y.held) ++ sends ys) (dma-test y.desc.owner l.0) ∙ ap (λ (r : List ℕ). take y.desc.length y.held ++ r) (sends-linked ys l.2)

pub order-queued : (r : Ring) (b : List ℕ) (dev : Option ℕ) (t : ℕ) (run rest : List Cell) → Order Out (length b) r b dev t run rest → queued_in r b ≡ join (loads rest)
order-queued r b dev t run rest o =
    let p = o.parted in
    queued-is r b (sound-of Out r (length b) (order-sound Out (length b) r b dev t run rest o))
    ∙ ap sends p.seen
    ∙ sends-append run rest
    ∙ ap (λ (l : List ℕ). l ++ sends rest) (sends-cpus run p.cpus)
    ∙ sends-linked rest p.linked

-- ---- bytes written, and nothing else

abbrev rebuffer : List ℕ → Cell → Cell
rebuffer b x = cell_with Out b x.idx x.desc

module _ (n len : ℕ) (ds : List DmaDescriptor) (b b' : List ℕ) (c : ℕ) (s : Stored n len ds b c) (w : length b' ≡ len) where
  round-rebuffer : (k i : ℕ) → round (cell_in Out ds b') n k i ≡ map (rebuffer b') (round (cell_in Out ds b) n k i)
  unfolding round
  round-rebuffer zero i = refl
  round-rebuffer (suc k) i = ap (λ (l : List Cell). cell_in Out ds b' i ∷ l) (round-rebuffer k (after n i))

  idxs-rebuffer : (xs : List Cell) → idxs (map (rebuffer b') xs) ≡ idxs xs
  idxs-rebuffer xs = map-map (λ (x : Cell). x.idx) (rebuffer b') xs

  owners-rebuffer : (xs : List Cell) → owners (map (rebuffer b') xs) ≡ owners xs
  owners-rebuffer xs = map-map (λ (x : Cell). x.desc.owner) (rebuffer b') xs

  linked-rebuffer : (xs : List Cell) → Linked xs → Linked (map (rebuffer b') xs)
  linked-rebuffer [] l = tt
  linked-rebuffer (x ∷ xs) l = (l.0, l.1 ∙ ap first (sym (idxs-rebuffer xs)), linked-rebuffer xs l.2)

  -- a cell over the other buffer has as many bytes
  held-rebuffer : (p q : List Cell) (x : Cell) → view Out n ds b c ≡ p ++ x ∷ q → length (rebuffer b' x).held ≡ length x.held
  held-rebuffer p q x v =
      let e : x ≡ cell_in Out ds b x.idx = (own Out n ds b c s.cursor p q x v).1 in
      let d : x.held ≡ held_by Out b x.desc = ap (λ (y : Cell). y.held) e ∙ ap (λ (y : Cell). held_by Out b y.desc) (sym e) in
      rw (d, length-take, length-drop, length-take, length-drop, w, s.whole)

  inside-rebuffer : (o : ℕ) (xs q : List Cell) → view Out n ds b c ≡ xs ++ q → Inside o xs → Inside o (map (rebuffer b') xs)
  inside-rebuffer o [] q v h = h
  inside-rebuffer o (x ∷ xs) q v (inl e) = inl e
  inside-rebuffer o (x ∷ xs) q v (inr h) = inr (omega (arith, held-rebuffer [] (xs ++ q) x v))

  somes-rebuffer : (p xs : List Cell) → view Out n ds b c ≡ p ++ xs → Somes (loads xs) → Somes (loads (map (rebuffer b') xs))
  somes-rebuffer p [] v h = tt
  somes-rebuffer p (x ∷ xs) v h = (
    rw length-take (omega (arith, h.0, length-take x.desc.length x.held, held-rebuffer p xs x v)),
    somes-rebuffer (p ++ (x ∷ [])) xs (v ∙ sym (append_assoc p (x ∷ []) xs)) h.1,
  )

written-fine : (n q : ℕ) (w : World) (b' : List ℕ) (g : Fine n q w) → Kept w.ring w.bytes b'
    → Fine n q (with_bytes w b')
written-fine n q w b' g k =
    let r : Ring = w.ring in
    let b : List ℕ = w.bytes in
    let o = g.order in
    let s = o.parted.stored in
    let e : length b' ≡ length b = k.whole in
    record {
      front = map (rebuffer b') g.front;
      queue = map (rebuffer b') g.queue;
      order = rw e record {
        prefilled = o.prefilled;
        parted = record {
          stored = record { shape = s.shape; whole = e; cursor = s.cursor };
          seen =
              round-rebuffer r.count (length b) r.descriptors b b' r.idx s e r.count r.idx
              ∙ ap (map (rebuffer b')) o.parted.seen
              ∙ map-append (rebuffer b') g.front g.queue;
          cpus = subst Cpus (sym (owners-rebuffer r.count (length b) r.descriptors b b' r.idx s e g.front)) o.parted.cpus;
          linked = linked-rebuffer r.count (length b) r.descriptors b b' r.idx s e g.queue o.parted.linked;
          offset = inside-rebuffer r.count (length b) r.descriptors b b' r.idx s e r.offset g.front g.queue o.parted.seen o.parted.offset;
        };
        stands = subst (Stands w.device) (sym (idxs-rebuffer r.count (length b) r.descriptors b b' r.idx s e g.queue)) o.stands;
        turned = rw (length-map g.front (rebuffer b')) o.turned;
      };
      size = length-map g.queue (rebuffer b') ∙ g.size;
      count = g.count;
      somes = somes-rebuffer r.count (length b) r.descriptors b b' r.idx s e g.front g.queue o.parted.seen g.somes;
      ends = g.ends ∙ ap (λ (l : List ℕ). w.by_steps ++ (l ++ pending_in r b)) (sym k.queued) ∙ ap (λ (l : List ℕ). w.by_steps ++ (queued_in r b' ++ l)) (sym k.pending);
      counts = g.counts;
    }

-- ---- bytes accepted

-- what a record sends once it is handed over
abbrev handed_load : List ℕ → Cell → List ℕ
handed_load b x = take x.desc.size (held_by Out b x.desc)

module _ (n len : ℕ) (ds : List DmaDescriptor) (b : List ℕ) (c : ℕ) (s : Stored n len ds b c) where
  somes-handed : (p xs q : List Cell) → view Out n ds b c ≡ p ++ (xs ++ q) → Somes (map (handed_load b) xs)
  somes-handed p [] q v = tt
  somes-handed p (x ∷ xs) q v =
      let (h, e) = own Out n ds b c s.cursor p (xs ++ q) x v in
      let d : x.held ≡ held_by Out b x.desc = ap (λ (y : Cell). y.held) e ∙ ap (λ (y : Cell). held_by Out b y.desc) (sym e) in
      let z : x.desc.size ≡ (record_in ds x.idx).size = ap (λ (y : Cell). y.desc.size) e in
      let l : length (held_by Out b x.desc) ≡ x.desc.size = ap length (sym d) ∙ exact Out n len ds b c s p (xs ++ q) x v in (
        rw length-take (omega (arith, s.shape.laid.room x.idx h, (ground Out n len ds b c s).some x.idx h)),
        somes-handed (p ++ (x ∷ [])) xs q (v ∙ sym (append_assoc p (x ∷ []) (xs ++ q))),
      )

loads-handed : (b : List ℕ) (xs : List Cell) → loads (map (hand_c Out b) xs) ≡ map (handed_load b) xs
loads-handed b xs = map-map (λ (x : Cell). take x.desc.length x.held) (hand_c Out b) xs

-- of a walk that used up the front of the run
somes-walked : (n len : ℕ) (ds : List DmaDescriptor) (b : List ℕ) (c : ℕ) → Stored n len ds b c → (run rest used run' : List Cell) → view Out n ds b c ≡ run ++ rest → bares run ≡ bares (used ++ run')
    → Somes (loads (map (hand_c Out b) used))
somes-walked n len ds b c s run rest used run' v e =
    rw loads-handed
    (somes-first (map (handed_load b) used) (map (handed_load b) run')
    (subst Somes (same-bare (handed_load b) (λ x. refl) run (used ++ run') e ∙ map-append (handed_load b) used run') (somes-handed n len ds b c s [] run rest v)))

pub record Grown (n q : ℕ) (w : World) : Type 0 where
  pub more : ℕ
  pub fine : Fine n more w
  pub least : q ≤ more

accept-fine : (n q : ℕ) (w : World) (g : Fine n q w) (k : ℕ) → k ≤ available_in Out w.ring → (bs : List ℕ) → take k bs ≡ take k (standing Out w.ring w.bytes)
    → Grown n q (called told w record { ring = advanced Out w.ring k; answer = Ok k } w.bytes bs)
accept-fine n q w g k h bs e =
    let r : Ring = w.ring in
    let b : List ℕ = w.bytes in
    let s : Sound Out r (length b) = fine-sound n q w g in
    let o = g.order in
    let d = order-gives Out (length b) r b w.device (length w.visited) g.front g.queue o k in
    let l : length (take k bs) ≡ k = ap length e ∙ length-take-le k (standing Out r b) (omega (arith, available-run Out (length b) r b g.front g.queue o.parted)) in
    record {
      more = length d.rest';
      fine = record {
        front = d.run';
        queue = d.rest';
        order = order-give Out (length b) r b w.device (length w.visited) g.front g.queue o k d;
        size = refl;
        count = advanced-count r k ∙ g.count;
        somes = rw d.loaded
            (somes-append (loads g.queue) (loads (map (hand_c Out b) d.used)) g.somes
            (somes-walked r.count (length b) r.descriptors b r.idx o.parted.stored g.front g.queue d.used d.run' o.parted.seen d.parts));
        ends =
            ap (λ (a : List ℕ). a ++ take k bs) g.ends
            ∙ append_assoc w.by_steps (queued_in r b ++ pending_in r b) (take k bs)
            ∙ ap (λ (a : List ℕ). w.by_steps ++ a) (ap (λ (a : List ℕ). (queued_in r b ++ pending_in r b) ++ a) e ∙ sym (advanced-outgoing r b s k h));
        counts = advanced-tally r b s k h ∙ counts-more r.tally k w.by_calls (take k bs) g.counts l;
      };
      least =
          let z : length d.rest' ≡ length g.queue + length d.used =
          sym (length-map d.rest' (λ (x : Cell). x.idx)) ∙ ap length d.grows ∙ length-append (idxs g.queue) (idxs d.used) ∙ ap (λ (m : ℕ). m + length (idxs d.used)) (length-map g.queue (λ (x : Cell). x.idx)) ∙ ap (λ (m : ℕ). length g.queue + m) (length-map d.used (λ (x : Cell). x.idx)) in
          omega (arith, g.size);
    }

-- ---- the calls

-- a call or a step that is refused
refused-fine : (n q : ℕ) (w : World) (bs : List ℕ) (e : DmaBufError) → Fine n q w → Fine n q (called told w (refused w.ring (Err e)) w.bytes bs)
refused-fine n q w bs e g =
    record {
      front = g.front;
      queue = g.queue;
      order = g.order;
      size = g.size;
      count = g.count;
      somes = g.somes;
      ends = append-nil w.by_calls ∙ g.ends;
      counts = rw (append-nil w.by_calls) g.counts;
    }

same : (n q : ℕ) (w : World) → Fine n q w → Grown n q w
same n q w g = record { more = q; fine = g; least = omega arith }

push-fine : (n q : ℕ) (w : World) (bs : List ℕ) → Fine n q w → Grown n q (called told w (push_of w.ring (length w.bytes) (length bs)) (push_into w.ring w.bytes bs) bs)
push-fine n q w bs g =
    let r : Ring = w.ring in
    let b : List ℕ = w.bytes in
    let s : Sound Out r (length b) = fine-sound n q w g in
    subst (λ (o : Outcome (Answer ℕ)). Grown n q (called told w o (push_into r b bs) bs)) (sym (push-is r b s bs))
    (accept-fine n q (with_bytes w (push_into r b bs))
    (written-fine n q w (push_into r b bs) g (push_kept r b s bs)) (many r b s bs) (omega arith) bs (sym (push-stands r b s bs)))

accept-told : (n q : ℕ) (w : World) (g : Fine n q w) (bound k : ℕ) → bound ≤ available_in Out w.ring → (t : Bool) → leb k bound ≡ t
    → Grown n q (called told w (cond t record { ring = advanced Out w.ring k; answer = Ok k } (refused w.ring (Err TooMuch))) w.bytes (standing Out w.ring w.bytes))
accept-told n q w g bound k h true e = accept-fine n q w g k (omega (arith, leb-true k bound e)) (standing Out w.ring w.bytes) refl
accept-told n q w g bound k h false e =
    same n q (called told w (refused w.ring (Err TooMuch)) w.bytes (standing Out w.ring w.bytes)) (refused-fine n q w (standing Out w.ring w.bytes) TooMuch g)

up-to-fine : (n q : ℕ) (w : World) (bound k : ℕ) → Fine n q w → bound ≤ available_in Out w.ring
    → Grown n q (called told w (accepted_up_to bound w.ring (length w.bytes) k) w.bytes (standing Out w.ring w.bytes))
up-to-fine n q w bound k g h =
    subst (λ (o : Outcome (Answer ℕ)). Grown n q (called told w o w.bytes (standing Out w.ring w.bytes))) (sym (accepted-up-to w.ring w.bytes (fine-sound n q w g) bound k (leb k bound) refl))
    (accept-told n q w g bound k h (leb k bound) refl)

write-fine : (n q : ℕ) (w : World) (p : ℕ) (v : List ℕ) → Fine n q w → Fine n q (writes w (write_at w.ring) (length (offer_of w.ring w.bytes)) p v)
write-fine n q w p v g =
    part-written w.bytes (write_at w.ring) (length (offer_of w.ring w.bytes)) p v
    (λ (b : List ℕ). Fine n q (with_bytes w b)) g
    (λ u h. written-fine n q w (paste w.bytes (write_at w.ring + p) u (length u)) g (offer-kept w.ring w.bytes (fine-sound n q w g) p u h))

-- ---- the device's step

-- a step that leaves `out` in its output
abbrev pub sends_by : World → Stepped (Answer ℕ) → List ℕ → World
sends_by w s out = stepped w s w.bytes (told s.answer out) (unless_refused s.answer (stands_on w.device))

sent-buffer : (ds : List DmaDescriptor) (i j : ℕ) → i < length ds → Dec (j ≡ i) → (record_in (update ds i sent) j).buffer ≡ (record_in ds j).buffer
sent-buffer ds i j h (yes e) = rw e (ap (λ (d : DmaDescriptor). d.buffer) (update_same ds i sent h))
sent-buffer ds i j h (no e) = ap (λ (d : DmaDescriptor). d.buffer) (update_other ds i j sent e)

send-ends : (S H Q P : List ℕ) → S ++ ((H ++ Q) ++ P) ≡ (S ++ H) ++ (Q ++ P)
send-ends S H Q P = simp append_assoc

module _ (n : ℕ) (w : World) (front : List Cell) (x : Cell) (behind : List Cell)
    (o : Order Out (length w.bytes) w.ring w.bytes w.device (length w.visited) front (x ∷ behind)) where
  abbrev after-send : List DmaDescriptor
  after-send = update w.ring.descriptors x.idx sent

  abbrev head-record : DmaDescriptor
  head-record = record_of w.ring x.idx

  here : (x.idx < w.ring.count) × (x ≡ cell_in Out w.ring.descriptors w.bytes x.idx)
  here = head-stored Out (length w.bytes) w.ring w.bytes w.device (length w.visited) front x behind o

  listed : x.idx < length w.ring.descriptors
  listed = omega (arith, here.0, o.parted.stored.shape.laid.enough)

  send-order : Order Out (length w.bytes) (with_records w.ring after-send) w.bytes head-record.next (suc (length w.visited)) (front ++ (cell_in Out after-send w.bytes x.idx ∷ [])) behind
  send-order =
      let s = o.parted.stored in
      order-step Out (length w.bytes) w.ring w.bytes w.device (length w.visited) front x behind o after-send w.bytes (cell_in Out after-send w.bytes x.idx)
      (shape-update w.ring.count (length w.bytes) w.ring.descriptors x.idx sent s.shape here.0
      record { start = refl; room = refl; length = s.shape.lengths x.idx here.0; next = s.shape.nexts x.idx here.0 })
      s.whole
      (λ j h ne. ap (cell_with Out w.bytes j) (update_other w.ring.descriptors x.idx j sent ne))
      refl
      (ap (λ (d : DmaDescriptor). d.owner) (update_same w.ring.descriptors x.idx sent listed))

  -- the bytes that it puts at its output's front are those of the queue's first
  send-bytes : (out : List ℕ) → take head-record.length (take head-record.length (drop head-record.buffer w.bytes) ++ drop head-record.length out) ≡ take x.desc.length x.held
  send-bytes out =
      let d : DmaDescriptor = head-record in
      let b : List ℕ = w.bytes in
      let s = o.parted.stored in
      let i : ℕ = x.idx in
      let G = ground Out w.ring.count (length b) w.ring.descriptors b w.ring.idx s in
      let l : d.length ≤ d.size = s.shape.lengths i here.0 in
      let e : length (take d.length (drop d.buffer b)) ≡ d.length =
      simp (length-take, length-drop) (omega (arith, s.shape.laid.start i here.0, s.shape.laid.room i here.0, within w.ring.count (length b) G i here.0)) in
      take_at (take d.length (drop d.buffer b)) (drop d.length out) d.length e
      ∙ sym (take-take d.length d.size (drop d.buffer b) l)
      ∙ ap (λ (y : Cell). take y.desc.length y.held) (sym here.1)

  module _ (left : List ℕ) (put : take head-record.length left ≡ take x.desc.length x.held) (on : w.device ≡ Some x.idx) where
    abbrev afterwards : World
    afterwards = sends_by w record { ring = with_records w.ring after-send; device = head-record.next; answer = Ok head-record.length } left

    emptied-then : w.visited ++ stands_on w.device ≡ w.visited ++ (x.idx ∷ [])
    emptied-then = ap (λ (d : Option ℕ). w.visited ++ stands_on d) on

    emptied-more : suc (length w.visited) ≡ length (w.visited ++ stands_on w.device)
    emptied-more =
        let z : suc (length w.visited) ≡ length w.visited + 1 = omega arith in
        z ∙ sym (length-append w.visited (x.idx ∷ [])) ∙ ap length (sym emptied-then)

    sent-fine : w.ring.count ≡ n → Somes (loads (x ∷ behind)) → w.by_calls ≡ w.by_steps ++ (queued_in w.ring w.bytes ++ pending_in w.ring w.bytes) → w.ring.tally ≡ length w.by_calls % 2 ^ 32
        → Fine n (length behind) afterwards
    unfolding pending_in
    sent-fine c m e t =
        let r : Ring = w.ring in
        let b : List ℕ = w.bytes in
        let H : List ℕ = take x.desc.length x.held in
        let Q : List ℕ = join (loads behind) in
        let P : List ℕ = pending_in r b in
        record {
          front = front ++ (cell_in Out after-send b x.idx ∷ []);
          queue = behind;
          order = subst (λ (k : ℕ). Order Out (length b) (with_records r after-send) b head-record.next k (front ++ (cell_in Out after-send b x.idx ∷ [])) behind) emptied-more send-order;
          size = refl;
          count = c;
          somes = m.1;
          ends =
              e
              ∙ ap (λ (l : List ℕ). w.by_steps ++ (l ++ P)) (order-queued r b w.device (length w.visited) front (x ∷ behind) o)
              ∙ send-ends w.by_steps H Q P
              ∙ ap (λ (l : List ℕ). (w.by_steps ++ l) ++ (Q ++ P)) (sym put)
              ∙ ap (λ (l : List ℕ). (w.by_steps ++ take head-record.length left) ++ (l ++ P))
              (sym (order-queued (with_records r after-send) b head-record.next (suc (length w.visited)) (front ++ (cell_in Out after-send b x.idx ∷ [])) behind send-order))
              ∙ ap (λ (k : ℕ). (w.by_steps ++ take head-record.length left) ++ (queued_in (with_records r after-send) b ++ take r.offset (drop k b)))
              (sym (sent-buffer r.descriptors x.idx r.idx listed (ℕ_discrete r.idx x.idx)));
          counts = t;
        }

-- ---- every action keeps the invariant, and is one of the two moves

pub record Made (n q : ℕ) (w w' : World) : Type 0 where
  pub more : ℕ
  pub fine : Fine n more w'
  pub move : Move n q w.device w.visited more w'.device w'.visited

idle : (n q : ℕ) (w : World) → Fine n q w → Made n q w w
idle n q w g = record { more = q; fine = g; move = gives refl (omega arith) refl }

-- a call moves neither the device nor its history
call-made : (n q : ℕ) (w w' : World) → Grown n q w' → w'.device ≡ w.device → w'.visited ≡ w.visited → Made n q w w'
call-made n q w w' m d e = record { more = m.more; fine = m.fine; move = gives e m.least d }

refused-step : (n q : ℕ) (w : World) (e : DmaBufError) (left : List ℕ) → Fine n q w → Made n q w (sends_by w record { ring = w.ring; device = w.device; answer = Err e } left)
refused-step n q w e left g =
    subst (Made n q w) (sym (alone w)) (idle n q w g)

module _ (n q : ℕ) (w : World) (g : Fine n q w) (out : List ℕ) (front : List Cell) (x : Cell) (behind : List Cell)
    (o : Order Out (length w.bytes) w.ring w.bytes w.device (length w.visited) front (x ∷ behind)) (m : Somes (loads (x ∷ behind))) (z : suc (length behind) ≡ q)
    (on : w.device ≡ Some x.idx) (turns : x.idx ≡ turn n (length w.visited)) where
  sent-made : (left : List ℕ) → take (record_of w.ring x.idx).length left ≡ take x.desc.length x.held
      → Made n q w (sends_by w record { ring = with_records w.ring (update w.ring.descriptors x.idx sent); device = (record_of w.ring x.idx).next; answer = Ok (record_of w.ring x.idx).length } left)
  sent-made left put =
      record {
        more = length behind;
        fine = sent-fine n w front x behind o left put on g.count m g.ends g.counts;
        move = steps (on ∙ ap Some turns) (emptied-then n w front x behind o left put on ∙ ap (λ (i : ℕ). w.visited ++ (i ∷ [])) turns) (sym z)
            (λ e. first-none behind (sym (head-next Out (length w.bytes) w.ring w.bytes w.device (length w.visited) front x behind o) ∙ e));
      }

  send-told : (t : Bool) → leb (record_of w.ring x.idx).length (length out) ≡ t
      → Made n q w (sends_by w (cond t record { ring = with_records w.ring (update w.ring.descriptors x.idx sent); device = (record_of w.ring x.idx).next; answer = Ok (record_of w.ring x.idx).length }
      record { ring = w.ring; device = w.device; answer = Err BadState }) (transmit_over w.ring w.device w.bytes out))
  send-told true e =
      sent-made (transmit_over w.ring w.device w.bytes out)
      (ap (take (record_of w.ring x.idx).length) (over-on w.ring w.device w.bytes out x.idx (fine-passes n q w g) on (here n w front x behind o).0 e)
      ∙ send-bytes n w front x behind o out)
  send-told false e = refused-step n q w BadState (transmit_over w.ring w.device w.bytes out) g

  send-made : Made n q w (sends_by w (transmit_of w.ring w.device (length w.bytes) (length out)) (transmit_over w.ring w.device w.bytes out))
  send-made =
      subst (λ (s : Stepped (Answer ℕ)). Made n q w (sends_by w s (transmit_over w.ring w.device w.bytes out)))
      (sym (send-on w.ring w.device (length w.bytes) (fine-passes n q w g) (length out) x.idx (leb (record_of w.ring x.idx).length (length out)) on (here n w front x behind o).0 refl))
      (send-told (leb (record_of w.ring x.idx).length (length out)) refl)

send_by : (n q : ℕ) (w : World) (out : List ℕ) → Fine n q w → (d : Option ℕ) → w.device ≡ d
    → Made n q w (sends_by w (transmit_of w.ring w.device (length w.bytes) (length out)) (transmit_over w.ring w.device w.bytes out))
send_by n q w out g None e =
    subst (λ (s : Stepped (Answer ℕ)). Made n q w (sends_by w s (transmit_over w.ring w.device w.bytes out)))
    (sym (send-stopped w.ring w.device (length w.bytes) (fine-passes n q w g) (length out) e))
    (refused-step n q w Stopped (transmit_over w.ring w.device w.bytes out) g)
send_by n q w out g (Some i) e =
    let h = head_at Out (length w.bytes) w.ring w.bytes w.device (length w.visited) g.front g.queue g.order i e in
    send-made n q w g out g.front h.head h.behind
    (subst (λ (l : List Cell). Order Out (length w.bytes) w.ring w.bytes w.device (length w.visited) g.front l) h.queue g.order)
    (subst (λ (l : List Cell). Somes (loads l)) h.queue g.somes)
    (ap length (sym h.queue) ∙ g.size)
    (e ∙ ap Some h.number)
    (sym h.number ∙ h.turns ∙ ap (λ (m : ℕ). turn m (length w.visited)) g.count)

pub step-made : (n q : ℕ) (w : World) → Fine n q w → (a : TxAction) → Made n q w (tx_step w a)
unfolding tx_step advance_of commit_of
step-made n q w g (tx_look l) = idle n q w g
step-made n q w g (push bs) = call-made n q w (called told w (push_of w.ring (length w.bytes) (length bs)) (push_into w.ring w.bytes bs) bs) (push-fine n q w bs g) refl refl
step-made n q w g (advance k) =
    call-made n q w (called told w (accepted_up_to (available_in Out w.ring) w.ring (length w.bytes) k) w.bytes (standing Out w.ring w.bytes))
    (up-to-fine n q w (available_in Out w.ring) k g (omega arith)) refl refl
step-made n q w g (commit k) =
    call-made n q w (called told w (accepted_up_to (offered w.ring (length w.bytes)) w.ring (length w.bytes) k) w.bytes (standing Out w.ring w.bytes))
    (up-to-fine n q w (offered w.ring (length w.bytes)) k g (omega arith)) refl refl
step-made n q w g (write p v) =
    call-made n q w (writes w (write_at w.ring) (length (offer_of w.ring w.bytes)) p v) (same n q (writes w (write_at w.ring) (length (offer_of w.ring w.bytes)) p v) (write-fine n q w p v g)) refl refl
step-made n q w g (send out) = send_by n q w out g w.device refl
