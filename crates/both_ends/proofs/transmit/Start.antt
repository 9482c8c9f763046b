-- The ring as `prepare` leaves it with at least one byte prefilled: what was accepted is queued and pending.
use Rattle.std.specs.Prelude.{◌≡◌, Bool, true, cond, ◌⊎◌, length, drop, Ok, Err, Some}
use Rattle.std.proofs.Math.Path.{refl, sym, ap}
use Rattle.std.proofs.Common.{◌∙◌, subst, arith, lt-ltb, le-ltb, length-take, length-drop, take-take, take-add, take_all}
use Rattle.std.proofs.Math.Logic.{inl, inr}
use mathlib.Core.List.{List, [], ◌++◌, append-nil}
use Prim.Native.Nat.{ℕ, zero, suc, ◌+◌, ◌-◌, ◌≤◌, ◌<◌}
use Rattle.std.proofs.Math.Decide.{dec_lt, ℕ_discrete}
use Rattle.std.proofs.Math.ListN.{take}
use Rattle.descriptors.specs.Record.{record_in, following}
use Rattle.descriptors.specs.Place.{after}
use Rattle.descriptors.specs.Split.{start_of, size_of}
use Rattle.descriptors.specs.Ring.{Ring, refused, below, linked_all}
use Rattle.descriptors.specs.declared.record.Owner.TheVariants.{Cpu, Dma}
use Rattle.descriptors.specs.declared.record.DmaDescriptor.{DmaDescriptor}
use Rattle.descriptors.specs.declared.record.TransferDirection.TheVariants.{Out}
use Rattle.descriptors.specs.declared.refusal.DmaBufError.TheVariants.{BadState}
use Rattle.ring_order.specs.Places.{place, place-zero, turn}
use Rattle.ring_order.specs.Lists.{Somes}
use Rattle.ring_order.specs.Geometry.{within}
use Rattle.ring_order.specs.Shape.{Laid, Shape, grounds, of-laid}
use Rattle.ring_order.specs.Stores.{Fits, shape-keeps}
use Rattle.ring_order.specs.Begin.{following-below}
use Rattle.ring_order.specs.View.{Cell, cell_in, round, view}
use Rattle.ring_order.specs.Queue.{idxs, owners, loads, join, cat, first, Cpus, Linked, Inside, Parted}
use Rattle.ring_order.specs.Order.{Order}
use Rattle.tx_stream.specs.Transmit.{Marked, marked_ready, prepared_as, prepare_of}
use Rattle.both_ends.specs.Demand3.{World, world, prepared, pending_in}
use Rattle.both_ends.specs.transmit.Blocks.{Edge, inner, last, after-inner, round-next, round-join, blocks}
use Rattle.both_ends.proofs.transmit.Prefilling.{Filling}
use Rattle.both_ends.specs.transmit.Prepared.{following-last, following-inner, Held, short, whole, Marks, marks}
use Rattle.both_ends.proofs.transmit.Trace.{Fine, order-queued}

-- ---- records in a row

-- records that the DMA owns, each of which leads to the following one, and the last nowhere: d of them
linked-round : (n d : ℕ) (f : ℕ → Cell) → d ≤ n → ((j : ℕ) → (f j).idx ≡ j) → ((j : ℕ) → j < d → (f j).desc.owner ≡ Dma) → ((j : ℕ) → j < d → (f j).desc.next ≡ following d j)
    → (k i : ℕ) → i + k ≡ d → Linked (round f n k i)
unfolding round
linked-round n d f h x o t zero i e = tt
linked-round n d f h x o t (suc zero) i e = (o i (omega arith), t i (omega arith) ∙ following-last d i (omega arith), tt)
linked-round n d f h x o t (suc (suc k)) i e = (
  o i (omega arith),
  t i (omega arith) ∙ following-inner d i (omega arith) ∙ ap Some (sym (x (after n i) ∙ after-inner n i (omega arith))),
  subst Linked (sym (round-next f n (suc k) i (omega arith))) (linked-round n d f h x o t (suc k) (suc i) (omega arith)),
)

cpus-round : (n d : ℕ) (f : ℕ → Cell) → ((j : ℕ) → d ≤ j → j < n → (f j).desc.owner ≡ Cpu) → (k i : ℕ) → d ≤ i → i + k ≡ n → Cpus (owners (round f n k i))
unfolding round
cpus-round n d f o zero i h e = tt
cpus-round n d f o (suc k) i h e = (
  o i h (omega arith),
  subst (λ (l : List Cell). Cpus (owners l)) (sym (round-next f n k i (omega arith))) (cpus-round n d f o k (suc i) (omega arith) (omega arith)),
)

somes-round : (n d : ℕ) (f : ℕ → Cell) → d ≤ n → ((j : ℕ) → j < d → 0 < length (take (f j).desc.length (f j).held)) → (k i : ℕ) → i + k ≡ d → Somes (loads (round f n k i))
unfolding round
somes-round n d f h o zero i e = tt
somes-round n d f h o (suc k) i e = (
  o i (omega arith),
  subst (λ (l : List Cell). Somes (loads l)) (sym (round-next f n k i (omega arith))) (somes-round n d f h o k (suc i) (omega arith)),
)

-- records that are filled whole send all that they hold
loads-round : (n d : ℕ) (f : ℕ → Cell) → d ≤ n → ((j : ℕ) → j < d → take (f j).desc.length (f j).held ≡ (f j).held) → (k i : ℕ) → i + k ≡ d → join (loads (round f n k i)) ≡ cat (round f n k i)
unfolding round
loads-round n d f h o zero i e = refl
loads-round n d f h o (suc k) i e =
    ap (λ (l : List ℕ). l ++ join (loads (round f n k (after n i)))) (o i (omega arith))
    ∙ ap (λ (l : List ℕ). (f i).held ++ l)
    (ap (λ (l : List Cell). join (loads l)) (round-next f n k i (omega arith)) ∙ loads-round n d f h o k (suc i) (omega arith) ∙ ap cat (sym (round-next f n k i (omega arith))))

first_round : (n : ℕ) (f : ℕ → Cell) (d : ℕ) → ((j : ℕ) → (f j).idx ≡ j) → 0 < d → Some 0 ≡ first (idxs (round f n d 0))
unfolding round
first_round n f zero x h = absurd (omega arith)
first_round n f (suc d) x h = ap Some (sym (x 0))

length-round : (n : ℕ) (f : ℕ → Cell) (k i : ℕ) → length (round f n k i) ≡ k
unfolding round
length-round n f zero i = refl
length-round n f (suc k) i = ap suc (length-round n f k (after n i))

-- from record d on, the records up to the last take the cursor to record 0
place-round : (n d : ℕ) → d ≤ n → place n d (n - d) ≡ 0
unfolding place
place-round n d h = ap (λ (t : Bool). cond t (d + (n - d)) (d + (n - d) - n)) (le-ltb (d + (n - d)) n (omega arith)) ∙ end
  where
    end : d + (n - d) - n ≡ 0
    end = omega arith

module _ (n len b : ℕ) (ds : List DmaDescriptor) (l : Laid n len ds) (m : Marked) (k : Marks n len b ds m) (hb : 0 < b) where
  -- ---- the lengths of the queued records

  held-some : (K : ℕ → ℕ) (d o : ℕ) → d ≤ n → Held n len b d K o → (j : ℕ) → j < d → (0 < K j) × (K j ≤ size_of n len j)
  held-some K d o h (short e f g z) j i =
      let q : j ≡ 0 = omega arith in
      let p : K j ≡ b = ap K q ∙ f in
      let t : size_of n len j ≡ size_of n len 0 = ap (size_of n len) q in
      (omega arith, omega arith)
  held-some K d o h (whole f g e) j i = (omega (arith, f j i, (grounds n len ds l).some j (omega arith)), omega (arith, f j i))

  some : (j : ℕ) → j < k.d → (0 < k.K j) × (k.K j ≤ size_of n len j)
  some = held-some k.K k.d m.offset k.inside k.bytes

  -- ---- the shape

  fits : (j : ℕ) → j < n → Dec (j < k.d) → ((record_in ds j).length ≤ (record_in ds j).size) → Fits n (record_in ds j) (record_in m.descriptors j)
  fits j h (yes i) s =
      rw (k.queue j i) record {
        start = refl;
        room = refl;
        length = omega (arith, (some j i).1, l.room j h);
        next = linked-below j i (ℕ_discrete (suc j) k.d);
      }
    where
      linked-below : (j : ℕ) → j < k.d → Dec (suc j ≡ k.d) → below n (following k.d j) ≡ true
      linked-below j i (yes e) = ap (below n) (following-last k.d j e)
      linked-below j i (no e) = ap (below n) (following-inner k.d j e) ∙ lt-ltb (suc j) n (omega (arith, k.inside))
  fits j h (no i) s = rw (k.free j (omega arith) h) record { start = refl; room = refl; length = s; next = following-below n j h }

  -- ---- the bytes

  module _ (bytes : List ℕ) (w : length bytes ≡ len) (lengths : (j : ℕ) → j < n → (record_in ds j).length ≤ (record_in ds j).size) where
    abbrev cell_at : ℕ → Cell
    cell_at = cell_in Out m.descriptors bytes

    shape : Shape n len m.descriptors
    shape = shape-keeps n len ds m.descriptors l k.many (λ j h. fits j h (dec_lt j k.d) (lengths j h))

    queue-length : (j : ℕ) → j < k.d → (record_in m.descriptors j).length ≡ k.K j
    queue-length j h = ap (λ (r : DmaDescriptor). r.length) (k.queue j h)

    part_length : (j : ℕ) → j < n → length (cell_at j).held ≡ size_of n len j
    part_length j h =
        let z : (record_in m.descriptors j).size ≡ size_of n len j = shape.laid.room j h in
        let y : (record_in m.descriptors j).buffer ≡ start_of n len j = shape.laid.start j h in
        simp (length-take, length-drop) (omega (arith, within n len (grounds n len ds l) j h))

    queue-some : (j : ℕ) → j < k.d → 0 < length (take (cell_at j).desc.length (cell_at j).held)
    queue-some j h = rw length-take (omega (arith, queue-length j h, (some j h).0, (some j h).1, part_length j (omega (arith, k.inside))))

    front-loads : ((j : ℕ) → j < k.d → k.K j ≡ size_of n len j) → (e : ℕ) → Edge n len k.d e → join (loads (round cell_at n k.d 0)) ≡ take e bytes
    front-loads f e h =
        loads-round n k.d cell_at k.inside
        (λ j i. ap (λ (x : ℕ). take x (cell_at j).held) (queue-length j i ∙ f j i) ∙ take_all (size_of n len j) (cell_at j).held (omega (arith, part_length j (omega (arith, k.inside))))) k.d 0 (omega arith)
        ∙ blocks n len m.descriptors bytes shape.laid k.d 0 k.d 0 e (omega arith) k.inside (inner (omega (arith, k.some, k.inside)) (sym (grounds n len ds l).first)) h

    front-whole : ((j : ℕ) → j < k.d → k.K j ≡ size_of n len j) → (k.d < n → start_of n len k.d + m.offset ≡ b) → (k.d ≡ n → b ≡ len)
        → ((k.d < n) × (m.at ≡ k.d) × (m.offset < size_of n len k.d)) ⊎ ((k.d ≡ n) × (m.at ≡ 0) × (m.offset ≡ 0))
        → join (loads (round cell_at n k.d 0)) ++ take m.offset (drop (record_in m.descriptors m.at).buffer bytes) ≡ take b bytes
    front-whole f g e (inl (c, i, h)) =
        let s : ℕ = start_of n len k.d in
        ap (λ (x : List ℕ). x ++ take m.offset (drop (record_in m.descriptors m.at).buffer bytes)) (front-loads f s (inner c refl))
        ∙ ap (λ (x : ℕ). take s bytes ++ take m.offset (drop x bytes)) (ap (λ (x : ℕ). (record_in m.descriptors x).buffer) i ∙ shape.laid.start k.d c)
        ∙ sym (take-add s m.offset bytes)
        ∙ ap (λ (x : ℕ). take x bytes) (g c)
    front-whole f g e (inr (c, i, z)) =
        ap (λ (x : List ℕ). x ++ take m.offset (drop (record_in m.descriptors m.at).buffer bytes)) (front-loads f len (last c refl))
        ∙ ap (λ (x : ℕ). take len bytes ++ take x (drop (record_in m.descriptors m.at).buffer bytes)) z
        ∙ append-nil (take len bytes)
        ∙ ap (λ (x : ℕ). take x bytes) (sym (e c))

    -- what is queued and what is pending is the buffer's front
    front-is : Held n len b k.d k.K m.offset → join (loads (round cell_at n k.d 0)) ++ take m.offset (drop (record_in m.descriptors m.at).buffer bytes) ≡ take b bytes
    front-is (short e f g z) =
        let q : join (loads (round cell_at n k.d 0)) ≡ take b bytes ++ [] =
        ap (λ (x : ℕ). join (loads (round cell_at n x 0))) e
        ∙ one
        ∙ ap (λ (x : ℕ). take x (cell_at 0).held ++ []) (queue-length 0 k.some ∙ f)
        ∙ ap (λ (x : List ℕ). x ++ []) (take-take b (record_in m.descriptors 0).size (drop (record_in m.descriptors 0).buffer bytes) (omega (arith, shape.laid.room 0 (omega (arith, k.some, k.inside)))))
        ∙ ap (λ (x : ℕ). take b (drop x bytes) ++ []) (shape.laid.start 0 (omega (arith, k.some, k.inside)) ∙ (grounds n len ds l).first) in
        ap (λ (x : ℕ). join (loads (round cell_at n k.d 0)) ++ take x (drop (record_in m.descriptors m.at).buffer bytes)) z
        ∙ append-nil (join (loads (round cell_at n k.d 0)))
        ∙ q
        ∙ append-nil (take b bytes)
      where
        one : join (loads (round cell_at n 1 0)) ≡ take (cell_at 0).desc.length (cell_at 0).held ++ []
        one = unfold round in refl
    front-is (whole f g e) = front-whole f g e k.cursor

    -- ---- the ring from its cursor on

    abbrev front_of : List Cell
    front_of = round cell_at n (n - k.d) k.d

    abbrev queue_of : List Cell
    queue_of = round cell_at n k.d 0

    cursor-in : ((k.d < n) × (m.at ≡ k.d) × (m.offset < size_of n len k.d)) ⊎ ((k.d ≡ n) × (m.at ≡ 0) × (m.offset ≡ 0)) → m.at < n
    cursor-in (inl (c, i, h)) = omega arith
    cursor-in (inr (c, i, z)) = omega (arith, k.some)

    seen-from : ((k.d < n) × (m.at ≡ k.d) × (m.offset < size_of n len k.d)) ⊎ ((k.d ≡ n) × (m.at ≡ 0) × (m.offset ≡ 0)) → view Out n m.descriptors bytes m.at ≡ front_of ++ queue_of
    seen-from (inl (c, i, h)) =
        let a : ℕ = n - suc k.d in
        ap (round cell_at n n) i
        ∙ ap (λ (x : ℕ). round cell_at n x k.d) {x = n} {y = suc a + k.d} (omega arith)
        ∙ round-join cell_at n a k.d k.d (omega arith)
        ∙ ap (λ (x : ℕ). round cell_at n x k.d ++ queue_of) {x = suc a} {y = n - k.d} (omega arith)
    seen-from (inr (c, i, z)) =
        ap (round cell_at n n) i
        ∙ ap (λ (x : ℕ). round cell_at n x 0) (sym c)
        ∙ ap (λ (x : List Cell). x ++ queue_of) (sym (none (n - k.d) (omega arith)))
      where
        none : (x : ℕ) → x ≡ 0 → round cell_at n x k.d ≡ []
        none x e = unfold round in ap (λ (y : ℕ). round cell_at n y k.d) e

    inside-from : (x : ℕ) → x ≡ n - k.d → ((k.d < n) × (m.at ≡ k.d) × (m.offset < size_of n len k.d)) ⊎ ((k.d ≡ n) × (m.at ≡ 0) × (m.offset ≡ 0)) → Inside m.offset (round cell_at n x k.d)
    unfolding round
    inside-from zero e (inl (c, i, h)) = absurd (omega arith)
    inside-from zero e (inr (c, i, z)) = z
    inside-from (suc x) e (inl (c, i, h)) = inr (omega (arith, part_length k.d c))
    inside-from (suc x) e (inr (c, i, z)) = inl z

    turned-from : ((k.d < n) × (m.at ≡ k.d) × (m.offset < size_of n len k.d)) ⊎ ((k.d ≡ n) × (m.at ≡ 0) × (m.offset ≡ 0)) → place n m.at (length front_of) ≡ 0
    turned-from (inl (c, i, h)) = ap (λ (x : ℕ). place n x (length front_of)) i ∙ ap (place n k.d) (length-round n cell_at (n - k.d) k.d) ∙ place-round n k.d k.inside
    turned-from (inr (c, i, z)) =
        let e : length front_of ≡ 0 = omega (arith, length-round n cell_at (n - k.d) k.d) in
        ap (λ (x : ℕ). place n x (length front_of)) i ∙ ap (place n 0) e ∙ place-zero n 0 (omega (arith, k.some))

    parted : Parted Out n len m.descriptors bytes m.at m.offset front_of queue_of
    parted =
        record {
          stored = record { shape = shape; whole = w; cursor = cursor-in k.cursor };
          seen = seen-from k.cursor;
          cpus = cpus-round n k.d cell_at (λ j h i. ap (λ (r : DmaDescriptor). r.owner) (k.free j h i)) (n - k.d) k.d (omega arith) (omega (arith, k.inside));
          linked = linked-round n k.d cell_at k.inside (λ j. refl) (λ j h. ap (λ (r : DmaDescriptor). r.owner) (k.queue j h)) (λ j h. ap (λ (r : DmaDescriptor). r.next) (k.queue j h)) k.d 0 (omega arith);
          offset = inside-from (n - k.d) refl k.cursor;
        }

-- ---- the world as it starts

module _ (n : ℕ) (w : World) (g : Filling n w) (some : 0 < length w.by_calls) where
  abbrev len : ℕ
  len = length w.bytes

  abbrev marked : Marked
  marked = marked_ready w.ring.count w.ring.prefilled (linked_all Out w.ring.count w.ring.descriptors)

  prepare-is : (prepare_of w.ring (length w.bytes)).ring ≡ prepared_as w.ring marked
  unfolding prepare_of
  prepare-is =
      ap (λ (t : Bool). (cond t record { ring = prepared_as w.ring marked; answer = Ok tt } (refused w.ring (Err BadState))).ring)
      (of-laid w.ring (length w.bytes) g.laid g.room)

  prefilled-some : 0 < w.ring.prefilled
  prefilled-some = omega (arith, ap length g.held ∙ length-take w.ring.prefilled w.bytes)

  marks-here : Marks w.ring.count (length w.bytes) w.ring.prefilled w.ring.descriptors marked
  marks-here = marks w.ring.count (length w.bytes) w.ring.prefilled w.ring.descriptors g.laid prefilled-some g.room

  abbrev begins : Ring → World
  begins r = world r w.bytes (Some 0) w.by_calls [] []

  front-here : List Cell
  front-here = front_of w.ring.count len w.ring.prefilled w.ring.descriptors g.laid marked marks-here prefilled-some w.bytes refl g.lengths

  queue-here : List Cell
  queue-here = queue_of w.ring.count len w.ring.prefilled w.ring.descriptors g.laid marked marks-here prefilled-some w.bytes refl g.lengths

  order-here : Order Out (length w.bytes) (prepared_as w.ring marked) w.bytes (Some 0) 0 front-here queue-here
  unfolding turn front-here queue-here
  order-here =
      record {
        prefilled = omega arith;
        parted = parted w.ring.count len w.ring.prefilled w.ring.descriptors g.laid marked marks-here prefilled-some w.bytes refl g.lengths;
        stands = inr (first_round w.ring.count (cell_in Out marked.descriptors w.bytes) marks-here.d (λ j. refl) marks-here.some);
        turned = turned-from w.ring.count len w.ring.prefilled w.ring.descriptors g.laid marked marks-here prefilled-some w.bytes refl g.lengths marks-here.cursor;
      }

  fine-here : Fine n (length queue-here) (begins (prepared_as w.ring marked))
  unfolding pending_in front-here queue-here
  fine-here =
      record {
        front = front-here;
        queue = queue-here;
        order = order-here;
        size = refl;
        count = g.count;
        somes =
            somes-round w.ring.count marks-here.d (cell_in Out marked.descriptors w.bytes) marks-here.inside
            (queue-some w.ring.count len w.ring.prefilled w.ring.descriptors g.laid marked marks-here prefilled-some w.bytes refl g.lengths) marks-here.d 0 (omega arith);
        ends =
            g.held
            ∙ sym (front-is w.ring.count len w.ring.prefilled w.ring.descriptors g.laid marked marks-here prefilled-some w.bytes refl g.lengths marks-here.bytes)
            ∙ ap (λ (x : List ℕ). x ++ take marked.offset (drop (record_in marked.descriptors marked.at).buffer w.bytes))
            (sym (order-queued (prepared_as w.ring marked) w.bytes (Some 0) 0 front-here queue-here order-here));
        counts = g.counts;
      }

  -- STARTED: the invariant holds of the ring that `prepare` leaves
  pub start_fine : (q : ℕ) × Fine n q (prepared prepare_of w)
  start_fine = (length queue-here, subst (λ (r : Ring). Fine n (length queue-here) (begins r)) (sym prepare-is) fine-here)
