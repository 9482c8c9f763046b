-- The ring, its device, and the steps that the device has made: the device goes through the queue record by record, in ring order.
-- Every call and step of either direction is one of two moves of this state.
use Rattle.std.specs.Prelude.{◌≡◌, refl, true, ◌⊎◌, ◌≢◌, ◌↔◌, List, [], ◌∷◌, ◌++◌, eqb, Some, None, Option}
use Rattle.std.proofs.Math.Path.{sym, subst}
use Rattle.std.proofs.Common.{◌∙◌, ap, inl, inr, append_assoc, append-nil, add-zero, arith, length-append, lt-ltb, eq-eqb}
use Rattle.std.proofs.lemmas.List.{map-append}
use Prim.Native.Nat.{ℕ, zero, suc, ◌+◌, ◌≤◌, ◌<◌}
use Rattle.std.proofs.Math.Nat.{zero-add}
use Rattle.std.proofs.Math.ListN.{length}
use Rattle.std.proofs.Math.Seq.{append_snoc}
use Rattle.descriptors.specs.Record.{record_in, span_of}
use Rattle.descriptors.specs.Place.{after, turns}
use Rattle.descriptors.specs.Ring.{Ring, record_of, with_records, offset_ok, sound}
use Rattle.descriptors.specs.Walk.{hand_over, begun, planned, moved_to, advanced}
use Rattle.descriptors.specs.declared.record.Owner.TheVariants.{Cpu, Dma}
use Rattle.descriptors.specs.declared.record.DmaDescriptor.{DmaDescriptor}
use Rattle.descriptors.specs.declared.record.TransferDirection.{TransferDirection}
use Rattle.descriptors.specs.declared.record.TransferDirection.TheVariants.{In, Out}
use Rattle.descriptors.specs.laws.Tests.{and-join}
use Rattle.ring_order.specs.Places.{place, place-lt, place-onto, after-place, turn, turn_suc}
use Rattle.ring_order.specs.Lists.{tab}
use Rattle.ring_order.specs.Tests.{or_left, or_right, cpu-test, cpu-not-dma}
use Rattle.ring_order.specs.Shape.{Shape, of-sound}
use Rattle.ring_order.specs.View.{Cell, cell_in, view, own, placed_at, cursor-cell, view-tab, view-change}
use Rattle.ring_order.specs.Queue.{idxs, owners, first, Cpus, Linked, Inside, cpus-snoc, inside_snoc, Stored, Parted, ground, exact, parts-length}
use Rattle.ring_order.specs.Give.{Walked, gives}
use Rattle.ring_order.specs.Skeleton.{Among, turn-place, stopped-not}

-- the device is stopped, or stands at the head of the queue
abbrev pub Stands : Option ℕ → List ℕ → Type 0
Stands d is = (d ≡ None) ⊎ (d ≡ first is)

stands-grow : (d : Option ℕ) (is js : List ℕ) → Stands d is → Stands d (is ++ js)
stands-grow d is js (inl e) = inl e
stands-grow d [] js (inr e) = inl e
stands-grow d (i ∷ is) js (inr e) = inr e

-- after t steps: `run` is the CPU's, `rest` is queued
pub record Order (dir : TransferDirection) (len : ℕ) (r : Ring) (b : List ℕ) (dev : Option ℕ) (t : ℕ) (run rest : List Cell) : Type 0 where
  pub prefilled : r.prefilled ≤ len
  pub parted : Parted dir r.count len r.descriptors b r.idx r.offset run rest
  pub stands : Stands dev (idxs rest)
  pub turned : place r.count r.idx (length run) ≡ turn r.count t

-- ---- such a ring is sound

offset-none : (dir : TransferDirection) (d : DmaDescriptor) (o : ℕ) → o ≡ 0 → 0 < d.size → offset_ok dir d o ≡ true
offset-none In d o e h = or_left (eqb o 0) _ (eq-eqb o 0 e)
offset-none Out d o e h = and-join (lt-ltb o d.size (omega arith)) (or_left (eqb o 0) _ (eq-eqb o 0 e))

offset-some : (dir : TransferDirection) (d : DmaDescriptor) (o : ℕ) → d.owner ≡ Cpu → o < span_of dir d → offset_ok dir d o ≡ true
offset-some In d o e h = or_right (eqb o 0) _ (and-join (cpu-test d.owner e) (lt-ltb o d.length h))
offset-some Out d o e h = and-join (lt-ltb o d.size h) (or_right (eqb o 0) _ (cpu-test d.owner e))

module _ (dir : TransferDirection) (n len : ℕ) (ds : List DmaDescriptor) (b : List ℕ) (c o : ℕ) where
  cursor_room : Stored n len ds b c → 0 < (record_in ds c).size
  cursor_room s = omega (arith, s.shape.laid.room c s.cursor, (ground dir n len ds b c s).some c s.cursor)

  offset-is : (run rest : List Cell) → Parted dir n len ds b c o run rest → offset_ok dir (record_in ds c) o ≡ true
  offset-is [] rest s = offset-none dir (record_in ds c) o s.offset (cursor_room s.stored)
  offset-is (x ∷ run) rest s = go s.offset
    where
      go : Inside o (x ∷ run) → offset_ok dir (record_in ds c) o ≡ true
      go (inl e) = offset-none dir (record_in ds c) o e (cursor_room s.stored)
      go (inr h) =
          let e : x ≡ cell_in dir ds b c = cursor-cell dir n ds b c s.stored.cursor (run ++ rest) x s.seen in
          offset-some dir (record_in ds c) o (ap (λ (y : Cell). y.desc.owner) (sym e) ∙ s.cpus.0)
          (omega (arith, exact dir n len ds b c s.stored [] (run ++ rest) x s.seen, ap (λ (y : Cell). span_of dir y.desc) e))

pub order-sound : (dir : TransferDirection) (len : ℕ) (r : Ring) (b : List ℕ) (dev : Option ℕ) (t : ℕ) (run rest : List Cell) → Order dir len r b dev t run rest → sound dir r len ≡ true
order-sound dir len r b dev t run rest o =
    of-sound dir r len record {
      shape = o.parted.stored.shape;
      prefilled = o.prefilled;
      cursor = o.parted.stored.cursor;
      offset = offset-is dir r.count len r.descriptors b r.idx r.offset run rest o.parted;
    }

-- ---- records are handed over

module _ (dir : TransferDirection) (len : ℕ) (r : Ring) (b : List ℕ) (dev : Option ℕ) (t : ℕ) (run rest : List Cell) (o : Order dir len r b dev t run rest) where
  pub order-gives : (k : ℕ) → Walked dir r.count len b r.descriptors (begun r k) (planned dir r k) run rest
  order-gives k = gives dir len r b run rest o.parted k

  pub order-give : (k : ℕ) (w : Walked dir r.count len b r.descriptors (begun r k) (planned dir r k) run rest) → Order dir len (advanced dir r k) b dev t w.run' w.rest'
  unfolding moved_to
  order-give k w =
      let m : ℕ = (planned dir r k).back in
      let e : length w.used ≡ m = sym (w.back ∙ zero-add (length w.used)) in
      record {
        prefilled = o.prefilled;
        parted = subst (λ (g : ℕ). Parted dir r.count len (turns (hand_over dir r.count) r.count g r.idx r.descriptors) b (planned dir r k).at (planned dir r k).offset w.run' w.rest') e w.parted;
        stands = subst (Stands dev) (sym w.grows) (stands-grow dev (idxs rest) (idxs w.used) o.stands);
        turned = w.stood ∙ o.turned;
      }

-- ---- the device makes a step

-- the record that the device stands on is the queue's first, and t mod n
pub record Head (n i t : ℕ) (rest : List Cell) : Type 0 where
  pub head : Cell
  pub behind : List Cell
  pub queue : rest ≡ head ∷ behind
  pub number : i ≡ head.idx
  pub turns : i ≡ turn n t

head-of : (d : Option ℕ) (i : ℕ) (rest : List Cell) → Stands d (idxs rest) → d ≡ Some i → (x : Cell) × (xs : List Cell) × (rest ≡ x ∷ xs) × (i ≡ x.idx)
head-of d i rest (inl e) p = absurd (stopped-not d i p e)
head-of d i [] (inr e) p = absurd (stopped-not d i p e)
head-of d i (x ∷ xs) (inr e) p = (x, xs, refl, cc)

pub head_at : (dir : TransferDirection) (len : ℕ) (r : Ring) (b : List ℕ) (dev : Option ℕ) (t : ℕ) (run rest : List Cell) → Order dir len r b dev t run rest
    → (i : ℕ) → dev ≡ Some i → Head r.count i t rest
head_at dir len r b dev t run rest o i d =
    let (x, xs, e, q) = head-of dev i rest o.stands d in
    record {
      head = x;
      behind = xs;
      queue = e;
      number = q;
      turns = q ∙ placed_at dir r.count r.descriptors b r.idx o.parted.stored.cursor run xs x (o.parted.seen ∙ ap (λ (l : List Cell). run ++ l) e) ∙ o.turned;
    }

module _ (dir : TransferDirection) (len : ℕ) (r : Ring) (b : List ℕ) (dev : Option ℕ) (t : ℕ) (run : List Cell) (x : Cell) (rest : List Cell) (o : Order dir len r b dev t run (x ∷ rest)) where
  pub head-stored : (x.idx < r.count) × (x ≡ cell_in dir r.descriptors b x.idx)
  head-stored = own dir r.count r.descriptors b r.idx o.parted.stored.cursor run rest x o.parted.seen

  -- "moves to next as read at that moment"
  pub head-next : (record_of r x.idx).next ≡ first (idxs rest)
  head-next = ap (λ (y : Cell). y.desc.next) (sym head-stored.1) ∙ o.parted.linked.1

  -- its record changes to y, the CPU's; the others stay
  pub order-step : (es : List DmaDescriptor) (d : List ℕ) (y : Cell) → Shape r.count len es → length d ≡ len
      → ((j : ℕ) → j < r.count → j ≢ x.idx → cell_in dir es d j ≡ cell_in dir r.descriptors b j) → cell_in dir es d x.idx ≡ y → y.desc.owner ≡ Cpu
      → Order dir len (with_records r es) d (record_of r x.idx).next (suc t) (run ++ (y ∷ [])) rest
  order-step es d y sh wh others same cpu =
      let s = o.parted in
      let hm : length run + length (x ∷ rest) ≡ r.count = parts-length dir r.count len r.descriptors b r.idx r.offset run (x ∷ rest) s in
      record {
        prefilled = o.prefilled;
        parted = record {
          stored = record { shape = sh; whole = wh; cursor = s.stored.cursor };
          seen =
              view-change dir r.count r.descriptors es b d r.idx s.stored.cursor run rest x y s.seen others same ∙ sym (append_snoc run y rest);
          cpus = cpus-snoc run y s.cpus cpu;
          linked = s.linked.2;
          offset = inside_snoc r.offset run y s.offset;
        };
        stands = inr head-next;
        turned =
            ap (place r.count r.idx) (let z : length run + 1 ≡ suc (length run) = omega arith in length-append run (y ∷ []) ∙ z)
            ∙ sym (after-place r.count r.idx (length run) s.stored.cursor (omega arith)) ∙ ap (after r.count) o.turned ∙ sym (turn_suc r.count t);
      }

-- no first record: none is queued
pub first-none : (xs : List Cell) → first (idxs xs) ≡ None → length xs ≡ 0
first-none [] e = refl
first-none (x ∷ xs) e = absurd (stopped-not (Some x.idx) x.idx refl e)

-- the device stands on one of the ring's records
pub stands-below : (dir : TransferDirection) (len : ℕ) (r : Ring) (b : List ℕ) (dev : Option ℕ) (t : ℕ) (run rest : List Cell) → Order dir len r b dev t run rest
    → (i : ℕ) → dev ≡ Some i → i < r.count
stands-below dir len r b dev t run rest o i d =
    let h = head_at dir len r b dev t run rest o i d in
    subst (λ (j : ℕ). j < r.count) (sym h.number)
    (head-stored dir len r b dev t run h.head h.behind (subst (Order dir len r b dev t run) h.queue o)).0

-- ---- whose a record is

among-append : (j : ℕ) (is js : List ℕ) → Among j (is ++ js) → Among j is ⊎ Among j js
among-append j [] js h = inr h
among-append j (i ∷ is) js (inl e) = inl (inl e)
among-append j (i ∷ is) js (inr h) = go (among-append j is js h)
  where
    go : Among j is ⊎ Among j js → Among j (i ∷ is) ⊎ Among j js
    go (inl k) = inl (inr k)
    go (inr k) = inr k

among-tab : (n : ℕ) (f : ℕ → Cell) (d : ℕ) → d < n → Among (f d).idx (idxs (tab n f))
among-tab zero f d h = absurd (omega arith)
among-tab (suc n) f zero h = inl refl
among-tab (suc n) f (suc d) h = inr (among-tab n (λ i. f (suc i)) d (omega arith))

module _ (dir : TransferDirection) (n : ℕ) (ds : List DmaDescriptor) (b : List ℕ) (c : ℕ) (hc : c < n) where
  -- each record is seen
  in-view : (j : ℕ) → j < n → Among j (idxs (view dir n ds b c))
  in-view j h =
      let (d, hd, e) = place-onto n c j hc h in
      rw (view-tab dir n ds b c hc) (rw e at (among-tab n (λ d. cell_in dir ds b (place n c d)) d hd))

  -- each record that is seen in a part of the view, by its cell
  cell-of : (p xs q : List Cell) → view dir n ds b c ≡ p ++ (xs ++ q) → (j : ℕ) → Among j (idxs xs)
      → (a : List Cell) × (x : Cell) × (d : List Cell) × (xs ≡ a ++ x ∷ d) × (j ≡ x.idx) × (x ≡ cell_in dir ds b j) × (j ≡ place n c (length p + length a))
  cell-of p [] q v j h = absurd h
  cell-of p (x ∷ xs) q v j (inl e) =
      ([], x, xs, refl, e, rw e (own dir n ds b c hc p (xs ++ q) x v).1, e ∙ placed_at dir n ds b c hc p (xs ++ q) x v ∙ ap (place n c) (sym (add-zero (length p))))
  cell-of p (y ∷ xs) q v j (inr h) =
      let (a, x, d, e, i, o, l) = cell-of (p ++ (y ∷ [])) xs q (v ∙ sym (append_assoc p (y ∷ []) (xs ++ q))) j h in (
        y ∷ a,
        x,
        d,
        ap (λ (r : List Cell). y ∷ r) e,
        i,
        o,
        l ∙ ap (place n c) (let z : length p + 1 + length a ≡ length p + suc (length a) = omega arith in ap (λ (m : ℕ). m + length a) (length-append p (y ∷ [])) ∙ z),
      )

cpus-at : (a : List Cell) (x : Cell) (d : List Cell) → Cpus (owners (a ++ x ∷ d)) → x.desc.owner ≡ Cpu
cpus-at [] x d h = h.0
cpus-at (y ∷ a) x d h = cpus-at a x d h.1

linked-at : (a : List Cell) (x : Cell) (d : List Cell) → Linked (a ++ x ∷ d) → x.desc.owner ≡ Dma
linked-at [] x d h = h.0
linked-at (y ∷ a) x d h = linked-at a x d h.2

module _ (dir : TransferDirection) (len : ℕ) (r : Ring) (b : List ℕ) (dev : Option ℕ) (t : ℕ) (run rest : List Cell) (o : Order dir len r b dev t run rest) where
  -- a record of the run, by its cell
  pub run-cell : (j : ℕ) → Among j (idxs run)
      → (a : List Cell) × (x : Cell) × (d : List Cell) × (run ≡ a ++ x ∷ d) × (j ≡ x.idx) × (x ≡ cell_in dir r.descriptors b j) × (j ≡ place r.count r.idx (0 + length a))
  run-cell j h = cell-of dir r.count r.descriptors b r.idx o.parted.stored.cursor [] run rest o.parted.seen j h

  -- a record of the run is the CPU's, and one of the queue the DMA's
  pub run-cpu : (j : ℕ) → Among j (idxs run) → (record_of r j).owner ≡ Cpu
  run-cpu j h =
      let (a, x, d, e, i, q, l) = run-cell j h in
      ap (λ (y : Cell). y.desc.owner) (sym q) ∙ cpus-at a x d (subst (λ (l : List Cell). Cpus (owners l)) e o.parted.cpus)

  queue-cell : (j : ℕ) → Among j (idxs rest)
      → (a : List Cell) × (x : Cell) × (d : List Cell) × (rest ≡ a ++ x ∷ d) × (j ≡ x.idx) × (x ≡ cell_in dir r.descriptors b j) × (j ≡ place r.count r.idx (length run + length a))
  queue-cell j h =
      let s = o.parted in
      cell-of dir r.count r.descriptors b r.idx s.stored.cursor run rest [] (s.seen ∙ ap (λ (l : List Cell). run ++ l) (sym (append-nil rest))) j h

  pub queue-below : (j : ℕ) → Among j (idxs rest) → j < r.count
  queue-below j h =
      let (a, x, d, e, i, q, l) = queue-cell j h in
      let k : length rest ≡ length a + suc (length d) = ap length e ∙ length-append a (x ∷ d) in
      subst (λ (m : ℕ). m < r.count) (sym l)
      (place-lt r.count r.idx (length run + length a) o.parted.stored.cursor
      (omega (arith, parts-length dir r.count len r.descriptors b r.idx r.offset run rest o.parted)))

  pub queue-dma : (j : ℕ) → Among j (idxs rest) → (record_of r j).owner ≡ Dma
  queue-dma j h =
      let (a, x, d, e, i, q, l) = queue-cell j h in
      ap (λ (y : Cell). y.desc.owner) (sym q) ∙ linked-at a x d (subst Linked e o.parted.linked)

  -- when its turn comes
  pub queue-turn : (j : ℕ) → Among j (idxs rest) → (e : ℕ) × (e < length rest) × (j ≡ turn r.count (t + e))
  queue-turn j h =
      let (a, x, d, e, i, q, l) = queue-cell j h in
      let k : length rest ≡ length a + suc (length d) = ap length e ∙ length-append a (x ∷ d) in
      let m : length run + length rest ≡ r.count = parts-length dir r.count len r.descriptors b r.idx r.offset run rest o.parted in (
        length a,
        omega arith,
        l ∙ turn-place r.count r.idx (length run) t (length a) o.parted.stored.cursor (omega arith) o.turned,
      )

  pub locate : (j : ℕ) → j < r.count → Among j (idxs run) ⊎ Among j (idxs rest)
  locate j h =
      let s = o.parted in
      among-append j (idxs run) (idxs rest)
      (subst (Among j) (ap idxs s.seen ∙ map-append (λ (x : Cell). x.idx) run rest) (in-view dir r.count r.descriptors b r.idx s.stored.cursor j h))

  -- QUEUED ARE EXACTLY THE RECORDS THAT THE DMA OWNS
  pub queued-iff : (j : ℕ) → j < r.count → Among j (idxs rest) ↔ ((record_of r j).owner ≡ Dma)
  queued-iff j h = (queue-dma j, λ d. go d (locate j h))
    where
      go : (record_of r j).owner ≡ Dma → Among j (idxs run) ⊎ Among j (idxs rest) → Among j (idxs rest)
      go d (inl k) = absurd (cpu-not-dma (record_of r j).owner (run-cpu j k) d)
      go d (inr k) = k

-- NOTHING IS QUEUED EXACTLY WHEN THE CPU OWNS EVERY RECORD
pub none-queued : (dir : TransferDirection) (len : ℕ) (r : Ring) (b : List ℕ) (dev : Option ℕ) (t : ℕ) (run rest : List Cell) → Order dir len r b dev t run rest
    → (first (idxs rest) ≡ None) ↔ ((j : ℕ) → j < r.count → (record_of r j).owner ≡ Cpu)
none-queued dir len r b dev t run [] o = (λ e j h. go j (locate dir len r b dev t run [] o j h), λ f. refl)
  where
    go : (j : ℕ) → Among j (idxs run) ⊎ Among j [] → (record_of r j).owner ≡ Cpu
    go j (inl k) = run-cpu dir len r b dev t run [] o j k
    go j (inr k) = absurd k
none-queued dir len r b dev t run (y ∷ ys) o = (
  λ e. absurd (stopped-not (Some y.idx) y.idx refl e),
  λ f. absurd (cpu-not-dma (record_of r y.idx).owner (f y.idx (head-stored dir len r b dev t run y ys o).0) (queue-dma dir len r b dev t run (y ∷ ys) o y.idx (inl refl))),
)
