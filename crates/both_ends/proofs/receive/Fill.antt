-- The receive step of the device.
use Rattle.std.specs.Prelude.{◌≡◌, refl, Bool, true, false, cond, ◌≢◌, List, [], ◌∷◌, ◌++◌, ℕ, suc, ◌+◌, ◌≤◌, ◌<◌, leb, ltb, length, take, drop, Ok, Err, Some, None, Option}
use Rattle.std.proofs.Common.{sym, ◌∙◌, subst, append_assoc, append-nil, arith, length-append, ltb-true, leb-true, lt-ltb}
use Rattle.std.proofs.Math.Path.{ap}
use Rattle.std.proofs.lemmas.List.{map-append, drop-append-le}
use Rattle.std.proofs.Math.Seq.{paste}
use Rattle.std.proofs.lemmas.List.Edits.{length-paste}
use Rattle.descriptors.specs.Record.{record_in, update, closed}
use Rattle.descriptors.specs.Ring.{Ring, record_of, with_records, sound}
use Rattle.descriptors.specs.declared.record.DmaDescriptor.{DmaDescriptor}
use Rattle.descriptors.specs.declared.record.TransferDirection.TheVariants.{In}
use Rattle.descriptors.specs.declared.refusal.DmaBufError.TheVariants.{BadState, BadStep, Stopped}
use Rattle.descriptors.specs.laws.Tests.{and_split}
use Rattle.descriptors.specs.laws.Updates.{update_same, update_other}
use Rattle.device.specs.Device.{Stepped, stand_of, fits, receive_by, receive_of, receive_into_by, receive_into}
use Rattle.ring_order.specs.Places.{turn}
use Rattle.ring_order.specs.Lists.{paste-here, paste-far, Somes, somes-append}
use Rattle.ring_order.specs.Geometry.{within, disjoint}
use Rattle.ring_order.specs.Shape.{Shape}
use Rattle.ring_order.specs.Stores.{shape-update}
use Rattle.ring_order.specs.View.{Cell, cell_in}
use Rattle.ring_order.specs.Queue.{idxs, helds, cat, cat-append, first, inside-cat, Stored, ground}
use Rattle.ring_order.specs.Order.{Order, Head, head_at, head-stored, head-next, order-step, first-none, stands-below}
use Rattle.ring_order.specs.Skeleton.{steps}
use Rattle.both_ends.specs.Demand3.{World, told_done, stands_on, stepped, rx_step, fill}
use Rattle.both_ends.proofs.Shared.{alone}
use Rattle.descriptors.specs.Refusal.{Answer}
use Rattle.both_ends.proofs.receive.Good.{Good, Leads, good-sound, idle}

-- a cell that was filled
abbrev fill_c : Cell → List ℕ → Bool → Cell
fill_c x bs e = record { idx = x.idx; desc = closed (length bs) e x.desc; held = bs }

-- ---- the record and the bytes

module _ (n len : ℕ) (ds : List DmaDescriptor) (b : List ℕ) (c : ℕ) (s : Stored n len ds b c) (i : ℕ) (hi : i < n) (bs : List ℕ) (e : Bool) (hb : length bs ≤ (record_in ds i).size) where
  fill-room : (record_in ds i).buffer + length bs ≤ length b
  fill-room = omega (arith, within n len (ground In n len ds b c s) i hi, s.shape.laid.start i hi, s.shape.laid.room i hi, s.whole)

  fill-same : cell_in In (update ds i (closed (length bs) e)) (paste b (record_in ds i).buffer bs (length bs)) i ≡ fill_c (cell_in In ds b i) bs e
  fill-same =
      ap (λ (d : DmaDescriptor). record { idx = i; desc = d; held = take d.length (drop d.buffer (paste b (record_in ds i).buffer bs (length bs))) })
      (update_same ds i (closed (length bs) e) (omega (arith, s.shape.laid.enough)))
      ∙ ap (λ (h : List ℕ). record { idx = i; desc = closed (length bs) e (record_in ds i); held = h }) (paste-here b (record_in ds i).buffer bs fill-room)

  fill-other : (j : ℕ) → j < n → j ≢ i → cell_in In (update ds i (closed (length bs) e)) (paste b (record_in ds i).buffer bs (length bs)) j ≡ cell_in In ds b j
  fill-other j hj ne =
      let lj : (record_in ds j).length ≤ (record_in ds j).size = s.shape.lengths j hj in
      let sj = s.shape.laid.start j hj in
      let rj = s.shape.laid.room j hj in
      let si = s.shape.laid.start i hi in
      let ri = s.shape.laid.room i hi in
      ap (λ (d : DmaDescriptor). record { idx = j; desc = d; held = take d.length (drop d.buffer (paste b (record_in ds i).buffer bs (length bs))) })
      (update_other ds i j (closed (length bs) e) ne)
      ∙ ap (λ (h : List ℕ). record { idx = j; desc = record_in ds j; held = h })
      (paste-far b (record_in ds i).buffer bs (record_in ds j).buffer (record_in ds j).length fill-room
      (disjoint n len (ground In n len ds b c s) i j hi hj ne (record_in ds j).buffer (record_in ds j).length (record_in ds i).buffer (length bs) (omega arith) (omega arith) (omega arith) (omega arith)))

  fill-shape : Shape n len (update ds i (closed (length bs) e))
  fill-shape = shape-update n len ds i (closed (length bs) e) s.shape hi record { start = refl; room = refl; length = hb; next = s.shape.nexts i hi }

  fill-whole : length (paste b (record_in ds i).buffer bs (length bs)) ≡ len
  fill-whole = length-paste b (record_in ds i).buffer bs (length bs) fill-room (omega arith) ∙ s.whole

-- ---- the step, by what it finds

abbrev fills_by : World → List ℕ → List ℕ → Stepped (Answer Unit) → World
fills_by w b bs s = stepped w s b (told_done s.answer bs) (told_done s.answer (stands_on w.device))

module _ (w : World) (bs : List ℕ) (eof : Bool) where
  abbrev filled_by : Answer ℕ → World
  filled_by s = fills_by w (receive_into_by w.ring w.bytes bs s) bs (receive_by w.ring w.device (length bs) eof s)

  step_by : (s : Answer ℕ) → stand_of In w.ring (length w.bytes) w.device ≡ s → rx_step w (fill bs eof) ≡ filled_by s
  unfolding rx_step receive_of receive_into
  step_by s e = ap filled_by e

  -- on record i, by whether the bytes fit
  abbrev on_record : ℕ → Bool → World
  on_record i t =
      fills_by w (cond t (paste w.bytes (record_of w.ring i).buffer bs (length bs)) w.bytes) bs
      (cond t
      record { ring = with_records w.ring (update w.ring.descriptors i (closed (length bs) eof)); device = (record_of w.ring i).next; answer = Ok tt }
      record { ring = w.ring; device = w.device; answer = Err BadStep })

  pub stands-stopped : sound In w.ring (length w.bytes) ≡ true → w.device ≡ None → stand_of In w.ring (length w.bytes) w.device ≡ Err Stopped
  stands-stopped h e =
      ap (stand_of In w.ring (length w.bytes)) e ∙ ap (λ (t : Bool). cond t (Err Stopped) (Err BadState)) h

  stands_on_lem : (i : ℕ) → sound In w.ring (length w.bytes) ≡ true → w.device ≡ Some i → i < w.ring.count → stand_of In w.ring (length w.bytes) w.device ≡ Ok i
  stands_on_lem i h e l = ap (stand_of In w.ring (length w.bytes)) e ∙ simp (h, lt-ltb i w.ring.count l)

  pub step-stopped : sound In w.ring (length w.bytes) ≡ true → w.device ≡ None → rx_step w (fill bs eof) ≡ w
  step-stopped h e = step_by (Err Stopped) (stands-stopped h e) ∙ alone w

  pub step-on : (i : ℕ) (t : Bool) → sound In w.ring (length w.bytes) ≡ true → w.device ≡ Some i → i < w.ring.count → fits (length bs) (record_of w.ring i) ≡ t
      → rx_step w (fill bs eof) ≡ on_record i t
  step-on i t h e l f = step_by (Ok i) (stands_on_lem i h e l) ∙ ap (on_record i) f

-- the bytes of a record that joins the run are unread behind the others
unread-snoc : (o : ℕ) (xs : List Cell) (y : Cell) → o ≤ length (cat xs) → drop o (cat (xs ++ (y ∷ []))) ≡ drop o (cat xs) ++ y.held
unread-snoc o xs y h =
    ap (drop o) (cat-append xs (y ∷ []) ∙ ap (λ (l : List ℕ). cat xs ++ l) (append-nil y.held)) ∙ drop-append-le o (cat xs) y.held h

-- THE QUEUE'S FIRST IS FILLED: it joins the run
fill-order : (len : ℕ) (r : Ring) (b : List ℕ) (dev : Option ℕ) (t : ℕ) (front : List Cell) (x : Cell) (xs : List Cell) → Order In len r b dev t front (x ∷ xs) → (bs : List ℕ) (e : Bool)
    → length bs ≤ (record_of r x.idx).size
    → Order In len (with_records r (update r.descriptors x.idx (closed (length bs) e))) (paste b (record_of r x.idx).buffer bs (length bs)) (record_of r x.idx).next (suc t) (front ++ (fill_c x bs e ∷ [])) xs
fill-order len r b dev t front x xs o bs e hb =
    let s = o.parted.stored in
    let (hx, ex) = head-stored In len r b dev t front x xs o in
    order-step In len r b dev t front x xs o (update r.descriptors x.idx (closed (length bs) e)) (paste b (record_of r x.idx).buffer bs (length bs)) (fill_c x bs e)
    (fill-shape r.count len r.descriptors b r.idx s x.idx hx bs e hb)
    (fill-whole r.count len r.descriptors b r.idx s x.idx hx bs e hb)
    (fill-other r.count len r.descriptors b r.idx s x.idx hx bs e hb)
    (fill-same r.count len r.descriptors b r.idx s x.idx hx bs e hb ∙ ap (λ (y : Cell). fill_c y bs e) (sym ex))
    refl

ends-fill : (rc tk u v bs : List ℕ) → rc ≡ tk ++ u → v ≡ u ++ bs → rc ++ bs ≡ tk ++ v
ends-fill rc tk u v bs e f = ap (λ (l : List ℕ). l ++ bs) e ∙ append_assoc tk u bs ∙ ap (λ (l : List ℕ). tk ++ l) (sym f)

module _ (n len q : ℕ) (w : World) (bs : List ℕ) (eof : Bool) (g : Good n len q w) (i : ℕ) (d : w.device ≡ Some i) where
  on_one : w.visited ++ stands_on w.device ≡ w.visited ++ (i ∷ [])
  on_one = ap (λ (x : Option ℕ). w.visited ++ stands_on x) d

  one_more : suc (length w.visited) ≡ length (w.visited ++ stands_on w.device)
  one_more = let z : suc (length w.visited) ≡ length w.visited + 1 = omega arith in z ∙ sym (ap length on_one ∙ length-append w.visited (i ∷ []))

  fill-head : (x : Cell) (xs : List Cell) → Order In len w.ring w.bytes w.device (length w.visited) g.front (x ∷ xs) → q ≡ suc (length xs) → i ≡ turn n (length w.visited) → 0 < length bs
      → length bs ≤ (record_of w.ring x.idx).size → Leads n len q w (on_record w bs eof x.idx true)
  fill-head x xs o hq it hp hb =
      let y : Cell = fill_c x bs eof in
      let next : (record_of w.ring x.idx).next ≡ first (idxs xs) = head-next In len w.ring w.bytes w.device (length w.visited) g.front x xs o in (
        length xs,
        record {
          count = g.count;
          front = g.front ++ (y ∷ []);
          queue = xs;
          size = refl;
          order = subst (λ (t : ℕ). Order In len (on_record w bs eof x.idx true).ring (on_record w bs eof x.idx true).bytes (record_of w.ring x.idx).next t (g.front ++ (y ∷ [])) xs) one_more
              (fill-order len w.ring w.bytes w.device (length w.visited) g.front x xs o bs eof hb);
          some = subst Somes (sym (map-append (λ (z : Cell). z.held) g.front (y ∷ []))) (somes-append (helds g.front) (bs ∷ []) g.some (hp, tt));
          ends = ends-fill w.by_steps w.by_calls (drop w.ring.offset (cat g.front)) (drop w.ring.offset (cat (g.front ++ (y ∷ [])))) bs g.ends
              (unread-snoc w.ring.offset g.front y (inside-cat w.ring.offset g.front o.parted.offset));
          tally = g.tally;
        },
        steps (d ∙ ap Some it) (on_one ∙ ap (λ (j : ℕ). w.visited ++ (j ∷ [])) it) hq (λ e. first-none xs (sym next ∙ e)),
      )

  fill-at : Head w.ring.count i (length w.visited) g.queue → 0 < length bs → length bs ≤ (record_of w.ring i).size → Leads n len q w (on_record w bs eof i true)
  fill-at h hp hb =
      let o = subst (Order In len w.ring w.bytes w.device (length w.visited) g.front) h.queue g.order in
      let hq : q ≡ suc (length h.behind) = sym g.size ∙ ap length h.queue in
      let it : i ≡ turn n (length w.visited) = h.turns ∙ ap (λ (m : ℕ). turn m (length w.visited)) g.count in
      subst (λ (j : ℕ). Leads n len q w (on_record w bs eof j true)) (sym h.number)
      (fill-head h.head h.behind o hq it hp (subst (λ (j : ℕ). length bs ≤ (record_of w.ring j).size) h.number hb))

  fill-by : (t : Bool) → fits (length bs) (record_of w.ring i) ≡ t → Leads n len q w (on_record w bs eof i t)
  fill-by true f =
      let (p, b) = and_split (ltb 0 (length bs)) (leb (length bs) (record_of w.ring i).size) f in
      fill-at (head_at In len w.ring w.bytes w.device (length w.visited) g.front g.queue g.order i d) (ltb-true 0 (length bs) p)
      (leb-true (length bs) (record_of w.ring i).size b)
  fill-by false f = subst (Leads n len q w) (sym (alone w)) (idle n len q w g)

  fill_on : Leads n len q w (rx_step w (fill bs eof))
  fill_on =
      let t : Bool = fits (length bs) (record_of w.ring i) in
      subst (Leads n len q w) (sym (step-on w bs eof i t (good-sound n len q w g) d (stands-below In len w.ring w.bytes w.device (length w.visited) g.front g.queue g.order i d) refl)) (fill-by t refl)

pub fill-good : (n len q : ℕ) (w : World) → Good n len q w → (bs : List ℕ) (eof : Bool) → Leads n len q w (rx_step w (fill bs eof))
fill-good n len q w g bs eof = go w.device refl
  where
    go : (x : Option ℕ) → w.device ≡ x → Leads n len q w (rx_step w (fill bs eof))
    go None d = subst (Leads n len q w) (sym (step-stopped w bs eof (good-sound n len q w g) d)) (idle n len q w g)
    go (Some i) d = fill_on n len q w bs eof g i d
