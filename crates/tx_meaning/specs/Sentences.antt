-- Document 01's own sentences on available bytes and on `prepare`, over plain lists of records.
use Rattle.std.specs.Prelude.{◌≡◌, refl, Bool, true, ◌⊎◌, List, [], ◌∷◌, ◌++◌, ℕ, zero, suc, ◌+◌, ◌-◌, ◌≤◌, ◌<◌, take, Ok, Err}
use Rattle.std.proofs.Common.{sym, ◌∙◌, subst, inl, inr, add-one, arith, eq-eqb, take-suc}
use Rattle.std.proofs.Math.Path.{ap}
use Rattle.std.proofs.Math.Bool.{cond}
use Rattle.std.proofs.Math.Decide.{dec_lt}
use Rattle.descriptors.specs.Record.{blank, record_in, linked}
use Rattle.descriptors.specs.Split.{start_of, size_of}
use Rattle.descriptors.specs.Ring.{Ring, refused, record_of, sound, split_sound, linked_all}
use Rattle.descriptors.specs.Walk.{available_in}
use Rattle.descriptors.specs.declared.record.DmaDescriptor.{DmaDescriptor}
use Rattle.descriptors.specs.declared.record.TransferDirection.{TransferDirection}
use Rattle.descriptors.specs.declared.record.TransferDirection.TheVariants.{Out}
use Rattle.descriptors.specs.declared.refusal.DmaBufError.TheVariants.{BadState}
use Rattle.ring_order.specs.Geometry.{Geometry, apart, within}
use Rattle.ring_order.specs.Shape.{Laid, Sound, sound-of, grounds, laid_of}
use Rattle.ring_order.specs.Rows.{total, turned, cpu_owned, available-row}
use Rattle.ring_order.specs.Begin.{linked-record}
use Rattle.tx_stream.specs.Transmit.{available_of, Marked, marked_at, marked_ready, reached, prepared_as, prepare_of}
use Rattle.both_ends.specs.transmit.Blocks.{Edge, inner, edge-next, edge_same}
use Rattle.both_ends.specs.transmit.Prepared.{readied, freed, Held, short, whole, Marks, marks}

-- "`available_bytes`: sizes of the CPU-owned run from the cursor, less offset"
pub available-bytes : (r : Ring) (len : ℕ) → sound Out r len ≡ true
    → available_of r len ≡ Ok (total Out (cpu_owned (turned r.descriptors r.count r.idx)) - r.offset)
unfolding available_of
available-bytes r len s =
    let f : Sound Out r len = sound-of Out r len s in
    ap (λ (t : Bool). cond t (Ok (available_in Out r)) (Err BadState)) s
    ∙ ap Ok (available-row Out r f.shape.laid.enough f.cursor)

-- ---- the sizes of the first records

total-append : (dir : TransferDirection) (xs ys : List DmaDescriptor) → total dir (xs ++ ys) ≡ total dir xs + total dir ys
total-append dir [] ys = omega arith
total-append dir (x ∷ xs) ys = omega (arith, total-append dir xs ys)

more-size : (n len : ℕ) (ds : List DmaDescriptor) → Laid n len ds → (k : ℕ) → k < n → total Out (take (suc k) ds) ≡ total Out (take k ds) + size_of n len k
more-size n len ds l k h =
    let e : total Out (take (suc k) ds) ≡ total Out (take k ds) + ((record_in ds k).size + 0) =
    ap (total Out) (take-suc ds k blank (omega (arith, l.enough))) ∙ total-append Out (take k ds) (record_in ds k ∷ []) in
    omega (arith, l.room k h)

first-sizes : (n len : ℕ) (ds : List DmaDescriptor) → Laid n len ds → (k : ℕ) → k ≤ n → Edge n len k (total Out (take k ds))
first-sizes n len ds l zero h = inner (omega (arith, (grounds n len ds l).many)) (sym (grounds n len ds l).first)
first-sizes n len ds l (suc k) h =
    subst (λ (x : ℕ). Edge n len (suc k) x) (sym (more-size n len ds l k h))
    (subst (λ (i : ℕ). Edge n len i (total Out (take k ds) + size_of n len k)) (add-one k) (edge-next (grounds n len ds l) (first-sizes n len ds l k (omega arith)) h))

-- they are where the next record starts
sizes-start : (n len : ℕ) (ds : List DmaDescriptor) → Laid n len ds → (k : ℕ) → k < n → total Out (take k ds) ≡ start_of n len k
sizes-start n len ds l k h = edge_same (first-sizes n len ds l k (omega arith)) (inner h refl)

-- ---- `prepare`

-- what it leaves of r: d records are queued, of the lengths that K says, and the cursor is (c, o); "the count is then 0", and
-- "`prepare` leaves the tally alone"
pub record Leaves (r : Ring) (d : ℕ) (K : ℕ → ℕ) (c o : ℕ) (r' : Ring) : Type 0 where
  pub idx : r'.idx ≡ c
  pub offset : r'.offset ≡ o
  pub queue : (j : ℕ) → j < d → record_of r' j ≡ readied d (K j) j (record_of r j)
  pub free : (j : ℕ) → d ≤ j → j < r.count → record_of r' j ≡ freed r.count j (record_of r j)
  pub prefilled : r'.prefilled ≡ 0
  pub tally : r'.tally ≡ r.tally

leaves : (r : Ring) (len b : ℕ) (m : Marked) (k : Marks r.count len b r.descriptors m) (d : ℕ) (K : ℕ → ℕ) (c o : ℕ) → k.d ≡ d → ((j : ℕ) → j < k.d → k.K j ≡ K j) → m.at ≡ c → m.offset ≡ o
    → Leaves r d K c o (prepared_as r m)
leaves r len b m k d K c o e f i z =
    record {
      idx = i;
      offset = z;
      queue = λ j h.
          let l : j < k.d = omega arith in
          k.queue j l ∙ ap (λ (x : ℕ). readied k.d x j (record_of r j)) (f j l) ∙ ap (λ (x : ℕ). readied x (K j) j (record_of r j)) e;
      free = λ j h l. k.free j (omega arith) l;
      prefilled = refl;
      tally = refl;
    }

-- a place in the buffer is in one record only
one-part : (n len : ℕ) → Geometry n len → (i j o p : ℕ) → i < n → j < n → start_of n len i + o ≡ start_of n len j + p → o < size_of n len i → p < size_of n len j → i ≡ j
one-part n len G i j o p hi hj e ho hp = go (dec_lt i j) (dec_lt j i)
  where
    go : Dec (i < j) → Dec (j < i) → i ≡ j
    go (yes a) c = absurd (omega (arith, apart n len G i j a hj))
    go (no a) (yes c) = absurd (omega (arith, apart n len G j i c hi))
    go (no a) (no c) = omega arith

module _ (r : Ring) (len : ℕ) (h : split_sound r len ≡ true) where
  laid-here : Laid r.count len r.descriptors
  laid-here = (laid_of r len h).0

  ground-here : Geometry r.count len
  ground-here = grounds r.count len r.descriptors laid-here

  abbrev marked : Marked
  marked = marked_ready r.count r.prefilled (linked_all Out r.count r.descriptors)

  prepare-is : (prepare_of r len).ring ≡ prepared_as r marked
  unfolding prepare_of
  prepare-is = ap (λ (t : Bool). (cond t record { ring = prepared_as r marked; answer = Ok tt } (refused r (Err BadState))).ring) h

  marks-here : 0 < r.prefilled → Marks r.count len r.prefilled r.descriptors marked
  marks-here hb = marks r.count len r.prefilled r.descriptors laid-here hb (laid_of r len h).1

  -- "b = 0: cursor (0,0), nothing else changed": nothing but the links and the owners
  pub prepare-none : r.prefilled ≡ 0
      → ((prepare_of r len).ring.idx ≡ 0) × ((prepare_of r len).ring.offset ≡ 0) × ((j : ℕ) → j < r.count → record_of (prepare_of r len).ring j ≡ linked Out r.count j (record_of r j))
  prepare-none e =
      let ds : List DmaDescriptor = linked_all Out r.count r.descriptors in
      let m : marked ≡ record { descriptors = ds; at = 0; offset = 0 } = none-marked e in (
        ap (λ (x : Ring). x.idx) prepare-is ∙ ap (λ (x : Marked). x.at) m,
        ap (λ (x : Ring). x.offset) prepare-is ∙ ap (λ (x : Marked). x.offset) m,
        λ j l. ap (λ (x : Ring). record_of x j) prepare-is ∙ ap (λ (x : Marked). record_in x.descriptors j) m ∙ linked-record Out r.count r.descriptors laid-here.enough j l,
      )
    where
      none-marked : r.prefilled ≡ 0 → marked ≡ record { descriptors = linked_all Out r.count r.descriptors; at = 0; offset = 0 }
      none-marked e = unfold marked_ready in ap (λ (t : Bool). cond t record { descriptors = linked_all Out r.count r.descriptors; at = 0; offset = 0 } (marked_at r.count r.prefilled (linked_all Out r.count r.descriptors) (reached (record_in (linked_all Out r.count r.descriptors)) r.count 0 r.prefilled))) (eq-eqb r.prefilled 0 e)

  abbrev Cursor : ℕ → Marked → Type 0
  Cursor d m = ((d < r.count) × (m.at ≡ d) × (m.offset < size_of r.count len d)) ⊎ ((d ≡ r.count) × (m.at ≡ 0) × (m.offset ≡ 0))

  -- ---- "If the bytes end inside record 0, it is sent short with EOF, cursor (1,0)."

  short-marks : (b : ℕ) (m : Marked) (k : Marks r.count len b r.descriptors m) → b < size_of r.count len 0 → Held r.count len b k.d k.K m.offset → Cursor k.d m
      → Leaves r 1 (λ j. b) 1 0 (prepared_as r m)
  short-marks b m k l (short e f g z) (inl (c, i, q)) =
      leaves r len b m k 1 (λ j. b) 1 0 e (λ j x. let y : j ≡ 0 = omega arith in ap k.K y ∙ f) (i ∙ e) z
  short-marks b m k l (short e f g z) (inr (c, i, q)) = absurd (omega (arith, ground-here.many))
  short-marks b m k l (whole f g e) (inl (c, i, q)) =
      absurd (omega (arith, g c, apart r.count len ground-here 0 k.d k.some c, ground-here.first))
  short-marks b m k l (whole f g e) (inr (c, i, q)) = absurd (omega (arith, e c, within r.count len ground-here 0 (omega (arith, ground-here.many))))

  pub prepare-short : 0 < r.prefilled → r.prefilled < (record_of r 0).size → Leaves r 1 (λ j. r.prefilled) 1 0 (prepare_of r len).ring
  prepare-short hb l =
      let k = marks-here hb in
      subst (Leaves r 1 (λ j. r.prefilled) 1 0) (sym prepare-is)
      (short-marks r.prefilled marked k (omega (arith, laid-here.room 0 (omega (arith, ground-here.many)))) k.bytes k.cursor)

  -- ---- "If they end at the start of, or inside, record d > 0, the cursor is (d, rest)."

  later-marks : (b d o : ℕ) (m : Marked) (k : Marks r.count len b r.descriptors m) → 0 < d → d < r.count → start_of r.count len d + o ≡ b → o < size_of r.count len d
      → Held r.count len b k.d k.K m.offset → Cursor k.d m → Leaves r d (λ j. (record_of r j).size) d o (prepared_as r m)
  later-marks b d o m k hs hd s l (short e f g z) q = absurd (omega (arith, apart r.count len ground-here 0 d hs hd, ground-here.first))
  later-marks b d o m k hs hd s l (whole f g e) (inl (c, i, q)) =
      let x : k.d ≡ d = one-part r.count len ground-here k.d d m.offset o c hd (g c ∙ sym s) q l in
      let y : start_of r.count len k.d ≡ start_of r.count len d = ap (start_of r.count len) x in
      leaves r len b m k d (λ j. (record_of r j).size) d o x (λ j v. f j v ∙ sym (laid-here.room j (omega arith))) (i ∙ x) (omega (arith, g c))
  later-marks b d o m k hs hd s l (whole f g e) (inr (c, i, q)) = absurd (omega (arith, e c, within r.count len ground-here d hd))

  pub prepare-later : (d o : ℕ) → 0 < d → d < r.count → total Out (take d r.descriptors) + o ≡ r.prefilled → o < (record_of r d).size
      → Leaves r d (λ j. (record_of r j).size) d o (prepare_of r len).ring
  prepare-later d o hs hd e l =
      let t : total Out (take d r.descriptors) ≡ start_of r.count len d = sizes-start r.count len r.descriptors laid-here d hd in
      let hb : 0 < r.prefilled = omega (arith, apart r.count len ground-here 0 d hs hd, ground-here.some 0 (omega arith)) in
      let k = marks-here hb in
      subst (Leaves r d (λ j. (record_of r j).size) d o) (sym prepare-is)
      (later-marks r.prefilled d o marked k hs hd (omega arith) (omega (arith, laid-here.room d hd)) k.bytes k.cursor)

  -- ---- "All filled: cursor (0,0)."

  all-marks : (b : ℕ) (m : Marked) (k : Marks r.count len b r.descriptors m) → b ≡ len → Held r.count len b k.d k.K m.offset → Cursor k.d m
      → Leaves r r.count (λ j. (record_of r j).size) 0 0 (prepared_as r m)
  all-marks b m k l (short e f g z) q = absurd (omega (arith, within r.count len ground-here 0 (omega (arith, ground-here.many))))
  all-marks b m k l (whole f g e) (inl (c, i, q)) = absurd (omega (arith, g c, within r.count len ground-here k.d c))
  all-marks b m k l (whole f g e) (inr (c, i, q)) =
      leaves r len b m k r.count (λ j. (record_of r j).size) 0 0 c (λ j v. f j v ∙ sym (laid-here.room j (omega arith))) i q

  pub prepare-all : r.prefilled ≡ len → Leaves r r.count (λ j. (record_of r j).size) 0 0 (prepare_of r len).ring
  prepare-all e =
      let hb : 0 < r.prefilled = omega (arith, within r.count len ground-here 0 (omega (arith, ground-here.many)), ground-here.some 0 (omega (arith, ground-here.many))) in
      let k = marks-here hb in
      subst (Leaves r r.count (λ j. (record_of r j).size) 0 0) (sym prepare-is) (all-marks r.prefilled marked k e k.bytes k.cursor)
