-- What a call leaves in the words and the head is the ring that the next call reads. So calls on words, one after another, are the rules
-- on rings, one after another: those that demand 3 is about.
use Rattle.std.specs.Prelude.{ℕ, zero, suc, ◌+◌, ◌*◌, ◌-◌, ◌≤◌, ◌<◌, ◌≡◌, refl, Bool, true, false, cond, List, [], ◌∷◌, ◌++◌, map, eqb, leb, ltb, get_or, length, Ok, Err, Some, None, Option}
use Rattle.std.proofs.Common.{sym, ◌∙◌, ap, arith, lt-ltb, length-append, length-set, get_or-append-add, ext_get_or}
use Rattle.std.proofs.Math.Decide.{dec_lt}
use Rattle.std.proofs.Math.ListN.{get_or-append, get_or-map}
use Rattle.std.proofs.Math.Seq.{map-set_same}
use Rattle.descriptors.specs.Record.{limit, blank, record_in, update, up_to, linked, handed, with_owner, with_next, closed, sent}
use Rattle.descriptors.specs.Place.{after, before, turns}
use Rattle.descriptors.specs.Cells.{cells, record_at, are_records, records_of, starts_of, cells_of, starts_now, cells_now, owner_cell, eof_cell, next_cell}
use Rattle.descriptors.specs.Split.{split_of, laid, laid_out}
use Rattle.descriptors.specs.Ring.{Ring, Outcome, refused, fresh, ring_of, head_of, record_of, sound, split_sound, new_of, new_by, linked_all}
use Rattle.descriptors.specs.Walk.{hand_over, moved_to, advanced, available_in}
use Rattle.descriptors.specs.laws.Marks.{owner-read, eof-read, next-read}
use Rattle.descriptors.specs.laws.Lifts.{Words, words, are-records, records-tab, records-none, records-length, record_is}
use Rattle.descriptors.specs.laws.Words.{starts-kept}
use Rattle.descriptors.specs.laws.Updates.{each-length}
use Rattle.descriptors.specs.declared.split.Split.{Split}
use Rattle.descriptors.specs.declared.refusal.DmaBufError.TheVariants.{BadState}
use Rattle.descriptors.specs.declared.record.Owner.{Owner}
use Rattle.descriptors.specs.declared.record.Owner.TheVariants.{Cpu, Dma}
use Rattle.descriptors.specs.declared.record.DmaDescriptor.{DmaDescriptor}
use Rattle.descriptors.specs.declared.record.TransferDirection.{TransferDirection}
use Rattle.descriptors.specs.declared.record.TransferDirection.TheVariants.{In, Out}
use Rattle.descriptors.specs.declared.ring.Head.{Head}
use Rattle.device.specs.Device.{Stepped, stand_of, fits, receive_by, receive_of, transmit_by, transmit_of}
use Rattle.rx_stream.specs.Receive as rx
use Rattle.rx_stream.specs.Receive.{consume_of, pop_of, idle}
use Rattle.tx_stream.specs.Transmit as tx
use Rattle.descriptors.specs.Refusal.{Answer}
use Rattle.tx_stream.specs.Transmit.{Marked, reached, filled, filled_to, cut, cut_at, marked_ready, prefill_of, prefill_commit_of, push_of, offered, accepted_up_to, advance_of, commit_of}

-- ---- the words that show 64 records show just these

map-length : {A B : Type 0} (f : A → B) (l : List A) → length (map f l) ≡ length l
map-length f [] = refl
map-length f (x ∷ l) = ap suc (map-length f l)

owner-small : (o : Owner) → owner_cell o ≤ 1
owner-small Cpu = omega arith
owner-small Dma = omega arith

eof-small : (e : Bool) → eof_cell e ≤ 1
eof-small true = omega arith
eof-small false = omega arith

module _ (xs ys : List ℕ) (h : length xs ≡ limit) where
  here : (n : ℕ) → n < limit → get_or (xs ++ ys) n 0 ≡ get_or xs n 0
  here n l = get_or-append xs ys 0 n (omega arith)

  past : (n : ℕ) → get_or (xs ++ ys) (limit + n) 0 ≡ get_or ys n 0
  past n = ap (λ (k : ℕ). get_or (xs ++ ys) (k + n) 0) (sym h) ∙ get_or-append-add xs ys n 0

module _ (ds : List DmaDescriptor) (h : length ds ≡ limit) where
  abbrev column : (DmaDescriptor → ℕ) → List ℕ
  column g = map g ds

  long : (g : DmaDescriptor → ℕ) → length (column g) ≡ limit
  long g = map-length g ds ∙ h

  abbrev sizes : List ℕ
  sizes = column (λ (d : DmaDescriptor). d.size)

  abbrev lengths : List ℕ
  lengths = column (λ (d : DmaDescriptor). d.length)

  abbrev nexts : List ℕ
  nexts = column (λ (d : DmaDescriptor). next_cell d.next)

  abbrev owners : List ℕ
  owners = column (λ (d : DmaDescriptor). owner_cell d.owner)

  abbrev marks : List ℕ
  marks = column (λ (d : DmaDescriptor). eof_cell d.suc_eof)

  abbrev shown : List ℕ
  shown = sizes ++ (lengths ++ (nexts ++ (owners ++ marks)))

  in-0 : (j : ℕ) → j < limit → get_or shown j 0 ≡ (record_in ds j).size
  in-0 j l = here sizes _ (long _) j l ∙ get_or-map (λ (d : DmaDescriptor). d.size) ds j blank

  in-1 : (j : ℕ) → j < limit → get_or shown (64 + j) 0 ≡ (record_in ds j).length
  in-1 j l = past sizes _ (long _) j ∙ here lengths _ (long _) j l ∙ get_or-map (λ (d : DmaDescriptor). d.length) ds j blank

  in-2 : (j : ℕ) → j < limit → get_or shown (64 + (64 + j)) 0 ≡ next_cell (record_in ds j).next
  in-2 j l =
      past sizes _ (long _) (64 + j) ∙ past lengths _ (long _) j ∙ here nexts _ (long _) j l
      ∙ get_or-map (λ (d : DmaDescriptor). next_cell d.next) ds j blank

  in-3 : (j : ℕ) → j < limit → get_or shown (64 + (64 + (64 + j))) 0 ≡ owner_cell (record_in ds j).owner
  in-3 j l =
      past sizes _ (long _) (64 + (64 + j)) ∙ past lengths _ (long _) (64 + j) ∙ past nexts _ (long _) j ∙ here owners _ (long _) j l
      ∙ get_or-map (λ (d : DmaDescriptor). owner_cell d.owner) ds j blank

  in-4 : (j : ℕ) → j < limit → get_or shown (64 + (64 + (64 + (64 + j)))) 0 ≡ eof_cell (record_in ds j).suc_eof
  in-4 j l =
      past sizes _ (long _) (64 + (64 + (64 + j))) ∙ past lengths _ (long _) (64 + (64 + j)) ∙ past nexts _ (long _) (64 + j) ∙ past owners _ (long _) j
      ∙ get_or-map (λ (d : DmaDescriptor). eof_cell d.suc_eof) ds j blank

  at_place : (a b v : ℕ) → a ≡ b → get_or shown b 0 ≡ v → get_or shown a 0 ≡ v
  at_place a b v e f = ap (λ (k : ℕ). get_or shown k 0) e ∙ f

  mark-small : (j : ℕ) → j < 128 → get_or shown (192 + j) 0 ≤ 1
  mark-small j l = go (dec_lt j limit)
    where
      go : Dec (j < limit) → get_or shown (192 + j) 0 ≤ 1
      go (yes m) = rw (at_place (192 + j) (64 + (64 + (64 + j))) _ (omega arith) (in-3 j m)) (owner-small (record_in ds j).owner)
      go (no m) =
          rw (at_place (192 + j) (64 + (64 + (64 + (64 + (j - 64))))) _ (omega arith) (in-4 (j - 64) (omega arith))) (eof-small (record_in ds (j - 64)).suc_eof)

  whole : length shown ≡ cells
  whole =
      rw (length-append sizes (lengths ++ (nexts ++ (owners ++ marks))), length-append lengths (nexts ++ (owners ++ marks)), length-append nexts (owners ++ marks), length-append owners marks)
      (omega (arith, long (λ (d : DmaDescriptor). d.size), long (λ (d : DmaDescriptor). d.length), long (λ (d : DmaDescriptor). next_cell d.next), long (λ (d : DmaDescriptor). owner_cell d.owner), long (λ (d : DmaDescriptor). eof_cell d.suc_eof)))

  show-words : Words (starts_of ds) shown
  show-words = record { starts = long (λ (d : DmaDescriptor). d.buffer); whole = whole; marks = mark-small }

  show-record : (j : ℕ) → j < limit → record_at (starts_of ds) shown j ≡ record_in ds j
  show-record j l =
      rw (
        lt-ltb j limit l,
        get_or-map (λ (d : DmaDescriptor). d.buffer) ds j blank,
        at_place (limit * 0 + j) j _ (omega arith) (in-0 j l),
        at_place (limit * 1 + j) (64 + j) _ (omega arith) (in-1 j l),
        at_place (limit * 2 + j) (64 + (64 + j)) _ (omega arith) (in-2 j l),
        at_place (limit * 3 + j) (64 + (64 + (64 + j))) _ (omega arith) (in-3 j l),
        at_place (limit * 4 + j) (64 + (64 + (64 + (64 + j)))) _ (omega arith) (in-4 j l),
        next-read,
        owner-read,
        eof-read,
      )
      refl

-- THE WORDS OF 64 RECORDS SHOW JUST THESE
pub shows : (ds : List DmaDescriptor) → length ds ≡ limit → records_of (starts_of ds) (cells_of ds) ≡ ds
unfolding cells_of
shows ds h =
    let a = are-records (starts_of ds) (shown ds h) (show-words ds h) in
    let m = records-length (starts_of ds) (shown ds h) a in
    ext_get_or blank (records_of (starts_of ds) (shown ds h)) ds (m ∙ sym h)
    (λ i l. record_is (starts_of ds) (shown ds h) a i ∙ show-record ds h i (omega arith))

-- ---- changes that leave the number of the records and their starts

pub record Keeps (ds es : List DmaDescriptor) : Type 0 where
  pub many : length es ≡ length ds
  pub starts : starts_of es ≡ starts_of ds

pub keeps-all : (ds : List DmaDescriptor) → Keeps ds ds
keeps-all ds = record { many = refl; starts = refl }

pub keeps_then : {ds es fs : List DmaDescriptor} → Keeps ds es → Keeps es fs → Keeps ds fs
keeps_then a b = record { many = b.many ∙ a.many; starts = b.starts ∙ a.starts }

pub keeps-update : (ds : List DmaDescriptor) (i : ℕ) (f : DmaDescriptor → DmaDescriptor) → (f (record_in ds i)).buffer ≡ (record_in ds i).buffer → Keeps ds (update ds i f)
keeps-update ds i f e =
    record {
      many = length-set ds i (f (record_in ds i));
      starts = map-set_same (λ (d : DmaDescriptor). d.buffer) ds i (f (record_in ds i)) blank e;
    }

pub keeps-up : (f : ℕ → List DmaDescriptor → List DmaDescriptor) → ((i : ℕ) (ds : List DmaDescriptor) → Keeps ds (f i ds)) → (k : ℕ) (ds : List DmaDescriptor) → Keeps ds (up_to f k ds)
unfolding up_to
keeps-up f e zero ds = keeps-all ds
keeps-up f e (suc k) ds = keeps_then (keeps-up f e k ds) (e k (up_to f k ds))

pub keeps-each : (f : ℕ → DmaDescriptor → DmaDescriptor) → ((i : ℕ) (d : DmaDescriptor) → (f i d).buffer ≡ d.buffer) → (k : ℕ) (ds : List DmaDescriptor)
    → Keeps ds (up_to (λ i s. update s i (f i)) k ds)
keeps-each f e k ds = keeps-up (λ i s. update s i (f i)) (λ i s. keeps-update s i (f i) (e i (record_in s i))) k ds

pub keeps-turns : (n : ℕ) (f : ℕ → List DmaDescriptor → List DmaDescriptor) → ((i : ℕ) (ds : List DmaDescriptor) → Keeps ds (f i ds)) → (g i : ℕ) (ds : List DmaDescriptor) → Keeps ds (turns f n g i ds)
unfolding turns
keeps-turns n f e zero i ds = keeps-all ds
keeps-turns n f e (suc g) i ds = keeps_then (e i ds) (keeps-turns n f e g (after n i) (f i ds))

pub keeps-hand : (dir : TransferDirection) (n i : ℕ) (ds : List DmaDescriptor) → Keeps ds (hand_over dir n i ds)
unfolding hand_over
keeps-hand In n i ds = keeps_then (keeps-update ds i (handed In) refl) (keeps-update (update ds i (handed In)) (before n i) (with_next (Some i)) refl)
keeps-hand Out n i ds = keeps_then (keeps-update ds i (handed Out) refl) (keeps-update (update ds i (handed Out)) (before n i) (with_next (Some i)) refl)

pub keeps-advanced : (dir : TransferDirection) (r : Ring) (k : ℕ) → Keeps r.descriptors (advanced dir r k).descriptors
unfolding moved_to
keeps-advanced dir r k = keeps-turns r.count (hand_over dir r.count) (keeps-hand dir r.count) _ r.idx r.descriptors

pub keeps-linked : (dir : TransferDirection) (n : ℕ) (ds : List DmaDescriptor) → Keeps ds (linked_all dir n ds)
unfolding linked_all
keeps-linked In n ds = keeps-each (linked In n) (λ i d. refl) n ds
keeps-linked Out n ds = keeps-each (linked Out n) (λ i d. refl) n ds

-- either of two
pick : {S : Type 0} (ds : List DmaDescriptor) (f : S → List DmaDescriptor) (b : Bool) (x y : S) → Keeps ds (f x) → Keeps ds (f y) → Keeps ds (f (cond b x y))
pick ds f true x y h k = h
pick ds f false x y h k = k

-- `prepare` on transmit
cut-start : (s t : Bool) (d : DmaDescriptor) → (cond s (with_owner Cpu d) (cond t (with_next None d) d)).buffer ≡ d.buffer
cut-start true t d = refl
cut-start false true d = refl
cut-start false false d = refl

keeps_cut : (n c : ℕ) (ds : List DmaDescriptor) → Keeps ds (cut_at n c ds)
unfolding cut_at
keeps_cut n c ds = keeps-each (cut c) (λ i d. cut-start (leb c i) (eqb (i + 1) c) d) n ds

keeps-filled : (d : ℕ) (ds : List DmaDescriptor) → Keeps ds (filled_to d ds)
unfolding filled_to
keeps-filled d ds = keeps-each (λ i r. filled r.size r) (λ i r. refl) d ds

keeps-marked : (n b : ℕ) (ds : List DmaDescriptor) → Keeps ds (marked_ready n b ds).descriptors
unfolding marked_ready
keeps-marked n b ds =
    let at : ℕ = (reached (record_in ds) n 0 b).at in
    pick ds (λ (m : Marked). m.descriptors) (eqb b 0) _ _ (keeps-all ds)
    (pick ds (λ (m : Marked). m.descriptors) (eqb at n) _ _ (keeps-filled n ds)
    (pick ds (λ (m : Marked). m.descriptors) (eqb at 0) _ _ (keeps_then (keeps-update ds 0 (filled b) refl) (keeps_cut n 1 (update ds 0 (filled b))))
    (keeps_then (keeps-filled at ds) (keeps_cut n at (filled_to at ds)))))

-- ---- the ring that is read

-- the words that show es in place of the records that st and ws show
read : (st ws : List ℕ) (es : List DmaDescriptor) → length es ≡ length (records_of st ws) → records_of (starts_now st ws es) (cells_now st ws es) ≡ es
unfolding starts_now cells_now
read st ws es h = go (are_records st ws) refl
  where
    none : (l : List DmaDescriptor) → length l ≡ 0 → [] ≡ l
    none [] e = refl
    none (x ∷ l) e = absurd (omega arith)

    go : (b : Bool) → are_records st ws ≡ b → records_of (cond b (starts_of es) st) (cond b (cells_of es) ws) ≡ es
    go true e = shows es (h ∙ records-length st ws e)
    go false e = records-none st ws e ∙ none es (h ∙ ap length (records-none st ws e))

same-starts : (st ws : List ℕ) (es : List DmaDescriptor) → Keeps (records_of st ws) es → starts_now st ws es ≡ st
unfolding starts_now
same-starts st ws es k = go (are_records st ws) refl
  where
    go : (b : Bool) → are_records st ws ≡ b → cond b (starts_of es) st ≡ st
    go true e = k.starts ∙ ap starts_of (records-tab st ws e) ∙ starts-kept st ws (words st ws e)
    go false e = refl

-- THE RING THAT THE NEXT CALL READS: of words whose starts stay, and of words whose starts were written too
pub next-reads : (st ws : List ℕ) (r : Ring) → Keeps (records_of st ws) r.descriptors → ring_of st (cells_now st ws r.descriptors) (head_of r) ≡ r
next-reads st ws r k =
    let e : records_of st (cells_now st ws r.descriptors) ≡ r.descriptors =
    ap (λ (s : List ℕ). records_of s (cells_now st ws r.descriptors)) (sym (same-starts st ws r.descriptors k)) ∙ read st ws r.descriptors k.many in
    rw e refl

pub next-reads-new : (st ws : List ℕ) (r : Ring) → length r.descriptors ≡ length (records_of st ws)
    → ring_of (starts_now st ws r.descriptors) (cells_now st ws r.descriptors) (head_of r) ≡ r
next-reads-new st ws r h = rw (read st ws r.descriptors h) refl

-- ---- each rule that changes a ring

either : {A : Type 0} (ds : List DmaDescriptor) (b : Bool) (o p : Outcome A) → Keeps ds o.ring.descriptors → Keeps ds p.ring.descriptors → Keeps ds (cond b o p).ring.descriptors
either {A} ds = pick ds (λ (o : Outcome A). o.ring.descriptors)

new-many : (dir : TransferDirection) (ds : List DmaDescriptor) (n len : ℕ) (x : Answer Split) → length (new_by dir ds n len x).ring.descriptors ≡ length ds
new-many dir ds n len (Err e) = refl
new-many dir ds n len (Ok x) = go (ltb (length ds) n)
  where
    laid-many : length (laid_out dir n len ds) ≡ length ds
    laid-many = unfold laid_out in each-length (laid dir n len) n ds

    made : Outcome (Answer Unit)
    made = record { ring = fresh (laid_out dir n len ds) n; answer = Ok tt }

    go : (b : Bool) → length (cond b (refused (fresh ds n) (Err BadState)) made).ring.descriptors ≡ length ds
    go true = refl
    go false = laid-many

module _ (st ws : List ℕ) where
  abbrev lent : List DmaDescriptor
  lent = records_of st ws

  -- `new`: both directions
  pub new-is-read : (dir : TransferDirection) (n len : ℕ) → let r = (new_of dir lent n len).ring in ring_of (starts_now st ws r.descriptors) (cells_now st ws r.descriptors) (head_of r) ≡ r
  unfolding new_of
  new-is-read dir n len = next-reads-new st ws (new_of dir lent n len).ring (new-many dir lent n len (split_of n len))

  -- what the next call reads where a call on the words and the head h left the ring r
  abbrev Read : Ring → Type 0
  Read r = ring_of st (cells_now st ws r.descriptors) (head_of r) ≡ r

  module _ (h : Head) (len : ℕ) where
    abbrev ring : Ring
    ring = ring_of st ws h

    kept : Keeps lent lent
    kept = keeps-all lent

    -- receive
    pub rx-prepare-is-read : Read (rx.prepare_of ring len).ring
    unfolding rx.prepare_of
    rx-prepare-is-read = next-reads st ws (rx.prepare_of ring len).ring (either lent (split_sound ring len) _ _ (keeps-linked In h.count lent) kept)

    pub consume-is-read : (k : ℕ) → Read (consume_of ring len k).ring
    unfolding consume_of
    consume-is-read k = next-reads st ws (consume_of ring len k).ring (either lent (sound In ring len) _ _ (keeps-advanced In ring k) kept)

    pub pop-is-read : (k : ℕ) → Read (pop_of ring len k).ring
    unfolding pop_of
    pop-is-read k =
        next-reads st ws (pop_of ring len k).ring (either lent (sound In ring len) _ _ (either lent (idle ring k) _ _ kept (keeps-advanced In ring k)) kept)

    -- transmit
    pub prefill-is-read : (k : ℕ) → Read (prefill_of ring len k).ring
    unfolding prefill_of
    prefill-is-read k = next-reads st ws (prefill_of ring len k).ring (either lent (split_sound ring len) _ _ kept kept)

    pub prefill-commit-is-read : (k : ℕ) → Read (prefill_commit_of ring len k).ring
    unfolding prefill_commit_of
    prefill-commit-is-read k =
        next-reads st ws (prefill_commit_of ring len k).ring (either lent (split_sound ring len) _ _ (either lent (leb k (len - h.pre_filled)) _ _ kept kept) kept)

    pub tx-prepare-is-read : Read (tx.prepare_of ring len).ring
    unfolding tx.prepare_of
    tx-prepare-is-read =
        next-reads st ws (tx.prepare_of ring len).ring
        (either lent (split_sound ring len) _ _ (keeps_then (keeps-linked Out h.count lent) (keeps-marked h.count h.pre_filled (linked_all Out h.count lent))) kept)

    pub push-is-read : (k : ℕ) → Read (push_of ring len k).ring
    unfolding push_of
    push-is-read k = next-reads st ws (push_of ring len k).ring (either lent (sound Out ring len) _ _ (keeps-advanced Out ring _) kept)

    up-to-is-read : (bound k : ℕ) → Read (accepted_up_to bound ring len k).ring
    up-to-is-read bound k =
        next-reads st ws (accepted_up_to bound ring len k).ring (either lent (sound Out ring len) _ _ (either lent (leb k bound) _ _ (keeps-advanced Out ring k) kept) kept)

    pub advance-is-read : (k : ℕ) → Read (advance_of ring len k).ring
    unfolding advance_of
    advance-is-read k = up-to-is-read (available_in Out ring) k

    pub commit-is-read : (k : ℕ) → Read (commit_of ring len k).ring
    unfolding commit_of
    commit-is-read k = up-to-is-read (offered ring len) k

    -- the device's steps
    received : (dev : Option ℕ) (k : ℕ) (eof : Bool) (x : Answer ℕ) → Keeps lent (receive_by ring dev k eof x).ring.descriptors
    received dev k eof (Err e) = kept
    received dev k eof (Ok i) =
        pick lent (λ (s : Stepped (Answer Unit)). s.ring.descriptors) (fits k (record_of ring i)) _ _ (keeps-update lent i (closed k eof) refl) kept

    pub receive-is-read : (dev : Option ℕ) (k : ℕ) (eof : Bool) → Read (receive_of ring dev len k eof).ring
    unfolding receive_of
    receive-is-read dev k eof = next-reads st ws (receive_of ring dev len k eof).ring (received dev k eof (stand_of In ring len dev))

    sends : (dev : Option ℕ) (room : ℕ) (x : Answer ℕ) → Keeps lent (transmit_by ring dev room x).ring.descriptors
    sends dev room (Err e) = kept
    sends dev room (Ok i) =
        pick lent (λ (s : Stepped (Answer ℕ)). s.ring.descriptors) (leb (record_of ring i).length room) _ _ (keeps-update lent i sent refl) kept

    pub transmit-is-read : (dev : Option ℕ) (room : ℕ) → Read (transmit_of ring dev len room).ring
    unfolding transmit_of
    transmit-is-read dev room = next-reads st ws (transmit_of ring dev len room).ring (sends dev room (stand_of Out ring len dev))
