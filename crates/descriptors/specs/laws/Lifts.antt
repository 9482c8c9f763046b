-- A store to a cell, as a change of the records that the words show.
use Rattle.std.specs.Prelude.{◌≡◌, ℕ, zero, suc, ◌+◌, ◌*◌, ◌<◌, ◌≤◌, Bool, true, false, cond, ◌&&◌, List, [], length, ◌==◌, ◌≢◌, nat_le, nat_lt, slice_index, slice_index_or, slice_set, refl, Option}
use Rattle.std.proofs.Common.{sym, ◌∙◌, ap, arith, eqb-true, leb-true, lt-ltb, le-ltb, le-leb, eq-eqb, length-set, get_or-set_same, get_or-set_other, ext_get_or}
use Rattle.std.proofs.Math.Decide.{dec_lt, ℕ_discrete}
use Rattle.std.proofs.Math.ListN.{get_or-eq_default}
use Rattle.std.proofs.Math.Seq.{set_out}
use Rattle.descriptors.specs.Record.{limit, blank, record_in, update, up_to, with_buffer, with_size, with_length, with_eof, with_owner, with_next}
use Rattle.descriptors.specs.Cells.{blocks, cells, cell, record_at, are_cells, are_records, tab, records_of, put, put_start, put_size, put_length, put_next, put_owner, put_eof, owner_cell, eof_cell, next_cell, numbered}
use Rattle.descriptors.specs.Place.{after, turns}
use Rattle.descriptors.specs.laws.Places.{after-lt}
use Rattle.descriptors.specs.laws.Marks.{owner-read, eof-read, next-read}
use Rattle.descriptors.specs.laws.Tests.{and_split, and-join, all-at, all_of}
use Rattle.descriptors.specs.laws.Updates.{update_same, update_other, update-length}
use Rattle.descriptors.specs.declared.record.Owner.{Owner}
use Rattle.descriptors.specs.declared.record.Owner.TheVariants.{Cpu, Dma}
use Rattle.descriptors.specs.declared.record.DmaDescriptor.{DmaDescriptor}

-- ---- what words that hold records have

pub record Words (st ws : List ℕ) : Type 0 where
  pub starts : length st ≡ limit
  pub whole : length ws ≡ cells
  pub marks : (j : ℕ) → j < 2 * limit → slice_index ws (limit * 3 + j) ≤ 1

pub words : (st ws : List ℕ) → are_records st ws ≡ true → Words st ws
unfolding are_records are_cells
words st ws h =
    let a = and_split (length st == limit) _ h in
    let b = and_split (length ws == cells) _ a.1 in
    record {
      starts = eqb-true (length st) limit a.0;
      whole = eqb-true (length ws) cells b.0;
      marks = λ j l. leb-true (slice_index ws (limit * 3 + j)) 1 (all-at (λ j. nat_le (slice_index ws (limit * 3 + j)) 1) (2 * limit) j b.1 l);
    }

pub are-records : (st ws : List ℕ) → Words st ws → are_records st ws ≡ true
unfolding are_records are_cells
are-records st ws w =
    and-join (eq-eqb (length st) limit w.starts)
    (and-join (eq-eqb (length ws) cells w.whole) (all_of (λ j. nat_le (slice_index ws (limit * 3 + j)) 1) (2 * limit) (λ j l. le-leb _ 1 (w.marks j l))))

-- ---- tables

pub tab-length : {A : Type 0} (f : ℕ → A) (k i : ℕ) → length (tab f k i) ≡ k
tab-length f zero i = refl
tab-length f (suc k) i = ap suc (tab-length f k (suc i))

pub tab-at : {A : Type 0} (f : ℕ → A) (k i j : ℕ) (z : A) → j < k → slice_index_or (tab f k i) j z ≡ f (i + j)
tab-at f zero i j z h = absurd (omega arith)
tab-at f (suc k) i zero z h = ap f (omega arith)
tab-at f (suc k) i (suc j) z h = tab-at f k (suc i) j z (omega arith) ∙ ap f (omega arith)

pub records-tab : (st ws : List ℕ) → are_records st ws ≡ true → records_of st ws ≡ tab (record_at st ws) limit 0
unfolding records_of
records-tab st ws h = rw h

pub records-none : (st ws : List ℕ) → are_records st ws ≡ false → records_of st ws ≡ []
unfolding records_of
records-none st ws h = rw h

pub records-length : (st ws : List ℕ) → are_records st ws ≡ true → length (records_of st ws) ≡ limit
records-length st ws h = ap length (records-tab st ws h) ∙ tab-length (record_at st ws) limit 0

cell_out : (b : ℕ) (ws : List ℕ) (i : ℕ) → limit ≤ i → cell b ws i ≡ 0
cell_out b ws i h = go (nat_lt b blocks)
  where
    go : (t : Bool) → cond (t && nat_lt i limit) (slice_index ws (limit * b + i)) 0 ≡ 0
    go true = rw (le-ltb i limit h) refl
    go false = refl

-- record i, whatever i is: past the last there is none in the list and none in the cells
pub record_is : (st ws : List ℕ) → are_records st ws ≡ true → (i : ℕ) → record_in (records_of st ws) i ≡ record_at st ws i
record_is st ws h i = go (dec_lt i limit)
  where
    go : Dec (i < limit) → record_in (records_of st ws) i ≡ record_at st ws i
    go (yes l) = ap (λ (ds : List DmaDescriptor). record_in ds i) (records-tab st ws h) ∙ tab-at (record_at st ws) limit 0 i blank l ∙ ap (record_at st ws) (omega arith)
    go (no l) =
        let m : limit ≤ i = omega arith in
        get_or-eq_default (records_of st ws) blank (omega (arith, records-length st ws h))
        ∙ sym (rw (get_or-eq_default st 0 {n = i} (omega (arith, (words st ws h).starts)), cell_out 0 ws i m, cell_out 1 ws i m, cell_out 2 ws i m, cell_out 3 ws i m, cell_out 4 ws i m) refl)

-- ---- one store

abbrev pub Becomes : List ℕ → List ℕ → List ℕ → (List DmaDescriptor → List DmaDescriptor) → Type 0
Becomes st ws vs f = (are_records st vs ≡ true) × (records_of st vs ≡ f (records_of st ws))

-- a change of the words that is a change of the records
abbrev pub Lifts : List ℕ → (List ℕ → List ℕ) → (List DmaDescriptor → List DmaDescriptor) → Type 0
Lifts st F f = (ws : List ℕ) → are_records st ws ≡ true → Becomes st ws (F ws) f

put-set : (b : ℕ) (ws : List ℕ) (i v : ℕ) → length ws ≡ cells → b < blocks → i < limit → put b ws i v ≡ slice_set ws (limit * b + i) v
unfolding put
put-set b ws i v w p q = simp (eq-eqb _ _ w, lt-ltb _ _ p, lt-ltb _ _ q)

put-out : (b : ℕ) (ws : List ℕ) (i v : ℕ) → limit ≤ i → put b ws i v ≡ ws
unfolding put
put-out b ws i v h = go (length ws == cells) (nat_lt b blocks)
  where
    go : (s t : Bool) → cond (s && (t && nat_lt i limit)) (slice_set ws (limit * b + i) v) ws ≡ ws
    go true true = rw (le-ltb i limit h) refl
    go true false = refl
    go false t = refl

module _ (b : ℕ) (ws : List ℕ) (i v : ℕ) (whole : length ws ≡ cells) (hb : b < blocks) (hi : i < limit) where
  pub cell_same : cell b (put b ws i v) i ≡ v
  cell_same = rw (put-set b ws i v whole hb hi) (simp (lt-ltb _ _ hb, lt-ltb _ _ hi) (get_or-set_same ws (limit * b + i) v 0 (omega arith)))

  pub cell_other : (c j : ℕ) → j < limit → (limit * c + j ≢ limit * b + i) → cell c (put b ws i v) j ≡ cell c ws j
  cell_other c j hj ne =
      ap (λ (x : ℕ). cond (nat_lt c blocks && nat_lt j limit) x 0)
      (rw (put-set b ws i v whole hb hi) (get_or-set_other ws (limit * b + i) (limit * c + j) v 0 ne))

  put-marks : (limit * 3 ≤ limit * b → v ≤ 1) → ((j : ℕ) → j < 2 * limit → slice_index ws (limit * 3 + j) ≤ 1) → (j : ℕ) → j < 2 * limit → slice_index (put b ws i v) (limit * 3 + j) ≤ 1
  put-marks small m j l = rw (put-set b ws i v whole hb hi) (go (ℕ_discrete (limit * 3 + j) (limit * b + i)))
    where
      go : Dec (limit * 3 + j ≡ limit * b + i) → slice_index (slice_set ws (limit * b + i) v) (limit * 3 + j) ≤ 1
      go (yes e) = rw (e, get_or-set_same ws (limit * b + i) v 0 (omega arith)) (small (omega arith))
      go (no ne) = rw (get_or-set_other ws (limit * b + i) (limit * 3 + j) v 0 ne) (m j l)

  -- another record's cells stay
  record-other : (st : List ℕ) (j : ℕ) → j < limit → (j ≢ i) → record_at st (put b ws i v) j ≡ record_at st ws j
  record-other st j hj ne =
      rw (
        cell_other 0 j hj (λ z. ne (omega arith)),
        cell_other 1 j hj (λ z. ne (omega arith)),
        cell_other 2 j hj (λ z. ne (omega arith)),
        cell_other 3 j hj (λ z. ne (omega arith)),
        cell_other 4 j hj (λ z. ne (omega arith)),
      ) refl

-- the list of records that differs from another in record i alone
one-changed : (st st' ws vs : List ℕ) (i : ℕ) (h : DmaDescriptor → DmaDescriptor) → are_records st ws ≡ true → are_records st' vs ≡ true → i < limit
    → record_at st' vs i ≡ h (record_at st ws i) → ((j : ℕ) → j < limit → (j ≢ i) → record_at st' vs j ≡ record_at st ws j)
    → records_of st' vs ≡ update (records_of st ws) i h
one-changed st st' ws vs i h a a' l e o =
    ext_get_or blank (records_of st' vs) (update (records_of st ws) i h)
    (records-length st' vs a' ∙ sym (update-length (records_of st ws) i h ∙ records-length st ws a))
    (λ j p. at j (ℕ_discrete j i) (rw (records-length st' vs a') at p))
  where
    at : (j : ℕ) → Dec (j ≡ i) → j < limit → record_in (records_of st' vs) j ≡ record_in (update (records_of st ws) i h) j
    at j (yes q) p =
        rw q (record_is st' vs a' i ∙ e ∙ ap h (sym (record_is st ws a i)) ∙ sym (update_same (records_of st ws) i h (omega (arith, records-length st ws a))))
    at j (no ne) p = record_is st' vs a' j ∙ o j p ne ∙ sym (record_is st ws a j) ∙ sym (update_other (records_of st ws) i j h ne)

update-out : (st ws : List ℕ) (i : ℕ) (h : DmaDescriptor → DmaDescriptor) → are_records st ws ≡ true → limit ≤ i → records_of st ws ≡ update (records_of st ws) i h
update-out st ws i h a l = sym (set_out (records_of st ws) i _ (omega (arith, records-length st ws a)))

-- a store to a cell of record i changes that record alone
put-lifts : (st : List ℕ) (b i v : ℕ) (h : DmaDescriptor → DmaDescriptor) → b < blocks → (limit * 3 ≤ limit * b → v ≤ 1)
    → ((ws : List ℕ) → length ws ≡ cells → i < limit → record_at st (put b ws i v) i ≡ h (record_at st ws i))
    → Lifts st (λ ws. put b ws i v) (λ ds. update ds i h)
put-lifts st b i v h hb small e ws a = go (dec_lt i limit)
  where
    kept : i < limit → are_records st (put b ws i v) ≡ true
    kept l =
        let w = words st ws a in
        are-records st (put b ws i v) record {
          starts = w.starts;
          whole = ap length (put-set b ws i v w.whole hb l) ∙ length-set ws (limit * b + i) v ∙ w.whole;
          marks = put-marks b ws i v w.whole hb l small w.marks;
        }

    go : Dec (i < limit) → Becomes st ws (put b ws i v) (λ ds. update ds i h)
    go (yes l) =
        let w = words st ws a in
        (kept l, one-changed st st ws (put b ws i v) i h a (kept l) l (e ws w.whole l) (λ j p ne. record-other b ws i v w.whole hb l st j p ne))
    go (no l) =
        let m : limit ≤ i = omega arith in
        rw (put-out b ws i v m) (a, update-out st ws i h a m)

-- the cells of record i after a store to its block b
module _ (b : ℕ) (ws : List ℕ) (i v : ℕ) (whole : length ws ≡ cells) (hb : b < blocks) (hi : i < limit) where
  pub same-record : (c : ℕ) → (c ≢ b) → cell c (put b ws i v) i ≡ cell c ws i
  same-record c ne = cell_other b ws i v whole hb hi c i hi (λ z. ne (omega arith))

pub size-lifts : (st : List ℕ) (i v : ℕ) → Lifts st (λ ws. put_size ws i v) (λ ds. update ds i (with_size v))
size-lifts st i v =
    put-lifts st 0 i v (with_size v) (omega arith) (λ z. absurd (omega arith)) (λ ws w l.
    let k = same-record 0 ws i v w (omega arith) l in
    rw (cell_same 0 ws i v w (omega arith) l, k 1 (λ z. omega arith), k 2 (λ z. omega arith), k 3 (λ z. omega arith), k 4 (λ z. omega arith)) refl)

pub length-lifts : (st : List ℕ) (i v : ℕ) → Lifts st (λ ws. put_length ws i v) (λ ds. update ds i (with_length v))
length-lifts st i v =
    put-lifts st 1 i v (with_length v) (omega arith) (λ z. absurd (omega arith)) (λ ws w l.
    let k = same-record 1 ws i v w (omega arith) l in
    rw (k 0 (λ z. omega arith), cell_same 1 ws i v w (omega arith) l, k 2 (λ z. omega arith), k 3 (λ z. omega arith), k 4 (λ z. omega arith)) refl)

pub next-lifts : (st : List ℕ) (i : ℕ) (x : Option ℕ) → numbered x ≡ true → Lifts st (λ ws. put_next ws i x) (λ ds. update ds i (with_next x))
next-lifts st i x n ws a =
    rw n
    (put-lifts st 2 i (next_cell x) (with_next x) (omega arith) (λ z. absurd (omega arith)) (λ ws w l.
    let k = same-record 2 ws i (next_cell x) w (omega arith) l in
    rw (k 0 (λ z. omega arith), k 1 (λ z. omega arith), cell_same 2 ws i (next_cell x) w (omega arith) l, k 3 (λ z. omega arith), k 4 (λ z. omega arith), next-read x) refl)
    ws a)

owner-small : (o : Owner) → owner_cell o ≤ 1
owner-small Cpu = omega arith
owner-small Dma = omega arith

pub owner-lifts : (st : List ℕ) (i : ℕ) (o : Owner) → Lifts st (λ ws. put_owner ws i o) (λ ds. update ds i (with_owner o))
owner-lifts st i o =
    put-lifts st 3 i (owner_cell o) (with_owner o) (omega arith) (λ z. owner-small o) (λ ws w l.
    let k = same-record 3 ws i (owner_cell o) w (omega arith) l in
    rw (k 0 (λ z. omega arith), k 1 (λ z. omega arith), k 2 (λ z. omega arith), cell_same 3 ws i (owner_cell o) w (omega arith) l, k 4 (λ z. omega arith), owner-read o) refl)

eof-small : (e : Bool) → eof_cell e ≤ 1
eof-small true = omega arith
eof-small false = omega arith

pub eof-lifts : (st : List ℕ) (i : ℕ) (e : Bool) → Lifts st (λ ws. put_eof ws i e) (λ ds. update ds i (with_eof e))
eof-lifts st i e =
    put-lifts st 4 i (eof_cell e) (with_eof e) (omega arith) (λ z. eof-small e) (λ ws w l.
    let k = same-record 4 ws i (eof_cell e) w (omega arith) l in
    rw (k 0 (λ z. omega arith), k 1 (λ z. omega arith), k 2 (λ z. omega arith), k 3 (λ z. omega arith), cell_same 4 ws i (eof_cell e) w (omega arith) l, eof-read e) refl)

-- a start
pub start-changes : (st ws : List ℕ) (i v : ℕ) → are_records st ws ≡ true
    → (are_records (put_start st i v) ws ≡ true) × (records_of (put_start st i v) ws ≡ update (records_of st ws) i (with_buffer v))
start-changes st ws i v a = go (dec_lt i limit)
  where
    kept : are_records (put_start st i v) ws ≡ true
    kept =
        let w = words st ws a in
        are-records (put_start st i v) ws record { starts = length-set st i v ∙ w.starts; whole = w.whole; marks = w.marks }

    go : Dec (i < limit) → (are_records (put_start st i v) ws ≡ true) × (records_of (put_start st i v) ws ≡ update (records_of st ws) i (with_buffer v))
    go (yes l) = (
      kept,
      one-changed st (put_start st i v) ws ws i (with_buffer v) a kept l (rw (get_or-set_same st i v 0 (omega (arith, (words st ws a).starts))) refl)
          (λ j p ne. rw (get_or-set_other st i j v 0 ne) refl),
    )
    go (no l) =
        let m : limit ≤ i = omega arith in
        rw (set_out st i v (omega (arith, (words st ws a).starts))) (a, update-out st ws i (with_buffer v) a m)

-- ---- stores one after another

pub lifts-then : (st : List ℕ) (F G : List ℕ → List ℕ) (f g : List DmaDescriptor → List DmaDescriptor) → Lifts st F f → Lifts st G g
    → Lifts st (λ ws. G (F ws)) (λ ds. g (f ds))
lifts-then st F G f g p q ws a =
    let b = p ws a in
    let d = q (F ws) b.0 in
    (d.0, d.1 ∙ ap g b.1)

pub lifts-as : (st : List ℕ) (F : List ℕ → List ℕ) (f g : List DmaDescriptor → List DmaDescriptor) → ((ds : List DmaDescriptor) → f ds ≡ g ds) → Lifts st F f → Lifts st F g
lifts-as st F f g e p ws a = let b = p ws a in (b.0, b.1 ∙ e (records_of st ws))

pub lifts-up : (st : List ℕ) (F : ℕ → List ℕ → List ℕ) (f : ℕ → List DmaDescriptor → List DmaDescriptor) (n : ℕ) → ((i : ℕ) → i < n → Lifts st (F i) (f i))
    → Lifts st (up_to F n) (up_to f n)
unfolding up_to
lifts-up st F f zero p = λ ws a. (a, refl)
lifts-up st F f (suc n) p = lifts-then st (up_to F n) (F n) (up_to f n) (f n) (lifts-up st F f n (λ i l. p i (omega arith))) (p n (omega arith))

pub lifts-turns : (st : List ℕ) (F : ℕ → List ℕ → List ℕ) (f : ℕ → List DmaDescriptor → List DmaDescriptor) (n : ℕ) → ((i : ℕ) → i < n → Lifts st (F i) (f i))
    → (g i : ℕ) → i < n → Lifts st (turns F n g i) (turns f n g i)
unfolding turns
lifts-turns st F f n p zero i h = λ ws a. (a, refl)
lifts-turns st F f n p (suc g) i h = lifts-then st (F i) (turns F n g (after n i)) (f i) (turns f n g (after n i)) (p i h) (lifts-turns st F f n p g (after n i) (after-lt n i h))
