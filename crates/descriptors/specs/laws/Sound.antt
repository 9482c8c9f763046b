-- What the scans of the cells say of the records, and what is known of a ring that is sound.
use Rattle.std.specs.Prelude.{◌≡◌, ℕ, zero, suc, ◌+◌, ◌-◌, ◌*◌, ◌/◌, ◌%◌, ◌<◌, ◌≤◌, Bool, true, false, ◌&&◌, ◌||◌, leb, List, [], ◌==◌, nat_eq, nat_le, nat_lt, slice_index, refl, Ok, Err}
use Rattle.std.proofs.Common.{sym, ◌∙◌, ap, arith, ltb-true, ltb-false, leb-true, eqb-true, eq-eqb, ne_eqb, le-leb, lt-ltb}
use Rattle.std.proofs.lemmas.Bool.{lt-leb}
use Rattle.descriptors.specs.Record.{limit, least, record_in, is_cpu, span_of}
use Rattle.descriptors.specs.Cells.{cell, record_at, all_below, are_records, records_of, next_of}
use Rattle.descriptors.specs.Split.{accepts, start_of, size_of}
use Rattle.descriptors.specs.Ring.{Ring, ring_of, record_of, starts_ok, sizes_ok, lengths_ok, nexts_ok, below, offset_ok, split_sound, sound, judged}
use Rattle.descriptors.specs.laws.Tests.{not-both, and_split, and-never, and-fail, all-at, all_same}
use Rattle.descriptors.specs.laws.Lifts.{record_is, records-none}
use Rattle.descriptors.specs.laws.Splits.{Accepted, accepted, Known}
use Rattle.descriptors.specs.declared.record.DmaDescriptor.{DmaDescriptor}
use Rattle.descriptors.specs.declared.record.TransferDirection.{TransferDirection}
use Rattle.descriptors.specs.declared.record.TransferDirection.TheVariants.{In, Out}
use Rattle.descriptors.specs.declared.ring.Head.{Head}
use Rattle.descriptors.specs.Refusal.{Answer}
use Rattle.descriptors.specs.declared.refusal.DmaBufError.{DmaBufError}
use Rattle.descriptors.specs.declared.refusal.DmaBufError.TheVariants.{BadState}

-- ---- the scans

cell-is : (b : ℕ) (ws : List ℕ) (i : ℕ) → b < 5 → i < limit → cell b ws i ≡ slice_index ws (limit * b + i)
cell-is b ws i h l = simp (lt-ltb _ _ h, lt-ltb _ _ l)

first_block : (ws : List ℕ) (i : ℕ) → i < limit → cell 0 ws i ≡ slice_index ws i
first_block ws i l = cell-is 0 ws i (omega arith) l ∙ ap (λ (k : ℕ). slice_index ws k) {x = limit * 0 + i} {y = i} (omega arith)

module _ (st ws : List ℕ) (a : are_records st ws ≡ true) (n : ℕ) (m : n ≤ limit) where
  pub starts-scan : (len : ℕ) → all_below (λ i. nat_eq (slice_index st i) (i * (len / n))) n ≡ starts_ok (records_of st ws) n len
  unfolding start_of
  starts-scan len = all_same _ _ n (λ i l. rw (record_is st ws a i) refl)

  pub lengths-scan : all_below (λ i. leb (slice_index ws (limit + i)) (slice_index ws i)) n ≡ lengths_ok (records_of st ws) n
  lengths-scan =
      all_same (λ i. leb (slice_index ws (limit + i)) (slice_index ws i)) (λ i. leb (record_in (records_of st ws) i).length (record_in (records_of st ws) i).size) n
      (λ i l. rw (record_is st ws a i, first_block ws i (omega arith), cell-is 1 ws i (omega arith) (omega arith)) refl)

  next-test : (x : ℕ) → nat_le x n ≡ below n (next_of x)
  next-test zero = le-leb 0 n (omega arith)
  next-test (suc j) = go (nat_lt j n) refl
    where
      go : (b : Bool) → nat_lt j n ≡ b → nat_le (suc j) n ≡ nat_lt j n
      go true e = le-leb (suc j) n (omega (arith, ltb-true j n e)) ∙ sym e
      go false e = lt-leb (suc j) n (omega (arith, ltb-false j n e)) ∙ sym e

  pub nexts-scan : all_below (λ i. leb (slice_index ws (limit * 2 + i)) n) n ≡ nexts_ok (records_of st ws) n
  nexts-scan =
      all_same (λ i. leb (slice_index ws (limit * 2 + i)) n) (λ i. below n (record_in (records_of st ws) i).next) n
      (λ i l. rw (record_is st ws a i, cell-is 2 ws i (omega arith) (omega arith)) (next-test (slice_index ws (limit * 2 + i))))

pub sizes-scan : (st ws : List ℕ) → are_records st ws ≡ true → (n len : ℕ) → n ≤ limit → 0 < n
    → (all_below (λ i. nat_eq (slice_index ws i) (len / n)) (n - 1) && slice_index ws (n - 1) == len / n + len % n) ≡ sizes_ok (records_of st ws) n len
unfolding size_of
sizes-scan st ws a zero len m z = absurd (omega arith)
sizes-scan st ws a (suc k) len m z =
    let e : suc k - 1 ≡ k = omega arith in
    let one : k + 1 ≡ suc k = omega arith in
    rw (
      e,
      all_same (λ i. nat_eq (slice_index ws i) (len / suc k)) (λ i. nat_eq (record_in (records_of st ws) i).size (size_of (suc k) len i)) k (λ i l.
          rw (record_is st ws a i, first_block ws i (omega arith), ne_eqb (i + 1) (suc k) (λ q. omega arith)) refl),
      record_is st ws a k,
      first_block ws k (omega arith),
      eq-eqb (k + 1) (suc k) one,
    ) refl

-- ---- a ring that is not sound

pub split-refused : (r : Ring) (len : ℕ) → accepts r.count len ≡ false → split_sound r len ≡ false
unfolding split_sound
split-refused r len h = rw h

first-size : (n len : ℕ) → least ≤ n → 0 < len / n → (0 == size_of n len 0) ≡ false
unfolding size_of
first-size n len h s = rw (ne_eqb (0 + 1) n (λ z. omega arith)) (ne_eqb 0 (len / n) (λ z. omega arith))

no-sizes : (n len : ℕ) → least ≤ n → 0 < len / n → sizes_ok [] n len ≡ false
no-sizes n len h s = go (sizes_ok [] n len) refl
  where
    go : (b : Bool) → sizes_ok [] n len ≡ b → b ≡ false
    go true e = not-both (sym (first-size n len h s) ∙ all-at (λ i. nat_eq (record_in [] i).size (size_of n len i)) n 0 e (omega arith))
    go false e = refl

pub split-no-records : (st ws : List ℕ) (h : Head) (len : ℕ) → are_records st ws ≡ false → Accepted h.count len → split_sound (ring_of st ws h) len ≡ false
unfolding split_sound
split-no-records st ws h len a s =
    rw (records-none st ws a, no-sizes h.count len s.few s.some, and-never (starts_ok [] h.count len)) (and-never (accepts h.count len))

-- the split's test, by the scans
pub split_by : (st ws : List ℕ) (h : Head) (len chunk rest : ℕ) → Known h.count len chunk rest → are_records st ws ≡ true
    → (a b : Bool) → a ≡ all_below (λ i. nat_eq (slice_index st i) (i * chunk)) h.count
    → b ≡ (all_below (λ i. nat_eq (slice_index ws i) chunk) (h.count - 1) && slice_index ws (h.count - 1) == chunk + rest)
    → split_sound (ring_of st ws h) len ≡ (a && (b && nat_le h.pre_filled len))
unfolding split_sound
split_by st ws h len chunk rest k w a b ea eb =
    let n : ℕ = h.count in
    let ea' : a ≡ starts_ok (records_of st ws) n len = ea ∙ ap (λ (q : ℕ). all_below (λ i. nat_eq (slice_index st i) (i * q)) n) k.chunk-is ∙ starts-scan st ws w n k.facts.many len in
    let eb' : b ≡ sizes_ok (records_of st ws) n len =
    eb ∙ ap (λ (q : ℕ). all_below (λ i. nat_eq (slice_index ws i) q) (n - 1) && slice_index ws (n - 1) == q + rest) k.chunk-is
    ∙ ap (λ (q : ℕ). all_below (λ i. nat_eq (slice_index ws i) (len / n)) (n - 1) && slice_index ws (n - 1) == len / n + q) k.rest-is
    ∙ sizes-scan st ws w n len k.facts.many (omega (arith, k.facts.few)) in
    rw (k.takes, ← ea', ← eb') refl

pub split-stops : (st ws : List ℕ) (h : Head) (len chunk rest : ℕ) → Known h.count len chunk rest → are_records st ws ≡ true
    → (a : Bool) → a ≡ all_below (λ i. nat_eq (slice_index st i) (i * chunk)) h.count → a ≡ false → split_sound (ring_of st ws h) len ≡ false
split-stops st ws h len chunk rest k w a ea e =
    let b : Bool = all_below (λ i. nat_eq (slice_index ws i) chunk) (h.count - 1) && nat_eq (slice_index ws (h.count - 1)) (chunk + rest) in
    split_by st ws h len chunk rest k w a b ea refl ∙ and-fail a (b && nat_le h.pre_filled len) e

-- ---- a ring that is

-- what the split gives
pub record SplitFacts (r : Ring) (len : ℕ) : Type 0 where
  pub parts : Accepted r.count len
  pub start : (i : ℕ) → i < r.count → (record_of r i).buffer ≡ start_of r.count len i
  pub size : (i : ℕ) → i < r.count → (record_of r i).size ≡ size_of r.count len i
  pub prefilled : r.prefilled ≤ len

pub split-facts : (r : Ring) (len : ℕ) → split_sound r len ≡ true → SplitFacts r len
unfolding split_sound
split-facts r len h =
    let a = and_split (accepts r.count len) _ h in
    let b = and_split (starts_ok r.descriptors r.count len) _ a.1 in
    let c = and_split (sizes_ok r.descriptors r.count len) _ b.1 in
    record {
      parts = accepted r.count len a.0;
      start = λ i l. eqb-true _ _ (all-at (λ i. nat_eq (record_in r.descriptors i).buffer (start_of r.count len i)) r.count i b.0 l);
      size = λ i l. eqb-true _ _ (all-at (λ i. nat_eq (record_in r.descriptors i).size (size_of r.count len i)) r.count i c.0 l);
      prefilled = leb-true r.prefilled len c.1;
    }

pub record Facts (dir : TransferDirection) (r : Ring) (len : ℕ) : Type 0 where
  pub split : SplitFacts r len
  pub fits : (i : ℕ) → i < r.count → (record_of r i).length ≤ (record_of r i).size
  pub leads : (i : ℕ) → i < r.count → below r.count (record_of r i).next ≡ true
  pub within : r.idx < r.count
  pub offset : offset_ok dir (record_of r r.idx) r.offset ≡ true

pub facts : (dir : TransferDirection) (r : Ring) (len : ℕ) → sound dir r len ≡ true → Facts dir r len
unfolding sound
facts dir r len h =
    let a = and_split (split_sound r len) _ h in
    let b = and_split (lengths_ok r.descriptors r.count) _ a.1 in
    let c = and_split (nexts_ok r.descriptors r.count) _ b.1 in
    let d = and_split (nat_lt r.idx r.count) _ c.1 in
    record {
      split = split-facts r len a.0;
      fits = λ i l. leb-true _ _ (all-at (λ i. leb (record_in r.descriptors i).length (record_in r.descriptors i).size) r.count i b.0 l);
      leads = λ i l. all-at (λ i. below r.count (record_in r.descriptors i).next) r.count i c.0 l;
      within = ltb-true r.idx r.count d.0;
      offset = d.1;
    }

-- the words of a ring whose split is sound hold records
pub split-records : (st ws : List ℕ) (h : Head) (len : ℕ) → split_sound (ring_of st ws h) len ≡ true → are_records st ws ≡ true
split-records st ws h len e = go (are_records st ws) refl
  where
    go : (b : Bool) → are_records st ws ≡ b → b ≡ true
    go true q = refl
    go false q = sym (split-no-records st ws h len q (split-facts (ring_of st ws h) len e).parts) ∙ e

offset-same : (dir : TransferDirection) (st ws : List ℕ) → are_records st ws ≡ true → (i o : ℕ) → offset_ok dir (record_at [] ws i) o ≡ offset_ok dir (record_in (records_of st ws) i) o
offset-same In st ws a i o = sym (ap (λ (d : DmaDescriptor). offset_ok In d o) (record_is st ws a i))
offset-same Out st ws a i o = sym (ap (λ (d : DmaDescriptor). offset_ok Out d o) (record_is st ws a i))

-- the ring's test, by the scans
pub sound-by : (dir : TransferDirection) (st ws : List ℕ) (h : Head) (len : ℕ) → split_sound (ring_of st ws h) len ≡ true
    → (a b o : Bool) → a ≡ all_below (λ i. leb (slice_index ws (limit + i)) (slice_index ws i)) h.count
    → b ≡ all_below (λ i. leb (slice_index ws (limit * 2 + i)) h.count) h.count
    → o ≡ offset_ok dir (record_at [] ws h.descriptor_idx) h.descriptor_offset
    → sound dir (ring_of st ws h) len ≡ (a && (b && (nat_lt h.descriptor_idx h.count && o)))
unfolding sound
sound-by dir st ws h len s a b o ea eb eo =
    let w : are_records st ws ≡ true = split-records st ws h len s in
    let m : h.count ≤ limit = (split-facts (ring_of st ws h) len s).parts.many in
    let eo' : o ≡ offset_ok dir (record_in (records_of st ws) h.descriptor_idx) h.descriptor_offset = eo ∙ offset-same dir st ws w h.descriptor_idx h.descriptor_offset in
    rw (s, ← lengths-scan st ws w h.count m, ← nexts-scan st ws w h.count m, ← ea, ← eb, ← eo') refl

pub sound-stops : (dir : TransferDirection) (st ws : List ℕ) (h : Head) (len : ℕ) → split_sound (ring_of st ws h) len ≡ true
    → (a : Bool) → a ≡ all_below (λ i. leb (slice_index ws (limit + i)) (slice_index ws i)) h.count → a ≡ false → sound dir (ring_of st ws h) len ≡ false
sound-stops dir st ws h len s a ea e =
    let b : Bool = all_below (λ i. leb (slice_index ws (limit * 2 + i)) h.count) h.count in
    let o : Bool = offset_ok dir (record_at [] ws h.descriptor_idx) h.descriptor_offset in
    sound-by dir st ws h len s a b o ea refl refl ∙ and-fail a (b && (nat_lt h.descriptor_idx h.count && o)) e

pub sound-split : (dir : TransferDirection) (r : Ring) (len : ℕ) → sound dir r len ≡ true → split_sound r len ≡ true
unfolding sound
sound-split dir r len h = (and_split (split_sound r len) _ h).0

-- the offset is at most what the record counts for, and 0 at a DMA-owned record
or-true : (a b : Bool) → (a || b) ≡ true → a ≡ false → b ≡ true
or-true true b h e = not-both (sym e)
or-true false b h e = h

pub offset-least : (dir : TransferDirection) (d : DmaDescriptor) (o : ℕ) → offset_ok dir d o ≡ true → o ≤ span_of dir d
offset-least In d o h = go (o == 0) refl h
  where
    go : (b : Bool) → (o == 0) ≡ b → (b || (is_cpu d.owner && nat_lt o d.length)) ≡ true → o ≤ d.length
    go true e h = omega (arith, eqb-true o 0 e)
    go false e h = omega (arith, ltb-true o d.length (and_split (is_cpu d.owner) _ h).1)
offset-least Out d o h = omega (arith, ltb-true o d.size (and_split (nat_lt o d.size) _ h).0)

pub offset-dma : (dir : TransferDirection) (d : DmaDescriptor) (o : ℕ) → offset_ok dir d o ≡ true → is_cpu d.owner ≡ false → o ≡ 0
offset-dma In d o h e = go (o == 0) refl h
  where
    go : (b : Bool) → (o == 0) ≡ b → (b || (is_cpu d.owner && nat_lt o d.length)) ≡ true → o ≡ 0
    go true q h = eqb-true o 0 q
    go false q h = not-both (sym e ∙ (and_split (is_cpu d.owner) _ h).0)
offset-dma Out d o h e = go (o == 0) refl (and_split (nat_lt o d.size) _ h).1
  where
    go : (b : Bool) → (o == 0) ≡ b → (b || is_cpu d.owner) ≡ true → o ≡ 0
    go true q h = eqb-true o 0 q
    go false q h = not-both (sym e ∙ h)

-- what the judge answers
pub judged_true : (b : Bool) → b ≡ true → Ok tt ≡ judged b
judged_true b e = rw e refl

pub judged_false : (b : Bool) → b ≡ false → Err BadState ≡ judged b
judged_false b e = rw e refl

-- what an answer of the judge tells
pub ready-split : (b : Bool) (d : Answer Unit) (u : Unit) → d ≡ judged b → d ≡ Ok u → b ≡ true
ready-split true d u p q = refl
ready-split false d u p q = not-both (let z : judged false ≡ Ok u = sym p ∙ q in cc)

pub refused-split : (dir : TransferDirection) (r : Ring) (len : ℕ) (d : Answer Unit) (e : DmaBufError) → d ≡ judged (split_sound r len) → d ≡ Err e
    → sound dir r len ≡ split_sound r len
unfolding sound
refused-split dir r len d e p q = go (split_sound r len) refl
  where
    go : (b : Bool) → split_sound r len ≡ b
        → (b && (lengths_ok r.descriptors r.count && (nexts_ok r.descriptors r.count && (nat_lt r.idx r.count && offset_ok dir (record_of r r.idx) r.offset)))) ≡ b
    go true h = not-both (let z : judged true ≡ Err e = ap judged (sym h) ∙ sym p ∙ q in cc)
    go false h = refl
