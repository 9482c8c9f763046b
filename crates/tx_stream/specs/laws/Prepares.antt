-- `prepare` on the words: where the prefilled bytes end, the records that they fill, and the end of the list.
use Rattle.std.specs.Prelude.{◌≡◌, ℕ, zero, suc, ◌+◌, ◌-◌, ◌<◌, ◌≤◌, Bool, true, false, cond, List, [], ◌==◌, ◌≢◌, nat_le, nat_lt, Ok, None}
use Rattle.std.proofs.Math.Path.{refl}
use Rattle.std.proofs.Common.{sym, ◌∙◌, ap}
use native.Mathlib.Omega.{arith}
use borrow.Author.Tests.{lt-ltb, le-ltb, le-leb, lt-leb, eq-eqb, ne_eqb}
use Rattle.std.proofs.lemmas.List.{set-get_or}
use Rattle.descriptors.specs.Record.{blank, record_in, update, up_to, with_owner, with_length, with_eof, with_next}
use Rattle.descriptors.specs.Cells.{cell, are_records, records_of, record_at, cells_now, put_length, put_eof, put_owner, put_next}
use Rattle.descriptors.specs.Stores.{link_cells}
use Rattle.descriptors.specs.Ring.{ring_of, head_of, split_sound, linked_all}
use Rattle.descriptors.specs.laws.Updates.{up_none, up_more}
use Rattle.descriptors.specs.laws.Lifts.{Lifts, record_is, length-lifts, eof-lifts, owner-lifts, next-lifts, lifts-then, lifts-up}
use Rattle.descriptors.specs.laws.Stores.{lifts-more, all-linked}
use Rattle.descriptors.specs.laws.Words.{cells_are}
use Rattle.descriptors.specs.laws.Sound.{split-facts, split-records}
use Rattle.descriptors.specs.laws.Walks.{Alike, cells-alike}
use Rattle.descriptors.specs.declared.record.Owner.TheVariants.{Cpu}
use Rattle.descriptors.specs.declared.record.DmaDescriptor.{DmaDescriptor}
use Rattle.descriptors.specs.declared.record.TransferDirection.TheVariants.{Out}
use Rattle.descriptors.specs.declared.ring.Head.{Head}
use Rattle.tx_stream.specs.Transmit.{Reached, reached, filled, filled_to, cut, cut_at, Marked, marked_at, marked_ready, prepare_of}
use Rattle.tx_stream.specs.Faces.{fill_cells, cut_cells, marked_cells_at, marked_cells, cursor_at, marked_cursor}
use Rattle.tx_stream.specs.laws.Rules.{prepare-yes}
use Rattle.tx_stream.specs.declared.prepare.Cursor.{Cursor}

-- ---- where the bytes end

module _ (f : ℕ → DmaDescriptor) where
  pub reached-none : (i b : ℕ) → reached f 0 i b ≡ record { at = i; rest = b }
  unfolding reached
  reached-none i b = refl

  pub reached-here : (k i b : ℕ) → 0 < k → b < (f i).size → reached f k i b ≡ record { at = i; rest = b }
  unfolding reached
  reached-here zero i b h l = absurd (omega arith)
  reached-here (suc k) i b h l = rw (lt-ltb b (f i).size l)

  pub reached-on : (k i b : ℕ) → 0 < k → (f i).size ≤ b → reached f k i b ≡ reached f (k - 1) (i + 1) (b - (f i).size)
  unfolding reached
  reached-on zero i b h l = absurd (omega arith)
  reached-on (suc k) i b h l = let p : suc k - 1 ≡ k = omega arith in rw (le-ltb b (f i).size l, p)

  pub reached-from : (k i b : ℕ) → i ≤ (reached f k i b).at
  unfolding reached
  reached-from zero i b = omega arith
  reached-from (suc k) i b = go (nat_lt b (f i).size) (reached-from k (i + 1) (b - (f i).size))
    where
      go : (t : Bool) → i + 1 ≤ (reached f k (i + 1) (b - (f i).size)).at → i ≤ (cond t (record { at = i; rest = b }) (reached f k (i + 1) (b - (f i).size))).at
      go true ih = omega arith
      go false ih = omega arith

  pub reached-to : (k i b : ℕ) → (reached f k i b).at ≤ i + k
  unfolding reached
  reached-to zero i b = omega arith
  reached-to (suc k) i b = go (nat_lt b (f i).size) (reached-to k (i + 1) (b - (f i).size))
    where
      go : (t : Bool) → (reached f k (i + 1) (b - (f i).size)).at ≤ i + 1 + k → (cond t (record { at = i; rest = b }) (reached f k (i + 1) (b - (f i).size))).at ≤ i + suc k
      go true ih = omega arith
      go false ih = omega arith

  -- bytes that end inside the first record are all in it
  pub reached-first : (k b : ℕ) → (reached f k 0 b).at ≡ 0 → (reached f k 0 b).rest ≡ b
  unfolding reached
  reached-first zero b e = refl
  reached-first (suc k) b e = go (nat_lt b (f 0).size) (reached-from k (0 + 1) (b - (f 0).size)) e
    where
      go : (t : Bool) → 0 + 1 ≤ (reached f k (0 + 1) (b - (f 0).size)).at → (cond t (record { at = 0; rest = b }) (reached f k (0 + 1) (b - (f 0).size))).at ≡ 0
          → (cond t (record { at = 0; rest = b }) (reached f k (0 + 1) (b - (f 0).size))).rest ≡ b
      go true l e = refl
      go false l e = absurd (omega arith)

reached-step : (a a' b i : ℕ) (X Y : ℕ → Reached) → a ≡ a' → ((a : ℕ) → X a ≡ Y a)
    → cond (nat_lt b a) (record { at = i; rest = b }) (X a) ≡ cond (nat_lt b a') (record { at = i; rest = b }) (Y a')
reached-step a a' b i X Y e h = rw (e, h a') refl

pub reached-alike : (f g : ℕ → DmaDescriptor) → Alike Out f g → (k i b : ℕ) → reached f k i b ≡ reached g k i b
unfolding reached
reached-alike f g s zero i b = refl
reached-alike f g s (suc k) i b =
    reached-step (f i).size (g i).size b i (λ a. reached f k (i + 1) (b - a)) (λ a. reached g k (i + 1) (b - a)) (s.span i)
    (λ a. reached-alike f g s k (i + 1) (b - a))

-- ---- the end of the list, record by record

module _ (c : ℕ) (ws : List ℕ) where
  cut_below : (i : ℕ) → i < c → up_to (cut_cells c) i ws ≡ ws
  unfolding up_to cut_cells
  cut_below zero h = refl
  cut_below (suc i) h = rw (lt-leb c i (omega arith), ne_eqb (i + 1) c (λ z. omega arith)) (cut_below i (omega arith))

  pub cut-before : 0 < c → put_next ws (c - 1) None ≡ up_to (cut_cells c) c ws
  unfolding up_to cut_cells
  cut-before h = go c refl
    where
      go : (k : ℕ) → k ≡ c → put_next ws (c - 1) None ≡ up_to (cut_cells c) k ws
      go zero e = absurd (omega arith)
      go (suc k) e =
          let p : c - 1 ≡ k = omega arith in
          rw (p, lt-leb c k (omega arith), eq-eqb (k + 1) c (omega arith))
          (ap (λ (vs : List ℕ). put_next vs k None) (sym (cut_below k (omega arith))))

pub cut-first : (ws : List ℕ) → ws ≡ up_to (cut_cells 0) 0 ws
cut-first ws = sym (up_none (cut_cells 0) ws)

pub cut-more : (c i : ℕ) (ws vs : List ℕ) → c ≤ i → vs ≡ up_to (cut_cells c) i ws → put_owner vs i Cpu ≡ up_to (cut_cells c) (i + 1) ws
unfolding cut_cells
cut-more c i ws vs h e =
    rw e (sym (up_more (cut_cells c) i ws ∙ rw (le-leb c i h) refl))

-- ---- the words' changes are the records'

full-length : (st : List ℕ) (i : ℕ) → Lifts st (λ ws. put_length ws i (cell 0 ws i)) (λ ds. update ds i (λ d. with_length d.size d))
full-length st i ws a =
    let b = length-lifts st i (cell 0 ws i) ws a in
    (b.0, b.1 ∙ ap (λ (k : ℕ). update (records_of st ws) i (with_length k)) (sym (ap (λ (d : DmaDescriptor). d.size) (record_is st ws a i))))

fill-lifts : (st : List ℕ) (i : ℕ) → Lifts st (fill_cells i) (λ ds. update ds i (λ d. filled d.size d))
unfolding fill_cells
fill-lifts st i =
    lifts-more st (λ ws. put_length ws i (cell 0 ws i)) (λ ws. put_eof ws i true) i (λ d. with_length d.size d) (with_eof true) (full-length st i) (eof-lifts st i true)

filled-lifts : (st : List ℕ) (d : ℕ) → Lifts st (up_to fill_cells d) (filled_to d)
unfolding filled_to
filled-lifts st d = lifts-up st fill_cells (λ i s. update s i (λ r. filled r.size r)) d (λ i l. fill-lifts st i)

short-lifts : (st : List ℕ) (b : ℕ) → Lifts st (λ ws. put_eof (put_length ws 0 b) 0 true) (λ ds. update ds 0 (filled b))
short-lifts st b = lifts-more st (λ ws. put_length ws 0 b) (λ ws. put_eof ws 0 true) 0 (with_length b) (with_eof true) (length-lifts st 0 b) (eof-lifts st 0 true)

cut-lifts : (st : List ℕ) (c i : ℕ) → Lifts st (cut_cells c i) (λ ds. update ds i (cut c i))
unfolding cut_cells
cut-lifts st c i = go (nat_le c i) (i + 1 == c)
  where
    go : (x y : Bool) → Lifts st (λ ws. cond x (put_owner ws i Cpu) (cond y (put_next ws i None) ws)) (λ ds. update ds i (λ d. cond x (with_owner Cpu d) (cond y (with_next None d) d)))
    go true y = owner-lifts st i Cpu
    go false true = next-lifts st i None refl
    go false false = λ ws a. (a, sym (set-get_or (records_of st ws) i blank))

ends-lifts : (st : List ℕ) (n c : ℕ) → Lifts st (up_to (cut_cells c) n) (cut_at n c)
unfolding cut_at
ends-lifts st n c = lifts-up st (cut_cells c) (λ i s. update s i (cut c i)) n (λ i l. cut-lifts st c i)

-- ---- all of it

record Marks (st ws : List ℕ) (vs : List ℕ) (c : Cursor) (m : Marked) : Type 0 where
  whole : are_records st vs ≡ true
  shown : records_of st vs ≡ m.descriptors
  cursor : c ≡ record { at = m.at; offset = m.offset }

module _ (st : List ℕ) (n b : ℕ) (ws : List ℕ) (a : are_records st ws ≡ true) where
  marks-at : (p : Reached) → Marks st ws (marked_cells_at n b ws p.at) (cursor_at n p) (marked_at n b (records_of st ws) p)
  marks-at p = go (p.at == n) (p.at == 0)
    where
      go : (x y : Bool)
          → Marks st ws
          (cond x (up_to fill_cells n ws) (cond y (up_to (cut_cells 1) n (put_eof (put_length ws 0 b) 0 true)) (up_to (cut_cells p.at) n (up_to fill_cells p.at ws))))
          (cond x (record { at = 0; offset = 0 }) (cond y (record { at = 1; offset = 0 }) (record { at = p.at; offset = p.rest })))
          (cond x (record { descriptors = filled_to n (records_of st ws); at = 0; offset = 0 })
          (cond y (record { descriptors = cut_at n 1 (update (records_of st ws) 0 (filled b)); at = 1; offset = 0 })
          (record { descriptors = cut_at n p.at (filled_to p.at (records_of st ws)); at = p.at; offset = p.rest })))
      go true y = let l = filled-lifts st n ws a in record { whole = l.0; shown = l.1; cursor = refl }
      go false true =
          let l = lifts-then st (λ ws. put_eof (put_length ws 0 b) 0 true) (up_to (cut_cells 1) n) (λ ds. update ds 0 (filled b)) (cut_at n 1) (short-lifts st b) (ends-lifts st n 1) ws a in
          record { whole = l.0; shown = l.1; cursor = refl }
      go false false =
          let l = lifts-then st (up_to fill_cells p.at) (up_to (cut_cells p.at) n) (filled_to p.at) (cut_at n p.at) (filled-lifts st p.at) (ends-lifts st n p.at) ws a in
          record { whole = l.0; shown = l.1; cursor = refl }

  marks : Marks st ws (marked_cells n b ws) (marked_cursor n b ws) (marked_ready n b (records_of st ws))
  unfolding marked_cells marked_cursor marked_ready
  marks =
      rw (reached-alike (record_at [] ws) (record_in (records_of st ws)) (cells-alike Out st ws a) n 0 b)
      (go (b == 0) (marks-at (reached (record_in (records_of st ws)) n 0 b)))
    where
      go : (x : Bool) {vs : List ℕ} {c : Cursor} {m : Marked} → Marks st ws vs c m
          → Marks st ws (cond x ws vs) (cond x (record { at = 0; offset = 0 }) c) (cond x (record { descriptors = records_of st ws; at = 0; offset = 0 }) m)
      go true k = record { whole = a; shown = refl; cursor = refl }
      go false k = k

-- the head that `prepare` leaves
abbrev pub prepared_head : Head → Cursor → Head
prepared_head h c = record { count = h.count; descriptor_idx = c.at; descriptor_offset = c.offset; tally = h.tally; pre_filled = 0 }

module _ (st ws : List ℕ) (h : Head) (len : ℕ) (s : split_sound (ring_of st ws h) len ≡ true) where
  linked_cells : List ℕ
  linked_cells = up_to (link_cells Out h.count) h.count ws

  pub prepared : (marked_cells h.count h.pre_filled (up_to (link_cells Out h.count) h.count ws) ≡ cells_now st ws (prepare_of (ring_of st ws h) len).ring.descriptors)
      × (prepared_head h (marked_cursor h.count h.pre_filled (up_to (link_cells Out h.count) h.count ws)) ≡ head_of (prepare_of (ring_of st ws h) len).ring)
      × (Ok tt ≡ (prepare_of (ring_of st ws h) len).answer)
  prepared =
      let n : ℕ = h.count in
      let b : ℕ = h.pre_filled in
      let vs : List ℕ = up_to (link_cells Out n) n ws in
      let a : are_records st ws ≡ true = split-records st ws h len s in
      let l = all-linked Out st n (split-facts (ring_of st ws h) len s).parts.many ws a in
      let m = marks st n b vs l.0 in
      let q : marked_ready n b (records_of st vs) ≡ marked_ready n b (linked_all Out n (records_of st ws)) = ap (marked_ready n b) l.1 in
      rw (prepare-yes (ring_of st ws h) len s) (
        cells_are st ws (marked_cells n b vs) _ a m.whole (m.shown ∙ ap (λ (k : Marked). k.descriptors) q),
        ap (prepared_head h) (m.cursor ∙ ap (λ (k : Marked). record { at = k.at; offset = k.offset }) q),
        refl,
      )

-- ---- the cases of `mark_tx_stream_descriptors_ready`

module _ (n b : ℕ) (ws : List ℕ) where
  pub marked-none : b ≡ 0 → (ws ≡ marked_cells n b ws) × (◌≡◌ {A = Cursor} (record { at = 0; offset = 0 }) (marked_cursor n b ws))
  unfolding marked_cells marked_cursor
  marked-none z = rw (eq-eqb b 0 z) (refl, refl)

  abbrev end : Reached
  end = reached (record_at [] ws) n 0 b

  module _ (z : b ≡ 0 → ⊥) where
    pub marked_all : end.at ≡ n → (up_to fill_cells n ws ≡ marked_cells n b ws) × (◌≡◌ {A = Cursor} (record { at = 0; offset = 0 }) (marked_cursor n b ws))
    unfolding marked_cells marked_cursor
    marked_all e = rw (ne_eqb b 0 z, eq-eqb end.at n e) (refl, refl)

    module _ (ne : end.at ≡ n → ⊥) where
      pub marked-short : end.at ≡ 0
          → (up_to (cut_cells 1) n (put_eof (put_length ws 0 end.rest) 0 true) ≡ marked_cells n b ws) × (◌≡◌ {A = Cursor} (record { at = 1; offset = 0 }) (marked_cursor n b ws))
      unfolding marked_cells marked_cursor
      marked-short e =
          rw (ne_eqb b 0 z, ne_eqb end.at n ne, eq-eqb end.at 0 e)
          (ap (λ (k : ℕ). up_to (cut_cells 1) n (put_eof (put_length ws 0 k) 0 true)) (reached-first (record_at [] ws) n b e), refl)

      pub marked-on : (end.at ≢ 0)
          → (up_to (cut_cells end.at) n (up_to fill_cells end.at ws) ≡ marked_cells n b ws) × (◌≡◌ {A = Cursor} (record { at = end.at; offset = end.rest }) (marked_cursor n b ws))
      unfolding marked_cells marked_cursor
      marked-on far = rw (ne_eqb b 0 z, ne_eqb end.at n ne, ne_eqb end.at 0 far) (refl, refl)

pub cursor-by : (c : Cursor) (p : Reached) → c.at ≡ p.at → c.offset ≡ p.rest → c ≡ record { at = p.at; offset = p.rest }
cursor-by c p e f = rw (← e, ← f) refl
