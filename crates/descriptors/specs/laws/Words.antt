-- The words that show given records: what a call leaves in them is what the next call reads.
use Rattle.std.specs.Prelude.{◌≡◌, ℕ, zero, suc, ◌+◌, ◌-◌, ◌*◌, ◌<◌, ◌≤◌, Bool, true, false, cond, List, ◌∷◌, ◌++◌, map, length, take, drop, slice_index, refl}
use Rattle.std.proofs.Common.{sym, ◌∙◌, ap, arith, take-append-drop, length-drop, drop-cons, drop-drop, lt-ltb}
use Rattle.std.proofs.Math.Seq.{take-length}
use Rattle.descriptors.specs.Record.{limit}
use Rattle.descriptors.specs.Cells.{cells, cell, record_at, are_records, tab, records_of, starts_of, cells_of, starts_now, cells_now, owner_cell, eof_cell, next_cell}
use Rattle.descriptors.specs.laws.Marks.{next-kept, owner-kept, eof-kept}
use Rattle.descriptors.specs.laws.Lifts.{Words, words, records-tab}
use Rattle.descriptors.specs.declared.record.DmaDescriptor.{DmaDescriptor}

map-tab : {A B : Type 0} (g : A → B) (f : ℕ → A) (k i : ℕ) → map g (tab f k i) ≡ tab (λ j. g (f j)) k i
map-tab g f zero i = refl
map-tab g f (suc k) i = ap (λ (t : List _). g (f i) ∷ t) (map-tab g f k (suc i))

tab-same : {A : Type 0} (f g : ℕ → A) (k i : ℕ) → ((j : ℕ) → j < i + k → f j ≡ g j) → tab f k i ≡ tab g k i
tab-same f g zero i h = refl
tab-same f g (suc k) i h = rw (h i (omega arith), tab-same f g k (suc i) (λ j l. h j (omega arith))) refl

-- a part of a list, by its elements
tab-part : (ws : List ℕ) (a k i : ℕ) → a + (i + k) ≤ length ws → tab (λ j. slice_index ws (a + j)) k i ≡ take k (drop (a + i) ws)
tab-part ws a zero i h = refl
tab-part ws a (suc k) i h =
    let e : a + suc i ≡ suc (a + i) = omega arith in
    rw (drop-cons ws (a + i) 0 (omega arith), tab-part ws a k (suc i) (omega arith), e) refl

-- a list in parts
part-on : (a k : ℕ) (l : List ℕ) → take k (drop a l) ++ drop (a + k) l ≡ drop a l
part-on a k l = ap (λ (t : List ℕ). take k (drop a l) ++ t) (sym (drop-drop k a l)) ∙ take-append-drop k (drop a l)

take_all : (k : ℕ) (l : List ℕ) → length l ≡ k → take k l ≡ l
take_all k l h = rw (← h) (take-length l)

five-parts : (l : List ℕ) → length l ≡ cells
    → take limit l ++ (take limit (drop 64 l) ++ (take limit (drop 128 l) ++ (take limit (drop 192 l) ++ take limit (drop 256 l)))) ≡ l
five-parts l h =
    rw (
      take_all limit (drop 256 l) (length-drop 256 l ∙ omega arith),
      part-on 192 limit l,
      part-on 128 limit l,
      part-on 64 limit l,
    )
    (take-append-drop limit l)

cells-by : (ds : List DmaDescriptor) (a b c d e ws : List ℕ) → map (λ (d : DmaDescriptor). d.size) ds ≡ a → map (λ (d : DmaDescriptor). d.length) ds ≡ b
    → map (λ (d : DmaDescriptor). next_cell d.next) ds ≡ c → map (λ (d : DmaDescriptor). owner_cell d.owner) ds ≡ d
    → map (λ (d : DmaDescriptor). eof_cell d.suc_eof) ds ≡ e → a ++ (b ++ (c ++ (d ++ e))) ≡ ws → cells_of ds ≡ ws
unfolding cells_of
cells-by ds a b c d e ws p q r s t h = rw (p, q, r, s, t) h

module _ (st ws : List ℕ) (w : Words st ws) where
  block-is : (b : ℕ) → b < 5 → (g : ℕ → ℕ) → ((j : ℕ) → j < limit → g j ≡ slice_index ws (limit * b + j)) → tab g limit 0 ≡ take limit (drop (limit * b) ws)
  block-is b h g e =
      tab-same g (λ j. slice_index ws (limit * b + j)) limit 0 (λ j l. e j (omega arith))
      ∙ tab-part ws (limit * b) limit 0 (omega (arith, w.whole))
      ∙ ap (λ (k : ℕ). take limit (drop k ws)) {x = limit * b + 0} {y = limit * b} (omega arith)

  cell-is : (b j : ℕ) → b < 5 → j < limit → cell b ws j ≡ slice_index ws (limit * b + j)
  cell-is b j h l = simp (lt-ltb _ _ h, lt-ltb _ _ l)

  map_is : (b : ℕ) → b < 5 → (g : DmaDescriptor → ℕ) → ((j : ℕ) → j < limit → g (record_at st ws j) ≡ cell b ws j)
      → map g (tab (record_at st ws) limit 0) ≡ take limit (drop (limit * b) ws)
  map_is b h g e = map-tab g (record_at st ws) limit 0 ∙ block-is b h (λ j. g (record_at st ws j)) (λ j l. e j l ∙ cell-is b j h l)

  mark-small : (b j : ℕ) → 3 ≤ b → b < 5 → j < limit → cell b ws j ≤ 1
  mark-small b j p q l =
      let e : limit * 3 + (limit * (b - 3) + j) ≡ limit * b + j = omega arith in
      rw (cell-is b j q l) (rw e at (w.marks (limit * (b - 3) + j) (omega arith)))

  pub cells-kept : cells_of (tab (record_at st ws) limit 0) ≡ ws
  cells-kept =
      cells-by (tab (record_at st ws) limit 0) _ _ _ _ _ ws
      (map_is 0 (omega arith) (λ (d : DmaDescriptor). d.size) (λ j l. refl))
      (map_is 1 (omega arith) (λ (d : DmaDescriptor). d.length) (λ j l. refl))
      (map_is 2 (omega arith) (λ (d : DmaDescriptor). next_cell d.next) (λ j l. next-kept (cell 2 ws j)))
      (map_is 3 (omega arith) (λ (d : DmaDescriptor). owner_cell d.owner) (λ j l. owner-kept (cell 3 ws j) (mark-small 3 j (omega arith) (omega arith) l)))
      (map_is 4 (omega arith) (λ (d : DmaDescriptor). eof_cell d.suc_eof) (λ j l. eof-kept (cell 4 ws j) (mark-small 4 j (omega arith) (omega arith) l)))
      (five-parts ws w.whole)

  pub starts-kept : starts_of (tab (record_at st ws) limit 0) ≡ st
  starts-kept =
      map-tab (λ (d : DmaDescriptor). d.buffer) (record_at st ws) limit 0
      ∙ tab-same (λ j. slice_index st j) (λ j. slice_index st (0 + j)) limit 0 (λ j l. ap (λ (k : ℕ). slice_index st k) {x = j} {y = 0 + j} (omega arith))
      ∙ tab-part st 0 limit 0 (omega (arith, w.starts))
      ∙ take_all limit st w.starts

-- words that hold records are given by the records that they show
pub cells_are : (st ws vs : List ℕ) (ds : List DmaDescriptor) → are_records st ws ≡ true → are_records st vs ≡ true → records_of st vs ≡ ds → vs ≡ cells_now st ws ds
unfolding cells_now
cells_are st ws vs ds a b e = rw (a, ← e, records-tab st vs b) (sym (cells-kept st vs (words st vs b)))

pub cells_same : (st ws : List ℕ) → ws ≡ cells_now st ws (records_of st ws)
unfolding cells_now
cells_same st ws = go (are_records st ws) refl
  where
    go : (b : Bool) → are_records st ws ≡ b → ws ≡ cond b (cells_of (records_of st ws)) ws
    go true e = rw (records-tab st ws e) (sym (cells-kept st ws (words st ws e)))
    go false e = refl

-- the same where the starts were written too
pub words_are : (st ws st' vs : List ℕ) (ds : List DmaDescriptor) → are_records st ws ≡ true → are_records st' vs ≡ true → records_of st' vs ≡ ds
    → (st' ≡ starts_now st ws ds) × (vs ≡ cells_now st ws ds)
unfolding starts_now cells_now
words_are st ws st' vs ds a b e =
    let w = words st' vs b in
    (rw (a, ← e, records-tab st' vs b) (sym (starts-kept st' vs w)), rw (a, ← e, records-tab st' vs b) (sym (cells-kept st' vs w)))

pub starts-same : (st ws : List ℕ) → st ≡ starts_now st ws (records_of st ws)
unfolding starts_now
starts-same st ws = go (are_records st ws) refl
  where
    go : (b : Bool) → are_records st ws ≡ b → st ≡ cond b (starts_of (records_of st ws)) st
    go true e = rw (records-tab st ws e) (sym (starts-kept st ws (words st ws e)))
    go false e = refl
