-- `prepare`, by document 01's cases: where the prefilled bytes end, and what every record is then.
use Rattle.std.specs.Prelude.{◌≡◌, Bool, true, false, ◌⊎◌, ◌≢◌, List, eqb, ltb, length, Some, None, Option}
use Rattle.std.proofs.Math.Path.{refl, ap}
use Rattle.std.proofs.Common.{sym, ◌∙◌, subst, inl, inr, arith, add-one, ltb-true, ltb-false, le-leb, eq-eqb, ne_eqb, eqb-true}
use Rattle.std.proofs.Math.Bool.{cond}
use Prim.Native.Nat.{ℕ, zero, suc, ◌+◌, ◌-◌, ◌≤◌, ◌<◌}
use Rattle.std.proofs.Math.Decide.{ℕ_discrete}
use Rattle.std.proofs.lemmas.Bool.{lt-leb, eqb-false}
use Rattle.descriptors.specs.Record.{record_in, update, with_owner, with_next, following, linked}
use Rattle.descriptors.specs.Split.{start_of, size_of}
use Rattle.descriptors.specs.Ring.{linked_all}
use Rattle.descriptors.specs.declared.record.Owner.TheVariants.{Cpu, Dma}
use Rattle.descriptors.specs.declared.record.DmaDescriptor.{DmaDescriptor}
use Rattle.descriptors.specs.declared.record.TransferDirection.TheVariants.{Out}
use Rattle.ring_order.specs.Geometry.{Geometry}
use Rattle.ring_order.specs.Shape.{Laid, grounds}
use Rattle.ring_order.specs.Begin.{linked-record, linked-length}
use Rattle.descriptors.specs.laws.Updates.{update_same, update_other, update-length}
use Rattle.tx_stream.specs.Transmit.{Reached, reached, filled, filled_to, cut, cut_at, Marked, marked_at, marked_ready}
use Rattle.both_ends.specs.transmit.Blocks.{Edge, inner, last, edge-next}
use Rattle.both_ends.specs.transmit.Marked.{filled-length, filled-below, filled-above, cut-length, cut-at}

-- ---- where b bytes end

pub data Ends (n len b : ℕ) (p : Reached) : Type 0 where
  all : p.at ≡ n → b ≡ len → Ends n len b p
  inside : p.at < n → start_of n len p.at + p.rest ≡ b → p.rest < size_of n len p.at → Ends n len b p

module _ (n len : ℕ) (G : Geometry n len) (f : ℕ → DmaDescriptor) (room : (i : ℕ) → i < n → (f i).size ≡ size_of n len i) where
  ends-here : (i b s : ℕ) → i < n → Edge n len i s → b < size_of n len i → Ends n len (s + b) record { at = i; rest = b }
  ends-here i b s h (inner l e) k = inside h (ap (λ (x : ℕ). x + b) (sym e)) k
  ends-here i b s h (last l e) k = absurd (omega arith)

  ends-all : (i b s : ℕ) → i ≡ n → Edge n len i s → s + b ≤ len → Ends n len (s + b) record { at = i; rest = b }
  ends-all i b s h (inner l e) k = absurd (omega arith)
  ends-all i b s h (last l e) k = all h (omega arith)

  ends-test : (k i b s : ℕ) → i + suc k ≡ n → Edge n len i s → s + b ≤ len
      → ((b s : ℕ) → Edge n len (i + 1) s → s + b ≤ len → Ends n len (s + b) (reached f k (i + 1) b))
      → (t : Bool) → ltb b (f i).size ≡ t → Ends n len (s + b) (cond t record { at = i; rest = b } (reached f k (i + 1) (b - (f i).size)))
  ends-test k i b s h e l ih true q =
      let lt : b < (f i).size = ltb-true b (f i).size q in
      ends-here i b s (omega arith) e (omega (arith, room i (omega arith)))
  ends-test k i b s h e l ih false q =
      let ge : (f i).size ≤ b = ltb-false b (f i).size q in
      let z : (f i).size ≡ size_of n len i = room i (omega arith) in
      let v : s + size_of n len i + (b - (f i).size) ≡ s + b = omega arith in
      subst (λ (x : ℕ). Ends n len x (reached f k (i + 1) (b - (f i).size))) v
      (ih (b - (f i).size) (s + size_of n len i) (edge-next G e (omega arith)) (omega arith))

  ends_by : (k i b s : ℕ) → i + k ≡ n → Edge n len i s → s + b ≤ len → Ends n len (s + b) (reached f k i b)
  unfolding reached
  ends_by zero i b s h e l = ends-all i b s (omega arith) e l
  ends_by (suc k) i b s h e l = ends-test k i b s h e l (λ b' s'. ends_by k (i + 1) b' s' (omega arith)) (ltb b (f i).size) refl

  pub reached-ends : (b : ℕ) → b ≤ len → Ends n len b (reached f n 0 b)
  reached-ends b h =
      subst (λ (x : ℕ). Ends n len x (reached f n 0 b)) {x = 0 + b} {y = b} (omega arith)
      (ends_by n 0 b 0 (omega arith) (inner (omega (arith, G.many)) (sym G.first)) (omega arith))

-- ---- what a record becomes

-- one of d records that are queued, with k bytes: "records filled whole get length = size and EOF", "sent short with EOF"; "next i+1",
-- and "the record before the cursor gets next none"
abbrev pub readied : ℕ → ℕ → ℕ → DmaDescriptor → DmaDescriptor
readied d k j r = record { buffer = r.buffer; size = r.size; length = k; suc_eof = true; owner = Dma; next = following d j }

-- "the cursor's record and all after it become CPU"
abbrev pub freed : ℕ → ℕ → DmaDescriptor → DmaDescriptor
freed n j r = record { buffer = r.buffer; size = r.size; length = r.length; suc_eof = r.suc_eof; owner = Cpu; next = following n j }

pub following-last : (n j : ℕ) → suc j ≡ n → following n j ≡ None
following-last n j e = ap (λ (t : Bool). cond t None (Some (j + 1))) (eq-eqb (j + 1) n (omega arith))

pub following-inner : (n j : ℕ) → suc j ≢ n → following n j ≡ Some (suc j)
following-inner n j e = ap (λ (t : Bool). cond t None (Some (j + 1))) (ne_eqb (j + 1) n (λ q. e (omega arith))) ∙ ap Some (add-one j)

cut-free : (c j : ℕ) (x : DmaDescriptor) → c ≤ j → cut c j x ≡ with_owner Cpu x
cut-free c j x h = ap (λ (t : Bool). cond t (with_owner Cpu x) (cond (eqb (j + 1) c) (with_next None x) x)) (le-leb c j h)

cut-kept : (c j : ℕ) (x : DmaDescriptor) → j < c → cut c j x ≡ cond (eqb (j + 1) c) (with_next None x) x
cut-kept c j x h = ap (λ (t : Bool). cond t (with_owner Cpu x) (cond (eqb (j + 1) c) (with_next None x) x)) (lt-leb c j h)

cut-last : (c j : ℕ) (x : DmaDescriptor) → suc j ≡ c → cut c j x ≡ with_next None x
cut-last c j x e = cut-kept c j x (omega arith) ∙ ap (λ (t : Bool). cond t (with_next None x) x) (eq-eqb (j + 1) c (omega arith))

cut-inner : (c j : ℕ) (x : DmaDescriptor) → suc j < c → cut c j x ≡ x
cut-inner c j x h = cut-kept c j x (omega arith) ∙ ap (λ (t : Bool). cond t (with_next None x) x) (ne_eqb (j + 1) c (omega arith))

cut-queue : (n d k j : ℕ) (r : DmaDescriptor) → j < d → d < n → Dec (suc j ≡ d) → cut d j (filled k (linked Out n j r)) ≡ readied d k j r
cut-queue n d k j r h l (yes e) =
    cut-last d j (filled k (linked Out n j r)) e ∙ ap (λ (x : Option ℕ). with_next x (filled k (linked Out n j r))) (sym (following-last d j e))
cut-queue n d k j r h l (no e) =
    cut-inner d j (filled k (linked Out n j r)) (omega arith)
    ∙ ap (λ (x : Option ℕ). with_next x (filled k (linked Out n j r))) (following-inner n j (omega arith) ∙ sym (following-inner d j e))

-- ---- the three cases in which a byte is prefilled

-- the bytes in d records, of the lengths that K says, and o more
pub data Held (n len b d : ℕ) (K : ℕ → ℕ) (o : ℕ) : Type 0 where
  short : d ≡ 1 → K 0 ≡ b → b < size_of n len 0 → o ≡ 0 → Held n len b d K o
  whole : ((j : ℕ) → j < d → K j ≡ size_of n len j) → (d < n → start_of n len d + o ≡ b) → (d ≡ n → b ≡ len) → Held n len b d K o

pub record Marks (n len b : ℕ) (ds : List DmaDescriptor) (m : Marked) : Type 0 where
  pub d : ℕ
  pub K : ℕ → ℕ
  pub some : 0 < d
  pub inside : d ≤ n
  pub many : length m.descriptors ≡ length ds
  pub cursor : ((d < n) × (m.at ≡ d) × (m.offset < size_of n len d)) ⊎ ((d ≡ n) × (m.at ≡ 0) × (m.offset ≡ 0))
  pub queue : (j : ℕ) → j < d → record_in m.descriptors j ≡ readied d (K j) j (record_in ds j)
  pub free : (j : ℕ) → d ≤ j → j < n → record_in m.descriptors j ≡ freed n j (record_in ds j)
  pub bytes : Held n len b d K m.offset

module _ (n len b : ℕ) (ds : List DmaDescriptor) (l : Laid n len ds) (hb : 0 < b) where
  abbrev joined : List DmaDescriptor
  joined = linked_all Out n ds

  joined_at : (j : ℕ) → j < n → record_in joined j ≡ linked Out n j (record_in ds j)
  joined_at j h = linked-record Out n ds l.enough j h

  -- "All filled: cursor (0,0)."
  marks-all : b ≡ len → Marks n len b ds record { descriptors = filled_to n joined; at = 0; offset = 0 }
  marks-all e =
      record {
        d = n;
        K = size_of n len;
        some = omega (arith, (grounds n len ds l).many);
        inside = omega arith;
        many = filled-length n joined ∙ linked-length Out n ds l.enough;
        cursor = inr (refl, refl, refl);
        queue = λ j h.
            filled-below n joined j h (omega (arith, linked-length Out n ds l.enough, l.enough))
            ∙ ap (λ (r : DmaDescriptor). filled r.size r) (joined_at j h)
            ∙ ap (λ (k : ℕ). filled k (linked Out n j (record_in ds j))) (l.room j h);
        free = λ j h k. absurd (omega arith);
        bytes = whole (λ j h. refl) (λ h. absurd (omega arith)) (λ h. e);
      }

  -- "If the bytes end inside record 0, it is sent short with EOF, cursor (1,0)."
  short-at : (j : ℕ) → j < n → Dec (j ≡ 0) → record_in (cut_at n 1 (update joined 0 (filled b))) j ≡ cond (eqb j 0) (readied 1 b j (record_in ds j)) (freed n j (record_in ds j))
  short-at j h (yes e) =
      let m : 0 < length joined = omega (arith, linked-length Out n ds l.enough, l.enough) in
      rw e
      (cut-at n 1 (update joined 0 (filled b)) 0 (omega arith) (omega (arith, update-length joined 0 (filled b), linked-length Out n ds l.enough, l.enough))
      ∙ ap (cut 1 0) (update_same joined 0 (filled b) m ∙ ap (filled b) (joined_at 0 (omega arith)))
      ∙ cut-queue n 1 b 0 (record_in ds 0) (omega arith) (omega (arith, (grounds n len ds l).many)) (ℕ_discrete 1 1))
  short-at j h (no e) =
      cut-at n 1 (update joined 0 (filled b)) j h (omega (arith, update-length joined 0 (filled b), linked-length Out n ds l.enough, l.enough))
      ∙ ap (cut 1 j) (update_other joined 0 j (filled b) e ∙ joined_at j h)
      ∙ cut-free 1 j (linked Out n j (record_in ds j)) (omega arith)
      ∙ ap (λ (t : Bool). cond t (readied 1 b j (record_in ds j)) (freed n j (record_in ds j))) (sym (ne_eqb j 0 e))

  marks-short : b < size_of n len 0 → Marks n len b ds record { descriptors = cut_at n 1 (update joined 0 (filled b)); at = 1; offset = 0 }
  marks-short h =
      record {
        d = 1;
        K = λ j. b;
        some = omega arith;
        inside = omega (arith, (grounds n len ds l).many);
        many = cut-length n 1 (update joined 0 (filled b)) ∙ update-length joined 0 (filled b) ∙ linked-length Out n ds l.enough;
        cursor = inl (omega (arith, (grounds n len ds l).many), refl, (grounds n len ds l).some 1 (omega (arith, (grounds n len ds l).many)));
        queue = λ j k.
            let e : j ≡ 0 = omega arith in
            short-at j (omega (arith, (grounds n len ds l).many)) (yes e)
            ∙ ap (λ (t : Bool). cond t (readied 1 b j (record_in ds j)) (freed n j (record_in ds j))) (eq-eqb j 0 e);
        free = λ j k m.
            short-at j m (no (omega arith)) ∙ ap (λ (t : Bool). cond t (readied 1 b j (record_in ds j)) (freed n j (record_in ds j))) (ne_eqb j 0 (omega arith));
        bytes = short refl refl h refl;
      }

  -- "If they end at the start of, or inside, record d > 0, the cursor is (d, rest)."
  module _ (d o : ℕ) (some : 0 < d) (hd : d < n) where
    marks-later : start_of n len d + o ≡ b → o < size_of n len d → Marks n len b ds record { descriptors = cut_at n d (filled_to d joined); at = d; offset = o }
    marks-later e h =
        record {
          d = d;
          K = size_of n len;
          some = some;
          inside = omega arith;
          many = cut-length n d (filled_to d joined) ∙ filled-length d joined ∙ linked-length Out n ds l.enough;
          cursor = inl (hd, refl, h);
          queue = λ j k.
              cut-at n d (filled_to d joined) j (omega arith) (omega (arith, filled-length d joined, linked-length Out n ds l.enough, l.enough))
              ∙ ap (cut d j)
              (filled-below d joined j k (omega (arith, linked-length Out n ds l.enough, l.enough))
              ∙ ap (λ (r : DmaDescriptor). filled r.size r) (joined_at j (omega arith))
              ∙ ap (λ (m : ℕ). filled m (linked Out n j (record_in ds j))) (l.room j (omega arith)))
              ∙ cut-queue n d (size_of n len j) j (record_in ds j) k hd (ℕ_discrete (suc j) d);
          free = λ j k m.
              cut-at n d (filled_to d joined) j m (omega (arith, filled-length d joined, linked-length Out n ds l.enough, l.enough))
              ∙ ap (cut d j) (filled-above d joined j k ∙ joined_at j m)
              ∙ cut-free d j (linked Out n j (record_in ds j)) k;
          bytes = whole (λ j k. refl) (λ k. e) (λ k. absurd (omega arith));
        }

  -- the tests of `marked_at`
  marks-at : (p : Reached) → Ends n len b p → (s t : Bool) → eqb p.at n ≡ s → eqb p.at 0 ≡ t
      → Marks n len b ds (cond s record { descriptors = filled_to n joined; at = 0; offset = 0 }
      (cond t record { descriptors = cut_at n 1 (update joined 0 (filled b)); at = 1; offset = 0 }
      record { descriptors = cut_at n p.at (filled_to p.at joined); at = p.at; offset = p.rest }))
  marks-at p (all a e) true t x y = marks-all e
  marks-at p (all a e) false t x y = absurd (eqb-false p.at n x a)
  marks-at p (inside a e h) true t x y = absurd (omega (arith, eqb-true p.at n x))
  marks-at p (inside a e h) false true x y =
      let z : p.at ≡ 0 = eqb-true p.at 0 y in
      let s : start_of n len p.at ≡ 0 = ap (start_of n len) z ∙ (grounds n len ds l).first in
      let w : size_of n len p.at ≡ size_of n len 0 = ap (size_of n len) z in
      marks-short (omega arith)
  marks-at p (inside a e h) false false x y = let z : p.at ≢ 0 = eqb-false p.at 0 y in marks-later p.at p.rest (omega arith) a e h

  joined-room : (i : ℕ) → i < n → (record_in joined i).size ≡ size_of n len i
  joined-room i h = ap (λ (r : DmaDescriptor). r.size) (joined_at i h) ∙ l.room i h

  marked-some : marked_ready n b joined ≡ marked_at n b joined (reached (record_in joined) n 0 b)
  unfolding marked_ready
  marked-some =
      ap (λ (t : Bool). cond t record { descriptors = joined; at = 0; offset = 0 } (marked_at n b joined (reached (record_in joined) n 0 b))) (ne_eqb b 0 (omega arith))

  pub marks : b ≤ len → Marks n len b ds (marked_ready n b (linked_all Out n ds))
  marks h =
      subst (λ (m : Marked). Marks n len b ds m) (sym marked-some)
      (marks-at (reached (record_in joined) n 0 b) (reached-ends n len (grounds n len ds l) (record_in joined) joined-room b h) _ _ refl refl)
