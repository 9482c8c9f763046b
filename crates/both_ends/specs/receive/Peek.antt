-- Peek shows the first of the unread bytes, on every sound ring: the piece that it hands back begins at the cursor, and goes on through
-- records that are full, each of which ends where the next one begins.
use Rattle.std.specs.Prelude.{◌≡◌, refl, Bool, true, false, ◌&&◌, ◌⊎◌, eqb, ltb, length, take, drop}
use Rattle.std.proofs.Common.{sym, ◌∙◌, inl, inr, add-zero, arith, ltb-true, ltb-false, eqb-true, lt-ltb, length-take, length-drop, take-add, drop-drop}
use Rattle.std.proofs.Math.Path.{ap, subst}
use Rattle.std.proofs.Math.Bool.{cond}
use mathlib.Core.List.{List, [], ◌++◌, append_assoc}
use Prim.Native.Nat.{ℕ, zero, suc, ◌+◌, ◌-◌, ◌≤◌, ◌<◌}
use Rattle.std.proofs.lemmas.List.{drop-append-le}
use Rattle.std.proofs.Math.Seq.{take-append_seam}
use Rattle.descriptors.specs.Place.{after}
use Rattle.descriptors.specs.Record.{record_in, is_cpu}
use Rattle.descriptors.specs.Ring.{Ring, record_of, sound}
use Rattle.descriptors.specs.Walk.{run_data, standing}
use Rattle.descriptors.specs.declared.record.DmaDescriptor.{DmaDescriptor}
use Rattle.descriptors.specs.declared.record.TransferDirection.TheVariants.{In}
use Rattle.descriptors.specs.laws.Tests.{and_split}
use Rattle.rx_stream.specs.Receive.{ends_with, flat_bytes, peek_from, peek_bytes, peek_of}
use Rattle.ring_order.specs.Lists.{take-drop}
use Rattle.ring_order.specs.Tests.{or-out, or_left, bool_cases, true-not-false}
use Rattle.ring_order.specs.Geometry.{within}
use Rattle.ring_order.specs.Shape.{Shape, Sound, sound-of, grounds}

-- s is the front of l
abbrev Front : List ℕ → List ℕ → Type 0
Front s l = (t : List ℕ) × (s ++ t ≡ l)

-- ---- the piece and the run, record by record

-- the record is the device's, or the piece ends with it, or goes on
piece : (X R : List ℕ) (c F : ℕ) (cpu ends : Bool) → (ends ≡ false → Front (take F (drop c X)) R)
    → Front (take (cond cpu (c + cond ends 0 F) 0) X) (cond cpu (take c X ++ R) [])
piece X R c F false ends h = ([], refl)
piece X R c F true true h = (R, ap (λ (m : ℕ). take m X ++ R) (add-zero c))
piece X R c F true false h =
    let (t, e) = h refl in
    (t, ap (λ (l : List ℕ). l ++ t) (take-add c F X) ∙ append_assoc (take c X) (take F (drop c X)) t ∙ ap (λ (l : List ℕ). take c X ++ l) e)

module _ (n len : ℕ) (ds : List DmaDescriptor) (b : List ℕ) (s : Shape n len ds) (u : Bool) where
  -- a record that does not end the piece is full
  full : (i : ℕ) → i < n → ends_with u (record_in ds i) ≡ false → (record_in ds i).length ≡ (record_in ds i).size
  full i h e = go (bool_cases (ltb (record_in ds i).length (record_in ds i).size))
    where
      go : (ltb (record_in ds i).length (record_in ds i).size ≡ true) ⊎ (ltb (record_in ds i).length (record_in ds i).size ≡ false) → (record_in ds i).length ≡ (record_in ds i).size
      go (inl t) = absurd (true-not-false (ends_with u (record_in ds i)) (or_left (ltb (record_in ds i).length (record_in ds i).size) _ t) e)
      go (inr t) = omega (arith, ltb-false (record_in ds i).length (record_in ds i).size t, s.lengths i h)

  -- and ends where the next one begins
  next_start : (i : ℕ) → suc i < n → ends_with u (record_in ds i) ≡ false → drop (record_in ds i).length (drop (record_in ds i).buffer b) ≡ drop (record_in ds (i + 1)).buffer b
  next_start i h e =
      drop-drop (record_in ds i).length (record_in ds i).buffer b
      ∙ ap (λ (m : ℕ). drop m b)
      (let z : i + 1 ≡ suc i = omega arith in
      subst (λ (j : ℕ). (record_in ds i).buffer + (record_in ds i).length ≡ (record_in ds j).buffer) (sym z)
      (omega (arith, full i (omega arith) e, s.laid.start i (omega arith), s.laid.room i (omega arith), s.laid.start (suc i) h, (grounds n len ds s.laid).joined i h)))

  flat-front : (k m i : ℕ) → i + k ≤ n → k ≤ m → Front (take (flat_bytes u (record_in ds) k i) (drop (record_in ds i).buffer b)) (run_data In (record_in ds) b n m i)
  unfolding flat_bytes run_data
  flat-front zero m i hi hm = (run_data In (record_in ds) b n m i, refl)
  flat-front (suc k) zero i hi hm = absurd (omega arith)
  flat-front (suc zero) (suc m) i hi hm =
      piece (drop (record_in ds i).buffer b) (run_data In (record_in ds) b n m (after n i)) (record_in ds i).length 0 (is_cpu (record_in ds i).owner) (ends_with u (record_in ds i))
      (λ e. (run_data In (record_in ds) b n m (after n i), refl))
  flat-front (suc (suc k)) (suc m) i hi hm =
      let a : after n i ≡ i + 1 = ap (λ (t : Bool). cond t (i + 1) 0) (lt-ltb (i + 1) n (omega arith)) in
      let ih = flat-front (suc k) m (i + 1) (omega arith) (omega arith) in
      piece (drop (record_in ds i).buffer b) (run_data In (record_in ds) b n m (after n i)) (record_in ds i).length (flat_bytes u (record_in ds) (suc k) (i + 1)) (is_cpu (record_in ds i).owner) (ends_with u (record_in ds i))
      (λ e.
      subst (λ (j : ℕ). Front (take (flat_bytes u (record_in ds) (suc k) (i + 1)) (drop (record_in ds i).length (drop (record_in ds i).buffer b))) (run_data In (record_in ds) b n m j)) (sym a)
      (subst (λ (l : List ℕ). Front (take (flat_bytes u (record_in ds) (suc k) (i + 1)) l) (run_data In (record_in ds) b n m (i + 1))) (sym (next_start i (omega arith) e)) ih))

-- a CPU-owned record is in the piece whole
flat-some : (u : Bool) (f : ℕ → DmaDescriptor) (k i : ℕ) → is_cpu (f i).owner ≡ true → (f i).length ≤ flat_bytes u f (suc k) i
unfolding flat_bytes
flat-some u f k i e = subst (λ (t : Bool). (f i).length ≤ cond t ((f i).length + cond (ends_with u (f i)) 0 (flat_bytes u f k (i + 1))) 0) (sym e) (omega arith)

-- ---- less the offset

front_less : (o F p : ℕ) (b R : List ℕ) → o ≤ F → o ≤ length (drop p b) → Front (take F (drop p b)) R → take (F - o) (drop (p + o) b) ≡ take (length (take (F - o) (drop (p + o) b))) (drop o R)
front_less o F p b R h l (t, e) =
    let X : List ℕ = drop p b in
    let z : o + (F - o) ≡ F = omega arith in
    let s : take (F - o) (drop (p + o) b) ≡ drop o (take F X) =
    ap (take (F - o)) (sym (drop-drop o p b)) ∙ take-drop (F - o) o X ∙ ap (λ (m : ℕ). drop o (take m X)) z in
    let d : drop o R ≡ drop o (take F X) ++ t = ap (drop o) (sym e) ∙ drop-append-le o (take F X) t (rw (length-take F X) (omega arith)) in
    s ∙ sym (ap (λ (m : List ℕ). take (length m) (drop o R)) s ∙ ap (take (length (drop o (take F X)))) d ∙ take-append_seam (drop o (take F X)) t)

module _ (r : Ring) (b : List ℕ) (s : Sound In r (length b)) (u : Bool) where
  offset-cases : (r.offset ≡ 0) ⊎ ((is_cpu (record_of r r.idx).owner ≡ true) × (r.offset < (record_of r r.idx).length))
  offset-cases = go (or-out (eqb r.offset 0) _ s.offset)
    where
      go : (eqb r.offset 0 ≡ true) ⊎ ((is_cpu (record_of r r.idx).owner && ltb r.offset (record_of r r.idx).length) ≡ true)
          → (r.offset ≡ 0) ⊎ ((is_cpu (record_of r r.idx).owner ≡ true) × (r.offset < (record_of r r.idx).length))
      go (inl e) = inl (eqb-true r.offset 0 e)
      go (inr e) = let (c, l) = and_split (is_cpu (record_of r r.idx).owner) _ e in inr (c, ltb-true r.offset (record_of r r.idx).length l)

  in-piece : (k : ℕ) → r.count - r.idx ≡ suc k → r.offset ≤ flat_bytes u (record_in r.descriptors) (r.count - r.idx) r.idx
  in-piece k e = go offset-cases
    where
      go : (r.offset ≡ 0) ⊎ ((is_cpu (record_of r r.idx).owner ≡ true) × (r.offset < (record_of r r.idx).length)) → r.offset ≤ flat_bytes u (record_in r.descriptors) (r.count - r.idx) r.idx
      go (inl z) = omega arith
      go (inr (c, l)) = subst (λ (m : ℕ). r.offset ≤ flat_bytes u (record_in r.descriptors) m r.idx) (sym e) (omega (arith, flat-some u (record_in r.descriptors) k r.idx c))

  in_buffer : r.offset ≤ length (drop (record_of r r.idx).buffer b)
  in_buffer = rw (length-drop (record_of r r.idx).buffer b) (go offset-cases)
    where
      go : (r.offset ≡ 0) ⊎ ((is_cpu (record_of r r.idx).owner ≡ true) × (r.offset < (record_of r r.idx).length)) → r.offset ≤ length b - (record_of r r.idx).buffer
      go (inl z) = omega arith
      go (inr (c, l)) =
          omega (arith, s.shape.lengths r.idx s.cursor, s.shape.laid.start r.idx s.cursor, s.shape.laid.room r.idx s.cursor, within r.count (length b) (grounds r.count (length b) r.descriptors s.shape.laid) r.idx s.cursor)

  shown : take (peek_bytes u r) (drop (peek_from r) b) ≡ take (length (take (peek_bytes u r) (drop (peek_from r) b))) (standing In r b)
  unfolding standing
  shown =
      front_less r.offset (flat_bytes u (record_in r.descriptors) (r.count - r.idx) r.idx) (record_of r r.idx).buffer b (run_data In (record_in r.descriptors) b r.count r.count r.idx)
      (in-piece (r.count - r.idx - 1) (omega (arith, s.cursor)))
      in_buffer
      (flat-front r.count (length b) r.descriptors b s.shape u (r.count - r.idx) r.count r.idx (omega (arith, s.cursor)) (omega arith))

-- PEEK SHOWS THE FIRST OF THE UNREAD BYTES
pub peek-front : (r : Ring) (b : List ℕ) (u : Bool) → sound In r (length b) ≡ true → peek_of u r b ≡ take (length (peek_of u r b)) (standing In r b)
unfolding peek_of
peek-front r b u h =
    subst (λ (t : Bool). cond t (take (peek_bytes u r) (drop (peek_from r) b)) [] ≡ take (length (cond t (take (peek_bytes u r) (drop (peek_from r) b)) [])) (standing In r b)) (sym h)
    (shown r b (sound-of In r (length b) h) u)

-- AND SHOWS SOMETHING, where the cursor's record is the CPU's and holds a byte behind the offset
pub peek-some : (r : Ring) (b : List ℕ) (u : Bool) → sound In r (length b) ≡ true → is_cpu (record_of r r.idx).owner ≡ true
    → r.offset < length (take (record_of r r.idx).length (drop (record_of r r.idx).buffer b)) → 0 < length (peek_of u r b)
unfolding peek_of
peek-some r b u h c l =
    subst (λ (t : Bool). 0 < length (cond t (take (peek_bytes u r) (drop (peek_from r) b)) [])) (sym h)
    (rw (length-take (peek_bytes u r) (drop (peek_from r) b), length-drop (peek_from r) b)
    (omega (arith, more, rw (length-take (record_of r r.idx).length (drop (record_of r r.idx).buffer b), length-drop (record_of r r.idx).buffer b) at l)))
  where
    more : (record_of r r.idx).length ≤ flat_bytes u (record_in r.descriptors) (r.count - r.idx) r.idx
    more =
        let s = sound-of In r (length b) h in
        let e : suc (r.count - r.idx - 1) ≡ r.count - r.idx = omega (arith, s.cursor) in
        subst (λ (m : ℕ). (record_of r r.idx).length ≤ flat_bytes u (record_in r.descriptors) m r.idx) e (flat-some u (record_in r.descriptors) (r.count - r.idx - 1) r.idx c)
