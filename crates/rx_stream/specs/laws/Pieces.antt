-- The pieces, one after another, are the bytes of the CPU-owned run.
use Rattle.std.specs.Prelude.{◌≡◌, ℕ, zero, suc, ◌+◌, ◌-◌, ◌<◌, ◌≤◌, Bool, true, false, cond, ◌||◌, List, ◌++◌, length, take, drop, nat_le, nat_lt}
use Rattle.std.proofs.Math.Path.{refl}
use Rattle.std.proofs.Common.{sym, ◌∙◌, ap, append_assoc, take-add, drop-drop}
use native.Mathlib.Omega.{arith}
use borrow.Author.Tests.{ltb-true, ltb-false, lt-ltb}
use Rattle.descriptors.specs.Record.{is_cpu}
use Rattle.descriptors.specs.Walk.{run_data}
use Rattle.descriptors.specs.laws.Tests.{not-both}
use Rattle.descriptors.specs.declared.record.DmaDescriptor.{DmaDescriptor}
use Rattle.descriptors.specs.declared.record.TransferDirection.TheVariants.{In}
use Rattle.rx_stream.specs.Pieces.{piece_of, nothing, longer, wrapped}
use Rattle.rx_stream.specs.declared.piece.Piece.{Piece}
use Rattle.rx_stream.specs.laws.Flats.{piece-zero, piece-stop, piece-ends, piece-go, enough}
use Rattle.rx_stream.specs.laws.Layout.{Layout}
use Rattle.rx_stream.specs.laws.Runs.{data-from}

-- a piece that goes on past a record goes on because it is full
pub goes-full : (a b : Bool) → (a || b) ≡ false → b ≡ false
goes-full true b h = not-both (sym h)
goes-full false b h = h

module _ (f : ℕ → DmaDescriptor) where
  pub piece-records : (o want k i : ℕ) → (piece_of f o want k i).records ≤ k
  unfolding piece_of
  piece-records o want zero i = omega arith
  piece-records o want (suc k) i =
      go (is_cpu (f i).owner) (enough f o want (f i)) (piece-records 0 (want - ((f i).length - o)) k (i + 1))
    where
      go : (a e : Bool) → (piece_of f 0 (want - ((f i).length - o)) k (i + 1)).records ≤ k
          → (cond a (longer ((f i).length - o) (cond e nothing (piece_of f 0 (want - ((f i).length - o)) k (i + 1)))) nothing).records ≤ suc k
      go true true h = omega arith
      go true false h = omega arith
      go false e h = omega arith

  -- a piece of no records starts at one of the device's
  pub piece-none : (o want k i : ℕ) → 0 < k → (piece_of f o want k i).records ≡ 0 → is_cpu (f i).owner ≡ false
  unfolding piece_of
  piece-none o want zero i h z = absurd (omega arith)
  piece-none o want (suc k) i h z = go (is_cpu (f i).owner) _ z
    where
      go : (a : Bool) (p : Piece) → (cond a (longer ((f i).length - o) p) nothing).records ≡ 0 → a ≡ false
      go true p e = absurd (omega arith)
      go false p e = refl

module _ (f : ℕ → DmaDescriptor) (n : ℕ) (b : List ℕ) (lay : Layout f n (length b)) where
  -- it lies in the buffer
  pub piece-within : (o want k i : ℕ) → i < n → i + k ≤ n → o ≤ (f i).length → (f i).buffer + o + (piece_of f o want k i).bytes ≤ length b
  unfolding piece_of
  piece-within o want zero i h l s = omega (arith, lay.within i h, lay.fits i h)
  piece-within o want (suc k) i h l s =
      go (is_cpu (f i).owner) (enough f o want (f i)) refl refl (λ p. piece-within 0 (want - ((f i).length - o)) k (i + 1) p (omega arith) (omega arith))
    where
      go : (a e : Bool) → is_cpu (f i).owner ≡ a → enough f o want (f i) ≡ e
          → (i + 1 < n → (f (i + 1)).buffer + 0 + (piece_of f 0 (want - ((f i).length - o)) k (i + 1)).bytes ≤ length b)
          → (f i).buffer + o + (cond a (longer ((f i).length - o) (cond e nothing (piece_of f 0 (want - ((f i).length - o)) k (i + 1)))) nothing).bytes ≤ length b
      go true true p q ih = omega (arith, lay.within i h, lay.fits i h)
      go true false p q ih = more (nat_lt (i + 1) n) refl
        where
          full : (f i).size ≤ (f i).length
          full = ltb-false (f i).length (f i).size (goes-full (nat_le want ((f i).length - o)) _ q)

          more : (t : Bool) → nat_lt (i + 1) n ≡ t → (f i).buffer + o + ((f i).length - o + (piece_of f 0 (want - ((f i).length - o)) k (i + 1)).bytes) ≤ length b
          more true t = let m = ltb-true (i + 1) n t in omega (arith, ih m, lay.joined i m, full, lay.fits i h)
          more false t =
              let z : k ≡ 0 = omega (arith, ltb-false (i + 1) n t) in
              rw z (omega (arith, lay.within i h, lay.fits i h))
      go false e p q ih = omega (arith, lay.within i h, lay.fits i h)

  -- and it is the front of the bytes from byte o of the record on; the others follow at the place behind it
  abbrev pub Opens : ℕ → ℕ → ℕ → ℕ → ℕ → Type 0
  Opens o want k left i =
      drop o (run_data In f b n left (wrapped n i))
      ≡ take (piece_of f o want k i).bytes (drop ((f i).buffer + o) b) ++ run_data In f b n (left - (piece_of f o want k i).records) (wrapped n (i + (piece_of f o want k i).records))

  -- a record's bytes, with what lies behind them
  joins : (o left i bytes records : ℕ) → i < n → 0 < left → o ≤ (f i).length → is_cpu (f i).owner ≡ true
      → run_data In f b n (left - 1) (wrapped n (i + 1))
      ≡ take bytes (drop ((f i).buffer + (f i).length) b) ++ run_data In f b n (left - 1 - records) (wrapped n (i + 1 + records))
      → drop o (run_data In f b n left (wrapped n i))
      ≡ take ((f i).length - o + bytes) (drop ((f i).buffer + o) b) ++ run_data In f b n (left - (1 + records)) (wrapped n (i + (1 + records)))
  joins o left i bytes records h l s cpu e =
      let d : List ℕ = drop ((f i).buffer + o) b in
      let t : List ℕ = run_data In f b n (left - 1 - records) (wrapped n (i + 1 + records)) in
      let seam : drop ((f i).length - o) d ≡ drop ((f i).buffer + (f i).length) b =
      drop-drop ((f i).length - o) ((f i).buffer + o) b ∙ ap (λ (k : ℕ). drop k b) {x = (f i).buffer + o + ((f i).length - o)} {y = (f i).buffer + (f i).length} (omega arith) in
      let fewer : left - 1 - records ≡ left - (1 + records) = omega arith in
      let on : i + 1 + records ≡ i + (1 + records) = omega arith in
      ap (λ (j : ℕ). drop o (run_data In f b n left j)) (rw (lt-ltb i n h))
      ∙ data-from In f b n left i o l cpu s (omega (arith, lay.within i h, lay.fits i h))
      ∙ ap (λ x. take ((f i).length - o) d ++ x) e
      ∙ sym (append_assoc (take ((f i).length - o) d) (take bytes (drop ((f i).buffer + (f i).length) b)) t)
      ∙ ap (λ x. (take ((f i).length - o) d ++ take bytes x) ++ t) (sym seam)
      ∙ ap (λ x. x ++ t) (sym (take-add ((f i).length - o) bytes d))
      ∙ ap (λ (k : ℕ). take ((f i).length - o + bytes) d ++ run_data In f b n k (wrapped n (i + 1 + records))) fewer
      ∙ ap (λ (k : ℕ). take ((f i).length - o + bytes) d ++ run_data In f b n (left - (1 + records)) (wrapped n k)) on

  opens-more : (o want k left i : ℕ) → i + suc k ≤ n → suc k ≤ left → o ≤ (f i).length → is_cpu (f i).owner ≡ true
      → Opens 0 (want - ((f i).length - o)) k (left - 1) (i + 1) → Opens o want (suc k) left i
  opens-more o want k left i h l s cpu ih = go (enough f o want (f i)) refl
    where
      p : Piece
      p = piece_of f 0 (want - ((f i).length - o)) k (i + 1)

      nil : run_data In f b n (left - 1) (wrapped n (i + 1)) ≡ run_data In f b n (left - 1 - 0) (wrapped n (i + 1 + 0))
      nil =
          let z : left - 1 ≡ left - 1 - 0 = omega arith in
          let y : i + 1 ≡ i + 1 + 0 = omega arith in
          ap (λ (k : ℕ). run_data In f b n k (wrapped n (i + 1))) z ∙ ap (λ (k : ℕ). run_data In f b n (left - 1 - 0) (wrapped n k)) y

      goes : (e : Bool) → nat_lt (i + 1) n ≡ e → (f i).size ≤ (f i).length
          → run_data In f b n (left - 1) (wrapped n (i + 1))
          ≡ take p.bytes (drop ((f i).buffer + (f i).length) b) ++ run_data In f b n (left - 1 - p.records) (wrapped n (i + 1 + p.records))
      goes true e full =
          let z : (f (i + 1)).buffer + 0 ≡ (f i).buffer + (f i).length = omega (arith, lay.joined i (ltb-true (i + 1) n e), lay.fits i (omega arith)) in
          ih ∙ ap (λ (k : ℕ). take p.bytes (drop k b) ++ run_data In f b n (left - 1 - p.records) (wrapped n (i + 1 + p.records))) z
      goes false e full =
          let z : k ≡ 0 = omega (arith, ltb-false (i + 1) n e) in
          let q : p ≡ nothing = ap (λ (j : ℕ). piece_of f 0 (want - ((f i).length - o)) j (i + 1)) z ∙ piece-zero f 0 (want - ((f i).length - o)) (i + 1) in
          rw q nil

      go : (e : Bool) → enough f o want (f i) ≡ e → Opens o want (suc k) left i
      go true e = rw (piece-ends f o want (suc k) i (omega arith) cpu e) (joins o left i 0 0 (omega arith) (omega arith) s cpu nil)
      go false e =
          let full : (f i).size ≤ (f i).length = ltb-false (f i).length (f i).size (goes-full (nat_le want ((f i).length - o)) _ e) in
          let one : suc k - 1 ≡ k = omega arith in
          rw (piece-go f o want (suc k) i (omega arith) cpu e, one) (joins o left i p.bytes p.records (omega arith) (omega arith) s cpu (goes (nat_lt (i + 1) n) refl full))

  opens : (want k left i : ℕ) → i + k ≤ n → k ≤ left → Opens 0 want k left i
  opens want zero left i h l =
      let z : left ≡ left - 0 = omega arith in
      let y : i ≡ i + 0 = omega arith in
      rw (piece-zero f 0 want i) (ap (λ (k : ℕ). run_data In f b n k (wrapped n i)) z ∙ ap (λ (k : ℕ). run_data In f b n (left - 0) (wrapped n k)) y)
  opens want (suc k) left i h l = go (is_cpu (f i).owner) refl (opens (want - ((f i).length - 0)) k (left - 1) (i + 1) (omega arith) (omega arith))
    where
      go : (a : Bool) → is_cpu (f i).owner ≡ a → Opens 0 (want - ((f i).length - 0)) k (left - 1) (i + 1) → Opens 0 want (suc k) left i
      go true e ih = opens-more 0 want k left i h l (omega arith) e ih
      go false e ih =
          let z : left ≡ left - 0 = omega arith in
          let y : i ≡ i + 0 = omega arith in
          rw (piece-stop f 0 want (suc k) i e) (ap (λ (k : ℕ). run_data In f b n k (wrapped n i)) z ∙ ap (λ (k : ℕ). run_data In f b n (left - 0) (wrapped n k)) y)

  pub piece-opens : (o want k left i : ℕ) → 0 < k → i + k ≤ n → k ≤ left → o ≤ (f i).length → is_cpu (f i).owner ≡ true → Opens o want k left i
  piece-opens o want zero left i z h l s e = absurd (omega arith)
  piece-opens o want (suc k) left i z h l s e =
      opens-more o want k left i h l s e (opens (want - ((f i).length - o)) k (left - 1) (i + 1) (omega arith) (omega arith))
