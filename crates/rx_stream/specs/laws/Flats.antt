-- The steps of the bytes in one piece, which the loops of the code go by; and what they read of a record: all but its start and next.
use Rattle.std.specs.Prelude.{◌≡◌, ℕ, zero, suc, ◌+◌, ◌-◌, ◌<◌, ◌≤◌, Bool, true, false, cond, ◌&&◌, ◌||◌, ltb, List, [], nat_le, nat_lt}
use Rattle.std.proofs.Math.Path.{refl}
use Rattle.std.proofs.Common.{sym, ◌∙◌, ap, le-leb}
use native.Mathlib.Omega.{arith}
use Rattle.std.proofs.lemmas.Bool.{lt-leb}
use Rattle.descriptors.specs.Record.{record_in, is_cpu}
use Rattle.descriptors.specs.Cells.{are_records, records_of, record_at}
use Rattle.descriptors.specs.laws.Lifts.{record_is}
use Rattle.descriptors.specs.declared.record.Owner.{Owner}
use Rattle.descriptors.specs.declared.record.DmaDescriptor.{DmaDescriptor}
use Rattle.rx_stream.specs.Receive.{ends_with, flat_bytes, flat_eof}
use Rattle.rx_stream.specs.Pieces.{piece_of, nothing, longer}
use Rattle.rx_stream.specs.declared.piece.Piece.{Piece}

module _ (u : Bool) (f : ℕ → DmaDescriptor) where
  pub flat-none : (i : ℕ) → flat_bytes u f 0 i ≡ 0
  unfolding flat_bytes
  flat-none i = refl

  pub flat-stop : (k i : ℕ) → is_cpu (f i).owner ≡ false → flat_bytes u f k i ≡ 0
  unfolding flat_bytes
  flat-stop zero i e = refl
  flat-stop (suc k) i e = rw e

  pub flat-ends : (k i : ℕ) → 0 < k → is_cpu (f i).owner ≡ true → ends_with u (f i) ≡ true → flat_bytes u f k i ≡ (f i).length
  unfolding flat_bytes
  flat-ends zero i h e l = absurd (omega arith)
  flat-ends (suc k) i h e l = rw (e, l) (omega arith)

  pub flat-go : (k i : ℕ) → 0 < k → is_cpu (f i).owner ≡ true → ends_with u (f i) ≡ false
      → flat_bytes u f k i ≡ (f i).length + flat_bytes u f (k - 1) (i + 1)
  unfolding flat_bytes
  flat-go zero i h e l = absurd (omega arith)
  flat-go (suc k) i h e l = let p : suc k - 1 ≡ k = omega arith in rw (e, l, p)

  pub flat-least : (k i : ℕ) → 0 < k → is_cpu (f i).owner ≡ true → (f i).length ≤ flat_bytes u f k i
  unfolding flat_bytes
  flat-least zero i h e = absurd (omega arith)
  flat-least (suc k) i h e = rw e (omega arith)

module _ (f : ℕ → DmaDescriptor) where
  pub eof-none : (i : ℕ) → flat_eof f 0 i ≡ false
  unfolding flat_eof
  eof-none i = refl

  pub eof-stop : (k i : ℕ) → is_cpu (f i).owner ≡ false → flat_eof f k i ≡ false
  unfolding flat_eof
  eof-stop zero i e = refl
  eof-stop (suc k) i e = rw e

  pub eof-here : (k i : ℕ) → 0 < k → is_cpu (f i).owner ≡ true → (f i).suc_eof ≡ true → flat_eof f k i ≡ true
  unfolding flat_eof
  eof-here zero i h e l = absurd (omega arith)
  eof-here (suc k) i h e l = rw (e, l)

  pub eof-short : (k i : ℕ) → 0 < k → is_cpu (f i).owner ≡ true → (f i).suc_eof ≡ false → nat_lt (f i).length (f i).size ≡ true
      → flat_eof f k i ≡ false
  unfolding flat_eof
  eof-short zero i h e l s = absurd (omega arith)
  eof-short (suc k) i h e l s = rw (e, l, s)

  pub eof-go : (k i : ℕ) → 0 < k → is_cpu (f i).owner ≡ true → (f i).suc_eof ≡ false → nat_lt (f i).length (f i).size ≡ false
      → flat_eof f k i ≡ flat_eof f (k - 1) (i + 1)
  unfolding flat_eof
  eof-go zero i h e l s = absurd (omega arith)
  eof-go (suc k) i h e l s = let p : suc k - 1 ≡ k = omega arith in rw (e, l, s, p)

-- the steps of a piece
module _ (f : ℕ → DmaDescriptor) where
  abbrev pub enough : ℕ → ℕ → DmaDescriptor → Bool
  enough o want d = nat_le want (d.length - o) || nat_lt d.length d.size

  pub piece-zero : (o want i : ℕ) → piece_of f o want 0 i ≡ nothing
  unfolding piece_of
  piece-zero o want i = refl

  pub piece-stop : (o want k i : ℕ) → is_cpu (f i).owner ≡ false → piece_of f o want k i ≡ nothing
  unfolding piece_of
  piece-stop o want zero i e = refl
  piece-stop o want (suc k) i e = rw e

  pub piece-ends : (o want k i : ℕ) → 0 < k → is_cpu (f i).owner ≡ true → enough o want (f i) ≡ true
      → piece_of f o want k i ≡ longer ((f i).length - o) nothing
  unfolding piece_of
  piece-ends o want zero i h e l = absurd (omega arith)
  piece-ends o want (suc k) i h e l = rw (e, l)

  pub piece-go : (o want k i : ℕ) → 0 < k → is_cpu (f i).owner ≡ true → enough o want (f i) ≡ false
      → piece_of f o want k i ≡ longer ((f i).length - o) (piece_of f 0 (want - ((f i).length - o)) (k - 1) (i + 1))
  unfolding piece_of
  piece-go o want zero i h e l = absurd (omega arith)
  piece-go o want (suc k) i h e l = let p : suc k - 1 ≡ k = omega arith in rw (e, l, p)

-- the same, with the bytes and the records that were counted before
abbrev pub grown : ℕ → ℕ → Piece → Piece
grown a r p = record { bytes = a + p.bytes; records = r + p.records }

counted : (a b r q : ℕ) → a ≡ b → r ≡ q → ◌≡◌ {A = Piece} record { bytes = a; records = r } record { bytes = b; records = q }
counted a b r q e h = rw (e, h) refl

either : (a b : Bool) → b ≡ true → (a || b) ≡ true
either true b h = refl
either false b h = h

module _ (f : ℕ → DmaDescriptor) (o want i : ℕ) where
  pub grown-none : (k : ℕ) → grown 0 0 (piece_of f o (want - 0) k i) ≡ piece_of f o want k i
  grown-none k =
      let z : want - 0 ≡ want = omega arith in
      counted _ _ _ _ (omega arith) (omega arith) ∙ ap (λ (j : ℕ). piece_of f o j k i) z

module _ (f : ℕ → DmaDescriptor) (a r o want k i : ℕ) where
  abbrev ahead : Piece
  ahead = piece_of f o (want - a) k i

  grown-nothing : ahead ≡ nothing → record { bytes = a; records = r } ≡ grown a r ahead
  grown-nothing e = rw e (counted a (a + 0) r (r + 0) (omega arith) (omega arith))

  pub grown-zero : k ≡ 0 → record { bytes = a; records = r } ≡ grown a r ahead
  grown-zero e = grown-nothing (ap (λ (j : ℕ). piece_of f o (want - a) j i) e ∙ piece-zero f o (want - a) i)

  pub grown-stop : is_cpu (f i).owner ≡ false → record { bytes = a; records = r } ≡ grown a r ahead
  grown-stop e = grown-nothing (piece-stop f o (want - a) k i e)

  -- the record holds x bytes from o on
  module _ (x : ℕ) (holds : x ≡ (f i).length - o) (some : 0 < k) (cpu : is_cpu (f i).owner ≡ true) where
    grown-last : enough f o (want - a) (f i) ≡ true → record { bytes = a + x; records = r + 1 } ≡ grown a r ahead
    grown-last e = rw (piece-ends f o (want - a) k i some cpu e) (counted (a + x) _ (r + 1) _ (omega arith) (omega arith))

    pub grown-full : want ≤ a + x → record { bytes = a + x; records = r + 1 } ≡ grown a r ahead
    grown-full h = grown-last (rw (le-leb (want - a) ((f i).length - o) (omega arith)) refl)

    pub grown-short : ltb (f i).length (f i).size ≡ true → record { bytes = a + x; records = r + 1 } ≡ grown a r ahead
    grown-short e = grown-last (either (nat_le (want - a) ((f i).length - o)) _ e)

    pub grown-on : a + x < want → nat_lt (f i).length (f i).size ≡ false
        → grown (a + x) (r + 1) (piece_of f 0 (want - (a + x)) (k - 1) (i + 1)) ≡ grown a r ahead
    grown-on h e =
        let l : want - (a + x) ≡ want - a - ((f i).length - o) = omega arith in
        rw (piece-go f o (want - a) k i some cpu (rw (lt-leb (want - a) ((f i).length - o) (omega arith), e) refl), l)
        (counted _ _ _ _ (omega arith) (omega arith))

-- ---- two readings of the records that differ in starts and nexts at most

pub record Like (f g : ℕ → DmaDescriptor) : Type 0 where
  pub owner : (i : ℕ) → (f i).owner ≡ (g i).owner
  pub length : (i : ℕ) → (f i).length ≡ (g i).length
  pub size : (i : ℕ) → (f i).size ≡ (g i).size
  pub eof : (i : ℕ) → (f i).suc_eof ≡ (g i).suc_eof

pub cells-like : (st ws : List ℕ) → are_records st ws ≡ true → Like (record_at [] ws) (record_in (records_of st ws))
cells-like st ws a =
    record {
      owner = λ i. sym (ap (λ (d : DmaDescriptor). d.owner) (record_is st ws a i));
      length = λ i. sym (ap (λ (d : DmaDescriptor). d.length) (record_is st ws a i));
      size = λ i. sym (ap (λ (d : DmaDescriptor). d.size) (record_is st ws a i));
      eof = λ i. sym (ap (λ (d : DmaDescriptor). d.suc_eof) (record_is st ws a i));
    }

flat_step : (u : Bool) (o o' : Owner) (l l' s s' : ℕ) (e e' : Bool) (x x' : ℕ) → o ≡ o' → l ≡ l' → s ≡ s' → e ≡ e' → x ≡ x'
    → cond (is_cpu o) (l + cond (nat_lt l s || (u && e)) 0 x) 0 ≡ cond (is_cpu o') (l' + cond (nat_lt l' s' || (u && e')) 0 x') 0
flat_step u o o' l l' s s' e e' x x' p q r t v = rw (p, q, r, t, v) refl

eof-step : (o o' : Owner) (l l' s s' : ℕ) (e e' x x' : Bool) → o ≡ o' → l ≡ l' → s ≡ s' → e ≡ e' → x ≡ x'
    → cond (is_cpu o) (e || cond (nat_lt l s) false x) false ≡ cond (is_cpu o') (e' || cond (nat_lt l' s') false x') false
eof-step o o' l l' s s' e e' x x' p q r t v = rw (p, q, r, t, v) refl

piece-step : (a want : ℕ) (o o' : Owner) (l l' s s' : ℕ) (X Y : ℕ → Piece) → o ≡ o' → l ≡ l' → s ≡ s' → ((z : ℕ) → X z ≡ Y z)
    → cond (is_cpu o) (longer (l - a) (cond (nat_le want (l - a) || nat_lt l s) nothing (X l))) nothing
    ≡ cond (is_cpu o') (longer (l' - a) (cond (nat_le want (l' - a) || nat_lt l' s') nothing (Y l'))) nothing
piece-step a want o o' l l' s s' X Y p q r v = rw (p, q, r, v l') refl

module _ (f g : ℕ → DmaDescriptor) (s : Like f g) where
  pub flat-like : (u : Bool) (k i : ℕ) → flat_bytes u f k i ≡ flat_bytes u g k i
  unfolding flat_bytes
  flat-like u zero i = refl
  flat-like u (suc k) i =
      flat_step u (f i).owner (g i).owner (f i).length (g i).length (f i).size (g i).size (f i).suc_eof (g i).suc_eof _ _ (s.owner i)
      (s.length i) (s.size i) (s.eof i) (flat-like u k (i + 1))

  pub eof-like : (k i : ℕ) → flat_eof f k i ≡ flat_eof g k i
  unfolding flat_eof
  eof-like zero i = refl
  eof-like (suc k) i =
      eof-step (f i).owner (g i).owner (f i).length (g i).length (f i).size (g i).size (f i).suc_eof (g i).suc_eof _ _ (s.owner i)
      (s.length i) (s.size i) (s.eof i) (eof-like k (i + 1))

  pub piece-like : (o want k i : ℕ) → piece_of f o want k i ≡ piece_of g o want k i
  unfolding piece_of
  piece-like o want zero i = refl
  piece-like o want (suc k) i =
      piece-step o want (f i).owner (g i).owner (f i).length (g i).length (f i).size (g i).size
      (λ z. piece_of f 0 (want - (z - o)) k (i + 1)) (λ z. piece_of g 0 (want - (z - o)) k (i + 1)) (s.owner i) (s.length i) (s.size i)
      (λ z. piece-like 0 (want - (z - o)) k (i + 1))
