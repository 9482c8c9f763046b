-- A piece of the CPU-owned run, copied over the front of what is left of a destination.
use Rattle.std.specs.Prelude.{◌≡◌, ℕ, ◌+◌, ◌-◌, ◌<◌, ◌≤◌, Bool, true, false, cond, List, [], ◌++◌, length, take, drop, min, ◌≢◌, nat_le, nat_lt, refl}
use Rattle.std.proofs.Math.Path.{sym, ap}
use Rattle.std.proofs.Common.{◌∙◌, arith, ltb-true, lt-ltb, le-leb}
use Rattle.std.proofs.Math.Seq.{paste, drop-nil}
use Rattle.descriptors.specs.Record.{limit, record_in, is_cpu}
use Rattle.descriptors.specs.Cells.{records_of, record_at, start_at}
use Rattle.descriptors.specs.Ring.{ring_of, sound}
use Rattle.descriptors.specs.Walk.{run_data}
use Rattle.descriptors.specs.laws.Lifts.{record_is}
use Rattle.descriptors.specs.declared.record.DmaDescriptor.{DmaDescriptor}
use Rattle.descriptors.specs.declared.record.TransferDirection.TheVariants.{In}
use Rattle.descriptors.specs.declared.ring.Head.{Head}
use Rattle.rx_stream.specs.Receive.{over}
use Rattle.rx_stream.specs.Pieces.{piece_of, nothing, wrapped}
use Rattle.rx_stream.specs.declared.piece.Piece.{Piece}
use Rattle.rx_stream.specs.laws.Lists.{put-more, put_full, put-none}
use Rattle.rx_stream.specs.laws.Flats.{cells-like, piece-like, piece-stop}
use Rattle.rx_stream.specs.laws.Layout.{Layout, layout}
use Rattle.rx_stream.specs.laws.Runs.{data-none, data-stop}
use Rattle.rx_stream.specs.laws.Pieces.{piece-records, piece-none, piece-within, piece-opens}
use Rattle.rx_stream.specs.laws.Takes.{known, held}

pub wrapped-lt : (n i : ℕ) → 0 < n → wrapped n i < n
wrapped-lt n i h = go (nat_lt i n) refl
  where
    go : (b : Bool) → nat_lt i n ≡ b → cond b i 0 < n
    go true e = ltb-true i n e
    go false e = h

-- how many records a piece may have: up to the last of the ring, and no more than are left
record Reach (n i left k : ℕ) : Type 0 where
  some : 0 < k
  last : i + k ≤ n
  few : k ≤ left

reach : (n i left : ℕ) → i < n → 0 < left → Reach n i left (min n (i + left) - i)
reach n i left h l = record { some = omega arith; last = omega arith; few = omega arith }

-- what is left to copy from byte o of record i on
abbrev pub todo : List ℕ → List ℕ → Head → List ℕ → ℕ → ℕ → ℕ → List ℕ
todo st ws h src o left i = drop o (run_data In (record_in (records_of st ws)) src h.count left i)

pub none_left : (st ws : List ℕ) (h : Head) (src : List ℕ) (o i : ℕ) → todo st ws h src o 0 i ≡ []
none_left st ws h src o i = ap (drop o) (data-none In (record_in (records_of st ws)) src h.count i) ∙ drop-nil o

-- what is known of a piece p that was found there
pub record Found (st ws : List ℕ) (h : Head) (src : List ℕ) (o want left i : ℕ) (p : Piece) : Type 0 where
  pub few : p.records ≤ left
  pub inside : start_at st i + o + p.bytes ≤ length src
  pub none : p.records ≡ 0 → (d : List ℕ) (done : ℕ) → d ≡ take done d ++ over (todo st ws h src o left i) (drop done d)
  pub full : (p.records ≢ 0) → (d : List ℕ) (done : ℕ) → want ≤ p.bytes → done + want ≡ length d
      → paste d done (drop (start_at st i + o) src) want ≡ take done d ++ over (todo st ws h src o left i) (drop done d)
  pub more : (p.records ≢ 0) → (d : List ℕ) (done : ℕ) → done + p.bytes ≤ length d
      → let d' = paste d done (drop (start_at st i + o) src) p.bytes in
      take (done + p.bytes) d' ++ over (todo st ws h src 0 (left - p.records) (wrapped h.count (i + p.records))) (drop (done + p.bytes) d')
      ≡ take done d ++ over (todo st ws h src o left i) (drop done d)

module _ (st ws : List ℕ) (h : Head) (src : List ℕ) (ok : sound In (ring_of st ws h) (length src) ≡ true) where
  lay : Layout (record_in (records_of st ws)) h.count (length src)
  lay = layout In (ring_of st ws h) (length src) (known st ws h (length src) ok)

  module _ (o want left i : ℕ) (place : i < h.count) (some : 0 < left) (offset : o ≤ (record_in (records_of st ws) i).length)
      {end : ℕ} {p : Piece} (ends : end ≡ min h.count (i + left))
      (is : p ≡ cond (nat_le end limit) (piece_of (record_at [] ws) o want (end - i) i) nothing) where
    k : ℕ
    k = min h.count (i + left) - i

    f : ℕ → DmaDescriptor
    f = record_in (records_of st ws)

    r : Reach h.count i left k
    unfolding k
    r = reach h.count i left place some

    piece : p ≡ piece_of f o want k i
    unfolding k f
    piece =
        is
        ∙ ap (λ (e : ℕ). cond (nat_le e limit) (piece_of (record_at [] ws) o want (e - i) i) nothing) ends
        ∙ ap (λ (b : Bool). cond b (piece_of (record_at [] ws) o want k i) nothing) (le-leb (min h.count (i + left)) limit (omega (arith, (known st ws h (length src) ok).split.parts.many)))
        ∙ piece-like (record_at [] ws) (record_in (records_of st ws)) (cells-like st ws (held st ws h (length src) ok)) o want k i

    start : start_at st i ≡ (f i).buffer
    unfolding f
    start = sym (ap (λ (d : DmaDescriptor). d.buffer) (record_is st ws (held st ws h (length src) ok) i))

    few : p.records ≤ left
    few = omega (arith, ap (λ (q : Piece). q.records) piece, piece-records f o want k i, r.few)

    inside : start_at st i + o + p.bytes ≤ length src
    unfolding f
    inside = omega (arith, start, ap (λ (q : Piece). q.bytes) piece, piece-within f h.count src lay o want k i place r.last offset)

    cpu : (p.records ≢ 0) → is_cpu (f i).owner ≡ true
    cpu ne = go (is_cpu (f i).owner) refl
      where
        go : (a : Bool) → is_cpu (f i).owner ≡ a → a ≡ true
        go true e = refl
        go false e = absurd (ne (ap (λ (q : Piece). q.records) (piece ∙ piece-stop f o want k i e)))

    opened : (p.records ≢ 0)
        → todo st ws h src o left i ≡ take p.bytes (drop (start_at st i + o) src) ++ todo st ws h src 0 (left - p.records) (wrapped h.count (i + p.records))
    unfolding f
    opened ne =
        let e = piece-opens f h.count src lay o want k left i r.some r.last r.few offset (cpu ne) in
        rw (lt-ltb i h.count place, ← piece, ← start) at e

    pub found : Found st ws h src o want left i p
    unfolding f
    found =
        record {
          few = few;
          inside = inside;
          none = λ z d done.
              put-none d done (todo st ws h src o left i)
              (ap (drop o) (data-stop In f src h.count left i (piece-none f o want k i r.some (sym (ap (λ (q : Piece). q.records) piece) ∙ z))) ∙ drop-nil o);
          full = λ ne d done l e.
              sym (ap (λ t. take done d ++ over t (drop done d)) (opened ne) ∙ put_full d src done (start_at st i + o) want p.bytes _ e l inside);
          more = λ ne d done l.
              sym (ap (λ t. take done d ++ over t (drop done d)) (opened ne) ∙ put-more d src done (start_at st i + o) p.bytes _ l inside);
        }
