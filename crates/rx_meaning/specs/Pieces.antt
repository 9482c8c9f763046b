-- The rule of peek, and the list of the records from the cursor to record n-1.
use Prim.Native.Nat.{ℕ, zero, suc, ◌+◌, ◌≤◌, ◌<◌}
use Rattle.std.specs.Prelude.{◌≡◌, Bool, ◌||◌, ltb, length, take, drop}
use Rattle.std.proofs.Math.Path.{refl, sym}
use Rattle.std.proofs.Common.{◌∙◌, ap, arith, add-one, drop-cons, get_or-take, length-take-le}
use Rattle.std.proofs.Math.Bool.{true, false, cond}
use mathlib.Core.List.{List, [], ◌∷◌}
use Rattle.std.proofs.Math.Seq.{drop-length}
use Rattle.descriptors.specs.Record.{blank, record_in, is_cpu}
use Rattle.descriptors.specs.declared.record.DmaDescriptor.{DmaDescriptor}
use Rattle.descriptors.specs.declared.record.TransferDirection.TheVariants.{In}
use Rattle.rx_stream.specs.Receive.{ends_with, flat_bytes, flat_eof}
use Rattle.ring_order.specs.Rows.{total}
use Rattle.rx_meaning.specs.Words.{one_piece, last_eof}

module _ (ds : List DmaDescriptor) (n : ℕ) (l : n ≤ length ds) where
  opened : (i : ℕ) → i < n → drop i (take n ds) ≡ record_in ds i ∷ drop (i + 1) (take n ds)
  opened i h =
      drop-cons (take n ds) i blank (omega (arith, length-take-le n ds l))
      ∙ ap (λ (d : DmaDescriptor). d ∷ drop (suc i) (take n ds)) (get_or-take n ds i blank h)
      ∙ ap (λ (j : ℕ). record_in ds i ∷ drop j (take n ds)) (sym (add-one i))

  ended : (i : ℕ) → i ≡ n → drop i (take n ds) ≡ []
  ended i e =
      let z : i ≡ length (take n ds) = e ∙ sym (length-take-le n ds l) in
      rw z (drop-length (take n ds))

  pub piece_bytes : (u : Bool) (k i : ℕ) → i + k ≡ n → flat_bytes u (record_in ds) k i ≡ total In (one_piece u (drop i (take n ds)))
  unfolding flat_bytes
  piece_bytes u zero i e = rw (ended i (omega arith)) refl
  piece_bytes u (suc k) i e = rw (opened i (omega arith)) (go (is_cpu (record_in ds i).owner) (ends_with u (record_in ds i)) (piece_bytes u k (i + 1) (omega arith)))
    where
      go : (a t : Bool) → flat_bytes u (record_in ds) k (i + 1) ≡ total In (one_piece u (drop (i + 1) (take n ds)))
          → cond a ((record_in ds i).length + cond t 0 (flat_bytes u (record_in ds) k (i + 1))) 0
          ≡ total In (cond a (record_in ds i ∷ cond t [] (one_piece u (drop (i + 1) (take n ds)))) [])
      go true true h = refl
      go true false h = rw h refl
      go false t h = refl

  -- a piece that goes on past a record without a mark has its mark from the rest
  last_on : (d : DmaDescriptor) (es : List DmaDescriptor) → d.suc_eof ≡ false → last_eof (d ∷ es) ≡ last_eof es
  last_on d [] e = e
  last_on d (x ∷ es) e = refl

  pub piece-eof : (k i : ℕ) → i + k ≡ n → flat_eof (record_in ds) k i ≡ last_eof (one_piece true (drop i (take n ds)))
  unfolding flat_eof
  piece-eof zero i e = rw (ended i (omega arith)) refl
  piece-eof (suc k) i e =
      rw (opened i (omega arith))
      (go (is_cpu (record_in ds i).owner) (record_in ds i).suc_eof (ltb (record_in ds i).length (record_in ds i).size) refl (piece-eof k (i + 1) (omega arith)))
    where
      go : (a t s : Bool) → (record_in ds i).suc_eof ≡ t → flat_eof (record_in ds) k (i + 1) ≡ last_eof (one_piece true (drop (i + 1) (take n ds)))
          → cond a (t || cond s false (flat_eof (record_in ds) k (i + 1))) false
          ≡ last_eof (cond a (record_in ds i ∷ cond (s || t) [] (one_piece true (drop (i + 1) (take n ds)))) [])
      go true true true p h = sym p
      go true true false p h = sym p
      go true false true p h = sym p
      go true false false p h = h ∙ sym (last_on (record_in ds i) (one_piece true (drop (i + 1) (take n ds))) p)
      go false t s p h = refl
