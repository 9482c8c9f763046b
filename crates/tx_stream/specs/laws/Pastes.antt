-- Bytes copied behind a place, in pieces.
use Rattle.std.specs.Prelude.{◌≡◌, ℕ, zero, suc, ◌+◌, ◌-◌, ◌≤◌, min, List, [], ◌∷◌, ◌++◌, length, take, drop, refl}
use Rattle.std.proofs.Common.{sym, ◌∙◌, ap, append_assoc, append-nil, arith, zero-add, length-drop, drop_of_length-le, take-take, take_all, drop-drop, length-take-le}
use Rattle.std.proofs.Math.Decide.{dec_le}
use Rattle.std.proofs.Math.Seq.{paste, take-nil, drop-nil}
use Rattle.std.proofs.lemmas.List.Edits.{length-paste}
use Rattle.tx_stream.specs.Transmit.{paste_round}

-- a copy looks at no more than it copies
pub paste-by : (d : List ℕ) (at n : ℕ) (s t : List ℕ) → take n s ≡ take n t → paste d at s n ≡ paste d at t n
paste-by d at n s t e = ap (λ (u : List ℕ). take at d ++ u ++ drop (at + n) d) e

pub drop-take : (a k : ℕ) (l : List ℕ) → drop a (take (a + k) l) ≡ take k (drop a l)
drop-take zero k l = ap (λ (j : ℕ). take j l) (zero-add k)
drop-take (suc a) k [] = ap (drop (suc a)) (take-nil (suc a + k)) ∙ drop-nil (suc a) ∙ sym (take-nil k)
drop-take (suc a) k (x ∷ l) = let e : suc a + k ≡ suc (a + k) = omega arith in rw e (drop-take a k l)

-- the first n of a list, copied
pub paste-front : (d : List ℕ) (at n : ℕ) (s : List ℕ) → n ≤ length s → paste d at (take n s) (length (take n s)) ≡ paste d at s n
paste-front d at n s h = rw (length-take-le n s h) (paste-by d at n (take n s) s (take-take n n s (omega arith)))

-- it leaves the buffer as long as it was
pub paste-keeps : (d : List ℕ) (at n : ℕ) (s : List ℕ) → at + n ≤ length d → n ≤ length s → length (paste d at (take n s) (length (take n s))) ≡ length d
paste-keeps d at n s h l = ap length (paste-front d at n s l) ∙ length-paste d at s n h l

-- two pieces, to the buffer's end and from its start
module _ (b bs : List ℕ) (p k first : ℕ) (ef : first ≡ min k (length b - p)) (hk : k ≤ length bs) where
  front : paste b p (take first bs) (length (take first bs)) ≡ paste b p (take k bs) first
  front =
      paste-front b p first bs (omega arith)
      ∙ paste-by b p first bs (take k bs) (sym (take-take first k bs (omega arith)))

  rest-length : length (take (k - first) (drop first bs)) ≡ k - first
  rest-length = length-take-le (k - first) (drop first bs) (omega (arith, length-drop first bs))

  back : (d : List ℕ) → paste d 0 (take (k - first) (drop first bs)) (k - first) ≡ paste d 0 (drop (length b - p) (take k bs)) (k - first)
  back d = paste-by d 0 (k - first) (take (k - first) (drop first bs)) (drop (length b - p) (take k bs)) (go (dec_le k (length b - p)))
    where
      go : Dec (k ≤ length b - p) → take (k - first) (take (k - first) (drop first bs)) ≡ take (k - first) (drop (length b - p) (take k bs))
      go (yes l) = let z : k - first ≡ 0 = omega arith in rw z refl
      go (no l) =
          let q : length b - p ≡ first = omega arith in
          let m : first + (k - first) ≡ k = omega arith in
          rw q
          (ap (take (k - first)) (sym (drop-take first (k - first) bs) ∙ ap (λ (j : ℕ). drop first (take j bs)) m))

  pub pasted-round : paste (paste b p (take first bs) (length (take first bs))) 0 (take (k - first) (drop first bs)) (length (take (k - first) (drop first bs)))
      ≡ paste_round b p (take k bs)
  pasted-round =
      let e : k - (length b - p) ≡ k - first = omega arith in
      rw (rest-length, front, length-take-le k bs hk, ← ef, e) (back (paste b p (take k bs) first))

-- a part of the buffer from a place on, put back with the piece copied to its front
pub part-pasted : (d s ys : List ℕ) (at : ℕ) → at + length s ≤ length d → ys ≡ take (length s) s ++ drop (length s) (take (length d - at) (drop at d))
    → take at d ++ (ys ++ drop (length d - at) (drop at d)) ≡ paste d at s (length s)
part-pasted d s ys at h e =
    rw (
      e,
      take_all (length d - at) (drop at d) (omega (arith, length-drop at d)),
      drop_of_length-le (drop at d) {i = length d - at} (omega (arith, length-drop at d)),
      drop-drop (length s) at d,
      append-nil (take (length s) s ++ drop (at + length s) d),
    )
    (sym (append_assoc (take at d) (take (length s) s) (drop (at + length s) d)))
