-- Lists put over the front of others.
use Rattle.std.specs.Prelude.{◌≡◌, ℕ, zero, suc, ◌+◌, ◌-◌, ◌≤◌, List, [], ◌∷◌, ◌++◌, length, take, drop}
use Rattle.std.proofs.Common.{ap, sym, ◌∙◌, append_assoc, append-nil, arith, add-sub_of_le, length-append, length-drop, drop_of_length-le, take-append-drop, take_all, drop-drop, take-take, length-take-le}
use Rattle.std.proofs.Math.Nat.{suc-sub-suc, sub-zero}
use Rattle.std.proofs.Math.Seq.{paste, take-nil, take-length, take-append-add}
use Rattle.std.proofs.lemmas.List.{take-append-le}
use Rattle.std.proofs.lemmas.List.Edits.{take-paste, drop-paste}
use Rattle.rx_stream.specs.Receive.{over}

pub drop-take : (o l : ℕ) (s : List ℕ) → drop o (take l s) ≡ take (l - o) (drop o s)
drop-take zero l s = rw sub-zero
drop-take (suc o) zero s = let z : 0 - suc o ≡ 0 = omega arith in rw z
drop-take (suc o) (suc l) [] = rw take-nil
drop-take (suc o) (suc l) (x ∷ s) = rw suc-sub-suc (drop-take o l s)

pub over-nil : (d : List ℕ) → over [] d ≡ d
over-nil d = rw take-nil

over-more : (a s d : List ℕ) → length a ≤ length d → over (a ++ s) d ≡ a ++ over s (drop (length a) d)
over-more a s d h =
    rw (length-append, ← drop-drop, length-drop, ← append_assoc)
    (ap (λ t. t ++ drop (length s) (drop (length a) d))
    (ap (λ (n : ℕ). take n (a ++ s)) (sym (add-sub_of_le h)) ∙ take-append-add a s (length d - length a)))

over-full : (a s d : List ℕ) → length d ≤ length a → over (a ++ s) d ≡ take (length d) a
over-full a s d h =
    rw (take-append-le (length d) a s h, drop_of_length-le d {i = length (a ++ s)} (rw length-append (omega arith))) (append-nil _)

-- a part of m bytes goes over the front of what is left of d, and more is to come, or d is full with it
module _ (d src : List ℕ) (done start m : ℕ) where
  pub put-more : (s : List ℕ) → done + m ≤ length d → start + m ≤ length src
      → take done d ++ over (take m (drop start src) ++ s) (drop done d)
      ≡ take (done + m) (paste d done (drop start src) m) ++ over s (drop (done + m) (paste d done (drop start src) m))
  put-more s h l =
      let room : m ≤ length (drop start src) = rw length-drop (omega arith) in
      let la : length (take m (drop start src)) ≡ m = length-take-le m (drop start src) room in
      let fits : length (take m (drop start src)) ≤ length (drop done d) = rw (la, length-drop) (omega arith) in
      ap (λ t. take done d ++ t) (over-more (take m (drop start src)) s (drop done d) fits)
      ∙ ap (λ (n : ℕ). take done d ++ (take m (drop start src) ++ over s (drop n (drop done d)))) la
      ∙ ap (λ t. take done d ++ (take m (drop start src) ++ over s t)) (drop-drop m done d)
      ∙ sym (append_assoc (take done d) (take m (drop start src)) (over s (drop (done + m) d)))
      ∙ sym
      (ap (λ t. t ++ over s (drop (done + m) (paste d done (drop start src) m))) (take-paste d done (drop start src) m (omega arith) room)
      ∙ ap (λ t. (take done d ++ take m (drop start src)) ++ over s t) (drop-paste d done (drop start src) m (omega arith) room))

  pub put_full : (x : ℕ) (s : List ℕ) → done + m ≡ length d → m ≤ x → start + x ≤ length src
      → take done d ++ over (take x (drop start src) ++ s) (drop done d) ≡ paste d done (drop start src) m
  put_full x s h l r =
      let lx : length (take x (drop start src)) ≡ x = length-take-le x (drop start src) (rw length-drop (omega arith)) in
      let ld : length (drop done d) ≡ m = rw length-drop (omega arith) in
      ap (λ t. take done d ++ t) (over-full (take x (drop start src)) s (drop done d) (rw (lx, ld) l))
      ∙ ap (λ (n : ℕ). take done d ++ take n (take x (drop start src))) ld
      ∙ ap (λ t. take done d ++ t) (take-take m x (drop start src) l)
      ∙ sym (append-nil (take done d ++ take m (drop start src)))
      ∙ ap (λ t. (take done d ++ take m (drop start src)) ++ t) (sym (drop_of_length-le d {i = done + m} (omega arith)))

-- nothing is left to put over d
pub put-none : (d : List ℕ) (done : ℕ) (r : List ℕ) → r ≡ [] → d ≡ take done d ++ over r (drop done d)
put-none d done r e = rw e (sym (ap (λ t. take done d ++ t) (over-nil (drop done d)) ∙ take-append-drop done d))

-- a part of src, copied to the part of d from index at on: the list when that part is back
pub copied : (src d ys : List ℕ) (start at m : ℕ) → start + m ≤ length src → at + m ≤ length d
    → (let p : List ℕ = take (start + m - start) (drop start src) in ys ≡ take (length p) p ++ drop (length p) (take (length d - at) (drop at d)))
    → take at d ++ (ys ++ drop (length d - at) (drop at d)) ≡ paste d at (drop start src) m
copied src d ys start at m h l e =
    let p : List ℕ = take m (drop start src) in
    let z : start + m - start ≡ m = omega arith in
    let size : length p ≡ m = length-take-le m (drop start src) (rw length-drop (omega arith)) in
    let whole : take (length d - at) (drop at d) ≡ drop at d = take_all (length d - at) (drop at d) (rw length-drop (omega arith)) in
    let none : drop (length d - at) (drop at d) ≡ [] = drop_of_length-le (drop at d) {i = length d - at} (rw length-drop (omega arith)) in
    let front : ys ≡ p ++ drop (at + m) d =
    e
    ∙ ap (λ (k : ℕ). take (length (take k (drop start src))) (take k (drop start src)) ++ drop (length (take k (drop start src))) (take (length d - at) (drop at d))) z
    ∙ ap (λ x. x ++ drop (length p) (take (length d - at) (drop at d))) (take-length p)
    ∙ ap (λ x. p ++ drop (length p) x) whole
    ∙ ap (λ (k : ℕ). p ++ drop k (drop at d)) size
    ∙ ap (λ x. p ++ x) (drop-drop m at d) in
    ap (λ x. take at d ++ (ys ++ x)) none ∙ ap (λ x. take at d ++ x) (append-nil ys ∙ front) ∙ sym (append_assoc (take at d) p (drop (at + m) d))
