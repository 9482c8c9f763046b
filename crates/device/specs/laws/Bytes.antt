-- Bytes copied into a part of a list, and out of one.
use Rattle.std.specs.Prelude.{ℕ, ◌+◌, ◌-◌, ◌≤◌, ◌≡◌, List, [], ◌++◌, length, take, drop}
use Rattle.std.proofs.Common.{sym, ◌∙◌, ap, append_assoc, append-nil, arith, length-take, length-drop, drop_of_length-le, drop-drop}
use Rattle.std.proofs.Math.Seq.{paste, take-length}
use borrow.Rule.Slice.PartMut.{mid_of, put_mid}

pub placed : (a : ℕ) (xs src ys : List ℕ) → a + length src ≤ length xs → ys ≡ take (length src) src ++ drop (length src) (mid_of a (a + length src - a) xs)
    → put_mid a (a + length src - a) xs ys ≡ paste xs a src (length src)
placed a xs src ys l e =
    let n : ℕ = length src in
    let k : a + length src - a ≡ length src = omega arith in
    let z : drop n (take n (drop a xs)) ≡ [] = drop_of_length-le (take n (drop a xs)) {i = n} (simp length-take (omega arith)) in
    ap (put_mid a (a + length src - a) xs) e
    ∙ rw (k, z, append-nil (take n src), drop-drop n a xs) (sym (append_assoc (take a xs) (take n src) (drop (a + n) xs)))

pub fronted : (a k : ℕ) (xs out ys : List ℕ) → a + k ≤ length xs
    → ys ≡ take (length (mid_of a (a + k - a) xs)) (mid_of a (a + k - a) xs) ++ drop (length (mid_of a (a + k - a) xs)) out
    → ys ≡ take k (drop a xs) ++ drop k out
fronted a k xs out ys l e =
    let n : a + k - a ≡ k = omega arith in
    let m : length (take k (drop a xs)) ≡ k = simp (length-take, length-drop) (omega arith) in
    e ∙ rw (n, take-length (take k (drop a xs)), m)
