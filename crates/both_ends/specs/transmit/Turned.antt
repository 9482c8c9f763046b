-- A buffer read round from a place s: its end, and then its front. Bytes written from a place on round the buffer's end stand there one
-- behind another, and nothing else changes.
use Rattle.std.specs.Prelude.{◌≡◌, refl, List, ◌++◌, ℕ, ◌+◌, ◌-◌, ◌≤◌, min, length, take, drop}
use Rattle.std.proofs.Common.{sym, ◌∙◌, ap, subst, append_assoc, append-nil, zero-add, add_assoc, arith, length-append, length-take, length-drop, take-append-drop, drop_of_length-le, take_at, drop_at, length-take-le}
use Rattle.std.proofs.Math.Decide.{dec_le}
use Rattle.std.proofs.Math.Seq.{paste, paste-zero, take-append-add, drop-append-add, take-length}
use Rattle.std.proofs.lemmas.List.Edits.{length-paste}
use Rattle.std.proofs.lemmas.List.{take-append-le, drop-append-le}
use Rattle.tx_stream.specs.Transmit.{paste_round}

abbrev pub turned : List ℕ → ℕ → List ℕ
turned b s = drop s b ++ take s b

pub turned-seam : (A B : List ℕ) → turned (A ++ B) (length A) ≡ B ++ A
turned-seam A B = rw (drop_at A B (length A) refl, take_at A B (length A) refl)

pub turned-length : (b : List ℕ) (s : ℕ) → length (turned b s) ≡ length b
turned-length b s = rw (length-append, length-drop, length-take) (omega arith)

-- ---- a write into the second of two parts, and into the first

paste-second : (A B v : List ℕ) (o m : ℕ) → paste (A ++ B) (length A + o) v m ≡ A ++ paste B o v m
paste-second A B v o m = rw (take-append-add, add_assoc, drop-append-add) (simp append_assoc)

paste-first : (B A v : List ℕ) (o m : ℕ) → o + m ≤ length B → paste (B ++ A) o v m ≡ paste B o v m ++ A
paste-first B A v o m h = rw (take-append-le o B A (omega arith), drop-append-le (o + m) B A h) (simp append_assoc)

-- ---- bytes that go no further than the buffer's end

no_second : (b v w : List ℕ) (p a e m : ℕ) → a ≡ m → e ≡ 0 → paste (paste b p v a) 0 w e ≡ paste b p v m
no_second b v w p a e m ea ee = rw (ea, ee) (sym (paste-zero (paste b p v m) 0 w))

pub round-low : (b : List ℕ) (p : ℕ) (v : List ℕ) → length v ≤ length b - p → paste_round b p v ≡ paste b p v (length v)
round-low b p v h = no_second b v (drop (length b - p) v) p (min (length v) (length b - p)) (length v - (length b - p)) (length v) (omega arith) (omega arith)

low-at : (A B v : List ℕ) (o : ℕ) → o + length v ≤ length B → turned (paste_round (A ++ B) (length A + o) v) (length A) ≡ paste (B ++ A) o v (length v)
low-at A B v o h =
    ap (λ (b : List ℕ). turned b (length A)) (round-low (A ++ B) (length A + o) v (rw length-append (omega arith)) ∙ paste-second A B v o (length v))
    ∙ turned-seam A (paste B o v (length v))
    ∙ sym (paste-first B A v o (length v) h)

-- ---- bytes that go on at its front

high-first : (A B x y : List ℕ) (o a : ℕ) → o ≤ length B → a ≡ length x → a ≡ length B - o → paste (A ++ B) (length A + o) (x ++ y) a ≡ A ++ (take o B ++ x)
high-first A B x y o a h e f =
    paste-second A B (x ++ y) o a
    ∙ ap (λ (l : List ℕ). A ++ l)
    (rw (take_at x y a (sym e), drop_of_length-le B {i = o + a} (omega arith)) (append-nil (take o B ++ x)))

high-second : (A t y : List ℕ) (e : ℕ) → e ≡ length y → e ≤ length A → paste (A ++ t) 0 y e ≡ (y ++ drop e A) ++ t
high-second A t y e h l =
    rw (h, take-length y, zero-add (length y), drop-append-le (length y) A t (omega arith)) (sym (append_assoc y (drop (length y) A) t))

high-both : (A B x y z : List ℕ) (o a e : ℕ) → o ≤ length B → a ≡ length x → a ≡ length B - o → z ≡ y → e ≡ length y → e ≤ length A
    → paste (paste (A ++ B) (length A + o) (x ++ y) a) 0 z e ≡ (y ++ drop e A) ++ (take o B ++ x)
high-both A B x y z o a e h ex eb ez ey l = rw (high-first A B x y o a h ex eb, ez) (high-second A (take o B ++ x) y e ey l)

high-turned : (A B x y : List ℕ) (o : ℕ) → o ≤ length B → length x ≡ length B - o → length y ≤ length A
    → turned ((y ++ drop (length y) A) ++ (take o B ++ x)) (length A) ≡ paste (B ++ A) o (x ++ y) (length (x ++ y))
high-turned A B x y o h ex l =
    let e : length (y ++ drop (length y) A) ≡ length A = rw (length-append, length-drop) (omega arith) in
    let m : o + length (x ++ y) ≡ length B + length y = rw length-append (omega arith) in
    rw (drop_at (y ++ drop (length y) A) (take o B ++ x) (length A) e, take_at (y ++ drop (length y) A) (take o B ++ x) (length A) e, take-append-le o B A h, take-length (x ++ y), m, drop-append-add B A (length y))
    (simp append_assoc)

high-at : (A B x y : List ℕ) (o : ℕ) → o ≤ length B → length x ≡ length B - o → length y ≤ length A
    → turned (paste_round (A ++ B) (length A + o) (x ++ y)) (length A) ≡ paste (B ++ A) o (x ++ y) (length (x ++ y))
high-at A B x y o h ex l =
    let k : length (A ++ B) - (length A + o) ≡ length x = rw length-append (omega arith) in
    let m : length (x ++ y) ≡ length x + length y = length-append x y in
    ap (λ (b : List ℕ). turned b (length A))
    (high-both A B x y (drop (length (A ++ B) - (length A + o)) (x ++ y)) o (min (length (x ++ y)) (length (A ++ B) - (length A + o))) (length (x ++ y) - (length (A ++ B) - (length A + o))) h
    (omega arith) (omega arith) (drop_at x y (length (A ++ B) - (length A + o)) (sym k)) (omega arith) (omega arith)
    ∙ ap (λ (e : ℕ). (y ++ drop e A) ++ (take o B ++ x)) {x = length (x ++ y) - (length (A ++ B) - (length A + o))} {y = length y} (omega arith))
    ∙ high-turned A B x y o h ex l

-- ---- both

turned-parts : (A B v : List ℕ) (o : ℕ) → o ≤ length B → o + length v ≤ length A + length B → Dec (o + length v ≤ length B)
    → turned (paste_round (A ++ B) (length A + o) v) (length A) ≡ paste (B ++ A) o v (length v)
turned-parts A B v o h l (yes d) = low-at A B v o d
turned-parts A B v o h l (no d) =
    let k : ℕ = length B - o in
    subst (λ (w : List ℕ). turned (paste_round (A ++ B) (length A + o) w) (length A) ≡ paste (B ++ A) o w (length w)) (take-append-drop k v)
    (high-at A B (take k v) (drop k v) o h (length-take-le k v (omega arith)) (rw length-drop (omega arith)))

-- WRITTEN ROUND: read round from s, the bytes v written from s + o on stand from o on
pub turned-paste : (b : List ℕ) (s o : ℕ) (v : List ℕ) → s + o ≤ length b → o + length v ≤ length b → turned (paste_round b (s + o) v) s ≡ paste (turned b s) o v (length v)
turned-paste b s o v h l =
    let e : length (take s b) ≡ s = length-take-le s b (omega arith) in
    let f : length (drop s b) ≡ length b - s = length-drop s b in
    subst (λ (c : List ℕ). turned (paste_round c (s + o) v) s ≡ paste (turned b s) o v (length v)) (take-append-drop s b)
    (subst (λ (t : ℕ). turned (paste_round (take s b ++ drop s b) (t + o) v) t ≡ paste (turned b s) o v (length v)) e
    (turned-parts (take s b) (drop s b) v o (omega arith) (omega arith) (dec_le (o + length v) (length (drop s b)))))

pub round-length : (b : List ℕ) (p : ℕ) (v : List ℕ) → p ≤ length b → length v ≤ length b → length (paste_round b p v) ≡ length b
round-length b p v h l =
    let n : ℕ = min (length v) (length b - p) in
    let e : length (paste b p v n) ≡ length b = length-paste b p v n (omega arith) (omega arith) in
    length-paste (paste b p v n) 0 (drop (length b - p) v) (length v - (length b - p)) (omega arith) (rw length-drop (omega arith)) ∙ e
