-- Lists by their places, and parts of a buffer that was written to: what the kit does not have.
use Rattle.std.specs.Prelude.{◌≡◌, refl, ◌⊎◌, ◌≢◌, List, [], ◌∷◌, ◌++◌, ℕ, zero, suc, ◌+◌, ◌-◌, ◌≤◌, ◌<◌, length, take, drop, get_or, set}
use Rattle.std.proofs.Common.{sym, ◌∙◌, ap, subst, inl, inr, append_assoc, suc-le-suc, zero-add, suc-add, zero-lt-suc, arith, take_at, drop_at, take-take, drop-drop, length-take-le}
use Rattle.std.proofs.Math.Nat.{suc_inj}
use Rattle.std.proofs.Math.Seq.{paste, take-length, take-nil, drop-nil}
use Rattle.std.proofs.lemmas.List.{take-append-le}
use Rattle.std.proofs.lemmas.List.Edits.{drop-paste}

-- ---- parts of a buffer that was written to

module _ {A : Type 0} where
  pub take-drop : (k a : ℕ) (l : List A) → take k (drop a l) ≡ drop a (take (a + k) l)
  take-drop k zero l = rw zero-add
  take-drop k (suc a) [] = simp (take-nil, drop-nil)
  take-drop k (suc a) (x ∷ l) = rw suc-add (take-drop k a l)

  pub paste-here : (b : List A) (s : ℕ) (v : List A) → s + length v ≤ length b → take (length v) (drop s (paste b s v (length v))) ≡ v
  paste-here b s v h =
      rw (take-length, append_assoc, drop_at (take s b) (v ++ drop (s + length v) b) s (length-take-le s b (omega arith)))
      (take_at v (drop (s + length v) b) (length v) refl)

  before-paste : (b : List A) (s : ℕ) (v : List A) (a k : ℕ) → s ≤ length b → a + k ≤ s → take (a + k) (paste b s v (length v)) ≡ take (a + k) b
  before-paste b s v a k h l =
      let e : length (take s b) ≡ s = length-take-le s b h in
      rw (append_assoc, take-append-le (a + k) (take s b) (take (length v) v ++ drop (s + length v) b) (omega arith)) (take-take (a + k) s b l)

  -- the k bytes from a on are not written to
  pub paste-far : (b : List A) (s : ℕ) (v : List A) (a k : ℕ) → s + length v ≤ length b → (a + k ≤ s) ⊎ (s + length v ≤ a) → take k (drop a (paste b s v (length v))) ≡ take k (drop a b)
  paste-far b s v a k h (inl l) = take-drop k a (paste b s v (length v)) ∙ ap (drop a) (before-paste b s v a k (omega arith) l) ∙ sym (take-drop k a b)
  paste-far b s v a k h (inr l) =
      let m : ℕ = s + length v in
      let e : m + (a - m) ≡ a = omega arith in
      ap (take k)
      (subst (λ (x : ℕ). drop x (paste b s v (length v)) ≡ drop x b) e
      (sym (drop-drop (a - m) m (paste b s v (length v))) ∙ ap (drop (a - m)) (drop-paste b s v (length v) (omega arith) (omega arith)) ∙ drop-drop (a - m) m b))

-- ---- lists by their places

abbrev pub tab {ℓ} : {A : Type ℓ} → ℕ → (ℕ → A) → List A
tab zero f = []
tab (suc n) f = f zero ∷ tab n (λ i. f (suc i))

module _ {A : Type 0} where
  pub cons-both : {x y : A} {xs ys : List A} → x ≡ y → xs ≡ ys → x ∷ xs ≡ y ∷ ys
  cons-both p q = λ i. p i ∷ q i

  pub length-tab : (n : ℕ) (f : ℕ → A) → length (tab n f) ≡ n
  length-tab zero f = refl
  length-tab (suc n) f = ap suc (length-tab n (λ i. f (suc i)))

  pub get_or-tab : (n : ℕ) (f : ℕ → A) (d : ℕ) (z : A) → d < n → get_or (tab n f) d z ≡ f d
  get_or-tab zero f d z h = absurd (omega arith)
  get_or-tab (suc n) f zero z h = refl
  get_or-tab (suc n) f (suc d) z h = get_or-tab n (λ i. f (suc i)) d z (omega arith)

  pub tab-cong : (n : ℕ) (f g : ℕ → A) → ((d : ℕ) → d < n → g d ≡ f d) → tab n g ≡ tab n f
  tab-cong zero f g h = refl
  tab-cong (suc n) f g h = λ i. h 0 (zero-lt-suc n) i ∷ tab-cong n (λ d. f (suc d)) (λ d. g (suc d)) (λ d l. h (suc d) (suc-le-suc l)) i

  -- two lists that differ at place m only
  pub tab-set : (n m : ℕ) (f g : ℕ → A) (y : A) → ((d : ℕ) → d < n → d ≢ m → g d ≡ f d) → g m ≡ y → tab n g ≡ set (tab n f) m y
  tab-set zero m f g y h e = refl
  tab-set (suc n) zero f g y h e =
      λ i. e i ∷ tab-cong n (λ d. f (suc d)) (λ d. g (suc d)) (λ d l. h (suc d) (suc-le-suc l) (omega arith)) i
  tab-set (suc n) (suc m) f g y h e =
      λ i. h 0 (zero-lt-suc n) (omega arith) i ∷ tab-set n m (λ d. f (suc d)) (λ d. g (suc d)) y (λ d l q. h (suc d) (suc-le-suc l) (λ p. q (suc_inj p))) e i

  pub tab-snoc : (n : ℕ) (f : ℕ → A) → tab (suc n) f ≡ tab n f ++ (f n ∷ [])
  tab-snoc zero f = refl
  tab-snoc (suc n) f = cons-both refl (tab-snoc n (λ i. f (suc i)))

-- ---- lists none of which is empty

abbrev pub Somes : List (List ℕ) → Type 0
Somes [] = Unit {0}
Somes (l ∷ ls) = (0 < length l) × Somes ls

pub somes-append : (ks ls : List (List ℕ)) → Somes ks → Somes ls → Somes (ks ++ ls)
somes-append [] ls h k = k
somes-append (x ∷ ks) ls h k = (h.0, somes-append ks ls h.1 k)

pub somes-first : (ks ls : List (List ℕ)) → Somes (ks ++ ls) → Somes ks
somes-first [] ls h = tt
somes-first (x ∷ ks) ls h = (h.0, somes-first ks ls h.1)

pub somes-rest : (ks ls : List (List ℕ)) → Somes (ks ++ ls) → Somes ls
somes-rest [] ls h = h
somes-rest (x ∷ ks) ls h = somes-rest ks ls h.1
