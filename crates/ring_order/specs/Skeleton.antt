-- The bare bones of a ring, which both directions share: the records that its device's steps were on, how many records are queued, and
-- where the device stands. Two moves: a device step, and records handed over. No bytes.
use Rattle.std.specs.Prelude.{◌≡◌, refl, ◌⊎◌, ℕ, zero, suc, ◌+◌, ◌≤◌, ◌<◌, length, take, drop, get_or, Some, None, Option}
use Rattle.std.proofs.Common.{sym, ◌∙◌, ap, subst, inl, inr, zero-add, add-zero, add-suc, mod-lt, arith, length-append, length-drop, get_or-take, get_or-drop, length-take-le}
use mathlib.Core.List.{List, [], ◌∷◌, ◌++◌, foldl}
use Rattle.descriptors.specs.Place.{after}
use Rattle.ring_order.specs.Places.{place, place-zero, place-onto, after-place, turn, turn_suc, turn-mod}
use Rattle.ring_order.specs.Lists.{tab, tab-snoc, get_or-tab}

abbrev pub Among : ℕ → List ℕ → Type 0
Among j [] = ⊥
Among j (i ∷ is) = (j ≡ i) ⊎ Among j is

among-get_or : (j k : ℕ) (is : List ℕ) → k < length is → j ≡ get_or is k 0 → Among j is
among-get_or j k [] h e = absurd (omega arith)
among-get_or j zero (i ∷ is) h e = inl e
among-get_or j (suc k) (i ∷ is) h e = inr (among-get_or j k is (omega arith) e)

-- ---- round and round

-- e places further on
pub turn-place : (n c m t e : ℕ) → c < n → m + e ≤ n → place n c m ≡ turn n t → place n c (m + e) ≡ turn n (t + e)
turn-place n c m t zero hc hm h = ap (place n c) (add-zero m) ∙ h ∙ ap (turn n) (sym (add-zero t))
turn-place n c m t (suc e) hc hm h =
    ap (place n c) (add-suc m e) ∙ sym (after-place n c (m + e) hc (omega arith)) ∙ ap (after n) (turn-place n c m t e hc (omega arith) h)
    ∙ sym (ap (turn n) (add-suc t e) ∙ turn_suc n (t + e))

-- each record comes within n steps
turn-onto : (n t j : ℕ) → 0 < n → j < n → (e : ℕ) × (e < n) × (j ≡ turn n (t + e))
turn-onto n t j hn hj =
    let c : ℕ = turn n t in
    let hc : turn n t < n = rw (turn-mod n t hn) (mod-lt t hn) in
    let (e, he, q) = place-onto n c j hc hj in
    (e, he, sym q ∙ ap (place n c) (sym (zero-add e)) ∙ turn-place n c 0 t e hc (omega arith) (place-zero n c hc))

-- NOSKIP: the k-th step of the ring's life was on record k mod n
abbrev pub InTurn : ℕ → List ℕ → Type 0
InTurn n is = is ≡ tab (length is) (turn n)

pub turn-next : (n : ℕ) (is : List ℕ) → InTurn n is → InTurn n (is ++ (turn n (length is) ∷ []))
turn-next n is h =
    ap (λ (l : List ℕ). l ++ (turn n (length is) ∷ [])) h ∙ sym (tab-snoc (length is) (turn n))
    ∙ ap (λ (k : ℕ). tab k (turn n)) (let e : suc (length is) ≡ length is + 1 = omega arith in e ∙ sym (length-append is (turn n (length is) ∷ [])))

pub in-turn : (n : ℕ) (is : List ℕ) → InTurn n is → (k : ℕ) → k < length is → get_or is k 0 ≡ turn n k
in-turn n is h k l = ap (λ (x : List ℕ). get_or x k 0) h ∙ get_or-tab (length is) (turn n) k 0 l

-- ---- the two moves, of a ring of n whose device's steps were on `done`, with q records queued

pub data Move (n q : ℕ) (dev : Option ℕ) (done : List ℕ) (q' : ℕ) (dev' : Option ℕ) (done' : List ℕ) : Type 0 where
  -- the device makes a step on the record that it stands on, and stops exactly when nothing is queued any more
  steps : dev ≡ Some (turn n (length done)) → done' ≡ done ++ (turn n (length done) ∷ []) → q ≡ suc q' → (dev' ≡ None → q' ≡ 0) → Move n q dev done q' dev' done'
  -- records are handed over, or nothing happens
  gives : done' ≡ done → q ≤ q' → dev' ≡ dev → Move n q dev done q' dev' done'

pub stopped-not : (d : Option ℕ) (i : ℕ) → d ≡ Some i → d ≡ None → ⊥
stopped-not d i e f = let z : ◌≡◌ {A = ℕ} 0 1 = cc in omega arith

-- ---- worlds that go on by actions, each of which is one of the moves

pub record Life (W A : Type 0) : Type 1 where
  pub step : W → A → W
  pub device : W → Option ℕ
  pub done : W → List ℕ
  pub n : ℕ
  pub some : 0 < n
  pub Good : ℕ → W → Type 0
  pub law : (q : ℕ) (w : W) → Good q w → (a : A) → (q' : ℕ) × Good q' (step w a) × Move n q (device w) (done w) q' (device (step w a)) (done (step w a))

module _ {W A : Type 0} (L : Life W A) where
  -- the steps that the actions add to those of w
  abbrev pub since : W → List A → List ℕ
  since w acts = drop (length (L.done w)) (L.done (foldl L.step w acts))

  pub goes_on : (q : ℕ) (w : W) → L.Good q w → (acts : List A) → (q' : ℕ) × L.Good q' (foldl L.step w acts)
  goes_on q w g [] = (q, g)
  goes_on q w g (a ∷ more) = let (q', g', m) = L.law q w g a in goes_on q' (L.step w a) g' more

  turn_by : {q q' : ℕ} (w : W) (a : A) → Move L.n q (L.device w) (L.done w) q' (L.device (L.step w a)) (L.done (L.step w a)) → InTurn L.n (L.done w) → InTurn L.n (L.done (L.step w a))
  turn_by w a (steps d e f g) h = subst (InTurn L.n) (sym e) (turn-next L.n (L.done w) h)
  turn_by w a (gives e f g) h = subst (InTurn L.n) (sym e) h

  pub no-skip : (q : ℕ) (w : W) → L.Good q w → InTurn L.n (L.done w) → (acts : List A) → InTurn L.n (L.done (foldl L.step w acts))
  no-skip q w g h [] = h
  no-skip q w g h (a ∷ more) = let (q', g', m) = L.law q w g a in no-skip q' (L.step w a) g' (turn_by w a m h) more

  -- steps are only added
  more_by : {q q' : ℕ} (w : W) (a : A) → Move L.n q (L.device w) (L.done w) q' (L.device (L.step w a)) (L.done (L.step w a)) → length (L.done w) ≤ length (L.done (L.step w a))
  more_by w a (steps d e f g) = rw (e, length-append) (omega arith)
  more_by w a (gives e f g) = rw e (omega arith)

  pub more-done : (q : ℕ) (w : W) → L.Good q w → (acts : List A) → length (L.done w) ≤ length (L.done (foldl L.step w acts))
  more-done q w g [] = omega arith
  more-done q w g (a ∷ more) = let (q', g', m) = L.law q w g a in omega (arith, more_by w a m, more-done q' (L.step w a) g' more)

  pub kth : (q : ℕ) (w : W) → L.Good q w → InTurn L.n (L.done w) → (acts : List A) (k : ℕ) → k < length (since w acts) → get_or (since w acts) k 0 ≡ turn L.n (length (L.done w) + k)
  kth q w g h acts k l =
      get_or-drop (length (L.done w)) (L.done (foldl L.step w acts)) k 0
      ∙ in-turn L.n (L.done (foldl L.step w acts)) (no-skip q w g h acts) (length (L.done w) + k) (omega (arith, sym (length-drop (length (L.done w)) (L.done (foldl L.step w acts)))))

  -- WITHIN N: of n steps one is on record j
  pub within-n : (q : ℕ) (w : W) → L.Good q w → InTurn L.n (L.done w) → (acts : List A) (j : ℕ) → j < L.n → L.n ≤ length (since w acts) → Among j (take L.n (since w acts))
  within-n q w g h acts j hj l =
      let (e, he, p) = turn-onto L.n (length (L.done w)) j L.some hj in
      let is : List ℕ = since w acts in
      among-get_or j e (take L.n is) (rw (length-take-le L.n is l) he) (p ∙ sym (get_or-take L.n is e 0 he ∙ kth q w g h acts e (omega arith)))

  -- a device that stands on a record and stops makes at least as many steps as records were queued
  covers-by : {q q' : ℕ} (w : W) (i : ℕ) (a : A) (total : ℕ) → L.device w ≡ Some i → Move L.n q (L.device w) (L.done w) q' (L.device (L.step w a)) (L.done (L.step w a)) → length (L.done (L.step w a)) ≤ total
      → (x : Option ℕ) → L.device (L.step w a) ≡ x → ((i' : ℕ) → L.device (L.step w a) ≡ Some i' → length (L.done (L.step w a)) + q' ≤ total) → length (L.done w) + q ≤ total
  covers-by w i a total d (steps s e f g) l None x ih = let z = ap length e ∙ length-append (L.done w) (turn L.n (length (L.done w)) ∷ []) in omega (arith, g x)
  covers-by w i a total d (steps s e f g) l (Some i') x ih = let z = ap length e ∙ length-append (L.done w) (turn L.n (length (L.done w)) ∷ []) in omega (arith, ih i' x)
  covers-by w i a total d (gives e f g) l x y ih = let z = ap length e in omega (arith, ih i (g ∙ d))

  covers : (q : ℕ) (w : W) → L.Good q w → (i : ℕ) → L.device w ≡ Some i → (acts : List A) → L.device (foldl L.step w acts) ≡ None → length (L.done w) + q ≤ length (L.done (foldl L.step w acts))
  covers q w g i d [] e = absurd (stopped-not (L.device w) i d e)
  covers q w g i d (a ∷ more) e =
      let (q', g', m) = L.law q w g a in
      covers-by w i a (length (L.done (foldl L.step (L.step w a) more))) d m (more-done q' (L.step w a) g' more) (L.device (L.step w a)) refl
      (λ i' d'. covers q' (L.step w a) g' i' d' more e)

  -- and the e-th of those queued is among them
  pub before-stop : (q : ℕ) (w : W) → L.Good q w → InTurn L.n (L.done w) → (i : ℕ) → L.device w ≡ Some i → (acts : List A) → L.device (foldl L.step w acts) ≡ None → (e j : ℕ) → e < q
      → j ≡ turn L.n (length (L.done w) + e) → Among j (since w acts)
  before-stop q w g h i d acts s e j l p =
      let k : e < length (since w acts) = rw (length-drop (length (L.done w)) (L.done (foldl L.step w acts))) (omega (arith, covers q w g i d acts s)) in
      among-get_or j e (since w acts) k (p ∙ sym (kth q w g h acts e k))

  -- a stopped device makes no more steps
  still-by : {q q' : ℕ} (w : W) (a : A) → L.device w ≡ None → Move L.n q (L.device w) (L.done w) q' (L.device (L.step w a)) (L.done (L.step w a)) → (L.done (L.step w a) ≡ L.done w) × (L.device (L.step w a) ≡ None)
  still-by w a d (steps s e f g) = absurd (stopped-not (L.device w) (turn L.n (length (L.done w))) s d)
  still-by w a d (gives e f g) = (e, g ∙ d)

  pub still : (q : ℕ) (w : W) → L.Good q w → L.device w ≡ None → (acts : List A) → (L.done (foldl L.step w acts) ≡ L.done w) × (L.device (foldl L.step w acts) ≡ None)
  still q w g d [] = (refl, d)
  still q w g d (a ∷ more) =
      let (q', g', m) = L.law q w g a in
      let (o, d') = still-by w a d m in
      let (p, s) = still q' (L.step w a) g' d' more in
      (p ∙ o, s)
