-- "With enough records the pieces tile the range, else its first bytes; a direct piece starts on a line, and their total is whole lines."
use Rattle.std.specs.Prelude.{ℕ, zero, suc, ◌+◌, ◌-◌, ◌*◌, ◌%◌, ◌<◌, ◌≤◌, min, ◌≡◌, refl, Bool, true, false, cond, List, [], ◌++◌, ◌⊎◌, eqb, length, take, drop, Ok, Err}
use Rattle.std.proofs.Common.{sym, ◌∙◌, ap, subst, inl, inr, ⊎_elim, arith, take-add, eqb-true, ne_eqb, lt-ltb, le-ltb}
use Rattle.std.proofs.Math.Decide.{dec_lt}
use Rattle.std.proofs.Math.Seq.{take-length}
use Rattle.std.proofs.lemmas.Bool.{eqb-false}
use Rattle.psram.specs.Cut.{line, piece, least_of, bounce_of, plan_for}
use Rattle.psram.specs.Piece.{bytes_of, some, directs, pieces_of, direct_of, piece_of, size_in}
use Rattle.psram.specs.List.{covered_of, used_of}
use Rattle.psram.specs.laws.Parts.{Parted, parted, bounce-is, sides}
use Rattle.psram.specs.laws.Pieces.{some-le, Lies, lies}
use Rattle.psram.specs.declared.chip.Chip.{Chip}
use Rattle.psram.specs.declared.plan.Plan.{Plan}
use Rattle.psram.specs.declared.held.Held.TheVariants.{InStore, InRange}
use Rattle.descriptors.specs.Refusal.{Answer}
use Rattle.psram.specs.declared.held.Held.{Held}

-- an outer part is a piece exactly where it has bytes
some_is : (size : ℕ) → ((size ≡ 0) × (some size ≡ 0)) ⊎ ((0 < size) × (some size ≡ 1))
some_is size = go (eqb size 0) refl
  where
    go : (b : Bool) → eqb size 0 ≡ b → ((size ≡ 0) × (◌≡◌ {A = ℕ} (cond b 0 1) 0)) ⊎ ((0 < size) × (◌≡◌ {A = ℕ} (cond b 0 1) 1))
    go true e = inl (eqb-true size 0 e, refl)
    go false e = inr (omega (arith, eqb-false size 0 e), refl)

-- the three kinds of piece, by number
pub head-piece : (p : Plan) (i : ℕ) → i < some p.head → piece_of p i ≡ Ok (InStore 0 p.head)
unfolding piece_of
head-piece p i h = rw (lt-ltb i (some p.head) h)

pub direct-piece : (p : Plan) (i : ℕ) → some p.head ≤ i → i < some p.head + directs p.middle → piece_of p i ≡ Ok (direct_of p (i - some p.head))
unfolding piece_of
direct-piece p i h l = rw (le-ltb i (some p.head) h, lt-ltb (i - some p.head) (directs p.middle) (omega arith))

pub tail-piece : (p : Plan) (i : ℕ) → some p.head + directs p.middle ≤ i → i < some p.head + directs p.middle + some p.tail
    → piece_of p i ≡ Ok (InStore p.bounce p.tail)
unfolding piece_of
tail-piece p i h l =
    rw
    (le-ltb i (some p.head) (omega arith), le-ltb (i - some p.head) (directs p.middle) (omega arith), lt-ltb (i - some p.head - directs p.middle) (some p.tail) (omega arith))

-- where the bytes of a piece belong in the range: what is bounced at 0 before the middle, what is bounced at the bounce size behind it
abbrev pub place_in : Plan → Answer Held → ℕ
place_in p (Ok (InStore start size)) = cond (eqb start 0) 0 (p.head + p.middle)
place_in p (Ok (InRange start size)) = start
place_in p (Err e) = 0

-- ---- the bytes of the first pieces

covered-step : (p : Plan) (i k : ℕ) → k ≡ suc i → covered_of p k ≡ covered_of p i + size_in (piece_of p i)
unfolding covered_of
covered-step p i k e = rw e refl

covered_head : (p : Plan) → covered_of p (some p.head) ≡ p.head
unfolding covered_of
covered_head p =
    ⊎_elim (λ q. rw q.1 (sym q.0))
    (λ q. covered-step p 0 (some p.head) q.1 ∙ rw (head-piece p 0 (omega arith)) (omega arith)) (some_is p.head)

covered-middle : (p : Plan) (j : ℕ) → j ≤ directs p.middle → covered_of p (some p.head + j) ≡ p.head + min p.middle (piece * j)
covered-middle p zero h = ap (covered_of p) {x = some p.head + 0} {y = some p.head} (omega arith) ∙ covered_head p ∙ omega arith
covered-middle p (suc j) h =
    covered-step p (some p.head + j) (some p.head + suc j) (omega arith)
    ∙ rw (covered-middle p j (omega arith), direct-piece p (some p.head + j) (omega arith) (omega arith)) (omega arith)

covered-directs : (p : Plan) → covered_of p (some p.head + directs p.middle) ≡ p.head + p.middle
covered-directs p = covered-middle p (directs p.middle) (omega arith) ∙ omega arith

-- all pieces cover the whole range
pub covered-all : (p : Plan) → covered_of p (pieces_of p) ≡ bytes_of p
unfolding pieces_of
covered-all p =
    ⊎_elim
    (λ q. ap (covered_of p) {x = some p.head + directs p.middle + some p.tail} {y = some p.head + directs p.middle} (omega arith) ∙ covered-directs p ∙ omega arith)
    (λ q. covered-step p (some p.head + directs p.middle) (some p.head + directs p.middle + some p.tail) (omega arith)
    ∙ rw (covered-directs p, tail-piece p (some p.head + directs p.middle) (omega arith) (omega arith)) (omega arith)) (some_is p.tail)

-- a piece belongs where those before it end
pub placed : (p : Plan) → 0 < p.bounce → (i : ℕ) → i < pieces_of p → place_in p (piece_of p i) ≡ covered_of p i
unfolding pieces_of covered_of
placed p b i h = go (dec_lt i (some p.head)) (dec_lt i (some p.head + directs p.middle))
  where
    go : Dec (i < some p.head) → Dec (i < some p.head + directs p.middle) → place_in p (piece_of p i) ≡ covered_of p i
    go (yes l) d =
        let z : i ≡ 0 = omega (arith, some-le p.head) in ap (place_in p) (head-piece p i l) ∙ sym (ap (covered_of p) z)
    go (no l) (yes m) =
        let e : covered_of p i ≡ p.head + min p.middle (piece * (i - some p.head)) =
        ap (covered_of p) {x = i} {y = some p.head + (i - some p.head)} (omega arith) ∙ covered-middle p (i - some p.head) (omega arith)
        in
        ap (place_in p) (direct-piece p i (omega arith) m) ∙ omega (arith, e)
    go (no l) (no m) =
        let z : i ≡ some p.head + directs p.middle = omega (arith, some-le p.tail) in
        ap (place_in p) (tail-piece p i (omega arith) h) ∙ rw (ne_eqb p.bounce 0 (λ q. omega arith)) (sym (ap (covered_of p) z ∙ covered-directs p))

-- no piece is empty
size-pos : (p : Plan) (i : ℕ) → i < pieces_of p → 0 < size_in (piece_of p i)
unfolding pieces_of
size-pos p i h = go (dec_lt i (some p.head)) (dec_lt i (some p.head + directs p.middle))
  where
    go : Dec (i < some p.head) → Dec (i < some p.head + directs p.middle) → 0 < size_in (piece_of p i)
    go (yes l) d = rw (head-piece p i l) (⊎_elim (λ q. absurd (omega arith)) (λ q. q.0) (some_is p.head))
    go (no l) (yes m) = rw (direct-piece p i (omega arith) m) (omega arith)
    go (no l) (no m) = rw (tail-piece p i (omega arith) h) (⊎_elim (λ q. absurd (omega arith)) (λ q. q.0) (some_is p.tail))

covered-left : (p : Plan) (d k : ℕ) → k + d ≡ pieces_of p → covered_of p k + d ≤ bytes_of p
covered-left p zero k e = omega (arith, ap (covered_of p) {x = k} {y = pieces_of p} (omega arith), covered-all p)
covered-left p (suc d) k e =
    omega (arith, covered-left p d (suc k) (omega arith), covered-step p k (suc k) refl, size-pos p k (omega arith))

-- the bytes of the direct pieces among the first k
abbrev pub direct_in : Answer Held → ℕ
direct_in (Ok (InStore start size)) = 0
direct_in (Ok (InRange start size)) = size
direct_in (Err e) = 0

unfoldable pub direct_bytes : Plan → ℕ → ℕ
direct_bytes p zero = 0
direct_bytes p (suc k) = direct_bytes p k + direct_in (piece_of p k)

direct-step : (p : Plan) (i k : ℕ) → k ≡ suc i → direct_bytes p k ≡ direct_bytes p i + direct_in (piece_of p i)
unfolding direct_bytes
direct-step p i k e = rw e refl

direct-head : (p : Plan) → direct_bytes p (some p.head) ≡ 0
unfolding direct_bytes
direct-head p =
    ⊎_elim (λ q. rw q.1 refl) (λ q. direct-step p 0 (some p.head) q.1 ∙ rw (head-piece p 0 (omega arith)) refl) (some_is p.head)

direct-middle : (p : Plan) (j : ℕ) → j ≤ directs p.middle → direct_bytes p (some p.head + j) ≡ min p.middle (piece * j)
direct-middle p zero h = ap (direct_bytes p) {x = some p.head + 0} {y = some p.head} (omega arith) ∙ direct-head p ∙ omega arith
direct-middle p (suc j) h =
    direct-step p (some p.head + j) (some p.head + suc j) (omega arith)
    ∙ rw (direct-middle p j (omega arith), direct-piece p (some p.head + j) (omega arith) (omega arith)) (omega arith)

direct-all : (p : Plan) → direct_bytes p (pieces_of p) ≡ p.middle
unfolding pieces_of
direct-all p =
    ⊎_elim
    (λ q. ap (direct_bytes p) {x = some p.head + directs p.middle + some p.tail} {y = some p.head + directs p.middle} (omega arith) ∙ all)
    (λ q. direct-step p (some p.head + directs p.middle) (some p.head + directs p.middle + some p.tail) (omega arith)
    ∙ rw (all, tail-piece p (some p.head + directs p.middle) (omega arith) (omega arith)) (omega arith)) (some_is p.tail)
  where
    all : direct_bytes p (some p.head + directs p.middle) ≡ p.middle
    all = direct-middle p (directs p.middle) (omega arith) ∙ omega arith

-- ---- the theorems

-- the bytes that the first k pieces stand for, one after another
unfoldable pub joined : Plan → List ℕ → ℕ → List ℕ
joined p range zero = []
joined p range (suc k) = joined p range k ++ take (size_in (piece_of p k)) (drop (place_in p (piece_of p k)) range)

-- the first k pieces tile the first bytes of the range
pub tiles : (p : Plan) → 0 < p.bounce → (range : List ℕ) (k : ℕ) → k ≤ pieces_of p → joined p range k ≡ take (covered_of p k) range
unfolding joined covered_of
tiles p b range zero h = refl
tiles p b range (suc k) h =
    rw (tiles p b range k (omega arith), placed p b k (omega arith)) (sym (take-add (covered_of p k) (size_in (piece_of p k)) range))

module _ (chip : Chip) (address : ℕ) (range : List ℕ) where
  abbrev plan : Plan
  plan = plan_for chip address (length range)

  parts : Parted address (length range) plan
  parts = parted (least_of chip) (bounce_of chip) address (length range) (sides chip)

  bounce-pos : 0 < plan.bounce
  bounce-pos = omega (arith, bounce-is (least_of chip) (bounce_of chip) address (length range), (sides chip).room)

  -- "With enough records the pieces tile the range"
  pub enough-records : (n : ℕ) → pieces_of plan ≤ n
      → (covered_of plan (used_of n plan) ≡ length range) × (joined plan range (used_of n plan) ≡ range)
  enough-records n h =
      let e : used_of n plan ≡ pieces_of plan = omega arith in
      let c : covered_of plan (pieces_of plan) ≡ length range = covered-all plan ∙ parts.whole in
      rw e (c, tiles plan bounce-pos range (pieces_of plan) (omega arith) ∙ rw c (take-length range))

  -- "else its first bytes"
  pub too-few-records : (n : ℕ) → n < pieces_of plan
      → (covered_of plan (used_of n plan) < length range) × (joined plan range (used_of n plan) ≡ take (covered_of plan (used_of n plan)) range)
  too-few-records n h =
      let e : used_of n plan ≡ n = omega arith in
      rw e (omega (arith, covered-left plan (pieces_of plan - n) n (omega arith), parts.whole), tiles plan bounce-pos range n (omega arith))

  -- "a direct piece starts on a line"
  pub direct-on-a-line : (i start size : ℕ) → piece_of plan i ≡ Ok (InRange start size) → (address + start) % line ≡ 0
  direct-on-a-line i start size e =
      let l : Lies plan (Ok (InRange start size)) = subst (λ (h : Answer Held). Lies plan h) e (lies plan i) in
      omega (arith, parts.on_line (omega arith))

  -- "and their total is whole lines"
  pub direct-whole-lines : direct_bytes plan (pieces_of plan) % line ≡ 0
  direct-whole-lines = rw (direct-all plan) parts.lines

  -- "Bounce store: head at 0, tail at the bounce size": each in its half
  pub in-its-half : (i start size : ℕ) → piece_of plan i ≡ Ok (InStore start size)
      → (size ≤ bounce_of chip) × ((start ≡ 0) ⊎ (start ≡ bounce_of chip))
  in-its-half i start size e =
      let l : Lies plan (Ok (InStore start size)) = subst (λ (h : Answer Held). Lies plan h) e (lies plan i) in
      let b = bounce-is (least_of chip) (bounce_of chip) address (length range) in
      ⊎_elim (λ q. (omega (arith, b, parts.head-held), inl q.0)) (λ q. (omega (arith, b, parts.tail-held), inr (q.0 ∙ b))) l

  -- head and tail exceed neither the length nor the bounce size
  pub outer-parts : (plan.head + plan.tail ≤ length range) × ((plan.head ≤ bounce_of chip) × (plan.tail ≤ bounce_of chip))
  outer-parts =
      let b = bounce-is (least_of chip) (bounce_of chip) address (length range) in
      (omega (arith, parts.whole), (omega (arith, b, parts.head-held), omega (arith, b, parts.tail-held)))
