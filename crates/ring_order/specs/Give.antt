-- Bytes taken (receive) or accepted (transmit) from the cursor on. The walk reads the records as they were when the call began, and the
-- records that it used up are handed over afterwards; the outcome is that of handing each one over as soon as it is used up.
use Rattle.std.specs.Prelude.{◌≡◌, Bool, true, false, ◌⊎◌, ltb, drop}
use Rattle.std.proofs.Math.Path.{refl, sym, ap, subst}
use Rattle.std.proofs.Common.{◌∙◌, inl, inr, arith, length-append, drop-drop, ltb-true, ltb-false}
use Rattle.std.proofs.Math.Bool.{cond}
use mathlib.Core.List.{List, [], ◌∷◌, ◌++◌, append_assoc, append-nil, map, map-append}
use Prim.Native.Nat.{ℕ, zero, suc, ◌+◌, ◌-◌, ◌≤◌, ◌<◌}
use Rattle.std.proofs.Math.ListN.{length, take, length-drop}
use Rattle.std.proofs.lemmas.List.{length-map}
use Rattle.std.proofs.Math.Seq.{append_snoc, drop-append-add}
use Rattle.descriptors.specs.Record.{record_in, span_of, is_cpu}
use Rattle.descriptors.specs.Place.{after, turns}
use Rattle.descriptors.specs.Ring.{Ring}
use Rattle.descriptors.specs.Walk.{hand_over, walk, past, inside, begun, planned, taken_in, available_in, standing}
use Rattle.descriptors.specs.declared.walk.Moved.{Moved}
use Rattle.descriptors.specs.declared.record.DmaDescriptor.{DmaDescriptor}
use Rattle.descriptors.specs.declared.record.TransferDirection.{TransferDirection}
use Rattle.ring_order.specs.Places.{place, place_after}
use Rattle.ring_order.specs.Tests.{cpu-test, dma-test}
use Rattle.ring_order.specs.View.{Cell, cell_in, view, hand_c, relink, own, cursor-cell}
use Rattle.ring_order.specs.Queue.{idxs, owners, loads, join, cat, bare, bares, same-idxs, same-helds, same-loads, same_length, bares-relink, Cpus, Linked, Inside, inside-cat, cat-append, Parted, exact, run-data, run-bytes, parts-length, after-give, bares-after, give-parted}

-- ---- the walk, by what it meets

module _ (dir : TransferDirection) (f : ℕ → DmaDescriptor) (n k : ℕ) (m : Moved) where
  pub walk-dma : is_cpu (f m.at).owner ≡ false → walk dir f n (suc k) m ≡ m
  unfolding walk
  walk-dma e = ap (λ (t : Bool). cond t (cond (ltb m.rest (span_of dir (f m.at) - m.offset)) (inside m) (walk dir f n k (past dir f n m))) m) e

  pub walk-cpu : (t : Bool) → is_cpu (f m.at).owner ≡ true → ltb m.rest (span_of dir (f m.at) - m.offset) ≡ t
      → walk dir f n (suc k) m ≡ cond t (inside m) (walk dir f n k (past dir f n m))
  unfolding walk
  walk-cpu t e h =
      ap (λ (s : Bool). cond s (cond (ltb m.rest (span_of dir (f m.at) - m.offset)) (inside m) (walk dir f n k (past dir f n m))) m) e
      ∙ ap (λ (s : Bool). cond s (inside m) (walk dir f n k (past dir f n m))) h

-- f shows the records of the run as they are, but for their links; and it shows the queue's first as the device's
abbrev Shown : TransferDirection → (ℕ → DmaDescriptor) → List Cell → Type 0
Shown dir f [] = Unit {0}
Shown dir f (x ∷ xs) = (is_cpu (f x.idx).owner ≡ true) × (span_of dir (f x.idx) ≡ length x.held) × Shown dir f xs

abbrev Barred : (ℕ → DmaDescriptor) → List Cell → Type 0
Barred f [] = ⊥
Barred f (y ∷ ys) = is_cpu (f y.idx).owner ≡ false

shown-after : (dir : TransferDirection) (f : ℕ → DmaDescriptor) (i : ℕ) (rest run : List Cell) → Shown dir f run → Shown dir f (after-give i rest run)
shown-after dir f i (y ∷ ys) run h = h
shown-after dir f i [] [] h = h
shown-after dir f i [] (x ∷ []) h = h
shown-after dir f i [] (x ∷ z ∷ zs) h = (h.0, h.1, shown-after dir f i [] (z ∷ zs) h.2)

barred-snoc : (f : ℕ → DmaDescriptor) (i : ℕ) (rest : List Cell) (y : Cell) → Barred f rest → Barred f (relink i rest ++ (y ∷ []))
barred-snoc f i [] y h = absurd h
barred-snoc f i (z ∷ []) y h = h
barred-snoc f i (z ∷ w ∷ zs) y h = h

-- the walk has room for the run, and ends with it
abbrev Ends : (ℕ → DmaDescriptor) → ℕ → List Cell → List Cell → Type 0
Ends f k run rest = (length run ≡ k) ⊎ ((length run ≤ k) × Barred f rest)

-- ---- what a walk from m to m' leaves, where ds were the records: the records `used` have been handed over

pub record Walked (dir : TransferDirection) (n len : ℕ) (b : List ℕ) (ds : List DmaDescriptor) (m m' : Moved) (run rest : List Cell) : Type 0 where
  pub used : List Cell
  pub run' : List Cell
  pub rest' : List Cell
  pub parts : bares run ≡ bares (used ++ run')
  pub grows : idxs rest' ≡ idxs rest ++ idxs used
  pub loaded : loads rest' ≡ loads rest ++ loads (map (hand_c dir b) used)
  pub stood : place n m'.at (length run') ≡ place n m.at (length run)
  pub back : m'.back ≡ m.back + length used
  pub counted : m.offset + m.rest ≡ length (cat used) + (m'.offset + m'.rest)
  pub fewer : m'.rest ≤ m.rest
  pub parted : Parted dir n len (turns (hand_over dir n) n (length used) m.at ds) b m'.at m'.offset run' rest'

module _ (dir : TransferDirection) (n len : ℕ) (b : List ℕ) where
  -- nothing is handed over
  stays : (ds : List DmaDescriptor) (m m' : Moved) (run rest : List Cell) → m'.at ≡ m.at → m'.back ≡ m.back → m.offset + m.rest ≡ m'.offset + m'.rest → m'.rest ≤ m.rest
      → Parted dir n len ds b m'.at m'.offset run rest → Walked dir n len b ds m m' run rest
  unfolding turns
  stays ds m m' run rest ea eb sum less s =
      record {
        used = [];
        run' = run;
        rest' = rest;
        parts = refl;
        grows = sym (append-nil (idxs rest));
        loaded = sym (append-nil (loads rest));
        stood = ap (λ (i : ℕ). place n i (length run)) ea;
        back = omega arith;
        counted = omega arith;
        fewer = less;
        parted = s;
      }

  halts : (ds : List DmaDescriptor) (m : Moved) (rest : List Cell) → Parted dir n len ds b m.at m.offset [] rest → Walked dir n len b ds m m [] rest
  halts ds m rest s = stays ds m m [] rest refl refl refl (omega arith) s

  enters : (ds : List DmaDescriptor) (m : Moved) (x : Cell) (run rest : List Cell) → Parted dir n len ds b m.at m.offset (x ∷ run) rest
      → m.offset + m.rest < length x.held → Walked dir n len b ds m (inside m) (x ∷ run) rest
  enters ds m x run rest s h =
      stays ds m (inside m) (x ∷ run) rest refl refl (omega arith) (omega arith) record {
        stored = s.stored;
        seen = s.seen;
        cpus = s.cpus;
        linked = s.linked;
        offset = inr h;
      }

  -- the queue of numbers, and of loads, once x has joined it and others after it
  joins : {B : Type 0} (g : Cell → B) (rest us : List Cell) (y : Cell) (rest₁ : List Cell) → map g (relink y.idx rest) ≡ map g rest
      → map g rest₁ ≡ map g (relink y.idx rest ++ (y ∷ [])) ++ map g us → map g rest₁ ≡ map g rest ++ (g y ∷ map g us)
  joins g rest us y rest₁ r e =
      e ∙ ap (λ l. l ++ map g us) (map-append g (relink y.idx rest) (y ∷ []) ∙ ap (λ l. l ++ (g y ∷ [])) r) ∙ append_snoc (map g rest) (g y) (map g us)

  past-sum : (o r s h l o' r' : ℕ) → s ≡ h → o ≤ h → s - o ≤ r → 0 + (r - (s - o)) ≡ l + (o' + r') → o + r ≡ h + l + (o' + r')
  past-sum o r s h l o' r' e a q c = omega arith

  goes : (f : ℕ → DmaDescriptor) (ds : List DmaDescriptor) (m m' : Moved) (x : Cell) (run rest : List Cell) → m.at < n → length run < n → span_of dir (f m.at) ≡ length x.held → m.offset ≤ length x.held
      → span_of dir (f m.at) - m.offset ≤ m.rest
      → Walked dir n len b (hand_over dir n m.at ds) (past dir f n m) m' (after-give x.idx rest run) (relink x.idx rest ++ (hand_c dir b x ∷ []))
      → Walked dir n len b ds m m' (x ∷ run) rest
  unfolding turns
  goes f ds m m' x run rest hc hr e h l w =
      let r : bares (relink x.idx rest) ≡ bares rest = bares-relink x.idx rest in
      record {
        used = x ∷ w.used;
        run' = w.run';
        rest' = w.rest';
        parts = ap (λ (t : List Cell). bare x ∷ t) (sym (bares-after x.idx rest run) ∙ w.parts);
        grows = joins (λ (y : Cell). y.idx) rest w.used (hand_c dir b x) w.rest' (same-idxs (relink x.idx rest) rest r) w.grows;
        loaded = joins (λ (y : Cell). take y.desc.length y.held) rest (map (hand_c dir b) w.used) (hand_c dir b x) w.rest' (same-loads (relink x.idx rest) rest r) w.loaded;
        stood =
            w.stood ∙ ap (place n (after n m.at)) (same_length (after-give x.idx rest run) run (bares-after x.idx rest run)) ∙ place_after n m.at (length run) hc hr;
        back = omega (arith, w.back);
        counted = past-sum m.offset m.rest (span_of dir (f m.at)) (length x.held) (length (cat w.used)) m'.offset m'.rest e h l w.counted
            ∙ ap (λ (k : ℕ). k + (m'.offset + m'.rest)) (sym (length-append x.held (cat w.used)));
        fewer = omega (arith, w.fewer);
        parted = w.parted;
      }

  inside-held : (o : ℕ) (x : Cell) (xs : List Cell) → Inside o (x ∷ xs) → o ≤ length x.held
  inside-held o x xs (inl h) = omega arith
  inside-held o x xs (inr h) = omega arith

  ends-after : (f : ℕ → DmaDescriptor) (k i : ℕ) (run rest : List Cell) (y x : Cell) → Ends f (suc k) (x ∷ run) rest → Ends f k (after-give i rest run) (relink i rest ++ (y ∷ []))
  ends-after f k i run rest y x (inl e) = inl (omega (arith, same_length (after-give i rest run) run (bares-after i rest run)))
  ends-after f k i run rest y x (inr (l, h)) = inr (omega (arith, same_length (after-give i rest run) run (bares-after i rest run)), barred-snoc f i rest y h)

  abbrev Walks : (ℕ → DmaDescriptor) → ℕ → Type 0
  Walks f k = (m : Moved) (ds : List DmaDescriptor) (run rest : List Cell) → Parted dir n len ds b m.at m.offset run rest → Shown dir f run → Ends f k run rest
      → Walked dir n len b ds m (walk dir f n k m) run rest

  -- the cursor's record is the CPU's: the bytes end inside it, or it is used up
  walk-in : (f : ℕ → DmaDescriptor) (k : ℕ) → Walks f k → (m : Moved) (ds : List DmaDescriptor) (x : Cell) (run rest : List Cell) → Parted dir n len ds b m.at m.offset (x ∷ run) rest
      → Shown dir f (x ∷ run) → Ends f (suc k) (x ∷ run) rest → is_cpu (f m.at).owner ≡ true → span_of dir (f m.at) ≡ length x.held
      → (t : Bool) → ltb m.rest (span_of dir (f m.at) - m.offset) ≡ t → Walked dir n len b ds m (walk dir f n (suc k) m) (x ∷ run) rest
  walk-in f k ih m ds x run rest s a e c h true t =
      subst (λ (z : Moved). Walked dir n len b ds m z (x ∷ run) rest) (sym (walk-cpu dir f n k m true c t))
      (enters ds m x run rest s (omega (arith, ltb-true m.rest (span_of dir (f m.at) - m.offset) t)))
  walk-in f k ih m ds x run rest s a e c h false t =
      let y : Cell = hand_c dir b x in
      subst (λ (z : Moved). Walked dir n len b ds m z (x ∷ run) rest) (sym (walk-cpu dir f n k m false c t))
      (goes f ds m (walk dir f n k (past dir f n m)) x run rest s.stored.cursor (omega (arith, parts-length dir n len ds b m.at m.offset (x ∷ run) rest s)) h (inside-held m.offset x run s.offset) (ltb-false m.rest (span_of dir (f m.at) - m.offset) t)
      (ih (past dir f n m) (hand_over dir n m.at ds) (after-give x.idx rest run) (relink x.idx rest ++ (y ∷ [])) (give-parted dir n len ds b m.at m.offset x run rest s)
      (shown-after dir f x.idx rest run a.2) (ends-after f k x.idx run rest y x e)))

  at-cursor : (ds : List DmaDescriptor) (c o : ℕ) (x : Cell) (vs run rest : List Cell) → Parted dir n len ds b c o run rest → run ++ rest ≡ x ∷ vs → x.idx ≡ c
  at-cursor ds c o x vs run rest s e = ap (λ (y : Cell). y.idx) (cursor-cell dir n ds b c s.stored.cursor vs x (s.seen ∙ e))

  walked : (f : ℕ → DmaDescriptor) (k : ℕ) → Walks f k
  walked f zero m ds [] rest s a e = unfold walk in halts ds m rest s
  walked f zero m ds (x ∷ run) rest s a (inl e) = absurd (omega arith)
  walked f zero m ds (x ∷ run) rest s a (inr (e, h)) = absurd (omega arith)
  walked f (suc k) m ds [] rest s a (inl e) = absurd (omega arith)
  walked f (suc k) m ds [] [] s a (inr (e, h)) = absurd h
  walked f (suc k) m ds [] (y ∷ ys) s a (inr (e, h)) =
      let q : y.idx ≡ m.at = at-cursor ds m.at m.offset y ys [] (y ∷ ys) s refl in
      subst (λ (z : Moved). Walked dir n len b ds m z [] (y ∷ ys)) (sym (walk-dma dir f n k m (subst (λ (i : ℕ). is_cpu (f i).owner ≡ false) q h))) (halts ds m (y ∷ ys) s)
  walked f (suc k) m ds (x ∷ run) rest s a e =
      let q : x.idx ≡ m.at = at-cursor ds m.at m.offset x (run ++ rest) (x ∷ run) rest s refl in
      walk-in f k (walked f k) m ds x run rest s a e (subst (λ (i : ℕ). is_cpu (f i).owner ≡ true) q a.0) (subst (λ (i : ℕ). span_of dir (f i) ≡ length x.held) q a.1) _ refl

-- ---- the laws of a call, of any number of bytes

module _ (dir : TransferDirection) (len : ℕ) (r : Ring) (b : List ℕ) (run rest : List Cell) (s : Parted dir r.count len r.descriptors b r.idx r.offset run rest) where
  -- at first the records are shown as they are
  shown-own : (p xs q : List Cell) → view dir r.count r.descriptors b r.idx ≡ p ++ (xs ++ q) → Cpus (owners xs) → Shown dir (record_in r.descriptors) xs
  shown-own p [] q v a = tt
  shown-own p (x ∷ xs) q v a =
      let o : x ≡ cell_in dir r.descriptors b x.idx = (own dir r.count r.descriptors b r.idx s.stored.cursor p (xs ++ q) x v).1 in (
        cpu-test _ (ap (λ (y : Cell). y.desc.owner) (sym o) ∙ a.0),
        ap (λ (y : Cell). span_of dir y.desc) (sym o) ∙ sym (exact dir r.count len r.descriptors b r.idx s.stored p (xs ++ q) x v),
        shown-own (p ++ (x ∷ [])) xs q (v ∙ sym (append_assoc p (x ∷ []) (xs ++ q))) a.1,
      )

  ends-own : (q : List Cell) → view dir r.count r.descriptors b r.idx ≡ run ++ q → Linked q → length run + length q ≡ r.count → Ends (record_in r.descriptors) r.count run q
  ends-own [] v l e = inl (omega arith)
  ends-own (y ∷ ys) v l e =
      let o : y ≡ cell_in dir r.descriptors b y.idx = (own dir r.count r.descriptors b r.idx s.stored.cursor run ys y v).1 in
      inr (omega arith, dma-test _ (ap (λ (z : Cell). z.desc.owner) (sym o) ∙ l.0))

  -- k BYTES FROM THE CURSOR ON
  pub gives : (k : ℕ) → Walked dir r.count len b r.descriptors (begun r k) (planned dir r k) run rest
  unfolding planned
  gives k =
      walked dir r.count len b (record_in r.descriptors) r.count (begun r k) r.descriptors run rest s (shown-own [] run rest s.seen s.cpus)
      (ends-own rest s.seen s.linked (parts-length dir r.count len r.descriptors b r.idx r.offset run rest s))

  -- the bytes that stand there, and how many are available
  pub standing-run : standing dir r b ≡ drop r.offset (cat run)
  unfolding standing
  standing-run = ap (drop r.offset) (run-data dir r.count len r.descriptors b r.idx r.offset run rest s)

  pub available-run : available_in dir r ≡ length (standing dir r b)
  unfolding available_in
  available-run =
      ap (λ (m : ℕ). m - r.offset) (run-bytes dir r.count len r.descriptors b r.idx r.offset run rest s) ∙ sym (ap length standing-run ∙ length-drop r.offset (cat run))

  module _ (k : ℕ) (w : Walked dir r.count len b r.descriptors (begun r k) (planned dir r k) run rest) where
    pub run-parts : cat run ≡ cat w.used ++ cat w.run'
    run-parts = ap join (same-helds run (w.used ++ w.run') w.parts) ∙ cat-append w.used w.run'

    -- the queue grows by the records handed over
    pub queue-length : length w.rest' ≡ length rest + length w.used
    queue-length =
        sym (length-map w.rest' (λ (x : Cell). x.idx)) ∙ ap length w.grows ∙ length-append (idxs rest) (idxs w.used)
        ∙ λ i. length-map rest (λ (x : Cell). x.idx) i + length-map w.used (λ (x : Cell). x.idx) i

    pub taken-sum : r.offset + taken_in dir r k ≡ length (cat w.used) + (planned dir r k).offset
    taken-sum = omega (arith, w.counted, w.fewer)

    pub taken-run : r.offset + taken_in dir r k ≤ length (cat run)
    taken-run = rw (run-parts, length-append) (omega (arith, taken-sum, inside-cat (planned dir r k).offset w.run' w.parted.offset))

    pub taken-standing : taken_in dir r k ≤ length (standing dir r b)
    taken-standing = rw (standing-run, length-drop) (omega (arith, taken-run))

    -- what stands there afterwards
    pub standing-rest : drop (planned dir r k).offset (cat w.run') ≡ drop (taken_in dir r k) (standing dir r b)
    standing-rest =
        sym (drop-append-add (cat w.used) (cat w.run') (planned dir r k).offset) ∙ ap (λ (l : List ℕ). drop (length (cat w.used) + (planned dir r k).offset) l) (sym run-parts)
        ∙ ap (λ (m : ℕ). drop m (cat run)) (sym taken-sum) ∙ sym (drop-drop (taken_in dir r k) r.offset (cat run)) ∙ ap (drop (taken_in dir r k)) (sym standing-run)
