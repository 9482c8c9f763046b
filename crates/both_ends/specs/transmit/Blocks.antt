-- The records' parts stand one behind another: in ring order from record c on they are the buffer read round from where c starts.
use Rattle.std.specs.Prelude.{◌≡◌, Bool, cond, length}
use Rattle.std.proofs.Math.Path.{refl, sym, ap}
use Rattle.std.proofs.Common.{◌∙◌, suc-add, lt-ltb, le-ltb, drop_of_length-le, drop-drop, take_all, take-take}
use mathlib.Core.List.{List, ◌∷◌, ◌++◌}
use Prim.Native.Nat.{ℕ, zero, suc, ◌+◌, ◌-◌, ◌≤◌, ◌<◌}
use native.Mathlib.Omega.{arith}
use Rattle.std.proofs.Math.Decide.{ℕ_discrete}
use Rattle.std.proofs.Math.Numerals.{add-one}
use Rattle.std.proofs.Math.ListN.{take, drop, length-take, take-append-drop}
use Rattle.descriptors.specs.Place.{after}
use Rattle.descriptors.specs.Split.{start_of, size_of}
use Rattle.descriptors.specs.declared.record.DmaDescriptor.{DmaDescriptor}
use Rattle.descriptors.specs.declared.record.TransferDirection.TheVariants.{Out}
use Rattle.ring_order.specs.Geometry.{Geometry, apart, within}
use Rattle.ring_order.specs.Lists.{take-drop}
use Rattle.ring_order.specs.Shape.{Laid, grounds}
use Rattle.ring_order.specs.View.{Cell, cell_in, round, view}
use Rattle.ring_order.specs.Queue.{cat, cat-append}
use Rattle.both_ends.specs.transmit.Turned.{turned}

-- s bytes are the sizes of the records before record i
pub data Edge (n len i s : ℕ) : Type 0 where
  inner : i < n → s ≡ start_of n len i → Edge n len i s
  last : i ≡ n → s ≡ len → Edge n len i s

pub edge-next : {n len i s : ℕ} → Geometry n len → Edge n len i s → i < n → Edge n len (i + 1) (s + size_of n len i)
edge-next {n} {len} {i} {s} G (inner h e) l = go (ℕ_discrete (suc i) n)
  where
    go : Dec (suc i ≡ n) → Edge n len (i + 1) (s + size_of n len i)
    go (yes q) = last (omega arith) (omega (arith, G.end i q))
    go (no q) = rw add-one (inner (omega arith) (ap (λ (x : ℕ). x + size_of n len i) e ∙ sym (G.joined i (omega arith))))
edge-next {n} {len} {i} {s} G (last h e) l = absurd (omega arith)

pub edge_same : {n len i s t : ℕ} → Edge n len i s → Edge n len i t → s ≡ t
edge_same (inner h e) (inner k f) = e ∙ sym f
edge_same (inner h e) (last k f) = absurd (omega arith)
edge_same (last h e) (inner k f) = absurd (omega arith)
edge_same (last h e) (last k f) = e ∙ sym f

edge-room : {n len i m s t : ℕ} → Geometry n len → Edge n len i s → Edge n len m t → i < m → m ≤ n → s + size_of n len i ≤ t
edge-room {n} {len} {i} {m} G (inner h e) (inner k f) l lm = omega (arith, apart n len G i m l k)
edge-room {n} {len} {i} {m} G (inner h e) (last k f) l lm = omega (arith, within n len G i h)
edge-room {n} {len} {i} {m} G (last h e) q l lm = absurd (omega arith)

-- ---- places without and with a turn

pub after-inner : (n i : ℕ) → suc i < n → after n i ≡ suc i
after-inner n i h = ap (λ (t : Bool). cond t (i + 1) 0) (lt-ltb (i + 1) n (omega arith)) ∙ add-one i

after_last : (n i : ℕ) → suc i ≡ n → after n i ≡ 0
after_last n i h = ap (λ (t : Bool). cond t (i + 1) 0) (le-ltb (i + 1) n (omega arith))

module _ {A : Type 0} (f : ℕ → A) (n : ℕ) where
  pub round-next : (k i : ℕ) → i + suc k ≤ n → round f n k (after n i) ≡ round f n k (suc i)
  unfolding round
  round-next zero i h = refl
  round-next (suc k) i h = ap (round f n (suc k)) (after-inner n i (omega arith))

  -- up to the last place, and then from the first
  pub round-join : (a b i : ℕ) → i + suc a ≡ n → round f n (suc a + b) i ≡ round f n (suc a) i ++ round f n b 0
  unfolding round
  round-join zero b i h = ap (λ (k : ℕ). round f n k i) {x = 1 + b} {y = suc b} (omega arith) ∙ ap (λ (j : ℕ). f i ∷ round f n b j) (after_last n i (omega arith))
  round-join (suc a) b i h =
      ap (λ (k : ℕ). round f n k i) (suc-add (suc a) b)
      ∙ ap (λ (j : ℕ). f i ∷ round f n (suc a + b) j) (after-inner n i (omega arith))
      ∙ ap (λ (l : List A). f i ∷ l) (round-join a b (suc i) (omega arith))
      ∙ ap (λ (j : ℕ). f i ∷ (round f n (suc a) j ++ round f n b 0)) (sym (after-inner n i (omega arith)))

-- ---- the parts of k records from i on, which end where record m starts

pub part_in : (b : List ℕ) (s k e : ℕ) → s + k ≤ e → take k (drop s (take e b)) ≡ take k (drop s b)
part_in b s k e h = take-drop k s (take e b) ∙ ap (drop s) (take-take (s + k) e b h) ∙ sym (take-drop k s b)

module _ (n len : ℕ) (ds : List DmaDescriptor) (b : List ℕ) (l : Laid n len ds) where
  block : (i s e : ℕ) → i < n → Edge n len i s → s + size_of n len i ≤ e → (cell_in Out ds b i).held ≡ take (size_of n len i) (drop s (take e b))
  block i s e h (inner k q) r = rw (l.room i h, l.start i h, ← q) (sym (part_in b s (size_of n len i) e r))
  block i s e h (last k q) r = absurd (omega arith)

  pub blocks : (k i m s e : ℕ) → i + k ≡ m → m ≤ n → Edge n len i s → Edge n len m e → cat (round (cell_in Out ds b) n k i) ≡ drop s (take e b)
  unfolding round
  blocks zero i m s e h lm p q =
      let z : i ≡ m = omega arith in
      let y : s ≡ e = edge_same p (rw z q) in
      sym (drop_of_length-le (take e b) {i = s} (rw length-take (omega arith)))
  blocks (suc k) i m s e h lm p q =
      let G : Geometry n len = grounds n len ds l in
      let z : ℕ = size_of n len i in
      let r : s + z ≤ e = edge-room G p q (omega arith) lm in
      ap (λ (c : List Cell). (cell_in Out ds b i).held ++ cat c) (round-next (cell_in Out ds b) n k i (omega arith))
      ∙ ap (λ (t : List ℕ). (cell_in Out ds b i).held ++ t) (blocks k (suc i) m (s + z) e (omega arith) lm (rw (← add-one i) (edge-next G p (omega arith))) q)
      ∙ ap (λ (t : List ℕ). t ++ drop (s + z) (take e b)) (block i s e (omega arith) p r)
      ∙ ap (λ (t : List ℕ). take z (drop s (take e b)) ++ t) (sym (drop-drop z s (take e b)))
      ∙ take-append-drop z (drop s (take e b))

  -- ALL PARTS, in ring order from record c on
  pub cat-view : (c : ℕ) → c < n → length b ≡ len → cat (view Out n ds b c) ≡ turned b (start_of n len c)
  cat-view c hc w =
      let G : Geometry n len = grounds n len ds l in
      let a : ℕ = n - suc c in
      let s : ℕ = start_of n len c in
      let f : ℕ → Cell = cell_in Out ds b in
      ap (λ (k : ℕ). cat (round f n k c)) {x = n} {y = suc a + c} (omega arith)
      ∙ ap cat (round-join f n a c c (omega arith))
      ∙ cat-append (round f n (suc a) c) (round f n c 0)
      ∙ ap (λ (t : List ℕ). t ++ cat (round f n c 0)) (blocks (suc a) c n s len (omega arith) (omega arith) (inner hc refl) (last refl refl) ∙ ap (drop s) (take_all len b (omega arith)))
      ∙ ap (λ (t : List ℕ). drop s b ++ t) (blocks c 0 c 0 s (omega arith) (omega arith) (inner (omega arith) (sym G.first)) (inner hc refl))
