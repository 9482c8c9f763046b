-- Where k bytes lead: how many are taken, how many records are used up, and what stands there then.
use Prim.Native.Nat.{ℕ, zero, suc, ◌+◌, ◌-◌, ◌≤◌, ◌<◌, min}
use Rattle.std.specs.Prelude.{◌≡◌, Bool, ◌⊎◌, List, [], ◌++◌, ltb, take, drop}
use Rattle.std.proofs.Math.Path.{refl}
use Rattle.std.proofs.Common.{sym, ◌∙◌, ap, subst, inl, inr, arith, ltb-true, ltb-false, length-drop, drop-drop, length-take-le}
use Rattle.std.proofs.Math.Bool.{true, false, cond}
use Rattle.std.proofs.Math.ListN.{length, length-append}
use Rattle.std.proofs.lemmas.List.{drop-append-le}
use Rattle.std.proofs.Math.Seq.{drop-append-add}
use Rattle.descriptors.specs.Record.{is_cpu, span_of}
use Rattle.descriptors.specs.Place.{after}
use Rattle.descriptors.specs.Walk.{walk, past, inside, run_bytes, run_data}
use Rattle.descriptors.specs.laws.Walks.{run_none, run-stop, run-go, walk_none, walk-stop, walk-part, walk-go}
use Rattle.descriptors.specs.declared.record.DmaDescriptor.{DmaDescriptor}
use Rattle.descriptors.specs.declared.record.TransferDirection.{TransferDirection}
use Rattle.descriptors.specs.declared.walk.Moved.{Moved}
use Rattle.ring_order.specs.Places.{place, place-zero, place_after, after-lt}

-- the offset where a walk ends before a record: the one where it began, if it used up none
abbrev pub Whole : ℕ → Moved → Moved → Type 0
Whole used m e = (e.offset ≡ 0) ⊎ ((used ≡ 0) × (e.offset ≡ m.offset))

-- how a walk over at most k records ends: after all of them, before a record of the device's, or inside one of the CPU's
pub data Halts (dir : TransferDirection) (f : ℕ → DmaDescriptor) (k used : ℕ) (m e : Moved) : Type 0 where
  all : used ≡ k → Whole used m e → Halts dir f k used m e
  barred : is_cpu (f e.at).owner ≡ false → Whole used m e → Halts dir f k used m e
  within : used < k → is_cpu (f e.at).owner ≡ true → e.offset < span_of dir (f e.at) → Halts dir f k used m e

whole-past : (used : ℕ) (m p e : Moved) → p.offset ≡ 0 → Whole used p e → Whole (suc used) m e
whole-past used m p e z (inl h) = inl h
whole-past used m p e z (inr h) = inl (h.1 ∙ z)

halts-past : (dir : TransferDirection) (f : ℕ → DmaDescriptor) (k used : ℕ) (m p e : Moved) → p.offset ≡ 0 → Halts dir f k used p e → Halts dir f (suc k) (suc used) m e
halts-past dir f k used m p e z (all h w) = all (ap suc h) (whole-past used m p e z w)
halts-past dir f k used m p e z (barred h w) = barred h (whole-past used m p e z w)
halts-past dir f k used m p e z (within x h l) = within (omega arith) h l

goes_on : (r x d l o s t v : ℕ) → x + d ≡ r → o + d ≡ l → t ≡ l + s → v ≤ x → x - v ≡ min x (s - 0) → r - v ≡ min r (t - o)
goes_on r x d l o s t v a b c e f = omega arith

module _ (dir : TransferDirection) (f : ℕ → DmaDescriptor) (b : List ℕ) (n : ℕ) where
  pub record Walked (k : ℕ) (m e : Moved) : Type 0 where
    pub used : ℕ
    pub few : used ≤ k
    pub back : e.back ≡ m.back + used
    pub at : e.at ≡ place n m.at used
    pub cpus : (d : ℕ) → d < used → is_cpu (f (place n m.at d)).owner ≡ true
    pub fewer : e.rest ≤ m.rest
    pub taken : m.rest - e.rest ≡ min m.rest (run_bytes dir f n k m.at - m.offset)
    pub bytes : drop (m.rest - e.rest) (drop m.offset (run_data dir f b n k m.at)) ≡ drop e.offset (run_data dir f b n (k - used) e.at)
    pub halts : Halts dir f k used m e

  -- no record is used up
  stays : (k : ℕ) (m e : Moved) → m.at < n → e.at ≡ m.at → e.back ≡ m.back → e.rest ≤ m.rest
      → m.rest - e.rest ≡ min m.rest (run_bytes dir f n k m.at - m.offset) → e.offset ≡ m.offset + (m.rest - e.rest) → Halts dir f k 0 m e → Walked k m e
  stays k m e h ea eb l t o s =
      let z : k ≡ k - 0 = omega arith in
      record {
        used = 0;
        few = omega arith;
        back = omega arith;
        at = ea ∙ sym (place-zero n m.at h);
        cpus = λ d x. absurd (omega arith);
        fewer = l;
        taken = t;
        bytes = drop-drop (m.rest - e.rest) m.offset (run_data dir f b n k m.at)
            ∙ ap (λ (j : ℕ). drop j (run_data dir f b n k m.at)) (sym o)
            ∙ ap (λ (j : ℕ). drop e.offset (run_data dir f b n j m.at)) z
            ∙ ap (λ (i : ℕ). drop e.offset (run_data dir f b n (k - 0) i)) (sym ea);
        halts = s;
      }

  module _ (room : (i : ℕ) → i < n → (f i).buffer + span_of dir (f i) ≤ length b) where
    data-go : (k i : ℕ) → is_cpu (f i).owner ≡ true → run_data dir f b n (suc k) i ≡ take (span_of dir (f i)) (drop (f i).buffer b) ++ run_data dir f b n k (after n i)
    unfolding run_data
    data-go k i e = rw e

    held : (i : ℕ) → i < n → length (take (span_of dir (f i)) (drop (f i).buffer b)) ≡ span_of dir (f i)
    held i h = length-take-le (span_of dir (f i)) (drop (f i).buffer b) (rw length-drop (omega (arith, room i h)))

    -- the bytes are as many as the records count for
    pub data-length : (k i : ℕ) → i < n → length (run_data dir f b n k i) ≡ run_bytes dir f n k i
    unfolding run_data run_bytes
    data-length zero i h = refl
    data-length (suc k) i h = go (is_cpu (f i).owner) (data-length k (after n i) (after-lt n i h))
      where
        go : (a : Bool) → length (run_data dir f b n k (after n i)) ≡ run_bytes dir f n k (after n i)
            → length (cond a (take (span_of dir (f i)) (drop (f i).buffer b) ++ run_data dir f b n k (after n i)) []) ≡ cond a (span_of dir (f i) + run_bytes dir f n k (after n i)) 0
        go true ih = rw length-append (omega (arith, ih, held i h))
        go false ih = refl

    -- the record where the walk stands is used up
    goes : (k : ℕ) (m e : Moved) → m.at < n → suc k ≤ n → is_cpu (f m.at).owner ≡ true → m.offset ≤ span_of dir (f m.at) → span_of dir (f m.at) - m.offset ≤ m.rest
        → Walked k (past dir f n m) e → Walked (suc k) m e
    goes k m e h l c o t w =
        let s : ℕ = span_of dir (f m.at) in
        let one : suc k - 1 ≡ k = omega arith in
        let fewer : k - w.used ≡ suc k - suc w.used = omega arith in
        let head : List ℕ = take s (drop (f m.at).buffer b) in
        let tail : List ℕ = run_data dir f b n k (after n m.at) in
        let front : length (drop m.offset head) ≡ s - m.offset = length-drop m.offset head ∙ ap (λ (j : ℕ). j - m.offset) (held m.at h) in
        let sum : m.rest - e.rest ≡ length (drop m.offset head) + ((past dir f n m).rest - e.rest) = omega (arith, w.fewer, front) in
        record {
          used = suc w.used;
          few = omega (arith, w.few);
          back = omega (arith, w.back);
          at = w.at ∙ place_after n m.at w.used h (omega (arith, w.few));
          cpus = λ d x. cpus w d x;
          fewer = omega (arith, w.fewer);
          taken =
              goes_on m.rest (past dir f n m).rest (s - m.offset) s m.offset (run_bytes dir f n k (after n m.at)) (run_bytes dir f n (suc k) m.at) e.rest (omega arith) (omega arith)
              (rw one at (run-go dir f n (suc k) m.at (omega arith) c)) w.fewer w.taken;
          bytes =
              ap (λ (x : List ℕ). drop (m.rest - e.rest) (drop m.offset x)) (data-go k m.at c)
              ∙ ap (drop (m.rest - e.rest)) (drop-append-le m.offset head tail (omega (arith, held m.at h)))
              ∙ ap (λ (j : ℕ). drop j (drop m.offset head ++ tail)) sum
              ∙ drop-append-add (drop m.offset head) tail ((past dir f n m).rest - e.rest)
              ∙ w.bytes
              ∙ ap (λ (j : ℕ). drop e.offset (run_data dir f b n j e.at)) fewer;
          halts = halts-past dir f k w.used m (past dir f n m) e refl w.halts;
        }
      where
        cpus : (w : Walked k (past dir f n m) e) (d : ℕ) → d < suc w.used → is_cpu (f (place n m.at d)).owner ≡ true
        cpus w zero x = ap (λ (i : ℕ). is_cpu (f i).owner) (place-zero n m.at h) ∙ c
        cpus w (suc d) x = ap (λ (i : ℕ). is_cpu (f i).owner) (sym (place_after n m.at d h (omega (arith, w.few)))) ∙ w.cpus d (omega arith)

    pub walked : (k : ℕ) (m : Moved) → m.at < n → k ≤ n → m.offset ≤ span_of dir (f m.at) → Walked k m (walk dir f n k m)
    walked zero m h l o =
        subst (Walked 0 m) (sym (walk_none dir f n m))
        (stays 0 m m h refl refl (omega arith) (omega (arith, run_none dir f n m.at)) (omega arith) (all refl (inr (refl, refl))))
    walked (suc k) m h l o =
        go (is_cpu (f m.at).owner) (ltb m.rest (span_of dir (f m.at) - m.offset)) refl refl (walked k (past dir f n m) (after-lt n m.at h) (omega arith) (omega arith))
      where
        go : (a t : Bool) → is_cpu (f m.at).owner ≡ a → ltb m.rest (span_of dir (f m.at) - m.offset) ≡ t
            → Walked k (past dir f n m) (walk dir f n k (past dir f n m)) → Walked (suc k) m (walk dir f n (suc k) m)
        go false t e q ih =
            subst (Walked (suc k) m) (sym (walk-stop dir f n (suc k) m e))
            (stays (suc k) m m h refl refl (omega arith) (omega (arith, run-stop dir f n (suc k) m.at e)) (omega arith) (barred e (inr (refl, refl))))
        go true true e q ih =
            let x : m.rest < span_of dir (f m.at) - m.offset = ltb-true _ _ q in
            let one : suc k - 1 ≡ k = omega arith in
            subst (Walked (suc k) m) (sym (walk-part dir f n (suc k) m (omega arith) e x))
            (stays (suc k) m (inside m) h refl refl (omega arith) (omega (arith, run-go dir f n (suc k) m.at (omega arith) e)) (omega arith) (within (omega arith) e (omega arith)))
        go true false e q ih =
            let x : span_of dir (f m.at) - m.offset ≤ m.rest = ltb-false _ _ q in
            let one : suc k - 1 ≡ k = omega arith in
            subst (Walked (suc k) m) (sym (walk-go dir f n (suc k) m (omega arith) e x ∙ ap (λ (j : ℕ). walk dir f n j (past dir f n m)) one))
            (goes k m (walk dir f n k (past dir f n m)) h l e o x ih)
