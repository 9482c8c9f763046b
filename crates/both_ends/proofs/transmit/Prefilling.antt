-- Before `prepare`: what was accepted stands at the buffer's front, and is as much as the prefilled count says.
use Rattle.std.specs.Prelude.{◌≡◌, Bool, true, false, cond, leb, eqb, take, drop, Ok, Err, Some}
use Rattle.std.proofs.Math.Path.{refl, ap, subst}
use Rattle.std.proofs.Common.{sym, ◌∙◌, inl, arith, leb-true, length-append, take-add, length-take-le}
use mathlib.Core.List.{List, [], ◌∷◌, ◌++◌, append-nil, foldl}
use Prim.Native.Nat.{ℕ, ◌+◌, ◌-◌, ◌/◌, ◌%◌, ◌^◌, ◌≤◌, ◌<◌, min}
use Rattle.std.proofs.Math.Decide.{dec_le}
use Rattle.std.proofs.Math.ListN.{length, length-drop}
use Rattle.std.proofs.Math.Seq.{paste, take-length, paste-zero}
use Rattle.std.proofs.lemmas.List.Edits.{length-paste, take-paste}
use Rattle.descriptors.specs.Record.{record_in}
use Rattle.descriptors.specs.Split.{size_of, laid, laid_out}
use Rattle.descriptors.specs.Ring.{Ring, Outcome, refused, record_of, split_sound, fresh, new_of}
use Rattle.descriptors.specs.declared.record.DmaDescriptor.{DmaDescriptor}
use Rattle.descriptors.specs.declared.record.TransferDirection.TheVariants.{Out}
use Rattle.descriptors.specs.declared.refusal.DmaBufError.{DmaBufError}
use Rattle.descriptors.specs.declared.refusal.DmaBufError.TheVariants.{BadState, TooMuch}
use Rattle.ring_order.specs.Lists.{paste-far}
use Rattle.descriptors.specs.laws.Updates.{each-length, each_at}
use Rattle.ring_order.specs.Begin.{new-ready}
use Rattle.ring_order.specs.Shape.{Laid, laid_of, of-laid}
use Rattle.tx_stream.specs.Transmit.{prefilled_by, prefill_of, prefill_into, prefill_offer_of, prefill_commit_of}
use Rattle.ring_order.specs.Tally.{goes-round}
use Rattle.both_ends.specs.Demand3.{World, world, told, called, writes, run, built, Prefill, pre_push, pre_write, pre_commit, prefill}
use Rattle.descriptors.specs.Refusal.{Answer}
use Rattle.both_ends.proofs.Shared.{with_bytes}

-- the tally after m bytes more
pub counts-more : (t m : ℕ) (a s : List ℕ) → t ≡ length a % 2 ^ 32 → length s ≡ m → (t + m) % 2 ^ 32 ≡ length (a ++ s) % 2 ^ 32
counts-more t m a s e l = goes-round t (length a) m (2 ^ 32) e ∙ ap (λ (x : ℕ). x % 2 ^ 32) (sym (length-append a s ∙ ap (λ (x : ℕ). length a + x) l))

-- v at place p of a part of m bytes, as much of it as fits: nothing, or some bytes that end within the part
pub part-written : (b : List ℕ) (s m p : ℕ) (v : List ℕ) (P : List ℕ → Type 0) → P b
    → ((u : List ℕ) → p + length u ≤ m → P (paste b (s + p) u (length u))) → P (paste b (s + p) v (min (length v) (m - p)))
part-written b s m p v P none some = go (dec_le p m)
  where
    go : Dec (p ≤ m) → P (paste b (s + p) v (min (length v) (m - p)))
    go (yes h) =
        let c : ℕ = min (length v) (m - p) in
        let e : length (take c v) ≡ c = length-take-le c v (omega arith) in
        subst P (rw (take-length (take c v), e) refl) (some (take c v) (omega arith))
    go (no h) =
        let e : min (length v) (m - p) ≡ 0 = omega arith in
        subst P (paste-zero b (s + p) v ∙ ap (λ (c : ℕ). paste b (s + p) v c) (sym e)) none

-- ---- the invariant, of a ring of n

module _ (n : ℕ) where
  pub record Filling (w : World) : Type 0 where
    pub count : w.ring.count ≡ n
    pub laid : Laid w.ring.count (length w.bytes) w.ring.descriptors
    pub lengths : (j : ℕ) → j < w.ring.count → (record_of w.ring j).length ≤ (record_of w.ring j).size
    pub room : w.ring.prefilled ≤ length w.bytes
    pub held : w.by_calls ≡ take w.ring.prefilled w.bytes
    pub counts : w.ring.tally ≡ length w.by_calls % 2 ^ 32

  splits : (w : World) → Filling w → split_sound w.ring (length w.bytes) ≡ true
  splits w g = of-laid w.ring (length w.bytes) g.laid g.room

  -- m bytes more of bs, which stand behind the prefilled ones in b'
  more : (w : World) (b' bs : List ℕ) (m : ℕ) → Filling w → w.ring.prefilled + m ≤ length w.bytes → length b' ≡ length w.bytes → m ≤ length bs
      → take (w.ring.prefilled + m) b' ≡ take w.ring.prefilled w.bytes ++ take m bs
      → Filling (called told w record { ring = prefilled_by w.ring m; answer = Ok m } b' bs)
  more w b' bs m g l e h t =
      record {
        count = g.count;
        laid = rw e g.laid;
        lengths = g.lengths;
        room = rw e l;
        held = ap (λ (a : List ℕ). a ++ take m bs) g.held ∙ sym t;
        counts = counts-more w.ring.tally m w.by_calls (take m bs) g.counts (length-take-le m bs h);
      }

  -- a refused call
  nothing-told : (w : World) (bs : List ℕ) (e : DmaBufError) → Filling w → Filling (called told w (refused w.ring (Err e)) w.bytes bs)
  nothing-told w bs e g =
      record {
        count = g.count;
        laid = g.laid;
        lengths = g.lengths;
        room = g.room;
        held = append-nil w.by_calls ∙ g.held;
        counts = rw (append-nil w.by_calls) g.counts;
      }

  push-more : (w : World) (bs : List ℕ) (m : ℕ) → Filling w → m ≤ length bs → w.ring.prefilled + m ≤ length w.bytes
      → Filling (called told w record { ring = prefilled_by w.ring m; answer = Ok m } (paste w.bytes w.ring.prefilled bs m) bs)
  push-more w bs m g h l =
      more w (paste w.bytes w.ring.prefilled bs m) bs m g l (length-paste w.bytes w.ring.prefilled bs m l h) h
      (take-paste w.bytes w.ring.prefilled bs m (omega arith) h)

  push-fills : (w : World) (bs : List ℕ) → Filling w
      → Filling (called told w (prefill_of w.ring (length w.bytes) (length bs)) (prefill_into w.ring w.bytes bs) bs)
  unfolding prefill_of prefill_into
  push-fills w bs g =
      let r : Ring = w.ring in
      let m : ℕ = min (length bs) (length w.bytes - r.prefilled) in
      subst (λ (t : Bool). Filling (called told w (cond t record { ring = prefilled_by r m; answer = Ok m } (refused r (Err BadState))) (cond t (paste w.bytes r.prefilled bs m) w.bytes) bs))
      (sym (splits w g)) (push-more w bs m g (omega arith) (omega (arith, g.room)))

  written-some : (w : World) (p : ℕ) (u : List ℕ) → Filling w → w.ring.prefilled + (p + length u) ≤ length w.bytes
      → Filling (with_bytes w (paste w.bytes (w.ring.prefilled + p) u (length u)))
  written-some w p u g h =
      let e : length (paste w.bytes (w.ring.prefilled + p) u (length u)) ≡ length w.bytes =
      length-paste w.bytes (w.ring.prefilled + p) u (length u) (omega arith) (omega arith) in
      record {
        count = g.count;
        laid = rw e g.laid;
        lengths = g.lengths;
        room = rw e g.room;
        held = g.held ∙ sym (paste-far w.bytes (w.ring.prefilled + p) u 0 w.ring.prefilled (omega arith) (inl (omega arith)));
        counts = g.counts;
      }

  offer-room : (w : World) → Filling w → length (prefill_offer_of w.ring w.bytes) ≡ length w.bytes - w.ring.prefilled
  unfolding prefill_offer_of
  offer-room w g = ap (λ (t : Bool). length (cond t (drop w.ring.prefilled w.bytes) [])) (splits w g) ∙ length-drop w.ring.prefilled w.bytes

  write-fills : (w : World) (p : ℕ) (v : List ℕ) → Filling w → Filling (writes w w.ring.prefilled (length (prefill_offer_of w.ring w.bytes)) p v)
  write-fills w p v g =
      part-written w.bytes w.ring.prefilled (length (prefill_offer_of w.ring w.bytes)) p v
      (λ (b : List ℕ). Filling (with_bytes w b)) g
      (λ u h. written-some w p u g (omega (arith, offer-room w g, g.room)))

  -- ---- a commit

  commit-told : (w : World) (k : ℕ) (t : Bool) → leb k (length w.bytes - w.ring.prefilled) ≡ t → Filling w
      → Filling (called told w (cond t record { ring = prefilled_by w.ring k; answer = Ok k } (refused w.ring (Err TooMuch))) w.bytes (drop w.ring.prefilled w.bytes))
  commit-told w k true e g =
      let h : k ≤ length w.bytes - w.ring.prefilled = leb-true k (length w.bytes - w.ring.prefilled) e in
      more w w.bytes (drop w.ring.prefilled w.bytes) k g (omega (arith, g.room)) refl (rw length-drop h) (take-add w.ring.prefilled k w.bytes)
  commit-told w k false e g = nothing-told w (drop w.ring.prefilled w.bytes) TooMuch g

  commit-fills : (w : World) (k : ℕ) → Filling w → Filling (called told w (prefill_commit_of w.ring (length w.bytes) k) w.bytes (prefill_offer_of w.ring w.bytes))
  unfolding prefill_commit_of prefill_offer_of
  commit-fills w k g =
      subst (λ (t : Bool). Filling (called told w (cond t (cond (leb k (length w.bytes - w.ring.prefilled)) record { ring = prefilled_by w.ring k; answer = Ok k } (refused w.ring (Err TooMuch))) (refused w.ring (Err BadState))) w.bytes (cond t (drop w.ring.prefilled w.bytes) [])))
      (sym (splits w g)) (commit-told w k (leb k (length w.bytes - w.ring.prefilled)) refl g)

  -- ---- any list of prefilling actions

  prefill-fills : (w : World) (a : Prefill) → Filling w → Filling (prefill w a)
  unfolding prefill
  prefill-fills w (pre_push bs) g = push-fills w bs g
  prefill-fills w (pre_write p v) g = write-fills w p v g
  prefill-fills w (pre_commit k) g = commit-fills w k g

  pub prefills-fill : (w : World) (before : List Prefill) → Filling w → Filling (foldl prefill w before)
  prefills-fill w [] g = g
  prefills-fill w (a ∷ more) g = prefills-fill (prefill w a) more (prefill-fills w a g)

-- ---- a ring that is not built accepts nothing

record Barred (w : World) : Type 0 where
  closed : split_sound w.ring (length w.bytes) ≡ false
  nothing : w.by_calls ≡ []

barred-call : (w : World) (o : Outcome (Answer ℕ)) (bs : List ℕ) (e : DmaBufError) → Barred w → o ≡ refused w.ring (Err e) → Barred (called told w o w.bytes bs)
barred-call w o bs e g h = rw h record { closed = g.closed; nothing = append-nil w.by_calls ∙ g.nothing }

barred-offer : (w : World) → Barred w → prefill_offer_of w.ring w.bytes ≡ []
unfolding prefill_offer_of
barred-offer w g = ap (λ (t : Bool). cond t (drop w.ring.prefilled w.bytes) []) g.closed

barred-into : (w : World) (bs : List ℕ) → Barred w → prefill_into w.ring w.bytes bs ≡ w.bytes
unfolding prefill_into
barred-into w bs g = ap (λ (t : Bool). cond t (paste w.bytes w.ring.prefilled bs (min (length bs) (length w.bytes - w.ring.prefilled))) w.bytes) g.closed

barred-push : (w : World) (k : ℕ) → Barred w → prefill_of w.ring (length w.bytes) k ≡ refused w.ring (Err BadState)
unfolding prefill_of
barred-push w k g =
    let m : ℕ = min k (length w.bytes - w.ring.prefilled) in
    ap (λ (t : Bool). cond t record { ring = prefilled_by w.ring m; answer = Ok m } (refused w.ring (Err BadState))) g.closed

barred-commit : (w : World) (k : ℕ) → Barred w → prefill_commit_of w.ring (length w.bytes) k ≡ refused w.ring (Err BadState)
unfolding prefill_commit_of
barred-commit w k g =
    ap (λ (t : Bool). cond t (cond (leb k (length w.bytes - w.ring.prefilled)) record { ring = prefilled_by w.ring k; answer = Ok k } (refused w.ring (Err TooMuch))) (refused w.ring (Err BadState))) g.closed

barred-write : (w : World) (p : ℕ) (v : List ℕ) (m : ℕ) → Barred w → m ≡ 0 → Barred (writes w w.ring.prefilled m p v)
barred-write w p v m g e =
    part-written w.bytes w.ring.prefilled m p v (λ (b : List ℕ). Barred (with_bytes w b)) g
    (λ u h. barred-empty u (omega arith))
  where
    barred-empty : (u : List ℕ) → length u ≡ 0 → Barred (with_bytes w (paste w.bytes (w.ring.prefilled + p) u (length u)))
    barred-empty u z =
        subst (λ (b : List ℕ). Barred (with_bytes w b))
        (paste-zero w.bytes (w.ring.prefilled + p) u ∙ ap (λ (c : ℕ). paste w.bytes (w.ring.prefilled + p) u c) (sym z)) g

barred-prefill : (w : World) (a : Prefill) → Barred w → Barred (prefill w a)
unfolding prefill
barred-prefill w (pre_push bs) g = rw (barred-into w bs g) (barred-call w (prefill_of w.ring (length w.bytes) (length bs)) bs BadState g (barred-push w (length bs) g))
barred-prefill w (pre_write p v) g = barred-write w p v (length (prefill_offer_of w.ring w.bytes)) g (ap length (barred-offer w g))
barred-prefill w (pre_commit k) g = barred-call w (prefill_commit_of w.ring (length w.bytes) k) (prefill_offer_of w.ring w.bytes) BadState g (barred-commit w k g)

barred-prefills : (w : World) (before : List Prefill) → Barred w → Barred (foldl prefill w before)
barred-prefills w [] g = g
barred-prefills w (a ∷ more) g = barred-prefills (prefill w a) more (barred-prefill w a g)

-- ---- the ring that `new` gives

chunk-fits : (n len j : ℕ) → len / n ≤ size_of n len j
unfolding size_of
chunk-fits n len j = go (eqb (j + 1) n)
  where
    go : (t : Bool) → len / n ≤ cond t (len / n + len % n) (len / n)
    go true = omega arith
    go false = omega arith

-- "Transmit also sets every length to chunk, the last included."
laid-length : (ds : List DmaDescriptor) (n len j : ℕ) → n ≤ length ds → j < n → (record_in (laid_out Out n len ds) j).length ≤ (record_in (laid_out Out n len ds) j).size
unfolding laid_out
laid-length ds n len j h l = rw (each_at (laid Out n len) n ds j l h) (chunk-fits n len j)

laid-count : (ds : List DmaDescriptor) (n len : ℕ) → length (laid_out Out n len ds) ≡ length ds
unfolding laid_out
laid-count ds n len = each-length (laid Out n len) n ds

fresh-fills : (r : Ring) (ds : List DmaDescriptor) (n : ℕ) (bytes : List ℕ) → r ≡ fresh (laid_out Out n (length bytes) ds) n → split_sound r (length bytes) ≡ true
    → Filling n (world r bytes (Some 0) [] [] [])
fresh-fills r ds n bytes e h =
    let p : r.prefilled ≡ 0 = ap (λ (x : Ring). x.prefilled) e in
    let (k, i) = laid_of r (length bytes) h in
    let c : r.count ≡ n = ap (λ (x : Ring). x.count) e in
    let m : length r.descriptors ≡ length ds = ap (λ (x : Ring). length x.descriptors) e ∙ laid-count ds n (length bytes) in
    record {
      count = c;
      laid = k;
      lengths = λ j l.
          subst (λ (x : Ring). (record_of x j).length ≤ (record_of x j).size) (sym e) (laid-length ds n (length bytes) j (omega (arith, k.enough)) (omega arith));
      room = i;
      held = ap (λ (x : ℕ). take x bytes) (sym p);
      counts = ap (λ (x : Ring). x.tally) e;
    }

filled_at : (ds : List DmaDescriptor) (n : ℕ) (bytes : List ℕ) → (new_of Out ds n (length bytes)).answer ≡ Ok tt → (before : List Prefill) (t : Bool) → split_sound (new_of Out ds n (length bytes)).ring (length bytes) ≡ t
    → 0 < length (run prefill (built Out ds n bytes) before).by_calls → Filling n (run prefill (built Out ds n bytes) before)
filled_at ds n bytes a before true e h =
    prefills-fill n (built Out ds n bytes) before (fresh-fills (new_of Out ds n (length bytes)).ring ds n bytes (new-ready Out ds n (length bytes) a).ring e)
filled_at ds n bytes a before false e h =
    absurd (omega (arith, ap length (barred-prefills (built Out ds n bytes) before record { closed = e; nothing = refl }).nothing))

-- PREFILLED: at least one byte accepted before `prepare`
pub built-fills : (ds : List DmaDescriptor) (n : ℕ) (bytes : List ℕ) → (new_of Out ds n (length bytes)).answer ≡ Ok tt → (before : List Prefill)
    → 0 < length (run prefill (built Out ds n bytes) before).by_calls → Filling n (run prefill (built Out ds n bytes) before)
built-fills ds n bytes a before h = filled_at ds n bytes a before (split_sound (new_of Out ds n (length bytes)).ring (length bytes)) refl h
