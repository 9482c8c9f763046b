-- g records handed over from c on: what each record is then, but for its link.
use Prim.Native.Nat.{ℕ, zero, suc, ◌+◌, ◌-◌, ◌≤◌, ◌<◌}
use Rattle.std.specs.Prelude.{◌≡◌, ◌≢◌, length, take, drop, None}
use Rattle.std.proofs.Math.Path.{refl, sym, ap}
use Rattle.std.proofs.Common.{◌∙◌}
use Rattle.std.proofs.Math.Bool.{false, cond}
use mathlib.Core.List.{List, [], ◌++◌}
use native.Mathlib.Omega.{arith}
use Rattle.std.proofs.Math.Decide.{ℕ_discrete}
use Rattle.descriptors.specs.Record.{record_in, is_cpu, span_of, handed, with_next}
use Rattle.descriptors.specs.Place.{after, before, turns}
use Rattle.descriptors.specs.Walk.{run_data, hand_over}
use Rattle.descriptors.specs.declared.record.Owner.{Owner}
use Rattle.descriptors.specs.declared.record.DmaDescriptor.{DmaDescriptor}
use Rattle.descriptors.specs.declared.record.TransferDirection.{TransferDirection}
use Rattle.descriptors.specs.declared.record.TransferDirection.TheVariants.{In, Out}
use Rattle.ring_order.specs.Places.{place, place-inj, place-zero, place_after, after-place, place-after-last, after-lt}
use Rattle.ring_order.specs.Tests.{dma-test}
use Rattle.ring_order.specs.Shape.{Shape}
use Rattle.ring_order.specs.Stores.{hand-same, hand-before, hand-other, handed-dma, hand-length, shape-hand}

-- a record without its link
abbrev pub bare : DmaDescriptor → DmaDescriptor
bare d = with_next None d

handed-bare : (dir : TransferDirection) (d : DmaDescriptor) → bare (handed dir d) ≡ handed dir (bare d)
handed-bare In d = refl
handed-bare Out d = refl

span-bare : (dir : TransferDirection) (d : DmaDescriptor) → span_of dir d ≡ span_of dir (bare d)
span-bare In d = refl
span-bare Out d = refl

pub bare-owner : (d e : DmaDescriptor) → bare d ≡ bare e → d.owner ≡ e.owner
bare-owner d e h = ap (λ (x : DmaDescriptor). x.owner) h

pub bare-span : (dir : TransferDirection) (d e : DmaDescriptor) → bare d ≡ bare e → span_of dir d ≡ span_of dir e
bare-span dir d e h = span-bare dir d ∙ ap (span_of dir) h ∙ sym (span-bare dir e)

-- all the way round
pub place-round : (n c : ℕ) → c < n → place n c n ≡ c
place-round n c h =
    let z : suc (n - 1) ≡ n = omega arith in
    ap (place n c) (sym z) ∙ sym (place_after n c (n - 1) h (omega arith)) ∙ place-after-last n c h

module _ (dir : TransferDirection) (n : ℕ) (two : 2 ≤ n) where
  hand-bare : (ds : List DmaDescriptor) (c j : ℕ) → c < n → n ≤ length ds → j ≢ c → bare (record_in (hand_over dir n c ds) j) ≡ bare (record_in ds j)
  hand-bare ds c j hc hl ne = go (ℕ_discrete j (before n c))
    where
      go : Dec (j ≡ before n c) → bare (record_in (hand_over dir n c ds) j) ≡ bare (record_in ds j)
      go (yes e) = rw e (ap bare (hand-before dir n ds c hc hl two))
      go (no nb) = ap bare (hand-other dir n ds c hc hl two j ne nb)

  -- the records from c on: the first g are handed over, the others stay
  record After (g c : ℕ) (ds : List DmaDescriptor) : Type 0 where
    gone : (d : ℕ) → d < g → bare (record_in (turns (hand_over dir n) n g c ds) (place n c d)) ≡ handed dir (bare (record_in ds (place n c d)))
    kept : (d : ℕ) → g ≤ d → d < n → bare (record_in (turns (hand_over dir n) n g c ds) (place n c d)) ≡ bare (record_in ds (place n c d))

  -- one more, in front
  module _ (g c : ℕ) (ds : List DmaDescriptor) (hc : c < n) (hg : suc g ≤ n) (hl : n ≤ length ds) (ih : After g (after n c) (hand_over dir n c ds)) where
    -- a record past the first was not handed over with it
    next : (d : ℕ) → suc d < n → bare (record_in (hand_over dir n c ds) (place n (after n c) d)) ≡ bare (record_in ds (place n c (suc d)))
    next d l =
        ap (λ (p : ℕ). bare (record_in (hand_over dir n c ds) p)) (place_after n c d hc (omega arith))
        ∙ hand-bare ds c (place n c (suc d)) hc hl (λ e. absurd (let z : suc d ≡ 0 = place-inj n c (suc d) 0 l (omega arith) (e ∙ sym (place-zero n c hc)) in omega arith))

    more-gone : (d : ℕ) → d < suc g → bare (record_in (turns (hand_over dir n) n (suc g) c ds) (place n c d)) ≡ handed dir (bare (record_in ds (place n c d)))
    unfolding turns
    more-gone zero l =
        ap (λ (p : ℕ). bare (record_in (turns (hand_over dir n) n g (after n c) (hand_over dir n c ds)) p)) (place-zero n c hc ∙ sym (place-after-last n c hc))
        ∙ ih.kept (n - 1) (omega arith) (omega arith)
        ∙ ap (λ (p : ℕ). bare (record_in (hand_over dir n c ds) p)) (place-after-last n c hc)
        ∙ ap bare (hand-same dir n ds c hc hl two)
        ∙ handed-bare dir (record_in ds c)
        ∙ ap (λ (p : ℕ). handed dir (bare (record_in ds p))) (sym (place-zero n c hc))
    more-gone (suc d) l =
        ap (λ (p : ℕ). bare (record_in (turns (hand_over dir n) n g (after n c) (hand_over dir n c ds)) p)) (sym (place_after n c d hc (omega arith)))
        ∙ ih.gone d (omega arith)
        ∙ ap (handed dir) (next d (omega arith))

    more-kept : (d : ℕ) → suc g ≤ d → d < n → bare (record_in (turns (hand_over dir n) n (suc g) c ds) (place n c d)) ≡ bare (record_in ds (place n c d))
    unfolding turns
    more-kept zero l h = absurd (omega arith)
    more-kept (suc d) l h =
        ap (λ (p : ℕ). bare (record_in (turns (hand_over dir n) n g (after n c) (hand_over dir n c ds)) p)) (sym (place_after n c d hc (omega arith)))
        ∙ ih.kept d (omega arith) (omega arith)
        ∙ next d h

  handed-over : (g c : ℕ) (ds : List DmaDescriptor) → c < n → g ≤ n → n ≤ length ds → After g c ds
  handed-over zero c ds hc hg hl = record { gone = λ d l. absurd (omega arith); kept = λ d l h. unfold turns in refl }
  handed-over (suc g) c ds hc hg hl =
      let ih = handed-over g (after n c) (hand_over dir n c ds) (after-lt n c hc) (omega arith) (omega (arith, hand-length dir n c ds)) in
      record { gone = more-gone g c ds hc hg hl ih; kept = more-kept g c ds hc hg hl ih }

  pub gone : (g c : ℕ) (ds : List DmaDescriptor) → c < n → g ≤ n → n ≤ length ds → (d : ℕ) → d < g
      → is_cpu (record_in (turns (hand_over dir n) n g c ds) (place n c d)).owner ≡ false
  gone g c ds hc hg hl d l =
      dma-test _ (ap (λ (x : DmaDescriptor). x.owner) ((handed-over g c ds hc hg hl).gone d l) ∙ handed-dma dir (bare (record_in ds (place n c d))))

  pub kept : (g c : ℕ) (ds : List DmaDescriptor) → c < n → g ≤ n → n ≤ length ds → (d : ℕ) → g ≤ d → d < n
      → bare (record_in (turns (hand_over dir n) n g c ds) (place n c d)) ≡ bare (record_in ds (place n c d))
  kept g c ds hc hg hl = (handed-over g c ds hc hg hl).kept

  pub turns-shape : (len g c : ℕ) (ds : List DmaDescriptor) → c < n → Shape n len ds → Shape n len (turns (hand_over dir n) n g c ds)
  unfolding turns
  turns-shape len zero c ds hc s = s
  turns-shape len (suc g) c ds hc s = turns-shape len g (after n c) (hand_over dir n c ds) (after-lt n c hc) (shape-hand dir n len ds c s hc)

-- ---- the bytes of the run, afterwards

module _ (dir : TransferDirection) (n : ℕ) (b : List ℕ) (c : ℕ) (hc : c < n) where
  parts-step : (o o' : Owner) (a a' p p' : ℕ) (x y : List ℕ) → o ≡ o' → a ≡ a' → p ≡ p' → x ≡ y
      → cond (is_cpu o) (take a (drop p b) ++ x) [] ≡ cond (is_cpu o') (take a' (drop p' b) ++ y) []
  parts-step o o' a a' p p' x y h i j q = rw (h, i, j, q) refl

  data-step : (d e : DmaDescriptor) (x y : List ℕ) → bare d ≡ bare e → x ≡ y
      → cond (is_cpu d.owner) (take (span_of dir d) (drop d.buffer b) ++ x) [] ≡ cond (is_cpu e.owner) (take (span_of dir e) (drop e.buffer b) ++ y) []
  data-step d e x y h q = parts-step d.owner e.owner _ _ _ _ x y (bare-owner d e h) (bare-span dir d e h) (ap (λ (z : DmaDescriptor). z.buffer) h) q

  -- two readings that agree at the next k places
  data-like : (f g : ℕ → DmaDescriptor) (k e : ℕ) → e + k ≤ n → ((d : ℕ) → e ≤ d → d < n → bare (f (place n c d)) ≡ bare (g (place n c d)))
      → run_data dir f b n k (place n c e) ≡ run_data dir g b n k (place n c e)
  unfolding run_data
  data-like f g zero e h s = refl
  data-like f g (suc k) e h s =
      data-step (f (place n c e)) (g (place n c e)) _ _ (s e (omega arith) (omega arith))
      (rw (after-place n c e hc (omega arith)) (data-like f g k (suc e) (omega arith) (λ d l m. s d (omega arith) m)))

  -- a record of the device's ends the run, however many may follow
  data-cut : (f : ℕ → DmaDescriptor) (q k e : ℕ) → e + k ≤ n → is_cpu (f (place n c (e + k))).owner ≡ false
      → run_data dir f b n (k + q) (place n c e) ≡ run_data dir f b n k (place n c e)
  unfolding run_data
  data-cut f q zero e h s =
      let z : e + 0 ≡ e = omega arith in
      let y : 0 + q ≡ q = omega arith in
      rw y (stop q (rw z at s))
    where
      stop : (q : ℕ) → is_cpu (f (place n c e)).owner ≡ false → run_data dir f b n q (place n c e) ≡ []
      stop zero w = refl
      stop (suc q) w = rw w
  data-cut f q (suc k) e h s =
      let z : suc k + q ≡ suc (k + q) = omega arith in
      let y : e + suc k ≡ suc e + k = omega arith in
      rw z
      (ap (λ (x : List ℕ). cond (is_cpu (f (place n c e)).owner) (take (span_of dir (f (place n c e))) (drop (f (place n c e)).buffer b) ++ x) [])
      (rw (after-place n c e hc (omega arith)) (data-cut f q k (suc e) (omega arith) (rw y at s))))

  -- g records handed over: the run from the next one on is what it was, up to those that went
  pub data-after : (ds : List DmaDescriptor) (g : ℕ) → 2 ≤ n → g ≤ n → n ≤ length ds
      → run_data dir (record_in (turns (hand_over dir n) n g c ds)) b n n (place n c g) ≡ run_data dir (record_in ds) b n (n - g) (place n c g)
  data-after ds zero two hg hl =
      let z : n ≡ n - 0 = omega arith in
      data-like _ _ n 0 (omega arith) (λ d l h. kept dir n two 0 c ds hc hg hl d l h) ∙ ap (λ (k : ℕ). run_data dir (record_in ds) b n k (place n c 0)) z
  data-after ds (suc g) two hg hl =
      let f = record_in (turns (hand_over dir n) n (suc g) c ds) in
      let z : n ≡ n - suc g + suc g = omega arith in
      let y : suc g + (n - suc g) ≡ n = omega arith in
      ap (λ (k : ℕ). run_data dir f b n k (place n c (suc g))) z
      ∙ data-cut f (suc g) (n - suc g) (suc g) (omega arith)
      (ap (λ (p : ℕ). is_cpu (f p).owner) (ap (place n c) y ∙ place-round n c hc ∙ sym (place-zero n c hc)) ∙ gone dir n two (suc g) c ds hc hg hl 0 (omega arith))
      ∙ data-like f (record_in ds) (n - suc g) (suc g) (omega arith) (λ d l h. kept dir n two (suc g) c ds hc hg hl d l h)
