-- Some records from the cursor on handed over one after another, whoever owns them: the ring seen from where the cursor then is.
use Rattle.std.specs.Prelude.{◌≡◌, ℕ, zero, suc, length}
use Rattle.std.proofs.Math.Path.{refl}
use Rattle.std.proofs.Common.{sym, ◌∙◌, ap}
use mathlib.Core.List.{List, [], ◌∷◌, ◌++◌, append_assoc, append-nil, map, map-append, tail}
use Rattle.std.proofs.Math.Seq.{append_snoc}
use Rattle.descriptors.specs.Place.{after, turns}
use Rattle.descriptors.specs.Walk.{hand_over}
use Rattle.descriptors.specs.declared.record.DmaDescriptor.{DmaDescriptor}
use Rattle.descriptors.specs.declared.record.TransferDirection.{TransferDirection}
use Rattle.descriptors.specs.declared.record.TransferDirection.TheVariants.{In, Out}
use Rattle.ring_order.specs.Places.{after-lt}
use Rattle.ring_order.specs.Stores.{shape-hand}
use Rattle.ring_order.specs.View.{Cell, view, hand_c, relink, view-give, view-some}
use Rattle.ring_order.specs.Queue.{Stored, two, bare, bares, bares-relink}

-- g records further on
abbrev pub ahead : ℕ → ℕ → ℕ → ℕ
ahead n zero i = i
ahead n (suc g) i = ahead n g (after n i)

hand-bare : (dir : TransferDirection) (b : List ℕ) (x : Cell) → bare (hand_c dir b (bare x)) ≡ bare (hand_c dir b x)
hand-bare In b x = refl
hand-bare Out b x = refl

hand-same : (dir : TransferDirection) (b : List ℕ) (x y : Cell) → bare x ≡ bare y → bare (hand_c dir b x) ≡ bare (hand_c dir b y)
hand-same dir b x y e = sym (hand-bare dir b x) ∙ ap (λ (z : Cell). bare (hand_c dir b z)) e ∙ hand-bare dir b y

module _ (dir : TransferDirection) (n len : ℕ) (b : List ℕ) where
  -- the ring of ds from record c on shows the cells vs, but for their links
  pub record Shows (ds : List DmaDescriptor) (c : ℕ) (vs : List Cell) : Type 0 where
    pub stored : Stored n len ds b c
    pub seen : bares (view dir n ds b c) ≡ bares vs

  shows-next : (ds : List DmaDescriptor) (c : ℕ) (x : Cell) (ys vs : List Cell) → view dir n ds b c ≡ vs → Shows ds c (x ∷ ys)
      → Shows (hand_over dir n c ds) (after n c) (ys ++ (hand_c dir b x ∷ []))
  shows-next ds c x ys [] v s = absurd (view-some dir n ds b c s.stored.cursor v)
  shows-next ds c x ys (z ∷ vs) v s =
      let t : Stored n len ds b c = s.stored in
      let e : bares (z ∷ vs) ≡ bares (x ∷ ys) = ap bares (sym v) ∙ s.seen in
      let h : bare z ≡ bare x = cc in
      record {
        stored = record { shape = shape-hand dir n len ds c t.shape t.cursor; whole = t.whole; cursor = after-lt n c t.cursor };
        seen =
            ap bares (view-give dir n ds b c t.cursor t.shape.laid.enough (two dir n len ds b c t) z vs v)
            ∙ map-append bare (relink z.idx vs) (hand_c dir b z ∷ [])
            ∙ ap (λ (l : List Cell). l ++ (bare (hand_c dir b z) ∷ [])) (bares-relink z.idx vs ∙ ap tail e)
            ∙ ap (λ (y : Cell). bares ys ++ (y ∷ [])) (hand-same dir b z x h)
            ∙ sym (map-append bare ys (hand_c dir b x ∷ []));
      }

  -- HANDED OVER: the others, then those that were handed over
  pub shows-turned : (run : List Cell) (ds : List DmaDescriptor) (c : ℕ) (rest : List Cell) → Shows ds c (run ++ rest)
      → Shows (turns (hand_over dir n) n (length run) c ds) (ahead n (length run) c) (rest ++ map (hand_c dir b) run)
  unfolding turns
  shows-turned [] ds c rest s = rw (append-nil rest) s
  shows-turned (x ∷ run) ds c rest s =
      rw (← append_snoc rest (hand_c dir b x) (map (hand_c dir b) run))
      (shows-turned run (hand_over dir n c ds) (after n c) (rest ++ (hand_c dir b x ∷ []))
      (rw append_assoc at (shows-next ds c x (run ++ rest) (view dir n ds b c) refl s)))
