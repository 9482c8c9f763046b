-- The ring seen from its cursor: a list of cells, each a record with its number and the bytes that it counts for. Two laws lead from the
-- stored records to the view: one record changed, and the cursor's record handed over. All else is about lists.
use Rattle.std.specs.Prelude.{◌≡◌, ◌≢◌, length, take, drop, get_or, set, Some, Option}
use Rattle.std.proofs.Math.Path.{refl, ap}
use Rattle.std.proofs.Common.{sym, ◌∙◌, zero-lt-suc, arith, length-append}
use mathlib.Core.List.{List, [], ◌∷◌, ◌++◌, tail}
use Prim.Native.Nat.{ℕ, zero, suc, ◌-◌, ◌≤◌, ◌<◌, suc-le-suc}
use Rattle.std.proofs.Math.Seq.{set-append_seam, get_or-append_seam}
use Rattle.descriptors.specs.Record.{record_in, with_next, span_of, handed}
use Rattle.descriptors.specs.Place.{after, before}
use Rattle.descriptors.specs.Walk.{hand_over}
use Rattle.descriptors.specs.declared.record.DmaDescriptor.{DmaDescriptor}
use Rattle.descriptors.specs.declared.record.TransferDirection.{TransferDirection}
use Rattle.descriptors.specs.declared.record.TransferDirection.TheVariants.{In, Out}
use Rattle.ring_order.specs.Places.{place, place-lt, place-inj, place-zero, place_after, place-after-last, after-lt, before-place}
use Rattle.ring_order.specs.Lists.{cons-both, tab, length-tab, get_or-tab, tab-cong, tab-set}
use Rattle.ring_order.specs.Stores.{hand-same, hand-before, hand-other}

pub record Cell : Type 0 where
  pub idx : ℕ
  pub desc : DmaDescriptor
  pub held : List ℕ

-- what a record counts for, as bytes: on receive those that it holds, on transmit its whole part
abbrev pub held_by : TransferDirection → List ℕ → DmaDescriptor → List ℕ
held_by dir b d = take (span_of dir d) (drop d.buffer b)

abbrev pub cell_with : TransferDirection → List ℕ → ℕ → DmaDescriptor → Cell
cell_with dir b i d = record { idx = i; desc = d; held = held_by dir b d }

abbrev pub cell_in : TransferDirection → List DmaDescriptor → List ℕ → ℕ → Cell
cell_in dir ds b i = cell_with dir b i (record_in ds i)

-- what f shows of the next k places from i on
unfoldable pub round : {A : Type 0} → (ℕ → A) → ℕ → ℕ → ℕ → List A
round f n zero i = []
round f n (suc k) i = f i ∷ round f n k (after n i)

-- all n records in ring order, from record c on
abbrev pub view : TransferDirection → ℕ → List DmaDescriptor → List ℕ → ℕ → List Cell
view dir n ds b c = round (cell_in dir ds b) n n c

-- a cell linked to record i, and one handed to the device
abbrev pub link_c : ℕ → Cell → Cell
link_c i x = record { idx = x.idx; desc = with_next (Some i) x.desc; held = x.held }

abbrev pub hand_c : TransferDirection → List ℕ → Cell → Cell
hand_c dir b x = cell_with dir b x.idx (handed dir x.desc)

-- the last of a list linked to i
abbrev pub relink : ℕ → List Cell → List Cell
relink i [] = []
relink i (y ∷ []) = link_c i y ∷ []
relink i (y ∷ z ∷ zs) = y ∷ relink i (z ∷ zs)

-- ---- by places

module _ {A : Type 0} (f : ℕ → A) (n : ℕ) where
  pub round-tab : (k c : ℕ) → c < n → k ≤ n → round f n k c ≡ tab k (λ d. f (place n c d))
  unfolding round
  round-tab zero c hc hk = refl
  round-tab (suc k) c hc hk =
      cons-both (ap f (sym (place-zero n c hc)))
      (round-tab k (after n c) (after-lt n c hc) (omega arith)
      ∙ tab-cong k (λ d. f (place n c (suc d))) (λ d. f (place n (after n c) d)) (λ d h. ap f (place_after n c d hc (omega arith))))

module _ (dir : TransferDirection) (n : ℕ) where
  -- the cell d places from the cursor
  abbrev from : List DmaDescriptor → List ℕ → ℕ → ℕ → Cell
  from ds b c d = cell_in dir ds b (place n c d)

  module _ (ds : List DmaDescriptor) (b : List ℕ) (c : ℕ) (hc : c < n) where
    pub view-tab : view dir n ds b c ≡ tab n (λ d. cell_in dir ds b (place n c d))
    view-tab = round-tab (cell_in dir ds b) n n c hc (omega arith)

    pub view-length : length (view dir n ds b c) ≡ n
    view-length = ap length view-tab ∙ length-tab n (from ds b c)

    -- the cell at the seam of a split view
    pub seam : (p q : List Cell) (x : Cell) → view dir n ds b c ≡ p ++ x ∷ q → (length p < n) × (x ≡ cell_in dir ds b (place n c (length p)))
    seam p q x v =
        let w : tab n (from ds b c) ≡ p ++ x ∷ q = sym view-tab ∙ v in
        let l : length p < n = omega (arith, sym (length-tab n (from ds b c)) ∙ ap length w ∙ length-append p (x ∷ q)) in
        (l, sym (get_or-append_seam p x q x) ∙ ap (λ (l : List Cell). get_or l (length p) x) (sym w) ∙ get_or-tab n (from ds b c) (length p) x l)

    -- a cell that is seen stands at its place, and is the stored record of its number
    pub placed_at : (p q : List Cell) (x : Cell) → view dir n ds b c ≡ p ++ x ∷ q → x.idx ≡ place n c (length p)
    placed_at p q x v = ap (λ (y : Cell). y.idx) (seam p q x v).1

    pub own : (p q : List Cell) (x : Cell) → view dir n ds b c ≡ p ++ x ∷ q → (x.idx < n) × (x ≡ cell_in dir ds b x.idx)
    own p q x v = let (l, e) = seam p q x v in rw e (place-lt n c (length p) hc (omega arith), refl)

    pub cursor-cell : (vs : List Cell) (x : Cell) → view dir n ds b c ≡ x ∷ vs → x ≡ cell_in dir ds b c
    cursor-cell vs x v = rw (place-zero n c hc) at (seam [] vs x v).1

    pub view-some : view dir n ds b c ≡ [] → ⊥
    view-some v = omega (arith, sym view-length ∙ ap length v)

  -- ---- ONE RECORD CHANGED: whatever else was done, if every other cell stays, so does the rest of the view
  view-change-at : (ds es : List DmaDescriptor) (b d : List ℕ) (c : ℕ) → c < n → (p q : List Cell) (x y : Cell) → view dir n ds b c ≡ p ++ x ∷ q → length p < n
      → ((j : ℕ) → j < n → j ≢ place n c (length p) → cell_in dir es d j ≡ cell_in dir ds b j) → cell_in dir es d (place n c (length p)) ≡ y → view dir n es d c ≡ p ++ y ∷ q
  view-change-at ds es b d c hc p q x y v l others same =
      view-tab es d c hc
      ∙ tab-set n (length p) (from ds b c) (from es d c) y
      (λ k hk ne. others (place n c k) (place-lt n c k hc (omega arith)) (λ e. ne (place-inj n c k (length p) hk l e)))
      same
      ∙ ap (λ (t : List Cell). set t (length p) y) (sym (view-tab ds b c hc) ∙ v)
      ∙ set-append_seam p x q y

  pub view-change : (ds es : List DmaDescriptor) (b d : List ℕ) (c : ℕ) → c < n → (p q : List Cell) (x y : Cell) → view dir n ds b c ≡ p ++ x ∷ q
      → ((j : ℕ) → j < n → j ≢ x.idx → cell_in dir es d j ≡ cell_in dir ds b j) → cell_in dir es d x.idx ≡ y → view dir n es d c ≡ p ++ y ∷ q
  view-change ds es b d c hc p q x y v others same =
      let (l, ex) = seam ds b c hc p q x v in
      let ei : x.idx ≡ place n c (length p) = ap (λ (z : Cell). z.idx) ex in
      view-change-at ds es b d c hc p q x y v l (λ j hj ne. others j hj (λ e. ne (e ∙ ei))) (rw ei at same)

-- ---- THE CURSOR'S RECORD HANDED OVER: the view turns by one, and its last cell is linked

tab-give : (k i : ℕ) (f g : ℕ → Cell) (y : Cell) → ((d : ℕ) → d < k → g d ≡ f d) → g k ≡ link_c i (f k) → g (suc k) ≡ y → tab (suc (suc k)) g ≡ relink i (tab (suc k) f) ++ (y ∷ [])
tab-give zero i f g y h e e' = λ j. e j ∷ e' j ∷ []
tab-give (suc k) i f g y h e e' =
    λ j. h 0 (zero-lt-suc k) j ∷ tab-give k i (λ d. f (suc d)) (λ d. g (suc d)) y (λ d l. h (suc d) (suc-le-suc l)) e e' j

held-linked : (dir : TransferDirection) (b : List ℕ) (x : Option ℕ) (d : DmaDescriptor) → held_by dir b (with_next x d) ≡ held_by dir b d
held-linked In b x d = refl
held-linked Out b x d = refl

cell-linked : (dir : TransferDirection) (b : List ℕ) (i c : ℕ) (d : DmaDescriptor) → cell_with dir b i (with_next (Some c) d) ≡ link_c c (cell_with dir b i d)
cell-linked dir b i c d = ap (λ (h : List ℕ). record { idx = i; desc = with_next (Some c) d; held = h }) (held-linked dir b (Some c) d)

module _ (dir : TransferDirection) (n : ℕ) (ds : List DmaDescriptor) (b : List ℕ) (c : ℕ) (hc : c < n) (hl : n ≤ length ds) (two : 2 ≤ n) where
  abbrev es : List DmaDescriptor
  es = hand_over dir n c ds

  module _ (k : ℕ) (en : n ≡ suc (suc k)) where
    turned-other : (d : ℕ) → d < k → cell_in dir es b (place n (after n c) d) ≡ cell_in dir ds b (place n c (suc d))
    turned-other d hd =
        ap (cell_in dir es b) (place_after n c d hc (omega arith))
        ∙ ap (cell_with dir b (place n c (suc d)))
        (hand-other dir n ds c hc hl two (place n c (suc d))
        (λ q. let z : suc d ≡ 0 = place-inj n c (suc d) 0 (omega arith) (omega arith) (q ∙ sym (place-zero n c hc)) in omega arith)
        (λ q. let z : suc d ≡ n - 1 = place-inj n c (suc d) (n - 1) (omega arith) (omega arith) (q ∙ before-place n c hc) in omega arith))

    turned-before : cell_in dir es b (place n (after n c) k) ≡ link_c c (cell_in dir ds b (place n c (suc k)))
    turned-before =
        let e : suc k ≡ n - 1 = omega arith in
        let p : place n c (suc k) ≡ before n c = ap (place n c) e ∙ sym (before-place n c hc) in
        ap (cell_in dir es b) (place_after n c k hc (omega arith) ∙ p)
        ∙ ap (cell_with dir b (before n c)) (hand-before dir n ds c hc hl two)
        ∙ cell-linked dir b (before n c) c (record_in ds (before n c))
        ∙ ap (λ (j : ℕ). link_c c (cell_in dir ds b j)) (sym p)

    turned-cursor : cell_in dir es b (place n (after n c) (suc k)) ≡ hand_c dir b (cell_in dir ds b c)
    turned-cursor =
        let e : suc k ≡ n - 1 = omega arith in
        ap (cell_in dir es b) (ap (place n (after n c)) e ∙ place-after-last n c hc) ∙ ap (cell_with dir b c) (hand-same dir n ds c hc hl two)

    view-give-at : (x : Cell) (vs : List Cell) → view dir n ds b c ≡ x ∷ vs → view dir n es b (after n c) ≡ relink c vs ++ (hand_c dir b (cell_in dir ds b c) ∷ [])
    view-give-at x vs v =
        let w : tab (suc (suc k)) (λ d. cell_in dir ds b (place n c d)) ≡ x ∷ vs =
        ap (λ (m : ℕ). tab m (λ d. cell_in dir ds b (place n c d))) (sym en) ∙ sym (view-tab dir n ds b c hc) ∙ v in
        view-tab dir n es b (after n c) (after-lt n c hc)
        ∙ ap (λ (m : ℕ). tab m (λ d. cell_in dir es b (place n (after n c) d))) en
        ∙ tab-give k c (λ d. cell_in dir ds b (place n c (suc d))) (λ d. cell_in dir es b (place n (after n c) d)) (hand_c dir b (cell_in dir ds b c)) turned-other turned-before turned-cursor
        ∙ ap (λ (t : List Cell). relink c t ++ (hand_c dir b (cell_in dir ds b c) ∷ [])) (ap tail w)

  pub view-give : (x : Cell) (vs : List Cell) → view dir n ds b c ≡ x ∷ vs → view dir n (hand_over dir n c ds) b (after n c) ≡ relink x.idx vs ++ (hand_c dir b x ∷ [])
  view-give x vs v =
      let e : x ≡ cell_in dir ds b c = cursor-cell dir n ds b c hc vs x v in
      rw e (view-give-at (n - 2) (omega arith) x vs v)
