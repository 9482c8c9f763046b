-- What `new` leaves, and the links of `prepare`.
use Rattle.std.specs.Prelude.{◌≡◌, refl, Bool, true, false, cond, List, ℕ, zero, suc, ◌+◌, ◌≤◌, ◌<◌, ltb, length, Ok, Err, Some, None}
use Rattle.std.proofs.Common.{sym, ◌∙◌, ap, subst, suc-le-suc, arith, ltb-false, eq-eqb, ne_eqb, lt-ltb}
use Rattle.std.proofs.Math.Decide.{ℕ_discrete}
use Rattle.descriptors.specs.Record.{record_in, linked, following}
use Rattle.descriptors.specs.Split.{split_of, is_parts, accepts, start_of, size_of, laid, laid_out}
use Rattle.descriptors.specs.Ring.{Ring, Outcome, refused, fresh, new_by, new_of, linked_all, below, split_sound}
use Rattle.descriptors.specs.declared.record.Owner.TheVariants.{Dma}
use Rattle.descriptors.specs.declared.record.DmaDescriptor.{DmaDescriptor}
use Rattle.descriptors.specs.declared.record.TransferDirection.{TransferDirection}
use Rattle.descriptors.specs.declared.record.TransferDirection.TheVariants.{In, Out}
use Rattle.descriptors.specs.declared.refusal.DmaBufError.{DmaBufError}
use Rattle.descriptors.specs.declared.refusal.DmaBufError.TheVariants.{BadState}
use Rattle.descriptors.specs.declared.split.Split.{Split}
use Rattle.descriptors.specs.laws.Updates.{each-length, each_at}
use Rattle.ring_order.specs.Places.{place, place-from-zero}
use Rattle.ring_order.specs.Lists.{tab, tab-cong}
use Rattle.ring_order.specs.Shape.{Laid, of-laid}
use Rattle.ring_order.specs.View.{Cell, cell_in, view, view-tab}
use Rattle.descriptors.specs.Refusal.{Answer}
use Rattle.ring_order.specs.Queue.{Linked}

-- ---- `new`

pub refused-not : (e : DmaBufError) → ◌≡◌ {A = Answer Unit} (Err e) (Ok tt) → ⊥
refused-not e q = let z : ◌≡◌ {A = ℕ} 0 1 = cc in omega arith

module _ (dir : TransferDirection) (ds : List DmaDescriptor) (n len : ℕ) where
  abbrev ready : Outcome (Answer Unit)
  ready = record { ring = fresh (laid_out dir n len ds) n; answer = Ok tt }

  pub record New (o : Outcome (Answer Unit)) (accepted : Bool) : Type 0 where
    pub ring : o.ring ≡ fresh (laid_out dir n len ds) n
    pub parts : accepted ≡ true
    pub enough : n ≤ length ds

  new-some : (t : Bool) → ltb (length ds) n ≡ t → (cond t (refused (fresh ds n) (Err BadState)) ready).answer ≡ Ok tt → New (cond t (refused (fresh ds n) (Err BadState)) ready) true
  new-some true e h = absurd (refused-not BadState h)
  new-some false e h = record { ring = refl; parts = refl; enough = ltb-false (length ds) n e }

  new_by_lem : (s : Answer Split) → (new_by dir ds n len s).answer ≡ Ok tt → New (new_by dir ds n len s) (is_parts s)
  new_by_lem (Ok x) h = new-some (ltb (length ds) n) refl h
  new_by_lem (Err e) h = absurd (refused-not e h)

  -- `new` answered Ready
  pub new-ready : (new_of dir ds n len).answer ≡ Ok tt → New (new_of dir ds n len) (accepts n len)
  unfolding new_of
  new-ready h = new_by_lem (split_of n len) h

  same-laid : (i : ℕ) → n ≤ length ds → i < n → record_in (laid_out dir n len ds) i ≡ laid dir n len i (record_in ds i)
  unfolding laid_out
  same-laid i h l = each_at (laid dir n len) n ds i l h

  length-laid : length (laid_out dir n len ds) ≡ length ds
  unfolding laid_out
  length-laid = each-length (laid dir n len) n ds

  pub laid_out_lem : accepts n len ≡ true → n ≤ length ds → Laid n len (laid_out dir n len ds)
  laid_out_lem a h =
      record {
        accepted = a;
        enough = rw length-laid h;
        start = λ i l. ap (λ (d : DmaDescriptor). d.buffer) (same-laid i h l) ∙ laid-start dir i (record_in ds i);
        room = λ i l. ap (λ (d : DmaDescriptor). d.size) (same-laid i h l) ∙ laid-room dir i (record_in ds i);
      }
    where
      laid-start : (e : TransferDirection) (i : ℕ) (d : DmaDescriptor) → (laid e n len i d).buffer ≡ start_of n len i
      laid-start In i d = refl
      laid-start Out i d = refl

      laid-room : (e : TransferDirection) (i : ℕ) (d : DmaDescriptor) → (laid e n len i d).size ≡ size_of n len i
      laid-room In i d = refl
      laid-room Out i d = refl

  -- the ring that `new` leaves has its split
  pub new_split : (new_of dir ds n len).answer ≡ Ok tt → split_sound (new_of dir ds n len).ring len ≡ true
  new_split h =
      let w = new-ready h in
      ap (λ (r : Ring). split_sound r len) w.ring ∙ of-laid (fresh (laid_out dir n len ds) n) len (laid_out_lem w.parts w.enough) (omega arith)

-- ---- the links of `prepare`

next-inner : (n i : ℕ) → suc i < n → following n i ≡ Some (suc i)
next-inner n i h =
    ap (λ (t : Bool). cond t None (Some (i + 1))) (ne_eqb (i + 1) n (λ e. omega arith)) ∙ ap Some (let z : i + 1 ≡ suc i = omega arith in z)

next_last : (n i : ℕ) → suc i ≡ n → following n i ≡ None
next_last n i h = ap (λ (t : Bool). cond t None (Some (i + 1))) (eq-eqb (i + 1) n (omega arith))

-- a link that `prepare` sets is none or below n
pub following-below : (n i : ℕ) → i < n → below n (following n i) ≡ true
following-below n i h = go (ℕ_discrete (suc i) n)
  where
    go : Dec (suc i ≡ n) → below n (following n i) ≡ true
    go (yes e) = ap (below n) (next_last n i e)
    go (no e) = ap (below n) (next-inner n i (omega arith)) ∙ lt-ltb (suc i) n (omega arith)

module _ (dir : TransferDirection) (n : ℕ) (ds : List DmaDescriptor) (enough : n ≤ length ds) where
  pub linked-record : (i : ℕ) → i < n → record_in (linked_all dir n ds) i ≡ linked dir n i (record_in ds i)
  unfolding linked_all
  linked-record i h = each_at (linked dir n) n ds i h enough

  pub linked-length : length (linked_all dir n ds) ≡ length ds
  unfolding linked_all
  linked-length = each-length (linked dir n) n ds

linked-next : (dir : TransferDirection) (n i : ℕ) (d : DmaDescriptor) → (linked dir n i d).next ≡ following n i
linked-next In n i d = refl
linked-next Out n i d = refl

linked-dma : (dir : TransferDirection) (n i : ℕ) (d : DmaDescriptor) → (linked dir n i d).owner ≡ Dma
linked-dma In n i d = refl
linked-dma Out n i d = refl

-- cells that are the DMA's and lead on in turn are a queue
pub linked-tab : (m : ℕ) (f : ℕ → Cell) → ((d : ℕ) → d < m → (f d).desc.owner ≡ Dma) → ((d : ℕ) → suc d < m → (f d).desc.next ≡ Some (f (suc d)).idx)
    → ((d : ℕ) → suc d ≡ m → (f d).desc.next ≡ None) → Linked (tab m f)
linked-tab zero f o s l = tt
linked-tab (suc zero) f o s l = (o 0 (omega arith), l 0 refl, tt)
linked-tab (suc (suc m)) f o s l = (
  o 0 (omega arith),
  s 0 (omega arith),
  linked-tab (suc m) (λ d. f (suc d)) (λ d h. o (suc d) (suc-le-suc h)) (λ d h. s (suc d) (suc-le-suc h)) (λ d h. l (suc d) (ap suc h)),
)

-- from record 0 on, the records are seen by their numbers
pub view-zero : (dir : TransferDirection) (n : ℕ) (ds : List DmaDescriptor) (b : List ℕ) → 0 < n → view dir n ds b 0 ≡ tab n (cell_in dir ds b)
view-zero dir n ds b h =
    view-tab dir n ds b 0 h ∙ tab-cong n (cell_in dir ds b) (λ d. cell_in dir ds b (place n 0 d)) (λ d l. ap (cell_in dir ds b) (place-from-zero n d l))

-- all are queued, in order
pub linked-view : (dir : TransferDirection) (n : ℕ) (ds : List DmaDescriptor) (b : List ℕ) → 0 < n → n ≤ length ds → Linked (view dir n (linked_all dir n ds) b 0)
linked-view dir n ds b hn hl =
    let e : (i : ℕ) → i < n → record_in (linked_all dir n ds) i ≡ linked dir n i (record_in ds i) = linked-record dir n ds hl in
    subst Linked (sym (view-zero dir n (linked_all dir n ds) b hn))
    (linked-tab n (cell_in dir (linked_all dir n ds) b)
    (λ d h. ap (λ (x : DmaDescriptor). x.owner) (e d h) ∙ linked-dma dir n d (record_in ds d))
    (λ d h. ap (λ (x : DmaDescriptor). x.next) (e d (omega arith)) ∙ linked-next dir n d (record_in ds d) ∙ next-inner n d h)
    (λ d h. ap (λ (x : DmaDescriptor). x.next) (e d (omega arith)) ∙ linked-next dir n d (record_in ds d) ∙ next_last n d h))
