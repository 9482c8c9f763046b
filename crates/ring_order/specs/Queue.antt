-- The ring from its cursor on: a run of records that the CPU owns, then the queue, which the device goes through. What of a list of
-- cells does not hang on the links, and what the run and the queue are once the first of the run has been handed over.
use Rattle.std.specs.Prelude.{◌≡◌, Bool, true, false, ◌⊎◌, length, take, Some, None, Option}
use Rattle.std.proofs.Math.Path.{refl, ap}
use Rattle.std.proofs.Common.{sym, ◌∙◌, subst, inl, inr, le_refl, arith, length-append, length-take, length-drop}
use Rattle.std.proofs.Math.Bool.{cond}
use mathlib.Core.List.{List, [], ◌∷◌, ◌++◌, append_assoc, append-nil, map, map-append}
use Prim.Native.Nat.{ℕ, zero, suc, ◌+◌, ◌≤◌, ◌<◌}
use Rattle.std.proofs.lemmas.List.{length-map}
use Rattle.descriptors.specs.Record.{record_in, with_next, span_of, is_cpu}
use Rattle.descriptors.specs.Place.{after}
use Rattle.descriptors.specs.Walk.{hand_over, run_bytes, run_data}
use Rattle.descriptors.specs.declared.record.Owner.{Owner}
use Rattle.descriptors.specs.declared.record.Owner.TheVariants.{Cpu, Dma}
use Rattle.descriptors.specs.declared.record.DmaDescriptor.{DmaDescriptor}
use Rattle.descriptors.specs.declared.record.TransferDirection.{TransferDirection}
use Rattle.descriptors.specs.declared.record.TransferDirection.TheVariants.{In, Out}
use Rattle.ring_order.specs.Places.{after-lt}
use Rattle.ring_order.specs.Geometry.{Geometry, within}
use Rattle.ring_order.specs.Shape.{Shape, grounds}
use Rattle.ring_order.specs.Stores.{shape-hand, handed-dma, handed-last}
use Rattle.ring_order.specs.Tests.{cpu-test, dma-test}
use Rattle.ring_order.specs.View.{Cell, cell_in, held_by, round, view, hand_c, relink, own, view-give, view-length}

-- ---- what is read off a list of cells

abbrev pub idxs : List Cell → List ℕ
idxs xs = map (λ (x : Cell). x.idx) xs

abbrev pub owners : List Cell → List Owner
owners xs = map (λ (x : Cell). x.desc.owner) xs

abbrev pub helds : List Cell → List (List ℕ)
helds xs = map (λ (x : Cell). x.held) xs

-- the bytes that a queued record sends
abbrev pub loads : List Cell → List (List ℕ)
loads xs = map (λ (x : Cell). take x.desc.length x.held) xs

abbrev pub join : List (List ℕ) → List ℕ
join [] = []
join (l ∷ ls) = l ++ join ls

abbrev pub cat : List Cell → List ℕ
cat xs = join (helds xs)

pub join-append : (ks ls : List (List ℕ)) → join (ks ++ ls) ≡ join ks ++ join ls
join-append [] ls = refl
join-append (k ∷ ks) ls = ap (λ (r : List ℕ). k ++ r) (join-append ks ls) ∙ sym (append_assoc k (join ks) (join ls))

pub cat-append : (xs ys : List Cell) → cat (xs ++ ys) ≡ cat xs ++ cat ys
cat-append xs ys = ap join (map-append (λ (x : Cell). x.held) xs ys) ∙ join-append (helds xs) (helds ys)

abbrev pub first : List ℕ → Option ℕ
first [] = None
first (i ∷ is) = Some i

-- ---- cells but for their links

abbrev pub bare : Cell → Cell
bare x = record { idx = x.idx; desc = with_next None x.desc; held = x.held }

abbrev pub bares : List Cell → List Cell
bares xs = map bare xs

-- what does not hang on the link is the same of lists that are the same but for their links
module _ {B : Type 0} (g : Cell → B) (h : (x : Cell) → g (bare x) ≡ g x) where
  map-bares : (xs : List Cell) → map g (bares xs) ≡ map g xs
  map-bares [] = refl
  map-bares (x ∷ xs) = λ i. h x i ∷ map-bares xs i

  pub same-bare : (xs ys : List Cell) → bares xs ≡ bares ys → map g xs ≡ map g ys
  same-bare xs ys e = sym (map-bares xs) ∙ ap (map g) e ∙ map-bares ys

module _ (xs ys : List Cell) (e : bares xs ≡ bares ys) where
  pub same-idxs : idxs xs ≡ idxs ys
  same-idxs = same-bare (λ (x : Cell). x.idx) (λ x. refl) xs ys e

  pub same-owners : owners xs ≡ owners ys
  same-owners = same-bare (λ (x : Cell). x.desc.owner) (λ x. refl) xs ys e

  pub same-helds : helds xs ≡ helds ys
  same-helds = same-bare (λ (x : Cell). x.held) (λ x. refl) xs ys e

  pub same-loads : loads xs ≡ loads ys
  same-loads = same-bare (λ (x : Cell). take x.desc.length x.held) (λ x. refl) xs ys e

  pub same_length : length xs ≡ length ys
  same_length = sym (length-map xs bare) ∙ ap length e ∙ length-map ys bare

pub bares-relink : (i : ℕ) (xs : List Cell) → bares (relink i xs) ≡ bares xs
bares-relink i [] = refl
bares-relink i (y ∷ []) = refl
bares-relink i (y ∷ z ∷ zs) = ap (λ (r : List Cell). bare y ∷ r) (bares-relink i (z ∷ zs))

-- ---- the run and the queue

-- the CPU owns each record
abbrev pub Cpus : List Owner → Type 0
Cpus [] = Unit {0}
Cpus (o ∷ os) = (o ≡ Cpu) × Cpus os

-- the DMA owns each record, each leads to the following one, and the last leads nowhere
abbrev pub Linked : List Cell → Type 0
Linked [] = Unit {0}
Linked (y ∷ ys) = (y.desc.owner ≡ Dma) × (y.desc.next ≡ first (idxs ys)) × Linked ys

-- the offset is 0, or inside the first record
abbrev pub Inside : ℕ → List Cell → Type 0
Inside o [] = o ≡ 0
Inside o (x ∷ xs) = (o ≡ 0) ⊎ (o < length x.held)

pub cpus-snoc : (xs : List Cell) (y : Cell) → Cpus (owners xs) → y.desc.owner ≡ Cpu → Cpus (owners (xs ++ (y ∷ [])))
cpus-snoc [] y a c = (c, tt)
cpus-snoc (x ∷ xs) y a c = (a.0, cpus-snoc xs y a.1 c)

pub inside-zero : (xs : List Cell) → Inside 0 xs
inside-zero [] = refl
inside-zero (x ∷ xs) = inl refl

pub inside_snoc : (o : ℕ) (xs : List Cell) (y : Cell) → Inside o xs → Inside o (xs ++ (y ∷ []))
inside_snoc o [] y h = inl h
inside_snoc o (x ∷ xs) y h = h

pub inside-cat : (o : ℕ) (xs : List Cell) → Inside o xs → o ≤ length (cat xs)
inside-cat o [] h = omega arith
inside-cat o (x ∷ xs) (inl h) = omega arith
inside-cat o (x ∷ xs) (inr h) = simp length-append (omega arith)

first-snoc : (i : ℕ) (z : Cell) (zs : List Cell) (y : Cell) → Some z.idx ≡ first (idxs (relink i (z ∷ zs) ++ (y ∷ [])))
first-snoc i z [] y = refl
first-snoc i z (x ∷ zs) y = refl

-- a record that is handed over joins the end of the queue
pub linked-snoc : (x : Cell) → x.desc.owner ≡ Dma → x.desc.next ≡ None → (ys : List Cell) → Linked ys → Linked (relink x.idx ys ++ (x ∷ []))
linked-snoc x o n [] l = (o, n, tt)
linked-snoc x o n (y ∷ []) l = (l.0, refl, (o, n, tt))
linked-snoc x o n (y ∷ z ∷ zs) l = (l.0, l.1 ∙ first-snoc x.idx z zs x, linked-snoc x o n (z ∷ zs) l.2)

-- ---- the run, as the rules of the ring walk through it

abbrev pub cpu_run : List Cell → List Cell
cpu_run [] = []
cpu_run (x ∷ xs) = cond (is_cpu x.desc.owner) (x ∷ cpu_run xs) []

pub cpu-run : (run rest : List Cell) → Cpus (owners run) → Linked rest → cpu_run (run ++ rest) ≡ run
cpu-run [] [] a l = refl
cpu-run [] (y ∷ ys) a l = ap (λ (t : Bool). cond t (y ∷ cpu_run ys) []) (dma-test y.desc.owner l.0)
cpu-run (x ∷ xs) rest a l =
    ap (λ (t : Bool). cond t (x ∷ cpu_run (xs ++ rest)) []) (cpu-test x.desc.owner a.0) ∙ ap (λ (r : List Cell). x ∷ r) (cpu-run xs rest a.1 l)

abbrev pub spans : TransferDirection → List Cell → ℕ
spans dir [] = 0
spans dir (x ∷ xs) = span_of dir x.desc + spans dir xs

cat-cond : (t : Bool) (x : Cell) (xs : List Cell) → cond t (x.held ++ cat xs) [] ≡ cat (cond t (x ∷ xs) [])
cat-cond true x xs = refl
cat-cond false x xs = refl

spans-cond : (dir : TransferDirection) (t : Bool) (x : Cell) (xs : List Cell) → cond t (span_of dir x.desc + spans dir xs) 0 ≡ spans dir (cond t (x ∷ xs) [])
spans-cond dir true x xs = refl
spans-cond dir false x xs = refl

module _ (dir : TransferDirection) (ds : List DmaDescriptor) (b : List ℕ) (n : ℕ) where
  pub data-run : (k i : ℕ) → run_data dir (record_in ds) b n k i ≡ cat (cpu_run (round (cell_in dir ds b) n k i))
  unfolding run_data round
  data-run zero i = refl
  data-run (suc k) i =
      ap (λ (r : List ℕ). cond (is_cpu (record_in ds i).owner) (held_by dir b (record_in ds i) ++ r) []) (data-run k (after n i))
      ∙ cat-cond (is_cpu (record_in ds i).owner) (cell_in dir ds b i) (cpu_run (round (cell_in dir ds b) n k (after n i)))

  pub bytes_run : (k i : ℕ) → run_bytes dir (record_in ds) n k i ≡ spans dir (cpu_run (round (cell_in dir ds b) n k i))
  unfolding run_bytes round
  bytes_run zero i = refl
  bytes_run (suc k) i =
      ap (λ (r : ℕ). cond (is_cpu (record_in ds i).owner) (span_of dir (record_in ds i) + r) 0) (bytes_run k (after n i))
      ∙ spans-cond dir (is_cpu (record_in ds i).owner) (cell_in dir ds b i) (cpu_run (round (cell_in dir ds b) n k (after n i)))

-- ---- a ring in two parts

-- the stored records and bytes, and where the cursor is
pub record Stored (n len : ℕ) (ds : List DmaDescriptor) (b : List ℕ) (c : ℕ) : Type 0 where
  pub shape : Shape n len ds
  pub whole : length b ≡ len
  pub cursor : c < n

pub record Parted (dir : TransferDirection) (n len : ℕ) (ds : List DmaDescriptor) (b : List ℕ) (c o : ℕ) (run rest : List Cell) : Type 0 where
  pub stored : Stored n len ds b c
  pub seen : view dir n ds b c ≡ run ++ rest
  pub cpus : Cpus (owners run)
  pub linked : Linked rest
  pub offset : Inside o run

module _ (dir : TransferDirection) (n len : ℕ) (ds : List DmaDescriptor) (b : List ℕ) (c : ℕ) where
  pub ground : Stored n len ds b c → Geometry n len
  ground s = grounds n len ds s.shape.laid

  pub two : Stored n len ds b c → 2 ≤ n
  two s = omega (arith, (ground s).many)

  span-room : (d : DmaDescriptor) → d.length ≤ d.size → span_of dir d ≤ d.size
  span-room d h = go dir
    where
      go : (e : TransferDirection) → span_of e d ≤ d.size
      go In = h
      go Out = le_refl d.size

  held-span : Stored n len ds b c → (i : ℕ) → i < n → length (held_by dir b (record_in ds i)) ≡ span_of dir (record_in ds i)
  held-span s i h =
      simp (length-take, length-drop)
      (omega (arith, span-room (record_in ds i) (s.shape.lengths i h), s.shape.laid.start i h, s.shape.laid.room i h, within n len (ground s) i h, s.whole))

  -- a cell that is seen has as many bytes as it counts for
  pub exact : Stored n len ds b c → (p q : List Cell) (x : Cell) → view dir n ds b c ≡ p ++ x ∷ q → length x.held ≡ span_of dir x.desc
  exact s p q x v = let (h, e) = own dir n ds b c s.cursor p q x v in rw e (held-span s x.idx h)

  spans-cat : Stored n len ds b c → (p xs q : List Cell) → view dir n ds b c ≡ p ++ (xs ++ q) → spans dir xs ≡ length (cat xs)
  spans-cat s p [] q v = refl
  spans-cat s p (x ∷ xs) q v =
      simp length-append (omega (arith, exact s p (xs ++ q) x v, spans-cat s (p ++ (x ∷ [])) xs q (v ∙ sym (append_assoc p (x ∷ []) (xs ++ q)))))

  module _ (o : ℕ) (run rest : List Cell) (s : Parted dir n len ds b c o run rest) where
    -- the bytes of the run are those that the rules show
    pub run-data : run_data dir (record_in ds) b n n c ≡ cat run
    run-data = data-run dir ds b n n c ∙ ap (λ (v : List Cell). cat (cpu_run v)) s.seen ∙ ap cat (cpu-run run rest s.cpus s.linked)

    pub run-bytes : run_bytes dir (record_in ds) n n c ≡ length (cat run)
    run-bytes =
        bytes_run dir ds b n n c ∙ ap (λ (v : List Cell). spans dir (cpu_run v)) s.seen ∙ ap (spans dir) (cpu-run run rest s.cpus s.linked)
        ∙ spans-cat s.stored [] run rest s.seen

    pub parts-length : length run + length rest ≡ n
    parts-length = sym (length-append run rest) ∙ ap length (sym s.seen) ∙ view-length dir n ds b c s.stored.cursor

-- ---- the first of the run handed over

-- the run after a record has left it: with an empty queue its last record was linked to the one handed over
abbrev pub after-give : ℕ → List Cell → List Cell → List Cell
after-give i [] run = relink i run
after-give i (y ∷ ys) run = run

pub bares-after : (i : ℕ) (rest run : List Cell) → bares (after-give i rest run) ≡ bares run
bares-after i [] run = bares-relink i run
bares-after i (y ∷ ys) run = refl

relink-append : (i : ℕ) (xs : List Cell) (y : Cell) (ys : List Cell) → relink i (xs ++ y ∷ ys) ≡ xs ++ relink i (y ∷ ys)
relink-append i [] y ys = refl
relink-append i (x ∷ []) y ys = refl
relink-append i (x ∷ z ∷ zs) y ys = ap (λ (r : List Cell). x ∷ r) (relink-append i (z ∷ zs) y ys)

relink-parts : (i : ℕ) (run rest : List Cell) (y : Cell) → relink i (run ++ rest) ++ (y ∷ []) ≡ after-give i rest run ++ (relink i rest ++ (y ∷ []))
relink-parts i run [] y = rw (append-nil run)
relink-parts i run (z ∷ zs) y =
    ap (λ (r : List Cell). r ++ (y ∷ [])) (relink-append i run z zs) ∙ append_assoc run (relink i (z ∷ zs)) (y ∷ [])

-- THE FIRST OF THE RUN JOINS THE QUEUE
pub give-parted : (dir : TransferDirection) (n len : ℕ) (ds : List DmaDescriptor) (b : List ℕ) (c o : ℕ) (x : Cell) (run rest : List Cell)
    → Parted dir n len ds b c o (x ∷ run) rest
    → Parted dir n len (hand_over dir n c ds) b (after n c) 0 (after-give x.idx rest run) (relink x.idx rest ++ (hand_c dir b x ∷ []))
give-parted dir n len ds b c o x run rest s =
    let t : Stored n len ds b c = s.stored in
    record {
      stored = record { shape = shape-hand dir n len ds c t.shape t.cursor; whole = t.whole; cursor = after-lt n c t.cursor };
      seen = view-give dir n ds b c t.cursor t.shape.laid.enough (two dir n len ds b c t) x (run ++ rest) s.seen
          ∙ relink-parts x.idx run rest (hand_c dir b x);
      cpus = subst Cpus (sym (same-owners (after-give x.idx rest run) run (bares-after x.idx rest run))) s.cpus.1;
      linked = linked-snoc (hand_c dir b x) (handed-dma dir x.desc) (handed-last dir x.desc) rest s.linked;
      offset = inside-zero (after-give x.idx rest run);
    }
