-- The walk over the records as they are when a call begins, whoever owns those behind the run: which records it uses up, where it ends,
-- and what it counted.
use Rattle.std.specs.Prelude.{◌≡◌, refl, Bool, true, false, cond, ◌⊎◌, List, [], ◌∷◌, ◌++◌, ltb, length}
use Rattle.std.proofs.Common.{sym, ◌∙◌, ap, subst, inl, inr, arith, ltb-true, ltb-false}
use Prim.Native.Nat.{ℕ, zero, suc, ◌+◌, ◌-◌, ◌≤◌, ◌<◌}
use Rattle.descriptors.specs.Record.{record_in, is_cpu, span_of}
use Rattle.descriptors.specs.Place.{after}
use Rattle.descriptors.specs.Walk.{past, inside, walk}
use Rattle.descriptors.specs.declared.record.Owner.TheVariants.{Cpu, Dma}
use Rattle.descriptors.specs.declared.record.DmaDescriptor.{DmaDescriptor}
use Rattle.descriptors.specs.declared.record.TransferDirection.{TransferDirection}
use Rattle.descriptors.specs.declared.walk.Moved.{Moved}
use Rattle.ring_order.specs.Tests.{bool_cases, test-cpu, test-dma, cpu-test, cpu-not-dma}
use Rattle.ring_order.specs.View.{Cell, cell_in, round}
use Rattle.ring_order.specs.Queue.{owners, Cpus, cpu_run, spans}
use Rattle.ring_order.specs.Give.{walk-dma, walk-cpu}
use Rattle.ring_order.specs.Handing.{ahead}

-- ---- the run

-- records that the CPU owns are in the run
pub run-append : (xs ys : List Cell) → Cpus (owners xs) → cpu_run (xs ++ ys) ≡ xs ++ cpu_run ys
run-append [] ys a = refl
run-append (x ∷ xs) ys a =
    ap (λ (t : Bool). cond t (x ∷ cpu_run (xs ++ ys)) []) (cpu-test x.desc.owner a.0) ∙ ap (λ (l : List Cell). x ∷ l) (run-append xs ys a.1)

-- ---- the walk

-- o bytes into a list of records: none, or inside the first, which the CPU owns
abbrev pub Into : TransferDirection → ℕ → List Cell → Type 0
Into dir o [] = o ≡ 0
Into dir o (x ∷ xs) = (o ≡ 0) ⊎ ((x.desc.owner ≡ Cpu) × (o < span_of dir x.desc))

-- the walk ends inside a record, or with the run
abbrev pub Halts : TransferDirection → ℕ → ℕ → List Cell → Type 0
Halts dir o r [] = o ≡ 0
Halts dir o r (y ∷ ys) = ((y.desc.owner ≡ Cpu) × (o < span_of dir y.desc) × (r ≡ 0)) ⊎ ((y.desc.owner ≡ Dma) × (o ≡ 0))

pub record Reaches (dir : TransferDirection) (n : ℕ) (m m' : Moved) (cells : List Cell) : Type 0 where
  pub used : List Cell
  pub rest : List Cell
  pub parts : cells ≡ used ++ rest
  pub cpus : Cpus (owners used)
  pub at : m'.at ≡ ahead n (length used) m.at
  pub back : m'.back ≡ m.back + length used
  pub counted : m.offset + m.rest ≡ spans dir used + (m'.offset + m'.rest)
  pub halts : Halts dir m'.offset m'.rest rest

into-zero : (dir : TransferDirection) (xs : List Cell) → Into dir 0 xs
into-zero dir [] = refl
into-zero dir (x ∷ xs) = inl refl

into-room : (dir : TransferDirection) (o : ℕ) (x : Cell) (xs : List Cell) → Into dir o (x ∷ xs) → o ≤ span_of dir x.desc
into-room dir o x xs (inl e) = omega arith
into-room dir o x xs (inr (c, h)) = omega arith

into-dma : (dir : TransferDirection) (o : ℕ) (x : Cell) (xs : List Cell) → Into dir o (x ∷ xs) → x.desc.owner ≡ Dma → o ≡ 0
into-dma dir o x xs (inl e) d = e
into-dma dir o x xs (inr (c, h)) d = absurd (cpu-not-dma x.desc.owner c d)

module _ (dir : TransferDirection) (ds : List DmaDescriptor) (b : List ℕ) (n : ℕ) where
  abbrev cells_of : ℕ → ℕ → List Cell
  cells_of k i = round (cell_in dir ds b) n k i

  -- no record is used up
  stays : (m m' : Moved) (x : Cell) (xs : List Cell) → m'.at ≡ m.at → m'.back ≡ m.back → m.offset + m.rest ≡ m'.offset + m'.rest
      → Halts dir m'.offset m'.rest (x ∷ xs) → Reaches dir n m m' (x ∷ xs)
  stays m m' x xs a b c h =
      record { used = []; rest = x ∷ xs; parts = refl; cpus = tt; at = a; back = omega arith; counted = omega arith; halts = h }

  goes : (m m' : Moved) (xs : List Cell) → (record_in ds m.at).owner ≡ Cpu → m.offset ≤ span_of dir (record_in ds m.at) → span_of dir (record_in ds m.at) - m.offset ≤ m.rest
      → Reaches dir n (past dir (record_in ds) n m) m' xs → Reaches dir n m m' (cell_in dir ds b m.at ∷ xs)
  goes m m' xs c o h w =
      record {
        used = cell_in dir ds b m.at ∷ w.used;
        rest = w.rest;
        parts = ap (λ (l : List Cell). cell_in dir ds b m.at ∷ l) w.parts;
        cpus = (c, w.cpus);
        at = w.at;
        back = omega (arith, w.back);
        counted = omega (arith, w.counted);
        halts = w.halts;
      }

  walk-on : (k : ℕ) (m : Moved) (xs : List Cell) → Into dir m.offset (cell_in dir ds b m.at ∷ xs) → is_cpu (record_in ds m.at).owner ≡ true
      → Reaches dir n (past dir (record_in ds) n m) (walk dir (record_in ds) n k (past dir (record_in ds) n m)) xs
      → (t : Bool) → ltb m.rest (span_of dir (record_in ds m.at) - m.offset) ≡ t → Reaches dir n m (walk dir (record_in ds) n (suc k) m) (cell_in dir ds b m.at ∷ xs)
  walk-on k m xs i c ih true e =
      subst (λ (z : Moved). Reaches dir n m z (cell_in dir ds b m.at ∷ xs)) (sym (walk-cpu dir (record_in ds) n k m true c e))
      (stays m (inside m) (cell_in dir ds b m.at) xs refl refl (omega arith)
      (inl (test-cpu (record_in ds m.at).owner c, omega (arith, ltb-true m.rest (span_of dir (record_in ds m.at) - m.offset) e), refl)))
  walk-on k m xs i c ih false e =
      subst (λ (z : Moved). Reaches dir n m z (cell_in dir ds b m.at ∷ xs)) (sym (walk-cpu dir (record_in ds) n k m false c e))
      (goes m (walk dir (record_in ds) n k (past dir (record_in ds) n m)) xs (test-cpu (record_in ds m.at).owner c) (into-room dir m.offset (cell_in dir ds b m.at) xs i)
      (ltb-false m.rest (span_of dir (record_in ds m.at) - m.offset) e) ih)

  walk_at : (k : ℕ) (m : Moved) (xs : List Cell) → Into dir m.offset (cell_in dir ds b m.at ∷ xs)
      → Reaches dir n (past dir (record_in ds) n m) (walk dir (record_in ds) n k (past dir (record_in ds) n m)) xs
      → (is_cpu (record_in ds m.at).owner ≡ true) ⊎ (is_cpu (record_in ds m.at).owner ≡ false) → Reaches dir n m (walk dir (record_in ds) n (suc k) m) (cell_in dir ds b m.at ∷ xs)
  walk_at k m xs i ih (inl c) = walk-on k m xs i c ih (ltb m.rest (span_of dir (record_in ds m.at) - m.offset)) refl
  walk_at k m xs i ih (inr d) =
      subst (λ (z : Moved). Reaches dir n m z (cell_in dir ds b m.at ∷ xs)) (sym (walk-dma dir (record_in ds) n k m d))
      (let o : (record_in ds m.at).owner ≡ Dma = test-dma (record_in ds m.at).owner d in
      stays m m (cell_in dir ds b m.at) xs refl refl refl (inr (o, into-dma dir m.offset (cell_in dir ds b m.at) xs i o)))

  none : (m : Moved) → m.offset ≡ 0 → Reaches dir n m (walk dir (record_in ds) n zero m) []
  unfolding walk
  none m e = record { used = []; rest = []; parts = refl; cpus = tt; at = refl; back = omega arith; counted = omega arith; halts = e }

  pub reaches : (k : ℕ) (m : Moved) → Into dir m.offset (cells_of k m.at) → Reaches dir n m (walk dir (record_in ds) n k m) (cells_of k m.at)
  unfolding round
  reaches zero m i = none m i
  reaches (suc k) m i =
      walk_at k m (cells_of k (after n m.at)) i (reaches k (past dir (record_in ds) n m) (into-zero dir (cells_of k (after n m.at))))
      (bool_cases (is_cpu (record_in ds m.at).owner))
