-- An array of records in a local: it is the row of its records, of which the first k can be lent as a slice, and it is whole again once they are back.
use mathlib.Core.Path.{◌≡◌, refl, sym, ◌∙◌, subst}
use Prim.Native.Nat.{ℕ, ◌+◌, ◌≤◌}
use mathlib.Core.List.{[], ◌∷◌, List, map, ◌++◌}
use lib.ListN.{length, length-map, take, drop, take-append-drop}
use lib.Seq.{length-take-le}
use seplogic.Ra.Ura.{Ura}
use base.Fraction.{full_share}
use mir.Syntax.{Ty}
use mir.Val.{Val}
use base.Logic.{ent, sep, guard}
use base.Fml.{fsep, fat}
use types.Logic.{Logic, sem}
use types.Kit.{‵, ◌⊛◌, ◌$◌, ◌∵◌, !, qed, by, move, drop as let_go, use1, use2, split, check, rewrite, fsplit, fjoin, fpick, fpack, feq_i, done}
use types.SemTy.{SemTy, cells, Arr}
use types.Share.{arr_parts}
use denote.RattleType.{RattleType}
use denote.Shadow.{shadow}
use denote.Laws.{Is, Tells, Lawful, shows}
use denote.Memory.{mem, cell_at, part_at, part_of, shares, lone}
use denote.Array.{Array, array_val, each, Array-Tells, Array-Lawful, Array-Makes}
use denote.ArrayMemory.{Array-apart, Array-whole}
use denote.Index.{row, place, whole_out, whole_in}
use denote.Steps.{owned, facts, nothing}
use denote.Struct.Steps.{spelt}
use denote.Struct.Field.{array_field}
use denote.Struct.Laws as LL
use Rattle.descriptors.specs.declared.record.DmaDescriptor.{DmaDescriptor}
use Rattle.descriptors.specs.contracts.record.DmaDescriptor as D
use Rattle.descriptors.proofs.record.DmaDescriptor.TheLaws as D'
use Rattle.lent.specs.List.{room}

abbrev R : RattleType
R = D.the_row

-- the array as one type: its MIR type, and its machine value
abbrev pub Rs : RattleType
Rs = Array R room

abbrev pub τ : Ty
τ = lone Rs.mir

abbrev pub arr : List DmaDescriptor → Val
arr xs = array_val (map (LL.val D.the_type D'.the_laws) xs)

pub its-tells : Tells Rs (Is Rs) (λ xs. arr xs ∷ [])
its-tells = Array-Tells R (LL.vals D.the_type D'.the_laws) (LL.tells D.the_type D'.the_laws) room

pub its-lawful : {M : Type 1} {𝓤 : Ura M} (𝓛 : Logic 𝓤) → Lawful 𝓛 Rs
its-lawful 𝓛 = Array-Lawful 𝓛 R (LL.lawful D.the_type D'.the_laws 𝓛) room

pub its-length : (xs : List DmaDescriptor) (vs : List Val) → Is Rs xs vs → length xs ≡ room
its-length xs vs g = g.1.0.1

-- ---- as a field of a struct an array is a list of tuples, and not of records: the ways between the two
abbrev RF : RattleType
RF = Array (D.the_field).row room

abbrev LF : LL.FLaws (array_field D.the_field room)
LF = LL.array_laws D.the_field D'.the_field_laws room

abbrev pub tuples : List DmaDescriptor → List (D.the_field).row.Denot
tuples = map (D.the_field).into

abbrev pub held : List DmaDescriptor → Val
held xs = LF.val (tuples xs)

each-out : (xs : List DmaDescriptor) (us : List Val) → shadow (each (D.the_field).row.Denot (D.the_field).row.own_val (tuples xs) us) → shadow (each DmaDescriptor R.own_val xs us)
each-out [] [] g = g
each-out [] (u ∷ us) g = g
each-out (x ∷ xs) [] g = g
each-out (x ∷ xs) (u ∷ us) g = (g.0, each-out xs us g.1)

each_in : (xs : List DmaDescriptor) (us : List Val) → shadow (each DmaDescriptor R.own_val xs us) → shadow (each (D.the_field).row.Denot (D.the_field).row.own_val (tuples xs) us)
each_in [] [] g = g
each_in [] (u ∷ us) g = g
each_in (x ∷ xs) [] g = g
each_in (x ∷ xs) (u ∷ us) g = (g.0, each_in xs us g.1)

pub from_field : (xs : List DmaDescriptor) (vs : List Val) → Is RF (tuples xs) vs → Is Rs xs vs
from_field xs vs g = (g.0, ((g.1.0.0, sym (length-map xs (D.the_field).into) ∙ g.1.0.1), each-out xs g.0 g.1.1))

to-field : (xs : List DmaDescriptor) (vs : List Val) → Is Rs xs vs → Is RF (tuples xs) vs
to-field xs vs g = (g.0, ((g.1.0.0, length-map xs (D.the_field).into ∙ g.1.0.1), each_in xs g.0 g.1.1))

-- the array's machine value is the field's
pub as-field : (xs : List DmaDescriptor) → Is Rs xs (arr xs ∷ []) → arr xs ∷ [] ≡ held xs ∷ []
as-field xs g = LF.tells (tuples xs) _ (to-field xs _ g)

pub field_is : (xs : List DmaDescriptor) → Is Rs xs (arr xs ∷ []) → Is RF (tuples xs) (held xs ∷ [])
field_is xs g = subst (Is RF (tuples xs)) (as-field xs g) (to-field xs _ g)

pub spelled : (xs : List DmaDescriptor) (vs : List Val) → Is Rs xs vs → Is Rs xs (arr xs ∷ [])
spelled xs vs g = subst (Is Rs xs) (its-tells xs vs g) g

-- ---- a row in two parts
abbrev pub seam : ℕ → ℕ
seam k = place (mem R).size 0 k

module _ {M : Type 1} {𝓤 : Ura M} (𝓛 : Logic 𝓤) where
  open 𝓛 use {H}

  apart : (T : SemTy) (ys zs : List T.rep) (b o : ℕ) → ent 𝓤 (sem 𝓛 (cells T (ys ++ zs) b o)) (sep 𝓤 (sem 𝓛 (cells T ys b o)) (sem 𝓛 (cells T zs b (place T.size o (length ys)))))
  apart T [] zs b o = qed 𝓛 (‵ (cells T zs b o) ∷ []) ∵ nothing ! $ done !
  apart T (y ∷ ys) zs b o =
      qed 𝓛 (‵ (cells T (y ∷ (ys ++ zs)) b o) ∷ []) ∵ fsplit ! $ move ! (1 ∷ []) $
      use1 𝓛 (‵ (cells T ys b (o + T.size)) ⊛ ‵ (cells T zs b (place T.size (o + T.size) (length ys)))) (apart T ys zs b (o + T.size)) $ split ! $ move ! (2 ∷ 0 ∷ []) $ fjoin ! $ done !

  together : (T : SemTy) (ys zs : List T.rep) (b o : ℕ) → ent 𝓤 (sep 𝓤 (sem 𝓛 (cells T ys b o)) (sem 𝓛 (cells T zs b (place T.size o (length ys))))) (sem 𝓛 (cells T (ys ++ zs) b o))
  together T [] zs b o = qed 𝓛 (‵ (cells T [] b o) ∷ ‵ (cells T zs b o) ∷ []) ∵ let_go ! $ done !
  together T (y ∷ ys) zs b o =
      qed 𝓛 (‵ (cells T (y ∷ ys) b o) ∷ ‵ (cells T zs b (place T.size (o + T.size) (length ys))) ∷ []) ∵ fsplit ! $ move ! (1 ∷ 2 ∷ []) $
      use2 𝓛 (‵ (cells T (ys ++ zs) b (o + T.size))) (together T ys zs b (o + T.size)) $ move ! (1 ∷ 0 ∷ []) $ done !

  -- ---- the local's cell
  module _ (b : ℕ) where
    whole_row : (xs : List DmaDescriptor) → Is Rs xs (arr xs ∷ []) → ent 𝓤 (H.at full_share τ b 0 (arr xs)) (sem 𝓛 (cells (mem R) xs b 0))
    unfolding part_of
    whole_row xs is =
        qed 𝓛 (‵ (fat full_share τ b 0 (arr xs)) ∷ []) ∵ use1 𝓛 (‵ (cell_at full_share Rs.mir (arr xs ∷ []) b 0)) (𝓛.laws.at_raw full_share τ b 0 (arr xs)) $
        owned ! Rs (Is Rs) (Array-Makes 𝓛 R (LL.makes D.the_type D'.the_plain 𝓛) room) xs _ is $ move ! (1 ∷ 0 ∷ []) $ fjoin ! $ fpack ! (List Val) (λ us. fsep (cell_at full_share Rs.mir us b 0) (Rs.own_val xs us)) (arr xs ∷ []) $
        use1 𝓛 (‵ ((arr_parts (shares R) room).part full_share xs b 0)) (Array-apart 𝓛 R full_share tt room xs b 0) $ fsplit ! $ let_go ! $ by ! (whole_in 𝓛 R xs b 0)

    whole-cell : (xs : List DmaDescriptor) → length xs ≡ room → ent 𝓤 (sem 𝓛 (cells (mem R) xs b 0)) (guard 𝓤 (Is Rs xs (arr xs ∷ [])) (H.at full_share τ b 0 (arr xs)))
    unfolding part_of
    whole-cell xs l =
        qed 𝓛 (‵ (cells (mem R) xs b 0) ∷ []) ∵ use1 𝓛 (‵ (row R full_share xs b 0)) (whole_out 𝓛 R xs b 0) $ feq_i ! ℕ (length xs) room l $ fjoin ! $
        use1 𝓛 (‵ (part_at Rs full_share xs b 0)) (Array-whole 𝓛 R full_share room xs b 0) $ fpick ! (λ vs. fsplit ! $ spelt ! Rs (Is Rs) (shows 𝓛 Rs) (λ d. arr d ∷ []) its-tells full_share xs vs b 0 $
        move ! (1 ∷ []) $ facts ! Rs (Is Rs) (shows 𝓛 Rs) xs (arr xs ∷ []) (λ g. use1 𝓛 (‵ (fat full_share τ b 0 (arr xs))) (𝓛.laws.raw_at full_share τ b 0 (arr xs)) $ check ! g $ done !))

    -- the first k records, and the others
    pub lies_in : (k : ℕ) (xs : List DmaDescriptor) → k ≤ length xs → Is Rs xs (arr xs ∷ []) → ent 𝓤 (H.at full_share τ b 0 (arr xs)) (sep 𝓤 (sem 𝓛 (cells (mem R) (take k xs) b 0)) (sem 𝓛 (cells (mem R) (drop k xs) b (seam k))))
    lies_in k xs l is =
        qed 𝓛 (‵ (fat full_share τ b 0 (arr xs)) ∷ []) ∵ use1 𝓛 (‵ (cells (mem R) xs b 0)) (whole_row xs is) $ rewrite ! 0 (λ (ys : List DmaDescriptor). ‵ (cells (mem R) ys b 0)) (sym (take-append-drop k xs)) refl $
        use1 𝓛 (‵ (cells (mem R) (take k xs) b 0) ⊛ ‵ (cells (mem R) (drop k xs) b (seam (length (take k xs))))) (apart (mem R) (take k xs) (drop k xs) b 0) $ split ! $
        rewrite ! 1 (λ (m : ℕ). ‵ (cells (mem R) (drop k xs) b (seam m))) (length-take-le k xs l) refl $ done !

    pub lies_out : (k m : ℕ) (ys zs : List DmaDescriptor) → length ys ≡ k → length (ys ++ zs) ≡ room
        → ent 𝓤 (sep 𝓤 (sem 𝓛 ((Arr (mem R) m).own_at ys b 0)) (sem 𝓛 (cells (mem R) zs b (seam k)))) (guard 𝓤 (Is Rs (ys ++ zs) (arr (ys ++ zs) ∷ [])) (H.at full_share τ b 0 (arr (ys ++ zs))))
    lies_out k m ys zs l all =
        qed 𝓛 (‵ ((Arr (mem R) m).own_at ys b 0) ∷ ‵ (cells (mem R) zs b (seam k)) ∷ []) ∵ fsplit ! $ let_go ! $ rewrite ! 1 (λ (j : ℕ). ‵ (cells (mem R) zs b (seam j))) (sym l) refl $
        use2 𝓛 (‵ (cells (mem R) (ys ++ zs) b 0)) (together (mem R) ys zs b 0) $ by ! (whole-cell (ys ++ zs) all)
