-- What is written before a part, and the digits of what is left.
use Rattle.bench.specs.Pairs.{digits_of, told}
use Rattle.std.proofs.Common.{◌≡◌, ℕ, ◌/◌, ◌%◌, List, [], ◌∷◌, ◌++◌, length, refl, sym, ap, ◌∙◌, rules, append_assoc, append-nil}
use Rattle.std.proofs.Output.{has_written_append, has_written_of_eq}
use Rattle.std.proofs.lemmas.Bool.{eqb-false}
use Rattle.std.proofs.lemmas.List.{nil_from_length}
use Rattle.bench.specs.Digit.{digit_of}
use Rattle.bench.proofs.pairs.PairsDisplay.fmt.Goals as goal

together : (a b : List ℕ) → digits_of (a ++ b) ≡ digits_of a ++ digits_of b
unfolding digits_of
together [] b = refl
together (x ∷ a) b = ap (λ (t : List ℕ). digit_of (x / 16) ∷ digit_of (x % 16) ∷ t) (together a b)

ended : (bytes before rest : List ℕ) → length rest ≡ 0 → before ++ digits_of rest ≡ digits_of bytes → before ≡ digits_of bytes
unfolding digits_of
ended bytes before rest none e =
    let nil : rest ≡ [] = nil_from_length rest none in
    rw (nil, append-nil) at e

some : (bytes : List ℕ) → (length bytes ≡ 0 → ⊥) → digits_of bytes ≡ told bytes
some [] h = absurd (h refl)
some (b ∷ rest) h = refl

pub loop-part-init : goal.loop-part-init
loop-part-init g c = (search rules, tt, search rules, λ plain. ([], search rules, search rules))

pub loop-part-preserved : goal.loop-part-preserved
loop-part-preserved g c =
    let steps = c.in-Some.ensures.steps in (
      search rules,
      tt,
      steps.0 ∙ c.loop-part.invariant.2,
      λ plain.
          let so_far = c.loop-part.invariant.3 plain in (
            so_far.0 ++ c.spell.result.now,
            has_written_append _ _ _ _ _ _ so_far.1 (search rules),
            append_assoc so_far.0 _ _
                ∙ ap (λ (t : List ℕ). so_far.0 ++ t) (rw c.spell.ensures (sym (together _ _) ∙ ap digits_of (sym steps.1.0)))
                ∙ so_far.2,
          ),
    )

pub returns-clause-writes : goal.returns-clause-writes
returns-clause-writes g c = λ plain _.
    let so_far = c.loop-part.invariant.3 plain in
    let full = eqb-false _ _ (sym c.is_empty.ensures ∙ c.if-is_empty.false) in
    has_written_of_eq _ _ _ _ _ (ended c.args.self.now.0.now so_far.0 _ c.in-None.ensures.steps.1.0 so_far.2 ∙ some _ full) so_far.1
