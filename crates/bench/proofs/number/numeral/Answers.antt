-- At each digit: it is none, too large for the base, too much, or one more of the number.
use Rattle.bench.specs.Laws.{numeral-end, numeral-none, numeral-bad, numeral-large, numeral-more}
use Rattle.bench.specs.declared.why.Why.TheVariants.{NoNumber, OutOfRange}
use Rattle.std.specs.Option.{ok_or, SomeIff}
use Rattle.std.proofs.Common.{ℕ, ◌≡◌, Option, None, Some, Ok, Err, refl, sym, ◌∙◌, arith}
use Rattle.std.proofs.lemmas.Result.{err_from_is_err_and}
use Rattle.bench.proofs.number.numeral.Goals as goal

module _ {E : Type 0} (e : E) where
  none_of : (o : Option ℕ) (x : E) → ok_or o e ≡ Err x → (o ≡ None) × (x ≡ e)
  none_of None x p = (refl, cc)
  none_of (Some a) x p = absurd cc

  some_of : (o : Option ℕ) (v : ℕ) → ok_or o e ≡ Ok v → o ≡ Some v
  some_of None v p = absurd cc
  some_of (Some a) v p = cc

no_room : (o : Option ℕ) (P : Type 0) (v : ℕ) → o ≡ None → SomeIff o P v → ¬ P
no_room None P v e h = h
no_room (Some x) P v e h = absurd cc

room : (o : Option ℕ) (P : Type 0) (v x : ℕ) → o ≡ Some x → SomeIff o P v → P × (x ≡ v)
room None P v x e h = absurd cc
room (Some y) P v x e h = (h.0, cc)

pub returns-in_err-d : goal.returns-in_err-d
returns-in_err-d c =
    let l = c.loop-b in
    let o = none_of NoNumber c.value_of.result c.in_err-d.field-0.0 (sym c.ok_or.ensures.value ∙ c.in_err-d.was) in
    let p = err_from_is_err_and c.from_residual.result c.from_residual.ensures.1 in
    rw (p.1, p.2, o.1) (sym (l.invariant.same ∙ numeral-none c.args.base l.value c.args.digits.now l.b-index (omega arith) (sym c.value_of.ensures.value ∙ o.0)))

pub returns-then-base-d : goal.returns-then-base-d
returns-then-base-d c =
    let l = c.loop-b in
    let o = some_of NoNumber c.value_of.result c.in_ok-d.field-0 (sym c.ok_or.ensures.value ∙ c.in_ok-d.was) in
    sym (l.invariant.same ∙ numeral-bad c.args.base l.value c.args.digits.now l.b-index (omega arith) c.in_ok-d.field-0 (sym c.value_of.ensures.value ∙ o) c.if-base-d.true)

pub returns-in_err-shifted : goal.returns-in_err-shifted
returns-in_err-shifted c =
    let l = c.loop-b in
    let d = c.in_ok-d.field-0 in
    let o = some_of NoNumber c.value_of.result d (sym c.ok_or.ensures.value ∙ c.in_ok-d.was) in
    let m = none_of OutOfRange c.checked_mul.result c.in_err-shifted.field-0.0 (sym c.ok_or-in-loop-b.ensures.value ∙ c.in_err-shifted.was) in
    let k = no_room _ _ _ m.0 c.checked_mul.ensures in
    let p = err_from_is_err_and c.from_residual-in_err-shifted.result c.from_residual-in_err-shifted.ensures.1 in
    rw (p.1, p.2, m.1) (sym (l.invariant.same ∙ numeral-large c.args.base l.value c.args.digits.now l.b-index (omega arith) d (sym c.value_of.ensures.value ∙ o) c.if-base-d.false (omega (arith, k))))

pub returns-in_err-value : goal.returns-in_err-value
returns-in_err-value c =
    let l = c.loop-b in
    let d = c.in_ok-d.field-0 in
    let o = some_of NoNumber c.value_of.result d (sym c.ok_or.ensures.value ∙ c.in_ok-d.was) in
    let s = some_of OutOfRange c.checked_mul.result c.in_ok-shifted.shifted (sym c.ok_or-in-loop-b.ensures.value ∙ c.in_ok-shifted.was) in
    let m = none_of OutOfRange c.checked_add.result c.in_err-value.field-0.0 (sym c.ok_or-in-loop-b-2.ensures.value ∙ c.in_err-value.was) in
    let j = room _ _ _ _ s c.checked_mul.ensures in
    let k = no_room _ _ _ m.0 c.checked_add.ensures in
    let p = err_from_is_err_and c.from_residual-in_err-value.result c.from_residual-in_err-value.ensures.1 in
    rw (p.1, p.2, m.1) (sym (l.invariant.same ∙ numeral-large c.args.base l.value c.args.digits.now l.b-index (omega arith) d (sym c.value_of.ensures.value ∙ o) c.if-base-d.false (omega (arith, k, j.1))))

pub loop-b-preserved : goal.loop-b-preserved
loop-b-preserved c =
    let l = c.loop-b in
    let d = c.in_ok-d.field-0 in
    let o = some_of NoNumber c.value_of.result d (sym c.ok_or.ensures.value ∙ c.in_ok-d.was) in
    let s = some_of OutOfRange c.checked_mul.result c.in_ok-shifted.shifted (sym c.ok_or-in-loop-b.ensures.value ∙ c.in_ok-shifted.was) in
    let t = some_of OutOfRange c.checked_add.result c.in_ok-value.value (sym c.ok_or-in-loop-b-2.ensures.value ∙ c.in_ok-value.was) in
    let j = room _ _ _ _ s c.checked_mul.ensures in
    let k = room _ _ _ _ t c.checked_add.ensures in
    record {
      small = omega (arith, j.1, k.0, k.1);
      same = rw (k.1, j.1) (l.invariant.same ∙ numeral-more c.args.base l.value c.args.digits.now l.b-index (omega arith) d (sym c.value_of.ensures.value ∙ o) c.if-base-d.false (omega (arith, j.1, k.0)));
    }

pub returns : goal.returns
returns c =
    let l = c.loop-b in
    sym (l.invariant.same ∙ numeral-end c.args.base l.value c.args.digits.now l.b-index (omega arith))
