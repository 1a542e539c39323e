-- Two sentences decided.
use Rattle.std.proofs.Common.{◌≡◌, ℕ, ◌*◌, ap, arith, nat_eq}
use Rattle.std.proofs.Math.IntN.{ℤ, pos, negsuc, ◌+ℤ◌, ◌*ℤ◌}
use Rattle.std.specs.Prelude.{◌<ℤ◌}
use Rattle.std.proofs.lemmas.Int.{ints}
use Rattle.logic_meaning.specs.Context.{Context, Fields, Integers}
use Rattle.logic_meaning.specs.Point.{Point, Of, move}
use Rattle.logic_meaning.specs.Form.{value}
use Rattle.logic_meaning.specs.Formula.{One, Ex}
use Rattle.logic_meaning.specs.Atom.{Compare, Above}
use Rattle.logic_meaning.specs.Tree.{TrueAt}
use Rattle.elimination_theory.specs.FieldsExample.{difference}
use Rattle.formula_laws.proofs.Equivalence.{one_allowed}
use Rattle.formula_laws.proofs.TreeReplacing.{moved_of}
use Rattle.elimination_theory.specs.SentenceExample.{SomeHalfIsDecided, NoneGreatestIsTrue}

half_of : (b : ℕ) → (pos 2 *ℤ pos b +ℤ pos 0) +ℤ negsuc 0 *ℤ pos (b * 2) ≡ pos 0
half_of b = omega (arith, ints)

no_half : (b : ℕ) (k : ℤ) (m : ℕ) → b ≡ 1 → m ≡ 1 → (pos 2 *ℤ k +ℤ pos 0) +ℤ negsuc 0 *ℤ pos (b * m) ≡ pos 0 → ⊥
no_half b k m e f h = let one = ap (λ (n : ℕ). n * m) e in absurd (omega (arith, ints))

pub some_half_decided : SomeHalfIsDecided
unfolding value move
some_half_decided = (
  λ p o. (pos p.below, 2, omega arith, half_of p.below),
  λ p o t. no_half p.below t.0 t.1 o t.2 t.3,
)

-- one more than a, over a denominator b
greater : (a b : ℤ) (m : ℤ) → pos 0 <ℤ b → pos 0 <ℤ ((pos 1 *ℤ (a +ℤ b) +ℤ (negsuc 0 *ℤ (pos 1 *ℤ a) +ℤ pos 0)) +ℤ pos 0 *ℤ m)
greater a b m h = omega (arith, ints)

below_positive : (c : Context) (p : Point ℕ) → Of c p → pos 0 <ℤ pos p.below
below_positive Fields p o = omega (arith, ints)
below_positive Integers p o = omega (arith, ints)

one_more : (c : Context) (p : Point ℕ) → Of c p → pos 0 <ℤ ((pos 1 *ℤ (p.at 1 +ℤ pos p.below) +ℤ (negsuc 0 *ℤ (pos 1 *ℤ p.at 1) +ℤ pos 0)) +ℤ pos 0 *ℤ pos (p.below * 1))
one_more c p o = greater (p.at 1) (pos p.below) (pos (p.below * 1)) (below_positive c p o)

exists_greater : (c : Context) (q : Point ℕ) → Of c q → TrueAt c (Ex 0 (One (Compare Above (difference 0 1)))) q
unfolding value move
exists_greater c q o = (q.at 1 +ℤ pos q.below, 1, one_allowed c, one_more c q o)

pub none_greatest_true : NoneGreatestIsTrue
none_greatest_true c p o = λ k m a. exists_greater c (move nat_eq p 1 k m) (moved_of c p 1 k m o a)
