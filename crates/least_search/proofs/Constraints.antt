-- What a constraint is read as: a tree that is true where its constraint is met.
use Rattle.std.proofs.Common.{◌≡◌, ◌↔◌, ℕ, ◌<◌, [], arith}
use Rattle.std.proofs.Math.IntN.{ℤ, pos, negsuc, ◌*ℤ◌}
use Rattle.std.proofs.lemmas.Int.{ints}
use Rattle.exact_numbers.proofs.Ring.{one_mul, zero_mul}
use Rattle.logic_meaning.specs.Atom.{Relation, Equals, Differs, Below, AtMost, Above, AtLeast, Compare, Congruent}
use Rattle.logic_meaning.specs.Context.{Context}
use Rattle.logic_meaning.specs.Form.{Form, scale, value}
use Rattle.logic_meaning.specs.Formula.{Yes, No, One, Not, And, Or, Impl, Repl, Equiv, Ex, All}
use Rattle.logic_meaning.specs.Point.{Point}
use Rattle.logic_meaning.specs.Tree.{Tree, TrueAt}
use Rattle.formula_laws.proofs.Values.{value_scale}
use Rattle.linear_theory.specs.Meeting.{Meets}
use Rattle.logic_meaning.specs.Farkas.{nothing}
use Rattle.program_meaning.specs.Certificates.{tree_constraint}

-- each relation but <>
abbrev pub Bounds : Relation → Type 0
Bounds Equals = Unit {0}
Bounds Differs = ⊥
Bounds Below = Unit {0}
Bounds AtMost = Unit {0}
Bounds Above = Unit {0}
Bounds AtLeast = Unit {0}

-- the tree is settled, or compares by such a relation
abbrev pub IsBound : Tree → Type 0
IsBound Yes = Unit {0}
IsBound No = Unit {0}
IsBound (One (Compare r f)) = Bounds r
IsBound (One (Congruent b n f)) = ⊥
IsBound (Not f) = ⊥
IsBound (And fs) = ⊥
IsBound (Or fs) = ⊥
IsBound (Impl f g) = ⊥
IsBound (Repl f g) = ⊥
IsBound (Equiv f g) = ⊥
IsBound (Ex x f) = ⊥
IsBound (All x f) = ⊥

value_nothing : (p : Point ℕ) → value nothing p ≡ pos 0
unfolding value
value_nothing p = let z = zero_mul (pos p.below) in omega (arith, ints)

value_one : (p : Point ℕ) → value (record { terms = []; constant = pos 1 }) p ≡ pos p.below
unfolding value
value_one p = let z = one_mul (pos p.below) in omega (arith, ints)

-- the form with the other sign is below 0 where the form is above
value_minus : (f : Form) (p : Point ℕ) → value (scale (negsuc 0) f) p ≡ negsuc 0 *ℤ value f p
value_minus f p = value_scale (negsuc 0) f p

pub meets_constraint : (c : Context) (t : Tree) → IsBound t → (p : Point ℕ) → 0 < p.below → TrueAt c t p ↔ Meets p (tree_constraint t)
meets_constraint c Yes h p b = let z = value_nothing p in (λ k. omega (arith, ints), λ k. tt)
meets_constraint c No h p b = let z = value_one p in (λ k. absurd k, λ k. absurd (omega (arith, ints)))
meets_constraint c (One (Compare Equals f)) h p b = (λ k. k, λ k. k)
meets_constraint c (One (Compare Differs f)) h p b = absurd h
meets_constraint c (One (Compare Below f)) h p b = (λ k. k, λ k. k)
meets_constraint c (One (Compare AtMost f)) h p b = (λ k. k, λ k. k)
meets_constraint c (One (Compare Above f)) h p b = let z = value_minus f p in (λ k. omega (arith, ints), λ k. omega (arith, ints))
meets_constraint c (One (Compare AtLeast f)) h p b = let z = value_minus f p in (λ k. omega (arith, ints), λ k. omega (arith, ints))
meets_constraint c (One (Congruent holds n f)) h p b = absurd h
meets_constraint c (Not f) h p b = absurd h
meets_constraint c (And fs) h p b = absurd h
meets_constraint c (Or fs) h p b = absurd h
meets_constraint c (Impl f g) h p b = absurd h
meets_constraint c (Repl f g) h p b = absurd h
meets_constraint c (Equiv f g) h p b = absurd h
meets_constraint c (Ex x f) h p b = absurd h
meets_constraint c (All x f) h p b = absurd h
