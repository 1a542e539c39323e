-- A point with one name set anew: its numbers, and which points give the same values.
use Rattle.std.proofs.Common.{◌≡◌, ℕ, Bool, true, false, ap, ap₂, sym, ◌∙◌, subst, refl, arith, List, [], ◌∷◌, inl, inr, nat_eq, eqb-true, eq-eqb, if◌then◌else◌}
use Rattle.std.proofs.Math.IntN.{ℤ, pos, ◌*ℤ◌}
use Rattle.std.proofs.lemmas.Int.{ints}
use Rattle.std.proofs.lemmas.Bool.{cases_eq}
use Rattle.exact_numbers.proofs.Ring.{ring, mul_left_comm, one_mul, mul_one}
use Rattle.logic_meaning.specs.Context.{Context, Allowed}
use Rattle.logic_meaning.specs.Point.{Point, Of, move}
use Rattle.formula_laws.specs.Points.{IsSamePoint}
use Rattle.logic_meaning.specs.Formula.{One, Ex}
use Rattle.logic_meaning.specs.Some.{EachOf}
use Rattle.logic_meaning.specs.Atom.{Atom, Mentions, Says}
use Rattle.logic_meaning.specs.Tree.{Tree, TrueAt}
use Rattle.formula_laws.proofs.Values.{at_move, below_move, pos_mul}
use Rattle.formula_laws.proofs.TreeFiner.{tree_same_point}
use Rattle.formula_laws.proofs.TreeReplacing.{moved_of}
use Rattle.formula_laws.proofs.Equivalence.{one_allowed, absent_moved}
use Rattle.case_theory.specs.Block.{SameValue}

module _ (p : Point ℕ) (x : ℕ) (k : ℤ) (m : ℕ) where
  pub moved_here : (move nat_eq p x k m).at x ≡ k
  moved_here = at_move nat_eq p x k m x ∙ ap (λ (b : Bool). if b then k else pos m *ℤ p.at x) (eq-eqb x x refl)

  pub moved_there : (y : ℕ) → ¬ (x ≡ y) → (move nat_eq p x k m).at y ≡ pos m *ℤ p.at y
  moved_there y n = go (nat_eq x y) refl
    where
      go : (b : Bool) → nat_eq x y ≡ b → (move nat_eq p x k m).at y ≡ pos m *ℤ p.at y
      go true e = absurd (n (eqb-true x y e))
      go false e = at_move nat_eq p x k m y ∙ ap (λ (b : Bool). if b then k else pos m *ℤ p.at y) e

  pub moved_below : pos (move nat_eq p x k m).below ≡ pos p.below *ℤ pos m
  moved_below = ap pos (below_move nat_eq p x k m) ∙ pos_mul p.below m

cross_here : (k l m n b : ℤ) → k *ℤ n ≡ l *ℤ m → k *ℤ (b *ℤ n) ≡ l *ℤ (b *ℤ m)
cross_here k l m n b e = mul_left_comm k b n ∙ ap (λ z. b *ℤ z) e ∙ sym (mul_left_comm l b m)

cross_there : (a m n b : ℤ) → (m *ℤ a) *ℤ (b *ℤ n) ≡ (n *ℤ a) *ℤ (b *ℤ m)
cross_there a m n b = simp ring (omega (arith, ints))

-- a name moved to one value in two ways
pub moved_same : (p : Point ℕ) (x : ℕ) (k l : ℤ) (m n : ℕ) → k *ℤ pos n ≡ l *ℤ pos m → IsSamePoint (move nat_eq p x k m) (move nat_eq p x l n)
moved_same p x k l m n e = record { same_value = λ y. elim (cases_eq x y) [ inl i ↦ subst (SameValue (move nat_eq p x k m) (move nat_eq p x l n)) i here | inr d ↦ there y d ] }
  where
    here : SameValue (move nat_eq p x k m) (move nat_eq p x l n) x
    here =
        ap₂ (λ a b. a *ℤ b) (moved_here p x k m) (moved_below p x l n) ∙ cross_here k l (pos m) (pos n) (pos p.below) e
        ∙ sym (ap₂ (λ a b. a *ℤ b) (moved_here p x l n) (moved_below p x k m))

    there : (y : ℕ) → ¬ (x ≡ y) → SameValue (move nat_eq p x k m) (move nat_eq p x l n) y
    there y d =
        ap₂ (λ a b. a *ℤ b) (moved_there p x k m y d) (moved_below p x l n) ∙ cross_there (p.at y) (pos m) (pos n) (pos p.below)
        ∙ sym (ap₂ (λ a b. a *ℤ b) (moved_there p x l n y d) (moved_below p x k m))

-- a name moved to where it is
pub unmoved_same : (p : Point ℕ) (x : ℕ) → IsSamePoint (move nat_eq p x (p.at x) 1) p
unmoved_same p x = record { same_value = λ y. elim (cases_eq x y) [ inl i ↦ subst (SameValue (move nat_eq p x (p.at x) 1) p) i here | inr d ↦ there y d ] }
  where
    same_below : pos p.below ≡ pos (move nat_eq p x (p.at x) 1).below
    same_below = sym (moved_below p x (p.at x) 1 ∙ mul_one (pos p.below))

    here : SameValue (move nat_eq p x (p.at x) 1) p x
    here = ap₂ (λ a b. a *ℤ b) (moved_here p x (p.at x) 1) same_below

    there : (y : ℕ) → ¬ (x ≡ y) → SameValue (move nat_eq p x (p.at x) 1) p y
    there y d = ap₂ (λ a b. a *ℤ b) (moved_there p x (p.at x) 1 y d ∙ one_mul (p.at y)) same_below

-- what is true at a point exists
pub exists_here : (c : Context) (x : ℕ) (f : Tree) (p : Point ℕ) → Of c p → TrueAt c f p → TrueAt c (Ex x f) p
exists_here c x f p o t = (
  p.at x,
  1,
  one_allowed c,
  (tree_same_point c f (move nat_eq p x (p.at x) 1) p (moved_of c p x (p.at x) 1 o (one_allowed c)) o (unmoved_same p x)).1 t,
)

-- atoms without the name stay true
pub lacking_stays : (c : Context) (ks : List Atom) (p : Point ℕ) (x : ℕ) (k : ℤ) (m : ℕ) → EachOf (λ (a : Atom). ¬ (Mentions a x)) ks → Allowed c m → EachOf (λ a. Says a p) ks → EachOf (λ a. Says a (move nat_eq p x k m)) ks
lacking_stays c [] p x k m n a t = tt
lacking_stays c (h ∷ ks) p x k m n a t = ((absent_moved c (One h) p x k m n.0 a).0 t.0, lacking_stays c ks p x k m n.1 a t.1)
