-- Trees whose atoms are replaced by trees of the same truth.
use Rattle.std.proofs.Common.{◌≡◌, ℕ, ap, sym, subst, refl, ◌<◌, ◌∙◌, ◌↔◌, nat_eq}
use Rattle.std.proofs.Math.IntN.{ℤ}
use Rattle.logic_meaning.specs.Context.{Context, Fields, Integers, Allowed}
use Rattle.logic_meaning.specs.Point.{Point, Of, move}
use Rattle.logic_meaning.specs.Atom.{Says}
use Rattle.logic_meaning.specs.Tree.{TrueAt}
use Rattle.formula_laws.specs.Laws.{ReplacingKeepsTruth}
use Rattle.formula_laws.proofs.EachAtom.{every_map, every_bound}
use Rattle.formula_laws.proofs.Replacing.{replacing_keeps_truth}
use Rattle.formula_laws.proofs.SamePoint.{allowed_mul}
use Rattle.formula_laws.proofs.Values.{below_move}

-- an allowed move of a point of the theory is one
pub moved_of : (c : Context) (p : Point ℕ) (x : ℕ) (k : ℤ) (m : ℕ) → Of c p → Allowed c m → Of c (move nat_eq p x k m)
moved_of Fields p x k m o a = subst (λ b. 0 < b) (sym (below_move nat_eq p x k m)) (allowed_mul Fields p.below m o a)
moved_of Integers p x k m o a = below_move nat_eq p x k m ∙ allowed_mul Integers p.below m o a

-- one point of the theory, and the same again
record IsOne (c : Context) (p q : Point ℕ) : Type 0 where
  same : p ≡ q
  of : Of c p

pub tree_replacing : ReplacingKeepsTruth
tree_replacing c by f h p o =
    replacing_keeps_truth Says (move nat_eq) Says (move nat_eq) c by (λ x. x) (λ x. Unit {0}) (IsOne c)
    (λ q r x k m a u i. record { same = ap (λ s. move nat_eq s x k m) i.same; of = moved_of c q x k m i.of a }) f
    (every_map _ _ (λ a g q r i. subst (λ (s : Point ℕ). Says a q ↔ TrueAt c (by a) s) i.same (g q i.of)) f h)
    (every_bound (λ x. Unit {0}) (λ x. tt) f) p p (record { same = refl; of = o })
