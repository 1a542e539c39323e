-- The height of a resolved formula.
use Rattle.std.proofs.Common.{◌≡◌, ℕ, suc, max, List, Bool, true, false, Option, Some, None, ap, ap₂, refl}
use Rattle.std.specs.Prelude.{unsigned_abs, unwrap_or, Result, Ok, Err}
use Rattle.logic_meaning.specs.Context.{Context}
use Rattle.logic_meaning.specs.Formula.{Formula, Formulas, Yes, No, One, Not, And, Or, Impl, Repl, Equiv, Ex, All, none, also}
use Rattle.logic_meaning.specs.Every.{Every, EveryOf}
use Rattle.logic_meaning.specs.Replaced.{replaced, all_replaced}
use Rattle.logic_meaning.specs.Sizes.{height, greatest_height}
use Rattle.logic_meaning.specs.Tree.{Tree}
use Rattle.logic_meaning.specs.Plain.{IsAtomic}
use Rattle.logic_meaning.specs.Atom as meaning
use Rattle.formula_laws.proofs.EachAtom.{every_all}
use Rattle.normal_atoms.proofs.NormalLaws.{normal_atomic}
use Rattle.language_meaning.specs.declared.tree.Relation.{Relation}
use Rattle.language_meaning.specs.Trees.{WrittenAtom, Compare, Cong, Ncong, Bound}
use Rattle.language_meaning.specs.Value.{relation_of}
use Rattle.logic_meaning.specs.Bindings.{bound_to}
use Rattle.language_meaning.specs.RationalForms.{RationalForm, Missing, formed, formed_difference}
use Rattle.language_meaning.specs.Resolving.{BoundTrees, compared, congruent, resolved_atom}
use Rattle.logic_meaning.specs.Names.{place}
use Rattle.language_meaning.specs.Causes.{atom_in_place}
use Rattle.resolved_formulas.specs.ResolvedLaws.{ResolvingKeepsHeight}

-- replacements of one height make formulas of one height
module _ {A B C N M K : Type 0} (by : A → Formula B M) (with_other : A → Formula C K) (rename : N → M) (rename_other : N → K) where
  mutual
    heights_replaced : (f : Formula A N) → Every (λ a. height (by a) ≡ height (with_other a)) f → height (replaced by rename f) ≡ height (replaced with_other rename_other f)
    heights_replaced Yes h = refl
    heights_replaced No h = refl
    heights_replaced (One a) h = h
    heights_replaced (Not f) h = ap suc (heights_replaced f h)
    heights_replaced (And fs) h = ap suc (all_heights fs h)
    heights_replaced (Or fs) h = ap suc (all_heights fs h)
    heights_replaced (Impl f g) h = ap₂ (λ m n. suc (max m n)) (heights_replaced f h.0) (heights_replaced g h.1)
    heights_replaced (Repl f g) h = ap₂ (λ m n. suc (max m n)) (heights_replaced f h.0) (heights_replaced g h.1)
    heights_replaced (Equiv f g) h = ap₂ (λ m n. suc (max m n)) (heights_replaced f h.0) (heights_replaced g h.1)
    heights_replaced (Ex x f) h = ap suc (heights_replaced f h)
    heights_replaced (All x f) h = ap suc (heights_replaced f h)

    all_heights : (fs : Formulas A N) → EveryOf (λ a. height (by a) ≡ height (with_other a)) fs → greatest_height (all_replaced by rename fs) ≡ greatest_height (all_replaced with_other rename_other fs)
    all_heights none h = refl
    all_heights (also f fs) h = ap₂ (λ m n. max m n) (heights_replaced f h.0) (all_heights fs h.1)

atomic_height : (f : Tree) → IsAtomic f → height f ≡ 1
atomic_height Yes h = refl
atomic_height No h = refl
atomic_height (One a) h = refl
atomic_height (Not f) h = absurd h
atomic_height (And fs) h = absurd h
atomic_height (Or fs) h = absurd h
atomic_height (Impl f g) h = absurd h
atomic_height (Repl f g) h = absurd h
atomic_height (Equiv f g) h = absurd h
atomic_height (Ex x f) h = absurd h
atomic_height (All x f) h = absurd h

compared_height : (c : Context) (rel : Relation) (r : Result RationalForm Missing) → height (compared c rel r) ≡ 1
compared_height c rel (Ok d) = atomic_height _ (normal_atomic c (meaning.Compare (relation_of rel) d.form))
compared_height c rel (Err e) = refl

congruent_height : (c : Context) (b : Bool) (r m : Result RationalForm Missing) → height (congruent c b r m) ≡ 1
congruent_height c b (Ok d) (Ok k) = atomic_height _ (normal_atomic c (meaning.Congruent b (unsigned_abs k.form.constant) d.form))
congruent_height c b (Ok d) (Err e) = refl
congruent_height c b (Err e) m = refl

bound_height : (o : Option Tree) → height (unwrap_or o No) ≡ height (unwrap_or o Yes)
bound_height None = refl
bound_height (Some f) = refl

atom_height : (c : Context) (bound : BoundTrees) (number : List ℕ → ℕ) (a : WrittenAtom) → height (resolved_atom c bound number a) ≡ height (atom_in_place bound a)
atom_height c bound number (Compare rel s t) = compared_height c rel (formed_difference c number s t)
atom_height c bound number (Cong s t m) = congruent_height c true (formed_difference c number s t) (formed c number m)
atom_height c bound number (Ncong s t m) = congruent_height c false (formed_difference c number s t) (formed c number m)
atom_height c bound number (Bound x) = bound_height (bound_to bound x)

pub resolving_keeps_height : ResolvingKeepsHeight
resolving_keeps_height c bound names f =
    heights_replaced (resolved_atom c bound (place names)) (atom_in_place bound) (place names) (λ x. 0) f (every_all (λ a. height (resolved_atom c bound (place names) a) ≡ height (atom_in_place bound a)) (atom_height c bound (place names)) f)
