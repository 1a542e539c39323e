-- Where a normal formula has a congruence, a point of the theory has the denominator 1.
use Rattle.std.proofs.Common.{◌≡◌, ⊎_elim, sym, ap, subst, ◌∙◌, arith, unsigned_abs}
use Rattle.std.proofs.Math.IntN.{ℤ, pos}
use Rattle.std.proofs.lemmas.Int.{ints}
use Rattle.std.specs.Prelude.{◌<ℤ◌}
use Rattle.logic_meaning.specs.Context.{Context, Fields, Integers, IsDenominator}
use Rattle.logic_meaning.specs.Formula.{Formula, Formulas, Yes, No, One, Not, And, Or, Impl, Repl, Equiv, Ex, All, none, also}
use Rattle.logic_meaning.specs.Every.{Every, EveryOf}
use Rattle.logic_meaning.specs.Atom.{Congruent}
use Rattle.logic_meaning.specs.Sizes.{subtrees, all_subtrees}
use Rattle.logic_meaning.specs.Some.{Among}
use Rattle.logic_meaning.specs.Tree.{Tree}
use Rattle.formula_laws.proofs.Listed.{among_append}
use Rattle.logic_meaning.specs.NormalForm.{IsNormal}
use Rattle.formula_store.specs.Truths.{IsWholeWhereAsked}

module _ {A N : Type 0} (P : A → Type 0) (a : A) where
  mutual
    among_every : (f : Formula A N) → Every P f → Among (subtrees f) (One a) → P a
    among_every Yes h m = ⊎_elim (λ e. absurd (cc)) absurd m
    among_every No h m = ⊎_elim (λ e. absurd (cc)) absurd m
    among_every (One b) h m = ⊎_elim (λ e. let p : b ≡ a = cc in subst P p h) absurd m
    among_every (Not f) h m = ⊎_elim (λ e. absurd (cc)) (λ n. among_every f h n) m
    among_every (And fs) h m = ⊎_elim (λ e. absurd (cc)) (λ n. among_every_of fs h n) m
    among_every (Or fs) h m = ⊎_elim (λ e. absurd (cc)) (λ n. among_every_of fs h n) m
    among_every (Impl f g) h m = ⊎_elim (λ e. absurd (cc)) (λ n. ⊎_elim (λ i. among_every f h.0 i) (λ i. among_every g h.1 i) (among_append (subtrees f) (subtrees g) (One a) n)) m
    among_every (Repl f g) h m = ⊎_elim (λ e. absurd (cc)) (λ n. ⊎_elim (λ i. among_every f h.0 i) (λ i. among_every g h.1 i) (among_append (subtrees f) (subtrees g) (One a) n)) m
    among_every (Equiv f g) h m = ⊎_elim (λ e. absurd (cc)) (λ n. ⊎_elim (λ i. among_every f h.0 i) (λ i. among_every g h.1 i) (among_append (subtrees f) (subtrees g) (One a) n)) m
    among_every (Ex x f) h m = ⊎_elim (λ e. absurd (cc)) (λ n. among_every f h n) m
    among_every (All x f) h m = ⊎_elim (λ e. absurd (cc)) (λ n. among_every f h n) m

    among_every_of : (fs : Formulas A N) → EveryOf P fs → Among (all_subtrees fs) (One a) → P a
    among_every_of none h m = absurd m
    among_every_of (also f fs) h m = ⊎_elim (λ i. among_every f h.0 i) (λ i. among_every_of fs h.1 i) (among_append (subtrees f) (all_subtrees fs) (One a) m)

abs_is : (d : ℤ) → pos 0 <ℤ d → pos (unsigned_abs d) ≡ d
abs_is d h = omega (arith, ints, h)

-- over the fields no congruence stands in a normal formula, and over the integers the denominator is 1
pub whole_where_asked : (c : Context) (t : Tree) (d : ℤ) → Every (IsNormal c) t → pos 0 <ℤ d → IsDenominator c (unsigned_abs d) → IsWholeWhereAsked t d
whole_where_asked Fields t d normal h of b n e m = absurd (among_every (IsNormal Fields) (Congruent b n e) t normal m)
whole_where_asked Integers t d normal h of b n e m = let one : unsigned_abs d ≡ 1 = of in sym (abs_is d h) ∙ ap pos one
