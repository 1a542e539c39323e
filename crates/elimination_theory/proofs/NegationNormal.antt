-- Negation normal form keeps truth, since truth is decided.
use Rattle.std.proofs.Common.{ℕ, inl, inr, ⊎_elim, ◌↔◌, nat_eq}
use Rattle.logic_meaning.specs.Context.{Context}
use Rattle.logic_meaning.specs.Point.{Point, Of, move}
use Rattle.logic_meaning.specs.Formula.{Yes, No, One, Not, And, Or, Impl, Repl, Equiv, Ex, All, none, also}
use Rattle.logic_meaning.specs.Truth.{AllTrue, SomeTrue}
use Rattle.logic_meaning.specs.Every.{Every, EveryOf}
use Rattle.logic_meaning.specs.NegationNormal.{normal_form, normal_form_of_not, normal_forms, normal_forms_of_not}
use Rattle.logic_meaning.specs.Atom.{Atom, Says}
use Rattle.formula_laws.specs.TheoryAtoms.{AtomIn}
use Rattle.logic_meaning.specs.Tree.{Tree, Trees, TrueAt}
use Rattle.formula_laws.specs.Equivalence.{InContext, IsNegation}
use Rattle.elimination_theory.specs.Decided.{TruthIsDecided, NegationNormalFormKeepsTruth, AllIsNotExNot}
use Rattle.formula_laws.proofs.EachAtom.{every_map, every_both}
use Rattle.formula_laws.proofs.TreeReplacing.{moved_of}
use Rattle.elimination_theory.proofs.AtomsDecided.{IsDecided}

module _ (c : Context) (truth : TruthIsDecided c) where
  pub all_not_ex_not : AllIsNotExNot c
  all_not_ex_not x f p i o = (
    λ t n. n.3 (t n.0 n.1 n.2),
    λ n k m a. ⊎_elim (λ t. t) (λ u. absurd (n (k, m, a, u))) (truth f (move nat_eq p x k m) i (moved_of c p x k m o a)),
  )

  module _ (opposite : Atom → Atom) where
    -- an atom of the theory whose opposite is a negation of it
    abbrev HasNegation : Atom → Type 0
    HasNegation a = AtomIn c a × IsNegation c a (opposite a)

    inside : (f : Tree) → Every HasNegation f → InContext c f
    inside f i = every_map _ _ (λ a h. h.0) f i

    decided : (f : Tree) (p : Point ℕ) → Every HasNegation f → Of c p → IsDecided (TrueAt c f p)
    decided f p i o = truth f p (inside f i) o

    mutual
      normal_true : (f : Tree) (p : Point ℕ) → Every HasNegation f → Of c p → TrueAt c f p ↔ TrueAt c (normal_form opposite f) p
      normal_true Yes p i o = (λ t. t, λ t. t)
      normal_true No p i o = (λ t. t, λ t. t)
      normal_true (One a) p i o = (λ t. t, λ t. t)
      normal_true (Not f) p i o = not_true f p i o
      normal_true (And fs) p i o = all_normal fs p i o
      normal_true (Or fs) p i o = some_normal fs p i o
      normal_true (Impl f g) p i o =
          let a = not_true f p i.0 o in let b = normal_true g p i.1 o in (
            λ t. ⊎_elim (λ u. inr (inl (b.0 (t u)))) (λ n. inl (a.0 n)) (decided f p i.0 o),
            ⊎_elim (λ n t. absurd (a.1 n t)) (⊎_elim (λ u t. b.1 u) absurd),
          )
      normal_true (Repl f g) p i o =
          let a = normal_true f p i.0 o in let b = not_true g p i.1 o in (
            λ t. ⊎_elim (λ u. inl (a.0 (t u))) (λ n. inr (inl (b.0 n))) (decided g p i.1 o),
            ⊎_elim (λ u t. a.1 u) (⊎_elim (λ n t. absurd (b.1 n t)) absurd),
          )
      normal_true (Equiv f g) p i o =
          let a = normal_true f p i.0 o in let b = normal_true g p i.1 o in
          let m = not_true f p i.0 o in let n = not_true g p i.1 o in (
            λ t. ⊎_elim (λ u. inl (a.0 u, (b.0 (t.0 u), tt))) (λ u. inr (inl (m.0 u, (n.0 (λ v. u (t.1 v)), tt)))) (decided f p i.0 o),
            ⊎_elim (λ t. (λ u. b.1 t.1.0, λ u. a.1 t.0)) (⊎_elim (λ t. (λ u. absurd (m.1 t.0 u), λ u. absurd (n.1 t.1.0 u))) absurd),
          )
      normal_true (Ex x f) p i o = (
        λ t. (t.0, t.1, t.2, (normal_true f (move nat_eq p x t.0 t.1) i (moved_of c p x t.0 t.1 o t.2)).0 t.3),
        λ t. (t.0, t.1, t.2, (normal_true f (move nat_eq p x t.0 t.1) i (moved_of c p x t.0 t.1 o t.2)).1 t.3),
      )
      normal_true (All x f) p i o = (
        λ t k m a. (normal_true f (move nat_eq p x k m) i (moved_of c p x k m o a)).0 (t k m a),
        λ t k m a. (normal_true f (move nat_eq p x k m) i (moved_of c p x k m o a)).1 (t k m a),
      )

      not_true : (f : Tree) (p : Point ℕ) → Every HasNegation f → Of c p → ¬ (TrueAt c f p) ↔ TrueAt c (normal_form_of_not opposite f) p
      not_true Yes p i o = (λ n. n tt, λ t n. t)
      not_true No p i o = (λ n. tt, λ t n. n)
      not_true (One a) p i o = let e = i.1 p o in (e.1, e.0)
      not_true (Not f) p i o = let a = normal_true f p i o in (λ n. a.0 (⊎_elim (λ t. t) (λ m. absurd (n m)) (decided f p i o)), λ t n. n (a.1 t))
      not_true (And fs) p i o = not_all fs p i o
      not_true (Or fs) p i o = not_some fs p i o
      not_true (Impl f g) p i o =
          let a = normal_true f p i.0 o in let b = not_true g p i.1 o in (
            λ n. ⊎_elim (λ t. (a.0 t, (b.0 (λ u. n (λ v. u)), tt))) (λ m. absurd (n (λ t. absurd (m t)))) (decided f p i.0 o),
            λ t n. b.1 t.1.0 (n (a.1 t.0)),
          )
      not_true (Repl f g) p i o =
          let a = not_true f p i.0 o in let b = normal_true g p i.1 o in (
            λ n. ⊎_elim (λ t. (a.0 (λ u. n (λ v. u)), (b.0 t, tt))) (λ m. absurd (n (λ t. absurd (m t)))) (decided g p i.1 o),
            λ t n. a.1 t.0 (n (b.1 t.1.0)),
          )
      not_true (Equiv f g) p i o =
          let a = normal_true f p i.0 o in let b = normal_true g p i.1 o in
          let m = not_true f p i.0 o in let n = not_true g p i.1 o in (
            λ e. ⊎_elim
                (λ t. inl (a.0 t, (n.0 (λ u. e (λ v. u, λ v. t)), tt)))
                (λ t. inr (inl (m.0 t, (⊎_elim (λ u. b.0 u) (λ u. absurd (e (λ v. absurd (t v), λ v. absurd (u v)))) (decided g p i.1 o), tt))))
                (decided f p i.0 o),
            ⊎_elim (λ t e. n.1 t.1.0 (e.0 (a.1 t.0))) (⊎_elim (λ t e. m.1 t.0 (e.1 (b.1 t.1.0))) (λ t e. t)),
          )
      not_true (Ex x f) p i o = (
        λ n k m a. (not_true f (move nat_eq p x k m) i (moved_of c p x k m o a)).0 (λ t. n (k, m, a, t)),
        λ t e. (not_true f (move nat_eq p x e.0 e.1) i (moved_of c p x e.0 e.1 o e.2)).1 (t e.0 e.1 e.2) e.3,
      )
      not_true (All x f) p i o = (
        λ n. ⊎_elim
            (λ e. (e.0, e.1, e.2, (not_true f (move nat_eq p x e.0 e.1) i (moved_of c p x e.0 e.1 o e.2)).0 e.3))
            (λ m. absurd (n ((all_not_ex_not x f p (inside f i) o).1 m)))
            (decided (Ex x (Not f)) p i o),
        λ e t. (not_true f (move nat_eq p x e.0 e.1) i (moved_of c p x e.0 e.1 o e.2)).1 e.3 (t e.0 e.1 e.2),
      )

      all_normal : (fs : Trees) (p : Point ℕ) → EveryOf HasNegation fs → Of c p → AllTrue Says (move nat_eq) c fs p ↔ AllTrue Says (move nat_eq) c (normal_forms opposite fs) p
      all_normal none p i o = (λ t. t, λ t. t)
      all_normal (also f fs) p i o =
          let a = normal_true f p i.0 o in let b = all_normal fs p i.1 o in
          (λ t. (a.0 t.0, b.0 t.1), λ t. (a.1 t.0, b.1 t.1))

      some_normal : (fs : Trees) (p : Point ℕ) → EveryOf HasNegation fs → Of c p → SomeTrue Says (move nat_eq) c fs p ↔ SomeTrue Says (move nat_eq) c (normal_forms opposite fs) p
      some_normal none p i o = (λ t. t, λ t. t)
      some_normal (also f fs) p i o =
          let a = normal_true f p i.0 o in let b = some_normal fs p i.1 o in
          (⊎_elim (λ t. inl (a.0 t)) (λ t. inr (b.0 t)), ⊎_elim (λ t. inl (a.1 t)) (λ t. inr (b.1 t)))

      not_all : (fs : Trees) (p : Point ℕ) → EveryOf HasNegation fs → Of c p → ¬ (AllTrue Says (move nat_eq) c fs p) ↔ SomeTrue Says (move nat_eq) c (normal_forms_of_not opposite fs) p
      not_all none p i o = (λ n. n tt, λ t n. t)
      not_all (also f fs) p i o =
          let a = not_true f p i.0 o in let b = not_all fs p i.1 o in (
            λ n. ⊎_elim (λ t. inr (b.0 (λ u. n (t, u)))) (λ m. inl (a.0 m)) (decided f p i.0 o),
            ⊎_elim (λ t n. a.1 t n.0) (λ t n. b.1 t n.1),
          )

      not_some : (fs : Trees) (p : Point ℕ) → EveryOf HasNegation fs → Of c p → ¬ (SomeTrue Says (move nat_eq) c fs p) ↔ AllTrue Says (move nat_eq) c (normal_forms_of_not opposite fs) p
      not_some none p i o = (λ n. tt, λ t n. n)
      not_some (also f fs) p i o =
          let a = not_true f p i.0 o in let b = not_some fs p i.1 o in
          (λ n. (a.0 (λ t. n (inl t)), b.0 (λ t. n (inr t))), λ t. ⊎_elim (a.1 t.0) (b.1 t.1))

  pub negation_normal_keeps_truth : NegationNormalFormKeepsTruth c
  negation_normal_keeps_truth opposite f p i n o =
      let h = every_both _ _ _ (λ a t u. (t, u)) f i n in
      (normal_true opposite f p h o, not_true opposite f p h o)
