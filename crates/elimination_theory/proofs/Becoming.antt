-- What a formula becomes: equivalents built by and and or, put together from those of its parts.
use Rattle.std.proofs.Common.{ℕ, List, [], ◌∷◌, refl, inl, inr, ⊎_elim}
use Rattle.logic_meaning.specs.Context.{Context}
use Rattle.logic_meaning.specs.Formula.{And, Or, Ex, none, also}
use Rattle.logic_meaning.specs.Every.{EveryOf, FreeInSome}
use Rattle.logic_meaning.specs.Some.{Among}
use Rattle.logic_meaning.specs.Plain.{IsPlain, ArePlain}
use Rattle.logic_meaning.specs.Fold.{folded}
use Rattle.logic_meaning.specs.Atom.{Atom, Mentions}
use Rattle.formula_laws.specs.TheoryAtoms.{AtomIn}
use Rattle.logic_meaning.specs.Tree.{Tree, Trees, IsFree}
use Rattle.formula_laws.specs.Equivalence.{InContext, Equivalent, AreEquivalent}
use Rattle.formula_laws.proofs.Fold.{folded_plain, folded_every, folded_free}
use Rattle.formula_laws.proofs.Equivalence.{equivalent_self, equivalent_then, all_equivalent, some_equivalent, ex_equivalent}
use Rattle.logic_meaning.specs.declared.side.Side.{Side}
use Rattle.elimination_theory.specs.Decided.{IsEliminated, AreEliminated}
use Rattle.logic_meaning.specs.Steps.{normalised, Result, step}
use Rattle.elimination_theory.specs.StepTheorems.{IsNormaliser, trees_left, IsResult}
use Rattle.elimination_theory.proofs.Simple.{simple_from, replaced_plain}
use Rattle.elimination_theory.proofs.OneStep.{folded_equivalent, normalised_equivalent, normalised_names, steps_exact}

module _ (c : Context) where
  pub becomes_itself : (f : Tree) → IsPlain f → InContext c f → IsEliminated c f f
  becomes_itself f plain inside = record { is_plain = plain; in_context = inside; equivalent = equivalent_self c f; names = λ y t. t }

  -- what an equivalent without new names becomes
  pub becomes_from : (f g h : Tree) → Equivalent c f g → ((y : ℕ) → IsFree g y → IsFree f y) → IsEliminated c g h → IsEliminated c f h
  becomes_from f g h e names b = record {
    is_plain = b.is_plain;
    in_context = b.in_context;
    equivalent = equivalent_then c f g h e b.equivalent;
    names = λ y t. names y (b.names y t);
  }

  pub becomes_then : (f g h : Tree) → IsEliminated c f g → IsEliminated c g h → IsEliminated c f h
  becomes_then f g h a b = becomes_from f g h a.equivalent a.names b

  pub becomes_folded : (f g : Tree) → IsEliminated c f g → IsEliminated c f (folded g)
  becomes_folded f g b = record {
    is_plain = folded_plain g b.is_plain;
    in_context = folded_every (AtomIn c) g b.in_context;
    equivalent = equivalent_then c f g (folded g) b.equivalent (folded_equivalent c g);
    names = λ y t. b.names y (folded_free Mentions y g t);
  }

  are_plain : (fs gs : Trees) → AreEliminated c fs gs → ArePlain gs × EveryOf (AtomIn c) gs
  are_plain none none b = (tt, tt)
  are_plain (also f fs) (also g gs) b = let r = are_plain fs gs b.1 in ((b.0.is_plain, r.0), (b.0.in_context, r.1))
  are_plain none (also g gs) b = absurd b
  are_plain (also f fs) none b = absurd b

  are_equivalent : (fs gs : Trees) → AreEliminated c fs gs → AreEquivalent c fs gs
  are_equivalent none none b = tt
  are_equivalent (also f fs) (also g gs) b = (b.0.equivalent, are_equivalent fs gs b.1)
  are_equivalent none (also g gs) b = absurd b
  are_equivalent (also f fs) none b = absurd b

  their_names : (fs gs : Trees) (y : ℕ) → AreEliminated c fs gs → FreeInSome Mentions gs y → FreeInSome Mentions fs y
  their_names none none y b t = t
  their_names (also f fs) (also g gs) y b t = ⊎_elim (λ u. inl (b.0.names y u)) (λ u. inr (their_names fs gs y b.1 u)) t
  their_names none (also g gs) y b t = absurd b
  their_names (also f fs) none y b t = absurd b

  pub becomes_and : (fs gs : Trees) → AreEliminated c fs gs → IsEliminated c (And fs) (And gs)
  becomes_and fs gs b =
      let p = are_plain fs gs b in
      record { is_plain = p.0; in_context = p.1; equivalent = all_equivalent c fs gs (are_equivalent fs gs b); names = λ y t. their_names fs gs y b t }

  pub becomes_or : (fs gs : Trees) → AreEliminated c fs gs → IsEliminated c (Or fs) (Or gs)
  becomes_or fs gs b =
      let p = are_plain fs gs b in
      record { is_plain = p.0; in_context = p.1; equivalent = some_equivalent c fs gs (are_equivalent fs gs b); names = λ y t. their_names fs gs y b t }

  -- a quantifier over what the formula becomes
  pub becomes_ex : (x : ℕ) (f g h : Tree) → IsEliminated c f g → IsEliminated c (Ex x g) h → IsEliminated c (Ex x f) h
  becomes_ex x f g h a b = becomes_from (Ex x f) (Ex x g) h (ex_equivalent c x f g a.equivalent) (λ y t. (t.0, a.names y t.1)) b

  module _ (by : Atom → Tree) (norm : IsNormaliser c by) where
    pub becomes_normalised : (f : Tree) → IsPlain f → InContext c f → IsEliminated c f (normalised by f)
    becomes_normalised f plain inside =
        let p = replaced_plain c by f (λ a i. simple_from c (by a) (norm.atomic a i) (norm.in_context a i)) plain inside in
        record { is_plain = p.0; in_context = p.1; equivalent = normalised_equivalent c by norm f inside; names = λ y t. normalised_names c by norm f y plain inside t }

    module _ (side : Side) (x : ℕ) (f : Tree) (plain : IsPlain f) (inside : InContext c f) where
      left_plain : (rs : List Result) → ((r : Result) → Among rs r → IsResult c x f r) → ArePlain (trees_left rs) × EveryOf (AtomIn c) (trees_left rs)
      left_plain [] each = (tt, tt)
      left_plain (r ∷ rs) each = let h = each r (inl refl) in let t = left_plain rs (λ q m. each q (inr m)) in ((h.is_plain, t.0), (h.in_context, t.1))

      left_names : (rs : List Result) (y : ℕ) → ((r : Result) → Among rs r → IsResult c x f r) → FreeInSome Mentions (trees_left rs) y → IsFree (Ex x f) y
      left_names [] y each t = absurd t
      left_names (r ∷ rs) y each t = ⊎_elim (λ u. (each r (inl refl)).names y u) (λ u. left_names rs y (λ q m. each q (inr m)) u) t

      -- ex(x, f) becomes the disjunction of what a step leaves
      pub becomes_step : IsEliminated c (Ex x f) (Or (trees_left (step c by side x f)))
      becomes_step =
          let e = steps_exact c by side x f norm plain inside in
          let p = left_plain (step c by side x f) e.each in
          record { is_plain = p.0; in_context = p.1; equivalent = e.equivalent; names = λ y t. left_names (step c by side x f) y e.each t }
