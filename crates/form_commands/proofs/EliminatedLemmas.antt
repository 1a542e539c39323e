-- Formulas that an elimination gives are formulas of the session.
use Rattle.std.proofs.Common.{◌≡◌, inl, inr, ⊎_elim, ℕ, ◌<◌, ◌≤◌, List, refl, sym, subst, arith}
use Rattle.std.proofs.lemmas.Bool.{cases_eq, cases_lt}
use Rattle.logic_meaning.specs.Context.{Context}
use Rattle.logic_meaning.specs.Formula.{Formula, Formulas, Yes, No, One, Not, And, Or, Impl, Repl, Equiv, Ex, All}
use Rattle.logic_meaning.specs.Formula as plain
use Rattle.logic_meaning.specs.Every.{Every, EveryOf, EveryBound, EveryBoundOf, FreeInSome}
use Rattle.logic_meaning.specs.Atom.{Atom, Mentions}
use Rattle.logic_meaning.specs.NegationNormal.{normal_form}
use Rattle.logic_meaning.specs.Shape.{IsQuantifierFree, AreQuantifierFree}
use Rattle.logic_meaning.specs.Plain.{IsPlain, ArePlain, IsNegationNormal, AreNegationNormal}
use Rattle.formula_laws.proofs.EachAtom.{every_map}
use Rattle.formula_laws.proofs.NormalShape.{normal_form_shape, normal_form_every, normal_form_quantifier_free}
use Rattle.logic_meaning.specs.Tree.{Tree, Trees, IsFree}
use Rattle.formula_laws.specs.Equivalence.{Equivalent}
use Rattle.elimination_theory.specs.Theorems.{IsAnswerTo, IsBranching, AreBranching}
use Rattle.logic_meaning.specs.NormalForm.{IsNormal, negated_normal}
use Rattle.normal_atoms.proofs.NormalLaws.{negated_normal_is}
use Rattle.shape_theory.specs.Orderly.{IsOrderly, AreOrderly}
use Rattle.shape_theory.specs.AtomKit.{atom_kit}
use Rattle.shape_theory.specs.Simplifiable.{simplified_under, IsSimplifiable}
use Rattle.shape_theory.proofs.Bound.{simplified_bound, free_bound, orderly_free}
use Rattle.formula_laws.specs.Within.{IsAtomWithin}
use Rattle.logic_meaning.specs.Members.{HasTwoMembers, HaveTwoMembers}
use Rattle.shape_theory.specs.CleanFormsLaws.{IsNoLonger}
use Rattle.logic_meaning.specs.Clean.{IsCleanForm}
use Rattle.logic_meaning.specs.PlainForms.{plain_form}
use Rattle.shape_theory.proofs.FormShapes.{form_free}
use Rattle.theory_simplifier.proofs.Assuming.{orderly_normal}
use Rattle.logic_meaning.specs.Sizes.{nodes}
use Rattle.formula_store.specs.declared.id.FormulaId.{FormulaId}
use Rattle.formula_tree.specs.declared.error.FormError.{FormError}
use Rattle.form_commands.specs.declared.error.FormsError.{FormsError}
use Rattle.std.specs.Prelude.{Result, Ok, Err, IfOk}
use Rattle.session_state.specs.Keeping.{IsSessionFormula}
use Rattle.logic_meaning.specs.declared.junction.Junction.{Junction}
use Rattle.form_commands.specs.Forms.{IsSimplifiedAs, IsCleanedAs}
use Rattle.session_state.proofs.SoundLemmas.{atom_within, atom_mentions, members_of_negation}

module _ {A N : Type 0} where
  mutual
    -- a formula of and, or, atoms and constants has no quantifier
    pub plain_free : (f : Formula A N) → IsPlain f → IsQuantifierFree f
    plain_free Yes h = tt
    plain_free No h = tt
    plain_free (One a) h = tt
    plain_free (Not f) h = absurd h
    plain_free (And fs) h = all_plain_free fs h
    plain_free (Or fs) h = all_plain_free fs h
    plain_free (Impl f g) h = absurd h
    plain_free (Repl f g) h = absurd h
    plain_free (Equiv f g) h = absurd h
    plain_free (Ex x f) h = absurd h
    plain_free (All x f) h = absurd h

    all_plain_free : (fs : Formulas A N) → ArePlain fs → AreQuantifierFree fs
    all_plain_free plain.none h = tt
    all_plain_free (plain.also f fs) h = (plain_free f h.0, all_plain_free fs h.1)

  module _ (K : N → Type 0) where
    mutual
      -- so it has no quantified name
      plain_bound : (f : Formula A N) → IsPlain f → EveryBound K f
      plain_bound Yes h = tt
      plain_bound No h = tt
      plain_bound (One a) h = tt
      plain_bound (Not f) h = absurd h
      plain_bound (And fs) h = all_plain_bound fs h
      plain_bound (Or fs) h = all_plain_bound fs h
      plain_bound (Impl f g) h = absurd h
      plain_bound (Repl f g) h = absurd h
      plain_bound (Equiv f g) h = absurd h
      plain_bound (Ex x f) h = absurd h
      plain_bound (All x f) h = absurd h

      all_plain_bound : (fs : Formulas A N) → ArePlain fs → EveryBoundOf K fs
      all_plain_bound plain.none h = tt
      all_plain_bound (plain.also f fs) h = (plain_bound f h.0, all_plain_bound fs h.1)

module _ (c : Context) (n : ℕ) where
  mutual
    -- its names are free, so all of them stand in its atoms
    plain_within : (f : Tree) → IsPlain f → Every (IsNormal c) f → ((x : ℕ) → IsFree f x → x < n) → Every (IsAtomWithin n) f
    plain_within Yes p h k = tt
    plain_within No p h k = tt
    plain_within (One a) p h k = atom_within c n a h k
    plain_within (Not f) p h k = absurd p
    plain_within (And fs) p h k = all_plain_within fs p h k
    plain_within (Or fs) p h k = all_plain_within fs p h k
    plain_within (Impl f g) p h k = absurd p
    plain_within (Repl f g) p h k = absurd p
    plain_within (Equiv f g) p h k = absurd p
    plain_within (Ex x f) p h k = absurd p
    plain_within (All x f) p h k = absurd p

    all_plain_within : (fs : Trees) → ArePlain fs → EveryOf (IsNormal c) fs → ((x : ℕ) → FreeInSome Mentions fs x → x < n) → EveryOf (IsAtomWithin n) fs
    all_plain_within plain.none p h k = tt
    all_plain_within (plain.also f fs) p h k = (plain_within f p.0 h.0 (λ x m. k x (inl m)), all_plain_within fs p.1 h.1 (λ x m. k x (inr m)))

module _ (n x : ℕ) where
  mutual
    -- a free name stands in an atom
    pub free_below : (f : Tree) → Every (IsAtomWithin n) f → IsFree f x → x < n
    free_below Yes h m = absurd m
    free_below No h m = absurd m
    free_below (One a) h m = atom_mentions n x a h m
    free_below (Not f) h m = free_below f h m
    free_below (And fs) h m = some_free_below fs h m
    free_below (Or fs) h m = some_free_below fs h m
    free_below (Impl f g) h m = ⊎_elim (free_below f h.0) (free_below g h.1) m
    free_below (Repl f g) h m = ⊎_elim (free_below f h.0) (free_below g h.1) m
    free_below (Equiv f g) h m = ⊎_elim (free_below f h.0) (free_below g h.1) m
    free_below (Ex y f) h m = free_below f h m.1
    free_below (All y f) h m = free_below f h m.1

    some_free_below : (fs : Trees) → EveryOf (IsAtomWithin n) fs → FreeInSome Mentions fs x → x < n
    some_free_below plain.none h m = absurd m
    some_free_below (plain.also f fs) h m = ⊎_elim (free_below f h.0) (some_free_below fs h.1) m

mutual
  pub branching_members : (f : Tree) → IsBranching f → HasTwoMembers f
  branching_members Yes h = tt
  branching_members No h = tt
  branching_members (One a) h = tt
  branching_members (Not f) h = branching_members f h
  branching_members (And fs) h = (h.0, all_branching_members fs h.1)
  branching_members (Or fs) h = (h.0, all_branching_members fs h.1)
  branching_members (Impl f g) h = (branching_members f h.0, branching_members g h.1)
  branching_members (Repl f g) h = (branching_members f h.0, branching_members g h.1)
  branching_members (Equiv f g) h = (branching_members f h.0, branching_members g h.1)
  branching_members (Ex x f) h = branching_members f h
  branching_members (All x f) h = branching_members f h

  all_branching_members : (fs : Trees) → AreBranching fs → HaveTwoMembers fs
  all_branching_members plain.none h = tt
  all_branching_members (plain.also f fs) h = (branching_members f h.1, all_branching_members fs h.2)

-- an answer to a formula of the session is one
pub answer_formula : (c : Context) (n : ℕ) (f t : Tree) → IsSessionFormula c n f → IsAnswerTo c f t → IsSessionFormula c n t
answer_formula c n f t h a =
    let below = λ (x : ℕ) (m : IsFree t x). free_below n x f h.within.atoms (a.eliminated.names x m) in
    record {
      normal = a.tidy.normal;
      within = record {
        atoms = plain_within c n t a.tidy.is_plain a.tidy.normal below;
        quantified = plain_bound (λ x. x < n) t a.tidy.is_plain;
      };
      members = branching_members t a.tidy.two_members;
    }

-- ---- simplified formulas

module _ {A : Type 0} (P : A → Type 0) where
  mutual
    pub orderly_members : (f : Formula A ℕ) → IsOrderly P f → HasTwoMembers f
    orderly_members Yes h = tt
    orderly_members No h = tt
    orderly_members (One a) h = tt
    orderly_members (Not f) h = absurd h
    orderly_members (And fs) h = (h.0, all_orderly_members fs h.1)
    orderly_members (Or fs) h = (h.0, all_orderly_members fs h.1)
    orderly_members (Impl f g) h = absurd h
    orderly_members (Repl f g) h = absurd h
    orderly_members (Equiv f g) h = absurd h
    orderly_members (Ex x f) h = orderly_members f h
    orderly_members (All x f) h = orderly_members f h

    all_orderly_members : (fs : Formulas A ℕ) → AreOrderly P fs → HaveTwoMembers fs
    all_orderly_members plain.none h = tt
    all_orderly_members (plain.also f fs) h = (orderly_members f h.0, all_orderly_members fs h.1)

  mutual
    pub orderly_every : (f : Formula A ℕ) → IsOrderly P f → Every P f
    orderly_every Yes h = tt
    orderly_every No h = tt
    orderly_every (One a) h = h
    orderly_every (Not f) h = absurd h
    orderly_every (And fs) h = all_orderly_every fs h.1
    orderly_every (Or fs) h = all_orderly_every fs h.1
    orderly_every (Impl f g) h = absurd h
    orderly_every (Repl f g) h = absurd h
    orderly_every (Equiv f g) h = absurd h
    orderly_every (Ex x f) h = orderly_every f h
    orderly_every (All x f) h = orderly_every f h

    all_orderly_every : (fs : Formulas A ℕ) → AreOrderly P fs → EveryOf P fs
    all_orderly_every plain.none h = tt
    all_orderly_every (plain.also f fs) h = (orderly_every f h.0, all_orderly_every fs h.1)

  mutual
    -- a formula in negation normal form with two members at least in each list is orderly
    pub orderly_of : (f : Formula A ℕ) → IsNegationNormal f → HasTwoMembers f → Every P f → IsOrderly P f
    orderly_of Yes n h k = tt
    orderly_of No n h k = tt
    orderly_of (One a) n h k = k
    orderly_of (Not f) n h k = absurd n
    orderly_of (And fs) n h k = (h.0, all_orderly_of fs n h.1 k)
    orderly_of (Or fs) n h k = (h.0, all_orderly_of fs n h.1 k)
    orderly_of (Impl f g) n h k = absurd n
    orderly_of (Repl f g) n h k = absurd n
    orderly_of (Equiv f g) n h k = absurd n
    orderly_of (Ex x f) n h k = orderly_of f n h k
    orderly_of (All x f) n h k = orderly_of f n h k

    all_orderly_of : (fs : Formulas A ℕ) → AreNegationNormal fs → HaveTwoMembers fs → EveryOf P fs → AreOrderly P fs
    all_orderly_of plain.none n h k = tt
    all_orderly_of (plain.also f fs) n h k = (orderly_of f n.0 h.0 k.0, all_orderly_of fs n.1 h.1 k.1)

mutual
  plain_negation_normal : {A : Type 0} (f : Formula A ℕ) → IsPlain f → IsNegationNormal f
  plain_negation_normal Yes h = tt
  plain_negation_normal No h = tt
  plain_negation_normal (One a) h = tt
  plain_negation_normal (Not f) h = absurd h
  plain_negation_normal (And fs) h = all_plain_negation_normal fs h
  plain_negation_normal (Or fs) h = all_plain_negation_normal fs h
  plain_negation_normal (Impl f g) h = absurd h
  plain_negation_normal (Repl f g) h = absurd h
  plain_negation_normal (Equiv f g) h = absurd h
  plain_negation_normal (Ex x f) h = absurd h
  plain_negation_normal (All x f) h = absurd h

  all_plain_negation_normal : {A : Type 0} (fs : Formulas A ℕ) → ArePlain fs → AreNegationNormal fs
  all_plain_negation_normal plain.none h = tt
  all_plain_negation_normal (plain.also f fs) h = (plain_negation_normal f h.0, all_plain_negation_normal fs h.1)

-- an answer can be simplified
pub answer_orderly : (c : Context) (f t : Tree) → IsAnswerTo c f t → IsOrderly (IsNormal c) t
answer_orderly c f t a = orderly_of (IsNormal c) t (plain_negation_normal t a.tidy.is_plain) (branching_members t a.tidy.two_members) a.tidy.normal

-- and so can a negation normal form
pub negation_orderly : (c : Context) (t : Tree) → Every (IsNormal c) t → HasTwoMembers t → IsOrderly (IsNormal c) (normal_form negated_normal t)
negation_orderly c t normal members =
    orderly_of (IsNormal c) (normal_form negated_normal t) (normal_form_shape negated_normal t).0 (members_of_negation t members)
    (normal_form_every negated_normal (IsNormal c) t (every_map (IsNormal c) (λ a. IsNormal c a × IsNormal c (negated_normal a)) (λ a k. (k, negated_normal_is c a k)) t normal)).0

module _ (c : Context) (n : ℕ) where
  below : (y : ℕ) (f : Tree) (x : ℕ) → y < n → (¬ (y ≡ x) → x < n) → x < n
  below y f x l k = elim (cases_eq y x) [ inl e ↦ subst (λ z. z < n) e l | inr d ↦ k d ]

  mutual
    -- a name that stands in an atom is free in the formula, or quantified
    pub within_of_names : (f : Tree) → Every (IsNormal c) f → EveryBound (λ x. x < n) f → ((x : ℕ) → IsFree f x → x < n) → Every (IsAtomWithin n) f
    within_of_names Yes h b k = tt
    within_of_names No h b k = tt
    within_of_names (One a) h b k = atom_within c n a h k
    within_of_names (Not f) h b k = within_of_names f h b k
    within_of_names (And fs) h b k = all_within_of_names fs h b k
    within_of_names (Or fs) h b k = all_within_of_names fs h b k
    within_of_names (Impl f g) h b k = (within_of_names f h.0 b.0 (λ x m. k x (inl m)), within_of_names g h.1 b.1 (λ x m. k x (inr m)))
    within_of_names (Repl f g) h b k = (within_of_names f h.0 b.0 (λ x m. k x (inl m)), within_of_names g h.1 b.1 (λ x m. k x (inr m)))
    within_of_names (Equiv f g) h b k = (within_of_names f h.0 b.0 (λ x m. k x (inl m)), within_of_names g h.1 b.1 (λ x m. k x (inr m)))
    within_of_names (Ex y f) h b k = within_of_names f h b.1 (λ x m. below y f x b.0 (λ e. k x (e, m)))
    within_of_names (All y f) h b k = within_of_names f h b.1 (λ x m. below y f x b.0 (λ e. k x (e, m)))

    all_within_of_names : (fs : Trees) → EveryOf (IsNormal c) fs → EveryBoundOf (λ x. x < n) fs → ((x : ℕ) → FreeInSome Mentions fs x → x < n) → EveryOf (IsAtomWithin n) fs
    all_within_of_names plain.none h b k = tt
    all_within_of_names (plain.also f fs) h b k = (within_of_names f h.0 b.0 (λ x m. k x (inl m)), all_within_of_names fs h.1 b.1 (λ x m. k x (inr m)))

-- a formula of the session that is simplified is one
pub simplified_formula : (c : Context) (ks : List Atom) (n : ℕ) (f t : Tree) → IsSessionFormula c n f → IsSimplifiedAs c ks f t → IsSessionFormula c n t
simplified_formula c ks n f t h a =
    let bound = a.bound n h.within.quantified in
    record {
      normal = a.normal;
      within = record {
        atoms = within_of_names c n t a.normal bound (λ x m. free_below n x f h.within.atoms (a.names x m));
        quantified = bound;
      };
      members = orderly_members (IsNormal c) t a.orderly;
    }

-- ---- what a simplified formula keeps of its quantifiers

pub simplified_quantifies : (c : Context) (ks : List Atom) (f t : Tree) → t ≡ simplified_under c ks f → (n : ℕ) → EveryBound (λ x. x < n) f → EveryBound (λ x. x < n) t
simplified_quantifies c ks f t e n h = subst (λ (g : Tree). EveryBound (λ x. x < n) g) (sym e) (simplified_bound (atom_kit c) (λ x. x < n) f ks h)

pub simplified_names_no_other : (c : Context) (ks : List Atom) (f t : Tree) → t ≡ simplified_under c ks f → (n : ℕ) → EveryBound (λ x. ¬ (x ≡ n)) f → EveryBound (λ x. ¬ (x ≡ n)) t
simplified_names_no_other c ks f t e n h = subst (λ (g : Tree). EveryBound (λ x. ¬ (x ≡ n)) g) (sym e) (simplified_bound (atom_kit c) (λ x. ¬ (x ≡ n)) f ks h)

pub simplified_free : (c : Context) (ks : List Atom) (f t : Tree) → t ≡ simplified_under c ks f → IsOrderly (IsNormal c) t → IsQuantifierFree f → IsQuantifierFree t
simplified_free c ks f t e o h = orderly_free (IsNormal c) t o (subst (λ (g : Tree). EveryBound (λ x. ⊥) g) (sym e) (simplified_bound (atom_kit c) (λ x. ⊥) f ks (free_bound f h)))

-- ---- clean forms

module _ {A N : Type 0} (K : N → Type 0) where
  mutual
    pub unquantified_bound : (f : Formula A N) → IsQuantifierFree f → EveryBound K f
    unquantified_bound Yes h = tt
    unquantified_bound No h = tt
    unquantified_bound (One a) h = tt
    unquantified_bound (Not f) h = unquantified_bound f h
    unquantified_bound (And fs) h = all_unquantified_bound fs h
    unquantified_bound (Or fs) h = all_unquantified_bound fs h
    unquantified_bound (Impl f g) h = (unquantified_bound f h.0, unquantified_bound g h.1)
    unquantified_bound (Repl f g) h = (unquantified_bound f h.0, unquantified_bound g h.1)
    unquantified_bound (Equiv f g) h = (unquantified_bound f h.0, unquantified_bound g h.1)
    unquantified_bound (Ex x f) h = absurd h
    unquantified_bound (All x f) h = absurd h

    all_unquantified_bound : (fs : Formulas A N) → AreQuantifierFree fs → EveryBoundOf K fs
    all_unquantified_bound plain.none h = tt
    all_unquantified_bound (plain.also f fs) h = (unquantified_bound f h.0, all_unquantified_bound fs h.1)

-- a clean form of a formula of the session is one
pub cleaned_formula : (c : Context) (j : Junction) (n : ℕ) (f t : Tree) → IsSessionFormula c n f → IsCleanedAs c j f t → IsSessionFormula c n t
cleaned_formula c j n f t h a =
    let normal = orderly_every (IsNormal c) t a.orderly in
    let bound = unquantified_bound (λ x. x < n) t a.free in
    record {
      normal = normal;
      within = record {
        atoms = within_of_names c n t normal bound (λ x m. free_below n x f h.within.atoms (a.names x m));
        quantified = bound;
      };
      members = orderly_members (IsNormal c) t a.orderly;
    }

-- what the program's clean form is
pub cleaned_as : (c : Context) (j : Junction) (f t : Tree) → IsCleanForm c j t → Equivalent c t f → IsSimplifiable c t → ((x : ℕ) → IsFree t x → IsFree f x) → nodes t ≤ nodes (plain_form j f) → IsNoLonger t (plain_form j f) f
    → IsCleanedAs c j f t
cleaned_as c j f t clean truth shape names few short = record {
  clean = clean;
  truth = truth;
  orderly = orderly_normal c t shape;
  free = subst (λ (g : Tree). IsQuantifierFree g) (sym clean.form) (form_free j clean.lines);
  names = names;
  nodes = few;
  text = short;
}

pub negation_free : (f : Tree) → IsQuantifierFree f → IsQuantifierFree (normal_form negated_normal f)
negation_free f h = (normal_form_quantifier_free negated_normal f h).0

-- what is found of a form that was made
pub form_is_made : (P : FormulaId → Type 0) (r : Result FormulaId FormsError) (made : Result FormulaId FormError) → IfOk r (λ id. made ≡ Ok id) → IfOk made P → IfOk r P
form_is_made P (Ok id) made e h = subst (λ m. IfOk m P) e h
form_is_made P (Err x) made e h = tt

-- the clean form that is made, where one is
pub cleaned_result : (c : Context) (j : Junction) (f : Tree) (t : FormulaId → Tree) (r : Result FormulaId FormError) → IfOk r (λ i. IsCleanForm c j (t i)) → IfOk r (λ i. Equivalent c (t i) f) → IfOk r (λ i. IsSimplifiable c (t i))
    → IfOk r (λ i. (x : ℕ) → IsFree (t i) x → IsFree f x) → IfOk r (λ i. nodes (t i) ≤ nodes (plain_form j f)) → IfOk r (λ i. IsNoLonger (t i) (plain_form j f) f) → IfOk r (λ i. IsCleanedAs c j f (t i))
cleaned_result c j f t (Ok i) clean truth shape names few short = cleaned_as c j f (t i) clean truth shape names few short
cleaned_result c j f t (Err e) clean truth shape names few short = tt

-- ---- names that a formula does not quantify

small_where : (n x : ℕ) → ((m : ℕ) → n ≤ m → ¬ (x ≡ m)) → x < n
small_where n x h = elim (cases_lt x n) [ inl l ↦ l | inr l ↦ absurd (h x l refl) ]

module _ {A : Type 0} (n : ℕ) where
  mutual
    -- quantified names below n are none from n on
    pub none_from : (f : Formula A ℕ) (m : ℕ) → n ≤ m → EveryBound (λ x. x < n) f → EveryBound (λ x. ¬ (x ≡ m)) f
    none_from Yes m l h = tt
    none_from No m l h = tt
    none_from (One a) m l h = tt
    none_from (Not f) m l h = none_from f m l h
    none_from (And fs) m l h = all_none_from fs m l h
    none_from (Or fs) m l h = all_none_from fs m l h
    none_from (Impl f g) m l h = (none_from f m l h.0, none_from g m l h.1)
    none_from (Repl f g) m l h = (none_from f m l h.0, none_from g m l h.1)
    none_from (Equiv f g) m l h = (none_from f m l h.0, none_from g m l h.1)
    none_from (Ex x f) m l h = (λ e. absurd (omega (arith, h.0, e)), none_from f m l h.1)
    none_from (All x f) m l h = (λ e. absurd (omega (arith, h.0, e)), none_from f m l h.1)

    all_none_from : (fs : Formulas A ℕ) (m : ℕ) → n ≤ m → EveryBoundOf (λ x. x < n) fs → EveryBoundOf (λ x. ¬ (x ≡ m)) fs
    all_none_from plain.none m l h = tt
    all_none_from (plain.also f fs) m l h = (none_from f m l h.0, all_none_from fs m l h.1)

  mutual
    pub all_below : (f : Formula A ℕ) → ((m : ℕ) → n ≤ m → EveryBound (λ x. ¬ (x ≡ m)) f) → EveryBound (λ x. x < n) f
    all_below Yes h = tt
    all_below No h = tt
    all_below (One a) h = tt
    all_below (Not f) h = all_below f h
    all_below (And fs) h = all_below_in fs h
    all_below (Or fs) h = all_below_in fs h
    all_below (Impl f g) h = (all_below f (λ m l. (h m l).0), all_below g (λ m l. (h m l).1))
    all_below (Repl f g) h = (all_below f (λ m l. (h m l).0), all_below g (λ m l. (h m l).1))
    all_below (Equiv f g) h = (all_below f (λ m l. (h m l).0), all_below g (λ m l. (h m l).1))
    all_below (Ex x f) h = (small_where n x (λ m l. (h m l).0), all_below f (λ m l. (h m l).1))
    all_below (All x f) h = (small_where n x (λ m l. (h m l).0), all_below f (λ m l. (h m l).1))

    all_below_in : (fs : Formulas A ℕ) → ((m : ℕ) → n ≤ m → EveryBoundOf (λ x. ¬ (x ≡ m)) fs) → EveryBoundOf (λ x. x < n) fs
    all_below_in plain.none h = tt
    all_below_in (plain.also f fs) h = (all_below f (λ m l. (h m l).0), all_below_in fs (λ m l. (h m l).1))
