-- Formulas of a session: what is resolved is one, its negation normal form is one, and with more names it stays one.
use Rattle.std.proofs.Common.{◌≡◌, inl, inr, ℕ, ◌<◌, ◌≤◌, List, [], ◌∷◌, Bool, true, false, Option, Some, None, sym, ◌∙◌, subst, refl, length, arith}
use Rattle.std.proofs.Math.IntN.{pos}
use Rattle.std.proofs.lemmas.Bool.{cases_eq}
use Rattle.std.specs.Prelude.{unwrap_or, Result, Ok, Err}
use Rattle.logic_meaning.specs.Context.{Context, Fields, Integers}
use Rattle.logic_meaning.specs.Formula.{Formula, Formulas, Yes, No, One, Not, And, Or, Impl, Repl, Equiv, Ex, All}
use Rattle.logic_meaning.specs.Formula as plain
use Rattle.logic_meaning.specs.Form.{Term, coefficient, multiple}
use Rattle.logic_meaning.specs.Sorted.{IsSorted, IsRising, AllNonzero}
use Rattle.logic_meaning.specs.Atom.{Atom, Mentions, form_of}
use Rattle.logic_meaning.specs.Atom as atom
use Rattle.logic_meaning.specs.Every.{Every, EveryOf, EveryBound, EveryBoundOf}
use Rattle.logic_meaning.specs.Plain.{IsAtomic}
use Rattle.logic_meaning.specs.Tree.{Tree, IsFree}
use Rattle.logic_meaning.specs.Replaced.{replaced, all_replaced}
use Rattle.logic_meaning.specs.NegationNormal.{normal_form, normal_form_of_not, normal_forms, normal_forms_of_not}
use Rattle.formula_laws.proofs.EachAtom.{every_map}
use Rattle.formula_laws.proofs.NormalShape.{normal_form_every}
use Rattle.formula_laws.proofs.ReplacedShape.{every_replaced}
use Rattle.formula_laws.proofs.Sorted.{here, elsewhere, multiple_above}
use Rattle.logic_meaning.specs.NormalForm.{IsNormal, negated_normal}
use Rattle.normal_atoms.proofs.NormalLaws.{normal_atomic, negated_normal_is, negated_names}
use Rattle.language_meaning.specs.declared.tree.Relation.{Relation}
use Rattle.language_meaning.specs.Trees.{WrittenAtom, Compare, Cong, Ncong, Bound, FormulaTree, FormulaTrees}
use Rattle.language_meaning.specs.Value.{Mentions as Names}
use Rattle.written_syntax.specs.Valued.{IsIn}
use Rattle.written_syntax.specs.Proper.{AreFormulas, IsProperFormula, AreProperFormulas}
use Rattle.logic_meaning.specs.Bindings.{bound_to}
use Rattle.language_meaning.specs.RationalForms.{RationalForm, Missing}
use Rattle.language_meaning.specs.Resolving.{BoundTrees, resolve, resolved_atom, compared, congruent}
use Rattle.logic_meaning.specs.Names.{place}
use Rattle.language_meaning.specs.NamesAfter.{names_after}
use Rattle.resolved_formulas.specs.Accepted.{IsAccepted as IsResolvable}
use Rattle.resolved_formulas.proofs.Nowhere.{every_both, quantified_have}
use Rattle.resolved_formulas.proofs.ResolvedTruth.{IsPlain, all_plain, is_normal}
use Rattle.resolved_formulas.proofs.ResolvedNames.{atom_named}
use Rattle.formula_laws.specs.Within.{IsAtomWithin, AreTermsWithin}
use Rattle.logic_meaning.specs.Members.{HasTwoMembers, HaveTwoMembers, AreTwo}
use Rattle.prenex_forms.proofs.Finished.{bound_normal_form}
use Rattle.session_state.specs.Keeping.{IsSessionFormula}
use Rattle.session_state.proofs.NameLemmas.{place_below, variables_in_names}

-- ---- atoms

pub terms_within : (n : ℕ) (ts : List Term) → IsRising ts → AllNonzero ts → ((x : ℕ) → ¬ (multiple x ts ≡ pos 0) → x < n) → AreTermsWithin n ts
terms_within n [] r z h = tt
terms_within n (t ∷ ts) r z h = (
  h t.name (λ e. z.0 (sym (here t.name t ts refl r.0) ∙ e)),
  terms_within n ts r.1 z.1 (λ x k. h x (λ e. elim (cases_eq t.name x) [
    | inl same ↦ k (subst (λ y. multiple y ts ≡ pos 0) same (multiple_above t.name ts r.0))
    | inr other ↦ k (sym (elsewhere x t ts other) ∙ e)
  ])),
)

mention_below : (n x : ℕ) (ts : List Term) → AreTermsWithin n ts → ¬ (multiple x ts ≡ pos 0) → x < n
mention_below n x [] h k = absurd (k refl)
mention_below n x (t ∷ ts) h k = elim (cases_eq t.name x) [
  | inl same ↦ subst (λ y. y < n) same h.0
  | inr other ↦ mention_below n x ts h.1 (λ e. k (elsewhere x t ts other ∙ e))
]

terms_more : (n m : ℕ) → n ≤ m → (ts : List Term) → AreTermsWithin n ts → AreTermsWithin m ts
terms_more n m l [] h = tt
terms_more n m l (t ∷ ts) h = let a = h.0 in (omega arith, terms_more n m l ts h.1)

normal_sorted : (c : Context) (a : Atom) → IsNormal c a → IsSorted (form_of a)
normal_sorted Fields (atom.Compare r f) h = h.oriented.sorted
normal_sorted Integers (atom.Compare r f) h = h.oriented.sorted
normal_sorted Fields (atom.Congruent b m f) h = absurd h
normal_sorted Integers (atom.Congruent b m f) h = h.sorted

pub atom_within : (c : Context) (n : ℕ) (a : Atom) → IsNormal c a → ((x : ℕ) → Mentions a x → x < n) → IsAtomWithin n a
unfolding coefficient
atom_within c n a h k = let s = normal_sorted c a h in terms_within n (form_of a).terms s.rising s.nonzero k

pub atom_mentions : (n x : ℕ) (a : Atom) → IsAtomWithin n a → Mentions a x → x < n
unfolding coefficient
atom_mentions n x a h k = mention_below n x (form_of a).terms h k

-- ---- constants and single atoms

atomic_formula : (c : Context) (n : ℕ) (t : Tree) → IsAtomic t → Every (IsNormal c) t → ((x : ℕ) → IsFree t x → x < n) → IsSessionFormula c n t
atomic_formula c n Yes a h k = record { normal = tt; within = record { atoms = tt; quantified = tt }; members = tt }
atomic_formula c n No a h k = record { normal = tt; within = record { atoms = tt; quantified = tt }; members = tt }
atomic_formula c n (One b) a h k = record { normal = h; within = record { atoms = atom_within c n b h k; quantified = tt }; members = tt }
atomic_formula c n (Not f) a h k = absurd a
atomic_formula c n (And fs) a h k = absurd a
atomic_formula c n (Or fs) a h k = absurd a
atomic_formula c n (Impl f g) a h k = absurd a
atomic_formula c n (Repl f g) a h k = absurd a
atomic_formula c n (Equiv f g) a h k = absurd a
atomic_formula c n (Ex x f) a h k = absurd a
atomic_formula c n (All x f) a h k = absurd a

compared_atomic : (c : Context) (rel : Relation) (r : Result RationalForm Missing) → IsAtomic (compared c rel r)
compared_atomic c rel (Ok d) = normal_atomic c _
compared_atomic c rel (Err e) = tt

congruent_atomic : (c : Context) (b : Bool) (r m : Result RationalForm Missing) → IsAtomic (congruent c b r m)
congruent_atomic c b (Ok d) (Ok m) = normal_atomic c _
congruent_atomic c b (Ok d) (Err e) = tt
congruent_atomic c b (Err e) m = tt

-- what is bound to names are formulas of a session
abbrev pub AreSessionFormulas : Context → ℕ → BoundTrees → Type 0
AreSessionFormulas c n bound = (x : List ℕ) (t : Tree) → bound_to bound x ≡ Some t → IsSessionFormula c n t

bound_formula : (c : Context) (n : ℕ) (o : Option Tree) → ((t : Tree) → o ≡ Some t → IsSessionFormula c n t) → IsSessionFormula c n (unwrap_or o No)
bound_formula c n None h = record { normal = tt; within = record { atoms = tt; quantified = tt }; members = tt }
bound_formula c n (Some t) h = h t refl

module _ (c : Context) (bound : BoundTrees) (names : List (List ℕ)) (trees : AreSessionFormulas c (length names) bound) where
  numbered : (a : WrittenAtom) → ((x : List ℕ) → Names a x → IsIn x names) → (n : ℕ) → (x : List ℕ) × Names a x × (place names x ≡ n) → n < length names
  numbered a h n m = subst (λ z. z < length names) m.2 (place_below names m.0 (h m.0 m.1))

  normal_trees : (x : List ℕ) (t : Tree) → bound_to bound x ≡ Some t → Every (IsNormal c) t
  normal_trees x t e = (trees x t e).normal

  resolved_atom_formula : (a : WrittenAtom) → IsPlain c bound names a → IsSessionFormula c (length names) (resolved_atom c bound (place names) a)
  resolved_atom_formula (Compare rel s t) p =
      atomic_formula c (length names) _ (compared_atomic c rel _) (is_normal c bound names normal_trees (Compare rel s t) p)
      (λ x f. numbered (Compare rel s t) p.named x (atom_named c bound names x (Compare rel s t) p f))
  resolved_atom_formula (Cong s t m) p =
      atomic_formula c (length names) _ (congruent_atomic c true _ _) (is_normal c bound names normal_trees (Cong s t m) p)
      (λ x f. numbered (Cong s t m) p.named x (atom_named c bound names x (Cong s t m) p f))
  resolved_atom_formula (Ncong s t m) p =
      atomic_formula c (length names) _ (congruent_atomic c false _ _) (is_normal c bound names normal_trees (Ncong s t m) p)
      (λ x f. numbered (Ncong s t m) p.named x (atom_named c bound names x (Ncong s t m) p f))
  resolved_atom_formula (Bound x) p = bound_formula c (length names) (bound_to bound x) (trees x)

-- ---- quantified names and lists of members

module _ {A B N M : Type 0} (by : A → Formula B M) (rename : N → M) (K : M → Type 0) where
  mutual
    bound_replaced : (f : Formula A N) → EveryBound (λ x. K (rename x)) f → Every (λ a. EveryBound K (by a)) f → EveryBound K (replaced by rename f)
    bound_replaced Yes h k = tt
    bound_replaced No h k = tt
    bound_replaced (One a) h k = k
    bound_replaced (Not f) h k = bound_replaced f h k
    bound_replaced (And fs) h k = all_bound_replaced fs h k
    bound_replaced (Or fs) h k = all_bound_replaced fs h k
    bound_replaced (Impl f g) h k = (bound_replaced f h.0 k.0, bound_replaced g h.1 k.1)
    bound_replaced (Repl f g) h k = (bound_replaced f h.0 k.0, bound_replaced g h.1 k.1)
    bound_replaced (Equiv f g) h k = (bound_replaced f h.0 k.0, bound_replaced g h.1 k.1)
    bound_replaced (Ex x f) h k = (h.0, bound_replaced f h.1 k)
    bound_replaced (All x f) h k = (h.0, bound_replaced f h.1 k)

    all_bound_replaced : (fs : Formulas A N) → EveryBoundOf (λ x. K (rename x)) fs → EveryOf (λ a. EveryBound K (by a)) fs → EveryBoundOf K (all_replaced by rename fs)
    all_bound_replaced plain.none h k = tt
    all_bound_replaced (plain.also f fs) h k = (bound_replaced f h.0 k.0, all_bound_replaced fs h.1 k.1)

module _ {A N : Type 0} (K L : N → Type 0) (more : (x : N) → K x → L x) where
  mutual
    bound_more : (f : Formula A N) → EveryBound K f → EveryBound L f
    bound_more Yes h = tt
    bound_more No h = tt
    bound_more (One a) h = tt
    bound_more (Not f) h = bound_more f h
    bound_more (And fs) h = all_bound_more fs h
    bound_more (Or fs) h = all_bound_more fs h
    bound_more (Impl f g) h = (bound_more f h.0, bound_more g h.1)
    bound_more (Repl f g) h = (bound_more f h.0, bound_more g h.1)
    bound_more (Equiv f g) h = (bound_more f h.0, bound_more g h.1)
    bound_more (Ex x f) h = (more x h.0, bound_more f h.1)
    bound_more (All x f) h = (more x h.0, bound_more f h.1)

    all_bound_more : (fs : Formulas A N) → EveryBoundOf K fs → EveryBoundOf L fs
    all_bound_more plain.none h = tt
    all_bound_more (plain.also f fs) h = (bound_more f h.0, all_bound_more fs h.1)

two_replaced : {A B N M : Type 0} (by : A → Formula B M) (rename : N → M) (fs : Formulas A N) → AreTwo fs → AreTwo (all_replaced by rename fs)
two_replaced by rename plain.none h = absurd h
two_replaced by rename (plain.also f plain.none) h = absurd h
two_replaced by rename (plain.also f (plain.also g fs)) h = tt

module _ {A B N M : Type 0} (by : A → Formula B M) (rename : N → M) where
  mutual
    pub members_replaced : (f : Formula A N) → HasTwoMembers f → Every (λ a. HasTwoMembers (by a)) f → HasTwoMembers (replaced by rename f)
    members_replaced Yes h k = tt
    members_replaced No h k = tt
    members_replaced (One a) h k = k
    members_replaced (Not f) h k = members_replaced f h k
    members_replaced (And fs) h k = (two_replaced by rename fs h.0, all_members_replaced fs h.1 k)
    members_replaced (Or fs) h k = (two_replaced by rename fs h.0, all_members_replaced fs h.1 k)
    members_replaced (Impl f g) h k = (members_replaced f h.0 k.0, members_replaced g h.1 k.1)
    members_replaced (Repl f g) h k = (members_replaced f h.0 k.0, members_replaced g h.1 k.1)
    members_replaced (Equiv f g) h k = (members_replaced f h.0 k.0, members_replaced g h.1 k.1)
    members_replaced (Ex x f) h k = members_replaced f h k
    members_replaced (All x f) h k = members_replaced f h k

    all_members_replaced : (fs : Formulas A N) → HaveTwoMembers fs → EveryOf (λ a. HasTwoMembers (by a)) fs → HaveTwoMembers (all_replaced by rename fs)
    all_members_replaced plain.none h k = tt
    all_members_replaced (plain.also f fs) h k = (members_replaced f h.0 k.0, all_members_replaced fs h.1 k.1)

two_normal : {A N : Type 0} (opposite : A → A) (fs : Formulas A N) → AreTwo fs → AreTwo (normal_forms opposite fs) × AreTwo (normal_forms_of_not opposite fs)
two_normal opposite plain.none h = absurd h
two_normal opposite (plain.also f plain.none) h = absurd h
two_normal opposite (plain.also f (plain.also g fs)) h = (tt, tt)

module _ {A N : Type 0} (opposite : A → A) where
  mutual
    members_normal_form : (f : Formula A N) → HasTwoMembers f → HasTwoMembers (normal_form opposite f) × HasTwoMembers (normal_form_of_not opposite f)
    members_normal_form Yes h = (tt, tt)
    members_normal_form No h = (tt, tt)
    members_normal_form (One a) h = (tt, tt)
    members_normal_form (Not f) h = let i = members_normal_form f h in (i.1, i.0)
    members_normal_form (And fs) h = let t = two_normal opposite fs h.0 in let i = members_normal_forms fs h.1 in ((t.0, i.0), (t.1, i.1))
    members_normal_form (Or fs) h = let t = two_normal opposite fs h.0 in let i = members_normal_forms fs h.1 in ((t.0, i.0), (t.1, i.1))
    members_normal_form (Impl f g) h = let i = members_normal_form f h.0 in let j = members_normal_form g h.1 in ((tt, (i.1, (j.0, tt))), (tt, (i.0, (j.1, tt))))
    members_normal_form (Repl f g) h = let i = members_normal_form f h.0 in let j = members_normal_form g h.1 in ((tt, (i.0, (j.1, tt))), (tt, (i.1, (j.0, tt))))
    members_normal_form (Equiv f g) h =
        let i = members_normal_form f h.0 in let j = members_normal_form g h.1 in
        ((tt, ((tt, (i.0, (j.0, tt))), ((tt, (i.1, (j.1, tt))), tt))), (tt, ((tt, (i.0, (j.1, tt))), ((tt, (i.1, (j.0, tt))), tt))))
    members_normal_form (Ex x f) h = members_normal_form f h
    members_normal_form (All x f) h = members_normal_form f h

    members_normal_forms : (fs : Formulas A N) → HaveTwoMembers fs → HaveTwoMembers (normal_forms opposite fs) × HaveTwoMembers (normal_forms_of_not opposite fs)
    members_normal_forms plain.none h = (tt, tt)
    members_normal_forms (plain.also f fs) h = let i = members_normal_form f h.0 in let j = members_normal_forms fs h.1 in ((i.0, j.0), (i.1, j.1))

proper_two : (fs : FormulaTrees) → AreFormulas fs → AreTwo fs
proper_two plain.none h = absurd h
proper_two (plain.also f plain.none) h = absurd h
proper_two (plain.also f (plain.also g fs)) h = tt

mutual
  proper_members : (f : FormulaTree) → IsProperFormula f → HasTwoMembers f
  proper_members Yes h = tt
  proper_members No h = tt
  proper_members (One a) h = tt
  proper_members (Not f) h = proper_members f h
  proper_members (And fs) h = (proper_two fs h.0, all_proper_members fs h.1)
  proper_members (Or fs) h = (proper_two fs h.0, all_proper_members fs h.1)
  proper_members (Impl f g) h = (proper_members f h.0, proper_members g h.1)
  proper_members (Repl f g) h = (proper_members f h.0, proper_members g h.1)
  proper_members (Equiv f g) h = (proper_members f h.0, proper_members g h.1)
  proper_members (Ex x f) h = proper_members f h.1
  proper_members (All x f) h = proper_members f h.1

  all_proper_members : (fs : FormulaTrees) → AreProperFormulas fs → HaveTwoMembers fs
  all_proper_members plain.none h = tt
  all_proper_members (plain.also f fs) h = (proper_members f h.0, all_proper_members fs h.1)

-- ---- formulas

-- an accepted formula, resolved under names that have all its variables
pub resolved_formula : (c : Context) (bound : BoundTrees) (names : List (List ℕ)) (f : FormulaTree) → AreSessionFormulas c (length names) bound → names_after names f ≡ names
    → IsProperFormula f → IsResolvable c bound names f → IsSessionFormula c (length names) (resolve c bound names f)
resolved_formula c bound names f trees numbers proper accepted =
    let by = resolved_atom c bound (place names) in
    let plain_atoms = subst (λ ns. Every (IsPlain c bound ns) f) numbers (all_plain c bound names f accepted) in
    let each = every_map _ (λ a. IsSessionFormula c (length names) (by a)) (λ a p. resolved_atom_formula c bound names trees a p) f plain_atoms in
    record {
      normal = every_replaced by (place names) (IsNormal c) f (every_map _ (λ a. Every (IsNormal c) (by a)) (λ a h. h.normal) f each);
      within = record {
        atoms = every_replaced by (place names) (IsAtomWithin (length names)) f (every_map _ (λ a. Every (IsAtomWithin (length names)) (by a)) (λ a h. h.within.atoms) f each);
        quantified = bound_replaced by (place names) (λ x. x < length names) f (quantified_have (λ x. place names x < length names) f (λ x i. place_below names x (variables_in_names f names numbers x i)))
            (every_map _ (λ a. EveryBound (λ x. x < length names) (by a)) (λ a h. h.within.quantified) f each);
      };
      members = members_replaced by (place names) f (proper_members f proper) (every_map _ (λ a. HasTwoMembers (by a)) (λ a h. h.members) f each);
    }

pub members_of_negation : (t : Tree) → HasTwoMembers t → HasTwoMembers (normal_form negated_normal t)
members_of_negation t h = (members_normal_form negated_normal t h).0

-- the negation normal form of a formula of a session
pub negated_formula : (c : Context) (n : ℕ) (t : Tree) → IsSessionFormula c n t → IsSessionFormula c n (normal_form negated_normal t)
negated_formula c n t h =
    let normal = every_map (IsNormal c) (λ a. IsNormal c a × IsNormal c (negated_normal a)) (λ a k. (k, negated_normal_is c a k)) t h.normal in
    let within = every_map _ (λ a. IsAtomWithin n a × IsAtomWithin n (negated_normal a))
    (λ a k. (k.1, atom_within c n (negated_normal a) (negated_normal_is c a k.0) (λ x m. atom_mentions n x a k.1 ((negated_names a x).0 m)))) t (every_both _ _ t h.normal h.within.atoms) in
    record {
      normal = (normal_form_every negated_normal (IsNormal c) t normal).0;
      within = record {
        atoms = (normal_form_every negated_normal (IsAtomWithin n) t within).0;
        quantified = (bound_normal_form (λ x. x < n) negated_normal t h.within.quantified).0;
      };
      members = (members_normal_form negated_normal t h.members).0;
    }

-- with more names
pub more_formula : (c : Context) (n m : ℕ) (t : Tree) → n ≤ m → IsSessionFormula c n t → IsSessionFormula c m t
more_formula c n m t l h = record {
  normal = h.normal;
  within = record {
    atoms = every_map (IsAtomWithin n) (IsAtomWithin m) (λ a k. terms_more n m l (form_of a).terms k) t h.within.atoms;
    quantified = bound_more (λ x. x < n) (λ x. x < m) (λ x k. omega arith) t h.within.quantified;
  };
  members = h.members;
}
