-- The prenex form of a formula of the session is one, with its new names.
use Rattle.std.proofs.Common.{◌≡◌, ℕ, List, [], ◌∷◌, sym, subst, length}
use Rattle.logic_meaning.specs.Context.{Context}
use Rattle.logic_meaning.specs.Formula.{Formula, Formulas, Yes, No, One, Not, And, Or, Impl, Repl, Equiv, Ex, All}
use Rattle.logic_meaning.specs.Formula as plain
use Rattle.logic_meaning.specs.NegationNormal.{normal_form}
use Rattle.logic_meaning.specs.Plain.{IsAtomic}
use Rattle.logic_meaning.specs.declared.quantifier.Quantifier.{Quantifier}
use Rattle.logic_meaning.specs.declared.quantifier.Quantifier.TheVariants.{Exists, ForAll}
use Rattle.logic_meaning.specs.Tree.{Tree, Trees}
use Rattle.formula_laws.proofs.EachAtom.{every_all}
use Rattle.logic_meaning.specs.NormalForm.{normal_atom, negated_normal}
use Rattle.normal_atoms.proofs.NormalLaws.{normal_atomic}
use Rattle.logic_meaning.specs.Members.{HasTwoMembers, HaveTwoMembers, AreTwo}
use Rattle.formula_laws.specs.Within.{IsTreeWithin}
use Rattle.logic_meaning.specs.Blocks.{other_kind, blocks, matrix, matrices}
use Rattle.logic_meaning.specs.Front.{block, prefixed, first_kind, in_front}
use Rattle.logic_meaning.specs.Prenex.{prenex_of}
use Rattle.logic_meaning.specs.Renaming.{Chosen, after, renamed, all_renamed, with_now, chosen, chosen_name, with_chosen_names, nothing_chosen, new_count}
use Rattle.session_state.proofs.FromPrenexForms.{finished, length_more}
use Rattle.program_meaning.specs.FormulaAnswers.{HasNewNames}
use Rattle.session_state.specs.Keeping.{IsSessionFormula}
use Rattle.session_state.proofs.SoundLemmas.{members_replaced, members_of_negation}

-- ---- lists of members

two_renamed : (count : ℕ) (now : ℕ → ℕ) (fs : Trees) (s : Chosen) → AreTwo fs → AreTwo (all_renamed count now fs s)
two_renamed count now plain.none s h = absurd h
two_renamed count now (plain.also f plain.none) s h = absurd h
two_renamed count now (plain.also f (plain.also g fs)) s h = tt

module _ (count : ℕ) where
  mutual
    members_renamed : (now : ℕ → ℕ) (f : Tree) (s : Chosen) → HasTwoMembers f → HasTwoMembers (renamed count now f s)
    members_renamed now Yes s h = tt
    members_renamed now No s h = tt
    members_renamed now (One a) s h = tt
    members_renamed now (Not f) s h = h
    members_renamed now (And fs) s h = (two_renamed count now fs s h.0, all_members_renamed now fs s h.1)
    members_renamed now (Or fs) s h = (two_renamed count now fs s h.0, all_members_renamed now fs s h.1)
    members_renamed now (Impl f g) s h = h
    members_renamed now (Repl f g) s h = h
    members_renamed now (Equiv f g) s h = h
    members_renamed now (Ex x f) s h = members_renamed (with_now now x (chosen_name count x s)) f (chosen count x s) h
    members_renamed now (All x f) s h = members_renamed (with_now now x (chosen_name count x s)) f (chosen count x s) h

    all_members_renamed : (now : ℕ → ℕ) (fs : Trees) (s : Chosen) → HaveTwoMembers fs → HaveTwoMembers (all_renamed count now fs s)
    all_members_renamed now plain.none s h = tt
    all_members_renamed now (plain.also f fs) s h = (members_renamed now f s h.0, all_members_renamed now fs (after count f s) h.1)

module _ {A N : Type 0} where
  two_matrices : (fs : Formulas A N) → AreTwo fs → AreTwo (matrices fs)
  two_matrices plain.none h = absurd h
  two_matrices (plain.also f plain.none) h = absurd h
  two_matrices (plain.also f (plain.also g fs)) h = tt

  mutual
    members_of_matrix : (f : Formula A N) → HasTwoMembers f → HasTwoMembers (matrix f)
    members_of_matrix Yes h = tt
    members_of_matrix No h = tt
    members_of_matrix (One a) h = tt
    members_of_matrix (Not f) h = h
    members_of_matrix (And fs) h = (two_matrices fs h.0, members_of_matrices fs h.1)
    members_of_matrix (Or fs) h = (two_matrices fs h.0, members_of_matrices fs h.1)
    members_of_matrix (Impl f g) h = h
    members_of_matrix (Repl f g) h = h
    members_of_matrix (Equiv f g) h = h
    members_of_matrix (Ex x f) h = members_of_matrix f h
    members_of_matrix (All x f) h = members_of_matrix f h

    members_of_matrices : (fs : Formulas A N) → HaveTwoMembers fs → HaveTwoMembers (matrices fs)
    members_of_matrices plain.none h = tt
    members_of_matrices (plain.also f fs) h = (members_of_matrix f h.0, members_of_matrices fs h.1)

  members_behind_block : (q : Quantifier) (xs : List N) (f : Formula A N) → HasTwoMembers f → HasTwoMembers (block q xs f)
  members_behind_block q [] f h = h
  members_behind_block Exists (x ∷ xs) f h = members_behind_block Exists xs f h
  members_behind_block ForAll (x ∷ xs) f h = members_behind_block ForAll xs f h

  members_behind : (q : Quantifier) (bs : List (List N)) (f : Formula A N) → HasTwoMembers f → HasTwoMembers (prefixed q bs f)
  members_behind q [] f h = h
  members_behind q (b ∷ bs) f h = members_behind_block q b (prefixed (other_kind q) bs f) (members_behind (other_kind q) bs f h)

  atomic_members : (f : Formula A N) → IsAtomic f → HasTwoMembers f
  atomic_members Yes a = tt
  atomic_members No a = tt
  atomic_members (One b) a = tt
  atomic_members (Not f) a = absurd a
  atomic_members (And fs) a = absurd a
  atomic_members (Or fs) a = absurd a
  atomic_members (Impl f g) a = absurd a
  atomic_members (Repl f g) a = absurd a
  atomic_members (Equiv f g) a = absurd a
  atomic_members (Ex x f) a = absurd a
  atomic_members (All x f) a = absurd a

prenex_members : (c : Context) (count : ℕ) (f : Tree) → HasTwoMembers f → HasTwoMembers (prenex_of c count f)
prenex_members c count f h =
    let g = with_chosen_names count f in
    let m = members_behind (first_kind g) (blocks g (first_kind g)) (matrix g) (members_of_matrix g (members_renamed count (λ x. x) f (nothing_chosen _) h)) in
    members_replaced (normal_atom c) (λ x. x) (in_front g) m (every_all (λ a. HasTwoMembers (normal_atom c a)) (λ a. atomic_members (normal_atom c a) (normal_atomic c a)) (in_front g))

-- ---- the whole

pub prenex_form_members : (c : Context) (count : ℕ) (f t : Tree) → t ≡ prenex_of c count (normal_form negated_normal f) → HasTwoMembers f → HasTwoMembers t
prenex_form_members c count f t e h = subst (λ (g : Tree). HasTwoMembers g) (sym e) (prenex_members c count (normal_form negated_normal f) (members_of_negation f h))

-- with its new names the prenex form is a formula of the session
pub prenex_formula : (c : Context) (names after : List (List ℕ)) (f t : Tree) → IsSessionFormula c (length names) f → t ≡ prenex_of c (length names) (normal_form negated_normal f) → HasNewNames names f after
    → IsSessionFormula c (length after) t
prenex_formula c names after f t h e more =
    let done = finished c (length names) f t h.normal h.within e in
    record {
      normal = done.normal;
      within = subst (λ (n : ℕ). IsTreeWithin n t) (sym (length_more (new_count (length names) (normal_form negated_normal f)) names after more.added)) done.named;
      members = prenex_form_members c (length names) f t e h.members;
    }
