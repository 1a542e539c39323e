-- A set of assumptions grows as the list of their formulas does.
use Rattle.std.proofs.Common.{◌≡◌, Bool, true, false, List, [], ◌∷◌, ◌++◌, refl, sym, ap, ◌∙◌, subst, map, true≢false, nat_eq, append_assoc, append-nil}
use Rattle.std.specs.Prelude.{◌||◌, if◌then◌else◌}
use Rattle.std.specs.List.{AllByRecursion, list_any}
use Rattle.indexmap.specs.IndexSet.{insert_key}
use Rattle.logic_meaning.specs.Atom as meant
use Rattle.logic_meaning.specs.Same.{same_atom}
use Rattle.logic_meaning.specs.Sizes.{same_formula}
use Rattle.logic_meaning.specs.Tree.{Tree}
use Rattle.formula_laws.proofs.TreeNames.{equality_tested}
use Rattle.normal_atoms.specs.Atoms.{atom_of}
use Rattle.normal_atoms.proofs.Meaning.{meaning_determines}
use Rattle.formula_tree.proofs.Decided as decided
use Rattle.program_meaning.specs.Assumptions.{atoms_alone, atoms_among}
use Rattle.program_meaning.specs.Standing.{is_among, behind}
use Rattle.session_state.specs.declared.assumption.Assumption.{Assumption}
use Rattle.session_state.specs.declared.assumption.Assumption.TheVariants.{False, One}
use Rattle.session_state.specs.contracts.assumption.AssumptionPartialEq.TheImpl as impl
use Rattle.session_state.specs.Trees.{assumption_tree, standing_trees, IsFormed, IsFront}

abbrev pub eq : Assumption → Assumption → Bool
eq = impl.ghosts.eq

same : (a b : Assumption) → eq a b ≡ true → a ≡ b
same False False h = refl
same (One a) (One b) h = ap One (decided.same_atom a b h)
same a b h = absurd (true≢false (sym h))

itself : (a : Assumption) → eq a a ≡ true
itself False = refl
itself (One a) = decided.itself_atom a

-- the formula determines the assumption
determined : (a b : Assumption) → IsFormed a → IsFormed b → assumption_tree a ≡ assumption_tree b → a ≡ b
determined False False h k e = refl
determined False (One b) h k e = absurd (let no : ⊥ = cc in no)
determined (One a) False h k e = absurd (let no : ⊥ = cc in no)
determined (One a) (One b) h k e = let p : atom_of a ≡ atom_of b = cc in ap One (meaning_determines a b h k p)

both_ways : (p q : Bool) → (p ≡ true → q ≡ true) → (q ≡ true → p ≡ true) → p ≡ q
both_ways true true f g = refl
both_ways false false f g = refl
both_ways true false f g = sym (f refl)
both_ways false true f g = g refl

-- the two tests of equality agree
tests_agree : (a b : Assumption) → IsFormed a → IsFormed b → eq a b ≡ same_formula same_atom nat_eq (assumption_tree a) (assumption_tree b)
tests_agree a b h k = both_ways _ _ (λ e. (equality_tested (assumption_tree a) (assumption_tree b)).1 (ap assumption_tree (same a b e)))
    (λ e. let p : a ≡ b = determined a b h k ((equality_tested (assumption_tree a) (assumption_tree b)).0 e) in subst (λ (d : Assumption). eq a d ≡ true) p (itself a))

any_agree : (a : Assumption) (keys : List Assumption) → IsFormed a → AllByRecursion IsFormed keys → list_any (eq a) keys ≡ is_among (assumption_tree a) (map assumption_tree keys)
any_agree a [] h all = refl
any_agree a (b ∷ keys) h all = (λ i. tests_agree a b h all.0 i || any_agree a keys h all.1 i)

map_push : (keys : List Assumption) (a : Assumption) → map assumption_tree (keys ++ a ∷ []) ≡ map assumption_tree keys ++ assumption_tree a ∷ []
map_push [] a = refl
map_push (b ∷ keys) a = ap (λ (ts : List Tree). assumption_tree b ∷ ts) (map_push keys a)

pub inserted : (keys : List Assumption) (a : Assumption) → AllByRecursion IsFormed keys → IsFormed a → standing_trees (insert_key eq keys a) ≡ behind (standing_trees keys) (assumption_tree a)
inserted keys a all h = split (list_any (eq a) keys) refl
  where
    split : (b : Bool) → list_any (eq a) keys ≡ b → standing_trees (if b then keys else keys ++ a ∷ []) ≡ behind (standing_trees keys) (assumption_tree a)
    split true e = ap (λ b. let ts : List Tree = if b then standing_trees keys else standing_trees keys ++ assumption_tree a ∷ [] in ts) (sym e ∙ any_agree a keys h all)
    split false e = map_push keys a ∙ ap (λ b. let ts : List Tree = if b then standing_trees keys else standing_trees keys ++ assumption_tree a ∷ [] in ts) (sym e ∙ any_agree a keys h all)

pub inserted_front : (keys : List Assumption) (a : Assumption) → IsFront keys (insert_key eq keys a)
inserted_front keys a = split (list_any (eq a) keys)
  where
    split : (b : Bool) → IsFront keys (if b then keys else keys ++ a ∷ [])
    split true = record { more = []; is = sym (append-nil keys) }
    split false = record { more = a ∷ []; is = refl }

pub same_front : (keys : List Assumption) → IsFront keys keys
same_front keys = record { more = []; is = sym (append-nil keys) }

formed_push : (keys : List Assumption) (a : Assumption) → AllByRecursion IsFormed keys → IsFormed a → AllByRecursion IsFormed (keys ++ a ∷ [])
formed_push [] a all h = (h, tt)
formed_push (b ∷ keys) a all h = (all.0, formed_push keys a all.1 h)

pub inserted_formed : (keys : List Assumption) (a : Assumption) → AllByRecursion IsFormed keys → IsFormed a → AllByRecursion IsFormed (insert_key eq keys a)
inserted_formed keys a all h = split (list_any (eq a) keys)
  where
    split : (b : Bool) → AllByRecursion IsFormed (if b then keys else keys ++ a ∷ [])
    split true = all
    split false = formed_push keys a all h

-- the atoms among some assumptions and one more
pub atoms_more : (keys : List Assumption) (a : Assumption) → atoms_among (standing_trees (keys ++ a ∷ [])) ≡ atoms_among (standing_trees keys) ++ atoms_alone (assumption_tree a)
atoms_more [] a = append-nil (atoms_alone (assumption_tree a))
atoms_more (b ∷ keys) a =
    ap (λ (ks : List meant.Atom). atoms_alone (assumption_tree b) ++ ks) (atoms_more keys a)
    ∙ sym (append_assoc (atoms_alone (assumption_tree b)) (atoms_among (standing_trees keys)) (atoms_alone (assumption_tree a)))
