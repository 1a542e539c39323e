-- What is known of a written comparison or congruence once it is read.
use Rattle.std.specs.Prelude.{◌≡◌, ◌⊎◌, ◌↔◌, ℕ, List, Bool, true, false, IsTrue, MatchOption}
use Rattle.logic_meaning.specs.Context.{Context, Fields}
use Rattle.normal_atoms.specs.Atoms.{tree_of, IsWellFormedNormal}
use Rattle.language_meaning.specs.Trees.{TermTree, WrittenAtom, Cong, Ncong}
use Rattle.language_meaning.specs.Resolving.{BoundTrees, resolved_atom}
use Rattle.language_meaning.specs.Causes.{SomeTerm, HasNonlinear, HasForbidden, HasBadModulus, HasPast, PassesInReading, IsCongruence}
use Rattle.written_atoms.specs.declared.read.AtomCauses.{AtomCauses}
use Rattle.written_atoms.specs.declared.read.ReadAtom.{ReadAtom}

-- the congruence, or for false its negation
abbrev pub congruence_tree : Bool → TermTree → TermTree → TermTree → WrittenAtom
congruence_tree true s t m = Cong s t m
congruence_tree false s t m = Ncong s t m

-- some cause stands in the atom
abbrev pub HasCause : AtomCauses → Type 0
HasCause causes = IsTrue causes.nonlinear ⊎ (IsTrue causes.division ⊎ (IsTrue causes.modulus ⊎ IsTrue causes.overflow))

-- the atom has no normal form: a cause stands in it, or it is a congruence over the fields
abbrev pub IsUnread : Context → WrittenAtom → AtomCauses → Type 0
IsUnread c a causes = HasCause causes ⊎ ((c ≡ Fields) × IsCongruence a)

-- each cause is told exactly, and where none applies the normal form is there
pub record IsRead (c : Context) (bound : BoundTrees) (number : List ℕ → ℕ) (a : WrittenAtom) (r : ReadAtom) : Type 0 where
  pub nonlinear : IsTrue r.causes.nonlinear ↔ SomeTerm (HasNonlinear c number) a
  pub division : IsTrue r.causes.division ↔ SomeTerm (HasForbidden c number) a
  pub modulus : IsTrue r.causes.modulus ↔ HasBadModulus c number a
  pub overflow : IsTrue r.causes.overflow ↔ (SomeTerm HasPast a ⊎ PassesInReading c bound number a)
  pub normal : MatchOption r.normal (IsUnread c a r.causes) (λ n. IsWellFormedNormal n × (tree_of n ≡ resolved_atom c bound number a))
