-- Normal forms of atoms as candidates, and atoms put at points.
use Rattle.std.proofs.Common.{◌≡◌, subst, sym}
use Rattle.std.specs.Prelude.{IfOk}
use Rattle.std.specs.declared.result.Result.{Result}
use Rattle.std.specs.declared.result.Result.TheVariants.{Ok}
use Rattle.logic_meaning.specs.Every.{Every}
use Rattle.logic_meaning.specs.NormalForm.{IsNormal, normal_atom}
use Rattle.formula_laws.specs.TheoryAtoms.{AtomIn}
use Rattle.normal_atoms.proofs.NormalLaws.{normal_normal, normal_in}
use Rattle.normal_atoms.specs.declared.atoms.Context as code
use Rattle.normal_atoms.specs.declared.atoms.Atom.{Atom}
use Rattle.normal_atoms.specs.declared.atoms.Normal.{Normal}
use Rattle.normal_atoms.specs.declared.atoms.Normal.TheVariants.{One}
use Rattle.normal_atoms.specs.declared.error.AtomError.{AtomError}
use Rattle.normal_atoms.specs.Atoms.{context_of, atom_of, tree_of, IsWellFormedNormal}
use Rattle.short_answers.specs.Candidates.{IsCandidate}

pub normal_candidate : (c : code.Context) (a b : Atom) (r : Result Normal AtomError) (n : Normal) → r ≡ Ok n → n ≡ One b → AtomIn (context_of c) (atom_of a) → IfOk r (λ m. tree_of m ≡ normal_atom (context_of c) (atom_of a)) → IfOk r IsWellFormedNormal →
    IsCandidate c b
normal_candidate c a b r n e d i normal well =
    let is : tree_of (One b) ≡ normal_atom (context_of c) (atom_of a) = subst (λ m. tree_of m ≡ normal_atom (context_of c) (atom_of a)) d (subst (λ s. IfOk s (λ m. tree_of m ≡ normal_atom (context_of c) (atom_of a))) e normal) in
    record {
      well_formed = subst IsWellFormedNormal d (subst (λ s. IfOk s IsWellFormedNormal) e well);
      normal = subst (Every (IsNormal (context_of c))) (sym is) (normal_normal (context_of c) (atom_of a) i);
    }

pub candidate_in : (c : code.Context) (a : Atom) → IsCandidate c a → AtomIn (context_of c) (atom_of a)
candidate_in c a h = normal_in (context_of c) (atom_of a) h.normal
