-- The critical values of a name in a formula of a store.
use Rattle.std.specs.Prelude.{◌≡◌, ℕ, Bool, true, List, [], ◌∷◌, Option, option_map}
use Rattle.std.specs.List.{flat_map}
use Rattle.exact_numbers.specs.declared.fraction.Fraction.{Fraction}
use Rattle.exact_numbers.specs.Frac.{Frac}
use Rattle.exact_numbers.specs.Fraction.{frac_of}
use Rattle.logic_meaning.specs.Context.{Context}
use Rattle.logic_meaning.specs.Atom.{Atom}
use Rattle.logic_meaning.specs.Limits.{each}
use Rattle.logic_meaning.specs.Point.{Point}
use Rattle.logic_meaning.specs.Plain.{IsPlain}
use Rattle.logic_meaning.specs.Tree.{Tree}
use Rattle.formula_laws.specs.Equivalence.{InContext}
use Rattle.logic_meaning.specs.Atoms.{atoms_in}
use Rattle.logic_meaning.specs.PutIn.{atom_put}
use Rattle.normal_atoms.specs.Atoms.{context_of}
use Rattle.logic_meaning.specs.NormalForm.{normal_atom}
use Rattle.formula_tree.specs.declared.shape.Shape.{Shape}
use Rattle.formula_store.specs.declared.id.FormulaId.{FormulaId}
use Rattle.formula_store.specs.Nodes.{tree, IsId}
use Rattle.linear_forms.specs.Values.{point_of}
use Rattle.reference_engine.specs.Put.{atom_put_within}
use Rattle.logic_meaning.specs.Calculated.{criticals}
use Rattle.plain_samples.specs.Roots.{least_among}
use Rattle.engine_answers.specs.declared.search.Search.{Search}

-- a formula of the store, in which only and, or, constants and atoms of the theory stand
pub record IsSharedTree (c : Context) (nodes : List (Shape FormulaId)) (root : FormulaId) : Type 0 where
  pub is : IsId nodes root
  pub is_plain : IsPlain (tree nodes root)
  pub in_context : InContext c (tree nodes root)

-- the atoms in x alone, with the numbers of the point for the other names and in normal form, of which constants go
abbrev pub atoms_put : Context → Point ℕ → ℕ → List Atom → List Atom
atoms_put c p x atoms = flat_map (λ a. atoms_in (normal_atom c (atom_put p (x ∷ []) a))) atoms

-- the critical values that are looked for in the formula
abbrev pub criticals_sought : Search → Tree → Option (List Frac)
criticals_sought s f = criticals (context_of s.context) s.x.number f (point_of s.at.now)

-- no number that the atoms form at the point passes the limit
abbrev pub are_within : Search → List Atom → Bool
are_within s atoms = each (atom_put_within (context_of s.context) (point_of s.at.now) (s.x.number ∷ [])) atoms

-- w is the least of what may be there before and of the atoms' critical values that are looked for, and no number passes the limit
pub record IsLeastWith (s : Search) (before : Option Frac) (atoms : List Atom) (w : Option Fraction) : Type 0 where
  pub least : option_map frac_of w ≡ least_among s.side s.x.number (option_map frac_of s.bound) before (atoms_put (context_of s.context) (point_of s.at.now) s.x.number atoms)
  pub within : are_within s atoms ≡ true
