-- A point put into forms, atoms and formulas, and whether the numbers that are formed are within the limit.
use Rattle.std.specs.Prelude.{◌≡◌, ℕ, Bool, true, false, ◌&&◌, List, reverse}
use Rattle.logic_meaning.specs.Context.{Context}
use Rattle.logic_meaning.specs.Every.{Every, EveryOf}
use Rattle.logic_meaning.specs.Form.{Form, Term}
use Rattle.logic_meaning.specs.Atom as meant
use Rattle.logic_meaning.specs.Point.{Point}
use Rattle.logic_meaning.specs.Tree.{Tree, Trees}
use Rattle.logic_meaning.specs.Limits.{each, is_within}
use Rattle.logic_meaning.specs.StopLimits.{normal_within}
use Rattle.logic_meaning.specs.PutIn.{terms_kept, terms_out, form_put, atom_put, form_put_within, tree_put, trees_put, tree_put_within, trees_put_within}
use Rattle.normal_atoms.specs.declared.atoms.Normal.{Normal}
use Rattle.normal_atoms.specs.Atoms.{tree_of, IsWellFormedNormal}
use Rattle.logic_meaning.specs.NormalForm.{normal_atom}
use Rattle.logic_meaning.specs.declared.form.VarId.{VarId}
use Rattle.nnf_trees.specs.Nnfs.{HasModulus}
use Rattle.reference_engine.specs.declared.measured.Measured.{Measured}
use Rattle.reference_engine.specs.declared.measured.Measured.TheVariants.{Overflow, Nodes, Memory}
use Rattle.reference_engine.specs.Told.{numbers}

-- the numbers of the names of quantifiers, the innermost first
abbrev pub around : List VarId → List ℕ
around names = reverse (numbers names)

-- the multiples of the terms that stay are within the limit
abbrev pub kept_within : Point ℕ → List ℕ → List Term → Bool
kept_within p names ts = each (λ (t : Term). is_within t.times) (terms_kept p names ts)

-- the terms are parted into those that stay, multiplied, and those that become a number
pub record IsParted (p : Point ℕ) (names : List ℕ) (ts kept out : List Term) : Type 0 where
  pub stay : kept ≡ terms_kept p names ts
  pub become : out ≡ terms_out p names ts
  pub within : kept_within p names ts ≡ true

-- r is the form with the numbers of the point, which are within the limit
pub record IsFormPut (p : Point ℕ) (names : List ℕ) (f r : Form) : Type 0 where
  pub form : r ≡ form_put p names f
  pub within : form_put_within p names f ≡ true

-- no number that the atom forms passes the limit
abbrev pub atom_put_within : Context → Point ℕ → List ℕ → meant.Atom → Bool
atom_put_within c p names a = form_put_within p names (meant.form_of a) && normal_within (normal_atom c (atom_put p names a))

-- n is the atom with the numbers of the point, in normal form
pub record IsAtomPut (c : Context) (p : Point ℕ) (names : List ℕ) (a : meant.Atom) (n : Normal) : Type 0 where
  pub atom : tree_of n ≡ normal_atom c (atom_put p names a)
  pub well_formed : IsWellFormedNormal n
  pub within : atom_put_within c p names a ≡ true

-- g is the formula with the numbers of the point, and its moduli are within the limit
pub record IsTreePut (c : Context) (p : Point ℕ) (names : List ℕ) (f g : Tree) : Type 0 where
  pub formula : g ≡ tree_put c p names f
  pub moduli : Every HasModulus g
  pub within : tree_put_within c p names f ≡ true

-- the same of each member
pub record AreTreesPut (c : Context) (p : Point ℕ) (names : List ℕ) (fs gs : Trees) : Type 0 where
  pub formulas : gs ≡ trees_put c p names fs
  pub moduli : EveryOf HasModulus gs
  pub within : trees_put_within c p names fs ≡ true

-- the error says that a number passes the limit, or nothing; nodes are not counted
abbrev pub Refuses : Measured → Bool → Type 0
Refuses Overflow within = within ≡ false
Refuses Nodes within = ⊥
Refuses Memory within = Unit {0}
