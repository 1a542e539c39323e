-- A formula with a point put in, at each way to make one.
use Rattle.std.proofs.Common.{◌≡◌, ℕ, ◌-◌, length, take, length-append, Bool, true, false, List, [], ◌∷◌, ◌++◌, refl, sym, ap, ◌∙◌, subst, arith, reverse}
use Rattle.std.proofs.lemmas.Int.{ints}
use Rattle.std.proofs.lemmas.List.{map-append, reverse-append}
use Rattle.std.proofs.Math.Seq.{take-append_seam}
use Rattle.logic_meaning.specs.Shape.{quantified}
use Rattle.logic_meaning.specs.declared.quantifier.Quantifier.TheVariants.{Exists, ForAll}
use Rattle.logic_meaning.specs.declared.junction.Junction.TheVariants.{Conjunction, Disjunction}
use Rattle.logic_meaning.specs.Context.{Context}
use Rattle.logic_meaning.specs.Every.{Every, EveryOf}
use Rattle.logic_meaning.specs.Fold.{joined, append}
use Rattle.logic_meaning.specs.Formula.{One, none, also}
use Rattle.logic_meaning.specs.Atom as meant
use Rattle.logic_meaning.specs.Point.{Point}
use Rattle.logic_meaning.specs.Tree.{Tree, Trees}
use Rattle.logic_meaning.specs.PutIn.{tree_put, trees_put, tree_put_within, trees_put_within}
use Rattle.normal_atoms.specs.declared.atoms.Atom.{Atom}
use Rattle.normal_atoms.specs.declared.atoms.Atom.TheVariants as atom
use Rattle.normal_atoms.specs.declared.atoms.Normal.{Normal}
use Rattle.normal_atoms.specs.declared.atoms.Normal.TheVariants as normal
use Rattle.normal_atoms.specs.Atoms.{atom_of, tree_of, IsWellFormed, IsWellFormedNormal}
use Rattle.logic_meaning.specs.NormalForm.{constant_tree}
use Rattle.logic_meaning.specs.declared.junction.Junction.{Junction}
use Rattle.logic_meaning.specs.declared.quantifier.Quantifier.{Quantifier}
use Rattle.nnf_trees.specs.declared.nnf.Nnf.{Nnf}
use Rattle.nnf_trees.specs.Nnfs.{nnf_of, HasModulus}
use Rattle.nnf_trees.proofs.Pieces.{Formulas_of, lists_joined, append_none, append_thrice}
use Rattle.logic_meaning.specs.declared.form.VarId.{VarId}
use Rattle.reference_engine.specs.Told.{numbers}
use Rattle.reference_engine.specs.Put.{around, IsAtomPut, IsTreePut, AreTreesPut}

-- the modulus of a well-formed atom is positive and within the limit
well_formed_modulus : (a : Atom) → IsWellFormed a → HasModulus (atom_of a)
well_formed_modulus (atom.Compare r f) h = tt
well_formed_modulus (atom.Congruent b m f) h = (omega (arith, ints, h.0), h.1)

normal_moduli : (n : Normal) → IsWellFormedNormal n → Every HasModulus (tree_of n)
normal_moduli normal.True h = tt
normal_moduli normal.False h = tt
normal_moduli (normal.One a) h = well_formed_modulus a h

-- ---- formulas

module _ (c : Context) (p : Point ℕ) (names : List ℕ) where
  pub constant_put : (b : Bool) → IsTreePut c p names (constant_tree b) (constant_tree b)
  constant_put true = record { formula = refl; moduli = tt; within = refl }
  constant_put false = record { formula = refl; moduli = tt; within = refl }

  pub atom_put_whole : (a : meant.Atom) (n : Normal) → IsAtomPut c p names a n → IsTreePut c p names (One a) (tree_of n)
  atom_put_whole a n h = record { formula = h.atom; moduli = normal_moduli n h.well_formed; within = h.within }

  pub joined_put : (j : Junction) (fs gs : Trees) → AreTreesPut c p names fs gs → IsTreePut c p names (joined j fs) (joined j gs)
  joined_put Conjunction fs gs h = record { formula = ap (joined Conjunction) h.formulas; moduli = h.moduli; within = h.within }
  joined_put Disjunction fs gs h = record { formula = ap (joined Disjunction) h.formulas; moduli = h.moduli; within = h.within }

  pub joined_within : (j : Junction) (fs : Trees) → tree_put_within c p names (joined j fs) ≡ trees_put_within c p names fs
  joined_within Conjunction fs = refl
  joined_within Disjunction fs = refl

  pub quantified_put : (q : Quantifier) (x : ℕ) (f g : Tree) → IsTreePut c p (x ∷ names) f g → IsTreePut c p names (quantified q x f) (quantified q x g)
  quantified_put Exists x f g h = record { formula = ap (quantified Exists x) h.formula; moduli = h.moduli; within = h.within }
  quantified_put ForAll x f g h = record { formula = ap (quantified ForAll x) h.formula; moduli = h.moduli; within = h.within }

  pub quantified_within : (q : Quantifier) (x : ℕ) (f : Tree) → tree_put_within c p names (quantified q x f) ≡ tree_put_within c p (x ∷ names) f
  quantified_within Exists x f = refl
  quantified_within ForAll x f = refl

-- the names of quantifiers, with one more and with one less
pub one_more_around : (names : List VarId) (x : VarId) → around (names ++ x ∷ []) ≡ x.number ∷ around names
one_more_around names x = ap reverse (map-append (λ (v : VarId). v.number) names (x ∷ [])) ∙ reverse-append (numbers names) (x.number ∷ [])

-- a name put last and taken away
pub taken_back : (names more less : List VarId) (x : VarId) → more ≡ names ++ x ∷ [] → less ≡ take (length more - 1) more → less ≡ names
taken_back names more less x e h = h ∙ ap (λ (xs : List VarId). take (length xs - 1) xs) e ∙ ap (λ n. take n (names ++ x ∷ [])) (omega (arith, length-append names (x ∷ []))) ∙ take-append_seam names (x ∷ [])

-- one member more is put
pub one_member_put : (c : Context) (p : Point ℕ) (names : List ℕ) (made made2 : List Nnf) (g : Nnf) (f : Tree) (rest all : Trees) → append (Formulas_of made) (trees_put c p names (also f rest)) ≡ all →
    nnf_of g ≡ tree_put c p names f → made2 ≡ made ++ g ∷ [] → append (Formulas_of made2) (trees_put c p names rest) ≡ all
one_member_put c p names made made2 g f rest all h e m =
    ap (λ xs. append (Formulas_of xs) (trees_put c p names rest)) m ∙ ap (λ fs. append fs (trees_put c p names rest)) (lists_joined made (g ∷ [])) ∙ append_thrice (Formulas_of made) (also (nnf_of g) none) (trees_put c p names rest)
    ∙ ap (append (Formulas_of made)) (ap (λ t. also t (trees_put c p names rest)) e) ∙ h

pub all_members_put : (c : Context) (p : Point ℕ) (names : List ℕ) (made : List Nnf) (rest all : Trees) → append (Formulas_of made) (trees_put c p names rest) ≡ all → rest ≡ none → Formulas_of made ≡ all
all_members_put c p names made rest all h e = sym (append_none (Formulas_of made)) ∙ ap (append (Formulas_of made)) (sym (ap (trees_put c p names) e)) ∙ h

-- the moduli of one formula more
pub moduli_more : (made made2 : List Nnf) (g : Nnf) → EveryOf HasModulus (Formulas_of made) → Every HasModulus (nnf_of g) → made2 ≡ made ++ g ∷ [] → EveryOf HasModulus (Formulas_of made2)
moduli_more made made2 g h k m = subst (λ xs. EveryOf HasModulus (Formulas_of xs)) (sym m) (go made h)
  where
    go : (xs : List Nnf) → EveryOf HasModulus (Formulas_of xs) → EveryOf HasModulus (Formulas_of (xs ++ g ∷ []))
    go [] h = (k, tt)
    go (x ∷ xs) h = (h.0, go xs h.1)

pub ruleset puts = (constant_put, atom_put_whole, joined_put, joined_within, quantified_put, quantified_within)
