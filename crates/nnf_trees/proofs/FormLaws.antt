-- The negation normal form at each way to make a formula.
use Rattle.std.proofs.Common.{◌≡◌, refl, ap, ◌∙◌, sym, Bool, true, false, not, List, [], ◌∷◌, ◌++◌, map, ℕ, suc}
use Rattle.std.specs.Prelude.{if◌then◌else◌}
use Rattle.logic_meaning.specs.Shape.{quantified}
use Rattle.logic_meaning.specs.Plain.{turned_quantifier}
use Rattle.logic_meaning.specs.declared.quantifier.Quantifier.TheVariants.{Exists, ForAll}
use Rattle.logic_meaning.specs.declared.junction.Junction.TheVariants.{Conjunction, Disjunction}
use Rattle.logic_meaning.specs.Formula.{Yes, No, One, Not, And, Or, Impl, Repl, Equiv, Ex, All, none, also}
use Rattle.logic_meaning.specs.Fold.{joined, append}
use Rattle.logic_meaning.specs.TurnedJunction.{turned_junction}
use Rattle.logic_meaning.specs.NegationNormal.{both}
use Rattle.logic_meaning.specs.Tree.{Tree, Trees}
use Rattle.logic_meaning.specs.NormalForm.{constant_tree, negated_normal}
use Rattle.logic_meaning.specs.Sizes.{nodes, all_nodes}
use Rattle.logic_meaning.specs.declared.junction.Junction.{Junction}
use Rattle.logic_meaning.specs.declared.quantifier.Quantifier.{Quantifier}
use Rattle.formula_tree.specs.Trees.{members}
use Rattle.nnf_trees.specs.declared.nnf.Nnf.{Nnf}
use Rattle.nnf_trees.specs.Nnfs.{nnf_of}
use Rattle.nnf_trees.proofs.Pieces.{Formulas_of, members_joined, lists_joined, append_none, append_thrice}
use Rattle.nnf_trees.specs.Forms.{form, forms}

pub form_yes : (n : Bool) → constant_tree (not n) ≡ form n Yes
form_yes false = refl
form_yes true = refl

pub form_no : (n : Bool) → constant_tree n ≡ form n No
form_no false = refl
form_no true = refl

pub form_one : (n : Bool) (a : _) → One (if n then negated_normal a else a) ≡ form n (One a)
form_one false a = refl
form_one true a = refl

pub form_and : (n : Bool) (fs : Trees) → joined (turned_junction n Conjunction) (forms n fs) ≡ form n (And fs)
form_and false fs = refl
form_and true fs = refl

pub form_or : (n : Bool) (fs : Trees) → joined (turned_junction n Disjunction) (forms n fs) ≡ form n (Or fs)
form_or false fs = refl
form_or true fs = refl

pub form_not : (n : Bool) (f : Tree) → form (not n) f ≡ form n (Not f)
form_not false f = refl
form_not true f = refl

pub form_impl : (n : Bool) (f g : Tree) → joined (turned_junction n Disjunction) (both (form (not n) f) (form n g)) ≡ form n (Impl f g)
form_impl false f g = refl
form_impl true f g = refl

pub form_repl : (n : Bool) (f g : Tree) → joined (turned_junction n Disjunction) (both (form n f) (form (not n) g)) ≡ form n (Repl f g)
form_repl false f g = refl
form_repl true f g = refl

pub form_equiv : (n : Bool) (f g : Tree) → Or (both (And (both (form false f) (form n g))) (And (both (form true f) (form (not n) g)))) ≡ form n (Equiv f g)
form_equiv false f g = refl
form_equiv true f g = refl

pub form_ex : (n : Bool) (x : _) (f : Tree) → quantified (turned_quantifier n Exists) x (form n f) ≡ form n (Ex x f)
form_ex false x f = refl
form_ex true x f = refl

pub form_all : (n : Bool) (x : _) (f : Tree) → quantified (turned_quantifier n ForAll) x (form n f) ≡ form n (All x f)
form_all false x f = refl
form_all true x f = refl

-- the forms of a list, the first apart
pub forms_also : (n : Bool) (f : Tree) (fs : Trees) → forms n (also f fs) ≡ also (form n f) (forms n fs)
forms_also false f fs = refl
forms_also true f fs = refl

pub forms_none : (n : Bool) → forms n none ≡ none
forms_none false = refl
forms_none true = refl

-- one form more is made
pub one_made : (n : Bool) (made made2 : List Nnf) (g : Nnf) (f : Tree) (rest all : Trees) → append (Formulas_of made) (forms n (also f rest)) ≡ all → nnf_of g ≡ form n f → made2 ≡ made ++ g ∷ []
    → append (Formulas_of made2) (forms n rest) ≡ all
one_made n made made2 g f rest all h e m =
    ap (λ xs. append (Formulas_of xs) (forms n rest)) m ∙ ap (λ fs. append fs (forms n rest)) (lists_joined made (g ∷ [])) ∙ append_thrice (Formulas_of made) (also (nnf_of g) none) (forms n rest)
    ∙ ap (append (Formulas_of made)) (ap (λ x. also x (forms n rest)) e ∙ sym (forms_also n f rest)) ∙ h

pub all_made : (n : Bool) (made : List Nnf) (rest all : Trees) → append (Formulas_of made) (forms n rest) ≡ all → rest ≡ none → Formulas_of made ≡ all
all_made n made rest all h e = sym (append_none (Formulas_of made)) ∙ ap (append (Formulas_of made)) (sym (ap (forms n) e ∙ forms_none n)) ∙ h

-- the negation at each way to make a formula in negation normal form
pub negated_constant : (b : Bool) → constant_tree (not b) ≡ form true (constant_tree b)
negated_constant false = refl
negated_constant true = refl

pub negated_joined : (j : Junction) (fs : Trees) → joined (turned_junction true j) (forms true fs) ≡ form true (joined j fs)
negated_joined Conjunction fs = refl
negated_joined Disjunction fs = refl

pub negated_quantified : (q : Quantifier) (x : _) (f : Tree) → quantified (turned_quantifier true q) x (form true f) ≡ form true (quantified q x f)
negated_quantified Exists x f = refl
negated_quantified ForAll x f = refl

pub ruleset negations = (negated_constant, negated_joined, negated_quantified)

-- the nodes of parts
pub joined_nodes : (j : Junction) (fs : Trees) → nodes (joined j fs) ≡ suc (all_nodes fs)
joined_nodes Conjunction fs = refl
joined_nodes Disjunction fs = refl

pub quantified_nodes : (q : Quantifier) (x : ℕ) (f : Tree) → nodes (quantified q x f) ≡ suc (nodes f)
quantified_nodes Exists x f = refl
quantified_nodes ForAll x f = refl

-- one formula more is made, whatever stands for the formulas
module _ {X : Type 0} (t : X → Tree) where
  pub one_tree : (made made2 : List X) (g : X) (f : Nnf) (rest left : List Nnf) (all : Trees) → append (members (map t made)) (Formulas_of left) ≡ all → left ≡ f ∷ rest → t g ≡ nnf_of f → made2 ≡ made ++ g ∷ []
      → append (members (map t made2)) (Formulas_of rest) ≡ all
  one_tree made made2 g f rest left all h e s m =
      ap (λ xs. append (members (map t xs)) (Formulas_of rest)) m ∙ ap (λ fs. append fs (Formulas_of rest)) (members_joined t made (g ∷ [])) ∙ append_thrice (members (map t made)) (also (t g) none) (Formulas_of rest)
      ∙ ap (append (members (map t made))) (ap (λ x. also x (Formulas_of rest)) s ∙ ap Formulas_of (sym e)) ∙ h

  pub all_trees : (made : List X) (left : List Nnf) (all : Trees) → append (members (map t made)) (Formulas_of left) ≡ all → left ≡ [] → members (map t made) ≡ all
  all_trees made left all h e = sym (append_none (members (map t made))) ∙ ap (append (members (map t made))) (sym (ap Formulas_of e)) ∙ h
