-- What a member gives to the pieces of a fold.
use Rattle.std.proofs.Common.{◌≡◌, sym, ap, ◌∙◌, subst, refl, Bool, true, false, List, [], ◌∷◌, ◌++◌, map, Some, None, Option, length, ◌<◌, arith}
use Rattle.std.specs.Prelude.{if◌then◌else◌}
use Rattle.logic_meaning.specs.Shape.{quantified}
use Rattle.logic_meaning.specs.declared.quantifier.Quantifier.TheVariants.{Exists, ForAll}
use Rattle.logic_meaning.specs.Formula.{One, none, also}
use Rattle.logic_meaning.specs.Fold.{joined, append, pieces_of, put_together, neutral, absorbing, all_pieces, from_pieces, fold_list}
use Rattle.logic_meaning.specs.declared.junction.Junction.TheVariants.{Conjunction, Disjunction}
use Rattle.logic_meaning.specs.Tree.{Tree, Trees}
use Rattle.logic_meaning.specs.NormalForm.{constant_tree}
use Rattle.formula_tree.specs.Trees.{members}
use Rattle.logic_meaning.specs.contracts.junction.Junction.{the_type}
use Rattle.logic_meaning.specs.declared.junction.Junction.{Junction}
use Rattle.logic_meaning.specs.declared.quantifier.Quantifier.{Quantifier}
use Rattle.nnf_trees.specs.declared.nnf.Nnf.{Nnf}
use Rattle.nnf_trees.specs.Nnfs.{nnf_of, AreProper, IsProper}
use denote.Enum.Bare.{sameb}
use mathlib.Core.Bool.{beq}

abbrev pub Formulas_of : List Nnf → Trees
Formulas_of fs = members (map nnf_of fs)

-- the formulas of two lists, one after the other
pub members_joined : {X : Type 0} (t : X → Tree) (xs ys : List X) → members (map t (xs ++ ys)) ≡ append (members (map t xs)) (members (map t ys))
members_joined t [] ys = refl
members_joined t (x ∷ xs) ys = ap (also (t x)) (members_joined t xs ys)

pub lists_joined : (xs ys : List Nnf) → Formulas_of (xs ++ ys) ≡ append (Formulas_of xs) (Formulas_of ys)
lists_joined xs ys = members_joined nnf_of xs ys

pub are_joined : (xs ys : List Nnf) → AreProper xs → AreProper ys → AreProper (xs ++ ys)
are_joined [] ys h k = k
are_joined (x ∷ xs) ys h k = (h.0, are_joined xs ys h.1 k)

pub empty : {X : Type 0} (xs : List X) → length xs ≡ 0 → xs ≡ []
empty [] e = refl
empty (x ∷ xs) e = cc

pub append_none : (fs : Trees) → append fs none ≡ fs
append_none none = refl
append_none (also f fs) = ap (also f) (append_none fs)

-- a constant decides the whole, or gives nothing
pub constant_gives : (j : Junction) (b : Bool) (made : Trees)
    → put_together (Some made) (pieces_of j (constant_tree b)) ≡ (if beq b (sameb the_type j Conjunction) then Some made else None)
constant_gives Conjunction true made = ap Some (append_none made)
constant_gives Conjunction false made = refl
constant_gives Disjunction true made = refl
constant_gives Disjunction false made = ap Some (append_none made)

-- what is not of the junction gives itself
abbrev pub GivesItself : Junction → Tree → Type 0
GivesItself j f = pieces_of j f ≡ Some (also f none)

pub atom_gives : (j : Junction) (a : _) → GivesItself j (One a)
atom_gives Conjunction a = refl
atom_gives Disjunction a = refl

pub quantified_gives : (j : Junction) (q : Quantifier) (x : _) (f : Tree) → GivesItself j (quantified q x f)
quantified_gives Conjunction Exists x f = refl
quantified_gives Conjunction ForAll x f = refl
quantified_gives Disjunction Exists x f = refl
quantified_gives Disjunction ForAll x f = refl

pub other_gives : (j o : Junction) (fs : Trees) → sameb the_type o j ≡ false → GivesItself j (joined o fs)
other_gives Conjunction Conjunction fs e = cc
other_gives Conjunction Disjunction fs e = refl
other_gives Disjunction Conjunction fs e = refl
other_gives Disjunction Disjunction fs e = cc

pub same_gives : (j o : Junction) (fs : Trees) → sameb the_type o j ≡ true → pieces_of j (joined o fs) ≡ Some fs
same_gives Conjunction Conjunction fs e = refl
same_gives Conjunction Disjunction fs e = cc
same_gives Disjunction Conjunction fs e = cc
same_gives Disjunction Disjunction fs e = refl

pub itself_put : {X : Type 0} (t : X → Tree) (j : Junction) (x : X) (f : Tree) (made made2 : List X) → t x ≡ f → GivesItself j f → made2 ≡ made ++ x ∷ []
    → put_together (Some (members (map t made))) (pieces_of j (t x)) ≡ Some (members (map t made2))
itself_put t j x f made made2 e g m =
    let g2 : GivesItself j (t x) = subst (GivesItself j) (sym e) g in
    ap (put_together (Some (members (map t made)))) g2 ∙ ap Some (sym (members_joined t made (x ∷ [])) ∙ ap (λ xs. members (map t xs)) (sym m))

pub members_put : {X : Type 0} (t : X → Tree) (j : Junction) (x : X) (xs : List X) (made made2 : List X) → pieces_of j (t x) ≡ Some (members (map t xs)) → made2 ≡ made ++ xs
    → put_together (Some (members (map t made))) (pieces_of j (t x)) ≡ Some (members (map t made2))
members_put t j x xs made made2 g m = ap (put_together (Some (members (map t made)))) g ∙ ap Some (sym (members_joined t made xs) ∙ ap (λ ys. members (map t ys)) (sym m))

pub itself_proper : (f : Nnf) (made made2 : List Nnf) → AreProper made → IsProper f → made2 ≡ made ++ f ∷ [] → AreProper made2
itself_proper f made made2 h k e = subst AreProper (sym e) (are_joined made (f ∷ []) h (k, tt))

pub members_proper : (fs made made2 : List Nnf) → AreProper made → AreProper fs → made2 ≡ made ++ fs → AreProper made2
members_proper fs made made2 h k e = subst AreProper (sym e) (are_joined made fs h k)

pub append_thrice : (fs gs hs : Trees) → append (append fs gs) hs ≡ append fs (append gs hs)
append_thrice none gs hs = refl
append_thrice (also f fs) gs hs = ap (also f) (append_thrice fs gs hs)

put_thrice : (a b c : Option Trees) → put_together (put_together a b) c ≡ put_together a (put_together b c)
put_thrice None b c = refl
put_thrice (Some fs) None c = refl
put_thrice (Some fs) (Some gs) None = refl
put_thrice (Some fs) (Some gs) (Some hs) = ap Some (append_thrice fs gs hs)

-- one member more is put to the pieces, or decides the whole
module _ {X : Type 0} (t : X → Tree) (j : Junction) (goes : Bool) (f : X) (made made2 rest left : List X) (all : Option Trees)
    (put : put_together (Some (members (map t made))) (pieces_of j (t f)) ≡ (if goes then Some (members (map t made2)) else None))
    (split : left ≡ f ∷ rest) (before : put_together (Some (members (map t made))) (all_pieces j (members (map t left))) ≡ all) where
  after : put_together (if goes then Some (members (map t made2)) else None) (all_pieces j (members (map t rest))) ≡ all
  after =
      ap (λ o. put_together o (all_pieces j (members (map t rest)))) (sym put) ∙ put_thrice (Some (members (map t made))) (pieces_of j (t f)) (all_pieces j (members (map t rest)))
      ∙ ap (λ xs. put_together (Some (members (map t made))) (all_pieces j (members (map t xs)))) (sym split) ∙ before

  pub one_more : goes ≡ true → put_together (Some (members (map t made2))) (all_pieces j (members (map t rest))) ≡ all
  one_more e = subst (λ b. put_together (if b then Some (members (map t made2)) else None) (all_pieces j (members (map t rest))) ≡ all) e after

  pub decided : goes ≡ false → all ≡ None
  decided e = sym (subst (λ b. put_together (if b then Some (members (map t made2)) else None) (all_pieces j (members (map t rest))) ≡ all) e after)

pub all_put : {X : Type 0} (t : X → Tree) (j : Junction) (made rest : List X) (all : Option Trees) → rest ≡ [] → put_together (Some (members (map t made))) (all_pieces j (members (map t rest))) ≡ all
    → Some (members (map t made)) ≡ all
all_put t j made rest all e h = ap Some (sym (append_none (members (map t made)))) ∙ ap (λ xs. put_together (Some (members (map t made))) (all_pieces j (members (map t xs)))) (sym e) ∙ h

pub absorbing_is : (j : Junction) → constant_tree (sameb the_type j Disjunction) ≡ absorbing j
absorbing_is Conjunction = refl
absorbing_is Disjunction = refl

pub two_pieces : {X : Type 0} (t : X → Tree) (j : Junction) (fs : List X) → 1 < length fs → joined j (members (map t fs)) ≡ from_pieces j (Some (members (map t fs)))
two_pieces t j [] h = absurd (omega (arith, h))
two_pieces t j (f ∷ []) h = absurd (omega (arith, h))
two_pieces t j (f ∷ (g ∷ fs)) h = refl
