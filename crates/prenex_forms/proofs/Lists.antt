-- Formulas that are made one after another.
use Rattle.std.proofs.Common.{◌≡◌, sym, ap, ◌∙◌, List, [], ◌∷◌, ◌++◌}
use Rattle.std.specs.Prelude.{Result, Ok, Err, OnOk, IfOk}
use Rattle.logic_meaning.specs.Formula.{none, also}
use Rattle.logic_meaning.specs.Fold.{append}
use Rattle.logic_meaning.specs.Tree.{Trees}
use Rattle.nnf_trees.specs.declared.nnf.Nnf.{Nnf}
use Rattle.nnf_trees.specs.Nnfs.{nnf_of}
use Rattle.nnf_trees.proofs.Pieces.{Formulas_of, lists_joined, append_none, append_thrice}

-- one formula more is made
pub one_pushed : (made made2 : List Nnf) (g : Nnf) (left rest all : Trees) → append (Formulas_of made) left ≡ all → left ≡ also (nnf_of g) rest → made2 ≡ made ++ g ∷ [] → append (Formulas_of made2) rest ≡ all
one_pushed made made2 g left rest all h e m =
    ap (λ xs. append (Formulas_of xs) rest) m ∙ ap (λ fs. append fs rest) (lists_joined made (g ∷ [])) ∙ append_thrice (Formulas_of made) (also (nnf_of g) none) rest
    ∙ ap (append (Formulas_of made)) (sym e) ∙ h

-- none is left
pub all_pushed : (made : List Nnf) (left all : Trees) → append (Formulas_of made) left ≡ all → left ≡ none → Formulas_of made ≡ all
all_pushed made left all h e = sym (append_none (Formulas_of made)) ∙ ap (append (Formulas_of made)) (sym e) ∙ h

-- what follows where a result is there
pub on_ok_then : {X E : Type 0} (r : Result X E) (P Q : Type 0) → OnOk r P → (P → Q) → OnOk r Q
on_ok_then (Ok x) P Q h f = f h
on_ok_then (Err e) P Q h f = h

pub if_ok_then : {X E : Type 0} (r : Result X E) (P Q : X → Type 0) → IfOk r P → ((x : X) → P x → Q x) → IfOk r Q
if_ok_then (Ok x) P Q h f = f x h
if_ok_then (Err e) P Q h f = h

pub if_ok_both : {X E : Type 0} (r : Result X E) (P R : X → Type 0) (Q : Type 0) → IfOk r P → OnOk r Q → ((x : X) → P x → Q → R x) → IfOk r R
if_ok_both (Ok x) P R Q h k f = f x h k
if_ok_both (Err e) P R Q h k f = h
