-- Answers of the commands inside a formula; one whose names can be written has no place for an answer, and names of answers change nothing in it.
use Rattle.std.proofs.Common.{◌≡◌, ℕ, ◌≤◌, List, length, sym, ap, subst, arith}
use Rattle.std.specs.Prelude.{Result, Ok, Err, OnOk, OnErr}
use Rattle.written_syntax.specs.declared.tree.Formula.{Formula}
use Rattle.language_meaning.specs.Holes.{command_count}
use Rattle.language_meaning.specs.Trees.{FormulaTree}
use Rattle.written_syntax.specs.Writable.{IsWritableFormula}
use Rattle.written_syntax.specs.CodeTrees.{formula_tree, inner_of, named_tree}
use Rattle.written_syntax.proofs.Alone.{still, no_hole}
use Rattle.language_meaning.specs.NamesAfter.{names_after}
use Rattle.session_state.specs.declared.state.SessionState.{SessionState}
use Rattle.session_state.specs.Growth.{KeepsState}
use Rattle.session_state.specs.Scripted.{IsScripted, HasAnswers}
use Rattle.session_state.proofs.VariableLemmas.{scripted}

no_places : (f : Formula) → IsWritableFormula (formula_tree f) → (n : ℕ) → command_count (inner_of f) ≤ n
no_places f w n = let e = ap command_count (no_hole f w) in omega arith

pub same_named : (f : Formula) → IsWritableFormula (formula_tree f) → named_tree 0 f ≡ formula_tree f
same_named f w = still f (no_hole f w) 0

-- such a formula asks for no answer
pub plain_answers : (d : SessionState) (f : Formula) → IsWritableFormula (formula_tree f) → HasAnswers d f
plain_answers d f w = record { scripted = subst IsScripted (sym (same_named f w)) (scripted (formula_tree f) w); places = no_places f w (length d.answers.items) }

-- the answers are still there
pub answers_stay : (old new : SessionState) → KeepsState old new → (f : Formula) → HasAnswers old f → HasAnswers new f
answers_stay old new k f h = record { scripted = h.scripted; places = subst (λ ids. command_count (inner_of f) ≤ length ids) (sym k.answers) h.places }

on_both : {A E : Type 0} (P : Type 0) (r : Result A E) → OnOk r P → OnErr r P → P
on_both P (Ok a) h k = h
on_both P (Err e) h k = k

-- names that have all variables of the formula stay
pub names_kept : (f : FormulaTree) (names : List (List ℕ)) → names_after names f ≡ names → {A E : Type 0} (r : Result A E) (new : List (List ℕ)) → OnOk r (new ≡ names_after names f) → OnErr r (new ≡ names) → new ≡ names
names_kept f names numbered r new h k = on_both (new ≡ names) r (subst (λ ns. OnOk r (new ≡ ns)) numbered h) k
