-- From what is owed to the program's answers.
use Rattle.std.proofs.Common.{◌≡◌, sym, subst, refl}
use Rattle.exact_numbers.specs.Limit.{PastLimit}
use Rattle.logic_meaning.specs.Context.{Context}
use Rattle.logic_meaning.specs.Atom.{Atom, form_of}
use Rattle.logic_meaning.specs.declared.junction.Junction.{Junction}
use Rattle.logic_meaning.specs.declared.junction.Junction.TheVariants.{Conjunction, Disjunction}
use Rattle.linear_forms.specs.Combinations.{IsLinear}
use Rattle.normal_atoms.specs.declared.answers.Merged.{Merged}
use Rattle.normal_atoms.specs.declared.answers.Merged.TheVariants.{True, False, One, Keep}
use Rattle.normal_atoms.specs.Junctions.{absorbing}
use Rattle.logic_meaning.specs.Merging.{Settles, MergesInto, IsKept}
use Rattle.normal_atoms.specs.Merged.{IsMerging}
use Rattle.normal_atoms.specs.Answered.{IsOne, IsOneOrKept}
use Rattle.normal_atoms.specs.Verdicts.{Verdict, Settled, Kept, First, Second, IsDecisive}

pub settled_answer : (c : Context) (j : Junction) (a b : Atom) → Settles c j a b → IsMerging c j a b (absorbing j)
settled_answer c Conjunction a b h = h
settled_answer c Disjunction a b h = h

pub one_answer : (c : Context) (j : Junction) (a b e : Atom) (m : Merged) → MergesInto c j a b e → (PastLimit (form_of e).constant → IsKept c j a b) → IsOneOrKept e m → IsMerging c j a b m
one_answer c j a b e True h k w = absurd w
one_answer c j a b e False h k w = absurd w
one_answer c j a b e (One o) h k w = (subst (MergesInto c j a b) (sym w.0) h, w.1, subst (λ x. IsLinear (form_of x)) (sym w.0) w.2)
one_answer c j a b e Keep h k w = k w

pub exact_answer : (c : Context) (j : Junction) (a b e : Atom) (m : Merged) → MergesInto c j a b e → IsOne e m → IsMerging c j a b m
exact_answer c j a b e True h w = absurd w
exact_answer c j a b e False h w = absurd w
exact_answer c j a b e (One o) h w = (subst (MergesInto c j a b) (sym w.0) h, w.1, subst (λ x. IsLinear (form_of x)) (sym w.0) w.2)
exact_answer c j a b e Keep h w = absurd w

pub decisive : (v : Verdict) → IsDecisive v → v ≡ Settled
decisive Settled h = refl
decisive Kept h = absurd h
decisive (First r) h = absurd h
decisive (Second r) h = absurd h

pub indecisive : (v : Verdict) → ¬ (IsDecisive v) → ¬ (v ≡ Settled)
indecisive v n e = n (subst IsDecisive (sym e) tt)
