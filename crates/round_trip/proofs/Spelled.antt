-- The terminals of a tree spell its written formula.
use Rattle.std.proofs.Common.{◌≡◌, ℕ, Bool, true, false, List, [], ◌∷◌, ◌++◌, map, Some, None, sym, refl, ap, ◌∙◌, subst, append_assoc}
use Rattle.std.specs.Prelude.{ℤ, pos, negsuc, unsigned_abs, nat_eq, if◌then◌else◌}
use Rattle.std.specs.Ordering.{int_eq}
use Rattle.logic_meaning.specs.Formula.{Yes, No, One, Not, And, Or, Impl, Repl, Equiv, Ex, All, none, also}
use Rattle.logic_meaning.specs.Form.{Term}
use Rattle.logic_meaning.specs.Atom.{Atom, Compare, Congruent}
use Rattle.logic_meaning.specs.Tree.{Tree, Trees}
use Rattle.logic_meaning.specs.Replaced.{all_replaced}
use Rattle.language_meaning.specs.Trees.{TermTree, Named, Product, terms_of, Bound, FormulaTree, FormulaTrees}
use Rattle.language_meaning.specs.Holes.{alone, whole, over, over_both, all_of, command_alone}
use Rattle.language_meaning.specs.Statements.{Echo}
use Rattle.language_meaning.specs.Inner.{about, command_in}
use Rattle.language_meaning.specs.declared.terminal.Terminal.TheVariants as terminal
use Rattle.language_meaning.specs.declared.terminal.Mark.TheVariants as mark
use Rattle.language_meaning.specs.declared.terminal.Word.TheVariants as word
use Rattle.language_meaning.specs.Grammar.{Written, sum_of, conjunction_of, disjunction_of, result_of}
use Rattle.language_meaning.specs.Grammar as grammar
use Rattle.logic_meaning.specs.Text.{name_at, is_compound}
use Rattle.logic_meaning.specs.Members.{HasTwoMembers, HaveTwoMembers}
use Rattle.round_trip.specs.Written.{number_term, signed_term, factor_term, multiple_term, constant_term, later_constant_terms, member_terms, relation_sign, written_atom, written_formula}
use Rattle.round_trip.specs.Round.{printed_echo}
use Rattle.round_trip.specs.Printed.{Terminals, number, first_mark, later_mark, factor_terminals, multiple_terminals, later_terminals, constant_terminals, sum_terminals, atom_terminals, bracketed, tree_terminals, more_terminals, line_terminals}

no_more : {X : Type 0} (xs : List X) → xs ++ [] ≡ xs
no_more [] = refl
no_more (x ∷ xs) = ap (λ ys. x ∷ ys) (no_more xs)

-- ---- sums

-- a number is a product of one factor
number_spelled : (n : ℕ) (ts : Terminals) → grammar.SpellsProduct (number n ∷ ts) (number_term n) ts
number_spelled n ts = grammar.product (grammar.first_power grammar.number) (grammar.no_factor refl)

factor_spelled : (n : ℕ) (x : List ℕ) (ts : Terminals) → grammar.SpellsProduct (factor_terminals n x ts) (factor_term n x) ts
factor_spelled n x ts = go (nat_eq n 1)
  where
    go : (b : Bool) → grammar.SpellsProduct (if b then terminal.Name x ∷ ts else number n ∷ terminal.Mark mark.Times ∷ terminal.Name x ∷ ts) (if b then Named x else Product (terms_of (number_term n ∷ Named x ∷ []))) ts
    go true = grammar.product (grammar.first_power grammar.variable) (grammar.no_factor refl)
    go false = grammar.product (grammar.first_power grammar.number) (grammar.times (grammar.first_power grammar.variable) (grammar.no_factor refl))

-- a member with its sign, behind others
member_more : (z : ℤ) (before : List TermTree) (us vs rest : Terminals) (t s : TermTree) → grammar.SpellsProduct us t vs → grammar.Members (before ++ signed_term z t ∷ []) vs s rest
    → grammar.Members before (later_mark z us) s rest
member_more (pos n) before us vs rest t s p m = grammar.plus p m
member_more (negsuc n) before us vs rest t s p m = grammar.minus p m

-- and at the front
member_first : (z : ℤ) (us vs rest : Terminals) (t s : TermTree) → grammar.SpellsProduct us t vs → grammar.Members (signed_term z t ∷ []) vs s rest → grammar.SpellsSum (first_mark z us) s rest
member_first (pos n) us vs rest t s p m = grammar.sum p m
member_first (negsuc n) us vs rest t s p m = grammar.minus_sum p m

constant_spelled : (c : ℤ) (before : List TermTree) (rest : Terminals) (s : TermTree) → s ≡ sum_of (before ++ later_constant_terms c) → grammar.Members before (constant_terminals c rest) s rest
constant_spelled c before rest s e = go (int_eq c (pos 0)) e
  where
    go : (b : Bool) → s ≡ sum_of (before ++ (if b then [] else constant_term c ∷ [])) → grammar.Members before (if b then rest else later_mark c (number (unsigned_abs c) ∷ rest)) s rest
    go true e = grammar.no_member (e ∙ ap sum_of (no_more before))
    go false e = member_more c before (number (unsigned_abs c) ∷ rest) rest rest (number_term (unsigned_abs c)) s (number_spelled (unsigned_abs c) rest) (grammar.no_member e)

module _ (names : List (List ℕ)) where
  multiple_spelled : (u : Term) (ts : Terminals) → grammar.SpellsProduct (multiple_terminals names u ts) (factor_term (unsigned_abs u.times) (name_at names u.name)) ts
  multiple_spelled u ts = factor_spelled (unsigned_abs u.times) (name_at names u.name) ts

  later_spelled : (us : List Term) (c : ℤ) (before : List TermTree) (rest : Terminals) (s : TermTree) → s ≡ sum_of (before ++ (map (multiple_term names) us ++ later_constant_terms c))
      → grammar.Members before (later_terminals names us (constant_terminals c rest)) s rest
  later_spelled [] c before rest s e = constant_spelled c before rest s e
  later_spelled (u ∷ us) c before rest s e =
      member_more u.times before (multiple_terminals names u (later_terminals names us (constant_terminals c rest))) (later_terminals names us (constant_terminals c rest)) rest (factor_term (unsigned_abs u.times) (name_at names u.name)) s
      (multiple_spelled u (later_terminals names us (constant_terminals c rest)))
      (later_spelled us c (before ++ multiple_term names u ∷ []) rest s (e ∙ ap sum_of (sym (append_assoc before (multiple_term names u ∷ []) (map (multiple_term names) us ++ later_constant_terms c)))))

  sum_spelled : (us : List Term) (c : ℤ) (rest : Terminals) → grammar.SpellsSum (sum_terminals names us c rest) (sum_of (member_terms names us c)) rest
  sum_spelled [] c rest = member_first c (number (unsigned_abs c) ∷ rest) rest rest (number_term (unsigned_abs c)) _ (number_spelled (unsigned_abs c) rest) (grammar.no_member refl)
  sum_spelled (u ∷ us) c rest =
      member_first u.times (multiple_terminals names u (later_terminals names us (constant_terminals c rest))) (later_terminals names us (constant_terminals c rest)) rest (factor_term (unsigned_abs u.times) (name_at names u.name)) _
      (multiple_spelled u (later_terminals names us (constant_terminals c rest))) (later_spelled us c (multiple_term names u ∷ []) rest _ refl)

-- a number alone
number_sum : (n : ℕ) (ts : Terminals) → grammar.SpellsSum (number n ∷ ts) (number_term n) ts
number_sum n ts = grammar.sum (number_spelled n ts) (grammar.no_member refl)

-- ---- atoms, where they are members or arguments

atom_spelled : (names : List (List ℕ)) (a : Atom) (rest : Terminals) → grammar.SpellsNegation (atom_terminals names a rest) (whole (One (written_atom names a))) rest
atom_spelled names (Compare r f) rest =
    grammar.compared (grammar.comparison (sum_spelled names f.terms f.constant (terminal.Relation (relation_sign r) ∷ number 0 ∷ rest)) grammar.relation_sign (number_sum 0 rest))
atom_spelled names (Congruent true m f) rest =
    grammar.prime (grammar.congruence (grammar.congruent (sum_spelled names f.terms f.constant _) (number_sum 0 _) (number_sum m _)))
atom_spelled names (Congruent false m f) rest =
    grammar.prime (grammar.congruence (grammar.incongruent (sum_spelled names f.terms f.constant _) (number_sum 0 _) (number_sum m _)))

-- ---- looser

to_conjunction : {ts rest : Terminals} {f : Written} → grammar.SpellsNegation ts f rest → grammar.SpellsConjunction ts f rest
to_conjunction n = grammar.conjunction n (grammar.no_conjunct refl)

from_conjunction : {ts rest : Terminals} {f : Written} → grammar.SpellsConjunction ts f rest → grammar.SpellsDisjunction ts f rest
from_conjunction n = grammar.disjunction n (grammar.no_disjunct refl)

from_implication : {ts rest : Terminals} {f : Written} → grammar.SpellsImplication ts f rest → grammar.SpellsFormula ts f rest
from_implication n = grammar.equivalence (grammar.replication n (grammar.no_repl refl)) (grammar.no_equiv refl)

from_disjunction : {ts rest : Terminals} {f : Written} → grammar.SpellsDisjunction ts f rest → grammar.SpellsFormula ts f rest
from_disjunction n = from_implication (grammar.no_implication n)

to_disjunction : {ts rest : Terminals} {f : Written} → grammar.SpellsNegation ts f rest → grammar.SpellsDisjunction ts f rest
to_disjunction n = from_conjunction (to_conjunction n)

to_implication : {ts rest : Terminals} {f : Written} → grammar.SpellsNegation ts f rest → grammar.SpellsImplication ts f rest
to_implication n = grammar.no_implication (to_disjunction n)

to_formula : {ts rest : Terminals} {f : Written} → grammar.SpellsNegation ts f rest → grammar.SpellsFormula ts f rest
to_formula n = from_disjunction (to_disjunction n)

-- ---- formulas

-- the members as a list, none of which has a command inside
abbrev listed : FormulaTrees → List Written
listed none = []
listed (also f fs) = whole f ∷ listed fs

listed_back : (fs : FormulaTrees) → all_of (listed fs) ≡ whole fs
listed_back none = refl
listed_back (also f fs) = ap (over_both also (whole f)) (listed_back fs)

module _ (names : List (List ℕ)) where
  abbrev written : Tree → Written
  written f = whole (written_formula names f)

  abbrev all_written : Trees → FormulaTrees
  all_written fs = all_replaced (λ a. One (written_atom names a)) (name_at names) fs

  -- the terminals spell the formula, as a whole and where it is a member or an argument
  record Spelling (f : Tree) : Type 0 where
    formula : (rest : Terminals) → grammar.SpellsFormula (tree_terminals names f rest) (written f) rest
    argument : (rest : Terminals) → grammar.SpellsNegation (bracketed (is_compound f) (tree_terminals names f) rest) (written f) rest

  -- one that stands without parentheses
  bare : (f : Tree) → is_compound f ≡ false → ((rest : Terminals) → grammar.SpellsNegation (tree_terminals names f rest) (written f) rest) → Spelling f
  bare f e n = record {
    formula = λ rest. to_formula (n rest);
    argument = λ rest. subst (λ b. grammar.SpellsNegation (bracketed b (tree_terminals names f) rest) (written f) rest) (sym e) (n rest);
  }

  -- one that stands in parentheses
  compound : (f : Tree) → is_compound f ≡ true → ((rest : Terminals) → grammar.SpellsFormula (tree_terminals names f rest) (written f) rest) → Spelling f
  compound f e n = record {
    formula = n;
    argument = λ rest. subst (λ b. grammar.SpellsNegation (bracketed b (tree_terminals names f) rest) (written f) rest) (sym e) (grammar.prime (grammar.inner_formula (n (terminal.Mark mark.Close ∷ rest))));
  }

  mutual
    spelled : (f : Tree) → HasTwoMembers f → Spelling f
    spelled Yes h = bare Yes refl (λ rest. grammar.prime grammar.truth)
    spelled No h = bare No refl (λ rest. grammar.prime grammar.falsity)
    spelled (One a) h = bare (One a) refl (λ rest. atom_spelled names a rest)
    spelled (Not f) h = let s = spelled f h in compound (Not f) refl (λ rest. to_formula (grammar.negation (s.argument rest)))
    spelled (And none) h = absurd h.0
    spelled (And (also f none)) h = absurd h.0
    spelled (And (also f (also g fs))) h =
        let s = spelled f h.1.0 in
        compound (And (also f (also g fs))) refl (λ rest. from_disjunction (from_conjunction (grammar.conjunction (s.argument _)
        (conjuncts_spelled (also g fs) h.1.1 (written f ∷ []) rest _ (ap (λ gs. over And (over_both also (written f) (over_both also (written g) gs))) (sym (listed_back (all_written fs))))))))
    spelled (Or none) h = absurd h.0
    spelled (Or (also f none)) h = absurd h.0
    spelled (Or (also f (also g fs))) h =
        let s = spelled f h.1.0 in
        compound (Or (also f (also g fs))) refl (λ rest. from_disjunction (grammar.disjunction (to_conjunction (s.argument _))
        (disjuncts_spelled (also g fs) h.1.1 (written f ∷ []) rest _ (ap (λ gs. over Or (over_both also (written f) (over_both also (written g) gs))) (sym (listed_back (all_written fs)))))))
    spelled (Impl f g) h =
        let s = spelled f h.0 in let t = spelled g h.1 in
        compound (Impl f g) refl (λ rest. from_implication (grammar.implication (to_disjunction (s.argument _)) (to_implication (t.argument rest))))
    spelled (Repl f g) h =
        let s = spelled f h.0 in let t = spelled g h.1 in
        compound (Repl f g) refl (λ rest. grammar.equivalence (grammar.replication (to_implication (s.argument _)) (grammar.repl (to_implication (t.argument rest)) (grammar.no_repl refl))) (grammar.no_equiv refl))
    spelled (Equiv f g) h =
        let s = spelled f h.0 in let t = spelled g h.1 in
        compound (Equiv f g) refl (λ rest. grammar.equivalence (grammar.replication (to_implication (s.argument _)) (grammar.no_repl refl)) (grammar.equiv (grammar.replication (to_implication (t.argument rest)) (grammar.no_repl refl)) (grammar.no_equiv refl)))
    spelled (Ex x f) h = let s = spelled f h in bare (Ex x f) refl (λ rest. grammar.prime (grammar.exists grammar.one_name (s.formula _) refl))
    spelled (All x f) h = let s = spelled f h in bare (All x f) refl (λ rest. grammar.prime (grammar.for_all grammar.one_name (s.formula _) refl))

    conjuncts_spelled : (fs : Trees) → HaveTwoMembers fs → (before : List Written) (rest : Terminals) (g : Written) → g ≡ conjunction_of (before ++ listed (all_written fs)) → grammar.Conjuncts before (more_terminals names word.And fs rest) g rest
    conjuncts_spelled none h before rest g e = grammar.no_conjunct (e ∙ ap conjunction_of (no_more before))
    conjuncts_spelled (also f fs) h before rest g e =
        let s = spelled f h.0 in
        grammar.conjunct (s.argument _) (conjuncts_spelled fs h.1 (before ++ written f ∷ []) rest g (e ∙ ap conjunction_of (sym (append_assoc before (written f ∷ []) (listed (all_written fs))))))

    disjuncts_spelled : (fs : Trees) → HaveTwoMembers fs → (before : List Written) (rest : Terminals) (g : Written) → g ≡ disjunction_of (before ++ listed (all_written fs)) → grammar.Disjuncts before (more_terminals names word.Or fs rest) g rest
    disjuncts_spelled none h before rest g e = grammar.no_disjunct (e ∙ ap disjunction_of (no_more before))
    disjuncts_spelled (also f fs) h before rest g e =
        let s = spelled f h.0 in
        grammar.disjunct (to_conjunction (s.argument _)) (disjuncts_spelled fs h.1 (before ++ written f ∷ []) rest g (e ∙ ap disjunction_of (sym (append_assoc before (written f ∷ []) (listed (all_written fs))))))

-- ---- the statement

no_command : (f : FormulaTree) → command_alone f alone ≡ None
no_command (One (Bound [])) = refl
no_command _ = refl

-- a formula in which no command stands is printed as it is
printed_whole : (f : FormulaTree) → about Echo (whole f) ≡ result_of (whole f)
printed_whole f = ap (λ o. elim o [ None ↦ about Echo (whole f) | Some n ↦ command_in n ]) (sym (no_command f))

pub line_spelled : (names : List (List ℕ)) (f : Tree) → HasTwoMembers f → grammar.SpellsStatement (line_terminals names f) (printed_echo (written_formula names f))
line_spelled names f h =
    let s = spelled names f h in
    grammar.acting {printed = true} (grammar.result (grammar.resulting {c = about Echo (whole (written_formula names f))} (s.formula _) (printed_whole (written_formula names f)))) refl
