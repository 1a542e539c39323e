-- What proper terminals spell can be written, and leaves proper terminals.
use Rattle.std.proofs.Common.{lit<, ◌^◌, ◌≡◌, ℕ, zero, suc, ◌+◌, ◌<◌, true, List, [], ◌∷◌, ◌++◌, length, sym, refl, ap, ap₂, subst, arith, lt-ltb, le-ltb}
use Rattle.std.specs.Prelude.{ℤ, negsuc, neg_ℤ, unsigned_abs, pos, Some, None}
use Rattle.std.specs.List.{AllByRecursion}
use Rattle.std.proofs.lemmas.Int.{ints}
use Rattle.std.proofs.lemmas.List.{length-replicate}
use Rattle.logic_meaning.specs.Formula.{Yes, No, One, Not, And, Or, Impl, Repl, Equiv, Ex, All}
use Rattle.logic_meaning.specs.Formula as plain
use Rattle.logic_meaning.specs.Replaced.{all_replaced}
use Rattle.logic_meaning.specs.Shape.{quantified}
use Rattle.logic_meaning.specs.declared.quantifier.Quantifier.{Quantifier}
use Rattle.logic_meaning.specs.declared.quantifier.Quantifier.TheVariants.{Exists, ForAll}
use Rattle.language_meaning.specs.declared.tree.Literal.{Literal}
use Rattle.language_meaning.specs.declared.tree.Literal.TheVariants.{Fits, Past}
use Rattle.language_meaning.specs.declared.tree.Relation.{Relation}
use Rattle.language_meaning.specs.declared.entries.PointEntry.{PointEntry}
use Rattle.language_meaning.specs.Names.{IsVariable}
use Rattle.language_meaning.specs.Trees.{TermTree, Negative, terms_of, WrittenAtom, Compare, Cong, Ncong, Bound, FormulaTree, FormulaTrees}
use Rattle.language_meaning.specs.Holes.{InnerTree, Nest, Nests, nest, inner_name, together, command_count, command_alone, Holed, whole, over, over_both, all_of, nested_under, computed}
use Rattle.language_meaning.specs.Holes as inside
use Rattle.written_syntax.specs.Proper.{IsNumeral, IsSigned}
use Rattle.written_syntax.specs.Writable.{IsWritableEntry, AreWritableEntries, IsWritableTerm, AreWritableTerms, IsWritableAtom, IsWritableFormula, AreWritableFormulas}
use Rattle.language_meaning.specs.declared.grid.Ratio.{Ratio}
use Rattle.language_meaning.specs.declared.grid.GridAxis.{GridAxis}
use Rattle.language_meaning.specs.Constraints.{is_constraint, is_weak_constraint}
use Rattle.written_syntax.specs.ConstraintLists.{AreConstraints, AreWeakConstraints}
use Rattle.language_meaning.specs.Statements.{CommandTree, Echo, ActionTree, Ignored, Finish, Choose, Retract, StatementTree}
use Rattle.language_meaning.specs.Inner.{WithInner, bare, about, command_in, command_of}
use Rattle.written_syntax.specs.StatementSyntaxWritable.{IsWritableRatio, IsWritableAxis, AreWritableNumbers, unanswered_atom, unanswered, IsFormulaBeside, IsCommandOver, IsActionOver, IsInnerOver, IsWritableAction, IsWritableNest, AreWritableNests, IsWritable}
use Rattle.language_meaning.specs.declared.terminal.Terminal.{Terminal}
use Rattle.language_meaning.specs.declared.terminal.Terminal.TheVariants as terminal
use Rattle.language_meaning.specs.declared.terminal.Mark.TheVariants as mark
use Rattle.language_meaning.specs.declared.terminal.Word.{Word}
use Rattle.redlog_tokens.proofs.ProperTokens.{AreProperTerminals}
use Rattle.language_meaning.specs.declared.inner_word.InnerWord.{InnerWord}
use Rattle.language_meaning.specs.declared.inner_word.InnerWord.TheVariants as begins
use Rattle.language_meaning.specs.Grammar.{Written, product_of, sum_of, conjunction_of, disjunction_of, quantified_names, command, SpellsFactor, number, variable, inner_sum, SpellsPower, first_power, raised, SpellsProduct, product, Factors, no_factor, times, quotient, SpellsSum, sum, plus_sum, minus_sum, Members, no_member, plus, minus, IsRelation, relation_sign, relation_word, SpellsComparison, comparison, SpellsCongruence, congruent, incongruent, SpellsAtom, compared_atom, congruent_atom, Listed, last_item, more_items, Braced, empty, listed, SpellsAtoms, Names, last_name, more_names, SpellsNames, one_name, many_names, SpellsPrime, truth, falsity, named_formula, congruence, inner_formula, exists, for_all, inner_command, inner_under, SpellsNegation, negation, compared, prime, SpellsConjunction, conjunction, Conjuncts, no_conjunct, conjunct, SpellsDisjunction, disjunction, Disjuncts, no_disjunct, disjunct, SpellsImplication, no_implication, implication, SpellsReplication, replication, Repls, no_repl, repl, SpellsFormula, equivalence, Equivs, no_equiv, equiv, opposite, Above, unsigned, opposed, Below, one, divided, SpellsEntry, entry, SpellsPoint, SpellsArgument, alone, under, SpellsResult, resulting, SpellsRatio, ratio, SpellsAxis, axis, SpellsBound, bound, SpellsBounds, SpellsWeak, weak, SpellsWeaks, SpellsWholes, SpellsQuery, qea, holds, witness, grid, certify, check, least, SpellsAction, assign, result, query, choose, load, on, off, assume, retract, end, bye, quit, SpellsStatement, nothing, acting}

after_relation : {t : Terminal} {r : Relation} (ts : List Terminal) → IsRelation t r → AreProperTerminals (t ∷ ts) → AreProperTerminals ts
after_relation ts relation_sign h = h
after_relation ts relation_word h = h

-- a list with a member, each of them proper
abbrev ProperTerms : List TermTree → Type 0
ProperTerms [] = ⊥
ProperTerms (t ∷ ts) = IsWritableTerm t × AreWritableTerms (terms_of ts)

all_terms : (ts : List TermTree) (t : TermTree) → AreWritableTerms (terms_of ts) → IsWritableTerm t → AreWritableTerms (terms_of (ts ++ t ∷ []))
all_terms [] t h p = (p, tt)
all_terms (s ∷ ts) t h p = (h.0, all_terms ts t h.1 p)

more_terms : (ts : List TermTree) (t : TermTree) → ProperTerms ts → IsWritableTerm t → ProperTerms (ts ++ t ∷ [])
more_terms [] t h p = absurd h
more_terms (s ∷ ts) t h p = (h.0, all_terms ts t h.1 p)

proper_of_product : (ts : List TermTree) → ProperTerms ts → IsWritableTerm (product_of ts)
proper_of_product [] h = absurd h
proper_of_product (t ∷ []) h = h.0
proper_of_product (t ∷ u ∷ ts) h = (tt, (h.0, h.1))

proper_of_sum : (ts : List TermTree) → ProperTerms ts → IsWritableTerm (sum_of ts)
proper_of_sum [] h = absurd h
proper_of_sum (t ∷ []) h = h.0
proper_of_sum (t ∷ u ∷ ts) h = (tt, (h.0, h.1))

mutual
  proper_factor : {ts r : List Terminal} {t : TermTree} → SpellsFactor ts t r → AreProperTerminals ts → IsWritableTerm t × AreProperTerminals r
  proper_factor number h = (h.0, h.1)
  proper_factor variable h = (h.0, h.1)
  proper_factor (inner_sum p) h = let a = proper_spelled_sum p h in (a.0, a.1)

  proper_power : {ts r : List Terminal} {t : TermTree} → SpellsPower ts t r → AreProperTerminals ts → IsWritableTerm t × AreProperTerminals r
  proper_power (first_power p) h = proper_factor p h
  proper_power (raised p) h = let a = proper_factor p h in ((a.0, a.1.0), a.1.1)

  proper_product : {ts r : List Terminal} {t : TermTree} → SpellsProduct ts t r → AreProperTerminals ts → IsWritableTerm t × AreProperTerminals r
  proper_product (product p m) h = let a = proper_power p h in proper_factors m (a.0, tt) a.1

  proper_factors : {before : List TermTree} {ts r : List Terminal} {t : TermTree} → Factors before ts t r → ProperTerms before → AreProperTerminals ts → IsWritableTerm t × AreProperTerminals r
  proper_factors {before = before} (no_factor is) b h = (subst IsWritableTerm (sym is) (proper_of_product before b), h)
  proper_factors {before = before} (times {t = t} p m) b h = let a = proper_power p h in proper_factors m (more_terms before t b a.0) a.1
  proper_factors {before = before} (quotient {t = t} p m) b h = let a = proper_power p h in proper_factors m ((proper_of_product before b, a.0), tt) a.1

  proper_spelled_sum : {ts r : List Terminal} {t : TermTree} → SpellsSum ts t r → AreProperTerminals ts → IsWritableTerm t × AreProperTerminals r
  proper_spelled_sum (sum p m) h = let a = proper_product p h in proper_members m (a.0, tt) a.1
  proper_spelled_sum (plus_sum p m) h = let a = proper_product p h in proper_members m (a.0, tt) a.1
  proper_spelled_sum (minus_sum p m) h = let a = proper_product p h in proper_members m (a.0, tt) a.1

  proper_members : {before : List TermTree} {ts r : List Terminal} {t : TermTree} → Members before ts t r → ProperTerms before → AreProperTerminals ts → IsWritableTerm t × AreProperTerminals r
  proper_members {before = before} (no_member is) b h = (subst IsWritableTerm (sym is) (proper_of_sum before b), h)
  proper_members {before = before} (plus {t = t} p m) b h = let a = proper_product p h in proper_members m (more_terms before t b a.0) a.1
  proper_members {before = before} (minus {t = t} p m) b h = let a = proper_product p h in proper_members m (more_terms before (Negative t) b a.0) a.1

-- the formulas with true in the places of answers
abbrev all_unanswered : FormulaTrees → FormulaTrees
all_unanswered fs = all_replaced unanswered_atom (λ x. x) fs

-- the formulas can be written, where these commands stand inside them and their answers have names
abbrev AreFormulasBeside : Nests → FormulaTrees → Type 0
AreFormulasBeside inside.alone fs = AreWritableFormulas fs
AreFormulasBeside (inside.beside n ns) fs = AreWritableFormulas (all_unanswered fs)

-- ---- a formula that can be written has no name of an answer, so true in the place of answers leaves it as it is

same_atom : (a : WrittenAtom) → IsWritableAtom a → unanswered_atom a ≡ One a
same_atom (Compare rel s t) h = refl
same_atom (Cong s t m) h = refl
same_atom (Ncong s t m) h = refl
same_atom (Bound x) h = rw (le-ltb 64 (length x) h.few) refl

mutual
  unanswered_same : (f : FormulaTree) → IsWritableFormula f → unanswered f ≡ f
  unanswered_same Yes h = refl
  unanswered_same No h = refl
  unanswered_same (One a) h = same_atom a h
  unanswered_same (Not f) h = ap Not (unanswered_same f h)
  unanswered_same (And fs) h = ap And (all_same fs h.1)
  unanswered_same (Or fs) h = ap Or (all_same fs h.1)
  unanswered_same (Impl f g) h = ap₂ Impl (unanswered_same f h.0) (unanswered_same g h.1)
  unanswered_same (Repl f g) h = ap₂ Repl (unanswered_same f h.0) (unanswered_same g h.1)
  unanswered_same (Equiv f g) h = ap₂ Equiv (unanswered_same f h.0) (unanswered_same g h.1)
  unanswered_same (Ex x f) h = ap (Ex x) (unanswered_same f h.1)
  unanswered_same (All x f) h = ap (All x) (unanswered_same f h.1)

  all_same : (fs : FormulaTrees) → AreWritableFormulas fs → all_unanswered fs ≡ fs
  all_same plain.none h = refl
  all_same (plain.also f fs) h = ap₂ plain.also (unanswered_same f h.0) (all_same fs h.1)

-- so it can be written beside any commands
formula_beside : (ns : Nests) (f : FormulaTree) → IsWritableFormula f → IsFormulaBeside ns f
formula_beside inside.alone f h = h
formula_beside (inside.beside n ns) f h = subst IsWritableFormula (sym (unanswered_same f h)) h

formulas_beside : (ns : Nests) (fs : FormulaTrees) → AreWritableFormulas fs → AreFormulasBeside ns fs
formulas_beside inside.alone fs h = h
formulas_beside (inside.beside n ns) fs h = subst AreWritableFormulas (sym (all_same fs h)) h

-- what can be written beside some commands can be beside more
first_formula : (ns ms : Nests) (f : FormulaTree) → IsFormulaBeside ns f → IsFormulaBeside (together ns ms) f
first_formula inside.alone ms f h = formula_beside ms f h
first_formula (inside.beside n ns) ms f h = h

second_formula : (ns ms : Nests) (f : FormulaTree) → IsFormulaBeside ms f → IsFormulaBeside (together ns ms) f
second_formula inside.alone ms f h = h
second_formula (inside.beside n ns) inside.alone f h = formula_beside (inside.beside n ns) f h
second_formula (inside.beside n ns) (inside.beside m ms) f h = h

second_formulas : (ns ms : Nests) (fs : FormulaTrees) → AreFormulasBeside ms fs → AreFormulasBeside (together ns ms) fs
second_formulas inside.alone ms fs h = h
second_formulas (inside.beside n ns) inside.alone fs h = formulas_beside (inside.beside n ns) fs h
second_formulas (inside.beside n ns) (inside.beside m ms) fs h = h

-- ---- a formula can be written where its parts can

pair_beside : (g : FormulaTree → FormulaTree → FormulaTree) → ((a b : FormulaTree) → unanswered (g a b) ≡ g (unanswered a) (unanswered b)) → ((a b : FormulaTree) → IsWritableFormula a → IsWritableFormula b → IsWritableFormula (g a b))
    → (ns : Nests) (a b : FormulaTree) → IsFormulaBeside ns a → IsFormulaBeside ns b → IsFormulaBeside ns (g a b)
pair_beside g goes made inside.alone a b p q = made a b p q
pair_beside g goes made (inside.beside n ns) a b p q = subst IsWritableFormula (sym (goes a b)) (made (unanswered a) (unanswered b) p q)

not_beside : (ns : Nests) (f : FormulaTree) → IsFormulaBeside ns f → IsFormulaBeside ns (Not f)
not_beside inside.alone f h = h
not_beside (inside.beside n ns) f h = h

quantified_beside : (quantifier : Quantifier) (ns : Nests) (x : List ℕ) (f : FormulaTree) → IsVariable x → IsFormulaBeside ns f → IsFormulaBeside ns (quantified quantifier x f)
quantified_beside ForAll inside.alone x f v h = (v, h)
quantified_beside ForAll (inside.beside n ns) x f v h = (v, h)
quantified_beside Exists inside.alone x f v h = (v, h)
quantified_beside Exists (inside.beside n ns) x f v h = (v, h)

also_beside : (ns : Nests) (f : FormulaTree) (fs : FormulaTrees) → IsFormulaBeside ns f → AreFormulasBeside ns fs → AreFormulasBeside ns (plain.also f fs)
also_beside inside.alone f fs p q = (p, q)
also_beside (inside.beside n ns) f fs p q = (p, q)

and_beside : (ns : Nests) (f g : FormulaTree) (fs : FormulaTrees) → AreFormulasBeside ns (plain.also f (plain.also g fs)) → IsFormulaBeside ns (And (plain.also f (plain.also g fs)))
and_beside inside.alone f g fs h = (tt, h)
and_beside (inside.beside n ns) f g fs h = (tt, h)

or_beside : (ns : Nests) (f g : FormulaTree) (fs : FormulaTrees) → AreFormulasBeside ns (plain.also f (plain.also g fs)) → IsFormulaBeside ns (Or (plain.also f (plain.also g fs)))
or_beside inside.alone f g fs h = (tt, h)
or_beside (inside.beside n ns) f g fs h = (tt, h)

-- the name of an answer is longer than each that a script can write
answer_beside : (n : Nest) (k : ℕ) → IsFormulaBeside (inside.beside n inside.alone) (One (Bound (inner_name k)))
answer_beside n k = rw (lt-ltb 64 (length (inner_name k)) (omega (arith, length-replicate {A = ℕ} (65 + k) 0))) tt

all_nests : (ns ms : Nests) → AreWritableNests ns → AreWritableNests ms → AreWritableNests (together ns ms)
all_nests inside.alone ms h k = k
all_nests (inside.beside n ns) ms h k = (h.0, all_nests ns ms h.1 k)

-- ---- formulas that can be written, and so can the commands inside them

pub record IsWritten (f : Written) : Type 0 where
  pub named : (k : ℕ) → IsFormulaBeside f.inner (f.named k)
  pub inner : AreWritableNests f.inner

pub record AreWritten (fs : Holed FormulaTrees) : Type 0 where
  pub named : (k : ℕ) → AreFormulasBeside fs.inner (fs.named k)
  pub inner : AreWritableNests fs.inner

-- the same, with no name of an answer: so no command stands in what a command assumes
pub record IsPlain (f : Written) : Type 0 where
  pub named : (k : ℕ) → IsWritableFormula (f.named k)
  pub inner : AreWritableNests f.inner

pub record ArePlain (fs : Holed FormulaTrees) : Type 0 where
  pub named : (k : ℕ) → AreWritableFormulas (fs.named k)
  pub inner : AreWritableNests fs.inner

plain_written : (f : Written) → IsPlain f → IsWritten f
plain_written f p = record { named = λ k. formula_beside f.inner (f.named k) (p.named k); inner = p.inner }

plain_whole : (f : FormulaTree) → IsWritableFormula f → IsPlain (whole f)
plain_whole f h = record { named = λ k. h; inner = tt }

plain_all : (fs : List Written) → AllByRecursion IsPlain fs → ArePlain (all_of fs)
plain_all [] h = record { named = λ k. tt; inner = tt }
plain_all (f ∷ fs) h = let rest = plain_all fs h.1 in record {
  named = λ k. (h.0.named k, rest.named (k + command_count f.inner));
  inner = all_nests f.inner (all_of fs).inner h.0.inner rest.inner;
}

written_whole : (f : FormulaTree) → IsWritableFormula f → IsWritten (whole f)
written_whole f h = record { named = λ k. h; inner = tt }

written_pair : (g : FormulaTree → FormulaTree → FormulaTree) → ((a b : FormulaTree) → unanswered (g a b) ≡ g (unanswered a) (unanswered b)) → ((a b : FormulaTree) → IsWritableFormula a → IsWritableFormula b → IsWritableFormula (g a b))
    → (f h : Written) → IsWritten f → IsWritten h → IsWritten (over_both g f h)
written_pair g goes made f h p q = record {
  named = λ k.
      let later = k + command_count f.inner in
      pair_beside g goes made (together f.inner h.inner) (f.named k) (h.named later) (first_formula f.inner h.inner (f.named k) (p.named k)) (second_formula f.inner h.inner (h.named later) (q.named later));
  inner = all_nests f.inner h.inner p.inner q.inner;
}

written_also : (f : Written) (fs : Holed FormulaTrees) → IsWritten f → AreWritten fs → AreWritten (over_both plain.also f fs)
written_also f fs p q = record {
  named = λ k.
      let later = k + command_count f.inner in
      also_beside (together f.inner fs.inner) (f.named k) (fs.named later) (first_formula f.inner fs.inner (f.named k) (p.named k)) (second_formulas f.inner fs.inner (fs.named later) (q.named later));
  inner = all_nests f.inner fs.inner p.inner q.inner;
}

written_all : (fs : List Written) → AllByRecursion IsWritten fs → AreWritten (all_of fs)
written_all [] h = record { named = λ k. tt; inner = tt }
written_all (f ∷ fs) h = written_also f (all_of fs) h.0 (written_all fs h.1)

proper_comparison : {ts r : List Terminal} {f : Written} → SpellsComparison ts f r → AreProperTerminals ts → IsPlain f × AreProperTerminals r
proper_comparison (comparison {us = us} p is q) h = let a = proper_spelled_sum p h in let b = proper_spelled_sum q (after_relation us is a.1) in (plain_whole _ (a.0, b.0), b.1)

proper_congruence : {ts r : List Terminal} {f : Written} → SpellsCongruence ts f r → AreProperTerminals ts → IsPlain f × AreProperTerminals r
proper_congruence (congruent p q m) h = let a = proper_spelled_sum p h in let b = proper_spelled_sum q a.1 in let c = proper_spelled_sum m b.1 in (plain_whole _ (a.0, b.0, c.0), c.1)
proper_congruence (incongruent p q m) h = let a = proper_spelled_sum p h in let b = proper_spelled_sum q a.1 in let c = proper_spelled_sum m b.1 in (plain_whole _ (a.0, b.0, c.0), c.1)

pub proper_atom : {ts r : List Terminal} {f : Written} → SpellsAtom ts f r → AreProperTerminals ts → IsPlain f × AreProperTerminals r
proper_atom (compared_atom p) h = proper_comparison p h
proper_atom (congruent_atom p) h = proper_congruence p h

proper_items : {X : Type 0} {Item : List Terminal → X → List Terminal → Type 0} {P : X → Type 0} → ((us rest : List Terminal) (x : X) → Item us x rest → AreProperTerminals us → P x × AreProperTerminals rest)
    → {ts r : List Terminal} {xs : List X} → Listed Item ts xs r → AreProperTerminals ts → AllByRecursion P xs × AreProperTerminals r
proper_items each {r = r} (last_item {ts = ts} {x = x} p) h = let a = each ts r x p h in ((a.0, tt), a.1)
proper_items each (more_items {ts = ts} {us = us} {x = x} p m) h = let a = each ts (terminal.Mark mark.Comma ∷ us) x p h in let b = proper_items each m a.1 in ((a.0, b.0), b.1)

proper_braced : {X : Type 0} {Item : List Terminal → X → List Terminal → Type 0} {P : X → Type 0} → ((us rest : List Terminal) (x : X) → Item us x rest → AreProperTerminals us → P x × AreProperTerminals rest)
    → {ts r : List Terminal} {xs : List X} → Braced Item ts xs r → AreProperTerminals ts → AllByRecursion P xs × AreProperTerminals r
proper_braced each empty h = (tt, h)
proper_braced each (listed p) h = let a = proper_items each p h in (a.0, a.1)

proper_atoms : {ts r : List Terminal} {fs : List Written} → SpellsAtoms ts fs r → AreProperTerminals ts → ArePlain (all_of fs) × AreProperTerminals r
proper_atoms {fs = fs} p h = let a = proper_braced {P = IsPlain} (λ us rest x q k. proper_atom q k) p h in (plain_all fs a.0, a.1)

proper_list : {ts r : List Terminal} {xs : List (List ℕ)} → Names ts xs r → AreProperTerminals ts → AllByRecursion IsVariable xs × AreProperTerminals r
proper_list last_name h = ((h.0, tt), h.1)
proper_list (more_names p) h = let a = proper_list p h.1 in ((h.0, a.0), a.1)

proper_names : {ts r : List Terminal} {xs : List (List ℕ)} → SpellsNames ts xs r → AreProperTerminals ts → AllByRecursion IsVariable xs × AreProperTerminals r
proper_names one_name h = ((h.0, tt), h.1)
proper_names (many_names p) h = let a = proper_list p h in (a.0, a.1)

proper_quantifier : (quantifier : Quantifier) (x : List ℕ) (f : Written) → IsVariable x → IsWritten f → IsWritten (over (quantified quantifier x) f)
proper_quantifier quantifier x f v h = record { named = λ k. quantified_beside quantifier f.inner x (f.named k) v (h.named k); inner = h.inner }

proper_quantified : (quantifier : Quantifier) (xs : List (List ℕ)) (f : Written) → AllByRecursion IsVariable xs → IsWritten f → IsWritten (quantified_names quantifier xs f)
proper_quantified quantifier [] f v h = h
proper_quantified quantifier (x ∷ xs) f v h = proper_quantifier quantifier x (quantified_names quantifier xs f) v.0 (proper_quantified quantifier xs f v.1 h)

-- a list with a member, each of them proper
abbrev ProperFormulas : List Written → Type 0
ProperFormulas [] = ⊥
ProperFormulas (f ∷ fs) = IsWritten f × AllByRecursion IsWritten fs

all_formulas : (fs : List Written) (f : Written) → AllByRecursion IsWritten fs → IsWritten f → AllByRecursion IsWritten (fs ++ f ∷ [])
all_formulas [] f h p = (p, tt)
all_formulas (g ∷ fs) f h p = (h.0, all_formulas fs f h.1 p)

more_formulas : (fs : List Written) (f : Written) → ProperFormulas fs → IsWritten f → ProperFormulas (fs ++ f ∷ [])
more_formulas [] f h p = absurd h
more_formulas (g ∷ fs) f h p = (h.0, all_formulas fs f h.1 p)

proper_and : (fs : List Written) → ProperFormulas fs → IsWritten (conjunction_of fs)
proper_and [] h = absurd h
proper_and (f ∷ []) h = h.0
proper_and (f ∷ g ∷ fs) h =
    let all = written_all (f ∷ g ∷ fs) h in
    record {
      named = λ k. and_beside (all_of (f ∷ g ∷ fs)).inner (f.named k) (g.named (k + command_count f.inner)) ((all_of fs).named (k + command_count f.inner + command_count g.inner)) (all.named k);
      inner = all.inner;
    }

proper_or : (fs : List Written) → ProperFormulas fs → IsWritten (disjunction_of fs)
proper_or [] h = absurd h
proper_or (f ∷ []) h = h.0
proper_or (f ∷ g ∷ fs) h =
    let all = written_all (f ∷ g ∷ fs) h in
    record {
      named = λ k. or_beside (all_of (f ∷ g ∷ fs)).inner (f.named k) (g.named (k + command_count f.inner)) ((all_of fs).named (k + command_count f.inner + command_count g.inner)) (all.named k);
      inner = all.inner;
    }

-- a command over a formula and a list
under_given : (c : FormulaTree → FormulaTrees → InnerTree) → ((P : FormulaTree → Type 0) (f : FormulaTree) (fs : FormulaTrees) → P f → AreWritableFormulas fs → IsInnerOver P (c f fs)) → (f : Written) (given : Holed FormulaTrees) → IsWritten f → ArePlain given
    → IsWritableNest (nested_under c f given)
under_given c made f given p q = (
  made (IsFormulaBeside (together f.inner given.inner)) (f.named 0) (given.named (command_count f.inner)) (first_formula f.inner given.inner (f.named 0) (p.named 0)) (q.named (command_count f.inner)),
  all_nests f.inner given.inner p.inner q.inner,
)

proper_command : (i : InnerWord) (f : Written) (given : List Written) → IsWritten f → ArePlain (all_of given) → IsWritableNest (command i f given)
proper_command begins.Nnf f given p q = (p.named 0, p.inner)
proper_command begins.Pnf f given p q = (p.named 0, p.inner)
proper_command begins.Dnf f given p q = (p.named 0, p.inner)
proper_command begins.Cnf f given p q = (p.named 0, p.inner)
proper_command begins.Simpl f given p q = under_given inside.Simpl (λ P a b h k. (h, k)) f (all_of given) p q
proper_command begins.Qe f given p q = under_given inside.Qe (λ P a b h k. (h, k)) f (all_of given) p q

written_computed : (n : Nest) → IsWritableNest n → IsWritten (computed n)
written_computed n h = record { named = λ k. answer_beside n k; inner = (h, tt) }

after_word : (w : Word) (ts : List Terminal) → AreProperTerminals (terminal.Word w ∷ ts) → AreProperTerminals ts
after_word w ts h = h

mutual
  pub proper_prime : {ts r : List Terminal} {f : Written} → SpellsPrime ts f r → AreProperTerminals ts → IsWritten f × AreProperTerminals r
  proper_prime truth h = (written_whole _ tt, h)
  proper_prime falsity h = (written_whole _ tt, h)
  proper_prime named_formula h = (written_whole _ h.0, h.1)
  proper_prime (congruence {f = f} p) h = let a = proper_congruence p h in (plain_written f a.0, a.1)
  proper_prime (inner_formula p) h = let a = proper_formula p h in (a.0, a.1)
  proper_prime (exists {xs = xs} {f = f} p q is) h = let a = proper_names p h in let b = proper_formula q a.1 in (subst IsWritten (sym is) (proper_quantified Exists xs f a.0 b.0), b.1)
  proper_prime (for_all {xs = xs} {f = f} p q is) h = let a = proper_names p h in let b = proper_formula q a.1 in (subst IsWritten (sym is) (proper_quantified ForAll xs f a.0 b.0), b.1)
  proper_prime (inner_command {w = w} {i = i} {ts = ts} {f = f} e p is) h =
      let a = proper_prime p (after_word w ts h) in
      (subst IsWritten (sym is) (written_computed (command i f []) (proper_command i f [] a.0 (plain_all [] tt))), a.1)
  proper_prime (inner_under {w = w} {i = i} {ts = ts} {f = f} {given = given} e takes p q is) h =
      let a = proper_formula p (after_word w (terminal.Mark mark.Open ∷ ts) h) in
      let b = proper_atoms q a.1 in
      (subst IsWritten (sym is) (written_computed (command i f given) (proper_command i f given a.0 b.0)), b.1)

  proper_negation : {ts r : List Terminal} {f : Written} → SpellsNegation ts f r → AreProperTerminals ts → IsWritten f × AreProperTerminals r
  proper_negation (negation {f = f} p) h = let a = proper_negation p h in (record { named = λ k. not_beside f.inner (f.named k) (a.0.named k); inner = a.0.inner }, a.1)
  proper_negation (compared {f = f} p) h = let a = proper_comparison p h in (plain_written f a.0, a.1)
  proper_negation (prime p) h = proper_prime p h

  proper_conjunction : {ts r : List Terminal} {f : Written} → SpellsConjunction ts f r → AreProperTerminals ts → IsWritten f × AreProperTerminals r
  proper_conjunction (conjunction p m) h = let a = proper_negation p h in proper_conjuncts m (a.0, tt) a.1

  proper_conjuncts : {before : List Written} {ts r : List Terminal} {f : Written} → Conjuncts before ts f r → ProperFormulas before → AreProperTerminals ts → IsWritten f × AreProperTerminals r
  proper_conjuncts {before = before} (no_conjunct is) b h = (subst IsWritten (sym is) (proper_and before b), h)
  proper_conjuncts {before = before} (conjunct {f = f} p m) b h = let a = proper_negation p h in proper_conjuncts m (more_formulas before f b a.0) a.1

  proper_disjunction : {ts r : List Terminal} {f : Written} → SpellsDisjunction ts f r → AreProperTerminals ts → IsWritten f × AreProperTerminals r
  proper_disjunction (disjunction p m) h = let a = proper_conjunction p h in proper_disjuncts m (a.0, tt) a.1

  proper_disjuncts : {before : List Written} {ts r : List Terminal} {f : Written} → Disjuncts before ts f r → ProperFormulas before → AreProperTerminals ts → IsWritten f × AreProperTerminals r
  proper_disjuncts {before = before} (no_disjunct is) b h = (subst IsWritten (sym is) (proper_or before b), h)
  proper_disjuncts {before = before} (disjunct {f = f} p m) b h = let a = proper_conjunction p h in proper_disjuncts m (more_formulas before f b a.0) a.1

  proper_implication : {ts r : List Terminal} {f : Written} → SpellsImplication ts f r → AreProperTerminals ts → IsWritten f × AreProperTerminals r
  proper_implication (no_implication p) h = proper_disjunction p h
  proper_implication (implication {f = f} {g = g} p q) h = let a = proper_disjunction p h in let b = proper_implication q a.1 in (written_pair Impl (λ x y. refl) (λ x y u v. (u, v)) f g a.0 b.0, b.1)

  proper_replication : {ts r : List Terminal} {f : Written} → SpellsReplication ts f r → AreProperTerminals ts → IsWritten f × AreProperTerminals r
  proper_replication (replication p m) h = let a = proper_implication p h in proper_repls m a.0 a.1

  proper_repls : {before : Written} {ts r : List Terminal} {f : Written} → Repls before ts f r → IsWritten before → AreProperTerminals ts → IsWritten f × AreProperTerminals r
  proper_repls (no_repl is) b h = (subst IsWritten (sym is) b, h)
  proper_repls {before = before} (repl {f = f} p m) b h = let a = proper_implication p h in proper_repls m (written_pair Repl (λ x y. refl) (λ x y u v. (u, v)) before f b a.0) a.1

  pub proper_formula : {ts r : List Terminal} {f : Written} → SpellsFormula ts f r → AreProperTerminals ts → IsWritten f × AreProperTerminals r
  proper_formula (equivalence p m) h = let a = proper_replication p h in proper_equivs m a.0 a.1

  proper_equivs : {before : Written} {ts r : List Terminal} {f : Written} → Equivs before ts f r → IsWritten before → AreProperTerminals ts → IsWritten f × AreProperTerminals r
  proper_equivs (no_equiv is) b h = (subst IsWritten (sym is) b, h)
  proper_equivs {before = before} (equiv {f = f} p m) b h = let a = proper_replication p h in proper_equivs m (written_pair Equiv (λ x y. refl) (λ x y u v. (u, v)) before f b a.0) a.1

abs_neg : (n : ℤ) → unsigned_abs (neg_ℤ n) ≡ unsigned_abs n
abs_neg (pos zero) = refl
abs_neg (pos (suc n)) = refl
abs_neg (negsuc n) = refl

signed_numeral : (n : Literal) → IsNumeral n → IsSigned n
signed_numeral (Fits n) h = h.1
signed_numeral Past h = tt

signed_opposite : (n : Literal) → IsNumeral n → IsSigned (opposite n)
signed_opposite (Fits n) h = subst (λ m. m < 2 ^ 127) (sym (abs_neg n)) h.1
signed_opposite Past h = tt

pub proper_above : {ts r : List Terminal} {n : Literal} → Above ts n r → AreProperTerminals ts → IsSigned n × AreProperTerminals r
proper_above (unsigned {n = n}) h = (signed_numeral n h.0, h.1)
proper_above (opposed {n = n} is) h = (subst IsSigned (sym is) (signed_opposite n h.0), h.1)

one_is_numeral : IsNumeral (Fits (pos 1))
one_is_numeral = (omega (arith, ints), lit< tt)

proper_below : {ts r : List Terminal} {n : Literal} → Below ts n r → AreProperTerminals ts → IsNumeral n × AreProperTerminals r
proper_below one h = (one_is_numeral, h)
proper_below divided h = (h.0, h.1)

pub proper_entry : {ts r : List Terminal} {e : PointEntry} → SpellsEntry ts e r → AreProperTerminals ts → IsWritableEntry e × AreProperTerminals r
proper_entry (entry is above below) h =
    let a = proper_above above h.1 in
    let b = proper_below below a.1 in
    ((a.0, b.0, subst IsVariable is h.0), b.1)

pub proper_point : {ts r : List Terminal} {es : List PointEntry} → SpellsPoint ts es r → AreProperTerminals ts → AreWritableEntries es × AreProperTerminals r
proper_point p h = proper_braced {P = IsWritableEntry} (λ us rest x q k. proper_entry q k) p h

proper_argument : {ts r : List Terminal} {f : Written} {given : List Written} → SpellsArgument ts f given r → AreProperTerminals ts → (IsWritten f × ArePlain (all_of given)) × AreProperTerminals r
proper_argument (alone p) h = let a = proper_prime p h in ((a.0, plain_all [] tt), a.1)
proper_argument (under p q) h =
    let a = proper_formula p h in
    let b = proper_atoms q a.1 in
    ((a.0, b.0), b.1)

-- a command that can be written, and so can those inside it
pub record IsProperCommand (c : WithInner CommandTree) : Type 0 where
  pub tree : IsCommandOver (IsFormulaBeside c.inner) c.tree
  pub inner : AreWritableNests c.inner

command_alone_proper : (P : FormulaTree → Type 0) (c : InnerTree) → IsInnerOver P c → IsCommandOver P (command_of c)
command_alone_proper P (inside.Nnf f) h = h
command_alone_proper P (inside.Pnf f) h = h
command_alone_proper P (inside.Dnf f) h = h
command_alone_proper P (inside.Cnf f) h = h
command_alone_proper P (inside.Simpl f given) h = h
command_alone_proper P (inside.Qe f given) h = h

command_in_proper : (n : Nest) → IsWritableNest n → IsProperCommand (command_in n)
command_in_proper (nest c ns) h = record { tree = command_alone_proper (IsFormulaBeside ns) c h.0; inner = h.1 }

alone_proper : (t : FormulaTree) (ns : Nests) (echo : WithInner CommandTree) → AreWritableNests ns → IsProperCommand echo → IsProperCommand (elim (command_alone t ns) [ None ↦ echo | Some n ↦ command_in n ])
alone_proper (One (Bound [])) (inside.beside n inside.alone) echo w e = command_in_proper n w.0
alone_proper t ns echo w e = e

proper_result : {ts r : List Terminal} {c : WithInner CommandTree} → SpellsResult ts c r → AreProperTerminals ts → IsProperCommand c × AreProperTerminals r
proper_result (resulting {f = f} p is) h =
    let a = proper_formula p h in
    (subst IsProperCommand (sym is) (alone_proper f.tree f.inner (about Echo f) a.0.inner (record { tree = a.0.named 0; inner = a.0.inner })), a.1)

pub proper_ratio : {ts r : List Terminal} {v : Ratio} → SpellsRatio ts v r → AreProperTerminals ts → IsWritableRatio v × AreProperTerminals r
proper_ratio (ratio above below) h =
    let a = proper_above above h in
    let b = proper_below below a.1 in
    (record { above = a.0; below = b.0 }, b.1)

pub proper_axis : {ts r : List Terminal} {a : GridAxis} → SpellsAxis ts a r → AreProperTerminals ts → IsWritableAxis a × AreProperTerminals r
proper_axis (axis is low high step) h =
    let a = proper_ratio low h.1 in
    let b = proper_ratio high a.1 in
    let c = proper_ratio step b.1 in
    (record { name = subst IsVariable is h.0; low = a.0; high = b.0; step = c.0 }, c.1)

-- a constraint that can be written
abbrev IsProperBound : Written → Type 0
IsProperBound f = IsPlain f × ((k : ℕ) → is_constraint (f.named k) ≡ true)

proper_bound : {ts r : List Terminal} {f : Written} → SpellsBound ts f r → AreProperTerminals ts → IsProperBound f × AreProperTerminals r
proper_bound (bound (comparison p is q) e) h = let a = proper_comparison (comparison p is q) h in ((a.0, λ k. e), a.1)

plain_bounds : (fs : List Written) → AllByRecursion IsProperBound fs → AllByRecursion IsPlain fs
plain_bounds [] h = tt
plain_bounds (f ∷ fs) h = (h.0.0, plain_bounds fs h.1)

all_bounds : (fs : List Written) → AllByRecursion IsProperBound fs → (k : ℕ) → AreConstraints ((all_of fs).named k)
all_bounds [] h k = tt
all_bounds (f ∷ fs) h k = (h.0.1 k, all_bounds fs h.1 (k + command_count f.inner))

pub proper_bounds : {ts r : List Terminal} {fs : List Written} → SpellsBounds ts fs r → AreProperTerminals ts → (ArePlain (all_of fs) × AreConstraints ((all_of fs).named 0)) × AreProperTerminals r
proper_bounds {fs = fs} p h = let a = proper_braced {P = IsProperBound} (λ us rest x q k. proper_bound q k) p h in ((plain_all fs (plain_bounds fs a.0), all_bounds fs a.0 0), a.1)

-- a weak constraint that can be written
abbrev IsProperWeak : Written → Type 0
IsProperWeak f = IsPlain f × ((k : ℕ) → is_weak_constraint (f.named k) ≡ true)

proper_weak : {ts r : List Terminal} {f : Written} → SpellsWeak ts f r → AreProperTerminals ts → IsProperWeak f × AreProperTerminals r
proper_weak (weak (comparison p is q) e) h = let a = proper_comparison (comparison p is q) h in ((a.0, λ k. e), a.1)

plain_weaks : (fs : List Written) → AllByRecursion IsProperWeak fs → AllByRecursion IsPlain fs
plain_weaks [] h = tt
plain_weaks (f ∷ fs) h = (h.0.0, plain_weaks fs h.1)

all_weaks : (fs : List Written) → AllByRecursion IsProperWeak fs → (k : ℕ) → AreWeakConstraints ((all_of fs).named k)
all_weaks [] h k = tt
all_weaks (f ∷ fs) h k = (h.0.1 k, all_weaks fs h.1 (k + command_count f.inner))

proper_weaks : {ts r : List Terminal} {fs : List Written} → SpellsWeaks ts fs r → AreProperTerminals ts → (ArePlain (all_of fs) × AreWeakConstraints ((all_of fs).named 0)) × AreProperTerminals r
proper_weaks {fs = fs} p h = let a = proper_braced {P = IsProperWeak} (λ us rest x q k. proper_weak q k) p h in ((plain_all fs (plain_weaks fs a.0), all_weaks fs a.0 0), a.1)

proper_wholes : {ts r : List Terminal} {ns : List Literal} → SpellsWholes ts ns r → AreProperTerminals ts → AreWritableNumbers ns × AreProperTerminals r
proper_wholes p h = proper_braced {P = IsSigned} (λ us rest x q k. proper_above q k) p h

proper_query : {ts r : List Terminal} {c : WithInner CommandTree} → SpellsQuery ts c r → AreProperTerminals ts → IsProperCommand c × AreProperTerminals r
proper_query (qea {f = f} {given = given} p) h =
    let a = proper_argument p h in
    let both = under_given inside.Qe (λ P x y u v. (u, v)) f (all_of given) a.0.0 a.0.1 in
    (record { tree = both.0; inner = both.1 }, a.1)
proper_query (holds p q) h = let a = proper_formula p h in let b = proper_point q a.1 in (record { tree = (a.0.named 0, b.0); inner = a.0.inner }, b.1)
proper_query (witness p q) h = let a = proper_formula p h in let b = proper_point q a.1 in (record { tree = (a.0.named 0, b.0); inner = a.0.inner }, b.1)
proper_query (grid p q) h =
    let a = proper_formula p h in
    let b = proper_items {P = IsWritableAxis} (λ us rest x q k. proper_axis q k) q a.1 in
    (record { tree = (a.0.named 0, b.0); inner = a.0.inner }, b.1)
proper_query (certify p) h = let a = proper_bounds p h in (record { tree = (a.0.0.named 0, a.0.1); inner = a.0.0.inner }, a.1)
proper_query (check p q) h = let a = proper_bounds p h in let b = proper_wholes q a.1 in (record { tree = ((a.0.0.named 0, a.0.1), b.0); inner = a.0.0.inner }, b.1)
proper_query (least p q) h = let a = proper_weaks p h in let b = proper_spelled_sum q a.1 in (record { tree = ((a.0.0.named 0, a.0.1), b.0); inner = a.0.0.inner }, b.1)

-- an action that can be written, and so can the commands inside it
pub record IsProperAction (a : WithInner ActionTree) : Type 0 where
  pub tree : IsActionOver (IsFormulaBeside a.inner) a.tree
  pub inner : AreWritableNests a.inner

bare_action : (a : ActionTree) → IsWritableAction a → IsProperAction (bare a)
bare_action a h = record { tree = h; inner = tt }

proper_action : {ts r : List Terminal} {a : WithInner ActionTree} → SpellsAction ts a r → AreProperTerminals ts → IsProperAction a
proper_action (assign p) h = let c = proper_result p h.1 in record { tree = (h.0, c.0.tree); inner = c.0.inner }
proper_action (result p) h = let c = proper_result p h in record { tree = c.0.tree; inner = c.0.inner }
proper_action (query p) h = let c = proper_query p h in record { tree = c.0.tree; inner = c.0.inner }
proper_action (choose {s = s} is) h = bare_action (Choose s) tt
proper_action (load p) h = bare_action Ignored tt
proper_action (on p) h = bare_action Ignored tt
proper_action (off p) h = bare_action Ignored tt
proper_action (assume p) h = let a = proper_atoms p h in record { tree = a.0.named 0; inner = a.0.inner }
proper_action retract h = bare_action Retract tt
proper_action end h = bare_action Finish tt
proper_action bye h = bare_action Finish tt
proper_action quit h = bare_action Finish tt

pub proper_statement : {ts : List Terminal} {s : StatementTree} → SpellsStatement ts s → AreProperTerminals ts → IsWritable s
proper_statement (nothing is) h = subst IsWritable (sym is) (record { action = tt; inner = tt })
proper_statement (acting p is) h = let a = proper_action p h in subst IsWritable (sym is) (record { action = a.tree; inner = a.inner })
