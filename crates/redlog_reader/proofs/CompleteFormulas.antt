-- Each formula that the grammar spells is read.
use Rattle.std.proofs.Common.{◌≡◌, ℕ, ◌<◌, ◌≤◌, Bool, true, false, List, [], ◌∷◌, ◌++◌, sym, refl, ap, ◌∙◌, arith, append_assoc}
use Rattle.std.specs.Prelude.{Some, None, if◌then◌else◌}
use Rattle.logic_meaning.specs.Formula.{Yes, No, One, Not, Impl, Repl, Equiv}
use Rattle.logic_meaning.specs.declared.junction.Junction.TheVariants.{Conjunction, Disjunction}
use Rattle.logic_meaning.specs.declared.quantifier.Quantifier.{Quantifier}
use Rattle.logic_meaning.specs.declared.quantifier.Quantifier.TheVariants.{Exists, ForAll}
use Rattle.language_meaning.specs.declared.tree.Relation.{Relation}
use Rattle.language_meaning.specs.Trees.{TermTree, Compare}
use Rattle.language_meaning.specs.Holes.{whole, over, over_both, computed}
use Rattle.language_meaning.specs.declared.terminal.Terminal.{Terminal}
use Rattle.language_meaning.specs.declared.terminal.Terminal.TheVariants as terminal
use Rattle.language_meaning.specs.declared.terminal.Mark.TheVariants as mark
use Rattle.language_meaning.specs.declared.terminal.Word.{Word}
use Rattle.language_meaning.specs.declared.terminal.Word.TheVariants as word
use Rattle.language_meaning.specs.declared.inner_word.InnerWord.{InnerWord}
use Rattle.redlog_reader.specs.declared.pending.Arrow.TheVariants as arrow
use Rattle.redlog_reader.specs.Machine.{Reading, Formula, Bare, term_of, formula_of, Frame, Group, Quantified, Congruence, Negation, Compares, Listed, Arrows, Commanded, Assumes, Relates, Call, with_atom, Wants, Fresh, Held, Binding, NameWanted, NameRead, AtomWanted, BraceWanted, GivenEnd, Outcome, Fails, Moves, strength, takes, on_term, on_formula, continued, listed, grouped, pushed, compares, congruence_of, congruence_read, commands, wanted, atom_ends, operated, held, step, run}
use Rattle.language_meaning.specs.Grammar.{Written, conjunction_of, disjunction_of, quantified_names, inner_word, command, SpellsFactor, SpellsPower, first_power, raised, product, SpellsSum, sum, IsRelation, relation_sign, relation_word, SpellsComparison, comparison, SpellsCongruence, congruent, incongruent, SpellsAtom, compared_atom, congruent_atom, Listed as AllOf, last_item, more_items, SpellsAtoms, empty, listed as in_braces, Names, last_name, more_names, SpellsNames, one_name, many_names, SpellsPrime, truth, falsity, named_formula, congruence, inner_formula, exists, for_all, inner_command, inner_under, SpellsNegation, negation, compared, prime, SpellsConjunction, conjunction, Conjuncts, no_conjunct, conjunct, SpellsDisjunction, disjunction, Disjuncts, no_disjunct, disjunct, SpellsImplication, no_implication, implication, SpellsReplication, replication, Repls, no_repl, repl, SpellsFormula, equivalence, Equivs, no_equiv, equiv}
use Rattle.redlog_reader.proofs.Steps.{strength_at, ReadsFormula, outcome, moves, is_term, is_formula, within, put, ends, no_power, level_kept}
use Rattle.redlog_reader.proofs.CompleteTerms.{complete_sum}

pub relation_strength : {t : Terminal} {r : Relation} → IsRelation t r → strength t ≡ 3
relation_strength relation_sign = refl
relation_strength relation_word = refl

relation_operates : (goal : ℕ) {t : Terminal} {r : Relation} (fs : List Frame) (h : Reading) → IsRelation t r → operated goal t fs h ≡ compares goal r fs h
relation_operates goal fs h relation_sign = refl
relation_operates goal fs h relation_word = refl

-- whether an atom of what a command may assume has begun, with nothing inside it
abbrev pub assumes : List Frame → Bool
assumes (Assumes c ∷ fs) = true
assumes fs = false

-- none has begun where a comparison may stand as a formula
negation_alone : (goal : ℕ) (fs : List Frame) → 3 ≤ takes goal fs → assumes fs ≡ false
negation_alone goal (Assumes c ∷ fs) le = absurd (omega (arith, le))
negation_alone goal fs le = refl

compares_alone : (goal : ℕ) (r : Relation) (fs : List Frame) (h : Reading) → assumes fs ≡ false → compares goal r fs h ≡ on_term (term_of h) (λ t. pushed goal (Compares r t) fs) Fails
compares_alone goal r (Assumes c ∷ fs) h alone = absurd (let no : ⊥ = cc in no)
compares_alone goal r fs h alone = refl

congruence_alone : (fs : List Frame) (f : Written) → assumes fs ≡ false → congruence_read fs f ≡ Moves fs (Fresh (Formula f))
congruence_alone (Assumes c ∷ fs) f alone = absurd (let no : ⊥ = cc in no)
congruence_alone fs f alone = refl

pub complete_comparison : (goal : ℕ) (fs : List Frame) {ts rest : List Terminal} {f : Written} → SpellsComparison ts f rest → 3 ≤ takes goal fs → 3 < strength_at rest → ReadsFormula goal ts fs Wants Held rest fs f
complete_comparison goal fs {rest = rest} (comparison {us = us} {sign = sign} {r = r} {s = s} {t = t} p is q) le less =
    let left = complete_sum goal fs p (omega (arith, le)) (omega (arith, relation_strength is)) in
    let right = complete_sum goal (Compares r s ∷ fs) q (omega arith) (omega (arith, less)) in
    record {
      reading = Formula (whole (One (Compare r s t)));
      is = refl;
      runs = left.runs
          ∙ moves goal sign us fs (Held left.reading) (within goal sign fs left.reading (omega (arith, relation_strength is, le)) ∙ relation_operates goal fs left.reading is
          ∙ compares_alone goal r fs left.reading (negation_alone goal fs le) ∙ is_term left.reading (λ x. pushed goal (Compares r x) fs) Fails left.is ∙ put goal (Compares r s) fs le)
          ∙ right.runs ∙ ends goal rest (Compares r s) fs right.reading (Formula (whole (One (Compare r s t)))) less (is_term right.reading (λ x. Some (Formula (whole (One (Compare r s x))))) None right.is);
    }

-- a congruence up to its last bracket
congruence_runs : (goal : ℕ) (fs : List Frame) {ts rest : List Terminal} {f : Written} → SpellsCongruence ts f rest → run goal ts fs Wants ≡ outcome goal (terminal.Mark mark.Close) rest (congruence_read fs f)
congruence_runs goal fs {rest = rest} (congruent {us = us} {vs = vs} {s = s} {t = t} p q r) =
    let one = complete_sum goal (Congruence true [] ∷ fs) p (omega arith) (omega arith) in
    let two = complete_sum goal (Congruence true (s ∷ []) ∷ fs) q (omega arith) (omega arith) in
    let three = complete_sum goal (Congruence true (s ∷ t ∷ []) ∷ fs) r (omega arith) (omega arith) in
    one.runs
    ∙ moves goal (terminal.Mark mark.Comma) us (Congruence true [] ∷ fs) (Held one.reading) (is_term one.reading (λ x. Moves (Congruence true (x ∷ []) ∷ fs) Wants) Fails one.is) ∙ two.runs
    ∙ moves goal (terminal.Mark mark.Comma) vs (Congruence true (s ∷ []) ∷ fs) (Held two.reading) (is_term two.reading (λ x. Moves (Congruence true (s ∷ x ∷ []) ∷ fs) Wants) Fails two.is) ∙ three.runs
    ∙ ap (outcome goal (terminal.Mark mark.Close) rest) (is_term three.reading (λ x. congruence_read fs (congruence_of true s t x)) Fails three.is)
congruence_runs goal fs {rest = rest} (incongruent {us = us} {vs = vs} {s = s} {t = t} p q r) =
    let one = complete_sum goal (Congruence false [] ∷ fs) p (omega arith) (omega arith) in
    let two = complete_sum goal (Congruence false (s ∷ []) ∷ fs) q (omega arith) (omega arith) in
    let three = complete_sum goal (Congruence false (s ∷ t ∷ []) ∷ fs) r (omega arith) (omega arith) in
    one.runs
    ∙ moves goal (terminal.Mark mark.Comma) us (Congruence false [] ∷ fs) (Held one.reading) (is_term one.reading (λ x. Moves (Congruence false (x ∷ []) ∷ fs) Wants) Fails one.is) ∙ two.runs
    ∙ moves goal (terminal.Mark mark.Comma) vs (Congruence false (s ∷ []) ∷ fs) (Held two.reading) (is_term two.reading (λ x. Moves (Congruence false (s ∷ x ∷ []) ∷ fs) Wants) Fails two.is) ∙ three.runs
    ∙ ap (outcome goal (terminal.Mark mark.Close) rest) (is_term three.reading (λ x. congruence_read fs (congruence_of false s t x)) Fails three.is)

complete_congruence : (goal : ℕ) (fs : List Frame) {ts rest : List Terminal} {f : Written} → SpellsCongruence ts f rest → assumes fs ≡ false → ReadsFormula goal ts fs Wants Fresh rest fs f
complete_congruence goal fs {rest = rest} {f = f} p alone =
    record { reading = Formula f; is = refl; runs = congruence_runs goal fs p ∙ ap (outcome goal (terminal.Mark mark.Close) rest) (congruence_alone fs f alone) }

-- no sum begins with a brace that closes
factor_no_brace : {ts r : List Terminal} {t : TermTree} → SpellsFactor (terminal.Mark mark.CloseBrace ∷ ts) t r → ⊥
factor_no_brace p = elim p [ ]

power_no_brace : {ts r : List Terminal} {t : TermTree} → SpellsPower (terminal.Mark mark.CloseBrace ∷ ts) t r → ⊥
power_no_brace (first_power p) = factor_no_brace p
power_no_brace (raised p) = factor_no_brace p

sum_no_brace : {ts r : List Terminal} {t : TermTree} → SpellsSum (terminal.Mark mark.CloseBrace ∷ ts) t r → ⊥
sum_no_brace (sum (product p n) m) = power_no_brace p

-- an atom begins with no brace
comparison_begins : (goal : ℕ) (fs : List Frame) (c : Call) (ts : List Terminal) {s : TermTree} {rest : List Terminal} → SpellsSum ts s rest → run goal ts fs (AtomWanted c) ≡ run goal ts (Assumes c ∷ fs) Wants
comparison_begins goal fs c [] p = refl
comparison_begins goal fs c (terminal.Mark mark.CloseBrace ∷ ts) p = absurd (sum_no_brace p)
comparison_begins goal fs c (t ∷ ts) p = refl

congruence_begins : (goal : ℕ) (fs : List Frame) (c : Call) {ts rest : List Terminal} {f : Written} → SpellsCongruence ts f rest → run goal ts fs (AtomWanted c) ≡ run goal ts (Assumes c ∷ fs) Wants
congruence_begins goal fs c (congruent p q r) = refl
congruence_begins goal fs c (incongruent p q r) = refl

-- what ends an atom
data EndsAtom : Terminal → Type 0 where
  by_comma : EndsAtom (terminal.Mark mark.Comma)
  by_brace : EndsAtom (terminal.Mark mark.CloseBrace)

end_strength : {t : Terminal} → EndsAtom t → strength t ≡ 9
end_strength by_comma = refl
end_strength by_brace = refl

related_ends : (goal : ℕ) (fs : List Frame) (c : Call) (r : Relation) (s : TermTree) {t : TermTree} (h : Reading) {end : Terminal} → term_of h ≡ Some t → EndsAtom end
    → step goal (Relates c r s ∷ fs) (Held h) end ≡ atom_ends (with_atom c (whole (One (Compare r s t)))) end fs
related_ends goal fs c r s h is by_comma = is_term h (λ x. Moves fs (AtomWanted (with_atom c (whole (One (Compare r s x)))))) Fails is
related_ends goal fs c r s h is by_brace = is_term h (λ x. Moves fs (GivenEnd (with_atom c (whole (One (Compare r s x)))))) Fails is

-- one atom, and what ends it
complete_atom : (goal : ℕ) (fs : List Frame) (c : Call) {ts rest : List Terminal} {t : Terminal} {f : Written} → SpellsAtom ts f (t ∷ rest) → EndsAtom t → run goal ts fs (AtomWanted c) ≡ outcome goal t rest (atom_ends (with_atom c f) t fs)
complete_atom goal fs c {ts = ts} {rest = rest} {t = end} (compared_atom (comparison {us = us} {sign = sign} {r = r} {s = s} p is q)) end_is =
    let left = complete_sum goal (Assumes c ∷ fs) p (omega arith) (omega (arith, relation_strength is)) in
    let right = complete_sum goal (Relates c r s ∷ fs) q (omega arith) (omega (arith, end_strength end_is)) in
    comparison_begins goal fs c ts p ∙ left.runs
    ∙ moves goal sign us (Assumes c ∷ fs) (Held left.reading) (ap (continued goal sign) (level_kept (strength sign) (Assumes c) fs left.reading (omega (arith, relation_strength is)))
    ∙ relation_operates goal (Assumes c ∷ fs) left.reading is ∙ is_term left.reading (λ x. Moves (Relates c r x ∷ fs) Wants) Fails left.is)
    ∙ right.runs ∙ ap (outcome goal end rest) (related_ends goal fs c r s right.reading right.is end_is)
complete_atom goal fs c {rest = rest} {t = end} (congruent_atom p) end_is = congruence_begins goal fs c p ∙ congruence_runs goal (Assumes c ∷ fs) p

-- with more atoms
abbrev with_atoms : Call → List Written → Call
with_atoms c fs = record c { atoms = c.atoms ++ fs }

complete_atoms : (goal : ℕ) (fs : List Frame) (c : Call) {ts rest : List Terminal} {gs : List Written} → AllOf SpellsAtom ts gs (terminal.Mark mark.CloseBrace ∷ rest) → run goal ts fs (AtomWanted c) ≡ run goal rest fs (GivenEnd (with_atoms c gs))
complete_atoms goal fs c (last_item p) = complete_atom goal fs c p by_brace
complete_atoms goal fs c {rest = rest} (more_items {x = f} {more = more} p m) =
    complete_atom goal fs c p by_comma ∙ complete_atoms goal fs (with_atom c f) m
    ∙ ap (λ gs. run goal rest fs (GivenEnd (record c { atoms = gs }))) (append_assoc c.atoms (f ∷ []) more)

-- what a command may assume
complete_given : (goal : ℕ) (fs : List Frame) (i : InnerWord) (f : Written) {us rest : List Terminal} {given : List Written} → SpellsAtoms us given (terminal.Mark mark.Close ∷ rest)
    → run goal us fs (BraceWanted (record { word = i; formula = f; atoms = [] })) ≡ run goal rest fs (Fresh (Formula (computed (command i f given))))
complete_given goal fs i f empty = refl
complete_given goal fs i f (in_braces p) = complete_atoms goal fs (record { word = i; formula = f; atoms = [] }) p

-- a word that begins a command
commanded : (goal : ℕ) (w : Word) {i : InnerWord} (fs : List Frame) → inner_word w ≡ Some i → wanted goal (terminal.Word w) fs ≡ Moves (Commanded i ∷ fs) Wants
commanded goal word.True fs e = absurd (let no : ⊥ = cc in no)
commanded goal word.False fs e = absurd (let no : ⊥ = cc in no)
commanded goal word.Not fs e = absurd (let no : ⊥ = cc in no)
commanded goal word.Ex fs e = absurd (let no : ⊥ = cc in no)
commanded goal word.All fs e = absurd (let no : ⊥ = cc in no)
commanded goal word.Cong fs e = absurd (let no : ⊥ = cc in no)
commanded goal word.Ncong fs e = absurd (let no : ⊥ = cc in no)
commanded goal w fs e = ap (λ o. commands o fs) e

names_read : (goal : ℕ) (fs : List Frame) (quantifier : Quantifier) {ts rest : List Terminal} {xs : List (List ℕ)} → Names ts xs rest → (ys : List (List ℕ))
    → run goal ts fs (NameWanted quantifier ys) ≡ run goal rest fs (NameRead quantifier (ys ++ xs))
names_read goal fs quantifier last_name ys = refl
names_read goal fs quantifier {rest = rest} (more_names {x = x} {xs = xs} p) ys =
    names_read goal fs quantifier p (ys ++ x ∷ []) ∙ ap (λ zs. run goal rest fs (NameRead quantifier zs)) (append_assoc ys (x ∷ []) xs)

binding : (goal : ℕ) (fs : List Frame) (quantifier : Quantifier) {ts us : List Terminal} {xs : List (List ℕ)} → SpellsNames ts xs (terminal.Mark mark.Comma ∷ us)
    → run goal ts fs (Binding quantifier) ≡ run goal us (Quantified quantifier xs ∷ fs) Wants
binding goal fs quantifier one_name = refl
binding goal fs quantifier (many_names p) = names_read goal fs quantifier p []

-- the members that have been read so far, with the last one held
data HoldsConjuncts (fs : List Frame) : List Written → List Frame → Reading → Type 0 where
  HoldsConjuncts_alone : {h : Reading} {f : Written} → formula_of h ≡ Some f → HoldsConjuncts fs (f ∷ []) fs h
  HoldsConjuncts_after : {h : Reading} {f : Written} {gs : List Written} → formula_of h ≡ Some f → HoldsConjuncts fs (gs ++ f ∷ []) (Listed Conjunction gs ∷ fs) h

listed_and : (goal : ℕ) (fs : List Frame) (f : Written) → 4 ≤ takes goal fs → listed Conjunction fs f ≡ (f ∷ [], fs)
listed_and goal (Listed Conjunction gs ∷ fs) f le = absurd (omega (arith, le))
listed_and goal fs f le = refl

and_more : (goal : ℕ) {fs gs : List Frame} {h : Reading} {before : List Written} → 4 ≤ takes goal fs → HoldsConjuncts fs before gs h
    → held goal (terminal.Word word.And) gs h ≡ Moves (Listed Conjunction before ∷ fs) Wants
and_more goal {fs = fs} {h = h} le (HoldsConjuncts_alone {f = f} e) =
    within goal (terminal.Word word.And) fs h le ∙ is_formula h (λ f. pushed goal (Listed Conjunction (listed Conjunction fs f).0) (listed Conjunction fs f).1) Fails e
    ∙ ap (λ p. pushed goal (Listed Conjunction p.0) p.1) (listed_and goal fs f le) ∙ put goal (Listed Conjunction (f ∷ [])) fs le
and_more goal {fs = fs} {h = h} le (HoldsConjuncts_after {f = f} {gs = gs} e) =
    is_formula h (λ f. pushed goal (Listed Conjunction (gs ++ f ∷ [])) fs) Fails e ∙ put goal (Listed Conjunction (gs ++ f ∷ [])) fs le

-- the members that have been read so far, with the last one held
data HoldsDisjuncts (fs : List Frame) : List Written → List Frame → Reading → Type 0 where
  HoldsDisjuncts_alone : {h : Reading} {f : Written} → formula_of h ≡ Some f → HoldsDisjuncts fs (f ∷ []) fs h
  HoldsDisjuncts_after : {h : Reading} {f : Written} {gs : List Written} → formula_of h ≡ Some f → HoldsDisjuncts fs (gs ++ f ∷ []) (Listed Disjunction gs ∷ fs) h

listed_or : (goal : ℕ) (fs : List Frame) (f : Written) → 5 ≤ takes goal fs → listed Disjunction fs f ≡ (f ∷ [], fs)
listed_or goal (Listed Disjunction gs ∷ fs) f le = absurd (omega (arith, le))
listed_or goal fs f le = refl

or_more : (goal : ℕ) {fs gs : List Frame} {h : Reading} {before : List Written} → 5 ≤ takes goal fs → HoldsDisjuncts fs before gs h
    → held goal (terminal.Word word.Or) gs h ≡ Moves (Listed Disjunction before ∷ fs) Wants
or_more goal {fs = fs} {h = h} le (HoldsDisjuncts_alone {f = f} e) =
    within goal (terminal.Word word.Or) fs h le ∙ is_formula h (λ f. pushed goal (Listed Disjunction (listed Disjunction fs f).0) (listed Disjunction fs f).1) Fails e
    ∙ ap (λ p. pushed goal (Listed Disjunction p.0) p.1) (listed_or goal fs f le) ∙ put goal (Listed Disjunction (f ∷ [])) fs le
or_more goal {fs = fs} {h = h} le (HoldsDisjuncts_after {f = f} {gs = gs} e) =
    is_formula h (λ f. pushed goal (Listed Disjunction (gs ++ f ∷ [])) fs) Fails e ∙ put goal (Listed Disjunction (gs ++ f ∷ [])) fs le

-- the formula that has been read so far, with its right part held
data HoldsRepls (fs : List Frame) : Written → List Frame → Reading → Type 0 where
  HoldsRepls_alone : {h : Reading} {f : Written} → formula_of h ≡ Some f → HoldsRepls fs f fs h
  HoldsRepls_after : {h : Reading} {f g : Written} → formula_of h ≡ Some f → HoldsRepls fs (over_both Repl g f) (Arrows arrow.Repl g ∷ fs) h

grouped_repl : (goal : ℕ) (fs : List Frame) (f : Written) → 7 ≤ takes goal fs → grouped arrow.Repl fs f ≡ (f, fs)
grouped_repl goal (Arrows arrow.Repl gs ∷ fs) f le = absurd (omega (arith, le))
grouped_repl goal fs f le = refl

repl_more : (goal : ℕ) {fs gs : List Frame} {h : Reading} {before : Written} → 7 ≤ takes goal fs → HoldsRepls fs before gs h
    → held goal (terminal.Word word.Repl) gs h ≡ Moves (Arrows arrow.Repl before ∷ fs) Wants
repl_more goal {fs = fs} {h = h} le (HoldsRepls_alone {f = f} e) =
    within goal (terminal.Word word.Repl) fs h le ∙ is_formula h (λ f. pushed goal (Arrows arrow.Repl (grouped arrow.Repl fs f).0) (grouped arrow.Repl fs f).1) Fails e
    ∙ ap (λ p. pushed goal (Arrows arrow.Repl p.0) p.1) (grouped_repl goal fs f le) ∙ put goal (Arrows arrow.Repl f) fs le
repl_more goal {fs = fs} {h = h} le (HoldsRepls_after {f = f} {g = g} e) =
    is_formula h (λ f. pushed goal (Arrows arrow.Repl (over_both Repl g f)) fs) Fails e ∙ put goal (Arrows arrow.Repl (over_both Repl g f)) fs le

-- the formula that has been read so far, with its right part held
data HoldsEquivs (fs : List Frame) : Written → List Frame → Reading → Type 0 where
  HoldsEquivs_alone : {h : Reading} {f : Written} → formula_of h ≡ Some f → HoldsEquivs fs f fs h
  HoldsEquivs_after : {h : Reading} {f g : Written} → formula_of h ≡ Some f → HoldsEquivs fs (over_both Equiv g f) (Arrows arrow.Equiv g ∷ fs) h

grouped_equiv : (goal : ℕ) (fs : List Frame) (f : Written) → 8 ≤ takes goal fs → grouped arrow.Equiv fs f ≡ (f, fs)
grouped_equiv goal (Arrows arrow.Equiv gs ∷ fs) f le = absurd (omega (arith, le))
grouped_equiv goal fs f le = refl

equiv_more : (goal : ℕ) {fs gs : List Frame} {h : Reading} {before : Written} → 8 ≤ takes goal fs → HoldsEquivs fs before gs h
    → held goal (terminal.Word word.Equiv) gs h ≡ Moves (Arrows arrow.Equiv before ∷ fs) Wants
equiv_more goal {fs = fs} {h = h} le (HoldsEquivs_alone {f = f} e) =
    within goal (terminal.Word word.Equiv) fs h le ∙ is_formula h (λ f. pushed goal (Arrows arrow.Equiv (grouped arrow.Equiv fs f).0) (grouped arrow.Equiv fs f).1) Fails e
    ∙ ap (λ p. pushed goal (Arrows arrow.Equiv p.0) p.1) (grouped_equiv goal fs f le) ∙ put goal (Arrows arrow.Equiv f) fs le
equiv_more goal {fs = fs} {h = h} le (HoldsEquivs_after {f = f} {g = g} e) =
    is_formula h (λ f. pushed goal (Arrows arrow.Equiv (over_both Equiv g f)) fs) Fails e ∙ put goal (Arrows arrow.Equiv (over_both Equiv g f)) fs le

conjuncts_strength : {before : List Written} {us rest : List Terminal} {v : Written} → Conjuncts before us v rest → 4 < strength_at rest → 3 < strength_at us
conjuncts_strength (no_conjunct e) less = omega (arith, less)
conjuncts_strength (conjunct p m) less = omega arith

disjuncts_strength : {before : List Written} {us rest : List Terminal} {v : Written} → Disjuncts before us v rest → 5 < strength_at rest → 4 < strength_at us
disjuncts_strength (no_disjunct e) less = omega (arith, less)
disjuncts_strength (disjunct p m) less = omega arith

repls_strength : {before : Written} {us rest : List Terminal} {v : Written} → Repls before us v rest → 7 < strength_at rest → 6 < strength_at us
repls_strength (no_repl e) less = omega (arith, less)
repls_strength (repl p m) less = omega arith

equivs_strength : {before : Written} {us rest : List Terminal} {v : Written} → Equivs before us v rest → 8 < strength_at rest → 7 < strength_at us
equivs_strength (no_equiv e) less = omega (arith, less)
equivs_strength (equiv p m) less = omega arith

mutual
  pub complete_prime : (goal : ℕ) (fs : List Frame) {ts rest : List Terminal} {f : Written} → SpellsPrime ts f rest → 0 < strength_at rest → assumes fs ≡ false → ReadsFormula goal ts fs Wants Held rest fs f
  complete_prime goal fs {rest = rest} truth less alone = record { reading = Formula (whole Yes); is = refl; runs = no_power goal rest fs (Formula (whole Yes)) less }
  complete_prime goal fs {rest = rest} falsity less alone = record { reading = Formula (whole No); is = refl; runs = no_power goal rest fs (Formula (whole No)) less }
  complete_prime goal fs {rest = rest} (named_formula {x = x}) less alone = record { reading = Bare x; is = refl; runs = no_power goal rest fs (Bare x) less }
  complete_prime goal fs {rest = rest} (congruence p) less alone =
      let read = complete_congruence goal fs p alone in
      record { reading = read.reading; is = read.is; runs = read.runs ∙ no_power goal rest fs read.reading less }
  complete_prime goal fs {rest = rest} (inner_formula p) less alone =
      let inner = complete_formula goal (Group ∷ fs) p (omega arith) (omega arith) in
      record { reading = inner.reading; is = inner.is; runs = inner.runs ∙ no_power goal rest fs inner.reading less }
  complete_prime goal fs {rest = rest} (exists {xs = xs} {f = f} p q is) less alone =
      let inner = complete_formula goal (Quantified Exists xs ∷ fs) q (omega arith) (omega arith) in
      record {
        reading = Formula (quantified_names Exists xs f);
        is = ap Some (sym is);
        runs = binding goal fs Exists p ∙ inner.runs
            ∙ moves goal (terminal.Mark mark.Close) rest (Quantified Exists xs ∷ fs) (Held inner.reading) (is_formula inner.reading (λ x. Moves fs (Fresh (Formula (quantified_names Exists xs x)))) Fails inner.is)
            ∙ no_power goal rest fs (Formula (quantified_names Exists xs f)) less;
      }
  complete_prime goal fs {rest = rest} (for_all {xs = xs} {f = f} p q is) less alone =
      let inner = complete_formula goal (Quantified ForAll xs ∷ fs) q (omega arith) (omega arith) in
      record {
        reading = Formula (quantified_names ForAll xs f);
        is = ap Some (sym is);
        runs = binding goal fs ForAll p ∙ inner.runs
            ∙ moves goal (terminal.Mark mark.Close) rest (Quantified ForAll xs ∷ fs) (Held inner.reading) (is_formula inner.reading (λ x. Moves fs (Fresh (Formula (quantified_names ForAll xs x)))) Fails inner.is)
            ∙ no_power goal rest fs (Formula (quantified_names ForAll xs f)) less;
      }
  complete_prime goal fs {rest = rest} (inner_command {w = w} {i = i} {ts = ts} {f = f} e p is) less alone =
      let inner = complete_prime goal (Commanded i ∷ fs) p less refl in
      record {
        reading = Formula (computed (command i f []));
        is = ap Some (sym is);
        runs = moves goal (terminal.Word w) ts fs Wants (commanded goal w fs e) ∙ inner.runs
            ∙ ends goal rest (Commanded i) fs inner.reading (Formula (computed (command i f []))) less (is_formula inner.reading (λ x. Some (Formula (computed (command i x [])))) None inner.is);
      }
  complete_prime goal fs {rest = rest} (inner_under {w = w} {i = i} {ts = ts} {us = us} {f = f} {given = given} e may p q is) less alone =
      let inner = complete_formula goal (Group ∷ Commanded i ∷ fs) p (omega arith) (omega arith) in
      let begun : Written → Outcome = λ x. Moves fs (BraceWanted (record { word = i; formula = x; atoms = [] })) in
      record {
        reading = Formula (computed (command i f given));
        is = ap Some (sym is);
        runs = moves goal (terminal.Word w) (terminal.Mark mark.Open ∷ ts) fs Wants (commanded goal w fs e) ∙ inner.runs
            ∙ moves goal (terminal.Mark mark.Comma) us (Group ∷ Commanded i ∷ fs) (Held inner.reading)
            (ap (λ b. if b then on_formula (formula_of inner.reading) begun Fails else Fails) may ∙ is_formula inner.reading begun Fails inner.is)
            ∙ complete_given goal fs i f q ∙ no_power goal rest fs (Formula (computed (command i f given))) less;
      }

  complete_negation : (goal : ℕ) (fs : List Frame) {ts rest : List Terminal} {f : Written} → SpellsNegation ts f rest → 3 ≤ takes goal fs → 3 < strength_at rest → ReadsFormula goal ts fs Wants Held rest fs f
  complete_negation goal fs {rest = rest} (negation {ts = ts} {f = f} p) le less =
      let inner = complete_negation goal (Negation ∷ fs) p (omega arith) less in
      record {
        reading = Formula (over Not f);
        is = refl;
        runs = moves goal (terminal.Word word.Not) ts fs Wants (put goal Negation fs le) ∙ inner.runs
            ∙ ends goal rest Negation fs inner.reading (Formula (over Not f)) less (is_formula inner.reading (λ x. Some (Formula (over Not x))) None inner.is);
      }
  complete_negation goal fs (compared p) le less = complete_comparison goal fs p le less
  complete_negation goal fs (prime p) le less = complete_prime goal fs p (omega (arith, less)) (negation_alone goal fs le)

  complete_conjunction : (goal : ℕ) (fs : List Frame) {ts rest : List Terminal} {f : Written} → SpellsConjunction ts f rest → 4 ≤ takes goal fs → 4 < strength_at rest → ReadsFormula goal ts fs Wants Held rest fs f
  complete_conjunction goal fs (conjunction p m) le less =
      let first = complete_negation goal fs p (omega (arith, le)) (conjuncts_strength m less) in
      let more = complete_conjuncts goal fs le m less (HoldsConjuncts_alone first.is) in
      record { reading = more.reading; is = more.is; runs = first.runs ∙ more.runs }

  complete_conjuncts : (goal : ℕ) (fs : List Frame) → 4 ≤ takes goal fs → {before : List Written} {us rest : List Terminal} {f : Written} → Conjuncts before us f rest → 4 < strength_at rest
      → {gs : List Frame} {h : Reading} → HoldsConjuncts fs before gs h → ReadsFormula goal us gs (Held h) Held rest fs f
  complete_conjuncts goal fs le (no_conjunct is) less {h = h} (HoldsConjuncts_alone e) = record { reading = h; is = e ∙ ap Some (sym is); runs = refl }
  complete_conjuncts goal fs le {rest = rest} (no_conjunct is) less {h = h} (HoldsConjuncts_after {f = f} {gs = gs} e) = record {
    reading = Formula (conjunction_of (gs ++ f ∷ []));
    is = ap Some (sym is);
    runs = ends goal rest (Listed Conjunction gs) fs h (Formula (conjunction_of (gs ++ f ∷ []))) less (is_formula h (λ x. Some (Formula (conjunction_of (gs ++ x ∷ [])))) None e);
  }
  complete_conjuncts goal fs le {before = before} (conjunct {us = us} p m) less {gs = gs} {h = h} holds =
      let next = complete_negation goal (Listed Conjunction before ∷ fs) p (omega arith) (conjuncts_strength m less) in
      let more = complete_conjuncts goal fs le m less (HoldsConjuncts_after {gs = before} next.is) in
      record {
        reading = more.reading;
        is = more.is;
        runs = moves goal (terminal.Word word.And) us gs (Held h) (and_more goal le holds) ∙ next.runs ∙ more.runs;
      }

  complete_disjunction : (goal : ℕ) (fs : List Frame) {ts rest : List Terminal} {f : Written} → SpellsDisjunction ts f rest → 5 ≤ takes goal fs → 5 < strength_at rest → ReadsFormula goal ts fs Wants Held rest fs f
  complete_disjunction goal fs (disjunction p m) le less =
      let first = complete_conjunction goal fs p (omega (arith, le)) (disjuncts_strength m less) in
      let more = complete_disjuncts goal fs le m less (HoldsDisjuncts_alone first.is) in
      record { reading = more.reading; is = more.is; runs = first.runs ∙ more.runs }

  complete_disjuncts : (goal : ℕ) (fs : List Frame) → 5 ≤ takes goal fs → {before : List Written} {us rest : List Terminal} {f : Written} → Disjuncts before us f rest → 5 < strength_at rest
      → {gs : List Frame} {h : Reading} → HoldsDisjuncts fs before gs h → ReadsFormula goal us gs (Held h) Held rest fs f
  complete_disjuncts goal fs le (no_disjunct is) less {h = h} (HoldsDisjuncts_alone e) = record { reading = h; is = e ∙ ap Some (sym is); runs = refl }
  complete_disjuncts goal fs le {rest = rest} (no_disjunct is) less {h = h} (HoldsDisjuncts_after {f = f} {gs = gs} e) = record {
    reading = Formula (disjunction_of (gs ++ f ∷ []));
    is = ap Some (sym is);
    runs = ends goal rest (Listed Disjunction gs) fs h (Formula (disjunction_of (gs ++ f ∷ []))) less (is_formula h (λ x. Some (Formula (disjunction_of (gs ++ x ∷ [])))) None e);
  }
  complete_disjuncts goal fs le {before = before} (disjunct {us = us} p m) less {gs = gs} {h = h} holds =
      let next = complete_conjunction goal (Listed Disjunction before ∷ fs) p (omega arith) (disjuncts_strength m less) in
      let more = complete_disjuncts goal fs le m less (HoldsDisjuncts_after {gs = before} next.is) in
      record {
        reading = more.reading;
        is = more.is;
        runs = moves goal (terminal.Word word.Or) us gs (Held h) (or_more goal le holds) ∙ next.runs ∙ more.runs;
      }

  complete_implication : (goal : ℕ) (fs : List Frame) {ts rest : List Terminal} {f : Written} → SpellsImplication ts f rest → 6 ≤ takes goal fs → 6 < strength_at rest → ReadsFormula goal ts fs Wants Held rest fs f
  complete_implication goal fs (no_implication p) le less = complete_disjunction goal fs p (omega (arith, le)) (omega (arith, less))
  complete_implication goal fs {rest = rest} (implication {us = us} {f = f} {g = g} p q) le less =
      let left = complete_disjunction goal fs p (omega (arith, le)) (omega arith) in
      let right = complete_implication goal (Arrows arrow.Impl f ∷ fs) q (omega arith) less in
      record {
        reading = Formula (over_both Impl f g);
        is = refl;
        runs = left.runs
            ∙ moves goal (terminal.Word word.Impl) us fs (Held left.reading) (within goal (terminal.Word word.Impl) fs left.reading le
            ∙ is_formula left.reading (λ x. pushed goal (Arrows arrow.Impl x) fs) Fails left.is ∙ put goal (Arrows arrow.Impl f) fs le)
            ∙ right.runs ∙ ends goal rest (Arrows arrow.Impl f) fs right.reading (Formula (over_both Impl f g)) less (is_formula right.reading (λ x. Some (Formula (over_both Impl f x))) None right.is);
      }

  complete_replication : (goal : ℕ) (fs : List Frame) {ts rest : List Terminal} {f : Written} → SpellsReplication ts f rest → 7 ≤ takes goal fs → 7 < strength_at rest → ReadsFormula goal ts fs Wants Held rest fs f
  complete_replication goal fs (replication p m) le less =
      let first = complete_implication goal fs p (omega (arith, le)) (repls_strength m less) in
      let more = complete_repls goal fs le m less (HoldsRepls_alone first.is) in
      record { reading = more.reading; is = more.is; runs = first.runs ∙ more.runs }

  complete_repls : (goal : ℕ) (fs : List Frame) → 7 ≤ takes goal fs → {before : Written} {us rest : List Terminal} {f : Written} → Repls before us f rest → 7 < strength_at rest
      → {gs : List Frame} {h : Reading} → HoldsRepls fs before gs h → ReadsFormula goal us gs (Held h) Held rest fs f
  complete_repls goal fs le (no_repl is) less {h = h} (HoldsRepls_alone e) = record { reading = h; is = e ∙ ap Some (sym is); runs = refl }
  complete_repls goal fs le {rest = rest} (no_repl is) less {h = h} (HoldsRepls_after {f = f} {g = g} e) = record {
    reading = Formula (over_both Repl g f);
    is = ap Some (sym is);
    runs = ends goal rest (Arrows arrow.Repl g) fs h (Formula (over_both Repl g f)) less (is_formula h (λ x. Some (Formula (over_both Repl g x))) None e);
  }
  complete_repls goal fs le {before = before} (repl {us = us} p m) less {gs = gs} {h = h} holds =
      let next = complete_implication goal (Arrows arrow.Repl before ∷ fs) p (omega arith) (repls_strength m less) in
      let more = complete_repls goal fs le m less (HoldsRepls_after {g = before} next.is) in
      record {
        reading = more.reading;
        is = more.is;
        runs = moves goal (terminal.Word word.Repl) us gs (Held h) (repl_more goal le holds) ∙ next.runs ∙ more.runs;
      }

  pub complete_formula : (goal : ℕ) (fs : List Frame) {ts rest : List Terminal} {f : Written} → SpellsFormula ts f rest → 8 ≤ takes goal fs → 8 < strength_at rest → ReadsFormula goal ts fs Wants Held rest fs f
  complete_formula goal fs (equivalence p m) le less =
      let first = complete_replication goal fs p (omega (arith, le)) (equivs_strength m less) in
      let more = complete_equivs goal fs le m less (HoldsEquivs_alone first.is) in
      record { reading = more.reading; is = more.is; runs = first.runs ∙ more.runs }

  complete_equivs : (goal : ℕ) (fs : List Frame) → 8 ≤ takes goal fs → {before : Written} {us rest : List Terminal} {f : Written} → Equivs before us f rest → 8 < strength_at rest
      → {gs : List Frame} {h : Reading} → HoldsEquivs fs before gs h → ReadsFormula goal us gs (Held h) Held rest fs f
  complete_equivs goal fs le (no_equiv is) less {h = h} (HoldsEquivs_alone e) = record { reading = h; is = e ∙ ap Some (sym is); runs = refl }
  complete_equivs goal fs le {rest = rest} (no_equiv is) less {h = h} (HoldsEquivs_after {f = f} {g = g} e) = record {
    reading = Formula (over_both Equiv g f);
    is = ap Some (sym is);
    runs = ends goal rest (Arrows arrow.Equiv g) fs h (Formula (over_both Equiv g f)) less (is_formula h (λ x. Some (Formula (over_both Equiv g x))) None e);
  }
  complete_equivs goal fs le {before = before} (equiv {us = us} p m) less {gs = gs} {h = h} holds =
      let next = complete_replication goal (Arrows arrow.Equiv before ∷ fs) p (omega arith) (equivs_strength m less) in
      let more = complete_equivs goal fs le m less (HoldsEquivs_after {g = before} next.is) in
      record {
        reading = more.reading;
        is = more.is;
        runs = moves goal (terminal.Word word.Equiv) us gs (Held h) (equiv_more goal le holds) ∙ next.runs ∙ more.runs;
      }
