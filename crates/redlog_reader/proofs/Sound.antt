-- Whatever is read is spelled by the grammar.
use Rattle.std.proofs.Common.{◌≡◌, ℕ, ◌<◌, ◌≤◌, Bool, true, false, List, [], ◌∷◌, ◌++◌, sym, refl, ap, ◌∙◌, subst, arith, append_assoc}
use Rattle.std.specs.Prelude.{Option, Some, None, nat_lt, nat_le, if◌then◌else◌}
use Rattle.std.proofs.lemmas.Bool.{ltb-true, leb-true}
use Rattle.logic_meaning.specs.Formula.{Yes, No, One}
use Rattle.logic_meaning.specs.declared.junction.Junction.TheVariants.{Conjunction, Disjunction}
use Rattle.logic_meaning.specs.declared.quantifier.Quantifier.TheVariants.{Exists, ForAll}
use Rattle.language_meaning.specs.declared.tree.Relation.{Relation}
use Rattle.language_meaning.specs.declared.tree.Relation.TheVariants.{Differs}
use Rattle.language_meaning.specs.Trees.{TermTree, Number, Power, Compare}
use Rattle.language_meaning.specs.Holes.{whole}
use Rattle.language_meaning.specs.declared.terminal.Terminal.{Terminal}
use Rattle.language_meaning.specs.declared.terminal.Terminal.TheVariants as terminal
use Rattle.language_meaning.specs.declared.terminal.Mark.TheVariants as mark
use Rattle.language_meaning.specs.declared.terminal.Word.{Word}
use Rattle.language_meaning.specs.declared.terminal.Word.TheVariants as word
use Rattle.redlog_reader.specs.declared.pending.Arrow.TheVariants as arrow
use Rattle.redlog_reader.specs.Machine.{Reading, term_of, formula_of, Frame, Group, Quantified, Congruence, Negation, Compares, Added, Multiplied, Listed, Arrows, Commanded, Assumes, Relates, Call, with_atom, answered, Mode, Wants, Fresh, Held, Raised, Binder, Binding, NameWanted, NameRead, Scoped, Congruent, BraceWanted, AtomWanted, AtomEnd, GivenEnd, Outcome, Fails, Stops, Moves, strength, level, takes, on_term, on_formula, folded, continued, factors, members, listed, grouped, pushed, multiplies, adds, compares, joins, implies, congruence_of, congruence_read, closed, separated, enclosed, commands, atom_begins, assumes_nothing, operated, joined, held, fresh, wanted, step, run}
use Rattle.language_meaning.specs.declared.inner_word.InnerWord.{InnerWord}
use Rattle.language_meaning.specs.Grammar as grammar
use Rattle.language_meaning.specs.Grammar.{Written, quantified_names, inner_word, takes_given, SpellsFactor, number, inner_sum, raised, SpellsProduct, product, Factors, times, quotient, SpellsSum, sum, plus_sum, minus_sum, Members, plus, minus, IsRelation, relation_sign, relation_word, comparison, SpellsCongruence, congruent, incongruent, SpellsAtom, compared_atom, congruent_atom, last_item, more_items, empty, SpellsAtoms, Names, last_name, more_names, SpellsNames, one_name, many_names, SpellsPrime, truth, falsity, congruence, inner_formula, exists, for_all, inner_under, SpellsConjunction, conjunction, Conjuncts, conjunct, SpellsDisjunction, disjunction, Disjuncts, disjunct, SpellsReplication, replication, Repls, repl, SpellsFormula, equivalence, Equivs, equiv}
use Rattle.redlog_reader.specs.QuantifierWord.{quantifier_word}
use Rattle.redlog_reader.proofs.Steps.{strength_at, outcome}
use Rattle.redlog_reader.proofs.SoundSteps.{TermAt, FormulaAt, term_raise, formula_raise, Said, SaidFresh, said_fresh, said_term, fresh_term, fresh_formula, fresh_name, congruence_word, Called, Assuming, Onward, yields, Begun, bottom, above, HeldAt, FoldedAt, folded_said}

-- what the terminals before us have begun and said
abbrev pub State : ℕ → List Terminal → Mode → List Frame → List Terminal → Type 0
State goal start Wants fs us = Begun goal start fs us
State goal start (Fresh h) fs us = (mid : List Terminal) × Begun goal start fs mid × SaidFresh mid h us
State goal start (Held h) fs us = (mid : List Terminal) × Begun goal start fs mid × Said 0 mid h us
State goal start (Raised t) fs us = (mid : List Terminal) × Begun goal start fs mid × SpellsFactor mid t (terminal.Mark mark.Power ∷ us)
State goal start (Binder quantifier) fs us = Begun goal start fs (terminal.Word (quantifier_word quantifier) ∷ us)
State goal start (Binding quantifier) fs us = Begun goal start fs (terminal.Word (quantifier_word quantifier) ∷ terminal.Mark mark.Open ∷ us)
State goal start (NameWanted quantifier xs) fs us =
    (vs : List Terminal) × Begun goal start fs (terminal.Word (quantifier_word quantifier) ∷ terminal.Mark mark.Open ∷ terminal.Mark mark.OpenBrace ∷ vs)
    × ((ys : List (List ℕ)) (rest : List Terminal) → Names us ys rest → Names vs (xs ++ ys) rest)
State goal start (NameRead quantifier xs) fs us =
    (vs : List Terminal) × Begun goal start fs (terminal.Word (quantifier_word quantifier) ∷ terminal.Mark mark.Open ∷ terminal.Mark mark.OpenBrace ∷ vs)
    × Names vs xs us × ((ys : List (List ℕ)) (ws rest : List Terminal) → us ≡ terminal.Mark mark.Comma ∷ ws → Names ws ys rest → Names vs (xs ++ ys) rest)
State goal start (Scoped quantifier xs) fs us =
    (vs : List Terminal) × Begun goal start fs (terminal.Word (quantifier_word quantifier) ∷ terminal.Mark mark.Open ∷ vs) × SpellsNames vs xs us
State goal start (Congruent positive) fs us = Begun goal start fs (terminal.Word (congruence_word positive) ∷ us)
State goal start (BraceWanted c) fs us = (ts : List Terminal) × Begun goal start fs ts × Called c.word c.formula ts us × (c.atoms ≡ [])
State goal start (AtomWanted c) fs us = (ts : List Terminal) × Begun goal start fs ts × (a : Assuming c ts us) × (c.atoms ≡ [] → a.list ≡ us)
State goal start (AtomEnd c) fs us =
    (ts : List Terminal) × Begun goal start fs ts × (vs : List Terminal) × Called c.word c.formula ts (terminal.Mark mark.OpenBrace ∷ vs) × grammar.Listed SpellsAtom vs c.atoms us
    × ((gs : List Written) (ws rest : List Terminal) → us ≡ terminal.Mark mark.Comma ∷ ws → grammar.Listed SpellsAtom ws gs rest → grammar.Listed SpellsAtom vs (c.atoms ++ gs) rest)
State goal start (GivenEnd c) fs us = (ts : List Terminal) × Begun goal start fs ts × (vs : List Terminal) × Called c.word c.formula ts vs × SpellsAtoms vs c.atoms us

-- what a step from before t and us says
abbrev pub Fine : ℕ → List Terminal → Terminal → List Terminal → Outcome → Type 0
Fine goal start t us Fails = Unit {0}
Fine goal start t us (Stops h) = (n : ℕ) × Said n start h (t ∷ us) × (n ≤ goal) × (goal < strength t)
Fine goal start t us (Moves fs mode) = State goal start mode fs us

module _ (goal : ℕ) (start : List Terminal) (t : Terminal) (us : List Terminal) where
  pushed_choice : (frame : Frame) (fs : List Frame) {ts : List Terminal} → Begun goal start fs ts → Onward frame ts us → yields frame ≡ level frame → (b : Bool) → nat_le (level frame) (takes goal fs) ≡ b
      → Fine goal start t us (if b then Moves (frame ∷ fs) Wants else Fails)
  pushed_choice frame fs begun on same false test = tt
  pushed_choice frame fs begun on same true test = above begun (omega (arith, same, leb-true (level frame) (takes goal fs) test)) on

  pushed_fine : (frame : Frame) (fs : List Frame) {ts : List Terminal} → Begun goal start fs ts → Onward frame ts us → yields frame ≡ level frame → Fine goal start t us (pushed goal frame fs)
  pushed_fine frame fs begun on same = pushed_choice frame fs begun on same (nat_le (level frame) (takes goal fs)) refl

  on_term_fine : (o : Option TermTree) (make : TermTree → Outcome) → ((s : TermTree) → o ≡ Some s → Fine goal start t us (make s)) → Fine goal start t us (on_term o make Fails)
  on_term_fine None make fine = tt
  on_term_fine (Some s) make fine = fine s refl

  on_formula_fine : (o : Option Written) (make : Written → Outcome) → ((f : Written) → o ≡ Some f → Fine goal start t us (make f)) → Fine goal start t us (on_formula o make Fails)
  on_formula_fine None make fine = tt
  on_formula_fine (Some f) make fine = fine f refl

module _ (goal : ℕ) (start us : List Terminal) where
  -- the list, with what is held as its last part
  factors_onward : (fs : List Frame) {mid : List Terminal} (n : ℕ) (t : TermTree) → Begun goal start fs mid → TermAt n mid t us → n ≤ takes goal fs → n ≤ 0
      → (ts : List Terminal) × Begun goal start (factors fs t).1 ts × ((s : TermTree) (rest : List Terminal) → Factors (factors fs t).0 us s rest → SpellsProduct ts s rest)
  factors_onward (Multiplied flag before ∷ fs) n t (above {ts = ts} begun fits on) p le small = (ts, begun, λ s rest m. on t us (term_raise n 0 _ us t small p) s rest m)
  factors_onward fs {mid = mid} n t begun p le small = (mid, begun, λ s rest m. product (term_raise n 0 mid us t small p) m)

  -- the list, with what is held as its last part
  members_onward : (fs : List Frame) {mid : List Terminal} (n : ℕ) (t : TermTree) → Begun goal start fs mid → TermAt n mid t us → n ≤ takes goal fs → n ≤ 1
      → (ts : List Terminal) × Begun goal start (members fs t).1 ts × ((s : TermTree) (rest : List Terminal) → Members (members fs t).0 us s rest → SpellsSum ts s rest)
  members_onward (Added flag before ∷ fs) n t (above {ts = ts} begun fits on) p le small = (ts, begun, λ s rest m. on t us (term_raise n 1 _ us t small p) s rest m)
  members_onward fs {mid = mid} n t begun p le small = (mid, begun, λ s rest m. sum (term_raise n 1 mid us t small p) m)

  -- the list, with what is held as its last part
  conjuncts_onward : (fs : List Frame) {mid : List Terminal} (n : ℕ) (f : Written) → Begun goal start fs mid → FormulaAt n mid f us → n ≤ takes goal fs → n ≤ 3
      → (ts : List Terminal) × Begun goal start (listed Conjunction fs f).1 ts × ((s : Written) (rest : List Terminal) → Conjuncts (listed Conjunction fs f).0 us s rest → SpellsConjunction ts s rest)
  conjuncts_onward (Listed Conjunction before ∷ fs) n f (above {ts = ts} begun fits on) p le small = (ts, begun, λ s rest m. on f us (formula_raise n 3 _ us f small p) s rest m)
  conjuncts_onward fs {mid = mid} n f begun p le small = (mid, begun, λ s rest m. conjunction (formula_raise n 3 mid us f small p) m)

  -- the list, with what is held as its last part
  disjuncts_onward : (fs : List Frame) {mid : List Terminal} (n : ℕ) (f : Written) → Begun goal start fs mid → FormulaAt n mid f us → n ≤ takes goal fs → n ≤ 4
      → (ts : List Terminal) × Begun goal start (listed Disjunction fs f).1 ts × ((s : Written) (rest : List Terminal) → Disjuncts (listed Disjunction fs f).0 us s rest → SpellsDisjunction ts s rest)
  disjuncts_onward (Listed Disjunction before ∷ fs) n f (above {ts = ts} begun fits on) p le small = (ts, begun, λ s rest m. on f us (formula_raise n 4 _ us f small p) s rest m)
  disjuncts_onward fs {mid = mid} n f begun p le small = (mid, begun, λ s rest m. disjunction (formula_raise n 4 mid us f small p) m)

  -- the list, with what is held as its last part
  repls_onward : (fs : List Frame) {mid : List Terminal} (n : ℕ) (f : Written) → Begun goal start fs mid → FormulaAt n mid f us → n ≤ takes goal fs → n ≤ 6
      → (ts : List Terminal) × Begun goal start (grouped arrow.Repl fs f).1 ts × ((s : Written) (rest : List Terminal) → Repls (grouped arrow.Repl fs f).0 us s rest → SpellsReplication ts s rest)
  repls_onward (Arrows arrow.Repl before ∷ fs) n f (above {ts = ts} begun fits on) p le small = (ts, begun, λ s rest m. on f us (formula_raise n 6 _ us f small p) s rest m)
  repls_onward fs {mid = mid} n f begun p le small = (mid, begun, λ s rest m. replication (formula_raise n 6 mid us f small p) m)

  -- the list, with what is held as its last part
  equivs_onward : (fs : List Frame) {mid : List Terminal} (n : ℕ) (f : Written) → Begun goal start fs mid → FormulaAt n mid f us → n ≤ takes goal fs → n ≤ 7
      → (ts : List Terminal) × Begun goal start (grouped arrow.Equiv fs f).1 ts × ((s : Written) (rest : List Terminal) → Equivs (grouped arrow.Equiv fs f).0 us s rest → SpellsFormula ts s rest)
  equivs_onward (Arrows arrow.Equiv before ∷ fs) n f (above {ts = ts} begun fits on) p le small = (ts, begun, λ s rest m. on f us (formula_raise n 7 _ us f small p) s rest m)
  equivs_onward fs {mid = mid} n f begun p le small = (mid, begun, λ s rest m. equivalence (formula_raise n 7 mid us f small p) m)

-- an atom and a comma after the atoms so far
more_atoms : (c : Call) {ts us : List Terminal} → (a : Assuming c ts us) → (f : Written) (vs : List Terminal) → SpellsAtom us f (terminal.Mark mark.Comma ∷ vs)
    → (gs : List Written) (rest : List Terminal) → grammar.Listed SpellsAtom vs gs rest → grammar.Listed SpellsAtom a.list ((c.atoms ++ f ∷ []) ++ gs) rest
more_atoms c a f vs p gs rest q = subst (λ v. grammar.Listed SpellsAtom a.list v rest) (sym (append_assoc c.atoms (f ∷ []) gs)) (a.onward (f ∷ gs) rest (more_items p q))

-- a comparison that a command assumes
related : (c : Call) (r : Relation) (x : TermTree) {ts us rest : List Terminal} → (on : Onward (Relates c r x) ts us) → (t : TermTree) → SpellsSum us t rest → SpellsAtom on.0 (whole (One (Compare r x t))) rest
related c r x on t p = compared_atom (comparison on.3 on.4 p)

no_atoms : (fs : List Written) → assumes_nothing fs ≡ true → fs ≡ []
no_atoms [] e = refl
no_atoms (f ∷ fs) e = absurd (let no : ⊥ = cc in no)

some_atoms : (fs : List Written) (f : Written) → fs ++ f ∷ [] ≡ [] → ⊥
some_atoms [] f e = cc
some_atoms (g ∷ fs) f e = cc

-- a list has a member
listed_some : {ts rest : List Terminal} {fs : List Written} → grammar.Listed SpellsAtom ts fs rest → fs ≡ [] → ⊥
listed_some (last_item p) e = cc
listed_some (more_items p q) e = cc

module _ (goal : ℕ) (start : List Terminal) (us : List Terminal) where
  module _ (fs : List Frame) (h : Reading) where
    times_fine : HeldAt goal start 1 (terminal.Mark mark.Times ∷ us) fs h → Fine goal start (terminal.Mark mark.Times) us (multiplies goal false fs h)
    times_fine at = on_term_fine goal start (terminal.Mark mark.Times) us (term_of h) _ (λ s e.
        let list = factors_onward goal start (terminal.Mark mark.Times ∷ us) fs at.n s at.begun (at.said.term s e) at.within at.tighter in
        pushed_fine goal start (terminal.Mark mark.Times) us (Multiplied false (factors fs s).0) (factors fs s).1 list.1 (λ x vs p y rest m. list.2 y rest (times p m)) refl)

    over_fine : HeldAt goal start 1 (terminal.Mark mark.Slash ∷ us) fs h → Fine goal start (terminal.Mark mark.Slash) us (multiplies goal true fs h)
    over_fine at = on_term_fine goal start (terminal.Mark mark.Slash) us (term_of h) _ (λ s e.
        let list = factors_onward goal start (terminal.Mark mark.Slash ∷ us) fs at.n s at.begun (at.said.term s e) at.within at.tighter in
        pushed_fine goal start (terminal.Mark mark.Slash) us (Multiplied true (factors fs s).0) (factors fs s).1 list.1 (λ x vs p y rest m. list.2 y rest (quotient p m)) refl)

    plus_fine : HeldAt goal start 2 (terminal.Mark mark.Plus ∷ us) fs h → Fine goal start (terminal.Mark mark.Plus) us (adds goal false fs h)
    plus_fine at = on_term_fine goal start (terminal.Mark mark.Plus) us (term_of h) _ (λ s e.
        let list = members_onward goal start (terminal.Mark mark.Plus ∷ us) fs at.n s at.begun (at.said.term s e) at.within at.tighter in
        pushed_fine goal start (terminal.Mark mark.Plus) us (Added false (members fs s).0) (members fs s).1 list.1 (λ x vs p y rest m. list.2 y rest (plus p m)) refl)

    minus_fine : HeldAt goal start 2 (terminal.Mark mark.Minus ∷ us) fs h → Fine goal start (terminal.Mark mark.Minus) us (adds goal true fs h)
    minus_fine at = on_term_fine goal start (terminal.Mark mark.Minus) us (term_of h) _ (λ s e.
        let list = members_onward goal start (terminal.Mark mark.Minus ∷ us) fs at.n s at.begun (at.said.term s e) at.within at.tighter in
        pushed_fine goal start (terminal.Mark mark.Minus) us (Added true (members fs s).0) (members fs s).1 list.1 (λ x vs p y rest m. list.2 y rest (minus p m)) refl)

    and_fine : HeldAt goal start 4 (terminal.Word word.And ∷ us) fs h → Fine goal start (terminal.Word word.And) us (joins goal Conjunction fs h)
    and_fine at = on_formula_fine goal start (terminal.Word word.And) us (formula_of h) _ (λ f e.
        let list = conjuncts_onward goal start (terminal.Word word.And ∷ us) fs at.n f at.begun (at.said.formula f e) at.within at.tighter in
        pushed_fine goal start (terminal.Word word.And) us (Listed Conjunction (listed Conjunction fs f).0) (listed Conjunction fs f).1 list.1 (λ x vs p y rest m. list.2 y rest (conjunct p m)) refl)

    or_fine : HeldAt goal start 5 (terminal.Word word.Or ∷ us) fs h → Fine goal start (terminal.Word word.Or) us (joins goal Disjunction fs h)
    or_fine at = on_formula_fine goal start (terminal.Word word.Or) us (formula_of h) _ (λ f e.
        let list = disjuncts_onward goal start (terminal.Word word.Or ∷ us) fs at.n f at.begun (at.said.formula f e) at.within at.tighter in
        pushed_fine goal start (terminal.Word word.Or) us (Listed Disjunction (listed Disjunction fs f).0) (listed Disjunction fs f).1 list.1 (λ x vs p y rest m. list.2 y rest (disjunct p m)) refl)

    repl_fine : HeldAt goal start 7 (terminal.Word word.Repl ∷ us) fs h → Fine goal start (terminal.Word word.Repl) us (implies goal arrow.Repl fs h)
    repl_fine at = on_formula_fine goal start (terminal.Word word.Repl) us (formula_of h) _ (λ f e.
        let list = repls_onward goal start (terminal.Word word.Repl ∷ us) fs at.n f at.begun (at.said.formula f e) at.within at.tighter in
        pushed_fine goal start (terminal.Word word.Repl) us (Arrows arrow.Repl (grouped arrow.Repl fs f).0) (grouped arrow.Repl fs f).1 list.1 (λ x vs p y rest m. list.2 y rest (repl p m)) refl)

    equiv_fine : HeldAt goal start 8 (terminal.Word word.Equiv ∷ us) fs h → Fine goal start (terminal.Word word.Equiv) us (implies goal arrow.Equiv fs h)
    equiv_fine at = on_formula_fine goal start (terminal.Word word.Equiv) us (formula_of h) _ (λ f e.
        let list = equivs_onward goal start (terminal.Word word.Equiv ∷ us) fs at.n f at.begun (at.said.formula f e) at.within at.tighter in
        pushed_fine goal start (terminal.Word word.Equiv) us (Arrows arrow.Equiv (grouped arrow.Equiv fs f).0) (grouped arrow.Equiv fs f).1 list.1 (λ x vs p y rest m. list.2 y rest (equiv p m)) refl)

    impl_fine : HeldAt goal start 6 (terminal.Word word.Impl ∷ us) fs h → Fine goal start (terminal.Word word.Impl) us (implies goal arrow.Impl fs h)
    impl_fine at = on_formula_fine goal start (terminal.Word word.Impl) us (formula_of h) _ (λ f e.
        pushed_fine goal start (terminal.Word word.Impl) us (Arrows arrow.Impl f) fs at.begun (formula_raise at.n 5 at.mid (terminal.Word word.Impl ∷ us) f at.tighter (at.said.formula f e)) refl)

  compares_fine : (fs : List Frame) (h : Reading) (sign : Terminal) (r : Relation) → IsRelation sign r → {mid : List Terminal} → Begun goal start fs mid → (n : ℕ) → Said n mid h (sign ∷ us) → n ≤ 2
      → Fine goal start sign us (compares goal r fs h)
  compares_fine (Assumes c ∷ fs) h sign r is {mid = mid} (above begun fits on) n said small = on_term_fine goal start sign us (term_of h) _ (λ s e.
      above begun (omega arith) (mid, sign, on, term_raise n 2 mid (sign ∷ us) s small (said.term s e), is))
  compares_fine fs h sign r is {mid = mid} begun n said small = on_term_fine goal start sign us (term_of h) _ (λ s e.
      pushed_fine goal start sign us (Compares r s) fs begun (sign, term_raise n 2 mid (sign ∷ us) s small (said.term s e), is) refl)

  -- a congruence is an atom that a command assumes, or a prime formula
  congruence_fine : (t : Terminal) (fs : List Frame) (f : Written) {ts : List Terminal} → Begun goal start fs ts → SpellsCongruence ts f us → Fine goal start t us (congruence_read fs f)
  congruence_fine t (Assumes c ∷ fs) f {ts = mid} (above {ts = ts} begun fits on) p = (
    ts,
    begun,
    on.list,
    on.called,
    on.onward (f ∷ []) us (last_item (congruent_atom p)),
    λ gs ws rest at q. more_atoms c on f ws (subst (λ v. SpellsAtom mid f v) at (congruent_atom p)) gs rest q,
  )
  congruence_fine t fs f {ts = ts} begun p = (ts, begun, fresh_formula f (congruence p))

  -- a closing bracket
  closed_fine : (fs : List Frame) (h : Reading) {mid : List Terminal} → Begun goal start fs mid → (n : ℕ) → Said n mid h (terminal.Mark mark.Close ∷ us) → n ≤ takes goal fs → Fine goal start (terminal.Mark mark.Close) us (closed fs h)
  closed_fine (Group ∷ fs) h {mid = mid} (above {ts = ts} begun fits on) n said le = (
    ts,
    begun,
    record {
      term = λ t e. subst (λ v. SpellsFactor v t us) (sym on) (inner_sum (term_raise n 8 mid (terminal.Mark mark.Close ∷ us) t le (said.term t e)));
      formula = λ f e. subst (λ v. SpellsPrime v f us) (sym on) (inner_formula (formula_raise n 8 mid (terminal.Mark mark.Close ∷ us) f le (said.formula f e)));
    },
  )
  closed_fine (Quantified ForAll xs ∷ fs) h {mid = mid} (above {ts = ts} begun fits on) n said le = on_formula_fine goal start (terminal.Mark mark.Close) us (formula_of h) _ (λ f e.
      (ts, begun, fresh_formula (quantified_names ForAll xs f) (subst (λ v. SpellsPrime v (quantified_names ForAll xs f) us) (sym on.1) (for_all on.2 (formula_raise n 8 mid (terminal.Mark mark.Close ∷ us) f le (said.formula f e)) refl))))
  closed_fine (Quantified Exists xs ∷ fs) h {mid = mid} (above {ts = ts} begun fits on) n said le = on_formula_fine goal start (terminal.Mark mark.Close) us (formula_of h) _ (λ f e.
      (ts, begun, fresh_formula (quantified_names Exists xs f) (subst (λ v. SpellsPrime v (quantified_names Exists xs f) us) (sym on.1) (exists on.2 (formula_raise n 8 mid (terminal.Mark mark.Close ∷ us) f le (said.formula f e)) refl))))
  closed_fine (Congruence true (x ∷ y ∷ []) ∷ fs) h {mid = mid} (above {ts = ts} begun fits on) n said le = on_term_fine goal start (terminal.Mark mark.Close) us (term_of h) _ (λ m e.
      congruence_fine (terminal.Mark mark.Close) fs (congruence_of true x y m) begun
      (subst (λ v. SpellsCongruence v (congruence_of true x y m) us) (sym on.1) (congruent on.2.1 on.2.2 (term_raise n 2 mid (terminal.Mark mark.Close ∷ us) m le (said.term m e)))))
  closed_fine (Congruence false (x ∷ y ∷ []) ∷ fs) h {mid = mid} (above {ts = ts} begun fits on) n said le = on_term_fine goal start (terminal.Mark mark.Close) us (term_of h) _ (λ m e.
      congruence_fine (terminal.Mark mark.Close) fs (congruence_of false x y m) begun
      (subst (λ v. SpellsCongruence v (congruence_of false x y m) us) (sym on.1) (incongruent on.2.1 on.2.2 (term_raise n 2 mid (terminal.Mark mark.Close ∷ us) m le (said.term m e)))))
  closed_fine _ h begun n said le = tt

  -- the comma after the formula of a command, where this may assume atoms
  given_choice : (i : InnerWord) (fs : List Frame) (h : Reading) {ts mid : List Terminal} → Begun goal start fs ts → (w : Word) → inner_word w ≡ Some i → ts ≡ terminal.Word w ∷ terminal.Mark mark.Open ∷ mid
      → (n : ℕ) → Said n mid h (terminal.Mark mark.Comma ∷ us) → n ≤ 8 → (b : Bool) → takes_given i ≡ b
      → Fine goal start (terminal.Mark mark.Comma) us (if b then on_formula (formula_of h) (λ f. Moves fs (BraceWanted (record { word = i; formula = f; atoms = [] }))) Fails else Fails)
  given_choice i fs h begun w is at n said le false test = tt
  given_choice i fs h {ts = ts} {mid = mid} begun w is at n said le true test = on_formula_fine goal start (terminal.Mark mark.Comma) us (formula_of h) _ (λ f e. (
    ts,
    begun,
    record { word = w; inside = mid; begins = at; named = is; takes = test; formula = formula_raise n 8 mid (terminal.Mark mark.Comma ∷ us) f le (said.formula f e) },
    refl,
  ))

  -- a comma
  separated_fine : (fs : List Frame) (h : Reading) {mid : List Terminal} → Begun goal start fs mid → (n : ℕ) → Said n mid h (terminal.Mark mark.Comma ∷ us) → n ≤ takes goal fs → Fine goal start (terminal.Mark mark.Comma) us (separated fs h)
  separated_fine (Congruence positive [] ∷ fs) h {mid = mid} (above {ts = ts} begun fits on) n said le = on_term_fine goal start (terminal.Mark mark.Comma) us (term_of h) _ (λ t e.
      above begun fits (on.0, on.1, subst (λ v. SpellsSum v t (terminal.Mark mark.Comma ∷ us)) (sym on.2) (term_raise n 2 mid (terminal.Mark mark.Comma ∷ us) t le (said.term t e))))
  separated_fine (Congruence positive (x ∷ []) ∷ fs) h {mid = mid} (above {ts = ts} begun fits on) n said le = on_term_fine goal start (terminal.Mark mark.Comma) us (term_of h) _ (λ t e.
      above begun fits (on.0, on.1, (mid, on.2, term_raise n 2 mid (terminal.Mark mark.Comma ∷ us) t le (said.term t e))))
  separated_fine (Group ∷ Commanded i ∷ fs) h (above (above begun fits on) least is) n said le =
      given_choice i fs h begun on.0 on.1 (on.2 ∙ ap (λ v. terminal.Word on.0 ∷ v) is) n said le (takes_given i) refl
  separated_fine (Relates c r x ∷ fs) h {mid = mid} (above {ts = ts} begun fits on) n said le = on_term_fine goal start (terminal.Mark mark.Comma) us (term_of h) _ (λ t e.
      let atom = related c r x on t (term_raise n 2 mid (terminal.Mark mark.Comma ∷ us) t le (said.term t e)) in
      let f : Written = whole (One (Compare r x t)) in
      let later : Assuming (with_atom c f) ts us = record { list = on.2.list; called = on.2.called; onward = more_atoms c on.2 f us atom } in
      (ts, begun, later, λ none. absurd (let no : ⊥ = some_atoms c.atoms f none in no)))
  separated_fine _ h begun n said le = tt

  -- a closing brace
  enclosed_fine : (fs : List Frame) (h : Reading) {mid : List Terminal} → Begun goal start fs mid → (n : ℕ) → Said n mid h (terminal.Mark mark.CloseBrace ∷ us) → n ≤ takes goal fs
      → Fine goal start (terminal.Mark mark.CloseBrace) us (enclosed fs h)
  enclosed_fine (Relates c r x ∷ fs) h {mid = mid} (above {ts = ts} begun fits on) n said le = on_term_fine goal start (terminal.Mark mark.CloseBrace) us (term_of h) _ (λ t e.
      let atom = related c r x on t (term_raise n 2 mid (terminal.Mark mark.CloseBrace ∷ us) t le (said.term t e)) in
      let f : Written = whole (One (Compare r x t)) in
      (ts, begun, terminal.Mark mark.OpenBrace ∷ on.2.list, on.2.called, grammar.listed (on.2.onward (f ∷ []) (terminal.Mark mark.CloseBrace ∷ us) (last_item atom))))
  enclosed_fine _ h begun n said le = tt

  operated_fine : (t : Terminal) (fs : List Frame) (h : Reading) → HeldAt goal start (strength t) (t ∷ us) fs h → Fine goal start t us (operated goal t fs h)
  operated_fine (terminal.Mark mark.Times) fs h at = times_fine fs h at
  operated_fine (terminal.Mark mark.Slash) fs h at = over_fine fs h at
  operated_fine (terminal.Mark mark.Plus) fs h at = plus_fine fs h at
  operated_fine (terminal.Mark mark.Minus) fs h at = minus_fine fs h at
  operated_fine (terminal.Relation r) fs h at = compares_fine fs h (terminal.Relation r) r relation_sign at.begun at.n at.said at.tighter
  operated_fine (terminal.Word word.Neq) fs h at = compares_fine fs h (terminal.Word word.Neq) Differs relation_word at.begun at.n at.said at.tighter
  operated_fine (terminal.Word word.And) fs h at = and_fine fs h at
  operated_fine (terminal.Word word.Or) fs h at = or_fine fs h at
  operated_fine (terminal.Word word.Impl) fs h at = impl_fine fs h at
  operated_fine (terminal.Word word.Repl) fs h at = repl_fine fs h at
  operated_fine (terminal.Word word.Equiv) fs h at = equiv_fine fs h at
  operated_fine (terminal.Mark mark.Close) fs h at = closed_fine fs h at.begun at.n at.said at.within
  operated_fine (terminal.Mark mark.Comma) fs h at = separated_fine fs h at.begun at.n at.said at.within
  operated_fine (terminal.Mark mark.CloseBrace) fs h at = enclosed_fine fs h at.begun at.n at.said at.within
  operated_fine _ fs h at = tt

  stop_choice : (t : Terminal) (h : Reading) → HeldAt goal start (strength t) (t ∷ us) [] h → {mid : List Terminal} → Begun goal start [] mid → (n : ℕ) → Said n mid h (t ∷ us) → n ≤ goal → (b : Bool) → nat_lt goal (strength t) ≡ b
      → Fine goal start t us (if b then Stops h else operated goal t [] h)
  stop_choice t h at bottom n said le false test = operated_fine t [] h at
  stop_choice t h at bottom n said le true test = (n, said, le, ltb-true goal (strength t) test)

  joined_fine : (t : Terminal) (fs : List Frame) (h : Reading) → HeldAt goal start (strength t) (t ∷ us) fs h → Fine goal start t us (joined goal t fs h)
  joined_fine t [] h at = stop_choice t h at at.begun at.n at.said at.within (nat_lt goal (strength t)) refl
  joined_fine t (frame ∷ fs) h at = operated_fine t (frame ∷ fs) h at

  continued_fine : (t : Terminal) (o : Option (List Frame × Reading)) → FoldedAt goal start (strength t) (t ∷ us) o → Fine goal start t us (continued goal t o)
  continued_fine t None at = tt
  continued_fine t (Some p) at = joined_fine t p.0 p.1 at

  held_fine : (t : Terminal) (fs : List Frame) (h : Reading) {mid : List Terminal} → Begun goal start fs mid → Said 0 mid h (t ∷ us) → Fine goal start t us (held goal t fs h)
  held_fine t fs h {mid = mid} begun said =
      continued_fine t (folded (strength t) fs h)
      (folded_said goal start (strength t) (t ∷ us) fs h (record { mid = mid; n = 0; begun = begun; said = said; within = omega arith; tighter = omega arith }))

  fresh_fine : (t : Terminal) (fs : List Frame) (h : Reading) {mid : List Terminal} → Begun goal start fs mid → SaidFresh mid h (t ∷ us) → Fine goal start t us (fresh goal t fs h)
  fresh_fine (terminal.Mark mark.Power) fs h {mid = mid} begun said = on_term_fine goal start (terminal.Mark mark.Power) us (term_of h) _ (λ s e. (mid, begun, said.term s e))
  fresh_fine t fs h begun said = held_fine t fs h begun (said_fresh said)

  commands_fine : (w : Word) (fs : List Frame) → Begun goal start fs (terminal.Word w ∷ us) → (o : Option InnerWord) → inner_word w ≡ o → Fine goal start (terminal.Word w) us (commands o fs)
  commands_fine w fs begun None is = tt
  commands_fine w fs begun (Some i) is = above begun (omega arith) (w, is, refl)

  wanted_fine : (t : Terminal) (fs : List Frame) → Begun goal start fs (t ∷ us) → Fine goal start t us (wanted goal t fs)
  wanted_fine (terminal.Number n) fs begun = (terminal.Number n ∷ us, begun, fresh_term (Number n) number)
  wanted_fine (terminal.Name x) fs begun = (terminal.Name x ∷ us, begun, fresh_name x us)
  wanted_fine (terminal.Mark mark.Open) fs begun = above begun (omega arith) refl
  wanted_fine (terminal.Mark mark.Plus) fs begun = pushed_fine goal start (terminal.Mark mark.Plus) us (Added false []) fs begun (λ x vs p y rest m. plus_sum p m) refl
  wanted_fine (terminal.Mark mark.Minus) fs begun = pushed_fine goal start (terminal.Mark mark.Minus) us (Added true []) fs begun (λ x vs p y rest m. minus_sum p m) refl
  wanted_fine (terminal.Word word.True) fs begun = (terminal.Word word.True ∷ us, begun, fresh_formula (whole Yes) truth)
  wanted_fine (terminal.Word word.False) fs begun = (terminal.Word word.False ∷ us, begun, fresh_formula (whole No) falsity)
  wanted_fine (terminal.Word word.Not) fs begun = pushed_fine goal start (terminal.Word word.Not) us Negation fs begun refl refl
  wanted_fine (terminal.Word word.Ex) fs begun = begun
  wanted_fine (terminal.Word word.All) fs begun = begun
  wanted_fine (terminal.Word word.Cong) fs begun = begun
  wanted_fine (terminal.Word word.Ncong) fs begun = begun
  wanted_fine (terminal.Word w) fs begun = commands_fine w fs begun (inner_word w) refl
  wanted_fine _ fs begun = tt

  -- the brace behind no atom at all
  assumes_choice : (c : Call) (fs : List Frame) → State goal start (AtomWanted c) fs (terminal.Mark mark.CloseBrace ∷ us) → (b : Bool) → assumes_nothing c.atoms ≡ b
      → Fine goal start (terminal.Mark mark.CloseBrace) us (if b then Moves fs (GivenEnd c) else Fails)
  assumes_choice c fs s false test = tt
  assumes_choice c fs s true test =
      let none = no_atoms c.atoms test in
      let list : List Terminal = terminal.Mark mark.OpenBrace ∷ s.2.list in
      let given : SpellsAtoms list c.atoms us =
      subst (λ v. SpellsAtoms (terminal.Mark mark.OpenBrace ∷ v) c.atoms us) (sym (s.3 none))
      (subst (λ gs. SpellsAtoms (terminal.Mark mark.OpenBrace ∷ terminal.Mark mark.CloseBrace ∷ us) gs us) (sym none) empty) in
      (s.0, s.1, list, s.2.called, given)

  atom_fine : (c : Call) (t : Terminal) (fs : List Frame) → State goal start (AtomWanted c) fs (t ∷ us) → Fine goal start t us (atom_begins goal c t fs)
  atom_fine c (terminal.Mark mark.CloseBrace) fs s = assumes_choice c fs s (assumes_nothing c.atoms) refl
  atom_fine c t fs s = wanted_fine t (Assumes c ∷ fs) (above s.1 (omega arith) s.2)

  -- each step goes on from what is spelled to what is spelled
  step_fine : (mode : Mode) (t : Terminal) (fs : List Frame) → State goal start mode fs (t ∷ us) → Fine goal start t us (step goal fs mode t)
  step_fine Wants t fs s = wanted_fine t fs s
  step_fine (Fresh h) t fs s = fresh_fine t fs h s.1 s.2
  step_fine (Held h) t fs s = held_fine t fs h s.1 s.2
  step_fine (Raised x) (terminal.Number n) fs s = (s.0, s.1, said_term 0 (Power x n) (raised s.2))
  step_fine (Binder quantifier) (terminal.Mark mark.Open) fs s = s
  step_fine (Binding quantifier) (terminal.Name x) fs s = (terminal.Name x ∷ us, s, one_name)
  step_fine (Binding quantifier) (terminal.Mark mark.OpenBrace) fs s = (us, s, λ ys rest p. p)
  step_fine (NameWanted quantifier xs) (terminal.Name x) fs s = (
    s.0,
    s.1,
    s.2 (x ∷ []) us last_name,
    λ ys ws rest at p.
        subst (λ zs. Names s.0 zs rest) (sym (append_assoc xs (x ∷ []) ys)) (s.2 (x ∷ ys) rest (subst (λ vs. Names (terminal.Name x ∷ vs) (x ∷ ys) rest) (sym at) (more_names p))),
  )
  step_fine (NameRead quantifier xs) (terminal.Mark mark.Comma) fs s = (s.0, s.1, λ ys rest p. s.3 ys us rest refl p)
  step_fine (NameRead quantifier xs) (terminal.Mark mark.CloseBrace) fs s = (terminal.Mark mark.OpenBrace ∷ s.0, s.1, many_names s.2)
  step_fine (Scoped quantifier xs) (terminal.Mark mark.Comma) fs s = above s.1 (omega arith) (s.0, refl, s.2)
  step_fine (Congruent positive) (terminal.Mark mark.Open) fs s = above s (omega arith) (us, refl, refl)
  step_fine (BraceWanted c) (terminal.Mark mark.OpenBrace) fs s =
      (s.0, s.1, record { list = us; called = s.2; onward = λ gs rest p. subst (λ xs. grammar.Listed SpellsAtom us (xs ++ gs) rest) (sym s.3) p }, λ none. refl)
  step_fine (AtomWanted c) t fs s = atom_fine c t fs s
  step_fine (AtomEnd c) (terminal.Mark mark.Comma) fs s =
      (s.0, s.1, record { list = s.2; called = s.3; onward = λ gs rest p. s.5 gs us rest refl p }, λ none. absurd (let no : ⊥ = listed_some s.4 none in no))
  step_fine (AtomEnd c) (terminal.Mark mark.CloseBrace) fs s = (s.0, s.1, terminal.Mark mark.OpenBrace ∷ s.2, s.3, grammar.listed s.4)
  step_fine (GivenEnd c) (terminal.Mark mark.Close) fs s = (
    s.0,
    s.1,
    fresh_formula (answered c) (subst (λ v. SpellsPrime v (answered c) us) (sym s.3.begins) (inner_under s.3.named s.3.takes s.3.formula s.4 refl)),
  )
  step_fine _ t fs s = tt

-- what is read is spelled, and what is left begins with a terminal that binds looser than the goal
abbrev pub Sound : ℕ → List Terminal → Option (Reading × List Terminal) → Type 0
Sound goal start None = Unit {0}
Sound goal start (Some p) = (n : ℕ) × Said n start p.0 p.1 × (n ≤ goal) × (goal < strength_at p.1)

sound_step : (goal : ℕ) (start : List Terminal) (t : Terminal) (us : List Terminal) → ((fs : List Frame) (mode : Mode) → State goal start mode fs us → Sound goal start (run goal us fs mode))
    → (o : Outcome) → Fine goal start t us o → Sound goal start (outcome goal t us o)
sound_step goal start t us later Fails fine = tt
sound_step goal start t us later (Stops h) fine = fine
sound_step goal start t us later (Moves fs mode) fine = later fs mode fine

pub run_sound : (goal : ℕ) (start us : List Terminal) (fs : List Frame) (mode : Mode) → State goal start mode fs us → Sound goal start (run goal us fs mode)
run_sound goal start [] fs mode s = tt
run_sound goal start (t ∷ us) fs mode s = sound_step goal start t us (λ gs next. run_sound goal start us gs next) (step goal fs mode t) (step_fine goal start us mode t fs s)

pub read_sound : (goal : ℕ) (ts : List Terminal) → Sound goal ts (run goal ts [] Wants)
read_sound goal ts = run_sound goal ts ts [] Wants bottom
