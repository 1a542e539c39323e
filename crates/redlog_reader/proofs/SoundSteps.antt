-- Whatever is read is spelled by the grammar.
use Rattle.std.proofs.Common.{◌≡◌, ℕ, zero, suc, ◌+◌, ◌≤◌, Bool, true, false, List, [], ◌∷◌, ◌++◌, sym, refl, subst, arith}
use Rattle.std.specs.Prelude.{◌-◌, Option, Some, None, nat_lt, if◌then◌else◌}
use Rattle.std.proofs.lemmas.Bool.{ltb-true}
use Rattle.logic_meaning.specs.Formula.{One, Not, Impl, Repl, Equiv}
use Rattle.logic_meaning.specs.declared.junction.Junction.TheVariants.{Conjunction, Disjunction}
use Rattle.language_meaning.specs.Trees.{TermTree, Named, Compare, Bound}
use Rattle.language_meaning.specs.Holes.{whole, over, over_both, computed}
use Rattle.language_meaning.specs.declared.terminal.Terminal.{Terminal}
use Rattle.language_meaning.specs.declared.terminal.Terminal.TheVariants as terminal
use Rattle.language_meaning.specs.declared.terminal.Mark.TheVariants as mark
use Rattle.language_meaning.specs.declared.terminal.Word.TheVariants as word
use Rattle.language_meaning.specs.declared.terminal.Word.{Word}
use Rattle.redlog_reader.specs.declared.pending.Arrow.TheVariants as arrow
use Rattle.redlog_reader.specs.Machine.{Reading, Term, Formula, Bare, term_of, formula_of, Frame, Group, Quantified, Congruence, Negation, Compares, Added, Multiplied, Listed, Arrows, Commanded, Assumes, Relates, Call, level, takes_last, takes, signed_term, multiplied, on_term, on_formula, ended, folded}
use Rattle.language_meaning.specs.declared.inner_word.InnerWord.{InnerWord}
use Rattle.language_meaning.specs.Grammar as grammar
use Rattle.language_meaning.specs.Grammar.{Written, inner_word, takes_given, command, SpellsAtom, product_of, sum_of, conjunction_of, disjunction_of, SpellsFactor, variable, SpellsPower, first_power, SpellsProduct, product, Factors, no_factor, SpellsSum, sum, Members, no_member, IsRelation, comparison, SpellsNames, SpellsPrime, named_formula, inner_command, SpellsNegation, negation, compared, prime, SpellsConjunction, conjunction, Conjuncts, no_conjunct, SpellsDisjunction, disjunction, Disjuncts, no_disjunct, SpellsImplication, no_implication, implication, SpellsReplication, replication, Repls, no_repl, SpellsFormula, equivalence, Equivs, no_equiv}
use Rattle.redlog_reader.specs.QuantifierWord.{quantifier_word}

-- a term that binds at most so loosely
abbrev pub TermAt : ℕ → List Terminal → TermTree → List Terminal → Type 0
TermAt zero = SpellsPower
TermAt (suc zero) = SpellsProduct
TermAt (suc (suc n)) = SpellsSum

-- a formula that binds at most so loosely
abbrev pub FormulaAt : ℕ → List Terminal → Written → List Terminal → Type 0
FormulaAt zero = SpellsPrime
FormulaAt (suc zero) = SpellsPrime
FormulaAt (suc (suc zero)) = SpellsPrime
FormulaAt (suc (suc (suc zero))) = SpellsNegation
FormulaAt (suc (suc (suc (suc zero)))) = SpellsConjunction
FormulaAt (suc (suc (suc (suc (suc zero))))) = SpellsDisjunction
FormulaAt (suc (suc (suc (suc (suc (suc zero)))))) = SpellsImplication
FormulaAt (suc (suc (suc (suc (suc (suc (suc zero))))))) = SpellsReplication
FormulaAt (suc (suc (suc (suc (suc (suc (suc (suc n)))))))) = SpellsFormula

term_up : (n : ℕ) (ts us : List Terminal) (t : TermTree) → TermAt n ts t us → TermAt (suc n) ts t us
term_up zero ts us t p = product p (no_factor refl)
term_up (suc zero) ts us t p = sum p (no_member refl)
term_up (suc (suc n)) ts us t p = p

formula_up : (n : ℕ) (ts us : List Terminal) (f : Written) → FormulaAt n ts f us → FormulaAt (suc n) ts f us
formula_up zero ts us f p = p
formula_up (suc zero) ts us f p = p
formula_up (suc (suc zero)) ts us f p = prime p
formula_up (suc (suc (suc zero))) ts us f p = conjunction p (no_conjunct refl)
formula_up (suc (suc (suc (suc zero)))) ts us f p = disjunction p (no_disjunct refl)
formula_up (suc (suc (suc (suc (suc zero))))) ts us f p = no_implication p
formula_up (suc (suc (suc (suc (suc (suc zero)))))) ts us f p = replication p (no_repl refl)
formula_up (suc (suc (suc (suc (suc (suc (suc zero))))))) ts us f p = equivalence p (no_equiv refl)
formula_up (suc (suc (suc (suc (suc (suc (suc (suc n)))))))) ts us f p = p

term_lift : (k n : ℕ) (ts us : List Terminal) (t : TermTree) → TermAt n ts t us → TermAt (k + n) ts t us
term_lift zero n ts us t p = let same : n ≡ 0 + n = omega arith in subst (λ m. TermAt m ts t us) same p
term_lift (suc k) n ts us t p = let same : suc (k + n) ≡ suc k + n = omega arith in subst (λ m. TermAt m ts t us) same (term_up (k + n) ts us t (term_lift k n ts us t p))

formula_lift : (k n : ℕ) (ts us : List Terminal) (f : Written) → FormulaAt n ts f us → FormulaAt (k + n) ts f us
formula_lift zero n ts us f p = let same : n ≡ 0 + n = omega arith in subst (λ m. FormulaAt m ts f us) same p
formula_lift (suc k) n ts us f p = let same : suc (k + n) ≡ suc k + n = omega arith in subst (λ m. FormulaAt m ts f us) same (formula_up (k + n) ts us f (formula_lift k n ts us f p))

pub term_raise : (n m : ℕ) (ts us : List Terminal) (t : TermTree) → n ≤ m → TermAt n ts t us → TermAt m ts t us
term_raise n m ts us t le p = let same : (m - n) + n ≡ m = omega (arith, le) in subst (λ k. TermAt k ts t us) same (term_lift (m - n) n ts us t p)

pub formula_raise : (n m : ℕ) (ts us : List Terminal) (f : Written) → n ≤ m → FormulaAt n ts f us → FormulaAt m ts f us
formula_raise n m ts us f le p = let same : (m - n) + n ≡ m = omega (arith, le) in subst (λ k. FormulaAt k ts f us) same (formula_lift (m - n) n ts us f p)

-- the reading is spelled as what binds at most so loosely
pub record Said (n : ℕ) (ts : List Terminal) (h : Reading) (us : List Terminal) : Type 0 where
  pub term : (t : TermTree) → term_of h ≡ Some t → TermAt n ts t us
  pub formula : (f : Written) → formula_of h ≡ Some f → FormulaAt n ts f us

-- the reading is spelled as a factor or a prime formula
pub record SaidFresh (ts : List Terminal) (h : Reading) (us : List Terminal) : Type 0 where
  pub term : (t : TermTree) → term_of h ≡ Some t → SpellsFactor ts t us
  pub formula : (f : Written) → formula_of h ≡ Some f → SpellsPrime ts f us

pub said_fresh : {ts us : List Terminal} {h : Reading} → SaidFresh ts h us → Said 0 ts h us
said_fresh s = record { term = λ t e. first_power (s.term t e); formula = s.formula }

pub said_term : (n : ℕ) {ts us : List Terminal} (t : TermTree) → TermAt n ts t us → Said n ts (Term t) us
said_term n {ts = ts} {us = us} t p = record { term = λ s e. let same : t ≡ s = cc in subst (λ x. TermAt n ts x us) same p; formula = λ f e. absurd (let no : ⊥ = cc in no) }

pub said_formula : (n : ℕ) {ts us : List Terminal} (f : Written) → FormulaAt n ts f us → Said n ts (Formula f) us
said_formula n {ts = ts} {us = us} f p = record { term = λ t e. absurd (let no : ⊥ = cc in no); formula = λ g e. let same : f ≡ g = cc in subst (λ x. FormulaAt n ts x us) same p }

pub fresh_term : {ts us : List Terminal} (t : TermTree) → SpellsFactor ts t us → SaidFresh ts (Term t) us
fresh_term {ts = ts} {us = us} t p = record { term = λ s e. let same : t ≡ s = cc in subst (λ x. SpellsFactor ts x us) same p; formula = λ f e. absurd (let no : ⊥ = cc in no) }

pub fresh_formula : {ts us : List Terminal} (f : Written) → SpellsPrime ts f us → SaidFresh ts (Formula f) us
fresh_formula {ts = ts} {us = us} f p = record { term = λ t e. absurd (let no : ⊥ = cc in no); formula = λ g e. let same : f ≡ g = cc in subst (λ x. SpellsPrime ts x us) same p }

pub fresh_name : (x : List ℕ) (us : List Terminal) → SaidFresh (terminal.Name x ∷ us) (Bare x) us
fresh_name x us = record {
  term = λ t e. let same : Named x ≡ t = cc in subst (λ y. SpellsFactor (terminal.Name x ∷ us) y us) same variable;
  formula = λ f e. let same : whole (One (Bound x)) ≡ f = cc in subst (λ y. SpellsPrime (terminal.Name x ∷ us) y us) same named_formula;
}

abbrev pub congruence_word : Bool → Word
congruence_word true = word.Cong
congruence_word false = word.Ncong

-- the terms of a congruence so far
abbrev pub Arguments : List Terminal → List TermTree → List Terminal → Type 0
Arguments ts [] us = ts ≡ us
Arguments ts (s ∷ []) us = SpellsSum ts s (terminal.Mark mark.Comma ∷ us)
Arguments ts (s ∷ t ∷ []) us = (vs : List Terminal) × SpellsSum ts s (terminal.Mark mark.Comma ∷ vs) × SpellsSum vs t (terminal.Mark mark.Comma ∷ us)
Arguments ts _ us = ⊥

-- from ts on a command has begun that may assume atoms, this formula is read, and what it assumes stands from us on
pub record Called (i : InnerWord) (f : Written) (ts us : List Terminal) : Type 0 where
  pub word : Word
  pub inside : List Terminal
  pub begins : ts ≡ terminal.Word word ∷ terminal.Mark mark.Open ∷ inside
  pub named : inner_word word ≡ Some i
  pub takes : takes_given i ≡ true
  pub formula : SpellsFormula inside f (terminal.Mark mark.Comma ∷ us)

-- from ts on the command has begun, and the list of what it assumes goes on from us, with the atoms so far before
pub record Assuming (c : Call) (ts us : List Terminal) : Type 0 where
  pub list : List Terminal
  pub called : Called c.word c.formula ts (terminal.Mark mark.OpenBrace ∷ list)
  pub onward : (gs : List Written) (rest : List Terminal) → grammar.Listed SpellsAtom us gs rest → grammar.Listed SpellsAtom list (c.atoms ++ gs) rest

-- from ts on the frame has begun, and its last part stands from us on
abbrev pub Onward : Frame → List Terminal → List Terminal → Type 0
Onward Group ts us = ts ≡ terminal.Mark mark.Open ∷ us
Onward (Quantified quantifier xs) ts us =
    (vs : List Terminal) × (ts ≡ terminal.Word (quantifier_word quantifier) ∷ terminal.Mark mark.Open ∷ vs) × SpellsNames vs xs (terminal.Mark mark.Comma ∷ us)
Onward (Congruence positive done) ts us = (vs : List Terminal) × (ts ≡ terminal.Word (congruence_word positive) ∷ terminal.Mark mark.Open ∷ vs) × Arguments vs done us
Onward Negation ts us = ts ≡ terminal.Word word.Not ∷ us
Onward (Compares r s) ts us = (sign : Terminal) × SpellsSum ts s (sign ∷ us) × IsRelation sign r
Onward (Added flag before) ts us =
    (t : TermTree) (vs : List Terminal) → SpellsProduct us t vs → (s : TermTree) (rest : List Terminal) → Members (before ++ signed_term flag t ∷ []) vs s rest → SpellsSum ts s rest
Onward (Multiplied flag before) ts us =
    (t : TermTree) (vs : List Terminal) → SpellsPower us t vs → (s : TermTree) (rest : List Terminal) → Factors (multiplied flag before t) vs s rest → SpellsProduct ts s rest
Onward (Listed Conjunction before) ts us =
    (f : Written) (vs : List Terminal) → SpellsNegation us f vs → (g : Written) (rest : List Terminal) → Conjuncts (before ++ f ∷ []) vs g rest → SpellsConjunction ts g rest
Onward (Listed Disjunction before) ts us =
    (f : Written) (vs : List Terminal) → SpellsConjunction us f vs → (g : Written) (rest : List Terminal) → Disjuncts (before ++ f ∷ []) vs g rest → SpellsDisjunction ts g rest
Onward (Arrows arrow.Impl before) ts us = SpellsDisjunction ts before (terminal.Word word.Impl ∷ us)
Onward (Arrows arrow.Repl before) ts us =
    (f : Written) (vs : List Terminal) → SpellsImplication us f vs → (g : Written) (rest : List Terminal) → Repls (over_both Repl before f) vs g rest → SpellsReplication ts g rest
Onward (Arrows arrow.Equiv before) ts us =
    (f : Written) (vs : List Terminal) → SpellsReplication us f vs → (g : Written) (rest : List Terminal) → Equivs (over_both Equiv before f) vs g rest → SpellsFormula ts g rest
Onward (Commanded i) ts us = (w : Word) × (inner_word w ≡ Some i) × (ts ≡ terminal.Word w ∷ us)
Onward (Assumes c) ts us = Assuming c ts us
Onward (Relates c r s) ts us = (vs : List Terminal) × (sign : Terminal) × Assuming c ts vs × SpellsSum vs s (sign ∷ us) × IsRelation sign r

-- how loosely what the frame makes binds
abbrev pub yields : Frame → ℕ
yields Group = 0
yields (Quantified quantifier xs) = 0
yields (Congruence positive ts) = 0
yields (Assumes c) = 0
yields (Relates c r t) = 0
yields frame = level frame

-- from start on the frames have begun, and the last part of the inmost one stands from us on
pub data Begun (goal : ℕ) (start : List Terminal) : List Frame → List Terminal → Type 0 where
  bottom : Begun goal start [] start
  above : {frame : Frame} {fs : List Frame} {ts us : List Terminal} → Begun goal start fs ts → yields frame ≤ takes goal fs → Onward frame ts us → Begun goal start (frame ∷ fs) us

from_term : (o : Option TermTree) (make : TermTree → Reading) (g : Reading) → on_term o (λ t. Some (make t)) None ≡ Some g → (t : TermTree) × (o ≡ Some t) × (make t ≡ g)
from_term None make g e = absurd (let no : ⊥ = cc in no)
from_term (Some t) make g e = (t, refl, cc)

from_formula : (o : Option Written) (make : Written → Reading) (g : Reading) → on_formula o (λ f. Some (make f)) None ≡ Some g → (f : Written) × (o ≡ Some f) × (make f ≡ g)
from_formula None make g e = absurd (let no : ⊥ = cc in no)
from_formula (Some f) make g e = (f, refl, cc)

-- an ended frame
ended_said : (frame : Frame) (ts us rest : List Terminal) (h g : Reading) → Onward frame ts us → (n : ℕ) → Said n us h rest → n ≤ takes_last frame → ended frame h ≡ Some g → Said (level frame) ts g rest
ended_said Group ts us rest h g on n s le e = absurd (let no : ⊥ = cc in no)
ended_said (Quantified quantifier xs) ts us rest h g on n s le e = absurd (let no : ⊥ = cc in no)
ended_said (Congruence positive xs) ts us rest h g on n s le e = absurd (let no : ⊥ = cc in no)
ended_said Negation ts us rest h g on n s le e =
    let made = from_formula (formula_of h) (λ f. Formula (over Not f)) g e in
    subst (λ k. Said 3 ts k rest) made.2
    (said_formula 3 (over Not made.0) (subst (λ v. SpellsNegation v (over Not made.0) rest) (sym on) (negation (formula_raise n 3 us rest made.0 le (s.formula made.0 made.1)))))
ended_said (Compares r x) ts us rest h g on n s le e =
    let made = from_term (term_of h) (λ t. Formula (whole (One (Compare r x t)))) g e in
    subst (λ k. Said 3 ts k rest) made.2
    (said_formula 3 (whole (One (Compare r x made.0))) (compared (comparison on.1 on.2 (term_raise n 2 us rest made.0 le (s.term made.0 made.1)))))
ended_said (Added flag before) ts us rest h g on n s le e =
    let made = from_term (term_of h) (λ t. Term (sum_of (before ++ signed_term flag t ∷ []))) g e in
    subst (λ k. Said 2 ts k rest) made.2
    (said_term 2 (sum_of (before ++ signed_term flag made.0 ∷ [])) (on made.0 rest (term_raise n 1 us rest made.0 le (s.term made.0 made.1)) _ rest (no_member refl)))
ended_said (Multiplied flag before) ts us rest h g on n s le e =
    let made = from_term (term_of h) (λ t. Term (product_of (multiplied flag before t))) g e in
    subst (λ k. Said 1 ts k rest) made.2
    (said_term 1 (product_of (multiplied flag before made.0)) (on made.0 rest (term_raise n 0 us rest made.0 le (s.term made.0 made.1)) _ rest (no_factor refl)))
ended_said (Listed Conjunction before) ts us rest h g on n s le e =
    let made = from_formula (formula_of h) (λ f. Formula (conjunction_of (before ++ f ∷ []))) g e in
    subst (λ k. Said 4 ts k rest) made.2
    (said_formula 4 (conjunction_of (before ++ made.0 ∷ [])) (on made.0 rest (formula_raise n 3 us rest made.0 le (s.formula made.0 made.1)) _ rest (no_conjunct refl)))
ended_said (Listed Disjunction before) ts us rest h g on n s le e =
    let made = from_formula (formula_of h) (λ f. Formula (disjunction_of (before ++ f ∷ []))) g e in
    subst (λ k. Said 5 ts k rest) made.2
    (said_formula 5 (disjunction_of (before ++ made.0 ∷ [])) (on made.0 rest (formula_raise n 4 us rest made.0 le (s.formula made.0 made.1)) _ rest (no_disjunct refl)))
ended_said (Arrows arrow.Repl before) ts us rest h g on n s le e =
    let made = from_formula (formula_of h) (λ f. Formula (over_both Repl before f)) g e in
    subst (λ k. Said 7 ts k rest) made.2
    (said_formula 7 (over_both Repl before made.0) (on made.0 rest (formula_raise n 6 us rest made.0 le (s.formula made.0 made.1)) _ rest (no_repl refl)))
ended_said (Arrows arrow.Equiv before) ts us rest h g on n s le e =
    let made = from_formula (formula_of h) (λ f. Formula (over_both Equiv before f)) g e in
    subst (λ k. Said 8 ts k rest) made.2
    (said_formula 8 (over_both Equiv before made.0) (on made.0 rest (formula_raise n 7 us rest made.0 le (s.formula made.0 made.1)) _ rest (no_equiv refl)))
ended_said (Arrows arrow.Impl before) ts us rest h g on n s le e =
    let made = from_formula (formula_of h) (λ f. Formula (over_both Impl before f)) g e in
    subst (λ k. Said 6 ts k rest) made.2
    (said_formula 6 (over_both Impl before made.0) (implication on (formula_raise n 6 us rest made.0 le (s.formula made.0 made.1))))
ended_said (Commanded i) ts us rest h g on n s le e =
    let made = from_formula (formula_of h) (λ f. Formula (computed (command i f []))) g e in
    let said : Written = computed (command i made.0 []) in
    subst (λ k. Said 0 ts k rest) made.2
    (said_formula 0 said (subst (λ v. SpellsPrime v said rest) (sym on.2) (inner_command on.1 (formula_raise n 0 us rest made.0 le (s.formula made.0 made.1)) refl)))
ended_said (Assumes c) ts us rest h g on n s le e = absurd (let no : ⊥ = cc in no)
ended_said (Relates c r x) ts us rest h g on n s le e = absurd (let no : ⊥ = cc in no)

-- a reading is held, and it binds tighter than s
pub record HeldAt (goal : ℕ) (start : List Terminal) (s : ℕ) (rest : List Terminal) (fs : List Frame) (h : Reading) : Type 0 where
  pub mid : List Terminal
  pub n : ℕ
  pub begun : Begun goal start fs mid
  pub said : Said n mid h rest
  pub within : n ≤ takes goal fs
  pub tighter : n ≤ s - 1

abbrev pub FoldedAt : ℕ → List Terminal → ℕ → List Terminal → Option (List Frame × Reading) → Type 0
FoldedAt goal start s rest None = Unit {0}
FoldedAt goal start s rest (Some p) = HeldAt goal start s rest p.0 p.1

yields_level : (frame : Frame) (h g : Reading) → ended frame h ≡ Some g → yields frame ≡ level frame
yields_level Group h g e = absurd (let no : ⊥ = cc in no)
yields_level (Quantified quantifier xs) h g e = absurd (let no : ⊥ = cc in no)
yields_level (Congruence positive xs) h g e = absurd (let no : ⊥ = cc in no)
yields_level (Assumes c) h g e = absurd (let no : ⊥ = cc in no)
yields_level (Relates c r x) h g e = absurd (let no : ⊥ = cc in no)
yields_level frame h g e = refl

-- the inmost frame ends, where it binds tighter
end_choice : (goal : ℕ) (start : List Terminal) (s : ℕ) (rest : List Terminal) (frame : Frame) (fs : List Frame) (h : Reading) → HeldAt goal start s rest (frame ∷ fs) h
    → (next : Reading → Option (List Frame × Reading)) → ((g : Reading) → HeldAt goal start s rest fs g → FoldedAt goal start s rest (next g))
    → {mid : List Terminal} → Begun goal start (frame ∷ fs) mid → (n : ℕ) → Said n mid h rest → n ≤ takes_last frame → (b : Bool) → nat_lt (level frame) s ≡ b → (o : Option Reading) → ended frame h ≡ o
    → FoldedAt goal start s rest (if b then (elim o [ None ↦ None | Some g ↦ next g ]) else Some (frame ∷ fs, h))
end_choice goal start s rest frame fs h at next fine (above {ts = ts} {us = us} b fits on) n said le false test o e = at
end_choice goal start s rest frame fs h at next fine (above {ts = ts} {us = us} b fits on) n said le true test None e = tt
end_choice goal start s rest frame fs h at next fine (above {ts = ts} {us = us} b fits on) n said le true test (Some g) e = fine g (record {
  mid = ts;
  n = level frame;
  begun = b;
  said = ended_said frame ts us rest h g on n said le e;
  within = omega (arith, fits, yields_level frame h g e);
  tighter = omega (arith, ltb-true (level frame) s test);
})

-- the frames that bind tighter end
pub folded_said : (goal : ℕ) (start : List Terminal) (s : ℕ) (rest : List Terminal) (fs : List Frame) (h : Reading) → HeldAt goal start s rest fs h → FoldedAt goal start s rest (folded s fs h)
folded_said goal start s rest [] h at = at
folded_said goal start s rest (frame ∷ fs) h at =
    end_choice goal start s rest frame fs h at (folded s fs) (λ g later. folded_said goal start s rest fs g later)
    at.begun at.n at.said at.within (nat_lt (level frame) s) refl (ended frame h) refl
