-- How terms and formulas are read: terminal by terminal, with a stack of what has begun and waits for its last part.
-- It is a function, so what it reads is determined.
use Rattle.std.specs.Prelude.{ℕ, Bool, true, false, List, [], ◌∷◌, ◌++◌, Option, Some, None, nat_lt, nat_le, if◌then◌else◌}
use Rattle.logic_meaning.specs.Formula.{Yes, No, One, Not, Impl, Repl, Equiv}
use Rattle.logic_meaning.specs.declared.junction.Junction.{Junction}
use Rattle.logic_meaning.specs.declared.junction.Junction.TheVariants.{Conjunction, Disjunction}
use Rattle.logic_meaning.specs.declared.quantifier.Quantifier.{Quantifier}
use Rattle.logic_meaning.specs.declared.quantifier.Quantifier.TheVariants.{Exists, ForAll}
use Rattle.language_meaning.specs.declared.tree.Relation.{Relation}
use Rattle.language_meaning.specs.declared.tree.Relation.TheVariants.{Differs}
use Rattle.language_meaning.specs.Trees.{TermTree, Number, Named, Quotient, Power, Negative, Compare, Cong, Ncong, Bound}
use Rattle.language_meaning.specs.Holes.{whole, over, over_both, computed}
use Rattle.language_meaning.specs.declared.terminal.Terminal.{Terminal}
use Rattle.language_meaning.specs.declared.terminal.Terminal.TheVariants as terminal
use Rattle.language_meaning.specs.declared.terminal.Mark.TheVariants as mark
use Rattle.language_meaning.specs.declared.terminal.Word.TheVariants as word
use Rattle.redlog_reader.specs.declared.pending.Arrow.{Arrow}
use Rattle.redlog_reader.specs.declared.pending.Arrow.TheVariants as arrow
use Rattle.language_meaning.specs.declared.inner_word.InnerWord.{InnerWord}
use Rattle.language_meaning.specs.Grammar.{Written, product_of, sum_of, conjunction_of, disjunction_of, quantified_names, inner_word, takes_given, command}

-- What has been read. A name alone, in brackets or not, is a term and a formula.
pub data Reading : Type 0 where
  Term : TermTree → Reading
  Formula : Written → Reading
  Bare : List ℕ → Reading

-- the term that was read
abbrev pub term_of : Reading → Option TermTree
term_of (Term t) = Some t
term_of (Formula f) = None
term_of (Bare x) = Some (Named x)

-- the formula that was read
abbrev pub formula_of : Reading → Option Written
formula_of (Term t) = None
formula_of (Formula f) = Some f
formula_of (Bare x) = Some (whole (One (Bound x)))

-- What stands in the brackets of a command so far: its formula, and the atoms that it may assume.
pub record Call : Type 0 where
  pub word : InnerWord
  pub formula : Written
  pub atoms : List Written

-- with one more atom
abbrev pub with_atom : Call → Written → Call
with_atom c f = record c { atoms = c.atoms ++ f ∷ [] }

-- the formula that the command is
abbrev pub answered : Call → Written
answered c = computed (command c.word c.formula c.atoms)

-- What has begun. A congruence is cong where the test is true. The last sign of a sum is - and
-- of a product / where the test is true.
pub data Frame : Type 0 where
  Group : Frame
  Quantified : Quantifier → List (List ℕ) → Frame
  Congruence : Bool → List TermTree → Frame
  Negation : Frame
  Compares : Relation → TermTree → Frame
  Added : Bool → List TermTree → Frame
  Multiplied : Bool → List TermTree → Frame
  Listed : Junction → List Written → Frame
  Arrows : Arrow → Written → Frame
  Commanded : InnerWord → Frame
  Assumes : Call → Frame
  Relates : Call → Relation → TermTree → Frame

-- What comes next: an operand, what may follow an operand (after Fresh a power may follow), the exponent of a power, a part
-- of what stands before the formula of a quantifier or the first term of a congruence, or a part of what a command may assume.
pub data Mode : Type 0 where
  Wants : Mode
  Fresh : Reading → Mode
  Held : Reading → Mode
  Raised : TermTree → Mode
  Binder : Quantifier → Mode
  Binding : Quantifier → Mode
  NameWanted : Quantifier → List (List ℕ) → Mode
  NameRead : Quantifier → List (List ℕ) → Mode
  Scoped : Quantifier → List (List ℕ) → Mode
  Congruent : Bool → Mode
  BraceWanted : Call → Mode
  AtomWanted : Call → Mode
  AtomEnd : Call → Mode
  GivenEnd : Call → Mode

-- A terminal fails, ends what is read, or moves on.
pub data Outcome : Type 0 where
  Fails : Outcome
  Stops : Reading → Outcome
  Moves : List Frame → Mode → Outcome

-- How loosely an operator binds: * and / 1, + and - 2, relations 3, and 4, or 5, impl 6, repl 7, equiv 8. A power binds before all of
-- them, and what is no operator after them.
abbrev pub strength : Terminal → ℕ
strength (terminal.Mark mark.Power) = 0
strength (terminal.Mark mark.Times) = 1
strength (terminal.Mark mark.Slash) = 1
strength (terminal.Mark mark.Plus) = 2
strength (terminal.Mark mark.Minus) = 2
strength (terminal.Relation r) = 3
strength (terminal.Word word.Neq) = 3
strength (terminal.Word word.And) = 4
strength (terminal.Word word.Or) = 5
strength (terminal.Word word.Impl) = 6
strength (terminal.Word word.Repl) = 7
strength (terminal.Word word.Equiv) = 8
strength _ = 9

-- how loosely what the frame makes binds; only its bracket ends a frame with 9
abbrev pub level : Frame → ℕ
level Group = 9
level (Quantified quantifier xs) = 9
level (Congruence positive ts) = 9
level Negation = 3
level (Compares r t) = 3
level (Added minus ts) = 2
level (Multiplied over ts) = 1
level (Listed Conjunction fs) = 4
level (Listed Disjunction fs) = 5
level (Arrows arrow.Impl f) = 6
level (Arrows arrow.Repl f) = 7
level (Arrows arrow.Equiv f) = 8
level (Commanded i) = 0
level (Assumes c) = 9
level (Relates c r t) = 9

-- how loosely its last part may bind
abbrev pub takes_last : Frame → ℕ
takes_last Group = 8
takes_last (Quantified quantifier xs) = 8
takes_last (Congruence positive ts) = 2
takes_last Negation = 3
takes_last (Compares r t) = 2
takes_last (Added minus ts) = 1
takes_last (Multiplied over ts) = 0
takes_last (Listed Conjunction fs) = 3
takes_last (Listed Disjunction fs) = 4
takes_last (Arrows arrow.Impl f) = 6
takes_last (Arrows arrow.Repl f) = 6
takes_last (Arrows arrow.Equiv f) = 7
takes_last (Commanded i) = 0
takes_last (Assumes c) = 2
takes_last (Relates c r t) = 2

-- how loosely what is read next may bind; with nothing begun this is the goal: 0 a prime formula, 2 a sum, 8 a formula
abbrev pub takes : ℕ → List Frame → ℕ
takes goal [] = goal
takes goal (frame ∷ fs) = takes_last frame

abbrev pub signed_term : Bool → TermTree → TermTree
signed_term true t = Negative t
signed_term false t = t

-- the factors with one more, or the quotient by it
abbrev pub multiplied : Bool → List TermTree → TermTree → List TermTree
multiplied true ts t = Quotient (product_of ts) t ∷ []
multiplied false ts t = ts ++ t ∷ []

-- the conjunction or disjunction of the members
abbrev pub list_of : Junction → List Written → Written
list_of Conjunction fs = conjunction_of fs
list_of Disjunction fs = disjunction_of fs

abbrev pub arrow_of : Arrow → Written → Written → Written
arrow_of arrow.Impl f g = over_both Impl f g
arrow_of arrow.Repl f g = over_both Repl f g
arrow_of arrow.Equiv f g = over_both Equiv f g

abbrev pub on_term : {X : Type 0} → Option TermTree → (TermTree → X) → X → X
on_term None f other = other
on_term (Some t) f other = f t

abbrev pub on_formula : {X : Type 0} → Option Written → (Written → X) → X → X
on_formula None f other = other
on_formula (Some t) f other = f t

-- what the frame makes with its last part
abbrev pub ended : Frame → Reading → Option Reading
ended Group h = None
ended (Quantified quantifier xs) h = None
ended (Congruence positive ts) h = None
ended Negation h = on_formula (formula_of h) (λ f. Some (Formula (over Not f))) None
ended (Compares r s) h = on_term (term_of h) (λ t. Some (Formula (whole (One (Compare r s t))))) None
ended (Added minus ts) h = on_term (term_of h) (λ t. Some (Term (sum_of (ts ++ signed_term minus t ∷ [])))) None
ended (Multiplied over ts) h = on_term (term_of h) (λ t. Some (Term (product_of (multiplied over ts t)))) None
ended (Listed c fs) h = on_formula (formula_of h) (λ f. Some (Formula (list_of c (fs ++ f ∷ [])))) None
ended (Arrows a g) h = on_formula (formula_of h) (λ f. Some (Formula (arrow_of a g f))) None
ended (Commanded i) h = on_formula (formula_of h) (λ f. Some (Formula (computed (command i f [])))) None
ended (Assumes c) h = None
ended (Relates c r s) h = None

-- the frames that bind tighter than this are ended
abbrev pub folded : ℕ → List Frame → Reading → Option (List Frame × Reading)
folded s [] h = Some ([], h)
folded s (frame ∷ fs) h =
    if nat_lt (level frame) s then elim (ended frame h) [ None ↦ None | Some g ↦ folded s fs g ]
    else Some (frame ∷ fs, h)

-- the factors so far with the term as the last one, and what stands around them
abbrev pub factors : List Frame → TermTree → List TermTree × List Frame
factors (Multiplied over ts ∷ fs) t = (multiplied over ts t, fs)
factors fs t = (t ∷ [], fs)

abbrev pub members : List Frame → TermTree → List TermTree × List Frame
members (Added minus ts ∷ fs) t = (ts ++ signed_term minus t ∷ [], fs)
members fs t = (t ∷ [], fs)

abbrev pub listed : Junction → List Frame → Written → List Written × List Frame
listed Conjunction (Listed Conjunction gs ∷ fs) f = (gs ++ f ∷ [], fs)
listed Disjunction (Listed Disjunction gs ∷ fs) f = (gs ++ f ∷ [], fs)
listed c fs f = (f ∷ [], fs)

-- repl and equiv group to the left
abbrev pub grouped : Arrow → List Frame → Written → Written × List Frame
grouped arrow.Repl (Arrows arrow.Repl g ∷ fs) f = (over_both Repl g f, fs)
grouped arrow.Equiv (Arrows arrow.Equiv g ∷ fs) f = (over_both Equiv g f, fs)
grouped a fs f = (f, fs)

-- a frame is put on these, where what it makes may stand there
abbrev pub pushed : ℕ → Frame → List Frame → Outcome
pushed goal frame fs = if nat_le (level frame) (takes goal fs) then Moves (frame ∷ fs) Wants else Fails

abbrev pub multiplies : ℕ → Bool → List Frame → Reading → Outcome
multiplies goal over fs h = on_term (term_of h) (λ t. pushed goal (Multiplied over (factors fs t).0) (factors fs t).1) Fails

abbrev pub adds : ℕ → Bool → List Frame → Reading → Outcome
adds goal minus fs h = on_term (term_of h) (λ t. pushed goal (Added minus (members fs t).0) (members fs t).1) Fails

abbrev pub compares : ℕ → Relation → List Frame → Reading → Outcome
compares goal r (Assumes c ∷ fs) h = on_term (term_of h) (λ t. Moves (Relates c r t ∷ fs) Wants) Fails
compares goal r fs h = on_term (term_of h) (λ t. pushed goal (Compares r t) fs) Fails

abbrev pub joins : ℕ → Junction → List Frame → Reading → Outcome
joins goal c fs h = on_formula (formula_of h) (λ f. pushed goal (Listed c (listed c fs f).0) (listed c fs f).1) Fails

abbrev pub implies : ℕ → Arrow → List Frame → Reading → Outcome
implies goal a fs h = on_formula (formula_of h) (λ f. pushed goal (Arrows a (grouped a fs f).0) (grouped a fs f).1) Fails

abbrev pub congruence_of : Bool → TermTree → TermTree → TermTree → Written
congruence_of true s t m = whole (One (Cong s t m))
congruence_of false s t m = whole (One (Ncong s t m))

-- a congruence is an atom of what a command may assume where this has begun, else an operand
abbrev pub congruence_read : List Frame → Written → Outcome
congruence_read (Assumes c ∷ fs) f = Moves fs (AtomEnd (with_atom c f))
congruence_read fs f = Moves fs (Fresh (Formula f))

-- after a closing bracket
abbrev pub closed : List Frame → Reading → Outcome
closed (Group ∷ fs) h = Moves fs (Fresh h)
closed (Quantified quantifier xs ∷ fs) h = on_formula (formula_of h) (λ f. Moves fs (Fresh (Formula (quantified_names quantifier xs f)))) Fails
closed (Congruence positive (s ∷ t ∷ []) ∷ fs) h = on_term (term_of h) (λ m. congruence_read fs (congruence_of positive s t m)) Fails
closed _ h = Fails

-- after a comma
abbrev pub separated : List Frame → Reading → Outcome
separated (Congruence positive [] ∷ fs) h = on_term (term_of h) (λ t. Moves (Congruence positive (t ∷ []) ∷ fs) Wants) Fails
separated (Congruence positive (s ∷ []) ∷ fs) h = on_term (term_of h) (λ t. Moves (Congruence positive (s ∷ t ∷ []) ∷ fs) Wants) Fails
separated (Group ∷ Commanded i ∷ fs) h =
    if takes_given i then on_formula (formula_of h) (λ f. Moves fs (BraceWanted (record { word = i; formula = f; atoms = [] }))) Fails else Fails
separated (Relates c r s ∷ fs) h = on_term (term_of h) (λ t. Moves fs (AtomWanted (with_atom c (whole (One (Compare r s t)))))) Fails
separated _ h = Fails

-- after a closing brace
abbrev pub enclosed : List Frame → Reading → Outcome
enclosed (Relates c r s ∷ fs) h = on_term (term_of h) (λ t. Moves fs (GivenEnd (with_atom c (whole (One (Compare r s t)))))) Fails
enclosed _ h = Fails

-- a terminal after an operand, where what binds tighter is ended
abbrev pub operated : ℕ → Terminal → List Frame → Reading → Outcome
operated goal (terminal.Mark mark.Times) fs h = multiplies goal false fs h
operated goal (terminal.Mark mark.Slash) fs h = multiplies goal true fs h
operated goal (terminal.Mark mark.Plus) fs h = adds goal false fs h
operated goal (terminal.Mark mark.Minus) fs h = adds goal true fs h
operated goal (terminal.Relation r) fs h = compares goal r fs h
operated goal (terminal.Word word.Neq) fs h = compares goal Differs fs h
operated goal (terminal.Word word.And) fs h = joins goal Conjunction fs h
operated goal (terminal.Word word.Or) fs h = joins goal Disjunction fs h
operated goal (terminal.Word word.Impl) fs h = implies goal arrow.Impl fs h
operated goal (terminal.Word word.Repl) fs h = implies goal arrow.Repl fs h
operated goal (terminal.Word word.Equiv) fs h = implies goal arrow.Equiv fs h
operated goal (terminal.Mark mark.Close) fs h = closed fs h
operated goal (terminal.Mark mark.Comma) fs h = separated fs h
operated goal (terminal.Mark mark.CloseBrace) fs h = enclosed fs h
operated goal _ fs h = Fails

-- with nothing begun, what binds looser than the goal ends what is read
abbrev pub joined : ℕ → Terminal → List Frame → Reading → Outcome
joined goal t [] h = if nat_lt goal (strength t) then Stops h else operated goal t [] h
joined goal t (frame ∷ fs) h = operated goal t (frame ∷ fs) h

abbrev pub continued : ℕ → Terminal → Option (List Frame × Reading) → Outcome
continued goal t None = Fails
continued goal t (Some p) = joined goal t p.0 p.1

-- a terminal after an operand
abbrev pub held : ℕ → Terminal → List Frame → Reading → Outcome
held goal t fs h = continued goal t (folded (strength t) fs h)

-- a terminal after an operand to which a power may be put
abbrev pub fresh : ℕ → Terminal → List Frame → Reading → Outcome
fresh goal (terminal.Mark mark.Power) fs h = on_term (term_of h) (λ t. Moves fs (Raised t)) Fails
fresh goal t fs h = held goal t fs h

-- the word of a command at the beginning of an operand
abbrev pub commands : Option InnerWord → List Frame → Outcome
commands None fs = Fails
commands (Some i) fs = Moves (Commanded i ∷ fs) Wants

-- a terminal at the beginning of an operand
abbrev pub wanted : ℕ → Terminal → List Frame → Outcome
wanted goal (terminal.Number n) fs = Moves fs (Fresh (Term (Number n)))
wanted goal (terminal.Name x) fs = Moves fs (Fresh (Bare x))
wanted goal (terminal.Mark mark.Open) fs = Moves (Group ∷ fs) Wants
wanted goal (terminal.Mark mark.Plus) fs = pushed goal (Added false []) fs
wanted goal (terminal.Mark mark.Minus) fs = pushed goal (Added true []) fs
wanted goal (terminal.Word word.True) fs = Moves fs (Fresh (Formula (whole Yes)))
wanted goal (terminal.Word word.False) fs = Moves fs (Fresh (Formula (whole No)))
wanted goal (terminal.Word word.Not) fs = pushed goal Negation fs
wanted goal (terminal.Word word.Ex) fs = Moves fs (Binder Exists)
wanted goal (terminal.Word word.All) fs = Moves fs (Binder ForAll)
wanted goal (terminal.Word word.Cong) fs = Moves fs (Congruent true)
wanted goal (terminal.Word word.Ncong) fs = Moves fs (Congruent false)
wanted goal (terminal.Word w) fs = commands (inner_word w) fs
wanted goal _ fs = Fails

-- the exponent of a power
abbrev pub raised_to : TermTree → Terminal → List Frame → Outcome
raised_to s (terminal.Number n) fs = Moves fs (Held (Term (Power s n)))
raised_to s _ fs = Fails

-- the bracket of a quantifier
abbrev pub binds : Quantifier → Terminal → List Frame → Outcome
binds quantifier (terminal.Mark mark.Open) fs = Moves fs (Binding quantifier)
binds quantifier _ fs = Fails

-- the first terminal of the names of a quantifier
abbrev pub first_bound : Quantifier → Terminal → List Frame → Outcome
first_bound quantifier (terminal.Name x) fs = Moves fs (Scoped quantifier (x ∷ []))
first_bound quantifier (terminal.Mark mark.OpenBrace) fs = Moves fs (NameWanted quantifier [])
first_bound quantifier _ fs = Fails

-- one more name
abbrev pub next_bound : Quantifier → List (List ℕ) → Terminal → List Frame → Outcome
next_bound quantifier xs (terminal.Name x) fs = Moves fs (NameRead quantifier (xs ++ x ∷ []))
next_bound quantifier xs _ fs = Fails

-- what stands after a name
abbrev pub after_bound : Quantifier → List (List ℕ) → Terminal → List Frame → Outcome
after_bound quantifier xs (terminal.Mark mark.Comma) fs = Moves fs (NameWanted quantifier xs)
after_bound quantifier xs (terminal.Mark mark.CloseBrace) fs = Moves fs (Scoped quantifier xs)
after_bound quantifier xs _ fs = Fails

-- the comma before the formula of a quantifier
abbrev pub scoped : Quantifier → List (List ℕ) → Terminal → List Frame → Outcome
scoped quantifier xs (terminal.Mark mark.Comma) fs = Moves (Quantified quantifier xs ∷ fs) Wants
scoped quantifier xs _ fs = Fails

-- the bracket of a congruence
abbrev pub opens : Bool → Terminal → List Frame → Outcome
opens positive (terminal.Mark mark.Open) fs = Moves (Congruence positive [] ∷ fs) Wants
opens positive _ fs = Fails

-- the brace before what a command may assume
abbrev pub braced : Call → Terminal → List Frame → Outcome
braced c (terminal.Mark mark.OpenBrace) fs = Moves fs (AtomWanted c)
braced c _ fs = Fails

-- there are none yet
abbrev pub assumes_nothing : List Written → Bool
assumes_nothing [] = true
assumes_nothing (f ∷ gs) = false

-- the first terminal of an atom, or the brace behind none at all
abbrev pub atom_begins : ℕ → Call → Terminal → List Frame → Outcome
atom_begins goal c (terminal.Mark mark.CloseBrace) fs = if assumes_nothing c.atoms then Moves fs (GivenEnd c) else Fails
atom_begins goal c t fs = wanted goal t (Assumes c ∷ fs)

-- what stands after a congruence that may be assumed
abbrev pub atom_ends : Call → Terminal → List Frame → Outcome
atom_ends c (terminal.Mark mark.Comma) fs = Moves fs (AtomWanted c)
atom_ends c (terminal.Mark mark.CloseBrace) fs = Moves fs (GivenEnd c)
atom_ends c _ fs = Fails

-- the bracket behind what a command may assume
abbrev pub given_ends : Call → Terminal → List Frame → Outcome
given_ends c (terminal.Mark mark.Close) fs = Moves fs (Fresh (Formula (answered c)))
given_ends c _ fs = Fails

-- one more terminal
abbrev pub step : ℕ → List Frame → Mode → Terminal → Outcome
step goal fs Wants t = wanted goal t fs
step goal fs (Fresh h) t = fresh goal t fs h
step goal fs (Held h) t = held goal t fs h
step goal fs (Raised s) t = raised_to s t fs
step goal fs (Binder quantifier) t = binds quantifier t fs
step goal fs (Binding quantifier) t = first_bound quantifier t fs
step goal fs (NameWanted quantifier xs) t = next_bound quantifier xs t fs
step goal fs (NameRead quantifier xs) t = after_bound quantifier xs t fs
step goal fs (Scoped quantifier xs) t = scoped quantifier xs t fs
step goal fs (Congruent positive) t = opens positive t fs
step goal fs (BraceWanted c) t = braced c t fs
step goal fs (AtomWanted c) t = atom_begins goal c t fs
step goal fs (AtomEnd c) t = atom_ends c t fs
step goal fs (GivenEnd c) t = given_ends c t fs

-- what is read of these terminals, with what is left
abbrev pub run : ℕ → List Terminal → List Frame → Mode → Option (Reading × List Terminal)
run goal [] fs mode = None
run goal (t ∷ ts) fs mode = elim (step goal fs mode t) [ Fails ↦ None | Stops h ↦ Some (h, t ∷ ts) | Moves gs next ↦ run goal ts gs next ]
