-- What the values of the code stand for, while terms and formulas are read.
use Rattle.std.specs.Prelude.{List, [], ◌∷◌, map, reverse}
use Rattle.language_meaning.specs.Trees.{TermTree}
use Rattle.written_syntax.specs.CodeTrees.{term_tree, whole_formula}
use Rattle.written_syntax.specs.declared.tree.Term as written
use Rattle.written_syntax.specs.declared.tree.Term.TheVariants as term
use Rattle.redlog_reader.specs.declared.operand.Operand as operands
use Rattle.redlog_reader.specs.declared.operand.Operand.TheVariants as operand
use Rattle.redlog_reader.specs.declared.pending.Pending as begins
use Rattle.redlog_reader.specs.declared.pending.Pending.TheVariants as pending
use Rattle.redlog_reader.specs.declared.pending.Arguments as arguments
use Rattle.redlog_reader.specs.declared.pending.Arguments.TheVariants as argument
use Rattle.redlog_reader.specs.declared.pending.Call as calls
use Rattle.redlog_reader.specs.declared.pending.Expects as expected
use Rattle.redlog_reader.specs.declared.pending.Expects.TheVariants as expects
use Rattle.redlog_reader.specs.declared.pending.Step as steps
use Rattle.redlog_reader.specs.declared.pending.Step.TheVariants as taken
use Rattle.redlog_reader.specs.Machine.{Reading, Term, Formula, Bare, Frame, Group, Quantified, Congruence, Negation, Compares, Added, Multiplied, Listed, Arrows, Commanded, Assumes, Relates, Call, Mode, Wants, Fresh, Held, Raised, Binder, Binding, NameWanted, NameRead, Scoped, Congruent, BraceWanted, AtomWanted, AtomEnd, GivenEnd, Outcome, Stops, Moves}

-- a term that is a name alone is a formula too
abbrev pub named_reading : written.Term → Reading
named_reading (term.Name x) = Bare x
named_reading t = Term (term_tree t)

abbrev pub reading_of : operands.Operand → Reading
reading_of (operand.Term t) = Term (term_tree t.value)
reading_of (operand.Formula f) = Formula (whole_formula f.value)
reading_of (operand.Name t) = named_reading t.value

abbrev pub arguments_of : arguments.Arguments → List TermTree
arguments_of argument.First = []
arguments_of (argument.Second s) = term_tree s.value ∷ []
arguments_of (argument.Third s t) = term_tree s.value ∷ term_tree t.value ∷ []

abbrev pub call_of : calls.Call → Call
call_of c = record { word = c.word; formula = whole_formula c.formula; atoms = map whole_formula c.atoms.items }

abbrev pub frame_of : begins.Pending → Frame
frame_of pending.Group = Group
frame_of (pending.Quantified quantifier names) = Quantified quantifier names.items
frame_of (pending.Congruence positive terms) = Congruence positive (arguments_of terms)
frame_of pending.Negation = Negation
frame_of (pending.Compares r t) = Compares r (term_tree t.value)
frame_of (pending.Added minus terms) = Added minus (map term_tree terms.items)
frame_of (pending.Multiplied over terms) = Multiplied over (map term_tree terms.items)
frame_of (pending.Listed c formulas) = Listed c (map whole_formula formulas.items)
frame_of (pending.Arrows a f) = Arrows a (whole_formula f.value)
frame_of (pending.Commanded word) = Commanded word
frame_of (pending.Assumes c) = Assumes (call_of c.value)
frame_of (pending.Relates c r t) = Relates (call_of c.value) r (term_tree t.value)

-- what has begun, of which the inmost stands last in the code
abbrev pub frames : List begins.Pending → List Frame
frames list = map frame_of (reverse list)

abbrev pub mode_of : expected.Expects → Mode
mode_of expects.Operand = Wants
mode_of (expects.Power o) = Fresh (reading_of o)
mode_of (expects.Operator o) = Held (reading_of o)
mode_of (expects.Exponent t) = Raised (term_tree t.value)
mode_of (expects.Binder quantifier) = Binder quantifier
mode_of (expects.Binding quantifier) = Binding quantifier
mode_of (expects.Name quantifier names) = NameWanted quantifier names.items
mode_of (expects.NameEnd quantifier names) = NameRead quantifier names.items
mode_of (expects.Scope quantifier names) = Scoped quantifier names.items
mode_of (expects.Terms positive) = Congruent positive
mode_of (expects.Brace c) = BraceWanted (call_of c.value)
mode_of (expects.Atom c) = AtomWanted (call_of c.value)
mode_of (expects.AtomEnd c) = AtomEnd (call_of c.value)
mode_of (expects.GivenEnd c) = GivenEnd (call_of c.value)

-- what a step says, with what has begun then
abbrev pub outcome_of : steps.Step → List Frame → Outcome
outcome_of (taken.Stops o) fs = Stops (reading_of o)
outcome_of (taken.Moves e) fs = Moves fs (mode_of e)
