-- What is known of expressions and of their members once they are read.
use Rattle.std.specs.Prelude.{◌≡◌, ◌++◌, ℕ, List, [], ◌∷◌, Option, Some, None}
use Rattle.std.specs.List.{AllByRecursion}
use Rattle.std.specs.Option.{ForSome}
use Rattle.logic_meaning.specs.Context.{Context}
use Rattle.logic_meaning.specs.Tree.{Tree}
use Rattle.language_meaning.specs.declared.tree.Relation.{Relation}
use Rattle.language_meaning.specs.declared.tree.Relation.TheVariants as relation
use Rattle.language_meaning.specs.Trees.{TermTree, FormulaTree}
use Rattle.logic_meaning.specs.Bindings.{bound_to}
use Rattle.written_atoms.specs.declared.term.ReadTerm.{ReadTerm}
use Rattle.formula_resolving.specs.declared.parts.Part.{Part}
use Rattle.smt_language.specs.declared.expression.Operator.{Operator}
use Rattle.smt_language.specs.declared.expression.Operator.TheVariants as operator
use Rattle.smt_language.specs.Operators.{Meaning, Term, Formula}
use Rattle.smt_language.specs.Meaning.{Scope, declared_scope}
use Rattle.smt_resolver.specs.declared.sized.Sized.{Sized}
use Rattle.smt_resolver.specs.declared.value.Value.{Value}
use Rattle.smt_resolver.specs.declared.value.Value.TheVariants as value
use Rattle.smt_resolver.specs.declared.value.MemberValues.{MemberValues}
use Rattle.smt_resolver.specs.Frames.{looked_up}
use Rattle.smt_resolver.specs.Values.{IsTermValue, AreTermValues, IsFormulaValue, AreFormulaValues, HasId}

-- the relation that an operator states between neighbours among terms
abbrev pub chain_relation : Operator → Option Relation
chain_relation operator.Equal = Some relation.Equal
chain_relation operator.Less = Some relation.Less
chain_relation operator.AtMost = Some relation.AtMost
chain_relation operator.Greater = Some relation.Greater
chain_relation operator.AtLeast = Some relation.AtLeast
chain_relation _ = None

-- the formula, where there are two terms at least
abbrev pub if_many : List TermTree → FormulaTree → Option FormulaTree
if_many [] f = None
if_many (t ∷ []) f = None
if_many (t ∷ u ∷ ts) f = Some f

-- a term is there exactly where it was read
abbrev pub IsTermFound : Context → ℕ → Option TermTree → Option (Sized ReadTerm) → Type 0
IsTermFound c limit None None = Unit {0}
IsTermFound c limit (Some t) (Some v) = IsTermValue c limit t v
IsTermFound c limit None (Some v) = ⊥
IsTermFound c limit (Some t) None = ⊥

-- a formula is there exactly where it was read
abbrev pub IsFormulaFound : {Id : Type 0} → Context → ℕ → (Id → Type 0) → (Id → Tree) → Option FormulaTree → Option (Sized (Part Id)) → Type 0
IsFormulaFound c limit is_id tree None None = Unit {0}
IsFormulaFound c limit is_id tree (Some f) (Some v) = IsFormulaValue c limit is_id tree f v
IsFormulaFound c limit is_id tree None (Some v) = ⊥
IsFormulaFound c limit is_id tree (Some f) None = ⊥

-- the value is what is read of what an expression means
abbrev pub IsMeaning : {Id : Type 0} → Context → ℕ → (Id → Type 0) → (Id → Tree) → Meaning → Value Id → Type 0
IsMeaning c limit is_id tree (Term t) (value.Term v) = IsTermValue c limit t v
IsMeaning c limit is_id tree (Formula f) (value.Formula v) = IsFormulaValue c limit is_id tree f v
IsMeaning c limit is_id tree (Term t) (value.Formula v) = ⊥
IsMeaning c limit is_id tree (Formula f) (value.Term v) = ⊥

-- there is a meaning exactly where it was read
abbrev pub IsMeant : {Id : Type 0} → Context → ℕ → (Id → Type 0) → (Id → Tree) → Option Meaning → Option (Value Id) → Type 0
IsMeant c limit is_id tree None None = Unit {0}
IsMeant c limit is_id tree (Some m) (Some v) = IsMeaning c limit is_id tree m v
IsMeant c limit is_id tree None (Some v) = ⊥
IsMeant c limit is_id tree (Some m) None = ⊥

-- its id, if it has one, is one
abbrev pub HasValueId : {Id : Type 0} → (Id → Type 0) → Value Id → Type 0
HasValueId is_id (value.Term v) = Unit {0}
HasValueId is_id (value.Formula v) = HasId is_id v

-- ---- members

-- the terms among meanings
abbrev pub terms_among : List Meaning → List TermTree
terms_among [] = []
terms_among (Term t ∷ ms) = t ∷ terms_among ms
terms_among (Formula f ∷ ms) = terms_among ms

-- the formulas among meanings
abbrev pub formulas_among : List Meaning → List FormulaTree
formulas_among [] = []
formulas_among (Term t ∷ ms) = formulas_among ms
formulas_among (Formula f ∷ ms) = f ∷ formulas_among ms

-- the values are what is read of the members
pub record AreMembersOf {Id : Type 0} (c : Context) (limit : ℕ) (is_id : Id → Type 0) (tree : Id → Tree) (ms : List Meaning) (m : MemberValues Id) : Type 0 where
  pub terms : AreTermValues c limit (terms_among ms) m.terms.items
  pub formulas : AreFormulaValues c limit is_id tree (formulas_among ms) m.formulas.items

-- the members mean these exactly where they were read
abbrev pub AreMeant : {Id : Type 0} → Context → ℕ → (Id → Type 0) → (Id → Tree) → Option (List Meaning) → Option (MemberValues Id) → Type 0
AreMeant c limit is_id tree None None = Unit {0}
AreMeant c limit is_id tree (Some ms) (Some m) = AreMembersOf c limit is_id tree ms m
AreMeant c limit is_id tree None (Some m) = ⊥
AreMeant c limit is_id tree (Some ms) None = ⊥

abbrev pub HaveMemberIds : {Id : Type 0} → (Id → Type 0) → MemberValues Id → Type 0
HaveMemberIds is_id m = AllByRecursion (HasId is_id) m.formulas.items

-- ---- symbols

-- what a symbol stands for is what was read of it where it is bound, and else as it is declared
abbrev pub Stands : {Id : Type 0} → Context → ℕ → (Id → Type 0) → (Id → Tree) → Option (Value Id) → Option Meaning → Option Meaning → Type 0
Stands c limit is_id tree None m d = m ≡ d
Stands c limit is_id tree (Some v) m d = IsMeant c limit is_id tree m (Some v)

-- each symbol stands for what the scope says, where names are declared
abbrev pub IsScope : {Id : Type 0} → Context → ℕ → List (List ℕ) → (Id → Type 0) → (Id → Tree) → List (List (List ℕ × Value Id)) → Scope → Type 0
IsScope c limit declared is_id tree frames scope = (x : List ℕ) → Stands c limit is_id tree (looked_up frames x) (scope x) (declared_scope declared x)

-- the inner scope differs from the outer one by what the frame binds
abbrev pub IsFrame : {Id : Type 0} → Context → ℕ → (Id → Type 0) → (Id → Tree) → List (List ℕ × Value Id) → Scope → Scope → Type 0
IsFrame c limit is_id tree frame outer inner = (x : List ℕ) → Stands c limit is_id tree (bound_to frame x) (inner x) (outer x)

-- the inner scope is there exactly where the frame was read
abbrev pub IsFrameRead : {Id : Type 0} → Context → ℕ → (Id → Type 0) → (Id → Tree) → Option Scope → Scope → Option (List (List ℕ × Value Id)) → Type 0
IsFrameRead c limit is_id tree None outer None = Unit {0}
IsFrameRead c limit is_id tree (Some inner) outer (Some frame) = IsFrame c limit is_id tree frame outer inner
IsFrameRead c limit is_id tree None outer (Some frame) = ⊥
IsFrameRead c limit is_id tree (Some inner) outer None = ⊥

-- each id that stands for a symbol is one
abbrev pub HaveFrameIds : {Id : Type 0} → (Id → Type 0) → List (List ℕ × Value Id) → Type 0
HaveFrameIds is_id frame = (x : List ℕ) → ForSome (bound_to frame x) (HasValueId is_id)

abbrev pub HaveSymbolIds : {Id : Type 0} → (Id → Type 0) → List (List (List ℕ × Value Id)) → Type 0
HaveSymbolIds is_id frames = (x : List ℕ) → ForSome (looked_up frames x) (HasValueId is_id)

-- one member more was taken in
abbrev pub IsMemberAdded : {Id : Type 0} → MemberValues Id → Value Id → MemberValues Id → Type 0
IsMemberAdded old (value.Term v) new = (new.terms.items ≡ old.terms.items ++ v ∷ []) × (new.formulas.items ≡ old.formulas.items)
IsMemberAdded old (value.Formula v) new = (new.terms.items ≡ old.terms.items) × (new.formulas.items ≡ old.formulas.items ++ v ∷ [])
