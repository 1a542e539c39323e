-- What is known of terms and formulas once they are read, with their nodes.
use Rattle.std.specs.Prelude.{◌≡◌, ◌<◌, ◌≤◌, ◌+◌, ◌++◌, ℕ, List, [], ◌∷◌, Bool, true, false, Option, Some, None}
use Rattle.std.specs.List.{AllByRecursion}
use Rattle.std.specs.Option.{ForSome}
use Rattle.logic_meaning.specs.Context.{Context}
use Rattle.logic_meaning.specs.Formula.{Impl}
use Rattle.logic_meaning.specs.Tree.{Tree}
use Rattle.language_meaning.specs.Trees.{TermTree, FormulaTree, formulas_of}
use Rattle.language_meaning.specs.Resolving.{variables_of, formula_variables}
use Rattle.logic_meaning.specs.Names.{place}
use Rattle.written_atoms.specs.Term.{IsTermRead}
use Rattle.written_atoms.specs.declared.term.ReadTerm.{ReadTerm}
use Rattle.formula_resolving.specs.Parts.{IsPart}
use Rattle.formula_resolving.specs.declared.parts.Part.{Part}
use Rattle.smt_language.specs.Levels.{levels}
use Rattle.smt_meaning.specs.LevelsBelow.{AreLevelsBelow}
use Rattle.smt_language.specs.Nodes.{term_nodes, formula_nodes, formulas_nodes}
use Rattle.smt_resolver.specs.declared.parts.Parts.{Parts}
use Rattle.smt_resolver.specs.declared.sized.Sized.{Sized}
use Rattle.smt_resolver.specs.declared.sized.Sized.TheVariants.{Within, TooLarge}

-- it has so many nodes, and what is read has P; or it has more nodes than the limit
abbrev pub IsSized : {T : Type 0} → ℕ → ℕ → (T → Type 0) → Sized T → Type 0
IsSized limit nodes P (Within n read) = (n ≡ nodes) × (n ≤ limit) × P read
IsSized limit nodes P TooLarge = limit < nodes

-- it is what is read of the term, however many levels are numbered, if those of the term are
pub record IsLevelTerm (c : Context) (t : TermTree) (r : ReadTerm) : Type 0 where
  pub read : (count : ℕ) → AreLevelsBelow count (variables_of t) → IsTermRead c (place (levels count)) t r

-- the same of a term with its nodes
abbrev pub IsTermValue : Context → ℕ → TermTree → Sized ReadTerm → Type 0
IsTermValue c limit t v = IsSized limit (term_nodes t) (IsLevelTerm c t) v

-- each value of the second list is what the relation wants of the one in the first
abbrev pub AreEach : {X V : Type 0} → (X → V → Type 0) → List X → List V → Type 0
AreEach R [] [] = Unit {0}
AreEach R (x ∷ xs) (v ∷ vs) = R x v × AreEach R xs vs
AreEach R [] (v ∷ vs) = ⊥
AreEach R (x ∷ xs) [] = ⊥

-- the same of a list of terms with their nodes
abbrev pub AreTermValues : Context → ℕ → List TermTree → List (Sized ReadTerm) → Type 0
AreTermValues c limit ts vs = AreEach (IsTermValue c limit) ts vs

-- ---- formulas

-- it is what is read of the formula, however many levels are numbered, if those of the formula are
pub record IsLevelPart {Id : Type 0} (c : Context) (is_id : Id → Type 0) (tree : Id → Tree) (f : FormulaTree) (part : Part Id) : Type 0 where
  pub read : (count : ℕ) → AreLevelsBelow count (formula_variables f) → IsPart c [] (levels count) is_id tree f part

-- the same of a formula with its nodes
abbrev pub IsFormulaValue : {Id : Type 0} → Context → ℕ → (Id → Type 0) → (Id → Tree) → FormulaTree → Sized (Part Id) → Type 0
IsFormulaValue c limit is_id tree f v = IsSized limit (formula_nodes f) (IsLevelPart c is_id tree f) v

-- and of a list of formulas
abbrev pub AreFormulaValues : {Id : Type 0} → Context → ℕ → (Id → Type 0) → (Id → Tree) → List FormulaTree → List (Sized (Part Id)) → Type 0
AreFormulaValues c limit is_id tree fs vs = AreEach (IsFormulaValue c limit is_id tree) fs vs

-- its id, if it has one, is one
abbrev pub HasId : {Id : Type 0} → (Id → Type 0) → Sized (Part Id) → Type 0
HasId is_id (Within n part) = ForSome part.id is_id
HasId is_id TooLarge = Unit {0}

-- they are what is read of the formulas, which have so many nodes together
pub record ArePartsBelow {Id : Type 0} (c : Context) (is_id : Id → Type 0) (tree : Id → Tree) (fs : List FormulaTree) (s : Parts Id) : Type 0 where
  pub nodes : s.nodes ≡ formulas_nodes (formulas_of fs)
  pub parts : AreEach (IsLevelPart c is_id tree) fs s.parts.items

-- the same; or the formulas have more nodes than the limit
abbrev pub ArePartsOf : {Id : Type 0} → Context → ℕ → (Id → Type 0) → (Id → Tree) → List FormulaTree → Option (Parts Id) → Type 0
ArePartsOf c limit is_id tree fs (Some s) = ArePartsBelow c is_id tree fs s
ArePartsOf c limit is_id tree fs None = limit < formulas_nodes (formulas_of fs)

-- each id of theirs is one
abbrev pub HaveIds : {Id : Type 0} → (Id → Type 0) → Parts Id → Type 0
HaveIds is_id s = AllByRecursion (λ p. ForSome p.id is_id) s.parts.items

-- one formula more was taken in; or it is too large, or they are together
abbrev pub IsAdded : {Id : Type 0} → ℕ → Parts Id → Sized (Part Id) → Bool → Parts Id → Type 0
IsAdded limit old (Within more part) true new = (new.nodes ≡ old.nodes + more) × (new.nodes ≤ limit) × (new.parts.items ≡ old.parts.items ++ part ∷ [])
IsAdded limit old (Within more part) false new = limit < old.nodes + more
IsAdded limit old TooLarge true new = ⊥
IsAdded limit old TooLarge false new = Unit {0}

-- the formula behind implications of these
abbrev pub implied_by : List FormulaTree → FormulaTree → FormulaTree
implied_by [] f = f
implied_by (g ∷ gs) f = Impl g (implied_by gs f)
