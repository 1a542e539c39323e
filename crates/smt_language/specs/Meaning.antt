-- What an expression of a script means: a term or a formula of the language in which each let is written out. It has no meaning
-- where a term stands for a formula or the reverse, a sort is not the logic's, a number is not of the logic, an operator takes no
-- such members, or a symbol is unknown.
use Rattle.std.specs.Prelude.{ℕ, suc, ◌+◌, List, [], ◌∷◌, Bool, Option, Some, None, option_map, position, length, codes, if◌then◌else◌}
use Rattle.std.specs.List.{list_all}
use Rattle.logic_meaning.specs.Context.{Context, Fields, Integers}
use Rattle.logic_meaning.specs.Formula as plain
use Rattle.language_meaning.specs.declared.tree.Literal.{Literal}
use Rattle.language_meaning.specs.Trees as language
use Rattle.language_meaning.specs.Value.{same_name}
use Rattle.smt_language.specs.declared.names.SortedName.{SortedName}
use Rattle.smt_language.specs.Trees.{ExpressionTree, ExpressionTrees, LocalTrees, True, False, Numeral, Decimal, Named, Apply, Divisible, Quantified, Let, none, also, no_local, also_local}
use Rattle.smt_language.specs.Levels.{level, closed}
use Rattle.smt_language.specs.Shapes.{divides}
use Rattle.smt_language.specs.Operators.{Meaning, Term, Formula, of_one_kind, of_members}

-- what each symbol stands for, if it is known
abbrev pub Scope : Type 0
Scope = List ℕ → Option Meaning

-- the symbol stands for what is given, and each other for what it stood for
abbrev pub with_symbol : List ℕ → Meaning → Scope → Scope
with_symbol x m scope = λ y. if same_name x y then Some m else scope y

-- the variable of a level
abbrev pub variable : ℕ → Meaning
variable n = Term (language.Named (level n))

-- the declared names stand for the first levels
abbrev pub declared_scope : List (List ℕ) → Scope
declared_scope names = λ x. option_map variable (position (same_name x) names)

-- the names stand for the levels from n on
abbrev pub opened : ℕ → List SortedName → Scope → Scope
opened n [] scope = scope
opened n (x ∷ xs) scope = opened (suc n) xs (with_symbol x.name (variable n) scope)

-- the name of the sort of all numbers
abbrev pub sort_name : Context → List ℕ
sort_name Fields = codes "Real"
sort_name Integers = codes "Int"

-- each name has the sort of all numbers
abbrev pub are_numbers : Context → List SortedName → Bool
are_numbers c xs = list_all (λ x. same_name (sort_name c) x.sort) xs

-- the formula that an expression means, if it means one
abbrev pub as_formula : Option Meaning → Option language.FormulaTree
as_formula (Some (Formula f)) = Some f
as_formula (Some (Term t)) = None
as_formula None = None

-- the term that an expression means, if it means one
abbrev pub as_term : Option Meaning → Option language.TermTree
as_term (Some (Term t)) = Some t
as_term (Some (Formula f)) = None
as_term None = None

-- a decimal over the fields: all its digits divided by a power of ten
abbrev pub decimal : Context → language.TermTree → language.TermTree → Option Meaning
decimal Fields digits power = Some (Term (language.Quotient digits power))
decimal Integers digits power = None

-- over the integers: the numeral divides the term
abbrev pub divisible : Context → Literal → language.TermTree → Option Meaning
divisible Fields k t = None
divisible Integers k t = Some (Formula (divides k t))

-- what is calculated of a value, if there is one

abbrev pub and_then : {A B : Type 0} → Option A → (A → Option B) → Option B
and_then (Some x) f = f x
and_then None f = None

module _ (c : Context) where
  abbrev mutual
    -- the meaning inside n names, where symbols stand for what the scope says
    pub meaning : Scope → ℕ → ExpressionTree → Option Meaning
    meaning scope n True = Some (Formula plain.Yes)
    meaning scope n False = Some (Formula plain.No)
    meaning scope n (Numeral k) = Some (Term (language.Number k))
    meaning scope n (Decimal k power) = decimal c (language.Number k) (language.Number power)
    meaning scope n (Named x) = scope x
    meaning scope n (Apply o es) = and_then (and_then (meanings scope n es) of_one_kind) (of_members c o)
    meaning scope n (Divisible k e) = and_then (as_term (meaning scope n e)) (divisible c k)
    meaning scope n (Quantified q xs e) =
        if are_numbers c xs then option_map (λ f. Formula (closed q n xs f)) (as_formula (meaning (opened n xs scope) (n + length xs) e)) else None
    meaning scope n (Let ls e) = and_then (local_scope scope n ls scope) (λ inner. meaning inner n e)

    -- the meanings of the members, if each has one
    pub meanings : Scope → ℕ → ExpressionTrees → Option (List Meaning)
    meanings scope n none = Some []
    meanings scope n (also e es) = and_then (meaning scope n e) (λ m. option_map (λ ms. m ∷ ms) (meanings scope n es))

    -- the inner scope with the names of a let, which stand for what their values mean outside
    pub local_scope : Scope → ℕ → LocalTrees → Scope → Option Scope
    local_scope scope n no_local inner = Some inner
    local_scope scope n (also_local x e ls) inner = and_then (meaning scope n e) (λ m. local_scope scope n ls (with_symbol x m inner))
