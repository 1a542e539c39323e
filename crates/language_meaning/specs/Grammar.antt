-- What terminals spell, line by line. Each relation is between terminals, what they spell, and the terminals that
-- are left after it. A list may end at any of its members: nothing looks ahead. A list that groups to the left is
-- given by what stands before it.
use Rattle.std.specs.Prelude.{◌≡◌, ℕ, Bool, true, false, List, [], ◌∷◌, ◌++◌, map, codes, bytes_eq, ◌||◌, if◌then◌else◌, Option, Some, None, pos, neg_ℤ}
use Rattle.std.specs.Char.{to_ascii_lowercase}
use Rattle.logic_meaning.specs.Formula.{Yes, No, One, Not, And, Or, Impl, Repl, Equiv}
use Rattle.logic_meaning.specs.Shape.{quantified}
use Rattle.logic_meaning.specs.declared.quantifier.Quantifier.{Quantifier}
use Rattle.logic_meaning.specs.declared.quantifier.Quantifier.TheVariants.{Exists, ForAll}
use Rattle.language_meaning.specs.declared.tree.Literal.{Literal}
use Rattle.language_meaning.specs.declared.tree.Literal.TheVariants.{Fits, Past}
use Rattle.language_meaning.specs.declared.tree.Relation.{Relation}
use Rattle.language_meaning.specs.declared.tree.Relation.TheVariants.{Equal, Differs}
use Rattle.language_meaning.specs.declared.statement.Setting.{Setting}
use Rattle.language_meaning.specs.declared.statement.Setting.TheVariants.{Ofsf, Pasf}
use Rattle.language_meaning.specs.declared.entries.PointEntry.{PointEntry}
use Rattle.language_meaning.specs.declared.grid.Ratio.{Ratio}
use Rattle.language_meaning.specs.declared.grid.GridAxis.{GridAxis}
use Rattle.language_meaning.specs.Constraints.{is_constraint, is_weak_constraint}
use Rattle.language_meaning.specs.Trees.{TermTree, Number, Named, Sum, Product, Quotient, Power, Negative, terms_of, Compare, Cong, Ncong, Bound, FormulaTree}
use Rattle.language_meaning.specs.Holes.{Nest, Holed, command_alone, whole, over, over_both, all_of, nested, nested_under, computed}
use Rattle.language_meaning.specs.Holes as inside
use Rattle.language_meaning.specs.Statements.{CommandTree, Echo, Qea, Holds, Sample, Grid, Certify, Check, Least, ActionTree, Empty, Ignored, Finish, Choose, Say, Assign, Assume, Retract, StatementTree}
use Rattle.language_meaning.specs.Inner.{WithInner, bare, around, about, about_all, about_under, command_in}
use Rattle.language_meaning.specs.declared.inner_word.InnerWord.{InnerWord}
use Rattle.language_meaning.specs.declared.inner_word.InnerWord.TheVariants as begins
use Rattle.language_meaning.specs.declared.terminal.Terminal.{Terminal}
use Rattle.language_meaning.specs.declared.terminal.Terminal.TheVariants as terminal
use Rattle.language_meaning.specs.declared.terminal.Mark.{Mark}
use Rattle.language_meaning.specs.declared.terminal.Mark.TheVariants as mark
use Rattle.language_meaning.specs.declared.terminal.Word.{Word}
use Rattle.language_meaning.specs.declared.terminal.Word.TheVariants as word

-- the product of the factors, or the factor where there is one alone
abbrev pub product_of : List TermTree → TermTree
product_of [] = Product (terms_of [])
product_of (t ∷ []) = t
product_of (t ∷ u ∷ more) = Product (terms_of (t ∷ u ∷ more))

-- the sum of the members, or the member where there is one alone
abbrev pub sum_of : List TermTree → TermTree
sum_of [] = Sum (terms_of [])
sum_of (t ∷ []) = t
sum_of (t ∷ u ∷ more) = Sum (terms_of (t ∷ u ∷ more))

-- a formula as it is written: a tree in which commands may stand
abbrev pub Written : Type 0
Written = Holed FormulaTree

-- the conjunction of the members, or the member where there is one alone
abbrev pub conjunction_of : List Written → Written
conjunction_of [] = over And (all_of [])
conjunction_of (f ∷ []) = f
conjunction_of (f ∷ g ∷ more) = over And (all_of (f ∷ g ∷ more))

-- the disjunction of the members, or the member where there is one alone
abbrev pub disjunction_of : List Written → Written
disjunction_of [] = over Or (all_of [])
disjunction_of (f ∷ []) = f
disjunction_of (f ∷ g ∷ more) = over Or (all_of (f ∷ g ∷ more))

-- a quantifier for each name, the first one outermost
abbrev pub quantified_names : Quantifier → List (List ℕ) → Written → Written
quantified_names quantifier [] f = f
quantified_names quantifier (x ∷ xs) f = over (quantified quantifier x) (quantified_names quantifier xs f)

-- which word begins a command that may stand inside a formula
abbrev pub inner_word : Word → Option InnerWord
inner_word word.Nnf = Some begins.Nnf
inner_word word.Pnf = Some begins.Pnf
inner_word word.Dnf = Some begins.Dnf
inner_word word.Cnf = Some begins.Cnf
inner_word word.Simpl = Some begins.Simpl
inner_word word.Qe = Some begins.Qe
inner_word _ = None

-- whether such a command may assume atoms
abbrev pub takes_given : InnerWord → Bool
takes_given begins.Nnf = false
takes_given begins.Pnf = false
takes_given begins.Dnf = false
takes_given begins.Cnf = false
takes_given begins.Simpl = true
takes_given begins.Qe = true

-- the command, of this formula and under these atoms
abbrev pub command : InnerWord → Written → List Written → Nest
command begins.Nnf f given = nested inside.Nnf f
command begins.Pnf f given = nested inside.Pnf f
command begins.Dnf f given = nested inside.Dnf f
command begins.Cnf f given = nested inside.Cnf f
command begins.Simpl f given = nested_under inside.Simpl f (all_of given)
command begins.Qe f given = nested_under inside.Qe f (all_of given)

mutual
  -- factor = number | name | "(" sum ")"
  pub data SpellsFactor : List Terminal → TermTree → List Terminal → Type 0 where
    number : {n : Literal} {rest : List Terminal} → SpellsFactor (terminal.Number n ∷ rest) (Number n) rest
    variable : {x : List ℕ} {rest : List Terminal} → SpellsFactor (terminal.Name x ∷ rest) (Named x) rest
    inner_sum : {ts rest : List Terminal} {t : TermTree} → SpellsSum ts t (terminal.Mark mark.Close ∷ rest) → SpellsFactor (terminal.Mark mark.Open ∷ ts) t rest

  -- power = factor [ ("^"|"**") number ]
  pub data SpellsPower : List Terminal → TermTree → List Terminal → Type 0 where
    first_power : {ts rest : List Terminal} {t : TermTree} → SpellsFactor ts t rest → SpellsPower ts t rest
    raised : {ts rest : List Terminal} {t : TermTree} {n : Literal} → SpellsFactor ts t (terminal.Mark mark.Power ∷ terminal.Number n ∷ rest) → SpellsPower ts (Power t n) rest

  -- product = power { ("*"|"/") power }*, grouped to the left
  pub data SpellsProduct : List Terminal → TermTree → List Terminal → Type 0 where
    product : {ts us rest : List Terminal} {t p : TermTree} → SpellsPower ts t us → Factors (t ∷ []) us p rest → SpellsProduct ts p rest

  -- { ("*"|"/") power }* after these factors: neighbouring * make one product, and / a quotient of what stands before it
  pub data Factors : List TermTree → List Terminal → TermTree → List Terminal → Type 0 where
    no_factor : {before : List TermTree} {rest : List Terminal} {p : TermTree} → p ≡ product_of before → Factors before rest p rest
    times : {before : List TermTree} {us vs rest : List Terminal} {t p : TermTree} → SpellsPower us t vs → Factors (before ++ t ∷ []) vs p rest → Factors before (terminal.Mark mark.Times ∷ us) p rest
    quotient : {before : List TermTree} {us vs rest : List Terminal} {t p : TermTree} → SpellsPower us t vs → Factors (Quotient (product_of before) t ∷ []) vs p rest → Factors before (terminal.Mark mark.Slash ∷ us) p rest

  -- sum = [ "+" | "-" ] product { ("+"|"-") product }*; a leading + leaves no trace
  pub data SpellsSum : List Terminal → TermTree → List Terminal → Type 0 where
    sum : {ts us rest : List Terminal} {t s : TermTree} → SpellsProduct ts t us → Members (t ∷ []) us s rest → SpellsSum ts s rest
    plus_sum : {ts us rest : List Terminal} {t s : TermTree} → SpellsProduct ts t us → Members (t ∷ []) us s rest → SpellsSum (terminal.Mark mark.Plus ∷ ts) s rest
    minus_sum : {ts us rest : List Terminal} {t s : TermTree} → SpellsProduct ts t us → Members (Negative t ∷ []) us s rest → SpellsSum (terminal.Mark mark.Minus ∷ ts) s rest

  -- { ("+"|"-") product }* after these members
  pub data Members : List TermTree → List Terminal → TermTree → List Terminal → Type 0 where
    no_member : {before : List TermTree} {rest : List Terminal} {s : TermTree} → s ≡ sum_of before → Members before rest s rest
    plus : {before : List TermTree} {us vs rest : List Terminal} {t s : TermTree} → SpellsProduct us t vs → Members (before ++ t ∷ []) vs s rest → Members before (terminal.Mark mark.Plus ∷ us) s rest
    minus : {before : List TermTree} {us vs rest : List Terminal} {t s : TermTree} → SpellsProduct us t vs → Members (before ++ Negative t ∷ []) vs s rest → Members before (terminal.Mark mark.Minus ∷ us) s rest

-- relation = "=" | "<>" | "neq" | "<" | "<=" | ">" | ">="
pub data IsRelation : Terminal → Relation → Type 0 where
  relation_sign : {r : Relation} → IsRelation (terminal.Relation r) r
  relation_word : IsRelation (terminal.Word word.Neq) Differs

-- comparison = sum relation sum
pub data SpellsComparison : List Terminal → Written → List Terminal → Type 0 where
  comparison : {ts us rest : List Terminal} {sign : Terminal} {r : Relation} {s t : TermTree}
      → SpellsSum ts s (sign ∷ us) → IsRelation sign r → SpellsSum us t rest → SpellsComparison ts (whole (One (Compare r s t))) rest

-- congruence = ("cong"|"ncong") "(" sum "," sum "," sum ")"
pub data SpellsCongruence : List Terminal → Written → List Terminal → Type 0 where
  congruent : {ts us vs rest : List Terminal} {s t modulus : TermTree}
      → SpellsSum ts s (terminal.Mark mark.Comma ∷ us) → SpellsSum us t (terminal.Mark mark.Comma ∷ vs) → SpellsSum vs modulus (terminal.Mark mark.Close ∷ rest)
      → SpellsCongruence (terminal.Word word.Cong ∷ terminal.Mark mark.Open ∷ ts) (whole (One (Cong s t modulus))) rest
  incongruent : {ts us vs rest : List Terminal} {s t modulus : TermTree}
      → SpellsSum ts s (terminal.Mark mark.Comma ∷ us) → SpellsSum us t (terminal.Mark mark.Comma ∷ vs) → SpellsSum vs modulus (terminal.Mark mark.Close ∷ rest)
      → SpellsCongruence (terminal.Word word.Ncong ∷ terminal.Mark mark.Open ∷ ts) (whole (One (Ncong s t modulus))) rest

-- atom = comparison | congruence
pub data SpellsAtom : List Terminal → Written → List Terminal → Type 0 where
  compared_atom : {ts rest : List Terminal} {f : Written} → SpellsComparison ts f rest → SpellsAtom ts f rest
  congruent_atom : {ts rest : List Terminal} {f : Written} → SpellsCongruence ts f rest → SpellsAtom ts f rest

-- item { "," item }*
pub data Listed {X : Type 0} (Item : List Terminal → X → List Terminal → Type 0) : List Terminal → List X → List Terminal → Type 0 where
  last_item : {ts rest : List Terminal} {x : X} → Item ts x rest → Listed Item ts (x ∷ []) rest
  more_items : {ts us rest : List Terminal} {x : X} {more : List X} → Item ts x (terminal.Mark mark.Comma ∷ us) → Listed Item us more rest → Listed Item ts (x ∷ more) rest

-- "{" [ item { "," item }* ] "}"
pub data Braced {X : Type 0} (Item : List Terminal → X → List Terminal → Type 0) : List Terminal → List X → List Terminal → Type 0 where
  empty : {rest : List Terminal} → Braced Item (terminal.Mark mark.OpenBrace ∷ terminal.Mark mark.CloseBrace ∷ rest) [] rest
  listed : {ts rest : List Terminal} {xs : List X} → Listed Item ts xs (terminal.Mark mark.CloseBrace ∷ rest) → Braced Item (terminal.Mark mark.OpenBrace ∷ ts) xs rest

-- "{" [ atom { "," atom }* ] "}"
abbrev pub SpellsAtoms : List Terminal → List Written → List Terminal → Type 0
SpellsAtoms = Braced SpellsAtom

-- name { "," name }*
pub data Names : List Terminal → List (List ℕ) → List Terminal → Type 0 where
  last_name : {x : List ℕ} {rest : List Terminal} → Names (terminal.Name x ∷ rest) (x ∷ []) rest
  more_names : {x : List ℕ} {xs : List (List ℕ)} {ts rest : List Terminal} → Names ts xs rest → Names (terminal.Name x ∷ terminal.Mark mark.Comma ∷ ts) (x ∷ xs) rest

-- name | "{" name { "," name }* "}"
pub data SpellsNames : List Terminal → List (List ℕ) → List Terminal → Type 0 where
  one_name : {x : List ℕ} {rest : List Terminal} → SpellsNames (terminal.Name x ∷ rest) (x ∷ []) rest
  many_names : {xs : List (List ℕ)} {ts rest : List Terminal} → Names ts xs (terminal.Mark mark.CloseBrace ∷ rest) → SpellsNames (terminal.Mark mark.OpenBrace ∷ ts) xs rest

mutual
  -- prime = "true" | "false" | name | congruence | "(" formula ")"
  --     | ("ex"|"all") "(" ( name | "{" name { "," name }* "}" ) "," formula ")"
  --     | ("rlnnf"|"rlpnf"|"rldnf"|"rlcnf") prime | ("rlsimpl"|"rlqe") argument
  pub data SpellsPrime : List Terminal → Written → List Terminal → Type 0 where
    truth : {rest : List Terminal} → SpellsPrime (terminal.Word word.True ∷ rest) (whole Yes) rest
    falsity : {rest : List Terminal} → SpellsPrime (terminal.Word word.False ∷ rest) (whole No) rest
    named_formula : {x : List ℕ} {rest : List Terminal} → SpellsPrime (terminal.Name x ∷ rest) (whole (One (Bound x))) rest
    congruence : {ts rest : List Terminal} {f : Written} → SpellsCongruence ts f rest → SpellsPrime ts f rest
    inner_formula : {ts rest : List Terminal} {f : Written} → SpellsFormula ts f (terminal.Mark mark.Close ∷ rest) → SpellsPrime (terminal.Mark mark.Open ∷ ts) f rest
    exists : {ts us rest : List Terminal} {xs : List (List ℕ)} {f g : Written}
        → SpellsNames ts xs (terminal.Mark mark.Comma ∷ us) → SpellsFormula us f (terminal.Mark mark.Close ∷ rest) → g ≡ quantified_names Exists xs f → SpellsPrime (terminal.Word word.Ex ∷ terminal.Mark mark.Open ∷ ts) g rest
    for_all : {ts us rest : List Terminal} {xs : List (List ℕ)} {f g : Written}
        → SpellsNames ts xs (terminal.Mark mark.Comma ∷ us) → SpellsFormula us f (terminal.Mark mark.Close ∷ rest) → g ≡ quantified_names ForAll xs f → SpellsPrime (terminal.Word word.All ∷ terminal.Mark mark.Open ∷ ts) g rest
    inner_command : {w : Word} {i : InnerWord} {ts rest : List Terminal} {f g : Written}
        → inner_word w ≡ Some i → SpellsPrime ts f rest → g ≡ computed (command i f []) → SpellsPrime (terminal.Word w ∷ ts) g rest
    inner_under : {w : Word} {i : InnerWord} {ts us rest : List Terminal} {f g : Written} {given : List Written}
        → inner_word w ≡ Some i → takes_given i ≡ true → SpellsFormula ts f (terminal.Mark mark.Comma ∷ us) → SpellsAtoms us given (terminal.Mark mark.Close ∷ rest) → g ≡ computed (command i f given)
        → SpellsPrime (terminal.Word w ∷ terminal.Mark mark.Open ∷ ts) g rest

  -- notf = "not" notf | comparison | prime
  pub data SpellsNegation : List Terminal → Written → List Terminal → Type 0 where
    negation : {ts rest : List Terminal} {f : Written} → SpellsNegation ts f rest → SpellsNegation (terminal.Word word.Not ∷ ts) (over Not f) rest
    compared : {ts rest : List Terminal} {f : Written} → SpellsComparison ts f rest → SpellsNegation ts f rest
    prime : {ts rest : List Terminal} {f : Written} → SpellsPrime ts f rest → SpellsNegation ts f rest

  -- andf = notf { "and" notf }*, one list of all members
  pub data SpellsConjunction : List Terminal → Written → List Terminal → Type 0 where
    conjunction : {ts us rest : List Terminal} {f g : Written} → SpellsNegation ts f us → Conjuncts (f ∷ []) us g rest → SpellsConjunction ts g rest

  -- { "and" notf }* after these members
  pub data Conjuncts : List Written → List Terminal → Written → List Terminal → Type 0 where
    no_conjunct : {before : List Written} {rest : List Terminal} {g : Written} → g ≡ conjunction_of before → Conjuncts before rest g rest
    conjunct : {before : List Written} {us vs rest : List Terminal} {f g : Written} → SpellsNegation us f vs → Conjuncts (before ++ f ∷ []) vs g rest → Conjuncts before (terminal.Word word.And ∷ us) g rest

  -- orf = andf { "or" andf }*, one list of all members
  pub data SpellsDisjunction : List Terminal → Written → List Terminal → Type 0 where
    disjunction : {ts us rest : List Terminal} {f g : Written} → SpellsConjunction ts f us → Disjuncts (f ∷ []) us g rest → SpellsDisjunction ts g rest

  -- { "or" andf }* after these members
  pub data Disjuncts : List Written → List Terminal → Written → List Terminal → Type 0 where
    no_disjunct : {before : List Written} {rest : List Terminal} {g : Written} → g ≡ disjunction_of before → Disjuncts before rest g rest
    disjunct : {before : List Written} {us vs rest : List Terminal} {f g : Written} → SpellsConjunction us f vs → Disjuncts (before ++ f ∷ []) vs g rest → Disjuncts before (terminal.Word word.Or ∷ us) g rest

  -- implf = orf [ "impl" implf ], grouped to the right
  pub data SpellsImplication : List Terminal → Written → List Terminal → Type 0 where
    no_implication : {ts rest : List Terminal} {f : Written} → SpellsDisjunction ts f rest → SpellsImplication ts f rest
    implication : {ts us rest : List Terminal} {f g : Written} → SpellsDisjunction ts f (terminal.Word word.Impl ∷ us) → SpellsImplication us g rest → SpellsImplication ts (over_both Impl f g) rest

  -- replf = implf { "repl" implf }*, grouped to the left
  pub data SpellsReplication : List Terminal → Written → List Terminal → Type 0 where
    replication : {ts us rest : List Terminal} {f g : Written} → SpellsImplication ts f us → Repls f us g rest → SpellsReplication ts g rest

  -- { "repl" implf }* after this formula
  pub data Repls : Written → List Terminal → Written → List Terminal → Type 0 where
    no_repl : {before : Written} {rest : List Terminal} {g : Written} → g ≡ before → Repls before rest g rest
    repl : {before : Written} {us vs rest : List Terminal} {f g : Written} → SpellsImplication us f vs → Repls (over_both Repl before f) vs g rest → Repls before (terminal.Word word.Repl ∷ us) g rest

  -- formula = replf { "equiv" replf }*, grouped to the left
  pub data SpellsFormula : List Terminal → Written → List Terminal → Type 0 where
    equivalence : {ts us rest : List Terminal} {f g : Written} → SpellsReplication ts f us → Equivs f us g rest → SpellsFormula ts g rest

  -- { "equiv" replf }* after this formula
  pub data Equivs : Written → List Terminal → Written → List Terminal → Type 0 where
    no_equiv : {before : Written} {rest : List Terminal} {g : Written} → g ≡ before → Equivs before rest g rest
    equiv : {before : Written} {us vs rest : List Terminal} {f g : Written} → SpellsReplication us f vs → Equivs (over_both Equiv before f) vs g rest → Equivs before (terminal.Word word.Equiv ∷ us) g rest

-- the context that a name names, in any letter case
unfoldable pub setting_of : List ℕ → Option Setting
setting_of x =
    let name = map to_ascii_lowercase x in
    if bytes_eq name (codes "ofsf") || bytes_eq name (codes "r") || bytes_eq name (codes "reals") then Some Ofsf
    else (if bytes_eq name (codes "pasf") || bytes_eq name (codes "z") || bytes_eq name (codes "integers") then Some Pasf else None)

-- any = a name or a word
pub data IsAny : Terminal → Type 0 where
  any_name : {x : List ℕ} → IsAny (terminal.Name x)
  any_word : {w : Word} → IsAny (terminal.Word w)

-- any { "," any }*
pub data SpellsAnys : List Terminal → List Terminal → Type 0 where
  last_any : {t : Terminal} {rest : List Terminal} → IsAny t → SpellsAnys (t ∷ rest) rest
  more_anys : {t : Terminal} {ts rest : List Terminal} → IsAny t → SpellsAnys ts rest → SpellsAnys (t ∷ terminal.Mark mark.Comma ∷ ts) rest

-- the number with the other sign
abbrev pub opposite : Literal → Literal
opposite (Fits n) = Fits (neg_ℤ n)
opposite Past = Past

-- [ "-" ] number
pub data Above : List Terminal → Literal → List Terminal → Type 0 where
  unsigned : {n : Literal} {rest : List Terminal} → Above (terminal.Number n ∷ rest) n rest
  opposed : {n m : Literal} {rest : List Terminal} → m ≡ opposite n → Above (terminal.Mark mark.Minus ∷ terminal.Number n ∷ rest) m rest

-- [ "/" number ]; 1 where it is left out
pub data Below : List Terminal → Literal → List Terminal → Type 0 where
  one : {rest : List Terminal} → Below rest (Fits (pos 1)) rest
  divided : {n : Literal} {rest : List Terminal} → Below (terminal.Mark mark.Slash ∷ terminal.Number n ∷ rest) n rest

-- entry = name "=" [ "-" ] number [ "/" number ]
pub data SpellsEntry : List Terminal → PointEntry → List Terminal → Type 0 where
  entry : {ts us rest : List Terminal} {e : PointEntry} {x : List ℕ}
      → x ≡ e.name → Above ts e.above us → Below us e.below rest → SpellsEntry (terminal.Name x ∷ terminal.Relation Equal ∷ ts) e rest

-- point = "{" [ entry { "," entry }* ] "}"
abbrev pub SpellsPoint : List Terminal → List PointEntry → List Terminal → Type 0
SpellsPoint = Braced SpellsEntry

-- argument = prime | "(" formula "," "{" [ atom { "," atom }* ] "}" ")"
pub data SpellsArgument : List Terminal → Written → List Written → List Terminal → Type 0 where
  alone : {ts rest : List Terminal} {f : Written} → SpellsPrime ts f rest → SpellsArgument ts f [] rest
  under : {ts us rest : List Terminal} {f : Written} {given : List Written}
      → SpellsFormula ts f (terminal.Mark mark.Comma ∷ us) → SpellsAtoms us given (terminal.Mark mark.Close ∷ rest) → SpellsArgument (terminal.Mark mark.Open ∷ ts) f given rest

-- the command that a formula is where it is one alone, else the formula by itself
abbrev pub result_of : Written → WithInner CommandTree
result_of f = elim (command_alone f.tree f.inner) [ None ↦ about Echo f | Some n ↦ command_in n ]

-- result = formula; one that is a command alone, in brackets or not, is this command
pub data SpellsResult : List Terminal → WithInner CommandTree → List Terminal → Type 0 where
  resulting : {ts rest : List Terminal} {f : Written} {c : WithInner CommandTree} → SpellsFormula ts f rest → c ≡ result_of f → SpellsResult ts c rest

-- value = [ "-" ] number [ "/" number ]
pub data SpellsRatio : List Terminal → Ratio → List Terminal → Type 0 where
  ratio : {ts us rest : List Terminal} {r : Ratio} → Above ts r.above us → Below us r.below rest → SpellsRatio ts r rest

-- axis = "{" name "," value "," value "," value "}"
pub data SpellsAxis : List Terminal → GridAxis → List Terminal → Type 0 where
  axis : {ts us vs rest : List Terminal} {a : GridAxis} {x : List ℕ}
      → x ≡ a.name → SpellsRatio ts a.low (terminal.Mark mark.Comma ∷ us) → SpellsRatio us a.high (terminal.Mark mark.Comma ∷ vs) → SpellsRatio vs a.step (terminal.Mark mark.CloseBrace ∷ rest)
      → SpellsAxis (terminal.Mark mark.OpenBrace ∷ terminal.Name x ∷ terminal.Mark mark.Comma ∷ ts) a rest

-- bound = sum ("=" | "<" | "<=" | ">" | ">=") sum
pub data SpellsBound : List Terminal → Written → List Terminal → Type 0 where
  bound : {ts rest : List Terminal} {f : Written} → SpellsComparison ts f rest → is_constraint f.tree ≡ true → SpellsBound ts f rest

-- bounds = "{" [ bound { "," bound }* ] "}"
abbrev pub SpellsBounds : List Terminal → List Written → List Terminal → Type 0
SpellsBounds = Braced SpellsBound

-- weak = sum ("=" | "<=" | ">=") sum
pub data SpellsWeak : List Terminal → Written → List Terminal → Type 0 where
  weak : {ts rest : List Terminal} {f : Written} → SpellsComparison ts f rest → is_weak_constraint f.tree ≡ true → SpellsWeak ts f rest

-- "{" [ weak { "," weak }* ] "}"
abbrev pub SpellsWeaks : List Terminal → List Written → List Terminal → Type 0
SpellsWeaks = Braced SpellsWeak

-- "{" [ whole { "," whole }* ] "}", whole = [ "-" ] number
abbrev pub SpellsWholes : List Terminal → List Literal → List Terminal → Type 0
SpellsWholes = Braced Above

-- query = "rlqea" argument | ("rlholds"|"rlwitness") "(" formula "," point ")" | "rlgrid" "(" formula "," axis { "," axis }* ")"
--     | "rlcert" "(" bounds ")" | "rlcheck" "(" bounds "," "{" [ whole { "," whole }* ] "}" ")"
--     | "rlopt" "(" "{" [ weak { "," weak }* ] "}" "," sum ")"
pub data SpellsQuery : List Terminal → WithInner CommandTree → List Terminal → Type 0 where
  qea : {ts rest : List Terminal} {f : Written} {given : List Written} → SpellsArgument ts f given rest → SpellsQuery (terminal.Word word.Qea ∷ ts) (about_under Qea f (all_of given)) rest
  holds : {ts us rest : List Terminal} {f : Written} {es : List PointEntry}
      → SpellsFormula ts f (terminal.Mark mark.Comma ∷ us) → SpellsPoint us es (terminal.Mark mark.Close ∷ rest) → SpellsQuery (terminal.Word word.Holds ∷ terminal.Mark mark.Open ∷ ts) (about (λ t. Holds t es) f) rest
  witness : {ts us rest : List Terminal} {f : Written} {es : List PointEntry}
      → SpellsFormula ts f (terminal.Mark mark.Comma ∷ us) → SpellsPoint us es (terminal.Mark mark.Close ∷ rest) → SpellsQuery (terminal.Word word.Witness ∷ terminal.Mark mark.Open ∷ ts) (about (λ t. Sample t es) f) rest
  grid : {ts us rest : List Terminal} {f : Written} {axes : List GridAxis}
      → SpellsFormula ts f (terminal.Mark mark.Comma ∷ us) → Listed SpellsAxis us axes (terminal.Mark mark.Close ∷ rest) → SpellsQuery (terminal.Word word.Grid ∷ terminal.Mark mark.Open ∷ ts) (about (λ t. Grid t axes) f) rest
  certify : {ts rest : List Terminal} {constraints : List Written}
      → SpellsBounds ts constraints (terminal.Mark mark.Close ∷ rest) → SpellsQuery (terminal.Word word.Cert ∷ terminal.Mark mark.Open ∷ ts) (about_all Certify (all_of constraints)) rest
  check : {ts us rest : List Terminal} {constraints : List Written} {multipliers : List Literal}
      → SpellsBounds ts constraints (terminal.Mark mark.Comma ∷ us) → SpellsWholes us multipliers (terminal.Mark mark.Close ∷ rest) → SpellsQuery (terminal.Word word.Check ∷ terminal.Mark mark.Open ∷ ts) (about_all (λ fs. Check fs multipliers) (all_of constraints)) rest
  least : {ts us rest : List Terminal} {constraints : List Written} {target : TermTree}
      → SpellsWeaks ts constraints (terminal.Mark mark.Comma ∷ us) → SpellsSum us target (terminal.Mark mark.Close ∷ rest) → SpellsQuery (terminal.Word word.Opt ∷ terminal.Mark mark.Open ∷ ts) (about_all (λ fs. Least fs target) (all_of constraints)) rest

-- action = name ":=" result | result | query | "rlset" context
--     | "load_package" any { "," any }* | ("on" | "off") any { "," any }*
--     | "rlassume" "{" [ atom { "," atom }* ] "}" | "rlretract" | "end" | "bye" | "quit"
pub data SpellsAction : List Terminal → WithInner ActionTree → List Terminal → Type 0 where
  assign : {x : List ℕ} {ts rest : List Terminal} {c : WithInner CommandTree} → SpellsResult ts c rest → SpellsAction (terminal.Name x ∷ terminal.Mark mark.Assign ∷ ts) (around (Assign x) c) rest
  result : {ts rest : List Terminal} {c : WithInner CommandTree} → SpellsResult ts c rest → SpellsAction ts (around Say c) rest
  query : {ts rest : List Terminal} {c : WithInner CommandTree} → SpellsQuery ts c rest → SpellsAction ts (around Say c) rest
  choose : {x : List ℕ} {s : Setting} {rest : List Terminal} → setting_of x ≡ Some s → SpellsAction (terminal.Word word.Set ∷ terminal.Name x ∷ rest) (bare (Choose s)) rest
  load : {ts rest : List Terminal} → SpellsAnys ts rest → SpellsAction (terminal.Word word.Load ∷ ts) (bare Ignored) rest
  on : {ts rest : List Terminal} → SpellsAnys ts rest → SpellsAction (terminal.Word word.On ∷ ts) (bare Ignored) rest
  off : {ts rest : List Terminal} → SpellsAnys ts rest → SpellsAction (terminal.Word word.Off ∷ ts) (bare Ignored) rest
  assume : {ts rest : List Terminal} {given : List Written} → SpellsAtoms ts given rest → SpellsAction (terminal.Word word.Assume ∷ ts) (about_all Assume (all_of given)) rest
  retract : {rest : List Terminal} → SpellsAction (terminal.Word word.Retract ∷ rest) (bare Retract) rest
  end : {rest : List Terminal} → SpellsAction (terminal.Word word.End ∷ rest) (bare Finish) rest
  bye : {rest : List Terminal} → SpellsAction (terminal.Word word.Bye ∷ rest) (bare Finish) rest
  quit : {rest : List Terminal} → SpellsAction (terminal.Word word.Quit ∷ rest) (bare Finish) rest

-- the mark that ends a statement: ; where it is printed, $ where it is not
abbrev pub end_mark : Bool → Mark
end_mark true = mark.Semicolon
end_mark false = mark.Dollar

-- statement = [ action ] end, end = ";" | "$"
pub data SpellsStatement : List Terminal → StatementTree → Type 0 where
  nothing : {printed : Bool} {s : StatementTree} → s ≡ record { action = Empty; printed = printed; inner = inside.alone } → SpellsStatement (terminal.Mark (end_mark printed) ∷ []) s
  acting : {ts : List Terminal} {a : WithInner ActionTree} {printed : Bool} {s : StatementTree}
      → SpellsAction ts a (terminal.Mark (end_mark printed) ∷ []) → s ≡ record { action = a.tree; printed = printed; inner = a.inner } → SpellsStatement ts s
