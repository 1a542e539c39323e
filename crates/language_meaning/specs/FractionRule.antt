-- The fraction rule, once: a term from left to right, over what its leaves give and what each step makes of its parts.
use Rattle.std.specs.Prelude.{ℕ, List, Result, Ok, Err}
use Rattle.language_meaning.specs.declared.tree.Literal.{Literal}
use Rattle.language_meaning.specs.Trees.{TermTree, TermTrees, Number, Named, Sum, Product, Quotient, Power, Negative, none, also}

-- the second calculation on the result of the first, which stops both where it stops
infixl 10 ◌>>=◌
abbrev pub ◌>>=◌ : {A B E : Type 0} → Result A E → (A → Result B E) → Result B E
(Ok x) >>= f = f x
(Err e) >>= f = Err e

-- What the leaves of a term give, what sums and products begin with, and what each step makes of what its parts gave, or
-- what stops it.
pub record Steps (V E : Type 0) : Type 0 where
  pub number : Literal → Result V E
  pub name : List ℕ → Result V E
  pub empty_sum : V
  pub empty_product : V
  pub plus : V → V → Result V E
  pub times : V → V → Result V E
  pub over : V → V → Result V E
  pub power : V → Literal → Result V E
  pub minus : V → Result V E

module _ {V E : Type 0} (steps : Steps V E) where
  abbrev mutual
    -- what the term gives, or what stops it first
    pub by_rule : TermTree → Result V E
    by_rule (Number n) = steps.number n
    by_rule (Named x) = steps.name x
    by_rule (Sum ts) = added steps.empty_sum ts
    by_rule (Product ts) = multiplied steps.empty_product ts
    by_rule (Quotient s t) = by_rule s >>= λ v. by_rule t >>= λ w. steps.over v w
    by_rule (Power t n) = by_rule t >>= λ v. steps.power v n
    by_rule (Negative t) = by_rule t >>= λ v. steps.minus v

    -- the members added to what came before them, one after another
    pub added : V → TermTrees → Result V E
    added total none = Ok total
    added total (also t ts) = by_rule t >>= λ v. steps.plus total v >>= λ sum. added sum ts

    -- the members multiplied with what came before them, one after another
    pub multiplied : V → TermTrees → Result V E
    multiplied total none = Ok total
    multiplied total (also t ts) = by_rule t >>= λ v. steps.times total v >>= λ product. multiplied product ts
