-- Why a written formula is not resolved: each cause on its own, over the whole formula. number gives the variables their
-- numbers.
use Rattle.std.specs.Prelude.{◌≡◌, ℕ, ◌<◌, ◌⊎◌, pos, List, false, unsigned_abs, Some, None, unwrap_or, Result, Ok, Err}
use Rattle.exact_numbers.specs.Frac.{whole_frac}
use Rattle.logic_meaning.specs.Context.{Context, Fields, Integers}
use Rattle.logic_meaning.specs.Formula.{Yes}
use Rattle.logic_meaning.specs.Replaced.{replaced}
use Rattle.logic_meaning.specs.Sizes.{height}
use Rattle.logic_meaning.specs.Tree.{Tree}
use Rattle.logic_meaning.specs.NormalForm.{ConstantPasses}
use Rattle.language_meaning.specs.declared.tree.Literal.{Literal}
use Rattle.language_meaning.specs.declared.tree.Literal.TheVariants.{Fits, Past}
use Rattle.language_meaning.specs.Trees.{TermTree, TermTrees, Number, Named, Sum, Product, Quotient, Power, Negative, none, also, WrittenAtom, Compare, Cong, Ncong, Bound, FormulaTree}
use Rattle.language_meaning.specs.Value.{Mentions}
use Rattle.logic_meaning.specs.Bindings.{bound_to}
use Rattle.language_meaning.specs.FractionRule.{◌>>=◌}
use Rattle.language_meaning.specs.RationalForms.{RationalForm, Missing, is_constant, constant_form, formed, formed_difference, product_of_forms}
use Rattle.language_meaning.specs.Resolving.{BoundTrees, resolved_atom}
use Rattle.language_meaning.specs.Somewhere.{Somewhere, SomeAtom}

-- ---- names

-- the name stands as a formula, and nothing is bound to it
abbrev pub HasNoTree : BoundTrees → WrittenAtom → Type 0
HasNoTree bound (Bound x) = bound_to bound x ≡ None
HasNoTree bound (Compare rel s t) = ⊥
HasNoTree bound (Cong s t m) = ⊥
HasNoTree bound (Ncong s t m) = ⊥

-- a name stands as a formula, and nothing is bound to it
abbrev pub IsUnbound : BoundTrees → FormulaTree → Type 0
IsUnbound bound f = SomeAtom (HasNoTree bound) f

-- something is bound to the name
abbrev pub IsBound : BoundTrees → List ℕ → Type 0
IsBound bound x = (t : Tree) × (bound_to bound x ≡ Some t)

-- a bound name stands in a term of the atom
abbrev pub MentionsBound : BoundTrees → WrittenAtom → Type 0
MentionsBound bound a = (x : List ℕ) × Mentions a x × IsBound bound x

-- a bound name stands in a term or after a quantifier
abbrev pub NamesFormulaAsTerm : BoundTrees → FormulaTree → Type 0
NamesFormulaAsTerm bound f = Somewhere (MentionsBound bound) (IsBound bound) f

-- ---- terms

-- the form is there and is not constant
pub record IsVarying (r : Result RationalForm Missing) : Type 0 where
  pub form : RationalForm
  pub there : r ≡ Ok form
  pub varies : is_constant form ≡ false

-- the form is there and is no constant other than 0
pub record IsNoDivisor (r : Result RationalForm Missing) : Type 0 where
  pub form : RationalForm
  pub there : r ≡ Ok form
  pub fails : (is_constant form ≡ false) ⊎ (form.form.constant ≡ pos 0)

-- the exponent is above 1
abbrev pub IsAboveOne : Literal → Type 0
IsAboveOne (Fits n) = 1 < unsigned_abs n
IsAboveOne Past = Unit {0}

module _ (c : Context) (number : List ℕ → ℕ) where
  -- the form of the members before and that of the next are both there and not constant, somewhere in the product
  abbrev pub MultipliesNames : Result RationalForm Missing → TermTrees → Type 0
  MultipliesNames before none = ⊥
  MultipliesNames before (also t ts) =
      (IsVarying before × IsVarying (formed c number t)) ⊎ MultipliesNames (before >>= λ p. formed c number t >>= λ q. product_of_forms p q) ts

  abbrev mutual
    -- a product multiplies names somewhere in the term, or a power above 1 has a base that is not constant
    pub HasNonlinear : TermTree → Type 0
    HasNonlinear (Number n) = ⊥
    HasNonlinear (Named x) = ⊥
    HasNonlinear (Sum ts) = HaveNonlinear ts
    HasNonlinear (Product ts) = MultipliesNames (Ok (constant_form (whole_frac (pos 1)))) ts ⊎ HaveNonlinear ts
    HasNonlinear (Quotient s t) = HasNonlinear s ⊎ HasNonlinear t
    HasNonlinear (Power t n) = (IsVarying (formed c number t) × IsAboveOne n) ⊎ HasNonlinear t
    HasNonlinear (Negative t) = HasNonlinear t

    -- the same of some term of the list
    pub HaveNonlinear : TermTrees → Type 0
    HaveNonlinear none = ⊥
    HaveNonlinear (also t ts) = HasNonlinear t ⊎ HaveNonlinear ts

-- the quotient by the term is not allowed: over the fields the divisor is there and no constant other than 0
abbrev pub IsForbidden : Context → (List ℕ → ℕ) → TermTree → Type 0
IsForbidden Fields number t = IsNoDivisor (formed Fields number t)
IsForbidden Integers number t = Unit {0}

module _ (c : Context) (number : List ℕ → ℕ) where
  abbrev mutual
    -- a quotient in the term is not allowed
    pub HasForbidden : TermTree → Type 0
    HasForbidden (Number n) = ⊥
    HasForbidden (Named x) = ⊥
    HasForbidden (Sum ts) = HaveForbidden ts
    HasForbidden (Product ts) = HaveForbidden ts
    HasForbidden (Quotient s t) = IsForbidden c number t ⊎ (HasForbidden s ⊎ HasForbidden t)
    HasForbidden (Power t n) = HasForbidden t
    HasForbidden (Negative t) = HasForbidden t

    -- a quotient in some term of the list is not allowed
    pub HaveForbidden : TermTrees → Type 0
    HaveForbidden none = ⊥
    HaveForbidden (also t ts) = HasForbidden t ⊎ HaveForbidden ts

abbrev mutual
  -- a literal of the term is past the limit
  pub HasPast : TermTree → Type 0
  HasPast (Number n) = n ≡ Past
  HasPast (Named x) = ⊥
  HasPast (Sum ts) = HavePast ts
  HasPast (Product ts) = HavePast ts
  HasPast (Quotient s t) = HasPast s ⊎ HasPast t
  HasPast (Power t n) = HasPast t ⊎ (n ≡ Past)
  HasPast (Negative t) = HasPast t

  -- a literal of some term of the list is past the limit
  pub HavePast : TermTrees → Type 0
  HavePast none = ⊥
  HavePast (also t ts) = HasPast t ⊎ HavePast ts

-- ---- atoms

-- some term of the atom has P
abbrev pub SomeTerm : (TermTree → Type 0) → WrittenAtom → Type 0
SomeTerm P (Compare rel s t) = P s ⊎ P t
SomeTerm P (Cong s t m) = P s ⊎ (P t ⊎ P m)
SomeTerm P (Ncong s t m) = P s ⊎ (P t ⊎ P m)
SomeTerm P (Bound x) = ⊥

-- the atom says that two terms are congruent by a modulus, or that they are not
abbrev pub IsCongruence : WrittenAtom → Type 0
IsCongruence (Compare rel s t) = ⊥
IsCongruence (Cong s t m) = Unit {0}
IsCongruence (Ncong s t m) = Unit {0}
IsCongruence (Bound x) = ⊥

-- the modulus is there and is no constant other than 0
abbrev pub HasBadModulus : Context → (List ℕ → ℕ) → WrittenAtom → Type 0
HasBadModulus c number (Compare rel s t) = ⊥
HasBadModulus c number (Cong s t m) = IsNoDivisor (formed c number m)
HasBadModulus c number (Ncong s t m) = IsNoDivisor (formed c number m)
HasBadModulus c number (Bound x) = ⊥

-- the form is not there
abbrev pub IsMissing : Result RationalForm Missing → Type 0
IsMissing r = (e : Missing) × (r ≡ Err e)

-- a form of the atom is not there, or its normal form passes the limit
abbrev pub PassesInReading : Context → BoundTrees → (List ℕ → ℕ) → WrittenAtom → Type 0
PassesInReading c bound number (Compare rel s t) = IsMissing (formed_difference c number s t) ⊎ ConstantPasses (resolved_atom c bound number (Compare rel s t))
PassesInReading c bound number (Cong s t m) =
    IsMissing (formed_difference c number s t) ⊎ (IsMissing (formed c number m) ⊎ ConstantPasses (resolved_atom c bound number (Cong s t m)))
PassesInReading c bound number (Ncong s t m) =
    IsMissing (formed_difference c number s t) ⊎ (IsMissing (formed c number m) ⊎ ConstantPasses (resolved_atom c bound number (Ncong s t m)))
PassesInReading c bound number (Bound x) = ⊥

-- ---- formulas

-- a product in a term of some atom multiplies names, or a power above 1 has a base that is not constant
abbrev pub IsNonlinear : Context → (List ℕ → ℕ) → FormulaTree → Type 0
IsNonlinear c number f = SomeAtom (SomeTerm (HasNonlinear c number)) f

-- a quotient in a term of some atom is not allowed
abbrev pub Divides : Context → (List ℕ → ℕ) → FormulaTree → Type 0
Divides c number f = SomeAtom (SomeTerm (HasForbidden c number)) f

-- a congruence stands in the formula, over the fields
abbrev pub CongruenceInFields : Context → FormulaTree → Type 0
CongruenceInFields Fields f = SomeAtom IsCongruence f
CongruenceInFields Integers f = ⊥

-- the modulus of some atom is there and is no constant other than 0
abbrev pub IsBadModulus : Context → (List ℕ → ℕ) → FormulaTree → Type 0
IsBadModulus c number f = SomeAtom (HasBadModulus c number) f

-- the tree of a bound name; each other atom has the height 1, as Yes has
abbrev pub atom_in_place : BoundTrees → WrittenAtom → Tree
atom_in_place bound (Bound x) = unwrap_or (bound_to bound x) Yes
atom_in_place bound (Compare rel s t) = Yes
atom_in_place bound (Cong s t m) = Yes
atom_in_place bound (Ncong s t m) = Yes

-- at most so high is a resolved formula
abbrev pub most_height : ℕ
most_height = 512

-- the height of the formula with the bound trees in their places
abbrev pub height_in_place : BoundTrees → FormulaTree → ℕ
height_in_place bound f = height (replaced (atom_in_place bound) (λ x. 0) f)

-- it is too high
abbrev pub IsTooDeep : BoundTrees → FormulaTree → Type 0
IsTooDeep bound f = most_height < height_in_place bound f

-- a literal is past the limit, a form is not there, or a normal atom passes the limit
abbrev pub OverflowsInReading : Context → BoundTrees → (List ℕ → ℕ) → FormulaTree → Type 0
OverflowsInReading c bound number f = SomeAtom (SomeTerm HasPast) f ⊎ SomeAtom (PassesInReading c bound number) f
