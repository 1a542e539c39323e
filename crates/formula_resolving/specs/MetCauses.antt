-- Which causes of a refusal were met, and the first of them.
use Rattle.std.specs.Prelude.{◌≡◌, ◌⊎◌, ℕ, ◌<◌, List, Bool, true, false, ◌||◌, nat_lt, Option, MatchOption}
use Rattle.logic_meaning.specs.Context.{Context, Fields, Integers}
use Rattle.logic_meaning.specs.Some.{EachOf}
use Rattle.language_meaning.specs.Trees.{WrittenAtom}
use Rattle.written_atoms.specs.declared.read.AtomCauses.{AtomCauses}
use Rattle.language_meaning.specs.Causes.{HasNoTree, SomeTerm, HasNonlinear, HasForbidden, IsCongruence, HasBadModulus, HasPast, PassesInReading, most_height}
use Rattle.language_meaning.specs.Resolving.{BoundTrees}
use Rattle.language_meaning.specs.declared.static_error.StaticError.{StaticError}
use Rattle.language_meaning.specs.declared.static_error.StaticError.TheVariants.{Unbound, FormulaAsTerm, Nonlinear, Division, CongruenceContext, Modulus, Depth, Overflow, Memory}
use Rattle.formula_resolving.specs.declared.causes.Causes.{Causes}
use Rattle.language_meaning.specs.Refusals.{before}

-- whether the cause was met; the other causes are looked for elsewhere
abbrev pub flag : Causes → StaticError → Bool
flag k Unbound = k.unbound
flag k FormulaAsTerm = false
flag k Nonlinear = k.nonlinear
flag k Division = k.division
flag k CongruenceContext = k.congruence
flag k Modulus = k.modulus
flag k Depth = false
flag k Overflow = k.overflow
flag k Memory = false

-- no cause
abbrev pub no_causes : Causes
no_causes = record { unbound = false; nonlinear = false; division = false; congruence = false; modulus = false; overflow = false }

-- the causes of both
abbrev pub either : Causes → Causes → Causes
either j k = record {
  unbound = j.unbound || k.unbound;
  nonlinear = j.nonlinear || k.nonlinear;
  division = j.division || k.division;
  congruence = j.congruence || k.congruence;
  modulus = j.modulus || k.modulus;
  overflow = j.overflow || k.overflow;
}

-- a cause was met, or the formula is too high
abbrev pub IsRefused : Causes → ℕ → Type 0
IsRefused k h = ((e : StaticError) × (flag k e ≡ true)) ⊎ (most_height < h)

-- the same test with a bound name as a variable, and the height
abbrev pub is_met : Bool → Causes → ℕ → StaticError → Bool
is_met named k h Unbound = k.unbound
is_met named k h FormulaAsTerm = named
is_met named k h Nonlinear = k.nonlinear
is_met named k h Division = k.division
is_met named k h CongruenceContext = k.congruence
is_met named k h Modulus = k.modulus
is_met named k h Depth = nat_lt most_height h
is_met named k h Overflow = k.overflow
is_met named k h Memory = false

-- it is met, and no earlier one is
pub record IsFirstOf (test : StaticError → Bool) (e : StaticError) : Type 0 where
  pub met : test e ≡ true
  pub first : EachOf (λ d. test d ≡ false) (before e)

-- the first cause that is met, if there is one
abbrev pub IsFirstMet : (StaticError → Bool) → Option StaticError → Type 0
IsFirstMet test r = MatchOption r ((e : StaticError) → test e ≡ false) (IsFirstOf test)

-- a congruence over the fields
abbrev pub CongruenceIn : Context → WrittenAtom → Type 0
CongruenceIn Fields a = IsCongruence a
CongruenceIn Integers a = ⊥

-- the cause stands in the comparison, the congruence or the name of a formula
abbrev pub StandsIn : Context → BoundTrees → (List ℕ → ℕ) → StaticError → WrittenAtom → Type 0
StandsIn c bound number Unbound a = HasNoTree bound a
StandsIn c bound number FormulaAsTerm a = ⊥
StandsIn c bound number Nonlinear a = SomeTerm (HasNonlinear c number) a
StandsIn c bound number Division a = SomeTerm (HasForbidden c number) a
StandsIn c bound number CongruenceContext a = CongruenceIn c a
StandsIn c bound number Modulus a = HasBadModulus c number a
StandsIn c bound number Depth a = ⊥
StandsIn c bound number Overflow a = SomeTerm HasPast a ⊎ PassesInReading c bound number a
StandsIn c bound number Memory a = ⊥

abbrev pub is_fields : Context → Bool
is_fields Fields = true
is_fields Integers = false

-- the causes in an atom that was read, with whether it is a congruence over the fields
abbrev pub atom_causes : AtomCauses → Bool → Causes
atom_causes k b = record { unbound = false; nonlinear = k.nonlinear; division = k.division; congruence = b; modulus = k.modulus; overflow = k.overflow }
