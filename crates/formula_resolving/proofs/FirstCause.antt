-- Causes that were met.
use Rattle.std.proofs.Common.{◌≡◌, ◌⊎◌, inl, inr, ⊎_elim, ℕ, ◌<◌, Bool, true, false, ◌||◌, Option, Some, None, refl, arith}
use Rattle.std.specs.Prelude.{is_some, nat_lt, ◌↔◌}
use Rattle.std.specs.Bool.{MatchBool}
use Rattle.language_meaning.specs.Causes.{most_height}
use Rattle.language_meaning.specs.declared.static_error.StaticError.{StaticError}
use Rattle.language_meaning.specs.declared.static_error.StaticError.TheVariants.{Unbound, FormulaAsTerm, Nonlinear, Division, CongruenceContext, Modulus, Depth, Overflow, Memory}
use Rattle.formula_resolving.specs.declared.causes.Causes.{Causes}
use Rattle.formula_resolving.specs.MetCauses.{flag, no_causes, either, IsRefused, is_met, IsFirstMet}

above_limit : (h : ℕ) → nat_lt most_height h ≡ true → most_height < h
above_limit h e = grind arith

within_limit : (h : ℕ) → nat_lt most_height h ≡ false → ¬ (most_height < h)
within_limit h e = λ k. grind arith

met_refused : (k : Causes) (h : ℕ) (e : StaticError) → is_met false k h e ≡ true → IsRefused k h
met_refused k h Unbound i = inl (Unbound, i)
met_refused k h FormulaAsTerm i = absurd (cc)
met_refused k h Nonlinear i = inl (Nonlinear, i)
met_refused k h Division i = inl (Division, i)
met_refused k h CongruenceContext i = inl (CongruenceContext, i)
met_refused k h Modulus i = inl (Modulus, i)
met_refused k h Depth i = inr (above_limit h i)
met_refused k h Overflow i = inl (Overflow, i)
met_refused k h Memory i = absurd (cc)

flag_met : (named : Bool) (k : Causes) (h : ℕ) (e : StaticError) → flag k e ≡ true → is_met named k h e ≡ true
flag_met named k h Unbound i = i
flag_met named k h FormulaAsTerm i = absurd (cc)
flag_met named k h Nonlinear i = i
flag_met named k h Division i = i
flag_met named k h CongruenceContext i = i
flag_met named k h Modulus i = i
flag_met named k h Depth i = absurd (cc)
flag_met named k h Overflow i = i
flag_met named k h Memory i = i

-- where no cause is met, the formula is not refused
pub unmet : (named : Bool) (k : Causes) (h : ℕ) → ((e : StaticError) → is_met named k h e ≡ false) → ¬ (IsRefused k h)
unmet named k h n = ⊎_elim (λ (r : (e : StaticError) × (flag k e ≡ true)). let m = flag_met named k h r.0 r.1 in let e = n r.0 in absurd (cc)) (within_limit h (n Depth))

-- a first cause is there exactly where the formula is refused
pub first_refuses : (k : Causes) (h : ℕ) (r : Option StaticError) → IsFirstMet (is_met false k h) r → MatchBool (is_some r) (IsRefused k h) (¬ (IsRefused k h))
first_refuses k h None n = unmet false k h n
first_refuses k h (Some e) f = met_refused k h e f.met

-- the causes of both are those of one or the other
pub flag_either : (j k : Causes) (e : StaticError) → flag (either j k) e ≡ (flag j e || flag k e)
flag_either j k Unbound = refl
flag_either j k FormulaAsTerm = refl
flag_either j k Nonlinear = refl
flag_either j k Division = refl
flag_either j k CongruenceContext = refl
flag_either j k Modulus = refl
flag_either j k Depth = refl
flag_either j k Overflow = refl
flag_either j k Memory = refl

pub or_true : (a b : Bool) → ((a || b) ≡ true) ↔ ((a ≡ true) ⊎ (b ≡ true))
or_true true b = (λ e. inl refl, λ s. refl)
or_true false b = (λ e. inr e, λ s. ⊎_elim (λ e. absurd (cc)) (λ e. e) s)

pub none_met : (e : StaticError) → flag no_causes e ≡ false
none_met Unbound = refl
none_met FormulaAsTerm = refl
none_met Nonlinear = refl
none_met Division = refl
none_met CongruenceContext = refl
none_met Modulus = refl
none_met Depth = refl
none_met Overflow = refl
none_met Memory = refl
