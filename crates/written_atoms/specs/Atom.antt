-- What is known of the normal atom that is made of forms.
use Rattle.std.specs.Prelude.{◌≡◌, ◌⊎◌, Bool, IsTrue, IsNone, Option, MatchOption, Result}
use Rattle.logic_meaning.specs.Context.{Context, Fields}
use Rattle.logic_meaning.specs.Tree.{Tree}
use Rattle.normal_atoms.specs.Atoms.{tree_of, IsWellFormedNormal}
use Rattle.logic_meaning.specs.NormalForm.{ConstantPasses}
use Rattle.normal_atoms.specs.declared.atoms.Normal.{Normal}
use Rattle.language_meaning.specs.declared.tree.Relation.{Relation}
use Rattle.language_meaning.specs.RationalForms.{RationalForm, Missing}
use Rattle.language_meaning.specs.Resolving.{compared, congruent}
use Rattle.language_meaning.specs.Causes.{IsMissing}
use Rattle.written_atoms.specs.declared.rational.Rational.{Rational}
use Rattle.written_atoms.specs.Rational.{Shows}
use Rattle.written_atoms.specs.Term.{is_no_divisor}

-- the normal form is there exactly where its constant is within the limit
abbrev pub IsNormalWithin : Tree → Option Normal → Type 0
IsNormalWithin t o = MatchOption o (ConstantPasses t) (λ n. IsWellFormedNormal n × (tree_of n ≡ t) × ¬ (ConstantPasses t))

-- the normal comparison is there exactly where the form is and its constant is within the limit
abbrev pub IsCompared : Context → Relation → Option Rational → Option Normal → Type 0
IsCompared c rel difference o = (d : Result RationalForm Missing) → Shows difference d →
    MatchOption o (IsMissing d ⊎ ConstantPasses (compared c rel d)) (λ n. IsWellFormedNormal n × (tree_of n ≡ compared c rel d) × ¬ (IsMissing d ⊎ ConstantPasses (compared c rel d)))

-- the normal congruence is there where both forms are, the modulus may divide, and the theory has congruences
abbrev pub IsCongruenceMade : Context → Bool → Option Rational → Option Rational → Option Normal → Type 0
IsCongruenceMade c b difference modulus o = (d m : Result RationalForm Missing) → Shows difference d → Shows modulus m →
    MatchOption o ((c ≡ Fields) ⊎ (IsNone difference ⊎ (IsNone modulus ⊎ IsTrue (is_no_divisor modulus)))) (λ n. IsWellFormedNormal n × (tree_of n ≡ congruent c b d m))
