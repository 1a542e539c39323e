-- The negation normal form of a formula or of its negation, and its nodes as far as they can be counted.
use Rattle.std.specs.Prelude.{ℕ, ◌+◌, ◌^◌, nat_lt, Bool, true, false, Option, Some, None, if◌then◌else◌}
use Rattle.logic_meaning.specs.NegationNormal.{normal_form, normal_form_of_not, normal_forms, normal_forms_of_not}
use Rattle.logic_meaning.specs.Tree.{Tree, Trees}
use Rattle.logic_meaning.specs.NormalForm.{negated_normal}

-- the negation normal form of the formula (false), or of its negation (true)
abbrev pub form : Bool → Tree → Tree
form false f = normal_form negated_normal f
form true f = normal_form_of_not negated_normal f

abbrev pub forms : Bool → Trees → Trees
forms false fs = normal_forms negated_normal fs
forms true fs = normal_forms_of_not negated_normal fs

-- the number, if it is below 2 ^ 64
abbrev pub limited : ℕ → Option ℕ
limited n = if nat_lt n (2 ^ 64) then Some n else None

-- the sum, if it and both numbers are there
abbrev pub sum_of : Option ℕ → Option ℕ → Option ℕ
sum_of None n = None
sum_of (Some m) None = None
sum_of (Some m) (Some n) = limited (m + n)
