-- The sizes of the plain form of a formula from those of its members, in one pass that folds no constant before. j joins the
-- inner lists.
use Rattle.std.specs.Prelude.{ℕ, ◌+◌, ◌*◌, nat_eq, Bool, true, false, not, ◌||◌, ◌&&◌, if◌then◌else◌}
use Rattle.logic_meaning.specs.Formula.{Formula, Formulas, Yes, No, One, Not, And, Or, Impl, Repl, Equiv, Ex, All, none, also}
use Rattle.logic_meaning.specs.declared.junction.Junction.{Junction}
use Rattle.logic_meaning.specs.declared.junction.Junction.TheVariants.{Conjunction, Disjunction}
use Rattle.logic_meaning.specs.Ways.{is_same}
use Rattle.logic_meaning.specs.PlainForms.{count_of_none}

-- the inner lists, and the places of atoms in them
pub record Sizes : Type 0 where
  pub lines : ℕ
  pub places : ℕ

-- those of a list without members: for true j joins it
abbrev pub nothing_sizes : Bool → Sizes
nothing_sizes b = record { lines = count_of_none b; places = 0 }

-- there is a list, and it has no atom: it is the constant that says nothing in an inner list
abbrev pub is_bare : Sizes → Bool
is_bare x = nat_eq x.places 0 && not (nat_eq x.lines 0)

abbrev pub product_sizes : Sizes → Sizes → Sizes
product_sizes x y = record { lines = x.lines * y.lines; places = x.places * y.lines + x.lines * y.places }

abbrev pub sum_sizes : Sizes → Sizes → Sizes
sum_sizes x y = record { lines = x.lines + y.lines; places = x.places + y.places }

-- those of two members together: a constant that settles the outer list stands for it
abbrev pub joined_sizes : Bool → Sizes → Sizes → Sizes
joined_sizes true x y = product_sizes x y
joined_sizes false x y = if is_bare x || is_bare y then nothing_sizes true else sum_sizes x y

module _ {A : Type 0} (j : Junction) where
  abbrev mutual
    pub sizes : Formula A ℕ → Sizes
    sizes Yes = nothing_sizes (is_same j Conjunction)
    sizes No = nothing_sizes (is_same j Disjunction)
    sizes (One a) = record { lines = 1; places = 1 }
    sizes (Not f) = nothing_sizes false
    sizes (And fs) = more_sizes (is_same j Conjunction) (nothing_sizes (is_same j Conjunction)) fs
    sizes (Or fs) = more_sizes (is_same j Disjunction) (nothing_sizes (is_same j Disjunction)) fs
    sizes (Impl f g) = nothing_sizes false
    sizes (Repl f g) = nothing_sizes false
    sizes (Equiv f g) = nothing_sizes false
    sizes (Ex x f) = nothing_sizes false
    sizes (All x f) = nothing_sizes false

    -- those of the members, beside the sizes so far
    pub more_sizes : Bool → Sizes → Formulas A ℕ → Sizes
    more_sizes b x none = x
    more_sizes b x (also f fs) = more_sizes b (joined_sizes b x (sizes f)) fs
