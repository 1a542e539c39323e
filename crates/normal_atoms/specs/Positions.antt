-- How the thresholds of two comparisons of one variable part lie to each other. The threshold of g * v + c is -c / g.
use Rattle.std.specs.Prelude.{◌≡◌, ℤ, pos, ◌+ℤ◌, ◌*ℤ◌, ◌<ℤ◌, ◌≤ℤ◌}
use Rattle.logic_meaning.specs.Context.{Context, Fields, Integers}
use Rattle.normal_atoms.specs.declared.atom_merging_comparison.Position.{Position}
use Rattle.normal_atoms.specs.declared.atom_merging_comparison.Position.TheVariants.{Same, Below, NextBelow, Above, NextAbove}

-- the threshold of g * v + a lies below that of h * v + b; over the integers, where g and h are 1, a whole number lies between
abbrev pub IsBelow : Context → ℤ → ℤ → ℤ → ℤ → Type 0
IsBelow Fields g a h b = (b *ℤ g) <ℤ (a *ℤ h)
IsBelow Integers g a h b = (b +ℤ pos 2) ≤ℤ a

-- over the integers: the threshold of v + b is the number after that of v + a
abbrev pub IsNextBelow : Context → ℤ → ℤ → Type 0
IsNextBelow Fields a b = ⊥
IsNextBelow Integers a b = a ≡ b +ℤ pos 1

-- where the threshold of g * v + a lies, seen from that of h * v + b
abbrev pub IsPosition : Context → ℤ → ℤ → ℤ → ℤ → Position → Type 0
IsPosition c g a h b Same = a *ℤ h ≡ b *ℤ g
IsPosition c g a h b Below = IsBelow c g a h b
IsPosition c g a h b NextBelow = IsNextBelow c a b
IsPosition c g a h b Above = IsBelow c h b g a
IsPosition c g a h b NextAbove = IsNextBelow c b a

-- the content of a normal comparison: positive over the fields, 1 over the integers
abbrev pub IsContentIn : Context → ℤ → Type 0
IsContentIn Fields g = pos 0 <ℤ g
IsContentIn Integers g = g ≡ pos 1
