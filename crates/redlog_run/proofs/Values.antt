-- Bounds of the numbers that ten digits say, and of the values of options.
use Rattle.std.proofs.Common.{◌≡◌, ℕ, zero, suc, ◌+◌, ◌*◌, ◌≤◌, ◌<◌, ◌^◌, Bool, true, false, ◌&&◌, cond, List, Option, Some, None, nat_le, refl, sym, subst, arith}
use borrow.Author.Tests.{leb-true}
use Rattle.std.specs.Prelude.{IfSome, option_and_then}
use Rattle.std.proofs.Math.Nat.{pow-suc, pow-le-pow_right}
use Rattle.program_meaning.specs.declared.options.Choice.TheVariants.{Nodes, Workers, Generate}
use Rattle.program_meaning.specs.declared.options.Options.{Options}
use Rattle.program_meaning.specs.Value.{value_of, are_digits, number_after}
use Rattle.program_meaning.specs.CommandWords.{greatest_of}
use Rattle.program_meaning.specs.OptionIds.{AreInRange}

fits_at : (p n d : ℕ) → p ≤ 1000000000 → n + 23 ≤ 23 * p → d ≤ 255 → n * 10 + d < 2 ^ 64
fits_at p n d h k b = omega arith

-- one digit more still fits a word
pub fits_next : (i n d : ℕ) → i < 10 → n + 23 ≤ 23 * 10 ^ i → d ≤ 255 → n * 10 + d < 2 ^ 64
fits_next i n d h k b =
    let positive : zero < 10 = omega arith in let within : i ≤ 9 = omega arith in
    fits_at (10 ^ i) n d (pow-le-pow_right {n = 10} positive {i = i} {j = 9} within) k b

grows_at : (p q n d : ℕ) → q ≡ p * 10 → n + 23 ≤ 23 * p → d ≤ 207 → n * 10 + d + 23 ≤ 23 * q
grows_at p q n d e k b = omega arith

-- the bound after one digit more
pub grows : (i n d : ℕ) → n + 23 ≤ 23 * 10 ^ i → d ≤ 207 → n * 10 + d + 23 ≤ 23 * 10 ^ suc i
grows i n d k b = grows_at (10 ^ i) (10 ^ suc i) n d (pow-suc 10 i) k b

-- a value is from 1 to the greatest
abbrev pub IsInRange : ℕ → ℕ → Type 0
IsInRange greatest n = (1 ≤ n) × (n ≤ greatest)

value_in_range : (greatest : ℕ) (text : List ℕ) → IfSome (value_of greatest text) (IsInRange greatest)
unfolding value_of
value_in_range greatest text = go (are_digits text) (nat_le 1 n) (nat_le n greatest) (leb-true 1 n) (leb-true n greatest)
  where
    n : ℕ
    n = number_after 0 text

    go : (digits low high : Bool) → (low ≡ true → 1 ≤ n) → (high ≡ true → n ≤ greatest)
        → IfSome (cond (digits && (low && high)) (Some n) None) (IsInRange greatest)
    go true true true a b = (a refl, b refl)
    go true true false a b = tt
    go true false high a b = tt
    go false low high a b = tt

-- and so is the value of a text that may be missing
found_in_range : (greatest : ℕ) (text : Option (List ℕ)) → IfSome (option_and_then (value_of greatest) text) (IsInRange greatest)
found_in_range greatest None = tt
found_in_range greatest (Some text) = value_in_range greatest text

pub same_in_range : (greatest : ℕ) (text : Option (List ℕ)) (value : Option ℕ) → value ≡ option_and_then (value_of greatest) text → IfSome value (IsInRange greatest)
same_in_range greatest text value e = subst (λ (v : Option ℕ). IfSome v (IsInRange greatest)) (sym e) (found_in_range greatest text)

-- where each option is in range, all are
pub all_in_range : (options : Options) → IfSome options.nodes (IsInRange (greatest_of Nodes)) → IfSome options.workers (IsInRange (greatest_of Workers))
    → IfSome options.generate (IsInRange (greatest_of Generate)) → AreInRange options
all_in_range options nodes workers generate Nodes = nodes
all_in_range options nodes workers generate Workers = workers
all_in_range options nodes workers generate Generate = generate
