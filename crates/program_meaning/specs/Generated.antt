-- The generated script, and the line that is said of its answers.
use Rattle.std.specs.Prelude.{ℕ, zero, suc, ◌+◌, ◌%◌, Bool, ◌==◌, List, [], ◌∷◌, ◌++◌, take, codes, bytes_eq, count_by, if◌then◌else◌}
use Rattle.std.specs.Fmt.{decimal}
use Rattle.program_meaning.specs.declared.count.LineKind.{LineKind}
use Rattle.program_meaning.specs.declared.count.LineKind.TheVariants.{Truth, Falsehood, Refusal}

-- the byte that ends a line, as a text
abbrev pub newline : List ℕ
newline = 10 ∷ []

-- of p and q
abbrev pub statement_with : ℕ → ℕ → List ℕ
statement_with p q = codes "rlqe all(a,ex(x,a<" ++ decimal p ++ codes "*x and " ++ decimal p ++ codes "*x<=a+" ++ decimal q ++ codes "));" ++ newline

-- the k-th statement, from 1 on
abbrev pub statement : ℕ → List ℕ
statement k = statement_with (1 + k % 5) (k % 7)

-- the statements from the first to the n-th
abbrev pub statements : ℕ → List ℕ
statements zero = []
statements (suc n) = statements n ++ statement (suc n)

-- the statements over the fields and then over the integers
abbrev pub generated : ℕ → List ℕ
generated n = codes "rlset ofsf$" ++ newline ++ statements n ++ codes "rlset pasf$" ++ newline ++ statements n ++ codes "end;" ++ newline

-- the lines of these bytes after a line that has begun, each up to its newline
abbrev pub lines_after : List ℕ → List ℕ → List (List ℕ)
lines_after begun [] = []
lines_after begun (b ∷ bs) = if b == 10 then begun ∷ lines_after [] bs else lines_after (begun ++ b ∷ []) bs

-- the lines of these bytes, each up to its newline; what follows the last newline is none
abbrev pub lines_in : List ℕ → List (List ℕ)
lines_in bytes = lines_after [] bytes

-- a kind of line: true, false or a refusal
abbrev pub is_of : LineKind → List ℕ → Bool
is_of Truth line = bytes_eq line (codes "true")
is_of Falsehood line = bytes_eq line (codes "false")
is_of Refusal line = bytes_eq (take 6 line) (codes "***** ")

-- how many lines of these bytes are of the kind
abbrev pub number_of : LineKind → List ℕ → ℕ
number_of kind bytes = count_by (is_of kind) (lines_in bytes)

-- the line of these numbers
abbrev pub tally_with : ℕ → ℕ → ℕ → List ℕ
tally_with truths falsehoods refusals = codes "true " ++ decimal truths ++ codes " false " ++ decimal falsehoods ++ codes " refused " ++ decimal refusals ++ newline

-- how many of the lines are true, false and refusals
abbrev pub tally : List ℕ → List ℕ
tally bytes = tally_with (number_of Truth bytes) (number_of Falsehood bytes) (number_of Refusal bytes)
