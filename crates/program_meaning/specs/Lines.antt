-- The lines that are printed. Each ends with a newline.
use Rattle.std.specs.Prelude.{ℕ, List, [], ◌∷◌, ◌++◌, codes}
use Rattle.std.specs.Fmt.{decimal}
use Rattle.program_meaning.specs.declared.line.Line.{Line}
use Rattle.program_meaning.specs.declared.line.Line.TheVariants.{Nothing, Printed, Finished}

-- the byte that ends a line, as a text
abbrev pub newline : List ℕ
newline = 10 ∷ []

-- the line of a refusal: its word, and the offset in the script of the statement's first byte
abbrev pub refusal_line : List ℕ → ℕ → List ℕ
refusal_line word offset = codes "***** " ++ word ++ codes " at " ++ decimal offset ++ newline

-- the lines of an accepted statement: one or none
abbrev pub lines_of : Line → List ℕ
lines_of Nothing = []
lines_of (Printed text) = text.items ++ newline
lines_of Finished = []
