-- The limit of a text.
use Rattle.std.specs.Prelude.{ℕ}
use Rattle.logic_meaning.specs.declared.output.TheConstants.{TEXT_LIMIT}

-- the most bytes of a text: 32 MiB
abbrev pub text_limit : ℕ
text_limit = TEXT_LIMIT
