-- Bad tokens, with their places and without.
use Rattle.std.proofs.Common.{◌≡◌, List, [], ◌∷◌, Bool, ◌||◌, refl, ap}
use Rattle.std.specs.List.{list_any}
use Rattle.smt_language.specs.declared.token.SmtLexeme.{SmtLexeme}
use Rattle.smt_language.specs.Faults.{kinds, is_bad}

pub bad_kinds : (unfit : Bool) (ts : List SmtLexeme) → list_any (is_bad unfit) (kinds ts) ≡ list_any (λ t. is_bad unfit t.token) ts
bad_kinds unfit [] = refl
bad_kinds unfit (t ∷ ts) = ap (λ b. is_bad unfit t.token || b) (bad_kinds unfit ts)
