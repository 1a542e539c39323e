-- Steps that may give nothing.
use Rattle.std.proofs.Common.{◌≡◌, true, false, List, [], ◌∷◌, ap, ◌∙◌}
use Rattle.std.specs.Prelude.{Option, Some, None, if◌then◌else◌}
use Rattle.language_meaning.specs.declared.terminal.Terminal.{Terminal}
use Rattle.language_meaning.specs.declared.terminal.Terminal.TheVariants as terminal
use Rattle.language_meaning.specs.declared.terminal.Mark.TheVariants as mark
use Rattle.redlog_reader.specs.Reader.{on_some, after_mark, is_any, anys_read}

pub is_some : {X Y : Type 0} (o : Option X) (x : X) (f : X → Y) (other : Y) → o ≡ Some x → on_some o f other ≡ f x
is_some o x f other e = ap (λ p. on_some p f other) e

pub is_none : {X Y : Type 0} (o : Option X) (f : X → Y) (other : Y) → o ≡ None → on_some o f other ≡ other
is_none o f other e = ap (λ p. on_some p f other) e

pub ruleset options = (is_some, is_none)

pub anys_more : (t : Terminal) (ts us : List Terminal) → is_any t ≡ true → after_mark mark.Comma ts ≡ Some us → anys_read (t ∷ ts) ≡ anys_read us
anys_more t [] us any e = absurd (let no : ⊥ = cc in no)
anys_more t (terminal.Mark mark.Comma ∷ ts) us any e = ap (λ b. if b then anys_read ts else None) any ∙ ap anys_read (let same : ts ≡ us = cc in same)
anys_more t (u ∷ ts) us any e = absurd (let no : ⊥ = cc in no)

pub anys_last : (t : Terminal) (ts : List Terminal) → is_any t ≡ true → after_mark mark.Comma ts ≡ None → anys_read (t ∷ ts) ≡ Some ts
anys_last t [] any e = ap (λ b. if b then Some [] else None) any
anys_last t (terminal.Mark mark.Comma ∷ ts) any e = absurd (let no : ⊥ = cc in no)
anys_last t (u ∷ ts) any e = ap (λ b. if b then Some (u ∷ ts) else None) any

pub anys_none : (t : Terminal) (ts : List Terminal) → is_any t ≡ false → anys_read (t ∷ ts) ≡ None
anys_none t [] any = ap (λ b. if b then Some [] else None) any
anys_none t (terminal.Mark mark.Comma ∷ ts) any = ap (λ b. if b then anys_read ts else None) any
anys_none t (u ∷ ts) any = ap (λ b. if b then Some (u ∷ ts) else None) any

pub ruleset anys = (anys_more, anys_last, anys_none)
