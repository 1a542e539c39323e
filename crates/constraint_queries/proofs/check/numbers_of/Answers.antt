use Rattle.std.proofs.Common.{◌≡◌, inl, inr, ⊎_elim, ℕ, zero, suc, ◌<◌, ◌+◌, List, [], ◌∷◌, ◌++◌, map, length, take, get_or, sym, ap, ◌∙◌, subst, refl, arith, rules}
use Rattle.std.proofs.Math.IntN.{ℤ}
use Rattle.std.proofs.lemmas.List.{take_more, map_push}
use Rattle.logic_meaning.specs.Some.{SomeOf}
use Rattle.language_meaning.specs.declared.tree.Literal.{Literal}
use Rattle.language_meaning.specs.declared.tree.Literal.TheVariants.{Fits, Past}
use Rattle.language_meaning.specs.Value.{literal_number}
use Rattle.written_syntax.proofs.EntryLists.{some_split, some_one}
use Rattle.constraint_queries.proofs.check.numbers_of.Goals as goal

-- a literal that has no number is past the limit
past_there : (ls : List Literal) (i : ℕ) (d : Literal) → i < length ls → ((x : ℤ) → ¬ (get_or ls i d ≡ Fits x)) → SomeOf (λ m. m ≡ Past) ls
past_there [] i d h n = absurd (omega arith)
past_there (Fits x ∷ ls) zero d h n = absurd (n x refl)
past_there (Past ∷ ls) zero d h n = inl refl
past_there (m ∷ ls) (suc i) d h n = inr (past_there ls i d (omega arith) n)

module _ (ls : List Literal) (i : ℕ) (d : Literal) (x : ℤ) (h : i < length ls) (is : get_or ls i d ≡ Fits x) where
  more : take (i + 1) ls ≡ take i ls ++ Fits x ∷ []
  more = take_more ls i d h ∙ ap (λ (m : Literal). take i ls ++ m ∷ []) is

  numbers_more : map literal_number (take (i + 1) ls) ≡ map literal_number (take i ls) ++ x ∷ []
  numbers_more = ap (map literal_number) more ∙ map_push literal_number (take i ls) (Fits x)

  fits_more : ¬ (SomeOf (λ m. m ≡ Past) (take i ls)) → ¬ (SomeOf (λ m. m ≡ Past) (take (i + 1) ls))
  fits_more fits k =
      let one : ¬ (SomeOf (λ m. m ≡ Past) (Fits x ∷ [])) = (λ p. let q : Fits x ≡ Past = some_one (λ m. m ≡ Past) (Fits x) p in absurd (cc)) in
      ⊎_elim fits one (some_split (λ m. m ≡ Past) (take i ls) (Fits x ∷ []) (subst (SomeOf (λ m. m ≡ Past)) more k))

pub returns-in_default-clause-stopped : goal.returns-in_default-clause-stopped
returns-in_default-clause-stopped c = inl (refl, past_there c.args.literals.now c.loop-literal.literal-index _ c.loop-literal-test.true c.in_default.not-Fits)

pub loop-literal-preserved : goal.loop-literal-preserved
loop-literal-preserved c =
    let ls : List Literal = c.args.literals.now in
    let i = c.loop-literal.literal-index in
    let pushed : c.push.new.self.items ≡ c.loop-literal.numbers.items ++ c.in-Fits.number ∷ [] = search rules in
    record {
      made = pushed ∙ ap (λ (ns : List ℤ). ns ++ c.in-Fits.number ∷ []) c.loop-literal.invariant.made ∙ sym (numbers_more ls i _ c.in-Fits.number c.loop-literal-test.true c.in-Fits.is);
      fits = fits_more ls i _ c.in-Fits.number c.loop-literal-test.true c.in-Fits.is c.loop-literal.invariant.fits;
    }
