-- What is read of formulas, from what is read of their parts.
use Rattle.std.proofs.Common.{◌≡◌, ◌<◌, ◌+◌, ℕ, zero, suc, List, [], ◌∷◌, length, take, drop, get_or, refl, ap, sym, ◌∙◌, subst, arith, true}
use Rattle.std.specs.Prelude.{pos}
use Rattle.logic_meaning.specs.Context.{Context}
use Rattle.logic_meaning.specs.Tree.{Tree}
use Rattle.logic_meaning.specs.Fold.{neutral}
use Rattle.logic_meaning.specs.Formula.{One, Not}
use Rattle.logic_meaning.specs.Shape.{quantified}
use Rattle.logic_meaning.specs.declared.junction.Junction.{Junction}
use Rattle.logic_meaning.specs.declared.junction.Junction.TheVariants.{Conjunction, Disjunction}
use Rattle.logic_meaning.specs.declared.quantifier.Quantifier.{Quantifier}
use Rattle.logic_meaning.specs.declared.quantifier.Quantifier.TheVariants.{Exists, ForAll}
use Rattle.language_meaning.specs.declared.tree.Literal.{Literal}
use Rattle.language_meaning.specs.declared.tree.Literal.TheVariants.{Fits}
use Rattle.language_meaning.specs.declared.tree.Relation.{Relation}
use Rattle.language_meaning.specs.Trees.{TermTree, Number, FormulaTree, Compare}
use Rattle.language_meaning.specs.Resolving.{variables_of, formula_variables}
use Rattle.logic_meaning.specs.Names.{place}
use Rattle.written_atoms.specs.Term.{IsTermRead, IsDifferenceRead}
use Rattle.written_atoms.specs.Read.{IsRead, congruence_tree}
use Rattle.written_atoms.specs.declared.read.ReadAtom.{ReadAtom}
use Rattle.written_atoms.specs.declared.term.ReadTerm.{ReadTerm}
use Rattle.formula_resolving.specs.declared.parts.Pair.{Pair}
use Rattle.formula_resolving.specs.declared.parts.Pair.TheVariants as pair
use Rattle.formula_resolving.specs.declared.parts.Part.{Part}
use Rattle.formula_resolving.specs.Connectives.{paired}
use Rattle.formula_resolving.specs.Parts.{IsPart}
use Rattle.smt_language.specs.Levels.{level, levels, closed}
use Rattle.smt_meaning.specs.LevelsBelow.{IsLevelBelow}
use Rattle.smt_language.specs.Nodes.{formula_nodes}
use Rattle.smt_language.specs.Shapes.{comparison, divides}
use Rattle.smt_meaning.proofs.Levels.{all_first, all_second, level_alone}
use Rattle.smt_resolver.specs.Values.{AreEach, IsLevelTerm, IsLevelPart}

module _ {Id : Type 0} (c : Context) (P : Id → Type 0) (t : Id → Tree) (Q : Id → Type 0) (u : Id → Tree) where
  pub level_constant : (j : Junction) (r : Part Id) → ((names : List (List ℕ)) → IsPart c [] names Q u (neutral j) r) → IsLevelPart c Q u (neutral j) r
  level_constant j r h = record { read = λ n b. h (levels n) }

  pub level_compared : (rel : Relation) (s w : TermTree) (a b d : ReadTerm) (k : ReadAtom) (r : Part Id) → IsLevelTerm c s a → IsLevelTerm c w b
      → ((number : List ℕ → ℕ) → IsTermRead c number s a → IsTermRead c number w b → IsDifferenceRead c number s w d)
      → ((number : List ℕ → ℕ) → IsDifferenceRead c number s w d → IsRead c [] number (Compare rel s w) k)
      → ((names : List (List ℕ)) → IsRead c [] (place names) (Compare rel s w) k → IsPart c [] names Q u (comparison rel s w) r) → IsLevelPart c Q u (comparison rel s w) r
  level_compared rel s w a b d k r x y e f g = record {
    read = λ n h. g (levels n) (f (place (levels n)) (e (place (levels n)) (x.read n (all_first (IsLevelBelow n) (variables_of s) (variables_of w) h)) (y.read n (all_second (IsLevelBelow n) (variables_of s) (variables_of w) h))));
  }

  pub level_divides : (m : Literal) (s : TermTree) (a z d k : ReadTerm) (o : ReadAtom) (r : Part Id) → IsLevelTerm c s a
      → ((number : List ℕ → ℕ) → IsTermRead c number (Number (Fits (pos 0))) z) → ((number : List ℕ → ℕ) → IsTermRead c number (Number m) k)
      → ((number : List ℕ → ℕ) (s w : TermTree) → IsTermRead c number s a → IsTermRead c number w z → IsDifferenceRead c number s w d)
      → ((number : List ℕ → ℕ) (s w n : TermTree) → IsDifferenceRead c number s w d → IsTermRead c number n k → IsRead c [] number (congruence_tree true s w n) o)
      → ((names : List (List ℕ)) (s w n : TermTree) → IsRead c [] (place names) (congruence_tree true s w n) o → IsPart c [] names Q u (One (congruence_tree true s w n)) r) → IsLevelPart c Q u (divides m s) r
  level_divides m s a z d k o r x zero_read modulus e f g = record {
    read = λ n h.
        let number = place (levels n) in
        g (levels n) s (Number (Fits (pos 0))) (Number m) (f number s (Number (Fits (pos 0))) (Number m) (e number s (Number (Fits (pos 0))) (x.read n (all_first (IsLevelBelow n) (variables_of s) [] h)) (zero_read number)) (modulus number));
  }

  pub level_negated : (f : FormulaTree) (p r : Part Id) → IsLevelPart c P t f p → ((names : List (List ℕ)) → IsPart c [] names P t f p → IsPart c [] names Q u (Not f) r) → IsLevelPart c Q u (Not f) r
  level_negated f p r x g = record { read = λ n h. g (levels n) (x.read n h) }

  pub level_paired : (k : Pair) (f g : FormulaTree) (p q r : Part Id) → IsLevelPart c P t f p → IsLevelPart c P t g q
      → ((names : List (List ℕ)) → IsPart c [] names P t f p → IsPart c [] names P t g q → IsPart c [] names Q u (paired k f g) r) → IsLevelPart c Q u (paired k f g) r
  level_paired pair.Impl f g p q r x y h = record { read = λ n b. h (levels n) (x.read n (all_first (IsLevelBelow n) (formula_variables f) (formula_variables g) b)) (y.read n (all_second (IsLevelBelow n) (formula_variables f) (formula_variables g) b)) }
  level_paired pair.Repl f g p q r x y h = record { read = λ n b. h (levels n) (x.read n (all_first (IsLevelBelow n) (formula_variables f) (formula_variables g) b)) (y.read n (all_second (IsLevelBelow n) (formula_variables f) (formula_variables g) b)) }
  level_paired pair.Equiv f g p q r x y h = record { read = λ n b. h (levels n) (x.read n (all_first (IsLevelBelow n) (formula_variables f) (formula_variables g) b)) (y.read n (all_second (IsLevelBelow n) (formula_variables f) (formula_variables g) b)) }

  pub level_quantified : (k : Quantifier) (m : ℕ) (f : FormulaTree) (p r : Part Id) → IsLevelPart c P t f p
      → ((names : List (List ℕ)) → place names (level m) ≡ m → IsPart c [] names P t f p → IsPart c [] names Q u (quantified k (level m) f) r) → IsLevelPart c Q u (quantified k (level m) f) r
  level_quantified Exists m f p r x h = record { read = λ n b. h (levels n) (level_alone n m (b.0, tt)) (x.read n b.1) }
  level_quantified ForAll m f p r x h = record { read = λ n b. h (levels n) (level_alone n m (b.0, tt)) (x.read n b.1) }

-- ---- nodes

pub paired_nodes : (k : Pair) (f g : FormulaTree) → formula_nodes (paired k f g) ≡ suc (formula_nodes f + formula_nodes g)
paired_nodes pair.Impl f g = refl
paired_nodes pair.Repl f g = refl
paired_nodes pair.Equiv f g = refl

pub quantified_nodes : (k : Quantifier) (m : ℕ) (f : FormulaTree) → formula_nodes (quantified k (level m) f) ≡ suc (formula_nodes f)
quantified_nodes Exists m f = refl
quantified_nodes ForAll m f = refl

pub constant_nodes : (j : Junction) → formula_nodes (neutral j) ≡ 1
constant_nodes Conjunction = refl
constant_nodes Disjunction = refl

-- ---- lists from the end

-- the last of the quantifiers stands right before the formula
pub closed_last : {X : Type 0} (q : Quantifier) (n : ℕ) (xs : List X) (k : ℕ) (f : FormulaTree) → k < length xs → closed q n (take (k + 1) xs) f ≡ closed q n (take k xs) (quantified q (level (n + k)) f)
closed_last q n [] k f l = absurd (omega arith)
closed_last q n (x ∷ xs) zero f l = let e : n ≡ n + 0 = omega arith in ap (λ m. quantified q (level m) f) e
closed_last q n (x ∷ xs) (suc k) f l =
    let e : suc n + k ≡ n + suc k = omega arith in
    let d : suc k + 1 ≡ suc (k + 1) = omega arith in
    ap (λ m. closed q n (take m (x ∷ xs)) f) d ∙ ap (quantified q (level n)) (closed_last q (suc n) xs k f (omega arith) ∙ ap (λ m. closed q (suc n) (take k xs) (quantified q (level m) f)) e)

-- the formula at a place, and what it is
pub each_at : {X V : Type 0} (R : X → V → Type 0) (xs : List X) (vs : List V) (i : ℕ) (v : V) → AreEach R xs vs → i < length vs → v ≡ get_or vs i v → (x : X) × R x v × (drop i xs ≡ x ∷ drop (i + 1) xs)
each_at R [] [] i v h l e = absurd (omega arith)
each_at R [] (w ∷ vs) i v h l e = absurd h
each_at R (x ∷ xs) [] i v h l e = absurd h
each_at R (x ∷ xs) (w ∷ vs) zero v h l e = (x, subst (R x) (sym e) h.0, refl)
each_at R (x ∷ xs) (w ∷ vs) (suc i) v h l e =
    let r = each_at R xs vs i v h.1 (omega arith) e in
    let d : suc i + 1 ≡ suc (i + 1) = omega arith in
    (r.0, r.1, r.2 ∙ ap (λ zs. r.0 ∷ zs) (sym (ap (λ m. drop m (x ∷ xs)) d)))

pub each_length : {X V : Type 0} (R : X → V → Type 0) (xs : List X) (vs : List V) → AreEach R xs vs → length xs ≡ length vs
each_length R [] [] h = refl
each_length R [] (v ∷ vs) h = absurd h
each_length R (x ∷ xs) [] h = absurd h
each_length R (x ∷ xs) (v ∷ vs) h = ap suc (each_length R xs vs h.1)
