-- What is free in a written formula and whether a quantifier stands in it, told by its parts.
use Rattle.std.proofs.Common.{◌≡◌, ℕ, List, Bool, true, false, ◌||◌, Option, Some, None, sym, ◌∙◌, ap, subst, true≢false}
use Rattle.std.specs.Prelude.{unwrap_or, IsTrue, ◌↔◌}
use Rattle.std.specs.Bool.{MatchBool}
use Rattle.logic_meaning.specs.Formula.{Yes, No}
use Rattle.logic_meaning.specs.Tree.{Tree, IsFree}
use Rattle.language_meaning.specs.Trees.{Bound}
use Rattle.written_syntax.proofs.NameOrder.{by_at}
use Rattle.logic_meaning.specs.Bindings.{bound_to}
use Rattle.language_meaning.specs.Causes.{atom_in_place}
use Rattle.logic_meaning.specs.Quantified.{has_quantifier}
use Rattle.language_meaning.specs.Resolving.{BoundTrees, MentionsNumber}
use Rattle.free_names.specs.Scopes.{AreAmong, IsIn}
use Rattle.free_names.specs.Missing.{AreMissing}
use Rattle.free_names.proofs.Scopes.{or_neither, or_parts, or_first}

module _ (bound : BoundTrees) (x : List ℕ) where
  -- the tree that stands for the name
  pub there_quantified : (t : Tree) (b : Bool) → bound_to bound x ≡ Some t → b ≡ has_quantifier t → b ≡ has_quantifier (atom_in_place bound (Bound x))
  there_quantified t b e h = h ∙ ap (λ (o : Option Tree). has_quantifier (unwrap_or o Yes)) (sym e)

  pub there_among : (t : Tree) (number : List ℕ → ℕ) (has : ℕ → Bool) (r : Bool) → bound_to bound x ≡ Some t → AreAmong (IsFree t) has r → AreAmong (MentionsNumber bound number (Bound x)) has r
  there_among t number has r e h = subst (λ (o : Option Tree). AreAmong (IsFree (unwrap_or o No)) has r) (sym e) h

  -- or nothing is bound to it
  pub away_quantified : bound_to bound x ≡ None → false ≡ has_quantifier (atom_in_place bound (Bound x))
  away_quantified e = ap (λ (o : Option Tree). has_quantifier (unwrap_or o Yes)) (sym e)

  pub away_among : (number : List ℕ → ℕ) (has : ℕ → Bool) → bound_to bound x ≡ None → AreAmong (MentionsNumber bound number (Bound x)) has true
  away_among number has e = λ n h. absurd (subst (λ (o : Option Tree). IsFree (unwrap_or o No) n) e h)

-- the free numbers that have no entry are searched among those of the quantifiers
pub among_missing : (P : ℕ → Type 0) (v opened : ℕ → Bool) (ns : List ℕ) (r : Bool) → AreMissing P v ns → AreAmong (λ n. IsIn n ns) opened r → AreAmong P (λ n. v n || opened n) r
among_missing P v opened ns true m h = λ n p. by_at (v n) (λ e. ap (λ t. t || opened n) e) (λ e. ap (λ t. t || opened n) e ∙ h n (m.all n p e))
among_missing P v opened ns false m h = let r = m.only h.0 h.1 in (h.0, r.0, or_neither (v h.0) (opened h.0) r.1 h.2)

-- a search where nothing is opened, by what the test stands for
pub told : (P Q : ℕ → Type 0) (v opened : ℕ → Bool) (r : Bool) → ((n : ℕ) → opened n ≡ false) → ((n : ℕ) → IsTrue (v n) ↔ Q n) → AreAmong P (λ n. v n || opened n) r → MatchBool r ((n : ℕ) → P n → Q n) ((n : ℕ) × P n × (¬ (Q n)))
told P Q v opened true none seen h = λ n p. (seen n).0 (or_first (v n) (opened n) (none n) (h n p))
told P Q v opened false none seen h = (h.0, h.1, λ q. true≢false (sym ((seen h.0).1 q) ∙ (or_parts (v h.0) (opened h.0) h.2).0))
