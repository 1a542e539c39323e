-- What is made of the formulas that are kept is the sentence of the state.
use Rattle.std.proofs.Common.{◌≡◌, ◌≤◌, ◌<◌, inr, ℕ, List, [], Some, Vec, Global, map, length, sym, ap, ◌∙◌, subst, arith}
use Rattle.logic_meaning.specs.Every.{Every}
use Rattle.logic_meaning.specs.Sizes.{height}
use Rattle.logic_meaning.specs.Tree.{Tree, IsFree}
use Rattle.normal_atoms.specs.declared.atoms.Context.{Context as Theory}
use Rattle.normal_atoms.specs.Atoms.{context_of}
use Rattle.logic_meaning.specs.NormalForm.{IsNormal}
use Rattle.language_meaning.specs.Causes.{height_in_place, IsTooDeep, most_height}
use Rattle.formula_tree.specs.declared.shape.Shape.{Shape}
use Rattle.formula_tree.specs.Makers.{IsMade, Keeps}
use Rattle.formula_store.specs.declared.id.FormulaId.{FormulaId}
use Rattle.formula_store.specs.Nodes.{tree, IsId}
use Rattle.sample_reference.specs.Leading.{under_names}
use Rattle.engine_answers.specs.Decided.{Decides}
use Rattle.engine_answers.specs.declared.verdict.Verdict.{Verdict}
use Rattle.smt_language.specs.Trees.{Check}
use Rattle.program_meaning.specs.SmtState.{State}
use Rattle.program_meaning.specs.Sentence.{sentence, resolved_sentence}
use Rattle.program_meaning.specs.Replies.{checks}
use Rattle.program_meaning.specs.declared.smt_error.SmtError.TheVariants as error
use Rattle.program_meaning.specs.declared.smt_reply.SmtReply.TheVariants as reply
use Rattle.smt_theorems.specs.Resolved.{conjunction, asserted_tree, AreResolvable, IsSentenceMade, IsSentenceMeant}
use Rattle.smt_theorems.proofs.Made.{sentence_is_made}
use Rattle.smt_theorems.proofs.Meant.{sentence_is_meant}
use Rattle.smtlib_front.specs.Seen.{Seen, HasValueForEach}
use Rattle.smtlib_front.specs.Represents.{Represents, kept_of}
use Rattle.smtlib_front.specs.Steps.{IsAnswered, IsRefused}
use Rattle.smtlib_front.specs.Words.{word_of_verdict, kept_by}
use Rattle.smtlib_front.proofs.Causes.{check_too_deep, check_accepted}
use Rattle.smtlib_front.proofs.Checked.{every_under, verdict_checks, verdict_counted}
use Rattle.smtlib_front.proofs.States.{logic_is, stored, grown_state, checked_state}
use Rattle.smtlib_front.proofs.Stored.{stored_resolvable, stored_trees}

module _ (m : Seen) (s : State) (limit : ℕ) (r : Represents m s) (t : Theory) (l : m.logic ≡ Some t) where
  in_logic : s.logic ≡ Some (context_of t)
  in_logic = logic_is m s r t l

  resolvable : AreResolvable (context_of t) s
  resolvable = stored_resolvable (context_of t) (length s.declared) m.formulas s.asserted m.asserted (stored m s r (context_of t) in_logic)

  made : IsSentenceMade (context_of t) s
  made = sentence_is_made (context_of t) s resolvable

  joined_is : conjunction (map (tree m.formulas) m.asserted) ≡ asserted_tree (context_of t) s
  joined_is = ap conjunction (stored_trees (context_of t) (length s.declared) m.formulas s s.asserted m.asserted (stored m s r (context_of t) in_logic) made.below)

  -- the id is what is asserted, joined, under `ex` of the declared names
  module _ (nodes : List (Shape FormulaId)) (id : FormulaId) (count : ℕ) (known : count ≡ length m.declared) (ids : List FormulaId) (given : ids ≡ m.asserted)
      (h : IsMade (IsId nodes) (tree nodes) id (under_names 0 count (conjunction (map (tree m.formulas) ids)))) where
    under_declared : tree nodes id ≡ under_names 0 count (asserted_tree (context_of t) s)
    under_declared = h.same ∙ ap (λ js. under_names 0 count (conjunction (map (tree m.formulas) js))) given ∙ ap (under_names 0 count) joined_is

    counted : count ≡ length s.declared
    counted = known ∙ ap length r.declared

    sentence_is : tree nodes id ≡ resolved_sentence (context_of t) s
    sentence_is = under_declared ∙ ap (λ n. under_names 0 n (asserted_tree (context_of t) s)) counted ∙ sym made.tree

    module _ (tall : ℕ) (e : tall ≡ height (tree nodes id)) where
      height_is : tall ≡ height_in_place [] (sentence s)
      height_is = e ∙ ap height sentence_is ∙ made.height

      pub depth_refused : most_height < tall → Keeps (IsId m.formulas) (tree m.formulas) (IsId nodes) (tree nodes) → IsRefused s limit Check error.Depth (record m { formulas = nodes })
      depth_refused high keeps = record {
        cause = inr (check_too_deep s limit (context_of t) in_logic (subst (λ n. most_height < n) height_is high));
        represents = grown_state m s r nodes keeps;
      }

      module _ (low : tall ≤ most_height) where
        flat : IsTooDeep [] (sentence s) → ⊥
        flat d = let high : most_height < tall = subst (λ n. most_height < n) (sym height_is) d in omega (arith, high, low)

        meant : IsSentenceMeant (context_of t) s
        meant = sentence_is_meant (context_of t) s resolvable flat

        -- what is asked of a sentence that is decided
        pub sentence_normal : Every (IsNormal (context_of t)) (tree nodes id)
        sentence_normal = subst (Every (IsNormal (context_of t))) (sym under_declared) (every_under (IsNormal (context_of t)) 0 count (asserted_tree (context_of t) s) meant.normal)

        pub sentence_closed : (y : ℕ) → IsFree (tree nodes id) y → ⊥
        sentence_closed y = subst (λ f. IsFree f y → ⊥) (sym sentence_is) (meant.closed y)

        -- what the verdict on it says
        module _ (v : Verdict) (d : (body : Tree) → tree nodes id ≡ under_names 0 count body → Decides (context_of t) limit count body v) where
          decides : Decides (context_of t) limit count (asserted_tree (context_of t) s) v
          decides = d (asserted_tree (context_of t) s) under_declared

          pub sentence_counted : HasValueForEach (length m.declared) (kept_by v)
          sentence_counted = subst (λ n. HasValueForEach n (kept_by v)) known (verdict_counted (context_of t) limit count (asserted_tree (context_of t) s) v decides)

          pub check_answered : (after : Seen) → Represents after s → (line : Vec ℕ Global) → line.items ≡ word_of_verdict v → IsAnswered s limit Check (reply.Printed line) (record after { kept = kept_by v })
          check_answered after a line told = record {
            next = record s { kept = kept_of (kept_by v) };
            accepted = check_accepted s limit (context_of t) in_logic flat;
            answers = checks in_logic (verdict_checks (context_of t) s limit made meant v (subst (λ n. Decides (context_of t) limit n (asserted_tree (context_of t) s) v) counted decides)) told;
            represents = checked_state after s a (kept_by v);
          }
