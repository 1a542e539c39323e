-- What the sentence of a state is resolved to.
use Rattle.std.proofs.Common.{◌≡◌, [], length, ap, ◌∙◌, arith}
use Rattle.logic_meaning.specs.Context.{Context}
use Rattle.resolved_formulas.proofs.ResolvedHeight.{resolving_keeps_height}
use Rattle.sample_reference.specs.Leading.{under_names}
use Rattle.smt_language.specs.Levels.{levels}
use Rattle.program_meaning.specs.SmtState.{State}
use Rattle.program_meaning.specs.Sentence.{all_of, sentence, resolved_sentence}
use Rattle.smt_theorems.specs.Resolved.{sentence_levels, asserted_tree, AreResolvable, SentenceIsMade}
use Rattle.smt_theorems.proofs.Names.{each_below, declared_within}
use Rattle.smt_theorems.proofs.Trees.{closed_tree, joined_tree}

-- the resolved sentence is what is asserted under its quantifiers
pub sentence_tree : (c : Context) (s : State) → AreResolvable c s → resolved_sentence c s ≡ under_names 0 (length s.declared) (asserted_tree c s)
sentence_tree c s h =
    let l = declared_within c s h in
    closed_tree c (sentence_levels s) 0 s.declared (all_of s.asserted) (omega arith)
    ∙ ap (under_names 0 (length s.declared)) (joined_tree c (sentence_levels s) s.asserted)

-- the names, the tree and the height of the resolved sentence
pub sentence_is_made : SentenceIsMade
sentence_is_made c s h = record {
  below = each_below c s h;
  tree = sentence_tree c s h;
  height = resolving_keeps_height c [] (levels (sentence_levels s)) (sentence s);
}
