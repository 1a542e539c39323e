-- What several lists of known atoms say of an atom, and which known atoms can say anything.
use Rattle.std.proofs.Common.{◌≡◌, Bool, refl, sym, ap, ◌∙◌, Option, Some, None, List, [], ◌∷◌, ◌++◌}
use Rattle.shape_theory.specs.Kit.{Kit}
use Rattle.shape_theory.specs.Pass.{first_answer, decided}

module _ {A : Type 0} (kit : Kit A) where
  first_more : (o p q : Option Bool) → first_answer o (first_answer p q) ≡ first_answer (first_answer o p) q
  first_more (Some b) p q = refl
  first_more None p q = refl

  -- the first list speaks first
  pub decided-append : (ks ls : List A) (a : A) → decided kit (ks ++ ls) a ≡ first_answer (decided kit ks a) (decided kit ls a)
  decided-append [] ls a = refl
  decided-append (k ∷ ks) ls a = ap (first_answer (kit.decides k a)) (decided-append ks ls a) ∙ first_more (kit.decides k a) (decided kit ks a) (decided kit ls a)

  -- one that says nothing is as if it were not there
  pub silent_last : (ks : List A) (k a : A) → decided kit ks a ≡ None → kit.decides k a ≡ None → decided kit (ks ++ k ∷ []) a ≡ None
  silent_last ks k a e q = decided-append ks (k ∷ []) a ∙ ap (λ o. first_answer o (first_answer (kit.decides k a) None)) e ∙ ap (λ o. first_answer o None) q

  -- the first that speaks
  pub first_speaks : (ks ls : List A) (k a : A) (o : Option Bool) (b : Bool) → decided kit ks a ≡ None → kit.decides k a ≡ o → o ≡ Some b → decided kit (ks ++ k ∷ ls) a ≡ o
  first_speaks ks ls k a o b e q s =
      decided-append ks (k ∷ ls) a ∙ ap (λ z. first_answer z (first_answer (kit.decides k a) (decided kit ls a))) e ∙ ap (λ z. first_answer z (decided kit ls a)) (q ∙ s) ∙ sym s
