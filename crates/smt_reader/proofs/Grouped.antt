-- What the tokens of an S-expression are put together to: that S-expression, and nothing else.
use Rattle.std.proofs.Common.{◌≡◌, List, [], ◌∷◌, ◌++◌, sym, refl, ap, ◌∙◌, append_assoc}
use Rattle.std.specs.Prelude.{Some}
use Rattle.smt_language.specs.declared.token.SmtToken.{SmtToken}
use Rattle.smt_language.specs.declared.token.SmtToken.TheVariants as token
use Rattle.smt_language.specs.declared.sexpr.Leaf.TheVariants as leaf
use Rattle.smt_language.specs.SExprs.{SExprTree, SExprTrees, One, Group, none, also, written, written_all}
use Rattle.smt_language.specs.SExprLists.{sexprs_of}
use Rattle.smt_reader.specs.Grouping.{Open, grouped}
use Rattle.smt_reader.proofs.Lists.{append_none}

-- these are open
abbrev pub inside : List SExprTree → List (List SExprTree) → Open
inside xs gs = record { inmost = xs; around = gs }

list_of : SExprTrees → List SExprTree
list_of none = []
list_of (also s ss) = s ∷ list_of ss

listed : (ss : SExprTrees) → sexprs_of (list_of ss) ≡ ss
unfolding list_of
listed none = refl
listed (also s ss) = ap (also s) (listed ss)

-- ---- what is written is found

mutual
  unfolding list_of

  found_one : (s : SExprTree) (xs : List SExprTree) (gs : List (List SExprTree)) (ts : List SmtToken) → grouped (inside xs gs) (written s ts) ≡ grouped (inside (xs ++ s ∷ []) gs) ts
  found_one (One (leaf.Numeral n)) xs gs ts = refl
  found_one (One (leaf.Decimal n power)) xs gs ts = refl
  found_one (One (leaf.Symbol x)) xs gs ts = refl
  found_one (One leaf.Unfit) xs gs ts = refl
  found_one (One leaf.Text) xs gs ts = refl
  found_one (One leaf.Keyword) xs gs ts = refl
  found_one (Group ss) xs gs ts =
      found_all ss [] (xs ∷ gs) (token.Close ∷ ts) ∙ ap (λ all. grouped (inside (xs ++ Group all ∷ []) gs) ts) (listed ss)

  found_all : (ss : SExprTrees) (xs : List SExprTree) (gs : List (List SExprTree)) (ts : List SmtToken) → grouped (inside xs gs) (written_all ss ts) ≡ grouped (inside (xs ++ list_of ss) gs) ts
  found_all none xs gs ts = ap (λ all. grouped (inside all gs) ts) (sym (append_none xs))
  found_all (also s ss) xs gs ts =
      found_one s xs gs (written_all ss ts) ∙ found_all ss (xs ++ s ∷ []) gs ts ∙ ap (λ all. grouped (inside all gs) ts) (append_assoc xs (s ∷ []) (list_of ss))

pub found : (ss : SExprTrees) (ts : List SmtToken) → written (Group ss) [] ≡ token.Open ∷ ts → grouped (inside [] []) ts ≡ Some ss
unfolding list_of
found ss ts e =
    let same : written_all ss (token.Close ∷ []) ≡ ts = cc in
    ap (grouped (inside [] [])) (sym same) ∙ found_all ss [] [] (token.Close ∷ []) ∙ ap Some (listed ss)

-- tokens are those of one group at most
pub one_group : (ss us : SExprTrees) (ts : List SmtToken) → written (Group ss) [] ≡ ts → written (Group us) [] ≡ ts → ss ≡ us
one_group ss us ts e f =
    let g = found ss (written_all us (token.Close ∷ [])) (e ∙ sym f) in
    let h = found us (written_all us (token.Close ∷ [])) refl in
    cc

-- ---- what is found is written

-- the tokens before and after, where these are open
spelled : List SExprTree → List (List SExprTree) → List SmtToken → List SmtToken
spelled xs [] ts = token.Open ∷ written_all (sexprs_of xs) ts
spelled xs (g ∷ gs) ts = spelled g gs (token.Open ∷ written_all (sexprs_of xs) ts)

written_more : (xs : List SExprTree) (s : SExprTree) (ts : List SmtToken) → written_all (sexprs_of (xs ++ s ∷ [])) ts ≡ written_all (sexprs_of xs) (written s ts)
written_more [] s ts = refl
written_more (x ∷ xs) s ts = ap (written x) (written_more xs s ts)

spelled_more : (xs : List SExprTree) (gs : List (List SExprTree)) (s : SExprTree) (ts : List SmtToken) → spelled (xs ++ s ∷ []) gs ts ≡ spelled xs gs (written s ts)
unfolding spelled
spelled_more xs [] s ts = ap (λ us. token.Open ∷ us) (written_more xs s ts)
spelled_more xs (g ∷ gs) s ts = ap (λ us. spelled g gs (token.Open ∷ us)) (written_more xs s ts)

written_so : (xs : List SExprTree) (gs : List (List SExprTree)) (ts : List SmtToken) (ss : SExprTrees) → grouped (inside xs gs) ts ≡ Some ss → spelled xs gs ts ≡ written (Group ss) []
unfolding spelled
written_so xs gs [] ss e = absurd (let bad : ⊥ = cc in bad)
written_so xs gs (token.Open ∷ ts) ss e = written_so [] (xs ∷ gs) ts ss e
written_so xs [] (token.Close ∷ []) ss e = let same : sexprs_of xs ≡ ss = cc in ap (λ all. written (Group all) []) same
written_so xs [] (token.Close ∷ t ∷ ts) ss e = absurd (let bad : ⊥ = cc in bad)
written_so xs (g ∷ gs) (token.Close ∷ ts) ss e = sym (spelled_more g gs (Group (sexprs_of xs)) ts) ∙ written_so (g ++ Group (sexprs_of xs) ∷ []) gs ts ss e
written_so xs gs (token.Numeral n ∷ ts) ss e = sym (spelled_more xs gs (One (leaf.Numeral n)) ts) ∙ written_so (xs ++ One (leaf.Numeral n) ∷ []) gs ts ss e
written_so xs gs (token.Decimal n power ∷ ts) ss e = sym (spelled_more xs gs (One (leaf.Decimal n power)) ts) ∙ written_so (xs ++ One (leaf.Decimal n power) ∷ []) gs ts ss e
written_so xs gs (token.Symbol x ∷ ts) ss e = sym (spelled_more xs gs (One (leaf.Symbol x)) ts) ∙ written_so (xs ++ One (leaf.Symbol x) ∷ []) gs ts ss e
written_so xs gs (token.Unfit ∷ ts) ss e = sym (spelled_more xs gs (One leaf.Unfit) ts) ∙ written_so (xs ++ One leaf.Unfit ∷ []) gs ts ss e
written_so xs gs (token.Text ∷ ts) ss e = sym (spelled_more xs gs (One leaf.Text) ts) ∙ written_so (xs ++ One leaf.Text ∷ []) gs ts ss e
written_so xs gs (token.Keyword ∷ ts) ss e = sym (spelled_more xs gs (One leaf.Keyword) ts) ∙ written_so (xs ++ One leaf.Keyword ∷ []) gs ts ss e
written_so xs gs (token.Bad ∷ ts) ss e = absurd (let bad : ⊥ = cc in bad)

pub written_as : (ts : List SmtToken) (ss : SExprTrees) → grouped (inside [] []) ts ≡ Some ss → written (Group ss) [] ≡ token.Open ∷ ts
unfolding spelled
written_as ts ss e = sym (written_so [] [] ts ss e)
