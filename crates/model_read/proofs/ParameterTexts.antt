-- The parameters of definitions, by their texts.
use Rattle.std.proofs.Common.{◌≡◌, ◌==◌, ℕ, true, false, List, [], ◌∷◌, ◌++◌, length, Option, Some, None, refl, sym, ap, ◌∙◌, arith, append_assoc, append-nil}
use Rattle.std.specs.Prelude.{Ok, Err, not}
use Rattle.spec_text.specs.Answers.{◌>>=◌}
use Rattle.spec_text.specs.Bytes.{Name, among}
use Rattle.spec_text.specs.declared.Kind.{Kind}
use Rattle.spec_text.specs.Shapes.{Word}
use Rattle.spec_text.specs.Trees.{Tree, Trees, atom, list, none, more}
use Rattle.spec_sorts.specs.Terms.{Sort}
use Rattle.spec_sorts.specs.Signatures.{Signature}
use Rattle.spec_model_files.specs.declared.ModelKind.TheVariants.{BadShape, Twice, WrongSort}
use Rattle.spec_model_files.specs.Faults.{ModelFault, ReadModel, wrong, require}
use Rattle.spec_model_files.specs.Values.{symbol_read, sort_read}
use Rattle.spec_model_files.specs.Bodies.{tree_count, Parameters}
use Rattle.spec_model_files.specs.Definitions.{parameter_read, parameters_read, parameter_list_read}
use Rattle.smt_sexpr.specs.Items.{split_first}
use Rattle.smt_sexpr.proofs.Splitting.{split_more}
use Rattle.model_read.specs.declared.errors.LocatedFault.{LocatedFault}
use Rattle.model_read.specs.Answers.{located_view}
use Rattle.model_read.specs.Shapes.{pair_in}
use Rattle.model_read.specs.Bodies.{named_sorts, with_values}
use Rattle.model_read.specs.Definitions.{parameter_by}

module _ (g : Signature) (names : List Name) (s : Sort) where
  -- what follows the symbol
  abbrev after_word : ReadModel Word → Tree → ReadModel Name
  after_word r t = r >>= λ w. require (not (among names w.bytes)) w.at Twice >>= λ new. sort_read g s t >>= λ sort. Ok w.bytes

  module _ (x t : Tree) where
    pub parameter_is : (w : Word) → symbol_read x ≡ Ok w → among names w.bytes ≡ false → sort_read g s t ≡ Ok tt → parameter_by g names s x t ≡ Ok w.bytes
    unfolding parameter_by require ◌>>=◌
    parameter_is w e new h = ap (λ r. after_word r t) e ∙ (λ i. require (not (new i)) w.at Twice >>= λ u. h i >>= λ sort. Ok w.bytes)

    pub parameter_no_sort : (w : Word) (f : ModelFault) → symbol_read x ≡ Ok w → among names w.bytes ≡ false → sort_read g s t ≡ Err f → parameter_by g names s x t ≡ Err f
    unfolding parameter_by require ◌>>=◌
    parameter_no_sort w f e new h = ap (λ r. after_word r t) e ∙ (λ i. require (not (new i)) w.at Twice >>= λ u. h i >>= λ sort. Ok w.bytes)

    pub parameter_twice : (w : Word) (f : LocatedFault) → symbol_read x ≡ Ok w → among names w.bytes ≡ true → f ≡ record { offset = w.at; kind = Twice } → parameter_by g names s x t ≡ Err (located_view f)
    unfolding parameter_by require ◌>>=◌
    parameter_twice w f e old is = ap (λ r. after_word r t) e ∙ (λ i. require (not (old i)) w.at Twice >>= λ u. sort_read g s t >>= λ sort. Ok w.bytes) ∙ ap (λ (y : LocatedFault). Err (located_view y)) (sym is)

    pub parameter_no_word : (f : ModelFault) → symbol_read x ≡ Err f → parameter_by g names s x t ≡ Err f
    unfolding parameter_by ◌>>=◌
    parameter_no_word f e = ap (λ r. after_word r t) e

  abbrev by_pair : ℕ → Option (Tree × Tree) → ReadModel Name
  by_pair at (Some p) = parameter_by g names s p.0 p.1
  by_pair at None = wrong at BadShape

  parameter_split : (at end : ℕ) (ts : Trees) → parameter_read g names s (list at ts end) ≡ by_pair at (pair_in ts)
  unfolding parameter_read pair_in parameter_by
  parameter_split at end none = refl
  parameter_split at end (more x none) = refl
  parameter_split at end (more x (more t none)) = refl
  parameter_split at end (more x (more t (more u us))) = refl

  module _ (t : Tree) (at end : ℕ) (ts : Trees) (is : list at ts end ≡ t) where
    pub parameter_paired : (p : Tree × Tree) → Some p ≡ pair_in ts → parameter_read g names s t ≡ parameter_by g names s p.0 p.1
    parameter_paired p e = ap (parameter_read g names s) (sym is) ∙ parameter_split at end ts ∙ ap (by_pair at) (sym e)

    pub parameter_none : None ≡ pair_in ts → parameter_read g names s t ≡ wrong at BadShape
    parameter_none e = ap (parameter_read g names s) (sym is) ∙ parameter_split at end ts ∙ ap (by_pair at) (sym e)

  pub parameter_atom : (t : Tree) (at : ℕ) (k : Kind) (n : Name) → atom at k n ≡ t → parameter_read g names s t ≡ wrong at BadShape
  unfolding parameter_read
  parameter_atom t at k n is = ap (parameter_read g names s) (sym is)

-- names and sorts with one more each
pub named_push : (ns : List Name) (ss : List Sort) (n : Name) (s : Sort) → length ns ≡ length ss → named_sorts (ns ++ n ∷ []) (ss ++ s ∷ []) ≡ named_sorts ns ss ++ (n, s) ∷ []
named_push [] [] n s e = refl
named_push [] (t ∷ ss) n s e = absurd (omega (arith, e))
named_push (m ∷ ns) [] n s e = absurd (omega (arith, e))
named_push (m ∷ ns) (t ∷ ss) n s e = ap (λ (ps : Parameters). (m, t) ∷ ps) (named_push ns ss n s (omega (arith, e)))

module _ (g : Signature) where
  first_parameter : (names : List Name) (s : Sort) (ss : List Sort) (t : Tree) (ts : Trees)
      → parameters_read g names (s ∷ ss) (more t ts) ≡ (parameter_read g names s t >>= λ n. parameters_read g (names ++ n ∷ []) ss ts >>= λ ps. Ok ((n, s) ∷ ps))
  unfolding parameters_read
  first_parameter names s ss t ts = refl

  no_sorts : (names : List Name) (ts : Trees) → parameters_read g names [] ts ≡ Ok []
  unfolding parameters_read
  no_sorts names ts = refl

  module _ (names : List Name) (front back : List Sort) (ts : Trees) (whole : ReadModel Parameters) (h : with_values (named_sorts names front) (parameters_read g names back ts) ≡ whole) where
    pub parameters_end : back ≡ [] → whole ≡ Ok (named_sorts names front)
    parameters_end e = sym h ∙ ap (λ ss. with_values (named_sorts names front) (parameters_read g names ss ts)) e ∙ ap (with_values (named_sorts names front)) (no_sorts names ts) ∙ ap (λ ps. Ok ps) (append-nil (named_sorts names front))

    module _ (s : Sort) (rest : List Sort) (t : Tree) (us : Trees) (first : back ≡ s ∷ rest) (split : Some (t, us) ≡ split_first ts) where
      next_parameter : with_values (named_sorts names front) (parameter_read g names s t >>= λ n. parameters_read g (names ++ n ∷ []) rest us >>= λ ps. Ok ((n, s) ∷ ps)) ≡ whole
      next_parameter =
          ap (with_values (named_sorts names front)) (sym (first_parameter names s rest t us))
          ∙ (λ i. with_values (named_sorts names front) (parameters_read g names (sym first i) (sym (split_more ts us t split) i)))
          ∙ h

      pub parameters_more : (n : Name) → parameter_read g names s t ≡ Ok n → length names ≡ length front → with_values (named_sorts (names ++ n ∷ []) (front ++ s ∷ [])) (parameters_read g (names ++ n ∷ []) rest us) ≡ whole
      unfolding ◌>>=◌
      parameters_more n e long =
          ap (λ (ps : Parameters). with_values ps (parameters_read g (names ++ n ∷ []) rest us)) (named_push names front n s long)
          ∙ go (parameters_read g (names ++ n ∷ []) rest us)
          ∙ ap (λ r. with_values (named_sorts names front) (r >>= λ m. parameters_read g (names ++ m ∷ []) rest us >>= λ ps. Ok ((m, s) ∷ ps))) (sym e)
          ∙ next_parameter
        where
          go : (r : ReadModel Parameters) → with_values (named_sorts names front ++ (n, s) ∷ []) r ≡ with_values (named_sorts names front) (r >>= λ ps. Ok ((n, s) ∷ ps))
          go (Ok ps) = ap (λ qs. Ok qs) (append_assoc (named_sorts names front) ((n, s) ∷ []) ps)
          go (Err f) = refl

      pub parameters_fail : (f : ModelFault) → parameter_read g names s t ≡ Err f → whole ≡ Err f
      unfolding ◌>>=◌
      parameters_fail f e = sym next_parameter ∙ ap (λ r. with_values (named_sorts names front) (r >>= λ m. parameters_read g (names ++ m ∷ []) rest us >>= λ ps. Ok ((m, s) ∷ ps))) e

  -- a list of as many, or of more or fewer
  pub list_many : (t : Tree) (at end : ℕ) (ts : Trees) (ss : List Sort) → list at ts end ≡ t → (tree_count ts == length ss) ≡ true → parameter_list_read g ss t ≡ parameters_read g [] ss ts
  unfolding parameter_list_read require ◌>>=◌
  list_many t at end ts ss is e = ap (parameter_list_read g ss) (sym is) ∙ ap (λ b. require b at WrongSort >>= λ count. parameters_read g [] ss ts) e

  pub list_other : (t : Tree) (at end : ℕ) (ts : Trees) (ss : List Sort) → list at ts end ≡ t → (tree_count ts == length ss) ≡ false → parameter_list_read g ss t ≡ wrong at WrongSort
  unfolding parameter_list_read require ◌>>=◌
  list_other t at end ts ss is e = ap (parameter_list_read g ss) (sym is) ∙ ap (λ b. require b at WrongSort >>= λ count. parameters_read g [] ss ts) e

  pub list_atom : (t : Tree) (at : ℕ) (k : Kind) (n : Name) (ss : List Sort) → atom at k n ≡ t → parameter_list_read g ss t ≡ wrong at BadShape
  unfolding parameter_list_read
  list_atom t at k n ss is = ap (parameter_list_read g ss) (sym is)
