-- The line of a symbol is read as the definition of its table.
use Rattle.std.proofs.Common.{◌≡◌, ℕ, suc, ◌+◌, ◌&&◌, All, List, [], ◌∷◌, ◌++◌, length, flat_map, refl, sym, ap, ◌∙◌, append_assoc, append-nil}
use Rattle.std.specs.Prelude.{codes}
use Rattle.std.specs.List.{AllByRecursion}
use Rattle.std.proofs.lemmas.List.Elements.{recursion_from_All}
use Rattle.spec_text.specs.Lexemes.{opens, closes, lexemes}
use Rattle.spec_text.specs.Lexicon.{reserved_word}
use Rattle.spec_text.specs.Printed.{printed}
use Rattle.spec_text.specs.Trees.{Tree, Trees, list, none, more, spelled, spelled_all, IsRead}
use Rattle.spec_text.proofs.General.{bytes_itself}
use Rattle.spec_text.proofs.Words.{HasWords, HaveWords}
use Rattle.spec_text.proofs.Printing.{moved, open_read, close_read, space_read, feed_read, tree_read}
use Rattle.spec_sorts.specs.Terms.{Sort, Symbol}
use Rattle.spec_sorts.specs.Values.{Value, HasSort, HaveSorts, TableRow, Interpretation, IsRowOf, IsTableOf, Interprets}
use Rattle.spec_sorts.specs.Signatures.{Signature}
use Rattle.spec_sorts.specs.Meaning.{bind}
use Rattle.spec_models.specs.Values.{trees_of}
use Rattle.spec_models.specs.Models.{parameters_from, parameters_of, parameter_trees, equality_trees, condition_tree, body_tree, definition_tree, indented, definition_line, model_text}
use Rattle.spec_models.specs.Meaning.{Defines, DefineAll, IsSortIn, IsSymbolIn}
use Rattle.spec_models.proofs.Sorts.{sort_named_well}
use Rattle.spec_models.proofs.Values.{symbol_kind, bare_word, parameter_bare, name_spelled, sort_spelled, value_spelled}
use Rattle.spec_models.proofs.Parameters.{no_theory_bound, bound_at, sort_read, parameters_read}
use Rattle.spec_models.proofs.Tables.{body_means}

module _ (g : Signature) where
  -- each part of a definition is made of words
  equalities_spelled : (k : ℕ) (ss : List Sort) (args : List Value) → AllByRecursion (IsSortIn g) ss → HaveSorts ss args → HaveWords (trees_of (equality_trees k args))
  equalities_spelled k [] [] d h = tt
  equalities_spelled k [] (a ∷ args) d h = absurd h
  equalities_spelled k (s ∷ ss) [] d h = absurd h
  equalities_spelled k (s ∷ ss) (a ∷ args) d h =
      ((bare_word 61 [] refl, (parameter_bare k, (value_spelled s a (sort_named_well g s d.0) h.0, tt))), equalities_spelled (suc k) ss args d.1 h.1)

  condition_spelled : (ss : List Sort) (args : List Value) → AllByRecursion (IsSortIn g) ss → HaveSorts ss args → HasWords (condition_tree args)
  condition_spelled ss [] d h = bare_word 116 _ refl
  condition_spelled ss (a ∷ []) d h = (equalities_spelled 0 ss (a ∷ []) d h).0
  condition_spelled ss (a ∷ c ∷ args) d h = (bare_word 97 _ refl, equalities_spelled 0 ss (a ∷ c ∷ args) d h)

  body_spelled : (s : Symbol) (rows : List TableRow) (default : Value) → AllByRecursion (IsSortIn g) s.parameters → IsSortIn g s.result → AllByRecursion (IsRowOf s) rows → HasSort s.result default → HasWords (body_tree rows default)
  body_spelled s [] default d r h k = value_spelled s.result default (sort_named_well g s.result r) k
  body_spelled s (row ∷ rows) default d r h k =
      (bare_word 105 _ refl, (condition_spelled s.parameters row.arguments d h.0.arguments, (value_spelled s.result row.value (sort_named_well g s.result r) h.0.value, (body_spelled s rows default d r h.1 k, tt))))

  parameters_spelled : (k : ℕ) (ss : List Sort) → AllByRecursion (IsSortIn g) ss → HaveWords (trees_of (parameter_trees (parameters_from k ss)))
  parameters_spelled k [] d = tt
  parameters_spelled k (s ∷ ss) d = ((parameter_bare k, (sort_spelled s (sort_named_well g s d.0), tt)), parameters_spelled (suc k) ss d.1)

  module _ (i : Interpretation) (s : Symbol) (is : IsSymbolIn g s) (t : IsTableOf s (i.table s.name)) where
    parameters_are : AllByRecursion (IsSortIn g) s.parameters
    parameters_are = recursion_from_All (IsSortIn g) s.parameters is.parameters

    rows_are : AllByRecursion (IsRowOf s) (i.table s.name).rows
    rows_are = recursion_from_All (IsRowOf s) (i.table s.name).rows t.rows

    definition_spelled : HasWords (definition_tree s (i.table s.name))
    definition_spelled =
        ((codes "define-fun", reserved_word (codes "define-fun") refl), (name_spelled s.name is.name, (parameters_spelled 0 s.parameters parameters_are, (sort_spelled s.result (sort_named_well g s.result is.result), (body_spelled s (i.table s.name).rows (i.table s.name).default parameters_are is.result rows_are t.default, tt)))))

    -- the definition of a symbol gives its table
    defined : (at : ℕ) → Defines i g s (moved at (definition_tree s (i.table s.name)))
    defined at = (
      _,
      refl,
      record {
        name = λ j. symbol_kind s.name j && bytes_itself s.name j;
        parameters = parameters_read g 0 s.parameters [] parameters_are (λ j le. refl) _;
        result = sort_read g s.result is.result _;
        value = λ m vs e. body_means m (bind (parameters_of s) vs) (no_theory_bound 0 s.parameters vs) s (i.table s.name).rows (i.table s.name).default vs rows_are t.default e (bound_at 0 s.parameters vs e) _;
      },
    )

nothing_read : (at : ℕ) → lexemes 0 at [] ≡ []
unfolding lexemes
nothing_read at = refl

-- a line is read as its tree
line_read : (t : Tree) → HasWords t → (at : ℕ) (rest : List ℕ) → lexemes 0 at (indented t ++ rest) ≡ spelled (moved (at + 1 + 1) t) ++ lexemes 0 (at + 1 + 1 + length (printed t) + 1) rest
line_read t h at rest =
    space_read at (32 ∷ ((printed t ++ 10 ∷ []) ++ rest))
    ∙ space_read (at + 1) ((printed t ++ 10 ∷ []) ++ rest)
    ∙ ap (lexemes 0 (at + 1 + 1)) (append_assoc (printed t) (10 ∷ []) rest)
    ∙ tree_read t h (at + 1 + 1) (10 ∷ rest) (refl, refl)
    ∙ ap (λ ys. spelled (moved (at + 1 + 1) t) ++ ys) (feed_read (at + 1 + 1 + length (printed t)) rest)

-- lines are read as trees that define their symbols
record ReadsLines (i : Interpretation) (g : Signature) (symbols : List Symbol) (at : ℕ) (rest : List ℕ) : Type 0 where
  trees : Trees
  end : ℕ
  read : lexemes 0 at (flat_map (definition_line i) symbols ++ rest) ≡ spelled_all trees ++ lexemes 0 end rest
  define : DefineAll i g symbols trees

lines_read : (i : Interpretation) (g : Signature) (symbols : List Symbol) (at : ℕ) (rest : List ℕ) → AllByRecursion (IsSymbolIn g) symbols → AllByRecursion (λ s. IsTableOf s (i.table s.name)) symbols → ReadsLines i g symbols at rest
lines_read i g [] at rest h k = record { trees = none; end = at; read = refl; define = tt }
lines_read i g (s ∷ ss) at rest h k =
    let t : Tree = definition_tree s (i.table s.name) in
    let others : List ℕ = flat_map (definition_line i) ss ++ rest in
    let after : ReadsLines i g ss (at + 1 + 1 + length (printed t) + 1) rest = lines_read i g ss (at + 1 + 1 + length (printed t) + 1) rest h.1 k.1 in
    record {
      trees = more (moved (at + 1 + 1) t) after.trees;
      end = after.end;
      read = ap (lexemes 0 at) (append_assoc (definition_line i s) (flat_map (definition_line i) ss) rest)
          ∙ line_read t (definition_spelled g i s h.0 k.0) at others
          ∙ ap (λ ys. spelled (moved (at + 1 + 1) t) ++ ys) after.read
          ∙ sym (append_assoc (spelled (moved (at + 1 + 1) t)) (spelled_all after.trees) (lexemes 0 after.end rest));
      define = (defined g i s h.0 k.0 (at + 1 + 1), after.define);
    }

-- and a model is read as the list of them
pub model_read : (i : Interpretation) (g : Signature) (symbols : List Symbol) → All (IsSymbolIn g) symbols → Interprets i symbols → (ts : Trees) × (end : ℕ) × IsRead (model_text i symbols) (more (list 0 ts end) none) × DefineAll i g symbols ts
model_read i g symbols h k =
    let lines : ReadsLines i g symbols (0 + 1 + 1) (41 ∷ 10 ∷ []) = lines_read i g symbols (0 + 1 + 1) (41 ∷ 10 ∷ []) (recursion_from_All (IsSymbolIn g) symbols h) (recursion_from_All (λ s. IsTableOf s (i.table s.name)) symbols k) in (
      lines.trees,
      lines.end,
      open_read 0 (10 ∷ flat_map (definition_line i) symbols ++ 41 ∷ 10 ∷ [])
          ∙ ap (λ ys. (0, opens) ∷ ys) (feed_read (0 + 1) (flat_map (definition_line i) symbols ++ 41 ∷ 10 ∷ []) ∙ lines.read ∙ ap (λ ys. spelled_all lines.trees ++ ys) (close_read lines.end (10 ∷ []) ∙ ap (λ ys. (lines.end, closes) ∷ ys) (feed_read (lines.end + 1) [] ∙ nothing_read (lines.end + 1 + 1))) ∙ sym (append-nil (spelled_all lines.trees ++ (lines.end, closes) ∷ []))),
      lines.define,
    )
