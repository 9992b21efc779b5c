-- What is printed of an interpretation within the bounds is read as its tables.
use Rattle.std.proofs.Common.{◌≡◌, ◌⊎◌, ℕ, suc, ◌+◌, Bool, true, false, cond, All, Contains, get_or, List, [], ◌∷◌, ◌++◌, length, map, flat_map, Some, None, inl, inr, refl, sym, ap, ◌∙◌, subst, arith, append_assoc, append-nil}
use Rattle.std.specs.Prelude.{codes, ◌||◌, Ok}
use Rattle.std.specs.Str.{bytes_eq}
use Rattle.std.specs.List.{AllByRecursion}
use Rattle.std.proofs.lemmas.Bool.{false≢true}
use Rattle.std.proofs.lemmas.Bool.Decides.{nat_tests}
use Rattle.std.proofs.lemmas.List.{take_all, map-append}
use Rattle.std.proofs.lemmas.List.Elements.{recursion_from_All, Contains-get_or}
use Rattle.std.proofs.lemmas.Slice.Eq.{bytes_eq-Decides}
use Rattle.spec_text.specs.Bytes.{Name, among}
use Rattle.spec_text.specs.Lexemes.{opens, closes, lexemes}
use Rattle.spec_text.specs.Lexicon.{reserved_word}
use Rattle.spec_text.specs.Printed.{printed}
use Rattle.spec_text.specs.Readings.{text_limit, kept}
use Rattle.spec_text.specs.Trees.{Tree, Trees, none, more, spelled, spelled_all}
use Rattle.spec_text.proofs.AnswerLaws.{joined}
use Rattle.spec_text.proofs.Members.{cases, none as no_member}
use Rattle.spec_text.proofs.Words.{HasWords, HaveWords}
use Rattle.spec_text.proofs.Printing.{moved, open_read, close_read, space_read, feed_read, tree_read}
use Rattle.spec_sorts.specs.Terms.{Sort, Symbol}
use Rattle.spec_sorts.specs.Values.{Value, HasSort, HaveSorts, TableRow, Interpretation, IsRowOf, IsTableOf}
use Rattle.spec_sorts.specs.Signatures.{declared, defined, of_sort, of_function, Signature, known_as, symbols_in}
use Rattle.spec_sorts.proofs.Signatures.{symbols_append}
use Rattle.spec_reading.specs.Agreement.{AreSoundAfter, AreSound}
use Rattle.spec_models.specs.Values.{trees_of}
use Rattle.spec_models.specs.Models.{parameters_from, parameter_trees, equality_trees, condition_tree, body_tree, definition_tree, indented, definition_line, model_text}
use Rattle.spec_models.specs.Meaning.{IsSortIn, IsSymbolIn}
use Rattle.spec_models.proofs.Sorts.{sort_named_well}
use Rattle.spec_models.proofs.Values.{bare_word, parameter_bare, name_spelled, sort_spelled, value_spelled}
use Rattle.spec_proofs.specs.Texts.{complete}
use Rattle.spec_proofs.specs.Examples.{in_one_list}
use Rattle.spec_checking.proofs.Models.{found}
use Rattle.spec_model_files.specs.Definitions.{DefinedSymbol, declared_symbol, definitions_read, table_among, table_or, interpretation_of}
use Rattle.spec_model_files.specs.Texts.{behind_sat, ends, AreDefinitions, IsModelText, ending_fault}
use Rattle.spec_model_files.specs.Verdicts.{read_to_end, IsModelReading}
use Rattle.spec_model_files.specs.Limits.{IsTableWithin, IsPrintable}
use Rattle.spec_model_files.proofs.Sorted.{IsKnown}
use Rattle.spec_model_files.proofs.PrintedBodies.{definition_is}

-- the definition of a symbol is made of words
module _ (g : Signature) where
  equalities_words : (k : ℕ) (ss : List Sort) (args : List Value) → AllByRecursion (IsSortIn g) ss → HaveSorts ss args → HaveWords (trees_of (equality_trees k args))
  equalities_words k [] [] d h = tt
  equalities_words k [] (a ∷ args) d h = absurd h
  equalities_words k (s ∷ ss) [] d h = absurd h
  equalities_words k (s ∷ ss) (a ∷ args) d h =
      ((bare_word 61 [] refl, (parameter_bare k, (value_spelled s a (sort_named_well g s d.0) h.0, tt))), equalities_words (suc k) ss args d.1 h.1)

  condition_words : (ss : List Sort) (args : List Value) → AllByRecursion (IsSortIn g) ss → HaveSorts ss args → HasWords (condition_tree args)
  condition_words ss [] d h = bare_word 116 _ refl
  condition_words ss (a ∷ []) d h = (equalities_words 0 ss (a ∷ []) d h).0
  condition_words ss (a ∷ c ∷ args) d h = (bare_word 97 _ refl, equalities_words 0 ss (a ∷ c ∷ args) d h)

  body_words : (s : Symbol) (rows : List TableRow) (default : Value) → AllByRecursion (IsSortIn g) s.parameters → IsSortIn g s.result → AllByRecursion (IsRowOf s) rows → HasSort s.result default → HasWords (body_tree rows default)
  body_words s [] default d r h k = value_spelled s.result default (sort_named_well g s.result r) k
  body_words s (row ∷ rows) default d r h k =
      (bare_word 105 _ refl, (condition_words s.parameters row.arguments d h.0.arguments, (value_spelled s.result row.value (sort_named_well g s.result r) h.0.value, (body_words s rows default d r h.1 k, tt))))

  parameters_words : (k : ℕ) (ss : List Sort) → AllByRecursion (IsSortIn g) ss → HaveWords (trees_of (parameter_trees (parameters_from k ss)))
  parameters_words k [] d = tt
  parameters_words k (s ∷ ss) d = ((parameter_bare k, (sort_spelled s (sort_named_well g s d.0), tt)), parameters_words (suc k) ss d.1)

  definition_words : (i : Interpretation) (s : Symbol) → IsSymbolIn g s → IsTableOf s (i.table s.name) → HasWords (definition_tree s (i.table s.name))
  definition_words i s is t =
      let parameters = recursion_from_All (IsSortIn g) s.parameters is.parameters in
      ((codes "define-fun", reserved_word (codes "define-fun") refl), (name_spelled s.name is.name, (parameters_words 0 s.parameters parameters, (sort_spelled s.result (sort_named_well g s.result is.result), (body_words s (i.table s.name).rows (i.table s.name).default parameters is.result (recursion_from_All (IsRowOf s) (i.table s.name).rows t.rows) t.default, tt)))))

-- a line is read as its tree
line_trees : (t : Tree) → HasWords t → (at : ℕ) (rest : List ℕ) → lexemes 0 at (indented t ++ rest) ≡ spelled (moved (at + 1 + 1) t) ++ lexemes 0 (at + 1 + 1 + length (printed t) + 1) rest
line_trees t h at rest =
    space_read at (32 ∷ ((printed t ++ 10 ∷ []) ++ rest))
    ∙ space_read (at + 1) ((printed t ++ 10 ∷ []) ++ rest)
    ∙ ap (lexemes 0 (at + 1 + 1)) (append_assoc (printed t) (10 ∷ []) rest)
    ∙ tree_read t h (at + 1 + 1) (10 ∷ rest) (refl, refl)
    ∙ ap (λ ys. spelled (moved (at + 1 + 1) t) ++ ys) (feed_read (at + 1 + 1 + length (printed t)) rest)

-- a symbol with its table
abbrev defined_by : Interpretation → Symbol → DefinedSymbol
defined_by i s = record { symbol = s; table = i.table s.name }

-- the symbols of a signature with their tables
abbrev pub tables_of : Signature → Interpretation → List DefinedSymbol
tables_of g i = map (defined_by i) (symbols_in g)

-- each name is of one symbol, and of none of these
abbrev AreFresh : List Name → List Symbol → Type 0
AreFresh names [] = Unit {0}
AreFresh names (s ∷ ss) = (among names s.name ≡ false) × AreFresh (names ++ s.name ∷ []) ss

-- What is needed of a symbol to read its definition back.
record IsReadable (g : Signature) (i : Interpretation) (s : Symbol) : Type 0 where
  symbol : IsSymbolIn g s
  known : IsKnown g s
  table : IsTableOf s (i.table s.name)
  within : IsTableWithin (i.table s.name)

-- lines are read as trees, and these as the symbols' tables
record ReadsTables (g : Signature) (i : Interpretation) (symbols : List Symbol) (at : ℕ) (rest : List ℕ) : Type 0 where
  trees : Trees
  end : ℕ
  read : lexemes 0 at (flat_map (definition_line i) symbols ++ rest) ≡ spelled_all trees ++ lexemes 0 end rest
  define : (names : List Name) → AreFresh names symbols → definitions_read g names trees ≡ Ok (map (defined_by i) symbols)

lines_tables : (g : Signature) (i : Interpretation) (symbols : List Symbol) (at : ℕ) (rest : List ℕ) → AllByRecursion (IsReadable g i) symbols → ReadsTables g i symbols at rest
unfolding definitions_read
lines_tables g i [] at rest h = record { trees = none; end = at; read = refl; define = λ names fresh. refl }
lines_tables g i (s ∷ ss) at rest h =
    let t : Tree = definition_tree s (i.table s.name) in
    let others : List ℕ = flat_map (definition_line i) ss ++ rest in
    let after : ReadsTables g i ss (at + 1 + 1 + length (printed t) + 1) rest = lines_tables g i ss (at + 1 + 1 + length (printed t) + 1) rest h.1 in
    record {
      trees = more (moved (at + 1 + 1) t) after.trees;
      end = after.end;
      read = ap (lexemes 0 at) (append_assoc (definition_line i s) (flat_map (definition_line i) ss) rest)
          ∙ line_trees t (definition_words g i s h.0.symbol h.0.table) at others
          ∙ ap (λ ys. spelled (moved (at + 1 + 1) t) ++ ys) after.read
          ∙ sym (append_assoc (spelled (moved (at + 1 + 1) t)) (spelled_all after.trees) (lexemes 0 after.end rest));
      define = λ names fresh.
          joined _ _ (defined_by i s) _ (definition_is g names s (i.table s.name) h.0.symbol h.0.known fresh.0 h.0.table h.0.within (at + 1 + 1))
          (joined _ _ (map (defined_by i) ss) _ (after.define (names ++ s.name ∷ []) fresh.1) refl);
    }

-- the names of a signature's symbols
abbrev names_of : Signature → List Name
names_of g = map (λ (s : Symbol). s.name) (symbols_in g)

-- a name that is not known is none of them
none_among : (g : Signature) (n : Name) → known_as g n ≡ None → among (names_of g) n ≡ false
none_among [] n e = refl
none_among (of_sort m s ∷ ds) n e = none_among ds n e
none_among (of_function (declared f) ∷ ds) n e = go (bytes_eq f.name n) e (none_among ds n)
  where
    go : (b : Bool) → cond b (Some (declared f)) (known_as ds n) ≡ None → (known_as ds n ≡ None → among (names_of ds) n ≡ false) → (b || among (names_of ds) n) ≡ false
    go true h rest = cc
    go false h rest = rest h
none_among (of_function (defined d) ∷ ds) n e = go (bytes_eq d.name n) e (none_among ds n)
  where
    go : (b : Bool) → cond b (Some (defined d)) (known_as ds n) ≡ None → (known_as ds n ≡ None → among (names_of ds) n ≡ false) → among (names_of ds) n ≡ false
    go true h rest = cc
    go false h rest = rest h

-- so each of a sound signature is new
names_fresh : (before ds : Signature) → AreSoundAfter before ds → AreFresh (names_of before) (symbols_in ds)
names_fresh before [] h = tt
names_fresh before (of_sort m s ∷ ds) h =
    subst (λ fs. AreFresh (map (λ (f : Symbol). f.name) fs) (symbols_in ds)) (symbols_append before (of_sort m s ∷ []) ∙ append-nil (symbols_in before)) (names_fresh (before ++ of_sort m s ∷ []) ds h.1)
names_fresh before (of_function (defined d) ∷ ds) h =
    subst (λ fs. AreFresh (map (λ (f : Symbol). f.name) fs) (symbols_in ds)) (symbols_append before (of_function (defined d) ∷ []) ∙ append-nil (symbols_in before)) (names_fresh (before ++ of_function (defined d) ∷ []) ds h.1)
names_fresh before (of_function (declared f) ∷ ds) h = (
  none_among before f.name h.0,
  subst (λ ns. AreFresh ns (symbols_in ds)) (ap (λ fs. map (λ (s : Symbol). s.name) fs) (symbols_append before (of_function (declared f) ∷ [])) ∙ map-append (λ (s : Symbol). s.name) (symbols_in before) (f ∷ []))
      (names_fresh (before ++ of_function (declared f) ∷ []) ds h.1),
)

-- the table of a symbol among the definitions
among_tables : (i : Interpretation) (symbols : List Symbol) (s : Symbol) → Contains symbols s → table_among (map (defined_by i) symbols) s.name ≡ Some (i.table s.name)
among_tables i [] s c = absurd (no_member s c)
among_tables i (x ∷ xs) s c = go (bytes_eq x.name s.name) (bytes_eq-Decides x.name s.name).0 (bytes_eq-Decides x.name s.name).1 (cases x xs s c) (among_tables i xs s)
  where
    go : (b : Bool) → (b ≡ true → x.name ≡ s.name) → (x.name ≡ s.name → b ≡ true) → (x ≡ s) ⊎ Contains xs s → (Contains xs s → table_among (map (defined_by i) xs) s.name ≡ Some (i.table s.name)) → cond b (Some (i.table x.name)) (table_among (map (defined_by i) xs) s.name) ≡ Some (i.table s.name)
    go true same other c rest = ap (λ n. Some (i.table n)) (same refl)
    go false same other (inl e) rest = absurd (false≢true (other (ap (λ (f : Symbol). f.name) e)))
    go false same other (inr c) rest = rest c

nothing_read : (at : ℕ) → lexemes 0 at [] ≡ []
unfolding lexemes
nothing_read at = refl

module _ (g : Signature) (i : Interpretation) (sound : AreSound g) (p : IsPrintable i g) where
  abbrev symbols : List Symbol
  symbols = symbols_in g

  abbrev text : List ℕ
  text = model_text i symbols

  readable : All (IsReadable g i) symbols
  readable k d lt = record {
    symbol = p.symbols k d lt;
    known = found [] g sound (get_or symbols k d) (Contains-get_or symbols k d lt);
    table = p.tables k d lt;
    within = p.within k d lt;
  }

  lines : ReadsTables g i symbols (0 + 1 + 1) (41 ∷ 10 ∷ [])
  lines = lines_tables g i symbols (0 + 1 + 1) (41 ∷ 10 ∷ []) (recursion_from_All (IsReadable g i) symbols readable)

  -- the text is one list
  in_a_list : lexemes 0 0 text ≡ (0, opens) ∷ spelled_all lines.trees ++ (lines.end, closes) ∷ []
  in_a_list =
      open_read 0 (10 ∷ flat_map (definition_line i) symbols ++ 41 ∷ 10 ∷ [])
      ∙ ap (λ ys. (0, opens) ∷ ys) (feed_read (0 + 1) (flat_map (definition_line i) symbols ++ 41 ∷ 10 ∷ []) ∙ lines.read ∙ ap (λ ys. spelled_all lines.trees ++ ys) (close_read lines.end (10 ∷ []) ∙ ap (λ ys. (lines.end, closes) ∷ ys) (feed_read (lines.end + 1) [] ∙ nothing_read (lines.end + 1 + 1))))

  file_read : IsModelText text lines.trees (ends complete)
  file_read =
      let same : kept text ≡ text = take_all text_limit text (grind (arith, nat_tests, p.short)) in
      subst (λ x. AreDefinitions (length x) (behind_sat (lexemes 0 0 x)) lines.trees (ends complete)) (sym same)
      (subst (λ xs. AreDefinitions (length text) (behind_sat xs) lines.trees (ends complete)) (sym in_a_list)
      (complete, in_one_list (length text) 0 lines.end ((0, opens) ∷ spelled_all lines.trees ++ (lines.end, closes) ∷ []) lines.trees refl, refl))

  pub text_read : IsModelReading g text (Ok (tables_of g i))
  unfolding read_to_end
  text_read = record {
    definitions = lines.trees;
    ending = ends complete;
    read = file_read;
    is = sym (ap (λ b. read_to_end g (ending_fault (length text) b (ends complete)) lines.trees) p.short ∙ joined _ _ (map (defined_by i) symbols) _ (lines.define [] (names_fresh [] g sound)) refl);
  }

  -- which has the tables of the symbols
  pub same_tables : All (λ (s : Symbol). (interpretation_of g (tables_of g i)).table s.name ≡ i.table s.name) symbols
  same_tables k d lt = ap (λ o. table_or o (declared_symbol (known_as g (get_or symbols k d).name))) (among_tables i symbols (get_or symbols k d) (Contains-get_or symbols k d lt))
