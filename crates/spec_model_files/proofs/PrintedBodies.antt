-- What is printed of a table within the bounds is read as that table, and what is printed of a symbol as its definition.
use Rattle.std.proofs.Common.{◌≡◌, ◌≢◌, ℕ, suc, ◌+◌, ◌≤◌, Bool, true, false, cond, ℤ, pos, negsuc, List, [], ◌∷◌, ◌++◌, length, drop, refl, sym, ap, ◌∙◌, arith}
use Rattle.std.specs.Prelude.{codes, not, nat_eq, ◌==◌, Ok}
use Rattle.std.specs.Str.{bytes_eq}
use Rattle.std.specs.List.{AllByRecursion}
use Rattle.std.proofs.lemmas.Bool.Decides.{Decides-eqb}
use Rattle.std.proofs.lemmas.List.Elements.{recursion_from_All}
use Rattle.std.proofs.lemmas.Slice.Eq.{bytes_eq-Decides}
use Rattle.spec_text.specs.declared.Kind.TheVariants.{Simple, Quoted}
use Rattle.spec_text.specs.Bytes.{Name, among}
use Rattle.spec_text.specs.Answers.{◌>>=◌}
use Rattle.spec_text.specs.Trees.{Tree, atom, list, none, more}
use Rattle.spec_text.specs.Printed.{printed}
use Rattle.spec_text.proofs.AnswerLaws.{joined}
use Rattle.spec_text.proofs.General.{bytes_itself, among_last}
use Rattle.spec_text.proofs.Printing.{kind_of, moved, moved_all}
use Rattle.spec_sorts.specs.Numerals.{number_after}
use Rattle.spec_sorts.specs.Terms.{Sort, Symbol}
use Rattle.spec_sorts.specs.Values.{Value, truth, number, element, HasSort, HaveSorts, TableRow, Table, IsRowOf, IsTableOf}
use Rattle.spec_sorts.specs.Signatures.{Signature}
use Rattle.spec_models.specs.Values.{trees_of, in_list, word_tree, whole_tree, numeral_tree, sort_tree, value_tree}
use Rattle.spec_models.specs.Models.{parameter, parameters_from, parameters_of, parameter_trees, equality_tree, equality_trees, condition_tree, body_tree, definition_tree}
use Rattle.spec_models.specs.Meaning.{IsSortIn, IsSymbolIn}
use Rattle.spec_models.proofs.Numerals.{numeral_number}
use Rattle.spec_model_files.specs.declared.ModelKind.TheVariants.{BadShape, UnknownSymbol, Twice, WrongSort}
use Rattle.spec_model_files.specs.Faults.{require, found_or}
use Rattle.spec_model_files.specs.Values.{value_read}
use Rattle.spec_model_files.specs.Bodies.{tree_count, Parameters, equality_read, equalities_read, condition_read, with_row, everywhere, body_read}
use Rattle.spec_model_files.specs.Definitions.{declared_symbol, defined_name, parameter_read, parameters_read, parameter_list_read, definition_read}
use Rattle.spec_model_files.specs.Limits.{IsValueWithin, IsRowWithin, IsTableWithin}
use Rattle.spec_model_files.proofs.Sorted.{IsKnown}
use Rattle.spec_model_files.proofs.PrintedValues.{quoted_read, sort_itself_read, printed_value_read}

-- a test that passes
passed : (b : Bool) (at : ℕ) → b ≡ true → require b at BadShape ≡ Ok tt
unfolding require
passed b at e = ap (λ c. require c at BadShape) e

-- trees are as many when they are read
count_moved : (at : ℕ) (ts : List Tree) → tree_count (moved_all at (trees_of ts)) ≡ length ts
count_moved at [] = refl
count_moved at (t ∷ ts) = ap suc (count_moved (at + length (printed t) + 1) ts)

equalities_many : (k : ℕ) (ss : List Sort) (args : List Value) → HaveSorts ss args → length (equality_trees k args) ≡ length (parameters_from k ss)
equalities_many k [] [] h = refl
equalities_many k [] (a ∷ args) h = absurd h
equalities_many k (s ∷ ss) [] h = absurd h
equalities_many k (s ∷ ss) (a ∷ args) h = ap suc (equalities_many (suc k) ss args h.1)

-- parameters of other numbers have other names
other_parameter : (j k : ℕ) → j ≢ k → bytes_eq (parameter j) (parameter k) ≡ false
other_parameter j k other = go (bytes_eq (parameter j) (parameter k)) (bytes_eq-Decides (parameter j) (parameter k)).0
  where
    go : (c : Bool) → (c ≡ true → parameter j ≡ parameter k) → c ≡ false
    go true same = absurd (other (sym (numeral_number j) ∙ ap (λ (n : Name). number_after 0 (drop 2 n)) (same refl) ∙ numeral_number k))
    go false same = refl

module _ (g : Signature) where
  -- a parameter is equal to a value
  equality_is : (k : ℕ) (s : Sort) (v : Value) → IsSortIn g s → HasSort s v → IsValueWithin v → (at : ℕ) → equality_read g (parameter k, s) (moved at (equality_tree k v)) ≡ Ok v
  unfolding equality_read
  equality_is k s v d h w at =
      joined _ _ tt _ (passed true at refl)
      (joined _ _ tt _ (passed (bytes_eq (parameter k) (parameter k)) _ (bytes_itself (parameter k)))
      (printed_value_read g s v d h w _))

  equalities_are : (k : ℕ) (ss : List Sort) (args : List Value) → AllByRecursion (IsSortIn g) ss → HaveSorts ss args → AllByRecursion IsValueWithin args → (at : ℕ) → equalities_read g (parameters_from k ss) (moved_all at (trees_of (equality_trees k args))) ≡ Ok args
  unfolding equalities_read
  equalities_are k [] [] d h w at = refl
  equalities_are k [] (a ∷ args) d h w at = absurd h
  equalities_are k (s ∷ ss) [] d h w at = absurd h
  equalities_are k (s ∷ ss) (a ∷ args) d h w at =
      joined _ _ a _ (equality_is k s a d.0 h.0 w.0 at)
      (joined _ _ args _ (equalities_are (suc k) ss args d.1 h.1 w.1 _) refl)

  -- the condition of a row
  condition_is : (ss : List Sort) (args : List Value) → ss ≢ [] → AllByRecursion (IsSortIn g) ss → HaveSorts ss args → AllByRecursion IsValueWithin args → (at : ℕ) → condition_read g (parameters_from 0 ss) (moved at (condition_tree args)) ≡ Ok args
  unfolding condition_read
  condition_is [] args some d h w at = absurd (some refl)
  condition_is (s ∷ ss) [] some d h w at = absurd h
  condition_is (s ∷ []) (a ∷ []) some d h w at = joined _ _ a _ (equality_is 0 s a d.0 h.0 w.0 at) refl
  condition_is (s ∷ []) (a ∷ b ∷ args) some d h w at = absurd h.1
  condition_is (s ∷ r ∷ ss) (a ∷ []) some d h w at = absurd h.1
  condition_is (s ∷ r ∷ ss) (a ∷ b ∷ args) some d h w at =
      joined _ _ tt _ (passed (tree_count (moved_all _ (trees_of (equality_trees 0 (a ∷ b ∷ args)))) == length (parameters_from 0 (s ∷ r ∷ ss))) at
      ((Decides-eqb _ _).1 (count_moved _ (equality_trees 0 (a ∷ b ∷ args)) ∙ equalities_many 0 (s ∷ r ∷ ss) (a ∷ b ∷ args) h)))
      (equalities_are 0 (s ∷ r ∷ ss) (a ∷ b ∷ args) d h w _)

  -- the text of a value has no rows
  abbrev IsPlain : Parameters → Sort → Tree → Type 0
  IsPlain ps s t = body_read g ps s t ≡ (value_read g s t >>= λ v. Ok (everywhere v))

  bare_plain : (s : Sort) (t : Tree) → IsPlain [] s t
  unfolding body_read
  bare_plain s t = refl

  whole_plain : (p : Name × Sort) (ps : Parameters) (s : Sort) (z : ℤ) (at : ℕ) → IsPlain (p ∷ ps) s (moved at (whole_tree z))
  unfolding body_read
  whole_plain p ps s (pos n) at = refl
  whole_plain p ps s (negsuc n) at = refl

  value_plain : (ps : Parameters) (s : Sort) (v : Value) (at : ℕ) → IsPlain ps s (moved at (value_tree v))
  unfolding body_read
  value_plain [] s v at = bare_plain s _
  value_plain (p ∷ ps) s (truth true) at = refl
  value_plain (p ∷ ps) s (truth false) at = refl
  value_plain (p ∷ ps) s (element n k) at = refl
  value_plain (p ∷ ps) s (number q) at = go (nat_eq q.den 1)
    where
      go : (c : Bool) → IsPlain (p ∷ ps) s (moved at (cond c (whole_tree q.num) (in_list (word_tree (codes "/") ∷ whole_tree q.num ∷ numeral_tree q.den ∷ []))))
      go true = whole_plain p ps s q.num at
      go false = refl

  -- a row before a table
  row_is : (ps : Parameters) (s : Sort) (c v others : Tree) (arguments : List Value) (value : Value) (table : Table) → ps ≢ [] → condition_read g ps c ≡ Ok arguments → value_read g s v ≡ Ok value → body_read g ps s others ≡ Ok table
      → (at a end : ℕ) → body_read g ps s (list at (more (atom a Simple (codes "ite")) (more c (more v (more others none)))) end) ≡ Ok (with_row arguments value table)
  unfolding body_read
  row_is [] s c v others arguments value table some x y z at a end = absurd (some refl)
  row_is (p ∷ ps) s c v others arguments value table some x y z at a end = joined _ _ tt _ (passed true at refl) (joined _ _ arguments _ x (joined _ _ value _ y (joined _ _ table _ z refl)))

  no_parameter : (k : ℕ) (ss : List Sort) → parameters_from k ss ≡ [] → ss ≡ []
  no_parameter k [] e = refl
  no_parameter k (s ∷ ss) e = cc

  -- a body
  body_is : (f : Symbol) (rows : List TableRow) (default : Value) → AllByRecursion (IsSortIn g) f.parameters → IsSortIn g f.result → (f.parameters ≡ [] → rows ≡ []) → AllByRecursion (IsRowOf f) rows → HasSort f.result default → AllByRecursion IsRowWithin rows → IsValueWithin default
      → (at : ℕ) → body_read g (parameters_of f) f.result (moved at (body_tree rows default)) ≡ Ok (record { rows = rows; default = default })
  body_is f [] default d r bare h k w x at = value_plain (parameters_of f) f.result default at ∙ joined _ _ default _ (printed_value_read g f.result default r k x at) refl
  body_is f (row ∷ rows) default d r bare h k w x at =
      let some : f.parameters ≢ [] = λ e. let never : row ∷ rows ≡ [] = bare e in cc in
      row_is (parameters_of f) f.result _ _ _ row.arguments row.value (record { rows = rows; default = default }) (λ e. some (no_parameter 0 f.parameters e))
      (condition_is f.parameters row.arguments some d h.0.arguments (recursion_from_All IsValueWithin row.arguments w.0.arguments) _)
      (printed_value_read g f.result row.value r h.0.value w.0.value _)
      (body_is f rows default d r (λ e. absurd (some e)) h.1 k w.1 x _) at _ _

  -- the symbol that a definition is for
  symbol_is : (names : List Name) (f : Symbol) → IsKnown g f → among names f.name ≡ false → (at : ℕ) → defined_name g names (atom at (kind_of Quoted f.name) f.name) ≡ Ok f
  unfolding defined_name found_or require
  symbol_is names f known new at =
      joined _ _ _ _ (quoted_read f.name at)
      (joined _ _ f _ (ap (λ o. found_or (declared_symbol o) at UnknownSymbol) known)
      (joined _ _ tt _ (ap (λ b. require (not b) at Twice) new) refl))

  -- its parameters: each has a name that none before it has
  abbrev AreFree : ℕ → List Name → Type 0
  AreFree k names = (j : ℕ) → k ≤ j → among names (parameter j) ≡ false

  parameter_is : (k : ℕ) (s : Sort) (names : List Name) → IsSortIn g s → among names (parameter k) ≡ false → (at : ℕ) → parameter_read g names s (moved at (in_list (word_tree (parameter k) ∷ sort_tree s ∷ []))) ≡ Ok (parameter k)
  unfolding parameter_read require
  parameter_is k s names h new at =
      joined _ _ _ _ refl
      (joined _ _ tt _ (ap (λ b. require (not b) (at + 1) Twice) new)
      (joined _ _ tt _ (sort_itself_read g s h _) refl))

  parameters_are : (k : ℕ) (ss : List Sort) (names : List Name) → AllByRecursion (IsSortIn g) ss → AreFree k names → (at : ℕ) → parameters_read g names ss (moved_all at (trees_of (parameter_trees (parameters_from k ss)))) ≡ Ok (parameters_from k ss)
  unfolding parameters_read
  parameters_are k [] names h free at = refl
  parameters_are k (s ∷ ss) names h free at =
      joined _ _ (parameter k) _ (parameter_is k s names h.0 (free k (omega arith)) at)
      (joined _ _ (parameters_from (suc k) ss) _ (parameters_are (suc k) ss (names ++ parameter k ∷ []) h.1 (λ j le. among_last names (parameter k) (parameter j) (free j (omega (arith, le))) (other_parameter k j (λ same. omega (arith, le, same)))) _) refl)

  parameters_many : (k : ℕ) (ss : List Sort) → length (parameter_trees (parameters_from k ss)) ≡ length ss
  parameters_many k [] = refl
  parameters_many k (s ∷ ss) = ap suc (parameters_many (suc k) ss)

  list_is : (ss : List Sort) → AllByRecursion (IsSortIn g) ss → (at : ℕ) → parameter_list_read g ss (moved at (in_list (parameter_trees (parameters_from 0 ss)))) ≡ Ok (parameters_from 0 ss)
  unfolding parameter_list_read require
  list_is ss h at =
      joined _ _ tt _ (ap (λ b. require b at WrongSort) ((Decides-eqb _ _).1 (count_moved (at + 1) (parameter_trees (parameters_from 0 ss)) ∙ parameters_many 0 ss)))
      (parameters_are 0 ss [] h (λ j le. refl) (at + 1))

  -- a definition
  pub definition_is : (names : List Name) (f : Symbol) (t : Table) → IsSymbolIn g f → IsKnown g f → among names f.name ≡ false → IsTableOf f t → IsTableWithin t → (at : ℕ) → definition_read g names (moved at (definition_tree f t)) ≡ Ok (record { symbol = f; table = t })
  unfolding definition_read require
  definition_is names f t is known new h w at =
      let parameters = recursion_from_All (IsSortIn g) f.parameters is.parameters in
      joined _ _ tt _ refl
      (joined _ _ f _ (symbol_is names f known new _)
      (joined _ _ (parameters_of f) _ (list_is f.parameters parameters _)
      (joined _ _ tt _ (sort_itself_read g f.result is.result _)
      (joined _ _ t _ (body_is f t.rows t.default parameters is.result h.bare (recursion_from_All (IsRowOf f) t.rows h.rows) h.default (recursion_from_All IsRowWithin t.rows w.rows) w.default _) refl))))
