-- What a table and a stack hold, what names and assertions it states, and how much of it there was when a level was
-- opened.
use Rattle.std.specs.Prelude.{◌≡◌, ◌≤◌, ◌<◌, ℕ, max, Bool, true, false, List, length, take, slice_index_or, All}
use Rattle.std.specs.Prelude.{None}
use Rattle.spec_text.specs.Bytes.{Name, among}
use Rattle.spec_sorts.specs.Signatures.{Signature, symbols_in, sort_as}
use Rattle.spec_commands.specs.Stack.{Assertion, Stack, signature_of, assertions_of, terms_asserted, levels_open}
use Rattle.spec_commands.specs.Stack.{up_to_level}
use Rattle.spec_commands.specs.Kept.{AreLeveled}
use Rattle.term_core.specs.declared.ids.TermId.{TermId}
use Rattle.term_core.specs.Tables.{TableView, AreIn, clause_at}
use Rattle.term_core.specs.Uses.{UsesDeclared}
use Rattle.term_reader.specs.Scopes.{ScopeView, ScopeMeans, terms_needed}
use Rattle.assertion_stack.specs.declared.marks.Mark.{Mark}
use Rattle.assertion_stack.specs.Assertions.{AssertionsView, all_written}

-- What the code holds of what a script has stated.
pub record Contents : Type 0 where
  -- the table
  pub table : TableView
  -- the names
  pub scope : ScopeView
  -- the assertions
  pub assertions : AssertionsView

-- What the code holds represents a signature and assertions.
pub record States (c : Contents) (g : Signature) (asserted : List Assertion) : Type 0 where
  -- names stand for what is declared and defined
  pub scope : ScopeMeans c.table c.scope g
  -- the table's symbols are those that are declared
  pub symbols : c.table.symbols ≡ symbols_in g
  -- each of its sorts has its name
  pub sorts : (n : Name) → sort_as g n ≡ None → among c.table.sorts n ≡ false
  -- the asserted terms are in the table
  pub inside : AreIn c.table c.assertions.ids
  -- they are those of the assertions
  pub terms : clause_at c.table c.assertions.ids ≡ terms_asserted asserted
  -- they are written as they are in the script
  pub written : c.assertions.written ≡ all_written asserted

-- how much there is of each list
abbrev pub mark_of : Contents → Mark
mark_of c = record {
  sort_names = length c.scope.sort_names;
  names = length c.scope.names;
  sorts = length c.table.sorts;
  symbols = length c.table.symbols;
  terms = length c.table.terms;
  assertions = length c.assertions.ids;
}

-- what no level's place means
abbrev pub no_mark : Mark
no_mark = record { sort_names = 0; names = 0; sorts = 0; symbols = 0; terms = 0; assertions = 0 }

-- what there was below the level above one, 0 for the first one
abbrev pub mark_at : List Mark → ℕ → Mark
mark_at marks k = slice_index_or marks k no_mark

-- how much stays of each list where declarations are global and levels are closed: all names, the assertions up to a
-- mark, and the terms up to it and up to the last one that a definition needs
abbrev pub global_mark : Mark → Contents → Mark
global_mark m c = record (mark_of c) {
  terms = max m.terms (terms_needed (length c.table.terms) c.scope.functions);
  assertions = m.assertions;
}

-- how much stays of each list where levels are closed, whether declarations are global or not
abbrev pub closing_mark : Bool → Mark → Contents → Mark
closing_mark true m c = global_mark m c
closing_mark false m c = m

-- so much of each list, its oldest
abbrev pub cut_to : Mark → Contents → Contents
cut_to m c = record {
  table = record {
    sorts = take m.sorts c.table.sorts;
    symbols = take m.symbols c.table.symbols;
    terms = take m.terms c.table.terms;
  };
  scope = record {
    sort_names = take m.sort_names c.scope.sort_names;
    sorts = take m.sort_names c.scope.sorts;
    names = take m.names c.scope.names;
    functions = take m.names c.scope.functions;
  };
  assertions = record {
    ids = take m.assertions c.assertions.ids;
    written = take m.assertions c.assertions.written;
  };
}

-- There is no more of any list.
pub record IsWithin (m n : Mark) : Type 0 where
  -- of names of sorts
  pub sort_names : m.sort_names ≤ n.sort_names
  -- of names of functions
  pub names : m.names ≤ n.names
  -- of declared sorts
  pub sorts : m.sorts ≤ n.sorts
  -- of declared symbols
  pub symbols : m.symbols ≤ n.symbols
  -- of terms
  pub terms : m.terms ≤ n.terms
  -- of assertions
  pub assertions : m.assertions ≤ n.assertions

-- What the code holds up to a mark is what is stated up to a level.
pub record HasLevel (m : Mark) (c : Contents) (s : Stack) : Type 0 where
  -- what terms and symbols use is declared among it
  pub uses : UsesDeclared (cut_to m c).table
  -- it represents names and assertions
  pub states : States (cut_to m c) (signature_of s) (assertions_of s)

-- The assertions up to a mark are those up to a level.
pub record HasAssertions (m : Mark) (c : Contents) (s : Stack) : Type 0 where
  -- there are as many
  pub count : length (assertions_of s) ≡ m.assertions
  -- their terms are among those up to the mark
  pub inside : All (λ (id : TermId). id.0 < m.terms) (take m.assertions c.assertions.ids)

-- Each open level has a mark: what there was when it was opened.
pub record AreMarked (marks : List Mark) (c : Contents) (s : Stack) : Type 0 where
  -- names belong to levels that are there
  pub leveled : AreLeveled s
  -- as many marks as levels are open
  pub count : length marks ≡ levels_open s.levels
  -- up to a mark there is what is stated up to the level below it, unless declarations are global
  pub below : s.options.global_declarations ≡ false → (k : ℕ) → k < length marks
      → HasLevel (mark_at marks k) c (up_to_level k s)
  -- what is asserted up to that level there is in each case
  pub asserted : (k : ℕ) → k < length marks → HasAssertions (mark_at marks k) c (up_to_level k s)
  -- no less is there now
  pub within : (k : ℕ) → k < length marks → IsWithin (mark_at marks k) (mark_of c)
  -- and no less at later marks
  pub rising : (j k : ℕ) → j < k → k < length marks → IsWithin (mark_at marks j) (mark_at marks k)
