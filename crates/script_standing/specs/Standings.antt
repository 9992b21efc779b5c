-- What a check asks about, by the numbers of terms and the offsets of expressions.
use Rattle.std.specs.Prelude.{◌≡◌, ◌++◌, ℕ, List, map, Option, Some, None, Result, Ok, Err}
use Rattle.no_memory.specs.declared.NoMemory.{NoMemory}
use Rattle.spec_sorts.specs.Signatures.{symbols_in}
use Rattle.spec_commands.specs.Stack.{signature_of, terms_asserted}
use Rattle.spec_commands.specs.Checks.{Check, asked, term_limit, IsCurrent, HasNoCheck}
use Rattle.term_core.specs.declared.ids.TermId.{TermId}
use Rattle.term_core.specs.Tables.{AreIn, clause_at}
use Rattle.term_reader.specs.Scopes.{ScopeMeans}
use Rattle.assertion_stack.specs.declared.assuming.Assumed.{Assumed}
use Rattle.assertion_stack.specs.declared.stack.Stack.{Stack}
use Rattle.assertion_stack.specs.Assertions.{Written, offsets_of}
use Rattle.script_standing.specs.declared.standing.Expression.{Expression}
use Rattle.script_standing.specs.declared.standing.Standing.{Standing}

-- the numbers of the terms of expressions
abbrev pub terms_of : List Expression → List TermId
terms_of es = map (λ (e : Expression). e.term) es

-- where expressions begin
abbrev pub starts_of : List Expression → List ℕ
starts_of es = map (λ (e : Expression). e.at) es

-- Expressions with these numbers and offsets come after those that were there.
pub record AddsExpressions (old : List Expression) (ids : List TermId) (offsets : List ℕ) (new : List Expression)
    : Type 0 where
  -- the numbers
  pub terms : terms_of new ≡ terms_of old ++ ids
  -- the offsets
  pub starts : starts_of new ≡ starts_of old ++ offsets

-- what a stack has, and after it what a check assumes
pub record AreAsked (stack : Stack) (assumed : Assumed) (es : List Expression) : Type 0 where
  -- the numbers
  pub terms : terms_of es ≡ stack.assertions.ids ++ assumed.ids.items
  -- the offsets
  pub starts : starts_of es ≡ map (λ (w : Written). w.at) stack.assertions.written ++ assumed.offsets.items

-- What the k-th check of a text asks about is this.
pub record Stands (text : List ℕ) (k : ℕ) (s : Standing) : Type 0 where
  -- what is current there
  pub check : Check
  -- it is that of the text
  pub current : IsCurrent term_limit text k check
  -- the names stand for what is declared and defined there
  pub scope : ScopeMeans s.table s.scope (signature_of check.stack)
  -- the table's symbols are those that are declared
  pub symbols : s.table.symbols ≡ symbols_in (signature_of check.stack)
  -- the terms are in the table
  pub inside : AreIn s.table (terms_of s.expressions.items)
  -- they are those of what is asked
  pub terms : clause_at s.table (terms_of s.expressions.items) ≡ terms_asserted (asked check)
  -- each begins where it is in the script
  pub starts : starts_of s.expressions.items ≡ offsets_of (asked check)

-- what the k-th check asks about; or there is no such check; of memory that ran out nothing is stated
abbrev pub StandsAt : List ℕ → ℕ → Result (Option Standing) NoMemory → Type 0
StandsAt text k (Ok (Some s)) = Stands text k s
StandsAt text k (Ok None) = HasNoCheck term_limit text k
StandsAt text k (Err e) = Unit {0}
