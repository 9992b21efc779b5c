-- The stack of the definitions that a stack of the code represents in a table, and what commands make of it.
use Rattle.std.specs.Prelude.{◌≡◌, ℕ, true, List, [], ◌∷◌, ◌++◌, take, Result, Ok, Err}
use Rattle.spec_text.specs.Places.{IsPlaceOf}
use Rattle.spec_text.specs.Answers.{Answer}
use Rattle.spec_text.specs.Bytes.{Name}
use Rattle.spec_commands.specs.Commands.{Command, SetOption, SetInfo, Echo, Exit}
use Rattle.spec_commands.specs.Stack.{Options, Assertion, Stack, Effect, done, unsupported, check, say, leave, Taken}
use Rattle.spec_commands.specs.Stack.{signature_of, assertions_of, terms_asserted}
use Rattle.smt_lexer.specs.declared.Refused.{Refused}
use Rattle.smt_lexer.specs.declared.Refused.TheVariants as refusals
use Rattle.smt_sexpr.specs.declared.sexpr.Sexpr.{Sexpr}
use Rattle.smt_sexpr.specs.Items.{text_of}
use Rattle.term_core.specs.declared.ids.TermId.{TermId}
use Rattle.term_core.specs.declared.sorts.Sort.{Sort as TableSort}
use Rattle.term_core.specs.Tables.{TableView, AreIn, clause_at}
use Rattle.term_reader.specs.Building.{KeepsTable}
use Rattle.term_reader.specs.declared.scope.Function.{Function}
use Rattle.term_reader.specs.declared.faults.ReadError.{ReadError}
use Rattle.assertion_stack.specs.declared.options.Options.{Options as CodeOptions}
use Rattle.assertion_stack.specs.declared.stack.Stack.{Stack as CodeStack}
use Rattle.assertion_stack.specs.declared.stack.Effect.{Effect as CodeEffect}
use Rattle.assertion_stack.specs.declared.stack.Effect.TheVariants as effects
use Rattle.assertion_stack.specs.Assertions.{Written, offsets_of, texts_printed}
use Rattle.assertion_stack.specs.Views.{Fails}
use Rattle.assertion_stack.specs.declared.marks.Mark.{Mark}
use Rattle.assertion_stack.specs.Levels.{Contents, States, mark_at, closing_mark, cut_to, AreMarked}

-- the options in the words of the definitions
abbrev pub options_meant : CodeOptions → Options
options_meant o = record {
  print_success = o.print_success;
  models = o.models;
  proofs = o.proofs;
  assertions = o.assertions;
  unsat_cores = o.unsat_cores;
  unsat_assumptions = o.unsat_assumptions;
  global_declarations = o.global_declarations;
}

-- The numbers are those of the terms of what a check assumes, in their order.
pub record AreAssumed (t : TableView) (ids : List TermId) (assumptions : List Assertion) : Type 0 where
  -- the terms are in the table
  pub inside : AreIn t ids
  -- they are those of the assumptions
  pub terms : clause_at t ids ≡ terms_asserted assumptions

-- what a command answers is this, in the words of the definitions, where the table has the terms
abbrev pub EffectMeans : TableView → CodeEffect → Effect → Type 0
EffectMeans t effects.Done f = done ≡ f
EffectMeans t effects.Unsupported f = unsupported ≡ f
EffectMeans t (effects.Check at a) f =
    (assumptions : List Assertion) × (check at assumptions ≡ f) × AreAssumed t a.ids.items assumptions
    × (a.offsets.items ≡ offsets_of assumptions) × (a.texts ≡ texts_printed assumptions)
EffectMeans t (effects.Say text) f = say text.now ≡ f
EffectMeans t effects.Exit f = leave ≡ f

-- A stack of the code, and the table that has its terms.
pub record OverTable : Type 0 where
  -- the table
  pub table : TableView
  -- the stack
  pub stack : CodeStack

-- a stack with a table
abbrev pub over_table : TableView → CodeStack → OverTable
over_table t x = record { table = t; stack = x }

-- what is stated: the table, the names, and the assertions
abbrev pub contents : OverTable → Contents
contents x = record { table = x.table; scope = x.stack.scope; assertions = x.stack.assertions }

-- The stack of the definitions, under a limit, for which a stack of the code is in a table.
pub record IsStack (limit : ℕ) (x : OverTable) (s : Stack) : Type 0 where
  -- the limit
  pub limit_is : x.stack.limit ≡ limit
  -- names and assertions are those that are stated
  pub states : States (contents x) (signature_of s) (assertions_of s)
  -- each open level has its mark
  pub marked : AreMarked x.stack.marks (contents x) s
  -- the options
  pub options : options_meant x.stack.options ≡ s.options
  -- whether a command has begun it
  pub started : x.stack.started ≡ s.started

-- in a table the stack represents some stack
abbrev pub HasStack : OverTable → Type 0
HasStack x = (limit : ℕ) × (s : Stack) × IsStack limit x s

-- a name of a sort more, by a command that ends the start
abbrev pub with_sort : CodeStack → Name → TableSort → CodeStack
with_sort x n sort = record x {
  scope = record x.scope { sort_names = x.scope.sort_names ++ n ∷ []; sorts = x.scope.sorts ++ sort ∷ [] };
  started = true;
}

-- a name of a function more, by a command that ends the start
abbrev pub with_function : CodeStack → Name → Function → CodeStack
with_function x n f = record x {
  scope = record x.scope { names = x.scope.names ++ n ∷ []; functions = x.scope.functions ++ f ∷ [] };
  started = true;
}

-- an asserted term more, and how it is written, by a command that ends the start
abbrev pub with_asserted : CodeStack → TermId → Written → CodeStack
with_asserted x id w = record x {
  assertions = record x.assertions { ids = x.assertions.ids ++ id ∷ []; written = x.assertions.written ++ w ∷ [] };
  started = true;
}

-- what there is up to a mark, with so many levels open at most
abbrev pub cut_back : ℕ → Mark → OverTable → OverTable
cut_back k m x = back (cut_to m (contents x))
  where
    back : Contents → OverTable
    back c = over_table c.table
        (record x.stack { scope = c.scope; assertions = c.assertions; marks = take k x.stack.marks })

-- how much stays of each list up to a level, 0 for the first one, where there is one above it
abbrev pub level_mark : ℕ → OverTable → Mark
level_mark k x = closing_mark x.stack.options.global_declarations (mark_at x.stack.marks k) (contents x)

-- what stays up to that level
abbrev pub closed_to : ℕ → OverTable → OverTable
closed_to k x = cut_back k (level_mark k x) x

-- what a command answers and leaves, or its fault, unless memory ran out
abbrev pub Performs : ℕ → Answer Taken → OverTable → Result CodeEffect ReadError → Type 0
Performs limit left new (Ok e) =
    (d : Taken) × (left ≡ Ok d) × EffectMeans new.table e d.effect × IsStack limit new d.stack
Performs limit left new (Err stop) = Fails stop left

-- what the command of an s-expression answers and leaves, or its first fault with its place in the text, unless memory
-- ran out
abbrev pub Steps : ℕ → Answer Taken → Sexpr → OverTable → Result CodeEffect Refused → Type 0
Steps limit left x new (Ok e) =
    (d : Taken) × (left ≡ Ok d) × EffectMeans new.table e d.effect × IsStack limit new d.stack
Steps limit left x new (Err (refusals.Fault r)) =
    (left ≡ Err (record { offset = r.place.offset; fault = r.fault })) × IsPlaceOf (text_of x) r.place
Steps limit left x new (Err refusals.Memory) = Unit {0}

-- a check changes of the stack no more than that it ends the start, and of the table that it may have terms more
abbrev pub KeepsAtCheck : {E : Type 0} → Result CodeEffect E → OverTable → OverTable → Type 0
KeepsAtCheck (Ok (effects.Check at a)) old new =
    KeepsTable old.table new.table × (new.stack ≡ record old.stack { started = true })
KeepsAtCheck _ old new = Unit {0}

-- a command that states nothing leaves the table
abbrev pub KeepsTableAt : Answer Command → TableView → TableView → Type 0
KeepsTableAt (Ok (SetOption k v)) old new = new ≡ old
KeepsTableAt (Ok SetInfo) old new = new ≡ old
KeepsTableAt (Ok (Echo text)) old new = new ≡ old
KeepsTableAt (Ok Exit) old new = new ≡ old
KeepsTableAt _ old new = Unit {0}
