-- What is after commands, and what they answer. Source: SMT-LIB 2.6, sections 4.1.4 and 4.2; the order of faults and
-- the limits are own.
use Rattle.std.specs.Prelude.{ℕ, suc, ◌+◌, ◌-◌, Bool, true, false, not, List, [], ◌∷◌, ◌++◌, map, take, replicate}
use Rattle.std.specs.Prelude.{Option, Some, None, Ok, codes, if◌then◌else◌, nat_le}
use Rattle.std.specs.List.{filter}
use Rattle.std.specs.Str.{bytes_eq}
use Rattle.spec_text.specs.declared.Fault.TheVariants.{BadShape, Reserved, UnknownLogic, PopTooFar}
use Rattle.spec_text.specs.declared.Fault.TheVariants.{WrongMode, Full}
use Rattle.spec_text.specs.Bytes.{Name, among}
use Rattle.spec_text.specs.Shapes.{is_symbol, is_reserved}
use Rattle.spec_text.specs.Answers.{Answer, ◌>>=◌, refused, require}
use Rattle.spec_text.specs.Trees.{Tree, Trees, atom, list, none, more, offset_of}
use Rattle.spec_sorts.specs.Terms.{Truth, Declared, Term}
use Rattle.spec_sorts.specs.Signatures.{Definition, Declaration, of_sort, of_function, declared, Signature, definition}
use Rattle.spec_reading.specs.Names.{script, new_name, is_function, is_sort}
use Rattle.spec_reading.specs.Sorts.{sort_in, sorts_in}
use Rattle.spec_reading.specs.Reading.{reading_of_sort}
use Rattle.spec_reading.specs.Definitions.{definitions_in}
use Rattle.spec_sorts.specs.Subterms.{has_room}
use Rattle.spec_commands.specs.Commands.{Command, SetLogic, SetOption, SetInfo, DeclareSort, DefineSort, DeclareFun}
use Rattle.spec_commands.specs.Commands.{DefineFun, Assert, Push, Pop, CheckSat, CheckSatAssuming}
use Rattle.spec_commands.specs.Commands.{ResetAssertions, Reset, Echo, Exit, command_of}
use Rattle.spec_commands.specs.Literals.{literal_in}

-- An asserted expression: its text, and the term that it is read as.
pub record Assertion : Type 0 where
  -- the text as it is in the script
  pub text : Tree
  -- the term that it is read as
  pub term : Term

-- A declaration, and the level that it belongs to, or none where it is global. Source: SMT-LIB 2.6, section 4.1.7.
pub record ScopedDeclaration : Type 0 where
  -- the number of levels that were open when it was made: 0 at the first one
  pub level : Option ℕ
  -- what is declared
  pub declaration : Declaration

-- The options that are known. Source: SMT-LIB 2.6, section 4.1.7.
pub record Options : Type 0 where
  -- `:print-success`: whether commands that were taken are answered
  pub print_success : Bool
  -- `:produce-models`
  pub models : Bool
  -- `:produce-proofs`
  pub proofs : Bool
  -- `:produce-assertions`
  pub assertions : Bool
  -- `:produce-unsat-cores`
  pub unsat_cores : Bool
  -- `:produce-unsat-assumptions`
  pub unsat_assumptions : Bool
  -- `:global-declarations`: whether what is declared and defined belongs to no level
  pub global_declarations : Bool

-- What commands leave.
pub record Stack : Type 0 where
  -- what is declared and defined, in its order, each with its level
  pub names : List ScopedDeclaration
  -- the assertions of each level, in their order: the first level, and after it each that is open
  pub levels : List (List Assertion)
  -- the options
  pub options : Options
  -- whether a command has set the logic or come without one
  pub started : Bool

-- nothing declared, nothing asserted, and the options as they are at first
abbrev pub empty_stack : Stack
empty_stack = record {
  names = [];
  levels = [] ∷ [];
  options = record {
    print_success = true;
    models = false;
    proofs = false;
    assertions = false;
    unsat_cores = false;
    unsat_assumptions = false;
    global_declarations = false;
  };
  started = false;
}

-- all that is declared and defined, in its order
abbrev pub signature_of : Stack → Signature
signature_of s = map (λ (e : ScopedDeclaration). e.declaration) s.names

-- lists one after the other
abbrev pub joined : {A : Type 0} → List (List A) → List A
joined [] = []
joined (xs ∷ rest) = xs ++ joined rest

-- the current assertions, the oldest first
abbrev pub assertions_of : Stack → List Assertion
assertions_of s = joined s.levels

-- the terms of assertions, in their order
abbrev pub terms_asserted : List Assertion → List Term
terms_asserted assertions = map (λ (a : Assertion). a.term) assertions

-- how many levels are open above the first one
abbrev pub levels_open : List (List Assertion) → ℕ
levels_open [] = 0
levels_open (l ∷ []) = 0
levels_open (l ∷ m ∷ ls) = suc (levels_open (m ∷ ls))

-- one assertion more at the last level
abbrev pub with_last : List (List Assertion) → Assertion → List (List Assertion)
with_last [] a = (a ∷ []) ∷ []
with_last (l ∷ []) a = (l ++ a ∷ []) ∷ []
with_last (l ∷ m ∷ ls) a = l ∷ with_last (m ∷ ls) a

-- the stack after a command that ends the start
abbrev pub begun : Stack → Stack
begun s = record s { started = true }

-- the level of what is declared now: the last one, or none where declarations are global
abbrev pub level_now : Stack → Option ℕ
level_now s = if s.options.global_declarations then None else Some (levels_open s.levels)

-- a declaration more
abbrev pub with_declaration : Stack → Declaration → Stack
with_declaration s d = record s { names = s.names ++ record { level = level_now s; declaration = d } ∷ [] }

-- definitions more
abbrev pub with_definitions : Stack → List Definition → Stack
with_definitions s [] = s
with_definitions s (d ∷ ds) = with_definitions (with_declaration s (definition d)) ds

-- an assertion more, at the last level
abbrev pub with_assertion : Stack → Tree → Term → Stack
with_assertion s t u = record s { levels = with_last s.levels (record { text = t; term = u }) }

-- how many levels may be open above the first one
abbrev pub level_limit : ℕ
level_limit = 1000000

-- so many levels more, each without assertions
abbrev pub with_levels : ℕ → Stack → Stack
with_levels n s = record s { levels = s.levels ++ replicate n [] }

-- whether what belongs to a level is there up to another one; what is global is there up to each
abbrev pub is_up_to : ℕ → Option ℕ → Bool
is_up_to k None = true
is_up_to k (Some l) = nat_le l k

-- the stack up to a level, 0 for the first one: those above it are closed, with what was asserted at them, and what was
-- declared and defined at them and is not global
abbrev pub up_to_level : ℕ → Stack → Stack
up_to_level k s = record s {
  names = filter (λ (e : ScopedDeclaration). is_up_to k e.level) s.names;
  levels = take (suc k) s.levels;
}

-- whether what has this level is global
abbrev pub is_global : Option ℕ → Bool
is_global None = true
is_global (Some l) = false

-- nothing asserted, and nothing declared but what is global; the options stay, and so does the start
abbrev pub emptied : Stack → Stack
emptied s = record s {
  names = filter (λ (e : ScopedDeclaration). is_global e.level) s.names;
  levels = [] ∷ [];
}

-- the logics that may be set; all have one language. Source: SMT-LIB 2.6, section 4.2.1, and the names of SMT-LIB's
-- logics.
abbrev pub logics : List Name
logics = codes "QF_UFLRA" ∷ codes "QF_UF" ∷ codes "QF_LRA" ∷ codes "QF_RDL" ∷ codes "ALL" ∷ []

-- a truth value as it is written for an option
abbrev pub truth_named : Name → Option Bool
truth_named n = if bytes_eq n (codes "true") then Some true else if bytes_eq n (codes "false") then Some false else None

-- a symbol's truth value
abbrev pub truth_if : Bool → Name → Option Bool
truth_if true n = truth_named n
truth_if false n = None

-- the truth value of a text
abbrev pub truth_in : Tree → Option Bool
truth_in (atom at k n) = truth_if (is_symbol k) n
truth_in (list at ts end) = None

-- The names of the options that are known.
pub data Key : Type 0 where
  -- `print-success`, `produce-models`, `produce-proofs`, `produce-assertions`
  success_key models_key proofs_key assertions_key : Key
  -- `produce-unsat-cores`, `produce-unsat-assumptions`, `global-declarations`
  cores_key assumptions_key global_key : Key

-- which name is which
abbrev pub key_named : Name → Option Key
key_named n =
    if bytes_eq n (codes "print-success") then Some success_key
    else if bytes_eq n (codes "produce-models") then Some models_key
    else if bytes_eq n (codes "produce-proofs") then Some proofs_key
    else if bytes_eq n (codes "produce-assertions") then Some assertions_key
    else if bytes_eq n (codes "produce-unsat-cores") then Some cores_key
    else if bytes_eq n (codes "produce-unsat-assumptions") then Some assumptions_key
    else if bytes_eq n (codes "global-declarations") then Some global_key
    else None

-- the options with one of them set
abbrev pub with_option : Key → Bool → Options → Options
with_option success_key b o = record o { print_success = b }
with_option models_key b o = record o { models = b }
with_option proofs_key b o = record o { proofs = b }
with_option assertions_key b o = record o { assertions = b }
with_option cores_key b o = record o { unsat_cores = b }
with_option assumptions_key b o = record o { unsat_assumptions = b }
with_option global_key b o = record o { global_declarations = b }

-- whether an option may be set now: whether declarations are global is settled at the start
abbrev pub may_set : Key → Stack → Bool
may_set global_key s = not s.started
may_set k s = true

-- What is answered to a command that is not refused.
pub data Effect : Type 0 where
  -- it is done; its option is not known
  done unsupported : Effect
  -- a check is asked for by the word at an offset, with these assumptions
  check : ℕ → List Assertion → Effect
  -- a text is to be written, without its quotes
  say : List ℕ → Effect
  -- the script ends
  leave : Effect

-- A command that was taken: what it answers, and what it leaves.
pub record Taken : Type 0 where
  -- the answer
  pub effect : Effect
  -- what is after it
  pub stack : Stack

-- what is done, with what it leaves
abbrev pub did : Stack → Taken
did s = record { effect = done; stack = s }

-- an option set to a value: one that is not known changes nothing, whatever the value is; the command is at an offset
abbrev pub option_set : ℕ → Stack → Option Key → Option Bool → Answer Taken
option_set at s (Some k) (Some b) =
    require (may_set k s) at WrongMode >>= λ early.
    Ok (did (record s { options = with_option k b s.options }))
option_set at s (Some k) None = refused at BadShape
option_set at s None value = Ok (record { effect = unsupported; stack = s })

-- a stack with room for its names and a command's terms, or the fault at the command's offset
abbrev pub roomy : (limit at : ℕ) → List Term → Stack → Answer Taken
roomy limit at ts s = require (has_room limit (signature_of s) ts) at Full >>= λ room. Ok (did s)

-- the terms of definitions, in their order
abbrev pub terms_defined : List Definition → List Term
terms_defined ds = map (λ (d : Definition). d.term) ds

-- the literals that a check assumes, in their order
unfoldable pub literals_in : Signature → Trees → Answer (List Assertion)
literals_in s none = Ok []
literals_in s (more t ts) =
    literal_in s t >>= λ u.
    literals_in s ts >>= λ ls.
    Ok (record { text = t; term = u } ∷ ls)

-- what a command answers and leaves, or its first fault: `limit` bounds the names, and the different subterms of a
-- command's terms; `at` is the command's offset
abbrev pub performed : (limit at : ℕ) → Stack → Command → Answer Taken
performed limit at s (SetLogic x) =
    require (not (is_reserved x.kind)) x.at Reserved >>= λ free.
    require (among logics x.bytes) x.at UnknownLogic >>= λ known.
    require (not s.started) at WrongMode >>= λ early.
    Ok (did (begun s))
performed limit at s (SetOption k v) = option_set at s (key_named k) (truth_in v)
performed limit at s SetInfo = Ok (did s)
performed limit at s (DeclareSort x) =
    new_name script (is_sort (signature_of s)) x >>= λ n.
    roomy limit at [] (begun (with_declaration s (of_sort n (Declared n))))
performed limit at s (DefineSort x t) =
    new_name script (is_sort (signature_of s)) x >>= λ n.
    sort_in (signature_of s) t >>= λ sort.
    roomy limit at [] (begun (with_declaration s (of_sort n sort)))
performed limit at s (DeclareFun x ts t) =
    new_name script (is_function (signature_of s)) x >>= λ n.
    sorts_in (signature_of s) ts >>= λ parameters.
    sort_in (signature_of s) t >>= λ result.
    roomy limit at [] (begun (with_declaration s
    (of_function (declared (record { name = n; parameters = parameters; result = result })))))
performed limit at s (DefineFun d) =
    definitions_in script (signature_of s) d >>= λ ds.
    roomy limit at (terms_defined ds) (begun (with_definitions s ds))
performed limit at s (Assert t) =
    reading_of_sort script (signature_of s) [] Truth t >>= λ r.
    roomy limit at (r.term ∷ []) (begun (with_assertion (with_definitions s r.made) t r.term))
performed limit at s (Push n) =
    require (nat_le (levels_open s.levels + n) level_limit) at Full >>= λ room.
    Ok (did (begun (with_levels n s)))
performed limit at s (Pop n) =
    require (nat_le n (levels_open s.levels)) at PopTooFar >>= λ enough.
    Ok (did (begun (up_to_level (levels_open s.levels - n) s)))
performed limit at s (CheckSat place) = Ok (record { effect = check place []; stack = begun s })
performed limit at s (CheckSatAssuming place ts) =
    literals_in (signature_of s) ts >>= λ ls.
    require (has_room limit (signature_of s) (terms_asserted ls)) at Full >>= λ room.
    Ok (record { effect = check place ls; stack = begun s })
performed limit at s ResetAssertions = Ok (did (emptied s))
performed limit at s Reset = Ok (did empty_stack)
performed limit at s (Echo text) = Ok (record { effect = say text; stack = s })
performed limit at s Exit = Ok (record { effect = leave; stack = s })

-- the command of a tree, taken after a stack
unfoldable pub step : ℕ → Stack → Tree → Answer Taken
step limit s t = command_of t >>= λ c. performed limit (offset_of t) s c
