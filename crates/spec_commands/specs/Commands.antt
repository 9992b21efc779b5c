-- The commands that a script may have, by their own shape. Source: SMT-LIB 2.6, section 3.9; that sorts have no
-- parameters is own.
use Rattle.std.specs.Prelude.{ℕ, ◌-◌, ◌^◌, Bool, true, false, List, [], ◌∷◌, Option, Some, None, Ok, codes, nat_le}
use Rattle.std.specs.Prelude.{if◌then◌else◌}
use Rattle.std.specs.Str.{bytes_eq}
use Rattle.spec_text.specs.declared.Kind.{Kind}
use Rattle.spec_text.specs.declared.Kind.TheVariants.{Numeral, Text}
use Rattle.spec_text.specs.declared.Fault.TheVariants.{BadShape, UnknownCommand}
use Rattle.spec_text.specs.Bytes.{Name}
use Rattle.spec_text.specs.Trees.{Tree, Trees, atom, list, none, more, offset_of}
use Rattle.spec_text.specs.Shapes.{◌>>=◌, Word, passes, first_word, first_list, only_tree, no_tree, is_keyword}
use Rattle.spec_text.specs.Shapes.{is_reserved}
use Rattle.spec_text.specs.Answers.{Answer, refused}
use Rattle.spec_sorts.specs.Numerals.{number_after}
use Rattle.spec_sorts.specs.Theory.{look_up}
use Rattle.spec_sorts.specs.Forms.{is_name, are_named}
use Rattle.spec_reading.specs.Definitions.{Parts}

-- A command by its parts.
pub data Command : Type 0 where
  -- the name of a logic, as written
  SetLogic : Word → Command
  -- an option's name, without its colon, and the value that it gets
  SetOption : Name → Tree → Command
  -- information on the script, which changes nothing
  SetInfo : Command
  -- the name of a new sort, as written
  DeclareSort : Word → Command
  -- the name of a sort, as written, and the text of the sort that it means
  DefineSort : Word → Tree → Command
  -- the name as written, the texts of its parameters' sorts, and that of its own sort
  DeclareFun : Word → Trees → Tree → Command
  -- the parts of the definition
  DefineFun : Parts → Command
  -- the text of the term
  Assert : Tree → Command
  -- so many levels are opened
  Push : ℕ → Command
  -- so many levels are closed
  Pop : ℕ → Command
  -- what is asserted is to be checked: the offset of the command's word
  CheckSat : ℕ → Command
  -- the same with literals that are assumed: the offset of the command's word, and the texts of the literals
  CheckSatAssuming : ℕ → Trees → Command
  -- what is declared, defined and asserted is taken back
  ResetAssertions : Command
  -- all is taken back, the options and the logic too
  Reset : Command
  -- a text to be written, without its quotes
  Echo : List ℕ → Command
  -- the script ends
  Exit : Command

-- The words of the commands.
pub data Verb : Type 0 where
  -- `set-logic`, `set-option`, `set-info`
  sets_logic sets_option sets_info : Verb
  -- `declare-sort`, `define-sort`, `declare-const`, `declare-fun`, `define-fun`
  declares_sort defines_sort declares_const declares_fun defines_fun : Verb
  -- `assert`, `push`, `pop`, `check-sat`, `check-sat-assuming`
  asserts pushes pops checks checks_assuming : Verb
  -- `reset-assertions`, `reset`, `echo`, `exit`
  resets_assertions resets echoes exits : Verb

-- which word is which
abbrev pub verbs : List (Name × Verb)
verbs =
    (codes "set-logic", sets_logic) ∷
    (codes "set-option", sets_option) ∷
    (codes "set-info", sets_info) ∷
    (codes "declare-sort", declares_sort) ∷
    (codes "define-sort", defines_sort) ∷
    (codes "declare-const", declares_const) ∷
    (codes "declare-fun", declares_fun) ∷
    (codes "define-fun", defines_fun) ∷
    (codes "assert", asserts) ∷
    (codes "push", pushes) ∷
    (codes "pop", pops) ∷
    (codes "check-sat", checks) ∷
    (codes "check-sat-assuming", checks_assuming) ∷
    (codes "reset-assertions", resets_assertions) ∷
    (codes "reset", resets) ∷
    (codes "echo", echoes) ∷
    (codes "exit", exits) ∷ []

-- a numeral
abbrev pub is_numeral : Kind → Bool
is_numeral Numeral = true
is_numeral k = false

-- a string
abbrev pub is_string : Kind → Bool
is_string Text = true
is_string k = false

-- one tree at most
abbrev pub one_at_most : Trees → Option (Unit {0})
one_at_most none = Some tt
one_at_most (more t ts) = no_tree ts

-- what may be a new name, and what follows it
unfoldable pub first_name : Trees → Option (Word × Trees)
first_name ts = do
  x ← first_word ts
  named ← passes (is_name x.0.kind)
  Some x

-- (set-logic L)
unfoldable pub set_logic : Trees → Option Command
set_logic ts = do
  x ← first_name ts
  end ← no_tree x.1
  Some (SetLogic x.0)

-- (set-option :k v)
unfoldable pub set_option : Trees → Option Command
set_option ts = do
  key ← first_word ts
  is_key ← passes (is_keyword key.0.kind)
  value ← only_tree key.1
  Some (SetOption key.0.bytes value)

-- (set-info :k) or (set-info :k v)
unfoldable pub set_info : Trees → Option Command
set_info ts = do
  key ← first_word ts
  is_key ← passes (is_keyword key.0.kind)
  value ← one_at_most key.1
  Some SetInfo

-- (declare-sort S 0)
unfoldable pub declare_sort : Trees → Option Command
declare_sort ts = do
  x ← first_name ts
  n ← first_word x.1
  is_number ← passes (is_numeral n.0.kind)
  is_zero ← passes (bytes_eq n.0.bytes (codes "0"))
  end ← no_tree n.1
  Some (DeclareSort x.0)

-- (define-sort S () T)
unfoldable pub define_sort : Trees → Option Command
define_sort ts = do
  x ← first_name ts
  ps ← first_list x.1
  no_parameter ← no_tree ps.0
  sort ← only_tree ps.1
  Some (DefineSort x.0 sort)

-- (declare-const c S)
unfoldable pub declare_const : Trees → Option Command
declare_const ts = do
  x ← first_name ts
  sort ← only_tree x.1
  Some (DeclareFun x.0 none sort)

-- (declare-fun f (S ..) S)
unfoldable pub declare_fun : Trees → Option Command
declare_fun ts = do
  x ← first_name ts
  ps ← first_list x.1
  sort ← only_tree ps.1
  Some (DeclareFun x.0 ps.0 sort)

-- a tree, and what follows it
abbrev pub first_tree : Trees → Option (Tree × Trees)
first_tree none = None
first_tree (more t ts) = Some (t, ts)

-- (define-fun f ((x S) ..) S t)
unfoldable pub define_fun : Trees → Option Command
define_fun ts = do
  x ← first_name ts
  ps ← first_list x.1
  named ← passes (are_named ps.0)
  sort ← first_tree ps.1
  body ← only_tree sort.1
  Some (DefineFun (record { name = x.0; parameters = ps.0; result = sort.0; body = body }))

-- (assert t)
unfoldable pub assertion : Trees → Option Command
assertion ts = do
  t ← only_tree ts
  Some (Assert t)

-- a number of levels, of which all above 2^64 - 1 are one
abbrev pub number_of_levels : ℕ → ℕ
number_of_levels n = if nat_le n (2 ^ 64 - 1) then n else 2 ^ 64 - 1

-- a numeral, or nothing, which counts as 1
unfoldable pub levels_in : Trees → Option ℕ
levels_in none = Some 1
levels_in (more t ts) = do
  n ← first_word (more t ts)
  is_number ← passes (is_numeral n.0.kind)
  end ← no_tree n.1
  Some (number_of_levels (number_after 0 n.0.bytes))

-- (push n) or (push)
unfoldable pub push : Trees → Option Command
push ts = do
  n ← levels_in ts
  Some (Push n)

-- (pop n) or (pop)
unfoldable pub pop : Trees → Option Command
pop ts = do
  n ← levels_in ts
  Some (Pop n)

-- (check-sat-assuming (l ..))
unfoldable pub check_assuming : ℕ → Trees → Option Command
check_assuming place ts = do
  ls ← first_list ts
  end ← no_tree ls.1
  Some (CheckSatAssuming place ls.0)

-- (echo s)
unfoldable pub echo : Trees → Option Command
echo ts = do
  s ← first_word ts
  is_text ← passes (is_string s.0.kind)
  end ← no_tree s.1
  Some (Echo s.0.bytes)

-- a command without parts
abbrev pub alone : Command → Trees → Option Command
alone c ts = no_tree ts >>= λ end. Some c

-- a command by its word, which is at an offset
abbrev pub command_by : Verb → ℕ → Trees → Option Command
command_by sets_logic place ts = set_logic ts
command_by sets_option place ts = set_option ts
command_by sets_info place ts = set_info ts
command_by declares_sort place ts = declare_sort ts
command_by defines_sort place ts = define_sort ts
command_by declares_const place ts = declare_const ts
command_by declares_fun place ts = declare_fun ts
command_by defines_fun place ts = define_fun ts
command_by asserts place ts = assertion ts
command_by pushes place ts = push ts
command_by pops place ts = pop ts
command_by checks place ts = alone (CheckSat place) ts
command_by checks_assuming place ts = check_assuming place ts
command_by resets_assertions place ts = alone ResetAssertions ts
command_by resets place ts = alone Reset ts
command_by echoes place ts = echo ts
command_by exits place ts = alone Exit ts

-- what has the shape, or the fault at the command's start
abbrev pub shaped : {A : Type 0} → ℕ → Option A → Answer A
shaped at (Some a) = Ok a
shaped at None = refused at BadShape

-- a word that is a command's, without bars
abbrev pub verb_named : Kind → Name → Option Verb
verb_named k n = by (is_reserved k)
  where
    by : Bool → Option Verb
    by true = look_up verbs n
    by false = None

-- the word before a list
abbrev pub verb_of : Tree → Option Verb
verb_of (atom at k n) = verb_named k n
verb_of (list at ts end) = None

-- the command of a word, before its parts, or the fault at what comes first
abbrev pub command_as : ℕ → ℕ → Option Verb → Trees → Answer Command
command_as at place (Some v) ts = shaped at (command_by v place ts)
command_as at place None ts = refused place UnknownCommand

-- the command that a tree is
unfoldable pub command_of : Tree → Answer Command
command_of (atom at k n) = refused at BadShape
command_of (list at none end) = refused at BadShape
command_of (list at (more head us) end) = command_as at (offset_of head) (verb_of head) us
