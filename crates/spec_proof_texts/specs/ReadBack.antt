-- What is read back of a printed proof, and the names of a script under which it is.
use Rattle.std.specs.Prelude.{◌≡◌, true, List, [], All, Contains, Some, None}
use Rattle.spec_text.specs.Bytes.{Name}
use Rattle.spec_sorts.specs.Terms.{Sort, Declared, Symbol, Head, Apply, Term}
use Rattle.spec_sorts.specs.Theory.{is_of_theory}
use Rattle.spec_sorts.specs.Signatures.{declared, Signature, known_as, sort_as, symbols_in}
use Rattle.spec_reading.specs.Names.{is_kept_name}
use Rattle.spec_commands.specs.Stack.{Stack}
use Rattle.spec_commands.specs.Kept.{AtEachLevel}
use Rattle.spec_checking.specs.Commands.{Known}
use Rattle.spec_models.specs.Values.{IsName}
use Rattle.spec_models.specs.Meaning.{IsSortIn, IsSymbolIn}
use Rattle.spec_proof_texts.specs.Meaning.{AreSpelled}
use Rattle.spec_proof_texts.specs.Lines.{Argument, Arguments, truth, number, symbol, defined, applied, no_items}
use Rattle.spec_proof_texts.specs.Lines.{item, DefinitionLine, Line, defines, assumes, steps}

-- a sort whose name can be written
abbrev pub IsWritableSort : Sort → Type 0
IsWritableSort (Declared n) = IsName n
IsWritableSort s = Unit {0}

-- a head with such a name
abbrev pub IsWritableHead : Head → Type 0
IsWritableHead (Apply f) = IsName f.name
IsWritableHead h = Unit {0}

abbrev mutual
  -- a printed term with such names
  pub IsWritableArgument : Argument → Type 0
  IsWritableArgument (symbol n) = IsName n
  IsWritableArgument (applied h items) = IsWritableHead h × AreWritableArguments items
  IsWritableArgument (truth b) = Unit {0}
  IsWritableArgument (number q) = Unit {0}
  IsWritableArgument (defined n) = Unit {0}

  -- printed terms with such names
  pub AreWritableArguments : Arguments → Type 0
  AreWritableArguments no_items = Unit {0}
  AreWritableArguments (item a others) = IsWritableArgument a × AreWritableArguments others

-- A definition whose names can be written.
pub record IsWritableDefinition (d : DefinitionLine) : Type 0 where
  -- the sort's
  pub sort : IsWritableSort d.sort
  -- the head's
  pub head : IsWritableHead d.head
  -- and those of the arguments
  pub arguments : All IsWritableArgument d.arguments

-- a line whose words can be written
abbrev pub IsWritableLine : Line → Type 0
IsWritableLine (defines d) = IsWritableDefinition d
IsWritableLine (assumes n a) = IsWritableArgument a
IsWritableLine (steps s) = All IsWritableArgument s.literals × AreSpelled s.arguments

-- The names of a signature as scripts make them.
pub record AreScriptNames (g : Signature) : Type 0 where
  -- no function has a name that is kept for solvers
  pub none_kept : (n : Name) → is_kept_name n ≡ true → known_as g n ≡ None
  -- or one of a theory
  pub own : (n : Name) → is_of_theory n ≡ true → known_as g n ≡ None
  -- each declared symbol is that of its name
  pub found : (f : Symbol) → Contains (symbols_in g) f → known_as g f.name ≡ Some (declared f)
  -- its name and its sorts can be written
  pub symbols : (f : Symbol) → Contains (symbols_in g) f → IsSymbolIn g f
  -- and so can each sort that has a name
  pub sorts : (n : Name) (s : Sort) → sort_as g n ≡ Some s → IsSortIn g s

-- the names of a stack are such names, up to each level
abbrev pub HaveScriptNames : Stack → Type 0
HaveScriptNames s = AtEachLevel (λ g assertions. AreScriptNames g) s

-- what is known before a proof under a signature, where terms are asserted
abbrev pub known_before : Signature → List Term → Known
known_before g asserted = record { scope = g; asserted = asserted; entries = [] }
