-- The commands of a proof, by their shape and as they are read, and what is known before them. Source: Alethe
-- specification, commands; keywords in any order are own.
use Rattle.std.specs.Prelude.{ℕ, Bool, true, false, ◌&&◌, List, [], Option, Some, None, codes, if◌then◌else◌}
use Rattle.std.specs.Str.{bytes_eq}
use Rattle.spec_text.specs.Bytes.{Name}
use Rattle.spec_text.specs.Trees.{Tree, Trees, atom, list, none, more}
use Rattle.spec_text.specs.Shapes.{◌>>=◌, Word, passes, first_word, first_list, only_tree, is_symbol, is_keyword}
use Rattle.spec_text.specs.Shapes.{is_reserved, is_word, wanted}
use Rattle.spec_sorts.specs.Terms.{Term}
use Rattle.spec_sorts.specs.Signatures.{Definition, Signature}
use Rattle.spec_sorts.specs.Literals.{Clause}
use Rattle.spec_reading.specs.Definitions as definitions
use Rattle.spec_commands.specs.Commands as scripts
use Rattle.spec_commands.specs.Commands.{DefineFun, define_fun}
use Rattle.spec_commands.specs.Stack.{signature_of, terms_asserted}
use Rattle.spec_commands.specs.Checks.{Check, asked}
use Rattle.spec_proofs.specs.declared.Rule.{Rule}

-- A step's or an assume's name, with its clause.
pub record NamedClause : Type 0 where
  -- the name
  pub name : Name
  -- the clause
  pub clause : Clause

-- What is known before a command.
pub record Known : Type 0 where
  -- what the script declares and defines, and after it what the proof defines up to here
  pub scope : Signature
  -- the terms that the check asks about
  pub asserted : List Term
  -- the earlier assumes and steps, oldest first
  pub entries : List NamedClause

-- what is known at a check, before a proof's first command
abbrev pub known_at : Check → Known
known_at c = record { scope = signature_of c.stack; asserted = terms_asserted (asked c); entries = [] }

-- A step that is read.
pub record Step : Type 0 where
  -- its offset
  pub at : ℕ
  -- its name
  pub name : Name
  -- its clause
  pub clause : Clause
  -- its rule
  pub rule : Rule
  -- the clauses of its premises, in their order
  pub premises : List Clause
  -- the texts of its arguments
  pub arguments : Trees

-- What a command states.
pub data Statement : Type 0 where
  -- a term is assumed: the offset of its text, the assume's name, and the term
  assumed : ℕ → Name → Term → Statement
  -- a clause follows by a step
  stepped : Step → Statement
  -- nothing, by a definition at an offset
  nothing : ℕ → Statement

-- A command that is read.
pub record Command : Type 0 where
  -- the definitions that it makes, in their order; they are known from there on
  pub made : List Definition
  -- what it states
  pub statement : Statement

-- The parts of a step, as they are written.
pub record StepParts : Type 0 where
  -- its name
  pub name : Word
  -- its literals
  pub literals : Trees
  -- the name of its rule
  pub rule : Word
  -- the names of its premises
  pub premises : Trees
  -- its arguments
  pub arguments : Trees

-- A command by its shape.
pub data Shape : Type 0 where
  -- the name and the term's text
  assumes : Word → Tree → Shape
  -- the parts of a step
  steps : StepParts → Shape
  -- the parts of a definition
  defines : definitions.Parts → Shape

-- What the keywords of a step say.
pub record Keywords : Type 0 where
  -- the rule's name
  pub rule : Option Word
  -- the premises' names
  pub premises : Option Trees
  -- the arguments
  pub arguments : Option Trees
  -- the names of discharged assumptions
  pub discharged : Option Trees

-- no keyword for now
abbrev pub no_keywords : Keywords
no_keywords = record { rule = None; premises = None; arguments = None; discharged = None }

-- a symbol, and no other tree
abbrev pub symbol_in : Tree → Option Word
symbol_in (atom at k n) = if is_symbol k then Some (record { at = at; kind = k; bytes = n }) else None
symbol_in (list at ts end) = None

-- a list, and no other tree
abbrev pub list_in : Tree → Option Trees
list_in (atom at k n) = None
list_in (list at ts end) = Some ts

-- each is a symbol
abbrev pub are_symbols : Trees → Bool
are_symbols none = true
are_symbols (more (atom at k n) ts) = is_symbol k && are_symbols ts
are_symbols (more (list at us end) ts) = false

-- a list of symbols, and no other tree
abbrev pub symbols_in : Tree → Option Trees
symbols_in t = list_in t >>= λ ts. passes (are_symbols ts) >>= λ each. Some ts

-- not yet there
abbrev pub is_new : {A : Type 0} → Option A → Bool
is_new None = true
is_new (Some a) = false

-- `:rule r`
abbrev pub with_rule : Keywords → Tree → Option Keywords
with_rule p t = passes (is_new p.rule) >>= λ new. symbol_in t >>= λ r. Some (record p { rule = Some r })

-- `:premises (p ..)`
abbrev pub with_premises : Keywords → Tree → Option Keywords
with_premises p t = passes (is_new p.premises) >>= λ new. symbols_in t >>= λ ps. Some (record p { premises = Some ps })

-- `:args (a ..)`: any trees
abbrev pub with_arguments : Keywords → Tree → Option Keywords
with_arguments p t = passes (is_new p.arguments) >>= λ new. list_in t >>= λ ts. Some (record p { arguments = Some ts })

-- `:discharge (d ..)`; which they are does not matter for now
abbrev pub with_discharged : Keywords → Tree → Option Keywords
with_discharged p t = passes (is_new p.discharged) >>= λ new. symbols_in t
    >>= λ ds. Some (record p { discharged = Some ds })

-- a keyword by its name, with its value
abbrev pub with_keyword : Keywords → Name → Tree → Option Keywords
with_keyword p n t =
    if bytes_eq n (codes "rule") then with_rule p t
    else if bytes_eq n (codes "premises") then with_premises p t
    else if bytes_eq n (codes "args") then with_arguments p t
    else if bytes_eq n (codes "discharge") then with_discharged p t
    else None

-- keywords and their values, in any order, each at most once
unfoldable pub keywords_in : Keywords → Trees → Option Keywords
keywords_in p none = Some p
keywords_in p (more key none) = None
keywords_in p (more (list at us end) (more t ts)) = None
keywords_in p (more (atom at k n) (more t ts)) = passes (is_keyword k) >>= λ key. with_keyword p n t
    >>= λ q. keywords_in q ts

-- what is not given is none
abbrev pub or_none : Option Trees → Trees
or_none (Some ts) = ts
or_none None = none

-- h t, after (assume
unfoldable pub assume_shape : Trees → Option Shape
assume_shape ts = do
  h ← first_word ts
  named ← passes (is_symbol h.0.kind)
  t ← only_tree h.1
  Some (assumes h.0 t)

-- i (cl t ..) and keywords, :rule among them, after (step
unfoldable pub step_shape : Trees → Option Shape
step_shape ts = do
  i ← first_word ts
  named ← passes (is_symbol i.0.kind)
  c ← first_list i.1
  cl ← first_word c.0
  is_cl ← wanted (codes "cl") cl.0
  p ← keywords_in no_keywords c.1
  r ← p.rule
  Some (steps (record {
    name = i.0;
    literals = cl.1;
    rule = r;
    premises = or_none p.premises;
    arguments = or_none p.arguments;
  }))

-- a definition has the shape that it has in a script
abbrev pub definition_of : scripts.Command → Option Shape
definition_of (DefineFun d) = Some (defines d)
definition_of c = None

-- f ((x S) ..) S t, after (define-fun
abbrev pub define_shape : Trees → Option Shape
define_shape ts = define_fun ts >>= definition_of

-- the word `define-fun`, which is reserved
abbrev pub is_definition : Word → Bool
is_definition w = is_reserved w.kind && bytes_eq w.bytes (codes "define-fun")

-- the items of a list, after its first one
abbrev pub shape_by : Word × Trees → Option Shape
shape_by x =
    if is_word (codes "assume") x.0 then assume_shape x.1
    else if is_word (codes "step") x.0 then step_shape x.1
    else if is_definition x.0 then define_shape x.1
    else None

-- the shape of a command's list
unfoldable pub shape_of : Trees → Option Shape
shape_of ts = first_word ts >>= λ w. shape_by w
