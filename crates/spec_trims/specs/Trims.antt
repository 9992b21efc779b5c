-- What is kept of a proof for its first empty clause: the commands that this rests on. Source: Alethe specification,
-- commands; which are kept is own.
use Rattle.std.specs.Prelude.{◌≡◌, ◌⊎◌, ⊤, ℕ, Bool, true, false, ◌||◌, List, [], ◌∷◌, ◌++◌, map, Option, Some, None}
use Rattle.std.specs.Prelude.{codes, if◌then◌else◌}
use Rattle.spec_text.specs.Bytes.{Name, among}
use Rattle.spec_text.specs.Trees.{Tree, Trees, atom, list, none, more}
use Rattle.spec_text.specs.Shapes.{Word}
use Rattle.spec_text.specs.Printed.{printed}
use Rattle.spec_sorts.specs.Signatures.{Definition}
use Rattle.spec_sorts.specs.Forms.{applies, binds, annotates, form, a_keyword, named_words}
use Rattle.spec_reading.specs.Names.{names_bound, without, mentions, any_mentions}
use Rattle.spec_checking.specs.Commands.{Shape, assumes, steps, defines, shape_of}

-- the names of words
abbrev pub names_of : List Word → List Name
names_of ws = map (λ (w : Word). w.bytes) ws

-- the names of definitions
abbrev pub definition_names : List Definition → List Name
definition_names ds = map (λ (d : Definition). d.name) ds

-- the names that `:named` gives
unfoldable mutual
  -- in a term
  pub names_made : Tree → List Name
  names_made (atom at k n) = []
  names_made (list at none end) = []
  names_made (list at (more head us) end) = elim (form head us) [
    | applies place n ↦ names_made_in us
    | binds ↦ let_made us
    | annotates ↦ annotated_made us
    | _ ↦ []
  ]

  -- in terms
  pub names_made_in : Trees → List Name
  names_made_in none = []
  names_made_in (more t ts) = names_made t ++ names_made_in ts

  -- in bindings and their body
  pub let_made : Trees → List Name
  let_made (more (list at bindings end) (more body none)) = bindings_made bindings ++ names_made body
  let_made ts = []

  -- in terms that are bound
  pub bindings_made : Trees → List Name
  bindings_made (more (list at (more (atom x k n) (more t none)) end) rest) = names_made t ++ bindings_made rest
  bindings_made ts = []

  -- in a term before attributes, and by these
  pub annotated_made : Trees → List Name
  annotated_made none = []
  annotated_made (more t attributes) = names_made t ++ names_of (named_words a_keyword attributes)

-- the name of an assume or a step
abbrev pub steps_made : Shape → List Name
steps_made (assumes h t) = h.bytes ∷ []
steps_made (steps p) = p.name.bytes ∷ []
steps_made (defines d) = []

-- the names of terms that a command makes: those of `:named` in its terms, and that of a definition
abbrev pub terms_made : Shape → List Name
terms_made (assumes h t) = names_made t
terms_made (steps p) = names_made_in p.literals
terms_made (defines d) = names_made d.body ++ d.name.bytes ∷ []

-- one of the names is a premise
abbrev pub has_premise : List Name → Trees → Bool
has_premise ns none = false
has_premise ns (more (atom at k n) ts) = among ns n || has_premise ns ts
has_premise ns (more (list at us end) ts) = has_premise ns ts

-- one of the names is a premise of a command
abbrev pub uses_step : List Name → Shape → Bool
uses_step ns (steps p) = has_premise ns p.premises
uses_step ns _ = false

-- one of the names occurs free in a command's terms: the parameters of a definition are bound in its body
abbrev pub uses_term : List Name → Shape → Bool
uses_term ns (assumes h t) = mentions ns t
uses_term ns (steps p) = any_mentions ns p.literals
uses_term ns (defines d) = mentions (without ns (names_bound d.parameters)) d.body

-- the shape of a tree that is a command
abbrev pub command_shape : Tree → Option Shape
command_shape (atom at k n) = None
command_shape (list at ts end) = shape_of ts

-- a command uses a name that another makes
abbrev pub shape_rests_on : Option Shape → Option Shape → Bool
shape_rests_on (Some d) (Some c) = uses_step (steps_made c) d || uses_term (terms_made c) d
shape_rests_on d c = false

-- the first of two commands rests on the second: that is a premise, or makes the name of a term that the first uses
abbrev pub rests_on : Tree → Tree → Bool
rests_on d c = shape_rests_on (command_shape d) (command_shape c)

-- one of some commands rests on a command
abbrev pub some_rests_on : Trees → Tree → Bool
some_rests_on none c = false
some_rests_on (more d ds) c = rests_on d c || some_rests_on ds c

-- a step without literals
abbrev pub is_empty_shape : Option Shape → Bool
is_empty_shape (Some (steps p)) = elim p.literals [ none ↦ true | more t ts ↦ false ]
is_empty_shape s = false

-- a command is a step with the empty clause
abbrev pub is_empty_step : Tree → Bool
is_empty_step t = is_empty_shape (command_shape t)

-- a command before those that are kept after it
abbrev pub kept_before : Tree → Trees → Trees
kept_before t kept = if some_rests_on kept t then more t kept else kept

-- of commands in their order, the first step with the empty clause, and before it each command that what is kept rests
-- on
unfoldable pub trimmed : Trees → Trees
trimmed none = none
trimmed (more t ts) = if is_empty_step t then more t none else kept_before t (trimmed ts)

-- trees as they are printed, one on a line
abbrev pub printed_lines : Trees → List ℕ
printed_lines none = []
printed_lines (more t ts) = printed t ++ 10 ∷ printed_lines ts

-- commands as one list, each on a line of its own
abbrev pub listed_text : Trees → List ℕ
listed_text ts = codes "(\n" ++ printed_lines ts ++ codes ")\n"

-- the text of what is kept of a proof's commands
abbrev pub trim_text : Trees → List ℕ
trim_text ts = listed_text (trimmed ts)

-- trees are some of others, in their order
abbrev pub ArePart : Trees → Trees → Type 0
ArePart none us = ⊤
ArePart (more t ts) none = ⊥
ArePart (more t ts) (more u us) = ((t ≡ u) × ArePart ts us) ⊎ ArePart (more t ts) us

-- the last is a step with the empty clause, and on each other one of those after it rests
abbrev pub AreNeeded : Trees → Type 0
AreNeeded none = ⊤
AreNeeded (more t none) = is_empty_step t ≡ true
AreNeeded (more t (more u us)) = (some_rests_on (more u us) t ≡ true) × AreNeeded (more u us)
