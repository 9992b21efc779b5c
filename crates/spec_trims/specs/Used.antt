-- The names that commands use, in lists.
use Rattle.std.specs.Prelude.{Bool, false, ◌||◌, List, [], ◌∷◌, ◌++◌, Option, Some, None, if◌then◌else◌}
use Rattle.spec_text.specs.Bytes.{Name, among}
use Rattle.spec_text.specs.Trees.{Tree, Trees, atom, list, none, more}
use Rattle.spec_text.specs.Shapes.{is_symbol}
use Rattle.spec_sorts.specs.Forms.{applies, binds, annotates, form}
use Rattle.spec_reading.specs.Names.{names_bound, without}
use Rattle.spec_checking.specs.Commands.{Shape, assumes, steps, defines}
use Rattle.spec_trims.specs.Trims.{command_shape}

-- one of the names is among others
abbrev pub some_among : List Name → List Name → Bool
some_among [] ms = false
some_among (n ∷ ns) ms = among ms n || some_among ns ms

-- the names that occur free
unfoldable mutual
  -- in a term
  pub free_names : Tree → List Name
  free_names (atom at k n) = if is_symbol k then n ∷ [] else []
  free_names (list at none end) = []
  free_names (list at (more head us) end) = elim (form head us) [
    | applies place n ↦ n ∷ free_in us
    | binds ↦ free_in_let us
    | annotates ↦ free_in_first us
    | _ ↦ []
  ]

  -- in terms
  pub free_in : Trees → List Name
  free_in none = []
  free_in (more t ts) = free_names t ++ free_in ts

  -- in a term before attributes
  pub free_in_first : Trees → List Name
  free_in_first none = []
  free_in_first (more t ts) = free_names t

  -- in bindings and their body
  pub free_in_let : Trees → List Name
  free_in_let (more (list at bindings end) (more body none)) = free_in_bindings bindings
      ++ without (free_names body) (names_bound bindings)
  free_in_let ts = []

  -- in terms that are bound
  pub free_in_bindings : Trees → List Name
  free_in_bindings (more (list at (more (atom x k n) (more t none)) end) rest) = free_names t ++ free_in_bindings rest
  free_in_bindings ts = []

-- the names of premises
abbrev pub premise_names : Trees → List Name
premise_names none = []
premise_names (more (atom at k n) ts) = n ∷ premise_names ts
premise_names (more (list at us end) ts) = premise_names ts

-- the names of assumes and steps that a command uses
abbrev pub steps_used : Option Shape → List Name
steps_used (Some (steps p)) = premise_names p.premises
steps_used s = []

-- the names of terms that a command uses: the parameters of a definition are its own
abbrev pub terms_used : Option Shape → List Name
terms_used (Some (assumes h t)) = free_names t
terms_used (Some (steps p)) = free_in p.literals
terms_used (Some (defines d)) = without (free_names d.body) (names_bound d.parameters)
terms_used None = []

-- those that some commands use
abbrev pub all_steps_used : Trees → List Name
all_steps_used none = []
all_steps_used (more t ts) = steps_used (command_shape t) ++ all_steps_used ts

abbrev pub all_terms_used : Trees → List Name
all_terms_used none = []
all_terms_used (more t ts) = terms_used (command_shape t) ++ all_terms_used ts
