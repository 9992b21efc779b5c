-- New names, and names that occur in a text. Source: SMT-LIB 2.6, sections 3.1, 3.6 and 4.2.3.
use Rattle.std.specs.Prelude.{Bool, true, false, not, ◌&&◌, ◌||◌, List, [], ◌∷◌, Option, Some, None, Ok, codes}
use Rattle.std.specs.Prelude.{if◌then◌else◌}
use Rattle.std.specs.Str.{bytes_eq}
use Rattle.spec_text.specs.declared.Kind.{Kind}
use Rattle.spec_text.specs.declared.Fault.TheVariants.{Twice, Reserved}
use Rattle.spec_text.specs.Bytes.{Name, one_of, among}
use Rattle.spec_text.specs.Shapes.{Word, is_symbol, is_reserved}
use Rattle.spec_text.specs.Answers.{Answer, ◌>>=◌, require}
use Rattle.spec_text.specs.Trees.{Tree, Trees, atom, list, none, more}
use Rattle.spec_sorts.specs.Theory.{is_of_theory}
use Rattle.spec_sorts.specs.Signatures.{Signature, known_as, sort_as, is_some}
use Rattle.spec_sorts.specs.Forms.{applies, binds, annotates, form}

-- Where a text is read: what its new names may be.
pub record Setting : Type 0 where
  -- whether a new name may begin with `@` or `.`
  pub kept_names : Bool
  -- whether `:named` is allowed
  pub may_name : Bool
  -- the name whose body is read
  pub own : Option Name

-- an asserted term
abbrev pub script : Setting
script = record { kept_names = false; may_name = true; own = None }

-- the body of the definition of a name
abbrev pub defining : Name → Setting
defining n = record { kept_names = false; may_name = true; own = Some n }

-- a term of a script that is neither asserted nor defined
abbrev pub elsewhere : Setting
elsewhere = record { kept_names = false; may_name = false; own = None }

-- a term of a proof
abbrev pub proof : Setting
proof = record { kept_names = true; may_name = true; own = None }

-- names that begin so are kept for solvers
abbrev pub is_kept_name : Name → Bool
is_kept_name [] = false
is_kept_name (b ∷ bs) = one_of (codes "@.") b

-- the word is reserved, or a name that is kept and not allowed here
abbrev pub is_barred : Setting → Word → Bool
is_barred w x = is_reserved x.kind || (not w.kept_names && is_kept_name x.bytes)

-- a word that may be a new name, where some names are taken
abbrev pub new_name : Setting → (Name → Bool) → Word → Answer Name
new_name w is_taken x =
    require (not (is_barred w x)) x.at Reserved >>= λ free.
    require (not (is_taken x.bytes)) x.at Twice >>= λ new.
    Ok x.bytes

-- the name is a theory's, or one of these
abbrev pub is_in_list : List Name → Name → Bool
is_in_list names n = is_of_theory n || among names n

-- the name is a theory's, or a function's of the signature
abbrev pub is_function : Signature → Name → Bool
is_function s n = is_of_theory n || is_some (known_as s n)

-- the name is a theory's sort, or a sort of the signature
abbrev pub is_sort : Signature → Name → Bool
is_sort s n = among (codes "Bool" ∷ codes "Real" ∷ []) n || is_some (sort_as s n)

-- the name is the one whose body is read
abbrev pub is_own : Option Name → Name → Bool
is_own None n = false
is_own (Some m) n = bytes_eq m n

-- the names that bindings bind
abbrev pub names_bound : Trees → List Name
names_bound (more (list at (more (atom x k n) (more t none)) end) rest) = n ∷ names_bound rest
names_bound ts = []

-- names without those of another list
abbrev pub without : List Name → List Name → List Name
without [] ns = []
without (m ∷ ms) ns = if among ns m then without ms ns else m ∷ without ms ns

-- an atom is one of the names
abbrev pub is_mentioned : List Name → Kind → Name → Bool
is_mentioned ns k n = is_symbol k && among ns n

-- one of the names occurs free
unfoldable mutual
  -- in a term
  pub mentions : List Name → Tree → Bool
  mentions ns (atom at k n) = is_mentioned ns k n
  mentions ns (list at none end) = false
  mentions ns (list at (more head us) end) = elim (form head us) [
    | applies place n ↦ among ns n || any_mentions ns us
    | binds ↦ let_mentions ns us
    | annotates ↦ first_mentions ns us
    | _ ↦ false
  ]

  -- in one of several terms
  pub any_mentions : List Name → Trees → Bool
  any_mentions ns none = false
  any_mentions ns (more t ts) = mentions ns t || any_mentions ns ts

  -- in a term before attributes
  pub first_mentions : List Name → Trees → Bool
  first_mentions ns none = false
  first_mentions ns (more t ts) = mentions ns t

  -- in bindings and their body
  pub let_mentions : List Name → Trees → Bool
  let_mentions ns (more (list at bindings end) (more body none)) = binding_mentions ns bindings
      || mentions (without ns (names_bound bindings)) body
  let_mentions ns ts = false

  -- in a term that is bound
  pub binding_mentions : List Name → Trees → Bool
  binding_mentions ns (more (list at (more (atom x k n) (more t none)) end) rest) =
      mentions ns t || binding_mentions ns rest
  binding_mentions ns ts = false
