-- What the text of a model means. Source: SMT-LIB 2.6, sections 3.6, 4.1.8 and 5.3; the elements of a declared sort are
-- own.
use Rattle.std.specs.Prelude.{◌≡◌, ℕ, true, false, ◌&&◌, List, [], ◌∷◌, ◌++◌, length, drop, Option, Some, None, Ok, All}
use Rattle.std.specs.Prelude.{codes, if◌then◌else◌}
use Rattle.std.specs.Str.{bytes_eq}
use Rattle.spec_text.specs.declared.Kind.TheVariants.{Reserved}
use Rattle.spec_text.specs.Bytes.{Name}
use Rattle.spec_text.specs.Shapes.{is_symbol, is_reserved, is_word, only_if}
use Rattle.spec_text.specs.Trees.{Tree, Trees, atom, list, none, more}
use Rattle.spec_sorts.specs.Numerals.{number_after}
use Rattle.spec_sorts.specs.Terms.{Sort, Truth, Number, Declared, Symbol}
use Rattle.spec_sorts.specs.Values.{Value, truth, element, Interpretation, table_value}
use Rattle.spec_sorts.specs.Signatures.{Signature}
use Rattle.spec_sorts.specs.Forms.{applies, binds, annotates, form}
use Rattle.spec_sorts.specs.Meaning.{Meaning, Bindings, name_value, atom_value, bind}
use Rattle.spec_reading.specs.Names.{Setting}
use Rattle.spec_reading.specs.Sorts.{sort_named, sort_in}
use Rattle.spec_reading.specs.Definitions.{Parts, parameters_in}
use Rattle.spec_models.specs.Values.{IsName, element_word}
use Rattle.spec_models.specs.Models.{parameters_of}

-- the number of an element by its word, if it is the word of one
abbrev pub element_number : Name → Option ℕ
element_number e = only_if (bytes_eq e (element_word (number_after 0 (drop 2 e)))) (number_after 0 (drop 2 e))

-- an element of a declared sort, where there is one
abbrev pub element_of : Name → Option ℕ → Option Value
element_of s None = None
element_of s (Some k) = Some (element s k)

-- the element that a list is the text of, by its first item and the others: `as`, the word of an element, and the name
-- of its sort
abbrev pub element_in : Tree → Trees → Option Value
element_in (atom at Reserved w) (more (atom x k e) (more (atom y q s) none)) = if bytes_eq w (codes "as")
    && (is_symbol k && is_symbol q) then element_of s (element_number e) else None
element_in head us = None

-- an element, or what stands for another value
abbrev pub element_or : Option Value → Value → Value
element_or (Some v) other = v
element_or None other = other

-- in the text of a model the text of an element is that element, and all else has the value that it has in a script
unfoldable mutual
  -- the value of a tree; what is no term gets the value false
  pub model_value : Meaning → Bindings → Tree → Value
  model_value m b (atom at k n) = atom_value m b k n
  model_value m b (list at none end) = truth false
  model_value m b (list at (more head us) end) =
      element_or (element_in head us) (elim (form head us) [
        | applies place n ↦ name_value m b n (model_values m b us)
        | binds ↦ model_let m b us
        | annotates ↦ first_model_value m b us
        | _ ↦ truth false
      ])

  -- the values of trees, in their order
  pub model_values : Meaning → Bindings → Trees → List Value
  model_values m b none = []
  model_values m b (more t ts) = model_value m b t ∷ model_values m b ts

  -- the value of a body under bindings, which bind in parallel
  pub model_let : Meaning → Bindings → Trees → Value
  model_let m b (more (list at bindings end) (more body none)) = model_value m (bound_in_model m b bindings ++ b) body
  model_let m b us = truth false

  -- the bound names with their values, none of them bound in the others' terms
  pub bound_in_model : Meaning → Bindings → Trees → Bindings
  bound_in_model m b (more (list at (more (atom x k n) (more t none)) end) rest) =
      (n, model_value m b t) ∷ bound_in_model m b rest
  bound_in_model m b us = []

  -- the value of a term before attributes, which change nothing
  pub first_model_value : Meaning → Bindings → Trees → Value
  first_model_value m b (more t us) = model_value m b t
  first_model_value m b none = truth false

-- a list with these items is the text of no element
abbrev pub IsNoElement : Trees → Type 0
IsNoElement none = Unit {0}
IsNoElement (more head us) = element_in head us ≡ None

-- the text of no element occurs
abbrev mutual
  -- in a tree
  pub HasNoElement : Tree → Type 0
  HasNoElement (atom at k n) = Unit {0}
  HasNoElement (list at ts end) = IsNoElement ts × HaveNoElement ts

  -- in trees, one after the other
  pub HaveNoElement : Trees → Type 0
  HaveNoElement none = Unit {0}
  HaveNoElement (more t ts) = HasNoElement t × HaveNoElement ts

-- the text of a model: its new names may be such as are kept for solvers
abbrev pub model : Setting
model = record { kept_names = true; may_name = false; own = None }

-- what a tree defines as it is written, where it is the definition of a function
abbrev pub definition_in : Tree → Option Parts
definition_in (list at (more (atom a h w) (more (atom x k n) (more (list c ps d) (more sort (more body none))))) end) =
    only_if (is_reserved h && bytes_eq w (codes "define-fun")) (record {
      name = record { at = x; kind = k; bytes = n };
      parameters = ps;
      result = sort;
      body = body;
    })
definition_in t = None

-- The parts of a definition give a symbol the table that it has under an interpretation; sorts are those of a
-- signature.
pub record GivesTable (i : Interpretation) (g : Signature) (s : Symbol) (p : Parts) : Type 0 where
  -- the name is the symbol's
  pub name : is_word s.name p.name ≡ true
  -- the parameters have its parameters' sorts, and names of their own
  pub parameters : parameters_in model g [] p.parameters ≡ Ok (parameters_of s)
  -- the body has its sort
  pub result : sort_in g p.result ≡ Ok s.result
  -- and its value at as many arguments as it has parameters, whatever other names mean
  pub value : (m : Meaning) (vs : List Value) → length vs ≡ length s.parameters
      → model_value m (bind (parameters_of s) vs) p.body ≡ table_value i s.name vs

-- a tree defines a symbol as it is under an interpretation
abbrev pub Defines : Interpretation → Signature → Symbol → Tree → Type 0
Defines i g s t = (p : Parts) × (definition_in t ≡ Some p) × GivesTable i g s p

-- trees define symbols, each its own, in their order
abbrev pub DefineAll : Interpretation → Signature → List Symbol → Trees → Type 0
DefineAll i g [] none = Unit {0}
DefineAll i g (s ∷ ss) (more t ts) = Defines i g s t × DefineAll i g ss ts
DefineAll i g _ _ = ⊥

-- A declared sort of a signature, by its name.
pub record IsDeclaredIn (g : Signature) (n : Name) : Type 0 where
  -- a symbol can have the name
  pub name : IsName n
  -- it is the name of this sort, wherever it is
  pub sort : (at : ℕ) → sort_named g at n ≡ Ok (Declared n)

-- a sort that a signature has
abbrev pub IsSortIn : Signature → Sort → Type 0
IsSortIn g Truth = Unit {0}
IsSortIn g Number = Unit {0}
IsSortIn g (Declared n) = IsDeclaredIn g n

-- A symbol whose name and sorts can be written.
pub record IsSymbolIn (g : Signature) (s : Symbol) : Type 0 where
  -- a symbol can have its name
  pub name : IsName s.name
  -- the signature has the sorts of its parameters
  pub parameters : All (IsSortIn g) s.parameters
  -- and its own
  pub result : IsSortIn g s.result
