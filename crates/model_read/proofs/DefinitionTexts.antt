-- Definitions of a model, by their texts.
use Rattle.std.proofs.Common.{◌≡◌, ℕ, Bool, true, false, List, [], ◌∷◌, cond, Option, Some, None, refl, sym, ap, ◌∙◌, subst}
use Rattle.std.specs.Prelude.{Ok, Err, codes, not, ◌&&◌}
use Rattle.std.specs.Bool.{Decides}
use Rattle.std.specs.Str.{bytes_eq}
use Rattle.std.proofs.lemmas.Slice.Eq.{bytes_eq-Decides}
use Rattle.spec_text.specs.Answers.{◌>>=◌}
use Rattle.spec_text.specs.Bytes.{Name, among}
use Rattle.spec_text.specs.declared.Kind.{Kind}
use Rattle.spec_text.specs.Shapes.{Word, is_reserved, passes}
use Rattle.spec_text.specs.Shapes as shapes
use Rattle.spec_text.specs.Trees.{Tree, Trees, atom, list, none, more}
use Rattle.spec_sorts.specs.Terms.{Symbol}
use Rattle.spec_sorts.specs.Values.{Table}
use Rattle.spec_sorts.specs.Signatures.{Known, declared, defined, known_name, of_sort, of_function, Signature, known_as}
use Rattle.spec_model_files.specs.declared.ModelKind.TheVariants.{BadShape, UnknownSymbol, Twice}
use Rattle.spec_model_files.specs.Faults.{ModelFault, ReadModel, wrong, require, found_or}
use Rattle.spec_model_files.specs.Values.{symbol_read, sort_read}
use Rattle.spec_model_files.specs.Bodies.{Parameters, body_read}
use Rattle.spec_model_files.specs.Definitions.{DefinedSymbol, declared_symbol, defined_name, parameter_list_read, definition_read}
use Rattle.term_core.specs.declared.ids.SymbolId.{SymbolId}
use Rattle.term_core.specs.Symbols.{IsSymbol, symbol_at}
use Rattle.term_core.specs.Tables.{TableView}
use Rattle.term_reader.specs.declared.scope.Function.{Function}
use Rattle.term_reader.specs.declared.scope.Function.TheVariants.{Declared, Defined}
use Rattle.term_reader.specs.Scopes.{FunctionMeans}
use Rattle.model_read.specs.declared.errors.LocatedFault.{LocatedFault}
use Rattle.model_read.specs.Answers.{located_view}
use Rattle.model_read.specs.Shapes.{DefinitionParts, definition_in}
use Rattle.model_read.specs.Definitions.{declared_in, table_by, definition_by}

-- a declared function is the symbol of its number
pub declared_means : (t : TableView) (o : Option Function) (k : Option Known) (id : SymbolId) → FunctionMeans t o k → declared_in o ≡ Some id → IsSymbol t.symbols id × (declared_symbol k ≡ Some (symbol_at t.symbols id))
declared_means t (Some (Declared i)) (Some (declared f)) id h e =
    let same : i ≡ id = cc in
    subst (λ (j : SymbolId). IsSymbol t.symbols j × (Some f ≡ Some (symbol_at t.symbols j))) same (h.0, ap (λ (x : Symbol). Some x) (sym h.1))
declared_means t (Some (Declared i)) (Some (defined d)) id h e = absurd h
declared_means t (Some (Declared i)) None id h e = absurd h
declared_means t (Some (Defined m)) k id h e = cc
declared_means t None k id h e = cc

-- and no other is
pub undeclared_means : (t : TableView) (o : Option Function) (k : Option Known) → FunctionMeans t o k → declared_in o ≡ None → declared_symbol k ≡ None
undeclared_means t None None h e = refl
undeclared_means t None (Some x) h e = absurd h
undeclared_means t (Some (Defined m)) (Some (defined d)) h e = refl
undeclared_means t (Some (Defined m)) (Some (declared f)) h e = absurd h
undeclared_means t (Some (Defined m)) None h e = absurd h
undeclared_means t (Some (Declared i)) k h e = cc

-- a symbol that a name stands for has that name
pub declared_name : (g : Signature) (n : Name) (f : Symbol) → declared_symbol (known_as g n) ≡ Some f → f.name ≡ n
declared_name [] n f e = cc
declared_name (of_sort m s ∷ ds) n f e = declared_name ds n f e
declared_name (of_function k ∷ ds) n f e = go (bytes_eq (known_name k) n) (bytes_eq-Decides (known_name k) n) e (declared_name ds n f)
  where
    here : (k : Known) → known_name k ≡ n → declared_symbol (Some k) ≡ Some f → f.name ≡ n
    here (declared x) same e = let is : x ≡ f = cc in ap (λ (y : Symbol). y.name) (sym is) ∙ same
    here (defined d) same e = cc

    go : (b : Bool) → Decides b (known_name k ≡ n) → declared_symbol (cond b (Some k) (known_as ds n)) ≡ Some f → (declared_symbol (known_as ds n) ≡ Some f → f.name ≡ n) → f.name ≡ n
    go true d e rest = here k (d.0 refl) e
    go false d e rest = rest e

module _ (g : Signature) (names : List Name) (t : Tree) where
  abbrev after_word : ReadModel Word → ReadModel Symbol
  after_word r = r >>= λ w. found_or (declared_symbol (known_as g w.bytes)) w.at UnknownSymbol >>= λ f. require (not (among names w.bytes)) w.at Twice >>= λ new. Ok f

  abbrev by_word : Word → Option Symbol → Bool → ReadModel Symbol
  by_word w o b = found_or o w.at UnknownSymbol >>= λ f. require (not b) w.at Twice >>= λ new. Ok f

  pub name_is : (w : Word) (f : Symbol) → symbol_read t ≡ Ok w → declared_symbol (known_as g w.bytes) ≡ Some f → among names w.bytes ≡ false → Ok f ≡ defined_name g names t
  unfolding defined_name found_or require ◌>>=◌
  name_is w f e d new = sym (ap after_word e ∙ λ i. by_word w (d i) (new i))

  pub name_twice : (w : Word) (f : Symbol) (x : LocatedFault) → symbol_read t ≡ Ok w → declared_symbol (known_as g w.bytes) ≡ Some f → among names w.bytes ≡ true → x ≡ record { offset = w.at; kind = Twice }
      → Err (located_view x) ≡ defined_name g names t
  unfolding defined_name found_or require ◌>>=◌
  name_twice w f x e d old is = ap (λ (y : LocatedFault). Err (located_view y)) is ∙ sym (ap after_word e ∙ λ i. by_word w (d i) (old i))

  pub name_unknown : (w : Word) (x : LocatedFault) → symbol_read t ≡ Ok w → declared_symbol (known_as g w.bytes) ≡ None → x ≡ record { offset = w.at; kind = UnknownSymbol } → Err (located_view x) ≡ defined_name g names t
  unfolding defined_name found_or ◌>>=◌
  name_unknown w x e d is = ap (λ (y : LocatedFault). Err (located_view y)) is ∙ sym (ap after_word e ∙ λ i. by_word w (d i) (among names w.bytes))

  pub name_fails : (f : ModelFault) → symbol_read t ≡ Err f → Err f ≡ defined_name g names t
  unfolding defined_name ◌>>=◌
  name_fails f e = sym (ap after_word e)

-- the table of a symbol
module _ (g : Signature) (s : Symbol) (p : DefinitionParts) where
  abbrev by_checks : ReadModel Parameters → ReadModel (Unit {0}) → ReadModel Table
  by_checks r u = r >>= λ ps. u >>= λ result. body_read g ps s.result p.body

  pub table_is : (ps : Parameters) → parameter_list_read g s.parameters p.parameters ≡ Ok ps → sort_read g s.result p.sort ≡ Ok tt → table_by g s p ≡ body_read g ps s.result p.body
  unfolding table_by ◌>>=◌
  table_is ps e h i = by_checks (e i) (h i)

  pub table_no_sort : (ps : Parameters) (f : ModelFault) → parameter_list_read g s.parameters p.parameters ≡ Ok ps → sort_read g s.result p.sort ≡ Err f → table_by g s p ≡ Err f
  unfolding table_by ◌>>=◌
  table_no_sort ps f e h i = by_checks (e i) (h i)

  pub table_no_parameters : (f : ModelFault) → parameter_list_read g s.parameters p.parameters ≡ Err f → table_by g s p ≡ Err f
  unfolding table_by ◌>>=◌
  table_no_parameters f e i = by_checks (e i) (sort_read g s.result p.sort)

-- a definition by its name and its table
module _ (g : Signature) (names : List Name) (p : DefinitionParts) where
  pub definition_is : (s : Symbol) (t : Table) → Ok s ≡ defined_name g names p.name → table_by g s p ≡ Ok t → definition_by g names p ≡ Ok (record { symbol = s; table = t })
  unfolding definition_by ◌>>=◌
  definition_is s t e h = ap (λ r. r >>= λ f. table_by g f p >>= λ table. Ok (record { symbol = f; table = table })) (sym e) ∙ ap (λ r. r >>= λ table. Ok (record { symbol = s; table = table })) h

  pub definition_no_table : (s : Symbol) (f : ModelFault) → Ok s ≡ defined_name g names p.name → table_by g s p ≡ Err f → definition_by g names p ≡ Err f
  unfolding definition_by ◌>>=◌
  definition_no_table s f e h = ap (λ r. r >>= λ x. table_by g x p >>= λ table. Ok (record { symbol = x; table = table })) (sym e) ∙ ap (λ r. r >>= λ table. Ok (record { symbol = s; table = table })) h

  pub definition_no_name : (f : ModelFault) → Err f ≡ defined_name g names p.name → definition_by g names p ≡ Err f
  unfolding definition_by ◌>>=◌
  definition_no_name f e = ap (λ r. r >>= λ x. table_by g x p >>= λ table. Ok (record { symbol = x; table = table })) (sym e)

module _ (g : Signature) (names : List Name) where
  abbrev by_definition : ℕ → Option DefinitionParts → ReadModel DefinedSymbol
  by_definition at (Some p) = definition_by g names p
  by_definition at None = wrong at BadShape

  -- a symbol with its table
  abbrev make : Symbol → Table → DefinedSymbol
  make s t = record { symbol = s; table = t }

  -- a table is read, and then the definition is made
  joined : (s : Symbol) (a : ReadModel Parameters) (b : ReadModel (Unit {0})) (body : Tree)
      → (a >>= λ ps. b >>= λ result. body_read g ps s.result body >>= λ table. Ok (make s table)) ≡ ((a >>= λ ps. b >>= λ result. body_read g ps s.result body) >>= λ table. Ok (make s table))
  unfolding ◌>>=◌
  joined s (Ok ps) (Ok u) body = refl
  joined s (Ok ps) (Err f) body = refl
  joined s (Err f) b body = refl

  definition_split : (at end : ℕ) (ts : Trees) → definition_read g names (list at ts end) ≡ by_definition at (definition_in ts)
  unfolding definition_read definition_in definition_by table_by require ◌>>=◌
  definition_split at end none = refl
  definition_split at end (more (list x us y) ts) = refl
  definition_split at end (more (atom x k w) none) = refl
  definition_split at end (more (atom x k w) (more f none)) = refl
  definition_split at end (more (atom x k w) (more f (more ps none))) = refl
  definition_split at end (more (atom x k w) (more f (more ps (more s none)))) = refl
  definition_split at end (more (atom x k w) (more f (more ps (more s (more b none))))) = go (is_reserved k && bytes_eq w (codes "define-fun"))
    where
      go : (c : Bool) → (require c at BadShape >>= λ definition. defined_name g names f >>= λ x. parameter_list_read g x.parameters ps >>= λ qs. sort_read g x.result s >>= λ result. body_read g qs x.result b >>= λ table. Ok (make x table))
          ≡ by_definition at (shapes.◌>>=◌ (passes c) (λ defines. Some (record { name = f; parameters = ps; sort = s; body = b })))
      go true = λ i. defined_name g names f >>= λ x. joined x (parameter_list_read g x.parameters ps) (sort_read g x.result s) b i
      go false = refl
  definition_split at end (more (atom x k w) (more f (more ps (more s (more b (more u us)))))) = refl

  module _ (t : Tree) (at end : ℕ) (ts : Trees) (is : list at ts end ≡ t) where
    pub definition_parted : (p : DefinitionParts) → Some p ≡ definition_in ts → definition_read g names t ≡ definition_by g names p
    definition_parted p e = ap (definition_read g names) (sym is) ∙ definition_split at end ts ∙ ap (by_definition at) (sym e)

    pub definition_none : None ≡ definition_in ts → definition_read g names t ≡ wrong at BadShape
    definition_none e = ap (definition_read g names) (sym is) ∙ definition_split at end ts ∙ ap (by_definition at) (sym e)

  pub definition_atom : (t : Tree) (at : ℕ) (k : Kind) (n : Name) → atom at k n ≡ t → definition_read g names t ≡ wrong at BadShape
  unfolding definition_read
  definition_atom t at k n is = ap (definition_read g names) (sym is)
