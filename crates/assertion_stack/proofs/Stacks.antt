-- What commands make of a stack.
use Rattle.std.proofs.Common.{◌≡◌, ℕ, suc, ◌+◌, take, Bool, true, false, not, ◌&&◌, List, [], ◌∷◌, ◌++◌, length, Some, refl, sym, ap, ◌∙◌, subst, arith, length-append}
use Rattle.std.specs.Prelude.{Ok, Err, nat_le, nat_lt}
use Rattle.std.proofs.lemmas.Bool.Decides.{nat_tests}
use Rattle.std.proofs.lemmas.List.{append-nil, map-append, length-map}
use Rattle.std.proofs.lemmas.List.Elements.{All-push, All-nil}
use Rattle.spec_text.specs.declared.Fault.TheVariants.{Reserved, UnknownLogic, WrongMode, Full}
use Rattle.spec_text.specs.Bytes.{Name, among}
use Rattle.spec_text.specs.Faults.{Located}
use Rattle.spec_text.specs.Shapes.{Word, is_reserved}
use Rattle.spec_text.specs.Answers.{Answer, ◌>>=◌, refused, require}
use Rattle.spec_text.specs.Trees.{Tree, Trees}
use Rattle.spec_sorts.specs.Terms.{Sort, Truth, Declared, Term}
use Rattle.spec_sorts.specs.Signatures.{Definition, Declaration, of_sort, of_function, declared, Signature, symbols_in, sort_as}
use Rattle.spec_sorts.specs.Signatures as signatures
use Rattle.spec_sorts.specs.Subterms.{has_room}
use Rattle.spec_sorts.proofs.Signatures.{symbols_with}
use Rattle.spec_reading.specs.Names.{Setting, script, new_name, is_function, is_sort}
use Rattle.spec_reading.specs.Sorts.{sort_in, sorts_in}
use Rattle.spec_reading.specs.Reading.{Reading, reading_of_sort}
use Rattle.spec_reading.specs.Definitions.{Parts, definitions_in}
use Rattle.spec_commands.specs.Commands.{SetLogic, SetOption, DeclareSort, DefineSort, DeclareFun, DefineFun, Assert}
use Rattle.spec_commands.specs.Stack.{Assertion, Stack, Key, did, empty_stack, signature_of, assertions_of, terms_asserted, begun, with_declaration, with_definitions, with_assertion, logics, key_named, truth_in, with_option, may_set, option_set, roomy, terms_defined, performed, joined, levels_open}
use Rattle.spec_commands.proofs.Kept.{signature_last, signature_with}
use Rattle.spec_commands.proofs.Levels.{open_last, levels_with, options_with, begun_defined, up_to_defined, up_to_asserted, leveled_empty, leveled_defined, leveled_asserted}
use Rattle.term_core.specs.declared.ids.TermId.{TermId}
use Rattle.term_core.specs.Tables.{TableView, term_at, IsIn, AreIn, clause_at}
use Rattle.term_core.proofs.TermsExtend.{AreIn-kept, clause_at-kept, Extends-self}
use Rattle.term_reader.specs.Building.{KeepsTable, MeansTerm}
use Rattle.term_reader.specs.Scopes.{ScopeView, IsScope, ScopeMeans}
use Rattle.term_reader.proofs.OverTable.{meaning_kept}
use Rattle.term_reader.specs.Names.{located_of}
use Rattle.term_reader.specs.declared.faults.ReadError.{ReadError}
use Rattle.term_reader.specs.declared.faults.ReadError.TheVariants as errors
use Rattle.sort_check.specs.Reads as parser
use Rattle.sort_check.specs.Reads.{within, roomy_reading, roomy_definitions, Store, store, StoreGrows, EndsTerm, EndsDefinition}
use Rattle.assertion_stack.specs.declared.options.Options.{Options as CodeOptions}
use Rattle.assertion_stack.specs.declared.stack.Stack.{Stack as CodeStack}
use Rattle.assertion_stack.specs.Assertions.{AssertionsView, no_assertions, as_written, all_written}
use Rattle.assertion_stack.specs.Views.{Fails}
use Rattle.assertion_stack.specs.Levels.{Contents, States, AreMarked}
use Rattle.assertion_stack.specs.Stacks.{options_meant, OverTable, over_table, contents, IsStack, with_asserted}
use Rattle.assertion_stack.proofs.Lasts.{rest_with, sorts_with, terms_last, written_last}
use Rattle.assertion_stack.proofs.Cuts.{itself, AreEven, HasMore, table_grows, grows, marks_grown, marks_begun, marks_set, none_marked}

-- what is stated, in a table that has terms more
states_grown : (old new : TableView) (v : ScopeView) (a : AssertionsView) (g : Signature) (asserted : List Assertion) → KeepsTable old new → States (record { table = old; scope = v; assertions = a }) g asserted → States (record { table = new; scope = v; assertions = a }) g asserted
states_grown old new v a g asserted k h = record {
  scope = meaning_kept old new k v g h.scope;
  symbols = ap (λ d. d.symbols) k.declared ∙ h.symbols;
  sorts = λ n e. ap (λ d. among d.sorts n) k.declared ∙ h.sorts n e;
  inside = AreIn-kept old new k.extends a.ids h.inside;
  terms = clause_at-kept old new k.extends a.ids h.inside ∙ h.terms;
  written = h.written;
}

-- a stack in a table that has terms more
pub stack_grown : (limit : ℕ) (old new : TableView) (x : CodeStack) (s : Stack) → IsStack limit (over_table old x) s → KeepsTable old new → IsStack limit (over_table new x) s
stack_grown limit old new x s h k =
    let c : Contents = contents (over_table old x) in record {
      limit_is = h.limit_is;
      states = states_grown old new x.scope x.assertions (signature_of s) (assertions_of s) k h.states;
      marked = marks_grown x.marks c s h.marked (record c { table = new }) s (table_grows c new k.extends) h.marked.leveled refl refl (λ n lt. refl) (λ off n lt. refl);
      options = h.options;
      started = h.started;
    }

-- nothing is stated
pub none_stated : (c : Contents) → ScopeMeans c.table c.scope [] → c.table.sorts ≡ [] → c.table.symbols ≡ [] → c.assertions ≡ no_assertions → States c [] []
none_stated c scope sorts symbols assertions = record {
  scope = scope;
  symbols = symbols;
  sorts = λ n e. ap (λ ns. among ns n) sorts;
  inside = subst (λ a. AreIn c.table a.ids) (sym assertions) (All-nil (IsIn c.table));
  terms = ap (λ a. clause_at c.table a.ids) assertions;
  written = ap (λ a. a.written) assertions;
}

-- the first stack
pub first_stack : (limit : ℕ) (t : TableView) (x : CodeStack) → x.limit ≡ limit → ScopeMeans t x.scope [] → t.sorts ≡ [] → t.symbols ≡ [] → x.assertions ≡ no_assertions → x.marks ≡ [] → options_meant x.options ≡ empty_stack.options → x.started ≡ false → IsStack limit (over_table t x) empty_stack
first_stack limit t x l scope sorts symbols assertions marks options started =
    let c : Contents = contents (over_table t x) in record {
      limit_is = l;
      states = none_stated c scope sorts symbols assertions;
      marked = subst (λ ms. AreMarked ms c empty_stack) (sym marks) (none_marked c empty_stack leveled_empty refl);
      options = options;
      started = started;
    }

module _ (limit : ℕ) (t : TableView) (x : CodeStack) (s : Stack) (h : IsStack limit (over_table t x) s) where
  -- the start is over
  pub begun_stack : IsStack limit (over_table t (record x { started = true })) (begun s)
  begun_stack = record { limit_is = h.limit_is; states = h.states; marked = marks_begun x.marks (contents (over_table t x)) s h.marked; options = h.options; started = refl }

  -- an option is set
  pub option_stack : (k : Key) (b : Bool) (o : CodeOptions) → may_set k s ≡ true → options_meant o ≡ with_option k b (options_meant x.options) → IsStack limit (over_table t (record x { options = o })) (record s { options = with_option k b s.options })
  option_stack k b o may e = record {
    limit_is = h.limit_is;
    states = h.states;
    marked = marks_set x.marks (contents (over_table t x)) s h.marked k b may;
    options = e ∙ ap (with_option k b) h.options;
    started = h.started;
  }

-- how each asserted term is written
written_even : (c : Contents) (g : Signature) (asserted : List Assertion) → States c g asserted → length c.assertions.written ≡ length c.assertions.ids
written_even c g asserted h =
    ap length h.written ∙ length-map asserted (λ (a : Assertion). as_written a.text) ∙ sym (ap length h.terms ∙ length-map asserted (λ (a : Assertion). a.term)) ∙ length-map c.assertions.ids (term_at c.table)

pub one_for_each : (limit : ℕ) (x : OverTable) (s : Stack) → IsStack limit x s → length x.stack.assertions.written ≡ length x.stack.assertions.ids
one_for_each limit x s h = written_even (contents x) (signature_of s) (assertions_of s) h.states

-- what is stated has as many of each
pub even_stated : (limit : ℕ) (x : OverTable) (s : Stack) → IsStack limit x s → IsScope x.stack.scope.sort_names x.stack.scope.sorts x.stack.scope.names x.stack.scope.functions → AreEven (contents x)
even_stated limit x s h long = record { scope = long; written = one_for_each limit x s h }

-- setting a logic, by its tests
module _ (limit at : ℕ) (s : Stack) (w : Word) where
  logic_by : (a b c : Bool) → is_reserved w.kind ≡ a → among logics w.bytes ≡ b → s.started ≡ c
      → performed limit at s (SetLogic w) ≡ (require (not a) w.at Reserved >>= λ free. require b w.at UnknownLogic >>= λ known. require (not c) at WrongMode >>= λ early. Ok (did (begun s)))
  logic_by a b c e f g = λ i. require (not (e i)) w.at Reserved >>= λ free. require (f i) w.at UnknownLogic >>= λ known. require (not (g i)) at WrongMode >>= λ early. Ok (did (begun s))

  pub logic_reserved : is_reserved w.kind ≡ true → performed limit at s (SetLogic w) ≡ refused w.at Reserved
  unfolding require ◌>>=◌
  logic_reserved e = logic_by true (among logics w.bytes) s.started e refl refl

  pub logic_unknown : is_reserved w.kind ≡ false → among logics w.bytes ≡ false → performed limit at s (SetLogic w) ≡ refused w.at UnknownLogic
  unfolding require ◌>>=◌
  logic_unknown e f = logic_by false false s.started e f refl

  pub logic_late : is_reserved w.kind ≡ false → among logics w.bytes ≡ true → s.started ≡ true → performed limit at s (SetLogic w) ≡ refused at WrongMode
  unfolding require ◌>>=◌
  logic_late e f g = logic_by false true true e f g

  pub logic_set : is_reserved w.kind ≡ false → among logics w.bytes ≡ true → s.started ≡ false → performed limit at s (SetLogic w) ≡ Ok (did (begun s))
  unfolding require ◌>>=◌
  logic_set e f g = logic_by false true false e f g

-- setting an option, by its name and its value
module _ (limit at : ℕ) (s : Stack) (n : Name) (v : Tree) (k : Key) (b : Bool) (key : key_named n ≡ Some k) (value : truth_in v ≡ Some b) where
  abbrev set_to : Stack
  set_to = record s { options = with_option k b s.options }

  option_by : (c : Bool) → may_set k s ≡ c → performed limit at s (SetOption n v) ≡ (require c at WrongMode >>= λ early. Ok (did set_to))
  option_by c e = (λ i. option_set at s (key i) (value i)) ∙ ap (λ d. require d at WrongMode >>= λ early. Ok (did set_to)) e

  pub option_late : may_set k s ≡ false → performed limit at s (SetOption n v) ≡ refused at WrongMode
  unfolding require ◌>>=◌
  option_late e = option_by false e

  pub option_done : may_set k s ≡ true → performed limit at s (SetOption n v) ≡ Ok (did set_to)
  unfolding require ◌>>=◌
  option_done e = option_by true e

-- declaring and defining sorts, by their parts
module _ (limit at : ℕ) (s : Stack) (w : Word) where
  pub sort_name_refused : (f : Located) → new_name script (is_sort (signature_of s)) w ≡ Err f → performed limit at s (DeclareSort w) ≡ Err f
  unfolding ◌>>=◌
  sort_name_refused f e = ap (λ a. a >>= λ n. roomy limit at [] (begun (with_declaration s (of_sort n (Declared n))))) e

  pub sort_declared : (n : Name) → new_name script (is_sort (signature_of s)) w ≡ Ok n → performed limit at s (DeclareSort w) ≡ roomy limit at [] (begun (with_declaration s (of_sort n (Declared n))))
  unfolding ◌>>=◌
  sort_declared n e = ap (λ a. a >>= λ n. roomy limit at [] (begun (with_declaration s (of_sort n (Declared n))))) e

  module _ (t : Tree) where
    sort_by : (a : Answer Name) (b : Answer Sort) → new_name script (is_sort (signature_of s)) w ≡ a → sort_in (signature_of s) t ≡ b
        → performed limit at s (DefineSort w t) ≡ (a >>= λ n. b >>= λ sort. roomy limit at [] (begun (with_declaration s (of_sort n sort))))
    sort_by a b e f = λ i. e i >>= λ n. f i >>= λ sort. roomy limit at [] (begun (with_declaration s (of_sort n sort)))

    pub alias_refused : (f : Located) → new_name script (is_sort (signature_of s)) w ≡ Err f → performed limit at s (DefineSort w t) ≡ Err f
    unfolding ◌>>=◌
    alias_refused f e = sort_by (Err f) (sort_in (signature_of s) t) e refl

    pub alias_not_sorted : (n : Name) (f : Located) → new_name script (is_sort (signature_of s)) w ≡ Ok n → sort_in (signature_of s) t ≡ Err f → performed limit at s (DefineSort w t) ≡ Err f
    unfolding ◌>>=◌
    alias_not_sorted n f e g = sort_by (Ok n) (Err f) e g

    pub alias_defined : (n : Name) (r : Sort) → new_name script (is_sort (signature_of s)) w ≡ Ok n → sort_in (signature_of s) t ≡ Ok r → performed limit at s (DefineSort w t) ≡ roomy limit at [] (begun (with_declaration s (of_sort n r)))
    unfolding ◌>>=◌
    alias_defined n r e g = sort_by (Ok n) (Ok r) e g

-- declaring functions, by their parts
module _ (limit at : ℕ) (s : Stack) (w : Word) (ts : Trees) (t : Tree) where
  abbrev symbol_stack : Name → List Sort → Sort → Stack
  symbol_stack n ps r = begun (with_declaration s (of_function (declared (record { name = n; parameters = ps; result = r }))))

  function_by : (a : Answer Name) (b : Answer (List Sort)) (c : Answer Sort) → new_name script (is_function (signature_of s)) w ≡ a → sorts_in (signature_of s) ts ≡ b → sort_in (signature_of s) t ≡ c
      → performed limit at s (DeclareFun w ts t) ≡ (a >>= λ n. b >>= λ ps. c >>= λ r. roomy limit at [] (symbol_stack n ps r))
  function_by a b c e f g = λ i. e i >>= λ n. f i >>= λ ps. g i >>= λ r. roomy limit at [] (symbol_stack n ps r)

  pub function_refused : (f : Located) → new_name script (is_function (signature_of s)) w ≡ Err f → performed limit at s (DeclareFun w ts t) ≡ Err f
  unfolding ◌>>=◌
  function_refused f e = function_by (Err f) (sorts_in (signature_of s) ts) (sort_in (signature_of s) t) e refl refl

  pub parameters_refused : (n : Name) (f : Located) → new_name script (is_function (signature_of s)) w ≡ Ok n → sorts_in (signature_of s) ts ≡ Err f → performed limit at s (DeclareFun w ts t) ≡ Err f
  unfolding ◌>>=◌
  parameters_refused n f e g = function_by (Ok n) (Err f) (sort_in (signature_of s) t) e g refl

  pub parameters_fail : (n : Name) (stop : ReadError) → new_name script (is_function (signature_of s)) w ≡ Ok n → Fails stop (sorts_in (signature_of s) ts) → Fails stop (performed limit at s (DeclareFun w ts t))
  parameters_fail n (errors.Fault f) e g = parameters_refused n (located_of f) e g
  parameters_fail n errors.Memory e g = tt

  pub result_refused : (n : Name) (ps : List Sort) (f : Located) → new_name script (is_function (signature_of s)) w ≡ Ok n → sorts_in (signature_of s) ts ≡ Ok ps → sort_in (signature_of s) t ≡ Err f → performed limit at s (DeclareFun w ts t) ≡ Err f
  unfolding ◌>>=◌
  result_refused n ps f e g h = function_by (Ok n) (Ok ps) (Err f) e g h

  pub function_declared : (n : Name) (ps : List Sort) (r : Sort) → new_name script (is_function (signature_of s)) w ≡ Ok n → sorts_in (signature_of s) ts ≡ Ok ps → sort_in (signature_of s) t ≡ Ok r → performed limit at s (DeclareFun w ts t) ≡ roomy limit at [] (symbol_stack n ps r)
  unfolding ◌>>=◌
  function_declared n ps r e g h = function_by (Ok n) (Ok ps) (Ok r) e g h

-- room for one name more
module _ (limit at : ℕ) (s : Stack) (d : Declaration) where
  room_by : (b : Bool) → has_room limit (signature_of s ++ d ∷ []) [] ≡ b → roomy limit at [] (begun (with_declaration s d)) ≡ (require b at Full >>= λ fits. Ok (did (begun (with_declaration s d))))
  room_by b e = ap (λ c. require c at Full >>= λ fits. Ok (did (begun (with_declaration s d)))) (ap (λ x. has_room limit x []) (signature_last s d) ∙ e)

  room_is : (n : ℕ) → n ≡ length (signature_of s) → has_room limit (signature_of s ++ d ∷ []) [] ≡ nat_lt n limit
  room_is n e = go (length (signature_of s ++ d ∷ [])) (omega (arith, e, length-append (signature_of s) (d ∷ [])))
    where
      go : (m : ℕ) → m ≡ n + 1 → (nat_le m limit && nat_le 0 limit) ≡ nat_lt n limit
      go m f = grind (arith, nat_tests, f)

  pub no_room : (n : ℕ) → n ≡ length (signature_of s) → nat_lt n limit ≡ false → roomy limit at [] (begun (with_declaration s d)) ≡ refused at Full
  unfolding require ◌>>=◌
  no_room n e f = room_by false (room_is n e ∙ f)

  pub has_place : (n : ℕ) → n ≡ length (signature_of s) → nat_lt n limit ≡ true → roomy limit at [] (begun (with_declaration s d)) ≡ Ok (did (begun (with_declaration s d)))
  unfolding require ◌>>=◌
  has_place n e f = room_by true (room_is n e ∙ f)

-- an assertion is what is read with room, with an assertion more
module _ (limit at : ℕ) (s : Stack) (t : Tree) where
  abbrev pub asserted : Reading → Stack
  asserted r = begun (with_assertion (with_definitions s r.made) t r.term)

  pub assert_by : performed limit at s (Assert t) ≡ (roomy_reading (record { limit = Some limit; at = at }) script (signature_of s) Truth t >>= λ r. Ok (did (asserted r)))
  unfolding require ◌>>=◌ roomy_reading
  assert_by = go (reading_of_sort script (signature_of s) [] Truth t)
    where
      fits : (r : Reading) (b : Bool) → (require b at Full >>= λ room. Ok (did (asserted r))) ≡ ((require b at Full >>= λ fits. Ok r) >>= λ r. Ok (did (asserted r)))
      fits r true = refl
      fits r false = refl

      go : (a : Answer Reading) → (a >>= λ r. roomy limit at (r.term ∷ []) (asserted r)) ≡ ((a >>= λ r. within (record { limit = Some limit; at = at }) (signatures.with_definitions (signature_of s) r.made) (r.term ∷ []) >>= λ fits. Ok r) >>= λ r. Ok (did (asserted r)))
      go (Err f) = refl
      go (Ok r) = ap (λ x. require (has_room limit x (r.term ∷ [])) at Full >>= λ room. Ok (did (asserted r))) (signature_with s r.made) ∙ fits r (has_room limit (signatures.with_definitions (signature_of s) r.made) (r.term ∷ []))

  -- by what was read in a room and a setting that are these
  module _ (r : parser.Room) (w : Setting) (room_is : r ≡ record { limit = Some limit; at = at }) (script_is : w ≡ script) where
    same_reading : roomy_reading r w (signature_of s) Truth t ≡ roomy_reading (record { limit = Some limit; at = at }) script (signature_of s) Truth t
    same_reading = λ i. roomy_reading (room_is i) (script_is i) (signature_of s) Truth t

    pub assert_done : (x : Reading) → roomy_reading r w (signature_of s) Truth t ≡ Ok x → performed limit at s (Assert t) ≡ Ok (did (asserted x))
    unfolding ◌>>=◌
    assert_done x e = assert_by ∙ ap (λ a. a >>= λ y. Ok (did (asserted y))) (sym same_reading ∙ e)

    pub assert_fails : (new : Store) (stop : ReadError) → EndsTerm (signature_of s) new (roomy_reading r w (signature_of s) Truth t) (Err stop) → Fails stop (performed limit at s (Assert t))
    unfolding ◌>>=◌
    assert_fails new (errors.Fault f) e = assert_by ∙ ap (λ a. a >>= λ y. Ok (did (asserted y))) (sym same_reading ∙ e)
    assert_fails new errors.Memory e = tt

-- a definition is what is read with room, with definitions more
module _ (limit at : ℕ) (s : Stack) (d : Parts) where
  abbrev pub defined_stack : List Definition → Stack
  defined_stack ds = begun (with_definitions s ds)

  pub define_by : performed limit at s (DefineFun d) ≡ (roomy_definitions (record { limit = Some limit; at = at }) script (signature_of s) d >>= λ ds. Ok (did (defined_stack ds)))
  unfolding require ◌>>=◌ roomy_definitions
  define_by = go (definitions_in script (signature_of s) d)
    where
      fits : (ds : List Definition) (b : Bool) → (require b at Full >>= λ room. Ok (did (defined_stack ds))) ≡ ((require b at Full >>= λ fits. Ok ds) >>= λ ds. Ok (did (defined_stack ds)))
      fits ds true = refl
      fits ds false = refl

      go : (a : Answer (List Definition)) → (a >>= λ ds. roomy limit at (terms_defined ds) (defined_stack ds)) ≡ ((a >>= λ ds. within (record { limit = Some limit; at = at }) (signatures.with_definitions (signature_of s) ds) (terms_defined ds) >>= λ fits. Ok ds) >>= λ ds. Ok (did (defined_stack ds)))
      go (Err f) = refl
      go (Ok ds) = ap (λ x. require (has_room limit x (terms_defined ds)) at Full >>= λ room. Ok (did (defined_stack ds))) (signature_with s ds) ∙ fits ds (has_room limit (signatures.with_definitions (signature_of s) ds) (terms_defined ds))

  -- by what was read in a room and a setting that are these
  module _ (r : parser.Room) (w : Setting) (room_is : r ≡ record { limit = Some limit; at = at }) (script_is : w ≡ script) where
    same_definitions : roomy_definitions r w (signature_of s) d ≡ roomy_definitions (record { limit = Some limit; at = at }) script (signature_of s) d
    same_definitions = λ i. roomy_definitions (room_is i) (script_is i) (signature_of s) d

    pub define_done : (ds : List Definition) → roomy_definitions r w (signature_of s) d ≡ Ok ds → performed limit at s (DefineFun d) ≡ Ok (did (defined_stack ds))
    unfolding ◌>>=◌
    define_done ds e = define_by ∙ ap (λ a. a >>= λ x. Ok (did (defined_stack x))) (sym same_definitions ∙ e)

    pub define_fails : (new : Store) (stop : ReadError) → EndsDefinition (signature_of s) new (roomy_definitions r w (signature_of s) d) (Err stop) → Fails stop (performed limit at s (DefineFun d))
    unfolding ◌>>=◌
    define_fails new (errors.Fault f) e = define_by ∙ ap (λ a. a >>= λ x. Ok (did (defined_stack x))) (sym same_definitions ∙ e)
    define_fails new errors.Memory e = tt

-- a stack with names and terms that were read
module _ (limit : ℕ) (old new : TableView) (x : CodeStack) (s : Stack) (v : ScopeView) (ds : List Definition) (h : IsStack limit (over_table old x) s) (grown : StoreGrows (store old x.scope) (store new v)) (represents : ScopeMeans new v (signatures.with_definitions (signature_of s) ds)) where
  named_stated : States (contents (over_table new (record x { scope = v }))) (signature_of (with_definitions s ds)) (assertions_of (with_definitions s ds))
  named_stated =
      let k = grown.keeps in
      let g = h.states in record {
        scope = subst (ScopeMeans new v) (sym (signature_with s ds)) represents;
        symbols = ap (λ d. d.symbols) k.declared ∙ g.symbols ∙ sym (symbols_with (signature_of s) ds) ∙ ap symbols_in (sym (signature_with s ds));
        sorts = λ n e. ap (λ d. among d.sorts n) k.declared ∙ g.sorts n (sym (sorts_with (signature_of s) ds n) ∙ ap (λ y. sort_as y n) (sym (signature_with s ds)) ∙ e);
        inside = AreIn-kept old new k.extends x.assertions.ids g.inside;
        terms = clause_at-kept old new k.extends x.assertions.ids g.inside ∙ g.terms ∙ ap (λ (y : Stack). terms_asserted (assertions_of y)) (sym (rest_with s ds));
        written = g.written ∙ ap (λ (y : Stack). all_written (assertions_of y)) (sym (rest_with s ds));
      }

  -- definitions more, by a command that ends the start
  pub named : IsScope x.scope.sort_names x.scope.sorts x.scope.names x.scope.functions → IsStack limit (over_table new (record x { scope = v; started = true })) (begun (with_definitions s ds))
  named long =
      let began = begun_stack limit old x s h in
      let c : Contents = contents (over_table old x) in
      let d : Contents = contents (over_table new (record x { scope = v })) in
      let w = grown.widens in
      let more : HasMore c d = record {
        table = grown.keeps.extends;
        sort_names = ([], w.sort_names ∙ sym (append-nil x.scope.sort_names));
        sorts = ([], w.sorts ∙ sym (append-nil x.scope.sorts));
        names = (w.more_names, w.names);
        functions = (w.more_functions, w.functions);
        ids = itself x.assertions.ids;
        written = itself x.assertions.written;
      } in record {
        limit_is = h.limit_is;
        states = named_stated;
        marked = subst (AreMarked x.marks d) (begun_defined s ds)
            (marks_grown x.marks c (begun s) began.marked d (with_definitions (begun s) ds) (grows c d (even_stated limit (over_table old x) s h long) more) (leveled_defined (begun s) ds refl began.marked.leveled)
            (ap levels_open (levels_with (begun s) ds)) (ap (λ o. o.global_declarations) (options_with (begun s) ds)) (λ k lt. ap (λ ls. joined (take (suc k) ls)) (levels_with (begun s) ds))
            (λ off k lt. ap signature_of (up_to_defined k (begun s) ds off lt)));
        options = h.options ∙ ap (λ (y : Stack). y.options) (sym (rest_with s ds));
        started = refl;
      }

-- and an assertion more
pub one_asserted : (limit : ℕ) (t : TableView) (x : CodeStack) (s : Stack) (tree : Tree) (u : Term) (id : TermId) → IsStack limit (over_table t x) s → IsScope x.scope.sort_names x.scope.sorts x.scope.names x.scope.functions → MeansTerm t u id
    → IsStack limit (over_table t (with_asserted x id (as_written tree))) (begun (with_assertion s tree u))
one_asserted limit t x s tree u id h long m =
    let a : Assertion = record { text = tree; term = u } in
    let c : Contents = contents (over_table t x) in
    let d : Contents = contents (over_table t (with_asserted x id (as_written tree))) in
    let more : HasMore c d = record {
      table = Extends-self t;
      sort_names = itself x.scope.sort_names;
      sorts = itself x.scope.sorts;
      names = itself x.scope.names;
      functions = itself x.scope.functions;
      ids = (id ∷ [], refl);
      written = (as_written tree ∷ [], refl);
    } in
    let next : Stack = with_assertion s tree u in
    let marked : AreMarked x.marks d next =
    marks_grown x.marks c s h.marked d next (grows c d (even_stated limit (over_table t x) s h long) more) (leveled_asserted s tree u h.marked.leveled) (open_last s.levels a) refl (λ k lt. ap assertions_of (up_to_asserted k s tree u lt)) (λ off k lt. refl) in record {
      limit_is = h.limit_is;
      states = record {
        scope = h.states.scope;
        symbols = h.states.symbols;
        sorts = h.states.sorts;
        inside = All-push (IsIn t) x.assertions.ids id h.states.inside m.0;
        terms = map-append (term_at t) x.assertions.ids (id ∷ []) ∙ (λ i. h.states.terms i ++ m.1 i ∷ []) ∙ sym (terms_last s.levels a);
        written = ap (λ ts. ts ++ as_written tree ∷ []) h.states.written ∙ sym (written_last s.levels a);
      };
      marked = marks_begun x.marks d next marked;
      options = h.options;
      started = refl;
    }
