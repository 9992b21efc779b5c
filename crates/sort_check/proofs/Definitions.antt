-- A definition by its parts.
use Rattle.std.proofs.Common.{◌≡◌, Bool, true, false, ◌||◌, cond, List, [], ◌∷◌, ◌++◌, length, map, Some, None, refl, ap, sym, ◌∙◌, subst, arith}
use Rattle.std.specs.Prelude.{Result, Ok, Err, Vec}
use Rattle.std.specs.declared.alloc.Global.{Global}
use Rattle.std.specs.Str.{bytes_eq}
use Rattle.std.proofs.lemmas.List.{length-append, length-map}
use Rattle.spec_text.specs.Bytes.{Name}
use Rattle.spec_text.specs.Shapes.{Word}
use Rattle.spec_text.specs.Answers.{Answer, ◌>>=◌}
use Rattle.spec_text.proofs.AnswerLaws.{answer, went}
use Rattle.spec_text.specs.Trees.{Tree}
use Rattle.spec_sorts.specs.Terms.{Sort, Term}
use Rattle.spec_sorts.specs.Signatures.{Definition, defined, Signature, known_as, definition, with_definitions}
use Rattle.spec_sorts.proofs.Signatures.{sort_same}
use Rattle.spec_reading.specs.Names.{Setting, new_name, is_function}
use Rattle.spec_reading.specs.Sorts.{sort_in}
use Rattle.spec_reading.specs.Reading.{Bound, Annotated, Reading, reading, reading_of_sort, naming, made_by, annotated_as}
use Rattle.spec_reading.specs.Definitions.{Parts, parameters_in, bound_parameters, definitions_in}
use Rattle.spec_reading.specs.WellSorted.{AreWellSorted}
use Rattle.spec_reading.proofs.Values.{with_both}
use Rattle.spec_reading.proofs.Closed.{neither_of}
use Rattle.spec_reading.proofs.Kept.{with_none, text_keeps}
use Rattle.spec_reading.proofs.Sound.{not_taken, unknown}
use Rattle.spec_reading.proofs.WellSorted.{definition_keeps_sorts}
use Rattle.term_core.specs.declared.ids.TermId.{TermId}
use Rattle.term_core.specs.declared.sorts.Sort.{Sort as TableSort}
use Rattle.term_core.specs.Symbols.{HasSortIn, HaveSortsIn, sort_meant, sorts_meant}
use Rattle.term_core.specs.Tables.{TableView, clause_at}
use Rattle.term_core.proofs.NamesApart.{bytes_eq-sym}
use Rattle.term_reader.specs.declared.scope.Macro.{Macro}
use Rattle.term_reader.specs.declared.scope.Function.TheVariants.{Defined}
use Rattle.term_reader.specs.declared.faults.ReadError.{ReadError}
use Rattle.term_reader.specs.Building.{KeepsTable, MeansTerm}
use Rattle.term_reader.specs.Scopes.{ScopeView, ScopeMeans, IsMacro, SortMeans, sort_under}
use Rattle.term_reader.proofs.OverTable.{known_last, function_added}
use Rattle.sort_check.specs.Reads.{Room, within, roomy_definitions, Store, HasFault, EndsDefinition}
use Rattle.sort_check.specs.Rows.{EndsRoom}
use Rattle.sort_check.specs.Defining.{parameters_at, HasMade}
use Rattle.sort_check.proofs.Rooms.{fault_first, fault_second}
use Rattle.sort_check.proofs.Parameters.{seconds}

-- The name whose body is read is not given in it.
module _ (w : Setting) (n : Name) where
  -- where the body is read
  abbrev pub inside : Setting
  inside = record w { own = Some n }

  names_free : (s : Signature) (t : Annotated) (xs : List Word) (ds : List Definition) → made_by inside s t xs ≡ Ok ds → known_as s n ≡ None → known_as (with_definitions s ds) n ≡ None
  unfolding made_by
  names_free s t [] ds e h = subst (λ x. known_as (with_definitions s x) n ≡ None) (answer (Ok []) ds e) (with_none (λ x. known_as x n ≡ None) s h)
  names_free s t (x ∷ xs) ds e h =
      let p = went _ _ _ e in
      let q = went _ _ _ p.then in
      let r = went _ _ _ q.then in
      let free = neither_of (is_function s p.first) (bytes_eq n p.first) (not_taken inside (λ m. is_function s m || bytes_eq n m) x p.first p.was) in
      let d = naming p.first t in
      let one : known_as (with_definitions s (d ∷ [])) n ≡ None = known_last s (defined d) n h ∙ ap (λ b. cond b (Some (defined d)) None) (bytes_eq-sym p.first n ∙ free.two) in
      let rest = names_free (with_definitions s (d ∷ [])) t xs r.first r.was one in
      subst (λ x. known_as (with_definitions s x) n ≡ None) (answer (Ok (d ∷ r.first)) ds r.then) (ap (λ y. known_as y n) (with_both s (d ∷ []) r.first) ∙ rest)

  text_free : (s : Signature) (b : Bound) (t : Tree) (r : Reading) → reading inside s b t ≡ Ok r → known_as s n ≡ None → known_as (with_definitions s r.made) n ≡ None
  text_free s b t r e h =
      text_keeps inside (λ x. known_as x n ≡ None) (λ s b at t r e xs ds made k. names_free (with_definitions s r.made) (annotated_as inside b at t r.term) xs ds made k) s b t r e h

  pub body_free : (s : Signature) (b : Bound) (sort : Sort) (t : Tree) (r : Reading) → reading_of_sort inside s b sort t ≡ Ok r → known_as s n ≡ None → known_as (with_definitions s r.made) n ≡ None
  body_free s b sort t r e h =
      let x = went _ _ _ e in
      let y = went _ _ _ x.then in
      text_free s b t r (subst (λ z. reading inside s b t ≡ Ok z) (answer (Ok x.first) r y.then) x.was) h

module _ (w : Setting) (s : Signature) (d : Parts) where
  pub name_stops : (stop : ReadError) → HasFault (new_name w (is_function s) d.name) stop → HasFault (definitions_in w s d) stop
  unfolding definitions_in
  name_stops stop h = fault_first (new_name w (is_function s) d.name) (λ n. parameters_in w s [] d.parameters >>= λ ps. sort_in s d.result >>= λ result. reading_of_sort (inside w n) s (bound_parameters 0 ps) result d.body >>= λ r. Ok (r.made ++ record { name = n; parameters = ps; result = result; body = d.body; term = r.term } ∷ [])) stop h

  module _ (n : Name) (fresh : new_name w (is_function s) d.name ≡ Ok n) where
    -- what the name's definition is, where its parts are read
    abbrev pub this_is : List (Name × Sort) → Sort → Term → Definition
    this_is ps result u = record { name = n; parameters = ps; result = result; body = d.body; term = u }

    -- all that it makes
    abbrev pub all_made : List (Name × Sort) → Sort → Reading → Answer (List Definition)
    all_made ps result r = Ok (r.made ++ this_is ps result r.term ∷ [])

    -- from the body on
    abbrev pub from_body : List (Name × Sort) → Sort → Answer (List Definition)
    from_body ps result = reading_of_sort (inside w n) s (bound_parameters 0 ps) result d.body >>= λ r. all_made ps result r

    -- from the result's sort on
    abbrev pub from_sort : List (Name × Sort) → Answer (List Definition)
    from_sort ps = sort_in s d.result >>= λ result. from_body ps result

    pub from_parameters : definitions_in w s d ≡ (parameters_in w s [] d.parameters >>= λ ps. from_sort ps)
    unfolding definitions_in ◌>>=◌
    from_parameters = ap (λ a. a >>= λ n. parameters_in w s [] d.parameters >>= λ ps. sort_in s d.result >>= λ result. reading_of_sort (inside w n) s (bound_parameters 0 ps) result d.body >>= λ r. Ok (r.made ++ record { name = n; parameters = ps; result = result; body = d.body; term = r.term } ∷ [])) fresh

    pub parameters_stop : (stop : ReadError) → HasFault (parameters_in w s [] d.parameters) stop → HasFault (definitions_in w s d) stop
    parameters_stop stop h = subst (λ a. HasFault a stop) (sym from_parameters) (fault_first (parameters_in w s [] d.parameters) (λ ps. from_sort ps) stop h)

    module _ (ps : List (Name × Sort)) (read : parameters_in w s [] d.parameters ≡ Ok ps) where
      pub sort_stops : (stop : ReadError) → HasFault (sort_in s d.result) stop → HasFault (definitions_in w s d) stop
      sort_stops stop h = subst (λ a. HasFault a stop) (sym from_parameters) (fault_second (parameters_in w s [] d.parameters) (λ ps. from_sort ps) ps stop read (fault_first (sort_in s d.result) (λ result. from_body ps result) stop h))

      module _ (result : Sort) (sorted : sort_in s d.result ≡ Ok result) where
        pub from_the_body : definitions_in w s d ≡ from_body ps result
        unfolding ◌>>=◌
        from_the_body = from_parameters ∙ ap (λ a. a >>= λ ps. from_sort ps) read ∙ ap (λ a. a >>= λ result. from_body ps result) sorted

        pub body_stops : (stop : ReadError) → HasFault (reading_of_sort (inside w n) s (bound_parameters 0 ps) result d.body) stop → HasFault (definitions_in w s d) stop
        body_stops stop h = subst (λ a. HasFault a stop) (sym from_the_body) (fault_first (reading_of_sort (inside w n) s (bound_parameters 0 ps) result d.body) (λ r. all_made ps result r) stop h)

        module _ (r : Reading) (body : reading_of_sort (inside w n) s (bound_parameters 0 ps) result d.body ≡ Ok r) where
          -- the definition
          abbrev pub this : Definition
          this = this_is ps result r.term

          pub whole_read : definitions_in w s d ≡ Ok (r.made ++ this ∷ [])
          unfolding ◌>>=◌
          whole_read = from_the_body ∙ ap (λ a. a >>= λ r. all_made ps result r) body

          pub definition_means : (t : TableView) (v : ScopeView) → ScopeMeans t v (with_definitions s r.made) → AreWellSorted s → (m : Macro) → IsMacro t m this → length v.names ≡ length v.functions
              → ScopeMeans t (record v { names = v.names ++ n ∷ []; functions = v.functions ++ Defined m ∷ [] }) (with_definitions s (r.made ++ this ∷ []))
          definition_means t v h sorts m macro long =
              let made = with_definitions s r.made in
              let none : known_as made n ≡ None = body_free w n s (bound_parameters 0 ps) result d.body r body (unknown s n (not_taken w (is_function s) d.name n fresh)) in
              let both = with_both s r.made (this ∷ []) in
              subst (ScopeMeans t (record v { names = v.names ++ n ∷ []; functions = v.functions ++ Defined m ∷ [] })) (sym both)
              (record {
                sorts = λ k. subst (SortMeans t (sort_under v k)) (sym (sort_same made (defined this) k)) (h.sorts k);
                functions = function_added t v made n (Defined m) (defined this) long refl h.functions none macro;
                count = omega (arith, h.count, length-append v.names (n ∷ []), length-append made (definition this ∷ []));
                sorted = subst AreWellSorted both (definition_keeps_sorts w s d (r.made ++ this ∷ []) sorts whole_read);
              })

module _ (room : Room) (w : Setting) (s : Signature) (d : Parts) where
  -- room after a definition
  abbrev pub after_definitions : List Definition → Answer (List Definition)
  after_definitions ds = within room (with_definitions s ds) (map (λ (x : Definition). x.term) ds) >>= λ fits. Ok ds

  pub definitions_fault : (stop : ReadError) → HasFault (definitions_in w s d) stop → HasFault (roomy_definitions room w s d) stop
  unfolding roomy_definitions
  definitions_fault stop h = fault_first (definitions_in w s d) after_definitions stop h

  pub definitions_room_fault : (ds : List Definition) (stop : ReadError) → definitions_in w s d ≡ Ok ds → HasFault (within room (with_definitions s ds) (map (λ (x : Definition). x.term) ds)) stop → HasFault (roomy_definitions room w s d) stop
  unfolding roomy_definitions
  definitions_room_fault ds stop e h = fault_second (definitions_in w s d) after_definitions ds stop e (fault_first (within room (with_definitions s ds) (map (λ (x : Definition). x.term) ds)) (λ fits. Ok ds) stop h)

  pub definitions_room : (ds : List Definition) → definitions_in w s d ≡ Ok ds → within room (with_definitions s ds) (map (λ (x : Definition). x.term) ds) ≡ Ok tt → roomy_definitions room w s d ≡ Ok ds
  unfolding roomy_definitions ◌>>=◌
  definitions_room ds e h = ap (λ a. a >>= after_definitions) e ∙ ap (λ a. a >>= λ fits. Ok ds) h

-- no own name
pub or_none : (b : Bool) → (b || false) ≡ b
or_none true = refl
or_none false = refl

-- a definition by the numbers of a table that has grown
pub macro_is : (old new : TableView) (keeps : KeepsTable old new) (ns : List Name) (ss : Vec TableSort Global) (sort : TableSort) (id : TermId) (n : Name) (body : Tree) (u : Term) → length ns ≡ length ss.items → HaveSortsIn old.sorts ss.items → HasSortIn old.sorts sort → MeansTerm new u id
    → IsMacro new (record { parameters = ss; result = sort; body = id }) (record { name = n; parameters = parameters_at old ns ss.items; result = sort_meant old.sorts sort; body = body; term = u })
macro_is old new keeps ns ss sort id n body u long there is means =
    let same : new.sorts ≡ old.sorts = ap (λ x. x.sorts) keeps.declared in
    record {
      parameters_there = subst (λ sorts. HaveSortsIn sorts ss.items) (sym same) there;
      parameters = ap (λ sorts. sorts_meant sorts ss.items) same ∙ sym (seconds ns (sorts_meant old.sorts ss.items) (long ∙ sym (length-map ss.items (sort_meant old.sorts))));
      result_there = subst (λ sorts. HasSortIn sorts sort) (sym same) is;
      result = ap (λ sorts. sort_meant sorts sort) same;
      body_there = means.0;
      body = means.1;
    }

module _ (room : Room) (w : Setting) (s : Signature) (d : Parts) where
  -- a definition that was read, and whether there is room
  pub definition_ends : (new : Store) (ids : List TermId) (h : HasMade s new (definitions_in w s d) ids) (r : Result (Unit {0}) ReadError) → EndsRoom (within room (with_definitions s h.definitions) (clause_at new.table ids)) r → EndsDefinition s new (roomy_definitions room w s d) r
  definition_ends new ids h (Ok u) k = record { definitions = h.definitions; read = definitions_room room w s d h.definitions h.read (ap (within room (with_definitions s h.definitions)) (sym h.terms.1) ∙ k); represents = h.represents }
  definition_ends new ids h (Err stop) k = definitions_room_fault room w s d h.definitions stop h.read (subst (λ ts. HasFault (within room (with_definitions s h.definitions) ts) stop) h.terms.1 k)
