-- The symbols of literals and what they mean, and literals that are read one after the other.
use Rattle.std.proofs.Common.{◌≡◌, ◌==◌, ℕ, Bool, true, false, List, [], ◌∷◌, ◌++◌, length, map, Option, Some, None, refl, sym, ap, ◌∙◌, subst, arith, append_assoc, append-nil}
use Rattle.std.specs.Prelude.{Result, Ok, Err}
use Rattle.std.proofs.lemmas.Bool.Decides.{nat_tests}
use Rattle.std.proofs.lemmas.List.{map-append}
use Rattle.std.proofs.lemmas.List.Elements.{All-push, All-nil}
use Rattle.spec_text.specs.declared.Fault.TheVariants.{Full, NotLiteral}
use Rattle.spec_text.specs.Bytes.{Name}
use Rattle.spec_text.specs.Shapes.{Word}
use Rattle.spec_text.specs.Answers.{Answer, ◌>>=◌, refused, require}
use Rattle.spec_text.specs.Printed.{printed}
use Rattle.spec_text.specs.Trees.{Tree, Trees, none, more, offset_of}
use Rattle.spec_text.proofs.AnswerLaws.{answer, went}
use Rattle.spec_sorts.specs.Terms.{Sort, Truth, Symbol, Term, same_sort}
use Rattle.spec_sorts.specs.Theory.{look_up, theory, is_of_theory}
use Rattle.spec_sorts.specs.Signatures.{Definition, Known, declared, defined, Signature, known_as}
use Rattle.spec_sorts.specs.Subterms.{has_room}
use Rattle.spec_reading.specs.Names.{Setting, script}
use Rattle.spec_reading.specs.Reading.{Reading, reading_of_sort}
use Rattle.spec_commands.specs.Commands.{CheckSatAssuming}
use Rattle.spec_commands.specs.Literals.{is_proposition, literal_symbol, proposition_by, proposition_of, literal_in}
use Rattle.spec_commands.specs.Stack.{Assertion, Stack, signature_of, terms_asserted, begun, check, Taken, literals_in, performed}
use Rattle.term_core.specs.declared.ids.TermId.{TermId}
use Rattle.term_core.specs.declared.ids.SymbolId.{SymbolId}
use Rattle.term_core.specs.declared.sorts.Sort.{Sort as TableSort}
use Rattle.term_core.specs.Symbols.{sort_meant, sorts_meant, symbol_at, IsSymbol}
use Rattle.term_core.specs.Tables.{TableView, IsIn, term_at}
use Rattle.term_core.proofs.TermsExtend.{AreIn-kept, clause_at-kept}
use Rattle.term_reader.specs.declared.scope.Function.{Function}
use Rattle.term_reader.specs.declared.scope.Function.TheVariants.{Declared, Defined}
use Rattle.term_reader.specs.declared.scope.Macro.{Macro}
use Rattle.term_reader.specs.declared.faults.ReadError.{ReadError}
use Rattle.term_reader.specs.declared.faults.ReadError.TheVariants as errors
use Rattle.term_reader.specs.Building.{KeepsTable, MeansTerm}
use Rattle.term_reader.specs.Scopes.{FunctionMeans}
use Rattle.sort_check.specs.Reads.{Room, within, roomy_reading, Store, EndsTerm, HasFault}
use Rattle.assertion_stack.specs.Assertions.{offsets_of, tree_offsets, texts_printed, tree_texts}
use Rattle.assertion_stack.specs.Stacks.{AreAssumed}
use Rattle.assertion_stack.specs.Views.{Fails}
use Rattle.assertion_stack.specs.Literals.{EndsLiteral, roomy_literals}

-- a fault of the first of two steps is that of both
pub fails_first : {A B : Type 0} (a : Answer A) (f : A → Answer B) (stop : ReadError) → Fails stop a → Fails stop (a >>= f)
unfolding ◌>>=◌
fails_first a f (errors.Fault x) h = ap (λ b. b >>= f) h
fails_first a f errors.Memory h = tt

-- what the symbol of an item means, by its tests
module _ (s : Signature) (item : ℕ) (x : Word) where
  by_tests : (b : Bool) (o : Option Known) → is_of_theory x.bytes ≡ b → known_as s x.bytes ≡ o → proposition_of s item (Some x) ≡ proposition_by item x b o
  by_tests b o e f = λ i. proposition_by item x (e i) (f i)

  in_none : look_up theory x.bytes ≡ None → is_of_theory x.bytes ≡ false
  in_none e = rw e refl

  module _ (other : look_up theory x.bytes ≡ None) (k : Known) (known : known_as s x.bytes ≡ Some k) where
    tested : (b : Bool) → is_proposition k ≡ b → proposition_of s item (Some x) ≡ (require b item NotLiteral >>= λ fits. Ok k)
    tested b e = by_tests false (Some k) (in_none other) known ∙ ap (λ c. require c item NotLiteral >>= λ fits. Ok k) e

    pub no_proposition : is_proposition k ≡ false → proposition_of s item (Some x) ≡ refused item NotLiteral
    unfolding require ◌>>=◌
    no_proposition e = tested false e

    pub proposition : is_proposition k ≡ true → proposition_of s item (Some x) ≡ Ok k
    unfolding require ◌>>=◌
    proposition e = tested true e

-- a name that a scope has is known
pub one_known : (t : TableView) (o : Option Function) (k : Option Known) (f : Function) → FunctionMeans t o k → o ≡ Some f → (x : Known) × (k ≡ Some x) × FunctionMeans t (Some f) (Some x)
one_known t o k f h e = go f k (subst (λ p. FunctionMeans t p k) e h)
  where
    go : (g : Function) (j : Option Known) → FunctionMeans t (Some g) j → (x : Known) × (j ≡ Some x) × FunctionMeans t (Some g) (Some x)
    go g (Some x) m = (x, refl, m)
    go (Declared id) None m = absurd m
    go (Defined d) None m = absurd m

-- whether a function is a proposition, by the sorts of its parameters and of its values
abbrev pub has_rank : List Sort → Sort → Bool
has_rank ps r = is_proposition (declared (record { name = []; parameters = ps; result = r }))

pub truth_alone : (sorts : List Name) (ps : List TableSort) (b : Bool) → b ≡ (length ps == 0) → b ≡ has_rank (sorts_meant sorts ps) Truth
truth_alone sorts [] b e = e
truth_alone sorts (p ∷ ps) b e = let some : (length (p ∷ ps) == 0) ≡ false = grind (arith, nat_tests) in e ∙ some

pub other_values : (ps : List Sort) (r : Sort) → same_sort Truth r ≡ false → false ≡ has_rank ps r
other_values [] r e = sym e
other_values (p ∷ ps) r e = refl

module _ (t : TableView) where
  pub symbol_there : (k : Known) (id : SymbolId) → FunctionMeans t (Some (Declared id)) (Some k) → IsSymbol t.symbols id
  symbol_there (declared f) id h = h.0
  symbol_there (defined d) id h = absurd h

  pub declared_rank : (k : Known) (id : SymbolId) (ps : List TableSort) (r : TableSort) → FunctionMeans t (Some (Declared id)) (Some k) → sorts_meant t.sorts ps ≡ (symbol_at t.symbols id).parameters → sort_meant t.sorts r ≡ (symbol_at t.symbols id).result
      → has_rank (sorts_meant t.sorts ps) (sort_meant t.sorts r) ≡ is_proposition k
  declared_rank (declared f) id ps r h e g = λ i. has_rank ((e ∙ ap (λ (y : Symbol). y.parameters) h.1) i) ((g ∙ ap (λ (y : Symbol). y.result) h.1) i)
  declared_rank (defined d) id ps r h e g = absurd h

  same_rank : (d : Definition) (ps : List (Name × Sort)) (r : Sort) → has_rank (map (λ (p : Name × Sort). p.1) ps) r ≡ is_proposition (defined (record d { parameters = ps; result = r }))
  same_rank d [] r = refl
  same_rank d (p ∷ ps) r = refl

  pub defined_rank : (k : Known) (m : Macro) → FunctionMeans t (Some (Defined m)) (Some k) → has_rank (sorts_meant t.sorts m.parameters.items) (sort_meant t.sorts m.result) ≡ is_proposition k
  defined_rank (declared f) m h = absurd h
  defined_rank (defined d) m h = (λ i. has_rank (h.parameters i) (h.result i)) ∙ same_rank d d.parameters d.result

-- a literal whose symbol is a proposition is what is read
module _ (s : Signature) (t : Tree) where
  abbrev by_reading : Known → Answer Term
  by_reading k = reading_of_sort script s [] Truth t >>= λ r. Ok r.term

  -- a fault of its symbol
  pub symbol_fails : (stop : ReadError) → Fails stop (proposition_of s (offset_of t) (literal_symbol t)) → Fails stop (literal_in s t)
  symbol_fails stop h = fails_first (proposition_of s (offset_of t) (literal_symbol t)) by_reading stop h

  module _ (k : Known) (means : proposition_of s (offset_of t) (literal_symbol t) ≡ Ok k) (w : Setting) (script_is : w ≡ script) (at : ℕ) where
    -- with no limit on it
    unlimited : roomy_reading (record { limit = None; at = at }) w s Truth t ≡ reading_of_sort script s [] Truth t
    unfolding roomy_reading ◌>>=◌
    unlimited = go (reading_of_sort w s [] Truth t) ∙ ap (λ v. reading_of_sort v s [] Truth t) script_is
      where
        go : (a : Answer Reading) → (a >>= λ r. Ok r) ≡ a
        go (Ok r) = refl
        go (Err f) = refl

    literal_by : literal_in s t ≡ (roomy_reading (record { limit = None; at = at }) w s Truth t >>= λ r. Ok r.term)
    unfolding ◌>>=◌
    literal_by = ap (λ a. a >>= by_reading) means ∙ ap (λ a. a >>= λ (r : Reading). Ok r.term) (sym unlimited)

    pub literal_ends : (new : Store) (r : Result TermId ReadError) → EndsTerm s new (roomy_reading (record { limit = None; at = at }) w s Truth t) r → EndsLiteral new.table (literal_in s t) r
    unfolding ◌>>=◌
    literal_ends new (Ok id) h = (h.reading.term, literal_by ∙ ap (λ a. a >>= λ (r : Reading). Ok r.term) h.read, h.term)
    literal_ends new (Err (errors.Fault f)) h = literal_by ∙ ap (λ a. a >>= λ (r : Reading). Ok r.term) h
    literal_ends new (Err errors.Memory) h = tt

-- literals before those that are read
abbrev pub with_front : List Assertion → Answer (List Assertion) → Answer (List Assertion)
with_front xs (Ok ys) = Ok (xs ++ ys)
with_front xs (Err e) = Err e

with_nothing : (r : Answer (List Assertion)) → with_front [] r ≡ r
with_nothing (Ok ys) = refl
with_nothing (Err e) = refl

with_more : (xs : List Assertion) (x : Assertion) (r : Answer (List Assertion)) → with_front xs (r >>= λ ys. Ok (x ∷ ys)) ≡ with_front (xs ++ x ∷ []) r
unfolding ◌>>=◌
with_more xs x (Ok ys) = ap (λ zs. Ok zs) (sym (append_assoc xs (x ∷ []) ys))
with_more xs x (Err e) = refl

-- The numbers are those of the first literals of all, before these that are left.
pub record AreFirst (t : TableView) (s : Signature) (all rest : Trees) (ids : List TermId) : Type 0 where
  pub before : List Assertion
  pub assumed : AreAssumed t ids before
  pub gives : with_front before (literals_in s rest) ≡ literals_in s all

-- the terms of literals are there still
pub assumed_kept : (old new : TableView) (ids : List TermId) (ls : List Assertion) → KeepsTable old new → AreAssumed old ids ls → AreAssumed new ids ls
assumed_kept old new ids ls k h = record { inside = AreIn-kept old new k.extends ids h.inside; terms = clause_at-kept old new k.extends ids h.inside ∙ h.terms }

-- and one more
assumed_more : (t : TableView) (ids : List TermId) (ls : List Assertion) (id : TermId) (tree : Tree) (u : Term) → AreAssumed t ids ls → MeansTerm t u id → AreAssumed t (ids ++ id ∷ []) (ls ++ record { text = tree; term = u } ∷ [])
assumed_more t ids ls id tree u h m = record {
  inside = All-push (IsIn t) ids id h.inside m.0;
  terms = map-append (term_at t) ids (id ∷ []) ∙ (λ i. h.terms i ++ m.1 i ∷ []) ∙ sym (map-append (λ (a : Assertion). a.term) ls (record { text = tree; term = u } ∷ []));
}

module _ (s : Signature) (all : Trees) where
  pub first_none : (t : TableView) → AreFirst t s all all []
  first_none t = record { before = []; assumed = record { inside = All-nil (IsIn t); terms = refl }; gives = with_nothing (literals_in s all) }

  none_left : literals_in s none ≡ Ok []
  unfolding literals_in
  none_left = refl

  first_left : (t : Tree) (ts : Trees) → literals_in s (more t ts) ≡ (literal_in s t >>= λ u. literals_in s ts >>= λ ls. Ok (record { text = t; term = u } ∷ ls))
  unfolding literals_in
  first_left t ts = refl

  module _ (t : TableView) (rest : Trees) (ids : List TermId) (h : AreFirst t s all rest ids) where
    pub all_read : rest ≡ none → (ls : List Assertion) × (literals_in s all ≡ Ok ls) × AreAssumed t ids ls
    all_read e = (h.before, sym h.gives ∙ ap (λ us. with_front h.before (literals_in s us)) e ∙ ap (with_front h.before) none_left ∙ ap (λ ys. Ok ys) (append-nil h.before), h.assumed)

    module _ (tree : Tree) (after : Trees) (is : rest ≡ more tree after) where
      next : literals_in s all ≡ with_front h.before (literal_in s tree >>= λ u. literals_in s after >>= λ ls. Ok (record { text = tree; term = u } ∷ ls))
      next = sym h.gives ∙ ap (λ us. with_front h.before (literals_in s us)) is ∙ ap (with_front h.before) (first_left tree after)

      pub next_fails : (stop : ReadError) → Fails stop (literal_in s tree) → Fails stop (literals_in s all)
      unfolding ◌>>=◌
      next_fails (errors.Fault f) e = next ∙ ap (λ a. with_front h.before (a >>= λ u. literals_in s after >>= λ ls. Ok (record { text = tree; term = u } ∷ ls))) e
      next_fails errors.Memory e = tt

      pub next_read : (new : TableView) (u : Term) (id : TermId) → KeepsTable t new → literal_in s tree ≡ Ok u → MeansTerm new u id → AreFirst new s all after (ids ++ id ∷ [])
      unfolding ◌>>=◌
      next_read new u id k e m =
          let this : Assertion = record { text = tree; term = u } in record {
            before = h.before ++ this ∷ [];
            assumed = assumed_more new ids h.before id tree u (assumed_kept t new ids h.before k h.assumed) m;
            gives = sym (with_more h.before this (literals_in s after)) ∙ ap (λ a. with_front h.before (a >>= λ v. literals_in s after >>= λ ls. Ok (record { text = tree; term = v } ∷ ls))) (sym e) ∙ sym next;
          }

-- literals with the room that there is for them
module _ (room : Room) (s : Signature) (ts : Trees) where
  abbrev with_room : List Assertion → Answer (List Assertion)
  with_room ls = within room s (terms_asserted ls) >>= λ fits. Ok ls

  pub literals_fail : (stop : ReadError) → Fails stop (literals_in s ts) → Fails stop (roomy_literals room s ts)
  literals_fail stop h = fails_first (literals_in s ts) with_room stop h

  module _ (ls : List Assertion) (read : literals_in s ts ≡ Ok ls) (us : List Term) (terms : us ≡ terms_asserted ls) where
    then_room : roomy_literals room s ts ≡ (within room s us >>= λ fits. Ok ls)
    unfolding ◌>>=◌
    then_room = ap (λ a. a >>= with_room) read ∙ ap (λ vs. within room s vs >>= λ fits. Ok ls) (sym terms)

    pub room_fails : (stop : ReadError) → HasFault (within room s us) stop → Fails stop (roomy_literals room s ts)
    unfolding ◌>>=◌
    room_fails (errors.Fault f) e = then_room ∙ ap (λ a. a >>= λ fits. Ok ls) e
    room_fails errors.Memory e = tt

    pub room_there : within room s us ≡ Ok tt → roomy_literals room s ts ≡ Ok ls
    unfolding ◌>>=◌
    room_there e = then_room ∙ ap (λ a. a >>= λ fits. Ok ls) e

-- a check that assumes these literals
module _ (limit at place : ℕ) (s : Stack) (ts : Trees) (room : Room) (room_is : room ≡ record { limit = Some limit; at = at }) where
  abbrev assuming : List Assertion → Answer Taken
  assuming ls = Ok (record { effect = check place ls; stack = begun s })

  check_by : performed limit at s (CheckSatAssuming place ts) ≡ (roomy_literals room (signature_of s) ts >>= assuming)
  unfolding require ◌>>=◌
  check_by = go (literals_in (signature_of s) ts) ∙ ap (λ r. roomy_literals r (signature_of s) ts >>= assuming) (sym room_is)
    where
      fits : (ls : List Assertion) (b : Bool) → (require b at Full >>= λ u. assuming ls) ≡ ((require b at Full >>= λ fits. Ok ls) >>= assuming)
      fits ls true = refl
      fits ls false = refl

      go : (a : Answer (List Assertion)) → (a >>= λ ls. require (has_room limit (signature_of s) (terms_asserted ls)) at Full >>= λ u. assuming ls)
          ≡ ((a >>= λ ls. within (record { limit = Some limit; at = at }) (signature_of s) (terms_asserted ls) >>= λ fits. Ok ls) >>= assuming)
      go (Err f) = refl
      go (Ok ls) = fits ls (has_room limit (signature_of s) (terms_asserted ls))

  pub check_fails : (stop : ReadError) → Fails stop (roomy_literals room (signature_of s) ts) → Fails stop (performed limit at s (CheckSatAssuming place ts))
  check_fails stop h = subst (Fails stop) (sym check_by) (fails_first (roomy_literals room (signature_of s) ts) assuming stop h)

  pub check_done : (ls : List Assertion) → roomy_literals room (signature_of s) ts ≡ Ok ls → performed limit at s (CheckSatAssuming place ts) ≡ Ok (record { effect = check place ls; stack = begun s })
  unfolding ◌>>=◌
  check_done ls e = check_by ∙ ap (λ a. a >>= assuming) e

-- where literals that are read begin
pub literals_begin : (s : Signature) (ts : Trees) (ls : List Assertion) → literals_in s ts ≡ Ok ls → tree_offsets ts ≡ offsets_of ls
unfolding literals_in
literals_begin s none ls e = ap offsets_of (answer (Ok []) ls e)
literals_begin s (more t ts) ls e =
    let a = went (literal_in s t) _ ls e in
    let b = went (literals_in s ts) _ ls a.then in
    ap (λ ns. offset_of t ∷ ns) (literals_begin s ts b.first b.was) ∙ ap offsets_of (answer (Ok (record { text = t; term = a.first } ∷ b.first)) ls b.then)

-- and so do those for which there is room
pub roomy_begin : (room : Room) (s : Signature) (ts : Trees) (ls : List Assertion) → roomy_literals room s ts ≡ Ok ls → tree_offsets ts ≡ offsets_of ls
roomy_begin room s ts ls e =
    let a = went (literals_in s ts) _ ls e in
    let b = went (within room s (terms_asserted a.first)) _ ls a.then in
    literals_begin s ts ls (a.was ∙ ap Ok (answer (Ok a.first) ls b.then))

-- how literals that are read are printed
literals_printed : (s : Signature) (ts : Trees) (ls : List Assertion) → literals_in s ts ≡ Ok ls → tree_texts ts ≡ texts_printed ls
unfolding literals_in
literals_printed s none ls e = ap texts_printed (answer (Ok []) ls e)
literals_printed s (more t ts) ls e =
    let a = went (literal_in s t) _ ls e in
    let b = went (literals_in s ts) _ ls a.then in
    ap (λ ns. printed t ∷ ns) (literals_printed s ts b.first b.was) ∙ ap texts_printed (answer (Ok (record { text = t; term = a.first } ∷ b.first)) ls b.then)

pub roomy_printed : (room : Room) (s : Signature) (ts : Trees) (ls : List Assertion) → roomy_literals room s ts ≡ Ok ls → tree_texts ts ≡ texts_printed ls
roomy_printed room s ts ls e =
    let a = went (literals_in s ts) _ ls e in
    let b = went (within room s (terms_asserted a.first)) _ ls a.then in
    literals_printed s ts ls (a.was ∙ ap Ok (answer (Ok a.first) ls b.then))
