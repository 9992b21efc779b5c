-- Terms with attributes whose names were given.
use Rattle.std.proofs.Common.{◌≡◌, ℕ, ◌<◌, Bool, List, [], ◌∷◌, ◌++◌, length, map, take, get_or, ap, sym, ◌∙◌, subst}
use Rattle.std.specs.Prelude.{Ok}
use Rattle.std.specs.List.{AllByRecursion}
use Rattle.std.proofs.lemmas.List.{map-append}
use Rattle.std.proofs.lemmas.List.Elements.{recursion_from_All, All-from_recursion}
use Rattle.spec_text.specs.Answers.{Answer, ◌>>=◌}
use Rattle.spec_sorts.specs.Terms.{Symbol, Term}
use Rattle.spec_sorts.specs.Signatures.{Definition, Signature, symbols_in, definition, with_definitions}
use Rattle.spec_sorts.specs.Forms.{a_keyword, named_words}
use Rattle.spec_sorts.proofs.Signatures.{symbols_with}
use Rattle.spec_reading.specs.Names.{Setting}
use Rattle.spec_reading.specs.Reading as words
use Rattle.spec_reading.specs.Reading.{Reading, made_by, annotated_as}
use Rattle.spec_reading.specs.WellSorted.{IsDeclaredOver, AreWellSorted}
use Rattle.spec_reading.proofs.Values.{with_both}
use Rattle.spec_reading.proofs.WellSorted.{text_keeps_sorts}
use Rattle.smt_sexpr.specs.declared.items.Trees.{Trees as Cursor}
use Rattle.smt_sexpr.specs.Items.{trees_meant, tree_meant}
use Rattle.term_core.specs.declared.ids.TermId.{TermId}
use Rattle.term_core.specs.Tables.{TableView, term_at, IsIn}
use Rattle.term_reader.specs.declared.faults.ReadError.{ReadError}
use Rattle.term_reader.specs.declared.faults.ReadError.TheVariants.{Fault, Memory}
use Rattle.term_reader.specs.Names.{located_of}
use Rattle.term_reader.specs.Scopes.{ScopeView}
use Rattle.term_reader.proofs.Tables.{keeps_same}
use Rattle.sort_check.specs.declared.frames.Opened.TheVariants.{Annotates}
use Rattle.sort_check.specs.declared.frames.Frame.{Frame}
use Rattle.sort_check.specs.Bindings.{bound_at}
use Rattle.sort_check.specs.Naming.{NamesMean, annotated_meant, HasNamed}
use Rattle.sort_check.specs.Reads.{HasFault}
use Rattle.sort_check.specs.Walks.{readings_in, Level, first_term, closes, IsUnder, IsWaiting, HasTexts, Here, AllMean, terms_of_definitions, IsWalk, with_frame}
use Rattle.sort_check.proofs.Rows.{closed_reading}
use Rattle.sort_check.proofs.Walking.{popped, row_read, row_is, known_then, close_fault, close_goes, one_value}

-- a signature is well sorted before definitions
sorted_before : (s : Signature) (ds : List Definition) → AreWellSorted (with_definitions s ds) → AreWellSorted s
sorted_before s ds h =
    All-from_recursion (IsDeclaredOver (symbols_in s)) s
    (front (symbols_in s) s (map definition ds) (subst (λ symbols. AllByRecursion (IsDeclaredOver symbols) (with_definitions s ds)) (symbols_with s ds) (recursion_from_All (IsDeclaredOver (symbols_in (with_definitions s ds))) (with_definitions s ds) h)))
  where
    front : (symbols : List Symbol) (s t : Signature) → AllByRecursion (IsDeclaredOver symbols) (s ++ t) → AllByRecursion (IsDeclaredOver symbols) s
    front symbols [] t h = tt
    front symbols (d ∷ ds) t h = (h.0, front symbols ds t h.1)

module _ (w : Setting) (root : Level) (h : Here) (f : Frame) (k : IsWalk w root (with_frame h f)) (at : ℕ) (text attributes : Cursor) (opened : f.opened ≡ Annotates at text attributes) where
  -- the number of the term
  pub annotated_value : (d : TermId) → (f.from < length h.values) × (IsIn h.table (get_or h.values f.from d) × (term_at h.table (get_or h.values f.from d) ≡ first_term k.done))
  annotated_value d = one_value w root h f k d (tree_meant text, subst (λ p. HasTexts p k.inner.base.texts) opened (popped w root h f k).opens.texts)

  -- what is known where the term is read
  abbrev pub known : Signature
  known = with_definitions k.inner.base.signature k.made

  -- its attributes
  abbrev pub words_given : Answer (List Definition)
  words_given = made_by w known (annotated_as w k.inner.base.bound at (tree_meant text) (first_term k.done)) (named_words a_keyword (trees_meant attributes))

  pub names_mean : NamesMean h.table h.scope known
  names_mean = record { sorts = k.represents.sorts; functions = k.represents.functions; count = k.represents.count }

  -- the code's words for it
  pub meant : (id d : TermId) (may : Bool) → id ≡ get_or h.values f.from d → ((t : TableView) (at : ℕ) (u : Term) → may ≡ (annotated_as w (bound_at t h.bound) at (tree_meant text) u).may_name)
      → annotated_meant h.table (tree_meant text) (record { at = at; id = id; may_name = may }) ≡ annotated_as w k.inner.base.bound at (tree_meant text) (first_term k.done)
  meant id d may is told =
      let term : term_at h.table id ≡ first_term k.done = ap (term_at h.table) is ∙ (annotated_value d).1.1 in
      let name : may ≡ (annotated_as w k.inner.base.bound at (tree_meant text) (first_term k.done)).may_name = told h.table at (first_term k.done) ∙ ap (λ b. (annotated_as w b at (tree_meant text) (first_term k.done)).may_name) k.bound in
      λ i. (let a : words.Annotated = record { at = at; text = tree_meant text; term = term i; may_name = name i } in a)

  closed_as : closes w f.opened k.inner (row_read w root h f k) ≡ (words_given >>= λ ds. Ok (record { made = k.made ++ ds; term = first_term k.done }))
  closed_as = ap (λ p. closes w p k.inner (row_read w root h f k)) opened

  -- a name has a fault
  pub annotated_stops : (stop : ReadError) → HasFault words_given stop → HasFault (readings_in w root.base) stop
  unfolding ◌>>=◌
  annotated_stops (Fault e) wrong = close_fault w root h f k (located_of e) (closed_as ∙ ap (λ a. a >>= λ ds. Ok (record { made = k.made ++ ds; term = first_term k.done })) wrong)
  annotated_stops Memory wrong = tt

  -- the names are given
  pub annotated_closes : (d : TermId) (v : ScopeView) (nums : List TermId) → HasNamed h.table known v (h.named, nums) words_given
      → IsWalk w root (record h { scope = v; values = take f.from h.values ++ get_or h.values f.from d ∷ []; named = nums; rest = trees_meant f.after })
  unfolding ◌>>=◌
  annotated_closes d v nums g =
      let o = (popped w root h f k).opens in
      let l = (popped w root h f k).level in
      let ds = g.made in
      let x : Reading = record { made = k.made ++ ds; term = first_term k.done } in
      let read : closes w f.opened k.inner (row_read w root h f k) ≡ Ok x = closed_as ∙ ap (λ a. a >>= λ ds. Ok (record { made = k.made ++ ds; term = first_term k.done })) g.read in
      let one = annotated_value d in
      let under : k.inner.base.bound ≡ l.base.bound = subst (λ p. IsUnder p l.base.bound k.inner.base.bound) opened o.bound in
      let waits : k.inner.waiting ≡ l.waiting = subst (λ p. IsWaiting p l.waiting k.inner.waiting) opened o.waiting in
      let s : Signature = with_definitions l.base.signature o.made in
      let around : AreWellSorted s = sorted_before s (o.begun ++ k.made) (subst AreWellSorted (known_then w root h f k k.made ∙ with_both l.base.signature o.made (o.begun ++ k.made)) k.represents.sorted) in
      let after : AreWellSorted (with_definitions s (o.begun ++ x.made)) = text_keeps_sorts w s l.base.bound o.tree _ around (closed_reading w l k.inner f (row_read w root h f k) x o (row_is w root h f k) read) in
      let sorted : AreWellSorted (with_definitions k.inner.base.signature x.made) = subst AreWellSorted (sym (known_then w root h f k x.made ∙ with_both l.base.signature o.made (o.begun ++ x.made))) after in
      let both : with_definitions k.inner.base.signature x.made ≡ with_definitions known ds = with_both k.inner.base.signature k.made ds in
      let meant_now : NamesMean h.table v (with_definitions k.inner.base.signature x.made) = subst (NamesMean h.table v) (sym both) g.represents in
      close_goes w root h f k x h.table v h.bound (get_or h.values f.from d) nums (k.total ++ ds) read (keeps_same h.table) one.1.0 one.1.1
      (record { sorts = meant_now.sorts; functions = meant_now.functions; count = meant_now.count; sorted = sorted })
      k.bound_there (k.bound ∙ under) waits
      (both ∙ ap (λ y. with_definitions y ds) k.known ∙ sym (with_both root.base.signature k.total ds))
      (subst (AllMean h.table nums) (sym (map-append (λ (y : Definition). y.term) k.total ds)) (g.named (terms_of_definitions k.total) k.named))
