-- What a step comes to for all that the code has.
use Rattle.std.proofs.Common.{◌≡◌, ℕ, ◌+◌, ◌<◌, ◌≤◌, arith, get_or, List, [], ◌∷◌, ◌++◌, length, take, drop, refl, ap, sym, ◌∙◌, subst, append_assoc, append-nil}
use Rattle.std.specs.Prelude.{Result, Ok, Err, OnOk}
use Rattle.std.proofs.lemmas.List.{length-append}
use Rattle.spec_text.specs.declared.Kind.{Kind}
use Rattle.spec_text.specs.Bytes.{Name}
use Rattle.spec_text.specs.Faults.{Located}
use Rattle.spec_text.specs.Answers.{Answer, ◌>>=◌}
use Rattle.spec_text.specs.Trees.{Tree, Trees, atom, none, more}
use Rattle.spec_sorts.specs.Terms.{Term}
use Rattle.spec_sorts.specs.Signatures.{Definition, Signature, with_definitions}
use Rattle.spec_reading.specs.Names.{Setting}
use Rattle.spec_reading.specs.Reading.{Reading, Readings, plain_reading, atom_term, reading, readings}
use Rattle.spec_reading.proofs.Values.{with_both}
use Rattle.smt_sexpr.specs.Items.{trees_meant}
use Rattle.term_core.specs.declared.ids.TermId.{TermId}
use Rattle.term_core.specs.Tables.{TableView, term_at, IsIn, AreIn}
use Rattle.term_reader.specs.Building.{KeepsTable}
use Rattle.term_reader.specs.Scopes.{ScopeView, ScopeMeans}
use Rattle.term_reader.proofs.OverTable.{meaning_kept}
use Rattle.term_reader.specs.declared.faults.ReadError.{ReadError}
use Rattle.term_reader.specs.declared.faults.ReadError.TheVariants.{Fault, Memory}
use Rattle.term_reader.specs.Names.{located_of}
use Rattle.term_reader.specs.Heads.{EndsReading}
use Rattle.sort_check.specs.Steps.{IsMemory}
use Rattle.sort_check.specs.declared.frames.Frame.{Frame}
use Rattle.sort_check.specs.Bindings.{BindingsView, bound_at}
use Rattle.sort_check.specs.Reads.{HasFault}
use Rattle.sort_check.specs.Walks.{readings_in, RowProgress, known_after, IsRow, Level, closes, after_made, IsUnder, IsWaiting, HasTexts, Opens, Here, AllMean, terms_of_definitions, IsWalk, EndsStep, with_frame, first_term, sizes, opened_left, frames_left, all_left}
use Rattle.sort_check.proofs.Rows.{with_no, row_step, row_fault, row_end, row_start, chain_fault, closed_fault, closed_reading, chain_push, Popped, chain_pop, one_done}
use Rattle.sort_check.proofs.Kept.{mean_kept, in_kept, bound_kept, waiting_kept, mean_push, mean_long, mean_front, mean_at, mean_back}

module _ (w : Setting) (root : Level) where
  -- the row of a walk
  abbrev pub row_of : (h : Here) → IsWalk w root h → RowProgress
  row_of h k = record { base = k.inner.base; made = k.made; done = k.done }

  -- the text that comes next has a fault
  pub next_fault : (h : Here) (k : IsWalk w root h) (t : Tree) (after : Trees) (e : Located) → h.rest ≡ more t after → reading w (known_after (row_of h k)) k.inner.base.bound t ≡ Err e
      → readings_in w root.base ≡ Err e
  next_fault h k t after e is wrong = chain_fault w h.frames root k.inner e k.chain (row_fault w (row_of h k) t after e (subst (IsRow w (row_of h k)) is k.row) wrong)

  -- an atom is read
  pub atom_goes : (h : Here) (k : IsWalk w root h) (t : TableView) (at : ℕ) (kind : Kind) (n : Name) (after : Trees) (id : TermId) → h.rest ≡ more (atom at kind n) after
      → KeepsTable h.table t → IsIn t id → atom_term (known_after (row_of h k)) k.inner.base.bound at kind n ≡ Ok (term_at t id)
      → IsWalk w root (record h { table = t; values = h.values ++ id ∷ []; rest = after })
  unfolding ◌>>=◌ reading
  atom_goes h k t at kind n after id is keeps there e =
      let made_is : k.made ++ [] ≡ k.made = append-nil k.made in
      let read : reading w (known_after (row_of h k)) k.inner.base.bound (atom at kind n) ≡ Ok (plain_reading (term_at t id)) = ap (λ a. a >>= λ u. Ok (plain_reading u)) e in
      let represents = meaning_kept h.table t keeps h.scope (with_definitions k.inner.base.signature k.made) k.represents in
      record {
        inner = k.inner;
        made = k.made;
        done = k.done ++ term_at t id ∷ [];
        row = subst (λ (ds : List Definition). IsRow w (record { base = k.inner.base; made = ds; done = k.done ++ term_at t id ∷ [] }) after) made_is
            (row_step w (row_of h k) (atom at kind n) after (plain_reading (term_at t id)) (subst (IsRow w (row_of h k)) is k.row) read);
        chain = k.chain;
        values = subst (AllMean t (h.values ++ id ∷ [])) (append_assoc k.inner.below k.done (term_at t id ∷ []))
            (mean_push t h.values id (k.inner.below ++ k.done) (term_at t id) (mean_kept h.table t keeps h.values (k.inner.below ++ k.done) k.values) there refl);
        represents = represents;
        bound_there = in_kept h.table t keeps h.bound.terms k.bound_there;
        bound = bound_kept h.table t keeps h.bound k.bound_there ∙ k.bound;
        waiting_there = in_kept h.table t keeps h.waiting.terms k.waiting_there;
        waiting = waiting_kept h.table t keeps h.waiting k.waiting_there ∙ k.waiting;
        total = k.total;
        known = k.known;
        named = mean_kept h.table t keeps h.named (terms_of_definitions k.total) k.named;
      }

  -- an atom has a fault
  pub atom_fault : (h : Here) (k : IsWalk w root h) (at : ℕ) (kind : Kind) (n : Name) (after : Trees) (e : Located) → h.rest ≡ more (atom at kind n) after → atom_term (known_after (row_of h k)) k.inner.base.bound at kind n ≡ Err e
      → readings_in w root.base ≡ Err e
  unfolding ◌>>=◌ reading
  atom_fault h k at kind n after e is wrong = next_fault h k (atom at kind n) after e is (ap (λ a. a >>= λ u. Ok (plain_reading u)) wrong)

  -- the row that opens in the innermost
  abbrev pub inner_row : (h : Here) → IsWalk w root h → Trees → Level
  inner_row h k texts = record { base = record { signature = known_after (row_of h k); bound = k.inner.base.bound; texts = texts }; below = k.inner.below ++ k.done; waiting = k.inner.waiting }

  -- a list opens, which made no definitions yet
  pub open_goes : (h : Here) (k : IsWalk w root h) (tree : Tree) (f : Frame) (texts : Trees) → h.rest ≡ more tree (trees_meant f.after) → f.from ≡ length h.values
      → IsUnder f.opened k.inner.base.bound k.inner.base.bound → IsWaiting f.opened k.inner.waiting k.inner.waiting → HasTexts f.opened texts
      → reading w (known_after (row_of h k)) k.inner.base.bound tree ≡ (readings w (known_after (row_of h k)) k.inner.base.bound texts >>= λ r. closes w f.opened (inner_row h k texts) r)
      → IsWalk w root (record h { frames = h.frames ++ f ∷ []; rest = texts })
  unfolding ◌>>=◌
  open_goes h k tree f texts is from under waits has e =
      let m : Level = inner_row h k texts in
      let s : Signature = known_after (row_of h k) in
      let o : Opens w k.inner f m = record {
        made = k.made;
        done = k.done;
        tree = tree;
        row = subst (IsRow w (row_of h k)) is k.row;
        begun = [];
        signature = sym (with_no s);
        bound = under;
        waiting = waits;
        below = refl;
        from = from ∙ mean_long h.table h.values (k.inner.below ++ k.done) k.values;
        texts = has;
        is = e ∙ go (readings w s k.inner.base.bound texts) m;
      } in
      record {
        inner = m;
        made = [];
        done = [];
        row = row_start w m.base;
        chain = chain_push w h.frames root k.inner m f k.chain o;
        values = subst (AllMean h.table h.values) (sym (append-nil (k.inner.below ++ k.done))) k.values;
        represents = subst (ScopeMeans h.table h.scope) (sym (with_no s)) k.represents;
        bound_there = k.bound_there;
        bound = k.bound;
        waiting_there = k.waiting_there;
        waiting = k.waiting;
        total = k.total;
        known = with_no s ∙ k.known;
        named = k.named;
      }
    where
      nothing : (a : Answer Reading) → a ≡ (a >>= λ x. Ok (after_made [] x))
      nothing (Ok x) = refl
      nothing (Err g) = refl

      go : (a : Answer Readings) (m : Level) → (a >>= λ r. closes w f.opened m r) ≡ (a >>= λ r. closes w f.opened m r >>= λ x. Ok (after_made [] x))
      go (Ok r) m = nothing (closes w f.opened m r)
      go (Err g) m = refl

  module _ (h : Here) (f : Frame) (k : IsWalk w root (with_frame h f)) where
    -- the innermost list
    pub popped : Popped w root h.frames f k.inner
    popped = chain_pop w h.frames root k.inner f k.chain

    -- what its row is read as
    abbrev pub row_read : Readings
    row_read = record { made = k.made; terms = k.done }

    pub row_is : readings_in w k.inner.base ≡ Ok row_read
    row_is = row_end w (record { base = k.inner.base; made = k.made; done = k.done }) k.row

    -- the list has a fault of its own
    pub close_fault : (e : Located) → closes w f.opened k.inner row_read ≡ Err e → readings_in w root.base ≡ Err e
    close_fault e wrong = chain_fault w h.frames root popped.level e popped.chain (closed_fault w popped.level k.inner f e row_read popped.opens row_is wrong)

    -- what is known after it
    pub known_then : (ds : List Definition) → with_definitions k.inner.base.signature ds ≡ with_definitions popped.level.base.signature (popped.opens.made ++ (popped.opens.begun ++ ds))
    known_then ds =
        ap (λ s. with_definitions s ds) popped.opens.signature
        ∙ sym (with_both (with_definitions popped.level.base.signature popped.opens.made) popped.opens.begun ds)
        ∙ sym (with_both popped.level.base.signature popped.opens.made (popped.opens.begun ++ ds))

    -- the list is read
    pub close_goes : (x : Reading) (t : TableView) (v : ScopeView) (bound : BindingsView) (id : TermId) (named : List TermId) (total : List Definition)
        → closes w f.opened k.inner row_read ≡ Ok x
        → KeepsTable h.table t → IsIn t id → term_at t id ≡ x.term
        → ScopeMeans t v (with_definitions k.inner.base.signature x.made)
        → AreIn t bound.terms → bound_at t bound ≡ popped.level.base.bound → k.inner.waiting ≡ popped.level.waiting
        → with_definitions k.inner.base.signature x.made ≡ with_definitions root.base.signature total → AllMean t named (terms_of_definitions total)
        → IsWalk w root (record h { table = t; scope = v; values = take f.from h.values ++ id ∷ []; bound = bound; named = named; rest = trees_meant f.after })
    close_goes x t v bound id named total e keeps there is represents bound_there bound_is waits known all =
        let o = popped.opens in
        let l = popped.level in
        let front : AllMean h.table (take f.from h.values) k.inner.below = mean_front h.table h.values k.inner.below k.done f.from o.from k.values in
        record {
          inner = l;
          made = o.made ++ (o.begun ++ x.made);
          done = o.done ++ x.term ∷ [];
          row = row_step w (record { base = l.base; made = o.made; done = o.done }) o.tree (trees_meant f.after) (after_made o.begun x) o.row (closed_reading w l k.inner f row_read x o row_is e);
          chain = popped.chain;
          values = subst (AllMean t (take f.from h.values ++ id ∷ [])) (ap (λ ts. ts ++ x.term ∷ []) o.below ∙ append_assoc l.below o.done (x.term ∷ []))
              (mean_push t (take f.from h.values) id k.inner.below x.term (mean_kept h.table t keeps (take f.from h.values) k.inner.below front) there is);
          represents = subst (ScopeMeans t v) (known_then x.made) represents;
          bound_there = bound_there;
          bound = bound_is;
          waiting_there = in_kept h.table t keeps h.waiting.terms k.waiting_there;
          waiting = waiting_kept h.table t keeps h.waiting k.waiting_there ∙ k.waiting ∙ waits;
          total = total;
          known = sym (known_then x.made) ∙ known;
          named = all;
        }

-- How a step ends.
module _ (w : Setting) (root : Level) where
  -- where memory sufficed the walk is at the place that it should be
  pub ends_by : (new target : Here) (r : Result (Unit {0}) ReadError) → OnOk r (new ≡ target) → IsMemory r → IsWalk w root target → EndsStep w root new r
  ends_by new target (Ok u) is m k = subst (IsWalk w root) (sym is) k
  ends_by new target (Err Memory) is m k = tt
  ends_by new target (Err (Fault f)) is m k = absurd m

  -- a term was not read
  pub stops_by : (t : TableView) (a : Answer Term) (stop : ReadError) → EndsReading t a (Err stop) → ((e : Located) → a ≡ Err e → readings_in w root.base ≡ Err e) → HasFault (readings_in w root.base) stop
  stops_by t a (Fault f) e h = h (located_of f) e
  stops_by t a Memory e h = tt

-- where memory sufficed, the place is this too
pub on_along : (r : Result (Unit {0}) ReadError) (a b c : Here) → OnOk r (a ≡ b) → b ≡ c → OnOk r (a ≡ c)
on_along (Ok u) a b c e f = e ∙ f
on_along (Err x) a b c e f = tt

-- where memory sufficed, less is left
pub less_by : (new target : Here) (r : Result (Unit {0}) ReadError) (n : ℕ) → OnOk r (new ≡ target) → all_left target < n → OnOk r (all_left new < n)
less_by new target (Ok u) n is lt = subst (λ h. all_left h < n) (sym is) lt
less_by new target (Err e) n is lt = tt

-- a list more is open
pub frames_push : (fs : List Frame) (f : Frame) → frames_left (fs ++ f ∷ []) ≡ frames_left fs + (1 + (sizes (trees_meant f.after) + opened_left f.opened))
frames_push [] f = omega arith
frames_push (g ∷ fs) f = omega (arith, frames_push fs f)

module _ (w : Setting) (root : Level) (h : Here) (f : Frame) (k : IsWalk w root (with_frame h f)) where
  -- the number of the one term of the innermost row
  pub one_value : (d : TermId) → (x : Tree) × (k.inner.base.texts ≡ more x none) → (f.from < length h.values) × (IsIn h.table (get_or h.values f.from d) × (term_at h.table (get_or h.values f.from d) ≡ first_term k.done))
  one_value d one =
      mean_at h.table h.values k.inner.below (first_term k.done) f.from d (popped w root h f k).opens.from
      (subst (λ ts. AllMean h.table h.values (k.inner.below ++ ts)) (one_done w k.inner.base.signature k.inner.base.bound one.0 k.inner.base.texts (row_read w root h f k) one.1 (row_is w root h f k)) k.values)

  -- the numbers of the innermost row's terms
  pub row_values : AllMean h.table (drop f.from h.values) k.done
  row_values = mean_back h.table h.values k.inner.below k.done f.from (popped w root h f k).opens.from k.values

  -- they are there
  pub row_inside : f.from ≤ length h.values
  row_inside = omega (arith, (popped w root h f k).opens.from, mean_long h.table h.values (k.inner.below ++ k.done) k.values, length-append k.inner.below k.done)

pub less_along : (r : Result (Unit {0}) ReadError) (a n m : ℕ) → OnOk r (a < n) → n ≤ m → OnOk r (a < m)
less_along (Ok u) a n m lt le = omega (arith, lt, le)
less_along (Err e) a n m lt le = tt
