-- Reading a row of texts from left to right, one list inside the other: what is open, and what it comes to.
use Rattle.std.specs.Prelude.{◌≡◌, ℕ, ◌+◌, List, [], ◌∷◌, ◌++◌, length, map, drop, Result, Ok, Err}
use Rattle.spec_text.specs.Answers.{Answer, ◌>>=◌}
use Rattle.spec_text.specs.Trees.{Tree, Trees, atom, list, none, more}
use Rattle.spec_sorts.specs.Terms.{Term, no_term}
use Rattle.spec_sorts.specs.Signatures.{Definition, Signature, with_definitions}
use Rattle.spec_sorts.specs.Forms.{a_keyword, named_words}
use Rattle.spec_reading.specs.Names.{Setting}
use Rattle.spec_reading.specs.Reading.{Bound, bound_names, Reading, Readings, applied, made_by, annotated_as, reading}
use Rattle.spec_reading.specs.Reading.{readings, bindings_reading}
use Rattle.smt_sexpr.specs.declared.items.Trees.{Trees as Cursor}
use Rattle.smt_sexpr.specs.Items.{trees_meant, tree_meant}
use Rattle.term_core.specs.declared.ids.TermId.{TermId}
use Rattle.term_core.specs.Tables.{TableView, AreIn, clause_at}
use Rattle.term_reader.specs.declared.faults.ReadError.{ReadError}
use Rattle.term_reader.specs.Scopes.{ScopeView, ScopeMeans}
use Rattle.sort_check.specs.declared.frames.Opened.{Opened}
use Rattle.sort_check.specs.declared.frames.Opened.TheVariants.{Applies, Binds, Body, Annotates}
use Rattle.sort_check.specs.declared.frames.Frame.{Frame}
use Rattle.sort_check.specs.declared.frames.Walk.{Walk}
use Rattle.sort_check.specs.Reads.{HasFault}
use Rattle.sort_check.specs.Bindings.{BindingsView, no_bindings, bound_at, waiting_at}

-- A row of texts, and the names under which it is read.
pub record Base : Type 0 where
  -- what is declared and defined
  pub signature : Signature
  -- what is bound
  pub bound : Bound
  -- the texts
  pub texts : Trees

-- what a row is read as
abbrev pub readings_in : Setting → Base → Answer Readings
readings_in w x = readings w x.signature x.bound x.texts

-- How far a row is read.
pub record RowProgress : Type 0 where
  -- the row
  pub base : Base
  -- the definitions that were made
  pub made : List Definition
  -- the terms that were read
  pub done : List Term

-- the names that are known then
abbrev pub known_after : RowProgress → Signature
known_after r = with_definitions r.base.signature r.made

-- all of a row, with what is read after it was read before
abbrev pub with_row : RowProgress → Readings → Readings
with_row r rs = record { made = r.made ++ rs.made; terms = r.done ++ rs.terms }

-- what was read, and what is left, come to the row
abbrev pub IsRow : Setting → RowProgress → Trees → Type 0
IsRow w r rest = readings_in w r.base ≡ (readings w (known_after r) r.base.bound rest >>= λ rs. Ok (with_row r rs))

-- the first of terms
abbrev pub first_term : List Term → Term
first_term [] = no_term
first_term (t ∷ ts) = t

-- a text's term with definitions before those that it makes
abbrev pub after_made : List Definition → Reading → Reading
after_made ds r = record { made = ds ++ r.made; term = r.term }

-- the bindings of a `let` after some, and its body
abbrev pub let_from : Setting → Signature → Bound → Bound → Trees × Tree → Answer Reading
let_from w s b earlier p =
    bindings_reading w s b (bound_names earlier) p.0 >>= λ rs.
    reading w (with_definitions s rs.made) ((earlier ++ rs.bound) ++ b) p.1 >>= λ t.
    Ok (after_made rs.made t)

-- A row at its place: what is read in it comes after other terms, and after names that wait to be bound.
pub record Level : Type 0 where
  -- the row
  pub base : Base
  -- the terms that were read before it
  pub below : List Term
  -- the names that wait, oldest first
  pub waiting : Bound

-- what the readings of a row come to, by what is done with its terms
abbrev pub closes : Setting → Opened → Level → Readings → Answer Reading
closes w (Applies c) m r =
    applied (with_definitions m.base.signature r.made) m.base.bound c.place c.name.now c.at r.terms >>= λ t.
    Ok (record { made = r.made; term = t })
closes w (Binds n left body waited) m r =
    let_from w (with_definitions m.base.signature r.made) m.base.bound (drop waited m.waiting
    ++ (n.now, first_term r.terms) ∷ []) (trees_meant left, tree_meant body) >>= λ x.
    Ok (after_made r.made x)
closes w (Body bound) m r = Ok (record { made = r.made; term = first_term r.terms })
closes w (Annotates at text attributes) m r =
    made_by w (with_definitions m.base.signature r.made) (annotated_as w m.base.bound at (tree_meant text)
    (first_term r.terms)) (named_words a_keyword (trees_meant attributes)) >>= λ ds.
    Ok (record { made = r.made ++ ds; term = first_term r.terms })

-- what is bound in a row, by what was bound around it
abbrev pub IsUnder : Opened → Bound → Bound → Type 0
IsUnder (Body bound) outer inner = (more : Bound) × (inner ≡ more ++ outer) × (length outer ≡ bound)
IsUnder o outer inner = inner ≡ outer

-- what waits in a row, by what waited around it
abbrev pub IsWaiting : Opened → Bound → Bound → Type 0
IsWaiting (Binds n left body waited) outer inner = (more : Bound) × (inner ≡ outer ++ more) × (length outer ≡ waited)
IsWaiting o outer inner = inner ≡ outer

-- the row has one text, where one is wanted
abbrev pub HasTexts : Opened → Trees → Type 0
HasTexts (Applies c) ts = Unit {0}
HasTexts (Binds n left body waited) ts = ((t : Tree) × (ts ≡ more t none))
    × (trees_meant body ≡ more (tree_meant body) none)
HasTexts (Annotates at text attributes) ts = ts ≡ more (tree_meant text) none
HasTexts o ts = (t : Tree) × (ts ≡ more t none)

-- A list of a row is open, in which another row is read.
pub record Opens (w : Setting) (l : Level) (f : Frame) (m : Level) : Type 0 where
  -- the definitions that were made before it
  pub made : List Definition
  -- the terms that were read before it
  pub done : List Term
  -- the list
  pub tree : Tree
  -- it comes next in its row
  pub row : IsRow w (record { base = l.base; made = made; done = done }) (more tree (trees_meant f.after))
  -- the definitions that it made already
  pub begun : List Definition
  -- what is known in the inner row
  pub signature : m.base.signature ≡ with_definitions (with_definitions l.base.signature made) begun
  -- what is bound in it
  pub bound : IsUnder f.opened l.base.bound m.base.bound
  -- what waits in it
  pub waiting : IsWaiting f.opened l.waiting m.waiting
  -- the terms before it
  pub below : m.below ≡ l.below ++ done
  -- so many
  pub from : f.from ≡ length m.below
  -- its texts
  pub texts : HasTexts f.opened m.base.texts
  -- what the list comes to by the inner row
  pub is : reading w (with_definitions l.base.signature made) l.base.bound tree
      ≡ (readings_in w m.base >>= λ r. closes w f.opened m r >>= λ x. Ok (after_made begun x))

-- open lists, one inside the other, between an outer row and the innermost
abbrev pub Chain : Setting → Level → List Frame → Level → Type 0
Chain w l [] m = m ≡ l
Chain w l (f ∷ fs) m = (k : Level) × Opens w l f k × Chain w k fs m

-- What the code has.
pub record Here : Type 0 where
  -- the table
  pub table : TableView
  -- the scope
  pub scope : ScopeView
  -- the open lists
  pub frames : List Frame
  -- the terms that were read
  pub values : List TermId
  -- what is bound
  pub bound : BindingsView
  -- what waits to be bound
  pub waiting : BindingsView
  -- the terms that got names
  pub named : List TermId
  -- what is left of the innermost row
  pub rest : Trees

-- a walk of the code over a table and a scope
abbrev pub here : TableView → ScopeView → Walk → Here
here t v k = record {
  table = t;
  scope = v;
  frames = k.frames.items;
  values = k.values.items;
  bound = k.bound;
  waiting = k.waiting;
  named = k.named.items;
  rest = trees_meant k.rest;
}

-- where a walk begins
abbrev pub started : TableView → ScopeView → BindingsView → Trees → Here
started t v bound texts = record {
  table = t;
  scope = v;
  frames = [];
  values = [];
  bound = bound;
  waiting = no_bindings;
  named = [];
  rest = texts;
}

-- numbers of these terms
abbrev pub AllMean : TableView → List TermId → List Term → Type 0
AllMean t ids ts = AreIn t ids × (clause_at t ids ≡ ts)

-- the terms of definitions
abbrev pub terms_of_definitions : List Definition → List Term
terms_of_definitions ds = map (λ (d : Definition). d.term) ds

-- All that the code has comes to what an outer row is read as.
pub record IsWalk (w : Setting) (root : Level) (h : Here) : Type 0 where
  -- the innermost row
  pub inner : Level
  -- the definitions that were made in it
  pub made : List Definition
  -- the terms that were read in it
  pub done : List Term
  -- what is left of it
  pub row : IsRow w (record { base = inner.base; made = made; done = done }) h.rest
  -- the lists around it
  pub chain : Chain w root h.frames inner
  -- the numbers of all terms that were read
  pub values : AllMean h.table h.values (inner.below ++ done)
  -- what the names stand for
  pub represents : ScopeMeans h.table h.scope (with_definitions inner.base.signature made)
  -- the terms of bound names are there
  pub bound_there : AreIn h.table h.bound.terms
  -- they are those of the row
  pub bound : bound_at h.table h.bound ≡ inner.base.bound
  -- the terms of names that wait are there
  pub waiting_there : AreIn h.table h.waiting.terms
  -- they are those of the row
  pub waiting : waiting_at h.table h.waiting ≡ inner.waiting
  -- all definitions that were made
  pub total : List Definition
  -- they came to the outer row's names
  pub known : with_definitions inner.base.signature made ≡ with_definitions root.base.signature total
  -- the numbers of their terms
  pub named : AllMean h.table h.named (terms_of_definitions total)

-- how a step ends: the walk goes on, or the outer row has this fault
abbrev pub EndsStep : {A : Type 0} → Setting → Level → Here → Result A ReadError → Type 0
EndsStep w root new (Ok a) = IsWalk w root new
EndsStep w root new (Err stop) = HasFault (readings_in w root.base) stop

-- it is a walk of some row
abbrev pub OnWalk : Setting → Here → Type 0
OnWalk w h = (root : Level) × IsWalk w root h

-- from here the walk goes on
abbrev pub ContinuesWalk : {A : Type 0} → Setting → (old new : Here) → Result A ReadError → Type 0
ContinuesWalk w old new r = (root : Level) → IsWalk w root old → EndsStep w root new r

-- a list is open again, of which the row was read
abbrev pub with_frame : Here → Frame → Here
with_frame h f = record h { frames = h.frames ++ f ∷ []; rest = none }

-- What is left of a `let`: its bindings and its body, and what is after it; so many names waited before its own.
pub record Let : Type 0 where
  -- the bindings
  pub bindings : Trees
  -- the body
  pub body : Tree
  -- how many names waited before
  pub waited : ℕ
  -- what is after it
  pub after : Trees

-- so it is by the cursors of the code
abbrev pub let_of : Cursor → Cursor → ℕ → Cursor → Let
let_of bindings body waited after = record {
  bindings = trees_meant bindings;
  body = tree_meant body;
  waited = waited;
  after = trees_meant after;
}

-- A `let` is read up to some of its bindings.
pub record IsInLet (w : Setting) (root : Level) (h : Here) (x : Let) : Type 0 where
  -- the row in which it is
  pub level : Level
  -- the definitions that were made in it
  pub made : List Definition
  -- the terms that were read in it
  pub done : List Term
  -- the `let`
  pub tree : Tree
  -- it comes next
  pub row : IsRow w (record { base = level.base; made = made; done = done }) (more tree x.after)
  -- the lists around it
  pub chain : Chain w root h.frames level
  -- the definitions that its bindings made
  pub begun : List Definition
  -- the names that they bind
  pub earlier : Bound
  -- what it comes to by the bindings that are left
  pub is : reading w (with_definitions level.base.signature made) level.base.bound tree
      ≡ (let_from w (with_definitions (with_definitions level.base.signature made) begun) level.base.bound earlier
      (x.bindings, x.body) >>= λ y. Ok (after_made begun y))
  -- the numbers of all terms that were read
  pub values : AllMean h.table h.values (level.below ++ done)
  -- what the names stand for
  pub represents : ScopeMeans h.table h.scope (with_definitions (with_definitions level.base.signature made) begun)
  -- the terms of bound names are there
  pub bound_there : AreIn h.table h.bound.terms
  -- they are those of the row
  pub bound : bound_at h.table h.bound ≡ level.base.bound
  -- the terms of names that wait are there
  pub waiting_there : AreIn h.table h.waiting.terms
  -- they are those of the row, and of the bindings
  pub waiting : waiting_at h.table h.waiting ≡ level.waiting ++ earlier
  -- so many waited before
  pub waited : length level.waiting ≡ x.waited
  -- all definitions that were made
  pub total : List Definition
  -- they came to the outer row's names
  pub known : with_definitions (with_definitions level.base.signature made) begun
      ≡ with_definitions root.base.signature total
  -- the numbers of their terms
  pub named : AllMean h.table h.named (terms_of_definitions total)

-- from here in a `let` the walk goes on
abbrev pub GoesInLet : {A : Type 0} → Setting → Let → (old new : Here) → Result A ReadError → Type 0
GoesInLet w x old new r = (root : Level) → IsInLet w root old x → EndsStep w root new r

-- a text comes next, and before others
abbrev pub IsNextTree : Here → Tree → Trees → Type 0
IsNextTree h t after = h.rest ≡ more t after

-- a list counts as two: it is begun and ended
abbrev mutual
  -- how large a text is
  pub size : Tree → ℕ
  size (atom at k n) = 1
  size (list at ts end) = 2 + sizes ts

  -- how large texts are
  pub sizes : Trees → ℕ
  sizes none = 0
  sizes (more t ts) = size t + sizes ts

-- what is left of a list besides the row that is read in it
abbrev pub opened_left : Opened → ℕ
opened_left (Binds n left body waited) = 1 + (sizes (trees_meant left) + size (tree_meant body))
opened_left o = 0

-- what is left of open lists
abbrev pub frames_left : List Frame → ℕ
frames_left [] = 0
frames_left (f ∷ fs) = 1 + (sizes (trees_meant f.after) + opened_left f.opened) + frames_left fs

-- what is left to read
abbrev pub all_left : Here → ℕ
all_left h = frames_left h.frames + sizes h.rest

-- what is left where a `let` is read up to some of its bindings
abbrev pub let_left : Here → Let → ℕ
let_left h x = frames_left h.frames + (sizes x.after + (sizes x.bindings + size x.body))
