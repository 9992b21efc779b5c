-- What the steps in a `let` come to for all that the code has.
use Rattle.std.proofs.Common.{◌≡◌, ℕ, ◌≤◌, List, [], ◌∷◌, ◌++◌, length, take, drop, get_or, Some, None, refl, ap, sym, ◌∙◌, subst, arith, append_assoc, append-nil}
use Rattle.std.specs.Prelude.{Ok, Err, reverse}
use Rattle.std.proofs.Common.{Bor}
use Rattle.std.proofs.lemmas.List.{length-append, reverse-append, drop_at}
use Rattle.std.proofs.lemmas.List.Elements.{All-append, All-drop, All-take, All-push, All-head, All-tail}
use Rattle.spec_text.specs.Bytes.{Name}
use Rattle.spec_text.specs.Shapes.{Word}
use Rattle.spec_text.specs.Faults.{Located}
use Rattle.spec_text.specs.Answers.{Answer, ◌>>=◌}
use Rattle.spec_text.specs.Trees.{Tree, Trees, none, more}
use Rattle.spec_sorts.specs.Terms.{Term}
use Rattle.spec_sorts.specs.Signatures.{Definition, Signature, with_definitions}
use Rattle.spec_reading.specs.Names.{Setting, new_name, is_in_list}
use Rattle.spec_reading.specs.Reading.{Bound, bound_names, Reading, Readings, reading}
use Rattle.spec_reading.proofs.Values.{with_both}
use Rattle.smt_sexpr.specs.declared.items.Trees.{Trees as Cursor}
use Rattle.smt_sexpr.specs.Items.{trees_meant, tree_meant}
use Rattle.term_core.specs.declared.ids.TermId.{TermId}
use Rattle.term_core.specs.Tables.{TableView, IsIn, AreIn}
use Rattle.term_reader.specs.Scopes.{ScopeMeans}
use Rattle.sort_check.specs.declared.frames.Opened.{Opened}
use Rattle.sort_check.specs.declared.frames.Opened.TheVariants.{Binds}
use Rattle.sort_check.specs.declared.frames.Frame.{Frame}
use Rattle.sort_check.specs.Bindings.{BindingsView, waiting_at}
use Rattle.sort_check.specs.Splitting.{first_binding, let_parts}
use Rattle.sort_check.specs.Steps.{HasBound, IsLetAt}
use Rattle.sort_check.specs.Walks.{let_of, readings_in, RowProgress, known_after, IsRow, first_term, after_made, let_from, Level, closes, IsUnder, IsWaiting, HasTexts, Opens, Here, AllMean, IsWalk, with_frame, Let, IsInLet}
use Rattle.sort_check.proofs.Rows.{with_no, row_start, row_fault, chain_fault, chain_push}
use Rattle.sort_check.proofs.Kept.{in_push, mean_long, mean_front}
use Rattle.sort_check.proofs.Lets.{in_two, let_next, let_fault, let_body, let_starts}
use Rattle.sort_check.proofs.Binding.{waiting_push, waiting_long, waiting_names, bound_more, waiting_less}
use Rattle.sort_check.proofs.Walking.{row_of, popped, row_read, row_is, one_value}

-- nothing made before changes nothing
nothing_made : (a : Answer Reading) → a ≡ (a >>= λ y. Ok (after_made [] y))
unfolding ◌>>=◌
nothing_made (Ok y) = refl
nothing_made (Err e) = refl

all_reversed : (t : TableView) (ids : List TermId) → AreIn t ids → AreIn t (reverse ids)
all_reversed t [] h = h
all_reversed t (id ∷ ids) h =
    subst (AreIn t) (sym (reverse-append (id ∷ []) ids))
    (All-push (λ i. IsIn t i) (reverse ids) id (all_reversed t ids (All-tail (λ i. IsIn t i) id ids h)) (All-head (λ i. IsIn t i) id ids h))

module _ (w : Setting) (root : Level) where
  -- a `let` begins
  pub let_begins : (h : Here) (k : IsWalk w root h) (tree : Tree) (at : ℕ) (us : Trees) (x : Let) → h.rest ≡ more tree x.after → IsLetAt w tree at us → let_parts us ≡ Some (x.bindings, x.body)
      → x.waited ≡ length k.inner.waiting → IsInLet w root h x
  unfolding ◌>>=◌
  let_begins h k tree at us x is here parts waited =
      let s : Signature = known_after (row_of w root h k) in
      let b : Bound = k.inner.base.bound in
      record {
        level = k.inner;
        made = k.made;
        done = k.done;
        tree = tree;
        row = subst (IsRow w (row_of w root h k)) is k.row;
        chain = k.chain;
        begun = [];
        earlier = [];
        is = here s b ∙ let_starts w s b at us (x.bindings, x.body) parts ∙ ap (λ u. let_from w u b [] (x.bindings, x.body)) (sym (with_no s)) ∙ nothing_made (let_from w (with_definitions s []) b [] (x.bindings, x.body));
        values = k.values;
        represents = subst (ScopeMeans h.table h.scope) (sym (with_no s)) k.represents;
        bound_there = k.bound_there;
        bound = k.bound;
        waiting_there = k.waiting_there;
        waiting = k.waiting ∙ sym (append-nil k.inner.waiting);
        waited = sym waited;
        total = k.total;
        known = with_no s ∙ k.known;
        named = k.named;
      }

  module _ (h : Here) (x : Let) (k : IsInLet w root h x) (long : length h.waiting.names ≡ length h.waiting.terms) where
    abbrev in_let : Signature
    in_let = with_definitions (with_definitions k.level.base.signature k.made) k.begun

    abbrev row_around : RowProgress
    row_around = record { base = k.level.base; made = k.made; done = k.done }

    -- the names of the bindings before, as the code has them
    pub earlier_names : bound_names k.earlier ≡ drop x.waited h.waiting.names
    earlier_names = waiting_names h.table h.waiting k.level.waiting k.earlier x.waited long k.waited k.waiting

    -- the name of the next binding has a fault
    pub name_fault : (y : Word) (t : Tree) (left : Trees) (e : Located) → first_binding x.bindings ≡ Some (y, (t, left)) → new_name w (is_in_list (bound_names k.earlier)) y ≡ Err e → readings_in w root.base ≡ Err e
    unfolding ◌>>=◌
    name_fault y t left e first wrong =
        chain_fault w h.frames root k.level e k.chain
        (row_fault w row_around k.tree x.after e k.row (k.is ∙ ap (λ a. a >>= λ z. Ok (after_made k.begun z)) (let_fault w in_let k.level.base.bound k.earlier x.bindings x.body y t left e first wrong)))

    -- the row of the next binding
    abbrev binding_row : Tree → Level
    binding_row t = record { base = record { signature = in_let; bound = k.level.base.bound; texts = more t none }; below = k.level.below ++ k.done; waiting = k.level.waiting ++ k.earlier }

    -- the term of the next binding is read then
    pub binding_goes : (y : Word) (t : Tree) (f : Frame) (o : Opened) (texts : Trees) → f.opened ≡ o → (n : Name) (left body : Cursor)
        → first_binding x.bindings ≡ Some (y, (t, trees_meant left)) → new_name w (is_in_list (bound_names k.earlier)) y ≡ Ok n
        → x.body ≡ tree_meant body → trees_meant body ≡ more (tree_meant body) none → trees_meant f.after ≡ x.after → f.from ≡ length h.values → texts ≡ more t none
        → ((m : Level) (r : Readings) → closes w o m r ≡ (let_from w (with_definitions m.base.signature r.made) m.base.bound (drop x.waited m.waiting ++ (n, first_term r.terms) ∷ []) (trees_meant left, tree_meant body) >>= λ z. Ok (after_made r.made z)))
        → IsUnder o k.level.base.bound k.level.base.bound
        → IsWaiting o k.level.waiting (k.level.waiting ++ k.earlier)
        → HasTexts o (more t none)
        → IsWalk w root (record h { frames = h.frames ++ f ∷ []; rest = texts })
    unfolding ◌>>=◌
    binding_goes y t f o texts opened n left body first fresh body_is alone after from texts_is closing under waits has =
        let m : Level = binding_row t in
        let b : Bound = k.level.base.bound in
        let back : drop x.waited m.waiting ≡ k.earlier = drop_front k.level.waiting k.earlier x.waited k.waited in
        let step : let_from w in_let b k.earlier (x.bindings, x.body) ≡ (readings_in w m.base >>= λ r. closes w f.opened m r) =
        let_next w in_let b k.earlier x.bindings x.body y t (trees_meant left) n first fresh
        ∙ (λ i. readings_in w m.base >>= λ r. let_from w (with_definitions in_let r.made) b (sym back i ++ (n, first_term r.terms) ∷ []) (trees_meant left, body_is i) >>= λ z. Ok (after_made r.made z))
        ∙ (λ i. readings_in w m.base >>= λ r. sym (closing m r) i)
        ∙ (λ i. readings_in w m.base >>= λ r. closes w (sym opened i) m r) in
        let opens : Opens w k.level f m = record {
          made = k.made;
          done = k.done;
          tree = k.tree;
          row = subst (λ ts. IsRow w row_around (more k.tree ts)) (sym after) k.row;
          begun = k.begun;
          signature = refl;
          bound = subst (λ p. IsUnder p b b) (sym opened) under;
          waiting = subst (λ p. IsWaiting p k.level.waiting m.waiting) (sym opened) waits;
          below = refl;
          from = from ∙ mean_long h.table h.values (k.level.below ++ k.done) k.values;
          texts = subst (λ p. HasTexts p (more t none)) (sym opened) has;
          is = k.is ∙ ap (λ a. a >>= λ z. Ok (after_made k.begun z)) step ∙ in_two (readings_in w m.base) (λ r. closes w f.opened m r) (λ z. Ok (after_made k.begun z));
        } in
        record {
          inner = m;
          made = [];
          done = [];
          row = subst (IsRow w (record { base = m.base; made = []; done = [] })) (sym texts_is) (row_start w m.base);
          chain = chain_push w h.frames root k.level m f k.chain opens;
          values = subst (AllMean h.table h.values) (sym (append-nil (k.level.below ++ k.done))) k.values;
          represents = subst (ScopeMeans h.table h.scope) (sym (with_no in_let)) k.represents;
          bound_there = k.bound_there;
          bound = k.bound;
          waiting_there = k.waiting_there;
          waiting = k.waiting;
          total = k.total;
          known = with_no in_let ∙ k.known;
          named = k.named;
        }
      where
        drop_front : (outer others : Bound) (n : ℕ) → length outer ≡ n → drop n (outer ++ others) ≡ others
        drop_front outer others n l = drop_at outer others n l

    -- the body is read then, under all bindings
    pub body_goes : (also : length h.bound.names ≡ length h.bound.terms) (f : Frame) (o : Opened) (texts : Trees) (u c : BindingsView) → f.opened ≡ o → first_binding x.bindings ≡ None
        → HasBound x.waited h.waiting h.bound u c → trees_meant f.after ≡ x.after → f.from ≡ length h.values → texts ≡ more x.body none
        → ((m : Level) (r : Readings) → closes w o m r ≡ Ok (record { made = r.made; term = first_term r.terms }))
        → IsUnder o k.level.base.bound (k.earlier ++ k.level.base.bound)
        → IsWaiting o k.level.waiting k.level.waiting
        → HasTexts o (more x.body none)
        → IsWalk w root (record h { frames = h.frames ++ f ∷ []; bound = c; waiting = u; rest = texts })
    unfolding ◌>>=◌
    body_goes also f o texts u c opened first bind after from texts_is closing under waits has =
        let b : Bound = k.level.base.bound in
        let m : Level = record { base = record { signature = in_let; bound = k.earlier ++ b; texts = more x.body none }; below = k.level.below ++ k.done; waiting = k.level.waiting } in
        let step : let_from w in_let b k.earlier (x.bindings, x.body) ≡ (readings_in w m.base >>= λ r. closes w f.opened m r) =
        let_body w in_let b k.earlier x.bindings x.body first
        ∙ (λ i. readings_in w m.base >>= λ r. sym (closing m r) i)
        ∙ (λ i. readings_in w m.base >>= λ r. closes w (sym opened i) m r) in
        let opens : Opens w k.level f m = record {
          made = k.made;
          done = k.done;
          tree = k.tree;
          row = subst (λ ts. IsRow w row_around (more k.tree ts)) (sym after) k.row;
          begun = k.begun;
          signature = refl;
          bound = subst (λ p. IsUnder p b (k.earlier ++ b)) (sym opened) under;
          waiting = subst (λ p. IsWaiting p k.level.waiting k.level.waiting) (sym opened) waits;
          below = refl;
          from = from ∙ mean_long h.table h.values (k.level.below ++ k.done) k.values;
          texts = subst (λ p. HasTexts p (more x.body none)) (sym opened) has;
          is = k.is ∙ ap (λ a. a >>= λ z. Ok (after_made k.begun z)) step ∙ in_two (readings_in w m.base) (λ r. closes w f.opened m r) (λ z. Ok (after_made k.begun z));
        } in
        record {
          inner = m;
          made = [];
          done = [];
          row = subst (IsRow w (record { base = m.base; made = []; done = [] })) (sym texts_is) (row_start w m.base);
          chain = chain_push w h.frames root k.level m f k.chain opens;
          values = subst (AllMean h.table h.values) (sym (append-nil (k.level.below ++ k.done))) k.values;
          represents = subst (ScopeMeans h.table h.scope) (sym (with_no in_let)) k.represents;
          bound_there = subst (AreIn h.table) (sym bind.bound_terms) (All-append (λ i. IsIn h.table i) h.bound.terms (reverse (drop x.waited h.waiting.terms)) k.bound_there (all_reversed h.table (drop x.waited h.waiting.terms) (All-drop (λ i. IsIn h.table i) x.waited h.waiting.terms k.waiting_there)));
          bound = bound_more h.table x.waited h.waiting h.bound u c k.level.waiting k.earlier b bind long also k.waited k.waiting k.bound;
          waiting_there = subst (AreIn h.table) (sym bind.terms) (All-take (λ i. IsIn h.table i) x.waited h.waiting.terms k.waiting_there);
          waiting = waiting_less h.table x.waited h.waiting h.bound u c k.level.waiting k.earlier bind k.waited k.waiting;
          total = k.total;
          known = with_no in_let ∙ k.known;
          named = k.named;
        }

-- a binding's term is read
module _ (w : Setting) (root : Level) (h : Here) (f : Frame) (k : IsWalk w root (with_frame h f)) (name : Bor (List ℕ)) (left body : Cursor) (waited : ℕ) (opened : f.opened ≡ Binds name left body waited) where
  -- what waits, by what waited before
  pub waits : (outer : Bound) × (more : Bound) × (k.inner.waiting ≡ outer ++ more) × (length outer ≡ waited) × (outer ≡ (popped w root h f k).level.waiting)
  waits = let o = subst (λ p. IsWaiting p (popped w root h f k).level.waiting k.inner.waiting) opened (popped w root h f k).opens.waiting in ((popped w root h f k).level.waiting, o.0, o.1, o.2, refl)

  pub body_alone : trees_meant body ≡ more (tree_meant body) none
  body_alone = (subst (λ p. HasTexts p k.inner.base.texts) opened (popped w root h f k).opens.texts).1

  pub one_text_read : (x : Tree) × (k.inner.base.texts ≡ more x none)
  one_text_read = (subst (λ p. HasTexts p k.inner.base.texts) opened (popped w root h f k).opens.texts).0

  -- as many wait as waited before, or more
  pub waited_before : length h.waiting.names ≡ length h.waiting.terms → waited ≤ length h.waiting.names
  waited_before long = omega (arith, waiting_long h.table h.waiting k.inner.waiting long k.waiting, ap length waits.2, length-append waits.0 waits.1, waits.3)

  pub binding_closes : (d : TermId) (c : BindingsView) → length h.waiting.names ≡ length h.waiting.terms → c ≡ record { names = h.waiting.names ++ name.now ∷ []; terms = h.waiting.terms ++ get_or h.values f.from d ∷ [] }
      → IsInLet w root (record h { values = take f.from h.values; waiting = c }) (let_of left body waited f.after)
  unfolding ◌>>=◌ waits
  binding_closes d c long is =
      let o = (popped w root h f k).opens in
      let l = (popped w root h f k).level in
      let u : Term = first_term k.done in
      let m = k.inner in
      let z = waits in
      let one = one_value w root h f k d one_text_read in
      let s : Signature = with_definitions l.base.signature o.made in
      let known : with_definitions m.base.signature k.made ≡ with_definitions s (o.begun ++ k.made) = ap (λ x. with_definitions x k.made) o.signature ∙ sym (with_both s o.begun k.made) in
      let under : m.base.bound ≡ l.base.bound = subst (λ p. IsUnder p l.base.bound m.base.bound) opened o.bound in
      let back : drop waited m.waiting ≡ z.1 = ap (drop waited) z.2 ∙ drop_at z.0 z.1 waited z.3 in
      let parts : Trees × Tree = (trees_meant left, tree_meant body) in
      let whole : reading w s l.base.bound o.tree ≡ (let_from w (with_definitions s (o.begun ++ k.made)) l.base.bound (z.1 ++ (name.now, u) ∷ []) parts >>= λ y. Ok (after_made (o.begun ++ k.made) y)) =
      o.is ∙ ap (λ a. a >>= λ r. closes w f.opened m r >>= λ x. Ok (after_made o.begun x)) (row_is w root h f k)
      ∙ ap (λ p. closes w p m (row_read w root h f k) >>= λ x. Ok (after_made o.begun x)) opened
      ∙ twice o.begun k.made (let_from w (with_definitions m.base.signature k.made) m.base.bound (drop waited m.waiting ++ (name.now, u) ∷ []) parts)
      ∙ (λ i. let_from w (known i) (under i) (back i ++ (name.now, u) ∷ []) parts >>= λ y. Ok (after_made (o.begun ++ k.made) y)) in
      let front = mean_front h.table h.values m.below k.done f.from o.from k.values in
      record {
        level = l;
        made = o.made;
        done = o.done;
        tree = o.tree;
        row = o.row;
        chain = (popped w root h f k).chain;
        begun = o.begun ++ k.made;
        earlier = z.1 ++ (name.now, u) ∷ [];
        is = whole;
        values = subst (AllMean h.table (take f.from h.values)) o.below front;
        represents = subst (ScopeMeans h.table h.scope) known k.represents;
        bound_there = k.bound_there;
        bound = k.bound ∙ under;
        waiting_there = subst (λ (v : BindingsView). AreIn h.table v.terms) (sym is) (in_push h.table h.waiting.terms (get_or h.values f.from d) k.waiting_there one.1.0);
        waiting = ap (waiting_at h.table) is ∙ waiting_push h.table h.waiting name.now (get_or h.values f.from d) long ∙ (λ i. k.waiting i ++ (name.now, one.1.1 i) ∷ []) ∙ ap (λ b. b ++ (name.now, u) ∷ []) z.2 ∙ append_assoc z.0 z.1 ((name.now, u) ∷ []);
        waited = z.3;
        total = k.total;
        known = sym known ∙ k.known;
        named = k.named;
      }
    where
      twice : (a b : List Definition) (x : Answer Reading) → ((x >>= λ y. Ok (after_made b y)) >>= λ y. Ok (after_made a y)) ≡ (x >>= λ y. Ok (after_made (a ++ b) y))
      twice a b (Err e) = refl
      twice a b (Ok y) = λ i. Ok (record { made = sym (append_assoc a b y.made) i; term = y.term })
