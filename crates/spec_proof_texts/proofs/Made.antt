-- The names that texts of a script make: none is kept for solvers or a theory's, and each takes a keyword.
use Rattle.std.proofs.Common.{◌≡◌, ◌≤◌, ℕ, suc, ◌+◌, ◌*◌, Bool, true, false, not, ◌&&◌, ◌||◌, cond, List, [], ◌∷◌, ◌++◌, length, Option, Some, None, Contains, inl, inr, refl, sym, ap, ◌∙◌, subst, length-append, append-nil, arith}
use Rattle.std.specs.Prelude.{◌⊎◌, Ok, codes}
use Rattle.std.specs.Str.{bytes_eq}
use Rattle.std.proofs.lemmas.Bool.{false≢true, or_parts}
use Rattle.std.proofs.lemmas.List.Elements.{All-weaker, Contains-push_cases}
use Rattle.std.proofs.lemmas.Slice.Eq.{bytes_eq-Decides}
use Rattle.std.proofs.lemmas.Option.{same_Some}
use Rattle.spec_text.specs.declared.Kind.TheVariants.{Keyword}
use Rattle.spec_text.specs.declared.Fault.TheVariants.{BadShape, Reserved, Twice}
use Rattle.spec_text.specs.Bytes.{Name}
use Rattle.spec_text.specs.Shapes.{Word, is_reserved}
use Rattle.spec_text.specs.Answers.{refused, require}
use Rattle.spec_text.specs.Trees.{Tree, Trees, atom, list, none, more}
use Rattle.spec_text.proofs.AnswerLaws.{answer, went, require_true}
use Rattle.spec_text.proofs.General.{bytes_itself}
use Rattle.spec_text.proofs.Members.{none as no_member}
use Rattle.spec_sorts.specs.Terms.{Sort, Truth, Number, Declared, Symbol}
use Rattle.spec_sorts.specs.Theory.{is_of_theory}
use Rattle.spec_sorts.specs.Signatures.{Definition, Known, known_name, declared, defined, Declaration, of_sort, of_function, Signature, known_as, sort_as, is_some, symbols_in, definition, with_definitions}
use Rattle.spec_sorts.specs.Forms.{Form, malformed, reserved, applies, binds, annotates, form, Next, a_keyword, a_value, a_name, after_keyword, named_words}
use Rattle.spec_sorts.proofs.Signatures.{sort_same}
use Rattle.spec_reading.specs.Names.{Setting, new_name, is_kept_name, is_barred, is_function, is_own}
use Rattle.spec_reading.specs.Sorts.{sort_found, sort_named}
use Rattle.spec_reading.specs.Reading.{Bound, Reading, Readings, Bindings, Annotated, plain_reading, naming, made_by, annotated_as, reading, readings, let_reading, bindings_reading, annotated_reading}
use Rattle.spec_reading.proofs.Values.{with_both, by_form}
use Rattle.spec_reading.proofs.Kept.{text_keeps}
use Rattle.spec_reading.proofs.Sound.{not_taken}
use Rattle.spec_models.specs.Meaning.{IsSortIn, IsSymbolIn}
use Rattle.spec_proof_texts.specs.ReadBack.{AreScriptNames}
use Rattle.spec_proof_texts.proofs.Lookups.{extended, function_push, stays}
use Rattle.spec_proof_texts.proofs.Weights.{weight, weight_all}

-- the name of a function that a script makes
pub record IsScriptName (n : Name) : Type 0 where
  pub not_kept : is_kept_name n ≡ false
  pub own : is_of_theory n ≡ false

not_barred : (r : Bool) (k : Bool) → not (r || (true && k)) ≡ true → (r ≡ false) × (k ≡ false)
not_barred true k e = absurd (false≢true e)
not_barred false true e = absurd (false≢true e)
not_barred false false e = (refl, refl)

-- a new name of a script is the word's, which is none that is kept, nor reserved
pub fresh_name : (w : Setting) (taken : Name → Bool) (x : Word) (n : Name) → w.kept_names ≡ false → new_name w taken x ≡ Ok n → (x.bytes ≡ n) × (is_kept_name n ≡ false) × (is_reserved x.kind ≡ false)
fresh_name w taken x n bare e =
    let a = went (require (not (is_barred w x)) x.at Reserved) _ n e in
    let b = went (require (not (taken x.bytes)) x.at Twice) _ n a.then in
    let same : x.bytes ≡ n = answer (Ok x.bytes) n b.then in
    let free : not (is_reserved x.kind || (true && is_kept_name x.bytes)) ≡ true = ap (λ k. not (is_reserved x.kind || (not k && is_kept_name x.bytes))) (sym bare) ∙ require_true (not (is_barred w x)) x.at Reserved a.first a.was in
    let parts = not_barred (is_reserved x.kind) (is_kept_name x.bytes) free in
    (same, ap is_kept_name (sym same) ∙ parts.1, parts.0)

-- of a function too
pub function_name : (w : Setting) (g : Signature) (taken : Name → Bool) (x : Word) (n : Name) → w.kept_names ≡ false → new_name w taken x ≡ Ok n → is_function g n ≡ false → IsScriptName n
function_name w g taken x n bare e free = record { not_kept = (fresh_name w taken x n bare e).1; own = (or_parts (is_of_theory n) (is_some (known_as g n)) free).0 }

-- the symbols with a declaration more
pub symbols_push : (s : Signature) (d : Declaration) → symbols_in (s ++ d ∷ []) ≡ symbols_in s ++ symbols_in (d ∷ [])
symbols_push [] d = refl
symbols_push (of_sort m u ∷ s) d = symbols_push s d
symbols_push (of_function (declared f) ∷ s) d = ap (λ fs. f ∷ fs) (symbols_push s d)
symbols_push (of_function (defined x) ∷ s) d = symbols_push s d

-- and with definitions
pub symbols_same : (s : Signature) (ds : List Definition) → symbols_in (with_definitions s ds) ≡ symbols_in s
symbols_same [] [] = refl
symbols_same [] (d ∷ ds) = symbols_same [] ds
symbols_same (of_sort m u ∷ s) ds = symbols_same s ds
symbols_same (of_function (declared f) ∷ s) ds = ap (λ fs. f ∷ fs) (symbols_same s ds)
symbols_same (of_function (defined x) ∷ s) ds = symbols_same s ds

-- no more symbols than names
pub few_symbols : (s : Signature) → length (symbols_in s) ≤ length s
few_symbols [] = omega arith
few_symbols (of_sort m u ∷ s) = omega (arith, few_symbols s)
few_symbols (of_function (declared f) ∷ s) = omega (arith, few_symbols s)
few_symbols (of_function (defined x) ∷ s) = omega (arith, few_symbols s)

-- what a sort is called stays so, with more names that come after
pub sort_more : (g h : Signature) (n : Name) (s : Sort) → sort_as g n ≡ Some s → sort_as (g ++ h) n ≡ Some s
sort_more [] h n s e = cc
sort_more (of_sort m u ∷ g) h n s e = go (bytes_eq m n) e (sort_more g h n s)
  where
    go : (b : Bool) → cond b (Some u) (sort_as g n) ≡ Some s → (sort_as g n ≡ Some s → sort_as (g ++ h) n ≡ Some s) → cond b (Some u) (sort_as (g ++ h) n) ≡ Some s
    go true e rest = e
    go false e rest = rest e
sort_more (of_function k ∷ g) h n s e = sort_more g h n s e

sort_named_more : (g h : Signature) (at : ℕ) (n : Name) (s : Sort) → sort_named g at n ≡ Ok s → sort_named (g ++ h) at n ≡ Ok s
sort_named_more g h at n s e = go (bytes_eq n (codes "Bool")) (bytes_eq n (codes "Real")) (sort_as g n) refl e
  where
    go : (a b : Bool) (o : Option Sort) → sort_as g n ≡ o → cond a (Ok Truth) (cond b (Ok Number) (sort_found at o)) ≡ Ok s → cond a (Ok Truth) (cond b (Ok Number) (sort_found at (sort_as (g ++ h) n))) ≡ Ok s
    go true b o is e = e
    go false true o is e = e
    go false false None is e = absurd (answer (sort_found at None) s e)
    go false false (Some r) is e = ap (sort_found at) (sort_more g h n r is) ∙ e

pub sort_in_more : (g h : Signature) (s : Sort) → IsSortIn g s → IsSortIn (g ++ h) s
sort_in_more g h Truth e = tt
sort_in_more g h Number e = tt
sort_in_more g h (Declared n) e = record { name = e.name; sort = λ at. sort_named_more g h at n (Declared n) (e.sort at) }

pub symbol_in_more : (g h : Signature) (f : Symbol) → IsSymbolIn g f → IsSymbolIn (g ++ h) f
symbol_in_more g h f e = record { name = e.name; parameters = All-weaker (IsSortIn g) (IsSortIn (g ++ h)) (sort_in_more g h) f.parameters e.parameters; result = sort_in_more g h f.result e.result }

-- another name is not found
still_none : (o : Option Known) (b : Bool) (k : Known) → o ≡ None → b ≡ false → extended o b k ≡ None
still_none None true k e f = cc
still_none None false k e f = refl
still_none (Some x) b k e f = cc

other_name : (m n : Name) (test : Name → Bool) → test m ≡ false → test n ≡ true → bytes_eq m n ≡ false
other_name m n test e f = go (bytes_eq m n) (bytes_eq-Decides m n).0
  where
    go : (b : Bool) → (b ≡ true → m ≡ n) → b ≡ false
    go true same = absurd (false≢true (sym e ∙ ap test (same refl) ∙ f))
    go false same = refl

-- a function more, by its name
module _ (g : Signature) (h : AreScriptNames g) (k : Known) (name : IsScriptName (known_name k)) where
  none_kept_more : (n : Name) → is_kept_name n ≡ true → known_as (g ++ of_function k ∷ []) n ≡ None
  none_kept_more n e = function_push g k n ∙ still_none (known_as g n) (bytes_eq (known_name k) n) k (h.none_kept n e) (other_name (known_name k) n is_kept_name name.not_kept e)

  own_more : (n : Name) → is_of_theory n ≡ true → known_as (g ++ of_function k ∷ []) n ≡ None
  own_more n e = function_push g k n ∙ still_none (known_as g n) (bytes_eq (known_name k) n) k (h.own n e) (other_name (known_name k) n is_of_theory name.own e)

  sorts_more : (n : Name) (s : Sort) → sort_as (g ++ of_function k ∷ []) n ≡ Some s → IsSortIn (g ++ of_function k ∷ []) s
  sorts_more n s e = sort_in_more g (of_function k ∷ []) s (h.sorts n s (sym (sort_same g k n) ∙ e))

  found_still : (f : Symbol) → Contains (symbols_in g) f → known_as (g ++ of_function k ∷ []) f.name ≡ Some (declared f)
  found_still f c = function_push g k f.name ∙ stays (known_as g f.name) (bytes_eq (known_name k) f.name) k (declared f) (h.found f c)

-- a definition more
pub definition_named : (g : Signature) (d : Definition) → IsScriptName d.name → AreScriptNames g → AreScriptNames (g ++ definition d ∷ [])
definition_named g d name h =
    let same : symbols_in (g ++ definition d ∷ []) ≡ symbols_in g = symbols_push g (definition d) ∙ append-nil (symbols_in g) in
    record {
      none_kept = none_kept_more g h (defined d) name;
      own = own_more g h (defined d) name;
      found = λ f c. found_still g h (defined d) name f (subst (λ fs. Contains fs f) same c);
      symbols = λ f c. symbol_in_more g (definition d ∷ []) f (h.symbols f (subst (λ fs. Contains fs f) same c));
      sorts = sorts_more g h (defined d) name;
    }

-- a declared symbol more
pub symbol_named : (g : Signature) (f : Symbol) → IsScriptName f.name → known_as g f.name ≡ None → IsSymbolIn g f → AreScriptNames g → AreScriptNames (g ++ of_function (declared f) ∷ [])
symbol_named g f name new is h = record {
  none_kept = none_kept_more g h (declared f) name;
  own = own_more g h (declared f) name;
  found = λ x c. found_now x (Contains-push_cases (symbols_in g) f x (subst (λ fs. Contains fs x) (symbols_push g (of_function (declared f))) c));
  symbols = λ x c. written x (Contains-push_cases (symbols_in g) f x (subst (λ fs. Contains fs x) (symbols_push g (of_function (declared f))) c));
  sorts = sorts_more g h (declared f) name;
}
  where
    added : (o : Option Known) (b : Bool) → o ≡ None → b ≡ true → extended o b (declared f) ≡ Some (declared f)
    added None true e t = refl
    added None false e t = absurd (false≢true t)
    added (Some x) b e t = cc

    found_now : (x : Symbol) → Contains (symbols_in g) x ⊎ (f ≡ x) → known_as (g ++ of_function (declared f) ∷ []) x.name ≡ Some (declared x)
    found_now x (inl c) = found_still g h (declared f) name x c
    found_now x (inr e) = subst (λ (y : Symbol). known_as (g ++ of_function (declared f) ∷ []) y.name ≡ Some (declared y)) e (function_push g (declared f) f.name ∙ added (known_as g f.name) (bytes_eq f.name f.name) new (bytes_itself f.name))

    written : (x : Symbol) → Contains (symbols_in g) x ⊎ (f ≡ x) → IsSymbolIn (g ++ of_function (declared f) ∷ []) x
    written x (inl c) = symbol_in_more g (of_function (declared f) ∷ []) x (h.symbols x c)
    written x (inr e) = subst (IsSymbolIn (g ++ of_function (declared f) ∷ [])) e (symbol_in_more g (of_function (declared f) ∷ []) f is)

-- a sort more
known_same : (s : Signature) (m : Name) (r : Sort) (n : Name) → known_as (s ++ of_sort m r ∷ []) n ≡ known_as s n
known_same [] m r n = refl
known_same (of_sort x u ∷ s) m r n = known_same s m r n
known_same (of_function k ∷ s) m r n = ap (λ o. cond (bytes_eq (known_name k) n) (Some k) o) (known_same s m r n)

pub sort_push_sort : (s : Signature) (m : Name) (r : Sort) (n : Name) → sort_as (s ++ of_sort m r ∷ []) n ≡ extended (sort_as s n) (bytes_eq m n) r
sort_push_sort [] m r n = go (bytes_eq m n)
  where
    go : (b : Bool) → cond b (Some r) None ≡ extended None b r
    go true = refl
    go false = refl
sort_push_sort (of_function k ∷ s) m r n = sort_push_sort s m r n
sort_push_sort (of_sort x u ∷ s) m r n = go (bytes_eq x n) (sort_push_sort s m r n)
  where
    go : (b : Bool) → sort_as (s ++ of_sort m r ∷ []) n ≡ extended (sort_as s n) (bytes_eq m n) r → cond b (Some u) (sort_as (s ++ of_sort m r ∷ []) n) ≡ extended (cond b (Some u) (sort_as s n)) (bytes_eq m n) r
    go true h = refl
    go false h = h

pub sort_named_new : (g : Signature) (m : Name) (r : Sort) → IsSortIn (g ++ of_sort m r ∷ []) r → AreScriptNames g → AreScriptNames (g ++ of_sort m r ∷ [])
sort_named_new g m r is h =
    let same : symbols_in (g ++ of_sort m r ∷ []) ≡ symbols_in g = symbols_push g (of_sort m r) ∙ append-nil (symbols_in g) in
    record {
      none_kept = λ n e. known_same g m r n ∙ h.none_kept n e;
      own = λ n e. known_same g m r n ∙ h.own n e;
      found = λ f c. known_same g m r f.name ∙ h.found f (subst (λ fs. Contains fs f) same c);
      symbols = λ f c. symbol_in_more g (of_sort m r ∷ []) f (h.symbols f (subst (λ fs. Contains fs f) same c));
      sorts = λ n s e. go n s (sort_as g n) refl (bytes_eq m n) (sym (sort_push_sort g m r n) ∙ e);
    }
  where
    go : (n : Name) (s : Sort) (o : Option Sort) → sort_as g n ≡ o → (b : Bool) → extended (sort_as g n) b r ≡ Some s → IsSortIn (g ++ of_sort m r ∷ []) s
    go n s o is_o b e = by o is_o b (ap (λ x. extended x b r) (sym is_o) ∙ e)
      where
        by : (o : Option Sort) → sort_as g n ≡ o → (b : Bool) → extended o b r ≡ Some s → IsSortIn (g ++ of_sort m r ∷ []) s
        by (Some x) is_x b e = sort_in_more g (of_sort m r ∷ []) s (h.sorts n s (is_x ∙ e))
        by None is_x true e = subst (IsSortIn (g ++ of_sort m r ∷ [])) (same_Some _ _ e) is
        by None is_x false e = cc

-- nothing is named at first
pub nothing_named : AreScriptNames []
nothing_named = record { none_kept = λ n e. refl; own = λ n e. refl; found = λ f c. absurd (no_member f c); symbols = λ f c. absurd (no_member f c); sorts = λ n s e. absurd cc }

-- the names that attributes make
made_named : (w : Setting) (s : Signature) (t : Annotated) (xs : List Word) (ds : List Definition) → w.kept_names ≡ false → made_by w s t xs ≡ Ok ds → AreScriptNames s → AreScriptNames (with_definitions s ds)
unfolding made_by
made_named w s t [] ds bare e h = subst (λ x. AreScriptNames (with_definitions s x)) (answer (Ok []) ds e) (subst AreScriptNames (sym (append-nil s)) h)
made_named w s t (x ∷ xs) ds bare e h =
    let p = went _ _ _ e in
    let q = went _ _ _ p.then in
    let r = went _ _ _ q.then in
    let d = naming p.first t in
    let one : AreScriptNames (s ++ definition d ∷ []) = definition_named s d (function_name w s (λ n. is_function s n || is_own w.own n) x p.first bare p.was (or_parts (is_function s p.first) (is_own w.own p.first) (not_taken w (λ n. is_function s n || is_own w.own n) x p.first p.was)).0) h in
    let rest = made_named w (with_definitions s (d ∷ [])) t xs r.first bare r.was one in
    subst (λ x. AreScriptNames (with_definitions s x)) (answer (Ok (d ∷ r.first)) ds r.then) (subst AreScriptNames (sym (with_both s (d ∷ []) r.first)) rest)

-- and those of a text
pub text_named : (w : Setting) (s : Signature) (b : Bound) (t : Tree) (r : Reading) → w.kept_names ≡ false → reading w s b t ≡ Ok r → AreScriptNames s → AreScriptNames (with_definitions s r.made)
text_named w s b t r bare e h = text_keeps w AreScriptNames (λ s b at t r e xs ds f h. made_named w (with_definitions s r.made) (annotated_as w b at t r.term) xs ds bare f h) s b t r e h

-- as many definitions as names
made_count : (w : Setting) (s : Signature) (t : Annotated) (xs : List Word) (ds : List Definition) → made_by w s t xs ≡ Ok ds → length ds ≡ length xs
unfolding made_by
made_count w s t [] ds e = ap length (sym (answer (Ok []) ds e))
made_count w s t (x ∷ xs) ds e =
    let p = went _ _ _ e in
    let q = went _ _ _ p.then in
    let r = went _ _ _ q.then in
    ap length (sym (answer (Ok (naming p.first t ∷ r.first)) ds r.then)) ∙ ap suc (made_count w (with_definitions s (naming p.first t ∷ [])) t xs r.first r.was)

-- each name has a keyword of five bytes before it
abbrev ahead : Next → ℕ
ahead a_name = 5
ahead next = 0

named_five : (n : Name) → ahead (after_keyword n) ≤ length n
named_five n = go (bytes_eq n (codes "named")) (bytes_eq-Decides n (codes "named")).0
  where
    go : (b : Bool) → (b ≡ true → n ≡ codes "named") → ahead (cond b a_name a_value) ≤ length n
    go true same = omega (arith, ap length (same refl))
    go false same = omega arith

words_count : (next : Next) (ts : Trees) → 5 * length (named_words next ts) ≤ weight_all ts + ahead next
words_count a_name none = omega arith
words_count a_keyword none = omega arith
words_count a_value none = omega arith
words_count a_name (more (atom at k n) ts) = omega (arith, words_count a_keyword ts)
words_count a_name (more (list at us end) ts) = omega (arith, words_count a_keyword ts)
words_count a_keyword (more (list at us end) ts) = omega (arith, words_count a_keyword ts)
words_count a_value (more (list at us end) ts) = omega (arith, words_count a_keyword ts)
words_count a_keyword (more (atom at Keyword n) ts) = omega (arith, words_count (after_keyword n) ts, named_five n)
words_count a_value (more (atom at Keyword n) ts) = omega (arith, words_count (after_keyword n) ts, named_five n)
words_count a_keyword (more (atom at k n) ts) = omega (arith, words_count a_keyword ts)
words_count a_value (more (atom at k n) ts) = omega (arith, words_count a_keyword ts)

-- a text makes no more names than it has room for
abbrev IsFew : List Definition → ℕ → Type 0
IsFew ds n = 5 * length ds ≤ n

mutual
  unfolding reading readings let_reading bindings_reading annotated_reading

  pub text_few : (w : Setting) (s : Signature) (b : Bound) (t : Tree) (r : Reading) → reading w s b t ≡ Ok r → IsFew r.made (weight t)
  text_few w s b (atom at k n) r e = let p = went _ _ _ e in subst (λ (x : Reading). IsFew x.made (length n)) (answer (Ok (plain_reading p.first)) r p.then) (omega arith)
  text_few w s b (list at none end) r e = absurd (answer (refused at BadShape) r e)
  text_few w s b (list at (more head us) end) r e = go (form head us) (texts_few w s b us) (let_few w s b at us) (annotated_few w s b at us) e
    where
      go : (f : Form)
          → ((rs : Readings) → readings w s b us ≡ Ok rs → IsFew rs.made (weight_all us))
          → ((r : Reading) → let_reading w s b at us ≡ Ok r → IsFew r.made (weight_all us))
          → ((r : Reading) → annotated_reading w s b at us ≡ Ok r → IsFew r.made (weight_all us))
          → by_form w s b at us f ≡ Ok r → IsFew r.made (weight head + weight_all us)
      go malformed x y z e = absurd (answer (refused at BadShape) r e)
      go (reserved p) x y z e = absurd (answer (refused p Reserved) r e)
      go (applies p n) x y z e =
          let p = went _ _ _ e in
          let q = went _ _ _ p.then in
          subst (λ (x : Reading). IsFew x.made (weight head + weight_all us)) (answer (Ok _) r q.then) (omega (arith, x p.first p.was))
      go binds x y z e = omega (arith, y r e)
      go annotates x y z e = omega (arith, z r e)

  texts_few : (w : Setting) (s : Signature) (b : Bound) (ts : Trees) (r : Readings) → readings w s b ts ≡ Ok r → IsFew r.made (weight_all ts)
  texts_few w s b none r e = subst (λ (x : Readings). IsFew x.made 0) (answer (Ok _) r e) (omega arith)
  texts_few w s b (more t ts) r e =
      let p = went _ _ _ e in
      let q = went _ _ _ p.then in
      subst (λ (x : Readings). IsFew x.made (weight t + weight_all ts)) (answer (Ok _) r q.then)
      (omega (arith, length-append p.first.made q.first.made, text_few w s b t p.first p.was, texts_few w (with_definitions s p.first.made) b ts q.first q.was))

  let_few : (w : Setting) (s : Signature) (b : Bound) (at : ℕ) (ts : Trees) (r : Reading) → let_reading w s b at ts ≡ Ok r → IsFew r.made (weight_all ts)
  let_few w s b at (more (list place bindings end) (more body none)) r e =
      let p = went _ _ _ e in
      let q = went _ _ _ p.then in
      subst (λ (x : Reading). IsFew x.made (weight_all bindings + (weight body + 0))) (answer (Ok _) r q.then)
      (omega (arith, length-append p.first.made q.first.made, bindings_few w s b [] bindings p.first p.was, text_few w (with_definitions s p.first.made) (p.first.bound ++ b) body q.first q.was))
  let_few w s b at _ r e = absurd (answer (refused at BadShape) r e)

  bindings_few : (w : Setting) (s : Signature) (b : Bound) (names : List Name) (ts : Trees) (r : Bindings) → bindings_reading w s b names ts ≡ Ok r → IsFew r.made (weight_all ts)
  bindings_few w s b names (more (list at (more (atom x k n) (more t none)) end) rest) r e =
      let p = went _ _ _ e in
      let q = went _ _ _ p.then in
      let d = went _ _ _ q.then in
      subst (λ (x : Bindings). IsFew x.made (length n + (weight t + 0) + weight_all rest)) (answer (Ok _) r d.then)
      (omega (arith, length-append q.first.made d.first.made, text_few w s b t q.first q.was, bindings_few w (with_definitions s q.first.made) b (names ++ p.first ∷ []) rest d.first d.was))
  bindings_few w s b names ts r e = subst (λ (x : Bindings). IsFew x.made (weight_all ts)) (answer (Ok _) r e) (omega arith)

  annotated_few : (w : Setting) (s : Signature) (b : Bound) (at : ℕ) (ts : Trees) (r : Reading) → annotated_reading w s b at ts ≡ Ok r → IsFew r.made (weight_all ts)
  annotated_few w s b at none r e = absurd (answer (refused at BadShape) r e)
  annotated_few w s b at (more t attributes) r e =
      let p = went _ _ _ e in
      let q = went _ _ _ p.then in
      subst (λ (x : Reading). IsFew x.made (weight t + weight_all attributes)) (answer (Ok _) r q.then)
      (omega (arith, length-append p.first.made q.first, text_few w s b t p.first p.was, made_count w (with_definitions s p.first.made) (annotated_as w b at t p.first.term) (named_words a_keyword attributes) q.first q.was, words_count a_keyword attributes))
