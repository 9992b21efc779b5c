-- A text of a script without its attributes is read in a proof as the same term, with all names that the script has by then.
use Rattle.std.proofs.Common.{◌≡◌, ℕ, Bool, true, false, not, ◌&&◌, ◌||◌, List, [], ◌∷◌, ◌++◌, map, Option, Some, None, cond, codes, refl, ap, ap₂, ◌∙◌, subst}
use Rattle.std.specs.Prelude.{Ok}
use Rattle.std.specs.Str.{bytes_eq}
use Rattle.std.proofs.lemmas.Bool.{false≢true, and_parts}
use Rattle.std.proofs.lemmas.List.{append-nil, append_assoc}
use Rattle.spec_text.specs.declared.Kind.{Kind}
use Rattle.spec_text.specs.declared.Kind.TheVariants.{Numeral, Decimal, Text, Simple, Quoted, Reserved as word_kind, Keyword}
use Rattle.spec_text.specs.declared.Fault.TheVariants.{BadShape, UnknownSymbol, Reserved, Twice}
use Rattle.spec_text.specs.Bytes.{Name}
use Rattle.spec_text.specs.Shapes.{Word, is_reserved}
use Rattle.spec_text.specs.Answers.{refused, require}
use Rattle.spec_text.specs.Trees.{Tree, Trees, atom, list, none, more}
use Rattle.spec_text.proofs.AnswerLaws.{answer, went, joined, require_true}
use Rattle.spec_sorts.specs.Terms.{Term}
use Rattle.spec_sorts.specs.Theory.{Rule, look_up, theory}
use Rattle.spec_sorts.specs.Signatures.{Definition, Known, known_name, of_sort, of_function, Signature, known_as, definition, with_definitions}
use Rattle.spec_sorts.specs.Forms.{Form, malformed, reserved, applies, binds, annotates, is_empty, is_name, are_named, is_let, is_annotated, word_form, form, a_keyword, named_words}
use Rattle.spec_reading.specs.Names.{Setting, proof, is_kept_name, is_barred, new_name, is_in_list}
use Rattle.spec_reading.specs.Reading.{Bound, Reading, Readings, Bindings, plain_reading, applied, applied_as, atom_term, made_by, annotated_as, reading, readings, let_reading, bindings_reading, annotated_reading}
use Rattle.spec_reading.proofs.Values.{with_both, by_form}

unfoldable mutual
  -- a text without the attributes of its terms
  pub bare : Tree → Tree
  bare (atom at k n) = atom at k n
  bare (list at none end) = list at none end
  bare (list at (more head us) end) = elim (form head us) [ applies place n ↦ list at (more head (bare_all us)) end | binds ↦ list at (more head (bare_let us)) end | annotates ↦ bare_first us | _ ↦ list at (more head us) end ]

  pub bare_all : Trees → Trees
  bare_all none = none
  bare_all (more t ts) = more (bare t) (bare_all ts)

  pub bare_first : Trees → Tree
  bare_first none = list 0 none 0
  bare_first (more t ts) = bare t

  pub bare_let : Trees → Trees
  bare_let (more (list at bindings end) (more body none)) = more (list at (bare_bindings bindings) end) (more (bare body) none)
  bare_let ts = ts

  pub bare_bindings : Trees → Trees
  bare_bindings (more (list at (more (atom x k n) (more t none)) end) rest) = more (list at (more (atom x k n) (more (bare t) none)) end) (bare_bindings rest)
  bare_bindings ts = ts

-- a reserved word is no head of an application, and where it binds it is `let` with a fitting list
no_word_applies : (at : ℕ) (n : Name) (us : Trees) (place : ℕ) (m : Name) → word_form at n us ≡ applies place m → ⊥
no_word_applies at n us place m e = go (bytes_eq n (codes "let")) (is_let us) (bytes_eq n (codes "!")) (is_annotated us) e
  where
    go : (a b c d : Bool) → cond a (cond b binds malformed) (cond c (cond d annotates malformed) (reserved at)) ≡ applies place m → ⊥
    go true true c d e = cc
    go true false c d e = cc
    go false b true true e = cc
    go false b true false e = cc
    go false b false d e = cc

word_binds : (at : ℕ) (n : Name) (us : Trees) → word_form at n us ≡ binds → (bytes_eq n (codes "let") ≡ true) × (is_let us ≡ true)
word_binds at n us e = go (bytes_eq n (codes "let")) (is_let us) (bytes_eq n (codes "!")) (is_annotated us) e
  where
    go : (a b c d : Bool) → cond a (cond b binds malformed) (cond c (cond d annotates malformed) (reserved at)) ≡ binds → (a ≡ true) × (b ≡ true)
    go true true c d e = (refl, refl)
    go true false c d e = cc
    go false b true true e = cc
    go false b true false e = cc
    go false b false d e = cc

-- the shape of an application stays
form_applies : (head : Tree) (us : Trees) (place : ℕ) (m : Name) → form head us ≡ applies place m → form head (bare_all us) ≡ applies place m
unfolding bare_all
form_applies head none place m e = e
form_applies (list at ts end) (more t us) place m e = cc
form_applies (atom at Simple n) (more t us) place m e = e
form_applies (atom at Quoted n) (more t us) place m e = e
form_applies (atom at word_kind n) (more t us) place m e = absurd (no_word_applies at n (more t us) place m e)
form_applies (atom at Numeral n) (more t us) place m e = cc
form_applies (atom at Decimal n) (more t us) place m e = cc
form_applies (atom at Text n) (more t us) place m e = cc
form_applies (atom at Keyword n) (more t us) place m e = cc

-- bindings stay bindings
named_bare : (bs : Trees) → are_named bs ≡ true → are_named (bare_bindings bs) ≡ true
unfolding bare_bindings
named_bare none e = refl
named_bare (more (list at (more (atom x k n) (more t none)) end) rest) e =
    let parts = and_parts (is_name k) (are_named rest) e in
    ap₂ (λ (a b : Bool). a && b) parts.0 (named_bare rest parts.1)
named_bare _ e = absurd (false≢true e)

empty_bare : (bs : Trees) → are_named bs ≡ true → is_empty (bare_bindings bs) ≡ is_empty bs
unfolding bare_bindings
empty_bare none e = refl
empty_bare (more (list at (more (atom x k n) (more t none)) end) rest) e = refl
empty_bare _ e = absurd (false≢true e)

-- and so does the shape of `let`
form_binds : (head : Tree) (us : Trees) → form head us ≡ binds → form head (bare_let us) ≡ binds
unfolding bare_let
form_binds head none e = cc
form_binds (list at ts end) (more t us) e = cc
form_binds (atom at Simple n) (more t us) e = cc
form_binds (atom at Quoted n) (more t us) e = cc
form_binds (atom at Numeral n) (more t us) e = cc
form_binds (atom at Decimal n) (more t us) e = cc
form_binds (atom at Text n) (more t us) e = cc
form_binds (atom at Keyword n) (more t us) e = cc
form_binds (atom at word_kind n) (more (list a bs b) (more body none)) e =
    let is = word_binds at n (more (list a bs b) (more body none)) e in
    let parts = and_parts (not (is_empty bs)) (are_named bs) is.1 in
    let stays = ap₂ (λ (x y : Bool). x && y) (ap not (empty_bare bs parts.1) ∙ parts.0) (named_bare bs parts.1) in
    ap₂ (λ (x y : Bool). cond x (cond y binds malformed) (cond (bytes_eq n (codes "!")) (cond (is_annotated (bare_let (more (list a bs b) (more body none)))) annotates malformed) (reserved at))) is.0 stays
form_binds (atom at word_kind n) (more t us) e = absurd (false≢true (word_binds at n (more t us) e).1)

-- a name that is known stays what it is, with more names
known_more : (s t : Signature) (n : Name) (k : Known) → known_as s n ≡ Some k → known_as (s ++ t) n ≡ Some k
known_more [] t n k e = cc
known_more (of_sort m u ∷ ds) t n k e = known_more ds t n k e
known_more (of_function j ∷ ds) t n k e = go (bytes_eq (known_name j) n) e (known_more ds t n k)
  where
    go : (b : Bool) → cond b (Some j) (known_as ds n) ≡ Some k → (known_as ds n ≡ Some k → known_as (ds ++ t) n ≡ Some k) → cond b (Some j) (known_as (ds ++ t) n) ≡ Some k
    go true e rest = e
    go false e rest = rest e

applied_more : (s t : Signature) (b : Bound) (place : ℕ) (n : Name) (at : ℕ) (ts : List Term) (u : Term) → applied s b place n at ts ≡ Ok u → applied (s ++ t) b place n at ts ≡ Ok u
applied_more s t b place n at ts u e = go (look_up b n) (look_up theory n) (known_as s n) (known_more s t n) e
  where
    go : (o : Option Term) (r : Option Rule) (k : Option Known) → ((j : Known) → k ≡ Some j → known_as (s ++ t) n ≡ Some j) → applied_as o r k place at ts ≡ Ok u → applied_as o r (known_as (s ++ t) n) place at ts ≡ Ok u
    go (Some v) r k h e = e
    go None (Some r) k h e = e
    go None None (Some j) h e = ap (λ x. applied_as None None x place at ts) (h j refl) ∙ e
    go None None None h e = absurd (answer (refused place UnknownSymbol) u e)

atom_more : (s t : Signature) (b : Bound) (at : ℕ) (k : Kind) (n : Name) (u : Term) → atom_term s b at k n ≡ Ok u → atom_term (s ++ t) b at k n ≡ Ok u
atom_more s t b at Numeral n u e = e
atom_more s t b at Decimal n u e = e
atom_more s t b at Simple n u e = applied_more s t b at n at [] u e
atom_more s t b at Quoted n u e = applied_more s t b at n at [] u e
atom_more s t b at Text n u e = absurd (answer (refused at BadShape) u e)
atom_more s t b at Keyword n u e = absurd (answer (refused at BadShape) u e)
atom_more s t b at word_kind n u e = absurd (answer (refused at Reserved) u e)

-- a new name may be in a proof too
name_again : (w : Setting) (taken : Name → Bool) (x : Word) (n : Name) → new_name w taken x ≡ Ok n → new_name proof taken x ≡ Ok n
unfolding require
name_again w taken x n e =
    let a = went (require (not (is_barred w x)) x.at Reserved) _ n e in
    let b = went (require (not (taken x.bytes)) x.at Twice) _ n a.then in
    let free = unbarred (is_reserved x.kind) (not w.kept_names && is_kept_name x.bytes) (require_true (not (is_barred w x)) x.at Reserved a.first a.was) in
    joined (require (not (is_barred proof x)) x.at Reserved) _ tt n (ap (λ c. require c x.at Reserved) free) (joined (require (not (taken x.bytes)) x.at Twice) _ b.first n b.was b.then)
  where
    unbarred : (r k : Bool) → not (r || k) ≡ true → not (r || false) ≡ true
    unbarred true k e = e
    unbarred false k e = refl

-- the text is read in a proof as the same term, with later names
abbrev Again : Signature → Bound → Tree → Reading → Type 0
Again s b t r = (S later : Signature) → S ≡ with_definitions s r.made ++ later → reading proof S b t ≡ Ok (plain_reading r.term)

-- so are texts, and bindings
abbrev AllAgain : Signature → Bound → Trees → Readings → Type 0
AllAgain s b ts r = (S later : Signature) → S ≡ with_definitions s r.made ++ later → readings proof S b ts ≡ Ok (record { made = []; terms = r.terms })

abbrev LetAgain : Signature → Bound → ℕ → Trees → Reading → Type 0
LetAgain s b at ts r = (S later : Signature) → S ≡ with_definitions s r.made ++ later → let_reading proof S b at ts ≡ Ok (plain_reading r.term)

abbrev BindingsAgain : Signature → Bound → List Name → Trees → Bindings → Type 0
BindingsAgain s b names ts r = (S later : Signature) → S ≡ with_definitions s r.made ++ later → bindings_reading proof S b names ts ≡ Ok (record { made = []; bound = r.bound })

-- later names are later than those made first, and than those made then
module _ (s : Signature) (c d : List Definition) (S later : Signature) (e : S ≡ with_definitions s (c ++ d) ++ later) where
  behind_both : S ≡ with_definitions (with_definitions s c) d ++ later
  behind_both = e ∙ ap (λ x. x ++ later) (with_both s c d)

  behind_one : S ≡ with_definitions s c ++ (map definition d ++ later)
  behind_one = behind_both ∙ append_assoc (with_definitions s c) (map definition d) later

  -- no definition changes nothing
  behind_none : with_definitions S [] ≡ with_definitions (with_definitions s c) d ++ later
  behind_none = append-nil S ∙ behind_both

mutual
  unfolding reading readings let_reading bindings_reading annotated_reading bare bare_all bare_first bare_let bare_bindings

  pub read_again : (w : Setting) (s : Signature) (b : Bound) (t : Tree) (r : Reading) → reading w s b t ≡ Ok r → Again s b (bare t) r
  read_again w s b (atom at k n) r e =
      let a = went (atom_term s b at k n) _ r e in
      subst (λ (x : Reading). Again s b (atom at k n) x) (answer (Ok (plain_reading a.first)) r a.then) λ S later is.
      let all : S ≡ s ++ later = is ∙ ap (λ x. x ++ later) (append-nil s) in
      joined (atom_term S b at k n) _ a.first (plain_reading a.first) (ap (λ x. atom_term x b at k n) all ∙ atom_more s later b at k n a.first a.was) refl
  read_again w s b (list at none end) r e = absurd (answer (refused at BadShape) r e)
  read_again w s b (list at (more head us) end) r e = go (form head us) refl (all_again w s b us) (let_again w s b at us) (first_again w s b at us) e
    where
      go : (f : Form) → form head us ≡ f
          → ((rs : Readings) → readings w s b us ≡ Ok rs → AllAgain s b (bare_all us) rs)
          → ((x : Reading) → let_reading w s b at us ≡ Ok x → LetAgain s b at (bare_let us) x)
          → ((x : Reading) → annotated_reading w s b at us ≡ Ok x → Again s b (bare_first us) x)
          → by_form w s b at us f ≡ Ok r
          → Again s b (elim f [ applies place n ↦ list at (more head (bare_all us)) end | binds ↦ list at (more head (bare_let us)) end | annotates ↦ bare_first us | _ ↦ list at (more head us) end ]) r
      go malformed is all one two e = absurd (answer (refused at BadShape) r e)
      go (reserved place) is all one two e = absurd (answer (refused place Reserved) r e)
      go (applies place n) is all one two e =
          let a = went (readings w s b us) _ r e in
          let c = went (applied (with_definitions s a.first.made) b place n at a.first.terms) _ r a.then in
          subst (λ (x : Reading). Again s b (list at (more head (bare_all us)) end) x) (answer (Ok (record { made = a.first.made; term = c.first })) r c.then) λ S later same.
          let found : applied (with_definitions S []) b place n at a.first.terms ≡ Ok c.first = ap (λ x. applied x b place n at a.first.terms) (append-nil S ∙ same) ∙ applied_more (with_definitions s a.first.made) later b place n at a.first.terms c.first c.was in
          ap (by_form proof S b at (bare_all us)) (form_applies head us place n is)
          ∙ joined (readings proof S b (bare_all us)) _ (record { made = []; terms = a.first.terms }) (plain_reading c.first) (all a.first a.was S later same) (joined (applied (with_definitions S []) b place n at a.first.terms) _ c.first (plain_reading c.first) found refl)
      go binds is all one two e = λ S later same. ap (by_form proof S b at (bare_let us)) (form_binds head us is) ∙ one r e S later same
      go annotates is all one two e = two r e

  all_again : (w : Setting) (s : Signature) (b : Bound) (ts : Trees) (r : Readings) → readings w s b ts ≡ Ok r → AllAgain s b (bare_all ts) r
  all_again w s b none r e = subst (λ (x : Readings). AllAgain s b none x) (answer (Ok _) r e) (λ S later is. refl)
  all_again w s b (more t ts) r e =
      let a = went (reading w s b t) _ r e in
      let c = went (readings w (with_definitions s a.first.made) b ts) _ r a.then in
      subst (λ (x : Readings). AllAgain s b (more (bare t) (bare_all ts)) x) (answer (Ok _) r c.then) λ S later is.
      joined (reading proof S b (bare t)) _ (plain_reading a.first.term) _ (read_again w s b t a.first a.was S (map definition c.first.made ++ later) (behind_one s a.first.made c.first.made S later is))
      (joined (readings proof (with_definitions S []) b (bare_all ts)) _ (record { made = []; terms = c.first.terms }) _ (all_again w (with_definitions s a.first.made) b ts c.first c.was (with_definitions S []) later (behind_none s a.first.made c.first.made S later is)) refl)

  let_again : (w : Setting) (s : Signature) (b : Bound) (at : ℕ) (ts : Trees) (r : Reading) → let_reading w s b at ts ≡ Ok r → LetAgain s b at (bare_let ts) r
  let_again w s b at (more (list place bindings end) (more body none)) r e =
      let a = went (bindings_reading w s b [] bindings) _ r e in
      let c = went (reading w (with_definitions s a.first.made) (a.first.bound ++ b) body) _ r a.then in
      subst (λ (x : Reading). LetAgain s b at (bare_let (more (list place bindings end) (more body none))) x) (answer (Ok _) r c.then) λ S later is.
      joined (bindings_reading proof S b [] (bare_bindings bindings)) _ (record { made = []; bound = a.first.bound }) _ (bindings_again w s b [] bindings a.first a.was S (map definition c.first.made ++ later) (behind_one s a.first.made c.first.made S later is))
      (joined (reading proof (with_definitions S []) (a.first.bound ++ b) (bare body)) _ (plain_reading c.first.term) _ (read_again w (with_definitions s a.first.made) (a.first.bound ++ b) body c.first c.was (with_definitions S []) later (behind_none s a.first.made c.first.made S later is)) refl)
  let_again w s b at _ r e = absurd (answer (refused at BadShape) r e)

  bindings_again : (w : Setting) (s : Signature) (b : Bound) (names : List Name) (ts : Trees) (r : Bindings) → bindings_reading w s b names ts ≡ Ok r → BindingsAgain s b names (bare_bindings ts) r
  bindings_again w s b names (more (list at (more (atom x k n) (more t none)) end) rest) r e =
      let a = went (new_name w (is_in_list names) (record { at = x; kind = k; bytes = n })) _ r e in
      let c = went (reading w s b t) _ r a.then in
      let d = went (bindings_reading w (with_definitions s c.first.made) b (names ++ a.first ∷ []) rest) _ r c.then in
      subst (λ (y : Bindings). BindingsAgain s b names (more (list at (more (atom x k n) (more (bare t) none)) end) (bare_bindings rest)) y) (answer (Ok _) r d.then) λ S later is.
      joined (new_name proof (is_in_list names) (record { at = x; kind = k; bytes = n })) _ a.first _ (name_again w (is_in_list names) (record { at = x; kind = k; bytes = n }) a.first a.was)
      (joined (reading proof S b (bare t)) _ (plain_reading c.first.term) _ (read_again w s b t c.first c.was S (map definition d.first.made ++ later) (behind_one s c.first.made d.first.made S later is))
      (joined (bindings_reading proof (with_definitions S []) b (names ++ a.first ∷ []) (bare_bindings rest)) _ (record { made = []; bound = d.first.bound }) _ (bindings_again w (with_definitions s c.first.made) b (names ++ a.first ∷ []) rest d.first d.was (with_definitions S []) later (behind_none s c.first.made d.first.made S later is)) refl))
  bindings_again w s b names _ r e = subst (λ (y : Bindings). BindingsAgain s b names none y) (answer (Ok _) r e) (λ S later is. refl)

  first_again : (w : Setting) (s : Signature) (b : Bound) (at : ℕ) (ts : Trees) (r : Reading) → annotated_reading w s b at ts ≡ Ok r → Again s b (bare_first ts) r
  first_again w s b at none r e = absurd (answer (refused at BadShape) r e)
  first_again w s b at (more t attributes) r e =
      let a = went (reading w s b t) _ r e in
      let c = went (made_by w (with_definitions s a.first.made) (annotated_as w b at t a.first.term) (named_words a_keyword attributes)) _ r a.then in
      subst (λ (x : Reading). Again s b (bare t) x) (answer (Ok (record { made = a.first.made ++ c.first; term = a.first.term })) r c.then) λ S later is.
      read_again w s b t a.first a.was S (map definition c.first ++ later) (behind_one s a.first.made c.first S later is)
