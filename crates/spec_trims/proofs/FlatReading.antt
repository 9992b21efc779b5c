-- A text is read as the same term without its offsets and bars.
use Rattle.std.proofs.Common.{◌≡◌, ℕ, Bool, true, false, not, ◌&&◌, ◌||◌, List, [], ◌∷◌, ◌++◌, map, Option, Some, None, cond, codes, refl, sym, ap, ◌∙◌}
use Rattle.std.specs.Prelude.{Result, Ok, Err, option_map, if◌then◌else◌}
use Rattle.std.specs.Str.{bytes_eq}
use Rattle.std.proofs.lemmas.List.{map-append}
use Rattle.spec_text.specs.declared.Kind.{Kind}
use Rattle.spec_text.specs.declared.Kind.TheVariants.{Numeral, Decimal, Text, Simple, Quoted, Reserved as word_kind, Keyword}
use Rattle.spec_text.specs.declared.Fault.{Fault}
use Rattle.spec_text.specs.declared.Fault.TheVariants as faults
use Rattle.spec_text.specs.Bytes.{Name}
use Rattle.spec_text.specs.Shapes.{Word}
use Rattle.spec_text.specs.Answers.{◌>>=◌, require}
use Rattle.spec_text.specs.Trees.{Tree, Trees, atom, list, none, more}
use Rattle.spec_text.specs.Printed.{without_bars}
use Rattle.spec_sorts.specs.Terms.{Sort, Truth, Number, Term}
use Rattle.spec_sorts.specs.Theory.{Rule, look_up, theory, is_of_theory}
use Rattle.spec_sorts.specs.Signatures.{Definition, Known, declared, defined, Declaration, of_sort, of_function, Signature, known_as, sort_as, is_some, definition, with_definitions}
use Rattle.spec_sorts.specs.Forms.{Form, malformed, reserved, applies, binds, annotates, form, a_keyword, named_words}
use Rattle.spec_reading.specs.Names.{Setting, is_kept_name, new_name, is_function, is_own, is_in_list}
use Rattle.spec_reading.specs.Sorts.{sort_found, sort_in}
use Rattle.spec_reading.specs.Reading.{Bound, Reading, Readings, Bindings, unless, by_rule, with_sorts, applied_as, applied, literal, atom_term, Annotated, naming, made_by, bound_names, annotated_as, reading, readings, let_reading, bindings_reading, annotated_reading, reading_of_sort}
use Rattle.spec_reading.specs.Definitions.{Parts, parameters_in, bound_parameters, definitions_in}
use Rattle.spec_reading.proofs.Values.{by_form}
use Rattle.spec_trims.proofs.Flat.{flat, flat_all, reserved_flat, flat_word, flat_form, form_flat, words_flat, mentions_flat}

-- what is answered, without faults
abbrev pub shown : {A E : Type 0} → Result A E → Option A
shown (Ok a) = Some a
shown (Err e) = None

-- one answer is the image of another
abbrev pub Alike : {A B E : Type 0} → (A → B) → Result A E → Result B E → Type 0
Alike p a b = option_map p (shown a) ≡ shown b

pub in_steps : {A A' B B' E : Type 0} (p : A → A') (q : B → B') (a : Result A E) (a' : Result A' E) (f : A → Result B E) (f' : A' → Result B' E)
    → Alike p a a' → ((x : A) → Alike q (f x) (f' (p x))) → Alike q (a >>= f) (a' >>= f')
unfolding ◌>>=◌
in_steps p q (Ok x) (Ok y) f f' h g = let e : p x ≡ y = cc in g x ∙ ap (λ z. shown (f' z)) e
in_steps p q (Ok x) (Err e) f f' h g = cc
in_steps p q (Err e) (Ok y) f f' h g = cc
in_steps p q (Err d) (Err e) f f' h g = refl

pub require_alike : (b c : Bool) (at to : ℕ) (f : Fault) → c ≡ b → Alike (λ x. x) (require b at f) (require c to f)
unfolding require
require_alike true true at to f e = refl
require_alike false false at to f e = refl
require_alike true false at to f e = cc
require_alike false true at to f e = cc

-- names without the offsets and bars of the texts that they stand for
abbrev pub flat_definition : Definition → Definition
flat_definition d = record { name = d.name; parameters = d.parameters; result = d.result; body = flat d.body; term = d.term }

abbrev pub flat_definitions : List Definition → List Definition
flat_definitions ds = map flat_definition ds

abbrev pub flat_named : Known → Known
flat_named (declared f) = declared f
flat_named (defined d) = defined (flat_definition d)

abbrev pub flat_declaration : Declaration → Declaration
flat_declaration (of_sort n s) = of_sort n s
flat_declaration (of_function k) = of_function (flat_named k)

abbrev pub flat_signature : Signature → Signature
flat_signature s = map flat_declaration s

known_flat : (s : Signature) (n : Name) → known_as (flat_signature s) n ≡ option_map flat_named (known_as s n)
known_flat [] n = refl
known_flat (of_sort m x ∷ s) n = known_flat s n
known_flat (of_function (declared f) ∷ s) n = by (bytes_eq f.name n) (known_flat s n)
  where
    by : (q : Bool) → known_as (flat_signature s) n ≡ option_map flat_named (known_as s n) → cond q (Some (declared f)) (known_as (flat_signature s) n) ≡ option_map flat_named (cond q (Some (declared f)) (known_as s n))
    by true h = refl
    by false h = h
known_flat (of_function (defined d) ∷ s) n = by (bytes_eq d.name n) (known_flat s n)
  where
    by : (q : Bool) → known_as (flat_signature s) n ≡ option_map flat_named (known_as s n) → cond q (Some (defined (flat_definition d))) (known_as (flat_signature s) n) ≡ option_map flat_named (cond q (Some (defined d)) (known_as s n))
    by true h = refl
    by false h = h

sort_flat : (s : Signature) (n : Name) → sort_as (flat_signature s) n ≡ sort_as s n
sort_flat [] n = refl
sort_flat (of_sort m x ∷ s) n = ap (λ o. if bytes_eq m n then Some x else o) (sort_flat s n)
sort_flat (of_function k ∷ s) n = sort_flat s n

declarations_flat : (ds : List Definition) → flat_signature (map definition ds) ≡ map definition (flat_definitions ds)
declarations_flat [] = refl
declarations_flat (d ∷ ds) = ap (λ (xs : Signature). definition (flat_definition d) ∷ xs) (declarations_flat ds)

pub with_flat : (s : Signature) (ds : List Definition) → flat_signature (with_definitions s ds) ≡ with_definitions (flat_signature s) (flat_definitions ds)
with_flat s ds = map-append flat_declaration s (map definition ds) ∙ ap (λ (xs : Signature). flat_signature s ++ xs) (declarations_flat ds)

function_flat : (s : Signature) (n : Name) → is_function (flat_signature s) n ≡ is_function s n
function_flat s n = ap (λ o. is_of_theory n || is_some o) (known_flat s n) ∙ ap (λ b. is_of_theory n || b) (by (known_as s n))
  where
    by : (o : Option Known) → is_some (option_map flat_named o) ≡ is_some o
    by None = refl
    by (Some k) = refl

-- new names
new_flat : (w : Setting) (f g : Name → Bool) (x : Word) → g x.bytes ≡ f x.bytes → Alike (λ x. x) (new_name w f x) (new_name w g (flat_word x))
new_flat w f g x h =
    in_steps (λ x. x) (λ x. x) _ _ _ _ (require_alike _ _ x.at 0 faults.Reserved (ap (λ b. not (b || (not w.kept_names && is_kept_name x.bytes))) (reserved_flat x.kind))) λ free.
    in_steps (λ x. x) (λ x. x) _ _ _ _ (require_alike _ _ x.at 0 faults.Twice (ap not h)) λ new. refl

-- a term before its place is known
sorts_flat : (sorts : List Sort) (at : ℕ) (ts : List Term) (t : Term) → Alike (λ x. x) (with_sorts sorts at ts t) (with_sorts sorts 0 ts t)
sorts_flat sorts at ts t =
    in_steps (λ x. x) (λ x. x) _ _ _ _ (require_alike _ _ at 0 faults.WrongCount refl) λ counted.
    in_steps (λ x. x) (λ x. x) _ _ _ _ (require_alike _ _ at 0 faults.WrongSort refl) λ sorted. refl

unless_flat : (o : Option Fault) (at : ℕ) (t : Term) → Alike (λ x. x) (unless o at t) (unless o 0 t)
unless_flat None at t = refl
unless_flat (Some f) at t = refl

rule_flat : (r : Rule) (at : ℕ) (ts : List Term) → Alike (λ x. x) (by_rule r at ts) (by_rule r 0 ts)
rule_flat r at ts =
    in_steps (λ x. x) (λ x. x) _ _ _ _ (require_alike _ _ at 0 faults.WrongCount refl) λ counted.
    in_steps (λ x. x) (λ x. x) _ _ _ _ (require_alike _ _ at 0 faults.WrongSort refl) λ sorted. unless_flat (r.fault ts) at (r.reads ts)

applied_as_flat : (o : Option Term) (r : Option Rule) (k : Option Known) (place at : ℕ) (ts : List Term) → Alike (λ x. x) (applied_as o r k place at ts) (applied_as o r (option_map flat_named k) 0 0 ts)
applied_as_flat (Some t) r k place at ts = sorts_flat [] at ts t
applied_as_flat None (Some r) k place at ts = rule_flat r at ts
applied_as_flat None None (Some (declared f)) place at ts = sorts_flat _ at ts _
applied_as_flat None None (Some (defined d)) place at ts = sorts_flat _ at ts _
applied_as_flat None None None place at ts = refl

applied_flat : (s : Signature) (b : Bound) (place : ℕ) (n : Name) (at : ℕ) (ts : List Term) → Alike (λ x. x) (applied s b place n at ts) (applied (flat_signature s) b 0 n 0 ts)
applied_flat s b place n at ts = applied_as_flat (look_up b n) (look_up theory n) (known_as s n) place at ts ∙ ap (λ k. shown (applied_as (look_up b n) (look_up theory n) k 0 0 ts)) (sym (known_flat s n))

literal_flat : (at : ℕ) (ds : Name) → Alike (λ x. x) (literal at ds) (literal 0 ds)
literal_flat at ds = in_steps (λ x. x) (λ x. x) _ _ _ _ (require_alike _ _ at 0 faults.NumberWide refl) λ fits. refl

atom_flat : (s : Signature) (b : Bound) (at : ℕ) (k : Kind) (n : Name) → Alike (λ x. x) (atom_term s b at k n) (atom_term (flat_signature s) b 0 (without_bars k) n)
atom_flat s b at Numeral n = literal_flat at n
atom_flat s b at Decimal n = literal_flat at n
atom_flat s b at Text n = refl
atom_flat s b at Simple n = applied_flat s b at n at []
atom_flat s b at Quoted n = applied_flat s b at n at []
atom_flat s b at word_kind n = refl
atom_flat s b at Keyword n = refl

-- what is read
abbrev pub flat_reading : Reading → Reading
flat_reading r = record { made = flat_definitions r.made; term = r.term }

abbrev pub flat_readings : Readings → Readings
flat_readings r = record { made = flat_definitions r.made; terms = r.terms }

abbrev flat_bindings : Bindings → Bindings
flat_bindings r = record { made = flat_definitions r.made; bound = r.bound }

abbrev flat_annotated : Annotated → Annotated
flat_annotated t = record { at = 0; text = flat t.text; term = t.term; may_name = t.may_name }

made_by_flat : (w : Setting) (s : Signature) (t : Annotated) (xs : List Word) → Alike flat_definitions (made_by w s t xs) (made_by w (flat_signature s) (flat_annotated t) (map flat_word xs))
unfolding made_by
made_by_flat w s t [] = refl
made_by_flat w s t (x ∷ xs) =
    in_steps (λ x. x) flat_definitions _ _ _ _ (new_flat w (λ n. is_function s n || is_own w.own n) (λ n. is_function (flat_signature s) n || is_own w.own n) x (ap (λ b. b || is_own w.own x.bytes) (function_flat s x.bytes))) λ n.
    in_steps (λ x. x) flat_definitions _ _ _ _ (require_alike _ _ t.at 0 faults.BadShape refl) λ may.
    in_steps flat_definitions flat_definitions _ _ _ _ (made_by_flat w (with_definitions s (naming n t ∷ [])) t xs ∙ ap (λ z. shown (made_by w z (flat_annotated t) (map flat_word xs))) (with_flat s (naming n t ∷ []))) λ ds. refl

-- by the forms of texts
module _ (w : Setting) where
  mutual
    unfolding reading readings let_reading bindings_reading annotated_reading

    pub read_flat : (s : Signature) (b : Bound) (t : Tree) → Alike flat_reading (reading w s b t) (reading w (flat_signature s) b (flat t))
    read_flat s b (atom at k n) = in_steps (λ x. x) flat_reading _ _ _ _ (atom_flat s b at k n) λ t. refl
    read_flat s b (list at none end) = refl
    read_flat s b (list at (more head us) end) = go (form head us) (all_flat s b us) (let_flat s b at us) (annotated_flat s b at us) ∙ ap (λ q. shown (by_form w (flat_signature s) b 0 (flat_all us) q)) (sym (form_flat head us))
      where
        go : (q : Form)
            → Alike flat_readings (readings w s b us) (readings w (flat_signature s) b (flat_all us))
            → Alike flat_reading (let_reading w s b at us) (let_reading w (flat_signature s) b 0 (flat_all us))
            → Alike flat_reading (annotated_reading w s b at us) (annotated_reading w (flat_signature s) b 0 (flat_all us))
            → Alike flat_reading (by_form w s b at us q) (by_form w (flat_signature s) b 0 (flat_all us) (flat_form q))
        go malformed x y z = refl
        go (reserved p) x y z = refl
        go (applies p n) x y z =
            in_steps flat_readings flat_reading _ _ _ _ x λ r.
            in_steps (λ x. x) flat_reading _ _ _ _ (applied_flat (with_definitions s r.made) b p n at r.terms ∙ ap (λ z. shown (applied z b 0 n 0 r.terms)) (with_flat s r.made)) λ t. refl
        go binds x y z = y
        go annotates x y z = z

    all_flat : (s : Signature) (b : Bound) (ts : Trees) → Alike flat_readings (readings w s b ts) (readings w (flat_signature s) b (flat_all ts))
    all_flat s b none = refl
    all_flat s b (more t ts) =
        in_steps flat_reading flat_readings _ _ _ _ (read_flat s b t) λ r.
        in_steps flat_readings flat_readings _ _ _ _ (all_flat (with_definitions s r.made) b ts ∙ ap (λ z. shown (readings w z b (flat_all ts))) (with_flat s r.made)) λ rs.
        ap (λ (ds : List Definition). Some (record { made = ds; terms = r.term ∷ rs.terms })) (map-append flat_definition r.made rs.made)

    let_flat : (s : Signature) (b : Bound) (at : ℕ) (ts : Trees) → Alike flat_reading (let_reading w s b at ts) (let_reading w (flat_signature s) b 0 (flat_all ts))
    let_flat s b at (more (list place bindings end) (more body none)) =
        in_steps flat_bindings flat_reading _ _ _ _ (bindings_flat s b [] bindings) λ r.
        in_steps flat_reading flat_reading _ _ _ _ (read_flat (with_definitions s r.made) (r.bound ++ b) body ∙ ap (λ z. shown (reading w z (r.bound ++ b) (flat body))) (with_flat s r.made)) λ t.
        ap (λ (ds : List Definition). Some (record { made = ds; term = t.term })) (map-append flat_definition r.made t.made)
    let_flat s b at _ = refl

    bindings_flat : (s : Signature) (b : Bound) (names : List Name) (ts : Trees) → Alike flat_bindings (bindings_reading w s b names ts) (bindings_reading w (flat_signature s) b names (flat_all ts))
    bindings_flat s b names (more (list at (more (atom x k n) (more t none)) end) rest) =
        in_steps (λ x. x) flat_bindings _ _ _ _ (new_flat w (is_in_list names) (is_in_list names) (record { at = x; kind = k; bytes = n }) refl) λ name.
        in_steps flat_reading flat_bindings _ _ _ _ (read_flat s b t) λ r.
        in_steps flat_bindings flat_bindings _ _ _ _ (bindings_flat (with_definitions s r.made) b (names ++ name ∷ []) rest ∙ ap (λ z. shown (bindings_reading w z b (names ++ name ∷ []) (flat_all rest))) (with_flat s r.made)) λ rs.
        ap (λ (ds : List Definition). Some (record { made = ds; bound = (name, r.term) ∷ rs.bound })) (map-append flat_definition r.made rs.made)
    bindings_flat s b names _ = refl

    annotated_flat : (s : Signature) (b : Bound) (at : ℕ) (ts : Trees) → Alike flat_reading (annotated_reading w s b at ts) (annotated_reading w (flat_signature s) b 0 (flat_all ts))
    annotated_flat s b at none = refl
    annotated_flat s b at (more t attributes) =
        in_steps flat_reading flat_reading _ _ _ _ (read_flat s b t) λ r.
        in_steps flat_definitions flat_reading _ _ _ _
        (made_by_flat w (with_definitions s r.made) (annotated_as w b at t r.term) (named_words a_keyword attributes)
        ∙ (λ i. shown (made_by w (with_flat s r.made i) (record { at = 0; text = flat t; term = r.term; may_name = w.may_name && not (sym (mentions_flat (bound_names b) t) i) }) (sym (words_flat a_keyword attributes) i)))) λ ds.
        ap (λ (ds : List Definition). Some (record { made = ds; term = r.term })) (map-append flat_definition r.made ds)

-- a text of a sort, where both have one
pub of_sort_flat : (w : Setting) (s : Signature) (b : Bound) (sort : Sort) (t : Tree) → Alike flat_reading (reading_of_sort w s b sort t) (reading_of_sort w (flat_signature s) b sort (flat t))
of_sort_flat w s b sort t =
    in_steps flat_reading flat_reading _ _ _ _ (read_flat w s b t) λ r.
    in_steps (λ x. x) flat_reading _ _ _ _ (require_alike _ _ _ _ faults.WrongSort refl) λ fits. refl

-- sorts
named_sort : (s : Signature) (at : ℕ) (n : Name) → Alike (λ x. x) (sort_in s (atom at Simple n)) (sort_in (flat_signature s) (atom 0 Simple n))
named_sort s at n = by (bytes_eq n (codes "Bool")) (bytes_eq n (codes "Real")) (sort_as s n) ∙ ap (λ o. shown (cond (bytes_eq n (codes "Bool")) (Ok Truth) (cond (bytes_eq n (codes "Real")) (Ok Number) (sort_found 0 o)))) (sym (sort_flat s n))
  where
    by : (a b : Bool) (o : Option Sort) → Alike (λ x. x) (cond a (Ok Truth) (cond b (Ok Number) (sort_found at o))) (cond a (Ok Truth) (cond b (Ok Number) (sort_found 0 o)))
    by true b o = refl
    by false true o = refl
    by false false (Some x) = refl
    by false false None = refl

sort_read : (s : Signature) (t : Tree) → Alike (λ x. x) (sort_in s t) (sort_in (flat_signature s) (flat t))
sort_read s (list at ts end) = refl
sort_read s (atom at Simple n) = named_sort s at n
sort_read s (atom at Quoted n) = named_sort s at n
sort_read s (atom at Numeral n) = refl
sort_read s (atom at Decimal n) = refl
sort_read s (atom at Text n) = refl
sort_read s (atom at word_kind n) = refl
sort_read s (atom at Keyword n) = refl

parameters_flat : (w : Setting) (s : Signature) (names : List Name) (ts : Trees) → Alike (λ x. x) (parameters_in w s names ts) (parameters_in w (flat_signature s) names (flat_all ts))
unfolding parameters_in
parameters_flat w s names (more (list at (more (atom x k n) (more t none)) end) rest) =
    in_steps (λ x. x) (λ x. x) _ _ _ _ (new_flat w (is_in_list names) (is_in_list names) (record { at = x; kind = k; bytes = n }) refl) λ name.
    in_steps (λ x. x) (λ x. x) _ _ _ _ (sort_read s t) λ sort.
    in_steps (λ x. x) (λ x. x) _ _ _ _ (parameters_flat w s (names ++ name ∷ []) rest) λ ps. refl
parameters_flat w s names _ = refl

-- definitions
abbrev pub flat_parts : Parts → Parts
flat_parts d = record { name = flat_word d.name; parameters = flat_all d.parameters; result = flat d.result; body = flat d.body }

pub definitions_flat : (w : Setting) (s : Signature) (d : Parts) → Alike flat_definitions (definitions_in w s d) (definitions_in w (flat_signature s) (flat_parts d))
unfolding definitions_in
definitions_flat w s d =
    in_steps (λ x. x) flat_definitions _ _ _ _ (new_flat w (is_function s) (is_function (flat_signature s)) d.name (function_flat s d.name.bytes)) λ n.
    in_steps (λ x. x) flat_definitions _ _ _ _ (parameters_flat w s [] d.parameters) λ ps.
    in_steps (λ x. x) flat_definitions _ _ _ _ (sort_read s d.result) λ result.
    in_steps flat_reading flat_definitions _ _ _ _ (of_sort_flat (record w { own = Some n }) s (bound_parameters 0 ps) result d.body) λ r.
    ap Some (map-append flat_definition r.made _)
