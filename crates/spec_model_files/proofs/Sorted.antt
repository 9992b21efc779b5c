-- The tables that definitions give are those of their symbols: their values have the symbols' sorts.
use Rattle.std.proofs.Common.{◌≡◌, ◌≢◌, ℕ, Bool, true, false, cond, List, [], ◌∷◌, ◌++◌, length, map, All, Option, Some, None, refl, sym, ap, ◌∙◌, arith, subst}
use Rattle.std.specs.Prelude.{Ok, Err, not, ◌&&◌, ◌==◌, codes}
use Rattle.std.specs.Str.{bytes_eq}
use Rattle.std.proofs.lemmas.Bool.{and_parts, eqb-true}
use Rattle.std.proofs.lemmas.List.Elements.{All-nil, All-cons}
use Rattle.std.proofs.lemmas.Slice.Eq.{bytes_eq-Decides}
use Rattle.spec_text.specs.declared.Kind.{Kind}
use Rattle.spec_text.specs.declared.Kind.TheVariants.{Numeral, Decimal, Simple, Quoted, Reserved}
use Rattle.spec_text.specs.Bytes.{Name, among}
use Rattle.spec_text.specs.Shapes.{is_reserved}
use Rattle.spec_text.specs.Answers.{◌>>=◌}
use Rattle.spec_text.specs.Trees.{Tree, Trees, atom, list, none, more, offset_of}
use Rattle.spec_text.proofs.ShapeLaws.{Holds}
use Rattle.spec_numbers.specs.Fractions.{IsReduced, inverse}
use Rattle.spec_numbers.proofs.Field.{product_reduced, opposite-reduced, inverse-reduced}
use Rattle.spec_sorts.specs.Terms.{Sort, Truth, Number, Declared, Symbol}
use Rattle.spec_sorts.specs.Values.{Value, element, HasSort, HaveSorts, Table, IsRowOf, IsTableOf}
use Rattle.spec_sorts.specs.Signatures.{Known, known_name, declared, defined, of_sort, of_function, Signature, known_as}
use Rattle.spec_sorts.proofs.SortsOfValues.{literal_reduced}
use Rattle.spec_models.specs.Meaning.{element_number}
use Rattle.spec_model_files.specs.declared.ModelKind.{ModelKind}
use Rattle.spec_model_files.specs.declared.ModelKind.TheVariants.{BadShape, UnknownSymbol, Twice, WrongSort, NumberWide}
use Rattle.spec_model_files.specs.Faults.{ReadModel, wrong, require, found_or}
use Rattle.spec_model_files.specs.Values.{is_named, symbol_read, names_sort, sort_read, WrittenNumber, is_zero, literal_atom, literal_read, divisor_read, number_read, Written, written_truth, written_number, written_element, written_atom, element_read, written_in, value_of_sort, is_within, value_read}
use Rattle.spec_model_files.specs.Bodies.{tree_count, Parameters, parameter_named, equality_read, equalities_read, condition_read, with_row, everywhere, body_read}
use Rattle.spec_model_files.specs.Definitions.{DefinedSymbol, declared_symbol, defined_name, parameter_read, parameters_read, parameter_list_read, definition_read, definitions_read}

-- what is read has a property
abbrev pub Yields : {A : Type 0} → (A → Type 0) → ReadModel A → Type 0
Yields Q (Ok a) = Q a
Yields Q (Err f) = Unit {0}

-- and so it is in two steps, where it is in each
in_turn : {A B : Type 0} (Q : A → Type 0) (R : B → Type 0) (a : ReadModel A) (f : A → ReadModel B) → Yields Q a → ((x : A) → Q x → Yields R (f x)) → Yields R (a >>= f)
unfolding ◌>>=◌
in_turn Q R (Ok x) f h g = g x h
in_turn Q R (Err e) f h g = tt

-- whatever the first step gives
after : {A B : Type 0} (R : B → Type 0) (a : ReadModel A) (f : A → ReadModel B) → ((x : A) → Yields R (f x)) → Yields R (a >>= f)
unfolding ◌>>=◌
after R (Ok x) f g = g x
after R (Err e) f g = tt

-- behind a test that passes
tested : {B : Type 0} (R : B → Type 0) (b : Bool) (at : ℕ) (k : ModelKind) (f : Unit {0} → ReadModel B) → (b ≡ true → Yields R (f tt)) → Yields R (require b at k >>= f)
unfolding ◌>>=◌ require
tested R true at k f g = g refl
tested R false at k f g = tt

found_yields : {A : Type 0} (Q : A → Type 0) (o : Option A) (at : ℕ) (k : ModelKind) → Holds Q o → Yields Q (found_or o at k)
unfolding found_or
found_yields Q (Some a) at k h = h
found_yields Q None at k h = tt

-- a number in lowest terms
abbrev IsLowest : WrittenNumber → Type 0
IsLowest x = IsReduced x.fraction

atom_lowest : (at : ℕ) (k : Kind) (n : List ℕ) → Yields IsLowest (literal_atom at k n)
atom_lowest at Numeral n = literal_reduced n
atom_lowest at Decimal n = literal_reduced n
atom_lowest at _ n = tt

literal_lowest : (t : Tree) → Yields IsLowest (literal_read t)
literal_lowest (atom at k n) = atom_lowest at k n
literal_lowest (list at ts end) = tt

divisor_lowest : (t : Tree) → Yields IsLowest (divisor_read t)
unfolding divisor_read
divisor_lowest (list at (more (atom a k m) (more t none)) end) =
    tested IsLowest (is_named (codes "-") k m) at BadShape _ λ minus.
    in_turn IsLowest IsLowest (literal_read t) _ (literal_lowest t) λ x h. opposite-reduced x.fraction h
divisor_lowest (atom at k n) = atom_lowest at k n
divisor_lowest _ = tt

number_lowest : (t : Tree) → Yields IsLowest (number_read t)
unfolding number_read
number_lowest (list at (more (atom a k m) (more t none)) end) =
    tested IsLowest (is_named (codes "-") k m) at BadShape _ λ minus.
    in_turn IsLowest IsLowest (number_read t) _ (number_lowest t) λ x h. opposite-reduced x.fraction h
number_lowest (list at (more (atom a k m) (more t (more d none))) end) =
    tested IsLowest (is_named (codes "/") k m) at BadShape _ λ over.
    in_turn IsLowest IsLowest (number_read t) _ (number_lowest t) λ x h.
    in_turn IsLowest IsLowest (divisor_read d) _ (divisor_lowest d) λ y j.
    tested IsLowest (not (y.is_within && is_zero y.fraction)) at BadShape _ λ nonzero. product_reduced x.fraction (inverse y.fraction) h (inverse-reduced y.fraction j)
number_lowest (atom at k n) = atom_lowest at k n
number_lowest _ = tt

-- of what was written, a number is in lowest terms
abbrev IsWrittenLowest : Written → Type 0
IsWrittenLowest (written_number x) = IsLowest x
IsWrittenLowest w = Unit {0}

truth_lowest : (a b : Bool) (at : ℕ) → Yields IsWrittenLowest (cond a (Ok (written_truth true)) (cond b (Ok (written_truth false)) (wrong at BadShape)))
truth_lowest true b at = tt
truth_lowest false true at = tt
truth_lowest false false at = tt

written_atom_lowest : (at : ℕ) (k : Kind) (n : List ℕ) → Yields IsWrittenLowest (written_atom at k n)
written_atom_lowest at Numeral n = literal_reduced n
written_atom_lowest at Decimal n = literal_reduced n
written_atom_lowest at Simple n = truth_lowest _ _ at
written_atom_lowest at Quoted n = truth_lowest _ _ at
written_atom_lowest at _ n = tt

element_lowest : (e s : Tree) → Yields IsWrittenLowest (element_read e s)
unfolding element_read
element_lowest e s =
    after IsWrittenLowest (symbol_read e) _ λ w.
    after IsWrittenLowest (found_or (element_number w.bytes) w.at BadShape) _ λ k.
    after IsWrittenLowest (symbol_read s) _ λ sort. tt

written_lowest : (t : Tree) → Yields IsWrittenLowest (written_in t)
unfolding written_in
written_lowest (atom at k n) = written_atom_lowest at k n
written_lowest (list at (more (atom a Reserved m) (more e (more s none))) end) =
    tested IsWrittenLowest (bytes_eq m (codes "as")) at BadShape _ λ head. element_lowest e s
written_lowest _ = in_turn IsLowest IsWrittenLowest (number_read _) _ (number_lowest _) λ x h. h

-- a value of a sort
sort_of_written : (g : Signature) (s : Sort) (w : Written) → IsWrittenLowest w → Holds (HasSort s) (value_of_sort g s w)
sort_of_written g Truth (written_truth b) h = tt
sort_of_written g Number (written_number x) h = h
sort_of_written g (Declared n) (written_element k w) h = go (names_sort g (Declared n) w)
  where
    go : (b : Bool) → Holds (HasSort (Declared n)) (cond b (Some (element n k)) None)
    go true = refl
    go false = tt
sort_of_written g _ _ h = tt

pub value_sorted : (g : Signature) (s : Sort) (t : Tree) → Yields (HasSort s) (value_read g s t)
unfolding value_read
value_sorted g s t =
    in_turn IsWrittenLowest (HasSort s) (written_in t) _ (written_lowest t) λ w h.
    in_turn (HasSort s) (HasSort s) (found_or (value_of_sort g s w) (offset_of t) WrongSort) _ (found_yields (HasSort s) (value_of_sort g s w) (offset_of t) WrongSort (sort_of_written g s w h)) λ v j.
    tested (HasSort s) (is_within w) (offset_of t) NumberWide _ λ within. j

-- the sorts of parameters
abbrev pub sorts_of : Parameters → List Sort
sorts_of ps = map (λ (p : Name × Sort). p.1) ps

equality_sorted : (g : Signature) (p : Name × Sort) (t : Tree) → Yields (HasSort p.1) (equality_read g p t)
unfolding equality_read
equality_sorted g p (list at (more (atom a k m) (more x (more v none))) end) =
    tested (HasSort p.1) (is_named (codes "=") k m) at BadShape _ λ equality.
    after (HasSort p.1) (parameter_named p.0 x) _ λ named. value_sorted g p.1 v
equality_sorted g p (atom at k n) = tt
equality_sorted g p _ = tt

equalities_sorted : (g : Signature) (ps : Parameters) (ts : Trees) → tree_count ts ≡ length ps → Yields (HaveSorts (sorts_of ps)) (equalities_read g ps ts)
unfolding equalities_read
equalities_sorted g (p ∷ ps) (more t ts) e =
    in_turn (HasSort p.1) (HaveSorts (sorts_of (p ∷ ps))) (equality_read g p t) _ (equality_sorted g p t) λ v h.
    in_turn (HaveSorts (sorts_of ps)) (HaveSorts (sorts_of (p ∷ ps))) (equalities_read g ps ts) _ (equalities_sorted g ps ts (omega (arith, e))) λ vs j. (h, j)
equalities_sorted g [] none e = tt
equalities_sorted g [] (more t ts) e = absurd (omega (arith, e))
equalities_sorted g (p ∷ ps) none e = absurd (omega (arith, e))

conjunction_sorted : (g : Signature) (ps : Parameters) (at : ℕ) (a : Bool) (ts : Trees) → Yields (HaveSorts (sorts_of ps)) (require (a && tree_count ts == length ps) at BadShape >>= λ conjunction. equalities_read g ps ts)
conjunction_sorted g ps at a ts =
    tested (HaveSorts (sorts_of ps)) (a && tree_count ts == length ps) at BadShape (λ conjunction. equalities_read g ps ts) λ both.
    equalities_sorted g ps ts (eqb-true (tree_count ts) (length ps) (and_parts a (tree_count ts == length ps) both).1)

condition_sorted : (g : Signature) (ps : Parameters) (t : Tree) → Yields (HaveSorts (sorts_of ps)) (condition_read g ps t)
unfolding condition_read
condition_sorted g (p ∷ []) t = in_turn (HasSort p.1) (HaveSorts (sorts_of (p ∷ []))) (equality_read g p t) _ (equality_sorted g p t) λ v h. (h, tt)
condition_sorted g [] (list at (more (atom a k m) ts) end) = conjunction_sorted g [] at (is_named (codes "and") k m) ts
condition_sorted g (p ∷ q ∷ ps) (list at (more (atom a k m) ts) end) = conjunction_sorted g (p ∷ q ∷ ps) at (is_named (codes "and") k m) ts
condition_sorted g [] (atom at k n) = tt
condition_sorted g (p ∷ q ∷ ps) (atom at k n) = tt
condition_sorted g [] _ = tt
condition_sorted g (p ∷ q ∷ ps) _ = tt

-- a value for all arguments
pub everywhere_sorted : (f : Symbol) (v : Value) → HasSort f.result v → IsTableOf f (everywhere v)
everywhere_sorted f v h = record { default = h; rows = All-nil (IsRowOf f); bare = λ e. refl }

-- and a row more
row_sorted : (f : Symbol) (arguments : List Value) (v : Value) (t : Table) → f.parameters ≢ [] → HaveSorts f.parameters arguments → HasSort f.result v → IsTableOf f t → IsTableOf f (with_row arguments v t)
row_sorted f arguments v t some h j k = record {
  default = k.default;
  rows = All-cons (IsRowOf f) _ t.rows (record { arguments = h; value = j }) k.rows;
  bare = λ e. absurd (some e);
}

body_sorted : (g : Signature) (f : Symbol) (ps : Parameters) (t : Tree) → sorts_of ps ≡ f.parameters → Yields (IsTableOf f) (body_read g ps f.result t)
unfolding body_read
body_sorted g f (p ∷ ps) (list at (more (atom a k m) (more c (more v (more others none)))) end) e =
    tested (IsTableOf f) (is_named (codes "ite") k m) at BadShape _ λ row.
    in_turn (HaveSorts (sorts_of (p ∷ ps))) (IsTableOf f) (condition_read g (p ∷ ps) c) _ (condition_sorted g (p ∷ ps) c) λ arguments h.
    in_turn (HasSort f.result) (IsTableOf f) (value_read g f.result v) _ (value_sorted g f.result v) λ value j.
    in_turn (IsTableOf f) (IsTableOf f) (body_read g (p ∷ ps) f.result others) _ (body_sorted g f (p ∷ ps) others e) λ table k.
    row_sorted f arguments value table (λ none. let long : sorts_of (p ∷ ps) ≡ [] = e ∙ none in cc) (subst (λ ss. HaveSorts ss arguments) e h) j k
body_sorted g f ps _ e = in_turn (HasSort f.result) (IsTableOf f) (value_read g f.result _) _ (value_sorted g f.result _) λ v h. everywhere_sorted f v h

-- the parameters have the symbol's sorts
parameters_sorted : (g : Signature) (names : List Name) (ss : List Sort) (ts : Trees) → tree_count ts ≡ length ss → Yields (λ ps. sorts_of ps ≡ ss) (parameters_read g names ss ts)
unfolding parameters_read
parameters_sorted g names (s ∷ ss) (more t ts) e =
    after (λ ps. sorts_of ps ≡ s ∷ ss) (parameter_read g names s t) _ λ n.
    in_turn (λ ps. sorts_of ps ≡ ss) (λ ps. sorts_of ps ≡ s ∷ ss) (parameters_read g (names ++ n ∷ []) ss ts) _ (parameters_sorted g (names ++ n ∷ []) ss ts (omega (arith, e))) λ ps h. ap (λ (us : List Sort). s ∷ us) h
parameters_sorted g names [] none e = refl
parameters_sorted g names [] (more t ts) e = absurd (omega (arith, e))
parameters_sorted g names (s ∷ ss) none e = absurd (omega (arith, e))

parameter_list_sorted : (g : Signature) (ss : List Sort) (t : Tree) → Yields (λ ps. sorts_of ps ≡ ss) (parameter_list_read g ss t)
unfolding parameter_list_read
parameter_list_sorted g ss (list at ts end) =
    tested (λ ps. sorts_of ps ≡ ss) (tree_count ts == length ss) at WrongSort _ λ same. parameters_sorted g [] ss ts (eqb-true (tree_count ts) (length ss) same)
parameter_list_sorted g ss (atom at k n) = tt

-- what a name is known as has that name
known_named : (g : Signature) (n : Name) (k : Known) → known_as g n ≡ Some k → known_name k ≡ n
known_named [] n k e = cc
known_named (of_sort m s ∷ ds) n k e = known_named ds n k e
known_named (of_function j ∷ ds) n k e = go (bytes_eq (known_name j) n) (bytes_eq-Decides (known_name j) n).0 e (known_named ds n k)
  where
    go : (b : Bool) → (b ≡ true → known_name j ≡ n) → cond b (Some j) (known_as ds n) ≡ Some k → (known_as ds n ≡ Some k → known_name k ≡ n) → known_name k ≡ n
    go true same h rest = let one : j ≡ k = cc in subst (λ (x : Known). known_name x ≡ n) one (same refl)
    go false same h rest = rest h

-- a symbol is what its name is known as
abbrev pub IsKnown : Signature → Symbol → Type 0
IsKnown g f = known_as g f.name ≡ Some (declared f)

-- A symbol of a signature, with a table of it.
pub record IsDefined (g : Signature) (d : DefinedSymbol) : Type 0 where
  pub known : IsKnown g d.symbol
  pub table : IsTableOf d.symbol d.table

symbol_known : (g : Signature) (n : Name) (o : Option Known) → known_as g n ≡ o → Holds (IsKnown g) (declared_symbol o)
symbol_known g n (Some (declared f)) e = subst (λ (m : Name). known_as g m ≡ Some (declared f)) (sym (known_named g n (declared f) e)) e
symbol_known g n (Some (defined d)) e = tt
symbol_known g n None e = tt

name_known : (g : Signature) (names : List Name) (t : Tree) → Yields (IsKnown g) (defined_name g names t)
unfolding defined_name
name_known g names t =
    after (IsKnown g) (symbol_read t) _ λ w.
    in_turn (IsKnown g) (IsKnown g) (found_or (declared_symbol (known_as g w.bytes)) w.at UnknownSymbol) _ (found_yields (IsKnown g) (declared_symbol (known_as g w.bytes)) w.at UnknownSymbol (symbol_known g w.bytes (known_as g w.bytes) refl)) λ f h.
    tested (IsKnown g) (not (among names w.bytes)) w.at Twice _ λ new. h

definition_sorted : (g : Signature) (names : List Name) (t : Tree) → Yields (IsDefined g) (definition_read g names t)
unfolding definition_read
definition_sorted g names (list at (more (atom a k m) (more f (more parameters (more sort (more body none))))) end) =
    tested (IsDefined g) (is_reserved k && bytes_eq m (codes "define-fun")) at BadShape _ λ definition.
    in_turn (IsKnown g) (IsDefined g) (defined_name g names f) _ (name_known g names f) λ s h.
    in_turn (λ ps. sorts_of ps ≡ s.parameters) (IsDefined g) (parameter_list_read g s.parameters parameters) _ (parameter_list_sorted g s.parameters parameters) λ ps e.
    after (IsDefined g) (sort_read g s.result sort) _ λ result.
    in_turn (IsTableOf s) (IsDefined g) (body_read g ps s.result body) _ (body_sorted g s ps body e) λ table j. record { known = h; table = j }
definition_sorted g names (atom at k n) = tt
definition_sorted g names _ = tt

-- definitions give tables of known symbols
pub definitions_sorted : (g : Signature) (names : List Name) (ts : Trees) → Yields (All (IsDefined g)) (definitions_read g names ts)
unfolding definitions_read
definitions_sorted g names none = All-nil (IsDefined g)
definitions_sorted g names (more t ts) =
    in_turn (IsDefined g) (All (IsDefined g)) (definition_read g names t) _ (definition_sorted g names t) λ d h.
    in_turn (All (IsDefined g)) (All (IsDefined g)) (definitions_read g (names ++ d.symbol.name ∷ []) ts) _ (definitions_sorted g (names ++ d.symbol.name ∷ []) ts) λ ds j. All-cons (IsDefined g) d ds h j
