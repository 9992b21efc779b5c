-- The fault of a definition is at an offset of its text, and the first fault of definitions in theirs.
use Rattle.std.proofs.Common.{◌≡◌, ℕ, Bool, true, false, cond, List, [], ◌∷◌, Option, Some, None, refl, subst}
use Rattle.std.specs.Prelude.{Ok, Err, not, ◌&&◌, ◌==◌, ◌++◌, length, codes}
use Rattle.std.specs.Str.{bytes_eq}
use Rattle.spec_text.specs.declared.Kind.{Kind}
use Rattle.spec_text.specs.declared.Kind.TheVariants.{Numeral, Decimal, Text, Simple, Quoted, Reserved, Keyword}
use Rattle.spec_text.specs.Bytes.{Name, among}
use Rattle.spec_text.specs.Shapes.{Word, is_symbol, is_reserved}
use Rattle.spec_text.specs.Answers.{◌>>=◌}
use Rattle.spec_text.specs.Trees.{Tree, Trees, atom, list, none, more, offset_of}
use Rattle.spec_text.specs.Offsets.{AllOffsets, AllOffsetsOf, HasOffset, own_offsets}
use Rattle.spec_text.proofs.AnswerLaws.{own_offset}
use Rattle.spec_sorts.specs.Terms.{Sort}
use Rattle.spec_sorts.specs.Signatures.{Signature, known_as}
use Rattle.spec_models.specs.Meaning.{element_number}
use Rattle.spec_model_files.specs.declared.ModelKind.{ModelKind}
use Rattle.spec_model_files.specs.declared.ModelKind.TheVariants.{BadShape, UnknownSymbol, Twice, WrongSort, NumberWide}
use Rattle.spec_model_files.specs.Faults.{is_of_script, ModelFault, ReadModel, wrong, require, found_or}
use Rattle.spec_model_files.specs.Values.{is_named, symbol_read, names_sort, sort_read, is_zero, literal_atom, literal_read, divisor_read, number_read, written_truth, written_atom, element_read, written_in, value_of_sort, is_within, value_read}
use Rattle.spec_model_files.specs.Bodies.{tree_count, Parameters, parameter_named, equality_read, equalities_read, condition_read, body_read}
use Rattle.spec_model_files.specs.Definitions.{declared_symbol, defined_name, parameter_read, parameters_read, parameter_list_read, definition_read, definitions_read}

module _ (P : ℕ → Type 0) where
  -- what is read has a property, and a fault of the file an offset with the other
  abbrev pub Gives : {A : Type 0} → (A → Type 0) → ReadModel A → Type 0
  Gives Q (Ok a) = Q a
  Gives Q (Err f) = P f.offset × (is_of_script f.kind ≡ false)

  -- a fault, where there is one, is the file's, and has such an offset
  abbrev pub IsFaultWithin : {A : Type 0} → ReadModel A → Type 0
  IsFaultWithin a = Gives (λ _. Unit {0}) a

  -- what is in two steps, where it is in each
  gives_in_turn : {A B : Type 0} (Q : A → Type 0) (R : B → Type 0) (a : ReadModel A) (f : A → ReadModel B) → Gives Q a → ((x : A) → Q x → Gives R (f x)) → Gives R (a >>= f)
  unfolding ◌>>=◌
  gives_in_turn Q R (Ok x) f h g = g x h
  gives_in_turn Q R (Err e) f h g = h

  pub in_turn : {A B : Type 0} (a : ReadModel A) (f : A → ReadModel B) → IsFaultWithin a → ((x : A) → IsFaultWithin (f x)) → IsFaultWithin (a >>= f)
  in_turn a f h g = gives_in_turn (λ _. Unit {0}) (λ _. Unit {0}) a f h (λ x _. g x)

  require_within : (b : Bool) (at : ℕ) (k : ModelKind) → is_of_script k ≡ false → P at → IsFaultWithin (require b at k)
  unfolding require
  require_within true at k e h = tt
  require_within false at k e h = (h, e)

  found_within : {A : Type 0} (o : Option A) (at : ℕ) (k : ModelKind) → is_of_script k ≡ false → P at → IsFaultWithin (found_or o at k)
  unfolding found_or
  found_within (Some a) at k e h = tt
  found_within None at k e h = (h, e)

  -- a word is at its text
  symbol_within : (t : Tree) → AllOffsets P t → Gives (λ (w : Word). P w.at) (symbol_read t)
  symbol_within (atom at k n) h = go (is_symbol k)
    where
      go : (b : Bool) → Gives (λ (w : Word). P w.at) (cond b (Ok (record { at = at; kind = k; bytes = n })) (wrong at BadShape))
      go true = h
      go false = (h, refl)
  symbol_within (list at ts end) h = (h.0, refl)

  word_then : {A : Type 0} (t : Tree) (f : Word → ReadModel A) → AllOffsets P t → ((w : Word) → P w.at → IsFaultWithin (f w)) → IsFaultWithin (symbol_read t >>= f)
  word_then t f h g = gives_in_turn (λ (w : Word). P w.at) (λ _. Unit {0}) (symbol_read t) f (symbol_within t h) g

  sort_within : (g : Signature) (s : Sort) (t : Tree) → AllOffsets P t → IsFaultWithin (sort_read g s t)
  unfolding sort_read
  sort_within g s t h = word_then t _ h λ w here. require_within (names_sort g s w) w.at WrongSort refl here

  -- numbers
  atom_within : (at : ℕ) (k : Kind) (n : List ℕ) → P at → IsFaultWithin (literal_atom at k n)
  atom_within at Numeral n h = tt
  atom_within at Decimal n h = tt
  atom_within at _ n h = (h, refl)

  literal_within : (t : Tree) → AllOffsets P t → IsFaultWithin (literal_read t)
  literal_within (atom at k n) h = atom_within at k n h
  literal_within (list at ts end) h = (h.0, refl)

  divisor_within : (t : Tree) → AllOffsets P t → IsFaultWithin (divisor_read t)
  unfolding divisor_read
  divisor_within (list at (more (atom a k m) (more t none)) end) h =
      in_turn (require (is_named (codes "-") k m) at BadShape) _ (require_within _ at BadShape refl h.0) λ minus.
      in_turn (literal_read t) _ (literal_within t h.1.1.0) λ x. tt
  divisor_within (atom at k n) h = atom_within at k n h
  divisor_within _ h = (h.0, refl)

  number_within : (t : Tree) → AllOffsets P t → IsFaultWithin (number_read t)
  unfolding number_read
  number_within (list at (more (atom a k m) (more t none)) end) h =
      in_turn (require (is_named (codes "-") k m) at BadShape) _ (require_within _ at BadShape refl h.0) λ minus.
      in_turn (number_read t) _ (number_within t h.1.1.0) λ x. tt
  number_within (list at (more (atom a k m) (more t (more d none))) end) h =
      in_turn (require (is_named (codes "/") k m) at BadShape) _ (require_within _ at BadShape refl h.0) λ over.
      in_turn (number_read t) _ (number_within t h.1.1.0) λ x.
      in_turn (divisor_read d) _ (divisor_within d h.1.1.1.0) λ y.
      in_turn (require (not (y.is_within && is_zero y.fraction)) at BadShape) _ (require_within _ at BadShape refl h.0) λ nonzero. tt
  number_within (atom at k n) h = atom_within at k n h
  number_within _ h = (h.0, refl)

  -- values
  truth_by : (a b : Bool) (at : ℕ) → P at → IsFaultWithin (cond a (Ok (written_truth true)) (cond b (Ok (written_truth false)) (wrong at BadShape)))
  truth_by true b at h = tt
  truth_by false true at h = tt
  truth_by false false at h = (h, refl)

  truth_within : (at : ℕ) (k : Kind) (n : List ℕ) → P at → IsFaultWithin (written_atom at k n)
  truth_within at Numeral n h = tt
  truth_within at Decimal n h = tt
  truth_within at Text n h = (h, refl)
  truth_within at Simple n h = truth_by _ _ at h
  truth_within at Quoted n h = truth_by _ _ at h
  truth_within at Reserved n h = (h, refl)
  truth_within at Keyword n h = (h, refl)

  element_within : (e s : Tree) → AllOffsets P e → AllOffsets P s → IsFaultWithin (element_read e s)
  unfolding element_read
  element_within e s h k =
      word_then e _ h λ w here.
      in_turn (found_or (element_number w.bytes) w.at BadShape) _ (found_within _ w.at BadShape refl here) λ n.
      word_then s _ k λ sort _. tt

  written_within : (t : Tree) → AllOffsets P t → IsFaultWithin (written_in t)
  unfolding written_in
  written_within (atom at k n) h = truth_within at k n h
  written_within (list at (more (atom a Reserved m) (more e (more s none))) end) h =
      in_turn (require (bytes_eq m (codes "as")) at BadShape) _ (require_within _ at BadShape refl h.0) λ head.
      element_within e s h.1.1.0 h.1.1.1.0
  written_within _ h = in_turn (number_read _) _ (number_within _ h) λ x. tt

  value_within : (g : Signature) (s : Sort) (t : Tree) → AllOffsets P t → IsFaultWithin (value_read g s t)
  unfolding value_read
  value_within g s t h =
      in_turn (written_in t) _ (written_within t h) λ w.
      in_turn (found_or (value_of_sort g s w) (offset_of t) WrongSort) _ (found_within _ _ WrongSort refl (own_offset P t h)) λ v.
      in_turn (require (is_within w) (offset_of t) NumberWide) _ (require_within _ _ NumberWide refl (own_offset P t h)) λ within. tt

  -- rows and bodies
  named_within : (n : Name) (t : Tree) → AllOffsets P t → IsFaultWithin (parameter_named n t)
  named_within n (atom at k m) h = require_within (is_named n k m) at BadShape refl h
  named_within n (list at ts end) h = (h.0, refl)

  equality_within : (g : Signature) (p : Name × Sort) (t : Tree) → AllOffsets P t → IsFaultWithin (equality_read g p t)
  unfolding equality_read
  equality_within g p (list at (more (atom a k m) (more x (more v none))) end) h =
      in_turn (require (is_named (codes "=") k m) at BadShape) _ (require_within _ at BadShape refl h.0) λ equality.
      in_turn (parameter_named p.0 x) _ (named_within p.0 x h.1.1.0) λ named. value_within g p.1 v h.1.1.1.0
  equality_within g p (atom at k n) h = (h, refl)
  equality_within g p _ h = (h.0, refl)

  equalities_within : (g : Signature) (ps : Parameters) (ts : Trees) → AllOffsetsOf P ts → IsFaultWithin (equalities_read g ps ts)
  unfolding equalities_read
  equalities_within g (p ∷ ps) (more t ts) h =
      in_turn (equality_read g p t) _ (equality_within g p t h.0) λ v.
      in_turn (equalities_read g ps ts) _ (equalities_within g ps ts h.1) λ vs. tt
  equalities_within g _ _ h = tt

  condition_within : (g : Signature) (ps : Parameters) (t : Tree) → AllOffsets P t → IsFaultWithin (condition_read g ps t)
  unfolding condition_read
  condition_within g (p ∷ []) t h = in_turn (equality_read g p t) _ (equality_within g p t h) λ v. tt
  condition_within g [] (list at (more (atom a k m) ts) end) h =
      in_turn (require (is_named (codes "and") k m && tree_count ts == 0) at BadShape) _ (require_within _ at BadShape refl h.0) λ conjunction.
      equalities_within g [] ts h.1.1
  condition_within g (p ∷ q ∷ ps) (list at (more (atom a k m) ts) end) h =
      in_turn (require (is_named (codes "and") k m && tree_count ts == length (p ∷ q ∷ ps)) at BadShape) _ (require_within _ at BadShape refl h.0) λ conjunction.
      equalities_within g (p ∷ q ∷ ps) ts h.1.1
  condition_within g [] (atom at k n) h = (h, refl)
  condition_within g (p ∷ q ∷ ps) (atom at k n) h = (h, refl)
  condition_within g [] _ h = (h.0, refl)
  condition_within g (p ∷ q ∷ ps) _ h = (h.0, refl)

  body_within : (g : Signature) (ps : Parameters) (s : Sort) (t : Tree) → AllOffsets P t → IsFaultWithin (body_read g ps s t)
  unfolding body_read
  body_within g (p ∷ ps) s (list at (more (atom a k m) (more c (more v (more others none)))) end) h =
      in_turn (require (is_named (codes "ite") k m) at BadShape) _ (require_within _ at BadShape refl h.0) λ row.
      in_turn (condition_read g (p ∷ ps) c) _ (condition_within g (p ∷ ps) c h.1.1.0) λ arguments.
      in_turn (value_read g s v) _ (value_within g s v h.1.1.1.0) λ value.
      in_turn (body_read g (p ∷ ps) s others) _ (body_within g (p ∷ ps) s others h.1.1.1.1.0) λ table. tt
  body_within g ps s _ h = in_turn (value_read g s _) _ (value_within g s _ h) λ v. tt

  -- definitions
  defined_within : (g : Signature) (names : List Name) (t : Tree) → AllOffsets P t → IsFaultWithin (defined_name g names t)
  unfolding defined_name
  defined_within g names t h =
      word_then t _ h λ w here.
      in_turn (found_or (declared_symbol (known_as g w.bytes)) w.at UnknownSymbol) _ (found_within _ w.at UnknownSymbol refl here) λ f.
      in_turn (require (not (among names w.bytes)) w.at Twice) _ (require_within _ w.at Twice refl here) λ new. tt

  parameter_within : (g : Signature) (names : List Name) (s : Sort) (t : Tree) → AllOffsets P t → IsFaultWithin (parameter_read g names s t)
  unfolding parameter_read
  parameter_within g names s (list at (more x (more t none)) end) h =
      word_then x _ h.1.0 λ w here.
      in_turn (require (not (among names w.bytes)) w.at Twice) _ (require_within _ w.at Twice refl here) λ new.
      in_turn (sort_read g s t) _ (sort_within g s t h.1.1.0) λ sort. tt
  parameter_within g names s (atom at k n) h = (h, refl)
  parameter_within g names s _ h = (h.0, refl)

  parameters_within : (g : Signature) (names : List Name) (ss : List Sort) (ts : Trees) → AllOffsetsOf P ts → IsFaultWithin (parameters_read g names ss ts)
  unfolding parameters_read
  parameters_within g names (s ∷ ss) (more t ts) h =
      in_turn (parameter_read g names s t) _ (parameter_within g names s t h.0) λ n.
      in_turn (parameters_read g (names ++ n ∷ []) ss ts) _ (parameters_within g (names ++ n ∷ []) ss ts h.1) λ ps. tt
  parameters_within g names _ _ h = tt

  parameter_list_within : (g : Signature) (ss : List Sort) (t : Tree) → AllOffsets P t → IsFaultWithin (parameter_list_read g ss t)
  unfolding parameter_list_read
  parameter_list_within g ss (list at ts end) h =
      in_turn (require (tree_count ts == length ss) at WrongSort) _ (require_within _ at WrongSort refl h.0) λ count. parameters_within g [] ss ts h.1
  parameter_list_within g ss (atom at k n) h = (h, refl)

  definition_within : (g : Signature) (names : List Name) (t : Tree) → AllOffsets P t → IsFaultWithin (definition_read g names t)
  unfolding definition_read
  definition_within g names (list at (more (atom a k m) (more f (more parameters (more sort (more body none))))) end) h =
      in_turn (require (is_reserved k && bytes_eq m (codes "define-fun")) at BadShape) _ (require_within _ at BadShape refl h.0) λ definition.
      in_turn (defined_name g names f) _ (defined_within g names f h.1.1.0) λ s.
      in_turn (parameter_list_read g s.parameters parameters) _ (parameter_list_within g s.parameters parameters h.1.1.1.0) λ ps.
      in_turn (sort_read g s.result sort) _ (sort_within g s.result sort h.1.1.1.1.0) λ result.
      in_turn (body_read g ps s.result body) _ (body_within g ps s.result body h.1.1.1.1.1.0) λ table. tt
  definition_within g names (atom at k n) h = (h, refl)
  definition_within g names _ h = (h.0, refl)

  pub definitions_within : (g : Signature) (names : List Name) (ts : Trees) → AllOffsetsOf P ts → IsFaultWithin (definitions_read g names ts)
  unfolding definitions_read
  definitions_within g names none h = tt
  definitions_within g names (more t ts) h =
      in_turn (definition_read g names t) _ (definition_within g names t h.0) λ d.
      in_turn (definitions_read g (names ++ d.symbol.name ∷ []) ts) _ (definitions_within g (names ++ d.symbol.name ∷ []) ts h.1) λ ds. tt

-- the fault of a value, and of a definition
pub value_fault : (g : Signature) (s : Sort) (t : Tree) (f : ModelFault) → value_read g s t ≡ Err f → HasOffset t f.offset
value_fault g s t f e = (subst (IsFaultWithin (HasOffset t)) e (value_within (HasOffset t) g s t (own_offsets t))).0

pub definition_fault : (g : Signature) (names : List Name) (t : Tree) (f : ModelFault) → definition_read g names t ≡ Err f → HasOffset t f.offset
definition_fault g names t f e = (subst (IsFaultWithin (HasOffset t)) e (definition_within (HasOffset t) g names t (own_offsets t))).0
