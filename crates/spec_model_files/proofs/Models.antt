-- A file that is valid says an interpretation which makes a check's expressions true.
use Rattle.std.proofs.Common.{◌≡◌, ℕ, Bool, true, false, cond, List, [], ◌∷◌, All, get_or, Option, Some, None, inl, inr, refl, sym, ap, ◌∙◌, subst}
use Rattle.std.specs.Prelude.{Result, Ok, Err}
use Rattle.std.specs.Str.{bytes_eq}
use Rattle.std.specs.List.{AllByRecursion}
use Rattle.std.proofs.lemmas.List.Elements.{All-nil, All-cons, recursion_from_All, Contains-get_or}
use Rattle.std.proofs.lemmas.Slice.Eq.{bytes_eq-Decides}
use Rattle.spec_text.specs.Trees.{offset_of}
use Rattle.spec_text.proofs.ShapeLaws.{Holds}
use Rattle.spec_numbers.specs.Bounds.{Overflow}
use Rattle.spec_numbers.proofs.Field.{zero-reduced}
use Rattle.spec_sorts.specs.Terms.{Sort, Truth, Number, Declared, Symbol}
use Rattle.spec_sorts.specs.Values.{Value, truth, number, element, is_true, HasSort, Table, Interpretation, IsTableOf, Interprets}
use Rattle.spec_sorts.specs.Signatures.{declared, Signature, known_as, symbols_in}
use Rattle.spec_sorts.specs.Meaning.{value_under}
use Rattle.spec_sorts.specs.TermValues.{value_at}
use Rattle.spec_sorts.specs.BoundedValues.{bounded_value}
use Rattle.spec_sorts.proofs.Bounded.{bounded_is}
use Rattle.spec_reading.specs.Agreement.{AreSound}
use Rattle.spec_commands.specs.Stack.{Assertion, signature_of}
use Rattle.spec_commands.specs.Checks.{Check, asked, term_limit, IsCurrent, MakesTrue}
use Rattle.spec_commands.specs.Kept.{IsSoundStack}
use Rattle.spec_commands.proofs.Kept.{sound_here}
use Rattle.spec_checking.proofs.Models.{found}
use Rattle.spec_model_files.specs.declared.ModelKind.TheVariants.{NotTrue}
use Rattle.spec_model_files.specs.Faults.{ModelFault, model_fault, ReadModel}
use Rattle.spec_model_files.specs.Definitions.{DefinedSymbol, declared_symbol, table_among, usual_value, usual_table, table_or, interpretation_of}
use Rattle.spec_model_files.specs.Verdicts.{IsModelReading, SaysInterpretation, untrue_by, untrue_fault, first_of, first_untrue, judged, IsModelVerdict}
use Rattle.spec_model_files.proofs.Whole.{whole_file}
use Rattle.spec_model_files.proofs.Sorted.{Yields, everywhere_sorted, IsKnown, IsDefined, definitions_sorted}

-- the value that stands for a sort has it
usual_sorted : (s : Sort) → HasSort s (usual_value s)
usual_sorted Truth = tt
usual_sorted Number = zero-reduced
usual_sorted (Declared n) = refl

module _ (g : Signature) (s : Symbol) (known : IsKnown g s) where
  -- a definition of a name gives the symbol of that name
  same_symbol : (d : DefinedSymbol) → IsDefined g d → d.symbol.name ≡ s.name → IsTableOf s d.table
  same_symbol d h e =
      let both : Some (declared d.symbol) ≡ Some (declared s) = sym h.known ∙ ap (known_as g) e ∙ known in
      let one : d.symbol ≡ s = cc in
      subst (λ (f : Symbol). IsTableOf f d.table) one h.table

  -- so a table that definitions give is the symbol's
  among_sorted : (ds : List DefinedSymbol) → AllByRecursion (IsDefined g) ds → Holds (IsTableOf s) (table_among ds s.name)
  among_sorted [] h = tt
  among_sorted (d ∷ ds) h = go (bytes_eq d.symbol.name s.name) (bytes_eq-Decides d.symbol.name s.name).0 (among_sorted ds h.1)
    where
      go : (b : Bool) → (b ≡ true → d.symbol.name ≡ s.name) → Holds (IsTableOf s) (table_among ds s.name) → Holds (IsTableOf s) (cond b (Some d.table) (table_among ds s.name))
      go true same rest = same_symbol d h.0 (same refl)
      go false same rest = rest

  -- and else it is the usual one
  table_sorted : (ds : List DefinedSymbol) → All (IsDefined g) ds → IsTableOf s ((interpretation_of g ds).table s.name)
  table_sorted ds h = go (table_among ds s.name) (among_sorted ds (recursion_from_All (IsDefined g) ds h))
    where
      usual : IsTableOf s (usual_table (declared_symbol (known_as g s.name)))
      usual = subst (λ o. IsTableOf s (usual_table (declared_symbol o))) (sym known) (everywhere_sorted s (usual_value s.result) (usual_sorted s.result))

      go : (o : Option Table) → Holds (IsTableOf s) o → IsTableOf s (table_or o (declared_symbol (known_as g s.name)))
      go (Some t) k = k
      go None k = usual

-- definitions that were read interpret the symbols of a signature in which each name is of one
pub interprets : (g : Signature) (ds : List DefinedSymbol) → AreSound g → All (IsDefined g) ds → Interprets (interpretation_of g ds) (symbols_in g)
interprets g ds h defined k d lt =
    let s = get_or (symbols_in g) k d in
    table_sorted g s (found [] g h s (Contains-get_or (symbols_in g) k d lt)) ds defined

-- so do those of a file
reading_sorted : (g : Signature) (text : List ℕ) (ds : List DefinedSymbol) → IsModelReading g text (Ok ds) → All (IsDefined g) ds
reading_sorted g text ds r = let w = whole_file g text ds r in subst (Yields (All (IsDefined g))) w.read (definitions_sorted g [] w.definitions)

-- a value that is true
true_is : (v : Value) → is_true v ≡ true → v ≡ truth true
true_is (truth b) e = ap truth e
true_is (number q) e = cc
true_is (element n k) e = cc

-- an expression without a fault has the value true
by_true : (at : ℕ) (a : Result Value Overflow) → untrue_by at a ≡ None → a ≡ Ok (truth true)
by_true at (Err o) e = cc
by_true at (Ok v) e = go (is_true v) refl e
  where
    go : (b : Bool) → is_true v ≡ b → cond b None (Some (model_fault at NotTrue)) ≡ None → ◌≡◌ {A = Result Value Overflow} (Ok v) (Ok (truth true))
    go true h k = ap Ok (true_is v h)
    go false h k = cc

none_first : (o other : Option ModelFault) → first_of o other ≡ None → (o ≡ None) × (other ≡ None)
none_first None other e = (refl, e)
none_first (Some f) other e = cc

all_true : (i : Interpretation) (list : List Assertion) → first_untrue i list ≡ None → All (λ (a : Assertion). value_at i [] a.term ≡ truth true) list
unfolding first_untrue
all_true i [] e = All-nil (λ (a : Assertion). value_at i [] a.term ≡ truth true)
all_true i (a ∷ rest) e =
    let both = none_first (untrue_fault i a) (first_untrue i rest) e in
    All-cons (λ (a : Assertion). value_at i [] a.term ≡ truth true) a rest (bounded_is i [] a.term (truth true) (by_true (offset_of a.text) (bounded_value i [] a.term) both.0)) (all_true i rest both.1)

-- An interpretation that a file says, under which a check's expressions are true.
pub record IsValid (script model : List ℕ) (k : ℕ) : Type 0 where
  pub interpretation : Interpretation
  pub true_under : MakesTrue term_limit interpretation script k
  pub says : SaysInterpretation (signature_of true_under.here.stack) model interpretation

-- texts have their terms' values, and names are sound
module _ (script : List ℕ) (k : ℕ) (kept : (c : Check) → IsCurrent term_limit script k c → IsSoundStack term_limit c.stack) (texts : (c : Check) → IsCurrent term_limit script k c → (i : Interpretation) → All (λ (a : Assertion). value_under i (signature_of c.stack) a.text ≡ value_at i [] a.term) (asked c)) where
  by_answer : (model : List ℕ) (c : Check) → IsCurrent term_limit script k c → (a : ReadModel (List DefinedSymbol)) → IsModelReading (signature_of c.stack) model a → None ≡ judged c a → IsValid script model k
  by_answer model c current (Err f) r e = cc
  by_answer model c current (Ok ds) r e =
      let g : Signature = signature_of c.stack in
      let i : Interpretation = interpretation_of g ds in
      record {
        interpretation = i;
        true_under = record {
          here = c;
          current = current;
          interprets = interprets g ds (sound_here term_limit c.stack (kept c current)).names (reading_sorted g model ds r);
          each = λ j d lt. texts c current i j d lt ∙ all_true i (asked c) (sym e) j d lt;
        };
        says = (ds, r, refl);
      }

  pub valid : (model : List ℕ) → IsModelVerdict script k model None → IsValid script model k
  valid model (inl x) = by_answer model x.0 x.1 x.2.answer x.2.reading x.2.is
  valid model (inr x) = let never = x.1 in cc
