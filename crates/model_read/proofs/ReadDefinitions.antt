-- Definitions read one after the other, up to what ends them.
use Rattle.std.proofs.Common.{◌≡◌, ℕ, List, [], ◌∷◌, ◌++◌, length, Some, None, refl, sym, ap, ◌∙◌, subst, append_assoc, append-nil}
use Rattle.std.specs.Prelude.{Ok, Err}
use Rattle.std.proofs.lemmas.List.{map_push}
use Rattle.spec_text.specs.Answers.{◌>>=◌}
use Rattle.spec_text.specs.Bytes.{Name}
use Rattle.spec_text.specs.Readings.{is_long}
use Rattle.spec_text.specs.Trees.{Tree, Trees, none, more}
use Rattle.spec_proofs.specs.Texts.{Ending}
use Rattle.spec_sorts.specs.Signatures.{Signature}
use Rattle.spec_model_files.specs.Faults.{ModelFault, model_fault, ReadModel}
use Rattle.spec_model_files.specs.Definitions.{DefinedSymbol, definition_read, definitions_read}
use Rattle.spec_model_files.specs.Texts.{ends, IsModelText, ending_fault}
use Rattle.spec_model_files.specs.Verdicts.{unless_fault, read_to_end, IsModelReading, IsFirstModelFault}
use Rattle.smt_sexpr.specs.declared.sexpr.Sexpr.{Sexpr}
use Rattle.smt_sexpr.specs.Items.{tree_of}
use Rattle.term_core.specs.Tables.{TableView}
use Rattle.model_read.specs.declared.errors.LocatedFault.{LocatedFault}
use Rattle.model_read.specs.declared.errors.ModelStop.{ModelStop}
use Rattle.model_read.specs.declared.errors.ModelStop.TheVariants as stops
use Rattle.model_read.specs.declared.errors.ReadError.{ReadError}
use Rattle.model_read.specs.declared.errors.ReadError.TheVariants as errors
use Rattle.model_read.specs.declared.reader.Reader.{Reader}
use Rattle.model_read.specs.declared.tables.Tables.{Tables}
use Rattle.model_read.specs.Answers.{located_view, StopsRead}
use Rattle.model_read.specs.Bodies.{with_values}
use Rattle.model_read.specs.Definitions.{defined_names}
use Rattle.model_read.specs.Endings.{IsEnding}
use Rattle.model_read.specs.Remaining.{text_of, HasRead, ReadsOn, EndsDefinitions, HasNoDefinitions, BeginsAt, BeginsText}
use Rattle.model_read.specs.Readings.{IsReadUpTo, HasDefinitions, ReadsRest, ReadsTables, ReadsModel, IsPlaced}

module _ (g : Signature) where
  first_definition : (names : List Name) (t : Tree) (ts : Trees) → definitions_read g names (more t ts) ≡ (definition_read g names t >>= λ d. definitions_read g (names ++ d.symbol.name ∷ []) ts >>= λ ds. Ok (d ∷ ds))
  unfolding definitions_read
  first_definition names t ts = refl

  no_definitions : (names : List Name) → definitions_read g names none ≡ Ok []
  unfolding definitions_read
  no_definitions names = refl

  module _ (ds : List DefinedSymbol) (t : Tree) (ts : Trees) where
    one_more : (d : DefinedSymbol) → definition_read g (defined_names ds) t ≡ Ok d → with_values ds (definitions_read g (defined_names ds) (more t ts)) ≡ with_values (ds ++ d ∷ []) (definitions_read g (defined_names (ds ++ d ∷ [])) ts)
    unfolding ◌>>=◌
    one_more d e =
        ap (with_values ds) (first_definition (defined_names ds) t ts ∙ ap (λ r. r >>= λ x. definitions_read g (defined_names ds ++ x.symbol.name ∷ []) ts >>= λ xs. Ok (x ∷ xs)) e)
        ∙ ap (λ (ns : List Name). with_values ds (definitions_read g ns ts >>= λ xs. Ok (d ∷ xs))) (sym (map_push (λ (x : DefinedSymbol). x.symbol.name) ds d))
        ∙ go (definitions_read g (defined_names (ds ++ d ∷ [])) ts)
      where
        go : (r : ReadModel (List DefinedSymbol)) → with_values ds (r >>= λ xs. Ok (d ∷ xs)) ≡ with_values (ds ++ d ∷ []) r
        go (Ok xs) = ap (λ ys. Ok ys) (sym (append_assoc ds (d ∷ []) xs))
        go (Err f) = refl

    one_fails : (f : ModelFault) → definition_read g (defined_names ds) t ≡ Err f → with_values ds (definitions_read g (defined_names ds) (more t ts)) ≡ Err f
    unfolding ◌>>=◌
    one_fails f e = ap (with_values ds) (first_definition (defined_names ds) t ts ∙ ap (λ r. r >>= λ x. definitions_read g (defined_names ds ++ x.symbol.name ∷ []) ts >>= λ xs. Ok (x ∷ xs)) e)

  -- a whole text has the fault of its definitions
  first_fault : (text : List ℕ) (us : Trees) (e : Ending) (f : ModelFault) → IsModelText text us (ends e) → definitions_read g [] us ≡ Err f → IsModelReading g text (Err f)
  unfolding read_to_end ◌>>=◌
  first_fault text us e f read h = record {
    definitions = us;
    ending = ends e;
    read = read;
    is = sym (ap (λ r. r >>= λ ds. unless_fault (ending_fault (length text) (is_long text) (ends e)) ds) h);
  }

  module _ (text : List ℕ) (r : Reader) (ds : List DefinedSymbol) (h : IsReadUpTo g text r ds) where
    -- a definition more
    pub up_to_more : (new : Reader) (s : Sexpr) (d : DefinedSymbol) → text_of new ≡ text_of r → HasRead r s new → definition_read g (defined_names ds) (tree_of s) ≡ Ok d → IsReadUpTo g text new (ds ++ d ∷ [])
    up_to_more new s d same read e = record {
      whole = same ∙ h.whole;
      all = λ ts ending remain. let q = h.all (more (tree_of s) ts) ending (read.first ts ending remain) in (q.0, q.1, q.2 ∙ one_more ds (tree_of s) ts d e);
    }

    -- a definition with a fault
    pub up_to_fault : (new : Reader) (s : Sexpr) (f : ModelFault) → HasRead r s new → definition_read g (defined_names ds) (tree_of s) ≡ Err f → IsModelReading g text (Err f)
    up_to_fault new s f read e =
        let q = h.all (more (tree_of s) read.others) read.ending (read.first read.others read.ending read.remain) in
        first_fault text q.0 read.ending f q.1 (q.2 ∙ one_fails ds (tree_of s) read.others f e)

    all_are : (us : Trees) → definitions_read g [] us ≡ with_values ds (definitions_read g (defined_names ds) none) → definitions_read g [] us ≡ Ok ds
    all_are us e = e ∙ ap (with_values ds) (no_definitions (defined_names ds)) ∙ ap (λ xs. Ok xs) (append-nil ds)

    -- the end
    pub up_to_end : EndsDefinitions r None → IsModelReading g text (Ok ds)
    unfolding read_to_end ◌>>=◌
    up_to_end x =
        let q = h.all none x.ending x.left in
        let ending : IsEnding text (ends x.ending) None = subst (λ (b : List ℕ). IsEnding b (ends x.ending) None) h.whole x.is in
        record {
          definitions = q.0;
          ending = ends x.ending;
          read = q.1;
          is = sym (ap (λ r. r >>= λ xs. unless_fault (ending_fault (length text) (is_long text) (ends x.ending)) xs) (all_are q.0 q.2) ∙ ap (λ o. unless_fault o ds) ending);
        }

    -- the end with a fault
    pub up_to_bad_end : (f : ModelFault) → EndsDefinitions r (Some f) → IsModelReading g text (Err f)
    unfolding read_to_end ◌>>=◌
    up_to_bad_end f x =
        let q = h.all none x.ending x.left in
        let ending : IsEnding text (ends x.ending) (Some f) = subst (λ (b : List ℕ). IsEnding b (ends x.ending) (Some f)) h.whole x.is in
        record {
          definitions = q.0;
          ending = ends x.ending;
          read = q.1;
          is = sym (ap (λ r. r >>= λ xs. unless_fault (ending_fault (length text) (is_long text) (ends x.ending)) xs) (all_are q.0 q.2) ∙ ap (λ o. unless_fault o ds) ending);
        }

  -- nothing was read
  pub up_to_start : (text : List ℕ) (r : Reader) → BeginsAt text r → IsReadUpTo g text r []
  up_to_start text r b = record { whole = b.whole; all = λ ts e remain. (ts, b.all ts e remain, go (definitions_read g [] ts)) }
    where
      go : (x : ReadModel (List DefinedSymbol)) → x ≡ with_values [] x
      go (Ok xs) = refl
      go (Err f) = refl

  -- a text without a list
  pub no_text : (text : List ℕ) (f : ModelFault) → HasNoDefinitions text f → IsModelReading g text (Err f)
  unfolding read_to_end ◌>>=◌
  no_text text f x = record {
    definitions = none;
    ending = x.ending;
    read = x.read;
    is = sym (ap (λ r. r >>= λ ds. unless_fault (ending_fault (length text) (is_long text) x.ending) ds) (no_definitions []) ∙ ap (λ o. unless_fault o []) x.is);
  }

-- what ends the definitions with a fault, or a definition with one, is the first fault of the text
pub rest_ends : (t : TableView) (g : Signature) (text : List ℕ) (r new : Reader) (m : Tables) (e : ReadError) → HasDefinitions t g text r m → ReadsOn r (Err e) new → ReadsRest t g text (Err e) m
rest_ends t g text r new m (errors.Fault f) h x = up_to_bad_end g text r h.definitions h.read (located_view f) x.1
rest_ends t g text r new m errors.Memory h x = tt

pub rest_stops : (t : TableView) (g : Signature) (text : List ℕ) (r new : Reader) (m made : Tables) (s : Sexpr) (e : ReadError) → (h : HasDefinitions t g text r m) → HasRead r s new
    → StopsRead e (definition_read g (defined_names h.definitions) (tree_of s)) → ReadsRest t g text (Err e) made
rest_stops t g text r new m made s (errors.Fault f) h read stop = up_to_fault g text r h.definitions h.read new s (located_view f) read stop
rest_stops t g text r new m made s errors.Memory h read stop = tt

-- a fault with its place
pub placed_reads : (t : TableView) (g : Signature) (text : List ℕ) (fault : LocatedFault) (stop : ModelStop) → IsPlaced text fault stop → IsFirstModelFault g text (located_view fault) → ReadsModel t g text (Err stop)
placed_reads t g text fault (stops.Fault f) p h = (subst (IsFirstModelFault g text) (λ i. model_fault (sym p.1 i) (sym p.0 i)) h, p.2)
placed_reads t g text fault stops.Memory p h = absurd p

-- the stop of a part is that of the whole
pub rest_tables : (t : TableView) (g : Signature) (text : List ℕ) (m : Tables) (e : ReadError) → ReadsRest t g text (Err e) m → ReadsTables t g text (Err e)
rest_tables t g text m (errors.Fault f) h = h
rest_tables t g text m errors.Memory h = tt

pub text_tables : (t : TableView) (g : Signature) (text : List ℕ) (e : ReadError) → BeginsText text (Err e) → ReadsTables t g text (Err e)
text_tables t g text (errors.Fault f) h = no_text g text (located_view f) h
text_tables t g text errors.Memory h = tt
