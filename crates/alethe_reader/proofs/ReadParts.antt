-- The parts of commands, as they are read in a proof.
use Rattle.std.proofs.Common.{◌≡◌, List, sym, ap, ◌∙◌, subst}
use Rattle.std.specs.Prelude.{Ok, Err}
use Rattle.spec_text.specs.Shapes.{Word}
use Rattle.spec_text.specs.Answers.{Answer}
use Rattle.spec_sorts.specs.Signatures.{Definition}
use Rattle.spec_reading.specs.Reading.{Reading, Readings}
use Rattle.spec_checking.specs.Commands.{Known}
use Rattle.spec_checking.specs.Reading.{in_proof}
use Rattle.term_core.specs.declared.ids.TermId.{TermId}
use Rattle.term_reader.specs.declared.faults.ReadError.{ReadError}
use Rattle.term_reader.specs.declared.faults.ReadError.TheVariants as reading
use Rattle.sort_check.specs.Reads.{store, StoreGrows, HasTerm, HasTerms, HasDefinitions, HasFault}
use Rattle.alethe_reader.specs.declared.errors.CommandError.{CommandError}
use Rattle.alethe_reader.specs.declared.errors.CommandError.TheVariants as errors
use Rattle.alethe_reader.specs.declared.proof_state.ProofState.{ProofState}
use Rattle.alethe_reader.specs.Holding.{IsKnown}
use Rattle.alethe_reader.specs.Naming.{IsErrorAmong}
use Rattle.alethe_reader.specs.Parts.{StopsRead, HasLiterals, HasFormula, HasMade}
use Rattle.alethe_reader.proofs.Entries.{known_made}

-- a fault of a text is that of the proof
pub stops_among : {A : Type 0} (words : List Word) (a : Answer A) (stop : ReadError) (e : CommandError) → HasFault a stop → IsErrorAmong words stop e → StopsRead e (in_proof words a)
unfolding in_proof
stops_among words a (reading.Fault f) (errors.Fault g) h is = ap (in_proof words) h ∙ ap (λ x. Err x) (sym is)
stops_among words a reading.Memory (errors.Fault g) h is = absurd is
stops_among words a (reading.Fault f) errors.Memory h is = tt
stops_among words a reading.Memory errors.Memory h is = tt

-- and so is what is read
read_among : {A : Type 0} (words : List Word) (a b : Answer A) (x : A) → a ≡ b → a ≡ Ok x → in_proof words b ≡ Ok x
unfolding in_proof
read_among words a b x same e = ap (in_proof words) (sym same ∙ e)

module _ (h new : ProofState) (k : Known) (is : IsKnown h k) (grows : StoreGrows (store h.table h.scope) (store new.table new.scope)) (asserted : new.asserted ≡ h.asserted) (names : new.names ≡ h.names) (clauses : new.clauses ≡ h.clauses) (words : List Word) where
  pub literals_read : (a b : Answer Readings) (ids : List TermId) → a ≡ b → HasTerms k.scope (store new.table new.scope) a ids → HasLiterals k new (in_proof words b) ids
  literals_read a b ids same r = record {
    readings = r.readings;
    read = read_among words a b r.readings same r.read;
    there = r.there;
    terms = r.terms;
    known = known_made h new k r.readings.made is grows.keeps.extends r.represents asserted names clauses;
  }

  pub formula_read : (a b : Answer Reading) (id : TermId) → a ≡ b → HasTerm k.scope (store new.table new.scope) a id → HasFormula k new (in_proof words b) id
  formula_read a b id same r = record {
    reading = r.reading;
    read = read_among words a b r.reading same r.read;
    there = r.term.0;
    term = r.term.1;
    known = known_made h new k r.reading.made is grows.keeps.extends r.represents asserted names clauses;
  }

  pub definition_read : (a b : Answer (List Definition)) → a ≡ b → HasDefinitions k.scope (store new.table new.scope) a → HasMade k new (in_proof words b)
  definition_read a b same r = record {
    definitions = r.definitions;
    read = read_among words a b r.definitions same r.read;
    known = known_made h new k r.definitions is grows.keeps.extends r.represents asserted names clauses;
  }

-- and a fault
pub fault_read : {A : Type 0} (words : List Word) (a b : Answer A) (stop : ReadError) (e : CommandError) → a ≡ b → HasFault a stop → IsErrorAmong words stop e → StopsRead e (in_proof words b)
fault_read words a b stop e same h is = subst (λ x. StopsRead e (in_proof words x)) same (stops_among words a stop e h is)
