-- What the commands of a proof are read as under what is known before them, within a limit on terms and names, or with
-- none. Source: Alethe specification, commands; the order of faults is own.
use Rattle.std.specs.Prelude.{ℕ, Bool, true, false, ◌||◌, List, [], ◌∷◌, ◌++◌, map, Option, Some, None, Ok, Err, ◌==◌}
use Rattle.std.specs.Prelude.{if◌then◌else◌}
use Rattle.std.specs.Str.{bytes_eq}
use Rattle.spec_text.specs.declared.Fault.{Fault as TextFault}
use Rattle.spec_text.specs.declared.Fault.TheVariants.{Twice, Full}
use Rattle.spec_text.specs.Bytes.{Name, among}
use Rattle.spec_text.specs.Faults.{Located}
use Rattle.spec_text.specs.Trees.{Tree, Trees, atom, list, none, more, offset_of}
use Rattle.spec_text.specs.Shapes.{Word}
use Rattle.spec_text.specs.Answers.{Answer, ◌>>=◌, require}
use Rattle.spec_sorts.specs.Terms.{Truth, Term}
use Rattle.spec_sorts.specs.Signatures.{Definition, Signature, with_definitions}
use Rattle.spec_sorts.specs.Subterms.{has_room}
use Rattle.spec_sorts.specs.Literals.{Clause}
use Rattle.spec_reading.specs.Names.{proof}
use Rattle.spec_reading.specs.Reading.{Reading, Readings, reading_of_sort}
use Rattle.spec_reading.specs.Definitions as definitions
use Rattle.spec_reading.specs.Definitions.{definitions_in}
use Rattle.spec_commands.specs.Labels.{names_given}
use Rattle.spec_commands.specs.Stack.{terms_defined}
use Rattle.spec_proofs.specs.declared.Rule.{Rule}
use Rattle.spec_proofs.specs.declared.ProofKind.{ProofKind}
use Rattle.spec_proofs.specs.declared.ProofKind.TheVariants.{BadShape, TwiceName, UnknownPremise, UnknownRule}
use Rattle.spec_proofs.specs.RuleNames.{rule_named}
use Rattle.spec_proofs.specs.Faults.{Fault, Read, fault_at, wrong, term_kind}
use Rattle.spec_checking.specs.Commands.{NamedClause, Known, assumed, stepped, nothing, Command, Shape, assumes, steps}
use Rattle.spec_checking.specs.Commands.{defines, shape_of}

-- the clause of a name
abbrev pub clause_of : List NamedClause → Name → Option Clause
clause_of [] n = None
clause_of (e ∷ es) n = if bytes_eq e.name n then Some e.clause else clause_of es n

-- the names of earlier commands, oldest first
abbrev pub entry_names : List NamedClause → List Name
entry_names es = map (λ (e : NamedClause). e.name) es

-- a name that no earlier command has
unfoldable pub fresh_name : Known → Word → Read Name
fresh_name k w = if among (entry_names k.entries) w.bytes then wrong w.at TwiceName else Ok w.bytes

unfoldable mutual
  -- the names that `:named` gives in a text
  pub named_in : Tree → List Word
  named_in (atom at k n) = []
  named_in (list at ts end) = names_given ts ++ named_in_all ts

  -- in texts
  pub named_in_all : Trees → List Word
  named_in_all none = []
  named_in_all (more t ts) = named_in t ++ named_in_all ts

-- one of the words is at an offset
abbrev pub one_is_at : List Word → ℕ → Bool
one_is_at [] at = false
one_is_at (w ∷ ws) at = w.at == at || one_is_at ws at

-- what a fault of a text is in a proof, by whether it is at a name that is given to a term: that this is known already
-- has a kind of its own
abbrev pub kind_by : Bool → TextFault → ProofKind
kind_by true Twice = TwiceName
kind_by given f = term_kind f

-- the fault of a text in a proof, where words are the names that are given to terms
abbrev pub fault_among : List Word → Located → Fault
fault_among words f = fault_at f.offset (kind_by (one_is_at words f.offset) f.fault)

-- what is read of a text, where words are the names that are given to terms
unfoldable pub in_proof : {A : Type 0} → List Word → Answer A → Read A
in_proof words (Ok a) = Ok a
in_proof words (Err f) = Err (fault_among words f)

-- where there is a limit: room for names and for the different subterms of terms, or the fault at an offset
abbrev pub room : Option ℕ → ℕ → Signature → List Term → Answer (Unit {0})
room None at s ts = Ok tt
room (Some limit) at s ts = require (has_room limit s ts) at Full

-- what literals are read as, one after the other: each has the sort Bool, and what one defines is known in those after
-- it
unfoldable pub literals_in : Signature → Trees → Answer Readings
literals_in s none = Ok (record { made = []; terms = [] })
literals_in s (more t ts) =
    reading_of_sort proof s [] Truth t >>= λ r.
    literals_in (with_definitions s r.made) ts >>= λ rs.
    Ok (record { made = r.made ++ rs.made; terms = r.term ∷ rs.terms })

-- what the literals of a command at an offset are read as, within a limit
unfoldable pub roomy_literals : Option ℕ → ℕ → Signature → Trees → Answer Readings
roomy_literals limit at s ts =
    literals_in s ts >>= λ r.
    room limit at (with_definitions s r.made) r.terms >>= λ fits.
    Ok r

-- what the formula of a command at an offset is read as, within a limit
unfoldable pub roomy_formula : Option ℕ → ℕ → Signature → Tree → Answer Reading
roomy_formula limit at s t =
    reading_of_sort proof s [] Truth t >>= λ r.
    room limit at (with_definitions s r.made) (r.term ∷ []) >>= λ fits.
    Ok r

-- what definitions a definition at an offset makes, within a limit
unfoldable pub roomy_definitions : Option ℕ → ℕ → Signature → definitions.Parts → Answer (List Definition)
roomy_definitions limit at s d =
    definitions_in proof s d >>= λ ds.
    room limit at (with_definitions s ds) (terms_defined ds) >>= λ fits.
    Ok ds

-- the rule of a name
abbrev pub rule_at : ℕ → Option Rule → Read Rule
rule_at at (Some r) = Ok r
rule_at at None = wrong at UnknownRule

-- a clause that is known, by the name of a premise at an offset
abbrev pub clause_at : ℕ → Option Clause → Read Clause
clause_at at (Some c) = Ok c
clause_at at None = wrong at UnknownPremise

-- the clause that a premise names
abbrev pub premise_of : Known → Tree → Read Clause
premise_of k (atom at kind n) = clause_at at (clause_of k.entries n)
premise_of k (list at ts end) = wrong at BadShape

-- the clauses that premises name, in order
unfoldable pub premises_of : Known → Trees → Read (List Clause)
premises_of k none = Ok []
premises_of k (more t ts) = premise_of k t >>= λ c. premises_of k ts >>= λ cs. Ok (c ∷ cs)

-- a command by its shape, which is at an offset, within a limit
unfoldable pub read_shape : Option ℕ → Known → ℕ → Shape → Read Command
read_shape limit k at (assumes h t) = do
  n ← fresh_name k h
  r ← in_proof (named_in t) (roomy_formula limit at k.scope t)
  Ok (record { made = r.made; statement = assumed (offset_of t) n r.term })
read_shape limit k at (steps p) = do
  n ← fresh_name k p.name
  r ← in_proof (named_in_all p.literals) (roomy_literals limit at k.scope p.literals)
  rule ← rule_at p.rule.at (rule_named p.rule.bytes)
  qs ← premises_of k p.premises
  Ok (record {
    made = r.made;
    statement = stepped (record {
      at = at;
      name = n;
      clause = r.terms;
      rule = rule;
      premises = qs;
      arguments = p.arguments;
    });
  })
read_shape limit k at (defines d) = do
  ds ← in_proof (d.name ∷ named_in d.body) (roomy_definitions limit at k.scope d)
  Ok (record { made = ds; statement = nothing at })

-- what has the shape of a command, or the fault at its start
abbrev pub shaped : ℕ → Option Shape → Read Shape
shaped at (Some s) = Ok s
shaped at None = wrong at BadShape

-- the command that a tree is, within a limit on the different subterms of its terms and on the names
unfoldable pub command_of : Option ℕ → Known → Tree → Read Command
command_of limit k (atom at kind n) = wrong at BadShape
command_of limit k (list at ts end) = shaped at (shape_of ts) >>= λ s. read_shape limit k at s
