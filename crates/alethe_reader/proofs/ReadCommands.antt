-- Commands read part by part.
use Rattle.std.proofs.Common.{◌≡◌, ℕ, List, ◌∷◌, Some, None, refl, sym, ap, ◌∙◌, subst}
use Rattle.std.specs.Prelude.{Result, Ok, Err}
use Rattle.std.specs.Result.{IsErrAnd}
use Rattle.spec_text.specs.declared.Kind.{Kind}
use Rattle.spec_text.specs.Bytes.{Name}
use Rattle.spec_text.specs.Trees.{Tree, Trees, atom, list, offset_of}
use Rattle.spec_text.specs.Shapes.{Word}
use Rattle.spec_text.specs.Answers.{◌>>=◌}
use Rattle.spec_sorts.specs.Literals.{Clause}
use Rattle.spec_sorts.specs.Signatures.{Definition}
use Rattle.spec_reading.specs.Definitions as definitions
use Rattle.spec_reading.specs.Reading.{Reading, Readings}
use Rattle.spec_commands.specs.Checks.{term_limit}
use Rattle.spec_proofs.specs.declared.Rule.{Rule}
use Rattle.spec_proofs.specs.declared.ProofKind.{ProofKind}
use Rattle.spec_proofs.specs.declared.ProofKind.TheVariants.{BadShape}
use Rattle.spec_proofs.specs.RuleNames.{rule_named}
use Rattle.spec_proofs.specs.Faults.{Fault, Read, wrong}
use Rattle.spec_checking.specs.Commands.{Known, Command, assumed, stepped, nothing, Shape, StepParts, assumes, steps, defines, shape_of}
use Rattle.spec_checking.specs.Reading.{fresh_name, named_in, named_in_all, in_proof, roomy_literals, roomy_formula, roomy_definitions, rule_at, premises_of, read_shape, shaped, command_of}
use Rattle.alethe_reader.specs.declared.errors.CommandError.{CommandError}
use Rattle.alethe_reader.specs.declared.errors.CommandError.TheVariants as errors
use Rattle.alethe_reader.specs.declared.proof_state.ProofState.{ProofState}
use Rattle.alethe_reader.specs.declared.reading.ReadCommand.{ReadCommand}
use Rattle.alethe_reader.specs.Reads.{ReadsProofCommand, located_view}
use Rattle.alethe_reader.specs.Parts.{StopsRead}

-- a part that has a fault is the fault of the whole
pub stopped : {A : Type 0} (k : Known) (h : ProofState) (r : Result ReadCommand CommandError) (s : CommandError) (part : Read A) (all : Read Command)
    → IsErrAnd r (λ e. e ≡ s) → StopsRead s part → ((f : Fault) → part ≡ Err f → all ≡ Err f) → ReadsProofCommand k all r h
stopped k h (Ok y) s part all is stops goes = absurd is
stopped k h (Err e) (errors.Fault f) part all is stops goes = subst (λ q. ReadsProofCommand k all (Err q) h) (sym is) (goes (located_view f) stops)
stopped k h (Err e) errors.Memory part all is stops goes = subst (λ q. ReadsProofCommand k all (Err q) h) (sym is) tt

-- and so is a fault of the code's own
pub refused_by : (k : Known) (h : ProofState) (s : CommandError) (at : ℕ) (kind : ProofKind) (all : Read Command) → s ≡ errors.Fault (record { offset = at; kind = kind }) → all ≡ wrong at kind → ReadsProofCommand k all (Err s) h
refused_by k h s at kind all is e = subst (λ q. ReadsProofCommand k all (Err q) h) (sym is) e

goes_on : {A B : Type 0} (r : Read A) (x : A) (f : A → Read B) → r ≡ Ok x → (r >>= f) ≡ f x
unfolding ◌>>=◌
goes_on r x f e = ap (λ q. q >>= f) e

ends : {A B : Type 0} (r : Read A) (e : Fault) (f : A → Read B) → r ≡ Err e → (r >>= f) ≡ Err e
unfolding ◌>>=◌
ends r e f is = ap (λ q. q >>= f) is

module _ (k : Known) (at : ℕ) (p : StepParts) where
  abbrev literals_read : Read Readings
  literals_read = in_proof (named_in_all p.literals) (roomy_literals (Some term_limit) at k.scope p.literals)

  abbrev rule_read : Read Rule
  rule_read = rule_at p.rule.at (rule_named p.rule.bytes)

  -- the command that a step is
  abbrev pub step_of : Name → Readings → Rule → List Clause → Command
  step_of n r rule qs = record { made = r.made; statement = stepped (record { at = at; name = n; clause = r.terms; rule = rule; premises = qs; arguments = p.arguments }) }

  abbrev with_rule : Name → Readings → Rule → Read Command
  with_rule n r rule = premises_of k p.premises >>= λ qs. Ok (step_of n r rule qs)

  abbrev with_literals : Name → Readings → Read Command
  with_literals n r = rule_read >>= λ rule. with_rule n r rule

  abbrev with_name : Name → Read Command
  with_name n = literals_read >>= λ r. with_literals n r

  step_read : read_shape (Some term_limit) k at (steps p) ≡ (fresh_name k p.name >>= λ n. with_name n)
  unfolding read_shape
  step_read = refl

  pub step_no_name : (f : Fault) → fresh_name k p.name ≡ Err f → read_shape (Some term_limit) k at (steps p) ≡ Err f
  step_no_name f e = step_read ∙ ends _ f with_name e

  module _ (n : Name) (named : fresh_name k p.name ≡ Ok n) where
    step_named : read_shape (Some term_limit) k at (steps p) ≡ with_name n
    step_named = step_read ∙ goes_on _ n with_name named

    pub step_no_clause : (f : Fault) → literals_read ≡ Err f → read_shape (Some term_limit) k at (steps p) ≡ Err f
    step_no_clause f e = step_named ∙ ends _ f (with_literals n) e

    module _ (r : Readings) (read : literals_read ≡ Ok r) where
      step_clause : read_shape (Some term_limit) k at (steps p) ≡ with_literals n r
      step_clause = step_named ∙ goes_on _ r (with_literals n) read

      pub step_no_rule : (f : Fault) → rule_read ≡ Err f → read_shape (Some term_limit) k at (steps p) ≡ Err f
      step_no_rule f e = step_clause ∙ ends _ f (with_rule n r) e

      module _ (rule : Rule) (ruled : rule_read ≡ Ok rule) where
        step_ruled : read_shape (Some term_limit) k at (steps p) ≡ with_rule n r rule
        step_ruled = step_clause ∙ goes_on _ rule (with_rule n r) ruled

        pub step_no_premises : (f : Fault) → premises_of k p.premises ≡ Err f → read_shape (Some term_limit) k at (steps p) ≡ Err f
        step_no_premises f e = step_ruled ∙ ends _ f (λ qs. Ok (step_of n r rule qs)) e

        pub step_is : (qs : List Clause) → premises_of k p.premises ≡ Ok qs → read_shape (Some term_limit) k at (steps p) ≡ Ok (step_of n r rule qs)
        step_is qs e = step_ruled ∙ goes_on _ qs (λ ds. Ok (step_of n r rule ds)) e

module _ (k : Known) (at : ℕ) (h : Word) (t : Tree) where
  abbrev formula_read : Read Reading
  formula_read = in_proof (named_in t) (roomy_formula (Some term_limit) at k.scope t)

  -- the command that an assume is
  abbrev pub assume_of : Name → Reading → Command
  assume_of n r = record { made = r.made; statement = assumed (offset_of t) n r.term }

  abbrev after_name : Name → Read Command
  after_name n = formula_read >>= λ r. Ok (assume_of n r)

  assume_read : read_shape (Some term_limit) k at (assumes h t) ≡ (fresh_name k h >>= λ n. after_name n)
  unfolding read_shape
  assume_read = refl

  pub assume_no_name : (f : Fault) → fresh_name k h ≡ Err f → read_shape (Some term_limit) k at (assumes h t) ≡ Err f
  assume_no_name f e = assume_read ∙ ends _ f after_name e

  module _ (n : Name) (named : fresh_name k h ≡ Ok n) where
    assume_named : read_shape (Some term_limit) k at (assumes h t) ≡ after_name n
    assume_named = assume_read ∙ goes_on _ n after_name named

    pub assume_no_term : (f : Fault) → formula_read ≡ Err f → read_shape (Some term_limit) k at (assumes h t) ≡ Err f
    assume_no_term f e = assume_named ∙ ends _ f (λ r. Ok (assume_of n r)) e

    pub assume_is : (r : Reading) → formula_read ≡ Ok r → read_shape (Some term_limit) k at (assumes h t) ≡ Ok (assume_of n r)
    assume_is r e = assume_named ∙ goes_on _ r (λ x. Ok (assume_of n x)) e

module _ (k : Known) (at : ℕ) (d : definitions.Parts) where
  abbrev definition_read : Read (List Definition)
  definition_read = in_proof (d.name ∷ named_in d.body) (roomy_definitions (Some term_limit) at k.scope d)

  -- the command that a definition is
  abbrev pub definition_of : List Definition → Command
  definition_of ds = record { made = ds; statement = nothing at }

  definition_by : read_shape (Some term_limit) k at (defines d) ≡ (definition_read >>= λ ds. Ok (definition_of ds))
  unfolding read_shape
  definition_by = refl

  pub definition_fault : (f : Fault) → definition_read ≡ Err f → read_shape (Some term_limit) k at (defines d) ≡ Err f
  definition_fault f e = definition_by ∙ ends _ f (λ ds. Ok (definition_of ds)) e

  pub definition_is : (ds : List Definition) → definition_read ≡ Ok ds → read_shape (Some term_limit) k at (defines d) ≡ Ok (definition_of ds)
  definition_is ds e = definition_by ∙ goes_on _ ds (λ es. Ok (definition_of es)) e

module _ (k : Known) (t : Tree) (at end : ℕ) (ts : Trees) (is : list at ts end ≡ t) where
  list_read : command_of (Some term_limit) k (list at ts end) ≡ (shaped at (shape_of ts) >>= λ s. read_shape (Some term_limit) k at s)
  unfolding command_of
  list_read = refl

  pub command_shaped : (s : Shape) → Some s ≡ shape_of ts → command_of (Some term_limit) k t ≡ read_shape (Some term_limit) k at s
  command_shaped s e = ap (command_of (Some term_limit) k) (sym is) ∙ list_read ∙ goes_on _ s (read_shape (Some term_limit) k at) (ap (shaped at) (sym e))

  pub command_unshaped : None ≡ shape_of ts → command_of (Some term_limit) k t ≡ wrong at BadShape
  command_unshaped e = ap (command_of (Some term_limit) k) (sym is) ∙ list_read ∙ ends _ _ (read_shape (Some term_limit) k at) (ap (shaped at) (sym e))

-- an atom is no command
pub command_atom : (k : Known) (t : Tree) (at : ℕ) (kind : Kind) (n : List ℕ) → atom at kind n ≡ t → command_of (Some term_limit) k t ≡ wrong at BadShape
unfolding command_of
command_atom k t at kind n is = ap (command_of (Some term_limit) k) (sym is)
