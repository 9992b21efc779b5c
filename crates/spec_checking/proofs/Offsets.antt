-- The fault of a proof's command is at an offset of its text, and the first fault of commands in theirs.
use Rattle.std.proofs.Common.{◌≡◌, ℕ, Bool, true, false, cond, List, [], ◌∷◌, Option, Some, None, inl, inr, refl, sym, subst}
use Rattle.std.specs.Prelude.{Ok, Err}
use Rattle.spec_text.specs.declared.Fault.TheVariants.{Full}
use Rattle.spec_text.specs.Bytes.{among}
use Rattle.spec_text.specs.Shapes.{Word}
use Rattle.spec_text.specs.Answers.{Answer, ◌>>=◌}
use Rattle.spec_text.specs.Trees.{Tree, Trees, atom, list, none, more}
use Rattle.spec_text.specs.Offsets.{AllOffsets, AllOffsetsOf, HasOffset, own_offsets}
use Rattle.spec_text.proofs.AnswerLaws.{own_offset, IsFaultWithin as TermsWithin, within_in_turn as terms_in_turn, require_within}
use Rattle.spec_text.proofs.ShapeLaws.{Holds}
use Rattle.spec_sorts.specs.Terms.{Truth, Term}
use Rattle.spec_sorts.specs.Signatures.{Signature, with_definitions}
use Rattle.spec_sorts.specs.Subterms.{has_room}
use Rattle.spec_sorts.specs.Literals.{Clause}
use Rattle.spec_reading.specs.Names.{proof}
use Rattle.spec_reading.specs.Reading.{reading_of_sort}
use Rattle.spec_reading.specs.Definitions as definitions
use Rattle.spec_reading.specs.Definitions.{definitions_in}
use Rattle.spec_reading.proofs.Offsets.{of_sort_within, DefinitionWithin, definitions_within}
use Rattle.spec_commands.specs.Stack.{terms_defined}
use Rattle.spec_proofs.specs.declared.Rule.{Rule}
use Rattle.spec_proofs.specs.declared.ProofKind.TheVariants.{TwiceName}
use Rattle.spec_proofs.specs.RuleNames.{rule_named}
use Rattle.spec_proofs.specs.Faults.{Fault, Read, wrong}
use Rattle.spec_checking.specs.Commands.{Known, Statement, assumed, stepped, nothing, Command, Shape, assumes, steps, defines, shape_of}
use Rattle.spec_checking.specs.Reading.{clause_of, entry_names, fresh_name, named_in, named_in_all, in_proof, room, literals_in, roomy_literals, roomy_formula, roomy_definitions, rule_at, clause_at, premise_of, premises_of, read_shape, shaped, command_of}
use Rattle.spec_checking.specs.Judging.{with_command, fault_of, wide_fault, FaultBy, FirstFault}
use Rattle.spec_checking.proofs.Parts.{ShapeWithin, shape_within}

module _ (P : ℕ → Type 0) where
  -- what is read has a property, and a fault an offset with the other
  abbrev Gives : {A : Type 0} → (A → Type 0) → Read A → Type 0
  Gives Q (Ok a) = Q a
  Gives Q (Err f) = P f.offset

  -- and so it is in two steps, where it is in each
  gives_in_turn : {A B : Type 0} (Q : A → Type 0) (R : B → Type 0) (a : Read A) (f : A → Read B) → Gives Q a → ((x : A) → Q x → Gives R (f x)) → Gives R (a >>= f)
  unfolding ◌>>=◌
  gives_in_turn Q R (Ok x) f h g = g x h
  gives_in_turn Q R (Err e) f h g = h

  -- the offset of a fault, where there is one, has the property
  abbrev IsFaultWithin : {A : Type 0} → Read A → Type 0
  IsFaultWithin a = Gives (λ _. Unit {0}) a

  within_in_turn : {A B : Type 0} (R : B → Type 0) (a : Read A) (f : A → Read B) → IsFaultWithin a → ((x : A) → Gives R (f x)) → Gives R (a >>= f)
  within_in_turn R a f h g = gives_in_turn (λ _. Unit {0}) R a f h (λ x _. g x)

  in_proof_within : {A : Type 0} (words : List Word) (a : Answer A) → TermsWithin P a → IsFaultWithin (in_proof words a)
  unfolding in_proof
  in_proof_within words (Ok a) h = tt
  in_proof_within words (Err f) h = h

  name_within : (k : Known) (w : Word) → P w.at → IsFaultWithin (fresh_name k w)
  unfolding fresh_name
  name_within k w h = go (among (entry_names k.entries) w.bytes)
    where
      go : (b : Bool) → IsFaultWithin (cond b (wrong w.at TwiceName) (Ok w.bytes))
      go true = h
      go false = tt

  room_within : (limit : Option ℕ) (at : ℕ) (s : Signature) (ts : List Term) → P at → TermsWithin P (room limit at s ts)
  room_within None at s ts h = tt
  room_within (Some limit) at s ts h = require_within P (has_room limit s ts) at Full h

  rule_within : (at : ℕ) (o : Option Rule) → P at → IsFaultWithin (rule_at at o)
  rule_within at (Some r) h = tt
  rule_within at None h = h

  clause_is_within : (at : ℕ) (o : Option Clause) → P at → IsFaultWithin (clause_at at o)
  clause_is_within at (Some c) h = tt
  clause_is_within at None h = h

  premise_within : (k : Known) (t : Tree) → AllOffsets P t → IsFaultWithin (premise_of k t)
  premise_within k (list at ts end) h = h.0
  premise_within k (atom at kind n) h = clause_is_within at (clause_of k.entries n) h

  premises_are_within : (k : Known) (ts : Trees) → AllOffsetsOf P ts → IsFaultWithin (premises_of k ts)
  unfolding premises_of
  premises_are_within k none h = tt
  premises_are_within k (more t ts) h =
      within_in_turn (λ _. Unit {0}) (premise_of k t) _ (premise_within k t h.0) λ c.
      within_in_turn (λ _. Unit {0}) (premises_of k ts) _ (premises_are_within k ts h.1) λ cs. tt

  -- what is read within a limit
  formula_within : (limit : Option ℕ) (at : ℕ) (s : Signature) (t : Tree) → P at → AllOffsets P t → TermsWithin P (roomy_formula limit at s t)
  unfolding roomy_formula
  formula_within limit at s t here h =
      terms_in_turn P (reading_of_sort proof s [] Truth t) _ (of_sort_within P proof s [] Truth t h) λ r.
      terms_in_turn P (room limit at (with_definitions s r.made) (r.term ∷ [])) _ (room_within limit at (with_definitions s r.made) (r.term ∷ []) here) λ fits. tt

  literals_within : (s : Signature) (ts : Trees) → AllOffsetsOf P ts → TermsWithin P (literals_in s ts)
  unfolding literals_in
  literals_within s none h = tt
  literals_within s (more t ts) h =
      terms_in_turn P (reading_of_sort proof s [] Truth t) _ (of_sort_within P proof s [] Truth t h.0) λ r.
      terms_in_turn P (literals_in (with_definitions s r.made) ts) _ (literals_within (with_definitions s r.made) ts h.1) λ rs. tt

  clause_in_within : (limit : Option ℕ) (at : ℕ) (s : Signature) (ts : Trees) → P at → AllOffsetsOf P ts → TermsWithin P (roomy_literals limit at s ts)
  unfolding roomy_literals
  clause_in_within limit at s ts here h =
      terms_in_turn P (literals_in s ts) _ (literals_within s ts h) λ r.
      terms_in_turn P (room limit at (with_definitions s r.made) r.terms) _ (room_within limit at (with_definitions s r.made) r.terms here) λ fits. tt

  definition_within : (limit : Option ℕ) (at : ℕ) (s : Signature) (d : definitions.Parts) → P at → DefinitionWithin P d → TermsWithin P (roomy_definitions limit at s d)
  unfolding roomy_definitions
  definition_within limit at s d here h =
      terms_in_turn P (definitions_in proof s d) _ (definitions_within P proof s d h) λ ds.
      terms_in_turn P (room limit at (with_definitions s ds) (terms_defined ds)) _ (room_within limit at (with_definitions s ds) (terms_defined ds) here) λ fits. tt

  -- where a command is not right, its fault has the property
  abbrev CommandWithin : Command → Type 0
  CommandWithin c = P (fault_of c.statement).offset

  shaped_within : (at : ℕ) (o : Option Shape) → P at → Holds (ShapeWithin P) o → Gives (ShapeWithin P) (shaped at o)
  shaped_within at (Some s) here h = h
  shaped_within at None here h = here

  read_within : (limit : Option ℕ) (k : Known) (at : ℕ) (s : Shape) → P at → ShapeWithin P s → Gives CommandWithin (read_shape limit k at s)
  unfolding read_shape
  read_within limit k at (assumes w t) here h =
      within_in_turn CommandWithin (fresh_name k w) _ (name_within k w h.0) λ n.
      within_in_turn CommandWithin (in_proof (named_in t) (roomy_formula limit at k.scope t)) _ (in_proof_within (named_in t) (roomy_formula limit at k.scope t) (formula_within limit at k.scope t here h.1)) λ r. own_offset P t h.1
  read_within limit k at (steps p) here h =
      within_in_turn CommandWithin (fresh_name k p.name) _ (name_within k p.name h.0) λ n.
      within_in_turn CommandWithin (in_proof (named_in_all p.literals) (roomy_literals limit at k.scope p.literals)) _ (in_proof_within (named_in_all p.literals) (roomy_literals limit at k.scope p.literals) (clause_in_within limit at k.scope p.literals here h.1)) λ r.
      within_in_turn CommandWithin (rule_at p.rule.at (rule_named p.rule.bytes)) _ (rule_within p.rule.at (rule_named p.rule.bytes) h.2) λ rule.
      within_in_turn CommandWithin (premises_of k p.premises) _ (premises_are_within k p.premises h.3) λ qs. here
  read_within limit k at (defines d) here h =
      let words = d.name ∷ named_in d.body in
      within_in_turn CommandWithin (in_proof words (roomy_definitions limit at k.scope d)) _ (in_proof_within words (roomy_definitions limit at k.scope d) (definition_within limit at k.scope d here h)) λ ds. here

  command_within : (limit : Option ℕ) (k : Known) (t : Tree) → AllOffsets P t → Gives CommandWithin (command_of limit k t)
  unfolding command_of
  command_within limit k (atom at kind n) h = h
  command_within limit k (list at ts end) h =
      gives_in_turn (ShapeWithin P) CommandWithin (shaped at (shape_of ts)) _ (shaped_within at (shape_of ts) h.0 (shape_within P ts h.1)) λ s parts. read_within limit k at s h.0 parts

  -- a step that is wide has its fault where it has that of one that is not right
  wide_offset : (s : Statement) → (wide_fault s).offset ≡ (fault_of s).offset
  wide_offset (assumed at n t) = refl
  wide_offset (stepped s) = refl
  wide_offset (nothing at) = refl

  -- the first fault of commands is at one of their offsets, or it is that of their end
  pub first_within : (limit : Option ℕ) (k : Known) (end : ℕ) (ending : Option Fault) (ts : Trees) (f : Fault) → P end → Holds (λ (e : Fault). P e.offset) ending → AllOffsetsOf P ts → FirstFault limit k end ending ts (Some f) → P f.offset
  unfolding FirstFault
  first_within limit k end (Some e) none f last h all found = let same : Some f ≡ Some e = found in let is : e ≡ f = cc in subst (λ (x : Fault). P x.offset) is h
  first_within limit k end None none f last h all found = subst (λ (x : Fault). P x.offset) (sym found.1) last
  first_within limit k end ending (more t ts) f last h all found = go (command_of limit k t) (command_within limit k t all.0) found (λ next. first_within limit next end ending ts f last h all.1)
    where
      go : (o : Read Command) → Gives CommandWithin o → FaultBy k o (λ next. FirstFault limit next end ending ts (Some f)) (Some f) → ((next : Known) → FirstFault limit next end ending ts (Some f) → P f.offset) → P f.offset
      go (Err e) s found rest = let is : e ≡ f = let same : Some f ≡ Some e = found in cc in subst (λ (x : Fault). P x.offset) is s
      go (Ok c) s (inl right) rest = rest (with_command k c) right.1
      go (Ok c) s (inr (inl x)) rest = let is : wide_fault c.statement ≡ f = let same : Some f ≡ Some (wide_fault c.statement) = x.1 in cc in subst (λ (y : Fault). P y.offset) is (subst P (sym (wide_offset c.statement)) s)
      go (Ok c) s (inr (inr x)) rest = let is : fault_of c.statement ≡ f = let same : Some f ≡ Some (fault_of c.statement) = x.2 in cc in subst (λ (y : Fault). P y.offset) is s

-- the fault of reading a command, and that of one that is not right
pub reading_within : (limit : Option ℕ) (k : Known) (t : Tree) (f : Fault) → command_of limit k t ≡ Err f → HasOffset t f.offset
reading_within limit k t f e = subst (Gives (HasOffset t) (CommandWithin (HasOffset t))) e (command_within (HasOffset t) limit k t (own_offsets t))

pub judging_within : (limit : Option ℕ) (k : Known) (t : Tree) (c : Command) → command_of limit k t ≡ Ok c → HasOffset t (fault_of c.statement).offset
judging_within limit k t c e = subst (Gives (HasOffset t) (CommandWithin (HasOffset t))) e (command_within (HasOffset t) limit k t (own_offsets t))
