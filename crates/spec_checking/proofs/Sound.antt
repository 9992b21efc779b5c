-- One command after the other: what is made known is true, and the first fault is one.
use Rattle.std.proofs.Common.{◌≡◌, ℕ, Bool, true, false, ◌||◌, List, [], ◌∷◌, Option, Some, None, cond, All, inl, inr, refl, sym, ap, ◌∙◌, subst}
use Rattle.std.specs.Prelude.{Ok, Err}
use Rattle.std.specs.Str.{bytes_eq}
use Rattle.std.proofs.lemmas.Bool.{false≢true}
use Rattle.std.proofs.lemmas.List.Elements.{All-head, All-tail, All-cons, All-nil, All-push, All-contains}
use Rattle.spec_text.specs.declared.Fault.TheVariants.{WrongSort}
use Rattle.spec_text.specs.Bytes.{Name}
use Rattle.spec_text.specs.Answers.{Answer, require}
use Rattle.spec_text.specs.Shapes.{Word}
use Rattle.spec_text.specs.Trees.{Tree, Trees, atom, list, none, more, offset_of}
use Rattle.spec_text.proofs.AnswerLaws.{answer, went, require_true, in_turn}
use Rattle.spec_sorts.specs.Terms.{Truth, Symbol, Term, same_sort, sort_of}
use Rattle.spec_sorts.specs.Values.{Interpretation, Interprets}
use Rattle.spec_sorts.specs.WellSorted.{IsWellSorted, IsFormulaOver}
use Rattle.spec_sorts.specs.Signatures.{Definition, Signature, symbols_in, with_definitions}
use Rattle.spec_sorts.specs.Literals.{Clause}
use Rattle.spec_sorts.proofs.WellSorted.{same_sort_is}
use Rattle.spec_sorts.proofs.Signatures.{symbols_with}
use Rattle.spec_reading.specs.Names.{proof}
use Rattle.spec_reading.specs.Reading.{Reading, Readings, reading, reading_of_sort}
use Rattle.spec_reading.specs.Definitions as definitions
use Rattle.spec_reading.specs.Definitions.{definitions_in}
use Rattle.spec_reading.specs.WellSorted.{AreWellSorted}
use Rattle.spec_reading.proofs.Kept.{with_none, with_two}
use Rattle.spec_reading.proofs.WellSorted.{text_keeps_sorts, definition_keeps_sorts, text_is_sorted}
use Rattle.spec_rules.specs.Clauses.{term_true, clause_true}
use Rattle.spec_rules.specs.Rules.{IsRight, IsWide}
use Rattle.spec_proofs.specs.declared.Rule.{Rule}
use Rattle.spec_proofs.specs.declared.ProofKind.TheVariants.{BadShape, UnknownPremise}
use Rattle.spec_proofs.specs.RuleNames.{rule_named}
use Rattle.spec_proofs.specs.Faults.{Fault, Read, wrong}
use Rattle.spec_checking.specs.Commands.{Known, NamedClause, Statement, assumed, stepped, nothing, Command, Shape, assumes, steps, defines, shape_of}
use Rattle.spec_checking.specs.Reading.{clause_of, fresh_name, named_in, named_in_all, in_proof, room, literals_in, roomy_literals, roomy_formula, roomy_definitions, rule_at, clause_at, premise_of, premises_of, read_shape, shaped, command_of}
use Rattle.spec_checking.specs.Judging.{with_command, IsRightAfter, IsWideStep, fault_of, wide_fault, HasEmptyClause, EndsBy, FaultBy, FirstFault}

-- what is read of a text in a proof is what the text is read as
pub read_ok : {A : Type 0} (words : List Word) (a : Answer A) (x : A) → in_proof words a ≡ Ok x → a ≡ Ok x
unfolding in_proof
read_ok words (Ok y) x e = ap Ok (answer (Ok y) x e)
read_ok words (Err f) x e = absurd (answer (in_proof words (Err f)) x e)

-- what is read within a limit
pub formula_ok : (limit : Option ℕ) (at : ℕ) (s : Signature) (t : Tree) (r : Reading) → roomy_formula limit at s t ≡ Ok r → reading_of_sort proof s [] Truth t ≡ Ok r
unfolding roomy_formula
formula_ok limit at s t r e =
    let a = went (reading_of_sort proof s [] Truth t) _ r e in
    let b = went (room limit at (with_definitions s a.first.made) (a.first.term ∷ [])) _ r a.then in
    a.was ∙ ap Ok (answer (Ok a.first) r b.then)

pub literals_ok : (limit : Option ℕ) (at : ℕ) (s : Signature) (ts : Trees) (r : Readings) → roomy_literals limit at s ts ≡ Ok r → literals_in s ts ≡ Ok r
unfolding roomy_literals
literals_ok limit at s ts r e =
    let a = went (literals_in s ts) _ r e in
    let b = went (room limit at (with_definitions s a.first.made) a.first.terms) _ r a.then in
    a.was ∙ ap Ok (answer (Ok a.first) r b.then)

pub definitions_ok : (limit : Option ℕ) (at : ℕ) (s : Signature) (d : definitions.Parts) (ds : List Definition) → roomy_definitions limit at s d ≡ Ok ds → definitions_in proof s d ≡ Ok ds
unfolding roomy_definitions
definitions_ok limit at s d ds e =
    let a = went (definitions_in proof s d) _ ds e in
    let b = went _ _ ds a.then in
    a.was ∙ ap Ok (answer (Ok a.first) ds b.then)

-- What is read keeps names well sorted, and its terms are formulas.
pub record IsReadWell (s : Signature) (ds : List Definition) (ts : List Term) : Type 0 where
  pub names : AreWellSorted (with_definitions s ds)
  pub formulas : All (IsFormulaOver (symbols_in s)) ts

-- a text of sort Bool is read as a formula
formula_read : (s : Signature) (t : Tree) (r : Reading) → AreWellSorted s → reading_of_sort proof s [] Truth t ≡ Ok r → IsReadWell s r.made (r.term ∷ [])
formula_read s t r h e =
    let a = went (reading proof s [] t) _ r e in
    let b = went (require (same_sort Truth (sort_of a.first.term)) (offset_of t) WrongSort) _ r a.then in
    let sort = require_true (same_sort Truth (sort_of a.first.term)) (offset_of t) WrongSort b.first b.was in
    let found : IsFormulaOver (symbols_in s) a.first.term = record {
      term = text_is_sorted proof s [] t a.first [] h a.was (All-nil (λ (p : Name × Term). IsWellSorted (symbols_in s) [] p.1));
      sort = sym (same_sort_is Truth (sort_of a.first.term) sort);
    } in
    subst (λ (x : Reading). IsReadWell s x.made (x.term ∷ [])) (answer (Ok a.first) r b.then) (record {
      names = text_keeps_sorts proof s [] t a.first h a.was;
      formulas = All-cons (IsFormulaOver (symbols_in s)) a.first.term [] found (All-nil (IsFormulaOver (symbols_in s)));
    })

-- and so are literals
literals_read : (s : Signature) (ts : Trees) (r : Readings) → AreWellSorted s → literals_in s ts ≡ Ok r → IsReadWell s r.made r.terms
unfolding literals_in
literals_read s none r h e = subst (λ (x : Readings). IsReadWell s x.made x.terms) (answer (Ok _) r e) (record { names = with_none AreWellSorted s h; formulas = All-nil (IsFormulaOver (symbols_in s)) })
literals_read s (more t ts) r h e =
    let a = went (reading_of_sort proof s [] Truth t) _ r e in
    let next = with_definitions s a.first.made in
    let b = went (literals_in next ts) _ r a.then in
    let one = formula_read s t a.first h a.was in
    let rest = literals_read next ts b.first one.names b.was in
    let others = subst (λ symbols. All (IsFormulaOver symbols) b.first.terms) (symbols_with s a.first.made) rest.formulas in
    subst (λ (x : Readings). IsReadWell s x.made x.terms) (answer (Ok _) r b.then) (record {
      names = with_two AreWellSorted s a.first.made b.first.made rest.names;
      formulas = All-cons (IsFormulaOver (symbols_in s)) a.first.term b.first.terms (All-head (IsFormulaOver (symbols_in s)) a.first.term [] one.formulas) others;
    })

module _ (i : Interpretation) where
  abbrev IsTrue : Clause → Type 0
  IsTrue c = clause_true i c ≡ true

  abbrev pub EntryTrue : NamedClause → Type 0
  EntryTrue e = clause_true i e.clause ≡ true

  abbrev pub TermTrue : Term → Type 0
  TermTrue t = term_true i t ≡ true

  -- a clause that is found is true, where all of them are
  named_true : (at : ℕ) (es : List NamedClause) (n : Name) (c : Clause) → All EntryTrue es → clause_at at (clause_of es n) ≡ Ok c → IsTrue c
  named_true at [] n c h e = absurd (answer (wrong at UnknownPremise) c e)
  named_true at (x ∷ es) n c h e = go (bytes_eq x.name n) (named_true at es n c (All-tail EntryTrue x es h)) e
    where
      go : (b : Bool) → (clause_at at (clause_of es n) ≡ Ok c → IsTrue c) → clause_at at (cond b (Some x.clause) (clause_of es n)) ≡ Ok c → IsTrue c
      go true rest s = subst IsTrue (answer (Ok x.clause) c s) (All-head EntryTrue x es h)
      go false rest s = rest s

  premise_true : (k : Known) (t : Tree) (c : Clause) → All EntryTrue k.entries → premise_of k t ≡ Ok c → IsTrue c
  premise_true k (list at ts end) c h e = absurd (answer (wrong at BadShape) c e)
  premise_true k (atom at kind n) c h e = named_true at k.entries n c h e

  premises_true : (k : Known) (ts : Trees) (cs : List Clause) → All EntryTrue k.entries → premises_of k ts ≡ Ok cs → All IsTrue cs
  unfolding premises_of
  premises_true k none cs h e = subst (All IsTrue) (answer (Ok []) cs e) (All-nil IsTrue)
  premises_true k (more t ts) cs h e =
      let a = went (premise_of k t) _ cs e in
      let b = went (premises_of k ts) _ cs a.then in
      subst (All IsTrue) (answer (Ok (a.first ∷ b.first)) cs b.then) (All-cons IsTrue a.first b.first (premise_true k t a.first h a.was) (premises_true k ts b.first h b.was))

  -- the premises of a step are true, and the terms of its clause are formulas
  abbrev IsGrounded : Known → Statement → Type 0
  IsGrounded k (stepped s) = All IsTrue s.premises × All (IsFormulaOver (symbols_in k.scope)) s.clause
  IsGrounded k c = Unit {0}

  -- A command that is read keeps names well sorted.
  record IsReadAfter (k : Known) (c : Command) : Type 0 where
    names : AreWellSorted (with_definitions k.scope c.made)
    grounded : IsGrounded k c.statement

  -- and so is each that is read
  abbrev ReadsAfter : Known → Read Command → Type 0
  ReadsAfter k (Ok c) = IsReadAfter k c
  ReadsAfter k (Err f) = Unit {0}

  shape_grounded : (limit : Option ℕ) (k : Known) (at : ℕ) (s : Shape) → AreWellSorted k.scope → All EntryTrue k.entries → ReadsAfter k (read_shape limit k at s)
  unfolding read_shape
  shape_grounded limit k at (assumes h t) names es =
      in_turn (ReadsAfter k) (λ _. tt) (fresh_name k h) _ λ n _.
      in_turn (ReadsAfter k) (λ _. tt) (in_proof (named_in t) (roomy_formula limit at k.scope t)) _ λ r read.
      let well = formula_read k.scope t r names (formula_ok limit at k.scope t r (read_ok (named_in t) (roomy_formula limit at k.scope t) r read)) in
      record { names = well.names; grounded = tt }
  shape_grounded limit k at (steps p) names es =
      in_turn (ReadsAfter k) (λ _. tt) (fresh_name k p.name) _ λ n _.
      in_turn (ReadsAfter k) (λ _. tt) (in_proof (named_in_all p.literals) (roomy_literals limit at k.scope p.literals)) _ λ r read.
      in_turn (ReadsAfter k) (λ _. tt) (rule_at p.rule.at (rule_named p.rule.bytes)) _ λ rule _.
      in_turn (ReadsAfter k) (λ _. tt) (premises_of k p.premises) _ λ qs e.
      let well = literals_read k.scope p.literals r names (literals_ok limit at k.scope p.literals r (read_ok (named_in_all p.literals) (roomy_literals limit at k.scope p.literals) r read)) in
      record { names = well.names; grounded = (premises_true k p.premises qs es e, well.formulas) }
  shape_grounded limit k at (defines d) names es =
      in_turn (ReadsAfter k) (λ _. tt) (in_proof (d.name ∷ named_in d.body) (roomy_definitions limit at k.scope d)) _ λ ds read.
      record {
        names = definition_keeps_sorts proof k.scope d ds names (definitions_ok limit at k.scope d ds (read_ok (d.name ∷ named_in d.body) (roomy_definitions limit at k.scope d) ds read));
        grounded = tt;
      }

  command_grounded : (limit : Option ℕ) (k : Known) (t : Tree) → AreWellSorted k.scope → All EntryTrue k.entries → ReadsAfter k (command_of limit k t)
  unfolding command_of
  command_grounded limit k (atom at kind n) names h = tt
  command_grounded limit k (list at ts end) names h = in_turn (ReadsAfter k) (λ _. tt) (shaped at (shape_of ts)) _ λ s _. shape_grounded limit k at s names h

  -- no clause that is true is empty
  none_empty : (k : Known) → All EntryTrue k.entries → HasEmptyClause k → ⊥
  none_empty k h empty = false≢true (sym (ap (clause_true i) empty.4) ∙ All-contains EntryTrue k.entries empty.1 h (empty.0, empty.2, empty.3))

  -- What is known, where all that is known is true.
  pub record IsTruly (k : Known) : Type 0 where
    -- names are well sorted
    pub names : AreWellSorted k.scope
    -- each symbol has its table
    pub interprets : Interprets i (symbols_in k.scope)
    -- each clause is true
    pub entries : All EntryTrue k.entries
    -- each assertion is true
    pub asserted : All TermTrue k.asserted

  module _ (law : (symbols : List Symbol) (rule : Rule) (premises : List Clause) (arguments : Trees) (clause : Clause) → Interprets i symbols → All (IsFormulaOver symbols) clause → All IsTrue premises → IsRight rule premises arguments clause → IsTrue clause) where
    -- a statement that is right makes known what is true
    right_true : (k : Known) (c : Command) → IsGrounded k c.statement → IsRightAfter k c.statement → IsTruly k → All EntryTrue (with_command k c).entries
    right_true k c ground right all = go c.statement ground right
      where
        go : (s : Statement) → IsGrounded k s → IsRightAfter k s → All EntryTrue (with_command k (record { made = c.made; statement = s })).entries
        go (assumed at n t) ground right =
            let one : clause_true i (t ∷ []) ≡ true = ap (λ b. b || false) (All-contains TermTrue k.asserted t all.asserted right) in
            All-push EntryTrue k.entries (record { name = n; clause = t ∷ [] }) all.entries one
        go (stepped s) ground right =
            All-push EntryTrue k.entries (record { name = s.name; clause = s.clause }) all.entries (law (symbols_in k.scope) s.rule s.premises s.arguments s.clause all.interprets ground.1 ground.0 right)
        go (nothing at) ground right = all.entries

    -- a command that is right keeps it
    truly_kept : (k : Known) (c : Command) → IsReadAfter k c → IsRightAfter k c.statement → IsTruly k → IsTruly (with_command k c)
    truly_kept k c read right all = record {
      names = read.names;
      interprets = subst (Interprets i) (sym (symbols_with k.scope c.made)) all.interprets;
      entries = right_true k c read.grounded right all;
      asserted = all.asserted;
    }

    -- where all assertions and clauses are true, no proof from there is without a fault
    pub sound : (limit : Option ℕ) (k : Known) (end : ℕ) (ts : Trees) → IsTruly k → FirstFault limit k end None ts None → ⊥
    unfolding FirstFault
    sound limit k end none all h = none_empty k all.entries h
    sound limit k end (more t ts) all h = go (command_of limit k t) (command_grounded limit k t all.names all.entries) h (λ next. sound limit next end ts)
      where
        go : (o : Read Command) → ReadsAfter k o → FaultBy k o (λ next. FirstFault limit next end None ts None) None → ((next : Known) → IsTruly next → FirstFault limit next end None ts None → ⊥) → ⊥
        go (Err f) read h rec = let none : None ≡ Some f = h in cc
        go (Ok c) read (inl right) rec = rec (with_command k c) (truly_kept k c read right.0 all) right.1
        go (Ok c) read (inr (inl x)) rec = let none : None ≡ Some (wide_fault c.statement) = x.1 in cc
        go (Ok c) read (inr (inr x)) rec = let none : None ≡ Some (fault_of c.statement) = x.2 in cc

ends_one : (k : Known) (end : ℕ) (ending a b : Option Fault) → EndsBy k end ending a → EndsBy k end ending b → a ≡ b
ends_one k end (Some f) a b x y = x ∙ sym y
ends_one k end None None None x y = refl
ends_one k end None None (Some g) x y = absurd (y.0 x)
ends_one k end None (Some f) None x y = absurd (x.0 y)
ends_one k end None (Some f) (Some g) x y = ap Some (x.1 ∙ sym y.1)

module _ (law : (rule : Rule) (premises : List Clause) (arguments : Trees) (clause : Clause) → IsWide rule premises arguments clause → IsRight rule premises arguments clause → ⊥) where
  -- no statement is right and wide
  right_or_wide : (k : Known) (s : Statement) → IsRightAfter k s → IsWideStep s → ⊥
  right_or_wide k (assumed at n t) right wide = wide
  right_or_wide k (stepped s) right wide = law s.rule s.premises s.arguments s.clause wide right
  right_or_wide k (nothing at) right wide = wide

  -- commands have at most one first fault
  pub fault_one : (limit : Option ℕ) (k : Known) (end : ℕ) (ending : Option Fault) (ts : Trees) (a b : Option Fault) → FirstFault limit k end ending ts a → FirstFault limit k end ending ts b → a ≡ b
  unfolding FirstFault
  fault_one limit k end ending none a b x y = ends_one k end ending a b x y
  fault_one limit k end ending (more t ts) a b x y = go (command_of limit k t) x y (λ next. fault_one limit next end ending ts a b)
    where
      go : (o : Read Command) → FaultBy k o (λ next. FirstFault limit next end ending ts a) a → FaultBy k o (λ next. FirstFault limit next end ending ts b) b → ((next : Known) → FirstFault limit next end ending ts a → FirstFault limit next end ending ts b → a ≡ b) → a ≡ b
      go (Err f) x y rec = x ∙ sym y
      go (Ok c) (inl p) (inl q) rec = rec (with_command k c) p.1 q.1
      go (Ok c) (inl p) (inr (inl q)) rec = absurd (right_or_wide k c.statement p.0 q.0)
      go (Ok c) (inl p) (inr (inr q)) rec = absurd (q.0 p.0)
      go (Ok c) (inr (inl p)) (inl q) rec = absurd (right_or_wide k c.statement q.0 p.0)
      go (Ok c) (inr (inl p)) (inr (inl q)) rec = p.1 ∙ sym q.1
      go (Ok c) (inr (inl p)) (inr (inr q)) rec = absurd (q.1 p.0)
      go (Ok c) (inr (inr p)) (inl q) rec = absurd (p.0 q.0)
      go (Ok c) (inr (inr p)) (inr (inl q)) rec = absurd (p.1 q.0)
      go (Ok c) (inr (inr p)) (inr (inr q)) rec = p.2 ∙ sym q.2
