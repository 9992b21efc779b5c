-- Steps that state the clauses of a term, one scheme after the other.
use Rattle.std.specs.Prelude.{◌≡◌, ◌<◌, true, List, [], ◌∷◌, ◌++◌, length, map, All, flat_map}
use Rattle.std.specs.List.{AllByRecursion}
use Rattle.spec_sorts.specs.Terms.{Truth, Head, Term, Terms, app, sort_of, all_same}
use Rattle.spec_sorts.specs.Subsets.{arguments_of}
use Rattle.spec_sorts.specs.WellSorted.{IsWellSorted, IsFormulaOver}
use Rattle.spec_sorts.specs.Literals.{Clause}
use Rattle.spec_proofs.specs.declared.Rule.{Rule}
use Rattle.spec_proofs.specs.declared.Rest.{Rest}
use Rattle.spec_proofs.specs.declared.Rest.TheVariants.{Nothing, One, Two, AnyOne, Each, Innermost}
use Rattle.spec_rules.specs.Schemes.{signed_term, side_of, Scheme, true_scheme, Kind, states, kind_of, clauses_by}
use Rattle.spec_derivations.specs.Base.{clauses_of}
use Rattle.term_core.specs.declared.nodes.Head.{Head as NodeHead}
use Rattle.term_core.specs.declared.ids.TermId.{TermId}
use Rattle.term_core.specs.Tables.{TableView, declared_in, term_at, IsIn, AreIn, clause_at, head_meant, Extends}
use Rattle.rule_bool.specs.Schemes.{arity, HasPlaces}
use Rattle.proof_log.specs.declared.premises.StepId.{StepId}
use Rattle.proof_log.specs.Logs.{Logged, stated, IsFormulaIn}
use Rattle.term_clauses.specs.Growth.{AreAllMade}

-- The table has more terms, and the same sorts and symbols.
pub record Widens (old new : TableView) : Type 0 where
  -- the terms that were there have their numbers
  pub terms : Extends old new
  -- the sorts and symbols are the same
  pub declared : declared_in new ≡ declared_in old

-- A term of a table that joins formulas: it has no parameters, and its arguments are of sort Bool.
pub record JoinsFormulas (t : TableView) (id : TermId) : Type 0 where
  -- it is there
  pub there : IsIn t id
  -- it is well sorted
  pub sorted : IsWellSorted t.symbols [] (term_at t id)
  -- its arguments are of sort Bool
  pub arguments : all_same Truth (map sort_of (arguments_of (term_at t id))) ≡ true

-- A term whose arguments are formulas, and a formula that comes before them in a clause.
pub record ComesBefore (t : TableView) (id front : TermId) : Type 0 where
  -- the term is there
  pub there : IsIn t id
  -- its arguments are formulas
  pub arguments : All (IsFormulaOver t.symbols) (arguments_of (term_at t id))
  -- what comes before them is one
  pub first : IsFormulaIn t front

-- The numbers are those of these clauses, in their order.
pub record StatesClauses (t : TableView) (log : List Logged) (steps : List StepId) (clauses : List Clause) : Type
    0 where
  -- each is a number of the log
  pub there : All (λ s. s.0 < length log) steps
  -- the clauses
  pub same : map (stated t log) steps ≡ clauses

-- After the numbers that were there come those of all that came into the log, in order and each once.
pub record ListsMade (old new : List Logged) (before after : List StepId) : Type 0 where
  -- the numbers that came
  pub more : List StepId
  -- they come after those that were there
  pub steps : after ≡ before ++ more
  -- nothing else came into the log
  pub all : AreAllMade old new more

-- A table, a log over it, and a list of numbers of the log's clauses.
pub record Listed : Type 0 where
  -- the table
  pub table : TableView
  -- the log
  pub log : List Logged
  -- the numbers
  pub steps : List StepId

-- a table, a log and numbers
abbrev pub listed_steps : TableView → List Logged → List StepId → Listed
listed_steps t log steps = record { table = t; log = log; steps = steps }

-- These clauses came into the log, and their numbers are after those that were there.
pub record Tells (old new : Listed) (clauses : List Clause) : Type 0 where
  -- what the numbers say
  pub says : (stated_before : List Clause) → StatesClauses old.table old.log old.steps stated_before
      → StatesClauses new.table new.log new.steps (stated_before ++ clauses)
  -- nothing came that has no number among them
  pub made : ListsMade old.log new.log old.steps new.steps

-- the number is the table's, and means this term
abbrev pub NamesTerm : TableView → Term → TermId → Type 0
NamesTerm t u id = IsIn t id × (term_at t id ≡ u)

-- the numbers are the table's, and mean this clause
abbrev pub NamesAll : TableView → Clause → List TermId → Type 0
NamesAll t c ids = AreIn t ids × (clause_at t ids ≡ c)

-- what is before the arguments of a term
abbrev pub head_of : Term → Head
head_of (app h ts) = h

-- the scheme of a kind that states one
abbrev pub scheme_in : Kind → Scheme
scheme_in (states s) = s
scheme_in k = true_scheme

-- the scheme that a rule states
abbrev pub scheme_by : Rule → Scheme
scheme_by rule = scheme_in (kind_of rule)

-- the rule states a scheme of that head
abbrev pub IsRuleOf : Head → Rule → Type 0
IsRuleOf h rule = (kind_of rule ≡ states (scheme_by rule)) × ((scheme_by rule).head ≡ h)

-- what comes after a term in the one clause of a scheme
abbrev pub single : Rest → List Term → Clause
single Nothing ts = []
single (One x) ts = side_of ts x ∷ []
single (Two x y) ts = side_of ts x ∷ side_of ts y ∷ []
single (Each p) ts = map (signed_term p) ts
single r ts = []

-- the scheme has one clause, whatever the arguments are
abbrev pub IsSingle : Rest → Type 0
IsSingle (AnyOne p) = ⊥
IsSingle Innermost = ⊥
IsSingle r = Unit {0}

-- a term before each of these
abbrev pub before : Term → List Clause → List Clause
before t rests = map (λ ls. t ∷ ls) rests

-- the clauses of a term by rules, in their order
abbrev pub clauses_in : Term → List Rule → List Clause
clauses_in t list = flat_map (λ rule. clauses_by (scheme_by rule) t) list

-- The rules that state the schemes of a head.
pub record AreRulesOf (head : NodeHead) (list : List Rule) : Type 0 where
  -- each states a scheme of the head
  pub rules : (t : TableView) → AllByRecursion (IsRuleOf (head_meant t head)) list
  -- the head takes the arguments that are named
  pub places : AllByRecursion (λ rule. HasPlaces (arity head) (scheme_by rule).rest) list
  -- the clauses of a term with that head are theirs
  pub whole : (t : TableView) (ts : Terms) → clauses_in (app (head_meant t head) ts) list
      ≡ clauses_of (app (head_meant t head) ts)
