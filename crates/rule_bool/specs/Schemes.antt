-- What a term gives by a scheme, over numbers of the table.
use Rattle.std.specs.Prelude.{◌≡◌, ◌<◌, ℕ, Bool, true, List, map, Contains, Result, MatchResult}
use Rattle.spec_text.specs.Trees.{Trees}
use Rattle.spec_sorts.specs.Terms.{Head, Term}
use Rattle.spec_sorts.specs.Subsets.{arguments_of}
use Rattle.spec_sorts.specs.Literals.{Clause}
use Rattle.spec_equality.specs.declared.EqualityRule.{EqualityRule}
use Rattle.spec_proofs.specs.declared.Rule.{Rule}
use Rattle.spec_proofs.specs.declared.Rest.{Rest}
use Rattle.spec_proofs.specs.declared.Rest.TheVariants.{One, Two}
use Rattle.spec_rules.specs.Schemes.{Scheme, Kind, states, turns, equates, rests_of, is_formula_of, kind_of}
use Rattle.spec_rules.specs.Rules.{IsRight, IsWide}
use Rattle.term_core.specs.declared.ids.TermId.{TermId}
use Rattle.term_core.specs.declared.nodes.Head.{Head as NodeHead}
use Rattle.term_core.specs.declared.nodes.Head.TheVariants as heads
use Rattle.term_core.specs.Tables.{TableView, clause_at, head_meant}
use Rattle.term_core.specs.declared.rule_fails.RuleFails.{RuleFails}
use Rattle.rule_bool.specs.declared.rule_stop.RuleStop.{RuleStop}
use Rattle.rule_bool.specs.declared.scheme_table.Scheme.{Scheme as CodeScheme}
use Rattle.rule_bool.specs.Resolvents.{StopsRule}

-- the scheme that the code's words mean in a table
abbrev pub scheme_meant : TableView → NodeHead → Bool → Rest → Scheme
scheme_meant table head positive rest = record { head = head_meant table head; positive = positive; rest = rest }

-- the scheme that the code's means in a table
abbrev pub scheme_seen : TableView → CodeScheme → Scheme
scheme_seen table s = scheme_meant table s.head s.positive s.rest

-- the least number of arguments that a head takes
abbrev pub arity : NodeHead → ℕ
arity heads.Not = 1
arity heads.Xor = 2
arity heads.Implies = 2
arity heads.Equal = 2
arity heads.Ite = 3
arity h = 0

-- the literals are of so many arguments
abbrev pub HasPlaces : ℕ → Rest → Type 0
HasPlaces n (One x) = x.place < n
HasPlaces n (Two x y) = (x.place < n) × (y.place < n)
HasPlaces n r = Unit {0}

-- the head is one of theory Core, and takes the arguments that are meant
abbrev pub IsStating : NodeHead → Rest → Type 0
IsStating heads.True r = HasPlaces (arity heads.True) r
IsStating heads.False r = HasPlaces (arity heads.False) r
IsStating heads.Not r = HasPlaces (arity heads.Not) r
IsStating heads.And r = HasPlaces (arity heads.And) r
IsStating heads.Or r = HasPlaces (arity heads.Or) r
IsStating heads.Xor r = HasPlaces (arity heads.Xor) r
IsStating heads.Implies r = HasPlaces (arity heads.Implies) r
IsStating heads.Equal r = HasPlaces (arity heads.Equal) r
IsStating heads.Ite r = HasPlaces (arity heads.Ite) r
IsStating h r = ⊥

-- the same, and the head is not that of negations
abbrev pub IsTurning : NodeHead → Rest → Type 0
IsTurning heads.Not r = ⊥
IsTurning h r = IsStating h r

-- The term has the head, and these literals may come after it.
pub record GivesRest (head : Head) (rest : Rest) (t : Term) (behind : Clause) : Type 0 where
  -- the head is the term's, over arguments of sort Bool
  pub formula : is_formula_of head t ≡ true
  -- the literals are as its arguments say
  pub by_arguments : Contains (rests_of rest (arguments_of t)) behind

-- the terms of numbers may be after a term of these arguments
abbrev pub HasRest : TableView → Rest → List TermId → List TermId → Type 0
HasRest table rest arguments ids = Contains (rests_of rest (clause_at table arguments)) (clause_at table ids)

-- a result is a success exactly where the statement is so
abbrev pub IsExact : Type 0 → Result (Unit {0}) RuleFails → Type 0
IsExact P result = MatchResult result (λ _. P) (λ _. P → ⊥)

-- a step of the rule, by the table's numbers, is right
abbrev pub IsRightIn : TableView → Rule → List (List TermId) → Trees → List TermId → Type 0
IsRightIn table rule premises arguments clause =
    IsRight rule (map (clause_at table) premises) arguments (clause_at table clause)

-- whether it is cannot be told within the bound on numbers
abbrev pub IsWideIn : TableView → Rule → List (List TermId) → Trees → List TermId → Type 0
IsWideIn table rule premises arguments clause =
    IsWide rule (map (clause_at table) premises) arguments (clause_at table clause)

-- a success exactly where the step is right, whatever its arguments are
abbrev pub JudgesRule : TableView → Rule → List (List TermId) → List TermId → Result (Unit {0}) RuleFails → Type 0
JudgesRule table rule premises clause result = (arguments : Trees)
    → IsExact (IsRightIn table rule premises arguments clause) result

-- a success only where the step is right; it fails where it is not, and is wide where this cannot be told
abbrev pub JudgesOrStops : TableView → Rule → List (List TermId) → Trees → List TermId → Result (Unit {0}) RuleStop
    → Type 0
JudgesOrStops table rule premises arguments clause result =
    MatchResult result (λ _. IsRightIn table rule premises arguments clause)
    (λ stop. StopsRule stop (IsRightIn table rule premises arguments clause)
    (IsWideIn table rule premises arguments clause))

-- the rules of that kind state no scheme's clauses
abbrev pub states_nothing : Kind → Type 0
states_nothing (states s) = ⊥
states_nothing k = Unit {0}

-- the rules of that kind turn no scheme's terms
abbrev pub turns_nothing : Kind → Type 0
turns_nothing (turns s) = ⊥
turns_nothing k = Unit {0}

-- the rules of that kind are none of equality
abbrev pub equates_nothing : Kind → Type 0
equates_nothing (equates e) = ⊥
equates_nothing k = Unit {0}

-- the rules of that kind have a scheme
abbrev pub has_scheme : Kind → Type 0
has_scheme (states s) = Unit {0}
has_scheme (turns s) = Unit {0}
has_scheme k = ⊥

-- the rule states no scheme's clauses
abbrev pub StatesNothing : Rule → Type 0
StatesNothing rule = states_nothing (kind_of rule)

-- the rule turns no scheme's terms
abbrev pub TurnsNothing : Rule → Type 0
TurnsNothing rule = turns_nothing (kind_of rule)

-- the rule is none of equality
abbrev pub EquatesNothing : Rule → Type 0
EquatesNothing rule = equates_nothing (kind_of rule)

-- the rule is that one of equality
abbrev pub Equates : Rule → EqualityRule → Type 0
Equates rule e = kind_of rule ≡ equates e

-- the rule has a scheme
abbrev pub HasScheme : Rule → Type 0
HasScheme rule = has_scheme (kind_of rule)

-- The rule states the clauses of the scheme.
pub record StatesScheme (rule : Rule) (s : CodeScheme) : Type 0 where
  -- the definitions say so, whatever table there is
  pub same : (table : TableView) → kind_of rule ≡ states (scheme_seen table s)
  -- the head takes the arguments that are meant
  pub form : IsStating s.head s.rest

-- The rule turns the terms of the scheme.
pub record Turns (rule : Rule) (s : CodeScheme) : Type 0 where
  -- the definitions say so, whatever table there is
  pub same : (table : TableView) → kind_of rule ≡ turns (scheme_seen table s)
  -- the head takes the arguments that are meant, and is not that of negations
  pub form : IsTurning s.head s.rest
