-- Resolution depends on what the premises contain, and on nothing else of them.
use Rattle.std.proofs.Common.{List, map, Contains}
use Rattle.std.specs.Prelude.{◌↔◌, Result, Ok, Err}
use Rattle.spec_proofs.specs.Resolution.{Derives, given, unit, Conflicts, false_clause, both_ways, IsWithin}
use Rattle.spec_rules.specs.Clauses.{IsResolvent}
use Rattle.spec_sorts.specs.Literals.{Clause, complement, literals_of}
use Rattle.spec_proofs.proofs.Chains.{mapped_within}
use Rattle.rule_bool.specs.declared.rule_stop.RuleStop.{RuleStop}
use Rattle.rule_bool.specs.declared.rule_stop.RuleStop.TheVariants as stops
use Rattle.rule_bool.specs.Resolvents.{StopsRule}
use Rattle.alethe_check.specs.Stating.{JudgesResolvent}

module _ {L : Type 0} (other : L → L) (ps qs : List (List L)) (within : IsWithin ps qs) (assumed : List L) where
  derives_within : (l : L) → Derives other ps assumed l → Derives other qs assumed l
  derives_within _ (given l i) = given l i
  derives_within _ (unit c l c_in l_in others) = unit c l (within c c_in) l_in λ m m_in differs. derives_within (other m) (others m m_in differs)

  pub conflicts_within : Conflicts other ps assumed → Conflicts other qs assumed
  conflicts_within (both_ways l one two) = both_ways l (derives_within l one) (derives_within (other l) two)
  conflicts_within (false_clause c c_in all) = false_clause c (within c c_in) λ m m_in. derives_within (other m) (all m m_in)

-- a clause that follows from the ones follows from the others too
resolvent_within : (ps qs : List Clause) (c : Clause) → IsWithin ps qs → IsResolvent ps c → IsResolvent qs c
resolvent_within ps qs c within r = conflicts_within complement (map literals_of ps) (map literals_of qs) (mapped_within literals_of ps qs within) (map complement (literals_of c)) r

-- of clauses with the same members, the same follows
resolvent_same : (ps qs : List Clause) (c : Clause) → ((d : Clause) → Contains ps d ↔ Contains qs d) → IsResolvent ps c → IsResolvent qs c
resolvent_same ps qs c same r = resolvent_within ps qs c (λ d. (same d).0) r

resolvent_back : (ps qs : List Clause) (c : Clause) → ((d : Clause) → Contains ps d ↔ Contains qs d) → IsResolvent qs c → IsResolvent ps c
resolvent_back ps qs c same r = resolvent_within qs ps c (λ d. (same d).1) r

-- what a stop says of a step from the ones, it says of a step from the others
pub stops_same : (P Q : Type 0) (stop : RuleStop) → (P ↔ Q) → StopsRule stop P ⊥ → StopsRule stop Q ⊥
stops_same P Q stops.Fails same s = (λ q. s.0 (same.1 q), s.1)
stops_same P Q stops.Wide same s = s
stops_same P Q stops.Memory same s = s

pub resolvent_judged : (ps qs : List Clause) (c : Clause) (result : Result (Unit {0}) RuleStop) → ((d : Clause) → Contains ps d ↔ Contains qs d) → JudgesResolvent ps c result → JudgesResolvent qs c result
resolvent_judged ps qs c (Ok u) same r = resolvent_same ps qs c same r
resolvent_judged ps qs c (Err stop) same s = stops_same (IsResolvent ps c) (IsResolvent qs c) stop (resolvent_same ps qs c same, resolvent_back ps qs c same) s
