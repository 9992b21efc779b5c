-- The names of the rules, in printed proofs and in those that are read. Source: Alethe specification, rules.
use Rattle.std.specs.Prelude.{List, [], ◌∷◌, Option, map, codes}
use Rattle.spec_text.specs.Bytes.{Name}
use Rattle.spec_sorts.specs.Theory.{look_up}
use Rattle.spec_proofs.specs.declared.Rule.{Rule}
use Rattle.spec_proofs.specs.declared.Rule.TheVariants as rules

-- the name of a rule
abbrev pub rule_name : Rule → Name
rule_name rules.Or = codes "or"
rule_name rules.Contraction = codes "contraction"
rule_name rules.Reordering = codes "reordering"
rule_name rules.Weakening = codes "weakening"
rule_name rules.Resolution = codes "resolution"
rule_name rules.ThResolution = codes "th_resolution"
rule_name rules.True = codes "true"
rule_name rules.False = codes "false"
rule_name rules.AndPos = codes "and_pos"
rule_name rules.AndNeg = codes "and_neg"
rule_name rules.OrPos = codes "or_pos"
rule_name rules.OrNeg = codes "or_neg"
rule_name rules.ImpliesPos = codes "implies_pos"
rule_name rules.ImpliesNeg1 = codes "implies_neg1"
rule_name rules.ImpliesNeg2 = codes "implies_neg2"
rule_name rules.EquivPos1 = codes "equiv_pos1"
rule_name rules.EquivPos2 = codes "equiv_pos2"
rule_name rules.EquivNeg1 = codes "equiv_neg1"
rule_name rules.EquivNeg2 = codes "equiv_neg2"
rule_name rules.XorPos1 = codes "xor_pos1"
rule_name rules.XorPos2 = codes "xor_pos2"
rule_name rules.XorNeg1 = codes "xor_neg1"
rule_name rules.XorNeg2 = codes "xor_neg2"
rule_name rules.ItePos1 = codes "ite_pos1"
rule_name rules.ItePos2 = codes "ite_pos2"
rule_name rules.IteNeg1 = codes "ite_neg1"
rule_name rules.IteNeg2 = codes "ite_neg2"
rule_name rules.NotNot = codes "not_not"
rule_name rules.And = codes "and"
rule_name rules.NotAnd = codes "not_and"
rule_name rules.NotOr = codes "not_or"
rule_name rules.Implies = codes "implies"
rule_name rules.NotImplies1 = codes "not_implies1"
rule_name rules.NotImplies2 = codes "not_implies2"
rule_name rules.Equiv1 = codes "equiv1"
rule_name rules.Equiv2 = codes "equiv2"
rule_name rules.NotEquiv1 = codes "not_equiv1"
rule_name rules.NotEquiv2 = codes "not_equiv2"
rule_name rules.Xor1 = codes "xor1"
rule_name rules.Xor2 = codes "xor2"
rule_name rules.NotXor1 = codes "not_xor1"
rule_name rules.NotXor2 = codes "not_xor2"
rule_name rules.Ite1 = codes "ite1"
rule_name rules.Ite2 = codes "ite2"
rule_name rules.NotIte1 = codes "not_ite1"
rule_name rules.NotIte2 = codes "not_ite2"
rule_name rules.EqReflexive = codes "eq_reflexive"
rule_name rules.EqTransitive = codes "eq_transitive"
rule_name rules.EqCongruent = codes "eq_congruent"
rule_name rules.EqCongruentPred = codes "eq_congruent_pred"
rule_name rules.Refl = codes "refl"
rule_name rules.Symm = codes "symm"
rule_name rules.Trans = codes "trans"
rule_name rules.Cong = codes "cong"
rule_name rules.DistinctElim = codes "distinct_elim"
rule_name rules.IteThen = codes "x_ite_then"
rule_name rules.IteElse = codes "x_ite_else"
rule_name rules.LaGeneric = codes "la_generic"
rule_name rules.LaDisequality = codes "la_disequality"
rule_name rules.LaTotality = codes "la_totality"

-- all rules
abbrev pub every_rule : List Rule
every_rule = rules.Or ∷ rules.Contraction ∷ rules.Reordering ∷ rules.Weakening ∷ rules.Resolution ∷ rules.ThResolution
    ∷ rules.True ∷ rules.False ∷ rules.AndPos ∷ rules.AndNeg ∷ rules.OrPos ∷ rules.OrNeg ∷ rules.ImpliesPos
    ∷ rules.ImpliesNeg1 ∷ rules.ImpliesNeg2 ∷ rules.EquivPos1 ∷ rules.EquivPos2 ∷ rules.EquivNeg1 ∷ rules.EquivNeg2
    ∷ rules.XorPos1 ∷ rules.XorPos2 ∷ rules.XorNeg1 ∷ rules.XorNeg2 ∷ rules.ItePos1 ∷ rules.ItePos2 ∷ rules.IteNeg1
    ∷ rules.IteNeg2 ∷ rules.NotNot ∷ rules.And ∷ rules.NotAnd ∷ rules.NotOr ∷ rules.Implies ∷ rules.NotImplies1
    ∷ rules.NotImplies2 ∷ rules.Equiv1 ∷ rules.Equiv2 ∷ rules.NotEquiv1 ∷ rules.NotEquiv2 ∷ rules.Xor1 ∷ rules.Xor2
    ∷ rules.NotXor1 ∷ rules.NotXor2 ∷ rules.Ite1 ∷ rules.Ite2 ∷ rules.NotIte1 ∷ rules.NotIte2 ∷ rules.EqReflexive
    ∷ rules.EqTransitive ∷ rules.EqCongruent ∷ rules.EqCongruentPred ∷ rules.Refl ∷ rules.Symm ∷ rules.Trans
    ∷ rules.Cong ∷ rules.DistinctElim ∷ rules.IteThen ∷ rules.IteElse ∷ rules.LaGeneric ∷ rules.LaDisequality
    ∷ rules.LaTotality ∷ []

-- the rows of a table of names for these rules
abbrev pub named_rows : List Rule → List (Name × Rule)
named_rows rs = map (λ r. (rule_name r, r)) rs

-- the names of the rules
abbrev pub rule_names : List (Name × Rule)
rule_names = named_rows every_rule

-- the rule of a name
abbrev pub rule_named : Name → Option Rule
rule_named n = look_up rule_names n
