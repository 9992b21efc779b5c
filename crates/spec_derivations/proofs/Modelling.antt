-- Truths that meet the base clauses of terms give subterms the values of their heads.
use Rattle.std.proofs.Common.{◌≡◌, true, [], ◌∷◌, map, Contains}
use Rattle.std.specs.Prelude.{flat_map}
use Rattle.std.specs.List.{list_any}
use Rattle.std.proofs.lemmas.List.Elements.{All-contains, Contains-append_right}
use Rattle.spec_text.proofs.Members.{in_flat}
use Rattle.spec_sorts.specs.Terms.{Term}
use Rattle.spec_sorts.specs.Literals.{Clause}
use Rattle.spec_rules.specs.Truths.{Truths, term_true_by}
use Rattle.spec_derivations.specs.Problems.{Problem, subterms_in}
use Rattle.spec_derivations.specs.Base.{clauses_of, base_clauses}
use Rattle.spec_derivations.specs.Models.{SatisfiesClauses, joins_formulas, Obeys}
use Rattle.spec_derivations.proofs.Obeying.{IsMet, obeyed}

module _ (p : Problem) (v : Truths) (meets : SatisfiesClauses v (base_clauses p)) where
  -- a base clause is met
  base_met : (c : Clause) → Contains (base_clauses p) c → list_any (term_true_by v) c ≡ true
  base_met c c_in = All-contains (λ x. list_any (term_true_by v) x ≡ true) (base_clauses p) c meets c_in

  -- so are those of a subterm
  subterm_met : (t : Term) → Contains (subterms_in p) t → IsMet v t
  subterm_met t t_in c c_in = base_met c (Contains-append_right (map (λ x. x ∷ []) p.asserted) (flat_map clauses_of (subterms_in p)) c (in_flat clauses_of (subterms_in p) t c t_in c_in))

  -- a subterm that joins formulas has the value of its head
  pub subterm_obeys : (t : Term) → Contains (subterms_in p) t → joins_formulas t ≡ true → Obeys v t
  subterm_obeys t t_in joins = obeyed v t joins (subterm_met t t_in)
