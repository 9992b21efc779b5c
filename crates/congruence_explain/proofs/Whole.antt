-- Whether a chain gives a whole clause: where each literal of it is needed, where one is not, and where there is no chain.
use Rattle.std.proofs.Common.{◌≡◌, Bool, true, false, List, map, All, Contains, sym, ap, ◌∙◌, subst}
use Rattle.std.specs.Prelude.{MatchBool}
use Rattle.std.proofs.lemmas.List.Elements.{All-contains, All-map}
use Rattle.spec_text.proofs.Members.{to_image, from_image}
use Rattle.spec_sorts.specs.Literals.{Literal, literals_of, complement}
use Rattle.spec_derivations.specs.ExactChains.{HasSame, IsExactResolvent}
use Rattle.spec_derivations.proofs.Exact.{same_chain}
use Rattle.term_core.specs.declared.ids.TermId.{TermId}
use Rattle.term_core.specs.declared.ids.Lit.{Lit}
use Rattle.term_core.specs.Tables.{TableView, IsIn, AreDifferent, literal_at, clause_at}
use Rattle.clause_literals.specs.Literals.{lit_complement, LiteralsMean}
use Rattle.clause_literals.proofs.LiteralLists.{negation_twice}
use Rattle.clause_literals.proofs.TableLiterals.{literals_apart}
use Rattle.rule_bool.specs.Resolvents.{MeansEach}
use Rattle.proof_log.specs.declared.premises.StepId.{StepId}
use Rattle.proof_log.specs.Logs.{Logged, clauses_in}
use Rattle.congruence_explain.specs.Needing.{HasFalsePremise, IsRefuted, standing}
use Rattle.congruence_explain.specs.Choosing.{premises_of, ComesFrom, GivesFewer}
use Rattle.congruence_explain.proofs.Backward.{in_standing, from_standing}
use Rattle.congruence_explain.proofs.Imaged.{resolvent_image}
use Rattle.congruence_explain.proofs.Chosen.{complements_mean}

-- literals that stand are those of the clause that are needed
module _ (literals needed : List Lit) where
  abbrev left : List Lit
  left = standing (map lit_complement literals) needed

  back : (l : Lit) → Contains left l → Contains literals l
  back l i =
      let w = from_image lit_complement literals (lit_complement l) (from_standing (map lit_complement literals) needed l i).1 in
      subst (Contains literals) (sym (negation_twice w.0) ∙ ap lit_complement w.2 ∙ negation_twice l) w.1

  -- so their terms are of the clause too
  back_meant : (u : TableView) (m : Literal) → Contains (map (literal_at u) left) m → Contains (map (literal_at u) literals) m
  back_meant u m i = let w = from_image (literal_at u) left m i in subst (Contains (map (literal_at u) literals)) w.2 (to_image (literal_at u) literals w.0 (back w.0 w.1))

  -- and all of the clause, where each is needed
  there : All (λ (l : Lit). Contains needed l) literals → (l : Lit) → Contains literals l → Contains left l
  there all l i = in_standing (map lit_complement literals) needed l (All-contains (λ (m : Lit). Contains needed m) literals l all i) (to_image lit_complement literals l i)

  stand_all : (u : TableView) → All (λ (l : Lit). Contains needed l) literals → HasSame (map (literal_at u) left) (map (literal_at u) literals)
  stand_all u all m = (
    back_meant u m,
    λ i. let w = from_image (literal_at u) literals m i in subst (Contains (map (literal_at u) left)) w.2 (to_image (literal_at u) left w.0 (there all w.0 w.1)),
  )

module _ (u : TableView) (log : List Logged) (steps : List StepId) (clause : List TermId) (literals : List Lit) (one : LiteralsMean u literals (clause_at u clause)) (premises : List (List Lit))
    (each : MeansEach u premises (map (clause_at u) (clauses_in log steps))) where
  -- where propagation over numbers refutes no premise, none over terms does
  pub not_refuted : (IsRefuted u premises (map lit_complement literals) → ⊥) → HasFalsePremise (premises_of u log steps) (map complement (literals_of (clause_at u clause))) → ⊥
  not_refuted none h =
      let assumed : map (literal_at u) (map lit_complement literals) ≡ map complement (literals_of (clause_at u clause)) = complements_mean u literals ∙ ap (map complement) one.same in
      none (record {
        premises_in = each.there;
        start_in = All-map (λ (m : Lit). IsIn u m.term) lit_complement literals one.there;
        refuted = subst (λ (ls : List Literal). HasFalsePremise (map (map (literal_at u)) premises) ls) (sym assumed)
            (subst (λ (ps : List (List Literal)). HasFalsePremise ps (map complement (literals_of (clause_at u clause)))) (sym each.same) h);
      })

  module _ (differ : AreDifferent u.terms) (needed : List Lit) (comes : IsExactResolvent lit_complement (Contains premises) (standing (map lit_complement literals) needed)) where
    -- a chain over the steps gives what stands
    meant : IsExactResolvent complement (Contains (premises_of u log steps)) (map (literal_at u) (left literals needed))
    meant = subst (λ (ps : List (List Literal)). IsExactResolvent complement (Contains ps) (map (literal_at u) (left literals needed))) each.same (resolvent_image u differ premises each.there (left literals needed) comes)

    -- so it gives the clause, where each literal is needed
    pub comes_whole : All (λ (l : Lit). Contains needed l) literals → ComesFrom u log steps clause
    comes_whole all = (
      meant.0,
      same_chain complement (Contains (premises_of u log steps)) meant.0 (map (literal_at u) (left literals needed)) (literals_of (clause_at u clause)) meant.1
          (subst (λ (ls : List Literal). HasSame (map (literal_at u) (left literals needed)) ls) one.same (stand_all literals needed u all)),
    )

    -- and fewer literals, where one is not
    pub gives_fewer : (l : Lit) × Contains literals l × (Contains needed l → ⊥) → GivesFewer (premises_of u log steps) (literals_of (clause_at u clause))
    gives_fewer (l, l_in, free) = record {
      given = map (literal_at u) (left literals needed);
      comes = meant;
      within = λ m i. subst (λ (ls : List Literal). Contains ls m) one.same (back_meant literals needed u m i);
      unneeded = literal_at u l;
      there = subst (λ (ls : List Literal). Contains ls (literal_at u l)) one.same (to_image (literal_at u) literals l l_in);
      missing = λ i.
          let w = from_image (literal_at u) (left literals needed) (literal_at u l) i in
          let in_table : (m : Lit) → Contains literals m → IsIn u m.term = λ m j. All-contains (λ (k : Lit). IsIn u k.term) literals m one.there j in
          let same : w.0 ≡ l = literals_apart u differ w.0 l (in_table w.0 (back literals needed w.0 w.1)) (in_table l l_in) w.2 in
          free (subst (Contains needed) same (from_standing (map lit_complement literals) needed w.0 w.1).0);
    }

-- whatever a test tells, more follows
pub told_more : (b : Bool) (P Q R S : Type 0) → (P → R) → (Q → S) → MatchBool b P Q → MatchBool b R S
told_more true P Q R S f g h = f h
told_more false P Q R S f g h = g h
