-- Literals of terms by number: resolution of the numbers is that of the terms.
use Rattle.std.proofs.Common.{◌≡◌, ℕ, ◌+◌, ◌<◌, List, [], ◌∷◌, ◌++◌, map, length, get_or, take, All, sym, ap, ◌∙◌, subst, refl}
use Rattle.std.specs.Prelude.{Vec}
use Rattle.std.specs.declared.alloc.Global.{Global}
use Rattle.std.proofs.lemmas.List.{map-append, map_more}
use Rattle.std.proofs.lemmas.List.Elements.{All-contains, All-push}
use Rattle.spec_sorts.specs.Literals.{Clause, Literal, complement, literals_of}
use Rattle.spec_proofs.specs.Resolution.{Resolves}
use Rattle.spec_rules.specs.Clauses.{IsResolvent}
use Rattle.term_core.specs.declared.ids.TermId.{TermId}
use Rattle.term_core.specs.declared.ids.Lit.{Lit}
use Rattle.term_core.specs.Tables.{TableView, IsIn, AreDifferent, literal_at, clause_at}
use Rattle.clause_literals.specs.Literals.{lit_complement, lists, AreLiteralsIn, LiteralsMean}
use Rattle.clause_literals.proofs.TableLiterals.{literals_apart}
use Rattle.rule_bool.specs.Resolvents.{MeansEach}
use Rattle.rule_bool.proofs.Transport.{resolves_there, resolves_back}

module _ (t : TableView) (differ : AreDifferent t.terms) (ps : List (List Lit)) (c : List Lit) (premises : List Clause) (clause : Clause) (each : MeansEach t ps premises) (one : LiteralsMean t c clause) where
  -- resolution of the literals is that of the terms
  pub right_there : Resolves lit_complement ps c → IsResolvent premises clause
  right_there r = subst (λ (qs : List (List Literal)). Resolves complement qs (literals_of clause)) each.same
      (subst (λ (d : List Literal). Resolves complement (map (map (literal_at t)) ps) d) one.same
      (resolves_there lit_complement complement (literal_at t) (λ l. refl) ps c r))

  -- and the other way round
  pub right_back : IsResolvent premises clause → Resolves lit_complement ps c
  right_back r = resolves_back lit_complement complement (literal_at t) (λ l. refl) ps c (λ l. IsIn t l.term) (λ l h. h) (literals_apart t differ)
      (λ d d_in l l_in. All-contains (λ m. IsIn t m.term) d l (All-contains (AreLiteralsIn t) ps d each.there d_in) l_in)
      (λ l l_in. All-contains (λ m. IsIn t m.term) c l one.there l_in)
      (subst (λ (qs : List (List Literal)). Resolves complement qs (map (literal_at t) c)) (sym each.same)
      (subst (λ (d : List Literal). Resolves complement (map literals_of premises) d) (sym one.same) r))

-- a list of clauses with one more
pub means_each_more : (t : TableView) (ps : List (List TermId)) (i : ℕ) (d p : List TermId) (vs new : List (Vec Lit Global)) (v : Vec Lit Global) → i < length ps → p ≡ get_or ps i d
    → new ≡ vs ++ v ∷ [] → LiteralsMean t v.items (clause_at t p) → MeansEach t (lists vs) (map (clause_at t) (take i ps)) → MeansEach t (lists new) (map (clause_at t) (take (i + 1) ps))
means_each_more t ps i d p vs new v lt is n one h =
    let to_items : Vec Lit Global → List Lit = λ w. w.items in
    let more : lists new ≡ lists vs ++ v.items ∷ [] = ap lists n ∙ map-append to_items vs (v ∷ []) in
    let next : map (clause_at t) (take (i + 1) ps) ≡ map (clause_at t) (take i ps) ++ clause_at t p ∷ [] = map_more (clause_at t) ps i d lt ∙ ap (λ (q : List TermId). map (clause_at t) (take i ps) ++ clause_at t q ∷ []) (sym is) in
    record {
      same = ap (map (map (literal_at t))) more ∙ map-append (map (literal_at t)) (lists vs) (v.items ∷ []) ∙ (λ j. h.same j ++ one.same j ∷ [])
          ∙ sym (map-append literals_of (map (clause_at t) (take i ps)) (clause_at t p ∷ [])) ∙ sym (ap (map literals_of) next);
      there = subst (λ (xs : List (List Lit)). All (AreLiteralsIn t) xs) (sym more) (All-push (AreLiteralsIn t) (lists vs) v.items h.there one.there);
    }
