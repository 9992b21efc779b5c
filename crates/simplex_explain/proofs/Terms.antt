-- Terms that are put.
use Rattle.std.proofs.Common.{◌≡◌, ℕ, ◌+◌, ◌<◌, Bool, true, false, List, [], ◌∷◌, ◌++◌, length, map, take, get_or, sym, ap, ◌∙◌, subst}
use Rattle.std.specs.Prelude.{All, Result, Ok, Err, IfOk}
use Rattle.std.proofs.lemmas.List.{map-append, map_more}
use Rattle.std.proofs.lemmas.List.Elements.{All-push}
use Rattle.spec_sorts.specs.Terms.{negated}
use Rattle.spec_simplex.specs.Weights.{denial}
use Rattle.no_memory.specs.declared.NoMemory.{NoMemory}
use Rattle.term_core.specs.declared.ids.TermId.{TermId}
use Rattle.term_core.specs.declared.ids.Lit.{Lit}
use Rattle.term_core.specs.declared.nodes.Node.{Node}
use Rattle.term_core.specs.declared.nodes.Head.TheVariants as heads
use Rattle.term_core.specs.Tables.{TableView, term_at, IsIn, clause_at, literal_at, node_term, shape_term}
use Rattle.term_core.proofs.TermsExtend.{literal_at-kept, clause_at-kept}
use Rattle.proof_log.specs.Logs.{IsFormulaIn, AreFormulasIn}
use Rattle.term_clauses.specs.Stating.{Widens}
use Rattle.term_clauses.proofs.Parts.{formula_kept, signed_in}
use Rattle.simplex_explain.specs.declared.weighted.Weighted.{Weighted}
use Rattle.simplex_explain.specs.Reasons.{IsDenialPut, literals_meant, denials_meant}

-- a negation is put
pub negation_put : (t u : TableView) → Widens t u → (l : Lit) (node : Node) → node.head ≡ heads.Not → node.arguments.items ≡ l.term ∷ [] → IsFormulaIn t l.term → l.positive ≡ true
    → (r : Result TermId NoMemory) → IfOk r (λ n. IsIn u n × (term_at u n ≡ node_term t node)) → IfOk r (IsDenialPut u (denial (literal_at t l)))
negation_put t u wider l node head arguments formula positive (Ok n) put =
    let shape : node_term t node ≡ negated (term_at t l.term) = λ i. shape_term t (record { head = head i; arguments = arguments i }) in
    let is = put.1 ∙ shape in
    let same : denial (literal_at t l) ≡ negated (term_at t l.term) = ap (λ (p : Bool). denial (record { atom = term_at t l.term; positive = p })) positive in
    (signed_in t u wider false l.term n formula put.0 is, is ∙ sym same)
negation_put t u wider l node head arguments formula positive (Err e) put = tt

-- the term of a negative literal denies it
pub negative_put : (t : TableView) (l : Lit) → IsFormulaIn t l.term → l.positive ≡ false → IsDenialPut t (denial (literal_at t l)) l.term
negative_put t l formula negative = (formula, sym (ap (λ (p : Bool). denial (record { atom = term_at t l.term; positive = p })) negative))

-- one denial more
denials_more : (t : TableView) (rs : List Weighted) (i : ℕ) (d : Weighted) → i < length rs
    → denials_meant t (take (i + 1) rs) ≡ denials_meant t (take i rs) ++ denial (literal_at t (get_or rs i d).literal) ∷ []
denials_more t rs i d lt =
    let literal : Weighted → _ = λ r. literal_at t r.literal in
    ap (map denial) (map_more literal rs i d lt) ∙ map-append denial (literals_meant t (take i rs)) (literal_at t (get_or rs i d).literal ∷ [])

-- the term of a reason's literal is a formula
pub reason_formula : (t : TableView) (rs : List Weighted) (i : ℕ) (r : Weighted) → i < length rs → r ≡ get_or rs i r → All (λ (r : Weighted). IsFormulaIn t r.literal.term) rs → IsFormulaIn t r.literal.term
reason_formula t rs i r lt here formulas = subst (λ (r : Weighted). IsFormulaIn t r.literal.term) (sym here) (formulas i r lt)

-- the terms of reasons up to one, and its own
pub terms_more : (t u w : TableView) → Widens t u → Widens u w → (rs : List Weighted) (i : ℕ) (r : Weighted) → i < length rs → r ≡ get_or rs i r → All (λ (r : Weighted). IsFormulaIn t r.literal.term) rs
    → (ids all : List TermId) (id : TermId) → all ≡ ids ++ id ∷ [] → AreFormulasIn u ids → clause_at u ids ≡ denials_meant t (take i rs)
    → IsDenialPut w (denial (literal_at u r.literal)) id → AreFormulasIn w all × (clause_at w all ≡ denials_meant t (take (i + 1) rs))
terms_more t u w wide wider rs i r lt here formulas ids all id is before says put = (
  subst (AreFormulasIn w) (sym is) (All-push (IsFormulaIn w) ids id (λ k e small. formula_kept u w wider (get_or ids k e) (before k e small)) put.0),
  ap (clause_at w) is ∙ map-append (term_at w) ids (id ∷ []) ∙ (λ j. kept j ++ last j ∷ []) ∙ sym (denials_more t rs i r lt),
)
  where
    kept : clause_at w ids ≡ denials_meant t (take i rs)
    kept = clause_at-kept u w wider.terms ids (λ k e small. (before k e small).0) ∙ says

    last : term_at w id ≡ denial (literal_at t (get_or rs i r).literal)
    last = put.1 ∙ ap denial (literal_at-kept t u wide.terms r.literal (reason_formula t rs i r lt here formulas).0) ∙ ap (λ (r : Weighted). denial (literal_at t r.literal)) here
