-- The clauses and the terms of a search that goes on, from those of the marked numbers; and those of one that begins.
use Rattle.std.proofs.Common.{◌≡◌, ◌≢◌, ◌⊎◌, ℕ, ◌+◌, ◌<◌, ◌≤◌, Bool, List, [], ◌∷◌, ◌++◌, length, map, get_or, take, All, Contains, inl, inr, sym, ap, ◌∙◌, subst, arith}
use Rattle.std.specs.Prelude.{Result, Ok, Err, IfOk, OnOk, flat_map}
use Rattle.std.specs.List.{AllPairs}
use Rattle.std.proofs.lemmas.List.{length-append, length-map, map-append, get_or-map, take_more}
use Rattle.std.proofs.lemmas.List.Elements.{All-contains, Contains-get_or}
use Rattle.spec_text.proofs.Members.{none, to_image}
use Rattle.spec_sorts.specs.Terms.{Term, no_term}
use Rattle.spec_sorts.specs.WellSorted.{IsWellSorted}
use Rattle.spec_sorts.specs.Literals.{Clause}
use Rattle.spec_sorts.specs.Subsets.{AreAmong, AreOnce}
use Rattle.spec_proofs.specs.Resolution.{IsWithin}
use Rattle.spec_derivations.specs.Problems.{Problem}
use Rattle.spec_derivations.specs.Orders.{ordered_terms, whole_terms, whole_clauses_of}
use Rattle.term_core.specs.declared.ids.TermId.{TermId}
use Rattle.term_core.specs.Tables.{TableView, term_at, IsIn, AreIn, clause_at, AreDifferent}
use Rattle.term_core.proofs.TermsExtend.{clause_at-kept}
use Rattle.proof_log.specs.declared.premises.StepId.{StepId}
use Rattle.proof_log.specs.Logs.{Logged, stated, AreFormulasIn}
use Rattle.term_clauses.specs.Growth.{Grows}
use Rattle.term_clauses.specs.SpokenTerms.{no_id, AreRising, problem_in}
use Rattle.term_clauses.specs.Stating.{Widens, StatesClauses}
use Rattle.term_clauses.specs.Marks.{IsMarked, marked, AreMarksOf, AreMarked}
use Rattle.term_clauses.proofs.Bases.{flat_marked}
use Rattle.term_clauses.proofs.Choosing.{term_kept}
use Rattle.term_clauses.proofs.Marked.{marked_below, in_marked, from_marked}
use Rattle.term_clauses.proofs.Within.{within_append, within_flat}
use Rattle.clausify.specs.declared.stated.Stated.{Stated}
use Rattle.clausify.specs.declared.stop.ClauseStop.{ClauseStop}
use Rattle.clausify.specs.HavingClauses.{HasClauses, HasClausesOf}
use Rattle.clausify.specs.SearchTerms.{AreSearchTerms, AreNewTerms}
use Rattle.clausify.specs.Unmarking.{Unmarks}
use Rattle.clausify.specs.Orders.{AreOrdered}
use Rattle.clausify.proofs.Counts.{counts_same}
use Rattle.clausify.proofs.OrderFacts.{subterms_among}
use Rattle.clausify.proofs.Unmarking.{left_among}

-- each term alone
abbrev pub alone : List Term → List Clause
alone ts = map (λ t. t ∷ []) ts

-- one term more
pub alone_more : (t : TableView) (roots : List TermId) (k : ℕ) (d : TermId) → k < length roots → alone (clause_at t (take k roots)) ++ (term_at t (get_or roots k d) ∷ []) ∷ [] ≡ alone (clause_at t (take (k + 1) roots))
alone_more t roots k d lt =
    let one : Term → Clause = λ u. u ∷ [] in
    sym (map-append one (clause_at t (take k roots)) (term_at t (get_or roots k d) ∷ []))
    ∙ ap alone (sym (map-append (term_at t) (take k roots) (get_or roots k d ∷ [])) ∙ ap (clause_at t) (sym (take_more roots k d lt)))

-- lists of terms with the same members have the same clauses, after others
same_clauses : (us vs : List Term) (units : List Clause) → AreAmong us vs → IsWithin (units ++ flat_map whole_clauses_of us) (units ++ flat_map whole_clauses_of vs)
same_clauses us vs units among = within_append units (flat_map whole_clauses_of us) units (flat_map whole_clauses_of vs) (λ c c_in. c_in) (within_flat whole_clauses_of us vs among)

-- the marked terms are those of a search of a problem, but for known ones
pub record AreMarksOfNew (t : TableView) (p : Problem) (known : List TermId) (marks : List Bool) : Type 0 where
  pub short : length marks ≤ length t.terms
  pub each : (u : Term) → Contains (whole_terms p) u → Contains (clause_at t known) u ⊎ Contains (marked marks t.terms) u
  pub only : AreAmong (marked marks t.terms) (whole_terms p)
  pub none : (id : TermId) → Contains known id → IsMarked marks id.0 → ⊥

-- the marked subterms of the terms of which a search speaks are its terms, and so what is left of them without the known ones
pub marks_of_new : (t : TableView) (p : Problem) (ids known : List TermId) (marks left : List Bool) → AreOrdered t p ids → AreMarksOf t ids marks → Unmarks marks known left → AreMarksOfNew t p known left
marks_of_new t p ids known marks left ordered m h =
    let short : length left ≤ length t.terms = omega (arith, h.length, m.short) in
    record {
      short = short;
      each = λ u u_in.
          let x = from_marked marks t.terms u (m.each u (subterms_among (ordered_terms p) (clause_at t ids) ordered.each u u_in)) in
          elim (h.kept x.0 x.1) [
            | inl still ↦ inr (subst (Contains (marked left t.terms)) x.2 (in_marked left t.terms short x.0 still))
            | inr by ↦ inl (subst (Contains (clause_at t known)) (ap (λ k. get_or t.terms k no_term) by.2 ∙ x.2) (to_image (term_at t) known by.0 by.1))
          ];
      only = λ u u_in. subterms_among (clause_at t ids) (ordered_terms p) ordered.only u (m.only u (left_among marks left known t.terms m.short h u u_in));
      none = h.none;
    }

-- the terms of listed numbers, in a wider table
pub terms_listed : (t u : TableView) → Widens t u → (ids : List TermId) (marks : List Bool) → length marks ≤ length t.terms → AreMarked marks ids → clause_at u ids ≡ marked marks t.terms
terms_listed t u wider ids marks short listed = clause_at-kept t u wider.terms ids (λ k d lt. omega (arith, listed.below k d lt, short)) ∙ listed.terms t.terms short

-- and their numbers are those of its new terms, in a wider table too
pub are_new_terms : (t u : TableView) → Widens t u → (p : Problem) (known ids : List TermId) (marks : List Bool) → AreDifferent t.terms → AreIn t known → AreMarksOfNew t p known marks → All (IsWellSorted t.symbols []) (marked marks t.terms) → AreMarked marks ids
    → AreNewTerms u p known ids
are_new_terms t u wider p known ids marks different known_in m sorted listed =
    let there : AreIn t ids = λ k d lt. omega (arith, listed.below k d lt, m.short) in
    let old : clause_at t ids ≡ marked marks t.terms = listed.terms t.terms m.short in
    let same : clause_at u ids ≡ marked marks t.terms = terms_listed t u wider ids marks m.short listed in
    let inside : (id : TermId) → Contains ids id → Contains (marked marks t.terms) (term_at t id) = λ id id_in. subst (λ (ts : List Term). Contains ts (term_at t id)) old (to_image (term_at t) ids id id_in) in
    record {
      there = λ k d lt.
          let id = get_or ids k d in
          term_kept t u wider id (there k d lt, All-contains (IsWellSorted t.symbols []) (marked marks t.terms) (term_at t id) sorted (inside id (Contains-get_or ids k d lt)));
      each = λ w w_in. elim (m.each w w_in) [
        | inl h ↦ inl (subst (λ (ts : List Term). Contains ts w) (sym (clause_at-kept t u wider.terms known known_in)) h)
        | inr h ↦ inr (subst (λ (ts : List Term). Contains ts w) (sym same) h)
      ];
      only = λ w w_in. m.only w (subst (λ (ts : List Term). Contains ts w) same w_in);
      new = λ id id_in known_too.
          let x = from_marked marks t.terms (term_at t id) (inside id id_in) in
          let lt = marked_below marks x.0 x.1 in
          m.none id known_too (subst (IsMarked marks) (different x.0 id.0 (omega (arith, lt, m.short)) (All-contains (IsIn t) ids id there id_in) x.2) x.1);
      rising = listed.rising;
    }

-- the numbers are those of the clauses of the roots and of the new terms
pub has_clauses_of : (t u : TableView) → Widens t u → (log : List Logged) (roots ids : List TermId) (marks : List Bool) (steps : List StepId) → length marks ≤ length t.terms → AreMarked marks ids → clause_at u roots ≡ clause_at t roots
    → StatesClauses u log steps (alone (clause_at t roots) ++ flat_marked whole_clauses_of marks t.terms) → HasClausesOf u log roots ids steps
has_clauses_of t u wider log roots ids marks steps short listed kept says =
    let same = terms_listed t u wider ids marks short listed in
    record { there = says.there; same = says.same ∙ (λ i. alone (sym kept i) ++ flat_map whole_clauses_of (sym same i)) }

-- what is read at a place does not matter beyond it
same_number : (ids : List TermId) (k : ℕ) (d : TermId) → k < length ids → (get_or ids k d).0 ≡ (get_or ids k no_id).0
same_number ids k d lt = sym (get_or-map (λ (x : TermId). x.0) ids k d 0 lt) ∙ get_or-map (λ (x : TermId). x.0) ids k no_id 0 lt

-- rising numbers stand once
rising_once : (ids : List TermId) → AreRising ids → AllPairs (λ (i j : TermId). i ≢ j) ids
rising_once ids rising i j d before within e =
    let il : i < length ids = omega (arith, before, within) in
    omega (arith, rising i j before within, same_number ids i d il, same_number ids j d within, ap (λ (x : TermId). x.0) e)

-- and so do their terms
terms_once : (t : TableView) (ids : List TermId) → AreDifferent t.terms → AreRising ids → AreIn t ids → AreOnce (clause_at t ids)
terms_once t ids different rising there i j d before within e =
    let jl : j < length ids = omega (arith, within, length-map ids (term_at t)) in
    let il : i < length ids = omega (arith, before, jl) in
    let same : term_at t (get_or ids i no_id) ≡ term_at t (get_or ids j no_id) = sym (get_or-map (term_at t) ids i no_id d il) ∙ e ∙ get_or-map (term_at t) ids j no_id d jl in
    omega (arith, rising i j before jl, different (get_or ids i no_id).0 (get_or ids j no_id).0 (there i no_id il) (there j no_id jl) same)

-- where none is known the new terms are all
all_new : (t : TableView) (p : Problem) (ids : List TermId) → AreNewTerms t p [] ids → AreAmong (whole_terms p) (clause_at t ids)
all_new t p ids h u u_in = elim (h.each u u_in) [ inl known ↦ absurd (none u known) | inr new ↦ new ]

pub are_search_terms : (t : TableView) (p : Problem) (ids : List TermId) → AreNewTerms t p [] ids → AreSearchTerms t p ids
are_search_terms t p ids h = record { there = h.there; each = all_new t p ids h; only = h.only; once = rising_once ids h.rising }

-- and their clauses are those of the search
has_clauses : (t : TableView) (log : List Logged) (p : Problem) (roots ids : List TermId) (steps : List StepId) → AreDifferent t.terms → AreOnce (whole_terms p) → clause_at t roots ≡ p.asserted → AreNewTerms t p [] ids → HasClausesOf t log roots ids steps
    → HasClauses t log p steps
has_clauses t log p roots ids steps different once asserted new says =
    let units = alone p.asserted in
    let all = whole_terms p in
    let listed = clause_at t ids in
    let listed_once = terms_once t ids different new.rising (λ k d lt. (new.there k d lt).0) in
    let same : map (stated t log) steps ≡ units ++ flat_map whole_clauses_of listed = says.same ∙ ap (λ (ts : List Term). alone ts ++ flat_map whole_clauses_of listed) asserted in
    record {
      there = says.there;
      base = λ c c_in. subst (λ cs. Contains cs c) (sym same) (same_clauses all listed units (all_new t p ids new) c c_in);
      only = λ c c_in. same_clauses listed all units new.only c (subst (λ cs. Contains cs c) same c_in);
      count =
          sym (length-map steps (stated t log)) ∙ ap length same ∙ length-append units (flat_map whole_clauses_of listed)
          ∙ ap (λ n. length units + n) (counts_same whole_clauses_of listed all listed_once once new.only (all_new t p ids new))
          ∙ sym (length-append units (flat_map whole_clauses_of all));
    }

module _ (t u : TableView) (old log : List Logged) (roots interface : List TermId) where
  abbrev problem : Problem
  problem = problem_in t roots interface

  -- a search that begins has what one has that goes on and knows nothing
  pub begun_clauses : (r : Result Stated ClauseStop) → AreFormulasIn t roots → AreDifferent u.terms → AreOnce (whole_terms problem) → OnOk r (Grows roots t u old log) → IfOk r (λ x. AreNewTerms u problem [] x.terms.items)
      → IfOk r (λ x. HasClausesOf u log roots x.terms.items x.steps) → IfOk r (λ x. HasClauses u log problem x.steps)
  begun_clauses (Ok x) formulas different once grows new says = has_clauses u log problem roots x.terms.items x.steps different once (clause_at-kept t u grows.table roots (λ k d lt. (formulas k d lt).0)) new says
  begun_clauses (Err e) formulas different once grows new says = tt

  pub begun_terms : (r : Result Stated ClauseStop) → IfOk r (λ x. AreNewTerms u problem [] x.terms.items) → IfOk r (λ x. AreSearchTerms u problem x.terms.items)
  begun_terms (Ok x) new = are_search_terms u problem x.terms.items new
  begun_terms (Err e) new = tt

-- no number says nothing
pub Says-none : (t : TableView) (log : List Logged) (steps : List StepId) → steps ≡ [] → StatesClauses t log steps []
Says-none t log steps e = record {
  there = λ k d lt. absurd (omega (arith, lt, ap length e));
  same = ap (map (stated t log)) e;
}
