-- That a search goes on where clauses between bounds came into its store, and begins still.
use Rattle.std.proofs.Common.{Result, Ok, Err, ◌≡◌, [], ◌∷◌, List, All, Contains, inl, inr, refl, sym, ap, ◌∙◌, subst}
use Rattle.std.specs.Prelude.{MatchResult, OnOk}
use Rattle.std.proofs.lemmas.List.Elements.{All-nil, All-contains, Contains-push_cases}
use Rattle.spec_text.proofs.Members.{none, only, to_image}
use Rattle.spec_sorts.specs.Terms.{Term}
use Rattle.spec_derivations.specs.Problems.{Problem, subterms_in}
use Rattle.spec_derivations.specs.Examples.{speaking}
use Rattle.spec_interfaces.specs.Interfaces.{IsInterfaceEquality, StandsApart}
use Rattle.no_memory.specs.declared.NoMemory.{NoMemory}
use Rattle.term_core.specs.declared.ids.Lit.{Lit}
use Rattle.term_core.specs.Tables.{TableView, Extends, declared_in, term_at, clause_at}
use Rattle.proof_log.specs.declared.premises.StepId.{StepId}
use Rattle.proof_log.specs.Logs.{Logged, IsLogOf, derivation_in}
use Rattle.proof_log.specs.Theories.{IsAtomIn, DerivesLemmas}
use Rattle.search_loop.specs.declared.search.Search.{Search}
use Rattle.search_loop.specs.Waiting.{AreOfAtoms}
use Rattle.search_loop.specs.Search.{images, SearchFits}
use Rattle.search_loop.specs.Asking.{state}
use Rattle.search_loop.specs.Rounds.{Continues, HasKept}
use Rattle.search_loop.specs.Growing.{IsBegun}
use Rattle.search_loop.proofs.SearchReady.{Ids}
use Rattle.search_loop.proofs.SearchRounds.{continues_same, continues_on}
use Rattle.search_loop.proofs.SearchGrown.{ready_wider, ready_derived, continues_derived, continues_wider}
use Rattle.bound_lemmas.specs.declared.pair.BoundPair.{BoundPair}
use Rattle.bound_lemmas.specs.Literals.{IsAtomOf}
use Rattle.bound_lemmas.specs.Pairs.{IsPairOf}
use Rattle.solve_core.specs.Beginning.{IsBegunFor}
use Rattle.solve_core.specs.Relating.{HasRelated}

-- nothing came
pub related_same : (t : TableView) (x : Search) → SearchFits t x → HasRelated t t x x
related_same t x ready = record { continues = continues_same t x x refl refl refl refl refl refl refl refl; ready = ready; same = refl }

-- one after the other
pub related_on : (s t u : TableView) (a b c : Search) → HasRelated s t a b → HasRelated t u b c → HasRelated s u a c
related_on s t u a b c h k = record {
  continues = continues_on s t u a b c h.continues k.continues;
  ready = k.ready;
  same = k.same ∙ ap (λ (z : Search). record z { log = c.log; store = c.store }) h.same;
}

-- lemmas came into the log
pub related_lemmas : (t u : TableView) (x : Search) (log : List Logged) (ts : List Term) → ts ≡ clause_at t x.terms.items → SearchFits t x
    → DerivesLemmas ts (record { table = t; log = x.log }) (record { table = u; log = log }) → HasRelated t u x (record x { log = log })
related_lemmas t u x log ts is ready derives =
    let came = subst (λ (us : List Term). DerivesLemmas us (record { table = t; log = x.log }) (record { table = u; log = log })) is derives in
    record { continues = continues_derived t u x ready log came; ready = ready_derived t u x ready log came; same = refl }

-- the literals of atoms are of terms of the search
pub of_atoms : (t : TableView) (x : Search) (ts : List Term) (l : Lit) → ts ≡ clause_at t x.terms.items → SearchFits t x → Contains x.atoms.items l.term → IsAtomOf ts t l
of_atoms t x ts l is ready i =
    let there : IsAtomOf (clause_at t x.terms.items) t l = (
      All-contains (IsAtomIn t) x.atoms.items l.term ready.atoms_are.chosen.only i,
      to_image (term_at t) x.terms.items l.term (ready.atoms_are.chosen.among l.term i),
    ) in
    subst (λ (us : List Term). IsAtomOf us t l) (sym is) there

-- the literals of a pair are of atoms
pub pair_of_atoms : (x : Search) (p : BoundPair) → IsPairOf x.atoms.items p → AreOfAtoms x.atoms.items (p.first ∷ p.second ∷ [])
pair_of_atoms x p h l i = elim (Contains-push_cases (p.first ∷ []) p.second l i) [
  | inl early ↦ subst (λ (m : Lit). Contains x.atoms.items m.term) (only p.first l early) h.first
  | inr last ↦ subst (λ (m : Lit). Contains x.atoms.items m.term) last h.second
]

-- and then the clause of a step came into the store
pub kept_related : (t u : TableView) (x y z : Search) (step : StepId) (r : Result (Unit {0}) NoMemory) → HasRelated t u x y → MatchResult r (λ _. HasKept u step y z) (λ _. z ≡ y)
    → OnOk r (Continues u u y z) → OnOk r (SearchFits u z) → OnOk r (HasRelated t u x z)
kept_related t u x y z step (Ok a) h kept on ready =
    let log : y.log ≡ z.log = sym (ap (λ (s : Search). s.log) kept.0) in
    related_on t u u x y z h (record { continues = on; ready = ready; same = kept.0 ∙ (λ i. record y { log = log i; store = z.store }) })
kept_related t u x y z step (Err e) h kept on ready = tt

-- a pair of the atoms is one of those of a search that has the same
pub pair_later : (t u : TableView) (x y : Search) (p : BoundPair) → HasRelated t u x y → IsPairOf x.atoms.items p → IsPairOf y.atoms.items p
pair_later t u x y p h pair = subst (λ (ids : Ids). IsPairOf ids.items p) (sym (ap (λ (s : Search). s.atoms) h.same)) pair

-- a search that begins does so still
pub begun_related : (t u : TableView) (p : Problem) (x y : Search) → HasRelated t u x y → IsBegun t p [] x → IsBegun u p [] y
begun_related t u p x y h b = record {
  ready = h.ready;
  empty = ap (λ (s : Search). s.trail.literals) h.same ∙ b.empty;
  level = ap (λ (s : Search). s.trail.level) h.same ∙ b.level;
  fed = ap (λ (s : Search). s.fed) h.same ∙ b.fed;
  search = h.continues.search p [] b.search;
  unlearned = ap (λ (s : Search). s.budget.learned) h.same ∙ b.unlearned;
  unspent = ap (λ (s : Search). s.budget.exchanges) h.same ∙ b.unspent;
}

-- so it does over a table that has more
pub begun_wider : (t u : TableView) → Extends t u → declared_in u ≡ declared_in t → (p : Problem) (x : Search) → IsLogOf u x.log → derivation_in u x.log ≡ derivation_in t x.log → IsBegun t p [] x → IsBegun u p [] x
begun_wider t u g declared p x right same b = record {
  ready = ready_wider t u g declared x right same b.ready;
  empty = b.empty;
  level = b.level;
  fed = b.fed;
  search = (continues_wider t u g declared x right same b.ready).search p [] b.search;
  unlearned = b.unlearned;
  unspent = b.unspent;
}

-- both with the facts that it begins with
pub begun_for_related : (ts : List Term) (t u : TableView) (x y : Search) → HasRelated t u x y → IsBegunFor ts (state t x) → IsBegunFor ts (state u y)
begun_for_related ts t u x y h b =
    let p = speaking ts b.interface in
    record { interface = b.interface; begun = begun_related t u p x y h b.begun; apart = h.continues.apart p [] b.begun.search b.apart }

pub begun_for_wider : (ts : List Term) (t u : TableView) → Extends t u → declared_in u ≡ declared_in t → (x : Search) → IsLogOf u x.log → derivation_in u x.log ≡ derivation_in t x.log → IsBegunFor ts (state t x) → IsBegunFor ts (state u x)
begun_for_wider ts t u g declared x right same b =
    let p = speaking ts b.interface in
    let on = continues_wider t u g declared x right same b.begun.ready in
    record { interface = b.interface; begun = begun_wider t u g declared p x right same b.begun; apart = on.apart p [] b.begun.search b.apart }

-- a search without interface equalities begins with no facts
pub begun_for_none : (ts : List Term) (t : TableView) (x : Search) → IsBegun t (speaking ts []) [] x → IsBegunFor ts (state t x)
begun_for_none ts t x b =
    let p = speaking ts [] in
    record {
      interface = [];
      begun = b;
      apart = record {
        equalities = All-nil (IsInterfaceEquality (subterms_in p));
        facts = λ e i h. absurd (none e i);
        apart = subst (λ (cs : List (List Lit)). All (StandsApart p) (images t cs)) (sym b.unlearned) (All-nil (StandsApart p));
      };
    }
