-- That a search only adds to what it has: where it is the same, where more came, and one after the other.
use Rattle.std.proofs.Common.{◌≡◌, List, [], ◌∷◌, ◌++◌, refl, sym, ap, ◌∙◌, append_assoc}
use Rattle.std.proofs.lemmas.List.{append-nil}
use Rattle.term_core.specs.declared.ids.Lit.{Lit}
use Rattle.term_core.specs.Tables.{TableView}
use Rattle.proof_log.specs.declared.premises.StepId.{StepId}
use Rattle.proof_log.specs.Logs.{Logged}
use Rattle.clause_store.specs.Stores.{StoreView, HasSameClauses, IsAdded}
use Rattle.search_loop.specs.declared.search.Search.{Search}
use Rattle.search_loop.specs.Appending.{IsFrontOf, Appends}
use Rattle.search_loop.proofs.SearchReady.{Ids}

-- a list is its own front
pub front_same : {X : Type 0} (xs ys : List X) → ys ≡ xs → IsFrontOf xs ys
front_same xs ys e = ([], e ∙ sym (append-nil xs))

-- the front of a front
pub front_on : {X : Type 0} (xs ys zs : List X) → IsFrontOf xs ys → IsFrontOf ys zs → IsFrontOf xs zs
front_on {X} xs ys zs h k = (h.0 ++ k.0, k.1 ∙ ap (λ (ws : List X). ws ++ k.0) h.1 ∙ append_assoc xs h.0 k.0)

-- what it has is the same
pub appends_same : (x y : Search) → y.log ≡ x.log → HasSameClauses x.store y.store → y.terms ≡ x.terms → y.atoms ≡ x.atoms → Appends x y
appends_same x y log same terms atoms = record {
  log = front_same x.log y.log log;
  clauses = front_same x.store.clauses y.store.clauses same.clauses;
  steps = front_same x.store.steps y.store.steps same.steps;
  terms = front_same x.terms.items y.terms.items (ap (λ (ids : Ids). ids.items) terms);
  atoms = front_same x.atoms.items y.atoms.items (ap (λ (ids : Ids). ids.items) atoms);
}

-- with more in the log alone
pub appends_logged : (x y : Search) → IsFrontOf x.log y.log → HasSameClauses x.store y.store → y.terms ≡ x.terms → y.atoms ≡ x.atoms → Appends x y
appends_logged x y log same terms atoms = record {
  log = log;
  clauses = front_same x.store.clauses y.store.clauses same.clauses;
  steps = front_same x.store.steps y.store.steps same.steps;
  terms = front_same x.terms.items y.terms.items (ap (λ (ids : Ids). ids.items) terms);
  atoms = front_same x.atoms.items y.atoms.items (ap (λ (ids : Ids). ids.items) atoms);
}

-- and where a clause of the log came into the store, too
pub appends_stored : (t : TableView) (log : List Logged) (step : StepId) (x y : Search) → IsFrontOf x.log y.log → IsAdded t log step x.store y.store → y.terms ≡ x.terms → y.atoms ≡ x.atoms → Appends x y
appends_stored t log step x y front a terms atoms = record {
  log = front;
  clauses = (a.clause ∷ [], a.clauses);
  steps = (step ∷ [], a.steps);
  terms = front_same x.terms.items y.terms.items (ap (λ (ids : Ids). ids.items) terms);
  atoms = front_same x.atoms.items y.atoms.items (ap (λ (ids : Ids). ids.items) atoms);
}

-- the same search
pub appends_self : (x : Search) → Appends x x
appends_self x = appends_same x x refl (record { clauses = refl; steps = refl }) refl refl

-- one after the other
pub appends_on : (x y z : Search) → Appends x y → Appends y z → Appends x z
appends_on x y z h k = record {
  log = front_on x.log y.log z.log h.log k.log;
  clauses = front_on x.store.clauses y.store.clauses z.store.clauses h.clauses k.clauses;
  steps = front_on x.store.steps y.store.steps z.store.steps h.steps k.steps;
  terms = front_on x.terms.items y.terms.items z.terms.items h.terms k.terms;
  atoms = front_on x.atoms.items y.atoms.items z.atoms.items h.atoms k.atoms;
}
