-- Literals of cycles as reasons of a lemma, and as literals of a search's atoms.
use Rattle.std.proofs.Common.{Result, Ok, Err, ◌≡◌, List, map, Contains, sym, ap, subst}
use Rattle.std.specs.Prelude.{OnOk}
use Rattle.no_memory.specs.declared.NoMemory.{NoMemory}
use Rattle.std.proofs.lemmas.List.Elements.{All-contains, All-contains_itself, All-map, All-weaker}
use Rattle.spec_text.proofs.Members.{to_image}
use Rattle.spec_sorts.specs.Terms.{Term}
use Rattle.term_core.specs.declared.ids.Lit.{Lit}
use Rattle.term_core.specs.declared.ids.TermId.{TermId}
use Rattle.term_core.specs.Tables.{TableView, clause_at}
use Rattle.simplex_explain.specs.declared.weighted.Weighted.{Weighted}
use Rattle.simplex_explain.specs.Reasons.{AreAtomReasons, AreHeld}
use Rattle.search_loop.specs.declared.search.Search.{Search}
use Rattle.search_loop.specs.Waiting.{AreOfAtoms}
use Rattle.search_loop.specs.Search.{SearchFits}
use Rattle.search_loop.proofs.SearchReady.{Ids}
use Rattle.bound_lemmas.specs.Cycles.{AreReasonsOf}
use Rattle.bound_lemmas.specs.Literals.{IsAtomOf}
use Rattle.solve_core.specs.Relating.{HasRelated}
use Rattle.solve_core.proofs.SearchRelated.{of_atoms, related_on}

-- the literals alone
abbrev pub literals_of : List Weighted → List Lit
literals_of rs = map (λ (r : Weighted). r.literal) rs

-- they are of atoms of the table, which are terms of the search
pub reasons_of_atoms : (t : TableView) (x : Search) (ts : List Term) (rs : List Weighted) → ts ≡ clause_at t x.terms.items → SearchFits t x → AreReasonsOf x.atoms.items rs → AreAtomReasons ts t rs
reasons_of_atoms t x ts rs is ready of =
    All-weaker (λ (r : Weighted). Contains x.atoms.items r.literal.term) (λ (r : Weighted). IsAtomOf ts t r.literal) (λ r i. of_atoms t x ts r.literal is ready i) rs of

-- all of them hold where they do
pub all_held : (rs : List Weighted) → AreHeld (literals_of rs) rs
all_held rs =
    All-weaker (λ (r : Weighted). Contains rs r) (λ (r : Weighted). Contains (literals_of rs) r.literal) (λ r i. to_image (λ (q : Weighted). q.literal) rs r i) rs
    (All-contains_itself rs)

-- and they are of the search's atoms
pub all_of_atoms : (atoms : List TermId) (rs : List Weighted) → AreReasonsOf atoms rs → AreOfAtoms atoms (literals_of rs)
all_of_atoms atoms rs of l i =
    let P : Lit → Type 0 = λ m. Contains atoms m.term in
    All-contains P (literals_of rs) l (All-map P (λ (r : Weighted). r.literal) rs of) i

-- so they are of those of a search that has the same atoms
pub reasons_later : (t u : TableView) (x y : Search) (rs : List Weighted) → HasRelated t u x y → AreReasonsOf x.atoms.items rs → AreReasonsOf y.atoms.items rs
reasons_later t u x y rs h of = subst (λ (ids : Ids). AreReasonsOf ids.items rs) (sym (ap (λ (s : Search). s.atoms) h.same)) of

-- what comes after what came before
pub related_after : (s t u : TableView) (a b c : Search) (r : Result (Unit {0}) NoMemory) → HasRelated s t a b → OnOk r (HasRelated t u b c) → OnOk r (HasRelated s u a c)
related_after s t u a b c (Ok x) h k = related_on s t u a b c h k
related_after s t u a b c (Err e) h k = tt
