-- What is kept goes with a table as literals are held, on the way back, and as terms are watched.
use Rattle.std.proofs.Common.{◌≡◌, ℕ, zero, suc, List, [], ◌∷◌, ◌++◌, All, Contains, sym, ap, subst}
use Rattle.std.proofs.lemmas.List.Elements.{All-contains, All-push, All-take}
use Rattle.term_core.specs.declared.ids.TermId.{TermId}
use Rattle.term_core.specs.declared.ids.Lit.{Lit}
use Rattle.term_core.specs.Tables.{TableView, IsIn}
use Rattle.proof_log.specs.Theories.{TheoryView, with_held, gone_back}
use Rattle.simplex.specs.Views.{SimplexView, IsOf}
use Rattle.simplex.specs.Checks.{Suits}

-- the atoms of literals are of a table
abbrev pub AtomsIn : TableView → List Lit → Type 0
AtomsIn t ls = All (λ (l : Lit). IsIn t l.term) ls

-- these terms are watched, and these literals are held
pub suits_same : (t : TableView) (new : SimplexView) (ids : List TermId) (ls : List Lit) → new.theory.watched ≡ ids → new.theory.held ≡ ls → All (IsIn t) ids → AtomsIn t ls → IsOf new t → Suits new t
suits_same t new ids ls e f there held is = record { is = is; there = subst (All (IsIn t)) (sym e) there; held = subst (AtomsIn t) (sym f) held }

-- a literal more of a watched term is held
pub suits_held : (t : TableView) (old new : SimplexView) (l : Lit) → Contains old.theory.watched l.term → new.theory ≡ with_held old.theory l → IsOf new t → Suits old t → Suits new t
suits_held t old new l has e is s =
    suits_same t new old.theory.watched (old.theory.held ++ l ∷ []) (ap (λ (v : TheoryView). v.watched) e) (ap (λ (v : TheoryView). v.held) e) s.there
    (All-push (λ (l : Lit). IsIn t l.term) old.theory.held l s.held (All-contains (IsIn t) old.theory.watched l.term s.there has)) is

watched_back : (t : TableView) (n : ℕ) (old : TheoryView) → All (IsIn t) old.watched → All (IsIn t) (gone_back n old).watched
watched_back t zero old there = there
watched_back t (suc n) old there = All-take (IsIn t) _ old.watched there

held_back : (t : TableView) (n : ℕ) (old : TheoryView) → AtomsIn t old.held → AtomsIn t (gone_back n old).held
held_back t zero old held = held
held_back t (suc n) old held = All-take (λ (l : Lit). IsIn t l.term) _ old.held held

-- fewer are watched and held
pub suits_back : (t : TableView) (n : ℕ) (old new : SimplexView) → new.theory ≡ gone_back n old.theory → IsOf new t → Suits old t → Suits new t
suits_back t n old new e is s = record {
  is = is;
  there = subst (λ (x : TheoryView). All (IsIn t) x.watched) (sym e) (watched_back t n old.theory s.there);
  held = subst (λ (x : TheoryView). AtomsIn t x.held) (sym e) (held_back t n old.theory s.held);
}
