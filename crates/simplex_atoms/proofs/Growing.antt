-- Meanings fit as variables and rows come.
use Rattle.std.proofs.Common.{◌≡◌, ℕ, suc, ◌<◌, List, [], ◌∷◌, ◌++◌, length, Option, Some, None, sym, ◌∙◌, ap, subst, arith}
use Rattle.std.proofs.lemmas.List.{length-append}
use Rattle.spec_tableaux.specs.Rows.{Entry}
use Rattle.spec_tableaux.specs.SolvedForms.{AllVariables}
use Rattle.spec_tableaux.specs.Numbers.{Number}
use Rattle.term_core.specs.declared.ids.TermId.{TermId}
use Rattle.term_core.specs.Tables.{TableView, IsIn}
use Rattle.simplex_check.specs.Assignments.{AssignmentView, assignment_with_variable, assignment_with_sum}
use Rattle.simplex_atoms.specs.declared.meanings.Meanings.{Meanings}
use Rattle.simplex_atoms.specs.Owners.{AreOwnersIn}
use Rattle.simplex_atoms.specs.Atoms.{AreCounted, GroundGrows, AreSums}
use Rattle.simplex_atoms.specs.Grown.{ground_on, Grown}
use Rattle.simplex_atoms.proofs.Owning.{owners_none, owners_term}
use Rattle.simplex_atoms.proofs.Growth.{grows_same, grows_variable, grows_row, grows_on}
use Rattle.simplex_atoms.proofs.Grounding.{grounded_same, grounded_variable, grounded_row}
use Rattle.simplex_atoms.proofs.RowSums.{sums_on}

counted_more : (os us : List (Option TermId)) (o : Option TermId) (n m : ℕ) → length os ≡ n → us ≡ os ++ o ∷ [] → m ≡ suc n → length us ≡ m
counted_more os us o n m count e f = omega (arith, count, f, ap (λ (l : List (Option TermId)). length l) e, length-append os (o ∷ []))

owners_as : (t : TableView) (os us : List (Option TermId)) → us ≡ os → AreOwnersIn t os → AreOwnersIn t us
owners_as t os us e h = subst (λ (l : List (Option TermId)). AreOwnersIn t l) (sym e) h

-- from meanings and an assignment to others
module _ (m : Meanings) (b : AssignmentView) (n : Meanings) (c : AssignmentView) (count : AreCounted (ground_on m b)) where
  -- nothing comes
  pub grown_same : (Has : TableView → Type 0) → AreSums (ground_on m b) n.sums.list → n.owners.list ≡ m.owners.list → c ≡ b → Grown Has m b n c
  grown_same Has sums e f =
      let grows = grows_same m.owners.list n.owners.list b c e f in
      record {
        fit = record {
          counted = ap (λ (l : List (Option TermId)). length l) e ∙ count ∙ sym (ap (λ (x : AssignmentView). x.tableau.variables) f);
          sums = sums_on (ground_on m b) (ground_on n c) n.sums.list grows (ap (λ (x : AssignmentView). x.tableau.listed) f) sums;
        };
        grows = grows;
        grounded = grounded_same m.owners.list n.owners.list b c e f;
        there = λ t _ h. owners_as t m.owners.list n.owners.list e h;
      }

  -- a variable
  with_variable : (Has : TableView → Type 0) (o : Option TermId) → AreSums (ground_on m b) n.sums.list → n.owners.list ≡ m.owners.list ++ o ∷ [] → c ≡ assignment_with_variable b
      → ((t : TableView) → Has t → AreOwnersIn t m.owners.list → AreOwnersIn t (m.owners.list ++ o ∷ [])) → Grown Has m b n c
  with_variable Has o sums e f there =
      let grows = grows_variable m.owners.list n.owners.list o b c e f in
      record {
        fit = record {
          counted = counted_more m.owners.list n.owners.list o b.tableau.variables c.tableau.variables count e (ap (λ (x : AssignmentView). x.tableau.variables) f);
          sums = sums_on (ground_on m b) (ground_on n c) n.sums.list grows (ap (λ (x : AssignmentView). x.tableau.listed) f) sums;
        };
        grows = grows;
        grounded = grounded_variable m.owners.list n.owners.list o b c count e f;
        there = λ t has h. owners_as t (m.owners.list ++ o ∷ []) n.owners.list e (there t has h);
      }

  -- one that stands for no term
  pub grown_variable : (Has : TableView → Type 0) → AreSums (ground_on m b) n.sums.list → n.owners.list ≡ m.owners.list ++ None ∷ [] → c ≡ assignment_with_variable b → Grown Has m b n c
  grown_variable Has sums e f = with_variable Has None sums e f (λ t _ h. owners_none t m.owners.list h)

  -- one that means a term
  pub grown_term : (id : TermId) → AreSums (ground_on m b) n.sums.list → n.owners.list ≡ m.owners.list ++ Some id ∷ [] → c ≡ assignment_with_variable b → Grown (λ t. IsIn t id) m b n c
  grown_term id sums e f = with_variable (λ t. IsIn t id) (Some id) sums e f (λ t is h. owners_term t m.owners.list id is h)

  -- a row with its variable
  pub grown_row : (Has : TableView → Type 0) (es : List (Entry Number)) → AllVariables (λ y. y < b.tableau.variables) es → n.owners.list ≡ m.owners.list ++ None ∷ [] → c ≡ assignment_with_sum b es
      → (GroundGrows (ground_on m b) (ground_on n c) → AreSums (ground_on n c) n.sums.list) → Grown Has m b n c
  grown_row Has es over e f sums =
      let grows = grows_row m.owners.list n.owners.list None b c es e f in
      record {
        fit = record {
          counted = counted_more m.owners.list n.owners.list None b.tableau.variables c.tableau.variables count e (ap (λ (x : AssignmentView). x.tableau.variables) f);
          sums = sums grows;
        };
        grows = grows;
        grounded = grounded_row m.owners.list n.owners.list b c es count over e f;
        there = λ t _ h. owners_as t (m.owners.list ++ None ∷ []) n.owners.list e (owners_none t m.owners.list h);
      }

-- one after the other
pub grown_on : (First Then Both : TableView → Type 0) (m : Meanings) (b : AssignmentView) (n : Meanings) (c : AssignmentView) (o : Meanings) (d : AssignmentView)
    → ((t : TableView) → Both t → First t × Then t) → Grown First m b n c → Grown Then n c o d → Grown Both m b o d
grown_on First Then Both m b n c o d has x y = record {
  fit = y.fit;
  grows = grows_on (ground_on m b) (ground_on n c) (ground_on o d) x.grows y.grows;
  grounded = λ z. y.grounded (x.grounded z);
  there = λ t both z. let parts = has t both in y.there t parts.1 (x.there t parts.0 z);
}

-- where more is asked of a table
pub grown_for : (Less More : TableView → Type 0) (m : Meanings) (b : AssignmentView) (n : Meanings) (c : AssignmentView) → ((t : TableView) → More t → Less t)
    → Grown Less m b n c → Grown More m b n c
grown_for Less More m b n c has x = record {
  fit = x.fit;
  grows = x.grows;
  grounded = x.grounded;
  there = λ t more z. x.there t (has t more) z;
}
