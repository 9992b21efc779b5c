-- How variables and rows grow.
use Rattle.std.proofs.Common.{◌≡◌, List, [], ◌∷◌, ◌++◌, Option, sym, ◌∙◌, ap, append_assoc}
use Rattle.std.proofs.lemmas.List.{append-nil}
use Rattle.spec_tableaux.specs.Rows.{Entry}
use Rattle.spec_tableaux.specs.Numbers.{Number}
use Rattle.term_core.specs.declared.ids.TermId.{TermId}
use Rattle.simplex_check.specs.Assignments.{AssignmentView, assignment_with_variable, assignment_with_sum}
use Rattle.simplex_atoms.specs.Atoms.{Ground, ground_of, GroundGrows}

same_list : {A : Type 0} (xs ys : List A) → ys ≡ xs → ys ≡ xs ++ []
same_list xs ys e = e ∙ sym (append-nil xs)

pub grows_same : (os us : List (Option TermId)) (b c : AssignmentView) → us ≡ os → c ≡ b → GroundGrows (ground_of os b) (ground_of us c)
grows_same os us b c e f = record {
  more_owners = [];
  owners = same_list os us e;
  more_rows = [];
  listed = same_list b.tableau.listed c.tableau.listed (ap (λ (x : AssignmentView). x.tableau.listed) f);
  more_values = [];
  values = same_list b.values c.values (ap (λ (x : AssignmentView). x.values) f);
}

pub grows_variable : (os us : List (Option TermId)) (o : Option TermId) (b c : AssignmentView) → us ≡ os ++ o ∷ [] → c ≡ assignment_with_variable b → GroundGrows (ground_of os b) (ground_of us c)
grows_variable os us o b c e f = record {
  more_owners = o ∷ [];
  owners = e;
  more_rows = [];
  listed = same_list b.tableau.listed c.tableau.listed (ap (λ (x : AssignmentView). x.tableau.listed) f);
  more_values = (assignment_with_variable (record { tableau = b.tableau; values = [] })).values;
  values = ap (λ (x : AssignmentView). x.values) f;
}

pub grows_row : (os us : List (Option TermId)) (o : Option TermId) (b c : AssignmentView) (es : List (Entry Number)) → us ≡ os ++ o ∷ [] → c ≡ assignment_with_sum b es → GroundGrows (ground_of os b) (ground_of us c)
grows_row os us o b c es e f = record {
  more_owners = o ∷ [];
  owners = e;
  more_rows = record { basic = b.tableau.variables; entries = es } ∷ [];
  listed = ap (λ (x : AssignmentView). x.tableau.listed) f;
  more_values = _;
  values = ap (λ (x : AssignmentView). x.values) f;
}

pub grows_on : (g h k : Ground) → GroundGrows g h → GroundGrows h k → GroundGrows g k
grows_on g h k a b = record {
  more_owners = a.more_owners ++ b.more_owners;
  owners = b.owners ∙ ap (λ l. l ++ b.more_owners) a.owners ∙ append_assoc g.owners a.more_owners b.more_owners;
  more_rows = a.more_rows ++ b.more_rows;
  listed = b.listed ∙ ap (λ l. l ++ b.more_rows) a.listed ∙ append_assoc g.assignment.tableau.listed a.more_rows b.more_rows;
  more_values = a.more_values ++ b.more_values;
  values = b.values ∙ ap (λ l. l ++ b.more_values) a.values ∙ append_assoc g.assignment.values a.more_values b.more_values;
}
