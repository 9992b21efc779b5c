-- Atoms that fit a table, an assignment and bounds fit them as these grow.
use Rattle.std.proofs.Common.{◌≡◌, ℕ, ◌≤◌, Bool, true, false, List, [], ◌∷◌, ◌++◌, length, cond, Option, Some, None, nat_eq, refl, sym, ◌∙◌, ap, subst, arith}
use Rattle.std.proofs.lemmas.List.{length-append}
use Rattle.std.proofs.lemmas.List.Elements.{All-nil}
use Rattle.std.proofs.lemmas.Bool.{eqb-true}
use Rattle.std.proofs.lemmas.Option.{same_Some}
use Rattle.spec_text.proofs.Members as members
use Rattle.spec_sorts.specs.Terms.{Term}
use Rattle.spec_arithmetic.specs.Forms.{Form}
use Rattle.spec_tableaux.specs.Spaces.{Space, as_space}
use Rattle.spec_tableaux.specs.Rows.{Entry, Row, Solves}
use Rattle.spec_tableaux.specs.Numbers.{Number, numbers}
use Rattle.term_core.specs.declared.ids.TermId.{TermId}
use Rattle.term_core.specs.Tables.{TableView, Extends}
use Rattle.term_core.proofs.TermsExtend.{IsIn-kept, term_at-kept}
use Rattle.simplex_bounds.specs.Held.{BoundsView}
use Rattle.simplex_check.specs.Assignments.{AssignmentView, empty_assignment}
use Rattle.simplex_atoms.specs.declared.slack.Slack.{Slack}
use Rattle.simplex_atoms.specs.Owners.{owner_at, AreOwned, AreOwnersIn}
use Rattle.simplex_atoms.specs.Slacks.{AtomSetting, IsFormOf, HasSlackIn, slack_in}
use Rattle.simplex_atoms.specs.Atoms.{AtomsView, Ground, ground_of, setting_of, GroundGrows, IsMultiple, IsSum, IsSlackOf, HaveSlacks, AtomsFit}
use Rattle.simplex_atoms.proofs.Owning.{owner_kept, owner_first, owner_below}

pub solves_first : {A V : Type 0} (s : Space A V) (v : ℕ → V) (rs more : List (Row A)) → Solves s v (rs ++ more) → Solves s v rs
solves_first s v [] more h = tt
solves_first s v (r ∷ rs) more h = (h.0, solves_first s v rs more h.1)

-- over more variables and rows

pub multiple_on : (g h : Ground) (es : List (Entry Number)) (k : Number) (y : ℕ) → GroundGrows g h → IsMultiple g es k y → IsMultiple h es k y
multiple_on g h es k y grows m = record {
  variable = omega (arith, m.variable, ap (λ (l : List (Option TermId)). length l) grows.owners, length-append g.owners grows.more_owners);
  sum = λ v s.
      m.sum v (solves_first (as_space numbers) v g.assignment.tableau.listed grows.more_rows (subst (λ (l : List (Row Number)). Solves (as_space numbers) v l) grows.listed s));
}

form_on : (t : TableView) (g h : Ground) (slack : Slack) (f : Form) → GroundGrows g h → IsFormOf (setting_of t g) slack f → IsFormOf (setting_of t h) slack f
form_on t g h slack f grows is = record {
  factor = is.factor;
  bound = is.bound;
  variable = omega (arith, is.variable, ap (λ (l : List (Option TermId)). length l) grows.owners, length-append g.owners grows.more_owners);
  unit = λ e. is.unit (owner_first g.owners grows.more_owners slack.variable is.variable (subst (λ (l : List (Option TermId)). owner_at l slack.variable ≡ None) grows.owners e));
  constant = is.constant;
  value = λ n v o s. is.value n v
      (λ y id e. o y id (subst (λ (l : List (Option TermId)). owner_at l y ≡ Some id) (sym grows.owners) (owner_kept g.owners grows.more_owners y id e)))
      (solves_first (as_space numbers) v g.assignment.tableau.listed grows.more_rows (subst (λ (l : List (Row Number)). Solves (as_space numbers) v l) grows.listed s));
}

pub slack_on : (t : TableView) (g h : Ground) (a b : ℕ) (id : TermId) (slack : Slack) → GroundGrows g h → a ≤ b → IsSlackOf (setting_of t g) a id slack → IsSlackOf (setting_of t h) b id slack
slack_on t g h a b id slack grows le p = record {
  is_in = p.is_in;
  is = record {
    constraint = p.is.constraint;
    says = p.is.says;
    kind = p.is.kind;
    form = p.is.form;
    has = p.is.has;
    is = form_on t g h slack p.is.form grows p.is.is;
  };
  reached = omega (arith, p.reached, le);
}

pub slacked_on : (t : TableView) (g h : Ground) (a b : ℕ) (slack_list : List (ℕ × Slack)) → GroundGrows g h → a ≤ b → HaveSlacks (setting_of t g) a slack_list → HaveSlacks (setting_of t h) b slack_list
slacked_on t g h a b slack_list grows le all id slack e = slack_on t g h a b id slack grows le (all id slack e)

-- one place more
pub slacked_more : (s : AtomSetting) (reach : ℕ) (old new : List (ℕ × Slack)) (id : TermId) (slack : Slack) → HaveSlacks s reach old → IsSlackOf s reach id slack
    → ((q : ℕ) → slack_in new (record { 0 = q }) ≡ cond (nat_eq id.0 q) (Some slack) (slack_in old (record { 0 = q }))) → HaveSlacks s reach new
slacked_more s reach old new id slack all one updates other p e = by (nat_eq id.0 other.0) refl
  where
    by : (b : Bool) → nat_eq id.0 other.0 ≡ b → IsSlackOf s reach other p
    by true h =
        let same : id ≡ other = λ i. record { 0 = eqb-true id.0 other.0 h i } in
        let mine : slack ≡ p = same_Some slack p (sym (ap (λ b. cond b (Some slack) (slack_in old other)) h) ∙ sym (updates other.0) ∙ e) in
        subst (λ (x : Slack). IsSlackOf s reach other x) mine (subst (λ (x : TermId). IsSlackOf s reach x slack) same one)
    by false h = all other p (sym (ap (λ b. cond b (Some slack) (slack_in old other)) h) ∙ sym (updates other.0) ∙ e)

-- over a table that has grown

module _ (old new : TableView) (x : Extends old new) (g : Ground) (owners : AreOwnersIn old g.owners) where
  owned_before : {V : Type 0} (n : Term → V) (v : ℕ → V) → AreOwned new g.owners n v → AreOwned old g.owners n v
  owned_before n v o y id e = o y id e ∙ ap n (term_at-kept old new x id (owners y id e))

  form_after : (slack : Slack) (f : Form) → IsFormOf (setting_of old g) slack f → IsFormOf (setting_of new g) slack f
  form_after slack f is = record {
    factor = is.factor;
    bound = is.bound;
    variable = is.variable;
    unit = is.unit;
    constant = is.constant;
    value = λ n v o s. is.value n v (owned_before n v o) s;
  }

  slack_after : (reach : ℕ) (id : TermId) (slack : Slack) → IsSlackOf (setting_of old g) reach id slack → IsSlackOf (setting_of new g) reach id slack
  slack_after reach id slack p = record {
    is_in = IsIn-kept old new x id p.is_in;
    is = subst (λ (u : Term). HasSlackIn (setting_of new g) slack u) (sym (term_at-kept old new x id p.is_in)) (record {
      constraint = p.is.constraint;
      says = p.is.says;
      kind = p.is.kind;
      form = p.is.form;
      has = p.is.has;
      is = form_after slack p.is.form p.is.is;
    });
    reached = p.reached;
  }

-- the law
pub right_after : (old new : TableView) → Extends old new → (a : AtomsView) (b : AssignmentView) (bounds : BoundsView) → AtomsFit old a b bounds → AtomsFit new a b bounds
right_after old new x a b bounds r = record {
  counted = r.counted;
  within = r.within;
  owners_in = λ y id e. IsIn-kept old new x id (r.owners_in y id e);
  once = r.once;
  grounded = r.grounded;
  sums = r.sums;
  are_slacked = λ id slack e. slack_after old new x (ground_of a.owners b) r.owners_in bounds.variables id slack (r.are_slacked id slack e);
}

-- at first

abbrev pub no_atoms : AtomsView
no_atoms = record { owners = []; sums = []; slack_list = [] }

abbrev pub no_bounds : BoundsView
no_bounds = record { variables = 0; held = []; room = 0 }

pub right_first : (t : TableView) → AtomsFit t no_atoms empty_assignment no_bounds
right_first t = record {
  counted = refl;
  within = omega arith;
  owners_in = λ y id e. absurd (none_here y id e);
  once = λ x y id e h. absurd (none_here x id e);
  grounded = omega arith;
  sums = record { each = All-nil (IsSum (ground_of [] empty_assignment)); rows = λ r there. absurd (members.none r there) };
  are_slacked = λ id slack e. absurd (no_place slack e);
}
  where
    none_here : (y : ℕ) (id : TermId) → owner_at [] y ≡ Some id → ⊥
    none_here y id e = let lt = owner_below [] y id e in omega (arith, lt)

    no_place : (slack : Slack) → (let o : Option Slack = None in o) ≡ Some slack → ⊥
    no_place slack e = cc
