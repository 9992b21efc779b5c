-- What the negations of literals mean that the code reads.
use Rattle.std.specs.Prelude.{Bool, true, false, Option, Some, None}
use Rattle.spec_arithmetic.specs.Contradictions as sums
use Rattle.term_core.specs.declared.ids.TermId.{TermId}
use Rattle.term_core.specs.declared.ids.Lit.{Lit}
use Rattle.term_core.specs.declared.nodes.Head.{Head}
use Rattle.term_core.specs.declared.nodes.Head.TheVariants as heads
use Rattle.term_core.specs.Tables.{TableView, IsIn, term_at}
use Rattle.linear_form.specs.declared.literals.Relation.{Relation}
use Rattle.linear_form.specs.declared.literals.Relation.TheVariants as relations
use Rattle.linear_form.specs.declared.literals.Negation.{Negation}

-- how a difference compares with 0, by the code's word
abbrev pub relation_meant : Relation → sums.Relation
relation_meant relations.Zero = sums.is_nought
relation_meant relations.BelowZero = sums.is_below
relation_meant relations.AtMostZero = sums.is_at_most

-- what a negation says of the terms of a table
abbrev pub one_meant : TableView → Negation → sums.Negation
one_meant t n = record {
  relation = relation_meant n.relation;
  atom = term_at t n.atom;
  left = term_at t n.left;
  right = term_at t n.right;
}

-- the same, where there is one
abbrev pub negation_meant : TableView → Option Negation → Option sums.Negation
negation_meant t None = None
negation_meant t (Some n) = Some (one_meant t n)

-- both numbers are of the table
abbrev pub AreSidesIn : TableView → Negation → Type 0
AreSidesIn t n = IsIn t n.left × IsIn t n.right

-- the same, where there is a negation
abbrev pub HasSidesIn : TableView → Option Negation → Type 0
HasSidesIn t None = Unit {0}
HasSidesIn t (Some n) = AreSidesIn t n

-- what the difference of two numbers of an atom is to 0
abbrev pub difference_is : Relation → TermId → TermId → TermId → Option Negation
difference_is r atom left right = Some (record { relation = r; atom = atom; left = left; right = right })

-- what is stated by the head of an atom of two numbers, meant so
abbrev pub denial_by_sign : Head → Bool → TermId → TermId → TermId → Option Negation
denial_by_sign heads.Equal false atom left right = difference_is relations.Zero atom left right
denial_by_sign heads.Less false atom left right = difference_is relations.BelowZero atom left right
denial_by_sign heads.Less true atom left right = difference_is relations.AtMostZero atom right left
denial_by_sign heads.AtMost false atom left right = difference_is relations.AtMostZero atom left right
denial_by_sign heads.AtMost true atom left right = difference_is relations.BelowZero atom right left
denial_by_sign h positive atom left right = None

-- what the negation of a literal with this head before two numbers says
abbrev pub denial_by : Head → Lit → TermId → TermId → Option Negation
denial_by h l left right = denial_by_sign h l.positive l.term left right
