-- The terms that the text of a proof assumes. Source: Alethe specification, commands.
use Rattle.std.specs.Prelude.{ℕ, Bool, true, false, List, [], ◌∷◌, None, Ok, Err}
use Rattle.spec_text.specs.Trees.{Trees, list, none, more}
use Rattle.spec_sorts.specs.Terms.{Term}
use Rattle.spec_sorts.specs.Written.{built}
use Rattle.spec_proofs.specs.Faults.{Read}
use Rattle.spec_proofs.specs.Texts.{all_lexemes, begins_listed}
use Rattle.spec_checking.specs.Commands.{Known, Statement, assumed, stepped, nothing, Command}
use Rattle.spec_checking.specs.Good.{commands_in}

-- the trees of a list that comes alone, or the trees as they are where the commands are in no list
abbrev pub trees_listed : Bool → Trees → Trees
trees_listed false ts = ts
trees_listed true none = none
trees_listed true (more (list at us end) ts) = us
trees_listed true (more t ts) = none

-- the commands of a proof's whole text, after the word `unsat` or without it, in a list or not
abbrev pub commands_of_text : List ℕ → Trees
commands_of_text text = trees_listed (begins_listed (all_lexemes text)) (built (all_lexemes text)).here

-- the term of an assume, before those that are assumed later
abbrev pub with_assumed : Statement → List Term → List Term
with_assumed (assumed at n t) later = t ∷ later
with_assumed (stepped s) later = later
with_assumed (nothing at) later = later

-- the terms that commands assume, in their order
abbrev pub terms_assumed : List Command → List Term
terms_assumed [] = []
terms_assumed (c ∷ cs) = with_assumed c.statement (terms_assumed cs)

-- those of commands that can be read
abbrev pub assumed_by : Read (List Command) → List Term
assumed_by (Ok cs) = terms_assumed cs
assumed_by (Err f) = []

-- the terms that a proof's text assumes under what is known before it, whatever the limits of a checker are
abbrev pub assumed_in : Known → List ℕ → List Term
assumed_in k text = assumed_by (commands_in None k (commands_of_text text))
