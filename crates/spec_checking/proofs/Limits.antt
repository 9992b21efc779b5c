-- What is good within limits is good without them.
use Rattle.std.proofs.Common.{◌≡◌, ℕ, List, [], ◌∷◌, Option, None, ap, refl}
use Rattle.std.specs.Prelude.{Ok}
use Rattle.spec_text.specs.Answers.{Answer}
use Rattle.spec_text.specs.Shapes.{Word}
use Rattle.spec_text.specs.Trees.{Tree, Trees, atom, list, none, more}
use Rattle.spec_text.proofs.AnswerLaws.{went, joined}
use Rattle.spec_sorts.specs.Terms.{Truth}
use Rattle.spec_sorts.specs.Signatures.{Definition, Signature, with_definitions}
use Rattle.spec_reading.specs.Names.{proof}
use Rattle.spec_reading.specs.Reading.{Reading, Readings, reading_of_sort}
use Rattle.spec_reading.specs.Definitions as definitions
use Rattle.spec_reading.specs.Definitions.{definitions_in}
use Rattle.spec_commands.specs.Stack.{terms_defined}
use Rattle.spec_checking.specs.Commands.{Known, Command, Shape, assumes, steps, defines, shape_of}
use Rattle.spec_checking.specs.Reading.{fresh_name, named_in, named_in_all, in_proof, room, literals_in, roomy_literals, roomy_formula, roomy_definitions, read_shape, shaped, command_of}
use Rattle.spec_checking.specs.Judging.{with_command}
use Rattle.spec_checking.specs.Good.{commands_in, AreGood}
use Rattle.spec_checking.proofs.Sound.{read_ok, formula_ok, literals_ok, definitions_ok}

-- what is read of a text without a fault
read_as : {A : Type 0} (words : List Word) (a : Answer A) (x : A) → a ≡ Ok x → in_proof words a ≡ Ok x
unfolding in_proof
read_as words a x e = ap (in_proof words) e

-- what is read within a limit is read without one
formula_loose : (limit : Option ℕ) (at : ℕ) (s : Signature) (t : Tree) (words : List Word) (r : Reading) → in_proof words (roomy_formula limit at s t) ≡ Ok r → in_proof words (roomy_formula None at s t) ≡ Ok r
unfolding roomy_formula
formula_loose limit at s t words r e =
    let was = formula_ok limit at s t r (read_ok words (roomy_formula limit at s t) r e) in
    read_as words (roomy_formula None at s t) r (joined (reading_of_sort proof s [] Truth t) _ r r was (joined (room None at (with_definitions s r.made) (r.term ∷ [])) _ tt r refl refl))

literals_loose : (limit : Option ℕ) (at : ℕ) (s : Signature) (ts : Trees) (words : List Word) (r : Readings) → in_proof words (roomy_literals limit at s ts) ≡ Ok r → in_proof words (roomy_literals None at s ts) ≡ Ok r
unfolding roomy_literals
literals_loose limit at s ts words r e =
    let was = literals_ok limit at s ts r (read_ok words (roomy_literals limit at s ts) r e) in
    read_as words (roomy_literals None at s ts) r (joined (literals_in s ts) _ r r was (joined (room None at (with_definitions s r.made) r.terms) _ tt r refl refl))

definitions_loose : (limit : Option ℕ) (at : ℕ) (s : Signature) (d : definitions.Parts) (words : List Word) (ds : List Definition) → in_proof words (roomy_definitions limit at s d) ≡ Ok ds → in_proof words (roomy_definitions None at s d) ≡ Ok ds
unfolding roomy_definitions
definitions_loose limit at s d words ds e =
    let was = definitions_ok limit at s d ds (read_ok words (roomy_definitions limit at s d) ds e) in
    read_as words (roomy_definitions None at s d) ds (joined (definitions_in proof s d) _ ds ds was (joined (room None at (with_definitions s ds) (terms_defined ds)) _ tt ds refl refl))

shape_loose : (limit : Option ℕ) (k : Known) (at : ℕ) (s : Shape) (c : Command) → read_shape limit k at s ≡ Ok c → read_shape None k at s ≡ Ok c
unfolding read_shape
shape_loose limit k at (assumes h t) c e =
    let n = went (fresh_name k h) _ c e in
    let r = went (in_proof (named_in t) (roomy_formula limit at k.scope t)) _ c n.then in
    joined (fresh_name k h) _ n.first c n.was
    (joined (in_proof (named_in t) (roomy_formula None at k.scope t)) _ r.first c (formula_loose limit at k.scope t (named_in t) r.first r.was) r.then)
shape_loose limit k at (steps p) c e =
    let n = went (fresh_name k p.name) _ c e in
    let r = went (in_proof (named_in_all p.literals) (roomy_literals limit at k.scope p.literals)) _ c n.then in
    joined (fresh_name k p.name) _ n.first c n.was
    (joined (in_proof (named_in_all p.literals) (roomy_literals None at k.scope p.literals)) _ r.first c (literals_loose limit at k.scope p.literals (named_in_all p.literals) r.first r.was) r.then)
shape_loose limit k at (defines d) c e =
    let words = d.name ∷ named_in d.body in
    let ds = went (in_proof words (roomy_definitions limit at k.scope d)) _ c e in
    joined (in_proof words (roomy_definitions None at k.scope d)) _ ds.first c (definitions_loose limit at k.scope d words ds.first ds.was) ds.then

command_loose : (limit : Option ℕ) (k : Known) (t : Tree) (c : Command) → command_of limit k t ≡ Ok c → command_of None k t ≡ Ok c
unfolding command_of
command_loose limit k (atom at kind n) c e = e
command_loose limit k (list at ts end) c e =
    let s = went (shaped at (shape_of ts)) _ c e in
    joined (shaped at (shape_of ts)) _ s.first c s.was (shape_loose limit k at s.first c s.then)

commands_loose : (limit : Option ℕ) (k : Known) (ts : Trees) (cs : List Command) → commands_in limit k ts ≡ Ok cs → commands_in None k ts ≡ Ok cs
unfolding commands_in
commands_loose limit k none cs e = e
commands_loose limit k (more t ts) cs e =
    let a = went (command_of limit k t) _ cs e in
    let b = went (commands_in limit (with_command k a.first) ts) _ cs a.then in
    joined (command_of None k t) _ a.first cs (command_loose limit k t a.first a.was)
    (joined (commands_in None (with_command k a.first) ts) _ b.first cs (commands_loose limit (with_command k a.first) ts b.first b.was) b.then)

-- commands that are good within a limit are good without one
pub good_loose : (limit : Option ℕ) (k : Known) (ts : Trees) → AreGood limit k ts → AreGood None k ts
good_loose limit k ts g = record { commands = g.commands; read = commands_loose limit k ts g.commands g.read; right = g.right; empty = g.empty }
