-- Good commands, one after the other.
use Rattle.std.proofs.Common.{◌≡◌, ℕ, Option, List, [], ◌∷◌, ◌++◌, Some, None, inl, inr, refl, sym, ap, subst}
use Rattle.std.specs.Prelude.{Ok, Err}
use Rattle.spec_text.specs.Trees.{Tree, Trees, none, more}
use Rattle.spec_text.proofs.AnswerLaws.{answer, went, joined}
use Rattle.spec_proofs.specs.Faults.{Fault, Read}
use Rattle.spec_checking.specs.Commands.{Known, Command}
use Rattle.spec_checking.specs.Reading.{command_of}
use Rattle.spec_checking.specs.Judging.{with_command, fault_of, wide_fault, IsRightAfter, HasEmptyClause, FaultBy, FirstFault}
use Rattle.spec_checking.specs.Good.{commands_in, known_after, AreRight, AreGood}

-- the first of a list
head_is : (c d : Command) (cs ds : List Command) → c ∷ cs ≡ d ∷ ds → c ≡ d
head_is c d cs ds e = cc

-- what is after it
tail_is : (c d : Command) (cs ds : List Command) → c ∷ cs ≡ d ∷ ds → cs ≡ ds
tail_is c d cs ds e = cc

-- a command that is right, before those that are right after it
right_before : (k : Known) (c : Command) (cs : List Command) → IsRightAfter k c.statement → AreRight (with_command k c) cs → AreRight k (c ∷ cs)
right_before k c cs one rest [] d after e = subst (λ (x : Command). IsRightAfter k x.statement) (head_is c d cs after e) one
right_before k c cs one rest (b ∷ bs) d after e = subst (λ x. IsRightAfter (known_after (with_command k x) bs) d.statement) (head_is c b cs (bs ++ d ∷ after) e) (rest bs d after (tail_is c b cs (bs ++ d ∷ after) e))

-- nothing is right
none_right : (k : Known) → AreRight k []
none_right k [] d after e = cc
none_right k (b ∷ bs) d after e = cc

-- no commands are good where a clause is empty already
pub good_end : (limit : Option ℕ) (k : Known) → HasEmptyClause k → AreGood limit k none
unfolding commands_in
good_end limit k h = record { commands = []; read = refl; right = none_right k; empty = h }

-- a command that is right is good before good ones
pub good_step : (limit : Option ℕ) (k : Known) (t : Tree) (ts : Trees) (c : Command) → command_of limit k t ≡ Ok c → IsRightAfter k c.statement → AreGood limit (with_command k c) ts → AreGood limit k (more t ts)
unfolding commands_in
good_step limit k t ts c e one rest = record {
  commands = c ∷ rest.commands;
  read = joined (command_of limit k t) _ c (c ∷ rest.commands) e (joined (commands_in limit (with_command k c) ts) _ rest.commands (c ∷ rest.commands) rest.read refl);
  right = right_before k c rest.commands one rest.right;
  empty = rest.empty;
}

-- commands without a fault are good
pub good : (limit : Option ℕ) (end : ℕ) (k : Known) (ts : Trees) → FirstFault limit k end None ts None → AreGood limit k ts
unfolding FirstFault
good limit end k none h = good_end limit k h
good limit end k (more t ts) h = go (command_of limit k t) refl h (λ next. good limit end next ts)
  where
    go : (o : Read Command) → command_of limit k t ≡ o → FaultBy k o (λ next. FirstFault limit next end None ts None) None → ((next : Known) → FirstFault limit next end None ts None → AreGood limit next ts) → AreGood limit k (more t ts)
    go (Err f) e h rec = cc
    go (Ok c) e (inl x) rec = good_step limit k t ts c e x.0 (rec (with_command k c) x.1)
    go (Ok c) e (inr (inl x)) rec = let none : None ≡ Some (wide_fault c.statement) = x.1 in cc
    go (Ok c) e (inr (inr x)) rec = let none : None ≡ Some (fault_of c.statement) = x.2 in cc

-- by the commands: those that are right, with an empty clause at the end, have no fault
by_list : (limit : Option ℕ) (end : ℕ) (k : Known) (ts : Trees) (cs : List Command) → commands_in limit k ts ≡ Ok cs → AreRight k cs → HasEmptyClause (known_after k cs) → FirstFault limit k end None ts None
unfolding FirstFault commands_in
by_list limit end k none cs e right empty = subst (λ x. HasEmptyClause (known_after k x)) (sym (answer (Ok []) cs e)) empty
by_list limit end k (more t ts) cs e right empty =
    let a = went (command_of limit k t) _ cs e in
    let b = went (commands_in limit (with_command k a.first) ts) _ cs a.then in
    let same : a.first ∷ b.first ≡ cs = answer (Ok (a.first ∷ b.first)) cs b.then in
    let all = subst (AreRight k) (sym same) right in
    let later = by_list limit end (with_command k a.first) ts b.first b.was (λ before d after s. all (a.first ∷ before) d after (ap (λ xs. a.first ∷ xs) s)) (subst (λ x. HasEmptyClause (known_after k x)) (sym same) empty) in
    subst (λ o. FaultBy k o (λ next. FirstFault limit next end None ts None) None) (sym a.was) (inl (all [] a.first b.first refl, later))

-- good commands have no fault
pub no_fault : (limit : Option ℕ) (end : ℕ) (k : Known) (ts : Trees) → AreGood limit k ts → FirstFault limit k end None ts None
no_fault limit end k ts g = by_list limit end k ts g.commands g.read g.right g.empty

-- where something ends the commands wrongly there is a fault
pub wrong_end : (limit : Option ℕ) (end : ℕ) (k : Known) (f : Fault) (ts : Trees) → FirstFault limit k end (Some f) ts None → ⊥
unfolding FirstFault
wrong_end limit end k f none h = let none : None ≡ Some f = h in cc
wrong_end limit end k f (more t ts) h = go (command_of limit k t) h (λ next. wrong_end limit end next f ts)
  where
    go : (o : Read Command) → FaultBy k o (λ next. FirstFault limit next end (Some f) ts None) None → ((next : Known) → FirstFault limit next end (Some f) ts None → ⊥) → ⊥
    go (Err g) h rec = let none : None ≡ Some g = h in cc
    go (Ok c) (inl x) rec = rec (with_command k c) x.1
    go (Ok c) (inr (inl x)) rec = let none : None ≡ Some (wide_fault c.statement) = x.1 in cc
    go (Ok c) (inr (inr x)) rec = let none : None ≡ Some (fault_of c.statement) = x.2 in cc
