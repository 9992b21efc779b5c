-- How long the line of a fault is.
use Rattle.std.proofs.Common.{ℕ, ◌<◌, ◌≤◌, ◌^◌, List, ◌++◌, length, refl, arith}
use Rattle.std.specs.Prelude.{codes, decimal, Result, Ok, Err, IsOk}
use Rattle.std.proofs.lemmas.Fmt.{length-decimal-le}
use Rattle.std.proofs.lemmas.List.{length-append}
use Rattle.world_io.specs.declared.fault.Failed.{Failed}
use Rattle.world_io.specs.Writing.{SinkView, HasRoom}
use Rattle.world_io.proofs.Sending.{room_for_less}
use Rattle.smt_session.specs.Sessions.{Delivers}
use Rattle.spec_text.specs.declared.Fault.{Fault}
use Rattle.spec_text.specs.declared.Fault.TheVariants as faults
use Rattle.spec_text.specs.Places.{name_of}
use Rattle.spec_proofs.specs.declared.ProofKind.{ProofKind}
use Rattle.spec_proofs.specs.declared.ProofKind.TheVariants as proofs
use Rattle.spec_proofs.specs.Faults.{fault_name}
use Rattle.spec_models.specs.Replies.{error_text}
use Rattle.spec_model_files.specs.declared.ModelKind.{ModelKind}
use Rattle.spec_model_files.specs.declared.ModelKind.TheVariants as models
use Rattle.spec_model_files.specs.Faults.{kind_name}
use Rattle.judge_run.specs.declared.verdict.FaultKind.{FaultKind}
use Rattle.judge_run.specs.declared.verdict.FaultKind.TheVariants as kinds
use Rattle.judge_run.specs.Calls.{kind_named}
use Rattle.judge_run.specs.Judgings.{longest_line}

text_name : (f : Fault) → length (name_of f) ≤ 20
text_name faults.BadChar = omega arith
text_name faults.UnclosedString = omega arith
text_name faults.UnclosedQuote = omega arith
text_name faults.UnclosedList = omega arith
text_name faults.StrayClose = omega arith
text_name faults.TooLong = omega arith
text_name faults.UnknownCommand = omega arith
text_name faults.BadShape = omega arith
text_name faults.UnknownSymbol = omega arith
text_name faults.UnknownSort = omega arith
text_name faults.Twice = omega arith
text_name faults.Reserved = omega arith
text_name faults.WrongCount = omega arith
text_name faults.WrongSort = omega arith
text_name faults.NotLinear = omega arith
text_name faults.ZeroDivisor = omega arith
text_name faults.NumberWide = omega arith
text_name faults.PopTooFar = omega arith
text_name faults.WrongMode = omega arith
text_name faults.NotEnabled = omega arith
text_name faults.UnknownLogic = omega arith
text_name faults.NotLiteral = omega arith
text_name faults.Full = omega arith
text_name faults.ValueWide = omega arith

proof_name : (k : ProofKind) → length (fault_name k) ≤ 20
proof_name (proofs.Lexical f) = text_name f
proof_name (proofs.Term f) = text_name f
proof_name proofs.BadShape = omega arith
proof_name proofs.TwiceName = omega arith
proof_name proofs.UnknownPremise = omega arith
proof_name proofs.UnknownRule = omega arith
proof_name proofs.NotAsserted = omega arith
proof_name proofs.RuleFails = omega arith
proof_name proofs.NoEmptyClause = omega arith
proof_name proofs.Wide = omega arith
proof_name proofs.NoSuchCheck = omega arith

model_name : (k : ModelKind) → length (kind_name k) ≤ 20
model_name (models.Lexical f) = text_name f
model_name models.BadShape = omega arith
model_name models.UnknownSymbol = omega arith
model_name models.Twice = omega arith
model_name models.WrongSort = omega arith
model_name models.NoSuchCheck = omega arith
model_name models.NumberWide = omega arith
model_name models.NotTrue = omega arith
model_name models.ValueWide = omega arith

kind_fits : (k : FaultKind) → length (kind_named k) ≤ 20
kind_fits (kinds.Proof k) = proof_name k
kind_fits (kinds.Model k) = model_name k

-- the line of a fault is no longer than the longest one
pub line_fits : (line col : ℕ) (k : FaultKind) → line < 2 ^ 64 → col < 2 ^ 64 → length (error_text line col (kind_named k)) ≤ longest_line
line_fits line col k l c =
    let name = kind_named k in
    let digits = length-decimal-le 20 line (omega arith) (omega (arith, l)) l in
    let columns = length-decimal-le 20 col (omega arith) (omega (arith, c)) c in
    let end = codes "\")\n" in
    let a = decimal line ++ codes ":" in
    let b = a ++ decimal col in
    let d = b ++ codes ": " in
    let e = d ++ name in
    omega (arith, digits, columns, kind_fits k, length-append (decimal line) (codes ":"), length-append a (decimal col), length-append b (codes ": "), length-append d name, length-append e end)

-- what fits into the longest line succeeds where there is room for that
pub fits_in : (x : List ℕ) (r : Result (Unit {0}) Failed) (a b : SinkView) → Delivers x r a b → length x ≤ longest_line → HasRoom a longest_line → IsOk r
fits_in x (Ok u) a b d l room = refl
fits_in x (Err e) a b d l room = absurd (d.room (room_for_less a longest_line (length x) l room))
