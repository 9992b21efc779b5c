-- Why a proof is not accepted, with places.
use Rattle.std.specs.Prelude.{ℕ, List, Result, Err, codes}
use Rattle.spec_text.specs.declared.Fault.{Fault as TextFault}
use Rattle.spec_text.specs.declared.Fault.TheVariants as faults
use Rattle.spec_text.specs.Places.{name_of}
use Rattle.spec_text.specs.Faults.{Located}
use Rattle.spec_proofs.specs.declared.ProofKind.{ProofKind}
use Rattle.spec_proofs.specs.declared.ProofKind.TheVariants.{Lexical, BadShape, TwiceName, UnknownPremise, UnknownRule}
use Rattle.spec_proofs.specs.declared.ProofKind.TheVariants.{NotAsserted, RuleFails, NoEmptyClause, Wide, Term}
use Rattle.spec_proofs.specs.declared.ProofKind.TheVariants.{NoSuchCheck}

-- the name that is printed
abbrev pub fault_name : ProofKind → List ℕ
fault_name (Lexical f) = name_of f
fault_name BadShape = codes "BadShape"
fault_name TwiceName = codes "TwiceName"
fault_name UnknownPremise = codes "UnknownPremise"
fault_name UnknownRule = codes "UnknownRule"
fault_name NotAsserted = codes "NotAsserted"
fault_name RuleFails = codes "RuleFails"
fault_name NoEmptyClause = codes "NoEmptyClause"
fault_name Wide = codes "Wide"
fault_name (Term f) = name_of f
fault_name NoSuchCheck = codes "NoSuchCheck"

-- the number, P1 to P11
abbrev pub fault_number : ProofKind → ℕ
fault_number (Lexical f) = 1
fault_number BadShape = 2
fault_number TwiceName = 3
fault_number UnknownPremise = 4
fault_number UnknownRule = 5
fault_number NotAsserted = 6
fault_number RuleFails = 7
fault_number NoEmptyClause = 8
fault_number Wide = 9
fault_number (Term f) = 10
fault_number NoSuchCheck = 11

-- Why a proof isn't accepted, with the offset that it is at.
pub record Fault : Type 0 where
  -- the offset in the proof
  pub offset : ℕ
  -- what is wrong
  pub kind : ProofKind

-- a fault by its offset and its kind
abbrev pub fault_at : ℕ → ProofKind → Fault
fault_at at k = record { offset = at; kind = k }

-- what a fault of reading a term is in a proof
abbrev pub term_kind : TextFault → ProofKind
term_kind faults.BadShape = BadShape
term_kind f = Term f

-- the fault of a term in a proof
abbrev pub term_fault : Located → Fault
term_fault f = fault_at f.offset (term_kind f.fault)

-- a fault after which the proof cannot be read on
abbrev pub text_fault : Located → Fault
text_fault f = fault_at f.offset (Lexical f.fault)

-- what was read, or the fault
abbrev pub Read : Type 0 → Type 0
Read A = Result A Fault

-- a fault at an offset
abbrev pub wrong : {A : Type 0} → ℕ → ProofKind → Read A
wrong at k = Err (fault_at at k)
