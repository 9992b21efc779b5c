-- What the values mean that reading names gives.
use Rattle.std.specs.Prelude.{option_map, Result, Ok, Err}
use Rattle.spec_text.specs.Answers.{Answer}
use Rattle.spec_text.specs.Faults.{Located}
use Rattle.spec_reading.specs.Names.{Setting}
use Rattle.term_reader.specs.declared.faults.TermFault.{TermFault}
use Rattle.term_reader.specs.declared.names.Setting as code

-- a fault with its offset, in the words of the definitions
abbrev pub located_of : TermFault → Located
located_of f = record { offset = f.offset; fault = f.fault }

-- a result by what its value means, or its fault
abbrev pub answered : {A B : Type 0} → (A → B) → Result A TermFault → Answer B
answered f (Ok a) = Ok (f a)
answered f (Err e) = Err (located_of e)

-- a setting of the code
abbrev pub setting_meant : code.Setting → Setting
setting_meant w = record { kept_names = w.kept_names; may_name = w.may_name; own = option_map (λ name. name.now) w.own }
