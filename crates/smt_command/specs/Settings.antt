-- What the names of logics and options mean, in the words of the definitions.
use Rattle.std.specs.Prelude.{◌≡◌, true, false, Option, Some, None, codes}
use Rattle.spec_text.specs.Bytes.{Name, among}
use Rattle.spec_commands.specs.Stack.{logics, Key, success_key, models_key, proofs_key, assertions_key, cores_key}
use Rattle.spec_commands.specs.Stack.{assumptions_key, global_key}
use Rattle.smt_command.specs.declared.settings.Logic.{Logic}
use Rattle.smt_command.specs.declared.settings.Logic.TheVariants as code
use Rattle.smt_command.specs.declared.settings.OptionKey.{OptionKey}
use Rattle.smt_command.specs.declared.settings.OptionKey.TheVariants as keys

-- the name of a logic
abbrev pub logic_name : Logic → Name
logic_name code.QfUflra = codes "QF_UFLRA"
logic_name code.QfUf = codes "QF_UF"
logic_name code.QfLra = codes "QF_LRA"
logic_name code.QfRdl = codes "QF_RDL"
logic_name code.All = codes "ALL"

-- the logic of a name that is among those known, or none where it is not
abbrev pub IsLogicNamed : Name → Option Logic → Type 0
IsLogicNamed n (Some l) = (among logics n ≡ true) × (n ≡ logic_name l)
IsLogicNamed n None = among logics n ≡ false

-- an option's name in the words of the definitions
abbrev pub key_meant : OptionKey → Key
key_meant keys.PrintSuccess = success_key
key_meant keys.ProduceModels = models_key
key_meant keys.ProduceProofs = proofs_key
key_meant keys.ProduceAssertions = assertions_key
key_meant keys.ProduceUnsatCores = cores_key
key_meant keys.ProduceUnsatAssumptions = assumptions_key
key_meant keys.GlobalDeclarations = global_key
