-- What the judge's stop is for a log.
use Rattle.rule_bool.specs.declared.rule_stop.RuleStop.{RuleStop}
use Rattle.rule_bool.specs.declared.rule_stop.RuleStop.TheVariants.{Fails, Wide as is_wide, Memory as no_memory}
use Rattle.proof_log.specs.declared.log_fault.LogFault.{LogFault}
use Rattle.proof_log.specs.declared.log_fault.LogFault.TheVariants.{RuleFails, Wide, Memory}

-- the fault that a stop is
abbrev pub fault_of : RuleStop → LogFault
fault_of Fails = RuleFails
fault_of is_wide = Wide
fault_of no_memory = Memory
