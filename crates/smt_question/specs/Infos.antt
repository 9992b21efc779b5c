-- What the names of infos mean, in the words of the definitions.
use Rattle.spec_sessions.specs.Replies.{Info, name_info, version_info, authors_info, behavior_info, unknown_info}
use Rattle.spec_sessions.specs.Replies.{levels_info}
use Rattle.smt_question.specs.declared.infos.Info.{Info as CodeInfo}
use Rattle.smt_question.specs.declared.infos.Info.TheVariants as code

-- an info's name in the words of the definitions
abbrev pub info_meant : CodeInfo → Info
info_meant code.Name = name_info
info_meant code.Version = version_info
info_meant code.Authors = authors_info
info_meant code.ErrorBehavior = behavior_info
info_meant code.ReasonUnknown = unknown_info
info_meant code.AssertionStackLevels = levels_info
