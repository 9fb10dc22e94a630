-- The order of a case's lines: its name, its source, then its calls. Each table says where a line leads and what is wrong with it.
use Rattle.std.specs.Prelude.{Some, None}
use Rattle.line.specs.declared.fault.Fault.{Fault}
use Rattle.line.specs.declared.fault.Fault.TheVariants.{NoCase, NoSource, SecondSource}
use Rattle.line.specs.declared.stage.Sort.{Sort}
use Rattle.line.specs.declared.stage.Sort.TheVariants.{Case, Source, Call, End, Unknown}
use Rattle.line.specs.declared.stage.Stage.{Stage}
use Rattle.line.specs.declared.stage.Stage.TheVariants.{Outside, Named, Ready}
use Rattle.line.specs.declared.stage.Turn.{Turn}

abbrev pub right : Stage → Turn
right s = record { stage = s; fault = None }

abbrev pub faulty : Stage → Fault → Turn
faulty s f = record { stage = s; fault = Some f }

-- only a name begins a case
abbrev pub after_outside : Sort → Turn
after_outside Case = right Named
after_outside Source = faulty Outside NoCase
after_outside Call = faulty Outside NoCase
after_outside End = faulty Outside NoCase
after_outside Unknown = right Outside

-- then comes the source, and nothing else
abbrev pub after_named : Sort → Turn
after_named Case = faulty Named NoSource
after_named Source = right Ready
after_named Call = faulty Named NoSource
after_named End = faulty Outside NoSource
after_named Unknown = right Named

-- then calls, and no other source; a new name may stand for the end
abbrev pub after_ready : Sort → Turn
after_ready Case = right Named
after_ready Source = faulty Ready SecondSource
after_ready Call = right Ready
after_ready End = right Outside
after_ready Unknown = right Ready

abbrev pub following : Stage → Sort → Turn
following Outside s = after_outside s
following Named s = after_named s
following Ready s = after_ready s
