-- How the faults of annotation.conf are named.
use Rattle.std.specs.Prelude.{ℕ, List, codes}
use Rattle.conf_model.specs.declared.conf_fault.ConfWhat.{ConfWhat}
use Rattle.conf_model.specs.declared.conf_fault.ConfWhat.TheVariants as conf

-- the name of a fault of a configuration
abbrev pub conf_name : ConfWhat → List ℕ
conf_name conf.NotUtf8 = codes "NotUtf8"
conf_name conf.UnknownSection = codes "UnknownSection"
conf_name conf.SectionTwice = codes "SectionTwice"
conf_name conf.SectionMissing = codes "SectionMissing"
conf_name conf.OutsideSection = codes "OutsideSection"
conf_name conf.BadIndent = codes "BadIndent"
conf_name conf.BadName = codes "BadName"
conf_name conf.NameTwice = codes "NameTwice"
conf_name conf.BadCount = codes "BadCount"
conf_name conf.BadArgument = codes "BadArgument"
conf_name conf.UnknownTypeNamed = codes "UnknownTypeNamed"
conf_name conf.UnknownMacro = codes "UnknownMacro"
conf_name conf.TooManyTypes = codes "TooManyTypes"
