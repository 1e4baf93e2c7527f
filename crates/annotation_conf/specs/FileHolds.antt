-- The macros of a file from what is kept of them: each holds what its alternatives hold by the macros before it (private calls only).
use Rattle.std.specs.Prelude.{List, [], ◌∷◌, ◌++◌}
use Rattle.conf_model.specs.ConfNames.{MacroLine, all_held}
use Rattle.annotation_conf.specs.FileKept.{KeptMacro}

-- a macro behind those before it
abbrev pub held_behind : List MacroLine → KeptMacro → MacroLine
held_behind before macro = record { number = macro.number; name = macro.name; alternatives = macro.alternatives; holding = all_held before macro.alternatives }

-- macros behind those before them
abbrev pub held_from : List MacroLine → List KeptMacro → List MacroLine
held_from before [] = before
held_from before (macro ∷ macros) = held_from (before ++ held_behind before macro ∷ []) macros
