-- What is asked of what alternatives hold, without the names themselves (private calls only).
use Rattle.std.specs.Prelude.{◌≡◌, ℕ, ◌||◌, ◌&&◌, not, false, List, Option, option_map, take, length, map}
use Rattle.std.specs.List.{list_any}
use Rattle.annotation_conf.specs.declared.faults_macros.Kinds.{Kinds}
use Rattle.conf_model.specs.ConfPairs.{Alternative}
use Rattle.conf_model.specs.ConfNames.{File, MacroLine, Holding, built_in}
use Rattle.conf_model.specs.ConfFaults.{is_among, names_of, bound_names, declared_names}
use Rattle.annotation_conf.specs.KnownFiles.{held_by}

-- the sorts that alternatives hold, and whether some name is declared, and that of no entity or event type
abbrev pub kinds_of : File → Holding → Kinds
kinds_of file holding = record {
  entity = holding.entity;
  event = holding.event;
  any = holding.any;
  relation = holding.relation;
  no_type = list_any (λ name. is_among (declared_names file) name && not (is_among (names_of (bound_names file)) name)) holding.names;
}

-- the sorts of some macros
abbrev pub kinds_of_macros : File → List MacroLine → List Kinds
kinds_of_macros file macros = map (λ macro. kinds_of file macro.holding) macros

-- the sorts of an alternative, where it names a type or one of the first so many macros
abbrev pub kinds_by : File → ℕ → Alternative → Option Kinds
kinds_by file count alternative = option_map (kinds_of file) (held_by (take count file.macros) alternative)

-- these are the sorts of the first macros
abbrev pub AreFirstKinds : File → List Kinds → Type 0
AreFirstKinds file kinds = kinds ≡ kinds_of_macros file (take (length kinds) file.macros)

-- what one or the other holds
abbrev pub either_kinds : Kinds → Kinds → Kinds
either_kinds a b = record {
  entity = a.entity || b.entity;
  event = a.event || b.event;
  any = a.any || b.any;
  relation = a.relation || b.relation;
  no_type = a.no_type || b.no_type;
}

-- nothing is held
abbrev pub no_kinds : Kinds
no_kinds = record { entity = false; event = false; any = false; relation = false; no_type = false }

-- what a built-in macro holds
abbrev pub AreBuiltIn : List ℕ → Option Kinds → Type 0
AreBuiltIn name kinds = (file : File) → kinds ≡ option_map (kinds_of file) (built_in name)
