-- Two files with all that a configuration can say, and what they say.
use Rattle.std.specs.Prelude.{◌≡◌, ℕ, Bool, true, false, List, [], ◌∷◌, ◌++◌, Option, Some, None, Err, codes, decimal}
use Rattle.std.specs.List.{flat_map, range_with_len}
use Rattle.type_hierarchy.specs.declared.type_row.TypeRow.{TypeRow}
use Rattle.conf_model.specs.declared.conf_fault.ConfWhat.{ConfWhat}
use Rattle.conf_model.specs.Configurations.{Configuration}
use Rattle.conf_model.specs.declared.alternatives.Alternatives.{Alternatives}
use Rattle.conf_model.specs.ConfOf.{conf_of}

-- a text has its first fault at a line
abbrev pub FaultAt : List ℕ → ℕ → ConfWhat → Type 0
FaultAt text line what = conf_of text ≡ Err (record { line = line; what = what })

-- named types alone
abbrev pub only : List ℕ → Alternatives
only places = record { entity = false; event = false; any = false; relation = false; bound = places; between = [] }

-- all entity types, and named types
abbrev pub entities_and : List ℕ → Alternatives
entities_and places = record { entity = true; event = false; any = false; relation = false; bound = places; between = [] }

-- all event types, named types and relation types
abbrev pub events_and : List ℕ → List ℕ → Alternatives
events_and places relations = record { entity = false; event = true; any = false; relation = false; bound = places; between = relations }

-- all types
abbrev pub either : Alternatives
either = record { entity = false; event = false; any = true; relation = false; bound = []; between = [] }

-- a row of the tree of types
abbrev pub row : List ℕ → Option ℕ → Bool → Bool → TypeRow
row name None usable event = record { name = name; parent = None; usable = usable; event = event }
row name (Some parent) usable event = record { name = name; parent = Some (record { n = parent }); usable = usable; event = event }

-- a file with each section
abbrev pub meetings_file : List ℕ
meetings_file = codes "[entities]\n!Agent\n\tPerson\n\tOrganization\nLocation\n\n[relations]\nLocated\tArg1:Person, Arg2:Location\nEquiv\tArg1:<ENTITY>, Arg2:<ENTITY>, <REL-TYPE>:symmetric-transitive\n\n[events]\nMeet\tWho+:Agent, Place?:Location\nPair\tMember{2}:Agent\n\n[attributes]\nNegation\tArg:<EVENT>\nConfidence\tArg:<EVENT>, Value:High|Neutral|Low\n"

-- its canonical text
abbrev pub meetings_text : List ℕ
meetings_text = codes "[entities]\n!Agent\n\tPerson\n\tOrganization\nLocation\n[relations]\nLocated\tArg1:Person, Arg2:Location\nEquiv\tArg1:<ENTITY>, Arg2:<ENTITY>, <REL-TYPE>:symmetric-transitive\n[events]\nMeet\tWho+:Agent, Place?:Location\nPair\tMember{2}:Agent\n[attributes]\nNegation\tArg:<EVENT>\nConfidence\tArg:<EVENT>, Value:High|Neutral|Low\n"

-- what it says
unfoldable pub meetings : Configuration
meetings = record {
  types =
      row (codes "Agent") None false false ∷ row (codes "Person") (Some 0) true false ∷ row (codes "Organization") (Some 0) true false
      ∷ row (codes "Location") None true false ∷ row (codes "Meet") None true true ∷ row (codes "Pair") None true true ∷ [];
  roles =
      [] ∷ [] ∷ [] ∷ []
      ∷ (record { name = codes "Who"; least = 1; most = 4294967295; targets = only (0 ∷ []) }
      ∷ record { name = codes "Place"; least = 0; most = 1; targets = only (3 ∷ []) } ∷ [])
      ∷ (record { name = codes "Member"; least = 2; most = 2; targets = only (0 ∷ []) } ∷ []) ∷ [];
  relations =
      record { name = codes "Located"; first = codes "Arg1"; second = codes "Arg2"; equivalence = false; lines = record { first = only (1 ∷ []); second = only (3 ∷ []) } ∷ [] }
      ∷ record { name = codes "Equiv"; first = codes "Arg1"; second = codes "Arg2"; equivalence = true; lines = record { first = entities_and []; second = entities_and [] } ∷ [] } ∷ [];
  attributes =
      record { name = codes "Negation"; targets = events_and [] []; values = [] }
      ∷ record { name = codes "Confidence"; targets = events_and [] []; values = codes "High" ∷ codes "Neutral" ∷ codes "Low" ∷ [] } ∷ [];
  overlaps = [];
}

-- a file with macros, overlaps, an attribute of relations, a relation type on two lines, returns, a comment, hyphens and no last line end
abbrev pub macros_file : List ℕ
macros_file = codes "# comment\r\n<ALL>=A|<EVENT>\r\n----\r\n[attributes]\r\nSure\tArg:R|<ALL>\r\nAny\tArg:<ANY>, <X>:y\r\n[events]\r\nE\tX{1-3}:<ALL>,Y*:A|B\r\n[relations]\n  R\tP:A, Q:B\nR\tP:B, Q:<ANY>\n<OVERLAP>\tArg1:A, Arg2:<ALL>, <OVL-TYPE>:contain|<ANY>\n[entities]\nA\tpassed over\n\tB"

-- its canonical text
abbrev pub macros_text : List ℕ
macros_text = codes "[entities]\nA\n\tB\n[relations]\nR\tP:A, Q:B\nR\tP:B, Q:<ANY>\n<OVERLAP>\tArg1:A, Arg2:<EVENT>|A, <OVL-TYPE>:contain|<ANY>\n[events]\nE\tX{1-3}:<EVENT>|A, Y*:A|B\n[attributes]\nSure\tArg:<EVENT>|A|R\nAny\tArg:<ANY>\n"

-- what it says
unfoldable pub macros : Configuration
macros = record {
  types = row (codes "A") None true false ∷ row (codes "B") (Some 0) true false ∷ row (codes "E") None true true ∷ [];
  roles =
      [] ∷ []
      ∷ (record { name = codes "X"; least = 1; most = 3; targets = events_and (0 ∷ []) [] }
      ∷ record { name = codes "Y"; least = 0; most = 4294967295; targets = only (0 ∷ 1 ∷ []) } ∷ []) ∷ [];
  relations =
      record {
        name = codes "R";
        first = codes "P";
        second = codes "Q";
        equivalence = false;
        lines = record { first = only (0 ∷ []); second = only (1 ∷ []) } ∷ record { first = only (1 ∷ []); second = either } ∷ [];
      } ∷ [];
  attributes =
      record { name = codes "Sure"; targets = events_and (0 ∷ []) (0 ∷ []); values = [] } ∷ record { name = codes "Any"; targets = either; values = [] } ∷ [];
  overlaps = record { first = only (0 ∷ []); second = events_and (0 ∷ []) []; contain = true; equal = false; cross = false; any = true } ∷ [];
}

-- a file with so many types
abbrev pub types_file : ℕ → List ℕ
types_file count = codes "[entities]\n" ++ flat_map (λ n. codes "T" ++ decimal n ++ codes "\n") (range_with_len 0 count)
