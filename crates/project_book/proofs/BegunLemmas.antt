-- Some history there is: the shortest begins with a founding of the empty configuration, one annotator and one curator.
use Rattle.std.proofs.Common.{◌≤◌, true, false, List, [], ◌∷◌, length, refl, arith}
use Rattle.std.specs.Prelude.{codes}
use Rattle.std.specs.List.{All}
use Rattle.std.specs.List.Sorted.{IsStrictlySortedBy}
use Rattle.std.specs.Str.{chars, is_utf8}
use lib.Utf8.{encode}
use Rattle.std.proofs.lemmas.Str.{IsUtf8-from_is_utf8}
use Rattle.mark_base.specs.Names.{slug_fault}
use Rattle.entry_bytes.specs.declared.person.Person.{Person}
use Rattle.entry_bytes.specs.Fields.{IsSlug}
use Rattle.type_hierarchy.specs.TypeFaults.{bad_parent, fault_of, name_twice}
use Rattle.conf_model.specs.ConfText.{conf_text}
use Rattle.conf_model.specs.Sound.{IsSound}
use Rattle.project_machine.specs.History.{encoded, unfounded}
use Rattle.project_machine.specs.Legal.{legal_founding}
use Rattle.project_machine.specs.Opening.{IsBegun}
use Rattle.project_machine.specs.People.{IsRoster}
use Rattle.project_machine.specs.Requests.{Founded}

nothing : {X : Type 0} (P : X → Type 0) → All P []
nothing P k d within = absurd (omega arith)

-- a configuration that declares nothing is sound
empty_is_sound : IsSound unfounded.conf
unfolding fault_of name_twice bad_parent
empty_is_sound = record {
  types = refl;
  names = nothing _;
  entities_first = refl;
  tree = refl;
  entity_steps = refl;
  event_steps = refl;
  roles_each = refl;
  entity_roles = refl;
  roles = nothing _;
  relations_few = omega arith;
  relations_differ = refl;
  relations = nothing _;
  attributes_few = omega arith;
  attributes_differ = refl;
  attributes = nothing _;
  overlaps = nothing _;
}

empty_is_short : length (conf_text unfounded.conf) ≤ 4194304
unfolding conf_text
empty_is_short = omega arith

people : List Person
people = record { name = codes "a"; curator = false } ∷ record { name = codes "c"; curator = true } ∷ []

slug_a : IsSlug (codes "a")
unfolding slug_fault is_utf8 chars encode
slug_a = record { utf8 = IsUtf8-from_is_utf8 (codes "a") refl; spelling = refl }

slug_c : IsSlug (codes "c")
unfolding slug_fault is_utf8 chars encode
slug_c = record { utf8 = IsUtf8-from_is_utf8 (codes "c") refl; spelling = refl }

people_are : IsRoster people
unfolding people IsStrictlySortedBy
people_are = record {
  ascending = ((refl, tt), (tt, tt));
  names = (slug_a, (slug_c, tt));
  sorts = record { some_annotator = omega arith; few_annotators = omega arith; some_curator = omega arith; few_curators = omega arith };
}

-- each history begins with no entry, and there is one
pub nothing_begins : IsBegun []
nothing_begins = record {
  log = Founded unfounded.conf 255 people ∷ [];
  legal = legal_founding unfounded.conf 255 people (record { sound = empty_is_sound; short = empty_is_short; in_range = omega arith; roster = people_are });
  more = encoded (Founded unfounded.conf 255 people ∷ []);
  told = refl;
}
