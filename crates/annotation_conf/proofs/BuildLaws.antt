-- What a file without fault lets its configuration be built by.
use Rattle.std.proofs.Common.{◌≡◌, ℕ, List, length, map, sym, ◌∙◌, ap, arith}
use Rattle.std.proofs.lemmas.List.{length-map}
use Rattle.type_hierarchy.specs.declared.type_row.TypeRow.{TypeRow}
use Rattle.conf_model.specs.ConfNames.{NamedLine, File}
use Rattle.conf_model.specs.ConfFaults.{Declared, names_of, of_named, firsts, stands_twice}
use Rattle.conf_model.specs.ConfOf.{relation_of, configuration_of}
use Rattle.conf_model.specs.Configurations.{Configuration}
use Rattle.conf_model.specs.declared.role.Role.{Role}
use Rattle.conf_model.specs.declared.relation_type.RelationType.{RelationType}
use Rattle.conf_model.specs.declared.attribute_type.AttributeType.{AttributeType}
use Rattle.conf_model.specs.declared.overlap_line.Overlap.{Overlap}
use Rattle.conf_model.specs.Kept.{IsKept}
use Rattle.conf_model.specs.Sound.{IsSound}
use Rattle.annotation_conf.specs.BuildPlaces.{AreTables}
use Rattle.annotation_conf.specs.BuildTold.{IsFaultless}
use Rattle.annotation_conf.proofs.FaultLists.{map_twice}
use Rattle.annotation_conf.proofs.BuildTables.{keeps_faultless}
use Rattle.annotation_conf.proofs.SoundRead.{types_few_read, relations_few_read, attributes_few_read, roles_few_read, values_few_read}
use Rattle.annotation_conf.proofs.SoundSizes.{type_names_differ, names_are}
use Rattle.annotation_conf.proofs.SoundLaw.{sound}
use Rattle.annotation_conf.proofs.SoundRoundTrip.{read_back}

pub tables_are : (text : List ℕ) (file : File) → IsFaultless text file → AreTables file
tables_are text file faultless =
    let conf : Configuration = configuration_of file in
    let kept : IsSound conf = sound text conf faultless.says in
    let names : map (λ (r : RelationType). r.name) conf.relations ≡ names_of (of_named (firsts file.relations)) =
    map_twice (λ (r : RelationType). r.name) (relation_of file) (firsts file.relations)
    ∙ sym (map_twice (λ (one : Declared). one.name) (λ (l : NamedLine). record { number = l.number; name = l.name }) (firsts file.relations)) in
    record {
      types = record {
        differ = type_names_differ file (keeps_faultless text file faultless);
        few = omega (arith, types_few_read text conf faultless.says, ap length (names_are file), length-map conf.types (λ (row : TypeRow). row.name));
      };
      relations = record {
        differ = ap stands_twice (sym names) ∙ kept.relations_differ;
        few = omega (arith, relations_few_read text conf faultless.says, ap length names, length-map conf.relations (λ (r : RelationType). r.name));
      };
    }

pub kept_is : (text : List ℕ) (file : File) → IsFaultless text file → IsKept (configuration_of file)
kept_is text file faultless = record {
  sound = sound text (configuration_of file) faultless.says;
  again = read_back text (configuration_of file) faultless.says;
  few_relations = relations_few_read text (configuration_of file) faultless.says;
  few_attributes = attributes_few_read text (configuration_of file) faultless.says;
  few_roles = roles_few_read text (configuration_of file) faultless.says;
  few_values = values_few_read text (configuration_of file) faultless.says;
}

tables : List TypeRow → List (List Role) → List RelationType → List AttributeType → List Overlap → Configuration
tables t r l a o = record { types = t; roles = r; relations = l; attributes = a; overlaps = o }

pub conf_same : (file : File) (t : List TypeRow) (r : List (List Role)) (l : List RelationType) (a : List AttributeType) (o : List Overlap)
    → t ≡ (configuration_of file).types → r ≡ (configuration_of file).roles → l ≡ (configuration_of file).relations
    → a ≡ (configuration_of file).attributes → o ≡ (configuration_of file).overlaps
    → ◌≡◌ {A = Configuration} (record { types = t; roles = r; relations = l; attributes = a; overlaps = o }) (configuration_of file)
unfolding tables
conf_same file t r l a o p q s u v =
    let c : Configuration = configuration_of file in
    ap (λ x. tables x r l a o) p ∙ ap (λ x. tables c.types x l a o) q ∙ ap (λ x. tables c.types c.roles x a o) s
    ∙ ap (λ x. tables c.types c.roles c.relations x o) u ∙ ap (λ x. tables c.types c.roles c.relations c.attributes x) v
