-- What every configuration keeps.
use Rattle.std.specs.Prelude.{◌≡◌, ◌≤◌, length, Ok}
use Rattle.conf_model.specs.Configurations.{AttributeType, Configuration}
use Rattle.conf_model.specs.ConfOf.{conf_of}
use Rattle.conf_model.specs.ConfText.{conf_text}
use Rattle.conf_model.specs.Sound.{IsSound}
use Rattle.std.specs.List.{All}

-- it is sound, its canonical text is read as it, and its tables have at most 256 rows
pub record IsKept (conf : Configuration) : Type 0 where
  pub sound : IsSound conf
  pub again : conf_of (conf_text conf) ≡ Ok conf
  pub few_relations : length conf.relations ≤ 256
  pub few_attributes : length conf.attributes ≤ 256
  pub few_roles : All (λ roles. length roles ≤ 256) conf.roles
  pub few_values : All (λ (attribute : AttributeType). length attribute.values ≤ 256) conf.attributes
