use Rattle.std.proofs.Common.{◌≡◌, Ok, subst}
use Rattle.conf_model.specs.Configurations.{Configuration}
use Rattle.conf_model.specs.ConfOf.{conf_of}
use Rattle.conf_model.specs.ConfText.{conf_text}
use Rattle.conf_model.specs.Sound.{IsSound}
use Rattle.conf_model.proofs.conf.Conf.reads_back.Goals as goal

pub returns-clause-again : goal.returns-clause-again
returns-clause-again c = subst (λ (conf : Configuration). conf_of (conf_text conf) ≡ Ok conf) c.self.view_is c.self.invariant.again

pub returns-clause-sound : goal.returns-clause-sound
returns-clause-sound c = subst (λ (conf : Configuration). IsSound conf) c.self.view_is c.self.invariant.sound
