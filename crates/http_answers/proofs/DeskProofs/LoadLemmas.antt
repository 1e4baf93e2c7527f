-- A file that is read is loaded.
use Rattle.std.proofs.Common.{◌≡◌, ℕ, List, None, sym, ◌∙◌, ap}
use Rattle.conf_model.specs.Configurations.{Configuration}
use Rattle.layer_model.specs.Annotations.{Annotations}
use Rattle.layer_core.specs.declared.command.Command.TheVariants.{Load}
use Rattle.layer_undo.specs.Desks.{DeskState}
use Rattle.ann_reader.specs.Lines.{lines_of}
use Rattle.ann_reader.specs.AnnFaults.{ann_fault, layer_of}
use Rattle.http_answers.specs.Desk.DeskAnswers.{commanded, loaded, loaded_but}

-- the layer of a file without a fault is the one that is loaded
pub loaded_is : (desk : DeskState) (conf : Configuration) (text bytes : List ℕ) (layer : Annotations) → conf ≡ desk.conf → text ≡ desk.text
    → ann_fault conf text bytes ≡ None → layer ≡ layer_of conf (lines_of bytes) → commanded desk (Load layer) ≡ loaded desk bytes
loaded_is desk conf text bytes layer conf_is text_is none said =
    ap (λ (l : Annotations). commanded desk (Load l)) (said ∙ ap (λ (c : Configuration). layer_of c (lines_of bytes)) conf_is)
    ∙ ap (loaded_but desk bytes) (sym (ap (λ (c : Configuration). ann_fault c desk.text bytes) (sym conf_is) ∙ (ap (λ (t : List ℕ). ann_fault conf t bytes) (sym text_is) ∙ none)))
