-- Why there is no project to try, in the words of what was asked.
use Rattle.std.proofs.Common.{◌≡◌, ℕ, List, inl, inr, ap, subst, ◌∙◌}
use Rattle.std.specs.Prelude.{◌≢◌, codes}
use Rattle.entry_bytes.specs.declared.person.Person.{Person}
use Rattle.conf_model.specs.Configurations.{Configuration}
use Rattle.project_machine.specs.Requests.{AddText, Checkout, Happened}
use Rattle.project_book.specs.Founding.{founded}
use Rattle.program_inputs.specs.declared.trouble.Trouble.{Trouble}
use Rattle.program_inputs.specs.declared.trouble.Trouble.TheVariants as trouble
use Rattle.project_commands.specs.Commands.Requests.{AddsText, RefusesTo}
use Rattle.project_commands.specs.Commands.Trying.{NotTried, try_founded, try_people}

-- the text was not added
pub not_added : {conf : Configuration} {text desk name : List ℕ} {log : List Happened} {people : List Person} {why : Trouble} → log ≡ founded conf 255 people → people ≡ try_people
    → desk ≡ codes "desk" → name ≡ codes "text" → RefusesTo log desk (AddText name text) why → why ≢ trouble.DiskFailed → NotTried conf text why
not_added {conf} {text} {desk} {name} {log} {people} {why} log_is people_is desk_is name_is refused sure =
    let named : RefusesTo log desk (AddText (codes "text") text) why = subst (λ n. RefusesTo log desk (AddText n text) why) name_is refused in
    let asked : RefusesTo log (codes "desk") (AddText (codes "text") text) why = subst (λ d. RefusesTo log d (AddText (codes "text") text) why) desk_is named in
    let begun : log ≡ try_founded conf = log_is ∙ ap (founded conf 255) people_is in
    record { told = inr (inl (subst (λ l. RefusesTo l (codes "desk") (AddText (codes "text") text) why) begun asked)); sure = sure }

-- the text was added, and the layer was not handed out
pub not_out : {conf : Configuration} {text desk you name taken : List ℕ} {tokens : ℕ} {log behind : List Happened} {people : List Person} {why : Trouble} → log ≡ founded conf 255 people
    → people ≡ try_people → desk ≡ codes "desk" → name ≡ codes "text" → you ≡ codes "you" → taken ≡ codes "text" → AddsText log desk name text tokens behind
    → RefusesTo behind you (Checkout taken) why → why ≢ trouble.DiskFailed → NotTried conf text why
not_out {conf} {text} {desk} {you} {name} {taken} {tokens} {log} {behind} {people} {why} log_is people_is desk_is name_is you_is taken_is added refused sure =
    let begun : log ≡ try_founded conf = log_is ∙ ap (founded conf 255) people_is in
    let named : AddsText log desk (codes "text") text tokens behind = subst (λ n. AddsText log desk n text tokens behind) name_is added in
    let asked : AddsText log (codes "desk") (codes "text") text tokens behind = subst (λ d. AddsText log d (codes "text") text tokens behind) desk_is named in
    let on : RefusesTo behind you (Checkout (codes "text")) why = subst (λ n. RefusesTo behind you (Checkout n) why) taken_is refused in
    record {
      told = inr (inr record {
        tokens = tokens;
        behind = behind;
        added = subst (λ l. AddsText l (codes "desk") (codes "text") text tokens behind) begun asked;
        refused = subst (λ y. RefusesTo behind y (Checkout (codes "text")) why) you_is on;
      });
      sure = sure;
    }
