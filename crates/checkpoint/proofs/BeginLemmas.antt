-- The founding of the first piece.
use Rattle.std.proofs.Common.{◌≡◌, ℕ, ◌<◌, ◌==◌, Bool, true, false, cond, List, Some, None, sym, ◌∙◌, ap, subst, arith}
use Rattle.std.specs.Prelude.{IfNone, Option, option_map}
use Rattle.std.specs.Arc.{arc_value}
use Rattle.entry_bytes.specs.declared.entry.Entry.{Entry}
use Rattle.entry_bytes.specs.declared.entry.Entry.TheVariants as entry
use Rattle.entry_bytes.specs.Entries.{IsEntry, entry_bytes}
use Rattle.entry_bytes.specs.declared.person.Person.{Person}
use Rattle.conf_model.specs.Configurations.{Configuration}
use Rattle.conf_model.specs.ConfText.{conf_text}
use Rattle.project_machine.specs.Legal.{IsFounding}
use Rattle.project_machine.specs.People.{IsRoster}
use Rattle.project_machine.specs.Requests.{Founded}
use Rattle.project_state.specs.Entries.Founding.{IsFoundingOf, founded}
use Rattle.project_state.specs.declared.entries.founding.Founding.{Founding}
use Rattle.checkpoint.specs.declared.so_far.SoFar.{SoFar}
use Rattle.checkpoint.specs.Reading.{Begins, Reads}
use Rattle.checkpoint.specs.Runs.{IsBegunBy, IsBegunWith, IsReadAs, IsReadBy}

none_some : {X : Type 0} (x : X) → None ≡ Some x → ⊥
none_some x e = cc

fields : (b : Bool) (text conf : List ℕ) (ps people : List Person) (level : ℕ) → cond b (entry.Found text ps) (entry.FoundAt text ps level) ≡ entry.Found conf people → (text ≡ conf) × (ps ≡ people)
fields true text conf ps people level e = (cc, cc)
fields false text conf ps people level e = absurd cc

-- a project can be founded so at any level
pub at_any_level : (conf : List ℕ) (people : List Person) (f : Founding) → IsFoundingOf (entry.Found conf people) (arc_value f.conf) f.level f.roster → ((level : ℕ) → level < 256 → IsFounding (arc_value f.conf) level people) × ((f.roster ≡ people) × (conf ≡ conf_text (arc_value f.conf)))
at_any_level conf people f of =
    let same : (conf_text (arc_value f.conf) ≡ conf) × (f.roster ≡ people) = fields (f.level == 255) (conf_text (arc_value f.conf)) conf f.roster people f.level of.entry in
    (λ level low. record { sound = of.founding.sound; short = of.founding.short; in_range = low; roster = subst IsRoster same.1 of.founding.roster }, (same.1, sym same.0))

-- and where none is told, none can be founded so
pub no_founding : (conf : List ℕ) (people : List Person) → ((c : Configuration) (level : ℕ) (ps : List Person) → IsFoundingOf (entry.Found conf people) c level ps → option_map founded None ≡ Some (Founded c level ps)) → (c : Configuration) (level : ℕ) → IsFounding c level people → conf ≡ conf_text c → ⊥
no_founding conf people told c level is e =
    none_some (Founded c 255 people) (told c 255 people (record { founding = record { sound = is.sound; short = is.short; in_range = omega arith; roster = is.roster }; entry = ap (λ (t : List ℕ). entry.Found t people) (sym e) }))

pub none_told : (conf : List ℕ) (people : List Person) (told : Option Founding) → ((c : Configuration) (level : ℕ) (ps : List Person) → IsFoundingOf (entry.Found conf people) c level ps → option_map founded told ≡ Some (Founded c level ps)) → IfNone told ((c : Configuration) (level : ℕ) → IsFounding c level people → conf ≡ conf_text c → ⊥)
none_told conf people None told = no_founding conf people told
none_told conf people (Some f) told = tt

-- what an entry leaves as the first piece, its bytes leave
pub begun_so : ((d e : Entry) → IsEntry d → IsEntry e → entry_bytes d ≡ entry_bytes e → d ≡ e) → (e : Entry) (bytes : List ℕ) (found : Option SoFar) → IsEntry e → entry_bytes e ≡ bytes → IsBegunWith e found → IsBegunBy bytes found
begun_so no_two e bytes None entered is none = λ d so other same b. none so (subst (λ (x : Entry). Begins x so) (no_two d e other entered (same ∙ sym is)) b)
begun_so no_two e bytes (Some so) entered is b = (e, entered, is, b)

-- and so it is of the pieces behind it
pub read_so : ((d e : Entry) → IsEntry d → IsEntry e → entry_bytes d ≡ entry_bytes e → d ≡ e) → (so : SoFar) (e : Entry) (bytes : List ℕ) (found : Option SoFar) → IsEntry e → entry_bytes e ≡ bytes → IsReadAs so e found → IsReadBy so bytes found
read_so no_two so e bytes None entered is none = λ d now other same b. none now (subst (λ (x : Entry). Reads so x now) (no_two d e other entered (same ∙ sym is)) b)
read_so no_two so e bytes (Some now) entered is b = (e, entered, is, b)
