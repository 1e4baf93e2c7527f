-- What is read of a founding is what its entry tells.
use Rattle.std.proofs.Common.{◌≡◌, ℕ, ◌==◌, ◌<◌, ◌≤◌, Bool, true, false, cond, List, Option, Some, None, IfSome, option_map, refl, sym, ◌∙◌, ap, subst}
use Rattle.std.specs.Arc.{arc_value}
use Rattle.std.proofs.lemmas.Bool.{eqb-true}
use Rattle.entry_bytes.specs.declared.entry.Entry.{Entry}
use Rattle.entry_bytes.specs.declared.entry.Entry.TheVariants as entry
use Rattle.entry_bytes.specs.declared.person.Person.{Person}
use Rattle.conf_model.specs.ConfText.{conf_text}
use Rattle.conf_model.specs.Configurations.{Configuration}
use Rattle.project_machine.specs.Entries.{founding_entry}
use Rattle.project_machine.specs.Legal.{IsFounding}
use Rattle.project_machine.specs.Requests.{Happened, Founded}
use Rattle.project_state.specs.declared.entries.founding.Founding.{Founding}
use Rattle.project_state.specs.Entries.Founding.{founded, IsFoundingOf, IsReadBack}
use Rattle.project_state.specs.Entries.FoundingReading.{IsOfFields, ReadsAt, ReadsFields, ReadsFounding}

-- ---- each founding of an entry is told

told_by : (conf : Configuration) (level : ℕ) (people : List Person) (told : Option Founding) (b : Bool) → (level == 255) ≡ b → IsFounding conf level people → IsReadBack conf
    → ReadsFounding (cond b (entry.Found (conf_text conf) people) (entry.FoundAt (conf_text conf) people level)) told → option_map founded told ≡ Some (Founded conf level people)
told_by conf level people told true is founding back reads =
    let at : level ≡ 255 = eqb-true level 255 is in
    (subst (λ (l : ℕ). ReadsFields (conf_text conf) people l told) (sym at) reads).told_is conf founding back refl
told_by conf level people told false is founding back reads =
    (subst (λ (b : Bool). ReadsAt b (conf_text conf) people level told) is reads).told_is conf founding back refl

pub founding_told : (e : Entry) (told : Option Founding) → ReadsFounding e told → (conf : Configuration) (level : ℕ) (people : List Person) → IsFoundingOf e conf level people → IsReadBack conf
    → option_map founded told ≡ Some (Founded conf level people)
founding_told e told reads = λ conf level people of back.
    told_by conf level people told (level == 255) refl of.founding back (subst (λ (x : Entry). ReadsFounding x told) (sym of.entry) reads)

-- ---- what is told has the entry

fields_founding : (conf : List ℕ) (people : List Person) (level : ℕ) (founding : Founding) → IsOfFields conf people level founding → IsFounding (arc_value founding.conf) founding.level founding.roster
fields_founding conf people level founding is =
    subst (λ (l : ℕ). IsFounding (arc_value founding.conf) l founding.roster) (sym is.level_is)
    (subst (λ (ps : List Person). IsFounding (arc_value founding.conf) level ps) (sym is.people_are) is.founding_is)

fields_entry : (conf : List ℕ) (people : List Person) (level : ℕ) (founding : Founding) → IsOfFields conf people level founding
    → founding_entry (conf_text (arc_value founding.conf)) founding.roster founding.level ≡ founding_entry conf people level
fields_entry conf people level founding is =
    ap (λ (t : List ℕ). founding_entry t founding.roster founding.level) is.conf_is
    ∙ (ap (λ (ps : List Person). founding_entry conf ps founding.level) is.people_are ∙ ap (λ (l : ℕ). founding_entry conf people l) is.level_is)

fields_of : (conf : List ℕ) (people : List Person) (level : ℕ) (e : Entry) (told : Option Founding) → founding_entry conf people level ≡ e → IfSome told (IsOfFields conf people level)
    → IfSome told (λ founding. IsFoundingOf e (arc_value founding.conf) founding.level founding.roster)
fields_of conf people level e None same found = tt
fields_of conf people level e (Some founding) same found =
    record { founding = fields_founding conf people level founding found; entry = fields_entry conf people level founding found ∙ same }

nothing : (e : Entry) (told : Option Founding) → told ≡ None → IfSome told (λ founding. IsFoundingOf e (arc_value founding.conf) founding.level founding.roster)
nothing e told is = subst (λ (o : Option Founding). IfSome o (λ founding. IsFoundingOf e (arc_value founding.conf) founding.level founding.roster)) (sym is) tt

found_at : (conf : List ℕ) (people : List Person) (level : ℕ) (told : Option Founding) (b : Bool) → (level == 255) ≡ b → ReadsAt b conf people level told
    → IfSome told (λ founding. IsFoundingOf (entry.FoundAt conf people level) (arc_value founding.conf) founding.level founding.roster)
found_at conf people level told true is reads = nothing (entry.FoundAt conf people level) told reads
found_at conf people level told false is reads =
    fields_of conf people level (entry.FoundAt conf people level) told (ap (λ (b : Bool). cond b (entry.Found conf people) (entry.FoundAt conf people level)) is) reads.found

pub founding_found : (e : Entry) (told : Option Founding) → ReadsFounding e told → IfSome told (λ founding. IsFoundingOf e (arc_value founding.conf) founding.level founding.roster)
founding_found (entry.Found conf people) told reads = fields_of conf people 255 (entry.Found conf people) told refl reads.found
founding_found (entry.FoundAt conf people level) told reads = found_at conf people level told (level == 255) refl reads
founding_found e told reads = nothing e told reads
