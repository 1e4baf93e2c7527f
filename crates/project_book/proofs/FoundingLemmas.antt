-- What a project begins with.
use Rattle.std.proofs.Common.{◌≡◌, ℕ, ◌<◌, ◌≤◌, false, List, [], ◌∷◌, ◌++◌, length, map, nat_lt, Option, Some, None, IfSome, option_map, refl, sym, ◌∙◌, ap, subst, arith}
use Rattle.std.specs.Prelude.{Ok}
use Rattle.std.proofs.lemmas.Bool.{ltb-false, or_parts}
use Rattle.entry_bytes.specs.declared.entry.Entry.{Entry}
use Rattle.entry_bytes.specs.declared.person.Person.{Person}
use Rattle.entry_bytes.specs.Entries.{entry_bytes}
use Rattle.conf_model.specs.Configurations.{Configuration}
use Rattle.conf_model.specs.ConfText.{conf_text}
use Rattle.conf_model.specs.Sound as configuration
use Rattle.label_tracks.specs.Levels.{Grouping, grouping_of}
use Rattle.kappa_alpha.specs.Standing.{Standing}
use Rattle.project_journal.specs.Keeper.{IsEntry, IsKeptOrDoubt, IsKeptOrOneMore}
use Rattle.project_journal.specs.Stops.{LeavesOnly}
use Rattle.project_machine.specs.ProjectState.{ProjectState, annotators}
use Rattle.project_machine.specs.People.{IsRoster}
use Rattle.project_machine.specs.Requests.{Happened, Founded}
use Rattle.project_machine.specs.Entries.{founding_entry}
use Rattle.project_machine.specs.History.{after, effect, encoded, unfounded}
use Rattle.project_machine.specs.Legal.{HasRoom, IsFounding, IsLegal, legal_founding}
use Rattle.project_machine.specs.Tables.{labelled, standing_of}
use Rattle.project_machine.specs.Asking.{IsKeptBy, IsNext}
use Rattle.project_state.specs.declared.change.Change.{Change}
use Rattle.project_state.specs.Values.{happened_of}
use Rattle.project_book.specs.Keeping.{AreTables, Stands, TellsKeeper}
use Rattle.project_book.proofs.BookLemmas.{leaves_still, or_more}
use Rattle.project_book.specs.declared.found_fault.FoundFault.{FoundFault}
use Rattle.project_book.specs.declared.found_fault.FoundFault.TheVariants as fault
use Rattle.project_book.specs.Founding.{IsEntryMade, IsEntryRefusal, IsFoundRefusal, founded, founding_bytes, is_too_long}

-- what is not too long can be founded
pub can_found : (conf : Configuration) (level : ℕ) (people : List Person) → configuration.IsSound conf → IsRoster people → level < 256 → is_too_long conf level people ≡ false → IsFounding conf level people
can_found conf level people sound roster low fits = record {
  sound = sound;
  short = ltb-false 4194304 (length (conf_text conf)) (or_parts (nat_lt 16777216 (length (founding_bytes conf level people))) (nat_lt 4194304 (length (conf_text conf))) fits).1;
  in_range = low;
  roster = roster;
}

pub founding_is_entry : (conf : Configuration) (level : ℕ) (people : List Person) (entry : List ℕ) → ((e : Entry) → 1 ≤ length (entry_bytes e)) → entry ≡ founding_bytes conf level people → is_too_long conf level people ≡ false → IsEntry entry
founding_is_entry conf level people entry some is fits = subst IsEntry (sym is) (record {
  some = some (founding_entry (conf_text conf) people level);
  most = ltb-false 16777216 (length (founding_bytes conf level people)) (or_parts (nat_lt 16777216 (length (founding_bytes conf level people))) (nat_lt 4194304 (length (conf_text conf))) fits).0;
})

-- the tables of a project without documents
pub tables_blank : (s : ProjectState) (raters categories : ℕ) (groups : Grouping) (tables : Standing) → groups ≡ grouping_of s.conf.types s.level → s.documents ≡ [] → raters ≡ length (annotators s) → categories ≡ groups.width
    → tables ≡ record { raters = raters; categories = categories; documents = []; spare = 0 } → AreTables s tables
tables_blank s raters categories groups tables grouped none counted wide made =
    let right : record { raters = raters; categories = categories; documents = []; spare = 0 } ≡ standing_of s 0 =
    ap (λ (n : ℕ). record { raters = n; categories = categories; documents = []; spare = 0 }) counted
    ∙ (ap (λ (n : ℕ). record { raters = length (annotators s); categories = n; documents = []; spare = 0 }) (wide ∙ ap (λ (g : Grouping). g.width) grouped)
    ∙ ap (λ ds. record { raters = length (annotators s); categories = (grouping_of s.conf.types s.level).width; documents = map (labelled s) ds; spare = 0 }) (sym none)) in
    made ∙ right ∙ ap (standing_of s) (sym (ap (λ (t : Standing). t.spare) made))

told_founded : (conf : Configuration) (level : ℕ) (people : List Person) (old : Option (List (List ℕ))) (entry : List ℕ) → IfSome old (λ told. told ≡ []) → entry ≡ founding_bytes conf level people
    → IfSome (option_map (λ entries. entries ++ entry ∷ []) old) (λ told. told ≡ encoded (founded conf level people))
told_founded conf level people None entry none is = tt
told_founded conf level people (Some told) entry none is = ap (λ es. es ++ entry ∷ []) none ∙ ap (λ bytes. bytes ∷ []) is

-- a book behind its founding
pub stands_founded : (conf : Configuration) (level : ℕ) (people : List Person) (log : List Happened) (state : ProjectState) (groups : Grouping) (tables : Standing) (old told : Option (List (List ℕ))) (doubt : Option (List ℕ)) (entry : List ℕ)
    → IsFounding conf level people → log ≡ founded conf level people → state ≡ after (founded conf level people) → groups ≡ grouping_of conf.types level → AreTables (after (founded conf level people)) tables
    → entry ≡ founding_bytes conf level people → IfSome old (λ kept. kept ≡ []) → told ≡ option_map (λ entries. entries ++ entry ∷ []) old → doubt ≡ None → Stands log state groups tables told doubt
stands_founded conf level people log state groups tables old told doubt entry founding logged is grouped tabled entered none kept certain = record {
  legal = subst IsLegal (sym logged) (legal_founding conf level people founding);
  room = subst HasRoom (sym logged) (omega arith);
  state_is = is ∙ ap after (sym logged);
  tables_are = subst (λ (s : ProjectState). AreTables s tables) (sym is) tabled;
  groups_are = grouped ∙ sym (ap (λ (s : ProjectState). grouping_of s.conf.types s.level) is);
  kept_is = subst (λ l. IsKeptBy l told doubt) (sym logged) (record {
    entries = subst (λ o. IfSome o (λ es. es ≡ encoded (founded conf level people))) (sym kept) (told_founded conf level people old entry none entered);
    next = subst (λ o. IfSome o (IsNext (founded conf level people))) (sym certain) tt;
  });
}

-- ---- a refusal before the keeper is asked

pub refused_so : (conf : Configuration) (level : ℕ) (people : List Person) (f : FoundFault) → IsEntryRefusal conf level people f → IsFoundRefusal conf level people f
refused_so conf level people (fault.EntryTooLong bytes) is = is
refused_so conf level people fault.Memory is = tt
refused_so conf level people fault.Keeper is = tt

pub not_the_keeper : (conf : Configuration) (level : ℕ) (people : List Person) (f : FoundFault) → IsEntryRefusal conf level people f → f ≡ fault.Keeper → ⊥
not_the_keeper conf level people f is e = subst (IsEntryRefusal conf level people) e is

-- ---- the parts of a beginning

pub state_founded : (conf conf_in : Configuration) (level : ℕ) (people people_in : List Person) (state : ProjectState) → state ≡ effect 1 (Founded conf_in level people_in) unfounded → conf_in ≡ conf → people_in ≡ people → state ≡ after (founded conf level people)
state_founded conf conf_in level people people_in state is same_conf same_people =
    is ∙ (ap (λ (c : Configuration). effect 1 (Founded c level people_in) unfounded) same_conf ∙ ap (λ (ps : List Person). effect 1 (Founded conf level ps) unfounded) same_people)

pub groups_founded : (conf conf_in : Configuration) (level : ℕ) (groups : Grouping) → groups ≡ grouping_of conf_in.types groups.level → groups.level ≡ level → conf_in ≡ conf → groups ≡ grouping_of conf.types level
groups_founded conf conf_in level groups is at same = is ∙ (ap (λ (l : ℕ). grouping_of conf_in.types l) at ∙ ap (λ (c : Configuration). grouping_of c.types level) same)

pub entry_founded : (conf conf_in : Configuration) (level : ℕ) (people : List Person) (state : ProjectState) (entry : List ℕ) → IsEntryMade conf_in state.level state.people (Ok entry) → conf_in ≡ conf → state ≡ after (founded conf level people)
    → (entry ≡ founding_bytes conf level people) × (is_too_long conf level people ≡ false)
entry_founded conf conf_in level people state entry made same is =
    subst (λ (s : ProjectState). IsEntryMade conf s.level s.people (Ok entry)) is (subst (λ (c : Configuration). IsEntryMade c state.level state.people (Ok entry)) same made)

pub log_founded : (conf conf_in : Configuration) (level : ℕ) (people : List Person) (log : List Happened) (change : Change) → log ≡ happened_of change ∷ [] → happened_of change ≡ Founded conf_in level people → conf_in ≡ conf → log ≡ founded conf level people
log_founded conf conf_in level people log change is told same =
    is ∙ (ap (λ (e : Happened). e ∷ []) told ∙ ap (λ (c : Configuration). Founded c level people ∷ []) same)

-- ---- where nothing was handed to the keeper

pub moment_founded : {K : Type 0} (kept : K → Option (List (List ℕ))) (doubt : K → Option (List ℕ)) (moment : K → ℕ) (left_since : K → ℕ → Option (List (List ℕ)) → Type 0)
    → ((k : K) (entries : List (List ℕ)) (found : Option (List (List ℕ))) → kept k ≡ Some entries → left_since k (moment k) found → IsKeptOrDoubt entries (doubt k) found)
    → (k : K) (entry : List ℕ) → doubt k ≡ None → kept k ≡ Some [] → LeavesOnly moment left_since k k (IsKeptOrOneMore [] None entry)
moment_founded kept doubt moment left_since now k entry certain told =
    leaves_still moment left_since k (IsKeptOrOneMore [] None entry) (λ found left. or_more [] None entry found (subst (λ d. IsKeptOrDoubt [] d found) certain (now k [] found told left)))

pub tells_nothing : {K : Type 0} (faults : K → ℕ) (faultless : K → Type 0) (k : K) (failed : Type 0) → (failed → ⊥) → TellsKeeper faults faultless k k failed
tells_nothing faults faultless k failed not_so = record {
  later = omega arith;
  cause = record { rose = λ f. absurd (not_so f); still = λ _. refl };
  stays = λ w. (w, refl);
  never = λ w f. not_so f;
}
