-- What is read as two scripts is their bytes, and their bytes are read as them.
use Rattle.std.proofs.Common.{◌≡◌, ℕ, true, eqb, List, [], ◌∷◌, ◌++◌, length, Some, refl, sym, ap, ap₂, subst, ◌∙◌}
use Rattle.std.specs.List.{flat_map, AllByRecursion}
use Rattle.std.proofs.lemmas.Bool.{eqb-true}
use Rattle.std.proofs.lemmas.List.{append-nil, nil_from_length}
use Rattle.std.proofs.lemmas.List.Concat.{flat_map-cons}
use Rattle.std.proofs.lemmas.Option.{same_Some}
use Rattle.entry_bytes.specs.Fields.{u32_bytes}
use Rattle.entry_bytes.proofs.Exact.{IsBytes, and_then_some, cond_some, Taking, Again, both_take, both_again}
use Rattle.conf_model.specs.Configurations.{Configuration}
use Rattle.layer_core.specs.declared.command.Command.{Command}
use Rattle.layer_core.specs.declared.command.Command.TheVariants as ask
use Rattle.command_bytes.specs.CommandBytes.{command_bytes, script_bytes, scripts_bytes}
use Rattle.command_bytes.specs.WritableCommands.{is_plain, IsScript, AreScripts}
use Rattle.command_bytes.specs.CommandReading.{command_at, list_at, scripts_at, scripts_alone, scripts_of}
use Rattle.command_bytes.proofs.FieldLemmas.{list_takes, list_again}
use Rattle.command_bytes.proofs.CommandLemmas.{command_takes, command_again}

abbrev pub Two : Type 0
Two = List Command × List Command

script_takes : (conf : Configuration) (text : List ℕ) → Taking (script_bytes conf text) (IsScript conf text) (list_at (command_at conf text))
unfolding script_bytes
script_takes conf text = record {
  takes = λ bytes commands rest fits e.
      let t = (list_takes (command_takes conf text)).takes bytes commands rest fits e in
      (t.0, record { count = t.1.0; each = t.1.1 });
}

script_again : (conf : Configuration) (text : List ℕ) → Again (script_bytes conf text) (IsScript conf text) (list_at (command_at conf text))
unfolding script_bytes
script_again conf text = record { again = λ commands rest fits. (list_again (command_again conf text)).again commands rest (fits.count, fits.each) }

pub is_written : (conf : Configuration) (text bytes : List ℕ) (scripts : Two) → IsBytes bytes → scripts_of conf text bytes ≡ Some scripts → AreScripts conf text scripts.0 scripts.1 × (scripts_bytes conf text scripts.0 scripts.1 ≡ bytes)
unfolding scripts_of scripts_at
is_written conf text bytes scripts fits read =
    let x = and_then_some scripts_alone (scripts_at conf text bytes) scripts read in
    let end = cond_some (eqb (length x.0.1) 0) x.0.0 scripts x.2 in
    let t = (both_take (script_takes conf text) (script_takes conf text)).takes bytes x.0.0 x.0.1 fits x.1 in
    let nothing : x.0.1 ≡ [] = nil_from_length x.0.1 (eqb-true _ _ end.0) in
    let put = scripts_bytes conf text x.0.0.0 x.0.0.1 in
    let whole : put ≡ bytes = sym (t.0.parts ∙ ap (λ (l : List ℕ). put ++ l) nothing ∙ append-nil put) in
    subst (λ (d : Two). AreScripts conf text d.0 d.1 × (scripts_bytes conf text d.0 d.1 ≡ bytes)) end.1 (t.1, whole)

pub is_read : (conf : Configuration) (text : List ℕ) (done undone : List Command) → AreScripts conf text done undone → scripts_of conf text (scripts_bytes conf text done undone) ≡ Some (done, undone)
unfolding scripts_of scripts_at
is_read conf text done undone is =
    let put = scripts_bytes conf text done undone in
    let read : scripts_at conf text put ≡ Some ((done, undone), []) = ap (scripts_at conf text) (sym (append-nil put)) ∙ (both_again (script_again conf text) (script_again conf text)).again (done, undone) [] is in
    rw read refl

pub are_same : (conf : Configuration) (text : List ℕ) (done undone did undid : List Command) → AreScripts conf text done undone → AreScripts conf text did undid
    → scripts_bytes conf text done undone ≡ scripts_bytes conf text did undid → (done ≡ did) × (undone ≡ undid)
are_same conf text done undone did undid first second same =
    let e : (done, undone) ≡ (did, undid) = same_Some (done, undone) (did, undid) (sym (is_read conf text done undone first) ∙ ap (scripts_of conf text) same ∙ is_read conf text did undid second) in
    (ap (λ (x : Two). x.0) e, ap (λ (x : Two). x.1) e)

-- ---- scripts without loads

pub plain_same : (c : Command) → is_plain c ≡ true → (a b : Configuration) (text other : List ℕ) → command_bytes a text c ≡ command_bytes b other c
plain_same (ask.AddSpan kind frags) h a b text other = refl
plain_same (ask.RetypeSpan id kind) h a b text other = refl
plain_same (ask.MoveSpan id frags) h a b text other = refl
plain_same (ask.AddEvent kind trigger args) h a b text other = refl
plain_same (ask.AddArg id arg) h a b text other = refl
plain_same (ask.RemoveArg id arg) h a b text other = refl
plain_same (ask.AddRelation kind first second) h a b text other = refl
plain_same (ask.SetAttribute kind target value) h a b text other = refl
plain_same (ask.ClearAttribute id) h a b text other = refl
plain_same (ask.Equate kind members) h a b text other = refl
plain_same (ask.Unequate kind id) h a b text other = refl
plain_same (ask.SetNote target kind note) h a b text other = refl
plain_same (ask.SetReference target store entry shown) h a b text other = refl
plain_same (ask.Delete id) h a b text other = refl
plain_same (ask.Purge id) h a b text other = refl
plain_same (ask.Load layer) h a b text other = absurd cc

all_same : (commands : List Command) → AllByRecursion (λ c. is_plain c ≡ true) commands → (a b : Configuration) (text other : List ℕ) → flat_map (command_bytes a text) commands ≡ flat_map (command_bytes b other) commands
all_same [] h a b text other = refl
all_same (c ∷ cs) h a b text other =
    flat_map-cons (command_bytes a text) c cs ∙ ap₂ (λ (x y : List ℕ). x ++ y) (plain_same c h.0 a b text other) (all_same cs h.1 a b text other) ∙ sym (flat_map-cons (command_bytes b other) c cs)

pub script_same : (commands : List Command) → AllByRecursion (λ c. is_plain c ≡ true) commands → (a b : Configuration) (text other : List ℕ) → script_bytes a text commands ≡ script_bytes b other commands
unfolding script_bytes
script_same commands h a b text other = ap (λ (l : List ℕ). u32_bytes (length commands) ++ l) (all_same commands h a b text other)
