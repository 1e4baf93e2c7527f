-- The layer of lines and the commands of bytes are read again.
use Rattle.std.proofs.Common.{◌≡◌, ℕ, ◌+◌, ◌<◌, ◌≤◌, List, [], ◌∷◌, ◌++◌, length, Option, Some, None, refl, sym, ◌∙◌, ap, subst, arith, length-append}
use Rattle.std.specs.Prelude.{chars, encode_utf8_all, option_map, IsUtf8, MatchOption}
use Rattle.std.specs.List.{flat_map, AllByRecursion}
use Rattle.std.proofs.lemmas.List.Concat.{flat_map-cons}
use Rattle.entry_bytes.specs.Fields.{u32_bytes, text_bytes}
use Rattle.conf_model.specs.Configurations.{Configuration}
use Rattle.conf_model.specs.Sound.{IsSound}
use Rattle.layer_model.specs.Annotations.{Annotations}
use Rattle.layer_model.specs.Layers.{IsLayer}
use Rattle.layer_core.specs.declared.command.Command.{Command}
use Rattle.layer_core.specs.declared.command.Command.TheVariants as ask
use Rattle.layer_rules.specs.WellFormed.{IsWellFormed}
use Rattle.ann_reader.specs.AnnFaults.{ann_fault}
use Rattle.ann_reader.specs.AnnFiles.{IsAnn}
use Rattle.ann_reader.specs.LineFaults.{Fault}
use Rattle.ann_writer.specs.AnnOf.{ann_of}
use Rattle.ann_writer.specs.Writable.{IsOfProgram}
use Rattle.command_bytes.specs.declared.script_reading.Scripts.{Scripts}
use Rattle.command_bytes.specs.CommandBytes.{command_bytes, script_bytes, scripts_bytes}
use Rattle.command_bytes.specs.WritableCommands.{CanBeWritten, LoadsAgain, IsReadAgain, IsScript, AreScripts}
use Rattle.command_bytes.specs.CommandReading.{scripts_of}
use Rattle.command_bytes.specs.CommandValues.{AreCommands, IsCommand, IsTypedLayer}
use Rattle.project_state.specs.Entries.Reading.{ReadsLayer, ReadsScripts}
use Rattle.project_state.proofs.EntriesProofs.SizeLemmas.{text_size}

none_some : (x : Fault) → None ≡ Some x → ⊥
none_some x e = cc

-- a configuration and a text of a program
pub record IsOfText (conf : Configuration) (text : List ℕ) : Type 0 where
  pub sound : IsSound conf
  pub short : length text ≤ 200000
  pub valid : IsUtf8 (encode_utf8_all text)
  pub characters : chars (encode_utf8_all text) ≡ text

of_program : (conf : Configuration) (text : List ℕ) (layer : Annotations) → IsOfText conf text → IsTypedLayer layer → IsOfProgram conf text layer
of_program conf text layer h typed = record { sound = h.sound; kept = typed.kept; texts = typed.texts; short = h.short; valid = h.valid; characters = h.characters }

-- ---- laws of .ann files

abbrev pub ReadBack : Type 0
ReadBack = (conf : Configuration) (text : List ℕ) (layer : Annotations) → IsOfProgram conf text layer → IsWellFormed conf (length text) layer → IsAnn conf text (ann_of conf text layer) layer

abbrev pub AtMostOne : Type 0
AtMostOne = (conf : Configuration) (text bytes : List ℕ) (a b : Annotations) → IsLayer a → IsLayer b → IsAnn conf text bytes a → IsAnn conf text bytes b → a ≡ b

abbrev pub Faultless : Type 0
Faultless = (conf : Configuration) (text bytes : List ℕ) (layer : Annotations) → IsLayer layer → IsAnn conf text bytes layer → ann_fault conf text bytes ≡ None

file_of : ReadBack → (conf : Configuration) (text lines : List ℕ) (layer : Annotations) → IsOfText conf text → IsTypedLayer layer → IsWellFormed conf (length text) layer → lines ≡ ann_of conf text layer → IsAnn conf text lines layer
file_of back conf text lines layer h typed well e = subst (λ (l : List ℕ). IsAnn conf text l layer) (sym e) (back conf text layer (of_program conf text layer h typed) well)

-- the layer that is read is the one whose lines these are
pub layer_is : ReadBack → AtMostOne → (conf : Configuration) (text lines : List ℕ) (found : Annotations) → IsOfText conf text → IsLayer found → IsAnn conf text lines found → ReadsLayer conf text lines (Some found)
layer_is back one conf text lines found h is ann = λ layer typed well e short. ap Some (one conf text lines found layer is typed.kept ann (file_of back conf text lines layer h typed well e))

-- lines with a fault are those of no layer
pub layer_isnt : ReadBack → Faultless → (conf : Configuration) (text lines : List ℕ) (fault : Fault) → IsOfText conf text → ann_fault conf text lines ≡ Some fault → ReadsLayer conf text lines None
layer_isnt back faultless conf text lines fault h e = λ layer typed well is short. absurd (none_some fault (sym (faultless conf text lines layer typed.kept (file_of back conf text lines layer h typed well is)) ∙ e))

-- too many bytes are not read
pub layer_too_long : (conf : Configuration) (text lines : List ℕ) → 16777216 < length lines → ReadsLayer conf text lines None
layer_too_long conf text lines long = λ layer typed well e short. absurd (omega arith)

-- ---- laws of commands

abbrev pub LoadsAreRead : Type 0
LoadsAreRead = (conf : Configuration) (text : List ℕ) (layer : Annotations) → IsOfProgram conf text layer → IsWellFormed conf (length text) layer → length (ann_of conf text layer) ≤ 16777216 → IsReadAgain conf text layer

abbrev pub TypedAreRead : Type 0
TypedAreRead = (conf : Configuration) (text : List ℕ) (commands : List Command) → AreCommands commands → AllByRecursion (LoadsAgain conf text) commands → length (script_bytes conf text commands) ≤ 16777216 → IsScript conf text commands

abbrev pub ReadAgain : Type 0
ReadAgain = (conf : Configuration) (text : List ℕ) (done undone : List Command) → AreScripts conf text done undone → scripts_of conf text (scripts_bytes conf text done undone) ≡ Some (done, undone)

load_size : (lines : List ℕ) → length (16 ∷ text_bytes lines) ≤ 16777216 → length lines ≤ 16777216
load_size lines short = let size = text_size lines in omega arith

one_load : LoadsAreRead → (conf : Configuration) (text : List ℕ) (c : Command) → IsOfText conf text → IsCommand c → CanBeWritten conf text c → length (command_bytes conf text c) ≤ 16777216 → LoadsAgain conf text c
one_load law conf text (ask.Load layer) h typed well short = law conf text layer (of_program conf text layer h typed) well (load_size (ann_of conf text layer) short)
one_load law conf text _ h typed well short = tt

each_load : LoadsAreRead → (conf : Configuration) (text : List ℕ) (commands : List Command) → IsOfText conf text → AreCommands commands → AllByRecursion (CanBeWritten conf text) commands
    → length (flat_map (command_bytes conf text) commands) ≤ 16777216 → AllByRecursion (LoadsAgain conf text) commands
each_load law conf text [] h typed well short = tt
each_load law conf text (c ∷ cs) h typed well short =
    let size : length (flat_map (command_bytes conf text) (c ∷ cs)) ≡ length (command_bytes conf text c ++ flat_map (command_bytes conf text) cs) = ap length (flat_map-cons (command_bytes conf text) c cs) in
    let parts = length-append (command_bytes conf text c) (flat_map (command_bytes conf text) cs) in
    (one_load law conf text c h typed.0 well.0 (omega arith), each_load law conf text cs h typed.1 well.1 (omega arith))

script_is : LoadsAreRead → TypedAreRead → (conf : Configuration) (text : List ℕ) (commands : List Command) → IsOfText conf text → AreCommands commands → AllByRecursion (CanBeWritten conf text) commands
    → length (script_bytes conf text commands) ≤ 16777216 → IsScript conf text commands
unfolding script_bytes
script_is loads all conf text commands h typed well short =
    let parts = length-append (u32_bytes (length commands)) (flat_map (command_bytes conf text) commands) in
    let few : length (flat_map (command_bytes conf text) commands) ≤ 16777216 = omega (arith, short, parts) in
    all conf text commands typed (each_load loads conf text commands h typed well few) short

some_pair : (p q : List Command × List Command) → Some p ≡ Some q → p ≡ q
some_pair p q e = cc

found_are : (found : Option Scripts) (done undone : List Command) → option_map {U = List Command × List Command} (λ (s : Scripts). (s.done, s.undone)) found ≡ Some (done, undone)
    → MatchOption found ⊥ (λ scripts. (scripts.done ≡ done) × (scripts.undone ≡ undone))
found_are None done undone e = absurd cc
found_are (Some scripts) done undone e =
    let same = some_pair (scripts.done, scripts.undone) (done, undone) e in
    (ap (λ (p : List Command × List Command). p.0) same, ap (λ (p : List Command × List Command). p.1) same)

-- the commands that are read are those whose bytes these are
pub scripts_are : LoadsAreRead → TypedAreRead → ReadAgain → (conf : Configuration) (text bytes : List ℕ) (found : Option Scripts) → IsOfText conf text
    → scripts_of conf text bytes ≡ option_map {U = List Command × List Command} (λ (s : Scripts). (s.done, s.undone)) found → ReadsScripts conf text bytes found
scripts_are loads all again conf text bytes found h exact = λ done undone typed well e short.
    let size : length bytes ≡ length (script_bytes conf text done ++ script_bytes conf text undone) = ap length e in
    let parts = length-append (script_bytes conf text done) (script_bytes conf text undone) in
    let first = script_is loads all conf text done h typed.0 well.0 (omega arith) in
    let second = script_is loads all conf text undone h typed.1 well.1 (omega arith) in
    found_are found done undone (sym exact ∙ (ap (scripts_of conf text) e ∙ again conf text done undone (first, second)))
