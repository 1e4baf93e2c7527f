-- Commands that a request can hold are read again, where their bytes fit an entry.
use Rattle.std.proofs.Common.{◌≡◌, ℕ, ◌+◌, ◌<◌, ◌≤◌, ◌^◌, List, [], ◌∷◌, ◌++◌, length, ap, arith}
use Rattle.std.specs.Prelude.{IsUtf8}
use Rattle.std.specs.List.{flat_map, AllByRecursion}
use Rattle.std.proofs.lemmas.List.{length-append}
use Rattle.std.proofs.lemmas.List.Concat.{flat_map-cons}
use Rattle.mark_base.specs.declared.ann_id.AnnId.{AnnId}
use Rattle.entry_bytes.specs.Fields.{u32_bytes, text_bytes, IsText}
use Rattle.conf_model.specs.Configurations.{Configuration}
use Rattle.layer_core.specs.declared.command.Command.{Command}
use Rattle.layer_core.specs.declared.command.Command.TheVariants as ask
use Rattle.command_bytes.specs.CommandBytes.{name_bytes, id_bytes, command_bytes, script_bytes}
use Rattle.command_bytes.specs.WritableCommands.{CanBeRead, LoadsAgain, IsScript}
use Rattle.command_bytes.specs.CommandValues.{IsCommand, AreCommands}

-- the end of bytes is no longer than they are
end_size : (front end : List ℕ) → length end ≤ length (front ++ end)
end_size front end = omega (arith, length-append front end)

front_size : (front end : List ℕ) → length front ≤ length (front ++ end)
front_size front end = omega (arith, length-append front end)

text_size : (text : List ℕ) → length text ≤ length (text_bytes text)
text_size text = end_size (u32_bytes (length text)) text

note_size : (target : AnnId) (kind note : List ℕ) → length (12 ∷ id_bytes target ++ name_bytes kind ++ text_bytes note) ≤ 16777216 → length note < 2 ^ 32
note_size target kind note short = omega (arith, short, end_size (12 ∷ id_bytes target ++ name_bytes kind) (text_bytes note), text_size note)

reference_texts : (target : AnnId) (store entry shown : List ℕ) → IsUtf8 store × IsUtf8 entry × IsUtf8 shown
    → length (13 ∷ id_bytes target ++ text_bytes store ++ text_bytes entry ++ text_bytes shown) ≤ 16777216 → IsText store × IsText entry × IsText shown
reference_texts target store entry shown h short =
    let a = 13 ∷ id_bytes target in
    let b = a ++ text_bytes store in
    let c = b ++ text_bytes entry in
    let third = end_size c (text_bytes shown) in
    let second = end_size b (text_bytes entry) in
    let first = end_size a (text_bytes store) in
    let whole = front_size c (text_bytes shown) in
    let most = front_size b (text_bytes entry) in (
      record { utf8 = h.0; size = omega (arith, short, first, most, whole, text_size store) },
      record { utf8 = h.1; size = omega (arith, short, second, whole, text_size entry) },
      record { utf8 = h.2; size = omega (arith, short, third, text_size shown) },
    )

typed : (conf : Configuration) (text : List ℕ) (c : Command) → IsCommand c → LoadsAgain conf text c → length (command_bytes conf text c) ≤ 16777216 → CanBeRead conf text c
typed conf text (ask.AddSpan kind frags) h again short = h
typed conf text (ask.RetypeSpan id kind) h again short = h
typed conf text (ask.MoveSpan id frags) h again short = h
typed conf text (ask.AddEvent kind trigger args) h again short = h
typed conf text (ask.AddArg id arg) h again short = h
typed conf text (ask.RemoveArg id arg) h again short = h
typed conf text (ask.AddRelation kind first second) h again short = h
typed conf text (ask.SetAttribute kind target value) h again short = h
typed conf text (ask.ClearAttribute id) h again short = tt
typed conf text (ask.Equate kind members) h again short = h
typed conf text (ask.Unequate kind id) h again short = h
typed conf text (ask.SetNote target kind note) h again short = (h.0, record { utf8 = h.1; size = note_size target kind note short })
typed conf text (ask.SetReference target store entry shown) h again short = reference_texts target store entry shown h short
typed conf text (ask.Delete id) h again short = tt
typed conf text (ask.Purge id) h again short = tt
typed conf text (ask.Load layer) h again short = again

-- no command is without bytes
some_bytes : (conf : Configuration) (text : List ℕ) (c : Command) → 1 ≤ length (command_bytes conf text c)
some_bytes conf text (ask.AddSpan kind frags) = omega arith
some_bytes conf text (ask.RetypeSpan id kind) = omega arith
some_bytes conf text (ask.MoveSpan id frags) = omega arith
some_bytes conf text (ask.AddEvent kind trigger args) = omega arith
some_bytes conf text (ask.AddArg id arg) = omega arith
some_bytes conf text (ask.RemoveArg id arg) = omega arith
some_bytes conf text (ask.AddRelation kind first second) = omega arith
some_bytes conf text (ask.SetAttribute kind target value) = omega arith
some_bytes conf text (ask.ClearAttribute id) = omega arith
some_bytes conf text (ask.Equate kind members) = omega arith
some_bytes conf text (ask.Unequate kind id) = omega arith
some_bytes conf text (ask.SetNote target kind note) = omega arith
some_bytes conf text (ask.SetReference target store entry shown) = omega arith
some_bytes conf text (ask.Delete id) = omega arith
some_bytes conf text (ask.Purge id) = omega arith
some_bytes conf text (ask.Load layer) = omega arith

all_typed : (conf : Configuration) (text : List ℕ) (commands : List Command) → AreCommands commands → AllByRecursion (LoadsAgain conf text) commands → length (flat_map (command_bytes conf text) commands) ≤ 16777216
    → AllByRecursion (CanBeRead conf text) commands × (length commands ≤ length (flat_map (command_bytes conf text) commands))
all_typed conf text [] h again short = (tt, omega arith)
all_typed conf text (c ∷ cs) h again short =
    let own = command_bytes conf text c in
    let others = flat_map (command_bytes conf text) cs in
    let size : length (flat_map (command_bytes conf text) (c ∷ cs)) ≡ length (own ++ others) = ap length (flat_map-cons (command_bytes conf text) c cs) in
    let parts = length-append own others in
    let rest = all_typed conf text cs h.1 again.1 (omega (arith, short, size, parts)) in
    ((typed conf text c h.0 again.0 (omega (arith, short, size, parts)), rest.0), omega (arith, size, parts, rest.1, some_bytes conf text c))

pub typed_script : (conf : Configuration) (text : List ℕ) (commands : List Command) → AreCommands commands → AllByRecursion (LoadsAgain conf text) commands → length (script_bytes conf text commands) ≤ 16777216 → IsScript conf text commands
unfolding script_bytes
typed_script conf text commands h again short =
    let each = flat_map (command_bytes conf text) commands in
    let parts = length-append (u32_bytes (length commands)) each in
    let all = all_typed conf text commands h again (omega (arith, short, parts)) in
    record { count = omega (arith, short, parts, all.1); each = all.0 }
