-- Layers, commands and verdicts are told by their bytes.
use Rattle.std.proofs.Common.{◌≡◌, ℕ, ◌+◌, ◌<◌, ◌≤◌, ◌^◌, List, [], ◌∷◌, ◌++◌, length, Option, Some, None, zero, suc, refl, sym, ◌∙◌, ap, arith, length-append}
use Rattle.std.specs.Prelude.{MatchOption, option_map}
use Rattle.std.specs.Int.{w32, from_le_bytes}
use Rattle.std.specs.List.{AllByRecursion, flat_map}
use Rattle.std.proofs.lemmas.Nat.{from_le_bytes-to_le_bytes_4}
use Rattle.mark_base.specs.declared.ann_id.AnnId.{AnnId}
use Rattle.mark_base.specs.declared.ann_id.Kind.{Kind}
use Rattle.mark_base.specs.declared.ann_id.Kind.TheVariants as letter
use Rattle.mark_base.proofs.IdLemmas.{id_of_parts}
use Rattle.entry_bytes.specs.declared.entry.Entry.TheVariants as entry
use Rattle.entry_bytes.specs.Entries.{entry_bytes}
use Rattle.entry_bytes.specs.Fields.{flag, slug_bytes, text_bytes, u32_bytes}
use Rattle.conf_model.specs.Configurations.{Configuration}
use Rattle.layer_model.specs.Annotations.{Annotations}
use Rattle.layer_model.specs.Classes.{letter_place}
use Rattle.layer_core.specs.declared.command.Command.{Command}
use Rattle.layer_undo.specs.Replays.{first_refusal}
use Rattle.ann_writer.specs.AnnOf.{ann_of}
use Rattle.ann_writer.specs.Writable.{IsOfProgram}
use Rattle.unanimous_merge.specs.declared.item.ItemId.{ItemId}
use Rattle.curator_decisions.specs.declared.verdict.Verdict.{Verdict}
use Rattle.curator_decisions.specs.declared.verdict.Verdict.TheVariants.{Accept, Reject}
use Rattle.command_bytes.specs.declared.script_reading.Scripts.{Scripts}
use Rattle.command_bytes.specs.CommandBytes.{list_bytes, scripts_bytes}
use Rattle.command_bytes.specs.CommandReading.{layer_in, scripts_of}
use Rattle.command_bytes.specs.CommandValues.{AreCommands, IsTypedLayer}
use Rattle.command_bytes.specs.WritableCommands.{CanBeWritten, IsReadAgain}
use Rattle.project_machine.specs.Entries.{IsShort, accepts, verdict_bytes}
use Rattle.project_machine.specs.Legal.{LayerObeys}
use Rattle.project_state.specs.Entries.Reading.{ReadsScripts}
use Rattle.project_state.proofs.EntriesProofs.AgainLemmas.{IsOfText, LoadsAreRead, ReadAgain, TypedAreRead, scripts_are}
use Rattle.project_state.proofs.EntriesProofs.SizeLemmas.{text_size}

-- ---- layers

some_same : {X : Type 0} (x y : X) → Some x ≡ Some y → x ≡ y
some_same x y e = cc

-- a layer of a configuration and a text of a program is one of a program
pub of_program : (conf : Configuration) (text : List ℕ) (layer : Annotations) → IsOfText conf text → IsTypedLayer layer → IsOfProgram conf text layer
of_program conf text layer h typed = record { sound = h.sound; kept = typed.kept; texts = typed.texts; short = h.short; valid = h.valid; characters = h.characters }

-- a layer is told by its lines
pub layer_same : LoadsAreRead → (conf : Configuration) (text : List ℕ) (a b : Annotations) → IsOfText conf text → LayerObeys conf (length text) a → LayerObeys conf (length text) b → length (ann_of conf text a) ≤ 16777216 → length (ann_of conf text b) ≤ 16777216
    → ann_of conf text a ≡ ann_of conf text b → a ≡ b
layer_same loads conf text a b of one other short few e =
    let first : IsReadAgain conf text a = loads conf text a (of_program conf text a of one.typed) one.obeys.well_formed short in
    let second : IsReadAgain conf text b = loads conf text b (of_program conf text b of other.typed) other.obeys.well_formed few in
    some_same a b (sym first.again ∙ (ap (layer_in conf text) e ∙ second.again))

-- the piece of a layer that a snapshot holds is longer than its lines
pub held_long : (who lines : List ℕ) → IsShort (entry.HeldLayer who lines) → length lines ≤ 16777216
unfolding entry_bytes
held_long who lines short =
    let all : length (22 ∷ slug_bytes who ++ text_bytes lines) ≤ 16777216 = short in
    let whole = length-append (22 ∷ slug_bytes who) (text_bytes lines) in
    let size = text_size lines in
    omega arith

-- the piece of a draft is longer than its commands
pub draft_long : (commands : List ℕ) → IsShort (entry.Draft commands) → length commands ≤ 16777216
unfolding entry_bytes
draft_long commands short = let all : length (20 ∷ commands) ≤ 16777216 = short in omega arith

-- ---- commands

-- scripts that are not refused can be written
abbrev pub AcceptedAreWritten : Type 0
AcceptedAreWritten = (conf : Configuration) (text : List ℕ) (base : Annotations) (done undone : List Command) → first_refusal conf (length text) base done undone ≡ None → AllByRecursion (CanBeWritten conf text) done × AllByRecursion (CanBeWritten conf text) undone

-- two scripts as they are read
as_read : Option (List Command × List Command) → Option Scripts
as_read None = None
as_read (Some pair) = Some (record { done = pair.0; undone = pair.1 })

read_as : (o : Option (List Command × List Command)) → o ≡ option_map {U = List Command × List Command} (λ (scripts : Scripts). (scripts.done, scripts.undone)) (as_read o)
unfolding as_read
read_as None = refl
read_as (Some pair) = refl

both_told : (found : Option Scripts) (done undone did undid : List Command) → MatchOption found ⊥ (λ scripts. (scripts.done ≡ done) × (scripts.undone ≡ undone)) → MatchOption found ⊥ (λ scripts. (scripts.done ≡ did) × (scripts.undone ≡ undid)) → (done ≡ did) × (undone ≡ undid)
both_told None done undone did undid one other = absurd one
both_told (Some scripts) done undone did undid one other = (sym one.0 ∙ other.0, sym one.1 ∙ other.1)

-- two scripts are told by their bytes
pub scripts_same : LoadsAreRead → TypedAreRead → ReadAgain → (conf : Configuration) (text : List ℕ) (done undone did undid : List Command) → IsOfText conf text → AreCommands done × AreCommands undone → AreCommands did × AreCommands undid
    → AllByRecursion (CanBeWritten conf text) done × AllByRecursion (CanBeWritten conf text) undone → AllByRecursion (CanBeWritten conf text) did × AllByRecursion (CanBeWritten conf text) undid
    → length (scripts_bytes conf text done undone) ≤ 16777216 → scripts_bytes conf text done undone ≡ scripts_bytes conf text did undid → (done ≡ did) × (undone ≡ undid)
scripts_same loads all again conf text done undone did undid of typed kinds well good short e =
    let bytes : List ℕ = scripts_bytes conf text done undone in
    let reads : ReadsScripts conf text bytes (as_read (scripts_of conf text bytes)) = scripts_are loads all again conf text bytes (as_read (scripts_of conf text bytes)) of (read_as (scripts_of conf text bytes)) in
    both_told (as_read (scripts_of conf text bytes)) done undone did undid (reads done undone typed well refl short) (reads did undid kinds good e short)

-- ---- verdicts

pub head_same : {X : Type 0} (x y : X) (xs ys : List X) → x ∷ xs ≡ y ∷ ys → x ≡ y
head_same x y xs ys e = cc

tail_same : {X : Type 0} (x y : X) (xs ys : List X) → x ∷ xs ≡ y ∷ ys → xs ≡ ys
tail_same x y xs ys e = cc

-- fronts of one length are the same, and so is what stands behind them
fronts_same : {X : Type 0} (p q behind beyond : List X) → length p ≡ length q → p ++ behind ≡ q ++ beyond → (p ≡ q) × (behind ≡ beyond)
fronts_same [] [] behind beyond size e = (refl, e)
fronts_same [] (y ∷ q) behind beyond size e = absurd (omega arith)
fronts_same (x ∷ p) [] behind beyond size e = absurd (omega arith)
fronts_same {X = X} (x ∷ p) (y ∷ q) behind beyond size e =
    let more : (p ≡ q) × (behind ≡ beyond) = fronts_same p q behind beyond (omega arith) (tail_same x y (p ++ behind) (q ++ beyond) e) in
    (ap (λ (z : X). z ∷ p) (head_same x y (p ++ behind) (q ++ beyond) e) ∙ ap (λ (zs : List X). y ∷ zs) more.0, more.1)

kind_of : ℕ → Kind
kind_of zero = letter.Text
kind_of (suc zero) = letter.Event
kind_of (suc (suc zero)) = letter.Relation
kind_of (suc (suc (suc zero))) = letter.Attribute
kind_of (suc (suc (suc (suc zero)))) = letter.Legacy
kind_of (suc (suc (suc (suc (suc zero))))) = letter.Normal
kind_of _ = letter.Note

kind_back : (kind : Kind) → kind_of (letter_place kind) ≡ kind
unfolding kind_of
kind_back letter.Text = refl
kind_back letter.Event = refl
kind_back letter.Relation = refl
kind_back letter.Attribute = refl
kind_back letter.Legacy = refl
kind_back letter.Normal = refl
kind_back letter.Note = refl

accepts_same : (a b : Verdict) → flag (accepts a) ≡ flag (accepts b) → a ≡ b
accepts_same Accept Accept e = refl
accepts_same Accept Reject e = absurd (let k : 1 ≡ 0 = e in omega arith)
accepts_same Reject Accept e = absurd (let k : 0 ≡ 1 = e in omega arith)
accepts_same Reject Reject e = refl

four : (n : ℕ) → length (u32_bytes n) ≡ 4
unfolding u32_bytes
four n = refl

-- a number of 32 bits is told by its bytes
u32_same : (a b : ℕ) → a < 2 ^ 32 → b < 2 ^ 32 → u32_bytes a ≡ u32_bytes b → a ≡ b
unfolding u32_bytes
u32_same a b low less e = sym (from_le_bytes-to_le_bytes_4 a low) ∙ (ap (from_le_bytes w32) e ∙ from_le_bytes-to_le_bytes_4 b less)

id_same : (a b : AnnId) → a.kind ≡ b.kind → a.number ≡ b.number → a ≡ b
id_same a b kind number = id_of_parts a b.kind b.number kind number ∙ sym (id_of_parts b b.kind b.number refl refl)

seven : (pair : ItemId × Verdict) → length (verdict_bytes pair) ≡ 7
seven pair =
    let number : length (u32_bytes pair.0.id.number) ≡ 4 = four pair.0.id.number in
    let whole = length-append (u32_bytes pair.0.id.number) (flag (accepts pair.1) ∷ []) in
    omega arith

pair_same : (x y : ItemId × Verdict) → verdict_bytes x ≡ verdict_bytes y → x ≡ y
pair_same x y e =
    let holder : x.0.holder ≡ y.0.holder = head_same x.0.holder y.0.holder _ _ e in
    let behind = tail_same x.0.holder y.0.holder _ _ e in
    let kind : letter_place x.0.id.kind ≡ letter_place y.0.id.kind = head_same (letter_place x.0.id.kind) (letter_place y.0.id.kind) _ _ behind in
    let rest = tail_same (letter_place x.0.id.kind) (letter_place y.0.id.kind) (u32_bytes x.0.id.number ++ flag (accepts x.1) ∷ []) (u32_bytes y.0.id.number ++ flag (accepts y.1) ∷ []) behind in
    let parts = fronts_same (u32_bytes x.0.id.number) (u32_bytes y.0.id.number) (flag (accepts x.1) ∷ []) (flag (accepts y.1) ∷ []) (four x.0.id.number ∙ sym (four y.0.id.number)) rest in
    let few : x.0.id.number ≤ 999999999 = x.0.id.within in
    let low : y.0.id.number ≤ 999999999 = y.0.id.within in
    let number : x.0.id.number ≡ y.0.id.number = u32_same x.0.id.number y.0.id.number (omega arith) (omega arith) parts.0 in
    let id : x.0.id ≡ y.0.id = id_same x.0.id y.0.id (sym (kind_back x.0.id.kind) ∙ (ap kind_of kind ∙ kind_back y.0.id.kind)) number in
    let verdict : x.1 ≡ y.1 = accepts_same x.1 y.1 (head_same (flag (accepts x.1)) (flag (accepts y.1)) [] [] parts.1) in
    ap (λ (h : ℕ). let pair : ItemId × Verdict = (record { holder = h; id = x.0.id }, x.1) in pair) holder
    ∙ (ap (λ (i : AnnId). let pair : ItemId × Verdict = (record { holder = y.0.holder; id = i }, x.1) in pair) id
    ∙ ap (λ (v : Verdict). let pair : ItemId × Verdict = (record { holder = y.0.holder; id = y.0.id }, v) in pair) verdict)

empty_front : (pair : ItemId × Verdict) (rest : List ℕ) → [] ≡ verdict_bytes pair ++ rest → ⊥
empty_front pair rest e = cc

pairs_told : (xs ys : List (ItemId × Verdict)) → flat_map verdict_bytes xs ≡ flat_map verdict_bytes ys → xs ≡ ys
pairs_told [] [] e = refl
pairs_told [] (y ∷ ys) e = absurd (empty_front y (flat_map verdict_bytes ys) e)
pairs_told (x ∷ xs) [] e = absurd (empty_front x (flat_map verdict_bytes xs) (sym e))
pairs_told (x ∷ xs) (y ∷ ys) e =
    let parts = fronts_same (verdict_bytes x) (verdict_bytes y) (flat_map verdict_bytes xs) (flat_map verdict_bytes ys) (seven x ∙ sym (seven y)) e in
    ap (λ (z : ItemId × Verdict). z ∷ xs) (pair_same x y parts.0) ∙ ap (λ (zs : List (ItemId × Verdict)). y ∷ zs) (pairs_told xs ys parts.1)

-- verdicts are told by their bytes
pub verdicts_same : (xs ys : List (ItemId × Verdict)) → list_bytes verdict_bytes xs ≡ list_bytes verdict_bytes ys → xs ≡ ys
verdicts_same xs ys e = pairs_told xs ys (fronts_same (u32_bytes (length xs)) (u32_bytes (length ys)) (flat_map verdict_bytes xs) (flat_map verdict_bytes ys) (four (length xs) ∙ sym (four (length ys))) e).1
