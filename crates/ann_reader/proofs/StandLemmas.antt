-- A line whose places of IDs have IDs that are read, are in the layer, and are of letters that fit has no fault of them.
use Rattle.std.proofs.Common.{◌≡◌, Bool, true, false, not, List, [], ◌∷◌, refl, sym, ◌∙◌, ap, Some, None, cond, inl, inr}
use Rattle.std.specs.Prelude.{find}
use Rattle.std.specs.Option.{is_none, option_map}
use Rattle.std.specs.List.{list_any, filter_map, cons_option, AllByRecursion}
use Rattle.std.proofs.lemmas.Bool.{or_from, or_cases, not_from_true, false≢true}
use Rattle.mark_base.specs.declared.ann_id.AnnId.{AnnId}
use Rattle.layer_model.specs.declared.rule.Rule.TheVariants.{NoSuch, WrongKind}
use Rattle.layer_model.specs.Annotations.{Annotations}
use Rattle.layer_model.specs.Layers.{has}
use Rattle.layer_rules.specs.MarkRules.{Wanted}
use Rattle.ann_reader.specs.Lines.{Line}
use Rattle.mark_base.specs.ReadIds.{id_read}
use Rattle.ann_reader.specs.LineIds.{IdWord, may_stand, has_no_letter, is_misspelt}
use Rattle.ann_reader.specs.LineFaults.{is_headed, headed_by, first_absent, first_unfit, wanted_of}
use Rattle.ann_reader.specs.AnnFiles.{is_line_of}
use Rattle.ann_reader.proofs.AnnLemmas.{heads}
use Rattle.ann_reader.proofs.FormFacts.{id_kind}

-- a place of an ID has one that is read, is in the layer, and is of a letter that fits
pub record Stands (layer : Annotations) (id_word : IdWord) : Type 0 where
  pub id : AnnId
  pub read : id_read id_word.word ≡ Some id
  pub there : has layer id ≡ true
  pub fits : may_stand id_word.letters id.kind ≡ true

-- each place of some
abbrev pub AllStand : Annotations → List IdWord → Type 0
AllStand layer named = AllByRecursion (Stands layer) named

-- each begins with a letter
pub all_lettered : (layer : Annotations) (named : List IdWord) → AllStand layer named → list_any has_no_letter named ≡ false
all_lettered layer [] all = refl
all_lettered layer (one ∷ named) all =
    or_from (has_no_letter one) (list_any has_no_letter named) (ap is_none (id_kind one.word all.0.id all.0.read)) (all_lettered layer named all.1)

-- each is spelt as an ID
pub all_spelt : (layer : Annotations) (named : List IdWord) → AllStand layer named → list_any is_misspelt named ≡ false
all_spelt layer [] all = refl
all_spelt layer (one ∷ named) all = or_from (is_misspelt one) (list_any is_misspelt named) (ap is_none all.0.read) (all_spelt layer named all.1)

-- an ID that a line has heads one
pub line_heads : (id : AnnId) (lines : List Line) → list_any (is_line_of id) lines ≡ true → is_none (headed_by id lines) ≡ false
line_heads id [] h = absurd (false≢true h)
line_heads id (line ∷ lines) h =
    elim (is_headed id line) as (λ b. is_headed id line ≡ b → is_none (cond b (Some line) (headed_by id lines)) ≡ false) [
      | true ↦ λ _. refl
      | false ↦ λ none. elim (or_cases (is_line_of id line) (list_any (is_line_of id) lines) h) as (λ _. is_none (headed_by id lines) ≡ false) [
        | inl t ↦ absurd (false≢true (sym none ∙ heads id line t))
        | inr t ↦ line_heads id lines t
      ]
    ] refl

-- an ID among others that heads no line
abbrev heads_none : List Line → AnnId → Bool
heads_none all id = is_none (headed_by id all)

not_absent : (layer : Annotations) (all : List Line) (named : List IdWord) → ((id : AnnId) → has layer id ≡ true → list_any (is_line_of id) all ≡ true)
    → AllStand layer named → find (heads_none all) (filter_map (λ id_word. id_read id_word.word) named) ≡ None
not_absent layer all [] only stand = refl
not_absent layer all (one ∷ named) only stand =
    let rest = filter_map (λ (id_word : IdWord). id_read id_word.word) named in
    ap (λ o. find (heads_none all) (cons_option o rest)) stand.0.read
    ∙ ap (λ b. cond b (Some stand.0.id) (find (heads_none all) rest)) (line_heads stand.0.id all (only stand.0.id stand.0.there))
    ∙ not_absent layer all named only stand.1

-- each heads a line
pub none_absent : (layer : Annotations) (all : List Line) (named : List IdWord) → ((id : AnnId) → has layer id ≡ true → list_any (is_line_of id) all ≡ true)
    → AllStand layer named → first_absent all named ≡ None
none_absent layer all named only stand = ap (option_map NoSuch) (not_absent layer all named only stand)

abbrev unfit : Wanted → Bool
unfit wanted = not wanted.fits

not_unfit : (layer : Annotations) (named : List IdWord) → AllStand layer named → find unfit (filter_map wanted_of named) ≡ None
not_unfit layer [] stand = refl
not_unfit layer (one ∷ named) stand =
    let rest = filter_map wanted_of named in
    let wanted : AnnId → Wanted = λ id. record { id = id; fits = may_stand one.letters id.kind } in
    ap (λ o. find unfit (cons_option (option_map wanted o) rest)) stand.0.read
    ∙ ap (λ b. cond b (Some (wanted stand.0.id)) (find unfit rest)) (not_from_true (may_stand one.letters stand.0.id.kind) stand.0.fits)
    ∙ not_unfit layer named stand.1

-- each is of a letter that fits
pub none_unfit : (layer : Annotations) (named : List IdWord) → AllStand layer named → first_unfit named ≡ None
none_unfit layer named stand = ap (option_map (λ (wanted : Wanted). WrongKind wanted.id)) (not_unfit layer named stand)
