-- What an annotation of a coherent layer names stands in the layer, in the words of the line that spells it.
use Rattle.std.proofs.Common.{◌≡◌, ℕ, Bool, true, false, ◌&&◌, List, [], ◌∷◌, refl, sym, ◌∙◌, ap, subst, Option, Some, None, cond, map, option_map}
use Rattle.std.specs.Option.{option_map_or}
use Rattle.std.specs.List.{AllByRecursion}
use Rattle.mark_base.specs.declared.ann_id.AnnId.{AnnId}
use Rattle.mark_base.specs.declared.ann_id.Kind.{Kind}
use Rattle.mark_base.specs.declared.ann_id.Kind.TheVariants as letter
use Rattle.mark_base.specs.declared.table_places.TypeId.{TypeId}
use Rattle.mark_base.specs.declared.arguments.Arg.{Arg}
use Rattle.conf_model.specs.Configurations.{Configuration}
use Rattle.layer_model.specs.declared.event.Event.{Event}
use Rattle.layer_model.specs.declared.mark.Mark.{Mark}
use Rattle.layer_model.specs.declared.mark.Mark.TheVariants as marked
use Rattle.layer_model.specs.Annotations.{Annotations}
use Rattle.layer_model.specs.Layers.{has_number}
use Rattle.layer_model.specs.Coherent.{IsCoherent, AllStand as AllThere, LettersFitIn, named, is_span_letter, is_span_or_event_letter}
use Rattle.ann_reader.specs.Roles.{role_read}
use Rattle.mark_base.specs.ReadIds.{id_read}
use Rattle.ann_reader.specs.LineForms.{Pair, Form, EventForm, RelationForm, AttributeForm, NormalForm, NoteForm}
use Rattle.ann_reader.specs.declared.id_letters.Letters.TheVariants.{SpansOrEvents}
use Rattle.ann_reader.specs.LineIds.{id_words, of_letters}
use Rattle.ann_reader.specs.LineMeanings.{arg_by, arg_of, args_of, Ends, ends_of, is_role}
use Rattle.ann_reader.specs.AnnFiles.{HasMark, is_span_word}
use Rattle.ann_reader.proofs.CleanLemmas.{not_some, unsome}
use Rattle.ann_reader.proofs.PartLemmas.{made, chained, event_parts, relation_parts, attribute_parts, normal_parts, note_parts}
use Rattle.ann_reader.proofs.StandLemmas.{Stands, AllStand}

-- what a held annotation names is there
names_there : (conf : Configuration) (layer : Annotations) (form : Form) (h : HasMark conf layer form) (mark : Mark) → IsCoherent layer → h.mark ≡ mark → AllThere layer (named mark)
names_there conf layer form h mark coherent e = subst (λ m. AllThere layer (named m)) e (coherent.stand.marks h.id.kind h.id.number h.mark h.held)

-- and is of the letters that fit
names_fit : (conf : Configuration) (layer : Annotations) (form : Form) (h : HasMark conf layer form) (mark : Mark) → IsCoherent layer → h.mark ≡ mark → LettersFitIn mark
names_fit conf layer form h mark coherent e = subst LettersFitIn e (coherent.letters.marks h.id.kind h.id.number h.mark h.held)

-- ---- E

arg_read : (role : Option ℕ) (id : Option AnnId) (arg : Arg) → arg_by role id ≡ Some arg → id ≡ Some arg.target
arg_read None id arg e = absurd (not_some (sym e))
arg_read (Some role) None arg e = absurd (not_some (sym e))
arg_read (Some role) (Some id) arg e = ap (λ (a : Arg). Some a.target) (unsome e)

args_stand : (conf : Configuration) (layer : Annotations) (kind : TypeId) (pairs : List Pair) (args : List Arg) → args_of conf kind pairs ≡ Some args
    → AllThere layer (map (λ arg. arg.target) args) → AllByRecursion (λ arg. is_span_or_event_letter arg.target.kind ≡ true) args
    → AllStand layer (map (λ pair. of_letters SpansOrEvents pair.target) pairs)
args_stand conf layer kind [] args e there fit = tt
args_stand conf layer kind (pair ∷ pairs) args e there fit =
    let one = chained (λ (x : Arg). option_map (λ xs. x ∷ xs) (args_of conf kind pairs)) (arg_of conf kind pair) args e in
    let more = made (λ (xs : List Arg). one.0 ∷ xs) (args_of conf kind pairs) args one.2 in
    let is : args ≡ one.0 ∷ more.0 = more.2 in
    let each : AllThere layer (map (λ (arg : Arg). arg.target) (one.0 ∷ more.0)) = subst (λ (all : List Arg). AllThere layer (map (λ (arg : Arg). arg.target) all)) is there in
    let fits : AllByRecursion (λ (arg : Arg). is_span_or_event_letter arg.target.kind ≡ true) (one.0 ∷ more.0) =
    subst (λ (all : List Arg). AllByRecursion (λ (arg : Arg). is_span_or_event_letter arg.target.kind ≡ true) all) is fit in (
      record { id = one.0.target; read = arg_read (role_read conf kind.n pair.role) (id_read pair.target) one.0 one.1; there = each.0; fits = fits.0 },
      args_stand conf layer kind pairs more.0 more.1 each.1 fits.1,
    )

span_kind : (kind : Kind) → is_span_letter kind ≡ true → kind ≡ letter.Text
span_kind letter.Text e = refl
span_kind letter.Event e = absurd (let lost : false ≡ true = e in cc)
span_kind letter.Relation e = absurd (let lost : false ≡ true = e in cc)
span_kind letter.Attribute e = absurd (let lost : false ≡ true = e in cc)
span_kind letter.Legacy e = absurd (let lost : false ≡ true = e in cc)
span_kind letter.Normal e = absurd (let lost : false ≡ true = e in cc)
span_kind letter.Note e = absurd (let lost : false ≡ true = e in cc)

-- what an event names
pub event_stands : (conf : Configuration) (layer : Annotations) (first kind trigger : List ℕ) (pairs : List Pair) → HasMark conf layer (EventForm first kind trigger pairs)
    → is_span_word trigger ≡ true → IsCoherent layer → AllStand layer (id_words (EventForm first kind trigger pairs))
event_stands conf layer first kind trigger pairs h span coherent =
    let parts = event_parts conf first kind trigger pairs h.mark h.spelt in
    let event : Event = record { kind = parts.id; trigger = parts.own.number; args = parts.args; within = parts.own.within } in
    let there : AllThere layer (named (marked.Event event)) = names_there conf layer (EventForm first kind trigger pairs) h (marked.Event event) coherent parts.is in
    let fit : LettersFitIn (marked.Event event) = names_fit conf layer (EventForm first kind trigger pairs) h (marked.Event event) coherent parts.is in
    let is_span : is_span_letter parts.own.kind ≡ true = sym (ap (λ o. option_map_or (λ (id : AnnId). is_span_letter id.kind) o false) parts.trigger_read) ∙ span in (
      record {
        id = parts.own;
        read = parts.trigger_read;
        there = ap (λ k. has_number layer k parts.own.number) (span_kind parts.own.kind is_span) ∙ there.0;
        fits = is_span;
      },
      args_stand conf layer parts.id pairs parts.args parts.args_read there.1 fit,
    )

-- ---- R

-- the two arguments are the targets of the pairs, in one order or the other
ends_either : (conf : Configuration) (kind : ℕ) (a b : Pair) (ends : Ends) (P : List ℕ → Type 0) → ends_of conf kind a b ≡ Some ends → P ends.first → P ends.second → P a.target × P b.target
ends_either conf kind a b ends P e first second =
    cases (is_role conf kind false a.role && is_role conf kind true b.role) (is_role conf kind true a.role && is_role conf kind false b.role) e
  where
    straight : ◌≡◌ {A = Ends} (record { first = a.target; second = b.target }) ends → P a.target × P b.target
    straight is = (subst P (sym (ap (λ (t : Ends). t.first) is)) first, subst P (sym (ap (λ (t : Ends). t.second) is)) second)

    crossed : ◌≡◌ {A = Ends} (record { first = b.target; second = a.target }) ends → P a.target × P b.target
    crossed is = (subst P (sym (ap (λ (t : Ends). t.second) is)) second, subst P (sym (ap (λ (t : Ends). t.first) is)) first)

    cases : (s t : Bool) → cond s (Some (record { first = a.target; second = b.target })) (cond t (Some (record { first = b.target; second = a.target })) None) ≡ Some ends → P a.target × P b.target
    cases true t q = straight (unsome q)
    cases false true q = crossed (unsome q)
    cases false false q = absurd (not_some (sym q))

-- what a relation names
pub relation_stands : (conf : Configuration) (layer : Annotations) (first kind : List ℕ) (a b : Pair) → HasMark conf layer (RelationForm first kind a b)
    → IsCoherent layer → AllStand layer (id_words (RelationForm first kind a b))
relation_stands conf layer first kind a b h coherent =
    let parts = relation_parts conf first kind a b h.mark h.spelt in
    let mark : Mark = marked.Relation (record { kind = record { n = parts.id }; first = parts.x; second = parts.y }) in
    let there : AllThere layer (named mark) = names_there conf layer (RelationForm first kind a b) h mark coherent parts.is in
    let fit : LettersFitIn mark = names_fit conf layer (RelationForm first kind a b) h mark coherent parts.is in
    let both = ends_either conf parts.id a b parts.ends (λ word. Stands layer (of_letters SpansOrEvents word)) parts.ends_read
    (record { id = parts.x; read = parts.first_read; there = there.0; fits = fit.0 }) (record { id = parts.y; read = parts.second_read; there = there.1.0; fits = fit.1 }) in
    (both.0, (both.1, tt))

-- ---- A and M

-- what an attribute names
pub attribute_stands : (conf : Configuration) (layer : Annotations) (first kind target : List ℕ) (value : Option (List ℕ)) → HasMark conf layer (AttributeForm first kind target value)
    → IsCoherent layer → AllStand layer (id_words (AttributeForm first kind target value))
attribute_stands conf layer first kind target value h coherent =
    let parts = attribute_parts conf first kind target value h.mark h.spelt in
    let mark : Mark = marked.Attribute (record { kind = record { n = parts.id }; target = parts.on; value = parts.given }) in
    let there : AllThere layer (named mark) = names_there conf layer (AttributeForm first kind target value) h mark coherent parts.is in
    let fit : LettersFitIn mark = names_fit conf layer (AttributeForm first kind target value) h mark coherent parts.is in
    (record { id = parts.on; read = parts.target_read; there = there.0; fits = fit }, tt)

-- ---- N

-- what a normalization names
pub normal_stands : (conf : Configuration) (layer : Annotations) (first target store entry text : List ℕ) → HasMark conf layer (NormalForm first target store entry text)
    → IsCoherent layer → AllStand layer (id_words (NormalForm first target store entry text))
normal_stands conf layer first target store entry text h coherent =
    let parts = normal_parts conf first target store entry text h.mark h.spelt in
    let mark : Mark = marked.Normal (record { target = parts.on; store = store; entry = entry; text = text }) in
    let there : AllThere layer (named mark) = names_there conf layer (NormalForm first target store entry text) h mark coherent parts.is in
    let fit : LettersFitIn mark = names_fit conf layer (NormalForm first target store entry text) h mark coherent parts.is in
    (record { id = parts.on; read = parts.target_read; there = there.0; fits = fit }, tt)

-- ---- #

-- what a note names
pub note_stands : (conf : Configuration) (layer : Annotations) (first kind target text : List ℕ) → HasMark conf layer (NoteForm first kind target text)
    → IsCoherent layer → AllStand layer (id_words (NoteForm first kind target text))
note_stands conf layer first kind target text h coherent =
    let parts = note_parts conf first kind target text h.mark h.spelt in
    let mark : Mark = marked.Note (record { kind = kind; target = parts.on; text = text }) in
    let there : AllThere layer (named mark) = names_there conf layer (NoteForm first kind target text) h mark coherent parts.is in
    let fit : LettersFitIn mark = names_fit conf layer (NoteForm first kind target text) h mark coherent parts.is in
    (record { id = parts.on; read = parts.target_read; there = there.0; fits = fit }, tt)
