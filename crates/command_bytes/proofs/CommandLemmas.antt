-- What is read as a command is its bytes, and the bytes of a command are read as it.
use Rattle.std.proofs.Common.{◌≡◌, ℕ, Bool, true, false, cond, eqb, List, [], ◌∷◌, ◌++◌, Option, Some, None, refl, sym, ap, subst, ◌∙◌}
use Rattle.std.specs.Prelude.{option_map}
use Rattle.std.specs.List.{AllByRecursion}
use Rattle.std.proofs.lemmas.Bool.{eqb-true}
use Rattle.mark_base.specs.declared.ann_id.AnnId.{AnnId}
use Rattle.mark_base.specs.declared.fragments.Frag.{Frag}
use Rattle.mark_base.specs.declared.named_args.NamedArg.{NamedArg}
use Rattle.entry_bytes.specs.Reading.{made, byte_at}
use Rattle.entry_bytes.proofs.Exact.{IsBytes, and_then_some, map_some, Takes, Taking, Again, both_take, both_again}
use Rattle.entry_bytes.proofs.FieldLaws.{byte_takes, Always, text_takes, text_again}
use Rattle.conf_model.specs.Configurations.{Configuration}
use Rattle.layer_model.specs.Annotations.{Annotations}
use Rattle.layer_core.specs.declared.command.Command.{Command}
use Rattle.layer_core.specs.declared.command.Command.TheVariants as ask
use Rattle.command_bytes.specs.CommandBytes.{command_bytes}
use Rattle.command_bytes.specs.WritableCommands.{CanBeRead}
use Rattle.command_bytes.specs.CommandReading.{add_span_at, retype_span_at, move_span_at, add_event_at, add_arg_at, remove_arg_at, add_relation_at, set_attribute_at, clear_attribute_at, equate_at, unequate_at, set_note_at, set_reference_at, delete_at, purge_at, plain_at, load_at, command_fields_at, command_at}
use Rattle.command_bytes.proofs.FieldLemmas.{name_takes, name_again, id_takes, id_again, frag_takes, frag_again, arg_takes, arg_again, list_takes, list_again, value_takes, value_again}
use Rattle.command_bytes.proofs.LoadLemmas.{load_takes, load_again}

-- ---- what is read is the bytes of a command

-- what is read behind a number
abbrev pub IsRight : Configuration → List ℕ → ℕ → List ℕ → Option (Command × List ℕ) → Type 0
IsRight conf text number bytes found = (c : Command) (rest : List ℕ) → found ≡ Some (c, rest) → Takes (number ∷ bytes) (command_bytes conf text c) rest × CanBeRead conf text c

right_made : {A : Type 0} {p : A → List ℕ} {F : A → Type 0} {f : List ℕ → Option (A × List ℕ)} (conf : Configuration) (text : List ℕ) (number : ℕ) (of : A → Command) → Taking p F f
    → ((a : A) → F a → CanBeRead conf text (of a)) → ((a : A) → command_bytes conf text (of a) ≡ number ∷ p a) → (bytes : List ℕ) → IsBytes bytes → IsRight conf text number bytes (made of f bytes)
right_made {A = A} {p = p} {F = F} {f = f} conf text number of taking is spelt bytes fits c rest read =
    let x = map_some (λ (x : A × List ℕ). (of x.0, x.1)) (f bytes) (c, rest) read in
    let t = taking.takes bytes x.0.0 x.0.1 fits x.1 in
    let parts : number ∷ bytes ≡ command_bytes conf text (of x.0.0) ++ x.0.1 = ap (λ (l : List ℕ). number ∷ l) t.0.parts ∙ ap (λ (l : List ℕ). l ++ x.0.1) (sym (spelt x.0.0)) in
    subst (λ (y : Command × List ℕ). Takes (number ∷ bytes) (command_bytes conf text y.0) y.1 × CanBeRead conf text y.0) x.2 (record { parts = parts; rest_fits = t.0.rest_fits }, is x.0.0 t.1)

right_if : (conf : Configuration) (text : List ℕ) (number k : ℕ) (bytes : List ℕ) (x y : Option (Command × List ℕ)) → IsRight conf text k bytes x → IsRight conf text number bytes y → IsRight conf text number bytes (cond (eqb number k) x y)
right_if conf text number k bytes x y there other = by_number (eqb number k) refl
  where
    by_number : (b : Bool) → eqb number k ≡ b → IsRight conf text number bytes (cond b x y)
    by_number true same = subst (λ (t : ℕ). IsRight conf text t bytes x) (sym (eqb-true number k same)) there
    by_number false same = other

none_right : (conf : Configuration) (text : List ℕ) (number : ℕ) (bytes : List ℕ) → IsRight conf text number bytes None
none_right conf text number bytes c rest read = absurd cc

add_span_right : (conf : Configuration) (text bytes : List ℕ) → IsBytes bytes → IsRight conf text 1 bytes (add_span_at bytes)
unfolding add_span_at
add_span_right conf text bytes fits = right_made conf text 1 (λ (x : (List ℕ) × (List Frag)). ask.AddSpan x.0 x.1) (both_take name_takes (list_takes frag_takes)) (λ a h. (h.0, h.1)) (λ a. refl) bytes fits

retype_span_right : (conf : Configuration) (text bytes : List ℕ) → IsBytes bytes → IsRight conf text 2 bytes (retype_span_at bytes)
unfolding retype_span_at
retype_span_right conf text bytes fits = right_made conf text 2 (λ (x : (AnnId) × (List ℕ)). ask.RetypeSpan x.0 x.1) (both_take id_takes name_takes) (λ a h. h.1) (λ a. refl) bytes fits

move_span_right : (conf : Configuration) (text bytes : List ℕ) → IsBytes bytes → IsRight conf text 3 bytes (move_span_at bytes)
unfolding move_span_at
move_span_right conf text bytes fits = right_made conf text 3 (λ (x : (AnnId) × (List Frag)). ask.MoveSpan x.0 x.1) (both_take id_takes (list_takes frag_takes)) (λ a h. h.1) (λ a. refl) bytes fits

add_event_right : (conf : Configuration) (text bytes : List ℕ) → IsBytes bytes → IsRight conf text 4 bytes (add_event_at bytes)
unfolding add_event_at
add_event_right conf text bytes fits = right_made conf text 4 (λ (x : ((List ℕ) × (AnnId)) × (List NamedArg)). ask.AddEvent x.0.0 x.0.1 x.1) (both_take (both_take name_takes id_takes) (list_takes arg_takes)) (λ a h. (h.0.0, h.1)) (λ a. refl) bytes fits

add_arg_right : (conf : Configuration) (text bytes : List ℕ) → IsBytes bytes → IsRight conf text 5 bytes (add_arg_at bytes)
unfolding add_arg_at
add_arg_right conf text bytes fits = right_made conf text 5 (λ (x : (AnnId) × (NamedArg)). ask.AddArg x.0 x.1) (both_take id_takes arg_takes) (λ a h. h.1) (λ a. refl) bytes fits

remove_arg_right : (conf : Configuration) (text bytes : List ℕ) → IsBytes bytes → IsRight conf text 6 bytes (remove_arg_at bytes)
unfolding remove_arg_at
remove_arg_right conf text bytes fits = right_made conf text 6 (λ (x : (AnnId) × (NamedArg)). ask.RemoveArg x.0 x.1) (both_take id_takes arg_takes) (λ a h. h.1) (λ a. refl) bytes fits

add_relation_right : (conf : Configuration) (text bytes : List ℕ) → IsBytes bytes → IsRight conf text 7 bytes (add_relation_at bytes)
unfolding add_relation_at
add_relation_right conf text bytes fits = right_made conf text 7 (λ (x : ((List ℕ) × (AnnId)) × (AnnId)). ask.AddRelation x.0.0 x.0.1 x.1) (both_take (both_take name_takes id_takes) id_takes) (λ a h. h.0.0) (λ a. refl) bytes fits

set_attribute_right : (conf : Configuration) (text bytes : List ℕ) → IsBytes bytes → IsRight conf text 8 bytes (set_attribute_at bytes)
unfolding set_attribute_at
set_attribute_right conf text bytes fits = right_made conf text 8 (λ (x : ((List ℕ) × (AnnId)) × (Option (List ℕ))). ask.SetAttribute x.0.0 x.0.1 x.1) (both_take (both_take name_takes id_takes) value_takes) (λ a h. (h.0.0, h.1)) (λ a. refl) bytes fits

clear_attribute_right : (conf : Configuration) (text bytes : List ℕ) → IsBytes bytes → IsRight conf text 9 bytes (clear_attribute_at bytes)
unfolding clear_attribute_at
clear_attribute_right conf text bytes fits = right_made conf text 9 (λ (x : AnnId). ask.ClearAttribute x) id_takes (λ a h. tt) (λ a. refl) bytes fits

equate_right : (conf : Configuration) (text bytes : List ℕ) → IsBytes bytes → IsRight conf text 10 bytes (equate_at bytes)
unfolding equate_at
equate_right conf text bytes fits = right_made conf text 10 (λ (x : (List ℕ) × (List AnnId)). ask.Equate x.0 x.1) (both_take name_takes (list_takes id_takes)) (λ a h. (h.0, h.1.0)) (λ a. refl) bytes fits

unequate_right : (conf : Configuration) (text bytes : List ℕ) → IsBytes bytes → IsRight conf text 11 bytes (unequate_at bytes)
unfolding unequate_at
unequate_right conf text bytes fits = right_made conf text 11 (λ (x : (List ℕ) × (AnnId)). ask.Unequate x.0 x.1) (both_take name_takes id_takes) (λ a h. h.0) (λ a. refl) bytes fits

set_note_right : (conf : Configuration) (text bytes : List ℕ) → IsBytes bytes → IsRight conf text 12 bytes (set_note_at bytes)
unfolding set_note_at
set_note_right conf text bytes fits = right_made conf text 12 (λ (x : ((AnnId) × (List ℕ)) × (List ℕ)). ask.SetNote x.0.0 x.0.1 x.1) (both_take (both_take id_takes name_takes) text_takes) (λ a h. (h.0.1, h.1)) (λ a. refl) bytes fits

set_reference_right : (conf : Configuration) (text bytes : List ℕ) → IsBytes bytes → IsRight conf text 13 bytes (set_reference_at bytes)
unfolding set_reference_at
set_reference_right conf text bytes fits = right_made conf text 13 (λ (x : (((AnnId) × (List ℕ)) × (List ℕ)) × (List ℕ)). ask.SetReference x.0.0.0 x.0.0.1 x.0.1 x.1) (both_take (both_take (both_take id_takes text_takes) text_takes) text_takes) (λ a h. (h.0.0.1, h.0.1, h.1)) (λ a. refl) bytes fits

delete_right : (conf : Configuration) (text bytes : List ℕ) → IsBytes bytes → IsRight conf text 14 bytes (delete_at bytes)
unfolding delete_at
delete_right conf text bytes fits = right_made conf text 14 (λ (x : AnnId). ask.Delete x) id_takes (λ a h. tt) (λ a. refl) bytes fits

purge_right : (conf : Configuration) (text bytes : List ℕ) → IsBytes bytes → IsRight conf text 15 bytes (purge_at bytes)
unfolding purge_at
purge_right conf text bytes fits = right_made conf text 15 (λ (x : AnnId). ask.Purge x) id_takes (λ a h. tt) (λ a. refl) bytes fits

load_right : (conf : Configuration) (text bytes : List ℕ) → IsBytes bytes → IsRight conf text 16 bytes (load_at conf text bytes)
unfolding load_at
load_right conf text bytes fits = right_made conf text 16 (λ (layer : Annotations). ask.Load layer) (load_takes conf text) (λ a h. h) (λ a. refl) bytes fits

plain_right : (conf : Configuration) (text : List ℕ) (number : ℕ) (bytes : List ℕ) → IsBytes bytes → IsRight conf text number bytes (plain_at number bytes)
unfolding plain_at
plain_right conf text number bytes fits =
    right_if conf text number 1 bytes (add_span_at bytes) _ (add_span_right conf text bytes fits) (
    right_if conf text number 2 bytes (retype_span_at bytes) _ (retype_span_right conf text bytes fits) (
    right_if conf text number 3 bytes (move_span_at bytes) _ (move_span_right conf text bytes fits) (
    right_if conf text number 4 bytes (add_event_at bytes) _ (add_event_right conf text bytes fits) (
    right_if conf text number 5 bytes (add_arg_at bytes) _ (add_arg_right conf text bytes fits) (
    right_if conf text number 6 bytes (remove_arg_at bytes) _ (remove_arg_right conf text bytes fits) (
    right_if conf text number 7 bytes (add_relation_at bytes) _ (add_relation_right conf text bytes fits) (
    right_if conf text number 8 bytes (set_attribute_at bytes) _ (set_attribute_right conf text bytes fits) (
    right_if conf text number 9 bytes (clear_attribute_at bytes) _ (clear_attribute_right conf text bytes fits) (
    right_if conf text number 10 bytes (equate_at bytes) _ (equate_right conf text bytes fits) (
    right_if conf text number 11 bytes (unequate_at bytes) _ (unequate_right conf text bytes fits) (
    right_if conf text number 12 bytes (set_note_at bytes) _ (set_note_right conf text bytes fits) (
    right_if conf text number 13 bytes (set_reference_at bytes) _ (set_reference_right conf text bytes fits) (
    right_if conf text number 14 bytes (delete_at bytes) _ (delete_right conf text bytes fits) (
    right_if conf text number 15 bytes (purge_at bytes) _ (purge_right conf text bytes fits) (
    none_right conf text number bytes)))))))))))))))

fields_right : (conf : Configuration) (text : List ℕ) (number : ℕ) (bytes : List ℕ) → IsBytes bytes → IsRight conf text number bytes (command_fields_at conf text number bytes)
unfolding command_fields_at
fields_right conf text number bytes fits = right_if conf text number 16 bytes (load_at conf text bytes) _ (load_right conf text bytes fits) (plain_right conf text number bytes fits)

pub command_takes : (conf : Configuration) (text : List ℕ) → Taking (command_bytes conf text) (CanBeRead conf text) (command_at conf text)
unfolding command_at
command_takes conf text = record {
  takes = λ bytes c rest fits e.
      let n = and_then_some (λ (n : ℕ × List ℕ). command_fields_at conf text n.0 n.1) (byte_at bytes) (c, rest) e in
      let t = byte_takes.takes bytes n.0.0 n.0.1 fits n.1 in
      let r = fields_right conf text n.0.0 n.0.1 t.0.rest_fits c rest n.2 in
      (record { parts = t.0.parts ∙ r.0.parts; rest_fits = r.0.rest_fits }, r.1);
}

-- ---- the bytes of a command are read as it

made_again : {A : Type 0} {p : A → List ℕ} {F : A → Type 0} {f : List ℕ → Option (A × List ℕ)} (of : A → Command) → Again p F f → (a : A) (rest : List ℕ) → F a → made of f (p a ++ rest) ≡ Some (of a, rest)
made_again {A = A} of ag a rest h = ap (λ (o : Option (A × List ℕ)). option_map (λ (x : A × List ℕ). (of x.0, x.1)) o) (ag.again a rest h)

ids_fit : (ids : List AnnId) → AllByRecursion (λ (id : AnnId). Always id) ids
ids_fit [] = tt
ids_fit (id ∷ ids) = (tt, ids_fit ids)

fields_again : (conf : Configuration) (text : List ℕ) (c : Command) (rest : List ℕ) → CanBeRead conf text c → command_at conf text (command_bytes conf text c ++ rest) ≡ Some (c, rest)
unfolding command_at command_fields_at plain_at load_at add_span_at retype_span_at move_span_at add_event_at add_arg_at remove_arg_at add_relation_at set_attribute_at clear_attribute_at equate_at unequate_at set_note_at set_reference_at delete_at purge_at
fields_again conf text (ask.AddSpan kind frags) rest h = made_again (λ (x : (List ℕ) × (List Frag)). ask.AddSpan x.0 x.1) (both_again name_again (list_again frag_again)) (kind, frags) rest (h.0, h.1)
fields_again conf text (ask.RetypeSpan id kind) rest h = made_again (λ (x : (AnnId) × (List ℕ)). ask.RetypeSpan x.0 x.1) (both_again id_again name_again) (id, kind) rest (tt, h)
fields_again conf text (ask.MoveSpan id frags) rest h = made_again (λ (x : (AnnId) × (List Frag)). ask.MoveSpan x.0 x.1) (both_again id_again (list_again frag_again)) (id, frags) rest (tt, h)
fields_again conf text (ask.AddEvent kind trigger args) rest h = made_again (λ (x : ((List ℕ) × (AnnId)) × (List NamedArg)). ask.AddEvent x.0.0 x.0.1 x.1) (both_again (both_again name_again id_again) (list_again arg_again)) ((kind, trigger), args) rest ((h.0, tt), h.1)
fields_again conf text (ask.AddArg id arg) rest h = made_again (λ (x : (AnnId) × (NamedArg)). ask.AddArg x.0 x.1) (both_again id_again arg_again) (id, arg) rest (tt, h)
fields_again conf text (ask.RemoveArg id arg) rest h = made_again (λ (x : (AnnId) × (NamedArg)). ask.RemoveArg x.0 x.1) (both_again id_again arg_again) (id, arg) rest (tt, h)
fields_again conf text (ask.AddRelation kind first second) rest h = made_again (λ (x : ((List ℕ) × (AnnId)) × (AnnId)). ask.AddRelation x.0.0 x.0.1 x.1) (both_again (both_again name_again id_again) id_again) ((kind, first), second) rest ((h, tt), tt)
fields_again conf text (ask.SetAttribute kind target value) rest h = made_again (λ (x : ((List ℕ) × (AnnId)) × (Option (List ℕ))). ask.SetAttribute x.0.0 x.0.1 x.1) (both_again (both_again name_again id_again) value_again) ((kind, target), value) rest ((h.0, tt), h.1)
fields_again conf text (ask.ClearAttribute id) rest h = made_again (λ (x : AnnId). ask.ClearAttribute x) id_again id rest tt
fields_again conf text (ask.Equate kind members) rest h = made_again (λ (x : (List ℕ) × (List AnnId)). ask.Equate x.0 x.1) (both_again name_again (list_again id_again)) (kind, members) rest (h.0, (h.1, ids_fit _))
fields_again conf text (ask.Unequate kind id) rest h = made_again (λ (x : (List ℕ) × (AnnId)). ask.Unequate x.0 x.1) (both_again name_again id_again) (kind, id) rest (h, tt)
fields_again conf text (ask.SetNote target kind note) rest h = made_again (λ (x : ((AnnId) × (List ℕ)) × (List ℕ)). ask.SetNote x.0.0 x.0.1 x.1) (both_again (both_again id_again name_again) text_again) ((target, kind), note) rest ((tt, h.0), h.1)
fields_again conf text (ask.SetReference target store entry shown) rest h = made_again (λ (x : (((AnnId) × (List ℕ)) × (List ℕ)) × (List ℕ)). ask.SetReference x.0.0.0 x.0.0.1 x.0.1 x.1) (both_again (both_again (both_again id_again text_again) text_again) text_again) (((target, store), entry), shown) rest (((tt, h.0), h.1), h.2)
fields_again conf text (ask.Delete id) rest h = made_again (λ (x : AnnId). ask.Delete x) id_again id rest tt
fields_again conf text (ask.Purge id) rest h = made_again (λ (x : AnnId). ask.Purge x) id_again id rest tt
fields_again conf text (ask.Load layer) rest h = made_again (λ (x : Annotations). ask.Load x) (load_again conf text) layer rest h

pub command_again : (conf : Configuration) (text : List ℕ) → Again (command_bytes conf text) (CanBeRead conf text) (command_at conf text)
command_again conf text = record { again = fields_again conf text }
