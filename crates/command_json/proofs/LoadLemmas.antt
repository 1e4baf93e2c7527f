-- No form spells the loading of a layer.
use Rattle.std.proofs.Common.{◌≡◌, ◌≢◌, ℕ, Bool, true, false, List, [], ◌∷◌, Option, Some, None, option_map, option_and_then, codes, bytes_eq, refl, sym, ◌∙◌, ap}
use Rattle.std.specs.Prelude.{find}
use Rattle.std.specs.Option.{option_map_or}
use Rattle.std.specs.List.{AllByRecursion}
use Rattle.std.proofs.lemmas.Bool.{cond_both, false≢true}
use Rattle.serde_json.specs.Data.{Data}
use Rattle.layer_model.specs.Annotations.{Annotations}
use Rattle.layer_core.specs.declared.command.Command.{Command}
use Rattle.layer_core.specs.declared.command.Command.TheVariants as ask
use Rattle.command_json.specs.declared.spelling.StoreEntry.{StoreEntry}
use Rattle.command_json.specs.Spellings.{of_two, of_three}
use Rattle.command_json.specs.BodyFields.{has_only, text_at}
use Rattle.command_json.specs.BodyForms.{Form, forms, form_of, spelt_by}
use Rattle.command_json.specs.Bodies.{command_in, value_of, command_of}

abbrev is_load : Command → Bool
is_load (ask.Load layer) = true
is_load _ = false

-- it is not one that loads
abbrev Loads_none : Option Command → Type 0
Loads_none found = option_map_or is_load found false ≡ false

one : {A : Type 0} (make : A → Command) → ((a : A) → is_load (make a) ≡ false) → (a : Option A) → Loads_none (option_map make a)
one make free None = refl
one make free (Some a) = free a

two : {A B : Type 0} (make : A → B → Command) → ((a : A) (b : B) → is_load (make a b) ≡ false) → (a : Option A) (b : Option B) → Loads_none (of_two make a b)
two make free None b = refl
two make free (Some a) b = one (make a) (free a) b

three : {A B C : Type 0} (make : A → B → C → Command) → ((a : A) (b : B) (c : C) → is_load (make a b c) ≡ false)
    → (a : Option A) (b : Option B) (c : Option C) → Loads_none (of_three make a b c)
three make free None b c = refl
three make free (Some a) b c = two (make a) (free a) b c

-- each form of the table
unloading : (body : Data) → AllByRecursion (λ form. Loads_none (form.command body)) forms
unloading body = (
  two ask.AddSpan (λ a b. refl) _ _,
  (
    two ask.RetypeSpan (λ a b. refl) _ _,
    (
      two ask.MoveSpan (λ a b. refl) _ _,
      (
        three ask.AddEvent (λ a b c. refl) _ _ _,
        (
          two ask.AddArg (λ a b. refl) _ _,
          (
            two ask.RemoveArg (λ a b. refl) _ _,
            (
              three ask.AddRelation (λ a b c. refl) _ _ _,
              (
                three ask.SetAttribute (λ a b c. refl) _ _ _,
                (
                  one ask.ClearAttribute (λ a. refl) _,
                  (
                    two ask.Equate (λ a b. refl) _ _,
                    (
                      two ask.Unequate (λ a b. refl) _ _,
                      (
                        three ask.SetNote (λ a b c. refl) _ _ _,
                        (
                          three (λ target (named : StoreEntry) text. ask.SetReference target named.store named.entry text) (λ a b c. refl) _ _ _,
                          (
                            one ask.Delete (λ a. refl) _,
                            (one ask.Purge (λ a. refl) _, tt),
                          ),
                        ),
                      ),
                    ),
                  ),
                ),
              ),
            ),
          ),
        ),
      ),
    ),
  ),
)

-- the form that is found
found : (word : List ℕ) (body : Data) (rows : List Form) → AllByRecursion (λ form. Loads_none (form.command body)) rows
    → Loads_none (option_and_then (spelt_by body) (find (λ form. bytes_eq word form.word) rows))
found word body [] all = refl
found word body (form ∷ rows) all =
    cond_both (bytes_eq word form.word) (Some form) (find (λ form. bytes_eq word form.word) rows) (λ o. Loads_none (option_and_then (spelt_by body) o))
    (λ _. cond_both (has_only (codes "do" ∷ form.fields) body) (form.command body) None Loads_none (λ _. all.0) (λ _. refl))
    (λ _. found word body rows all.1)

by_word : (body : Data) (word : Option (List ℕ)) → Loads_none (option_and_then (spelt_by body) (option_and_then form_of word))
by_word body None = refl
by_word body (Some word) = found word body forms (unloading body)

by_value : (value : Option Data) → Loads_none (option_and_then command_in value)
by_value None = refl
by_value (Some body) = by_word body (text_at (codes "do") body)

pub no_body : (body : List ℕ) (layer : Annotations) → command_of body ≢ Some (ask.Load layer)
unfolding command_of
no_body body layer is = false≢true (sym (by_value (value_of body)) ∙ ap (λ o. option_map_or is_load o false) is)
