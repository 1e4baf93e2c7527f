-- The members of the classes that share one.
use Rattle.std.proofs.Common.{◌≡◌, ℕ, ◌+◌, ◌<◌, Bool, true, false, List, [], ◌∷◌, ◌++◌, length, get_or, take, refl, sym, ◌∙◌, ap, cond, append_assoc, append-nil}
use Rattle.std.proofs.lemmas.List.{take_more}
use Rattle.mark_base.specs.declared.ann_id.AnnId.{AnnId}
use Rattle.layer_model.specs.declared.class.Class.{Class}
use Rattle.layer_model.specs.Classes.{shares, sharing}

sharing-snoc : (kind : ℕ) (ids : List AnnId) (classes : List Class) (class : Class)
    → sharing kind ids (classes ++ class ∷ []) ≡ sharing kind ids classes ++ cond (shares kind ids class) class.members []
sharing-snoc kind ids [] class = elim (shares kind ids class) as (λ b. cond b (class.members ++ []) [] ≡ cond b class.members []) [ true ↦ append-nil class.members | false ↦ refl ]
sharing-snoc kind ids (first ∷ classes) class =
    elim (shares kind ids first) as (λ b. cond b (first.members ++ sharing kind ids (classes ++ class ∷ [])) (sharing kind ids (classes ++ class ∷ []))
    ≡ cond b (first.members ++ sharing kind ids classes) (sharing kind ids classes) ++ cond (shares kind ids class) class.members []) [
      | true ↦ ap (λ xs. first.members ++ xs) (sharing-snoc kind ids classes class) ∙ sym (append_assoc first.members (sharing kind ids classes) _)
      | false ↦ sharing-snoc kind ids classes class
    ]

-- one more class is looked at
pub gathered : (kind : ℕ) (ids : List AnnId) (classes : List Class) (class : Class) (i : ℕ) (b : Bool) (first out new : List AnnId)
    → i < length classes → class ≡ get_or classes i class → out ≡ first ++ sharing kind ids (take i classes)
    → b ≡ shares kind ids class → new ≡ out ++ cond b class.members [] → new ≡ first ++ sharing kind ids (take (i + 1) classes)
gathered kind ids classes class i b first out new within is so_far said grown =
    grown ∙ ap (λ xs. xs ++ cond b class.members []) so_far ∙ ap (λ v. (first ++ sharing kind ids (take i classes)) ++ cond v class.members []) said
    ∙ append_assoc first (sharing kind ids (take i classes)) _
    ∙ ap (λ xs. first ++ xs) (sym (ap (sharing kind ids) (take_more classes i class within ∙ ap (λ x. take i classes ++ x ∷ []) (sym is)) ∙ sharing-snoc kind ids (take i classes) class))
