-- The next of a list in a loop, and the lowest annotation that makes a pair with one.
use Rattle.std.proofs.Common.{◌≡◌, ℕ, ◌+◌, ◌<◌, ◌&&◌, Bool, true, false, cond, not, List, [], ◌∷◌, length, get_or, drop, find, Option, Some, None, if◌then◌else◌, option_map, option_and_then, refl, sym, ◌∙◌, ap}
use Rattle.std.proofs.lemmas.List.{drop_more}
use Rattle.std.specs.Option.{option_map_or}
use Rattle.std.specs.List.{list_all}
use Rattle.std.specs.FinMap as finite
use Rattle.mark_base.specs.declared.ann_id.AnnId.{AnnId}
use Rattle.mark_base.specs.declared.ann_id.Kind.{Kind}
use Rattle.mark_base.specs.declared.ann_id.Kind.TheVariants as letter
use Rattle.conf_model.specs.Configurations.{Configuration}
use Rattle.layer_model.specs.declared.mark.Mark.{Mark}
use Rattle.layer_model.specs.declared.mark.Mark.TheVariants as marked
use Rattle.layer_model.specs.declared.span.Span.{Span}
use Rattle.layer_model.specs.Annotations.{Annotations}
use Rattle.layer_model.specs.Layers.{mark_at, mark_of}
use Rattle.layer_core.specs.CommandRules.{is_span_letter}
use Rattle.layer_core.specs.MadeLayers.{span_of}
use Rattle.layer_rules.specs.LayerRules.{is_id, refused_overlap}
use Rattle.layer_core.specs.Commands.{other_than}

-- ---- the next of a list

pub step_at : {X : Type 0} (xs : List X) (i : ℕ) (x : X) → i < length xs → x ≡ get_or xs i x → drop i xs ≡ x ∷ drop (i + 1) xs
step_at xs i x low is = drop_more xs i x low ∙ ap (λ y. y ∷ drop (i + 1) xs) (sym is)

pub all_out : {X : Type 0} (p : X → Bool) (x : X) (xs rest : List X) → xs ≡ x ∷ rest → p x ≡ false → list_all p xs ≡ false
all_out p x xs rest is out = ap (list_all p) is ∙ ap (λ b. b && list_all p rest) out

pub all_on : {X : Type 0} (p : X → Bool) (x : X) (xs rest : List X) → xs ≡ x ∷ rest → p x ≡ true → list_all p xs ≡ list_all p rest
all_on p x xs rest is on = ap (list_all p) is ∙ ap (λ b. b && list_all p rest) on

-- ---- the lowest annotation that makes a pair with one

never : (b : Bool) → (b && false) ≡ true → ⊥
never true e = let f : false ≡ true = e in cc
never false e = let f : false ≡ true = e in cc

pub found_other : (pairs : Mark → Mark → Bool) (layer : Annotations) (id x : AnnId) (xs rest : List AnnId) (o : Option Mark) → xs ≡ x ∷ rest
    → (not (is_id id x) && option_map_or (λ mark. option_map_or (pairs mark) (mark_at layer x) false) o false) ≡ true
    → option_and_then (λ mark. find (other_than pairs layer id mark) xs) o ≡ Some x
found_other pairs layer id x xs rest None is e = absurd (never (not (is_id id x)) e)
found_other pairs layer id x xs rest (Some mark) is e =
    ap (find (other_than pairs layer id mark)) is ∙ ap (λ b. cond b (Some x) (find (other_than pairs layer id mark) rest)) e

pub passed_other : (pairs : Mark → Mark → Bool) (layer : Annotations) (id x : AnnId) (xs rest : List AnnId) (o : Option Mark) → xs ≡ x ∷ rest
    → (not (is_id id x) && option_map_or (λ mark. option_map_or (pairs mark) (mark_at layer x) false) o false) ≡ false
    → option_and_then (λ mark. find (other_than pairs layer id mark) xs) o ≡ option_and_then (λ mark. find (other_than pairs layer id mark) rest) o
passed_other pairs layer id x xs rest None is e = refl
passed_other pairs layer id x xs rest (Some mark) is e =
    ap (find (other_than pairs layer id mark)) is ∙ ap (λ b. cond b (Some x) (find (other_than pairs layer id mark) rest)) e

-- ---- what is no span overlaps nothing

found_nowhere : (p : AnnId → Bool) (xs : List AnnId) → ((x : AnnId) → p x ≡ false) → find p xs ≡ None
found_nowhere p [] out = refl
found_nowhere p (x ∷ xs) out = ap (λ b. cond b (Some x) (find p xs)) (out x) ∙ found_nowhere p xs out

no_pair : (pairs : Mark → Bool) → ((m : Mark) → pairs m ≡ false) → (o : Option Mark) (b : Bool) → (b && option_map_or pairs o false) ≡ false
no_pair pairs out None true = refl
no_pair pairs out None false = refl
no_pair pairs out (Some m) true = out m
no_pair pairs out (Some m) false = refl

nothing_over : (conf : Configuration) (layer : Annotations) (id : AnnId) (xs : List AnnId) (o : Option Mark) → ((mark : Mark) → o ≡ Some mark → (m : Mark) → refused_overlap conf mark m ≡ false)
    → option_and_then (λ mark. find (other_than (refused_overlap conf) layer id mark) xs) o ≡ None
nothing_over conf layer id xs None out = refl
nothing_over conf layer id xs (Some mark) out =
    found_nowhere (other_than (refused_overlap conf) layer id mark) xs (λ x. no_pair (refused_overlap conf mark) (out mark refl) (mark_at layer x) (not (is_id id x)))

some_none : {X : Type 0} {x : X} → Some x ≡ None → ⊥
some_none e = cc

some_mark : {a b : Mark} → Some a ≡ Some b → a ≡ b
some_mark e = cc

wrapped : {X : Type 0} (conf : Configuration) (wrap : X → Mark) → ((x : X) (m : Mark) → refused_overlap conf (wrap x) m ≡ false) → (o : Option X) (mark : Mark) → option_map wrap o ≡ Some mark
    → (m : Mark) → refused_overlap conf mark m ≡ false
wrapped conf wrap out None mark e m = absurd (some_none (sym e))
wrapped conf wrap out (Some x) mark e m = ap (λ k. refused_overlap conf k m) (sym (some_mark e)) ∙ out x m

no_span : (conf : Configuration) (layer : Annotations) (kind : Kind) (n : ℕ) → (if is_span_letter kind then finite.get layer.spans n else None) ≡ None → (mark : Mark) → mark_of layer kind n ≡ Some mark
    → (m : Mark) → refused_overlap conf mark m ≡ false
no_span conf layer letter.Text n none mark e m = absurd (some_none (sym e ∙ ap (option_map marked.Span) none))
no_span conf layer letter.Event n none mark e m = wrapped conf marked.Event (λ x k. refl) (finite.get layer.events n) mark e m
no_span conf layer letter.Relation n none mark e m = wrapped conf marked.Relation (λ x k. refl) (finite.get layer.relations n) mark e m
no_span conf layer letter.Attribute n none mark e m = wrapped conf marked.Attribute (λ x k. refl) (finite.get layer.attributes n) mark e m
no_span conf layer letter.Legacy n none mark e m = wrapped conf marked.Attribute (λ x k. refl) (finite.get layer.legacy n) mark e m
no_span conf layer letter.Normal n none mark e m = wrapped conf marked.Normal (λ x k. refl) (finite.get layer.normals n) mark e m
no_span conf layer letter.Note n none mark e m = wrapped conf marked.Note (λ x k. refl) (finite.get layer.notes n) mark e m

pub no_overlap : (conf : Configuration) (layer : Annotations) (id : AnnId) (xs : List AnnId) → None ≡ span_of layer id
    → option_and_then (λ mark. find (other_than (refused_overlap conf) layer id mark) xs) (mark_at layer id) ≡ None
no_overlap conf layer id xs none = nothing_over conf layer id xs (mark_at layer id) (no_span conf layer id.kind id.number (sym none))

-- ---- what is a span stands among the spans

pub span_got : (layer : Annotations) (kind : Kind) (n : ℕ) (span : Span) → Some span ≡ (if is_span_letter kind then finite.get layer.spans n else None) → finite.get layer.spans n ≡ Some span
span_got layer letter.Text n span e = sym e
span_got layer letter.Event n span e = absurd (some_none e)
span_got layer letter.Relation n span e = absurd (some_none e)
span_got layer letter.Attribute n span e = absurd (some_none e)
span_got layer letter.Legacy n span e = absurd (some_none e)
span_got layer letter.Normal n span e = absurd (some_none e)
span_got layer letter.Note n span e = absurd (some_none e)
