-- An ID is read back from its spelling, and what is the spelling of none is not read.
use Rattle.std.proofs.Common.{ℕ, ◌≤◌, ◌≡◌, ◌≢◌, ◌==◌, Bool, true, false, cond, min, List, [], ◌∷◌, arith, Option, Some, None, IsSome, IfSome, IfNone, ◌↔◌, option_map, option_and_then, decimal, refl, sym, subst, ◌∙◌, ap, ap₂}
use Rattle.std.specs.Str.Parse.{digits_value}
use Rattle.std.proofs.Math.Bridge.{le_prop}
use Rattle.std.proofs.lemmas.Bool.{cond_both, eqb-true, false≢true}
use Rattle.mark_base.specs.declared.ann_id.AnnId.{AnnId}
use Rattle.mark_base.specs.declared.ann_id.Kind.{Kind}
use Rattle.mark_base.specs.declared.ann_id.Kind.TheVariants as letter
use Rattle.mark_base.specs.AnnIds.{is_canonical, letter_of, spelling_of, number_read, kind_read}
use Rattle.mark_base.specs.ReadIds.{id_at, id_read}
use Rattle.mark_base.proofs.NumberLemmas.{canonical_spells, number_read_back}

same_id : (kind : Kind) (m n : ℕ) (p : m ≤ 999999999) (q : n ≤ 999999999) → m ≡ n
    → ◌≡◌ {A = AnnId} (record { kind = kind; number = m; within = p }) (record { kind = kind; number = n; within = q })
same_id kind m n p q e =
    let P : ℕ → Type 0 = λ x. (r : x ≤ 999999999) → ◌≡◌ {A = AnnId} (record { kind = kind; number = m; within = p }) (record { kind = kind; number = x; within = r }) in
    (subst P e (λ r. ap (λ (w : m ≤ 999999999). record { kind = kind; number = m; within = w }) (le_prop p r))) q

-- an ID is the one of its letter and number
pub id_at-id : (id : AnnId) → id_at id.kind id.number ≡ id
id_at-id id =
    let small : id.number ≤ 999999999 = id.within in
    let same : min id.number 999999999 ≡ id.number = omega arith in
    same_id id.kind (min id.number 999999999) id.number (id_at id.kind id.number).within id.within same

-- and so is one that was made of them
pub id_of_parts : (id : AnnId) (kind : Kind) (n : ℕ) → id.kind ≡ kind → id.number ≡ n → id ≡ id_at kind n
id_of_parts id kind n k m = sym (id_at-id id) ∙ ap₂ id_at k m

-- ---- reading

kind_read_back : (kind : Kind) → kind_read (letter_of kind) ≡ Some kind
kind_read_back letter.Text = refl
kind_read_back letter.Event = refl
kind_read_back letter.Relation = refl
kind_read_back letter.Attribute = refl
kind_read_back letter.Legacy = refl
kind_read_back letter.Normal = refl
kind_read_back letter.Note = refl

-- the spelling of an ID is read as it
pub spelling_read : (kind : Kind) (n : ℕ) → n ≤ 999999999 → id_read (spelling_of kind n) ≡ Some (id_at kind n)
spelling_read kind n small =
    ap (option_and_then (λ k. option_map (id_at k) (number_read (decimal n)))) (kind_read_back kind) ∙ ap (option_map (id_at kind)) (number_read_back n small)

read_some : (text : List ℕ) (id : AnnId) → text ≡ spelling_of id.kind id.number → id_read text ≡ Some id
read_some text id is = ap id_read is ∙ spelling_read id.kind id.number id.within ∙ ap Some (id_at-id id)

-- a letter that is read is the letter of its sort
kind_tells : (b : ℕ) → IfSome (kind_read b) (λ kind. b ≡ letter_of kind)
kind_tells b =
    cond_both (b == 84) (Some letter.Text) _ (λ o. IfSome o (λ kind. b ≡ letter_of kind)) (λ e. eqb-true b 84 e) (λ _.
    cond_both (b == 69) (Some letter.Event) _ (λ o. IfSome o (λ kind. b ≡ letter_of kind)) (λ e. eqb-true b 69 e) (λ _.
    cond_both (b == 82) (Some letter.Relation) _ (λ o. IfSome o (λ kind. b ≡ letter_of kind)) (λ e. eqb-true b 82 e) (λ _.
    cond_both (b == 65) (Some letter.Attribute) _ (λ o. IfSome o (λ kind. b ≡ letter_of kind)) (λ e. eqb-true b 65 e) (λ _.
    cond_both (b == 77) (Some letter.Legacy) _ (λ o. IfSome o (λ kind. b ≡ letter_of kind)) (λ e. eqb-true b 77 e) (λ _.
    cond_both (b == 78) (Some letter.Normal) _ (λ o. IfSome o (λ kind. b ≡ letter_of kind)) (λ e. eqb-true b 78 e) (λ _.
    cond_both (b == 35) (Some letter.Note) None (λ o. IfSome o (λ kind. b ≡ letter_of kind)) (λ e. eqb-true b 35 e) (λ _. tt)))))))

-- what is the spelling of no ID is read as none
read_none : (text : List ℕ) → ((kind : Kind) (number : ℕ) → number ≤ 999999999 → text ≢ spelling_of kind number) → id_read text ≡ None
read_none [] none = refl
read_none (b ∷ ds) none = by_parts (kind_read b) refl (is_canonical ds) refl
  where
    by_parts : (o : Option Kind) → kind_read b ≡ o → (t : Bool) → is_canonical ds ≡ t → id_read (b ∷ ds) ≡ None
    by_parts None e t f = ap (option_and_then (λ k. option_map (id_at k) (number_read ds))) e
    by_parts (Some kind) e false f =
        ap (option_and_then (λ k. option_map (id_at k) (number_read ds))) e ∙ ap (λ t. option_map (id_at kind) (cond t (Some (digits_value 10 ds)) None)) f
    by_parts (Some kind) e true f =
        let same : b ≡ letter_of kind = subst (λ o. IfSome o (λ kind. b ≡ letter_of kind)) e (kind_tells b) in
        absurd (none kind (digits_value 10 ds) (canonical_spells ds f).1 (ap₂ (λ x xs. x ∷ xs) same (canonical_spells ds f).0))

-- what is an ID exactly where the bytes spell it is what they spell
pub read_as : (text : List ℕ) (o : Option AnnId) → IfSome o (λ id. text ≡ spelling_of id.kind id.number)
    → IfNone o ((kind : Kind) (number : ℕ) → number ≤ 999999999 → text ≢ spelling_of kind number) → o ≡ id_read text
read_as text (Some id) some none = sym (read_some text id some)
read_as text None some none = sym (read_none text none)

-- what is made of a letter and a number that were read
pub made_of_parts : (letter : ℕ) (digits : List ℕ) (kind : Kind) (n : ℕ) (o : Option AnnId) → kind_read letter ≡ Some kind → number_read digits ≡ Some n
    → IsSome o ↔ (n ≤ 999999999) → IfSome o (λ id. (id.kind ≡ kind) × (id.number ≡ n)) → n ≤ 999999999 → o ≡ id_read (letter ∷ digits)
made_of_parts letter digits kind n (Some id) k m within parts small =
    ap Some (id_of_parts id kind n parts.0 parts.1)
    ∙ sym (ap (option_and_then (λ k. option_map (id_at k) (number_read digits))) k ∙ ap (option_map (id_at kind)) m)
made_of_parts letter digits kind n None k m within parts small = absurd (false≢true (within.1 small))
