-- The rules on one record: the last fragment, and lists of arguments with what stands before them.
use Rattle.std.proofs.Common.{◌≡◌, ℕ, ◌-◌, ◌+◌, ◌<◌, suc, Bool, true, false, cond, List, [], ◌∷◌, Option, Some, None, length, slice_get, refl, sym, ◌∙◌, ap, arith}
use Rattle.std.specs.List.{range_with_len, find}
use Rattle.std.specs.Option.{option_or, option_map}
use Rattle.layer_model.specs.declared.rule.Rule.{Rule}
use Rattle.mark_base.specs.declared.fragments.Frag.{Frag}
use Rattle.overlap_rules.specs.Overlaps.{last_end}

some_frag : {f g : Frag} → Some f ≡ Some g → f ≡ g
some_frag e = cc

none_frag : {f : Frag} → None ≡ Some f → ⊥
none_frag e = cc

ends : (frag : Frag) (more : List Frag) (last : Frag) → slice_get (frag ∷ more) (length more) ≡ Some last → last.end ≡ last_end frag.end more
ends frag [] last is = ap (λ (f : Frag). f.end) (sym (some_frag is))
ends frag (next ∷ more) last is = ends next more last is

-- the last fragment's end
pub last_end_is : (frags : List Frag) (last : Frag) → Some last ≡ slice_get frags (length frags - 1) → last.end ≡ last_end 0 frags
last_end_is [] last is = absurd (none_frag (sym is))
last_end_is (frag ∷ more) last is =
    let whole : length (frag ∷ more) - 1 ≡ length more = omega arith in
    ends frag more last (sym (is ∙ ap (slice_get (frag ∷ more)) whole))

-- a range from its first number on
pub range_step : (start end : ℕ) → start < end → range_with_len start (end - start) ≡ start ∷ range_with_len (start + 1) (end - (start + 1))
range_step start end below =
    let e : end - start ≡ suc (end - (start + 1)) = omega arith in
    ap (range_with_len start) e

pub found_in_range : (test : ℕ → Bool) (end place : ℕ) → place < end → test place ≡ true → find test (range_with_len place (end - place)) ≡ Some place
found_in_range test end place below so =
    ap (find test) (range_step place end below) ∙ ap (λ b. cond b (Some place) (find test (range_with_len (place + 1) (end - (place + 1))))) so

pub passed_in_range : (test : ℕ → Bool) (end place : ℕ) → place < end → test place ≡ false
    → find test (range_with_len place (end - place)) ≡ find test (range_with_len (place + 1) (end - (place + 1)))
passed_in_range test end place below so =
    ap (find test) (range_step place end below) ∙ ap (λ b. cond b (Some place) (find test (range_with_len (place + 1) (end - (place + 1))))) so

-- the first of some is the first alone, or else the first of the others
pub first_split : {X : Type 0} (told : X → Rule) (test : X → Bool) (x : X) (xs : List X)
    → option_or (option_map told (find test (x ∷ []))) (option_map told (find test xs)) ≡ option_map told (find test (x ∷ xs))
first_split told test x xs =
    elim (test x) as (λ b. option_or (option_map told (cond b (Some x) None)) (option_map told (find test xs)) ≡ option_map told (cond b (Some x) (find test xs))) [ true ↦ refl | false ↦ refl ]

-- one rule after another, in either nesting
two_ : (a b : Option Rule) → option_or a b ≡ option_or a (option_or b None)
two_ (Some r) b = refl
two_ None None = refl
two_ None (Some r) = refl

five_ : (a b c d e : Option Rule) → option_or (option_or (option_or (option_or a b) c) d) e ≡ option_or a (option_or b (option_or c (option_or d (option_or e None))))
five_ (Some r) b c d e = refl
five_ None (Some r) c d e = refl
five_ None None (Some r) d e = refl
five_ None None None d e = two_ d e

seven_ : (a b c d e f g : Option Rule) → option_or (option_or (option_or (option_or (option_or (option_or a b) c) d) e) f) g
    ≡ option_or a (option_or b (option_or c (option_or d (option_or e (option_or f (option_or g None))))))
seven_ (Some r) b c d e f g = refl
seven_ None (Some r) c d e f g = refl
seven_ None None c d e f g = five_ c d e f g

pub two : (a b o : Option Rule) {a' b' : Option Rule} → o ≡ option_or a b → a ≡ a' → b ≡ b' → o ≡ option_or a' (option_or b' None)
two a b o {a'} {b'} os as_ bs = let s : o ≡ option_or a' b' = os ∙ ap (λ x. option_or x b) as_ ∙ ap (option_or a') bs in s ∙ two_ a' b'

pub five : (a b c d e o p q r : Option Rule) {a' b' c' d' e' : Option Rule} → o ≡ option_or a b → p ≡ option_or o c → q ≡ option_or p d → r ≡ option_or q e
    → a ≡ a' → b ≡ b' → c ≡ c' → d ≡ d' → e ≡ e' → r ≡ option_or a' (option_or b' (option_or c' (option_or d' (option_or e' None))))
five a b c d e o p q r {a'} {b'} {c'} {d'} {e'} os ps qs rs as_ bs cs ds es =
    let o2 : o ≡ option_or a' b' = os ∙ ap (λ x. option_or x b) as_ ∙ ap (option_or a') bs in
    let p2 : p ≡ option_or (option_or a' b') c' = ps ∙ ap (λ x. option_or x c) o2 ∙ ap (option_or (option_or a' b')) cs in
    let q2 : q ≡ option_or (option_or (option_or a' b') c') d' = qs ∙ ap (λ x. option_or x d) p2 ∙ ap (option_or (option_or (option_or a' b') c')) ds in
    rs ∙ ap (λ x. option_or x e) q2 ∙ ap (option_or (option_or (option_or (option_or a' b') c') d')) es ∙ five_ a' b' c' d' e'

four_ : (a b c d : Option Rule) → option_or (option_or (option_or a b) c) d ≡ option_or a (option_or b (option_or c (option_or d None)))
four_ (Some r) b c d = refl
four_ None (Some r) c d = refl
four_ None None (Some r) d = refl
four_ None None None None = refl
four_ None None None (Some r) = refl

pub four : (a b c d o p q : Option Rule) {a' b' c' d' : Option Rule} → o ≡ option_or a b → p ≡ option_or o c → q ≡ option_or p d
    → a ≡ a' → b ≡ b' → c ≡ c' → d ≡ d' → q ≡ option_or a' (option_or b' (option_or c' (option_or d' None)))
four a b c d o p q {a'} {b'} {c'} {d'} os ps qs as_ bs cs ds =
    let o2 : o ≡ option_or a' b' = os ∙ ap (λ x. option_or x b) as_ ∙ ap (option_or a') bs in
    let p2 : p ≡ option_or (option_or a' b') c' = ps ∙ ap (λ x. option_or x c) o2 ∙ ap (option_or (option_or a' b')) cs in
    qs ∙ ap (λ x. option_or x d) p2 ∙ ap (option_or (option_or (option_or a' b') c')) ds ∙ four_ a' b' c' d'

pub seven : (a b c d e f g o p q r s t : Option Rule) {a' b' c' d' e' f' g' : Option Rule} → o ≡ option_or a b → p ≡ option_or o c → q ≡ option_or p d → r ≡ option_or q e
    → s ≡ option_or r f → t ≡ option_or s g → a ≡ a' → b ≡ b' → c ≡ c' → d ≡ d' → e ≡ e' → f ≡ f' → g ≡ g'
    → t ≡ option_or a' (option_or b' (option_or c' (option_or d' (option_or e' (option_or f' (option_or g' None))))))
seven a b c d e f g o p q r s t {a'} {b'} {c'} {d'} {e'} {f'} {g'} os ps qs rs ss ts as_ bs cs ds es fs gs =
    let o2 : o ≡ option_or a' b' = os ∙ ap (λ x. option_or x b) as_ ∙ ap (option_or a') bs in
    let p2 : p ≡ option_or (option_or a' b') c' = ps ∙ ap (λ x. option_or x c) o2 ∙ ap (option_or (option_or a' b')) cs in
    let q2 : q ≡ option_or (option_or (option_or a' b') c') d' = qs ∙ ap (λ x. option_or x d) p2 ∙ ap (option_or (option_or (option_or a' b') c')) ds in
    let r2 : r ≡ option_or (option_or (option_or (option_or a' b') c') d') e' = rs ∙ ap (λ x. option_or x e) q2 ∙ ap (option_or (option_or (option_or (option_or a' b') c') d')) es in
    let s2 : s ≡ option_or (option_or (option_or (option_or (option_or a' b') c') d') e') f' = ss ∙ ap (λ x. option_or x f) r2 ∙ ap (option_or (option_or (option_or (option_or (option_or a' b') c') d') e')) fs in
    ts ∙ ap (λ x. option_or x g) s2 ∙ ap (option_or (option_or (option_or (option_or (option_or (option_or a' b') c') d') e') f')) gs ∙ seven_ a' b' c' d' e' f' g'

pub same_rule : {a b : Rule} → a ≡ b → Some a ≡ Some b
same_rule e = ap Some e
