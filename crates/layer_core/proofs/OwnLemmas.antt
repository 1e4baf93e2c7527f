-- Rules of a command one after another, as the code nests them.
use Rattle.std.proofs.Common.{◌≡◌, true, false, true≢false, Option, Some, None, is_some, refl, sym, ◌∙◌, ap}
use Rattle.std.specs.Option.{option_or}
use Rattle.layer_model.specs.declared.rule.Rule.{Rule}

two_ : (a b : Option Rule) → option_or a b ≡ option_or a (option_or b None)
two_ (Some r) b = refl
two_ None None = refl
two_ None (Some r) = refl

three_ : (a b c : Option Rule) → option_or (option_or a b) c ≡ option_or a (option_or b (option_or c None))
three_ (Some r) b c = refl
three_ None b c = two_ b c

pub three : (a b c o p : Option Rule) {a' b' c' : Option Rule} → o ≡ option_or a b → p ≡ option_or o c → a ≡ a' → b ≡ b' → c ≡ c' → p ≡ option_or a' (option_or b' (option_or c' None))
three a b c o p {a'} {b'} {c'} os ps as_ bs cs =
    let o2 : o ≡ option_or a' b' = os ∙ ap (λ x. option_or x b) as_ ∙ ap (option_or a') bs in
    ps ∙ ap (λ x. option_or x c) o2 ∙ ap (option_or (option_or a' b')) cs ∙ three_ a' b' c'

one_more_ : (a b c d : Option Rule) → option_or (option_or a (option_or b (option_or c None))) d ≡ option_or a (option_or b (option_or c (option_or d None)))
one_more_ (Some r) b c d = refl
one_more_ None (Some r) c d = refl
one_more_ None None (Some r) d = refl
one_more_ None None None d = two_ None d

-- three rules and one more
pub one_more : (a b c d m n o : Option Rule) → o ≡ option_or m n → m ≡ option_or a (option_or b (option_or c None)) → n ≡ d → o ≡ option_or a (option_or b (option_or c (option_or d None)))
one_more a b c d m n o os ms ns = os ∙ ap (λ x. option_or x n) ms ∙ ap (option_or (option_or a (option_or b (option_or c None)))) ns ∙ one_more_ a b c d

pairs_ : (a b c d e : Option Rule) → option_or (option_or (option_or a b) (option_or c d)) e ≡ option_or a (option_or b (option_or c (option_or d (option_or e None))))
pairs_ (Some r) b c d e = refl
pairs_ None (Some r) c d e = refl
pairs_ None None c d e = three_ c d e

-- two rules, two rules and one more
pub pairs : (a b c d e o p q r : Option Rule) {a' b' c' d' e' : Option Rule} → o ≡ option_or a b → p ≡ option_or c d → q ≡ option_or o p → r ≡ option_or q e
    → a ≡ a' → b ≡ b' → c ≡ c' → d ≡ d' → e ≡ e' → r ≡ option_or a' (option_or b' (option_or c' (option_or d' (option_or e' None))))
pairs a b c d e o p q r {a'} {b'} {c'} {d'} {e'} os ps qs rs as_ bs cs ds es =
    let o2 : o ≡ option_or a' b' = os ∙ ap (λ x. option_or x b) as_ ∙ ap (option_or a') bs in
    let p2 : p ≡ option_or c' d' = ps ∙ ap (λ x. option_or x d) cs ∙ ap (option_or c') ds in
    let q2 : q ≡ option_or (option_or a' b') (option_or c' d') = qs ∙ ap (λ x. option_or x p) o2 ∙ ap (option_or (option_or a' b')) p2 in
    rs ∙ ap (λ x. option_or x e) q2 ∙ ap (option_or (option_or (option_or a' b') (option_or c' d'))) es ∙ pairs_ a' b' c' d' e'

-- a rule that is broken stands, whatever comes behind it
pub stands : (a b : Option Rule) → is_some a ≡ true → a ≡ option_or a b
stands (Some r) b some = refl
stands None b some = absurd (true≢false (sym some))

-- where none is broken, what comes behind it
pub comes_behind : (a b : Option Rule) → is_some a ≡ false → b ≡ option_or a b
comes_behind None b none = refl
comes_behind (Some r) b none = absurd (true≢false none)

six_ : (a b c d e f : Option Rule) → option_or (option_or (option_or (option_or (option_or a b) c) d) e) f ≡ option_or a (option_or b (option_or c (option_or d (option_or e (option_or f None)))))
six_ (Some r) b c d e f = refl
six_ None (Some r) c d e f = refl
six_ None None (Some r) d e f = refl
six_ None None None d e f = three_ d e f

pub six : (a b c d e f o p q r s : Option Rule) {a' b' c' d' e' f' : Option Rule} → o ≡ option_or a b → p ≡ option_or o c → q ≡ option_or p d → r ≡ option_or q e → s ≡ option_or r f
    → a ≡ a' → b ≡ b' → c ≡ c' → d ≡ d' → e ≡ e' → f ≡ f' → s ≡ option_or a' (option_or b' (option_or c' (option_or d' (option_or e' (option_or f' None)))))
six a b c d e f o p q r s {a'} {b'} {c'} {d'} {e'} {f'} os ps qs rs ss as_ bs cs ds es fs =
    let o2 : o ≡ option_or a' b' = os ∙ ap (λ x. option_or x b) as_ ∙ ap (option_or a') bs in
    let p2 : p ≡ option_or (option_or a' b') c' = ps ∙ ap (λ x. option_or x c) o2 ∙ ap (option_or (option_or a' b')) cs in
    let q2 : q ≡ option_or (option_or (option_or a' b') c') d' = qs ∙ ap (λ x. option_or x d) p2 ∙ ap (option_or (option_or (option_or a' b') c')) ds in
    let r2 : r ≡ option_or (option_or (option_or (option_or a' b') c') d') e' = rs ∙ ap (λ x. option_or x e) q2 ∙ ap (option_or (option_or (option_or (option_or a' b') c') d')) es in
    ss ∙ ap (λ x. option_or x f) r2 ∙ ap (option_or (option_or (option_or (option_or (option_or a' b') c') d') e')) fs ∙ six_ a' b' c' d' e' f'
