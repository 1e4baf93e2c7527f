-- The characters of reference texts.
use Rattle.std.proofs.Common.{◌≡◌, ℕ, ◌-◌, ◌==◌, ◌||◌, zero, suc, Bool, true, false, cond, List, [], ◌∷◌, ◌++◌, map, take, drop, chars, encode_utf8_all, refl, subst}
use Rattle.std.specs.Str.{IsUtf8, all_scalars}
use Rattle.std.proofs.lemmas.Bool.{and_parts, and_from}
use Rattle.std.proofs.Math.Utf8.{scalar}
use Rattle.std.proofs.lemmas.Str.{scalars-chars, chars-encodes}
use Rattle.mark_base.specs.declared.fragments.Frag.{Frag}
use Rattle.char_documents.specs.Texts.{covered, reference_text, shown}

scalars_drop : (i : ℕ) (cs : List ℕ) → all_scalars cs ≡ true → all_scalars (drop i cs) ≡ true
scalars_drop zero cs t = t
scalars_drop (suc i) [] t = t
scalars_drop (suc i) (c ∷ cs) t = scalars_drop i cs (and_parts (scalar c) (all_scalars cs) t).1

scalars_take : (i : ℕ) (cs : List ℕ) → all_scalars cs ≡ true → all_scalars (take i cs) ≡ true
scalars_take zero cs t = refl
scalars_take (suc i) [] t = refl
scalars_take (suc i) (c ∷ cs) t =
    let parts = and_parts (scalar c) (all_scalars cs) t in
    and_from (scalar c) (all_scalars (take i cs)) parts.0 (scalars_take i cs parts.1)

one_shown : (end : Bool) (c : ℕ) → scalar c ≡ true → scalar (cond end 32 c) ≡ true
one_shown true c t = refl
one_shown false c t = t

scalars_shown : (cs : List ℕ) → all_scalars cs ≡ true → all_scalars (map shown cs) ≡ true
scalars_shown [] t = refl
scalars_shown (c ∷ cs) t =
    let parts = and_parts (scalar c) (all_scalars cs) t in
    and_from (scalar (shown c)) (all_scalars (map shown cs)) (one_shown (c == 10 || c == 13) c parts.0) (scalars_shown cs parts.1)

scalars_append : (xs ys : List ℕ) → all_scalars xs ≡ true → all_scalars ys ≡ true → all_scalars (xs ++ ys) ≡ true
scalars_append [] ys s t = t
scalars_append (x ∷ xs) ys s t =
    let parts = and_parts (scalar x) (all_scalars xs) s in
    and_from (scalar x) (all_scalars (xs ++ ys)) parts.0 (scalars_append xs ys parts.1 t)

scalars_covered : (text : List ℕ) (frag : Frag) → all_scalars text ≡ true → all_scalars (map shown (covered text frag)) ≡ true
scalars_covered text frag t = scalars_shown (covered text frag) (scalars_take (frag.end - frag.start) (drop frag.start text) (scalars_drop frag.start text t))

scalars_reference : (text : List ℕ) (frags : List Frag) → all_scalars text ≡ true → all_scalars (reference_text text frags) ≡ true
unfolding reference_text
scalars_reference text [] t = refl
scalars_reference text (f ∷ []) t = scalars_covered text f t
scalars_reference text (f ∷ g ∷ frags) t =
    scalars_append (map shown (covered text f)) (32 ∷ reference_text text (g ∷ frags)) (scalars_covered text f t) (scalars_reference text (g ∷ frags) t)

-- a reference text is read back from its bytes
pub reference_back : (whole text : List ℕ) (frags : List Frag) → IsUtf8 whole → chars whole ≡ text
    → chars (encode_utf8_all (reference_text text frags)) ≡ reference_text text frags
reference_back whole text frags utf8 same =
    chars-encodes (reference_text text frags) (scalars_reference text frags (subst (λ cs. all_scalars cs ≡ true) same (scalars-chars whole utf8)))
