-- Texts of T lines over documents of ASCII.
use Rattle.std.proofs.Common.{◌≡◌, ℕ, ◌-◌, ◌<◌, ◌≤◌, ◌==◌, ◌||◌, Bool, true, false, cond, List, [], ◌∷◌, map, drop, chars, refl, sym, ◌∙◌, ap, subst, None, Some, min, length, get_or, arith}
use Rattle.std.specs.Prelude.{bytes_eq}
use Rattle.std.specs.List.{list_any, common_prefix_len}
use Rattle.std.specs.Str.{IsAscii}
use Rattle.std.proofs.lemmas.Bool.{cond-true, false≢true}
use Rattle.std.proofs.lemmas.Slice.Eq.{bytes_eq-Decides}
use Rattle.std.proofs.lemmas.Str.{chars-IsAscii, IsAscii-drop, IsAscii-take}
use Rattle.mark_base.specs.declared.fragments.Frag.{Frag}
use Rattle.char_documents.specs.Texts.{covered, reference_text, shown}
use Rattle.ann_reader.specs.AnnFaults.{as_space, differing}
use Rattle.ann_reader.specs.PlainTexts.{IsPlain}

neither : (x y : Bool) → (x || y) ≡ false → (x ≡ false) × (y ≡ false)
neither true y e = absurd (false≢true (sym e))
neither false y e = (refl, e)

-- where no line feed stands, a line shows what a reference text shows
same_shown : (cs : List ℕ) → list_any (λ b. b == 10) cs ≡ false → map as_space cs ≡ map shown cs
same_shown [] e = refl
same_shown (c ∷ cs) e =
    let parts = neither (c == 10) (list_any (λ b. b == 10) cs) e in
    sym (ap (λ b. cond (b || c == 13) 32 c ∷ map shown cs) parts.0 ∙ ap (λ ds. as_space c ∷ ds) (sym (same_shown cs parts.1)))

one_reference : (text : List ℕ) (frag : Frag) → map shown (covered text frag) ≡ reference_text text (frag ∷ [])
unfolding reference_text
one_reference text frag = refl

none_differ : (a : List ℕ) → differing a a ≡ None
none_differ a = cond-true (bytes_eq a a) None (Some (min (common_prefix_len (λ x y. x == y) a a) 4294967295)) ((bytes_eq-Decides a a).1 refl)

-- what a fragment covers, and no line feed, is the reference text
plainly_shown : (text plain line : List ℕ) (frag : Frag) → IsPlain text plain → line ≡ covered plain frag → list_any (λ b. b == 10) line ≡ false
    → differing (map as_space (chars line)) (reference_text text (frag ∷ [])) ≡ None
plainly_shown text plain line frag p same clear =
    let piece : IsAscii (covered plain frag) = IsAscii-take (drop frag.start plain) (frag.end - frag.start) (IsAscii-drop plain frag.start p.ascii) in
    let ascii : IsAscii line = subst IsAscii (sym same) piece in
    let left : map as_space (chars line) ≡ reference_text text (frag ∷ []) =
    ap (map as_space) (chars-IsAscii line ascii) ∙ same_shown line clear ∙ ap (map shown) (same ∙ ap (λ t. covered t frag) p.same) ∙ one_reference text frag in
    ap (λ a. differing a (reference_text text (frag ∷ []))) left ∙ none_differ (reference_text text (frag ∷ []))

-- the same of a list of one fragment
pub plainly_shown_once : (text plain line : List ℕ) (frags : List Frag) (d : Frag) → 1 ≤ length frags → length frags < 2 → IsPlain text plain → line ≡ covered plain (get_or frags 0 d)
    → list_any (λ b. b == 10) line ≡ false → differing (map as_space (chars line)) (reference_text text frags) ≡ None
plainly_shown_once text plain line [] d some few p same clear = absurd (omega arith)
plainly_shown_once text plain line (f ∷ []) d some few p same clear = plainly_shown text plain line f p same clear
plainly_shown_once text plain line (f ∷ g ∷ frags) d some few p same clear = absurd (omega arith)
