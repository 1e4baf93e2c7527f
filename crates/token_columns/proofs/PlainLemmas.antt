-- The lines of columns: neither a token nor a label is parted by blanks.
use Rattle.std.proofs.Common.{◌≡◌, refl, sym, ap, subst, ◌∙◌, ℕ, ◌-◌, ◌<◌, ◌≤◌, true, false, ◌||◌, ◌&&◌, ◌==◌, List, [], ◌∷◌, ◌++◌, length, take, drop, codes, arith, IsUtf8, append_assoc}
use Rattle.std.proofs.lemmas.Bool.{or_from, or_parts}
use Rattle.std.proofs.lemmas.List.{length-take, length-drop}
use Rattle.std.proofs.lemmas.Str.{length-le-encodes}
use Rattle.std.specs.Char.{is_whitespace}
use Rattle.std.specs.List.{slice_split}
use Rattle.std.specs.Str.{NonePass, all_scalars}
use Rattle.mark_base.specs.declared.fragments.Frag.{Frag}
use Rattle.char_documents.specs.Texts.{covered}
use Rattle.annotation_conf.proofs.WrittenLists.{none_less, is_other, split_at, split_none}
use Rattle.ann_writer.proofs.PlainWords.{IsPlain, bytes_free, no_tab, parts, past_parts}
use Rattle.token_columns.specs.Columns.{token_text}
use Rattle.token_columns.specs.ReadColumns.{is_blank}
use Rattle.token_columns.proofs.TextLemmas.{scalars_drop, scalars_take, token_chars}

white_parts : (c : ℕ) → is_whitespace c ≡ false → parts c ≡ false
white_parts c h = or_from _ _ (or_from _ _ (or_from _ _ (is_other is_whitespace 32 refl c h) (is_other is_whitespace 9 refl c h)) (is_other is_whitespace 10 refl c h)) (is_other is_whitespace 13 refl c h)

pub token_utf8 : (text : List ℕ) (token : Frag) → all_scalars text ≡ true → IsUtf8 (token_text text token)
token_utf8 text token s =
    (take (token.end - token.start) (drop token.start text), (scalars_take (token.end - token.start) (drop token.start text) (scalars_drop token.start text s), refl))

-- a token is a word that nothing parts
pub token_plain : (text : List ℕ) (token : Frag) → all_scalars text ≡ true → NonePass is_whitespace (covered text token) → token.start < token.end → token.end ≤ length text → IsPlain (token_text text token)
token_plain text token s none some within = record {
  some =
      let most : length (covered text token) ≤ length (token_text text token) = length-le-encodes (covered text token) in
      omega (arith, most, length-take (token.end - token.start) (drop token.start text), length-drop token.start text);
  free =
      bytes_free parts past_parts (token_text text token) (token_utf8 text token s)
      (subst (NonePass parts) (sym (token_chars text token s)) (none_less is_whitespace parts white_parts (covered text token) none));
}

-- the two fields of a line
pub fields_split : (token field : List ℕ) → NonePass parts token → NonePass parts field → slice_split (λ b. b == 9) (token ++ codes "\t" ++ field) ≡ token ∷ field ∷ []
fields_split token field t f =
    ap (slice_split (λ b. b == 9)) (append_assoc token (codes "\t") field) ∙ split_at (λ b. b == 9) token 9 field (no_tab token t) refl
    ∙ ap (λ rest. token ∷ rest) (split_none (λ b. b == 9) field (no_tab field f))

blank_byte : (b : ℕ) → parts b ≡ false → (b == 32 || b == 9 || b == 13) ≡ false
blank_byte b h =
    let both = or_parts (b == 32 || b == 9 || b == 10) (b == 13) h in
    or_from (b == 32 || b == 9) (b == 13) (or_parts (b == 32 || b == 9) (b == 10) both.0).0 both.1

pub not_blank : (token rest : List ℕ) → IsPlain token → is_blank (token ++ rest) ≡ false
not_blank [] rest p = absurd (omega (arith, p.some))
not_blank (b ∷ token) rest p = ap (λ t. t && is_blank (token ++ rest)) (blank_byte b (p.free).0)
