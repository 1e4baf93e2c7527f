-- Empty lines can still become a head.
use Rattle.std.proofs.lemmas.Bool.Decides.{eqb_tells}
use Rattle.std.proofs.Math.Dec.{eqb}
use Rattle.http_wire.specs.NextMessage.{empty_lines_after}
use Rattle.http_wire.specs.Messages.{IsEmptyLines}
use Rattle.std.proofs.Common.{◌≡◌, ◌≢◌, ◌⊎◌, inl, inr, true, false, ℕ, zero, suc, ◌<◌, List, [], ◌∷◌, ◌++◌, refl, lit<, lit≤}
use Rattle.std.proofs.lemmas.List.Elements.{All-cons, All-nil}
use Rattle.std.specs.List.{slice_index}
use Rattle.std.specs.Bool.{IsTrue}
use Rattle.std.proofs.lemmas.Str.{IsUtf8-from_ascii}
use Rattle.httparse.specs.Grammar.{LineEnd, crlf, lf, print_blank, RequestHead, ReadsRequest, is_token_byte, is_uri_byte}
use Rattle.httparse.proofs.GrammarLemmas.{print_request-append}

-- the empty lines, and the shortest request
abbrev pub blank_head : List LineEnd → RequestHead
blank_head ends = record {
  blank = ends;
  method = 65 ∷ [];
  target = 47 ∷ [];
  minor = 1;
  line_end = lf;
  fields = [];
  last = lf;
}

-- its bytes: "A / HTTP/1.1", a line end and an empty line
abbrev pub blank_tail : List ℕ
blank_tail = 65 ∷ 32 ∷ 47 ∷ 32 ∷ 72 ∷ 84 ∷ 84 ∷ 80 ∷ 47 ∷ 49 ∷ 46 ∷ 49 ∷ 10 ∷ 10 ∷ []

slash_ascii : (i : ℕ) → slice_index (47 ∷ []) i < 128
slash_ascii zero = lit< tt
slash_ascii (suc i) = lit< tt

pub blank_reads : (bytes : List ℕ) (ends : List LineEnd) → bytes ≡ print_blank ends → ReadsRequest (bytes ++ blank_tail) (blank_head ends) []
unfolding is_token_byte
blank_reads bytes ends e = (
  record {
    method = (lit< tt, All-cons (λ b. IsTrue (is_token_byte b)) 65 [] refl (All-nil _));
    target = (lit< tt, All-cons (λ b. IsTrue (is_uri_byte b)) 47 [] refl (All-nil _));
    target_text = IsUtf8-from_ascii (47 ∷ []) slash_ascii;
    minor = lit≤ tt;
    fields = All-nil _;
  },
  rw (print_request-append, e) refl,
)

-- ---- the test of empty lines

tests_blank : (ends : List LineEnd) → empty_lines_after false (print_blank ends) ≡ true
tests_blank [] = refl
tests_blank (crlf ∷ ends) = tests_blank ends
tests_blank (lf ∷ ends) = tests_blank ends

-- what the test has shown, behind a carriage return or not
abbrev Shown : List ℕ → Type 0
Shown bytes =
    (empty_lines_after false bytes ≡ true → IsEmptyLines bytes)
    × (empty_lines_after true bytes ≡ true → IsEmptyLines (13 ∷ bytes))

feed_more : (byte : ℕ) (bytes : List ℕ) → byte ≡ 10 → IsEmptyLines bytes → IsEmptyLines (byte ∷ bytes)
feed_more byte bytes e shown = (lf ∷ shown.0, rw (e, shown.1) refl)

return_feed_more : (byte : ℕ) (bytes : List ℕ) → byte ≡ 10 → IsEmptyLines bytes → IsEmptyLines (13 ∷ byte ∷ bytes)
return_feed_more byte bytes e shown = (crlf ∷ shown.0, rw (e, shown.1) refl)

return_more : (byte : ℕ) (bytes : List ℕ) → byte ≡ 13 → IsEmptyLines (13 ∷ bytes) → IsEmptyLines (byte ∷ bytes)
return_more byte bytes e shown = rw e shown

shown_more : (byte : ℕ) (bytes : List ℕ) → Shown bytes
    → ((eqb byte 10 ≡ true) × (byte ≡ 10)) ⊎ ((eqb byte 10 ≡ false) × (byte ≢ 10))
    → ((eqb byte 13 ≡ true) × (byte ≡ 13)) ⊎ ((eqb byte 13 ≡ false) × (byte ≢ 13))
    → Shown (byte ∷ bytes)
shown_more byte bytes shown (inl feed) other = (
  λ test. let h : empty_lines_after false bytes ≡ true = (simp feed.0 at test) in
      feed_more byte bytes feed.1 (shown.0 h),
  λ test. let h : empty_lines_after false bytes ≡ true = (simp feed.0 at test) in
      return_feed_more byte bytes feed.1 (shown.0 h),
)
shown_more byte bytes shown (inr unlike) (inl return) = (
  λ test. let h : empty_lines_after true bytes ≡ true = (simp (unlike.0, return.0) at test) in
      return_more byte bytes return.1 (shown.1 h),
  λ test. let h : false ≡ true = (simp (unlike.0, return.0) at test) in cc,
)
shown_more byte bytes shown (inr unlike) (inr other) = (
  λ test. let h : false ≡ true = (simp (unlike.0, other.0) at test) in cc,
  λ test. let h : false ≡ true = (simp (unlike.0, other.0) at test) in cc,
)

shown_all : (bytes : List ℕ) → Shown bytes
shown_all [] = (λ test. ([], refl), λ test. cc)
shown_all (byte ∷ bytes) = shown_more byte bytes (shown_all bytes) (eqb_tells byte 10) (eqb_tells byte 13)

pub empty_yes : (bytes : List ℕ) → empty_lines_after false bytes ≡ true → IsEmptyLines bytes
empty_yes bytes test = (shown_all bytes).0 test

pub empty_no : (bytes : List ℕ) → empty_lines_after false bytes ≡ false → IsEmptyLines bytes → ⊥
empty_no bytes test empty = let a : empty_lines_after false bytes ≡ true = rw empty.1 (tests_blank empty.0) in cc
