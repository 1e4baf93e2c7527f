use Rattle.std.proofs.Common.{◌≡◌, ◌∙◌, ◌==◌, sym, subst, false, List, ℕ, Option, Bor}
use Rattle.std.specs.Prelude.{IfSome}
use Rattle.std.specs.List.{list_any}
use Rattle.ann_reader.specs.PlainTexts.{IsPlain}
use Rattle.ann_reader.proofs.PlainLemmas.{plainly_shown_once}
use Rattle.ann_reader.proofs.texts.is_plainly_shown.Goals as goal

pub returns-in-len1 : goal.returns-in-len1
returns-in-len1 c t =
    plainly_shown_once c.args.doc.now c.in-Some.bytes.now c.args.text.now c.args.frags.now _ c.in-len1.len_at_least c.in-len1.len_below
    (subst (λ (o : Option (Bor (List ℕ))). IfSome o (λ bytes. IsPlain c.args.doc.now bytes.now)) c.in-Some.is c.requires)
    (sym c.as_bytes.ensures.value ∙ c.is_covered.ensures.same t)
    (subst (λ (bs : List ℕ). list_any (λ b. b == 10) bs ≡ false) c.as_bytes.ensures.value (c.is_covered.ensures.no_line_feed t))
