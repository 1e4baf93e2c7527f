use Rattle.std.proofs.Common.{◌∙◌, sym, subst, Bool}
use Rattle.std.specs.Bool.{MatchBool}
use Rattle.std.specs.Str.{IsAscii, IsNotAscii}
use Rattle.std.proofs.lemmas.Str.{chars-IsAscii}
use Rattle.ann_reader.proofs.texts.plain_text.Goals as goal

pub returns-then-is_ascii : goal.returns-then-is_ascii
returns-then-is_ascii c =
    let ascii : IsAscii c.text-text.result.now = subst (λ (b : Bool). MatchBool b (IsAscii c.text-text.result.now) (IsNotAscii c.text-text.result.now)) c.if-is_ascii.true c.is_ascii.ensures.cases in
    record {
      same = c.as_bytes.ensures.value ∙ sym (chars-IsAscii c.text-text.result.now ascii) ∙ c.text-text.ensures.characters;
      ascii = subst IsAscii (sym c.as_bytes.ensures.value) ascii;
    }
