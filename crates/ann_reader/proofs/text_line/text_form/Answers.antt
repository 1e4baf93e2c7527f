use Rattle.std.proofs.Common.{◌≡◌, ◌∙◌, sym, ap, false, drop, Some}
use Rattle.std.specs.Option.{option_map}
use Rattle.std.specs.List.{prefix_len}
use Rattle.ann_reader.specs.Words.{is_space, is_padded, behind_word}
use Rattle.ann_reader.specs.LineForms.{TextForm, frags_read}
use Rattle.ann_reader.proofs.LineLemmas.{text_cut}
use Rattle.ann_reader.proofs.text_line.text_form.Goals as goal

pub returns-in-Some-2 : goal.returns-in-Some-2
returns-in-Some-2 c =
    let plain : is_padded c.args.second.now ≡ false = ap is_padded (sym c.as_bytes.ensures.value) ∙ sym c.is_padded.ensures ∙ c.if-is_padded.false in
    let frags : Some c.in-Some-2.frags.items ≡ frags_read (behind_word c.args.second.now) =
    ap (option_map (λ list. list.items)) (sym c.in-Some-2.is) ∙ c.in_ok-frags-in-Some.ensures ∙ ap frags_read (c.without_spaces.ensures ∙ ap (λ r. drop (prefix_len is_space r) r) c.in-Some.ensures.2) in
    ap (λ k. TextForm c.args.first.now k c.in-Some-2.frags.items c.args.text.now) c.in-Some.ensures.1
    ∙ text_cut c.args.first.now c.args.second.now c.args.text.now c.in-Some-2.frags.items plain c.in-Some.ensures.0 frags
