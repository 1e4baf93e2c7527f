use Rattle.std.proofs.Common.{◌≡◌, ◌++◌, ◌∙◌, ◌-◌, ◌<◌, List, ℕ, ap, string_bytes, codes, take, drop, length, arith}
use Rattle.std.specs.List.{flat_map}
use Rattle.std.proofs.lemmas.List.{take_rest}
use Rattle.annotation_conf.proofs.WordLemmas.{commas_behind}
use Rattle.annotation_conf.proofs.conf_words.push_with_commas.Goals as goal

pub returns-in_ok-push_marked-in-len1-up : goal.returns-in_ok-push_marked-in-len1-up
returns-in_ok-push_marked-in-len1-up c =
    let words : List (List ℕ) = c.args.words.now in
    let old : List ℕ = string_bytes c.args.out.now in
    let marked : List (List ℕ) → List ℕ = flat_map (λ w. codes ", " ++ w) in
    let rest : string_bytes c.push_marked.new.out ≡ string_bytes c.push_str.new.self ++ marked (take (length words - 1) (drop 1 words)) = c.in_ok-push_marked-in-len1-up.ensures in
    let first : string_bytes c.push_str.new.self ≡ old ++ c.text.result.now = c.in_ok-push_str-in-len1-up.ensures.bytes in
    let some : 0 < length words = omega (arith, c.in-len1-up.len_at_least) in
    rest ∙ ap (λ xs. string_bytes c.push_str.new.self ++ marked xs) (take_rest words 1)
    ∙ ap (λ t. t ++ marked (drop 1 words)) (first ∙ ap (λ w. old ++ w) c.text.ensures)
    ∙ commas_behind old c.word-item.result words some c.word-item.is
