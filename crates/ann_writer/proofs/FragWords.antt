-- IDs and fragments are read back from their words.
use Rattle.std.proofs.Common.{◌≡◌, refl, sym, ap, ap₂, ◌∙◌, ℕ, ◌≤◌, ◌==◌, List, [], ◌∷◌, ◌++◌, map, decimal, arith, append-nil, append_assoc, codes, Some}
use Rattle.std.specs.Str.{NonePass}
use Rattle.std.specs.List.{AllByRecursion, slice_split}
use Rattle.mark_base.specs.declared.ann_id.AnnId.{AnnId}
use Rattle.mark_base.specs.declared.fragments.Frag.{Frag}
use Rattle.annotation_conf.proofs.WrittenLists.{split_none, split_at, none-append}
use Rattle.mark_base.specs.ReadIds.{id_read}
use Rattle.mark_base.proofs.IdLemmas.{id_at-id, spelling_read}
use Rattle.mark_base.proofs.NumberLemmas.{number_read_back}
use Rattle.ann_reader.specs.Words.{words_of, frag_of, frag_read, all_of}
use Rattle.ann_reader.specs.LineForms.{frags_read}
use Rattle.ann_writer.specs.Words.{id_word, frag_word, frags_word, words_behind}
use Rattle.ann_writer.proofs.PlainWords.{IsPlain, decimal_plain, decimal_semicolon, plain-append}
use Rattle.ann_writer.proofs.FieldWords.{words_read, all_read}

-- ---- IDs

pub id_read_back : (id : AnnId) → id_read (id_word id) ≡ Some id
id_read_back id = spelling_read id.kind id.number id.within ∙ ap Some (id_at-id id)

-- ---- fragments

-- both ends are numbers of at most nine digits
pub record IsShort (frag : Frag) : Type 0 where
  pub start : frag.start ≤ 999999999
  pub end : frag.end ≤ 999999999

-- the words of fragments behind the first start
abbrev pub ends : Frag → List Frag → List (List ℕ)
ends frag [] = decimal frag.end ∷ []
ends frag (next ∷ more) = (decimal frag.end ++ 59 ∷ decimal next.start) ∷ ends next more

pub spaced : (frag : Frag) (more : List Frag) → frags_word (frag ∷ more) ≡ decimal frag.start ++ words_behind (ends frag more)
spaced frag [] = append-nil (frag_word frag) ∙ append_assoc (decimal frag.start) (codes " ") (decimal frag.end) ∙ ap (λ x. decimal frag.start ++ 32 ∷ x) (sym (append-nil (decimal frag.end)))
spaced frag (next ∷ more) =
    append_assoc (decimal frag.start ++ codes " ") (decimal frag.end) (59 ∷ frags_word (next ∷ more))
    ∙ append_assoc (decimal frag.start) (codes " ") (decimal frag.end ++ 59 ∷ frags_word (next ∷ more))
    ∙ ap (λ x. decimal frag.start ++ 32 ∷ (decimal frag.end ++ 59 ∷ x)) (spaced next more)
    ∙ ap (λ x. decimal frag.start ++ 32 ∷ x) (sym (append_assoc (decimal frag.end) (59 ∷ decimal next.start) (words_behind (ends next more))))

semicolon_plain : (a b : ℕ) → a ≤ 999999999 → b ≤ 999999999 → IsPlain (decimal a ++ 59 ∷ decimal b)
semicolon_plain a b ha hb = plain-append (decimal a) (59 ∷ decimal b) (decimal_plain a (omega arith)) (refl, (decimal_plain b (omega arith)).free)

pub ends_plain : (frag : Frag) (more : List Frag) → IsShort frag → AllByRecursion IsShort more → AllByRecursion IsPlain (ends frag more)
ends_plain frag [] h all = let few = h.end in (decimal_plain frag.end (omega arith), tt)
ends_plain frag (next ∷ more) h all = (semicolon_plain frag.end next.start h.end all.0.start, ends_plain next more all.0 all.1)

-- a fragment alone
frag_words : (frag : Frag) → IsShort frag → words_of (frag_word frag) ≡ decimal frag.start ∷ decimal frag.end ∷ []
frag_words frag h =
    let few = h.start in
    ap words_of (sym (append-nil (frag_word frag)) ∙ spaced frag [])
    ∙ words_read (decimal frag.start) (ends frag []) (decimal_plain frag.start (omega arith)) (ends_plain frag [] h tt)

frag_read_back : (frag : Frag) → IsShort frag → frag_read (words_of (frag_word frag)) ≡ Some frag
frag_read_back frag h = ap frag_read (frag_words frag h) ∙ ap₂ frag_of (number_read_back frag.start h.start) (number_read_back frag.end h.end)

frag_whole : (frag : Frag) → IsShort frag → NonePass (λ b. b == 59) (frag_word frag)
frag_whole frag h =
    let start = h.start in let end = h.end in
    none-append (λ b. b == 59) (decimal frag.start ++ codes " ") (decimal frag.end)
    (none-append (λ b. b == 59) (decimal frag.start) (codes " ") (decimal_semicolon frag.start (omega arith)) (refl, tt)) (decimal_semicolon frag.end (omega arith))

split_frags : (frag : Frag) (more : List Frag) → IsShort frag → AllByRecursion IsShort more → slice_split (λ b. b == 59) (frags_word (frag ∷ more)) ≡ map frag_word (frag ∷ more)
split_frags frag [] h all = ap (slice_split (λ b. b == 59)) (append-nil (frag_word frag)) ∙ split_none (λ b. b == 59) (frag_word frag) (frag_whole frag h)
split_frags frag (next ∷ more) h all =
    split_at (λ b. b == 59) (frag_word frag) 59 (frags_word (next ∷ more)) (frag_whole frag h) refl ∙ ap (λ rest. frag_word frag ∷ rest) (split_frags next more all.0 all.1)

pub map_twice : {A B C : Type 0} (f : B → C) (g : A → B) (xs : List A) → map f (map g xs) ≡ map (λ x. f (g x)) xs
map_twice f g [] = refl
map_twice f g (x ∷ xs) = ap (λ rest. f (g x) ∷ rest) (map_twice f g xs)

pub map_same : {A : Type 0} (xs : List A) → map (λ x. x) xs ≡ xs
map_same [] = refl
map_same (x ∷ xs) = ap (λ rest. x ∷ rest) (map_same xs)

each_frag : (frags : List Frag) → AllByRecursion IsShort frags → AllByRecursion (λ frag. frag_read (words_of (frag_word frag)) ≡ Some frag) frags
each_frag [] all = tt
each_frag (frag ∷ more) all = (frag_read_back frag all.0, each_frag more all.1)

pub frags_read_back : (frag : Frag) (more : List Frag) → IsShort frag → AllByRecursion IsShort more → frags_read (frags_word (frag ∷ more)) ≡ Some (frag ∷ more)
frags_read_back frag more h all =
    ap (λ pieces. all_of (map (λ piece. frag_read (words_of piece)) pieces)) (split_frags frag more h all)
    ∙ ap all_of (map_twice (λ piece. frag_read (words_of piece)) frag_word (frag ∷ more))
    ∙ all_read (λ f. frag_read (words_of (frag_word f))) (λ f. f) (frag ∷ more) (each_frag (frag ∷ more) (h, all))
    ∙ ap Some (map_same (frag ∷ more))
