-- The words of arguments and the counts of roles, from argument to argument.
use Rattle.std.proofs.Common.{◌≡◌, ℕ, ◌+◌, ◌<◌, ◌==◌, Bool, true, false, List, [], ◌∷◌, ◌++◌, length, zero, suc, refl, sym, ◌∙◌, ap, arith, take, drop, get_or, slice_index, slice_set, replicate, append_assoc, add-one, drop-cons, length-set, subst}
use Rattle.std.proofs.lemmas.List.{take_more, get_or-set_same, get_or-set_other}
use Rattle.std.proofs.lemmas.List.Sums.{count_by_more_yes, count_by_more_no}
use Rattle.std.proofs.lemmas.Bool.{eqb-true, eq-eqb}
use Rattle.mark_base.specs.declared.arguments.Arg.{Arg}
use Rattle.conf_model.specs.Configurations.{Configuration}
use Rattle.layer_rules.specs.MarkRules.{filled}
use Rattle.ann_writer.specs.RoleCounts.{AreCounts}
use Rattle.ann_writer.specs.Words.{argument_words, id_word, pair_word, role_spelling}

-- no argument stands before the first
pub no_counts : (n : ℕ) → AreCounts (replicate n 0) []
no_counts zero role within = absurd (omega arith)
no_counts (suc n) zero within = refl
no_counts (suc n) (suc role) within = no_counts n role (omega arith)

-- one word more
pub one_word : (conf : Configuration) (event : ℕ) (args : List Arg) (i k : ℕ) (arg : Arg) (words whole : List (List ℕ)) (word : List ℕ) → i < length args
    → arg ≡ get_or args i arg → k ≡ filled arg.role (take i args) + 1 → word ≡ pair_word (role_spelling conf event arg.role k) (id_word arg.target)
    → words ++ argument_words conf event (take i args) (drop i args) ≡ whole
    → (words ++ word ∷ []) ++ argument_words conf event (take (i + 1) args) (drop (i + 1) args) ≡ whole
one_word conf event args i k arg words whole word within there count is before =
    let taken : take (i + 1) args ≡ take i args ++ arg ∷ [] = take_more args i arg within ∙ ap (λ a. take i args ++ a ∷ []) (sym there) in
    let left : drop i args ≡ arg ∷ drop (i + 1) args = drop-cons args i arg within ∙ ap (λ a. a ∷ drop (suc i) args) (sym there) ∙ ap (λ n. arg ∷ drop n args) (sym (add-one i)) in
    let spelt : word ≡ pair_word (role_spelling conf event arg.role (filled arg.role (take i args) + 1)) (id_word arg.target) =
    is ∙ ap (λ n. pair_word (role_spelling conf event arg.role n) (id_word arg.target)) count in
    append_assoc words (word ∷ []) (argument_words conf event (take (i + 1) args) (drop (i + 1) args))
    ∙ ap (λ t. words ++ word ∷ argument_words conf event t (drop (i + 1) args)) taken
    ∙ ap (λ w. words ++ w ∷ argument_words conf event (take i args ++ arg ∷ []) (drop (i + 1) args)) spelt
    ∙ ap (λ r. words ++ argument_words conf event (take i args) r) (sym left) ∙ before

-- one argument more of a role, or of another
pub filled_here : (args : List Arg) (i : ℕ) (arg : Arg) → i < length args → arg ≡ get_or args i arg → filled arg.role (take (i + 1) args) ≡ filled arg.role (take i args) + 1
filled_here args i arg within there =
    count_by_more_yes (λ a. a.role == arg.role) args i arg within (ap (λ (a : Arg). a.role == arg.role) (sym there) ∙ eq-eqb arg.role arg.role refl)

filled_elsewhere : (args : List Arg) (i role : ℕ) (arg : Arg) → i < length args → arg ≡ get_or args i arg → (arg.role == role) ≡ false → filled role (take (i + 1) args) ≡ filled role (take i args)
filled_elsewhere args i role arg within there other = count_by_more_no (λ a. a.role == role) args i arg within (ap (λ (a : Arg). a.role == role) (sym there) ∙ other)

counted_by : (counts : List ℕ) (args : List Arg) (i : ℕ) (arg : Arg) (role : ℕ) (b : Bool) → (arg.role == role) ≡ b → i < length args → arg ≡ get_or args i arg → arg.role < length counts
    → AreCounts counts (take i args) → role < length counts → slice_index (slice_set counts arg.role (slice_index counts arg.role + 1)) role ≡ filled role (take (i + 1) args)
counted_by counts args i arg role true e within there fits before below =
    let same : arg.role ≡ role = eqb-true arg.role role e in
    subst (λ r. slice_index (slice_set counts arg.role (slice_index counts arg.role + 1)) r ≡ filled r (take (i + 1) args)) same
    (get_or-set_same counts arg.role (slice_index counts arg.role + 1) 0 fits ∙ ap (λ n. n + 1) (before arg.role fits) ∙ sym (filled_here args i arg within there))
counted_by counts args i arg role false e within there fits before below =
    get_or-set_other counts arg.role role (slice_index counts arg.role + 1) 0 (λ same. let f : true ≡ false = sym (eq-eqb arg.role role (sym same)) ∙ e in cc)
    ∙ before role below ∙ sym (filled_elsewhere args i role arg within there e)

-- one argument more is counted
pub counted : (counts : List ℕ) (args : List Arg) (i : ℕ) (arg : Arg) → i < length args → arg ≡ get_or args i arg → arg.role < length counts → AreCounts counts (take i args)
    → AreCounts (slice_set counts arg.role (slice_index counts arg.role + 1)) (take (i + 1) args)
counted counts args i arg within there fits before role below =
    counted_by counts args i arg role (arg.role == role) refl within there fits before (subst (λ n. role < n) (length-set counts arg.role (slice_index counts arg.role + 1)) below)
