-- Texts by their characters, and the characters of a name.
use Rattle.std.proofs.Common.{◌≡◌, refl, sym, ap, ap₂, ◌∙◌, ℕ, suc, ◌+◌, Bool, true, false, cond, not, ◌||◌, ◌&&◌, List, [], ◌∷◌, ◌++◌, length, ◌==◌, arith, ◌<◌, ◌≤◌, subst, Option, Some, None, is_some, option_map, position, chars, IsUtf8, slice_index, nat_lt, if◌then◌else◌, encode_utf8_all, lit<, lt_trans}
use Rattle.std.proofs.lemmas.Bool.{eqb-true, false_from_ne_true, true≢false, or_parts, lt-ltb, and_parts, ltb-false, ltb-true, not-false}
use Rattle.std.proofs.lemmas.Str.{chars-encodes, encodes-chars, scalars-chars, encodes-append, encode_ascii}
use lib.Utf8.{scalar, scalars, encode, low_scalar}
use Rattle.std.specs.Str.{NonePass}
use Rattle.std.specs.List.{position_or_len, list_all}
use Rattle.mark_base.specs.Names.{is_barred, name_fault}
use Rattle.mark_base.specs.declared.name.NameFault.{NameFault}
use Rattle.mark_base.specs.declared.name.NameFault.TheVariants.{Empty, TooLong, BadChar}
use Rattle.conf_model.specs.ConfLines.{is_hyphens}
use Rattle.conf_model.specs.ConfFaults.{is_no_name}
use Rattle.annotation_conf.proofs.Written.{IsWord, IsDeclaredWord}

-- these are the characters of a text
pub record Spells (text cs : List ℕ) : Type 0 where
  pub scalar : scalars cs ≡ true
  pub spelt : encode_utf8_all cs ≡ text

scalars-append : (xs ys : List ℕ) → scalars xs ≡ true → scalars ys ≡ true → scalars (xs ++ ys) ≡ true
scalars-append [] ys hx hy = hy
scalars-append (x ∷ xs) ys hx hy =
    let h = and_parts (scalar x) (scalars xs) hx in
    ap₂ (λ a b. a && b) h.0 (scalars-append xs ys h.1 hy)

pub spells-append : (s t cs ds : List ℕ) → Spells s cs → Spells t ds → Spells (s ++ t) (cs ++ ds)
spells-append s t cs ds hs ht = record {
  scalar = scalars-append cs ds hs.scalar ht.scalar;
  spelt = encodes-append cs ds ∙ ap₂ (λ a b. a ++ b) hs.spelt ht.spelt;
}

pub spells_chars : (text cs : List ℕ) → Spells text cs → chars text ≡ cs
spells_chars text cs h = sym (ap chars h.spelt) ∙ chars-encodes cs h.scalar

pub spells_valid : (text cs : List ℕ) → Spells text cs → IsUtf8 text
spells_valid text cs h = (cs, (h.scalar, h.spelt))

pub spells_name : (word : List ℕ) → IsUtf8 word → Spells word (chars word)
spells_name word valid = record { scalar = scalars-chars word valid; spelt = encodes-chars word valid }

-- past ASCII
abbrev pub is_wide : ℕ → Bool
is_wide c = not (nat_lt c 128)

-- ASCII is its own characters
pub spells_plain : (cs : List ℕ) → NonePass is_wide cs → Spells cs cs
spells_plain [] h = record { scalar = refl; spelt = refl }
spells_plain (c ∷ cs) h =
    let low = ltb-true c 128 (not-false (nat_lt c 128) h.0) in
    let more = spells_plain cs h.1 in
    record { scalar = ap₂ (λ a b. a && b) (low_scalar c (lt_trans low (lit< tt))) more.scalar; spelt = ap₂ (λ a b. a ++ b) (encode_ascii c low) more.spelt }

-- where no place is found, none is there
none_found : (p : ℕ → Bool) (xs : List ℕ) → length xs ≤ position_or_len p xs → NonePass p xs
none_found p [] h = tt
none_found p (x ∷ xs) h =
    let fails : p x ≡ false = false_from_ne_true (p x) (λ e. let none : suc (length xs) ≤ 0 = subst (λ b. suc (length xs) ≤ cond (not b) (1 + position_or_len p xs) 0) e h in omega arith) in
    let more : suc (length xs) ≤ 1 + position_or_len p xs = subst (λ b. suc (length xs) ≤ cond (not b) (1 + position_or_len p xs) 0) fails h in
    (fails, none_found p xs (omega arith))

some≢none : {A : Type 0} (x : A) → Some x ≡ None → ⊥
some≢none x e = grind arith

no_place : (b : Bool) (n : ℕ) → cond b (Some n) None ≡ None → b ≡ false
no_place true n e = absurd (some≢none n e)
no_place false n e = refl

pub none_at : (p : ℕ → Bool) (xs : List ℕ) → position p xs ≡ None → NonePass p xs
none_at p xs e = none_found p xs (ltb-false (position_or_len p xs) (length xs) (no_place (nat_lt (position_or_len p xs) (length xs)) (position_or_len p xs) e))

-- a spelling without fault is not empty and has no barred character
unspoilt : (empty long : Bool) (bad : Option ℕ) → (if empty then Some Empty else if long then Some TooLong else option_map BadChar bad) ≡ None → (empty ≡ false) × (bad ≡ None)
unspoilt true long bad e = absurd (some≢none Empty e)
unspoilt false true bad e = absurd (some≢none TooLong e)
unspoilt false false None e = (refl, refl)
unspoilt false false (Some place) e = absurd (some≢none (BadChar place) e)

faultless : (word : List ℕ) → IsWord word → ((length (chars word) == 0) ≡ false) × (position is_barred (chars word) ≡ None)
unfolding name_fault
faultless word h = unspoilt (length (chars word) == 0) (nat_lt 64 (length (chars word))) (position is_barred (chars word)) h.faultless

pub name_free : (word : List ℕ) → IsWord word → NonePass is_barred (chars word)
name_free word h = none_at is_barred (chars word) (faultless word h).1

filled : (cs : List ℕ) → (length cs == 0) ≡ false → 0 < length cs
filled [] e = absurd (true≢false e)
filled (c ∷ cs) e = omega arith

pub name_some : (word : List ℕ) → IsWord word → 0 < length (chars word)
name_some word h = filled (chars word) (faultless word h).0

-- a declared name is a name
pub no_fault : (o : Option NameFault) → is_some o ≡ false → o ≡ None
no_fault None e = refl
no_fault (Some fault) e = absurd (true≢false e)

declared_parts : (word : List ℕ) → IsDeclaredWord word → (is_no_name word ≡ false) × ((slice_index word 0 == 91) ≡ false) × (is_hyphens word ≡ false)
declared_parts word h =
    let outer = or_parts (is_no_name word || slice_index word 0 == 91) (is_hyphens word) h.faultless in
    let inner = or_parts (is_no_name word) (slice_index word 0 == 91) outer.0 in
    (inner.0, inner.1, outer.1)

pub declared_word : (word : List ℕ) → IsDeclaredWord word → IsWord word
declared_word word h = record { valid = h.valid; faultless = no_fault (name_fault word) (declared_parts word h).0 }

-- it does not begin with `[`
opens_otherwise : (cs : List ℕ) → (slice_index (encode_utf8_all cs) 0 == 91) ≡ false → (slice_index cs 0 == 91) ≡ false
opens_otherwise [] h = refl
opens_otherwise (c ∷ cs) h =
    false_from_ne_true (c == 91) (λ e. true≢false (sym (ap (λ bytes. slice_index (bytes ++ encode_utf8_all cs) 0 == 91) (ap encode (eqb-true c 91 e) ∙ encode_ascii 91 (lit< tt))) ∙ h))

pub declared_opens : (word : List ℕ) → IsDeclaredWord word → (slice_index (chars word) 0 == 91) ≡ false
declared_opens word h = opens_otherwise (chars word) (ap (λ bytes. slice_index bytes 0 == 91) (encodes-chars word h.valid) ∙ (declared_parts word h).1)

-- nor is it of hyphens only
hyphens_same : (cs : List ℕ) → list_all (λ c. c == 45) cs ≡ true → encode_utf8_all cs ≡ cs
hyphens_same [] h = refl
hyphens_same (c ∷ cs) h =
    let both = and_parts (c == 45) (list_all (λ d. d == 45) cs) h in
    let is : c ≡ 45 = eqb-true c 45 both.0 in
    ap₂ (λ a b. a ++ b) (encode_ascii c (subst (λ d. d < 128) (sym is) (lit< tt))) (hyphens_same cs both.1)

pub declared_mixed : (word : List ℕ) → IsDeclaredWord word → list_all (λ c. c == 45) (chars word) ≡ false
declared_mixed word h =
    let cs = chars word in
    let longer = name_some word (declared_word word h) in
    false_from_ne_true (list_all (λ c. c == 45) cs) (λ e.
    let same : word ≡ cs = sym (encodes-chars word h.valid) ∙ hyphens_same cs e in
    true≢false (sym (ap₂ (λ a b. a && b) (lt-ltb 0 (length cs) longer) e) ∙ (sym (ap is_hyphens same) ∙ (declared_parts word h).2)))
