-- What the lines of a section keep, where no line has a fault.
use Rattle.std.proofs.Common.{◌≡◌, ℕ, ◌+◌, ◌<◌, ◌≤◌, ◌==◌, Bool, true, false, not, cond, List, [], ◌∷◌, ◌++◌, Option, Some, None, filter, find, refl, sym, ◌∙◌, ap, arith, append_assoc, option_map}
use Rattle.std.specs.Option.{option_map_or, option_or}
use Rattle.std.specs.List.{AllByRecursion as Each, cons_option}
use Rattle.std.proofs.lemmas.Bool.{false≢true, eq-eqb, ne_eqb}
use Rattle.std.proofs.lemmas.Option.{cond_some, none-some}
use Rattle.std.proofs.lemmas.List.Folds.{find-append}
use Rattle.conf_model.specs.declared.conf_fault.ConfWhat.{ConfWhat}
use Rattle.conf_model.specs.ConfLines.{Section, Entities, Relations, Events, Attributes, Place, Within, Kind, Content, Line, lines_from}
use Rattle.conf_model.specs.ConfNames.{is_section, content_of, section_lines}
use Rattle.conf_model.specs.ConfOf.{first_fault, Fault}
use Rattle.conf_model.specs.ConfFaults.{fault_at}
use Rattle.conf_model.specs.ConfNames.{File}
use Rattle.annotation_conf.proofs.SoundLists.{Each-append, each_weaker, find-first, find-filter}

-- lines that are numbered from a number on
abbrev pub AreNumbered : ℕ → List Line → Type 0
AreNumbered n [] = Unit {0}
AreNumbered n (line ∷ lines) = (line.number ≡ n) × AreNumbered (n + 1) lines

pub AreNumbered-lines_from : (n : ℕ) (place : Place) (texts : List (List ℕ)) → AreNumbered n (lines_from n place texts)
AreNumbered-lines_from n place [] = tt
AreNumbered-lines_from n place (text ∷ texts) = (refl, AreNumbered-lines_from (n + 1) _ texts)

pub is_section-same : (a b : Section) → is_section a b ≡ true → a ≡ b
is_section-same Entities Entities e = refl
is_section-same Relations Relations e = refl
is_section-same Events Events e = refl
is_section-same Attributes Attributes e = refl
is_section-same _ _ e = absurd (false≢true e)

-- no line of a file has a fault
pub each_faultless : (file : File) (lines : List Line) → first_fault file lines ≡ None → Each (λ line. fault_at file line.number line.place line.kind ≡ None) lines
each_faultless file [] e = tt
each_faultless file (line ∷ lines) e = (go (fault_at file line.number line.place line.kind) (first_fault file lines) e, each_faultless file lines (rest (fault_at file line.number line.place line.kind) (first_fault file lines) e))
  where
    go : (o : Option ConfWhat) (r : Option Fault) → option_or (option_map (λ what. record { line = line.number; what = what }) o) r ≡ None → o ≡ None
    go None r f = refl
    go (Some what) r f = absurd (none-some (record { line = line.number; what = what }) (sym f))

    rest : (o : Option ConfWhat) (r : Option Fault) → option_or (option_map (λ what. record { line = line.number; what = what }) o) r ≡ None → r ≡ None
    rest None r f = f
    rest (Some what) r f = absurd (none-some (record { line = line.number; what = what }) (sym f))

-- a line of a section that was read
pub record IsRead {X : Type 0} (section : Section) (read : ℕ → List ℕ → X) (number : ℕ) (place : Place) (kind : Kind) (x : X) : Type 0 where
  pub text : List ℕ
  pub place_is : place ≡ Within section
  pub kind_is : kind ≡ Content text
  pub read_is : x ≡ read number text

pub is_read : {X : Type 0} (section : Section) (read : ℕ → List ℕ → X) (number : ℕ) (place : Place) (kind : Kind) (x : X) → content_of section read number place kind ≡ Some x
    → IsRead section read number place kind x
is_read section read number (Within here) (Content cs) x e =
    let both = cond_some (is_section section here) (read number cs) x e in
    record { text = cs; place_is = ap Within (sym (is_section-same section here both.0)); kind_is = refl; read_is = sym both.1 }
is_read section read number _ _ x e = absurd (none-some x e)

module _ {X : Type 0} (section : Section) (read : ℕ → List ℕ → X) (number_of : X → ℕ) (numbered : (k : ℕ) (cs : List ℕ) → number_of (read k cs) ≡ k) where
  -- its number is that of its line
  pub number_read : (number : ℕ) (place : Place) (kind : Kind) (x : X) → content_of section read number place kind ≡ Some x → number_of x ≡ number
  number_read number place kind x e = let r = is_read section read number place kind x e in ap number_of r.read_is ∙ numbered number r.text

  cons_each : (P : X → Type 0) (o : Option X) (xs : List X) → ((x : X) → o ≡ Some x → P x) → Each P xs → Each P (cons_option o xs)
  cons_each P None xs h a = a
  cons_each P (Some x) xs h a = (h x refl, a)

  pub numbers_from : (n : ℕ) (lines : List Line) → AreNumbered n lines → Each (λ x. n ≤ number_of x) (section_lines section read lines)
  numbers_from n [] a = tt
  numbers_from n (line ∷ lines) a =
      cons_each (λ x. n ≤ number_of x) (content_of section read line.number line.place line.kind) (section_lines section read lines)
      (λ x e. let is : number_of x ≡ line.number = number_read line.number line.place line.kind x e in let at : line.number ≡ n = a.0 in omega arith)
      (each_weaker (λ x. n + 1 ≤ number_of x) (λ x. n ≤ number_of x) (λ x h. omega arith) (section_lines section read lines) (numbers_from (n + 1) lines a.1))

  -- a look-up finds each item by its number
  pub FindsAll : List X → (ℕ → Option X) → Type 0
  FindsAll all lookup = (front back : List X) (x : X) → all ≡ front ++ x ∷ back → Each (λ y. number_of y < number_of x) front → Each (λ y. number_of x < number_of y) back
      → lookup (number_of x) ≡ Some x

  -- each item keeps what the look-up of its line says
  pub each_line : (lookup : ℕ → Option X) (all : List X) (fault : X → Option ConfWhat) → FindsAll all lookup
      → (n : ℕ) (lines : List Line) (before : List X) → AreNumbered n lines → all ≡ before ++ section_lines section read lines → Each (λ y. number_of y < n) before
      → Each (λ line. (cs : List ℕ) → line.place ≡ Within section → line.kind ≡ Content cs → option_map_or fault (lookup line.number) None ≡ None) lines
      → Each (λ x. fault x ≡ None) (section_lines section read lines)
  unfolding FindsAll
  each_line lookup all fault finds n [] before a is below e = tt
  each_line lookup all fault finds n (line ∷ lines) before a is below e =
      go (content_of section read line.number line.place line.kind) refl is
      (λ more same lower. each_line lookup all fault finds (n + 1) lines more a.1 same lower e.1)
    where
      rest : List X
      rest = section_lines section read lines

      go : (o : Option X) → content_of section read line.number line.place line.kind ≡ o → all ≡ before ++ cons_option o (section_lines section read lines)
          → ((more : List X) → all ≡ more ++ section_lines section read lines → Each (λ y. number_of y < n + 1) more → Each (λ x. fault x ≡ None) (section_lines section read lines))
          → Each (λ x. fault x ≡ None) (cons_option o (section_lines section read lines))
      go None f same then = then before same (each_weaker (λ y. number_of y < n) (λ y. number_of y < n + 1) (λ y h. omega arith) before below)
      go (Some x) f same then =
          let r = is_read section read line.number line.place line.kind x f in
          let own : number_of x ≡ line.number = number_read line.number line.place line.kind x f in
          let at : line.number ≡ n = a.0 in
          let found : lookup (number_of x) ≡ Some x =
          finds before (section_lines section read lines) x same (each_weaker (λ y. number_of y < n) (λ y. number_of y < number_of x) (λ y h. omega arith) before below)
          (each_weaker (λ y. n + 1 ≤ number_of y) (λ y. number_of x < number_of y) (λ y h. omega arith) (section_lines section read lines) (numbers_from (n + 1) lines a.1)) in
          let good : fault x ≡ None = sym (ap (λ o. option_map_or fault o None) (sym (ap lookup own) ∙ found)) ∙ e.0 r.text r.place_is r.kind_is in (
            good,
            then (before ++ x ∷ []) (same ∙ sym (append_assoc before (x ∷ []) (section_lines section read lines)))
                (Each-append (λ y. number_of y < n + 1) before (x ∷ []) (each_weaker (λ y. number_of y < n) (λ y. number_of y < n + 1) (λ y h. omega arith) before below) ((omega arith), tt)),
          )

  -- the first of the items with a number is the one
  pub finds_by_number : (all : List X) → FindsAll all (λ k. find (λ x. number_of x == k) all)
  unfolding FindsAll
  finds_by_number all front back x is below above =
      ap (find (λ y. number_of y == number_of x)) is
      ∙ find-first (λ y. number_of y == number_of x) front x back (each_weaker (λ y. number_of y < number_of x) (λ y. (number_of y == number_of x) ≡ false) (λ y h. ne_eqb (number_of y) (number_of x) (λ e. absurd (omega arith))) front below)
      (eq-eqb (number_of x) (number_of x) refl)

  -- also where those that a test keeps stand behind the others
  pub finds_in_parts : (p : X → Bool) (all : List X) → FindsAll all (λ k. find (λ x. number_of x == k) (filter (λ x. not (p x)) all ++ filter p all))
  unfolding FindsAll
  finds_in_parts p all front back x is below above =
      find-append q (filter (λ y. not (p y)) all) (filter p all)
      ∙ ap (λ xs. option_or (find q (filter (λ y. not (p y)) xs)) (find q (filter p xs))) is
      ∙ ap (λ o. option_or o (find q (filter p (front ++ x ∷ back)))) (find-filter q (λ y. not (p y)) front x back lower higher own)
      ∙ ap (λ o. option_or (cond (not (p x)) (Some x) None) o) (find-filter q p front x back lower higher own)
      ∙ both (p x)
    where
      q : X → Bool
      q = λ y. number_of y == number_of x

      lower : Each (λ y. (number_of y == number_of x) ≡ false) front
      lower = each_weaker (λ y. number_of y < number_of x) (λ y. (number_of y == number_of x) ≡ false) (λ y h. ne_eqb (number_of y) (number_of x) (λ e. absurd (omega arith))) front below

      higher : Each (λ y. (number_of y == number_of x) ≡ false) back
      higher = each_weaker (λ y. number_of x < number_of y) (λ y. (number_of y == number_of x) ≡ false) (λ y h. ne_eqb (number_of y) (number_of x) (λ e. absurd (omega arith))) back above

      own : (number_of x == number_of x) ≡ true
      own = eq-eqb (number_of x) (number_of x) refl

      both : (b : Bool) → option_or (cond (not b) (Some x) None) (cond b (Some x) None) ≡ Some x
      both true = refl
      both false = refl
