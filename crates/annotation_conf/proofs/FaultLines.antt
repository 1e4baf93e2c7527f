-- The first fault over all lines is the soonest of the first faults of parts, where each part is a list that comes from lines in their order.
use Rattle.std.proofs.Common.{◌≡◌, ◌⊎◌, ℕ, ◌+◌, ◌<◌, ◌≤◌, ◌==◌, Bool, true, false, cond, List, [], ◌∷◌, Option, Some, None, option_map, option_and_then, refl, sym, ◌∙◌, ap, subst, arith, inl, inr, filter, find}
use Rattle.std.specs.Bool.{⊤}
use Rattle.std.specs.Option.{option_or}
use Rattle.std.specs.List.{filter_map, cons_option}
use Rattle.std.proofs.lemmas.Bool.{lt-ltb, le-ltb, ne_eqb, eq-eqb}
use Rattle.conf_model.specs.declared.conf_fault.ConfWhat.{ConfWhat}
use Rattle.conf_model.specs.ConfLines.{Line, Place, lines_from}
use Rattle.conf_model.specs.ConfOf.{Fault, first_fault}
use Rattle.annotation_conf.specs.FirstFaults.{first_among, sooner, IsRising}

-- the lines have these numbers, one after another
abbrev pub IsFrom : ℕ → List Line → Type 0
IsFrom n [] = ⊤
IsFrom n (line ∷ lines) = (line.number ≡ n) × IsFrom (n + 1) lines

-- a line is one of some lines
abbrev pub IsLine : Line → List Line → Type 0
IsLine line [] = ⊥
IsLine line (l ∷ lines) = (line ≡ l) ⊎ IsLine line lines

pub lines_are_from : (n : ℕ) (place : Place) (all : List (List ℕ)) → IsFrom n (lines_from n place all)
lines_are_from n place [] = tt
lines_are_from n place (bytes ∷ all) = (refl, lines_are_from (n + 1) _ all)

abbrev pub number_of : Line → ℕ
number_of line = line.number

abbrev pub fault_by : (Line → Option ConfWhat) → List Line → Option Fault
fault_by g lines = first_among number_of g lines

at_line : ℕ → ConfWhat → Option Fault
at_line n what = Some (record { line = n; what = what })

-- a fault of a later line does not come before this one
late_sooner : (g : Line → Option ConfWhat) (m : ℕ) (lines : List Line) (n : ℕ) (what : ConfWhat) → IsFrom m lines → n < m
    → sooner (fault_by g lines) (Some (record { line = n; what = what })) ≡ Some (record { line = n; what = what })
late_sooner g m [] n what from less = refl
late_sooner g m (l ∷ lines) n what from less =
    let P : Option ConfWhat → Type 0 =
    λ o. sooner (option_or (option_map (λ w. record { line = l.number; what = w }) o) (fault_by g lines)) (Some (record { line = n; what = what })) ≡ Some (record { line = n; what = what }) in
    let lt : n < l.number = omega (arith, from.0) in
    elim (g l) as P [
      | None ↦ late_sooner g (m + 1) lines n what from.1 (omega arith)
      | Some w ↦ ap (λ b. cond b (Some (record { line = n; what = what })) (Some (record { line = l.number; what = w }))) (lt-ltb n l.number lt)
    ]

early_sooner : (g : Line → Option ConfWhat) (m : ℕ) (lines : List Line) (n : ℕ) (what : ConfWhat) → IsFrom m lines → n ≤ m
    → sooner (Some (record { line = n; what = what })) (fault_by g lines) ≡ Some (record { line = n; what = what })
early_sooner g m [] n what from less = refl
early_sooner g m (l ∷ lines) n what from less =
    let P : Option ConfWhat → Type 0 =
    λ o. sooner (Some (record { line = n; what = what })) (option_or (option_map (λ w. record { line = l.number; what = w }) o) (fault_by g lines)) ≡ Some (record { line = n; what = what }) in
    let le : n ≤ l.number = omega (arith, from.0) in
    elim (g l) as P [
      | None ↦ early_sooner g (m + 1) lines n what from.1 (omega arith)
      | Some w ↦ ap (λ b. cond b (Some (record { line = l.number; what = w })) (Some (record { line = n; what = what }))) (le-ltb l.number n le)
    ]

-- the first fault of either of two parts
pub two_parts : (g h : Line → Option ConfWhat) (n : ℕ) (lines : List Line) → IsFrom n lines
    → fault_by (λ line. option_or (g line) (h line)) lines ≡ sooner (fault_by g lines) (fault_by h lines)
two_parts g h n [] from = refl
two_parts g h n (l ∷ lines) from =
    let mk : Option ConfWhat → Option Fault = λ o. option_map (λ w. record { line = l.number; what = w }) o in
    let next : l.number ≤ n + 1 = omega (arith, from.0) in
    let P : Option ConfWhat → Type 0 = λ o. option_or (option_map (λ w. record { line = l.number; what = w }) (option_or o (h l))) (fault_by (λ line. option_or (g line) (h line)) lines)
    ≡ sooner (option_or (option_map (λ w. record { line = l.number; what = w }) o) (fault_by g lines)) (option_or (option_map (λ w. record { line = l.number; what = w }) (h l)) (fault_by h lines)) in
    elim (g l) as P [
      | None ↦
          let Q : Option ConfWhat → Type 0 = λ o. option_or (option_map (λ w. record { line = l.number; what = w }) o) (fault_by (λ line. option_or (g line) (h line)) lines)
          ≡ sooner (fault_by g lines) (option_or (option_map (λ w. record { line = l.number; what = w }) o) (fault_by h lines)) in
          elim (h l) as Q [
            | None ↦ two_parts g h (n + 1) lines from.1
            | Some w ↦ sym (late_sooner g (n + 1) lines l.number w from.1 (omega (arith, from.0)))
          ]
      | Some w ↦
          let Q : Option ConfWhat → Type 0 = λ o. Some (record { line = l.number; what = w })
          ≡ sooner (Some (record { line = l.number; what = w })) (option_or (option_map (λ v. record { line = l.number; what = v }) o) (fault_by h lines)) in
          elim (h l) as Q [
            | None ↦ sym (early_sooner h (n + 1) lines l.number w from.1 next)
            | Some v ↦ sym (ap (λ b. cond b (Some (record { line = l.number; what = v })) (Some (record { line = l.number; what = w }))) (le-ltb l.number l.number (omega arith)))
          ]
    ]

-- faults that are equal at each line
pub same_faults : (g h : Line → Option ConfWhat) (lines : List Line) → ((line : Line) → IsLine line lines → g line ≡ h line) → fault_by g lines ≡ fault_by h lines
same_faults g h [] same = refl
same_faults g h (l ∷ lines) same =
    ap (λ o. option_or (option_map (λ w. record { line = l.number; what = w }) o) (fault_by g lines)) (same l (inl refl))
    ∙ ap (λ o. option_or (option_map (λ w. record { line = l.number; what = w }) (h l)) o) (same_faults g h lines (λ line is. same line (inr is)))

-- the definition's own recursion
pub first_fault_by : (file : _) (lines : List Line) → first_fault file lines ≡ fault_by (λ line. Rattle.conf_model.specs.ConfFaults.fault_at file line.number line.place line.kind) lines
first_fault_by file [] = refl
first_fault_by file (l ∷ lines) = ap (λ o. option_or (option_map (λ w. record { line = l.number; what = w }) (Rattle.conf_model.specs.ConfFaults.fault_at file l.number l.place l.kind)) o) (first_fault_by file lines)

part_step : {X : Type 0} (f : Line → Option X) (n_of : X → ℕ) (fault : X → Option ConfWhat) (l : Line)
    → ((x : X) → f l ≡ Some x → n_of x ≡ l.number) → (more : Option Fault) (xs : List X) → more ≡ first_among n_of fault xs
    → (o : Option X) → f l ≡ o
    → option_or (option_map (λ w. record { line = l.number; what = w }) (option_and_then fault o)) more ≡ first_among n_of fault (cons_option o xs)
part_step f n_of fault l numbered more xs rest None e = rest
part_step f n_of fault l numbered more xs rest (Some x) e =
    ap (λ r. option_or (option_map (λ w. record { line = l.number; what = w }) (fault x)) r) rest
    ∙ ap (λ k. option_or (option_map (λ w. record { line = k; what = w }) (fault x)) (first_among n_of fault xs)) (sym (numbered x e))

-- a part that comes from lines has its first fault among what comes from them
pub part_fault : {X : Type 0} (f : Line → Option X) (n_of : X → ℕ) (fault : X → Option ConfWhat) (lines : List Line)
    → ((line : Line) (x : X) → f line ≡ Some x → n_of x ≡ line.number)
    → fault_by (λ line. option_and_then fault (f line)) lines ≡ first_among n_of fault (filter_map f lines)
part_fault f n_of fault [] numbered = refl
part_fault {X} f n_of fault (l ∷ lines) numbered =
    let rest : fault_by (λ line. option_and_then fault (f line)) lines ≡ first_among n_of fault (filter_map f lines) = part_fault f n_of fault lines numbered in
    let step : (o : Option X) → f l ≡ o
    → option_or (option_map (λ w. record { line = l.number; what = w }) (option_and_then fault o)) (fault_by (λ line. option_and_then fault (f line)) lines)
    ≡ first_among n_of fault (cons_option o (filter_map f lines)) = λ o e. part_step f n_of fault l (numbered l) (fault_by (λ line. option_and_then fault (f line)) lines) (filter_map f lines) rest o e in
    step (f l) refl

absent_step : {X : Type 0} (f : Line → Option X) (n_of : X → ℕ) (l : Line) (k : ℕ) → ((x : X) → f l ≡ Some x → n_of x ≡ l.number) → k < l.number
    → (xs : List X) → find (λ x. n_of x == k) xs ≡ None → (o : Option X) → f l ≡ o → find (λ x. n_of x == k) (cons_option o xs) ≡ None
absent_step f n_of l k numbered less xs none None e = none
absent_step f n_of l k numbered less xs none (Some x) e =
    let here : n_of x ≡ l.number = numbered x e in
    let apart : n_of x ≡ k → ⊥ = λ same. absurd (omega (arith, same)) in
    ap (λ b. cond b (Some x) (find (λ y. n_of y == k) xs)) (ne_eqb (n_of x) k apart) ∙ none

-- the line of a number comes from the line of that number
pub find_absent : {X : Type 0} (f : Line → Option X) (n_of : X → ℕ) (m : ℕ) (lines : List Line) (k : ℕ)
    → ((line : Line) (x : X) → f line ≡ Some x → n_of x ≡ line.number) → IsFrom m lines → k < m → find (λ x. n_of x == k) (filter_map f lines) ≡ None
find_absent f n_of m [] k numbered from less = refl
find_absent f n_of m (l ∷ lines) k numbered from less =
    absent_step f n_of l k (numbered l) (omega (arith, from.0)) (filter_map f lines) (find_absent f n_of (m + 1) lines k numbered from.1 (omega arith)) (f l) refl

among_from : (m : ℕ) (lines : List Line) (line : Line) → IsFrom m lines → IsLine line lines → m ≤ line.number
among_from m [] line from is = absurd is
among_from m (l ∷ lines) line from is =
    elim is [
      | inl e ↦ let same : line.number ≡ l.number = ap (λ (x : Line). x.number) e in omega (arith, from.0)
      | inr more ↦ let later : m + 1 ≤ line.number = among_from (m + 1) lines line from.1 more in omega arith
    ]

here_step : {X : Type 0} (f : Line → Option X) (n_of : X → ℕ) (l : Line) → ((x : X) → f l ≡ Some x → n_of x ≡ l.number)
    → (xs : List X) → find (λ x. n_of x == l.number) xs ≡ None → (o : Option X) → f l ≡ o → find (λ x. n_of x == l.number) (cons_option o xs) ≡ o
here_step f n_of l numbered xs none None e = none
here_step f n_of l numbered xs none (Some x) e =
    ap (λ b. cond b (Some x) (find (λ y. n_of y == l.number) xs)) (eq-eqb (n_of x) l.number (numbered x e))

later_step : {X : Type 0} (f : Line → Option X) (n_of : X → ℕ) (l : Line) (k : ℕ) → ((x : X) → f l ≡ Some x → n_of x ≡ l.number) → l.number < k
    → (xs : List X) (r : Option X) → find (λ x. n_of x == k) xs ≡ r → (o : Option X) → f l ≡ o → find (λ x. n_of x == k) (cons_option o xs) ≡ r
later_step f n_of l k numbered less xs r found None e = found
later_step f n_of l k numbered less xs r found (Some x) e =
    let here : n_of x ≡ l.number = numbered x e in
    let apart : n_of x ≡ k → ⊥ = λ same. absurd (omega (arith, same)) in
    ap (λ b. cond b (Some x) (find (λ y. n_of y == k) xs)) (ne_eqb (n_of x) k apart) ∙ found

pub find_part : {X : Type 0} (f : Line → Option X) (n_of : X → ℕ) (m : ℕ) (lines : List Line) (line : Line)
    → ((l : Line) (x : X) → f l ≡ Some x → n_of x ≡ l.number) → IsFrom m lines → IsLine line lines
    → find (λ x. n_of x == line.number) (filter_map f lines) ≡ f line
find_part f n_of m [] line numbered from is = absurd is
find_part {X} f n_of m (l ∷ lines) line numbered from is =
    elim is [
      | inl e ↦
          let P : Line → Type 0 = λ x. find (λ y. n_of y == x.number) (filter_map f (l ∷ lines)) ≡ f x in
          subst P (sym e) (here_step f n_of l (numbered l) (filter_map f lines) (find_absent f n_of (m + 1) lines l.number numbered from.1 (omega (arith, from.0))) (f l) refl)
      | inr more ↦
          let later : m + 1 ≤ line.number = among_from (m + 1) lines line from.1 more in
          later_step f n_of l line.number (numbered l) (omega (arith, from.0)) (filter_map f lines) (f line) (find_part f n_of (m + 1) lines line numbered from.1 more) (f l) refl
    ]

rises_step : {X : Type 0} (f : Line → Option X) (n_of : X → ℕ) (l : Line) (least : ℕ) → ((x : X) → f l ≡ Some x → n_of x ≡ l.number) → least ≤ l.number
    → (xs : List X) → ((k : ℕ) → k ≤ l.number + 1 → IsRising n_of k xs) → (o : Option X) → f l ≡ o → IsRising n_of least (cons_option o xs)
rises_step f n_of l least numbered le xs rest None e = rest least (omega arith)
rises_step f n_of l least numbered le xs rest (Some x) e =
    let here : n_of x ≡ l.number = numbered x e in
    (omega arith, rest (n_of x + 1) (omega arith))

-- what comes from lines ascends as they do
pub part_rises : {X : Type 0} (f : Line → Option X) (n_of : X → ℕ) (m least : ℕ) (lines : List Line)
    → ((l : Line) (x : X) → f l ≡ Some x → n_of x ≡ l.number) → IsFrom m lines → least ≤ m → IsRising n_of least (filter_map f lines)
part_rises f n_of m least [] numbered from le = tt
part_rises {X} f n_of m least (l ∷ lines) numbered from le =
    rises_step f n_of l least (numbered l) (omega (arith, from.0)) (filter_map f lines)
    (λ k h. part_rises f n_of (m + 1) k lines numbered from.1 (omega (arith, from.0))) (f l) refl

-- a test of what comes from lines is a part of its own
abbrev pub where_passes : {X : Type 0} → (X → Bool) → Option X → Option X
where_passes test None = None
where_passes test (Some x) = cond (test x) (Some x) None

filter_step : {X : Type 0} (test : X → Bool) (xs ys : List X) → filter test xs ≡ ys → (o : Option X) → filter test (cons_option o xs) ≡ cons_option (where_passes test o) ys
filter_step test xs ys same None = same
filter_step {X} test xs ys same (Some x) =
    let P : Bool → Type 0 = λ b. cond b (x ∷ filter test xs) (filter test xs) ≡ cons_option (cond b (Some x) None) ys in
    elim (test x) as P [ true ↦ ap (λ r. x ∷ r) same | false ↦ same ]

pub filter_part : {X : Type 0} (test : X → Bool) (f : Line → Option X) (lines : List Line)
    → filter test (filter_map f lines) ≡ filter_map (λ line. where_passes test (f line)) lines
filter_part test f [] = refl
filter_part {X} test f (l ∷ lines) =
    filter_step test (filter_map f lines) (filter_map (λ line. where_passes test (f line)) lines) (filter_part test f lines) (f l)
