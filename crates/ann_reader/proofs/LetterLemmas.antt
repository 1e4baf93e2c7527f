-- Bytes of letters, and the letters as which annotations are counted.
use Rattle.std.proofs.Common.{◌≡◌, ℕ, ◌==◌, Bool, true, false, refl, sym, ◌∙◌, ap, Option, Some, None, cond}
use Rattle.std.proofs.lemmas.Bool.{eqb-true}
use Rattle.mark_base.specs.declared.ann_id.Kind.{Kind}
use Rattle.mark_base.specs.declared.ann_id.Kind.TheVariants as letter
use Rattle.mark_base.specs.AnnIds.{letter_of, kind_read}
use Rattle.layer_rules.specs.LayerRules.{counted_letter}
use Rattle.ann_reader.specs.LineFaults.{counted_byte}

unsome : {X : Type 0} {x y : X} → Some x ≡ Some y → x ≡ y
unsome e = cc

none_some : {X : Type 0} {x : X} → None ≡ Some x → ⊥
none_some e = cc

-- one test more
tried : (t : Bool) (b n : ℕ) (one kind : Kind) (rest : Option Kind) → (b == n) ≡ t → n ≡ letter_of one → cond t (Some one) rest ≡ Some kind
    → (rest ≡ Some kind → b ≡ letter_of kind) → b ≡ letter_of kind
tried true b n one kind rest e same q later = eqb-true b n e ∙ same ∙ ap letter_of (unsome q)
tried false b n one kind rest e same q later = later q

-- the byte of a letter that is read
letter_read : (b : ℕ) (kind : Kind) → kind_read b ≡ Some kind → b ≡ letter_of kind
letter_read b kind e =
    tried (b == 84) b 84 letter.Text kind _ refl refl e (λ f. tried (b == 69) b 69 letter.Event kind _ refl refl f (λ g. tried (b == 82) b 82 letter.Relation kind _ refl refl g
    (λ h. tried (b == 65) b 65 letter.Attribute kind _ refl refl h (λ i. tried (b == 77) b 77 letter.Legacy kind _ refl refl i
    (λ j. tried (b == 78) b 78 letter.Normal kind _ refl refl j (λ k. tried (b == 35) b 35 letter.Note kind None refl refl k (λ l. absurd (none_some l))))))))

counted_of : (kind : Kind) → kind_read (counted_byte (letter_of kind)) ≡ Some (counted_letter kind)
counted_of letter.Text = refl
counted_of letter.Event = refl
counted_of letter.Relation = refl
counted_of letter.Attribute = refl
counted_of letter.Legacy = refl
counted_of letter.Normal = refl
counted_of letter.Note = refl

-- the byte as which a letter is counted is that of the letter as which it is counted
pub counted_read : (b : ℕ) (kind : Kind) → kind_read b ≡ Some kind → kind_read (counted_byte b) ≡ Some (counted_letter kind)
counted_read b kind e = ap (λ n. kind_read (counted_byte n)) (letter_read b kind e) ∙ counted_of kind

-- letters that are counted as one byte are counted as one letter
pub counted_alike : (a b : ℕ) (j k : Kind) → kind_read a ≡ Some j → kind_read b ≡ Some k → (counted_byte a == counted_byte b) ≡ true → counted_letter j ≡ counted_letter k
counted_alike a b j k x y e =
    unsome (sym (counted_read a j x) ∙ ap kind_read (eqb-true (counted_byte a) (counted_byte b) e) ∙ counted_read b k y)

-- a line of a class is counted with no letter
pub class_uncounted : (a b : ℕ) (kind : Kind) → a ≡ 42 → kind_read b ≡ Some kind → (counted_byte a == counted_byte b) ≡ false
class_uncounted a b kind e read =
    elim (counted_byte a == counted_byte b) as (λ t. (counted_byte a == counted_byte b) ≡ t → t ≡ false) [
      | true ↦ λ t.
          let none : kind_read (counted_byte a) ≡ None = ap (λ n. kind_read (counted_byte n)) e in
          absurd (none_some (sym none ∙ ap kind_read (eqb-true (counted_byte a) (counted_byte b) t) ∙ counted_read b kind read))
      | false ↦ λ _. refl
    ] refl
